-- Member types, decltype, value arguments, template-ids and defaults ([temp.deduct], [temp.names], [temp.res], [temp.arg]).
use Rattle.std.specs.Prelude.{pos, true, false, [], ◌∷◌, Some, None, codes}
use Rattle.cx_base.specs.declared.value.Scalar.TheVariants as scalars
use Rattle.cx_term.specs.Term.{param, struct, inst, arguments}
use Rattle.cx_term.specs.declared.word.Word.TheVariants as word
use Rattle.cx_questions.specs.Forms.{Expression, literal, local_name, position_name, constant_name, functions_name, parentheses, unary, binary, dot, scope, call, list, is_same, concept_id, requires, no_expression, functions, position_type, scalar_type, void_type, struct_type, template_id, const_type, reference_type, member_type, decltype_type, no_argument, and_type, and_value, no_parameter, and_parameter, no_requirement, and_simple, and_type_requirement, and_nested, of_type, of_value}
use Rattle.cx_questions.specs.Program.{Program, a_function, a_struct, a_concept, a_constant, a_field, field, member_alias, static_constant}
use Rattle.worked_units.specs.Units.{p, d, m, tp, around, unit}

-- struct In { using type = bool; };
-- template<typename T> struct Out { using in = In; using self = T; using back = Out<int>; };
-- template<typename A, typename B> concept Is = __is_same(A, B);
-- template<typename T> concept Chain = requires { requires Is<typename Out<T>::in::type, bool>; };
-- template<typename T> concept Self = requires { requires Is<typename Out<T>::self, T>; };
-- template<typename T> concept Back = requires { requires Is<typename Out<T>::back::self, int>; };
-- template<typename T> concept Absent = requires { typename Out<T>::in::none; };
-- template<typename T> concept NoStruct = requires { typename Out<T>::self::none; };
-- static_assert(Chain<int>);
-- static_assert(Self<const int&>);
-- static_assert(Back<bool>);
-- static_assert(Absent<int>);
-- static_assert(NoStruct<int>);
-- static_assert(__is_same(typename Out<int>::none, int));
abbrev pub member_types_unit : Program
member_types_unit =
    unit
    (a_struct (record { at = (p 1 8); itself = (struct (d 0)); is_template = false; template_parameters = ([]); constraints = ([]); primary = None; specialised_for = ([]); members = (member_alias (codes "type") (scalar_type (m 0 1 26) scalars.Bool) ∷ []) })
    ∷ a_struct (record { at = (p 2 29); itself = (inst (d 1) (arguments ((param 0) ∷ []))); is_template = true; template_parameters = (tp None None ∷ []); constraints = ([]); primary = None; specialised_for = ([]); members = (member_alias (codes "in") (struct_type (m 1 2 46) (d 0)) ∷ member_alias (codes "self") (position_type (m 2 2 63) 0) ∷ member_alias (codes "back") (template_id (m 4 2 79) (p 2 79) (d 1) (and_type (scalar_type (m 3 2 83) scalars.Int) no_argument)) ∷ []) })
    ∷ a_concept (record { at = (p 3 42); template_parameters = (tp None None ∷ tp None None ∷ []); condition = (is_same (m 7 3 47) (position_type (m 5 3 57) 0) (position_type (m 6 3 60) 1)) })
    ∷ a_concept (record { at = (p 4 30); template_parameters = (tp None None ∷ []); condition = (requires (m 13 4 38) no_parameter (and_nested (concept_id (m 12 4 58) (d 2) (and_type (member_type (m 10 4 61) (template_id (m 9 4 70) (p 4 70) (d 1) (and_type (position_type (m 8 4 74) 0) no_argument)) ((codes "in") ∷ (codes "type") ∷ [])) (and_type (scalar_type (m 11 4 88) scalars.Bool) no_argument))) no_requirement)) })
    ∷ a_concept (record { at = (p 5 30); template_parameters = (tp None None ∷ []); condition = (requires (m 19 5 37) no_parameter (and_nested (concept_id (m 18 5 57) (d 2) (and_type (member_type (m 16 5 60) (template_id (m 15 5 69) (p 5 69) (d 1) (and_type (position_type (m 14 5 73) 0) no_argument)) ((codes "self") ∷ [])) (and_type (position_type (m 17 5 83) 0) no_argument))) no_requirement)) })
    ∷ a_concept (record { at = (p 6 30); template_parameters = (tp None None ∷ []); condition = (requires (m 25 6 37) no_parameter (and_nested (concept_id (m 24 6 57) (d 2) (and_type (member_type (m 22 6 60) (template_id (m 21 6 69) (p 6 69) (d 1) (and_type (position_type (m 20 6 73) 0) no_argument)) ((codes "back") ∷ (codes "self") ∷ [])) (and_type (scalar_type (m 23 6 89) scalars.Int) no_argument))) no_requirement)) })
    ∷ a_concept (record { at = (p 7 30); template_parameters = (tp None None ∷ []); condition = (requires (m 29 7 39) no_parameter (and_type_requirement (member_type (m 28 7 50) (template_id (m 27 7 59) (p 7 59) (d 1) (and_type (position_type (m 26 7 63) 0) no_argument)) ((codes "in") ∷ (codes "none") ∷ [])) no_requirement)) })
    ∷ a_concept (record { at = (p 8 30); template_parameters = (tp None None ∷ []); condition = (requires (m 33 8 41) no_parameter (and_type_requirement (member_type (m 32 8 52) (template_id (m 31 8 61) (p 8 61) (d 1) (and_type (position_type (m 30 8 65) 0) no_argument)) ((codes "self") ∷ (codes "none") ∷ [])) no_requirement)) })
    ∷ [])
    ([])
    ([])
    ((7, (is_same (m 7 3 47) (position_type (m 5 3 57) 0) (position_type (m 6 3 60) 1)))
    ∷ (13, (requires (m 13 4 38) no_parameter (and_nested (concept_id (m 12 4 58) (d 2) (and_type (member_type (m 10 4 61) (template_id (m 9 4 70) (p 4 70) (d 1) (and_type (position_type (m 8 4 74) 0) no_argument)) ((codes "in") ∷ (codes "type") ∷ [])) (and_type (scalar_type (m 11 4 88) scalars.Bool) no_argument))) no_requirement)))
    ∷ (19, (requires (m 19 5 37) no_parameter (and_nested (concept_id (m 18 5 57) (d 2) (and_type (member_type (m 16 5 60) (template_id (m 15 5 69) (p 5 69) (d 1) (and_type (position_type (m 14 5 73) 0) no_argument)) ((codes "self") ∷ [])) (and_type (position_type (m 17 5 83) 0) no_argument))) no_requirement)))
    ∷ (25, (requires (m 25 6 37) no_parameter (and_nested (concept_id (m 24 6 57) (d 2) (and_type (member_type (m 22 6 60) (template_id (m 21 6 69) (p 6 69) (d 1) (and_type (position_type (m 20 6 73) 0) no_argument)) ((codes "back") ∷ (codes "self") ∷ [])) (and_type (scalar_type (m 23 6 89) scalars.Int) no_argument))) no_requirement)))
    ∷ (29, (requires (m 29 7 39) no_parameter (and_type_requirement (member_type (m 28 7 50) (template_id (m 27 7 59) (p 7 59) (d 1) (and_type (position_type (m 26 7 63) 0) no_argument)) ((codes "in") ∷ (codes "none") ∷ [])) no_requirement)))
    ∷ (33, (requires (m 33 8 41) no_parameter (and_type_requirement (member_type (m 32 8 52) (template_id (m 31 8 61) (p 8 61) (d 1) (and_type (position_type (m 30 8 65) 0) no_argument)) ((codes "self") ∷ (codes "none") ∷ [])) no_requirement)))
    ∷ [])
    (around 0 ([]) false ∷ around 1 (None ∷ []) true ∷ around 5 (None ∷ None ∷ []) true ∷ around 8 (None ∷ []) true ∷ around 34 ([]) false ∷ [])
    ([])

abbrev pub member_types_unit_assert_9_1 : Expression
member_types_unit_assert_9_1 = concept_id (m 35 9 15) (d 3) (and_type (scalar_type (m 34 9 21) scalars.Int) no_argument)

abbrev pub member_types_unit_assert_10_1 : Expression
member_types_unit_assert_10_1 = concept_id (m 38 10 15) (d 4) (and_type (reference_type (m 37 10 20) (const_type (m 37 10 20) (scalar_type (m 37 10 20) scalars.Int))) no_argument)

abbrev pub member_types_unit_assert_11_1 : Expression
member_types_unit_assert_11_1 = concept_id (m 41 11 15) (d 5) (and_type (scalar_type (m 40 11 20) scalars.Bool) no_argument)

abbrev pub member_types_unit_assert_12_1 : Expression
member_types_unit_assert_12_1 = concept_id (m 44 12 15) (d 6) (and_type (scalar_type (m 43 12 22) scalars.Int) no_argument)

abbrev pub member_types_unit_assert_13_1 : Expression
member_types_unit_assert_13_1 = concept_id (m 47 13 15) (d 7) (and_type (scalar_type (m 46 13 24) scalars.Int) no_argument)

abbrev pub member_types_unit_assert_14_1 : Expression
member_types_unit_assert_14_1 = is_same (m 53 14 15) (member_type (m 51 14 25) (template_id (m 50 14 34) (p 14 34) (d 1) (and_type (scalar_type (m 49 14 38) scalars.Int) no_argument)) ((codes "none") ∷ [])) (scalar_type (m 52 14 50) scalars.Int)

-- template<int N> struct I { static constexpr int v = N; };
-- template<unsigned N> struct U { static constexpr unsigned v = N; };
-- template<bool B> struct L { static constexpr bool v = B; };
-- template<typename A, typename B> concept Is = __is_same(A, B);
-- static_assert(Is<I<4>, I<4u>>);
-- static_assert(Is<I<2 + 2>, I<4>>);
-- static_assert(Is<I<true>, I<1>>);
-- static_assert(Is<L<1>, L<true>>);
-- static_assert(Is<U<I<3>::v>, U<3>>);
-- static_assert(Is<I<3>, I<4>>);
-- template<long long N> concept OfInt = requires { I<N>::v; };
-- template<long long N> concept OfUnsigned = requires { U<N>::v; };
-- template<long long N> concept OfBool = requires { L<N>::v; };
-- template<long long N> concept Divides = requires { I<8 / N>::v; };
-- static_assert(OfInt<2147483647>);
-- static_assert(OfInt<2147483648>);
-- static_assert(OfUnsigned<2147483648>);
-- static_assert(OfUnsigned<-1>);
-- static_assert(OfBool<1>);
-- static_assert(OfBool<2>);
-- static_assert(Divides<2>);
-- static_assert(Divides<0>);
-- static_assert(U<-1>::v == 0);
-- static_assert(I<1 / 0>::v == 0);
abbrev pub value_arguments_unit : Program
value_arguments_unit =
    unit
    (a_struct (record { at = (p 1 24); itself = (inst (d 0) (arguments ((param 0) ∷ []))); is_template = true; template_parameters = (tp (Some scalars.Int) None ∷ []); constraints = ([]); primary = None; specialised_for = ([]); members = (static_constant (codes "v") (d 1) ∷ []) })
    ∷ a_constant (record { at = (p 1 49); name = (codes "v"); of = (scalar_type (m 0 1 45) scalars.Int); initialiser = (position_name (m 1 1 53) 0); owner = (Some (d 0)) })
    ∷ a_struct (record { at = (p 2 29); itself = (inst (d 2) (arguments ((param 0) ∷ []))); is_template = true; template_parameters = (tp (Some scalars.Unsigned) None ∷ []); constraints = ([]); primary = None; specialised_for = ([]); members = (static_constant (codes "v") (d 3) ∷ []) })
    ∷ a_constant (record { at = (p 2 59); name = (codes "v"); of = (scalar_type (m 2 2 50) scalars.Unsigned); initialiser = (position_name (m 3 2 63) 0); owner = (Some (d 2)) })
    ∷ a_struct (record { at = (p 3 25); itself = (inst (d 4) (arguments ((param 0) ∷ []))); is_template = true; template_parameters = (tp (Some scalars.Bool) None ∷ []); constraints = ([]); primary = None; specialised_for = ([]); members = (static_constant (codes "v") (d 5) ∷ []) })
    ∷ a_constant (record { at = (p 3 51); name = (codes "v"); of = (scalar_type (m 4 3 46) scalars.Bool); initialiser = (position_name (m 5 3 55) 0); owner = (Some (d 4)) })
    ∷ a_concept (record { at = (p 4 42); template_parameters = (tp None None ∷ tp None None ∷ []); condition = (is_same (m 8 4 47) (position_type (m 6 4 57) 0) (position_type (m 7 4 60) 1)) })
    ∷ a_concept (record { at = (p 11 31); template_parameters = (tp (Some scalars.LongLong) None ∷ []); condition = (requires (m 52 11 39) no_parameter (and_simple (scope (m 51 11 50) (template_id (m 50 11 50) (p 11 50) (d 0) (and_value (position_name (m 49 11 52) 0) no_argument)) ([]) (codes "v")) no_requirement)) })
    ∷ a_concept (record { at = (p 12 31); template_parameters = (tp (Some scalars.LongLong) None ∷ []); condition = (requires (m 56 12 44) no_parameter (and_simple (scope (m 55 12 55) (template_id (m 54 12 55) (p 12 55) (d 2) (and_value (position_name (m 53 12 57) 0) no_argument)) ([]) (codes "v")) no_requirement)) })
    ∷ a_concept (record { at = (p 13 31); template_parameters = (tp (Some scalars.LongLong) None ∷ []); condition = (requires (m 60 13 40) no_parameter (and_simple (scope (m 59 13 51) (template_id (m 58 13 51) (p 13 51) (d 4) (and_value (position_name (m 57 13 53) 0) no_argument)) ([]) (codes "v")) no_requirement)) })
    ∷ a_concept (record { at = (p 14 31); template_parameters = (tp (Some scalars.LongLong) None ∷ []); condition = (requires (m 66 14 41) no_parameter (and_simple (scope (m 65 14 52) (template_id (m 64 14 52) (p 14 52) (d 0) (and_value (binary (m 63 14 54) word.Divide (literal (m 61 14 54) scalars.Int (pos 8)) (position_name (m 62 14 58) 0)) no_argument)) ([]) (codes "v")) no_requirement)) })
    ∷ [])
    ([])
    ([])
    ((8, (is_same (m 8 4 47) (position_type (m 6 4 57) 0) (position_type (m 7 4 60) 1)))
    ∷ (52, (requires (m 52 11 39) no_parameter (and_simple (scope (m 51 11 50) (template_id (m 50 11 50) (p 11 50) (d 0) (and_value (position_name (m 49 11 52) 0) no_argument)) ([]) (codes "v")) no_requirement)))
    ∷ (56, (requires (m 56 12 44) no_parameter (and_simple (scope (m 55 12 55) (template_id (m 54 12 55) (p 12 55) (d 2) (and_value (position_name (m 53 12 57) 0) no_argument)) ([]) (codes "v")) no_requirement)))
    ∷ (60, (requires (m 60 13 40) no_parameter (and_simple (scope (m 59 13 51) (template_id (m 58 13 51) (p 13 51) (d 4) (and_value (position_name (m 57 13 53) 0) no_argument)) ([]) (codes "v")) no_requirement)))
    ∷ (66, (requires (m 66 14 41) no_parameter (and_simple (scope (m 65 14 52) (template_id (m 64 14 52) (p 14 52) (d 0) (and_value (binary (m 63 14 54) word.Divide (literal (m 61 14 54) scalars.Int (pos 8)) (position_name (m 62 14 58) 0)) no_argument)) ([]) (codes "v")) no_requirement)))
    ∷ [])
    (around 0 ((Some scalars.Int) ∷ []) true ∷ around 2 ((Some scalars.Unsigned) ∷ []) true ∷ around 4 ((Some scalars.Bool) ∷ []) true ∷ around 6 (None ∷ None ∷ []) true ∷ around 9 ([]) false ∷ around 49 ((Some scalars.LongLong) ∷ []) true ∷ around 67 ([]) false ∷ [])
    ([])

abbrev pub value_arguments_unit_assert_5_1 : Expression
value_arguments_unit_assert_5_1 = concept_id (m 13 5 15) (d 6) (and_type (template_id (m 10 5 18) (p 5 18) (d 0) (and_value (literal (m 9 5 20) scalars.Int (pos 4)) no_argument)) (and_type (template_id (m 12 5 24) (p 5 24) (d 0) (and_value (literal (m 11 5 26) scalars.Unsigned (pos 4)) no_argument)) no_argument))

abbrev pub value_arguments_unit_assert_6_1 : Expression
value_arguments_unit_assert_6_1 = concept_id (m 21 6 15) (d 6) (and_type (template_id (m 18 6 18) (p 6 18) (d 0) (and_value (binary (m 17 6 20) word.Plus (literal (m 15 6 20) scalars.Int (pos 2)) (literal (m 16 6 24) scalars.Int (pos 2))) no_argument)) (and_type (template_id (m 20 6 28) (p 6 28) (d 0) (and_value (literal (m 19 6 30) scalars.Int (pos 4)) no_argument)) no_argument))

abbrev pub value_arguments_unit_assert_7_1 : Expression
value_arguments_unit_assert_7_1 = concept_id (m 27 7 15) (d 6) (and_type (template_id (m 24 7 18) (p 7 18) (d 0) (and_value (literal (m 23 7 20) scalars.Bool (pos 1)) no_argument)) (and_type (template_id (m 26 7 27) (p 7 27) (d 0) (and_value (literal (m 25 7 29) scalars.Int (pos 1)) no_argument)) no_argument))

abbrev pub value_arguments_unit_assert_8_1 : Expression
value_arguments_unit_assert_8_1 = concept_id (m 33 8 15) (d 6) (and_type (template_id (m 30 8 18) (p 8 18) (d 4) (and_value (literal (m 29 8 20) scalars.Int (pos 1)) no_argument)) (and_type (template_id (m 32 8 24) (p 8 24) (d 4) (and_value (literal (m 31 8 26) scalars.Bool (pos 1)) no_argument)) no_argument))

abbrev pub value_arguments_unit_assert_9_1 : Expression
value_arguments_unit_assert_9_1 = concept_id (m 41 9 15) (d 6) (and_type (template_id (m 38 9 18) (p 9 18) (d 2) (and_value (scope (m 37 9 20) (template_id (m 36 9 20) (p 9 20) (d 0) (and_value (literal (m 35 9 22) scalars.Int (pos 3)) no_argument)) ([]) (codes "v")) no_argument)) (and_type (template_id (m 40 9 30) (p 9 30) (d 2) (and_value (literal (m 39 9 32) scalars.Int (pos 3)) no_argument)) no_argument))

abbrev pub value_arguments_unit_assert_10_1 : Expression
value_arguments_unit_assert_10_1 = concept_id (m 47 10 15) (d 6) (and_type (template_id (m 44 10 18) (p 10 18) (d 0) (and_value (literal (m 43 10 20) scalars.Int (pos 3)) no_argument)) (and_type (template_id (m 46 10 24) (p 10 24) (d 0) (and_value (literal (m 45 10 26) scalars.Int (pos 4)) no_argument)) no_argument))

abbrev pub value_arguments_unit_assert_15_1 : Expression
value_arguments_unit_assert_15_1 = concept_id (m 68 15 15) (d 7) (and_value (literal (m 67 15 21) scalars.Int (pos 2147483647)) no_argument)

abbrev pub value_arguments_unit_assert_16_1 : Expression
value_arguments_unit_assert_16_1 = concept_id (m 71 16 15) (d 7) (and_value (literal (m 70 16 21) scalars.LongLong (pos 2147483648)) no_argument)

abbrev pub value_arguments_unit_assert_17_1 : Expression
value_arguments_unit_assert_17_1 = concept_id (m 74 17 15) (d 8) (and_value (literal (m 73 17 26) scalars.LongLong (pos 2147483648)) no_argument)

abbrev pub value_arguments_unit_assert_18_1 : Expression
value_arguments_unit_assert_18_1 = concept_id (m 78 18 15) (d 8) (and_value (unary (m 77 18 26) word.Minus (literal (m 76 18 27) scalars.Int (pos 1))) no_argument)

abbrev pub value_arguments_unit_assert_19_1 : Expression
value_arguments_unit_assert_19_1 = concept_id (m 81 19 15) (d 9) (and_value (literal (m 80 19 22) scalars.Int (pos 1)) no_argument)

abbrev pub value_arguments_unit_assert_20_1 : Expression
value_arguments_unit_assert_20_1 = concept_id (m 84 20 15) (d 9) (and_value (literal (m 83 20 22) scalars.Int (pos 2)) no_argument)

abbrev pub value_arguments_unit_assert_21_1 : Expression
value_arguments_unit_assert_21_1 = concept_id (m 87 21 15) (d 10) (and_value (literal (m 86 21 23) scalars.Int (pos 2)) no_argument)

abbrev pub value_arguments_unit_assert_22_1 : Expression
value_arguments_unit_assert_22_1 = concept_id (m 90 22 15) (d 10) (and_value (literal (m 89 22 23) scalars.Int (pos 0)) no_argument)

abbrev pub value_arguments_unit_assert_23_1 : Expression
value_arguments_unit_assert_23_1 = binary (m 97 23 15) word.Equal (scope (m 95 23 15) (template_id (m 94 23 15) (p 23 15) (d 2) (and_value (unary (m 93 23 17) word.Minus (literal (m 92 23 18) scalars.Int (pos 1))) no_argument)) ([]) (codes "v")) (literal (m 96 23 27) scalars.Int (pos 0))

abbrev pub value_arguments_unit_assert_24_1 : Expression
value_arguments_unit_assert_24_1 = binary (m 105 24 15) word.Equal (scope (m 103 24 15) (template_id (m 102 24 15) (p 24 15) (d 0) (and_value (binary (m 101 24 17) word.Divide (literal (m 99 24 17) scalars.Int (pos 1)) (literal (m 100 24 21) scalars.Int (pos 0))) no_argument)) ([]) (codes "v")) (literal (m 104 24 30) scalars.Int (pos 0))

-- template<typename T, typename U = T> struct P { using second = U; };
-- template<int N, int M = N + 1> struct V { static constexpr int m = M; };
-- template<typename A, typename B> concept Is = __is_same(A, B);
-- static_assert(Is<P<int>, P<int, int>>);
-- static_assert(Is<P<bool>, P<bool, int>>);
-- static_assert(V<3>::m == 4);
-- static_assert(Is<V<3>, V<3, 4>>);
abbrev pub defaults_unit : Program
defaults_unit =
    unit
    (a_struct (record { at = (p 1 45); itself = (inst (d 0) (arguments ((param 0) ∷ (param 1) ∷ []))); is_template = true; template_parameters = (tp None None ∷ tp None (Some (of_type (position_type (m 0 1 35) 0))) ∷ []); constraints = ([]); primary = None; specialised_for = ([]); members = (member_alias (codes "second") (position_type (m 1 1 64) 1) ∷ []) })
    ∷ a_struct (record { at = (p 2 39); itself = (inst (d 1) (arguments ((param 0) ∷ (param 1) ∷ []))); is_template = true; template_parameters = (tp (Some scalars.Int) None ∷ tp (Some scalars.Int) (Some (of_value (binary (m 4 2 25) word.Plus (position_name (m 2 2 25) 0) (literal (m 3 2 29) scalars.Int (pos 1))))) ∷ []); constraints = ([]); primary = None; specialised_for = ([]); members = (static_constant (codes "m") (d 2) ∷ []) })
    ∷ a_constant (record { at = (p 2 64); name = (codes "m"); of = (scalar_type (m 5 2 60) scalars.Int); initialiser = (position_name (m 6 2 68) 1); owner = (Some (d 1)) })
    ∷ a_concept (record { at = (p 3 42); template_parameters = (tp None None ∷ tp None None ∷ []); condition = (is_same (m 9 3 47) (position_type (m 7 3 57) 0) (position_type (m 8 3 60) 1)) })
    ∷ [])
    ([])
    ([])
    ((9, (is_same (m 9 3 47) (position_type (m 7 3 57) 0) (position_type (m 8 3 60) 1)))
    ∷ [])
    (around 0 (None ∷ None ∷ []) true ∷ around 2 ((Some scalars.Int) ∷ (Some scalars.Int) ∷ []) true ∷ around 7 (None ∷ None ∷ []) true ∷ around 10 ([]) false ∷ [])
    ([])

abbrev pub defaults_unit_assert_4_1 : Expression
defaults_unit_assert_4_1 = concept_id (m 15 4 15) (d 3) (and_type (template_id (m 11 4 18) (p 4 18) (d 0) (and_type (scalar_type (m 10 4 20) scalars.Int) (and_type (scalar_type (m 10 4 20) scalars.Int) no_argument))) (and_type (template_id (m 14 4 26) (p 4 26) (d 0) (and_type (scalar_type (m 12 4 28) scalars.Int) (and_type (scalar_type (m 13 4 33) scalars.Int) no_argument))) no_argument))

abbrev pub defaults_unit_assert_5_1 : Expression
defaults_unit_assert_5_1 = concept_id (m 22 5 15) (d 3) (and_type (template_id (m 18 5 18) (p 5 18) (d 0) (and_type (scalar_type (m 17 5 20) scalars.Bool) (and_type (scalar_type (m 17 5 20) scalars.Bool) no_argument))) (and_type (template_id (m 21 5 27) (p 5 27) (d 0) (and_type (scalar_type (m 19 5 29) scalars.Bool) (and_type (scalar_type (m 20 5 35) scalars.Int) no_argument))) no_argument))

abbrev pub defaults_unit_assert_6_1 : Expression
defaults_unit_assert_6_1 = binary (m 28 6 15) word.Equal (scope (m 26 6 15) (template_id (m 25 6 15) (p 6 15) (d 1) (and_value (literal (m 24 6 17) scalars.Int (pos 3)) (and_value (binary (m 25 6 15) word.Plus (literal (m 24 6 17) scalars.Int (pos 3)) (literal (m 25 6 15) scalars.Int (pos 1))) no_argument))) ([]) (codes "m")) (literal (m 27 6 26) scalars.Int (pos 4))

abbrev pub defaults_unit_assert_7_1 : Expression
defaults_unit_assert_7_1 = concept_id (m 35 7 15) (d 3) (and_type (template_id (m 31 7 18) (p 7 18) (d 1) (and_value (literal (m 30 7 20) scalars.Int (pos 3)) (and_value (binary (m 31 7 18) word.Plus (literal (m 30 7 20) scalars.Int (pos 3)) (literal (m 31 7 18) scalars.Int (pos 1))) no_argument))) (and_type (template_id (m 34 7 24) (p 7 24) (d 1) (and_value (literal (m 32 7 26) scalars.Int (pos 3)) (and_value (literal (m 33 7 29) scalars.Int (pos 4)) no_argument))) no_argument))

-- struct S { int x; };
-- int f();
-- const int& g();
-- const int h();
-- void k();
-- template<typename A, typename B> concept Is = __is_same(A, B);
-- constexpr long long n = 1;
-- static_assert(Is<decltype(f()), int>);
-- static_assert(Is<decltype(g()), const int&>);
-- static_assert(Is<decltype((g())), const int&>);
-- static_assert(Is<decltype(h()), int>);
-- static_assert(Is<decltype(k()), void>);
-- static_assert(Is<decltype(n), const long long>);
-- static_assert(Is<decltype((n)), const long long&>);
-- static_assert(Is<decltype(S{}), S>);
-- static_assert(Is<decltype(S{}.x), int>);
-- static_assert(Is<decltype((S{}.x)), int>);
-- static_assert(Is<decltype(f), int>);
-- static_assert(Is<decltype(n + f()), long long>);
-- template<typename T> concept OfCall = requires(T t) { requires Is<decltype(t.x + 1u), unsigned>; };
-- static_assert(OfCall<S>);
abbrev pub decltypes_unit : Program
decltypes_unit =
    unit
    (a_struct (record { at = (p 1 8); itself = (struct (d 0)); is_template = false; template_parameters = ([]); constraints = ([]); primary = None; specialised_for = ([]); members = (field (codes "x") (scalar_type (m 0 1 12) scalars.Int) ∷ []) })
    ∷ a_field 0 (scalar_type (m 0 1 12) scalars.Int)
    ∷ a_function (record { at = (p 2 5); name = (codes "f"); owner = None; is_template = false; template_parameters = ([]); constraints = ([]); parameters = ([]); result = (scalar_type (m 1 2 1) scalars.Int); is_const = false; is_constexpr = false; body = None })
    ∷ a_function (record { at = (p 3 12); name = (codes "g"); owner = None; is_template = false; template_parameters = ([]); constraints = ([]); parameters = ([]); result = (reference_type (m 2 3 1) (const_type (m 2 3 1) (scalar_type (m 2 3 1) scalars.Int))); is_const = false; is_constexpr = false; body = None })
    ∷ a_function (record { at = (p 4 11); name = (codes "h"); owner = None; is_template = false; template_parameters = ([]); constraints = ([]); parameters = ([]); result = (const_type (m 3 4 1) (scalar_type (m 3 4 1) scalars.Int)); is_const = false; is_constexpr = false; body = None })
    ∷ a_function (record { at = (p 5 6); name = (codes "k"); owner = None; is_template = false; template_parameters = ([]); constraints = ([]); parameters = ([]); result = (void_type (m 4 5 1)); is_const = false; is_constexpr = false; body = None })
    ∷ a_concept (record { at = (p 6 42); template_parameters = (tp None None ∷ tp None None ∷ []); condition = (is_same (m 7 6 47) (position_type (m 5 6 57) 0) (position_type (m 6 6 60) 1)) })
    ∷ a_constant (record { at = (p 7 21); name = (codes "n"); of = (scalar_type (m 8 7 11) scalars.LongLong); initialiser = (literal (m 9 7 25) scalars.Int (pos 1)); owner = None })
    ∷ a_concept (record { at = (p 20 30); template_parameters = (tp None None ∷ []); condition = (requires (m 95 20 39) (and_parameter (m 87 20 50) (position_type (m 86 20 48) 0) 0 true no_parameter) (and_nested (concept_id (m 94 20 64) (d 6) (and_type (decltype_type (m 92 20 67) (binary (m 91 20 76) word.Plus (dot (m 89 20 76) (local_name (m 88 20 76) 0) (codes "x")) (literal (m 90 20 82) scalars.Unsigned (pos 1)))) (and_type (scalar_type (m 93 20 87) scalars.Unsigned) no_argument))) no_requirement)) })
    ∷ [])
    (((codes "f"), ((d 2) ∷ [])) ∷ ((codes "g"), ((d 3) ∷ [])) ∷ ((codes "h"), ((d 4) ∷ [])) ∷ ((codes "k"), ((d 5) ∷ [])) ∷ [])
    ([])
    ((7, (is_same (m 7 6 47) (position_type (m 5 6 57) 0) (position_type (m 6 6 60) 1)))
    ∷ (95, (requires (m 95 20 39) (and_parameter (m 87 20 50) (position_type (m 86 20 48) 0) 0 true no_parameter) (and_nested (concept_id (m 94 20 64) (d 6) (and_type (decltype_type (m 92 20 67) (binary (m 91 20 76) word.Plus (dot (m 89 20 76) (local_name (m 88 20 76) 0) (codes "x")) (literal (m 90 20 82) scalars.Unsigned (pos 1)))) (and_type (scalar_type (m 93 20 87) scalars.Unsigned) no_argument))) no_requirement)))
    ∷ [])
    (around 0 ([]) false ∷ around 5 (None ∷ None ∷ []) true ∷ around 8 ([]) false ∷ around 86 (None ∷ []) true ∷ around 96 ([]) false ∷ [])
    ([])

abbrev pub decltypes_unit_assert_8_1 : Expression
decltypes_unit_assert_8_1 = concept_id (m 14 8 15) (d 6) (and_type (decltype_type (m 12 8 18) (call (m 11 8 27) (functions (m 10 8 27) (codes "f") 1) no_expression)) (and_type (scalar_type (m 13 8 33) scalars.Int) no_argument))

abbrev pub decltypes_unit_assert_9_1 : Expression
decltypes_unit_assert_9_1 = concept_id (m 20 9 15) (d 6) (and_type (decltype_type (m 18 9 18) (call (m 17 9 27) (functions (m 16 9 27) (codes "g") 1) no_expression)) (and_type (reference_type (m 19 9 33) (const_type (m 19 9 33) (scalar_type (m 19 9 33) scalars.Int))) no_argument))

abbrev pub decltypes_unit_assert_10_1 : Expression
decltypes_unit_assert_10_1 = concept_id (m 27 10 15) (d 6) (and_type (decltype_type (m 25 10 18) (parentheses (m 24 10 27) (call (m 23 10 28) (functions (m 22 10 28) (codes "g") 1) no_expression))) (and_type (reference_type (m 26 10 35) (const_type (m 26 10 35) (scalar_type (m 26 10 35) scalars.Int))) no_argument))

abbrev pub decltypes_unit_assert_11_1 : Expression
decltypes_unit_assert_11_1 = concept_id (m 33 11 15) (d 6) (and_type (decltype_type (m 31 11 18) (call (m 30 11 27) (functions (m 29 11 27) (codes "h") 1) no_expression)) (and_type (scalar_type (m 32 11 33) scalars.Int) no_argument))

abbrev pub decltypes_unit_assert_12_1 : Expression
decltypes_unit_assert_12_1 = concept_id (m 39 12 15) (d 6) (and_type (decltype_type (m 37 12 18) (call (m 36 12 27) (functions (m 35 12 27) (codes "k") 1) no_expression)) (and_type (void_type (m 38 12 33)) no_argument))

abbrev pub decltypes_unit_assert_13_1 : Expression
decltypes_unit_assert_13_1 = concept_id (m 44 13 15) (d 6) (and_type (decltype_type (m 42 13 18) (constant_name (m 41 13 27) (d 7))) (and_type (const_type (m 43 13 31) (scalar_type (m 43 13 31) scalars.LongLong)) no_argument))

abbrev pub decltypes_unit_assert_14_1 : Expression
decltypes_unit_assert_14_1 = concept_id (m 50 14 15) (d 6) (and_type (decltype_type (m 48 14 18) (parentheses (m 47 14 27) (constant_name (m 46 14 28) (d 7)))) (and_type (reference_type (m 49 14 33) (const_type (m 49 14 33) (scalar_type (m 49 14 33) scalars.LongLong))) no_argument))

abbrev pub decltypes_unit_assert_15_1 : Expression
decltypes_unit_assert_15_1 = concept_id (m 56 15 15) (d 6) (and_type (decltype_type (m 54 15 18) (list (m 53 15 27) (struct_type (m 52 15 27) (d 0)) no_expression)) (and_type (struct_type (m 55 15 33) (d 0)) no_argument))

abbrev pub decltypes_unit_assert_16_1 : Expression
decltypes_unit_assert_16_1 = concept_id (m 63 16 15) (d 6) (and_type (decltype_type (m 61 16 18) (dot (m 60 16 27) (list (m 59 16 27) (struct_type (m 58 16 27) (d 0)) no_expression) (codes "x"))) (and_type (scalar_type (m 62 16 35) scalars.Int) no_argument))

abbrev pub decltypes_unit_assert_17_1 : Expression
decltypes_unit_assert_17_1 = concept_id (m 71 17 15) (d 6) (and_type (decltype_type (m 69 17 18) (parentheses (m 68 17 27) (dot (m 67 17 28) (list (m 66 17 28) (struct_type (m 65 17 28) (d 0)) no_expression) (codes "x")))) (and_type (scalar_type (m 70 17 37) scalars.Int) no_argument))

abbrev pub decltypes_unit_assert_18_1 : Expression
decltypes_unit_assert_18_1 = concept_id (m 76 18 15) (d 6) (and_type (decltype_type (m 74 18 18) (functions_name (m 73 18 27) (codes "f") 1)) (and_type (scalar_type (m 75 18 31) scalars.Int) no_argument))

abbrev pub decltypes_unit_assert_19_1 : Expression
decltypes_unit_assert_19_1 = concept_id (m 84 19 15) (d 6) (and_type (decltype_type (m 82 19 18) (binary (m 81 19 27) word.Plus (constant_name (m 78 19 27) (d 7)) (call (m 80 19 31) (functions (m 79 19 31) (codes "f") 1) no_expression))) (and_type (scalar_type (m 83 19 37) scalars.LongLong) no_argument))

abbrev pub decltypes_unit_assert_21_1 : Expression
decltypes_unit_assert_21_1 = concept_id (m 97 21 15) (d 8) (and_type (struct_type (m 96 21 22) (d 0)) no_argument)

-- using I = int;
-- using R = I&;
-- using C = const I;
-- template<typename A, typename B> concept Is = __is_same(A, B);
-- template<typename T> struct W { using type = T; using ref = T&; };
-- static_assert(Is<R, int&>);
-- static_assert(Is<const C, const int>);
-- static_assert(Is<C&, const int&>);
-- static_assert(Is<R&, int&>);
-- static_assert(Is<typename W<R>::ref, int&>);
-- template<typename T> concept RefOf = requires { typename W<T>::ref; };
-- static_assert(RefOf<int>);
-- static_assert(RefOf<void>);
abbrev pub aliases_unit : Program
aliases_unit =
    unit
    (a_concept (record { at = (p 4 42); template_parameters = (tp None None ∷ tp None None ∷ []); condition = (is_same (m 5 4 47) (position_type (m 3 4 57) 0) (position_type (m 4 4 60) 1)) })
    ∷ a_struct (record { at = (p 5 29); itself = (inst (d 1) (arguments ((param 0) ∷ []))); is_template = true; template_parameters = (tp None None ∷ []); constraints = ([]); primary = None; specialised_for = ([]); members = (member_alias (codes "type") (position_type (m 6 5 46) 0) ∷ member_alias (codes "ref") (reference_type (m 7 5 61) (position_type (m 7 5 61) 0)) ∷ []) })
    ∷ a_concept (record { at = (p 11 30); template_parameters = (tp None None ∷ []); condition = (requires (m 33 11 38) no_parameter (and_type_requirement (member_type (m 32 11 49) (template_id (m 31 11 58) (p 11 58) (d 1) (and_type (position_type (m 30 11 60) 0) no_argument)) ((codes "ref") ∷ [])) no_requirement)) })
    ∷ [])
    ([])
    ([])
    ((5, (is_same (m 5 4 47) (position_type (m 3 4 57) 0) (position_type (m 4 4 60) 1)))
    ∷ (33, (requires (m 33 11 38) no_parameter (and_type_requirement (member_type (m 32 11 49) (template_id (m 31 11 58) (p 11 58) (d 1) (and_type (position_type (m 30 11 60) 0) no_argument)) ((codes "ref") ∷ [])) no_requirement)))
    ∷ [])
    (around 0 ([]) false ∷ around 3 (None ∷ None ∷ []) true ∷ around 6 (None ∷ []) true ∷ around 8 ([]) false ∷ around 30 (None ∷ []) true ∷ around 34 ([]) false ∷ [])
    ([])

abbrev pub aliases_unit_assert_6_1 : Expression
aliases_unit_assert_6_1 = concept_id (m 10 6 15) (d 0) (and_type (reference_type (m 8 6 18) (scalar_type (m 8 6 18) scalars.Int)) (and_type (reference_type (m 9 6 21) (scalar_type (m 9 6 21) scalars.Int)) no_argument))

abbrev pub aliases_unit_assert_7_1 : Expression
aliases_unit_assert_7_1 = concept_id (m 14 7 15) (d 0) (and_type (const_type (m 12 7 18) (const_type (m 12 7 18) (scalar_type (m 12 7 18) scalars.Int))) (and_type (const_type (m 13 7 27) (scalar_type (m 13 7 27) scalars.Int)) no_argument))

abbrev pub aliases_unit_assert_8_1 : Expression
aliases_unit_assert_8_1 = concept_id (m 18 8 15) (d 0) (and_type (reference_type (m 16 8 18) (const_type (m 16 8 18) (scalar_type (m 16 8 18) scalars.Int))) (and_type (reference_type (m 17 8 22) (const_type (m 17 8 22) (scalar_type (m 17 8 22) scalars.Int))) no_argument))

abbrev pub aliases_unit_assert_9_1 : Expression
aliases_unit_assert_9_1 = concept_id (m 22 9 15) (d 0) (and_type (reference_type (m 20 9 18) (reference_type (m 20 9 18) (scalar_type (m 20 9 18) scalars.Int))) (and_type (reference_type (m 21 9 22) (scalar_type (m 21 9 22) scalars.Int)) no_argument))

abbrev pub aliases_unit_assert_10_1 : Expression
aliases_unit_assert_10_1 = concept_id (m 28 10 15) (d 0) (and_type (member_type (m 26 10 18) (template_id (m 25 10 27) (p 10 27) (d 1) (and_type (reference_type (m 24 10 29) (scalar_type (m 24 10 29) scalars.Int)) no_argument)) ((codes "ref") ∷ [])) (and_type (reference_type (m 27 10 38) (scalar_type (m 27 10 38) scalars.Int)) no_argument))

abbrev pub aliases_unit_assert_12_1 : Expression
aliases_unit_assert_12_1 = concept_id (m 35 12 15) (d 2) (and_type (scalar_type (m 34 12 21) scalars.Int) no_argument)

abbrev pub aliases_unit_assert_13_1 : Expression
aliases_unit_assert_13_1 = concept_id (m 38 13 15) (d 2) (and_type (void_type (m 37 13 21)) no_argument)
