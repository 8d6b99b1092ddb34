-- Specialisations of class templates, and the members of instances ([temp.class.spec], [temp.class.order], [temp.inst]).
use Rattle.std.specs.Prelude.{pos, true, false, [], ◌∷◌, Some, None, codes}
use Rattle.cx_base.specs.declared.value.Scalar.TheVariants as scalars
use Rattle.cx_term.specs.Term.{param, scalar, inst, const, ref, val, arguments}
use Rattle.cx_term.specs.declared.word.Word.TheVariants as word
use Rattle.cx_questions.specs.Forms.{Expression, literal, local_name, position_name, field_name, parentheses, binary, dot, scope, call, is_same, concept_id, requires, no_expression, and_expression, object_functions, position_type, scalar_type, void_type, template_id, const_type, reference_type, member_type, decltype_type, no_argument, and_type, and_value, no_parameter, and_parameter, no_requirement, and_simple, and_nested, of_type, of_value, as_type, braces, block, return_statement, variable, expression_statement, no_statement, and_statement}
use Rattle.cx_questions.specs.Program.{Program, a_function, a_struct, a_concept, a_constant, a_field, field, member_alias, static_constant, member_function}
use Rattle.worked_units.specs.Units.{p, d, m, tp, parameter, around, unit}

-- template<typename T> struct S { static constexpr int v = 0; };
-- template<typename T> struct S<T&> { static constexpr int v = 1; };
-- template<typename T> struct S<const T> { static constexpr int v = 2; };
-- template<> struct S<int> { static constexpr int v = 3; };
-- template<typename T> struct S<S<T>> { static constexpr int v = 4; };
-- template<> struct S<S<int>> { static constexpr int v = 5; };
-- static_assert(S<bool>::v == 0);
-- static_assert(S<bool&>::v == 1);
-- static_assert(S<const bool>::v == 2);
-- static_assert(S<const bool&>::v == 1);
-- static_assert(S<int>::v == 3);
-- static_assert(S<S<bool>>::v == 4);
-- static_assert(S<S<int>>::v == 5);
abbrev pub chosen_for_one_type_unit : Program
chosen_for_one_type_unit =
    unit
    (a_struct (record { at = (p 1 29); itself = (inst (d 0) (arguments ((param 0) ∷ []))); is_template = true; template_parameters = (tp None None ∷ []); constraints = ([]); primary = None; specialised_for = ([]); members = (static_constant (codes "v") (d 1) ∷ []) })
    ∷ a_constant (record { at = (p 1 54); name = (codes "v"); of = (scalar_type (m 0 1 50) scalars.Int); initialiser = (literal (m 1 1 58) scalars.Int (pos 0)); owner = (Some (d 0)) })
    ∷ a_struct (record { at = (p 2 29); itself = (inst (d 0) (arguments ((ref (param 0)) ∷ []))); is_template = true; template_parameters = (tp None None ∷ []); constraints = ([]); primary = (Some (d 0)); specialised_for = (of_type (reference_type (m 2 2 31) (position_type (m 2 2 31) 0)) ∷ []); members = (static_constant (codes "v") (d 3) ∷ []) })
    ∷ a_constant (record { at = (p 2 58); name = (codes "v"); of = (scalar_type (m 3 2 54) scalars.Int); initialiser = (literal (m 4 2 62) scalars.Int (pos 1)); owner = (Some (d 2)) })
    ∷ a_struct (record { at = (p 3 29); itself = (inst (d 0) (arguments ((const (param 0)) ∷ []))); is_template = true; template_parameters = (tp None None ∷ []); constraints = ([]); primary = (Some (d 0)); specialised_for = (of_type (const_type (m 5 3 31) (position_type (m 5 3 31) 0)) ∷ []); members = (static_constant (codes "v") (d 5) ∷ []) })
    ∷ a_constant (record { at = (p 3 63); name = (codes "v"); of = (scalar_type (m 6 3 59) scalars.Int); initialiser = (literal (m 7 3 67) scalars.Int (pos 2)); owner = (Some (d 4)) })
    ∷ a_struct (record { at = (p 4 19); itself = (inst (d 0) (arguments ((scalar scalars.Int) ∷ []))); is_template = false; template_parameters = ([]); constraints = ([]); primary = (Some (d 0)); specialised_for = (of_type (scalar_type (m 8 4 21) scalars.Int) ∷ []); members = (static_constant (codes "v") (d 7) ∷ []) })
    ∷ a_constant (record { at = (p 4 49); name = (codes "v"); of = (scalar_type (m 9 4 45) scalars.Int); initialiser = (literal (m 10 4 53) scalars.Int (pos 3)); owner = (Some (d 6)) })
    ∷ a_struct (record { at = (p 5 29); itself = (inst (d 0) (arguments ((inst (d 0) (arguments ((param 0) ∷ []))) ∷ []))); is_template = true; template_parameters = (tp None None ∷ []); constraints = ([]); primary = (Some (d 0)); specialised_for = (of_type (template_id (m 12 5 31) (p 5 31) (d 0) (and_type (position_type (m 11 5 33) 0) no_argument)) ∷ []); members = (static_constant (codes "v") (d 9) ∷ []) })
    ∷ a_constant (record { at = (p 5 60); name = (codes "v"); of = (scalar_type (m 13 5 56) scalars.Int); initialiser = (literal (m 14 5 64) scalars.Int (pos 4)); owner = (Some (d 8)) })
    ∷ a_struct (record { at = (p 6 19); itself = (inst (d 0) (arguments ((inst (d 0) (arguments ((scalar scalars.Int) ∷ []))) ∷ []))); is_template = false; template_parameters = ([]); constraints = ([]); primary = (Some (d 0)); specialised_for = (of_type (template_id (m 16 6 21) (p 6 21) (d 0) (and_type (scalar_type (m 15 6 23) scalars.Int) no_argument)) ∷ []); members = (static_constant (codes "v") (d 11) ∷ []) })
    ∷ a_constant (record { at = (p 6 52); name = (codes "v"); of = (scalar_type (m 17 6 48) scalars.Int); initialiser = (literal (m 18 6 56) scalars.Int (pos 5)); owner = (Some (d 10)) })
    ∷ [])
    ([])
    ((0, ((d 2) ∷ (d 4) ∷ (d 6) ∷ (d 8) ∷ (d 10) ∷ [])) ∷ [])
    ([])
    (around 0 (None ∷ []) true ∷ around 8 ([]) false ∷ around 11 (None ∷ []) true ∷ around 15 ([]) false ∷ [])
    ([])

abbrev pub chosen_for_one_type_unit_assert_7_1 : Expression
chosen_for_one_type_unit_assert_7_1 = binary (m 23 7 15) word.Equal (scope (m 21 7 15) (template_id (m 20 7 15) (p 7 15) (d 0) (and_type (scalar_type (m 19 7 17) scalars.Bool) no_argument)) ([]) (codes "v")) (literal (m 22 7 29) scalars.Int (pos 0))

abbrev pub chosen_for_one_type_unit_assert_8_1 : Expression
chosen_for_one_type_unit_assert_8_1 = binary (m 29 8 15) word.Equal (scope (m 27 8 15) (template_id (m 26 8 15) (p 8 15) (d 0) (and_type (reference_type (m 25 8 17) (scalar_type (m 25 8 17) scalars.Bool)) no_argument)) ([]) (codes "v")) (literal (m 28 8 30) scalars.Int (pos 1))

abbrev pub chosen_for_one_type_unit_assert_9_1 : Expression
chosen_for_one_type_unit_assert_9_1 = binary (m 35 9 15) word.Equal (scope (m 33 9 15) (template_id (m 32 9 15) (p 9 15) (d 0) (and_type (const_type (m 31 9 17) (scalar_type (m 31 9 17) scalars.Bool)) no_argument)) ([]) (codes "v")) (literal (m 34 9 35) scalars.Int (pos 2))

abbrev pub chosen_for_one_type_unit_assert_10_1 : Expression
chosen_for_one_type_unit_assert_10_1 = binary (m 41 10 15) word.Equal (scope (m 39 10 15) (template_id (m 38 10 15) (p 10 15) (d 0) (and_type (reference_type (m 37 10 17) (const_type (m 37 10 17) (scalar_type (m 37 10 17) scalars.Bool))) no_argument)) ([]) (codes "v")) (literal (m 40 10 36) scalars.Int (pos 1))

abbrev pub chosen_for_one_type_unit_assert_11_1 : Expression
chosen_for_one_type_unit_assert_11_1 = binary (m 47 11 15) word.Equal (scope (m 45 11 15) (template_id (m 44 11 15) (p 11 15) (d 0) (and_type (scalar_type (m 43 11 17) scalars.Int) no_argument)) ([]) (codes "v")) (literal (m 46 11 28) scalars.Int (pos 3))

abbrev pub chosen_for_one_type_unit_assert_12_1 : Expression
chosen_for_one_type_unit_assert_12_1 = binary (m 54 12 15) word.Equal (scope (m 52 12 15) (template_id (m 51 12 15) (p 12 15) (d 0) (and_type (template_id (m 50 12 17) (p 12 17) (d 0) (and_type (scalar_type (m 49 12 19) scalars.Bool) no_argument)) no_argument)) ([]) (codes "v")) (literal (m 53 12 32) scalars.Int (pos 4))

abbrev pub chosen_for_one_type_unit_assert_13_1 : Expression
chosen_for_one_type_unit_assert_13_1 = binary (m 61 13 15) word.Equal (scope (m 59 13 15) (template_id (m 58 13 15) (p 13 15) (d 0) (and_type (template_id (m 57 13 17) (p 13 17) (d 0) (and_type (scalar_type (m 56 13 19) scalars.Int) no_argument)) no_argument)) ([]) (codes "v")) (literal (m 60 13 31) scalars.Int (pos 5))

-- template<typename T, typename U> struct P { static constexpr int v = 0; };
-- template<typename T> struct P<T, T> { static constexpr int v = 1; };
-- template<typename T> struct P<T, int> { static constexpr int v = 2; };
-- template<typename T> struct P<int, T> { static constexpr int v = 3; };
-- template<> struct P<int, int> { static constexpr int v = 4; };
-- static_assert(P<bool, unsigned>::v == 0);
-- static_assert(P<bool, bool>::v == 1);
-- static_assert(P<bool, int>::v == 2);
-- static_assert(P<int, bool>::v == 3);
-- static_assert(P<int, int>::v == 4);
abbrev pub two_parameters_unit : Program
two_parameters_unit =
    unit
    (a_struct (record { at = (p 1 41); itself = (inst (d 0) (arguments ((param 0) ∷ (param 1) ∷ []))); is_template = true; template_parameters = (tp None None ∷ tp None None ∷ []); constraints = ([]); primary = None; specialised_for = ([]); members = (static_constant (codes "v") (d 1) ∷ []) })
    ∷ a_constant (record { at = (p 1 66); name = (codes "v"); of = (scalar_type (m 0 1 62) scalars.Int); initialiser = (literal (m 1 1 70) scalars.Int (pos 0)); owner = (Some (d 0)) })
    ∷ a_struct (record { at = (p 2 29); itself = (inst (d 0) (arguments ((param 0) ∷ (param 0) ∷ []))); is_template = true; template_parameters = (tp None None ∷ []); constraints = ([]); primary = (Some (d 0)); specialised_for = (of_type (position_type (m 2 2 31) 0) ∷ of_type (position_type (m 3 2 34) 0) ∷ []); members = (static_constant (codes "v") (d 3) ∷ []) })
    ∷ a_constant (record { at = (p 2 60); name = (codes "v"); of = (scalar_type (m 4 2 56) scalars.Int); initialiser = (literal (m 5 2 64) scalars.Int (pos 1)); owner = (Some (d 2)) })
    ∷ a_struct (record { at = (p 3 29); itself = (inst (d 0) (arguments ((param 0) ∷ (scalar scalars.Int) ∷ []))); is_template = true; template_parameters = (tp None None ∷ []); constraints = ([]); primary = (Some (d 0)); specialised_for = (of_type (position_type (m 6 3 31) 0) ∷ of_type (scalar_type (m 7 3 34) scalars.Int) ∷ []); members = (static_constant (codes "v") (d 5) ∷ []) })
    ∷ a_constant (record { at = (p 3 62); name = (codes "v"); of = (scalar_type (m 8 3 58) scalars.Int); initialiser = (literal (m 9 3 66) scalars.Int (pos 2)); owner = (Some (d 4)) })
    ∷ a_struct (record { at = (p 4 29); itself = (inst (d 0) (arguments ((scalar scalars.Int) ∷ (param 0) ∷ []))); is_template = true; template_parameters = (tp None None ∷ []); constraints = ([]); primary = (Some (d 0)); specialised_for = (of_type (scalar_type (m 10 4 31) scalars.Int) ∷ of_type (position_type (m 11 4 36) 0) ∷ []); members = (static_constant (codes "v") (d 7) ∷ []) })
    ∷ a_constant (record { at = (p 4 62); name = (codes "v"); of = (scalar_type (m 12 4 58) scalars.Int); initialiser = (literal (m 13 4 66) scalars.Int (pos 3)); owner = (Some (d 6)) })
    ∷ a_struct (record { at = (p 5 19); itself = (inst (d 0) (arguments ((scalar scalars.Int) ∷ (scalar scalars.Int) ∷ []))); is_template = false; template_parameters = ([]); constraints = ([]); primary = (Some (d 0)); specialised_for = (of_type (scalar_type (m 14 5 21) scalars.Int) ∷ of_type (scalar_type (m 15 5 26) scalars.Int) ∷ []); members = (static_constant (codes "v") (d 9) ∷ []) })
    ∷ a_constant (record { at = (p 5 54); name = (codes "v"); of = (scalar_type (m 16 5 50) scalars.Int); initialiser = (literal (m 17 5 58) scalars.Int (pos 4)); owner = (Some (d 8)) })
    ∷ [])
    ([])
    ((0, ((d 2) ∷ (d 4) ∷ (d 6) ∷ (d 8) ∷ [])) ∷ [])
    ([])
    (around 0 (None ∷ None ∷ []) true ∷ around 2 (None ∷ []) true ∷ around 14 ([]) false ∷ [])
    ([])

abbrev pub two_parameters_unit_assert_6_1 : Expression
two_parameters_unit_assert_6_1 = binary (m 23 6 15) word.Equal (scope (m 21 6 15) (template_id (m 20 6 15) (p 6 15) (d 0) (and_type (scalar_type (m 18 6 17) scalars.Bool) (and_type (scalar_type (m 19 6 23) scalars.Unsigned) no_argument))) ([]) (codes "v")) (literal (m 22 6 39) scalars.Int (pos 0))

abbrev pub two_parameters_unit_assert_7_1 : Expression
two_parameters_unit_assert_7_1 = binary (m 30 7 15) word.Equal (scope (m 28 7 15) (template_id (m 27 7 15) (p 7 15) (d 0) (and_type (scalar_type (m 25 7 17) scalars.Bool) (and_type (scalar_type (m 26 7 23) scalars.Bool) no_argument))) ([]) (codes "v")) (literal (m 29 7 35) scalars.Int (pos 1))

abbrev pub two_parameters_unit_assert_8_1 : Expression
two_parameters_unit_assert_8_1 = binary (m 37 8 15) word.Equal (scope (m 35 8 15) (template_id (m 34 8 15) (p 8 15) (d 0) (and_type (scalar_type (m 32 8 17) scalars.Bool) (and_type (scalar_type (m 33 8 23) scalars.Int) no_argument))) ([]) (codes "v")) (literal (m 36 8 34) scalars.Int (pos 2))

abbrev pub two_parameters_unit_assert_9_1 : Expression
two_parameters_unit_assert_9_1 = binary (m 44 9 15) word.Equal (scope (m 42 9 15) (template_id (m 41 9 15) (p 9 15) (d 0) (and_type (scalar_type (m 39 9 17) scalars.Int) (and_type (scalar_type (m 40 9 22) scalars.Bool) no_argument))) ([]) (codes "v")) (literal (m 43 9 34) scalars.Int (pos 3))

abbrev pub two_parameters_unit_assert_10_1 : Expression
two_parameters_unit_assert_10_1 = binary (m 51 10 15) word.Equal (scope (m 49 10 15) (template_id (m 48 10 15) (p 10 15) (d 0) (and_type (scalar_type (m 46 10 17) scalars.Int) (and_type (scalar_type (m 47 10 22) scalars.Int) no_argument))) ([]) (codes "v")) (literal (m 50 10 33) scalars.Int (pos 4))

-- template<typename T, typename U> struct P { static constexpr int v = 0; };
-- template<typename T> struct P<T, T> { static constexpr int v = 1; };
-- template<typename T> struct P<T, int> { static constexpr int v = 2; };
-- static_assert(P<bool, bool>::v == 1);
-- static_assert(P<int, int>::v == 1);
abbrev pub two_that_match_unit : Program
two_that_match_unit =
    unit
    (a_struct (record { at = (p 1 41); itself = (inst (d 0) (arguments ((param 0) ∷ (param 1) ∷ []))); is_template = true; template_parameters = (tp None None ∷ tp None None ∷ []); constraints = ([]); primary = None; specialised_for = ([]); members = (static_constant (codes "v") (d 1) ∷ []) })
    ∷ a_constant (record { at = (p 1 66); name = (codes "v"); of = (scalar_type (m 0 1 62) scalars.Int); initialiser = (literal (m 1 1 70) scalars.Int (pos 0)); owner = (Some (d 0)) })
    ∷ a_struct (record { at = (p 2 29); itself = (inst (d 0) (arguments ((param 0) ∷ (param 0) ∷ []))); is_template = true; template_parameters = (tp None None ∷ []); constraints = ([]); primary = (Some (d 0)); specialised_for = (of_type (position_type (m 2 2 31) 0) ∷ of_type (position_type (m 3 2 34) 0) ∷ []); members = (static_constant (codes "v") (d 3) ∷ []) })
    ∷ a_constant (record { at = (p 2 60); name = (codes "v"); of = (scalar_type (m 4 2 56) scalars.Int); initialiser = (literal (m 5 2 64) scalars.Int (pos 1)); owner = (Some (d 2)) })
    ∷ a_struct (record { at = (p 3 29); itself = (inst (d 0) (arguments ((param 0) ∷ (scalar scalars.Int) ∷ []))); is_template = true; template_parameters = (tp None None ∷ []); constraints = ([]); primary = (Some (d 0)); specialised_for = (of_type (position_type (m 6 3 31) 0) ∷ of_type (scalar_type (m 7 3 34) scalars.Int) ∷ []); members = (static_constant (codes "v") (d 5) ∷ []) })
    ∷ a_constant (record { at = (p 3 62); name = (codes "v"); of = (scalar_type (m 8 3 58) scalars.Int); initialiser = (literal (m 9 3 66) scalars.Int (pos 2)); owner = (Some (d 4)) })
    ∷ [])
    ([])
    ((0, ((d 2) ∷ (d 4) ∷ [])) ∷ [])
    ([])
    (around 0 (None ∷ None ∷ []) true ∷ around 2 (None ∷ []) true ∷ around 10 ([]) false ∷ [])
    ([])

abbrev pub two_that_match_unit_assert_4_1 : Expression
two_that_match_unit_assert_4_1 = binary (m 15 4 15) word.Equal (scope (m 13 4 15) (template_id (m 12 4 15) (p 4 15) (d 0) (and_type (scalar_type (m 10 4 17) scalars.Bool) (and_type (scalar_type (m 11 4 23) scalars.Bool) no_argument))) ([]) (codes "v")) (literal (m 14 4 35) scalars.Int (pos 1))

abbrev pub two_that_match_unit_assert_5_1 : Expression
two_that_match_unit_assert_5_1 = binary (m 22 5 15) word.Equal (scope (m 20 5 15) (template_id (m 19 5 15) (p 5 15) (d 0) (and_type (scalar_type (m 17 5 17) scalars.Int) (and_type (scalar_type (m 18 5 22) scalars.Int) no_argument))) ([]) (codes "v")) (literal (m 21 5 33) scalars.Int (pos 1))

-- template<unsigned N> struct D { static constexpr unsigned v = N; };
-- template<> struct D<0> { static constexpr unsigned v = 7; };
-- template<int N, bool B> struct E { static constexpr int v = 0; };
-- template<int N> struct E<N, true> { static constexpr int v = N; };
-- static_assert(D<0>::v == 7);
-- static_assert(D<0u>::v == 7);
-- static_assert(D<3>::v == 3);
-- static_assert(E<5, true>::v == 5);
-- static_assert(E<5, false>::v == 0);
-- static_assert(E<5, 1>::v == 5);
abbrev pub lists_of_values_unit : Program
lists_of_values_unit =
    unit
    (a_struct (record { at = (p 1 29); itself = (inst (d 0) (arguments ((param 0) ∷ []))); is_template = true; template_parameters = (tp (Some scalars.Unsigned) None ∷ []); constraints = ([]); primary = None; specialised_for = ([]); members = (static_constant (codes "v") (d 1) ∷ []) })
    ∷ a_constant (record { at = (p 1 59); name = (codes "v"); of = (scalar_type (m 0 1 50) scalars.Unsigned); initialiser = (position_name (m 1 1 63) 0); owner = (Some (d 0)) })
    ∷ a_struct (record { at = (p 2 19); itself = (inst (d 0) (arguments ((val scalars.Int (pos 0)) ∷ []))); is_template = false; template_parameters = ([]); constraints = ([]); primary = (Some (d 0)); specialised_for = (of_value (literal (m 2 2 21) scalars.Int (pos 0)) ∷ []); members = (static_constant (codes "v") (d 3) ∷ []) })
    ∷ a_constant (record { at = (p 2 52); name = (codes "v"); of = (scalar_type (m 3 2 43) scalars.Unsigned); initialiser = (literal (m 4 2 56) scalars.Int (pos 7)); owner = (Some (d 2)) })
    ∷ a_struct (record { at = (p 3 32); itself = (inst (d 4) (arguments ((param 0) ∷ (param 1) ∷ []))); is_template = true; template_parameters = (tp (Some scalars.Int) None ∷ tp (Some scalars.Bool) None ∷ []); constraints = ([]); primary = None; specialised_for = ([]); members = (static_constant (codes "v") (d 5) ∷ []) })
    ∷ a_constant (record { at = (p 3 57); name = (codes "v"); of = (scalar_type (m 5 3 53) scalars.Int); initialiser = (literal (m 6 3 61) scalars.Int (pos 0)); owner = (Some (d 4)) })
    ∷ a_struct (record { at = (p 4 24); itself = (inst (d 4) (arguments ((param 0) ∷ (val scalars.Bool (pos 1)) ∷ []))); is_template = true; template_parameters = (tp (Some scalars.Int) None ∷ []); constraints = ([]); primary = (Some (d 4)); specialised_for = (of_value (position_name (m 7 4 26) 0) ∷ of_value (literal (m 8 4 29) scalars.Bool (pos 1)) ∷ []); members = (static_constant (codes "v") (d 7) ∷ []) })
    ∷ a_constant (record { at = (p 4 58); name = (codes "v"); of = (scalar_type (m 9 4 54) scalars.Int); initialiser = (position_name (m 10 4 62) 0); owner = (Some (d 6)) })
    ∷ [])
    ([])
    ((0, ((d 2) ∷ [])) ∷ (4, ((d 6) ∷ [])) ∷ [])
    ([])
    (around 0 ((Some scalars.Unsigned) ∷ []) true ∷ around 2 ([]) false ∷ around 5 ((Some scalars.Int) ∷ (Some scalars.Bool) ∷ []) true ∷ around 7 ((Some scalars.Int) ∷ []) true ∷ around 11 ([]) false ∷ [])
    ([])

abbrev pub lists_of_values_unit_assert_5_1 : Expression
lists_of_values_unit_assert_5_1 = binary (m 15 5 15) word.Equal (scope (m 13 5 15) (template_id (m 12 5 15) (p 5 15) (d 0) (and_value (literal (m 11 5 17) scalars.Int (pos 0)) no_argument)) ([]) (codes "v")) (literal (m 14 5 26) scalars.Int (pos 7))

abbrev pub lists_of_values_unit_assert_6_1 : Expression
lists_of_values_unit_assert_6_1 = binary (m 21 6 15) word.Equal (scope (m 19 6 15) (template_id (m 18 6 15) (p 6 15) (d 0) (and_value (literal (m 17 6 17) scalars.Unsigned (pos 0)) no_argument)) ([]) (codes "v")) (literal (m 20 6 27) scalars.Int (pos 7))

abbrev pub lists_of_values_unit_assert_7_1 : Expression
lists_of_values_unit_assert_7_1 = binary (m 27 7 15) word.Equal (scope (m 25 7 15) (template_id (m 24 7 15) (p 7 15) (d 0) (and_value (literal (m 23 7 17) scalars.Int (pos 3)) no_argument)) ([]) (codes "v")) (literal (m 26 7 26) scalars.Int (pos 3))

abbrev pub lists_of_values_unit_assert_8_1 : Expression
lists_of_values_unit_assert_8_1 = binary (m 34 8 15) word.Equal (scope (m 32 8 15) (template_id (m 31 8 15) (p 8 15) (d 4) (and_value (literal (m 29 8 17) scalars.Int (pos 5)) (and_value (literal (m 30 8 20) scalars.Bool (pos 1)) no_argument))) ([]) (codes "v")) (literal (m 33 8 32) scalars.Int (pos 5))

abbrev pub lists_of_values_unit_assert_9_1 : Expression
lists_of_values_unit_assert_9_1 = binary (m 41 9 15) word.Equal (scope (m 39 9 15) (template_id (m 38 9 15) (p 9 15) (d 4) (and_value (literal (m 36 9 17) scalars.Int (pos 5)) (and_value (literal (m 37 9 20) scalars.Bool (pos 0)) no_argument))) ([]) (codes "v")) (literal (m 40 9 33) scalars.Int (pos 0))

abbrev pub lists_of_values_unit_assert_10_1 : Expression
lists_of_values_unit_assert_10_1 = binary (m 48 10 15) word.Equal (scope (m 46 10 15) (template_id (m 45 10 15) (p 10 15) (d 4) (and_value (literal (m 43 10 17) scalars.Int (pos 5)) (and_value (literal (m 44 10 20) scalars.Int (pos 1)) no_argument))) ([]) (codes "v")) (literal (m 47 10 29) scalars.Int (pos 5))

-- template<typename T> concept A = __is_same(T, int) || __is_same(T, bool);
-- template<typename T> concept B = A<T> && __is_same(T, int);
-- template<typename T> struct S { static constexpr int v = 0; };
-- template<A T> struct S<T> { static constexpr int v = 1; };
-- template<B T> struct S<T> { static constexpr int v = 2; };
-- static_assert(S<unsigned>::v == 0);
-- static_assert(S<bool>::v == 1);
-- static_assert(S<int>::v == 2);
abbrev pub constrained_lists_unit : Program
constrained_lists_unit =
    unit
    (a_concept (record { at = (p 1 30); template_parameters = (tp None None ∷ []); condition = (binary (m 6 1 34) word.LogicalOr (is_same (m 2 1 34) (position_type (m 0 1 44) 0) (scalar_type (m 1 1 47) scalars.Int)) (is_same (m 5 1 55) (position_type (m 3 1 65) 0) (scalar_type (m 4 1 68) scalars.Bool))) })
    ∷ a_concept (record { at = (p 2 30); template_parameters = (tp None None ∷ []); condition = (binary (m 12 2 34) word.LogicalAnd (concept_id (m 8 2 34) (d 0) (and_type (position_type (m 7 2 36) 0) no_argument)) (is_same (m 11 2 42) (position_type (m 9 2 52) 0) (scalar_type (m 10 2 55) scalars.Int))) })
    ∷ a_struct (record { at = (p 3 29); itself = (inst (d 2) (arguments ((param 0) ∷ []))); is_template = true; template_parameters = (tp None None ∷ []); constraints = ([]); primary = None; specialised_for = ([]); members = (static_constant (codes "v") (d 3) ∷ []) })
    ∷ a_constant (record { at = (p 3 54); name = (codes "v"); of = (scalar_type (m 13 3 50) scalars.Int); initialiser = (literal (m 14 3 58) scalars.Int (pos 0)); owner = (Some (d 2)) })
    ∷ a_struct (record { at = (p 4 22); itself = (inst (d 2) (arguments ((param 0) ∷ []))); is_template = true; template_parameters = (tp None None ∷ []); constraints = ((concept_id (m 15 4 10) (d 0) (and_type (position_type (m 15 4 10) 0) no_argument)) ∷ []); primary = (Some (d 2)); specialised_for = (of_type (position_type (m 16 4 24) 0) ∷ []); members = (static_constant (codes "v") (d 5) ∷ []) })
    ∷ a_constant (record { at = (p 4 50); name = (codes "v"); of = (scalar_type (m 17 4 46) scalars.Int); initialiser = (literal (m 18 4 54) scalars.Int (pos 1)); owner = (Some (d 4)) })
    ∷ a_struct (record { at = (p 5 22); itself = (inst (d 2) (arguments ((param 0) ∷ []))); is_template = true; template_parameters = (tp None None ∷ []); constraints = ((concept_id (m 19 5 10) (d 1) (and_type (position_type (m 19 5 10) 0) no_argument)) ∷ []); primary = (Some (d 2)); specialised_for = (of_type (position_type (m 20 5 24) 0) ∷ []); members = (static_constant (codes "v") (d 7) ∷ []) })
    ∷ a_constant (record { at = (p 5 50); name = (codes "v"); of = (scalar_type (m 21 5 46) scalars.Int); initialiser = (literal (m 22 5 54) scalars.Int (pos 2)); owner = (Some (d 6)) })
    ∷ [])
    ([])
    ((2, ((d 4) ∷ (d 6) ∷ [])) ∷ [])
    ((2, (is_same (m 2 1 34) (position_type (m 0 1 44) 0) (scalar_type (m 1 1 47) scalars.Int)))
    ∷ (5, (is_same (m 5 1 55) (position_type (m 3 1 65) 0) (scalar_type (m 4 1 68) scalars.Bool)))
    ∷ (11, (is_same (m 11 2 42) (position_type (m 9 2 52) 0) (scalar_type (m 10 2 55) scalars.Int)))
    ∷ [])
    (around 0 (None ∷ []) true ∷ around 23 ([]) false ∷ [])
    ([])

abbrev pub constrained_lists_unit_assert_6_1 : Expression
constrained_lists_unit_assert_6_1 = binary (m 27 6 15) word.Equal (scope (m 25 6 15) (template_id (m 24 6 15) (p 6 15) (d 2) (and_type (scalar_type (m 23 6 17) scalars.Unsigned) no_argument)) ([]) (codes "v")) (literal (m 26 6 33) scalars.Int (pos 0))

abbrev pub constrained_lists_unit_assert_7_1 : Expression
constrained_lists_unit_assert_7_1 = binary (m 33 7 15) word.Equal (scope (m 31 7 15) (template_id (m 30 7 15) (p 7 15) (d 2) (and_type (scalar_type (m 29 7 17) scalars.Bool) no_argument)) ([]) (codes "v")) (literal (m 32 7 29) scalars.Int (pos 1))

abbrev pub constrained_lists_unit_assert_8_1 : Expression
constrained_lists_unit_assert_8_1 = binary (m 39 8 15) word.Equal (scope (m 37 8 15) (template_id (m 36 8 15) (p 8 15) (d 2) (and_type (scalar_type (m 35 8 17) scalars.Int) no_argument)) ([]) (codes "v")) (literal (m 38 8 28) scalars.Int (pos 2))

-- template<typename T> concept Int = __is_same(T, int);
-- template<Int T> struct S { static constexpr int v = 1; };
-- template<typename T> concept Has = requires { S<T>::v; };
-- static_assert(S<int>::v == 1);
-- static_assert(Has<int>);
-- static_assert(Has<bool>);
-- static_assert(S<bool>::v == 1);
abbrev pub constrained_template_unit : Program
constrained_template_unit =
    unit
    (a_concept (record { at = (p 1 30); template_parameters = (tp None None ∷ []); condition = (is_same (m 2 1 36) (position_type (m 0 1 46) 0) (scalar_type (m 1 1 49) scalars.Int)) })
    ∷ a_struct (record { at = (p 2 24); itself = (inst (d 1) (arguments ((param 0) ∷ []))); is_template = true; template_parameters = (tp None None ∷ []); constraints = ((concept_id (m 3 2 10) (d 0) (and_type (position_type (m 3 2 10) 0) no_argument)) ∷ []); primary = None; specialised_for = ([]); members = (static_constant (codes "v") (d 2) ∷ []) })
    ∷ a_constant (record { at = (p 2 49); name = (codes "v"); of = (scalar_type (m 4 2 45) scalars.Int); initialiser = (literal (m 5 2 53) scalars.Int (pos 1)); owner = (Some (d 1)) })
    ∷ a_concept (record { at = (p 3 30); template_parameters = (tp None None ∷ []); condition = (requires (m 9 3 36) no_parameter (and_simple (scope (m 8 3 47) (template_id (m 7 3 47) (p 3 47) (d 1) (and_type (position_type (m 6 3 49) 0) no_argument)) ([]) (codes "v")) no_requirement)) })
    ∷ [])
    ([])
    ([])
    ((2, (is_same (m 2 1 36) (position_type (m 0 1 46) 0) (scalar_type (m 1 1 49) scalars.Int)))
    ∷ (9, (requires (m 9 3 36) no_parameter (and_simple (scope (m 8 3 47) (template_id (m 7 3 47) (p 3 47) (d 1) (and_type (position_type (m 6 3 49) 0) no_argument)) ([]) (codes "v")) no_requirement)))
    ∷ [])
    (around 0 (None ∷ []) true ∷ around 10 ([]) false ∷ [])
    ([])

abbrev pub constrained_template_unit_assert_4_1 : Expression
constrained_template_unit_assert_4_1 = binary (m 14 4 15) word.Equal (scope (m 12 4 15) (template_id (m 11 4 15) (p 4 15) (d 1) (and_type (scalar_type (m 10 4 17) scalars.Int) no_argument)) ([]) (codes "v")) (literal (m 13 4 28) scalars.Int (pos 1))

abbrev pub constrained_template_unit_assert_5_1 : Expression
constrained_template_unit_assert_5_1 = concept_id (m 17 5 15) (d 3) (and_type (scalar_type (m 16 5 19) scalars.Int) no_argument)

abbrev pub constrained_template_unit_assert_6_1 : Expression
constrained_template_unit_assert_6_1 = concept_id (m 20 6 15) (d 3) (and_type (scalar_type (m 19 6 19) scalars.Bool) no_argument)

abbrev pub constrained_template_unit_assert_7_1 : Expression
constrained_template_unit_assert_7_1 = binary (m 26 7 15) word.Equal (scope (m 24 7 15) (template_id (m 23 7 15) (p 7 15) (d 1) (and_type (scalar_type (m 22 7 17) scalars.Bool) no_argument)) ([]) (codes "v")) (literal (m 25 7 29) scalars.Int (pos 1))

-- template<typename T> struct W {
--   using type = T;
--   T v;
--   T get() const { return v; }
--   void set(const T& x) { v = x; }
--   int only() requires (__is_same(T, int)) { return 1; }
-- };
-- template<typename A, typename B> concept Is = __is_same(A, B);
-- template<typename T> concept Members = requires(W<T> w, const W<T>& c) { requires Is<typename W<T>::type, T>; requires Is<decltype(w.v), T>; requires Is<decltype(c.get()), T>; w.set(c.v); };
-- template<typename T> concept SetsConst = requires(const W<T>& c) { c.set(c.v); };
-- template<typename T> concept Only = requires(W<T> w) { w.only(); };
-- static_assert(Members<bool>);
-- static_assert(SetsConst<bool>);
-- static_assert(Only<int>);
-- static_assert(Only<bool>);
-- static_assert(Members<int&>);
-- static_assert(Members<void>);
abbrev pub members_and_clauses_unit : Program
members_and_clauses_unit =
    unit
    (a_struct (record { at = (p 1 29); itself = (inst (d 0) (arguments ((param 0) ∷ []))); is_template = true; template_parameters = (tp None None ∷ []); constraints = ([]); primary = None; specialised_for = ([]); members = (member_alias (codes "type") (position_type (m 0 2 16) 0) ∷ field (codes "v") (position_type (m 1 3 3) 0) ∷ member_function (codes "get") (d 2) ∷ member_function (codes "set") (d 3) ∷ member_function (codes "only") (d 4) ∷ []) })
    ∷ a_field 0 (position_type (m 1 3 3) 0)
    ∷ a_function (record { at = (p 4 5); name = (codes "get"); owner = (Some (d 0)); is_template = true; template_parameters = (tp None None ∷ []); constraints = ([]); parameters = ([]); result = (position_type (m 2 4 3) 0); is_const = true; is_constexpr = false; body = Some (block (m 12 4 17) (and_statement (return_statement (m 11 4 19) (Some (field_name (m 10 4 26) 0 (d 1)))) no_statement)) })
    ∷ a_function (record { at = (p 5 8); name = (codes "set"); owner = (Some (d 0)); is_template = true; template_parameters = (tp None None ∷ []); constraints = ([]); parameters = (parameter (reference_type (m 4 5 12) (const_type (m 4 5 12) (position_type (m 4 5 12) 0))) 0 true ∷ []); result = (void_type (m 3 5 3)); is_const = false; is_constexpr = false; body = Some (block (m 17 5 24) (and_statement (expression_statement (m 16 5 26) (binary (m 15 5 26) word.Assign (field_name (m 13 5 26) 0 (d 1)) (local_name (m 14 5 30) 0))) no_statement)) })
    ∷ a_function (record { at = (p 6 7); name = (codes "only"); owner = (Some (d 0)); is_template = true; template_parameters = (tp None None ∷ []); constraints = ((parentheses (m 9 6 23) (is_same (m 8 6 24) (position_type (m 6 6 34) 0) (scalar_type (m 7 6 37) scalars.Int))) ∷ []); parameters = ([]); result = (scalar_type (m 5 6 3) scalars.Int); is_const = false; is_constexpr = false; body = Some (block (m 20 6 43) (and_statement (return_statement (m 19 6 45) (Some (literal (m 18 6 52) scalars.Int (pos 1)))) no_statement)) })
    ∷ a_concept (record { at = (p 8 42); template_parameters = (tp None None ∷ tp None None ∷ []); condition = (is_same (m 23 8 47) (position_type (m 21 8 57) 0) (position_type (m 22 8 60) 1)) })
    ∷ a_concept (record { at = (p 9 30); template_parameters = (tp None None ∷ []); condition = (requires (m 51 9 40) (and_parameter (m 26 9 54) (template_id (m 25 9 49) (p 9 49) (d 0) (and_type (position_type (m 24 9 51) 0) no_argument)) 0 true (and_parameter (m 29 9 69) (reference_type (m 28 9 57) (const_type (m 28 9 57) (template_id (m 28 9 57) (p 9 63) (d 0) (and_type (position_type (m 27 9 65) 0) no_argument)))) 1 true no_parameter)) (and_nested (concept_id (m 34 9 83) (d 5) (and_type (member_type (m 32 9 86) (template_id (m 31 9 95) (p 9 95) (d 0) (and_type (position_type (m 30 9 97) 0) no_argument)) ((codes "type") ∷ [])) (and_type (position_type (m 33 9 107) 0) no_argument))) (and_nested (concept_id (m 39 9 120) (d 5) (and_type (decltype_type (m 37 9 123) (dot (m 36 9 132) (local_name (m 35 9 132) 0) (codes "v"))) (and_type (position_type (m 38 9 138) 0) no_argument))) (and_nested (concept_id (m 45 9 151) (d 5) (and_type (decltype_type (m 43 9 154) (call (m 42 9 163) (object_functions (m 41 9 163) (local_name (m 40 9 163) 1) (codes "get")) no_expression)) (and_type (position_type (m 44 9 173) 0) no_argument))) (and_simple (call (m 50 9 177) (object_functions (m 47 9 177) (local_name (m 46 9 177) 0) (codes "set")) (and_expression (dot (m 49 9 183) (local_name (m 48 9 183) 1) (codes "v")) no_expression)) no_requirement))))) })
    ∷ a_concept (record { at = (p 10 30); template_parameters = (tp None None ∷ []); condition = (requires (m 60 10 42) (and_parameter (m 54 10 63) (reference_type (m 53 10 51) (const_type (m 53 10 51) (template_id (m 53 10 51) (p 10 57) (d 0) (and_type (position_type (m 52 10 59) 0) no_argument)))) 0 true no_parameter) (and_simple (call (m 59 10 68) (object_functions (m 56 10 68) (local_name (m 55 10 68) 0) (codes "set")) (and_expression (dot (m 58 10 74) (local_name (m 57 10 74) 0) (codes "v")) no_expression)) no_requirement)) })
    ∷ a_concept (record { at = (p 11 30); template_parameters = (tp None None ∷ []); condition = (requires (m 67 11 37) (and_parameter (m 63 11 51) (template_id (m 62 11 46) (p 11 46) (d 0) (and_type (position_type (m 61 11 48) 0) no_argument)) 0 true no_parameter) (and_simple (call (m 66 11 56) (object_functions (m 65 11 56) (local_name (m 64 11 56) 0) (codes "only")) no_expression) no_requirement)) })
    ∷ [])
    ([])
    ([])
    ((8, (is_same (m 8 6 24) (position_type (m 6 6 34) 0) (scalar_type (m 7 6 37) scalars.Int)))
    ∷ (23, (is_same (m 23 8 47) (position_type (m 21 8 57) 0) (position_type (m 22 8 60) 1)))
    ∷ (51, (requires (m 51 9 40) (and_parameter (m 26 9 54) (template_id (m 25 9 49) (p 9 49) (d 0) (and_type (position_type (m 24 9 51) 0) no_argument)) 0 true (and_parameter (m 29 9 69) (reference_type (m 28 9 57) (const_type (m 28 9 57) (template_id (m 28 9 57) (p 9 63) (d 0) (and_type (position_type (m 27 9 65) 0) no_argument)))) 1 true no_parameter)) (and_nested (concept_id (m 34 9 83) (d 5) (and_type (member_type (m 32 9 86) (template_id (m 31 9 95) (p 9 95) (d 0) (and_type (position_type (m 30 9 97) 0) no_argument)) ((codes "type") ∷ [])) (and_type (position_type (m 33 9 107) 0) no_argument))) (and_nested (concept_id (m 39 9 120) (d 5) (and_type (decltype_type (m 37 9 123) (dot (m 36 9 132) (local_name (m 35 9 132) 0) (codes "v"))) (and_type (position_type (m 38 9 138) 0) no_argument))) (and_nested (concept_id (m 45 9 151) (d 5) (and_type (decltype_type (m 43 9 154) (call (m 42 9 163) (object_functions (m 41 9 163) (local_name (m 40 9 163) 1) (codes "get")) no_expression)) (and_type (position_type (m 44 9 173) 0) no_argument))) (and_simple (call (m 50 9 177) (object_functions (m 47 9 177) (local_name (m 46 9 177) 0) (codes "set")) (and_expression (dot (m 49 9 183) (local_name (m 48 9 183) 1) (codes "v")) no_expression)) no_requirement))))))
    ∷ (60, (requires (m 60 10 42) (and_parameter (m 54 10 63) (reference_type (m 53 10 51) (const_type (m 53 10 51) (template_id (m 53 10 51) (p 10 57) (d 0) (and_type (position_type (m 52 10 59) 0) no_argument)))) 0 true no_parameter) (and_simple (call (m 59 10 68) (object_functions (m 56 10 68) (local_name (m 55 10 68) 0) (codes "set")) (and_expression (dot (m 58 10 74) (local_name (m 57 10 74) 0) (codes "v")) no_expression)) no_requirement)))
    ∷ (67, (requires (m 67 11 37) (and_parameter (m 63 11 51) (template_id (m 62 11 46) (p 11 46) (d 0) (and_type (position_type (m 61 11 48) 0) no_argument)) 0 true no_parameter) (and_simple (call (m 66 11 56) (object_functions (m 65 11 56) (local_name (m 64 11 56) 0) (codes "only")) no_expression) no_requirement)))
    ∷ [])
    (around 0 (None ∷ []) true ∷ around 21 (None ∷ None ∷ []) true ∷ around 24 (None ∷ []) true ∷ around 68 ([]) false ∷ [])
    ([])

abbrev pub members_and_clauses_unit_assert_12_1 : Expression
members_and_clauses_unit_assert_12_1 = concept_id (m 69 12 15) (d 6) (and_type (scalar_type (m 68 12 23) scalars.Bool) no_argument)

abbrev pub members_and_clauses_unit_assert_13_1 : Expression
members_and_clauses_unit_assert_13_1 = concept_id (m 72 13 15) (d 7) (and_type (scalar_type (m 71 13 25) scalars.Bool) no_argument)

abbrev pub members_and_clauses_unit_assert_14_1 : Expression
members_and_clauses_unit_assert_14_1 = concept_id (m 75 14 15) (d 8) (and_type (scalar_type (m 74 14 20) scalars.Int) no_argument)

abbrev pub members_and_clauses_unit_assert_15_1 : Expression
members_and_clauses_unit_assert_15_1 = concept_id (m 78 15 15) (d 8) (and_type (scalar_type (m 77 15 20) scalars.Bool) no_argument)

abbrev pub members_and_clauses_unit_assert_16_1 : Expression
members_and_clauses_unit_assert_16_1 = concept_id (m 81 16 15) (d 6) (and_type (reference_type (m 80 16 23) (scalar_type (m 80 16 23) scalars.Int)) no_argument)

abbrev pub members_and_clauses_unit_assert_17_1 : Expression
members_and_clauses_unit_assert_17_1 = concept_id (m 84 17 15) (d 6) (and_type (void_type (m 83 17 23)) no_argument)

-- template<typename T> struct S { S<T> s; };
-- int g() { S<int> s{}; return 1; }
abbrev pub holds_itself_unit : Program
holds_itself_unit =
    unit
    (a_struct (record { at = (p 1 29); itself = (inst (d 0) (arguments ((param 0) ∷ []))); is_template = true; template_parameters = (tp None None ∷ []); constraints = ([]); primary = None; specialised_for = ([]); members = (field (codes "s") (template_id (m 1 1 33) (p 1 33) (d 0) (and_type (position_type (m 0 1 35) 0) no_argument)) ∷ []) })
    ∷ a_field 0 (template_id (m 1 1 33) (p 1 33) (d 0) (and_type (position_type (m 0 1 35) 0) no_argument))
    ∷ a_function (record { at = (p 2 5); name = (codes "g"); owner = None; is_template = false; template_parameters = ([]); constraints = ([]); parameters = ([]); result = (scalar_type (m 2 2 1) scalars.Int); is_const = false; is_constexpr = false; body = Some (block (m 9 2 9) (and_statement (variable (m 6 2 11) false (as_type (template_id (m 4 2 11) (p 2 11) (d 0) (and_type (scalar_type (m 3 2 13) scalars.Int) no_argument))) 0 (braces (m 5 2 19) no_expression)) (and_statement (return_statement (m 8 2 23) (Some (literal (m 7 2 30) scalars.Int (pos 1)))) no_statement))) })
    ∷ [])
    (((codes "g"), ((d 2) ∷ [])) ∷ [])
    ([])
    ([])
    (around 0 (None ∷ []) true ∷ around 2 ([]) false ∷ [])
    ([])
