-- Class templates, their specialisations and instances ([temp.class.spec], [temp.inst]).
use Rattle.std.specs.Prelude.{◌≡◌, ℕ, pos, Bool, true, false, List, [], ◌∷◌, Option, Some, None, codes}
use Rattle.cx_base.specs.declared.kind.Kind.TheVariants as kind
use Rattle.cx_base.specs.declared.limit.Limit.TheVariants as limit
use Rattle.cx_base.specs.declared.value.Scalar.TheVariants as scalars
use Rattle.cx_machine.specs.Values.{Val, Number}
use Rattle.cx_term.specs.Term.{Term, param, scalar, void, struct, inst, const, ref, val, arguments}
use Rattle.cx_term.specs.declared.typed.Cat.TheVariants as cat
use Rattle.cx_term.specs.declared.word.Word.TheVariants as word
use Rattle.cx_questions.specs.Answers.{Answer, given, soft, hard, invalid, broken, passed, fault_at, fault_about, reached_from}
use Rattle.cx_questions.specs.Forms.{Expression, literal, local_name, position_name, field_name, constant_name, functions_name, other_name, parentheses, unary, binary, conditional, dot, scope, call, list, cast, is_same, out, concept_id, requires, no_expression, and_expression, functions, functions_with, own_functions, object_functions, no_function, position_type, scalar_type, void_type, struct_type, template_id, const_type, reference_type, member_type, decltype_type, no_argument, and_type, and_value, no_parameter, and_parameter, no_requirement, and_simple, and_type_requirement, and_compound, and_constrained, and_nested, of_type, of_value, as_type, as_auto, equals, braces, empty_statement, block, assertion, break_statement, continue_statement, return_statement, if_statement, while_statement, for_statement, variable, expression_statement, no_statement, and_statement}
use Rattle.cx_questions.specs.Program.{Program, a_function, a_struct, a_concept, a_constant, a_field, field, member_alias, static_constant, member_function}
use Rattle.cx_questions.specs.Environments.{Environment}
use Rattle.worked_units.specs.Units.{p, d, m, tp, parameter, around, unit}
use Rattle.cx_questions.specs.Stages.{Item, an_assertion, an_alias, a_declaration}

-- template<typename T, typename U> struct Is { static constexpr bool v = false; };
-- template<typename T> struct Is<T, T> { static constexpr bool v = true; };
-- static_assert(Is<int, int>::v);
-- static_assert(Is<int, bool>::v);
-- static_assert(Is<const int, int>::v);
-- static_assert(Is<const int&, const int&>::v);
abbrev pub same_types_unit : Program
same_types_unit =
    unit
    (a_struct (record { at = (p 1 41); itself = (inst (d 0) (arguments ((param 0) ∷ (param 1) ∷ []))); is_template = true; template_parameters = (tp None None ∷ tp None None ∷ []); constraints = ([]); primary = None; specialised_for = ([]); members = (static_constant (codes "v") (d 1) ∷ []) })
    ∷ a_constant (record { at = (p 1 68); name = (codes "v"); of = (scalar_type (m 0 1 63) scalars.Bool); initialiser = (literal (m 1 1 72) scalars.Bool (pos 0)); owner = (Some (d 0)) })
    ∷ a_struct (record { at = (p 2 29); itself = (inst (d 0) (arguments ((param 0) ∷ (param 0) ∷ []))); is_template = true; template_parameters = (tp None None ∷ []); constraints = ([]); primary = (Some (d 0)); specialised_for = (of_type (position_type (m 2 2 32) 0) ∷ of_type (position_type (m 3 2 35) 0) ∷ []); members = (static_constant (codes "v") (d 3) ∷ []) })
    ∷ a_constant (record { at = (p 2 62); name = (codes "v"); of = (scalar_type (m 4 2 57) scalars.Bool); initialiser = (literal (m 5 2 66) scalars.Bool (pos 1)); owner = (Some (d 2)) })
    ∷ [])
    ([])
    ((0, ((d 2) ∷ [])) ∷ [])
    ([])
    (around 0 (None ∷ None ∷ []) true ∷ around 2 (None ∷ []) true ∷ around 6 ([]) false ∷ [])
    ([])

abbrev pub same_types_unit_assert_3_1 : Expression
same_types_unit_assert_3_1 = scope (m 9 3 15) (template_id (m 8 3 15) (p 3 15) (d 0) (and_type (scalar_type (m 6 3 18) scalars.Int) (and_type (scalar_type (m 7 3 23) scalars.Int) no_argument))) ([]) (codes "v")

abbrev pub same_types_unit_assert_4_1 : Expression
same_types_unit_assert_4_1 = scope (m 14 4 15) (template_id (m 13 4 15) (p 4 15) (d 0) (and_type (scalar_type (m 11 4 18) scalars.Int) (and_type (scalar_type (m 12 4 23) scalars.Bool) no_argument))) ([]) (codes "v")

abbrev pub same_types_unit_assert_5_1 : Expression
same_types_unit_assert_5_1 = scope (m 19 5 15) (template_id (m 18 5 15) (p 5 15) (d 0) (and_type (const_type (m 16 5 18) (scalar_type (m 16 5 18) scalars.Int)) (and_type (scalar_type (m 17 5 29) scalars.Int) no_argument))) ([]) (codes "v")

abbrev pub same_types_unit_assert_6_1 : Expression
same_types_unit_assert_6_1 = scope (m 24 6 15) (template_id (m 23 6 15) (p 6 15) (d 0) (and_type (reference_type (m 21 6 18) (const_type (m 21 6 18) (scalar_type (m 21 6 18) scalars.Int))) (and_type (reference_type (m 22 6 30) (const_type (m 22 6 30) (scalar_type (m 22 6 30) scalars.Int))) no_argument))) ([]) (codes "v")

-- template<typename T> struct K { static constexpr int v = 0; };
-- template<typename T> struct K<T&> { static constexpr int v = 1; };
-- template<typename T> struct K<const T> { static constexpr int v = 2; };
-- template<typename T> struct K<const T&> { static constexpr int v = 3; };
-- template<typename T> struct K<K<T>> { static constexpr int v = 4; };
-- template<typename T> struct K<K<T&>> { static constexpr int v = 5; };
-- template<> struct K<bool> { static constexpr int v = 6; };
-- template<> struct K<K<bool>> { static constexpr int v = 7; };
-- static_assert(K<int>::v == 0);
-- static_assert(K<int&>::v == 1);
-- static_assert(K<const int>::v == 2);
-- static_assert(K<const int&>::v == 3);
-- static_assert(K<K<int>>::v == 4);
-- static_assert(K<K<int&>>::v == 5);
-- static_assert(K<bool>::v == 6);
-- static_assert(K<K<bool>>::v == 7);
-- static_assert(K<const bool>::v == 2);
-- static_assert(K<K<int>&>::v == 1);
-- static_assert(K<const K<K<int>>>::v == 2);
abbrev pub most_specialised_unit : Program
most_specialised_unit =
    unit
    (a_struct (record { at = (p 1 29); itself = (inst (d 0) (arguments ((param 0) ∷ []))); is_template = true; template_parameters = (tp None None ∷ []); constraints = ([]); primary = None; specialised_for = ([]); members = (static_constant (codes "v") (d 1) ∷ []) })
    ∷ a_constant (record { at = (p 1 54); name = (codes "v"); of = (scalar_type (m 0 1 50) scalars.Int); initialiser = (literal (m 1 1 58) scalars.Int (pos 0)); owner = (Some (d 0)) })
    ∷ a_struct (record { at = (p 2 29); itself = (inst (d 0) (arguments ((ref (param 0)) ∷ []))); is_template = true; template_parameters = (tp None None ∷ []); constraints = ([]); primary = (Some (d 0)); specialised_for = (of_type (reference_type (m 2 2 31) (position_type (m 2 2 31) 0)) ∷ []); members = (static_constant (codes "v") (d 3) ∷ []) })
    ∷ a_constant (record { at = (p 2 58); name = (codes "v"); of = (scalar_type (m 3 2 54) scalars.Int); initialiser = (literal (m 4 2 62) scalars.Int (pos 1)); owner = (Some (d 2)) })
    ∷ a_struct (record { at = (p 3 29); itself = (inst (d 0) (arguments ((const (param 0)) ∷ []))); is_template = true; template_parameters = (tp None None ∷ []); constraints = ([]); primary = (Some (d 0)); specialised_for = (of_type (const_type (m 5 3 31) (position_type (m 5 3 31) 0)) ∷ []); members = (static_constant (codes "v") (d 5) ∷ []) })
    ∷ a_constant (record { at = (p 3 63); name = (codes "v"); of = (scalar_type (m 6 3 59) scalars.Int); initialiser = (literal (m 7 3 67) scalars.Int (pos 2)); owner = (Some (d 4)) })
    ∷ a_struct (record { at = (p 4 29); itself = (inst (d 0) (arguments ((ref (const (param 0))) ∷ []))); is_template = true; template_parameters = (tp None None ∷ []); constraints = ([]); primary = (Some (d 0)); specialised_for = (of_type (reference_type (m 8 4 31) (const_type (m 8 4 31) (position_type (m 8 4 31) 0))) ∷ []); members = (static_constant (codes "v") (d 7) ∷ []) })
    ∷ a_constant (record { at = (p 4 64); name = (codes "v"); of = (scalar_type (m 9 4 60) scalars.Int); initialiser = (literal (m 10 4 68) scalars.Int (pos 3)); owner = (Some (d 6)) })
    ∷ a_struct (record { at = (p 5 29); itself = (inst (d 0) (arguments ((inst (d 0) (arguments ((param 0) ∷ []))) ∷ []))); is_template = true; template_parameters = (tp None None ∷ []); constraints = ([]); primary = (Some (d 0)); specialised_for = (of_type (template_id (m 12 5 31) (p 5 31) (d 0) (and_type (position_type (m 11 5 33) 0) no_argument)) ∷ []); members = (static_constant (codes "v") (d 9) ∷ []) })
    ∷ a_constant (record { at = (p 5 60); name = (codes "v"); of = (scalar_type (m 13 5 56) scalars.Int); initialiser = (literal (m 14 5 64) scalars.Int (pos 4)); owner = (Some (d 8)) })
    ∷ a_struct (record { at = (p 6 29); itself = (inst (d 0) (arguments ((inst (d 0) (arguments ((ref (param 0)) ∷ []))) ∷ []))); is_template = true; template_parameters = (tp None None ∷ []); constraints = ([]); primary = (Some (d 0)); specialised_for = (of_type (template_id (m 16 6 31) (p 6 31) (d 0) (and_type (reference_type (m 15 6 33) (position_type (m 15 6 33) 0)) no_argument)) ∷ []); members = (static_constant (codes "v") (d 11) ∷ []) })
    ∷ a_constant (record { at = (p 6 61); name = (codes "v"); of = (scalar_type (m 17 6 57) scalars.Int); initialiser = (literal (m 18 6 65) scalars.Int (pos 5)); owner = (Some (d 10)) })
    ∷ a_struct (record { at = (p 7 19); itself = (inst (d 0) (arguments ((scalar scalars.Bool) ∷ []))); is_template = false; template_parameters = ([]); constraints = ([]); primary = (Some (d 0)); specialised_for = (of_type (scalar_type (m 19 7 21) scalars.Bool) ∷ []); members = (static_constant (codes "v") (d 13) ∷ []) })
    ∷ a_constant (record { at = (p 7 50); name = (codes "v"); of = (scalar_type (m 20 7 46) scalars.Int); initialiser = (literal (m 21 7 54) scalars.Int (pos 6)); owner = (Some (d 12)) })
    ∷ a_struct (record { at = (p 8 19); itself = (inst (d 0) (arguments ((inst (d 0) (arguments ((scalar scalars.Bool) ∷ []))) ∷ []))); is_template = false; template_parameters = ([]); constraints = ([]); primary = (Some (d 0)); specialised_for = (of_type (template_id (m 23 8 21) (p 8 21) (d 0) (and_type (scalar_type (m 22 8 23) scalars.Bool) no_argument)) ∷ []); members = (static_constant (codes "v") (d 15) ∷ []) })
    ∷ a_constant (record { at = (p 8 53); name = (codes "v"); of = (scalar_type (m 24 8 49) scalars.Int); initialiser = (literal (m 25 8 57) scalars.Int (pos 7)); owner = (Some (d 14)) })
    ∷ [])
    ([])
    ((0, ((d 2) ∷ (d 4) ∷ (d 6) ∷ (d 8) ∷ (d 10) ∷ (d 12) ∷ (d 14) ∷ [])) ∷ [])
    ([])
    (around 0 (None ∷ []) true ∷ around 19 ([]) false ∷ [])
    ([])

abbrev pub most_specialised_unit_assert_9_1 : Expression
most_specialised_unit_assert_9_1 = binary (m 30 9 15) word.Equal (scope (m 28 9 15) (template_id (m 27 9 15) (p 9 15) (d 0) (and_type (scalar_type (m 26 9 17) scalars.Int) no_argument)) ([]) (codes "v")) (literal (m 29 9 28) scalars.Int (pos 0))

abbrev pub most_specialised_unit_assert_10_1 : Expression
most_specialised_unit_assert_10_1 = binary (m 36 10 15) word.Equal (scope (m 34 10 15) (template_id (m 33 10 15) (p 10 15) (d 0) (and_type (reference_type (m 32 10 17) (scalar_type (m 32 10 17) scalars.Int)) no_argument)) ([]) (codes "v")) (literal (m 35 10 29) scalars.Int (pos 1))

abbrev pub most_specialised_unit_assert_11_1 : Expression
most_specialised_unit_assert_11_1 = binary (m 42 11 15) word.Equal (scope (m 40 11 15) (template_id (m 39 11 15) (p 11 15) (d 0) (and_type (const_type (m 38 11 17) (scalar_type (m 38 11 17) scalars.Int)) no_argument)) ([]) (codes "v")) (literal (m 41 11 34) scalars.Int (pos 2))

abbrev pub most_specialised_unit_assert_12_1 : Expression
most_specialised_unit_assert_12_1 = binary (m 48 12 15) word.Equal (scope (m 46 12 15) (template_id (m 45 12 15) (p 12 15) (d 0) (and_type (reference_type (m 44 12 17) (const_type (m 44 12 17) (scalar_type (m 44 12 17) scalars.Int))) no_argument)) ([]) (codes "v")) (literal (m 47 12 35) scalars.Int (pos 3))

abbrev pub most_specialised_unit_assert_13_1 : Expression
most_specialised_unit_assert_13_1 = binary (m 55 13 15) word.Equal (scope (m 53 13 15) (template_id (m 52 13 15) (p 13 15) (d 0) (and_type (template_id (m 51 13 17) (p 13 17) (d 0) (and_type (scalar_type (m 50 13 19) scalars.Int) no_argument)) no_argument)) ([]) (codes "v")) (literal (m 54 13 31) scalars.Int (pos 4))

abbrev pub most_specialised_unit_assert_14_1 : Expression
most_specialised_unit_assert_14_1 = binary (m 62 14 15) word.Equal (scope (m 60 14 15) (template_id (m 59 14 15) (p 14 15) (d 0) (and_type (template_id (m 58 14 17) (p 14 17) (d 0) (and_type (reference_type (m 57 14 19) (scalar_type (m 57 14 19) scalars.Int)) no_argument)) no_argument)) ([]) (codes "v")) (literal (m 61 14 32) scalars.Int (pos 5))

abbrev pub most_specialised_unit_assert_15_1 : Expression
most_specialised_unit_assert_15_1 = binary (m 68 15 15) word.Equal (scope (m 66 15 15) (template_id (m 65 15 15) (p 15 15) (d 0) (and_type (scalar_type (m 64 15 17) scalars.Bool) no_argument)) ([]) (codes "v")) (literal (m 67 15 29) scalars.Int (pos 6))

abbrev pub most_specialised_unit_assert_16_1 : Expression
most_specialised_unit_assert_16_1 = binary (m 75 16 15) word.Equal (scope (m 73 16 15) (template_id (m 72 16 15) (p 16 15) (d 0) (and_type (template_id (m 71 16 17) (p 16 17) (d 0) (and_type (scalar_type (m 70 16 19) scalars.Bool) no_argument)) no_argument)) ([]) (codes "v")) (literal (m 74 16 32) scalars.Int (pos 7))

abbrev pub most_specialised_unit_assert_17_1 : Expression
most_specialised_unit_assert_17_1 = binary (m 81 17 15) word.Equal (scope (m 79 17 15) (template_id (m 78 17 15) (p 17 15) (d 0) (and_type (const_type (m 77 17 17) (scalar_type (m 77 17 17) scalars.Bool)) no_argument)) ([]) (codes "v")) (literal (m 80 17 35) scalars.Int (pos 2))

abbrev pub most_specialised_unit_assert_18_1 : Expression
most_specialised_unit_assert_18_1 = binary (m 88 18 15) word.Equal (scope (m 86 18 15) (template_id (m 85 18 15) (p 18 15) (d 0) (and_type (reference_type (m 84 18 17) (template_id (m 84 18 17) (p 18 17) (d 0) (and_type (scalar_type (m 83 18 19) scalars.Int) no_argument))) no_argument)) ([]) (codes "v")) (literal (m 87 18 32) scalars.Int (pos 1))

abbrev pub most_specialised_unit_assert_19_1 : Expression
most_specialised_unit_assert_19_1 = binary (m 96 19 15) word.Equal (scope (m 94 19 15) (template_id (m 93 19 15) (p 19 15) (d 0) (and_type (const_type (m 92 19 17) (template_id (m 92 19 17) (p 19 23) (d 0) (and_type (template_id (m 91 19 25) (p 19 25) (d 0) (and_type (scalar_type (m 90 19 27) scalars.Int) no_argument)) no_argument))) no_argument)) ([]) (codes "v")) (literal (m 95 19 40) scalars.Int (pos 2))

-- template<typename T, typename U> struct Two { static constexpr int v = 0; };
-- template<typename T> struct Two<T, int> { static constexpr int v = 1; };
-- template<typename U> struct Two<int, U> { static constexpr int v = 2; };
-- template<typename T> struct Two<T, T> { static constexpr int v = 3; };
-- template<typename T> struct Three { static constexpr int v = Two<T, T>::v; };
-- template<typename T> concept C = requires { Two<T, int>::v; };
-- static_assert(Two<bool, int>::v == 1);
-- static_assert(Two<int, bool>::v == 2);
-- static_assert(Two<bool, bool>::v == 3);
-- static_assert(Two<int, int>::v == 1);
-- static_assert(Three<int>::v == 1);
-- static_assert(C<int>);
-- static_assert(Two<bool, unsigned>::v == 0);
abbrev pub not_ordered_unit : Program
not_ordered_unit =
    unit
    (a_struct (record { at = (p 1 41); itself = (inst (d 0) (arguments ((param 0) ∷ (param 1) ∷ []))); is_template = true; template_parameters = (tp None None ∷ tp None None ∷ []); constraints = ([]); primary = None; specialised_for = ([]); members = (static_constant (codes "v") (d 1) ∷ []) })
    ∷ a_constant (record { at = (p 1 68); name = (codes "v"); of = (scalar_type (m 0 1 64) scalars.Int); initialiser = (literal (m 1 1 72) scalars.Int (pos 0)); owner = (Some (d 0)) })
    ∷ a_struct (record { at = (p 2 29); itself = (inst (d 0) (arguments ((param 0) ∷ (scalar scalars.Int) ∷ []))); is_template = true; template_parameters = (tp None None ∷ []); constraints = ([]); primary = (Some (d 0)); specialised_for = (of_type (position_type (m 2 2 33) 0) ∷ of_type (scalar_type (m 3 2 36) scalars.Int) ∷ []); members = (static_constant (codes "v") (d 3) ∷ []) })
    ∷ a_constant (record { at = (p 2 64); name = (codes "v"); of = (scalar_type (m 4 2 60) scalars.Int); initialiser = (literal (m 5 2 68) scalars.Int (pos 1)); owner = (Some (d 2)) })
    ∷ a_struct (record { at = (p 3 29); itself = (inst (d 0) (arguments ((scalar scalars.Int) ∷ (param 0) ∷ []))); is_template = true; template_parameters = (tp None None ∷ []); constraints = ([]); primary = (Some (d 0)); specialised_for = (of_type (scalar_type (m 6 3 33) scalars.Int) ∷ of_type (position_type (m 7 3 38) 0) ∷ []); members = (static_constant (codes "v") (d 5) ∷ []) })
    ∷ a_constant (record { at = (p 3 64); name = (codes "v"); of = (scalar_type (m 8 3 60) scalars.Int); initialiser = (literal (m 9 3 68) scalars.Int (pos 2)); owner = (Some (d 4)) })
    ∷ a_struct (record { at = (p 4 29); itself = (inst (d 0) (arguments ((param 0) ∷ (param 0) ∷ []))); is_template = true; template_parameters = (tp None None ∷ []); constraints = ([]); primary = (Some (d 0)); specialised_for = (of_type (position_type (m 10 4 33) 0) ∷ of_type (position_type (m 11 4 36) 0) ∷ []); members = (static_constant (codes "v") (d 7) ∷ []) })
    ∷ a_constant (record { at = (p 4 62); name = (codes "v"); of = (scalar_type (m 12 4 58) scalars.Int); initialiser = (literal (m 13 4 66) scalars.Int (pos 3)); owner = (Some (d 6)) })
    ∷ a_struct (record { at = (p 5 29); itself = (inst (d 8) (arguments ((param 0) ∷ []))); is_template = true; template_parameters = (tp None None ∷ []); constraints = ([]); primary = None; specialised_for = ([]); members = (static_constant (codes "v") (d 9) ∷ []) })
    ∷ a_constant (record { at = (p 5 58); name = (codes "v"); of = (scalar_type (m 14 5 54) scalars.Int); initialiser = (scope (m 18 5 62) (template_id (m 17 5 62) (p 5 62) (d 0) (and_type (position_type (m 15 5 66) 0) (and_type (position_type (m 16 5 69) 0) no_argument))) ([]) (codes "v")); owner = (Some (d 8)) })
    ∷ a_concept (record { at = (p 6 30); template_parameters = (tp None None ∷ []); condition = (requires (m 23 6 34) no_parameter (and_simple (scope (m 22 6 45) (template_id (m 21 6 45) (p 6 45) (d 0) (and_type (position_type (m 19 6 49) 0) (and_type (scalar_type (m 20 6 52) scalars.Int) no_argument))) ([]) (codes "v")) no_requirement)) })
    ∷ [])
    ([])
    ((0, ((d 2) ∷ (d 4) ∷ (d 6) ∷ [])) ∷ [])
    ((23, (requires (m 23 6 34) no_parameter (and_simple (scope (m 22 6 45) (template_id (m 21 6 45) (p 6 45) (d 0) (and_type (position_type (m 19 6 49) 0) (and_type (scalar_type (m 20 6 52) scalars.Int) no_argument))) ([]) (codes "v")) no_requirement)))
    ∷ [])
    (around 0 (None ∷ None ∷ []) true ∷ around 2 (None ∷ []) true ∷ around 24 ([]) false ∷ [])
    ([])

abbrev pub not_ordered_unit_assert_7_1 : Expression
not_ordered_unit_assert_7_1 = binary (m 29 7 15) word.Equal (scope (m 27 7 15) (template_id (m 26 7 15) (p 7 15) (d 0) (and_type (scalar_type (m 24 7 19) scalars.Bool) (and_type (scalar_type (m 25 7 25) scalars.Int) no_argument))) ([]) (codes "v")) (literal (m 28 7 36) scalars.Int (pos 1))

abbrev pub not_ordered_unit_assert_8_1 : Expression
not_ordered_unit_assert_8_1 = binary (m 36 8 15) word.Equal (scope (m 34 8 15) (template_id (m 33 8 15) (p 8 15) (d 0) (and_type (scalar_type (m 31 8 19) scalars.Int) (and_type (scalar_type (m 32 8 24) scalars.Bool) no_argument))) ([]) (codes "v")) (literal (m 35 8 36) scalars.Int (pos 2))

abbrev pub not_ordered_unit_assert_9_1 : Expression
not_ordered_unit_assert_9_1 = binary (m 43 9 15) word.Equal (scope (m 41 9 15) (template_id (m 40 9 15) (p 9 15) (d 0) (and_type (scalar_type (m 38 9 19) scalars.Bool) (and_type (scalar_type (m 39 9 25) scalars.Bool) no_argument))) ([]) (codes "v")) (literal (m 42 9 37) scalars.Int (pos 3))

abbrev pub not_ordered_unit_assert_10_1 : Expression
not_ordered_unit_assert_10_1 = binary (m 50 10 15) word.Equal (scope (m 48 10 15) (template_id (m 47 10 15) (p 10 15) (d 0) (and_type (scalar_type (m 45 10 19) scalars.Int) (and_type (scalar_type (m 46 10 24) scalars.Int) no_argument))) ([]) (codes "v")) (literal (m 49 10 35) scalars.Int (pos 1))

abbrev pub not_ordered_unit_assert_11_1 : Expression
not_ordered_unit_assert_11_1 = binary (m 56 11 15) word.Equal (scope (m 54 11 15) (template_id (m 53 11 15) (p 11 15) (d 8) (and_type (scalar_type (m 52 11 21) scalars.Int) no_argument)) ([]) (codes "v")) (literal (m 55 11 32) scalars.Int (pos 1))

abbrev pub not_ordered_unit_assert_12_1 : Expression
not_ordered_unit_assert_12_1 = concept_id (m 59 12 15) (d 10) (and_type (scalar_type (m 58 12 17) scalars.Int) no_argument)

abbrev pub not_ordered_unit_assert_13_1 : Expression
not_ordered_unit_assert_13_1 = binary (m 66 13 15) word.Equal (scope (m 64 13 15) (template_id (m 63 13 15) (p 13 15) (d 0) (and_type (scalar_type (m 61 13 19) scalars.Bool) (and_type (scalar_type (m 62 13 25) scalars.Unsigned) no_argument))) ([]) (codes "v")) (literal (m 65 13 41) scalars.Int (pos 0))

-- template<typename T> concept A = __is_same(T, int) || __is_same(T, bool);
-- template<typename T> concept B = A<T> && __is_same(T, int);
-- template<typename T> struct K { static constexpr int v = 0; };
-- template<A T> struct K<T> { static constexpr int v = 1; };
-- template<B T> struct K<T> { static constexpr int v = 2; };
-- template<typename T> requires (__is_same(T, long long)) struct K<T> { static constexpr int v = 3; };
-- template<A T> struct K<T&> { static constexpr int v = 4; };
-- template<typename T> struct M { static constexpr int v = 0; };
-- template<A T> struct M<T> { static constexpr int v = 1; };
-- template<typename T> requires (__is_same(T, int)) struct M<T> { static constexpr int v = 2; };
-- static_assert(K<int>::v == 2);
-- static_assert(K<bool>::v == 1);
-- static_assert(K<unsigned>::v == 0);
-- static_assert(K<long long>::v == 3);
-- static_assert(K<int&>::v == 4);
-- static_assert(K<unsigned&>::v == 0);
-- static_assert(M<bool>::v == 1);
-- static_assert(M<int>::v == 1);
abbrev pub by_constraints_unit : Program
by_constraints_unit =
    unit
    (a_concept (record { at = (p 1 30); template_parameters = (tp None None ∷ []); condition = (binary (m 6 1 34) word.LogicalOr (is_same (m 2 1 34) (position_type (m 0 1 44) 0) (scalar_type (m 1 1 47) scalars.Int)) (is_same (m 5 1 55) (position_type (m 3 1 65) 0) (scalar_type (m 4 1 68) scalars.Bool))) })
    ∷ a_concept (record { at = (p 2 30); template_parameters = (tp None None ∷ []); condition = (binary (m 12 2 34) word.LogicalAnd (concept_id (m 8 2 34) (d 0) (and_type (position_type (m 7 2 36) 0) no_argument)) (is_same (m 11 2 42) (position_type (m 9 2 52) 0) (scalar_type (m 10 2 55) scalars.Int))) })
    ∷ a_struct (record { at = (p 3 29); itself = (inst (d 2) (arguments ((param 0) ∷ []))); is_template = true; template_parameters = (tp None None ∷ []); constraints = ([]); primary = None; specialised_for = ([]); members = (static_constant (codes "v") (d 3) ∷ []) })
    ∷ a_constant (record { at = (p 3 54); name = (codes "v"); of = (scalar_type (m 13 3 50) scalars.Int); initialiser = (literal (m 14 3 58) scalars.Int (pos 0)); owner = (Some (d 2)) })
    ∷ a_struct (record { at = (p 4 22); itself = (inst (d 2) (arguments ((param 0) ∷ []))); is_template = true; template_parameters = (tp None None ∷ []); constraints = ((concept_id (m 15 4 10) (d 0) (and_type (position_type (m 15 4 10) 0) no_argument)) ∷ []); primary = (Some (d 2)); specialised_for = (of_type (position_type (m 16 4 24) 0) ∷ []); members = (static_constant (codes "v") (d 5) ∷ []) })
    ∷ a_constant (record { at = (p 4 50); name = (codes "v"); of = (scalar_type (m 17 4 46) scalars.Int); initialiser = (literal (m 18 4 54) scalars.Int (pos 1)); owner = (Some (d 4)) })
    ∷ a_struct (record { at = (p 5 22); itself = (inst (d 2) (arguments ((param 0) ∷ []))); is_template = true; template_parameters = (tp None None ∷ []); constraints = ((concept_id (m 19 5 10) (d 1) (and_type (position_type (m 19 5 10) 0) no_argument)) ∷ []); primary = (Some (d 2)); specialised_for = (of_type (position_type (m 20 5 24) 0) ∷ []); members = (static_constant (codes "v") (d 7) ∷ []) })
    ∷ a_constant (record { at = (p 5 50); name = (codes "v"); of = (scalar_type (m 21 5 46) scalars.Int); initialiser = (literal (m 22 5 54) scalars.Int (pos 2)); owner = (Some (d 6)) })
    ∷ a_struct (record { at = (p 6 64); itself = (inst (d 2) (arguments ((param 0) ∷ []))); is_template = true; template_parameters = (tp None None ∷ []); constraints = ((parentheses (m 26 6 31) (is_same (m 25 6 32) (position_type (m 23 6 42) 0) (scalar_type (m 24 6 45) scalars.LongLong))) ∷ []); primary = (Some (d 2)); specialised_for = (of_type (position_type (m 27 6 66) 0) ∷ []); members = (static_constant (codes "v") (d 9) ∷ []) })
    ∷ a_constant (record { at = (p 6 92); name = (codes "v"); of = (scalar_type (m 28 6 88) scalars.Int); initialiser = (literal (m 29 6 96) scalars.Int (pos 3)); owner = (Some (d 8)) })
    ∷ a_struct (record { at = (p 7 22); itself = (inst (d 2) (arguments ((ref (param 0)) ∷ []))); is_template = true; template_parameters = (tp None None ∷ []); constraints = ((concept_id (m 30 7 10) (d 0) (and_type (position_type (m 30 7 10) 0) no_argument)) ∷ []); primary = (Some (d 2)); specialised_for = (of_type (reference_type (m 31 7 24) (position_type (m 31 7 24) 0)) ∷ []); members = (static_constant (codes "v") (d 11) ∷ []) })
    ∷ a_constant (record { at = (p 7 51); name = (codes "v"); of = (scalar_type (m 32 7 47) scalars.Int); initialiser = (literal (m 33 7 55) scalars.Int (pos 4)); owner = (Some (d 10)) })
    ∷ a_struct (record { at = (p 8 29); itself = (inst (d 12) (arguments ((param 0) ∷ []))); is_template = true; template_parameters = (tp None None ∷ []); constraints = ([]); primary = None; specialised_for = ([]); members = (static_constant (codes "v") (d 13) ∷ []) })
    ∷ a_constant (record { at = (p 8 54); name = (codes "v"); of = (scalar_type (m 34 8 50) scalars.Int); initialiser = (literal (m 35 8 58) scalars.Int (pos 0)); owner = (Some (d 12)) })
    ∷ a_struct (record { at = (p 9 22); itself = (inst (d 12) (arguments ((param 0) ∷ []))); is_template = true; template_parameters = (tp None None ∷ []); constraints = ((concept_id (m 36 9 10) (d 0) (and_type (position_type (m 36 9 10) 0) no_argument)) ∷ []); primary = (Some (d 12)); specialised_for = (of_type (position_type (m 37 9 24) 0) ∷ []); members = (static_constant (codes "v") (d 15) ∷ []) })
    ∷ a_constant (record { at = (p 9 50); name = (codes "v"); of = (scalar_type (m 38 9 46) scalars.Int); initialiser = (literal (m 39 9 54) scalars.Int (pos 1)); owner = (Some (d 14)) })
    ∷ a_struct (record { at = (p 10 58); itself = (inst (d 12) (arguments ((param 0) ∷ []))); is_template = true; template_parameters = (tp None None ∷ []); constraints = ((parentheses (m 43 10 31) (is_same (m 42 10 32) (position_type (m 40 10 42) 0) (scalar_type (m 41 10 45) scalars.Int))) ∷ []); primary = (Some (d 12)); specialised_for = (of_type (position_type (m 44 10 60) 0) ∷ []); members = (static_constant (codes "v") (d 17) ∷ []) })
    ∷ a_constant (record { at = (p 10 86); name = (codes "v"); of = (scalar_type (m 45 10 82) scalars.Int); initialiser = (literal (m 46 10 90) scalars.Int (pos 2)); owner = (Some (d 16)) })
    ∷ [])
    ([])
    ((2, ((d 4) ∷ (d 6) ∷ (d 8) ∷ (d 10) ∷ [])) ∷ (12, ((d 14) ∷ (d 16) ∷ [])) ∷ [])
    ((2, (is_same (m 2 1 34) (position_type (m 0 1 44) 0) (scalar_type (m 1 1 47) scalars.Int)))
    ∷ (5, (is_same (m 5 1 55) (position_type (m 3 1 65) 0) (scalar_type (m 4 1 68) scalars.Bool)))
    ∷ (11, (is_same (m 11 2 42) (position_type (m 9 2 52) 0) (scalar_type (m 10 2 55) scalars.Int)))
    ∷ (25, (is_same (m 25 6 32) (position_type (m 23 6 42) 0) (scalar_type (m 24 6 45) scalars.LongLong)))
    ∷ (42, (is_same (m 42 10 32) (position_type (m 40 10 42) 0) (scalar_type (m 41 10 45) scalars.Int)))
    ∷ [])
    (around 0 (None ∷ []) true ∷ around 47 ([]) false ∷ [])
    ([])

abbrev pub by_constraints_unit_assert_11_1 : Expression
by_constraints_unit_assert_11_1 = binary (m 51 11 15) word.Equal (scope (m 49 11 15) (template_id (m 48 11 15) (p 11 15) (d 2) (and_type (scalar_type (m 47 11 17) scalars.Int) no_argument)) ([]) (codes "v")) (literal (m 50 11 28) scalars.Int (pos 2))

abbrev pub by_constraints_unit_assert_12_1 : Expression
by_constraints_unit_assert_12_1 = binary (m 57 12 15) word.Equal (scope (m 55 12 15) (template_id (m 54 12 15) (p 12 15) (d 2) (and_type (scalar_type (m 53 12 17) scalars.Bool) no_argument)) ([]) (codes "v")) (literal (m 56 12 29) scalars.Int (pos 1))

abbrev pub by_constraints_unit_assert_13_1 : Expression
by_constraints_unit_assert_13_1 = binary (m 63 13 15) word.Equal (scope (m 61 13 15) (template_id (m 60 13 15) (p 13 15) (d 2) (and_type (scalar_type (m 59 13 17) scalars.Unsigned) no_argument)) ([]) (codes "v")) (literal (m 62 13 33) scalars.Int (pos 0))

abbrev pub by_constraints_unit_assert_14_1 : Expression
by_constraints_unit_assert_14_1 = binary (m 69 14 15) word.Equal (scope (m 67 14 15) (template_id (m 66 14 15) (p 14 15) (d 2) (and_type (scalar_type (m 65 14 17) scalars.LongLong) no_argument)) ([]) (codes "v")) (literal (m 68 14 34) scalars.Int (pos 3))

abbrev pub by_constraints_unit_assert_15_1 : Expression
by_constraints_unit_assert_15_1 = binary (m 75 15 15) word.Equal (scope (m 73 15 15) (template_id (m 72 15 15) (p 15 15) (d 2) (and_type (reference_type (m 71 15 17) (scalar_type (m 71 15 17) scalars.Int)) no_argument)) ([]) (codes "v")) (literal (m 74 15 29) scalars.Int (pos 4))

abbrev pub by_constraints_unit_assert_16_1 : Expression
by_constraints_unit_assert_16_1 = binary (m 81 16 15) word.Equal (scope (m 79 16 15) (template_id (m 78 16 15) (p 16 15) (d 2) (and_type (reference_type (m 77 16 17) (scalar_type (m 77 16 17) scalars.Unsigned)) no_argument)) ([]) (codes "v")) (literal (m 80 16 34) scalars.Int (pos 0))

abbrev pub by_constraints_unit_assert_17_1 : Expression
by_constraints_unit_assert_17_1 = binary (m 87 17 15) word.Equal (scope (m 85 17 15) (template_id (m 84 17 15) (p 17 15) (d 12) (and_type (scalar_type (m 83 17 17) scalars.Bool) no_argument)) ([]) (codes "v")) (literal (m 86 17 29) scalars.Int (pos 1))

abbrev pub by_constraints_unit_assert_18_1 : Expression
by_constraints_unit_assert_18_1 = binary (m 93 18 15) word.Equal (scope (m 91 18 15) (template_id (m 90 18 15) (p 18 15) (d 12) (and_type (scalar_type (m 89 18 17) scalars.Int) no_argument)) ([]) (codes "v")) (literal (m 92 18 28) scalars.Int (pos 1))

-- constexpr int two = 2;
-- template<unsigned N> struct D { static constexpr int v = 9; };
-- template<> struct D<0> { static constexpr int v = 0; };
-- template<> struct D<1u> { static constexpr int v = 1; };
-- template<> struct D<two> { static constexpr int v = 2; };
-- template<> struct D<1 + 2> { static constexpr int v = 3; };
-- template<typename T, int N> struct E { static constexpr int v = 9; };
-- template<typename T> struct E<T, 0> { static constexpr int v = 0; };
-- template<typename T> struct E<T, -1> { static constexpr int v = 1; };
-- template<int N> struct E<int, N> { static constexpr int v = 2; };
-- template<int N> struct E<bool, N + 1> { static constexpr int v = 3; };
-- static_assert(D<0>::v == 0);
-- static_assert(D<0u>::v == 0);
-- static_assert(D<1>::v == 1);
-- static_assert(D<2>::v == 2);
-- static_assert(D<3>::v == 3);
-- static_assert(D<4>::v == 9);
-- static_assert(E<bool, 0>::v == 0);
-- static_assert(E<bool, 0 - 1>::v == 1);
-- static_assert(E<int, 5>::v == 2);
-- static_assert(E<bool, 5>::v == 9);
-- static_assert(E<int, 0>::v == 0);
abbrev pub value_lists_unit : Program
value_lists_unit =
    unit
    (a_constant (record { at = (p 1 15); name = (codes "two"); of = (scalar_type (m 0 1 11) scalars.Int); initialiser = (literal (m 1 1 21) scalars.Int (pos 2)); owner = None })
    ∷ a_struct (record { at = (p 2 29); itself = (inst (d 1) (arguments ((param 0) ∷ []))); is_template = true; template_parameters = (tp (Some scalars.Unsigned) None ∷ []); constraints = ([]); primary = None; specialised_for = ([]); members = (static_constant (codes "v") (d 2) ∷ []) })
    ∷ a_constant (record { at = (p 2 54); name = (codes "v"); of = (scalar_type (m 2 2 50) scalars.Int); initialiser = (literal (m 3 2 58) scalars.Int (pos 9)); owner = (Some (d 1)) })
    ∷ a_struct (record { at = (p 3 19); itself = (inst (d 1) (arguments ((val scalars.Int (pos 0)) ∷ []))); is_template = false; template_parameters = ([]); constraints = ([]); primary = (Some (d 1)); specialised_for = (of_value (literal (m 4 3 21) scalars.Int (pos 0)) ∷ []); members = (static_constant (codes "v") (d 4) ∷ []) })
    ∷ a_constant (record { at = (p 3 47); name = (codes "v"); of = (scalar_type (m 5 3 43) scalars.Int); initialiser = (literal (m 6 3 51) scalars.Int (pos 0)); owner = (Some (d 3)) })
    ∷ a_struct (record { at = (p 4 19); itself = (inst (d 1) (arguments ((val scalars.Unsigned (pos 1)) ∷ []))); is_template = false; template_parameters = ([]); constraints = ([]); primary = (Some (d 1)); specialised_for = (of_value (literal (m 7 4 21) scalars.Unsigned (pos 1)) ∷ []); members = (static_constant (codes "v") (d 6) ∷ []) })
    ∷ a_constant (record { at = (p 4 48); name = (codes "v"); of = (scalar_type (m 8 4 44) scalars.Int); initialiser = (literal (m 9 4 52) scalars.Int (pos 1)); owner = (Some (d 5)) })
    ∷ a_struct (record { at = (p 5 19); itself = (inst (d 1) (arguments (void ∷ []))); is_template = false; template_parameters = ([]); constraints = ([]); primary = (Some (d 1)); specialised_for = (of_value (constant_name (m 10 5 21) (d 0)) ∷ []); members = (static_constant (codes "v") (d 8) ∷ []) })
    ∷ a_constant (record { at = (p 5 49); name = (codes "v"); of = (scalar_type (m 11 5 45) scalars.Int); initialiser = (literal (m 12 5 53) scalars.Int (pos 2)); owner = (Some (d 7)) })
    ∷ a_struct (record { at = (p 6 19); itself = (inst (d 1) (arguments (void ∷ []))); is_template = false; template_parameters = ([]); constraints = ([]); primary = (Some (d 1)); specialised_for = (of_value (binary (m 15 6 21) word.Plus (literal (m 13 6 21) scalars.Int (pos 1)) (literal (m 14 6 25) scalars.Int (pos 2))) ∷ []); members = (static_constant (codes "v") (d 10) ∷ []) })
    ∷ a_constant (record { at = (p 6 51); name = (codes "v"); of = (scalar_type (m 16 6 47) scalars.Int); initialiser = (literal (m 17 6 55) scalars.Int (pos 3)); owner = (Some (d 9)) })
    ∷ a_struct (record { at = (p 7 36); itself = (inst (d 11) (arguments ((param 0) ∷ (param 1) ∷ []))); is_template = true; template_parameters = (tp None None ∷ tp (Some scalars.Int) None ∷ []); constraints = ([]); primary = None; specialised_for = ([]); members = (static_constant (codes "v") (d 12) ∷ []) })
    ∷ a_constant (record { at = (p 7 61); name = (codes "v"); of = (scalar_type (m 18 7 57) scalars.Int); initialiser = (literal (m 19 7 65) scalars.Int (pos 9)); owner = (Some (d 11)) })
    ∷ a_struct (record { at = (p 8 29); itself = (inst (d 11) (arguments ((param 0) ∷ (val scalars.Int (pos 0)) ∷ []))); is_template = true; template_parameters = (tp None None ∷ []); constraints = ([]); primary = (Some (d 11)); specialised_for = (of_type (position_type (m 20 8 31) 0) ∷ of_value (literal (m 21 8 34) scalars.Int (pos 0)) ∷ []); members = (static_constant (codes "v") (d 14) ∷ []) })
    ∷ a_constant (record { at = (p 8 60); name = (codes "v"); of = (scalar_type (m 22 8 56) scalars.Int); initialiser = (literal (m 23 8 64) scalars.Int (pos 0)); owner = (Some (d 13)) })
    ∷ a_struct (record { at = (p 9 29); itself = (inst (d 11) (arguments ((param 0) ∷ void ∷ []))); is_template = true; template_parameters = (tp None None ∷ []); constraints = ([]); primary = (Some (d 11)); specialised_for = (of_type (position_type (m 24 9 31) 0) ∷ of_value (unary (m 26 9 34) word.Minus (literal (m 25 9 35) scalars.Int (pos 1))) ∷ []); members = (static_constant (codes "v") (d 16) ∷ []) })
    ∷ a_constant (record { at = (p 9 61); name = (codes "v"); of = (scalar_type (m 27 9 57) scalars.Int); initialiser = (literal (m 28 9 65) scalars.Int (pos 1)); owner = (Some (d 15)) })
    ∷ a_struct (record { at = (p 10 24); itself = (inst (d 11) (arguments ((scalar scalars.Int) ∷ (param 0) ∷ []))); is_template = true; template_parameters = (tp (Some scalars.Int) None ∷ []); constraints = ([]); primary = (Some (d 11)); specialised_for = (of_type (scalar_type (m 29 10 26) scalars.Int) ∷ of_value (position_name (m 30 10 31) 0) ∷ []); members = (static_constant (codes "v") (d 18) ∷ []) })
    ∷ a_constant (record { at = (p 10 57); name = (codes "v"); of = (scalar_type (m 31 10 53) scalars.Int); initialiser = (literal (m 32 10 61) scalars.Int (pos 2)); owner = (Some (d 17)) })
    ∷ a_struct (record { at = (p 11 24); itself = (inst (d 11) (arguments ((scalar scalars.Bool) ∷ void ∷ []))); is_template = true; template_parameters = (tp (Some scalars.Int) None ∷ []); constraints = ([]); primary = (Some (d 11)); specialised_for = (of_type (scalar_type (m 33 11 26) scalars.Bool) ∷ of_value (binary (m 36 11 32) word.Plus (position_name (m 34 11 32) 0) (literal (m 35 11 36) scalars.Int (pos 1))) ∷ []); members = (static_constant (codes "v") (d 20) ∷ []) })
    ∷ a_constant (record { at = (p 11 62); name = (codes "v"); of = (scalar_type (m 37 11 58) scalars.Int); initialiser = (literal (m 38 11 66) scalars.Int (pos 3)); owner = (Some (d 19)) })
    ∷ [])
    ([])
    ((1, ((d 3) ∷ (d 5) ∷ (d 7) ∷ (d 9) ∷ [])) ∷ (11, ((d 13) ∷ (d 15) ∷ (d 17) ∷ (d 19) ∷ [])) ∷ [])
    ([])
    (around 0 ([]) false ∷ around 2 ((Some scalars.Unsigned) ∷ []) true ∷ around 4 ([]) false ∷ around 18 (None ∷ (Some scalars.Int) ∷ []) true ∷ around 20 (None ∷ []) true ∷ around 29 ((Some scalars.Int) ∷ []) true ∷ around 39 ([]) false ∷ [])
    ([])

abbrev pub value_lists_unit_assert_12_1 : Expression
value_lists_unit_assert_12_1 = binary (m 43 12 15) word.Equal (scope (m 41 12 15) (template_id (m 40 12 15) (p 12 15) (d 1) (and_value (literal (m 39 12 17) scalars.Int (pos 0)) no_argument)) ([]) (codes "v")) (literal (m 42 12 26) scalars.Int (pos 0))

abbrev pub value_lists_unit_assert_13_1 : Expression
value_lists_unit_assert_13_1 = binary (m 49 13 15) word.Equal (scope (m 47 13 15) (template_id (m 46 13 15) (p 13 15) (d 1) (and_value (literal (m 45 13 17) scalars.Unsigned (pos 0)) no_argument)) ([]) (codes "v")) (literal (m 48 13 27) scalars.Int (pos 0))

abbrev pub value_lists_unit_assert_14_1 : Expression
value_lists_unit_assert_14_1 = binary (m 55 14 15) word.Equal (scope (m 53 14 15) (template_id (m 52 14 15) (p 14 15) (d 1) (and_value (literal (m 51 14 17) scalars.Int (pos 1)) no_argument)) ([]) (codes "v")) (literal (m 54 14 26) scalars.Int (pos 1))

abbrev pub value_lists_unit_assert_15_1 : Expression
value_lists_unit_assert_15_1 = binary (m 61 15 15) word.Equal (scope (m 59 15 15) (template_id (m 58 15 15) (p 15 15) (d 1) (and_value (literal (m 57 15 17) scalars.Int (pos 2)) no_argument)) ([]) (codes "v")) (literal (m 60 15 26) scalars.Int (pos 2))

abbrev pub value_lists_unit_assert_16_1 : Expression
value_lists_unit_assert_16_1 = binary (m 67 16 15) word.Equal (scope (m 65 16 15) (template_id (m 64 16 15) (p 16 15) (d 1) (and_value (literal (m 63 16 17) scalars.Int (pos 3)) no_argument)) ([]) (codes "v")) (literal (m 66 16 26) scalars.Int (pos 3))

abbrev pub value_lists_unit_assert_17_1 : Expression
value_lists_unit_assert_17_1 = binary (m 73 17 15) word.Equal (scope (m 71 17 15) (template_id (m 70 17 15) (p 17 15) (d 1) (and_value (literal (m 69 17 17) scalars.Int (pos 4)) no_argument)) ([]) (codes "v")) (literal (m 72 17 26) scalars.Int (pos 9))

abbrev pub value_lists_unit_assert_18_1 : Expression
value_lists_unit_assert_18_1 = binary (m 80 18 15) word.Equal (scope (m 78 18 15) (template_id (m 77 18 15) (p 18 15) (d 11) (and_type (scalar_type (m 75 18 17) scalars.Bool) (and_value (literal (m 76 18 23) scalars.Int (pos 0)) no_argument))) ([]) (codes "v")) (literal (m 79 18 32) scalars.Int (pos 0))

abbrev pub value_lists_unit_assert_19_1 : Expression
value_lists_unit_assert_19_1 = binary (m 89 19 15) word.Equal (scope (m 87 19 15) (template_id (m 86 19 15) (p 19 15) (d 11) (and_type (scalar_type (m 82 19 17) scalars.Bool) (and_value (binary (m 85 19 23) word.Minus (literal (m 83 19 23) scalars.Int (pos 0)) (literal (m 84 19 27) scalars.Int (pos 1))) no_argument))) ([]) (codes "v")) (literal (m 88 19 36) scalars.Int (pos 1))

abbrev pub value_lists_unit_assert_20_1 : Expression
value_lists_unit_assert_20_1 = binary (m 96 20 15) word.Equal (scope (m 94 20 15) (template_id (m 93 20 15) (p 20 15) (d 11) (and_type (scalar_type (m 91 20 17) scalars.Int) (and_value (literal (m 92 20 22) scalars.Int (pos 5)) no_argument))) ([]) (codes "v")) (literal (m 95 20 31) scalars.Int (pos 2))

abbrev pub value_lists_unit_assert_21_1 : Expression
value_lists_unit_assert_21_1 = binary (m 103 21 15) word.Equal (scope (m 101 21 15) (template_id (m 100 21 15) (p 21 15) (d 11) (and_type (scalar_type (m 98 21 17) scalars.Bool) (and_value (literal (m 99 21 23) scalars.Int (pos 5)) no_argument))) ([]) (codes "v")) (literal (m 102 21 32) scalars.Int (pos 9))

abbrev pub value_lists_unit_assert_22_1 : Expression
value_lists_unit_assert_22_1 = binary (m 110 22 15) word.Equal (scope (m 108 22 15) (template_id (m 107 22 15) (p 22 15) (d 11) (and_type (scalar_type (m 105 22 17) scalars.Int) (and_value (literal (m 106 22 22) scalars.Int (pos 0)) no_argument))) ([]) (codes "v")) (literal (m 109 22 31) scalars.Int (pos 0))

-- template<int N> struct F { static constexpr int v = N * F<N - 1>::v; };
-- template<> struct F<0> { static constexpr int v = 1; };
-- template<typename T> struct L { static constexpr int v = 0; };
-- template<typename T> struct L<L<T>> { static constexpr int v = 1 + L<T>::v; };
-- static_assert(F<5>::v == 120);
-- static_assert(L<L<L<L<int>>>>::v == 3);
abbrev pub instances_of_instances_unit : Program
instances_of_instances_unit =
    unit
    (a_struct (record { at = (p 1 24); itself = (inst (d 0) (arguments ((param 0) ∷ []))); is_template = true; template_parameters = (tp (Some scalars.Int) None ∷ []); constraints = ([]); primary = None; specialised_for = ([]); members = (static_constant (codes "v") (d 1) ∷ []) })
    ∷ a_constant (record { at = (p 1 49); name = (codes "v"); of = (scalar_type (m 0 1 45) scalars.Int); initialiser = (binary (m 7 1 53) word.Times (position_name (m 1 1 53) 0) (scope (m 6 1 57) (template_id (m 5 1 57) (p 1 57) (d 0) (and_value (binary (m 4 1 59) word.Minus (position_name (m 2 1 59) 0) (literal (m 3 1 63) scalars.Int (pos 1))) no_argument)) ([]) (codes "v"))); owner = (Some (d 0)) })
    ∷ a_struct (record { at = (p 2 19); itself = (inst (d 0) (arguments ((val scalars.Int (pos 0)) ∷ []))); is_template = false; template_parameters = ([]); constraints = ([]); primary = (Some (d 0)); specialised_for = (of_value (literal (m 8 2 21) scalars.Int (pos 0)) ∷ []); members = (static_constant (codes "v") (d 3) ∷ []) })
    ∷ a_constant (record { at = (p 2 47); name = (codes "v"); of = (scalar_type (m 9 2 43) scalars.Int); initialiser = (literal (m 10 2 51) scalars.Int (pos 1)); owner = (Some (d 2)) })
    ∷ a_struct (record { at = (p 3 29); itself = (inst (d 4) (arguments ((param 0) ∷ []))); is_template = true; template_parameters = (tp None None ∷ []); constraints = ([]); primary = None; specialised_for = ([]); members = (static_constant (codes "v") (d 5) ∷ []) })
    ∷ a_constant (record { at = (p 3 54); name = (codes "v"); of = (scalar_type (m 11 3 50) scalars.Int); initialiser = (literal (m 12 3 58) scalars.Int (pos 0)); owner = (Some (d 4)) })
    ∷ a_struct (record { at = (p 4 29); itself = (inst (d 4) (arguments ((inst (d 4) (arguments ((param 0) ∷ []))) ∷ []))); is_template = true; template_parameters = (tp None None ∷ []); constraints = ([]); primary = (Some (d 4)); specialised_for = (of_type (template_id (m 14 4 31) (p 4 31) (d 4) (and_type (position_type (m 13 4 33) 0) no_argument)) ∷ []); members = (static_constant (codes "v") (d 7) ∷ []) })
    ∷ a_constant (record { at = (p 4 60); name = (codes "v"); of = (scalar_type (m 15 4 56) scalars.Int); initialiser = (binary (m 20 4 64) word.Plus (literal (m 16 4 64) scalars.Int (pos 1)) (scope (m 19 4 68) (template_id (m 18 4 68) (p 4 68) (d 4) (and_type (position_type (m 17 4 70) 0) no_argument)) ([]) (codes "v"))); owner = (Some (d 6)) })
    ∷ [])
    ([])
    ((0, ((d 2) ∷ [])) ∷ (4, ((d 6) ∷ [])) ∷ [])
    ([])
    (around 0 ((Some scalars.Int) ∷ []) true ∷ around 8 ([]) false ∷ around 11 (None ∷ []) true ∷ around 21 ([]) false ∷ [])
    ([])

abbrev pub instances_of_instances_unit_assert_5_1 : Expression
instances_of_instances_unit_assert_5_1 = binary (m 25 5 15) word.Equal (scope (m 23 5 15) (template_id (m 22 5 15) (p 5 15) (d 0) (and_value (literal (m 21 5 17) scalars.Int (pos 5)) no_argument)) ([]) (codes "v")) (literal (m 24 5 26) scalars.Int (pos 120))

abbrev pub instances_of_instances_unit_assert_6_1 : Expression
instances_of_instances_unit_assert_6_1 = binary (m 34 6 15) word.Equal (scope (m 32 6 15) (template_id (m 31 6 15) (p 6 15) (d 4) (and_type (template_id (m 30 6 17) (p 6 17) (d 4) (and_type (template_id (m 29 6 19) (p 6 19) (d 4) (and_type (template_id (m 28 6 21) (p 6 21) (d 4) (and_type (scalar_type (m 27 6 23) scalars.Int) no_argument)) no_argument)) no_argument)) no_argument)) ([]) (codes "v")) (literal (m 33 6 37) scalars.Int (pos 3))

-- template<int N> struct G { G<N + 1> next; };
-- template<typename T> struct P { P<P<T>> next; };
-- template<int N> concept C = requires(G<N>& g) { g.next; };
-- static_assert(C<0>);
abbrev pub endless_unit : Program
endless_unit =
    unit
    (a_struct (record { at = (p 1 24); itself = (inst (d 0) (arguments ((param 0) ∷ []))); is_template = true; template_parameters = (tp (Some scalars.Int) None ∷ []); constraints = ([]); primary = None; specialised_for = ([]); members = (field (codes "next") (template_id (m 3 1 28) (p 1 28) (d 0) (and_value (binary (m 2 1 30) word.Plus (position_name (m 0 1 30) 0) (literal (m 1 1 34) scalars.Int (pos 1))) no_argument)) ∷ []) })
    ∷ a_field 0 (template_id (m 3 1 28) (p 1 28) (d 0) (and_value (binary (m 2 1 30) word.Plus (position_name (m 0 1 30) 0) (literal (m 1 1 34) scalars.Int (pos 1))) no_argument))
    ∷ a_struct (record { at = (p 2 29); itself = (inst (d 2) (arguments ((param 0) ∷ []))); is_template = true; template_parameters = (tp None None ∷ []); constraints = ([]); primary = None; specialised_for = ([]); members = (field (codes "next") (template_id (m 6 2 33) (p 2 33) (d 2) (and_type (template_id (m 5 2 35) (p 2 35) (d 2) (and_type (position_type (m 4 2 37) 0) no_argument)) no_argument)) ∷ []) })
    ∷ a_field 0 (template_id (m 6 2 33) (p 2 33) (d 2) (and_type (template_id (m 5 2 35) (p 2 35) (d 2) (and_type (position_type (m 4 2 37) 0) no_argument)) no_argument))
    ∷ a_concept (record { at = (p 3 25); template_parameters = (tp (Some scalars.Int) None ∷ []); condition = (requires (m 12 3 29) (and_parameter (m 9 3 44) (reference_type (m 8 3 38) (template_id (m 8 3 38) (p 3 38) (d 0) (and_value (position_name (m 7 3 40) 0) no_argument))) 0 true no_parameter) (and_simple (dot (m 11 3 49) (local_name (m 10 3 49) 0) (codes "next")) no_requirement)) })
    ∷ [])
    ([])
    ([])
    ((12, (requires (m 12 3 29) (and_parameter (m 9 3 44) (reference_type (m 8 3 38) (template_id (m 8 3 38) (p 3 38) (d 0) (and_value (position_name (m 7 3 40) 0) no_argument))) 0 true no_parameter) (and_simple (dot (m 11 3 49) (local_name (m 10 3 49) 0) (codes "next")) no_requirement)))
    ∷ [])
    (around 0 ((Some scalars.Int) ∷ []) true ∷ around 4 (None ∷ []) true ∷ around 7 ((Some scalars.Int) ∷ []) true ∷ around 13 ([]) false ∷ [])
    ([])

abbrev pub endless_unit_assert_4_1 : Expression
endless_unit_assert_4_1 = concept_id (m 14 4 15) (d 4) (and_value (literal (m 13 4 17) scalars.Int (pos 0)) no_argument)

-- template<typename A, typename B> concept Is = __is_same(A, B);
-- template<typename T> struct X { using type = T&; using inner = const T; T v; T& at() { return v; } T get(T) const { return v; } };
-- template<typename T> struct X<T&> { using type = bool; bool w; };
-- static_assert(Is<typename X<int>::type, int&>);
-- static_assert(Is<typename X<int>::inner, const int>);
-- static_assert(Is<typename X<int&>::type, bool>);
-- static_assert(Is<decltype(X<int>{}.v), int>);
-- static_assert(Is<decltype(X<bool>{1}.at()), bool&>);
-- static_assert(Is<decltype(X<long long>{}.get(1)), long long>);
-- template<typename T> concept HasV = requires(X<T>& x) { x.v; };
-- template<typename T> concept HasInner = requires { typename X<T>::inner; };
-- static_assert(HasV<int>);
-- static_assert(HasV<int&>);
-- static_assert(HasInner<int&>);
abbrev pub members_of_instances_unit : Program
members_of_instances_unit =
    unit
    (a_concept (record { at = (p 1 42); template_parameters = (tp None None ∷ tp None None ∷ []); condition = (is_same (m 2 1 47) (position_type (m 0 1 57) 0) (position_type (m 1 1 60) 1)) })
    ∷ a_struct (record { at = (p 2 29); itself = (inst (d 1) (arguments ((param 0) ∷ []))); is_template = true; template_parameters = (tp None None ∷ []); constraints = ([]); primary = None; specialised_for = ([]); members = (member_alias (codes "type") (reference_type (m 3 2 46) (position_type (m 3 2 46) 0)) ∷ member_alias (codes "inner") (const_type (m 4 2 64) (position_type (m 4 2 64) 0)) ∷ field (codes "v") (position_type (m 5 2 73) 0) ∷ member_function (codes "at") (d 3) ∷ member_function (codes "get") (d 4) ∷ []) })
    ∷ a_field 0 (position_type (m 5 2 73) 0)
    ∷ a_function (record { at = (p 2 81); name = (codes "at"); owner = (Some (d 1)); is_template = true; template_parameters = (tp None None ∷ []); constraints = ([]); parameters = ([]); result = (reference_type (m 6 2 78) (position_type (m 6 2 78) 0)); is_const = false; is_constexpr = false; body = Some (block (m 11 2 86) (and_statement (return_statement (m 10 2 88) (Some (field_name (m 9 2 95) 0 (d 2)))) no_statement)) })
    ∷ a_function (record { at = (p 2 102); name = (codes "get"); owner = (Some (d 1)); is_template = true; template_parameters = (tp None None ∷ []); constraints = ([]); parameters = (parameter (position_type (m 8 2 106) 0) 0 false ∷ []); result = (position_type (m 7 2 100) 0); is_const = true; is_constexpr = false; body = Some (block (m 14 2 115) (and_statement (return_statement (m 13 2 117) (Some (field_name (m 12 2 124) 0 (d 2)))) no_statement)) })
    ∷ a_struct (record { at = (p 3 29); itself = (inst (d 1) (arguments ((ref (param 0)) ∷ []))); is_template = true; template_parameters = (tp None None ∷ []); constraints = ([]); primary = (Some (d 1)); specialised_for = (of_type (reference_type (m 15 3 31) (position_type (m 15 3 31) 0)) ∷ []); members = (member_alias (codes "type") (scalar_type (m 16 3 50) scalars.Bool) ∷ field (codes "w") (scalar_type (m 17 3 56) scalars.Bool) ∷ []) })
    ∷ a_field 0 (scalar_type (m 17 3 56) scalars.Bool)
    ∷ a_concept (record { at = (p 10 30); template_parameters = (tp None None ∷ []); condition = (requires (m 69 10 37) (and_parameter (m 66 10 52) (reference_type (m 65 10 46) (template_id (m 65 10 46) (p 10 46) (d 1) (and_type (position_type (m 64 10 48) 0) no_argument))) 0 true no_parameter) (and_simple (dot (m 68 10 57) (local_name (m 67 10 57) 0) (codes "v")) no_requirement)) })
    ∷ a_concept (record { at = (p 11 30); template_parameters = (tp None None ∷ []); condition = (requires (m 73 11 41) no_parameter (and_type_requirement (member_type (m 72 11 52) (template_id (m 71 11 61) (p 11 61) (d 1) (and_type (position_type (m 70 11 63) 0) no_argument)) ((codes "inner") ∷ [])) no_requirement)) })
    ∷ [])
    ([])
    ((1, ((d 5) ∷ [])) ∷ [])
    ((2, (is_same (m 2 1 47) (position_type (m 0 1 57) 0) (position_type (m 1 1 60) 1)))
    ∷ (69, (requires (m 69 10 37) (and_parameter (m 66 10 52) (reference_type (m 65 10 46) (template_id (m 65 10 46) (p 10 46) (d 1) (and_type (position_type (m 64 10 48) 0) no_argument))) 0 true no_parameter) (and_simple (dot (m 68 10 57) (local_name (m 67 10 57) 0) (codes "v")) no_requirement)))
    ∷ (73, (requires (m 73 11 41) no_parameter (and_type_requirement (member_type (m 72 11 52) (template_id (m 71 11 61) (p 11 61) (d 1) (and_type (position_type (m 70 11 63) 0) no_argument)) ((codes "inner") ∷ [])) no_requirement)))
    ∷ [])
    (around 0 (None ∷ None ∷ []) true ∷ around 3 (None ∷ []) true ∷ around 18 ([]) false ∷ around 64 (None ∷ []) true ∷ around 74 ([]) false ∷ [])
    ([])

abbrev pub members_of_instances_unit_assert_4_1 : Expression
members_of_instances_unit_assert_4_1 = concept_id (m 22 4 15) (d 0) (and_type (member_type (m 20 4 18) (template_id (m 19 4 27) (p 4 27) (d 1) (and_type (scalar_type (m 18 4 29) scalars.Int) no_argument)) ((codes "type") ∷ [])) (and_type (reference_type (m 21 4 41) (scalar_type (m 21 4 41) scalars.Int)) no_argument))

abbrev pub members_of_instances_unit_assert_5_1 : Expression
members_of_instances_unit_assert_5_1 = concept_id (m 28 5 15) (d 0) (and_type (member_type (m 26 5 18) (template_id (m 25 5 27) (p 5 27) (d 1) (and_type (scalar_type (m 24 5 29) scalars.Int) no_argument)) ((codes "inner") ∷ [])) (and_type (const_type (m 27 5 42) (scalar_type (m 27 5 42) scalars.Int)) no_argument))

abbrev pub members_of_instances_unit_assert_6_1 : Expression
members_of_instances_unit_assert_6_1 = concept_id (m 34 6 15) (d 0) (and_type (member_type (m 32 6 18) (template_id (m 31 6 27) (p 6 27) (d 1) (and_type (reference_type (m 30 6 29) (scalar_type (m 30 6 29) scalars.Int)) no_argument)) ((codes "type") ∷ [])) (and_type (scalar_type (m 33 6 42) scalars.Bool) no_argument))

abbrev pub members_of_instances_unit_assert_7_1 : Expression
members_of_instances_unit_assert_7_1 = concept_id (m 42 7 15) (d 0) (and_type (decltype_type (m 40 7 18) (dot (m 39 7 27) (list (m 38 7 27) (template_id (m 37 7 27) (p 7 27) (d 1) (and_type (scalar_type (m 36 7 29) scalars.Int) no_argument)) no_expression) (codes "v"))) (and_type (scalar_type (m 41 7 40) scalars.Int) no_argument))

abbrev pub members_of_instances_unit_assert_8_1 : Expression
members_of_instances_unit_assert_8_1 = concept_id (m 52 8 15) (d 0) (and_type (decltype_type (m 50 8 18) (call (m 49 8 27) (object_functions (m 48 8 27) (list (m 47 8 27) (template_id (m 45 8 27) (p 8 27) (d 1) (and_type (scalar_type (m 44 8 29) scalars.Bool) no_argument)) (and_expression (literal (m 46 8 35) scalars.Int (pos 1)) no_expression)) (codes "at")) no_expression)) (and_type (reference_type (m 51 8 45) (scalar_type (m 51 8 45) scalars.Bool)) no_argument))

abbrev pub members_of_instances_unit_assert_9_1 : Expression
members_of_instances_unit_assert_9_1 = concept_id (m 62 9 15) (d 0) (and_type (decltype_type (m 60 9 18) (call (m 59 9 27) (object_functions (m 57 9 27) (list (m 56 9 27) (template_id (m 55 9 27) (p 9 27) (d 1) (and_type (scalar_type (m 54 9 29) scalars.LongLong) no_argument)) no_expression) (codes "get")) (and_expression (literal (m 58 9 46) scalars.Int (pos 1)) no_expression))) (and_type (scalar_type (m 61 9 51) scalars.LongLong) no_argument))

abbrev pub members_of_instances_unit_assert_12_1 : Expression
members_of_instances_unit_assert_12_1 = concept_id (m 75 12 15) (d 7) (and_type (scalar_type (m 74 12 20) scalars.Int) no_argument)

abbrev pub members_of_instances_unit_assert_13_1 : Expression
members_of_instances_unit_assert_13_1 = concept_id (m 78 13 15) (d 7) (and_type (reference_type (m 77 13 20) (scalar_type (m 77 13 20) scalars.Int)) no_argument)

abbrev pub members_of_instances_unit_assert_14_1 : Expression
members_of_instances_unit_assert_14_1 = concept_id (m 81 14 15) (d 8) (and_type (reference_type (m 80 14 24) (scalar_type (m 80 14 24) scalars.Int)) no_argument)

-- template<typename T> struct Box { T v; };
-- template<typename T> struct Fun { int f(T) { return 1; } };
-- template<typename T> struct Res { const T f() { return T{}; } };
-- struct S { int x; };
-- template<typename T> concept C = requires { Box<T>{}; };
-- template<typename T> concept F = requires { Fun<T>{}; };
-- template<typename T> concept R = requires { Res<T>{}; };
-- template<typename T> concept I = requires { Box<Box<T>>{}; };
-- static_assert(C<int>);
-- static_assert(C<void>);
-- static_assert(C<int&>);
-- static_assert(C<const int>);
-- static_assert(C<const void>);
-- static_assert(F<void>);
-- static_assert(F<int>);
-- static_assert(R<int>);
-- static_assert(R<S>);
-- static_assert(I<void>);
abbrev pub faults_inside_unit : Program
faults_inside_unit =
    unit
    (a_struct (record { at = (p 1 29); itself = (inst (d 0) (arguments ((param 0) ∷ []))); is_template = true; template_parameters = (tp None None ∷ []); constraints = ([]); primary = None; specialised_for = ([]); members = (field (codes "v") (position_type (m 0 1 35) 0) ∷ []) })
    ∷ a_field 0 (position_type (m 0 1 35) 0)
    ∷ a_struct (record { at = (p 2 29); itself = (inst (d 2) (arguments ((param 0) ∷ []))); is_template = true; template_parameters = (tp None None ∷ []); constraints = ([]); primary = None; specialised_for = ([]); members = (member_function (codes "f") (d 3) ∷ []) })
    ∷ a_function (record { at = (p 2 39); name = (codes "f"); owner = (Some (d 2)); is_template = true; template_parameters = (tp None None ∷ []); constraints = ([]); parameters = (parameter (position_type (m 2 2 41) 0) 0 false ∷ []); result = (scalar_type (m 1 2 35) scalars.Int); is_const = false; is_constexpr = false; body = Some (block (m 5 2 44) (and_statement (return_statement (m 4 2 46) (Some (literal (m 3 2 53) scalars.Int (pos 1)))) no_statement)) })
    ∷ a_struct (record { at = (p 3 29); itself = (inst (d 4) (arguments ((param 0) ∷ []))); is_template = true; template_parameters = (tp None None ∷ []); constraints = ([]); primary = None; specialised_for = ([]); members = (member_function (codes "f") (d 5) ∷ []) })
    ∷ a_function (record { at = (p 3 43); name = (codes "f"); owner = (Some (d 4)); is_template = true; template_parameters = (tp None None ∷ []); constraints = ([]); parameters = ([]); result = (const_type (m 6 3 35) (position_type (m 6 3 35) 0)); is_const = false; is_constexpr = false; body = Some (block (m 10 3 47) (and_statement (return_statement (m 9 3 49) (Some (list (m 8 3 56) (position_type (m 7 3 56) 0) no_expression))) no_statement)) })
    ∷ a_struct (record { at = (p 4 8); itself = (struct (d 6)); is_template = false; template_parameters = ([]); constraints = ([]); primary = None; specialised_for = ([]); members = (field (codes "x") (scalar_type (m 11 4 12) scalars.Int) ∷ []) })
    ∷ a_field 0 (scalar_type (m 11 4 12) scalars.Int)
    ∷ a_concept (record { at = (p 5 30); template_parameters = (tp None None ∷ []); condition = (requires (m 15 5 34) no_parameter (and_simple (list (m 14 5 45) (template_id (m 13 5 45) (p 5 45) (d 0) (and_type (position_type (m 12 5 49) 0) no_argument)) no_expression) no_requirement)) })
    ∷ a_concept (record { at = (p 6 30); template_parameters = (tp None None ∷ []); condition = (requires (m 19 6 34) no_parameter (and_simple (list (m 18 6 45) (template_id (m 17 6 45) (p 6 45) (d 2) (and_type (position_type (m 16 6 49) 0) no_argument)) no_expression) no_requirement)) })
    ∷ a_concept (record { at = (p 7 30); template_parameters = (tp None None ∷ []); condition = (requires (m 23 7 34) no_parameter (and_simple (list (m 22 7 45) (template_id (m 21 7 45) (p 7 45) (d 4) (and_type (position_type (m 20 7 49) 0) no_argument)) no_expression) no_requirement)) })
    ∷ a_concept (record { at = (p 8 30); template_parameters = (tp None None ∷ []); condition = (requires (m 28 8 34) no_parameter (and_simple (list (m 27 8 45) (template_id (m 26 8 45) (p 8 45) (d 0) (and_type (template_id (m 25 8 49) (p 8 49) (d 0) (and_type (position_type (m 24 8 53) 0) no_argument)) no_argument)) no_expression) no_requirement)) })
    ∷ [])
    ([])
    ([])
    ((15, (requires (m 15 5 34) no_parameter (and_simple (list (m 14 5 45) (template_id (m 13 5 45) (p 5 45) (d 0) (and_type (position_type (m 12 5 49) 0) no_argument)) no_expression) no_requirement)))
    ∷ (19, (requires (m 19 6 34) no_parameter (and_simple (list (m 18 6 45) (template_id (m 17 6 45) (p 6 45) (d 2) (and_type (position_type (m 16 6 49) 0) no_argument)) no_expression) no_requirement)))
    ∷ (23, (requires (m 23 7 34) no_parameter (and_simple (list (m 22 7 45) (template_id (m 21 7 45) (p 7 45) (d 4) (and_type (position_type (m 20 7 49) 0) no_argument)) no_expression) no_requirement)))
    ∷ (28, (requires (m 28 8 34) no_parameter (and_simple (list (m 27 8 45) (template_id (m 26 8 45) (p 8 45) (d 0) (and_type (template_id (m 25 8 49) (p 8 49) (d 0) (and_type (position_type (m 24 8 53) 0) no_argument)) no_argument)) no_expression) no_requirement)))
    ∷ [])
    (around 0 (None ∷ []) true ∷ around 11 ([]) false ∷ around 12 (None ∷ []) true ∷ around 29 ([]) false ∷ [])
    ([])

abbrev pub faults_inside_unit_assert_9_1 : Expression
faults_inside_unit_assert_9_1 = concept_id (m 30 9 15) (d 8) (and_type (scalar_type (m 29 9 17) scalars.Int) no_argument)

abbrev pub faults_inside_unit_assert_10_1 : Expression
faults_inside_unit_assert_10_1 = concept_id (m 33 10 15) (d 8) (and_type (void_type (m 32 10 17)) no_argument)

abbrev pub faults_inside_unit_assert_11_1 : Expression
faults_inside_unit_assert_11_1 = concept_id (m 36 11 15) (d 8) (and_type (reference_type (m 35 11 17) (scalar_type (m 35 11 17) scalars.Int)) no_argument)

abbrev pub faults_inside_unit_assert_12_1 : Expression
faults_inside_unit_assert_12_1 = concept_id (m 39 12 15) (d 8) (and_type (const_type (m 38 12 17) (scalar_type (m 38 12 17) scalars.Int)) no_argument)

abbrev pub faults_inside_unit_assert_13_1 : Expression
faults_inside_unit_assert_13_1 = concept_id (m 42 13 15) (d 8) (and_type (const_type (m 41 13 17) (void_type (m 41 13 17))) no_argument)

abbrev pub faults_inside_unit_assert_14_1 : Expression
faults_inside_unit_assert_14_1 = concept_id (m 45 14 15) (d 9) (and_type (void_type (m 44 14 17)) no_argument)

abbrev pub faults_inside_unit_assert_15_1 : Expression
faults_inside_unit_assert_15_1 = concept_id (m 48 15 15) (d 9) (and_type (scalar_type (m 47 15 17) scalars.Int) no_argument)

abbrev pub faults_inside_unit_assert_16_1 : Expression
faults_inside_unit_assert_16_1 = concept_id (m 51 16 15) (d 10) (and_type (scalar_type (m 50 16 17) scalars.Int) no_argument)

abbrev pub faults_inside_unit_assert_17_1 : Expression
faults_inside_unit_assert_17_1 = concept_id (m 54 17 15) (d 10) (and_type (struct_type (m 53 17 17) (d 6)) no_argument)

abbrev pub faults_inside_unit_assert_18_1 : Expression
faults_inside_unit_assert_18_1 = concept_id (m 57 18 15) (d 11) (and_type (void_type (m 56 18 17)) no_argument)

-- template<typename T> concept A = __is_same(T, int);
-- template<A T> struct Only { T v; };
-- template<unsigned N> struct U { };
-- template<typename T> concept HasOnly = requires { typename Only<T>; };
-- template<int N> concept HasU = requires { typename U<N>; };
-- template<typename T> int f(T, Only<T>&) { return 1; }
-- template<typename T> int f(T, long long) { return 2; }
-- static_assert(HasOnly<int>);
-- static_assert(HasOnly<bool>);
-- static_assert(HasU<3>);
-- static_assert(HasU<0 - 3>);
-- int g() { return f(true, 1); }
abbrev pub template_ids_unit : Program
template_ids_unit =
    unit
    (a_concept (record { at = (p 1 30); template_parameters = (tp None None ∷ []); condition = (is_same (m 2 1 34) (position_type (m 0 1 44) 0) (scalar_type (m 1 1 47) scalars.Int)) })
    ∷ a_struct (record { at = (p 2 22); itself = (inst (d 1) (arguments ((param 0) ∷ []))); is_template = true; template_parameters = (tp None None ∷ []); constraints = ((concept_id (m 3 2 10) (d 0) (and_type (position_type (m 3 2 10) 0) no_argument)) ∷ []); primary = None; specialised_for = ([]); members = (field (codes "v") (position_type (m 4 2 29) 0) ∷ []) })
    ∷ a_field 0 (position_type (m 4 2 29) 0)
    ∷ a_struct (record { at = (p 3 29); itself = (inst (d 3) (arguments ((param 0) ∷ []))); is_template = true; template_parameters = (tp (Some scalars.Unsigned) None ∷ []); constraints = ([]); primary = None; specialised_for = ([]); members = ([]) })
    ∷ a_concept (record { at = (p 4 30); template_parameters = (tp None None ∷ []); condition = (requires (m 8 4 40) no_parameter (and_type_requirement (template_id (m 7 4 51) (p 4 60) (d 1) (and_type (position_type (m 5 4 65) 0) no_argument)) no_requirement)) })
    ∷ a_concept (record { at = (p 5 25); template_parameters = (tp (Some scalars.Int) None ∷ []); condition = (requires (m 12 5 32) no_parameter (and_type_requirement (template_id (m 11 5 43) (p 5 52) (d 3) (and_value (position_name (m 9 5 54) 0) no_argument)) no_requirement)) })
    ∷ a_function (record { at = (p 6 26); name = (codes "f"); owner = None; is_template = true; template_parameters = (tp None None ∷ []); constraints = ([]); parameters = (parameter (position_type (m 14 6 28) 0) 0 false ∷ parameter (reference_type (m 16 6 31) (template_id (m 16 6 31) (p 6 31) (d 1) (and_type (position_type (m 15 6 36) 0) no_argument))) 1 false ∷ []); result = (scalar_type (m 13 6 22) scalars.Int); is_const = false; is_constexpr = false; body = Some (block (m 19 6 41) (and_statement (return_statement (m 18 6 43) (Some (literal (m 17 6 50) scalars.Int (pos 1)))) no_statement)) })
    ∷ a_function (record { at = (p 7 26); name = (codes "f"); owner = None; is_template = true; template_parameters = (tp None None ∷ []); constraints = ([]); parameters = (parameter (position_type (m 21 7 28) 0) 0 false ∷ parameter (scalar_type (m 22 7 31) scalars.LongLong) 1 false ∷ []); result = (scalar_type (m 20 7 22) scalars.Int); is_const = false; is_constexpr = false; body = Some (block (m 25 7 42) (and_statement (return_statement (m 24 7 44) (Some (literal (m 23 7 51) scalars.Int (pos 2)))) no_statement)) })
    ∷ a_function (record { at = (p 12 5); name = (codes "g"); owner = None; is_template = false; template_parameters = ([]); constraints = ([]); parameters = ([]); result = (scalar_type (m 40 12 1) scalars.Int); is_const = false; is_constexpr = false; body = Some (block (m 46 12 9) (and_statement (return_statement (m 45 12 11) (Some (call (m 44 12 18) (functions (m 41 12 18) (codes "f") 2) (and_expression (literal (m 42 12 20) scalars.Bool (pos 1)) (and_expression (literal (m 43 12 26) scalars.Int (pos 1)) no_expression))))) no_statement)) })
    ∷ [])
    (((codes "f"), ((d 6) ∷ (d 7) ∷ [])) ∷ ((codes "g"), ((d 8) ∷ [])) ∷ [])
    ([])
    ((2, (is_same (m 2 1 34) (position_type (m 0 1 44) 0) (scalar_type (m 1 1 47) scalars.Int)))
    ∷ (8, (requires (m 8 4 40) no_parameter (and_type_requirement (template_id (m 7 4 51) (p 4 60) (d 1) (and_type (position_type (m 5 4 65) 0) no_argument)) no_requirement)))
    ∷ (12, (requires (m 12 5 32) no_parameter (and_type_requirement (template_id (m 11 5 43) (p 5 52) (d 3) (and_value (position_name (m 9 5 54) 0) no_argument)) no_requirement)))
    ∷ [])
    (around 0 (None ∷ []) true ∷ around 9 ((Some scalars.Int) ∷ []) true ∷ around 13 (None ∷ []) true ∷ around 26 ([]) false ∷ [])
    ([])

abbrev pub template_ids_unit_call_12_18 : Expression
template_ids_unit_call_12_18 = call (m 44 12 18) (functions (m 41 12 18) (codes "f") 2) (and_expression (literal (m 42 12 20) scalars.Bool (pos 1)) (and_expression (literal (m 43 12 26) scalars.Int (pos 1)) no_expression))

abbrev pub template_ids_unit_assert_8_1 : Expression
template_ids_unit_assert_8_1 = concept_id (m 27 8 15) (d 4) (and_type (scalar_type (m 26 8 23) scalars.Int) no_argument)

abbrev pub template_ids_unit_assert_9_1 : Expression
template_ids_unit_assert_9_1 = concept_id (m 30 9 15) (d 4) (and_type (scalar_type (m 29 9 23) scalars.Bool) no_argument)

abbrev pub template_ids_unit_assert_10_1 : Expression
template_ids_unit_assert_10_1 = concept_id (m 33 10 15) (d 5) (and_value (literal (m 32 10 20) scalars.Int (pos 3)) no_argument)

abbrev pub template_ids_unit_assert_11_1 : Expression
template_ids_unit_assert_11_1 = concept_id (m 38 11 15) (d 5) (and_value (binary (m 37 11 20) word.Minus (literal (m 35 11 20) scalars.Int (pos 0)) (literal (m 36 11 24) scalars.Int (pos 3))) no_argument)

-- constexpr int two = 2;
-- template<unsigned N> struct D { };
-- template<> struct D<0> { int f() { return g(); } int g() { return 1; } };
-- template<> struct D<two> { int f() { return g(); } int g() { return 2; } };
-- template<typename T, unsigned N> struct E { };
-- template<typename T> struct E<T, 0> { int f() { return g(); } int g() { return 1; } };
-- int h() { D<0> x{}; D<2> y{}; E<int, 0> z{}; return x.f() + y.f() + z.f(); }
abbrev pub own_types_unit : Program
own_types_unit =
    unit
    (a_constant (record { at = (p 1 15); name = (codes "two"); of = (scalar_type (m 0 1 11) scalars.Int); initialiser = (literal (m 1 1 21) scalars.Int (pos 2)); owner = None })
    ∷ a_struct (record { at = (p 2 29); itself = (inst (d 1) (arguments ((param 0) ∷ []))); is_template = true; template_parameters = (tp (Some scalars.Unsigned) None ∷ []); constraints = ([]); primary = None; specialised_for = ([]); members = ([]) })
    ∷ a_struct (record { at = (p 3 19); itself = (inst (d 1) (arguments ((val scalars.Int (pos 0)) ∷ []))); is_template = false; template_parameters = ([]); constraints = ([]); primary = (Some (d 1)); specialised_for = (of_value (literal (m 2 3 21) scalars.Int (pos 0)) ∷ []); members = (member_function (codes "f") (d 3) ∷ member_function (codes "g") (d 4) ∷ []) })
    ∷ a_function (record { at = (p 3 30); name = (codes "f"); owner = (Some (d 2)); is_template = false; template_parameters = ([]); constraints = ([]); parameters = ([]); result = (scalar_type (m 3 3 26) scalars.Int); is_const = false; is_constexpr = false; body = Some (block (m 8 3 34) (and_statement (return_statement (m 7 3 36) (Some (call (m 6 3 43) (own_functions (m 5 3 43) (codes "g")) no_expression))) no_statement)) })
    ∷ a_function (record { at = (p 3 54); name = (codes "g"); owner = (Some (d 2)); is_template = false; template_parameters = ([]); constraints = ([]); parameters = ([]); result = (scalar_type (m 4 3 50) scalars.Int); is_const = false; is_constexpr = false; body = Some (block (m 11 3 58) (and_statement (return_statement (m 10 3 60) (Some (literal (m 9 3 67) scalars.Int (pos 1)))) no_statement)) })
    ∷ a_struct (record { at = (p 4 19); itself = (inst (d 1) (arguments (void ∷ []))); is_template = false; template_parameters = ([]); constraints = ([]); primary = (Some (d 1)); specialised_for = (of_value (constant_name (m 12 4 21) (d 0)) ∷ []); members = (member_function (codes "f") (d 6) ∷ member_function (codes "g") (d 7) ∷ []) })
    ∷ a_function (record { at = (p 4 32); name = (codes "f"); owner = (Some (d 5)); is_template = false; template_parameters = ([]); constraints = ([]); parameters = ([]); result = (scalar_type (m 13 4 28) scalars.Int); is_const = false; is_constexpr = false; body = Some (block (m 18 4 36) (and_statement (return_statement (m 17 4 38) (Some (call (m 16 4 45) (own_functions (m 15 4 45) (codes "g")) no_expression))) no_statement)) })
    ∷ a_function (record { at = (p 4 56); name = (codes "g"); owner = (Some (d 5)); is_template = false; template_parameters = ([]); constraints = ([]); parameters = ([]); result = (scalar_type (m 14 4 52) scalars.Int); is_const = false; is_constexpr = false; body = Some (block (m 21 4 60) (and_statement (return_statement (m 20 4 62) (Some (literal (m 19 4 69) scalars.Int (pos 2)))) no_statement)) })
    ∷ a_struct (record { at = (p 5 41); itself = (inst (d 8) (arguments ((param 0) ∷ (param 1) ∷ []))); is_template = true; template_parameters = (tp None None ∷ tp (Some scalars.Unsigned) None ∷ []); constraints = ([]); primary = None; specialised_for = ([]); members = ([]) })
    ∷ a_struct (record { at = (p 6 29); itself = (inst (d 8) (arguments ((param 0) ∷ (val scalars.Int (pos 0)) ∷ []))); is_template = true; template_parameters = (tp None None ∷ []); constraints = ([]); primary = (Some (d 8)); specialised_for = (of_type (position_type (m 22 6 31) 0) ∷ of_value (literal (m 23 6 34) scalars.Int (pos 0)) ∷ []); members = (member_function (codes "f") (d 10) ∷ member_function (codes "g") (d 11) ∷ []) })
    ∷ a_function (record { at = (p 6 43); name = (codes "f"); owner = (Some (d 9)); is_template = true; template_parameters = (tp None None ∷ []); constraints = ([]); parameters = ([]); result = (scalar_type (m 24 6 39) scalars.Int); is_const = false; is_constexpr = false; body = Some (block (m 29 6 47) (and_statement (return_statement (m 28 6 49) (Some (call (m 27 6 56) (own_functions (m 26 6 56) (codes "g")) no_expression))) no_statement)) })
    ∷ a_function (record { at = (p 6 67); name = (codes "g"); owner = (Some (d 9)); is_template = true; template_parameters = (tp None None ∷ []); constraints = ([]); parameters = ([]); result = (scalar_type (m 25 6 63) scalars.Int); is_const = false; is_constexpr = false; body = Some (block (m 32 6 71) (and_statement (return_statement (m 31 6 73) (Some (literal (m 30 6 80) scalars.Int (pos 1)))) no_statement)) })
    ∷ a_function (record { at = (p 7 5); name = (codes "h"); owner = None; is_template = false; template_parameters = ([]); constraints = ([]); parameters = ([]); result = (scalar_type (m 33 7 1) scalars.Int); is_const = false; is_constexpr = false; body = Some (block (m 59 7 9) (and_statement (variable (m 37 7 11) false (as_type (template_id (m 35 7 11) (p 7 11) (d 1) (and_value (literal (m 34 7 13) scalars.Int (pos 0)) no_argument))) 0 (braces (m 36 7 17) no_expression)) (and_statement (variable (m 41 7 21) false (as_type (template_id (m 39 7 21) (p 7 21) (d 1) (and_value (literal (m 38 7 23) scalars.Int (pos 2)) no_argument))) 1 (braces (m 40 7 27) no_expression)) (and_statement (variable (m 46 7 31) false (as_type (template_id (m 44 7 31) (p 7 31) (d 8) (and_type (scalar_type (m 42 7 33) scalars.Int) (and_value (literal (m 43 7 38) scalars.Int (pos 0)) no_argument)))) 2 (braces (m 45 7 42) no_expression)) (and_statement (return_statement (m 58 7 46) (Some (binary (m 57 7 53) word.Plus (binary (m 53 7 53) word.Plus (call (m 49 7 53) (object_functions (m 48 7 53) (local_name (m 47 7 53) 0) (codes "f")) no_expression) (call (m 52 7 61) (object_functions (m 51 7 61) (local_name (m 50 7 61) 1) (codes "f")) no_expression)) (call (m 56 7 69) (object_functions (m 55 7 69) (local_name (m 54 7 69) 2) (codes "f")) no_expression)))) no_statement))))) })
    ∷ [])
    (((codes "h"), ((d 12) ∷ [])) ∷ [])
    ((1, ((d 2) ∷ (d 5) ∷ [])) ∷ (8, ((d 9) ∷ [])) ∷ [])
    ([])
    (around 0 ([]) false ∷ around 22 (None ∷ []) true ∷ around 33 ([]) false ∷ [])
    ([])

abbrev pub own_types_unit_items : List Item
own_types_unit_items = (a_declaration (d 0) ∷ a_declaration (d 1) ∷ a_declaration (d 2) ∷ a_declaration (d 5) ∷ a_declaration (d 8) ∷ a_declaration (d 9) ∷ a_declaration (d 12) ∷ [])
