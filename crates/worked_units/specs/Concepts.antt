-- Normal forms and satisfaction ([temp.constr.normal], [temp.constr.atomic], [temp.constr.op]).
use Rattle.std.specs.Prelude.{pos, true, false, [], ◌∷◌, Some, None, codes}
use Rattle.cx_base.specs.declared.value.Scalar.TheVariants as scalars
use Rattle.cx_term.specs.Term.{param, struct, inst, arguments}
use Rattle.cx_term.specs.declared.word.Word.TheVariants as word
use Rattle.cx_questions.specs.Forms.{Expression, literal, position_name, parentheses, unary, binary, dot, scope, call, list, is_same, concept_id, requires, no_expression, and_expression, functions, position_type, scalar_type, void_type, struct_type, template_id, reference_type, member_type, no_argument, and_type, and_value, no_parameter, no_requirement, and_simple, and_type_requirement, of_type, block, return_statement, no_statement, and_statement}
use Rattle.cx_questions.specs.Program.{Program, a_function, a_struct, a_concept, a_constant, a_field, field, member_alias, static_constant}
use Rattle.worked_units.specs.Units.{p, d, m, tp, parameter, around, unit}

-- template<typename T> struct Wrap { typename T::bad x; };
-- template<typename T> concept W = requires { Wrap<T>{}; };
-- template<typename T> requires W<T> int f(T) { return 1; }
-- int g() { return f(1); }
abbrev pub fault_within_a_constraint_unit : Program
fault_within_a_constraint_unit =
    unit
    (a_struct (record { at = (p 1 29); itself = (inst (d 0) (arguments ((param 0) ∷ []))); is_template = true; template_parameters = (tp None None ∷ []); constraints = ([]); primary = None; specialised_for = ([]); members = (field (codes "x") (member_type (m 1 1 36) (position_type (m 0 1 45) 0) ((codes "bad") ∷ [])) ∷ []) })
    ∷ a_field 0 (member_type (m 1 1 36) (position_type (m 0 1 45) 0) ((codes "bad") ∷ []))
    ∷ a_concept (record { at = (p 2 30); template_parameters = (tp None None ∷ []); condition = (requires (m 5 2 34) no_parameter (and_simple (list (m 4 2 45) (template_id (m 3 2 45) (p 2 45) (d 0) (and_type (position_type (m 2 2 50) 0) no_argument)) no_expression) no_requirement)) })
    ∷ a_function (record { at = (p 3 40); name = (codes "f"); owner = None; is_template = true; template_parameters = (tp None None ∷ []); constraints = ((concept_id (m 7 3 31) (d 2) (and_type (position_type (m 6 3 33) 0) no_argument)) ∷ []); parameters = (parameter (position_type (m 9 3 42) 0) 0 false ∷ []); result = (scalar_type (m 8 3 36) scalars.Int); is_const = false; is_constexpr = false; body = Some (block (m 12 3 45) (and_statement (return_statement (m 11 3 47) (Some (literal (m 10 3 54) scalars.Int (pos 1)))) no_statement)) })
    ∷ a_function (record { at = (p 4 5); name = (codes "g"); owner = None; is_template = false; template_parameters = ([]); constraints = ([]); parameters = ([]); result = (scalar_type (m 13 4 1) scalars.Int); is_const = false; is_constexpr = false; body = Some (block (m 18 4 9) (and_statement (return_statement (m 17 4 11) (Some (call (m 16 4 18) (functions (m 14 4 18) (codes "f") 1) (and_expression (literal (m 15 4 20) scalars.Int (pos 1)) no_expression)))) no_statement)) })
    ∷ [])
    (((codes "f"), ((d 3) ∷ [])) ∷ ((codes "g"), ((d 4) ∷ [])) ∷ [])
    ([])
    ((5, (requires (m 5 2 34) no_parameter (and_simple (list (m 4 2 45) (template_id (m 3 2 45) (p 2 45) (d 0) (and_type (position_type (m 2 2 50) 0) no_argument)) no_expression) no_requirement)))
    ∷ [])
    (around 0 (None ∷ []) true ∷ around 13 ([]) false ∷ [])
    ([])

abbrev pub fault_within_a_constraint_unit_call_4_18 : Expression
fault_within_a_constraint_unit_call_4_18 = call (m 16 4 18) (functions (m 14 4 18) (codes "f") 1) (and_expression (literal (m 15 4 20) scalars.Int (pos 1)) no_expression)

-- template<typename T> struct Wrap { typename T::bad x; };
-- template<typename T> concept W = requires { typename T::bad; };
-- template<typename T> requires W<T> int f(T) { return 1; }
-- int g() { return f(1); }
abbrev pub invalid_requirement_unit : Program
invalid_requirement_unit =
    unit
    (a_struct (record { at = (p 1 29); itself = (inst (d 0) (arguments ((param 0) ∷ []))); is_template = true; template_parameters = (tp None None ∷ []); constraints = ([]); primary = None; specialised_for = ([]); members = (field (codes "x") (member_type (m 1 1 36) (position_type (m 0 1 45) 0) ((codes "bad") ∷ [])) ∷ []) })
    ∷ a_field 0 (member_type (m 1 1 36) (position_type (m 0 1 45) 0) ((codes "bad") ∷ []))
    ∷ a_concept (record { at = (p 2 30); template_parameters = (tp None None ∷ []); condition = (requires (m 4 2 34) no_parameter (and_type_requirement (member_type (m 3 2 45) (position_type (m 2 2 54) 0) ((codes "bad") ∷ [])) no_requirement)) })
    ∷ a_function (record { at = (p 3 40); name = (codes "f"); owner = None; is_template = true; template_parameters = (tp None None ∷ []); constraints = ((concept_id (m 6 3 31) (d 2) (and_type (position_type (m 5 3 33) 0) no_argument)) ∷ []); parameters = (parameter (position_type (m 8 3 42) 0) 0 false ∷ []); result = (scalar_type (m 7 3 36) scalars.Int); is_const = false; is_constexpr = false; body = Some (block (m 11 3 45) (and_statement (return_statement (m 10 3 47) (Some (literal (m 9 3 54) scalars.Int (pos 1)))) no_statement)) })
    ∷ a_function (record { at = (p 4 5); name = (codes "g"); owner = None; is_template = false; template_parameters = ([]); constraints = ([]); parameters = ([]); result = (scalar_type (m 12 4 1) scalars.Int); is_const = false; is_constexpr = false; body = Some (block (m 17 4 9) (and_statement (return_statement (m 16 4 11) (Some (call (m 15 4 18) (functions (m 13 4 18) (codes "f") 1) (and_expression (literal (m 14 4 20) scalars.Int (pos 1)) no_expression)))) no_statement)) })
    ∷ [])
    (((codes "f"), ((d 3) ∷ [])) ∷ ((codes "g"), ((d 4) ∷ [])) ∷ [])
    ([])
    ((4, (requires (m 4 2 34) no_parameter (and_type_requirement (member_type (m 3 2 45) (position_type (m 2 2 54) 0) ((codes "bad") ∷ [])) no_requirement)))
    ∷ [])
    (around 0 (None ∷ []) true ∷ around 12 ([]) false ∷ [])
    ([])

abbrev pub invalid_requirement_unit_call_4_18 : Expression
invalid_requirement_unit_call_4_18 = call (m 15 4 18) (functions (m 13 4 18) (codes "f") 1) (and_expression (literal (m 14 4 20) scalars.Int (pos 1)) no_expression)

-- template<typename T> struct Wrap { typename T::bad x; };
-- template<typename T> concept Q = true || requires { Wrap<T>{}.x; };
-- template<typename T> concept R = requires { Wrap<T>{}.x; } || true;
-- static_assert(Q<int>);
-- static_assert(R<int>);
abbrev pub second_operand_unit : Program
second_operand_unit =
    unit
    (a_struct (record { at = (p 1 29); itself = (inst (d 0) (arguments ((param 0) ∷ []))); is_template = true; template_parameters = (tp None None ∷ []); constraints = ([]); primary = None; specialised_for = ([]); members = (field (codes "x") (member_type (m 1 1 36) (position_type (m 0 1 45) 0) ((codes "bad") ∷ [])) ∷ []) })
    ∷ a_field 0 (member_type (m 1 1 36) (position_type (m 0 1 45) 0) ((codes "bad") ∷ []))
    ∷ a_concept (record { at = (p 2 30); template_parameters = (tp None None ∷ []); condition = (binary (m 8 2 34) word.LogicalOr (literal (m 2 2 34) scalars.Bool (pos 1)) (requires (m 7 2 42) no_parameter (and_simple (dot (m 6 2 53) (list (m 5 2 53) (template_id (m 4 2 53) (p 2 53) (d 0) (and_type (position_type (m 3 2 58) 0) no_argument)) no_expression) (codes "x")) no_requirement))) })
    ∷ a_concept (record { at = (p 3 30); template_parameters = (tp None None ∷ []); condition = (binary (m 15 3 34) word.LogicalOr (requires (m 13 3 34) no_parameter (and_simple (dot (m 12 3 45) (list (m 11 3 45) (template_id (m 10 3 45) (p 3 45) (d 0) (and_type (position_type (m 9 3 50) 0) no_argument)) no_expression) (codes "x")) no_requirement)) (literal (m 14 3 63) scalars.Bool (pos 1))) })
    ∷ [])
    ([])
    ([])
    ((2, (literal (m 2 2 34) scalars.Bool (pos 1)))
    ∷ (7, (requires (m 7 2 42) no_parameter (and_simple (dot (m 6 2 53) (list (m 5 2 53) (template_id (m 4 2 53) (p 2 53) (d 0) (and_type (position_type (m 3 2 58) 0) no_argument)) no_expression) (codes "x")) no_requirement)))
    ∷ (13, (requires (m 13 3 34) no_parameter (and_simple (dot (m 12 3 45) (list (m 11 3 45) (template_id (m 10 3 45) (p 3 45) (d 0) (and_type (position_type (m 9 3 50) 0) no_argument)) no_expression) (codes "x")) no_requirement)))
    ∷ (14, (literal (m 14 3 63) scalars.Bool (pos 1)))
    ∷ [])
    (around 0 (None ∷ []) true ∷ around 16 ([]) false ∷ [])
    ([])

abbrev pub second_operand_unit_assert_4_1 : Expression
second_operand_unit_assert_4_1 = concept_id (m 17 4 15) (d 2) (and_type (scalar_type (m 16 4 17) scalars.Int) no_argument)

abbrev pub second_operand_unit_assert_5_1 : Expression
second_operand_unit_assert_5_1 = concept_id (m 20 5 15) (d 3) (and_type (scalar_type (m 19 5 17) scalars.Int) no_argument)

-- template<typename T> struct Wrap { typename T::bad x; };
-- template<typename T> concept Q = false && requires { Wrap<T>{}.x; };
-- static_assert(!Q<int>);
-- static_assert(Q<int>);
abbrev pub second_of_a_conjunction_unit : Program
second_of_a_conjunction_unit =
    unit
    (a_struct (record { at = (p 1 29); itself = (inst (d 0) (arguments ((param 0) ∷ []))); is_template = true; template_parameters = (tp None None ∷ []); constraints = ([]); primary = None; specialised_for = ([]); members = (field (codes "x") (member_type (m 1 1 36) (position_type (m 0 1 45) 0) ((codes "bad") ∷ [])) ∷ []) })
    ∷ a_field 0 (member_type (m 1 1 36) (position_type (m 0 1 45) 0) ((codes "bad") ∷ []))
    ∷ a_concept (record { at = (p 2 30); template_parameters = (tp None None ∷ []); condition = (binary (m 8 2 34) word.LogicalAnd (literal (m 2 2 34) scalars.Bool (pos 0)) (requires (m 7 2 43) no_parameter (and_simple (dot (m 6 2 54) (list (m 5 2 54) (template_id (m 4 2 54) (p 2 54) (d 0) (and_type (position_type (m 3 2 59) 0) no_argument)) no_expression) (codes "x")) no_requirement))) })
    ∷ [])
    ([])
    ([])
    ((2, (literal (m 2 2 34) scalars.Bool (pos 0)))
    ∷ (7, (requires (m 7 2 43) no_parameter (and_simple (dot (m 6 2 54) (list (m 5 2 54) (template_id (m 4 2 54) (p 2 54) (d 0) (and_type (position_type (m 3 2 59) 0) no_argument)) no_expression) (codes "x")) no_requirement)))
    ∷ [])
    (around 0 (None ∷ []) true ∷ around 9 ([]) false ∷ [])
    ([])

abbrev pub second_of_a_conjunction_unit_assert_3_1 : Expression
second_of_a_conjunction_unit_assert_3_1 = unary (m 11 3 15) word.Not (concept_id (m 10 3 16) (d 2) (and_type (scalar_type (m 9 3 18) scalars.Int) no_argument))

abbrev pub second_of_a_conjunction_unit_assert_4_1 : Expression
second_of_a_conjunction_unit_assert_4_1 = concept_id (m 14 4 15) (d 2) (and_type (scalar_type (m 13 4 17) scalars.Int) no_argument)

-- struct S { static constexpr int n = 1; };
-- template<typename T> requires (T::n) int f(T) { return 1; }
-- int g() { return f(S{}); }
abbrev pub atom_of_int_unit : Program
atom_of_int_unit =
    unit
    (a_struct (record { at = (p 1 8); itself = (struct (d 0)); is_template = false; template_parameters = ([]); constraints = ([]); primary = None; specialised_for = ([]); members = (static_constant (codes "n") (d 1) ∷ []) })
    ∷ a_constant (record { at = (p 1 33); name = (codes "n"); of = (scalar_type (m 0 1 29) scalars.Int); initialiser = (literal (m 1 1 37) scalars.Int (pos 1)); owner = (Some (d 0)) })
    ∷ a_function (record { at = (p 2 42); name = (codes "f"); owner = None; is_template = true; template_parameters = (tp None None ∷ []); constraints = ((parentheses (m 4 2 31) (scope (m 3 2 32) (position_type (m 2 2 32) 0) ([]) (codes "n"))) ∷ []); parameters = (parameter (position_type (m 6 2 44) 0) 0 false ∷ []); result = (scalar_type (m 5 2 38) scalars.Int); is_const = false; is_constexpr = false; body = Some (block (m 9 2 47) (and_statement (return_statement (m 8 2 49) (Some (literal (m 7 2 56) scalars.Int (pos 1)))) no_statement)) })
    ∷ a_function (record { at = (p 3 5); name = (codes "g"); owner = None; is_template = false; template_parameters = ([]); constraints = ([]); parameters = ([]); result = (scalar_type (m 10 3 1) scalars.Int); is_const = false; is_constexpr = false; body = Some (block (m 16 3 9) (and_statement (return_statement (m 15 3 11) (Some (call (m 14 3 18) (functions (m 11 3 18) (codes "f") 1) (and_expression (list (m 13 3 20) (struct_type (m 12 3 20) (d 0)) no_expression) no_expression)))) no_statement)) })
    ∷ [])
    (((codes "f"), ((d 2) ∷ [])) ∷ ((codes "g"), ((d 3) ∷ [])) ∷ [])
    ([])
    ((3, (scope (m 3 2 32) (position_type (m 2 2 32) 0) ([]) (codes "n")))
    ∷ [])
    (around 0 ([]) false ∷ around 2 (None ∷ []) true ∷ around 10 ([]) false ∷ [])
    ([])

abbrev pub atom_of_int_unit_call_3_18 : Expression
atom_of_int_unit_call_3_18 = call (m 14 3 18) (functions (m 11 3 18) (codes "f") 1) (and_expression (list (m 13 3 20) (struct_type (m 12 3 20) (d 0)) no_expression) no_expression)

-- template<typename T> requires (T::n) int f(T) { return 1; }
-- int g() { return f(1); }
abbrev pub atom_without_the_member_unit : Program
atom_without_the_member_unit =
    unit
    (a_function (record { at = (p 1 42); name = (codes "f"); owner = None; is_template = true; template_parameters = (tp None None ∷ []); constraints = ((parentheses (m 2 1 31) (scope (m 1 1 32) (position_type (m 0 1 32) 0) ([]) (codes "n"))) ∷ []); parameters = (parameter (position_type (m 4 1 44) 0) 0 false ∷ []); result = (scalar_type (m 3 1 38) scalars.Int); is_const = false; is_constexpr = false; body = Some (block (m 7 1 47) (and_statement (return_statement (m 6 1 49) (Some (literal (m 5 1 56) scalars.Int (pos 1)))) no_statement)) })
    ∷ a_function (record { at = (p 2 5); name = (codes "g"); owner = None; is_template = false; template_parameters = ([]); constraints = ([]); parameters = ([]); result = (scalar_type (m 8 2 1) scalars.Int); is_const = false; is_constexpr = false; body = Some (block (m 13 2 9) (and_statement (return_statement (m 12 2 11) (Some (call (m 11 2 18) (functions (m 9 2 18) (codes "f") 1) (and_expression (literal (m 10 2 20) scalars.Int (pos 1)) no_expression)))) no_statement)) })
    ∷ [])
    (((codes "f"), ((d 0) ∷ [])) ∷ ((codes "g"), ((d 1) ∷ [])) ∷ [])
    ([])
    ((1, (scope (m 1 1 32) (position_type (m 0 1 32) 0) ([]) (codes "n")))
    ∷ [])
    (around 0 (None ∷ []) true ∷ around 8 ([]) false ∷ [])
    ([])

abbrev pub atom_without_the_member_unit_call_2_18 : Expression
atom_without_the_member_unit_call_2_18 = call (m 11 2 18) (functions (m 9 2 18) (codes "f") 1) (and_expression (literal (m 10 2 20) scalars.Int (pos 1)) no_expression)

-- struct S { static constexpr int one = 1; };
-- template<typename T> concept Big = 2147483647 + T::one > 0;
-- static_assert(!Big<S>);
-- static_assert(Big<S>);
abbrev pub atom_that_overflows_unit : Program
atom_that_overflows_unit =
    unit
    (a_struct (record { at = (p 1 8); itself = (struct (d 0)); is_template = false; template_parameters = ([]); constraints = ([]); primary = None; specialised_for = ([]); members = (static_constant (codes "one") (d 1) ∷ []) })
    ∷ a_constant (record { at = (p 1 33); name = (codes "one"); of = (scalar_type (m 0 1 29) scalars.Int); initialiser = (literal (m 1 1 39) scalars.Int (pos 1)); owner = (Some (d 0)) })
    ∷ a_concept (record { at = (p 2 30); template_parameters = (tp None None ∷ []); condition = (binary (m 7 2 36) word.Greater (binary (m 5 2 36) word.Plus (literal (m 2 2 36) scalars.Int (pos 2147483647)) (scope (m 4 2 49) (position_type (m 3 2 49) 0) ([]) (codes "one"))) (literal (m 6 2 58) scalars.Int (pos 0))) })
    ∷ [])
    ([])
    ([])
    ((7, (binary (m 7 2 36) word.Greater (binary (m 5 2 36) word.Plus (literal (m 2 2 36) scalars.Int (pos 2147483647)) (scope (m 4 2 49) (position_type (m 3 2 49) 0) ([]) (codes "one"))) (literal (m 6 2 58) scalars.Int (pos 0))))
    ∷ [])
    (around 0 ([]) false ∷ around 2 (None ∷ []) true ∷ around 8 ([]) false ∷ [])
    ([])

abbrev pub atom_that_overflows_unit_assert_3_1 : Expression
atom_that_overflows_unit_assert_3_1 = unary (m 10 3 15) word.Not (concept_id (m 9 3 16) (d 2) (and_type (struct_type (m 8 3 20) (d 0)) no_argument))

abbrev pub atom_that_overflows_unit_assert_4_1 : Expression
atom_that_overflows_unit_assert_4_1 = concept_id (m 13 4 15) (d 2) (and_type (struct_type (m 12 4 19) (d 0)) no_argument)

-- struct S { static constexpr bool b = true; static constexpr bool c = false; };
-- template<typename T> concept B = T::b;
-- template<typename T> concept C = T::c;
-- static_assert(B<S>);
-- static_assert(!C<S>);
abbrev pub const_bool_will_do_unit : Program
const_bool_will_do_unit =
    unit
    (a_struct (record { at = (p 1 8); itself = (struct (d 0)); is_template = false; template_parameters = ([]); constraints = ([]); primary = None; specialised_for = ([]); members = (static_constant (codes "b") (d 1) ∷ static_constant (codes "c") (d 2) ∷ []) })
    ∷ a_constant (record { at = (p 1 34); name = (codes "b"); of = (scalar_type (m 0 1 29) scalars.Bool); initialiser = (literal (m 1 1 38) scalars.Bool (pos 1)); owner = (Some (d 0)) })
    ∷ a_constant (record { at = (p 1 66); name = (codes "c"); of = (scalar_type (m 2 1 61) scalars.Bool); initialiser = (literal (m 3 1 70) scalars.Bool (pos 0)); owner = (Some (d 0)) })
    ∷ a_concept (record { at = (p 2 30); template_parameters = (tp None None ∷ []); condition = (scope (m 5 2 34) (position_type (m 4 2 34) 0) ([]) (codes "b")) })
    ∷ a_concept (record { at = (p 3 30); template_parameters = (tp None None ∷ []); condition = (scope (m 7 3 34) (position_type (m 6 3 34) 0) ([]) (codes "c")) })
    ∷ [])
    ([])
    ([])
    ((5, (scope (m 5 2 34) (position_type (m 4 2 34) 0) ([]) (codes "b")))
    ∷ (7, (scope (m 7 3 34) (position_type (m 6 3 34) 0) ([]) (codes "c")))
    ∷ [])
    (around 0 ([]) false ∷ around 4 (None ∷ []) true ∷ around 8 ([]) false ∷ [])
    ([])

abbrev pub const_bool_will_do_unit_assert_4_1 : Expression
const_bool_will_do_unit_assert_4_1 = concept_id (m 9 4 15) (d 3) (and_type (struct_type (m 8 4 17) (d 0)) no_argument)

abbrev pub const_bool_will_do_unit_assert_5_1 : Expression
const_bool_will_do_unit_assert_5_1 = unary (m 13 5 15) word.Not (concept_id (m 12 5 16) (d 4) (and_type (struct_type (m 11 5 18) (d 0)) no_argument))

-- template<typename T> struct Bad { typename T::bad x; using type = int; };
-- template<typename T> requires (!__is_same(T, int)) typename Bad<T>::type f(T) { return 1; }
-- template<typename T> int f(T) { return 2; }
-- int g() { return f(1); }
abbrev pub substituted_before_constraints_unit : Program
substituted_before_constraints_unit =
    unit
    (a_struct (record { at = (p 1 29); itself = (inst (d 0) (arguments ((param 0) ∷ []))); is_template = true; template_parameters = (tp None None ∷ []); constraints = ([]); primary = None; specialised_for = ([]); members = (field (codes "x") (member_type (m 1 1 35) (position_type (m 0 1 44) 0) ((codes "bad") ∷ [])) ∷ member_alias (codes "type") (scalar_type (m 2 1 67) scalars.Int) ∷ []) })
    ∷ a_field 0 (member_type (m 1 1 35) (position_type (m 0 1 44) 0) ((codes "bad") ∷ []))
    ∷ a_function (record { at = (p 2 74); name = (codes "f"); owner = None; is_template = true; template_parameters = (tp None None ∷ []); constraints = ((parentheses (m 7 2 31) (unary (m 6 2 32) word.Not (is_same (m 5 2 33) (position_type (m 3 2 43) 0) (scalar_type (m 4 2 46) scalars.Int)))) ∷ []); parameters = (parameter (position_type (m 11 2 76) 0) 0 false ∷ []); result = (member_type (m 10 2 52) (template_id (m 9 2 61) (p 2 61) (d 0) (and_type (position_type (m 8 2 65) 0) no_argument)) ((codes "type") ∷ [])); is_const = false; is_constexpr = false; body = Some (block (m 14 2 79) (and_statement (return_statement (m 13 2 81) (Some (literal (m 12 2 88) scalars.Int (pos 1)))) no_statement)) })
    ∷ a_function (record { at = (p 3 26); name = (codes "f"); owner = None; is_template = true; template_parameters = (tp None None ∷ []); constraints = ([]); parameters = (parameter (position_type (m 16 3 28) 0) 0 false ∷ []); result = (scalar_type (m 15 3 22) scalars.Int); is_const = false; is_constexpr = false; body = Some (block (m 19 3 31) (and_statement (return_statement (m 18 3 33) (Some (literal (m 17 3 40) scalars.Int (pos 2)))) no_statement)) })
    ∷ a_function (record { at = (p 4 5); name = (codes "g"); owner = None; is_template = false; template_parameters = ([]); constraints = ([]); parameters = ([]); result = (scalar_type (m 20 4 1) scalars.Int); is_const = false; is_constexpr = false; body = Some (block (m 25 4 9) (and_statement (return_statement (m 24 4 11) (Some (call (m 23 4 18) (functions (m 21 4 18) (codes "f") 2) (and_expression (literal (m 22 4 20) scalars.Int (pos 1)) no_expression)))) no_statement)) })
    ∷ [])
    (((codes "f"), ((d 2) ∷ (d 3) ∷ [])) ∷ ((codes "g"), ((d 4) ∷ [])) ∷ [])
    ([])
    ((6, (unary (m 6 2 32) word.Not (is_same (m 5 2 33) (position_type (m 3 2 43) 0) (scalar_type (m 4 2 46) scalars.Int))))
    ∷ [])
    (around 0 (None ∷ []) true ∷ around 20 ([]) false ∷ [])
    ([])

abbrev pub substituted_before_constraints_unit_call_4_18 : Expression
substituted_before_constraints_unit_call_4_18 = call (m 23 4 18) (functions (m 21 4 18) (codes "f") 2) (and_expression (literal (m 22 4 20) scalars.Int (pos 1)) no_expression)

-- template<typename T> concept Any = __is_same(T, T);
-- template<typename T> concept M = Any<T&>;
-- template<typename T> requires M<int> int f(T) { return 1; }
-- template<typename T> requires M<void> int f(T) { return 2; }
-- int g() { return f(1); }
abbrev pub invalid_mapping_unit : Program
invalid_mapping_unit =
    unit
    (a_concept (record { at = (p 1 30); template_parameters = (tp None None ∷ []); condition = (is_same (m 2 1 36) (position_type (m 0 1 46) 0) (position_type (m 1 1 49) 0)) })
    ∷ a_concept (record { at = (p 2 30); template_parameters = (tp None None ∷ []); condition = (concept_id (m 4 2 34) (d 0) (and_type (reference_type (m 3 2 38) (position_type (m 3 2 38) 0)) no_argument)) })
    ∷ a_function (record { at = (p 3 42); name = (codes "f"); owner = None; is_template = true; template_parameters = (tp None None ∷ []); constraints = ((concept_id (m 6 3 31) (d 1) (and_type (scalar_type (m 5 3 33) scalars.Int) no_argument)) ∷ []); parameters = (parameter (position_type (m 8 3 44) 0) 0 false ∷ []); result = (scalar_type (m 7 3 38) scalars.Int); is_const = false; is_constexpr = false; body = Some (block (m 11 3 47) (and_statement (return_statement (m 10 3 49) (Some (literal (m 9 3 56) scalars.Int (pos 1)))) no_statement)) })
    ∷ a_function (record { at = (p 4 43); name = (codes "f"); owner = None; is_template = true; template_parameters = (tp None None ∷ []); constraints = ((concept_id (m 13 4 31) (d 1) (and_type (void_type (m 12 4 33)) no_argument)) ∷ []); parameters = (parameter (position_type (m 15 4 45) 0) 0 false ∷ []); result = (scalar_type (m 14 4 39) scalars.Int); is_const = false; is_constexpr = false; body = Some (block (m 18 4 48) (and_statement (return_statement (m 17 4 50) (Some (literal (m 16 4 57) scalars.Int (pos 2)))) no_statement)) })
    ∷ a_function (record { at = (p 5 5); name = (codes "g"); owner = None; is_template = false; template_parameters = ([]); constraints = ([]); parameters = ([]); result = (scalar_type (m 19 5 1) scalars.Int); is_const = false; is_constexpr = false; body = Some (block (m 24 5 9) (and_statement (return_statement (m 23 5 11) (Some (call (m 22 5 18) (functions (m 20 5 18) (codes "f") 2) (and_expression (literal (m 21 5 20) scalars.Int (pos 1)) no_expression)))) no_statement)) })
    ∷ [])
    (((codes "f"), ((d 2) ∷ (d 3) ∷ [])) ∷ ((codes "g"), ((d 4) ∷ [])) ∷ [])
    ([])
    ((2, (is_same (m 2 1 36) (position_type (m 0 1 46) 0) (position_type (m 1 1 49) 0)))
    ∷ [])
    (around 0 (None ∷ []) true ∷ around 19 ([]) false ∷ [])
    ([])

abbrev pub invalid_mapping_unit_call_5_18 : Expression
invalid_mapping_unit_call_5_18 = call (m 22 5 18) (functions (m 20 5 18) (codes "f") 2) (and_expression (literal (m 21 5 20) scalars.Int (pos 1)) no_expression)

-- template<typename T> concept A = __is_same(T, int);
-- template<typename T> concept B = (A<T> && (true)) || false;
-- static_assert(B<int>);
-- static_assert(B<bool>);
abbrev pub conjunctions_as_atoms_unit : Program
conjunctions_as_atoms_unit =
    unit
    (a_concept (record { at = (p 1 30); template_parameters = (tp None None ∷ []); condition = (is_same (m 2 1 34) (position_type (m 0 1 44) 0) (scalar_type (m 1 1 47) scalars.Int)) })
    ∷ a_concept (record { at = (p 2 30); template_parameters = (tp None None ∷ []); condition = (binary (m 10 2 34) word.LogicalOr (parentheses (m 8 2 34) (binary (m 7 2 35) word.LogicalAnd (concept_id (m 4 2 35) (d 0) (and_type (position_type (m 3 2 37) 0) no_argument)) (parentheses (m 6 2 43) (literal (m 5 2 44) scalars.Bool (pos 1))))) (literal (m 9 2 54) scalars.Bool (pos 0))) })
    ∷ [])
    ([])
    ([])
    ((2, (is_same (m 2 1 34) (position_type (m 0 1 44) 0) (scalar_type (m 1 1 47) scalars.Int)))
    ∷ (5, (literal (m 5 2 44) scalars.Bool (pos 1)))
    ∷ (9, (literal (m 9 2 54) scalars.Bool (pos 0)))
    ∷ [])
    (around 0 (None ∷ []) true ∷ around 11 ([]) false ∷ [])
    ([])

abbrev pub conjunctions_as_atoms_unit_assert_3_1 : Expression
conjunctions_as_atoms_unit_assert_3_1 = concept_id (m 12 3 15) (d 1) (and_type (scalar_type (m 11 3 17) scalars.Int) no_argument)

abbrev pub conjunctions_as_atoms_unit_assert_4_1 : Expression
conjunctions_as_atoms_unit_assert_4_1 = concept_id (m 15 4 15) (d 1) (and_type (scalar_type (m 14 4 17) scalars.Bool) no_argument)

-- template<typename T, typename U = int> concept Same = __is_same(T, U);
-- static_assert(Same<int>);
-- static_assert(Same<bool>);
-- static_assert(Same<bool, bool>);
abbrev pub defaults_of_concepts_unit : Program
defaults_of_concepts_unit =
    unit
    (a_concept (record { at = (p 1 48); template_parameters = (tp None None ∷ tp None (Some (of_type (scalar_type (m 0 1 35) scalars.Int))) ∷ []); condition = (is_same (m 3 1 55) (position_type (m 1 1 65) 0) (position_type (m 2 1 68) 1)) })
    ∷ [])
    ([])
    ([])
    ((3, (is_same (m 3 1 55) (position_type (m 1 1 65) 0) (position_type (m 2 1 68) 1)))
    ∷ [])
    (around 0 (None ∷ None ∷ []) true ∷ around 4 ([]) false ∷ [])
    ([])

abbrev pub defaults_of_concepts_unit_assert_2_1 : Expression
defaults_of_concepts_unit_assert_2_1 = concept_id (m 5 2 15) (d 0) (and_type (scalar_type (m 4 2 20) scalars.Int) (and_type (scalar_type (m 5 2 15) scalars.Int) no_argument))

abbrev pub defaults_of_concepts_unit_assert_3_1 : Expression
defaults_of_concepts_unit_assert_3_1 = concept_id (m 8 3 15) (d 0) (and_type (scalar_type (m 7 3 20) scalars.Bool) (and_type (scalar_type (m 8 3 15) scalars.Int) no_argument))

abbrev pub defaults_of_concepts_unit_assert_4_1 : Expression
defaults_of_concepts_unit_assert_4_1 = concept_id (m 12 4 15) (d 0) (and_type (scalar_type (m 10 4 20) scalars.Bool) (and_type (scalar_type (m 11 4 26) scalars.Bool) no_argument))

-- template<int N> concept Pos = N > 0;
-- template<unsigned N> concept Unsigned = N > 0;
-- static_assert(Pos<1>);
-- static_assert(Pos<-1>);
-- static_assert(Pos<true>);
-- static_assert(Pos<3000000000>);
-- static_assert(Unsigned<-1>);
-- static_assert(Pos<2 - 1>);
abbrev pub values_as_arguments_unit : Program
values_as_arguments_unit =
    unit
    (a_concept (record { at = (p 1 25); template_parameters = (tp (Some scalars.Int) None ∷ []); condition = (binary (m 2 1 31) word.Greater (position_name (m 0 1 31) 0) (literal (m 1 1 35) scalars.Int (pos 0))) })
    ∷ a_concept (record { at = (p 2 30); template_parameters = (tp (Some scalars.Unsigned) None ∷ []); condition = (binary (m 5 2 41) word.Greater (position_name (m 3 2 41) 0) (literal (m 4 2 45) scalars.Int (pos 0))) })
    ∷ [])
    ([])
    ([])
    ((2, (binary (m 2 1 31) word.Greater (position_name (m 0 1 31) 0) (literal (m 1 1 35) scalars.Int (pos 0))))
    ∷ (5, (binary (m 5 2 41) word.Greater (position_name (m 3 2 41) 0) (literal (m 4 2 45) scalars.Int (pos 0))))
    ∷ [])
    (around 0 ((Some scalars.Int) ∷ []) true ∷ around 3 ((Some scalars.Unsigned) ∷ []) true ∷ around 6 ([]) false ∷ [])
    ([])

abbrev pub values_as_arguments_unit_assert_3_1 : Expression
values_as_arguments_unit_assert_3_1 = concept_id (m 7 3 15) (d 0) (and_value (literal (m 6 3 19) scalars.Int (pos 1)) no_argument)

abbrev pub values_as_arguments_unit_assert_4_1 : Expression
values_as_arguments_unit_assert_4_1 = concept_id (m 11 4 15) (d 0) (and_value (unary (m 10 4 19) word.Minus (literal (m 9 4 20) scalars.Int (pos 1))) no_argument)

abbrev pub values_as_arguments_unit_assert_5_1 : Expression
values_as_arguments_unit_assert_5_1 = concept_id (m 14 5 15) (d 0) (and_value (literal (m 13 5 19) scalars.Bool (pos 1)) no_argument)

abbrev pub values_as_arguments_unit_assert_6_1 : Expression
values_as_arguments_unit_assert_6_1 = concept_id (m 17 6 15) (d 0) (and_value (literal (m 16 6 19) scalars.LongLong (pos 3000000000)) no_argument)

abbrev pub values_as_arguments_unit_assert_7_1 : Expression
values_as_arguments_unit_assert_7_1 = concept_id (m 21 7 15) (d 1) (and_value (unary (m 20 7 24) word.Minus (literal (m 19 7 25) scalars.Int (pos 1))) no_argument)

abbrev pub values_as_arguments_unit_assert_8_1 : Expression
values_as_arguments_unit_assert_8_1 = concept_id (m 26 8 15) (d 0) (and_value (binary (m 25 8 19) word.Minus (literal (m 23 8 19) scalars.Int (pos 2)) (literal (m 24 8 23) scalars.Int (pos 1))) no_argument)

-- template<int N> struct V { };
-- template<typename T> struct X { };
-- template<typename T> concept OfValue = requires { typename V<T>; };
-- template<typename T> concept OfTwo = requires { typename X<T, T>; };
-- template<typename T> concept OfOne = requires { typename X<T>; };
-- static_assert(OfValue<int>);
-- static_assert(OfTwo<int>);
-- static_assert(OfOne<int>);
abbrev pub type_for_a_value_unit : Program
type_for_a_value_unit =
    unit
    (a_struct (record { at = (p 1 24); itself = (inst (d 0) (arguments ((param 0) ∷ []))); is_template = true; template_parameters = (tp (Some scalars.Int) None ∷ []); constraints = ([]); primary = None; specialised_for = ([]); members = ([]) })
    ∷ a_struct (record { at = (p 2 29); itself = (inst (d 1) (arguments ((param 0) ∷ []))); is_template = true; template_parameters = (tp None None ∷ []); constraints = ([]); primary = None; specialised_for = ([]); members = ([]) })
    ∷ a_concept (record { at = (p 3 30); template_parameters = (tp None None ∷ []); condition = (requires (m 3 3 40) no_parameter (and_type_requirement (template_id (m 2 3 51) (p 3 60) (d 0) (and_type (position_type (m 0 3 62) 0) no_argument)) no_requirement)) })
    ∷ a_concept (record { at = (p 4 30); template_parameters = (tp None None ∷ []); condition = (requires (m 8 4 38) no_parameter (and_type_requirement (template_id (m 7 4 49) (p 4 58) (d 1) (and_type (position_type (m 4 4 60) 0) (and_type (position_type (m 5 4 63) 0) no_argument))) no_requirement)) })
    ∷ a_concept (record { at = (p 5 30); template_parameters = (tp None None ∷ []); condition = (requires (m 12 5 38) no_parameter (and_type_requirement (template_id (m 11 5 49) (p 5 58) (d 1) (and_type (position_type (m 9 5 60) 0) no_argument)) no_requirement)) })
    ∷ [])
    ([])
    ([])
    ((3, (requires (m 3 3 40) no_parameter (and_type_requirement (template_id (m 2 3 51) (p 3 60) (d 0) (and_type (position_type (m 0 3 62) 0) no_argument)) no_requirement)))
    ∷ (8, (requires (m 8 4 38) no_parameter (and_type_requirement (template_id (m 7 4 49) (p 4 58) (d 1) (and_type (position_type (m 4 4 60) 0) (and_type (position_type (m 5 4 63) 0) no_argument))) no_requirement)))
    ∷ (12, (requires (m 12 5 38) no_parameter (and_type_requirement (template_id (m 11 5 49) (p 5 58) (d 1) (and_type (position_type (m 9 5 60) 0) no_argument)) no_requirement)))
    ∷ [])
    (around 0 (None ∷ []) true ∷ around 13 ([]) false ∷ [])
    ([])

abbrev pub type_for_a_value_unit_assert_6_1 : Expression
type_for_a_value_unit_assert_6_1 = concept_id (m 14 6 15) (d 2) (and_type (scalar_type (m 13 6 23) scalars.Int) no_argument)

abbrev pub type_for_a_value_unit_assert_7_1 : Expression
type_for_a_value_unit_assert_7_1 = concept_id (m 17 7 15) (d 3) (and_type (scalar_type (m 16 7 21) scalars.Int) no_argument)

abbrev pub type_for_a_value_unit_assert_8_1 : Expression
type_for_a_value_unit_assert_8_1 = concept_id (m 20 8 15) (d 4) (and_type (scalar_type (m 19 8 21) scalars.Int) no_argument)

-- template<typename T> requires (__is_same(T, int)) struct OnlyInt { };
-- template<typename T> concept C = requires { typename OnlyInt<T>; };
-- static_assert(C<int>);
-- static_assert(C<bool>);
-- static_assert(__is_same(OnlyInt<bool>, int));
abbrev pub unsatisfied_template_unit : Program
unsatisfied_template_unit =
    unit
    (a_struct (record { at = (p 1 58); itself = (inst (d 0) (arguments ((param 0) ∷ []))); is_template = true; template_parameters = (tp None None ∷ []); constraints = ((parentheses (m 3 1 31) (is_same (m 2 1 32) (position_type (m 0 1 42) 0) (scalar_type (m 1 1 45) scalars.Int))) ∷ []); primary = None; specialised_for = ([]); members = ([]) })
    ∷ a_concept (record { at = (p 2 30); template_parameters = (tp None None ∷ []); condition = (requires (m 7 2 34) no_parameter (and_type_requirement (template_id (m 6 2 45) (p 2 54) (d 0) (and_type (position_type (m 4 2 62) 0) no_argument)) no_requirement)) })
    ∷ [])
    ([])
    ([])
    ((2, (is_same (m 2 1 32) (position_type (m 0 1 42) 0) (scalar_type (m 1 1 45) scalars.Int)))
    ∷ (7, (requires (m 7 2 34) no_parameter (and_type_requirement (template_id (m 6 2 45) (p 2 54) (d 0) (and_type (position_type (m 4 2 62) 0) no_argument)) no_requirement)))
    ∷ [])
    (around 0 (None ∷ []) true ∷ around 8 ([]) false ∷ [])
    ([])

abbrev pub unsatisfied_template_unit_assert_3_1 : Expression
unsatisfied_template_unit_assert_3_1 = concept_id (m 9 3 15) (d 1) (and_type (scalar_type (m 8 3 17) scalars.Int) no_argument)

abbrev pub unsatisfied_template_unit_assert_4_1 : Expression
unsatisfied_template_unit_assert_4_1 = concept_id (m 12 4 15) (d 1) (and_type (scalar_type (m 11 4 17) scalars.Bool) no_argument)

abbrev pub unsatisfied_template_unit_assert_5_1 : Expression
unsatisfied_template_unit_assert_5_1 = is_same (m 17 5 15) (template_id (m 15 5 25) (p 5 25) (d 0) (and_type (scalar_type (m 14 5 33) scalars.Bool) no_argument)) (scalar_type (m 16 5 40) scalars.Int)
