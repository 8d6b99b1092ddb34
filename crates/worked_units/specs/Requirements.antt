-- Requires-expressions ([expr.prim.req]).
use Rattle.std.specs.Prelude.{pos, true, false, [], ◌∷◌, Some, None, codes}
use Rattle.cx_base.specs.declared.value.Scalar.TheVariants as scalars
use Rattle.cx_term.specs.Term.{param, scalar, struct, inst, val, arguments}
use Rattle.cx_term.specs.declared.word.Word.TheVariants as word
use Rattle.cx_questions.specs.Forms.{Expression, literal, local_name, position_name, field_name, parentheses, unary, binary, conditional, dot, scope, call, list, is_same, out, concept_id, requires, no_expression, and_expression, functions, object_functions, position_type, scalar_type, void_type, struct_type, template_id, const_type, reference_type, member_type, decltype_type, no_argument, and_type, and_value, no_parameter, and_parameter, no_requirement, and_simple, and_type_requirement, and_constrained, and_nested, of_type, as_type, braces, block, return_statement, if_statement, variable, expression_statement, no_statement, and_statement}
use Rattle.cx_questions.specs.Program.{Program, a_function, a_struct, a_concept, a_constant, a_field, field, member_alias, static_constant, member_function}
use Rattle.cx_questions.specs.Environments.{Environment}
use Rattle.worked_units.specs.Units.{p, d, m, tp, parameter, around, unit}

-- template<typename T, typename U> struct is_same { static constexpr bool value = false; };
-- template<typename T> struct is_same<T, T> { static constexpr bool value = true; };
-- template<typename T, typename U> concept Same = is_same<T, U>::value && is_same<U, T>::value;
-- struct S { int x; };
-- template<typename T> concept Value = requires(T t) { { t.x } -> Same<int>; };
-- template<typename T> concept Place = requires(T t) { { t.x } -> Same<int&>; };
-- template<typename T> concept Sum = requires(T t) { { t.x + 1 } -> Same<int>; };
-- static_assert(Value<S>);
-- static_assert(Place<S>);
-- static_assert(Sum<S>);
abbrev pub type_of_a_member_unit : Program
type_of_a_member_unit =
    unit
    (a_struct (record { at = (p 1 41); itself = (inst (d 0) (arguments ((param 0) ∷ (param 1) ∷ []))); is_template = true; template_parameters = (tp None None ∷ tp None None ∷ []); constraints = ([]); primary = None; specialised_for = ([]); members = (static_constant (codes "value") (d 1) ∷ []) })
    ∷ a_constant (record { at = (p 1 73); name = (codes "value"); of = (scalar_type (m 0 1 68) scalars.Bool); initialiser = (literal (m 1 1 81) scalars.Bool (pos 0)); owner = (Some (d 0)) })
    ∷ a_struct (record { at = (p 2 29); itself = (inst (d 0) (arguments ((param 0) ∷ (param 0) ∷ []))); is_template = true; template_parameters = (tp None None ∷ []); constraints = ([]); primary = (Some (d 0)); specialised_for = (of_type (position_type (m 2 2 37) 0) ∷ of_type (position_type (m 3 2 40) 0) ∷ []); members = (static_constant (codes "value") (d 3) ∷ []) })
    ∷ a_constant (record { at = (p 2 67); name = (codes "value"); of = (scalar_type (m 4 2 62) scalars.Bool); initialiser = (literal (m 5 2 75) scalars.Bool (pos 1)); owner = (Some (d 2)) })
    ∷ a_concept (record { at = (p 3 42); template_parameters = (tp None None ∷ tp None None ∷ []); condition = (binary (m 14 3 49) word.LogicalAnd (scope (m 9 3 49) (template_id (m 8 3 49) (p 3 49) (d 0) (and_type (position_type (m 6 3 57) 0) (and_type (position_type (m 7 3 60) 1) no_argument))) ([]) (codes "value")) (scope (m 13 3 73) (template_id (m 12 3 73) (p 3 73) (d 0) (and_type (position_type (m 10 3 81) 1) (and_type (position_type (m 11 3 84) 0) no_argument))) ([]) (codes "value"))) })
    ∷ a_struct (record { at = (p 4 8); itself = (struct (d 5)); is_template = false; template_parameters = ([]); constraints = ([]); primary = None; specialised_for = ([]); members = (field (codes "x") (scalar_type (m 15 4 12) scalars.Int) ∷ []) })
    ∷ a_field 0 (scalar_type (m 15 4 12) scalars.Int)
    ∷ a_concept (record { at = (p 5 30); template_parameters = (tp None None ∷ []); condition = (requires (m 22 5 38) (and_parameter (m 17 5 49) (position_type (m 16 5 47) 0) 0 true no_parameter) (and_constrained (dot (m 19 5 56) (local_name (m 18 5 56) 0) (codes "x")) (m 21 5 65) (d 4) (and_type (scalar_type (m 20 5 70) scalars.Int) no_argument) no_requirement)) })
    ∷ a_concept (record { at = (p 6 30); template_parameters = (tp None None ∷ []); condition = (requires (m 29 6 38) (and_parameter (m 24 6 49) (position_type (m 23 6 47) 0) 0 true no_parameter) (and_constrained (dot (m 26 6 56) (local_name (m 25 6 56) 0) (codes "x")) (m 28 6 65) (d 4) (and_type (reference_type (m 27 6 70) (scalar_type (m 27 6 70) scalars.Int)) no_argument) no_requirement)) })
    ∷ a_concept (record { at = (p 7 30); template_parameters = (tp None None ∷ []); condition = (requires (m 38 7 36) (and_parameter (m 31 7 47) (position_type (m 30 7 45) 0) 0 true no_parameter) (and_constrained (binary (m 35 7 54) word.Plus (dot (m 33 7 54) (local_name (m 32 7 54) 0) (codes "x")) (literal (m 34 7 60) scalars.Int (pos 1))) (m 37 7 67) (d 4) (and_type (scalar_type (m 36 7 72) scalars.Int) no_argument) no_requirement)) })
    ∷ [])
    ([])
    ((0, ((d 2) ∷ [])) ∷ [])
    ((9, (scope (m 9 3 49) (template_id (m 8 3 49) (p 3 49) (d 0) (and_type (position_type (m 6 3 57) 0) (and_type (position_type (m 7 3 60) 1) no_argument))) ([]) (codes "value")))
    ∷ (13, (scope (m 13 3 73) (template_id (m 12 3 73) (p 3 73) (d 0) (and_type (position_type (m 10 3 81) 1) (and_type (position_type (m 11 3 84) 0) no_argument))) ([]) (codes "value")))
    ∷ (22, (requires (m 22 5 38) (and_parameter (m 17 5 49) (position_type (m 16 5 47) 0) 0 true no_parameter) (and_constrained (dot (m 19 5 56) (local_name (m 18 5 56) 0) (codes "x")) (m 21 5 65) (d 4) (and_type (scalar_type (m 20 5 70) scalars.Int) no_argument) no_requirement)))
    ∷ (29, (requires (m 29 6 38) (and_parameter (m 24 6 49) (position_type (m 23 6 47) 0) 0 true no_parameter) (and_constrained (dot (m 26 6 56) (local_name (m 25 6 56) 0) (codes "x")) (m 28 6 65) (d 4) (and_type (reference_type (m 27 6 70) (scalar_type (m 27 6 70) scalars.Int)) no_argument) no_requirement)))
    ∷ (38, (requires (m 38 7 36) (and_parameter (m 31 7 47) (position_type (m 30 7 45) 0) 0 true no_parameter) (and_constrained (binary (m 35 7 54) word.Plus (dot (m 33 7 54) (local_name (m 32 7 54) 0) (codes "x")) (literal (m 34 7 60) scalars.Int (pos 1))) (m 37 7 67) (d 4) (and_type (scalar_type (m 36 7 72) scalars.Int) no_argument) no_requirement)))
    ∷ [])
    (around 0 (None ∷ None ∷ []) true ∷ around 2 (None ∷ []) true ∷ around 6 (None ∷ None ∷ []) true ∷ around 15 ([]) false ∷ around 16 (None ∷ []) true ∷ around 39 ([]) false ∷ [])
    ([])

abbrev pub type_of_a_member_unit_assert_8_1 : Expression
type_of_a_member_unit_assert_8_1 = concept_id (m 40 8 15) (d 7) (and_type (struct_type (m 39 8 21) (d 5)) no_argument)

abbrev pub type_of_a_member_unit_assert_9_1 : Expression
type_of_a_member_unit_assert_9_1 = concept_id (m 43 9 15) (d 8) (and_type (struct_type (m 42 9 21) (d 5)) no_argument)

abbrev pub type_of_a_member_unit_assert_10_1 : Expression
type_of_a_member_unit_assert_10_1 = concept_id (m 46 10 15) (d 9) (and_type (struct_type (m 45 10 19) (d 5)) no_argument)

-- struct E { };
-- static_assert(requires(E e) { e.x; });
-- static_assert(requires(E e) { e; });
-- template<typename T> concept X = requires(T t) { t.x; };
-- static_assert(X<E>);
abbrev pub outside_a_template_unit : Program
outside_a_template_unit =
    unit
    (a_struct (record { at = (p 1 8); itself = (struct (d 0)); is_template = false; template_parameters = ([]); constraints = ([]); primary = None; specialised_for = ([]); members = ([]) })
    ∷ a_concept (record { at = (p 4 30); template_parameters = (tp None None ∷ []); condition = (requires (m 15 4 34) (and_parameter (m 12 4 45) (position_type (m 11 4 43) 0) 0 true no_parameter) (and_simple (dot (m 14 4 50) (local_name (m 13 4 50) 0) (codes "x")) no_requirement)) })
    ∷ [])
    ([])
    ([])
    ((4, (requires (m 4 2 15) (and_parameter (m 1 2 26) (struct_type (m 0 2 24) (d 0)) 0 true no_parameter) (and_simple (dot (m 3 2 31) (local_name (m 2 2 31) 0) (codes "x")) no_requirement)))
    ∷ (9, (requires (m 9 3 15) (and_parameter (m 7 3 26) (struct_type (m 6 3 24) (d 0)) 1 true no_parameter) (and_simple (local_name (m 8 3 31) 1) no_requirement)))
    ∷ (15, (requires (m 15 4 34) (and_parameter (m 12 4 45) (position_type (m 11 4 43) 0) 0 true no_parameter) (and_simple (dot (m 14 4 50) (local_name (m 13 4 50) 0) (codes "x")) no_requirement)))
    ∷ [])
    (around 0 ([]) false ∷ around 11 (None ∷ []) true ∷ around 16 ([]) false ∷ [])
    ([])

abbrev pub outside_a_template_unit_assert_2_1 : Expression
outside_a_template_unit_assert_2_1 = requires (m 4 2 15) (and_parameter (m 1 2 26) (struct_type (m 0 2 24) (d 0)) 0 true no_parameter) (and_simple (dot (m 3 2 31) (local_name (m 2 2 31) 0) (codes "x")) no_requirement)

abbrev pub outside_a_template_unit_assert_3_1 : Expression
outside_a_template_unit_assert_3_1 = requires (m 9 3 15) (and_parameter (m 7 3 26) (struct_type (m 6 3 24) (d 0)) 1 true no_parameter) (and_simple (local_name (m 8 3 31) 1) no_requirement)

abbrev pub outside_a_template_unit_assert_5_1 : Expression
outside_a_template_unit_assert_5_1 = concept_id (m 17 5 15) (d 1) (and_type (struct_type (m 16 5 17) (d 0)) no_argument)

-- template<typename T> concept C = requires(T& t) { true; };
-- template<typename T> concept D = requires(T t) { true; };
-- static_assert(C<int>);
-- static_assert(C<void>);
-- static_assert(D<void>);
abbrev pub invalid_parameter_unit : Program
invalid_parameter_unit =
    unit
    (a_concept (record { at = (p 1 30); template_parameters = (tp None None ∷ []); condition = (requires (m 3 1 34) (and_parameter (m 1 1 46) (reference_type (m 0 1 43) (position_type (m 0 1 43) 0)) 0 true no_parameter) (and_simple (literal (m 2 1 51) scalars.Bool (pos 1)) no_requirement)) })
    ∷ a_concept (record { at = (p 2 30); template_parameters = (tp None None ∷ []); condition = (requires (m 7 2 34) (and_parameter (m 5 2 45) (position_type (m 4 2 43) 0) 0 true no_parameter) (and_simple (literal (m 6 2 50) scalars.Bool (pos 1)) no_requirement)) })
    ∷ [])
    ([])
    ([])
    ((3, (requires (m 3 1 34) (and_parameter (m 1 1 46) (reference_type (m 0 1 43) (position_type (m 0 1 43) 0)) 0 true no_parameter) (and_simple (literal (m 2 1 51) scalars.Bool (pos 1)) no_requirement)))
    ∷ (7, (requires (m 7 2 34) (and_parameter (m 5 2 45) (position_type (m 4 2 43) 0) 0 true no_parameter) (and_simple (literal (m 6 2 50) scalars.Bool (pos 1)) no_requirement)))
    ∷ [])
    (around 0 (None ∷ []) true ∷ around 8 ([]) false ∷ [])
    ([])

abbrev pub invalid_parameter_unit_assert_3_1 : Expression
invalid_parameter_unit_assert_3_1 = concept_id (m 9 3 15) (d 0) (and_type (scalar_type (m 8 3 17) scalars.Int) no_argument)

abbrev pub invalid_parameter_unit_assert_4_1 : Expression
invalid_parameter_unit_assert_4_1 = concept_id (m 12 4 15) (d 0) (and_type (void_type (m 11 4 17)) no_argument)

abbrev pub invalid_parameter_unit_assert_5_1 : Expression
invalid_parameter_unit_assert_5_1 = concept_id (m 15 5 15) (d 1) (and_type (void_type (m 14 5 17)) no_argument)

-- template<typename T> concept Int = __is_same(T, int);
-- template<typename T> concept C = requires(T t) { requires Int<decltype(t)>; };
-- template<typename T> concept D = requires(T t) { requires Int<T> || true; };
-- static_assert(C<int>);
-- static_assert(C<bool>);
-- static_assert(D<bool>);
abbrev pub nested_requirement_unit : Program
nested_requirement_unit =
    unit
    (a_concept (record { at = (p 1 30); template_parameters = (tp None None ∷ []); condition = (is_same (m 2 1 36) (position_type (m 0 1 46) 0) (scalar_type (m 1 1 49) scalars.Int)) })
    ∷ a_concept (record { at = (p 2 30); template_parameters = (tp None None ∷ []); condition = (requires (m 8 2 34) (and_parameter (m 4 2 45) (position_type (m 3 2 43) 0) 0 true no_parameter) (and_nested (concept_id (m 7 2 59) (d 0) (and_type (decltype_type (m 6 2 63) (local_name (m 5 2 72) 0)) no_argument)) no_requirement)) })
    ∷ a_concept (record { at = (p 3 30); template_parameters = (tp None None ∷ []); condition = (requires (m 15 3 34) (and_parameter (m 10 3 45) (position_type (m 9 3 43) 0) 0 true no_parameter) (and_nested (binary (m 14 3 59) word.LogicalOr (concept_id (m 12 3 59) (d 0) (and_type (position_type (m 11 3 63) 0) no_argument)) (literal (m 13 3 69) scalars.Bool (pos 1))) no_requirement)) })
    ∷ [])
    ([])
    ([])
    ((2, (is_same (m 2 1 36) (position_type (m 0 1 46) 0) (scalar_type (m 1 1 49) scalars.Int)))
    ∷ (8, (requires (m 8 2 34) (and_parameter (m 4 2 45) (position_type (m 3 2 43) 0) 0 true no_parameter) (and_nested (concept_id (m 7 2 59) (d 0) (and_type (decltype_type (m 6 2 63) (local_name (m 5 2 72) 0)) no_argument)) no_requirement)))
    ∷ (13, (literal (m 13 3 69) scalars.Bool (pos 1)))
    ∷ (15, (requires (m 15 3 34) (and_parameter (m 10 3 45) (position_type (m 9 3 43) 0) 0 true no_parameter) (and_nested (binary (m 14 3 59) word.LogicalOr (concept_id (m 12 3 59) (d 0) (and_type (position_type (m 11 3 63) 0) no_argument)) (literal (m 13 3 69) scalars.Bool (pos 1))) no_requirement)))
    ∷ [])
    (around 0 (None ∷ []) true ∷ around 16 ([]) false ∷ [])
    ([])

abbrev pub nested_requirement_unit_assert_4_1 : Expression
nested_requirement_unit_assert_4_1 = concept_id (m 17 4 15) (d 1) (and_type (scalar_type (m 16 4 17) scalars.Int) no_argument)

abbrev pub nested_requirement_unit_assert_5_1 : Expression
nested_requirement_unit_assert_5_1 = concept_id (m 20 5 15) (d 1) (and_type (scalar_type (m 19 5 17) scalars.Bool) no_argument)

abbrev pub nested_requirement_unit_assert_6_1 : Expression
nested_requirement_unit_assert_6_1 = concept_id (m 23 6 15) (d 2) (and_type (scalar_type (m 22 6 17) scalars.Bool) no_argument)

-- template<typename T> struct Wrap { typename T::bad x; };
-- template<typename T> concept C = requires { requires __is_same(T, bool); Wrap<T>{}; };
-- static_assert(C<int>);
-- static_assert(C<bool>);
abbrev pub in_order_unit : Program
in_order_unit =
    unit
    (a_struct (record { at = (p 1 29); itself = (inst (d 0) (arguments ((param 0) ∷ []))); is_template = true; template_parameters = (tp None None ∷ []); constraints = ([]); primary = None; specialised_for = ([]); members = (field (codes "x") (member_type (m 1 1 36) (position_type (m 0 1 45) 0) ((codes "bad") ∷ [])) ∷ []) })
    ∷ a_field 0 (member_type (m 1 1 36) (position_type (m 0 1 45) 0) ((codes "bad") ∷ []))
    ∷ a_concept (record { at = (p 2 30); template_parameters = (tp None None ∷ []); condition = (requires (m 8 2 34) no_parameter (and_nested (is_same (m 4 2 54) (position_type (m 2 2 64) 0) (scalar_type (m 3 2 67) scalars.Bool)) (and_simple (list (m 7 2 74) (template_id (m 6 2 74) (p 2 74) (d 0) (and_type (position_type (m 5 2 79) 0) no_argument)) no_expression) no_requirement))) })
    ∷ [])
    ([])
    ([])
    ((4, (is_same (m 4 2 54) (position_type (m 2 2 64) 0) (scalar_type (m 3 2 67) scalars.Bool)))
    ∷ (8, (requires (m 8 2 34) no_parameter (and_nested (is_same (m 4 2 54) (position_type (m 2 2 64) 0) (scalar_type (m 3 2 67) scalars.Bool)) (and_simple (list (m 7 2 74) (template_id (m 6 2 74) (p 2 74) (d 0) (and_type (position_type (m 5 2 79) 0) no_argument)) no_expression) no_requirement))))
    ∷ [])
    (around 0 (None ∷ []) true ∷ around 9 ([]) false ∷ [])
    ([])

abbrev pub in_order_unit_assert_3_1 : Expression
in_order_unit_assert_3_1 = concept_id (m 10 3 15) (d 2) (and_type (scalar_type (m 9 3 17) scalars.Int) no_argument)

abbrev pub in_order_unit_assert_4_1 : Expression
in_order_unit_assert_4_1 = concept_id (m 13 4 15) (d 2) (and_type (scalar_type (m 12 4 17) scalars.Bool) no_argument)

-- struct A { int size() const { return 1; } void grow() { } };
-- template<typename T> concept Sized = requires(const T& t) { t.size(); };
-- template<typename T> concept Grows = requires(T& t) { t.grow(); };
-- template<typename T> concept GrowsConst = requires(const T& t) { t.grow(); };
-- static_assert(Sized<A>);
-- static_assert(Grows<A>);
-- static_assert(GrowsConst<A>);
-- static_assert(Sized<int>);
abbrev pub member_functions_unit : Program
member_functions_unit =
    unit
    (a_struct (record { at = (p 1 8); itself = (struct (d 0)); is_template = false; template_parameters = ([]); constraints = ([]); primary = None; specialised_for = ([]); members = (member_function (codes "size") (d 1) ∷ member_function (codes "grow") (d 2) ∷ []) })
    ∷ a_function (record { at = (p 1 16); name = (codes "size"); owner = (Some (d 0)); is_template = false; template_parameters = ([]); constraints = ([]); parameters = ([]); result = (scalar_type (m 0 1 12) scalars.Int); is_const = true; is_constexpr = false; body = Some (block (m 4 1 29) (and_statement (return_statement (m 3 1 31) (Some (literal (m 2 1 38) scalars.Int (pos 1)))) no_statement)) })
    ∷ a_function (record { at = (p 1 48); name = (codes "grow"); owner = (Some (d 0)); is_template = false; template_parameters = ([]); constraints = ([]); parameters = ([]); result = (void_type (m 1 1 43)); is_const = false; is_constexpr = false; body = Some (block (m 5 1 55) no_statement) })
    ∷ a_concept (record { at = (p 2 30); template_parameters = (tp None None ∷ []); condition = (requires (m 11 2 38) (and_parameter (m 7 2 56) (reference_type (m 6 2 47) (const_type (m 6 2 47) (position_type (m 6 2 47) 0))) 0 true no_parameter) (and_simple (call (m 10 2 61) (object_functions (m 9 2 61) (local_name (m 8 2 61) 0) (codes "size")) no_expression) no_requirement)) })
    ∷ a_concept (record { at = (p 3 30); template_parameters = (tp None None ∷ []); condition = (requires (m 17 3 38) (and_parameter (m 13 3 50) (reference_type (m 12 3 47) (position_type (m 12 3 47) 0)) 0 true no_parameter) (and_simple (call (m 16 3 55) (object_functions (m 15 3 55) (local_name (m 14 3 55) 0) (codes "grow")) no_expression) no_requirement)) })
    ∷ a_concept (record { at = (p 4 30); template_parameters = (tp None None ∷ []); condition = (requires (m 23 4 43) (and_parameter (m 19 4 61) (reference_type (m 18 4 52) (const_type (m 18 4 52) (position_type (m 18 4 52) 0))) 0 true no_parameter) (and_simple (call (m 22 4 66) (object_functions (m 21 4 66) (local_name (m 20 4 66) 0) (codes "grow")) no_expression) no_requirement)) })
    ∷ [])
    ([])
    ([])
    ((11, (requires (m 11 2 38) (and_parameter (m 7 2 56) (reference_type (m 6 2 47) (const_type (m 6 2 47) (position_type (m 6 2 47) 0))) 0 true no_parameter) (and_simple (call (m 10 2 61) (object_functions (m 9 2 61) (local_name (m 8 2 61) 0) (codes "size")) no_expression) no_requirement)))
    ∷ (17, (requires (m 17 3 38) (and_parameter (m 13 3 50) (reference_type (m 12 3 47) (position_type (m 12 3 47) 0)) 0 true no_parameter) (and_simple (call (m 16 3 55) (object_functions (m 15 3 55) (local_name (m 14 3 55) 0) (codes "grow")) no_expression) no_requirement)))
    ∷ (23, (requires (m 23 4 43) (and_parameter (m 19 4 61) (reference_type (m 18 4 52) (const_type (m 18 4 52) (position_type (m 18 4 52) 0))) 0 true no_parameter) (and_simple (call (m 22 4 66) (object_functions (m 21 4 66) (local_name (m 20 4 66) 0) (codes "grow")) no_expression) no_requirement)))
    ∷ [])
    (around 0 ([]) false ∷ around 6 (None ∷ []) true ∷ around 24 ([]) false ∷ [])
    ([])

abbrev pub member_functions_unit_assert_5_1 : Expression
member_functions_unit_assert_5_1 = concept_id (m 25 5 15) (d 3) (and_type (struct_type (m 24 5 21) (d 0)) no_argument)

abbrev pub member_functions_unit_assert_6_1 : Expression
member_functions_unit_assert_6_1 = concept_id (m 28 6 15) (d 4) (and_type (struct_type (m 27 6 21) (d 0)) no_argument)

abbrev pub member_functions_unit_assert_7_1 : Expression
member_functions_unit_assert_7_1 = concept_id (m 31 7 15) (d 5) (and_type (struct_type (m 30 7 26) (d 0)) no_argument)

abbrev pub member_functions_unit_assert_8_1 : Expression
member_functions_unit_assert_8_1 = concept_id (m 34 8 15) (d 3) (and_type (scalar_type (m 33 8 21) scalars.Int) no_argument)

-- template<typename T, typename U> struct is_same { static constexpr bool value = false; };
-- template<typename T> struct is_same<T, T> { static constexpr bool value = true; };
-- template<typename T, typename U> concept Same = is_same<T, U>::value && is_same<U, T>::value;
-- template<typename T> concept Ordered = requires(const T& a, const T& b) { { a < b } -> Same<bool>; };
-- template<typename T> concept Container = requires(const T& c) { typename T::value_type; { c.size() } -> Same<int>; };
-- template<Ordered T> constexpr const T& clamp(const T& v, const T& lo, const T& hi) { return v < lo ? lo : hi < v ? hi : v; }
-- template<typename T, int N> requires (N > 0) struct Ring {
--   using value_type = T;
--   T a; T b; int n;
--   constexpr int size() const { return n; }
--   constexpr T sum() const { return a + b; }
--   constexpr void push(const T& v) { if (n < N) { b = v; n = n + 1; } }
-- };
-- static_assert(Container<Ring<int, 4>> and not Container<int>, "profile");
-- static_assert(Container<Ring<int, 0>>);
-- int demo(int x) {
--   Ring<int, 4> r{1, 2, 0};
--   r.push(clamp(x, 0, 5));
--   __out(r.sum());
--   if constexpr (Container<Ring<int, 4>>) return r.size(); else return -1;
-- }
abbrev pub container_unit : Program
container_unit =
    unit
    (a_struct (record { at = (p 1 41); itself = (inst (d 0) (arguments ((param 0) ∷ (param 1) ∷ []))); is_template = true; template_parameters = (tp None None ∷ tp None None ∷ []); constraints = ([]); primary = None; specialised_for = ([]); members = (static_constant (codes "value") (d 1) ∷ []) })
    ∷ a_constant (record { at = (p 1 73); name = (codes "value"); of = (scalar_type (m 0 1 68) scalars.Bool); initialiser = (literal (m 1 1 81) scalars.Bool (pos 0)); owner = (Some (d 0)) })
    ∷ a_struct (record { at = (p 2 29); itself = (inst (d 0) (arguments ((param 0) ∷ (param 0) ∷ []))); is_template = true; template_parameters = (tp None None ∷ []); constraints = ([]); primary = (Some (d 0)); specialised_for = (of_type (position_type (m 2 2 37) 0) ∷ of_type (position_type (m 3 2 40) 0) ∷ []); members = (static_constant (codes "value") (d 3) ∷ []) })
    ∷ a_constant (record { at = (p 2 67); name = (codes "value"); of = (scalar_type (m 4 2 62) scalars.Bool); initialiser = (literal (m 5 2 75) scalars.Bool (pos 1)); owner = (Some (d 2)) })
    ∷ a_concept (record { at = (p 3 42); template_parameters = (tp None None ∷ tp None None ∷ []); condition = (binary (m 14 3 49) word.LogicalAnd (scope (m 9 3 49) (template_id (m 8 3 49) (p 3 49) (d 0) (and_type (position_type (m 6 3 57) 0) (and_type (position_type (m 7 3 60) 1) no_argument))) ([]) (codes "value")) (scope (m 13 3 73) (template_id (m 12 3 73) (p 3 73) (d 0) (and_type (position_type (m 10 3 81) 1) (and_type (position_type (m 11 3 84) 0) no_argument))) ([]) (codes "value"))) })
    ∷ a_concept (record { at = (p 4 30); template_parameters = (tp None None ∷ []); condition = (requires (m 24 4 40) (and_parameter (m 16 4 58) (reference_type (m 15 4 49) (const_type (m 15 4 49) (position_type (m 15 4 49) 0))) 0 true (and_parameter (m 18 4 70) (reference_type (m 17 4 61) (const_type (m 17 4 61) (position_type (m 17 4 61) 0))) 1 true no_parameter)) (and_constrained (binary (m 21 4 77) word.Less (local_name (m 19 4 77) 0) (local_name (m 20 4 81) 1)) (m 23 4 88) (d 4) (and_type (scalar_type (m 22 4 93) scalars.Bool) no_argument) no_requirement)) })
    ∷ a_concept (record { at = (p 5 30); template_parameters = (tp None None ∷ []); condition = (requires (m 34 5 42) (and_parameter (m 26 5 60) (reference_type (m 25 5 51) (const_type (m 25 5 51) (position_type (m 25 5 51) 0))) 0 true no_parameter) (and_type_requirement (member_type (m 28 5 65) (position_type (m 27 5 74) 0) ((codes "value_type") ∷ [])) (and_constrained (call (m 31 5 91) (object_functions (m 30 5 91) (local_name (m 29 5 91) 0) (codes "size")) no_expression) (m 33 5 105) (d 4) (and_type (scalar_type (m 32 5 110) scalars.Int) no_argument) no_requirement))) })
    ∷ a_function (record { at = (p 6 40); name = (codes "clamp"); owner = None; is_template = true; template_parameters = (tp None None ∷ []); constraints = ((concept_id (m 35 6 10) (d 5) (and_type (position_type (m 35 6 10) 0) no_argument)) ∷ []); parameters = (parameter (reference_type (m 37 6 46) (const_type (m 37 6 46) (position_type (m 37 6 46) 0))) 0 true ∷ parameter (reference_type (m 38 6 58) (const_type (m 38 6 58) (position_type (m 38 6 58) 0))) 1 true ∷ parameter (reference_type (m 39 6 71) (const_type (m 39 6 71) (position_type (m 39 6 71) 0))) 2 true ∷ []); result = (reference_type (m 36 6 31) (const_type (m 36 6 31) (position_type (m 36 6 31) 0))); is_const = false; is_constexpr = true; body = Some (block (m 52 6 84) (and_statement (return_statement (m 51 6 86) (Some (conditional (m 50 6 93) (binary (m 42 6 93) word.Less (local_name (m 40 6 93) 0) (local_name (m 41 6 97) 1)) (local_name (m 43 6 102) 1) (conditional (m 49 6 107) (binary (m 46 6 107) word.Less (local_name (m 44 6 107) 2) (local_name (m 45 6 112) 0)) (local_name (m 47 6 116) 2) (local_name (m 48 6 121) 0))))) no_statement)) })
    ∷ a_struct (record { at = (p 7 53); itself = (inst (d 8) (arguments ((param 0) ∷ (param 1) ∷ []))); is_template = true; template_parameters = (tp None None ∷ tp (Some scalars.Int) None ∷ []); constraints = ((parentheses (m 56 7 38) (binary (m 55 7 39) word.Greater (position_name (m 53 7 39) 1) (literal (m 54 7 43) scalars.Int (pos 0)))) ∷ []); primary = None; specialised_for = ([]); members = (member_alias (codes "value_type") (position_type (m 57 8 22) 0) ∷ field (codes "a") (position_type (m 58 9 3) 0) ∷ field (codes "b") (position_type (m 59 9 8) 0) ∷ field (codes "n") (scalar_type (m 60 9 13) scalars.Int) ∷ member_function (codes "size") (d 12) ∷ member_function (codes "sum") (d 13) ∷ member_function (codes "push") (d 14) ∷ []) })
    ∷ a_field 0 (position_type (m 58 9 3) 0)
    ∷ a_field 1 (position_type (m 59 9 8) 0)
    ∷ a_field 2 (scalar_type (m 60 9 13) scalars.Int)
    ∷ a_function (record { at = (p 10 17); name = (codes "size"); owner = (Some (d 8)); is_template = true; template_parameters = (tp None None ∷ tp (Some scalars.Int) None ∷ []); constraints = ([]); parameters = ([]); result = (scalar_type (m 61 10 13) scalars.Int); is_const = true; is_constexpr = true; body = Some (block (m 67 10 30) (and_statement (return_statement (m 66 10 32) (Some (field_name (m 65 10 39) 2 (d 11)))) no_statement)) })
    ∷ a_function (record { at = (p 11 15); name = (codes "sum"); owner = (Some (d 8)); is_template = true; template_parameters = (tp None None ∷ tp (Some scalars.Int) None ∷ []); constraints = ([]); parameters = ([]); result = (position_type (m 62 11 13) 0); is_const = true; is_constexpr = true; body = Some (block (m 72 11 27) (and_statement (return_statement (m 71 11 29) (Some (binary (m 70 11 36) word.Plus (field_name (m 68 11 36) 0 (d 9)) (field_name (m 69 11 40) 1 (d 10))))) no_statement)) })
    ∷ a_function (record { at = (p 12 18); name = (codes "push"); owner = (Some (d 8)); is_template = true; template_parameters = (tp None None ∷ tp (Some scalars.Int) None ∷ []); constraints = ([]); parameters = (parameter (reference_type (m 64 12 23) (const_type (m 64 12 23) (position_type (m 64 12 23) 0))) 0 true ∷ []); result = (void_type (m 63 12 13)); is_const = false; is_constexpr = true; body = Some (block (m 88 12 35) (and_statement (if_statement (m 87 12 37) false (binary (m 75 12 41) word.Less (field_name (m 73 12 41) 2 (d 11)) (position_name (m 74 12 45) 1)) (block (m 86 12 48) (and_statement (expression_statement (m 79 12 50) (binary (m 78 12 50) word.Assign (field_name (m 76 12 50) 1 (d 10)) (local_name (m 77 12 54) 0))) (and_statement (expression_statement (m 85 12 57) (binary (m 84 12 57) word.Assign (field_name (m 80 12 57) 2 (d 11)) (binary (m 83 12 61) word.Plus (field_name (m 81 12 61) 2 (d 11)) (literal (m 82 12 65) scalars.Int (pos 1))))) no_statement))) no_statement) no_statement)) })
    ∷ a_function (record { at = (p 16 5); name = (codes "demo"); owner = None; is_template = false; template_parameters = ([]); constraints = ([]); parameters = (parameter (scalar_type (m 104 16 10) scalars.Int) 0 true ∷ []); result = (scalar_type (m 103 16 1) scalars.Int); is_const = false; is_constexpr = false; body = Some (block (m 139 16 17) (and_statement (variable (m 112 17 3) false (as_type (template_id (m 107 17 3) (p 17 3) (d 8) (and_type (scalar_type (m 105 17 8) scalars.Int) (and_value (literal (m 106 17 13) scalars.Int (pos 4)) no_argument)))) 1 (braces (m 111 17 17) (and_expression (literal (m 108 17 18) scalars.Int (pos 1)) (and_expression (literal (m 109 17 21) scalars.Int (pos 2)) (and_expression (literal (m 110 17 24) scalars.Int (pos 0)) no_expression))))) (and_statement (expression_statement (m 121 18 3) (call (m 120 18 3) (object_functions (m 114 18 3) (local_name (m 113 18 3) 1) (codes "push")) (and_expression (call (m 119 18 10) (functions (m 115 18 10) (codes "clamp") 1) (and_expression (local_name (m 116 18 16) 0) (and_expression (literal (m 117 18 19) scalars.Int (pos 0)) (and_expression (literal (m 118 18 22) scalars.Int (pos 5)) no_expression)))) no_expression))) (and_statement (expression_statement (m 126 19 3) (out (m 125 19 3) (call (m 124 19 9) (object_functions (m 123 19 9) (local_name (m 122 19 9) 1) (codes "sum")) no_expression))) (and_statement (if_statement (m 138 20 3) true (concept_id (m 130 20 17) (d 6) (and_type (template_id (m 129 20 27) (p 20 27) (d 8) (and_type (scalar_type (m 127 20 32) scalars.Int) (and_value (literal (m 128 20 37) scalars.Int (pos 4)) no_argument))) no_argument)) (return_statement (m 134 20 42) (Some (call (m 133 20 49) (object_functions (m 132 20 49) (local_name (m 131 20 49) 1) (codes "size")) no_expression))) (and_statement (return_statement (m 137 20 64) (Some (unary (m 136 20 71) word.Minus (literal (m 135 20 72) scalars.Int (pos 1))))) no_statement)) no_statement))))) })
    ∷ [])
    (((codes "clamp"), ((d 7) ∷ [])) ∷ ((codes "demo"), ((d 15) ∷ [])) ∷ [])
    ((0, ((d 2) ∷ [])) ∷ [])
    ((9, (scope (m 9 3 49) (template_id (m 8 3 49) (p 3 49) (d 0) (and_type (position_type (m 6 3 57) 0) (and_type (position_type (m 7 3 60) 1) no_argument))) ([]) (codes "value")))
    ∷ (13, (scope (m 13 3 73) (template_id (m 12 3 73) (p 3 73) (d 0) (and_type (position_type (m 10 3 81) 1) (and_type (position_type (m 11 3 84) 0) no_argument))) ([]) (codes "value")))
    ∷ (24, (requires (m 24 4 40) (and_parameter (m 16 4 58) (reference_type (m 15 4 49) (const_type (m 15 4 49) (position_type (m 15 4 49) 0))) 0 true (and_parameter (m 18 4 70) (reference_type (m 17 4 61) (const_type (m 17 4 61) (position_type (m 17 4 61) 0))) 1 true no_parameter)) (and_constrained (binary (m 21 4 77) word.Less (local_name (m 19 4 77) 0) (local_name (m 20 4 81) 1)) (m 23 4 88) (d 4) (and_type (scalar_type (m 22 4 93) scalars.Bool) no_argument) no_requirement)))
    ∷ (34, (requires (m 34 5 42) (and_parameter (m 26 5 60) (reference_type (m 25 5 51) (const_type (m 25 5 51) (position_type (m 25 5 51) 0))) 0 true no_parameter) (and_type_requirement (member_type (m 28 5 65) (position_type (m 27 5 74) 0) ((codes "value_type") ∷ [])) (and_constrained (call (m 31 5 91) (object_functions (m 30 5 91) (local_name (m 29 5 91) 0) (codes "size")) no_expression) (m 33 5 105) (d 4) (and_type (scalar_type (m 32 5 110) scalars.Int) no_argument) no_requirement))))
    ∷ (55, (binary (m 55 7 39) word.Greater (position_name (m 53 7 39) 1) (literal (m 54 7 43) scalars.Int (pos 0))))
    ∷ [])
    (around 0 (None ∷ None ∷ []) true ∷ around 2 (None ∷ []) true ∷ around 6 (None ∷ None ∷ []) true ∷ around 15 (None ∷ []) true ∷ around 53 (None ∷ (Some scalars.Int) ∷ []) true ∷ around 89 ([]) false ∷ [])
    ([])

abbrev pub container_unit_call_18_10 : Expression
container_unit_call_18_10 = call (m 119 18 10) (functions (m 115 18 10) (codes "clamp") 1) (and_expression (local_name (m 116 18 16) 0) (and_expression (literal (m 117 18 19) scalars.Int (pos 0)) (and_expression (literal (m 118 18 22) scalars.Int (pos 5)) no_expression)))

abbrev pub container_unit_locals_18_10 : Environment
container_unit_locals_18_10 = record { arguments = []; variables = (Some (record { of = (scalar scalars.Int); value = None }) ∷ Some (record { of = (inst (d 8) (arguments ((scalar scalars.Int) ∷ (val scalars.Int (pos 4)) ∷ []))); value = None }) ∷ []); object = None }

abbrev pub container_unit_call_18_3 : Expression
container_unit_call_18_3 = call (m 120 18 3) (object_functions (m 114 18 3) (local_name (m 113 18 3) 1) (codes "push")) (and_expression (call (m 119 18 10) (functions (m 115 18 10) (codes "clamp") 1) (and_expression (local_name (m 116 18 16) 0) (and_expression (literal (m 117 18 19) scalars.Int (pos 0)) (and_expression (literal (m 118 18 22) scalars.Int (pos 5)) no_expression)))) no_expression)

abbrev pub container_unit_locals_18_3 : Environment
container_unit_locals_18_3 = record { arguments = []; variables = (Some (record { of = (scalar scalars.Int); value = None }) ∷ Some (record { of = (inst (d 8) (arguments ((scalar scalars.Int) ∷ (val scalars.Int (pos 4)) ∷ []))); value = None }) ∷ []); object = None }

abbrev pub container_unit_call_19_9 : Expression
container_unit_call_19_9 = call (m 124 19 9) (object_functions (m 123 19 9) (local_name (m 122 19 9) 1) (codes "sum")) no_expression

abbrev pub container_unit_locals_19_9 : Environment
container_unit_locals_19_9 = record { arguments = []; variables = (Some (record { of = (scalar scalars.Int); value = None }) ∷ Some (record { of = (inst (d 8) (arguments ((scalar scalars.Int) ∷ (val scalars.Int (pos 4)) ∷ []))); value = None }) ∷ []); object = None }

abbrev pub container_unit_call_20_49 : Expression
container_unit_call_20_49 = call (m 133 20 49) (object_functions (m 132 20 49) (local_name (m 131 20 49) 1) (codes "size")) no_expression

abbrev pub container_unit_locals_20_49 : Environment
container_unit_locals_20_49 = record { arguments = []; variables = (Some (record { of = (scalar scalars.Int); value = None }) ∷ Some (record { of = (inst (d 8) (arguments ((scalar scalars.Int) ∷ (val scalars.Int (pos 4)) ∷ []))); value = None }) ∷ []); object = None }

abbrev pub container_unit_assert_14_1 : Expression
container_unit_assert_14_1 = binary (m 96 14 15) word.LogicalAnd (concept_id (m 92 14 15) (d 6) (and_type (template_id (m 91 14 25) (p 14 25) (d 8) (and_type (scalar_type (m 89 14 30) scalars.Int) (and_value (literal (m 90 14 35) scalars.Int (pos 4)) no_argument))) no_argument)) (unary (m 95 14 43) word.Not (concept_id (m 94 14 47) (d 6) (and_type (scalar_type (m 93 14 57) scalars.Int) no_argument)))

abbrev pub container_unit_assert_15_1 : Expression
container_unit_assert_15_1 = concept_id (m 101 15 15) (d 6) (and_type (template_id (m 100 15 25) (p 15 25) (d 8) (and_type (scalar_type (m 98 15 30) scalars.Int) (and_value (literal (m 99 15 35) scalars.Int (pos 0)) no_argument))) no_argument)
