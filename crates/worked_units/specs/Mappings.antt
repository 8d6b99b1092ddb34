-- Mappings of atomic constraints through concepts and values ([temp.constr.normal]), and orders by constraints.
use Rattle.std.specs.Prelude.{pos, true, false, [], ◌∷◌, Some, None, codes}
use Rattle.cx_base.specs.declared.value.Scalar.TheVariants as scalars
use Rattle.cx_term.specs.Term.{param, scalar, struct, inst, arguments}
use Rattle.cx_term.specs.declared.word.Word.TheVariants as word
use Rattle.cx_questions.specs.Forms.{Expression, literal, local_name, position_name, parentheses, unary, binary, scope, call, is_same, concept_id, no_expression, and_expression, functions, functions_with, position_type, scalar_type, struct_type, template_id, const_type, reference_type, member_type, no_argument, and_type, and_value, as_type, equals, block, return_statement, variable, no_statement, and_statement}
use Rattle.cx_questions.specs.Program.{Program, a_function, a_struct, a_concept, a_constant, a_field, field, member_alias, static_constant}
use Rattle.cx_questions.specs.Environments.{Environment}
use Rattle.worked_units.specs.Units.{p, d, m, tp, parameter, around, unit}

-- template<int N> concept Pos = N > 0;
-- template<int M> concept Two = Pos<M - 1>;
-- template<int K> requires Two<K + 1> int f() { return 1; }
-- int g() { return f<1>() + f<0>(); }
abbrev pub value_through_two_unit : Program
value_through_two_unit =
    unit
    (a_concept (record { at = (p 1 25); template_parameters = (tp (Some scalars.Int) None ∷ []); condition = (binary (m 2 1 31) word.Greater (position_name (m 0 1 31) 0) (literal (m 1 1 35) scalars.Int (pos 0))) })
    ∷ a_concept (record { at = (p 2 25); template_parameters = (tp (Some scalars.Int) None ∷ []); condition = (concept_id (m 6 2 31) (d 0) (and_value (binary (m 5 2 35) word.Minus (position_name (m 3 2 35) 0) (literal (m 4 2 39) scalars.Int (pos 1))) no_argument)) })
    ∷ a_function (record { at = (p 3 41); name = (codes "f"); owner = None; is_template = true; template_parameters = (tp (Some scalars.Int) None ∷ []); constraints = ((concept_id (m 10 3 26) (d 1) (and_value (binary (m 9 3 30) word.Plus (position_name (m 7 3 30) 0) (literal (m 8 3 34) scalars.Int (pos 1))) no_argument)) ∷ []); parameters = ([]); result = (scalar_type (m 11 3 37) scalars.Int); is_const = false; is_constexpr = false; body = Some (block (m 14 3 45) (and_statement (return_statement (m 13 3 47) (Some (literal (m 12 3 54) scalars.Int (pos 1)))) no_statement)) })
    ∷ a_function (record { at = (p 4 5); name = (codes "g"); owner = None; is_template = false; template_parameters = ([]); constraints = ([]); parameters = ([]); result = (scalar_type (m 15 4 1) scalars.Int); is_const = false; is_constexpr = false; body = Some (block (m 24 4 9) (and_statement (return_statement (m 23 4 11) (Some (binary (m 22 4 18) word.Plus (call (m 18 4 18) (functions_with (m 17 4 18) (codes "f") 1 (and_value (literal (m 16 4 20) scalars.Int (pos 1)) no_argument)) no_expression) (call (m 21 4 27) (functions_with (m 20 4 27) (codes "f") 1 (and_value (literal (m 19 4 29) scalars.Int (pos 0)) no_argument)) no_expression)))) no_statement)) })
    ∷ [])
    (((codes "f"), ((d 2) ∷ [])) ∷ ((codes "g"), ((d 3) ∷ [])) ∷ [])
    ([])
    ((2, (binary (m 2 1 31) word.Greater (position_name (m 0 1 31) 0) (literal (m 1 1 35) scalars.Int (pos 0))))
    ∷ [])
    (around 0 ((Some scalars.Int) ∷ []) true ∷ around 15 ([]) false ∷ [])
    ([])

abbrev pub value_through_two_unit_call_4_18 : Expression
value_through_two_unit_call_4_18 = call (m 18 4 18) (functions_with (m 17 4 18) (codes "f") 1 (and_value (literal (m 16 4 20) scalars.Int (pos 1)) no_argument)) no_expression

abbrev pub value_through_two_unit_call_4_27 : Expression
value_through_two_unit_call_4_27 = call (m 21 4 27) (functions_with (m 20 4 27) (codes "f") 1 (and_value (literal (m 19 4 29) scalars.Int (pos 0)) no_argument)) no_expression

-- template<int N> struct Box { static constexpr int v = N; };
-- template<int V> concept Pos = V > 0;
-- template<int M> concept Full = Pos<Box<M>::v>;
-- template<int K> requires Full<K> int f() { return 1; }
-- int g() { return f<3>() + f<0>(); }
abbrev pub instance_in_a_target_unit : Program
instance_in_a_target_unit =
    unit
    (a_struct (record { at = (p 1 24); itself = (inst (d 0) (arguments ((param 0) ∷ []))); is_template = true; template_parameters = (tp (Some scalars.Int) None ∷ []); constraints = ([]); primary = None; specialised_for = ([]); members = (static_constant (codes "v") (d 1) ∷ []) })
    ∷ a_constant (record { at = (p 1 51); name = (codes "v"); of = (scalar_type (m 0 1 47) scalars.Int); initialiser = (position_name (m 1 1 55) 0); owner = (Some (d 0)) })
    ∷ a_concept (record { at = (p 2 25); template_parameters = (tp (Some scalars.Int) None ∷ []); condition = (binary (m 4 2 31) word.Greater (position_name (m 2 2 31) 0) (literal (m 3 2 35) scalars.Int (pos 0))) })
    ∷ a_concept (record { at = (p 3 25); template_parameters = (tp (Some scalars.Int) None ∷ []); condition = (concept_id (m 8 3 32) (d 2) (and_value (scope (m 7 3 36) (template_id (m 6 3 36) (p 3 36) (d 0) (and_value (position_name (m 5 3 40) 0) no_argument)) ([]) (codes "v")) no_argument)) })
    ∷ a_function (record { at = (p 4 38); name = (codes "f"); owner = None; is_template = true; template_parameters = (tp (Some scalars.Int) None ∷ []); constraints = ((concept_id (m 10 4 26) (d 3) (and_value (position_name (m 9 4 31) 0) no_argument)) ∷ []); parameters = ([]); result = (scalar_type (m 11 4 34) scalars.Int); is_const = false; is_constexpr = false; body = Some (block (m 14 4 42) (and_statement (return_statement (m 13 4 44) (Some (literal (m 12 4 51) scalars.Int (pos 1)))) no_statement)) })
    ∷ a_function (record { at = (p 5 5); name = (codes "g"); owner = None; is_template = false; template_parameters = ([]); constraints = ([]); parameters = ([]); result = (scalar_type (m 15 5 1) scalars.Int); is_const = false; is_constexpr = false; body = Some (block (m 24 5 9) (and_statement (return_statement (m 23 5 11) (Some (binary (m 22 5 18) word.Plus (call (m 18 5 18) (functions_with (m 17 5 18) (codes "f") 1 (and_value (literal (m 16 5 20) scalars.Int (pos 3)) no_argument)) no_expression) (call (m 21 5 27) (functions_with (m 20 5 27) (codes "f") 1 (and_value (literal (m 19 5 29) scalars.Int (pos 0)) no_argument)) no_expression)))) no_statement)) })
    ∷ [])
    (((codes "f"), ((d 4) ∷ [])) ∷ ((codes "g"), ((d 5) ∷ [])) ∷ [])
    ([])
    ((4, (binary (m 4 2 31) word.Greater (position_name (m 2 2 31) 0) (literal (m 3 2 35) scalars.Int (pos 0))))
    ∷ [])
    (around 0 ((Some scalars.Int) ∷ []) true ∷ around 15 ([]) false ∷ [])
    ([])

abbrev pub instance_in_a_target_unit_call_5_18 : Expression
instance_in_a_target_unit_call_5_18 = call (m 18 5 18) (functions_with (m 17 5 18) (codes "f") 1 (and_value (literal (m 16 5 20) scalars.Int (pos 3)) no_argument)) no_expression

abbrev pub instance_in_a_target_unit_call_5_27 : Expression
instance_in_a_target_unit_call_5_27 = call (m 21 5 27) (functions_with (m 20 5 27) (codes "f") 1 (and_value (literal (m 19 5 29) scalars.Int (pos 0)) no_argument)) no_expression

-- template<typename T, int N> concept Small = __is_same(T, int) && N < 3;
-- template<int A, typename B> concept Turned = Small<B, A>;
-- template<int A, typename B> requires Turned<A, B> int f(B) { return 1; }
-- int g() { return f<2>(1) + f<3>(1) + f<2>(true); }
abbrev pub turned_positions_unit : Program
turned_positions_unit =
    unit
    (a_concept (record { at = (p 1 37); template_parameters = (tp None None ∷ tp (Some scalars.Int) None ∷ []); condition = (binary (m 6 1 45) word.LogicalAnd (is_same (m 2 1 45) (position_type (m 0 1 55) 0) (scalar_type (m 1 1 58) scalars.Int)) (binary (m 5 1 66) word.Less (position_name (m 3 1 66) 1) (literal (m 4 1 70) scalars.Int (pos 3)))) })
    ∷ a_concept (record { at = (p 2 37); template_parameters = (tp (Some scalars.Int) None ∷ tp None None ∷ []); condition = (concept_id (m 9 2 46) (d 0) (and_type (position_type (m 7 2 52) 1) (and_value (position_name (m 8 2 55) 0) no_argument))) })
    ∷ a_function (record { at = (p 3 55); name = (codes "f"); owner = None; is_template = true; template_parameters = (tp (Some scalars.Int) None ∷ tp None None ∷ []); constraints = ((concept_id (m 12 3 38) (d 1) (and_value (position_name (m 10 3 45) 0) (and_type (position_type (m 11 3 48) 1) no_argument))) ∷ []); parameters = (parameter (position_type (m 14 3 57) 1) 0 false ∷ []); result = (scalar_type (m 13 3 51) scalars.Int); is_const = false; is_constexpr = false; body = Some (block (m 17 3 60) (and_statement (return_statement (m 16 3 62) (Some (literal (m 15 3 69) scalars.Int (pos 1)))) no_statement)) })
    ∷ a_function (record { at = (p 4 5); name = (codes "g"); owner = None; is_template = false; template_parameters = ([]); constraints = ([]); parameters = ([]); result = (scalar_type (m 18 4 1) scalars.Int); is_const = false; is_constexpr = false; body = Some (block (m 34 4 9) (and_statement (return_statement (m 33 4 11) (Some (binary (m 32 4 18) word.Plus (binary (m 27 4 18) word.Plus (call (m 22 4 18) (functions_with (m 20 4 18) (codes "f") 1 (and_value (literal (m 19 4 20) scalars.Int (pos 2)) no_argument)) (and_expression (literal (m 21 4 23) scalars.Int (pos 1)) no_expression)) (call (m 26 4 28) (functions_with (m 24 4 28) (codes "f") 1 (and_value (literal (m 23 4 30) scalars.Int (pos 3)) no_argument)) (and_expression (literal (m 25 4 33) scalars.Int (pos 1)) no_expression))) (call (m 31 4 38) (functions_with (m 29 4 38) (codes "f") 1 (and_value (literal (m 28 4 40) scalars.Int (pos 2)) no_argument)) (and_expression (literal (m 30 4 43) scalars.Bool (pos 1)) no_expression))))) no_statement)) })
    ∷ [])
    (((codes "f"), ((d 2) ∷ [])) ∷ ((codes "g"), ((d 3) ∷ [])) ∷ [])
    ([])
    ((2, (is_same (m 2 1 45) (position_type (m 0 1 55) 0) (scalar_type (m 1 1 58) scalars.Int)))
    ∷ (5, (binary (m 5 1 66) word.Less (position_name (m 3 1 66) 1) (literal (m 4 1 70) scalars.Int (pos 3))))
    ∷ [])
    (around 0 (None ∷ (Some scalars.Int) ∷ []) true ∷ around 7 ((Some scalars.Int) ∷ None ∷ []) true ∷ around 18 ([]) false ∷ [])
    ([])

abbrev pub turned_positions_unit_call_4_18 : Expression
turned_positions_unit_call_4_18 = call (m 22 4 18) (functions_with (m 20 4 18) (codes "f") 1 (and_value (literal (m 19 4 20) scalars.Int (pos 2)) no_argument)) (and_expression (literal (m 21 4 23) scalars.Int (pos 1)) no_expression)

abbrev pub turned_positions_unit_call_4_28 : Expression
turned_positions_unit_call_4_28 = call (m 26 4 28) (functions_with (m 24 4 28) (codes "f") 1 (and_value (literal (m 23 4 30) scalars.Int (pos 3)) no_argument)) (and_expression (literal (m 25 4 33) scalars.Int (pos 1)) no_expression)

abbrev pub turned_positions_unit_call_4_38 : Expression
turned_positions_unit_call_4_38 = call (m 31 4 38) (functions_with (m 29 4 38) (codes "f") 1 (and_value (literal (m 28 4 40) scalars.Int (pos 2)) no_argument)) (and_expression (literal (m 30 4 43) scalars.Bool (pos 1)) no_expression)

-- template<typename T> concept Any = true;
-- struct S { int x; };
-- template<typename T> requires Any<typename T::nothing> int f(T) { return 1; }
-- template<typename T> requires Any<typename S::nothing> int h(T) { return 1; }
-- int g() { return f(1) + h(1); }
abbrev pub unused_argument_unit : Program
unused_argument_unit =
    unit
    (a_concept (record { at = (p 1 30); template_parameters = (tp None None ∷ []); condition = (literal (m 0 1 36) scalars.Bool (pos 1)) })
    ∷ a_struct (record { at = (p 2 8); itself = (struct (d 1)); is_template = false; template_parameters = ([]); constraints = ([]); primary = None; specialised_for = ([]); members = (field (codes "x") (scalar_type (m 1 2 12) scalars.Int) ∷ []) })
    ∷ a_field 0 (scalar_type (m 1 2 12) scalars.Int)
    ∷ a_function (record { at = (p 3 60); name = (codes "f"); owner = None; is_template = true; template_parameters = (tp None None ∷ []); constraints = ((concept_id (m 4 3 31) (d 0) (and_type (member_type (m 3 3 35) (position_type (m 2 3 44) 0) ((codes "nothing") ∷ [])) no_argument)) ∷ []); parameters = (parameter (position_type (m 6 3 62) 0) 0 false ∷ []); result = (scalar_type (m 5 3 56) scalars.Int); is_const = false; is_constexpr = false; body = Some (block (m 9 3 65) (and_statement (return_statement (m 8 3 67) (Some (literal (m 7 3 74) scalars.Int (pos 1)))) no_statement)) })
    ∷ a_function (record { at = (p 4 60); name = (codes "h"); owner = None; is_template = true; template_parameters = (tp None None ∷ []); constraints = ((concept_id (m 12 4 31) (d 0) (and_type (member_type (m 11 4 35) (struct_type (m 10 4 44) (d 1)) ((codes "nothing") ∷ [])) no_argument)) ∷ []); parameters = (parameter (position_type (m 14 4 62) 0) 0 false ∷ []); result = (scalar_type (m 13 4 56) scalars.Int); is_const = false; is_constexpr = false; body = Some (block (m 17 4 65) (and_statement (return_statement (m 16 4 67) (Some (literal (m 15 4 74) scalars.Int (pos 1)))) no_statement)) })
    ∷ a_function (record { at = (p 5 5); name = (codes "g"); owner = None; is_template = false; template_parameters = ([]); constraints = ([]); parameters = ([]); result = (scalar_type (m 18 5 1) scalars.Int); is_const = false; is_constexpr = false; body = Some (block (m 27 5 9) (and_statement (return_statement (m 26 5 11) (Some (binary (m 25 5 18) word.Plus (call (m 21 5 18) (functions (m 19 5 18) (codes "f") 1) (and_expression (literal (m 20 5 20) scalars.Int (pos 1)) no_expression)) (call (m 24 5 25) (functions (m 22 5 25) (codes "h") 1) (and_expression (literal (m 23 5 27) scalars.Int (pos 1)) no_expression))))) no_statement)) })
    ∷ [])
    (((codes "f"), ((d 3) ∷ [])) ∷ ((codes "h"), ((d 4) ∷ [])) ∷ ((codes "g"), ((d 5) ∷ [])) ∷ [])
    ([])
    ((0, (literal (m 0 1 36) scalars.Bool (pos 1)))
    ∷ [])
    (around 0 (None ∷ []) true ∷ around 1 ([]) false ∷ around 2 (None ∷ []) true ∷ around 18 ([]) false ∷ [])
    ([])

abbrev pub unused_argument_unit_call_5_18 : Expression
unused_argument_unit_call_5_18 = call (m 21 5 18) (functions (m 19 5 18) (codes "f") 1) (and_expression (literal (m 20 5 20) scalars.Int (pos 1)) no_expression)

abbrev pub unused_argument_unit_call_5_25 : Expression
unused_argument_unit_call_5_25 = call (m 24 5 25) (functions (m 22 5 25) (codes "h") 1) (and_expression (literal (m 23 5 27) scalars.Int (pos 1)) no_expression)

-- struct S { using type = int; };
-- template<typename T> concept A = __is_same(T, int);
-- template<typename T> requires A<typename S::type> int f(T) { return 1; }
-- template<typename T> requires A<int> && true int f(T) { return 2; }
-- int g() { return f(1); }
abbrev pub evaluated_targets_unit : Program
evaluated_targets_unit =
    unit
    (a_struct (record { at = (p 1 8); itself = (struct (d 0)); is_template = false; template_parameters = ([]); constraints = ([]); primary = None; specialised_for = ([]); members = (member_alias (codes "type") (scalar_type (m 0 1 25) scalars.Int) ∷ []) })
    ∷ a_concept (record { at = (p 2 30); template_parameters = (tp None None ∷ []); condition = (is_same (m 3 2 34) (position_type (m 1 2 44) 0) (scalar_type (m 2 2 47) scalars.Int)) })
    ∷ a_function (record { at = (p 3 55); name = (codes "f"); owner = None; is_template = true; template_parameters = (tp None None ∷ []); constraints = ((concept_id (m 6 3 31) (d 1) (and_type (member_type (m 5 3 33) (struct_type (m 4 3 42) (d 0)) ((codes "type") ∷ [])) no_argument)) ∷ []); parameters = (parameter (position_type (m 8 3 57) 0) 0 false ∷ []); result = (scalar_type (m 7 3 51) scalars.Int); is_const = false; is_constexpr = false; body = Some (block (m 11 3 60) (and_statement (return_statement (m 10 3 62) (Some (literal (m 9 3 69) scalars.Int (pos 1)))) no_statement)) })
    ∷ a_function (record { at = (p 4 50); name = (codes "f"); owner = None; is_template = true; template_parameters = (tp None None ∷ []); constraints = ((binary (m 15 4 31) word.LogicalAnd (concept_id (m 13 4 31) (d 1) (and_type (scalar_type (m 12 4 33) scalars.Int) no_argument)) (literal (m 14 4 41) scalars.Bool (pos 1))) ∷ []); parameters = (parameter (position_type (m 17 4 52) 0) 0 false ∷ []); result = (scalar_type (m 16 4 46) scalars.Int); is_const = false; is_constexpr = false; body = Some (block (m 20 4 55) (and_statement (return_statement (m 19 4 57) (Some (literal (m 18 4 64) scalars.Int (pos 2)))) no_statement)) })
    ∷ a_function (record { at = (p 5 5); name = (codes "g"); owner = None; is_template = false; template_parameters = ([]); constraints = ([]); parameters = ([]); result = (scalar_type (m 21 5 1) scalars.Int); is_const = false; is_constexpr = false; body = Some (block (m 26 5 9) (and_statement (return_statement (m 25 5 11) (Some (call (m 24 5 18) (functions (m 22 5 18) (codes "f") 2) (and_expression (literal (m 23 5 20) scalars.Int (pos 1)) no_expression)))) no_statement)) })
    ∷ [])
    (((codes "f"), ((d 2) ∷ (d 3) ∷ [])) ∷ ((codes "g"), ((d 4) ∷ [])) ∷ [])
    ([])
    ((3, (is_same (m 3 2 34) (position_type (m 1 2 44) 0) (scalar_type (m 2 2 47) scalars.Int)))
    ∷ (14, (literal (m 14 4 41) scalars.Bool (pos 1)))
    ∷ [])
    (around 0 ([]) false ∷ around 1 (None ∷ []) true ∷ around 21 ([]) false ∷ [])
    ([])

abbrev pub evaluated_targets_unit_call_5_18 : Expression
evaluated_targets_unit_call_5_18 = call (m 24 5 18) (functions (m 22 5 18) (codes "f") 2) (and_expression (literal (m 23 5 20) scalars.Int (pos 1)) no_expression)

-- template<int N> concept Pos = N > 0;
-- template<typename T> requires Pos<2> int f(T) { return 1; }
-- template<typename T> requires Pos<1 + 1> && true int f(T) { return 2; }
-- template<typename T> requires Pos<2> int h(T) { return 1; }
-- template<typename T> requires Pos<3> && true int h(T) { return 2; }
-- int g() { return f(1) + h(1); }
abbrev pub values_as_targets_unit : Program
values_as_targets_unit =
    unit
    (a_concept (record { at = (p 1 25); template_parameters = (tp (Some scalars.Int) None ∷ []); condition = (binary (m 2 1 31) word.Greater (position_name (m 0 1 31) 0) (literal (m 1 1 35) scalars.Int (pos 0))) })
    ∷ a_function (record { at = (p 2 42); name = (codes "f"); owner = None; is_template = true; template_parameters = (tp None None ∷ []); constraints = ((concept_id (m 4 2 31) (d 0) (and_value (literal (m 3 2 35) scalars.Int (pos 2)) no_argument)) ∷ []); parameters = (parameter (position_type (m 6 2 44) 0) 0 false ∷ []); result = (scalar_type (m 5 2 38) scalars.Int); is_const = false; is_constexpr = false; body = Some (block (m 9 2 47) (and_statement (return_statement (m 8 2 49) (Some (literal (m 7 2 56) scalars.Int (pos 1)))) no_statement)) })
    ∷ a_function (record { at = (p 3 54); name = (codes "f"); owner = None; is_template = true; template_parameters = (tp None None ∷ []); constraints = ((binary (m 15 3 31) word.LogicalAnd (concept_id (m 13 3 31) (d 0) (and_value (binary (m 12 3 35) word.Plus (literal (m 10 3 35) scalars.Int (pos 1)) (literal (m 11 3 39) scalars.Int (pos 1))) no_argument)) (literal (m 14 3 45) scalars.Bool (pos 1))) ∷ []); parameters = (parameter (position_type (m 17 3 56) 0) 0 false ∷ []); result = (scalar_type (m 16 3 50) scalars.Int); is_const = false; is_constexpr = false; body = Some (block (m 20 3 59) (and_statement (return_statement (m 19 3 61) (Some (literal (m 18 3 68) scalars.Int (pos 2)))) no_statement)) })
    ∷ a_function (record { at = (p 4 42); name = (codes "h"); owner = None; is_template = true; template_parameters = (tp None None ∷ []); constraints = ((concept_id (m 22 4 31) (d 0) (and_value (literal (m 21 4 35) scalars.Int (pos 2)) no_argument)) ∷ []); parameters = (parameter (position_type (m 24 4 44) 0) 0 false ∷ []); result = (scalar_type (m 23 4 38) scalars.Int); is_const = false; is_constexpr = false; body = Some (block (m 27 4 47) (and_statement (return_statement (m 26 4 49) (Some (literal (m 25 4 56) scalars.Int (pos 1)))) no_statement)) })
    ∷ a_function (record { at = (p 5 50); name = (codes "h"); owner = None; is_template = true; template_parameters = (tp None None ∷ []); constraints = ((binary (m 31 5 31) word.LogicalAnd (concept_id (m 29 5 31) (d 0) (and_value (literal (m 28 5 35) scalars.Int (pos 3)) no_argument)) (literal (m 30 5 41) scalars.Bool (pos 1))) ∷ []); parameters = (parameter (position_type (m 33 5 52) 0) 0 false ∷ []); result = (scalar_type (m 32 5 46) scalars.Int); is_const = false; is_constexpr = false; body = Some (block (m 36 5 55) (and_statement (return_statement (m 35 5 57) (Some (literal (m 34 5 64) scalars.Int (pos 2)))) no_statement)) })
    ∷ a_function (record { at = (p 6 5); name = (codes "g"); owner = None; is_template = false; template_parameters = ([]); constraints = ([]); parameters = ([]); result = (scalar_type (m 37 6 1) scalars.Int); is_const = false; is_constexpr = false; body = Some (block (m 46 6 9) (and_statement (return_statement (m 45 6 11) (Some (binary (m 44 6 18) word.Plus (call (m 40 6 18) (functions (m 38 6 18) (codes "f") 2) (and_expression (literal (m 39 6 20) scalars.Int (pos 1)) no_expression)) (call (m 43 6 25) (functions (m 41 6 25) (codes "h") 2) (and_expression (literal (m 42 6 27) scalars.Int (pos 1)) no_expression))))) no_statement)) })
    ∷ [])
    (((codes "f"), ((d 1) ∷ (d 2) ∷ [])) ∷ ((codes "h"), ((d 3) ∷ (d 4) ∷ [])) ∷ ((codes "g"), ((d 5) ∷ [])) ∷ [])
    ([])
    ((2, (binary (m 2 1 31) word.Greater (position_name (m 0 1 31) 0) (literal (m 1 1 35) scalars.Int (pos 0))))
    ∷ (14, (literal (m 14 3 45) scalars.Bool (pos 1)))
    ∷ (30, (literal (m 30 5 41) scalars.Bool (pos 1)))
    ∷ [])
    (around 0 ((Some scalars.Int) ∷ []) true ∷ around 3 (None ∷ []) true ∷ around 37 ([]) false ∷ [])
    ([])

abbrev pub values_as_targets_unit_call_6_18 : Expression
values_as_targets_unit_call_6_18 = call (m 40 6 18) (functions (m 38 6 18) (codes "f") 2) (and_expression (literal (m 39 6 20) scalars.Int (pos 1)) no_expression)

abbrev pub values_as_targets_unit_call_6_25 : Expression
values_as_targets_unit_call_6_25 = call (m 43 6 25) (functions (m 41 6 25) (codes "h") 2) (and_expression (literal (m 42 6 27) scalars.Int (pos 1)) no_expression)

-- template<int N> concept Pos = N > 0;
-- template<int K> requires Pos<K + 1> int f() { return 1; }
-- template<int L> requires Pos<L + 1> && (L < 9) int f() { return 2; }
-- template<int K> requires Pos<K + 1> int h() { return 1; }
-- template<int L> requires Pos<1 + L> && (L < 9) int h() { return 2; }
-- int g() { return f<1>() + h<1>(); }
abbrev pub dependent_targets_unit : Program
dependent_targets_unit =
    unit
    (a_concept (record { at = (p 1 25); template_parameters = (tp (Some scalars.Int) None ∷ []); condition = (binary (m 2 1 31) word.Greater (position_name (m 0 1 31) 0) (literal (m 1 1 35) scalars.Int (pos 0))) })
    ∷ a_function (record { at = (p 2 41); name = (codes "f"); owner = None; is_template = true; template_parameters = (tp (Some scalars.Int) None ∷ []); constraints = ((concept_id (m 6 2 26) (d 0) (and_value (binary (m 5 2 30) word.Plus (position_name (m 3 2 30) 0) (literal (m 4 2 34) scalars.Int (pos 1))) no_argument)) ∷ []); parameters = ([]); result = (scalar_type (m 7 2 37) scalars.Int); is_const = false; is_constexpr = false; body = Some (block (m 10 2 45) (and_statement (return_statement (m 9 2 47) (Some (literal (m 8 2 54) scalars.Int (pos 1)))) no_statement)) })
    ∷ a_function (record { at = (p 3 52); name = (codes "f"); owner = None; is_template = true; template_parameters = (tp (Some scalars.Int) None ∷ []); constraints = ((binary (m 19 3 26) word.LogicalAnd (concept_id (m 14 3 26) (d 0) (and_value (binary (m 13 3 30) word.Plus (position_name (m 11 3 30) 0) (literal (m 12 3 34) scalars.Int (pos 1))) no_argument)) (parentheses (m 18 3 40) (binary (m 17 3 41) word.Less (position_name (m 15 3 41) 0) (literal (m 16 3 45) scalars.Int (pos 9))))) ∷ []); parameters = ([]); result = (scalar_type (m 20 3 48) scalars.Int); is_const = false; is_constexpr = false; body = Some (block (m 23 3 56) (and_statement (return_statement (m 22 3 58) (Some (literal (m 21 3 65) scalars.Int (pos 2)))) no_statement)) })
    ∷ a_function (record { at = (p 4 41); name = (codes "h"); owner = None; is_template = true; template_parameters = (tp (Some scalars.Int) None ∷ []); constraints = ((concept_id (m 27 4 26) (d 0) (and_value (binary (m 26 4 30) word.Plus (position_name (m 24 4 30) 0) (literal (m 25 4 34) scalars.Int (pos 1))) no_argument)) ∷ []); parameters = ([]); result = (scalar_type (m 28 4 37) scalars.Int); is_const = false; is_constexpr = false; body = Some (block (m 31 4 45) (and_statement (return_statement (m 30 4 47) (Some (literal (m 29 4 54) scalars.Int (pos 1)))) no_statement)) })
    ∷ a_function (record { at = (p 5 52); name = (codes "h"); owner = None; is_template = true; template_parameters = (tp (Some scalars.Int) None ∷ []); constraints = ((binary (m 40 5 26) word.LogicalAnd (concept_id (m 35 5 26) (d 0) (and_value (binary (m 34 5 30) word.Plus (literal (m 32 5 30) scalars.Int (pos 1)) (position_name (m 33 5 34) 0)) no_argument)) (parentheses (m 39 5 40) (binary (m 38 5 41) word.Less (position_name (m 36 5 41) 0) (literal (m 37 5 45) scalars.Int (pos 9))))) ∷ []); parameters = ([]); result = (scalar_type (m 41 5 48) scalars.Int); is_const = false; is_constexpr = false; body = Some (block (m 44 5 56) (and_statement (return_statement (m 43 5 58) (Some (literal (m 42 5 65) scalars.Int (pos 2)))) no_statement)) })
    ∷ a_function (record { at = (p 6 5); name = (codes "g"); owner = None; is_template = false; template_parameters = ([]); constraints = ([]); parameters = ([]); result = (scalar_type (m 45 6 1) scalars.Int); is_const = false; is_constexpr = false; body = Some (block (m 54 6 9) (and_statement (return_statement (m 53 6 11) (Some (binary (m 52 6 18) word.Plus (call (m 48 6 18) (functions_with (m 47 6 18) (codes "f") 2 (and_value (literal (m 46 6 20) scalars.Int (pos 1)) no_argument)) no_expression) (call (m 51 6 27) (functions_with (m 50 6 27) (codes "h") 2 (and_value (literal (m 49 6 29) scalars.Int (pos 1)) no_argument)) no_expression)))) no_statement)) })
    ∷ [])
    (((codes "f"), ((d 1) ∷ (d 2) ∷ [])) ∷ ((codes "h"), ((d 3) ∷ (d 4) ∷ [])) ∷ ((codes "g"), ((d 5) ∷ [])) ∷ [])
    ([])
    ((2, (binary (m 2 1 31) word.Greater (position_name (m 0 1 31) 0) (literal (m 1 1 35) scalars.Int (pos 0))))
    ∷ (17, (binary (m 17 3 41) word.Less (position_name (m 15 3 41) 0) (literal (m 16 3 45) scalars.Int (pos 9))))
    ∷ (38, (binary (m 38 5 41) word.Less (position_name (m 36 5 41) 0) (literal (m 37 5 45) scalars.Int (pos 9))))
    ∷ [])
    (around 0 ((Some scalars.Int) ∷ []) true ∷ around 45 ([]) false ∷ [])
    ([])

abbrev pub dependent_targets_unit_call_6_18 : Expression
dependent_targets_unit_call_6_18 = call (m 48 6 18) (functions_with (m 47 6 18) (codes "f") 2 (and_value (literal (m 46 6 20) scalars.Int (pos 1)) no_argument)) no_expression

abbrev pub dependent_targets_unit_call_6_27 : Expression
dependent_targets_unit_call_6_27 = call (m 51 6 27) (functions_with (m 50 6 27) (codes "h") 2 (and_value (literal (m 49 6 29) scalars.Int (pos 1)) no_argument)) no_expression

-- template<typename T> concept A = __is_same(T, int);
-- template<typename T> concept B = !__is_same(T, bool);
-- template<typename T> requires A<T> || B<T> int f(T) { return 1; }
-- template<typename T> requires A<T> int f(T) { return 2; }
-- template<typename T> requires A<T> || B<T> int h(T) { return 1; }
-- template<typename T> requires B<T> && A<T> int h(T) { return 2; }
-- int g() { return f(1) + h(1); }
abbrev pub disjunctions_are_compared_unit : Program
disjunctions_are_compared_unit =
    unit
    (a_concept (record { at = (p 1 30); template_parameters = (tp None None ∷ []); condition = (is_same (m 2 1 34) (position_type (m 0 1 44) 0) (scalar_type (m 1 1 47) scalars.Int)) })
    ∷ a_concept (record { at = (p 2 30); template_parameters = (tp None None ∷ []); condition = (unary (m 6 2 34) word.Not (is_same (m 5 2 35) (position_type (m 3 2 45) 0) (scalar_type (m 4 2 48) scalars.Bool))) })
    ∷ a_function (record { at = (p 3 48); name = (codes "f"); owner = None; is_template = true; template_parameters = (tp None None ∷ []); constraints = ((binary (m 11 3 31) word.LogicalOr (concept_id (m 8 3 31) (d 0) (and_type (position_type (m 7 3 33) 0) no_argument)) (concept_id (m 10 3 39) (d 1) (and_type (position_type (m 9 3 41) 0) no_argument))) ∷ []); parameters = (parameter (position_type (m 13 3 50) 0) 0 false ∷ []); result = (scalar_type (m 12 3 44) scalars.Int); is_const = false; is_constexpr = false; body = Some (block (m 16 3 53) (and_statement (return_statement (m 15 3 55) (Some (literal (m 14 3 62) scalars.Int (pos 1)))) no_statement)) })
    ∷ a_function (record { at = (p 4 40); name = (codes "f"); owner = None; is_template = true; template_parameters = (tp None None ∷ []); constraints = ((concept_id (m 18 4 31) (d 0) (and_type (position_type (m 17 4 33) 0) no_argument)) ∷ []); parameters = (parameter (position_type (m 20 4 42) 0) 0 false ∷ []); result = (scalar_type (m 19 4 36) scalars.Int); is_const = false; is_constexpr = false; body = Some (block (m 23 4 45) (and_statement (return_statement (m 22 4 47) (Some (literal (m 21 4 54) scalars.Int (pos 2)))) no_statement)) })
    ∷ a_function (record { at = (p 5 48); name = (codes "h"); owner = None; is_template = true; template_parameters = (tp None None ∷ []); constraints = ((binary (m 28 5 31) word.LogicalOr (concept_id (m 25 5 31) (d 0) (and_type (position_type (m 24 5 33) 0) no_argument)) (concept_id (m 27 5 39) (d 1) (and_type (position_type (m 26 5 41) 0) no_argument))) ∷ []); parameters = (parameter (position_type (m 30 5 50) 0) 0 false ∷ []); result = (scalar_type (m 29 5 44) scalars.Int); is_const = false; is_constexpr = false; body = Some (block (m 33 5 53) (and_statement (return_statement (m 32 5 55) (Some (literal (m 31 5 62) scalars.Int (pos 1)))) no_statement)) })
    ∷ a_function (record { at = (p 6 48); name = (codes "h"); owner = None; is_template = true; template_parameters = (tp None None ∷ []); constraints = ((binary (m 38 6 31) word.LogicalAnd (concept_id (m 35 6 31) (d 1) (and_type (position_type (m 34 6 33) 0) no_argument)) (concept_id (m 37 6 39) (d 0) (and_type (position_type (m 36 6 41) 0) no_argument))) ∷ []); parameters = (parameter (position_type (m 40 6 50) 0) 0 false ∷ []); result = (scalar_type (m 39 6 44) scalars.Int); is_const = false; is_constexpr = false; body = Some (block (m 43 6 53) (and_statement (return_statement (m 42 6 55) (Some (literal (m 41 6 62) scalars.Int (pos 2)))) no_statement)) })
    ∷ a_function (record { at = (p 7 5); name = (codes "g"); owner = None; is_template = false; template_parameters = ([]); constraints = ([]); parameters = ([]); result = (scalar_type (m 44 7 1) scalars.Int); is_const = false; is_constexpr = false; body = Some (block (m 53 7 9) (and_statement (return_statement (m 52 7 11) (Some (binary (m 51 7 18) word.Plus (call (m 47 7 18) (functions (m 45 7 18) (codes "f") 2) (and_expression (literal (m 46 7 20) scalars.Int (pos 1)) no_expression)) (call (m 50 7 25) (functions (m 48 7 25) (codes "h") 2) (and_expression (literal (m 49 7 27) scalars.Int (pos 1)) no_expression))))) no_statement)) })
    ∷ [])
    (((codes "f"), ((d 2) ∷ (d 3) ∷ [])) ∷ ((codes "h"), ((d 4) ∷ (d 5) ∷ [])) ∷ ((codes "g"), ((d 6) ∷ [])) ∷ [])
    ([])
    ((2, (is_same (m 2 1 34) (position_type (m 0 1 44) 0) (scalar_type (m 1 1 47) scalars.Int)))
    ∷ (6, (unary (m 6 2 34) word.Not (is_same (m 5 2 35) (position_type (m 3 2 45) 0) (scalar_type (m 4 2 48) scalars.Bool))))
    ∷ [])
    (around 0 (None ∷ []) true ∷ around 44 ([]) false ∷ [])
    ([])

abbrev pub disjunctions_are_compared_unit_call_7_18 : Expression
disjunctions_are_compared_unit_call_7_18 = call (m 47 7 18) (functions (m 45 7 18) (codes "f") 2) (and_expression (literal (m 46 7 20) scalars.Int (pos 1)) no_expression)

abbrev pub disjunctions_are_compared_unit_call_7_25 : Expression
disjunctions_are_compared_unit_call_7_25 = call (m 50 7 25) (functions (m 48 7 25) (codes "h") 2) (and_expression (literal (m 49 7 27) scalars.Int (pos 1)) no_expression)

-- template<typename T> int f(T, const int&) { return 1; }
-- template<typename T> int f(T, int&) { return 2; }
-- template<typename T> int h(T&, int) { return 1; }
-- template<typename T> int h(const T&, int) { return 2; }
-- int g() { int i = 1; return f(1, i) + f(1, 2) + h(i, 1) + h(1, 1); }
abbrev pub limit_of_partial_ordering_unit : Program
limit_of_partial_ordering_unit =
    unit
    (a_function (record { at = (p 1 26); name = (codes "f"); owner = None; is_template = true; template_parameters = (tp None None ∷ []); constraints = ([]); parameters = (parameter (position_type (m 1 1 28) 0) 0 false ∷ parameter (reference_type (m 2 1 31) (const_type (m 2 1 31) (scalar_type (m 2 1 31) scalars.Int))) 1 false ∷ []); result = (scalar_type (m 0 1 22) scalars.Int); is_const = false; is_constexpr = false; body = Some (block (m 5 1 43) (and_statement (return_statement (m 4 1 45) (Some (literal (m 3 1 52) scalars.Int (pos 1)))) no_statement)) })
    ∷ a_function (record { at = (p 2 26); name = (codes "f"); owner = None; is_template = true; template_parameters = (tp None None ∷ []); constraints = ([]); parameters = (parameter (position_type (m 7 2 28) 0) 0 false ∷ parameter (reference_type (m 8 2 31) (scalar_type (m 8 2 31) scalars.Int)) 1 false ∷ []); result = (scalar_type (m 6 2 22) scalars.Int); is_const = false; is_constexpr = false; body = Some (block (m 11 2 37) (and_statement (return_statement (m 10 2 39) (Some (literal (m 9 2 46) scalars.Int (pos 2)))) no_statement)) })
    ∷ a_function (record { at = (p 3 26); name = (codes "h"); owner = None; is_template = true; template_parameters = (tp None None ∷ []); constraints = ([]); parameters = (parameter (reference_type (m 13 3 28) (position_type (m 13 3 28) 0)) 0 false ∷ parameter (scalar_type (m 14 3 32) scalars.Int) 1 false ∷ []); result = (scalar_type (m 12 3 22) scalars.Int); is_const = false; is_constexpr = false; body = Some (block (m 17 3 37) (and_statement (return_statement (m 16 3 39) (Some (literal (m 15 3 46) scalars.Int (pos 1)))) no_statement)) })
    ∷ a_function (record { at = (p 4 26); name = (codes "h"); owner = None; is_template = true; template_parameters = (tp None None ∷ []); constraints = ([]); parameters = (parameter (reference_type (m 19 4 28) (const_type (m 19 4 28) (position_type (m 19 4 28) 0))) 0 false ∷ parameter (scalar_type (m 20 4 38) scalars.Int) 1 false ∷ []); result = (scalar_type (m 18 4 22) scalars.Int); is_const = false; is_constexpr = false; body = Some (block (m 23 4 43) (and_statement (return_statement (m 22 4 45) (Some (literal (m 21 4 52) scalars.Int (pos 2)))) no_statement)) })
    ∷ a_function (record { at = (p 5 5); name = (codes "g"); owner = None; is_template = false; template_parameters = ([]); constraints = ([]); parameters = ([]); result = (scalar_type (m 24 5 1) scalars.Int); is_const = false; is_constexpr = false; body = Some (block (m 48 5 9) (and_statement (variable (m 27 5 11) false (as_type (scalar_type (m 25 5 11) scalars.Int)) 0 (equals (literal (m 26 5 19) scalars.Int (pos 1)))) (and_statement (return_statement (m 47 5 22) (Some (binary (m 46 5 29) word.Plus (binary (m 41 5 29) word.Plus (binary (m 36 5 29) word.Plus (call (m 31 5 29) (functions (m 28 5 29) (codes "f") 2) (and_expression (literal (m 29 5 31) scalars.Int (pos 1)) (and_expression (local_name (m 30 5 34) 0) no_expression))) (call (m 35 5 39) (functions (m 32 5 39) (codes "f") 2) (and_expression (literal (m 33 5 41) scalars.Int (pos 1)) (and_expression (literal (m 34 5 44) scalars.Int (pos 2)) no_expression)))) (call (m 40 5 49) (functions (m 37 5 49) (codes "h") 2) (and_expression (local_name (m 38 5 51) 0) (and_expression (literal (m 39 5 54) scalars.Int (pos 1)) no_expression)))) (call (m 45 5 59) (functions (m 42 5 59) (codes "h") 2) (and_expression (literal (m 43 5 61) scalars.Int (pos 1)) (and_expression (literal (m 44 5 64) scalars.Int (pos 1)) no_expression)))))) no_statement))) })
    ∷ [])
    (((codes "f"), ((d 0) ∷ (d 1) ∷ [])) ∷ ((codes "h"), ((d 2) ∷ (d 3) ∷ [])) ∷ ((codes "g"), ((d 4) ∷ [])) ∷ [])
    ([])
    ([])
    (around 0 (None ∷ []) true ∷ around 24 ([]) false ∷ [])
    ([])

abbrev pub limit_of_partial_ordering_unit_call_5_29 : Expression
limit_of_partial_ordering_unit_call_5_29 = call (m 31 5 29) (functions (m 28 5 29) (codes "f") 2) (and_expression (literal (m 29 5 31) scalars.Int (pos 1)) (and_expression (local_name (m 30 5 34) 0) no_expression))

abbrev pub limit_of_partial_ordering_unit_locals_5_29 : Environment
limit_of_partial_ordering_unit_locals_5_29 = record { arguments = []; variables = (Some (record { of = (scalar scalars.Int); value = None }) ∷ []); object = None }

abbrev pub limit_of_partial_ordering_unit_call_5_39 : Expression
limit_of_partial_ordering_unit_call_5_39 = call (m 35 5 39) (functions (m 32 5 39) (codes "f") 2) (and_expression (literal (m 33 5 41) scalars.Int (pos 1)) (and_expression (literal (m 34 5 44) scalars.Int (pos 2)) no_expression))

abbrev pub limit_of_partial_ordering_unit_locals_5_39 : Environment
limit_of_partial_ordering_unit_locals_5_39 = record { arguments = []; variables = (Some (record { of = (scalar scalars.Int); value = None }) ∷ []); object = None }

abbrev pub limit_of_partial_ordering_unit_call_5_49 : Expression
limit_of_partial_ordering_unit_call_5_49 = call (m 40 5 49) (functions (m 37 5 49) (codes "h") 2) (and_expression (local_name (m 38 5 51) 0) (and_expression (literal (m 39 5 54) scalars.Int (pos 1)) no_expression))

abbrev pub limit_of_partial_ordering_unit_locals_5_49 : Environment
limit_of_partial_ordering_unit_locals_5_49 = record { arguments = []; variables = (Some (record { of = (scalar scalars.Int); value = None }) ∷ []); object = None }

abbrev pub limit_of_partial_ordering_unit_call_5_59 : Expression
limit_of_partial_ordering_unit_call_5_59 = call (m 45 5 59) (functions (m 42 5 59) (codes "h") 2) (and_expression (literal (m 43 5 61) scalars.Int (pos 1)) (and_expression (literal (m 44 5 64) scalars.Int (pos 1)) no_expression))

abbrev pub limit_of_partial_ordering_unit_locals_5_59 : Environment
limit_of_partial_ordering_unit_locals_5_59 = record { arguments = []; variables = (Some (record { of = (scalar scalars.Int); value = None }) ∷ []); object = None }
