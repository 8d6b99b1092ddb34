-- Judging of bodies: variables, statements, the order of refusals, which calls are needed ([stmt.stmt], [dcl.spec.auto]).
use Rattle.std.specs.Prelude.{pos, true, false, List, [], ◌∷◌, Some, None, codes}
use Rattle.cx_base.specs.declared.value.Scalar.TheVariants as scalars
use Rattle.cx_term.specs.Term.{param, struct, inst, arguments}
use Rattle.cx_term.specs.declared.word.Word.TheVariants as word
use Rattle.cx_questions.specs.Forms.{literal, local_name, position_name, field_name, unary, binary, conditional, call, list, is_same, concept_id, requires, no_expression, and_expression, functions, functions_with, own_functions, object_functions, position_type, scalar_type, void_type, struct_type, template_id, const_type, reference_type, member_type, decltype_type, no_argument, and_type, and_value, no_parameter, no_requirement, and_simple, as_type, as_auto, equals, braces, block, assertion, break_statement, continue_statement, return_statement, if_statement, while_statement, for_statement, variable, expression_statement, no_statement, and_statement}
use Rattle.cx_questions.specs.Program.{Program, a_function, a_struct, a_concept, a_field, field, member_function}
use Rattle.worked_units.specs.Units.{p, d, m, tp, parameter, around, unit}
use Rattle.cx_questions.specs.Stages.{Item, a_declaration}

-- template<int N> int f(int) { return N; }
-- int g() { int x = 0; x = f<1>(f<2>(0)) + f<3>(0); return x ? f<4>(0) : f<5>(0); }
abbrev pub order_of_needs_unit : Program
order_of_needs_unit =
    unit
    (a_function (record { at = (p 1 21); name = (codes "f"); owner = None; is_template = true; template_parameters = (tp (Some scalars.Int) None ∷ []); constraints = ([]); parameters = (parameter (scalar_type (m 1 1 23) scalars.Int) 0 false ∷ []); result = (scalar_type (m 0 1 17) scalars.Int); is_const = false; is_constexpr = false; body = Some (block (m 4 1 28) (and_statement (return_statement (m 3 1 30) (Some (position_name (m 2 1 37) 0))) no_statement)) })
    ∷ a_function (record { at = (p 2 5); name = (codes "g"); owner = None; is_template = false; template_parameters = ([]); constraints = ([]); parameters = ([]); result = (scalar_type (m 5 2 1) scalars.Int); is_const = false; is_constexpr = false; body = Some (block (m 35 2 9) (and_statement (variable (m 8 2 11) false (as_type (scalar_type (m 6 2 11) scalars.Int)) 0 (equals (literal (m 7 2 19) scalars.Int (pos 0)))) (and_statement (expression_statement (m 23 2 22) (binary (m 22 2 22) word.Assign (local_name (m 9 2 22) 0) (binary (m 21 2 26) word.Plus (call (m 16 2 26) (functions_with (m 11 2 26) (codes "f") 1 (and_value (literal (m 10 2 28) scalars.Int (pos 1)) no_argument)) (and_expression (call (m 15 2 31) (functions_with (m 13 2 31) (codes "f") 1 (and_value (literal (m 12 2 33) scalars.Int (pos 2)) no_argument)) (and_expression (literal (m 14 2 36) scalars.Int (pos 0)) no_expression)) no_expression)) (call (m 20 2 42) (functions_with (m 18 2 42) (codes "f") 1 (and_value (literal (m 17 2 44) scalars.Int (pos 3)) no_argument)) (and_expression (literal (m 19 2 47) scalars.Int (pos 0)) no_expression))))) (and_statement (return_statement (m 34 2 51) (Some (conditional (m 33 2 58) (local_name (m 24 2 58) 0) (call (m 28 2 62) (functions_with (m 26 2 62) (codes "f") 1 (and_value (literal (m 25 2 64) scalars.Int (pos 4)) no_argument)) (and_expression (literal (m 27 2 67) scalars.Int (pos 0)) no_expression)) (call (m 32 2 72) (functions_with (m 30 2 72) (codes "f") 1 (and_value (literal (m 29 2 74) scalars.Int (pos 5)) no_argument)) (and_expression (literal (m 31 2 77) scalars.Int (pos 0)) no_expression))))) no_statement)))) })
    ∷ [])
    (((codes "f"), ((d 0) ∷ [])) ∷ ((codes "g"), ((d 1) ∷ [])) ∷ [])
    ([])
    ([])
    (around 0 ((Some scalars.Int) ∷ []) true ∷ around 5 ([]) false ∷ [])
    ([])

abbrev pub order_of_needs_unit_items : List Item
order_of_needs_unit_items = (a_declaration (d 0) ∷ a_declaration (d 1) ∷ [])

-- template<int N> constexpr int f() { return N; }
-- template<typename T> concept C = requires { f<1>(); };
-- int g() { decltype(f<2>()) x = 0; if (C<int>) { x = f<3>(); } if constexpr (true) { x = f<4>(); } else { x = f<5>(); } return x; }
abbrev pub not_needed_unit : Program
not_needed_unit =
    unit
    (a_function (record { at = (p 1 31); name = (codes "f"); owner = None; is_template = true; template_parameters = (tp (Some scalars.Int) None ∷ []); constraints = ([]); parameters = ([]); result = (scalar_type (m 0 1 27) scalars.Int); is_const = false; is_constexpr = true; body = Some (block (m 3 1 35) (and_statement (return_statement (m 2 1 37) (Some (position_name (m 1 1 44) 0))) no_statement)) })
    ∷ a_concept (record { at = (p 2 30); template_parameters = (tp None None ∷ []); condition = (requires (m 7 2 34) no_parameter (and_simple (call (m 6 2 45) (functions_with (m 5 2 45) (codes "f") 1 (and_value (literal (m 4 2 47) scalars.Int (pos 1)) no_argument)) no_expression) no_requirement)) })
    ∷ a_function (record { at = (p 3 5); name = (codes "g"); owner = None; is_template = false; template_parameters = ([]); constraints = ([]); parameters = ([]); result = (scalar_type (m 8 3 1) scalars.Int); is_const = false; is_constexpr = false; body = Some (block (m 43 3 9) (and_statement (variable (m 14 3 11) false (as_type (decltype_type (m 12 3 11) (call (m 11 3 20) (functions_with (m 10 3 20) (codes "f") 1 (and_value (literal (m 9 3 22) scalars.Int (pos 2)) no_argument)) no_expression))) 0 (equals (literal (m 13 3 32) scalars.Int (pos 0)))) (and_statement (if_statement (m 24 3 35) false (concept_id (m 16 3 39) (d 1) (and_type (scalar_type (m 15 3 41) scalars.Int) no_argument)) (block (m 23 3 47) (and_statement (expression_statement (m 22 3 49) (binary (m 21 3 49) word.Assign (local_name (m 17 3 49) 0) (call (m 20 3 53) (functions_with (m 19 3 53) (codes "f") 1 (and_value (literal (m 18 3 55) scalars.Int (pos 3)) no_argument)) no_expression))) no_statement)) no_statement) (and_statement (if_statement (m 40 3 63) true (literal (m 25 3 77) scalars.Bool (pos 1)) (block (m 32 3 83) (and_statement (expression_statement (m 31 3 85) (binary (m 30 3 85) word.Assign (local_name (m 26 3 85) 0) (call (m 29 3 89) (functions_with (m 28 3 89) (codes "f") 1 (and_value (literal (m 27 3 91) scalars.Int (pos 4)) no_argument)) no_expression))) no_statement)) (and_statement (block (m 39 3 104) (and_statement (expression_statement (m 38 3 106) (binary (m 37 3 106) word.Assign (local_name (m 33 3 106) 0) (call (m 36 3 110) (functions_with (m 35 3 110) (codes "f") 1 (and_value (literal (m 34 3 112) scalars.Int (pos 5)) no_argument)) no_expression))) no_statement)) no_statement)) (and_statement (return_statement (m 42 3 120) (Some (local_name (m 41 3 127) 0))) no_statement))))) })
    ∷ [])
    (((codes "f"), ((d 0) ∷ [])) ∷ ((codes "g"), ((d 2) ∷ [])) ∷ [])
    ([])
    ((7, (requires (m 7 2 34) no_parameter (and_simple (call (m 6 2 45) (functions_with (m 5 2 45) (codes "f") 1 (and_value (literal (m 4 2 47) scalars.Int (pos 1)) no_argument)) no_expression) no_requirement)))
    ∷ [])
    (around 0 ((Some scalars.Int) ∷ []) true ∷ around 4 (None ∷ []) true ∷ around 8 ([]) false ∷ [])
    ([])

abbrev pub not_needed_unit_items : List Item
not_needed_unit_items = (a_declaration (d 0) ∷ a_declaration (d 1) ∷ a_declaration (d 2) ∷ [])

-- int k(int);
-- int m(int);
-- int g() { return m(k(1)); }
abbrev pub operands_first_unit : Program
operands_first_unit =
    unit
    (a_function (record { at = (p 1 5); name = (codes "k"); owner = None; is_template = false; template_parameters = ([]); constraints = ([]); parameters = (parameter (scalar_type (m 1 1 7) scalars.Int) 0 false ∷ []); result = (scalar_type (m 0 1 1) scalars.Int); is_const = false; is_constexpr = false; body = None })
    ∷ a_function (record { at = (p 2 5); name = (codes "m"); owner = None; is_template = false; template_parameters = ([]); constraints = ([]); parameters = (parameter (scalar_type (m 3 2 7) scalars.Int) 0 false ∷ []); result = (scalar_type (m 2 2 1) scalars.Int); is_const = false; is_constexpr = false; body = None })
    ∷ a_function (record { at = (p 3 5); name = (codes "g"); owner = None; is_template = false; template_parameters = ([]); constraints = ([]); parameters = ([]); result = (scalar_type (m 4 3 1) scalars.Int); is_const = false; is_constexpr = false; body = Some (block (m 11 3 9) (and_statement (return_statement (m 10 3 11) (Some (call (m 9 3 18) (functions (m 5 3 18) (codes "m") 1) (and_expression (call (m 8 3 20) (functions (m 6 3 20) (codes "k") 1) (and_expression (literal (m 7 3 22) scalars.Int (pos 1)) no_expression)) no_expression)))) no_statement)) })
    ∷ [])
    (((codes "k"), ((d 0) ∷ [])) ∷ ((codes "m"), ((d 1) ∷ [])) ∷ ((codes "g"), ((d 2) ∷ [])) ∷ [])
    ([])
    ([])
    (around 0 ([]) false ∷ [])
    ([])

abbrev pub operands_first_unit_items : List Item
operands_first_unit_items = (a_declaration (d 0) ∷ a_declaration (d 1) ∷ a_declaration (d 2) ∷ [])

-- int k(int);
-- struct S { int a; };
-- int g() { k(1); return S{}; }
abbrev pub body_before_needs_unit : Program
body_before_needs_unit =
    unit
    (a_function (record { at = (p 1 5); name = (codes "k"); owner = None; is_template = false; template_parameters = ([]); constraints = ([]); parameters = (parameter (scalar_type (m 1 1 7) scalars.Int) 0 false ∷ []); result = (scalar_type (m 0 1 1) scalars.Int); is_const = false; is_constexpr = false; body = None })
    ∷ a_struct (record { at = (p 2 8); itself = (struct (d 1)); is_template = false; template_parameters = ([]); constraints = ([]); primary = None; specialised_for = ([]); members = (field (codes "a") (scalar_type (m 2 2 12) scalars.Int) ∷ []) })
    ∷ a_field 0 (scalar_type (m 2 2 12) scalars.Int)
    ∷ a_function (record { at = (p 3 5); name = (codes "g"); owner = None; is_template = false; template_parameters = ([]); constraints = ([]); parameters = ([]); result = (scalar_type (m 3 3 1) scalars.Int); is_const = false; is_constexpr = false; body = Some (block (m 11 3 9) (and_statement (expression_statement (m 7 3 11) (call (m 6 3 11) (functions (m 4 3 11) (codes "k") 1) (and_expression (literal (m 5 3 13) scalars.Int (pos 1)) no_expression))) (and_statement (return_statement (m 10 3 17) (Some (list (m 9 3 24) (struct_type (m 8 3 24) (d 1)) no_expression))) no_statement))) })
    ∷ [])
    (((codes "k"), ((d 0) ∷ [])) ∷ ((codes "g"), ((d 3) ∷ [])) ∷ [])
    ([])
    ([])
    (around 0 ([]) false ∷ [])
    ([])

abbrev pub body_before_needs_unit_items : List Item
body_before_needs_unit_items = (a_declaration (d 0) ∷ a_declaration (d 1) ∷ a_declaration (d 3) ∷ [])

-- int f() { const int i = 1; auto j = i; j = 2; const auto& k = i; return j + k; }
abbrev pub auto_by_value_unit : Program
auto_by_value_unit =
    unit
    (a_function (record { at = (p 1 5); name = (codes "f"); owner = None; is_template = false; template_parameters = ([]); constraints = ([]); parameters = ([]); result = (scalar_type (m 0 1 1) scalars.Int); is_const = false; is_constexpr = false; body = Some (block (m 18 1 9) (and_statement (variable (m 3 1 11) false (as_type (const_type (m 1 1 11) (scalar_type (m 1 1 11) scalars.Int))) 0 (equals (literal (m 2 1 25) scalars.Int (pos 1)))) (and_statement (variable (m 6 1 28) false (as_auto (m 4 1 28) None false false) 1 (equals (local_name (m 5 1 37) 0))) (and_statement (expression_statement (m 10 1 40) (binary (m 9 1 40) word.Assign (local_name (m 7 1 40) 1) (literal (m 8 1 44) scalars.Int (pos 2)))) (and_statement (variable (m 13 1 47) false (as_auto (m 11 1 47) None true true) 2 (equals (local_name (m 12 1 63) 0))) (and_statement (return_statement (m 17 1 66) (Some (binary (m 16 1 73) word.Plus (local_name (m 14 1 73) 1) (local_name (m 15 1 77) 2)))) no_statement)))))) })
    ∷ [])
    (((codes "f"), ((d 0) ∷ [])) ∷ [])
    ([])
    ([])
    (around 0 ([]) false ∷ [])
    ([])

abbrev pub auto_by_value_unit_items : List Item
auto_by_value_unit_items = (a_declaration (d 0) ∷ [])

-- int f() { const int i = 1; auto& r = i; r = 2; return r; }
abbrev pub auto_reference_unit : Program
auto_reference_unit =
    unit
    (a_function (record { at = (p 1 5); name = (codes "f"); owner = None; is_template = false; template_parameters = ([]); constraints = ([]); parameters = ([]); result = (scalar_type (m 0 1 1) scalars.Int); is_const = false; is_constexpr = false; body = Some (block (m 13 1 9) (and_statement (variable (m 3 1 11) false (as_type (const_type (m 1 1 11) (scalar_type (m 1 1 11) scalars.Int))) 0 (equals (literal (m 2 1 25) scalars.Int (pos 1)))) (and_statement (variable (m 6 1 28) false (as_auto (m 4 1 28) None false true) 1 (equals (local_name (m 5 1 38) 0))) (and_statement (expression_statement (m 10 1 41) (binary (m 9 1 41) word.Assign (local_name (m 7 1 41) 1) (literal (m 8 1 45) scalars.Int (pos 2)))) (and_statement (return_statement (m 12 1 48) (Some (local_name (m 11 1 55) 1))) no_statement))))) })
    ∷ [])
    (((codes "f"), ((d 0) ∷ [])) ∷ [])
    ([])
    ([])
    (around 0 ([]) false ∷ [])
    ([])

abbrev pub auto_reference_unit_items : List Item
auto_reference_unit_items = (a_declaration (d 0) ∷ [])

-- int f() { auto& r = 1; return r; }
abbrev pub auto_to_a_temporary_unit : Program
auto_to_a_temporary_unit =
    unit
    (a_function (record { at = (p 1 5); name = (codes "f"); owner = None; is_template = false; template_parameters = ([]); constraints = ([]); parameters = ([]); result = (scalar_type (m 0 1 1) scalars.Int); is_const = false; is_constexpr = false; body = Some (block (m 6 1 9) (and_statement (variable (m 3 1 11) false (as_auto (m 1 1 11) None false true) 0 (equals (literal (m 2 1 21) scalars.Int (pos 1)))) (and_statement (return_statement (m 5 1 24) (Some (local_name (m 4 1 31) 0))) no_statement))) })
    ∷ [])
    (((codes "f"), ((d 0) ∷ [])) ∷ [])
    ([])
    ([])
    (around 0 ([]) false ∷ [])
    ([])

abbrev pub auto_to_a_temporary_unit_items : List Item
auto_to_a_temporary_unit_items = (a_declaration (d 0) ∷ [])

-- template<typename T> concept Int = __is_same(T, int);
-- int f() { int i = 1; Int auto& r = i; return r; }
-- int g() { const int i = 1; Int auto& r = i; return r; }
abbrev pub constrained_reference_unit : Program
constrained_reference_unit =
    unit
    (a_concept (record { at = (p 1 30); template_parameters = (tp None None ∷ []); condition = (is_same (m 2 1 36) (position_type (m 0 1 46) 0) (scalar_type (m 1 1 49) scalars.Int)) })
    ∷ a_function (record { at = (p 2 5); name = (codes "f"); owner = None; is_template = false; template_parameters = ([]); constraints = ([]); parameters = ([]); result = (scalar_type (m 3 2 1) scalars.Int); is_const = false; is_constexpr = false; body = Some (block (m 13 2 9) (and_statement (variable (m 6 2 11) false (as_type (scalar_type (m 4 2 11) scalars.Int)) 0 (equals (literal (m 5 2 19) scalars.Int (pos 1)))) (and_statement (variable (m 10 2 22) false (as_auto (m 8 2 22) (Some (record { mark = (m 7 2 22); concept = (d 0); rest = no_argument })) false true) 1 (equals (local_name (m 9 2 36) 0))) (and_statement (return_statement (m 12 2 39) (Some (local_name (m 11 2 46) 1))) no_statement)))) })
    ∷ a_function (record { at = (p 3 5); name = (codes "g"); owner = None; is_template = false; template_parameters = ([]); constraints = ([]); parameters = ([]); result = (scalar_type (m 14 3 1) scalars.Int); is_const = false; is_constexpr = false; body = Some (block (m 24 3 9) (and_statement (variable (m 17 3 11) false (as_type (const_type (m 15 3 11) (scalar_type (m 15 3 11) scalars.Int))) 0 (equals (literal (m 16 3 25) scalars.Int (pos 1)))) (and_statement (variable (m 21 3 28) false (as_auto (m 19 3 28) (Some (record { mark = (m 18 3 28); concept = (d 0); rest = no_argument })) false true) 1 (equals (local_name (m 20 3 42) 0))) (and_statement (return_statement (m 23 3 45) (Some (local_name (m 22 3 52) 1))) no_statement)))) })
    ∷ [])
    (((codes "f"), ((d 1) ∷ [])) ∷ ((codes "g"), ((d 2) ∷ [])) ∷ [])
    ([])
    ((2, (is_same (m 2 1 36) (position_type (m 0 1 46) 0) (scalar_type (m 1 1 49) scalars.Int)))
    ∷ [])
    (around 0 (None ∷ []) true ∷ around 3 ([]) false ∷ [])
    ([])

abbrev pub constrained_reference_unit_items : List Item
constrained_reference_unit_items = (a_declaration (d 0) ∷ a_declaration (d 1) ∷ a_declaration (d 2) ∷ [])

-- template<typename T> concept Int = __is_same(T, int);
-- int g() { const int i = 1; Int auto r = i; return r; }
abbrev pub constrained_by_value_unit : Program
constrained_by_value_unit =
    unit
    (a_concept (record { at = (p 1 30); template_parameters = (tp None None ∷ []); condition = (is_same (m 2 1 36) (position_type (m 0 1 46) 0) (scalar_type (m 1 1 49) scalars.Int)) })
    ∷ a_function (record { at = (p 2 5); name = (codes "g"); owner = None; is_template = false; template_parameters = ([]); constraints = ([]); parameters = ([]); result = (scalar_type (m 3 2 1) scalars.Int); is_const = false; is_constexpr = false; body = Some (block (m 13 2 9) (and_statement (variable (m 6 2 11) false (as_type (const_type (m 4 2 11) (scalar_type (m 4 2 11) scalars.Int))) 0 (equals (literal (m 5 2 25) scalars.Int (pos 1)))) (and_statement (variable (m 10 2 28) false (as_auto (m 8 2 28) (Some (record { mark = (m 7 2 28); concept = (d 0); rest = no_argument })) false false) 1 (equals (local_name (m 9 2 41) 0))) (and_statement (return_statement (m 12 2 44) (Some (local_name (m 11 2 51) 1))) no_statement)))) })
    ∷ [])
    (((codes "g"), ((d 1) ∷ [])) ∷ [])
    ([])
    ((2, (is_same (m 2 1 36) (position_type (m 0 1 46) 0) (scalar_type (m 1 1 49) scalars.Int)))
    ∷ [])
    (around 0 (None ∷ []) true ∷ around 3 ([]) false ∷ [])
    ([])

abbrev pub constrained_by_value_unit_items : List Item
constrained_by_value_unit_items = (a_declaration (d 0) ∷ a_declaration (d 1) ∷ [])

-- void k() { }
-- int f() { auto x = k(); return 1; }
abbrev pub void_variable_unit : Program
void_variable_unit =
    unit
    (a_function (record { at = (p 1 6); name = (codes "k"); owner = None; is_template = false; template_parameters = ([]); constraints = ([]); parameters = ([]); result = (void_type (m 0 1 1)); is_const = false; is_constexpr = false; body = Some (block (m 1 1 10) no_statement) })
    ∷ a_function (record { at = (p 2 5); name = (codes "f"); owner = None; is_template = false; template_parameters = ([]); constraints = ([]); parameters = ([]); result = (scalar_type (m 2 2 1) scalars.Int); is_const = false; is_constexpr = false; body = Some (block (m 9 2 9) (and_statement (variable (m 6 2 11) false (as_auto (m 3 2 11) None false false) 0 (equals (call (m 5 2 20) (functions (m 4 2 20) (codes "k") 1) no_expression))) (and_statement (return_statement (m 8 2 25) (Some (literal (m 7 2 32) scalars.Int (pos 1)))) no_statement))) })
    ∷ [])
    (((codes "k"), ((d 0) ∷ [])) ∷ ((codes "f"), ((d 1) ∷ [])) ∷ [])
    ([])
    ([])
    (around 0 ([]) false ∷ [])
    ([])

abbrev pub void_variable_unit_items : List Item
void_variable_unit_items = (a_declaration (d 0) ∷ a_declaration (d 1) ∷ [])

-- struct S { int a; };
-- int f() { S s{}; while (s) { } return 1; }
abbrev pub void_condition_unit : Program
void_condition_unit =
    unit
    (a_struct (record { at = (p 1 8); itself = (struct (d 0)); is_template = false; template_parameters = ([]); constraints = ([]); primary = None; specialised_for = ([]); members = (field (codes "a") (scalar_type (m 0 1 12) scalars.Int) ∷ []) })
    ∷ a_field 0 (scalar_type (m 0 1 12) scalars.Int)
    ∷ a_function (record { at = (p 2 5); name = (codes "f"); owner = None; is_template = false; template_parameters = ([]); constraints = ([]); parameters = ([]); result = (scalar_type (m 1 2 1) scalars.Int); is_const = false; is_constexpr = false; body = Some (block (m 10 2 9) (and_statement (variable (m 4 2 11) false (as_type (struct_type (m 2 2 11) (d 0))) 0 (braces (m 3 2 14) no_expression)) (and_statement (while_statement (m 7 2 18) (local_name (m 5 2 25) 0) (block (m 6 2 28) no_statement)) (and_statement (return_statement (m 9 2 32) (Some (literal (m 8 2 39) scalars.Int (pos 1)))) no_statement)))) })
    ∷ [])
    (((codes "f"), ((d 2) ∷ [])) ∷ [])
    ([])
    ([])
    (around 0 ([]) false ∷ [])
    ([])

abbrev pub void_condition_unit_items : List Item
void_condition_unit_items = (a_declaration (d 0) ∷ a_declaration (d 2) ∷ [])

-- struct S { int a; };
-- int f() { S s{}; int i = s; return i; }
abbrev pub wrong_initialiser_unit : Program
wrong_initialiser_unit =
    unit
    (a_struct (record { at = (p 1 8); itself = (struct (d 0)); is_template = false; template_parameters = ([]); constraints = ([]); primary = None; specialised_for = ([]); members = (field (codes "a") (scalar_type (m 0 1 12) scalars.Int) ∷ []) })
    ∷ a_field 0 (scalar_type (m 0 1 12) scalars.Int)
    ∷ a_function (record { at = (p 2 5); name = (codes "f"); owner = None; is_template = false; template_parameters = ([]); constraints = ([]); parameters = ([]); result = (scalar_type (m 1 2 1) scalars.Int); is_const = false; is_constexpr = false; body = Some (block (m 10 2 9) (and_statement (variable (m 4 2 11) false (as_type (struct_type (m 2 2 11) (d 0))) 0 (braces (m 3 2 14) no_expression)) (and_statement (variable (m 7 2 18) false (as_type (scalar_type (m 5 2 18) scalars.Int)) 1 (equals (local_name (m 6 2 26) 0))) (and_statement (return_statement (m 9 2 29) (Some (local_name (m 8 2 36) 1))) no_statement)))) })
    ∷ [])
    (((codes "f"), ((d 2) ∷ [])) ∷ [])
    ([])
    ([])
    (around 0 ([]) false ∷ [])
    ([])

abbrev pub wrong_initialiser_unit_items : List Item
wrong_initialiser_unit_items = (a_declaration (d 0) ∷ a_declaration (d 2) ∷ [])

-- int f() { int i = 1; int& r{i}; return r; }
abbrev pub braces_of_a_reference_unit : Program
braces_of_a_reference_unit =
    unit
    (a_function (record { at = (p 1 5); name = (codes "f"); owner = None; is_template = false; template_parameters = ([]); constraints = ([]); parameters = ([]); result = (scalar_type (m 0 1 1) scalars.Int); is_const = false; is_constexpr = false; body = Some (block (m 10 1 9) (and_statement (variable (m 3 1 11) false (as_type (scalar_type (m 1 1 11) scalars.Int)) 0 (equals (literal (m 2 1 19) scalars.Int (pos 1)))) (and_statement (variable (m 7 1 22) false (as_type (reference_type (m 4 1 22) (scalar_type (m 4 1 22) scalars.Int))) 1 (braces (m 6 1 28) (and_expression (local_name (m 5 1 29) 0) no_expression))) (and_statement (return_statement (m 9 1 33) (Some (local_name (m 8 1 40) 1))) no_statement)))) })
    ∷ [])
    (((codes "f"), ((d 0) ∷ [])) ∷ [])
    ([])
    ([])
    (around 0 ([]) false ∷ [])
    ([])

abbrev pub braces_of_a_reference_unit_items : List Item
braces_of_a_reference_unit_items = (a_declaration (d 0) ∷ [])

-- int f() { int s = 0; for (int i = 0; i < 3; ++i) { if (i == 1) continue; s += i; if (s > 4) break; } return s; }
abbrev pub loops_unit : Program
loops_unit =
    unit
    (a_function (record { at = (p 1 5); name = (codes "f"); owner = None; is_template = false; template_parameters = ([]); constraints = ([]); parameters = ([]); result = (scalar_type (m 0 1 1) scalars.Int); is_const = false; is_constexpr = false; body = Some (block (m 30 1 9) (and_statement (variable (m 3 1 11) false (as_type (scalar_type (m 1 1 11) scalars.Int)) 0 (equals (literal (m 2 1 19) scalars.Int (pos 0)))) (and_statement (for_statement (m 27 1 22) (variable (m 6 1 27) false (as_type (scalar_type (m 4 1 27) scalars.Int)) 1 (equals (literal (m 5 1 35) scalars.Int (pos 0)))) (Some (binary (m 9 1 38) word.Less (local_name (m 7 1 38) 1) (literal (m 8 1 42) scalars.Int (pos 3)))) (Some (unary (m 11 1 45) word.PreIncrement (local_name (m 10 1 47) 1))) (block (m 26 1 50) (and_statement (if_statement (m 16 1 52) false (binary (m 14 1 56) word.Equal (local_name (m 12 1 56) 1) (literal (m 13 1 61) scalars.Int (pos 1))) (continue_statement (m 15 1 64)) no_statement) (and_statement (expression_statement (m 20 1 74) (binary (m 19 1 74) word.PlusAssign (local_name (m 17 1 74) 0) (local_name (m 18 1 79) 1))) (and_statement (if_statement (m 25 1 82) false (binary (m 23 1 86) word.Greater (local_name (m 21 1 86) 0) (literal (m 22 1 90) scalars.Int (pos 4))) (break_statement (m 24 1 93)) no_statement) no_statement))))) (and_statement (return_statement (m 29 1 102) (Some (local_name (m 28 1 109) 0))) no_statement)))) })
    ∷ [])
    (((codes "f"), ((d 0) ∷ [])) ∷ [])
    ([])
    ([])
    (around 0 ([]) false ∷ [])
    ([])

abbrev pub loops_unit_items : List Item
loops_unit_items = (a_declaration (d 0) ∷ [])

-- template<typename T> int f(T) { static_assert(__is_same(T, int)); return 1; }
-- int g() { return f(1); }
-- int h() { return f(true); }
abbrev pub constant_of_a_block_unit : Program
constant_of_a_block_unit =
    unit
    (a_function (record { at = (p 1 26); name = (codes "f"); owner = None; is_template = true; template_parameters = (tp None None ∷ []); constraints = ([]); parameters = (parameter (position_type (m 1 1 28) 0) 0 false ∷ []); result = (scalar_type (m 0 1 22) scalars.Int); is_const = false; is_constexpr = false; body = Some (block (m 8 1 31) (and_statement (assertion (m 5 1 33) (is_same (m 4 1 47) (position_type (m 2 1 57) 0) (scalar_type (m 3 1 60) scalars.Int))) (and_statement (return_statement (m 7 1 67) (Some (literal (m 6 1 74) scalars.Int (pos 1)))) no_statement))) })
    ∷ a_function (record { at = (p 2 5); name = (codes "g"); owner = None; is_template = false; template_parameters = ([]); constraints = ([]); parameters = ([]); result = (scalar_type (m 9 2 1) scalars.Int); is_const = false; is_constexpr = false; body = Some (block (m 14 2 9) (and_statement (return_statement (m 13 2 11) (Some (call (m 12 2 18) (functions (m 10 2 18) (codes "f") 1) (and_expression (literal (m 11 2 20) scalars.Int (pos 1)) no_expression)))) no_statement)) })
    ∷ a_function (record { at = (p 3 5); name = (codes "h"); owner = None; is_template = false; template_parameters = ([]); constraints = ([]); parameters = ([]); result = (scalar_type (m 15 3 1) scalars.Int); is_const = false; is_constexpr = false; body = Some (block (m 20 3 9) (and_statement (return_statement (m 19 3 11) (Some (call (m 18 3 18) (functions (m 16 3 18) (codes "f") 1) (and_expression (literal (m 17 3 20) scalars.Bool (pos 1)) no_expression)))) no_statement)) })
    ∷ [])
    (((codes "f"), ((d 0) ∷ [])) ∷ ((codes "g"), ((d 1) ∷ [])) ∷ ((codes "h"), ((d 2) ∷ [])) ∷ [])
    ([])
    ([])
    (around 0 (None ∷ []) true ∷ around 9 ([]) false ∷ [])
    ([])

abbrev pub constant_of_a_block_unit_items : List Item
constant_of_a_block_unit_items = (a_declaration (d 0) ∷ a_declaration (d 1) ∷ a_declaration (d 2) ∷ [])

-- template<typename T> struct W { typename T::bad x; };
-- int f(const W<int>& w) { return 1; }
abbrev pub heads_are_complete_unit : Program
heads_are_complete_unit =
    unit
    (a_struct (record { at = (p 1 29); itself = (inst (d 0) (arguments ((param 0) ∷ []))); is_template = true; template_parameters = (tp None None ∷ []); constraints = ([]); primary = None; specialised_for = ([]); members = (field (codes "x") (member_type (m 1 1 33) (position_type (m 0 1 42) 0) ((codes "bad") ∷ [])) ∷ []) })
    ∷ a_field 0 (member_type (m 1 1 33) (position_type (m 0 1 42) 0) ((codes "bad") ∷ []))
    ∷ a_function (record { at = (p 2 5); name = (codes "f"); owner = None; is_template = false; template_parameters = ([]); constraints = ([]); parameters = (parameter (reference_type (m 4 2 7) (const_type (m 4 2 7) (template_id (m 4 2 7) (p 2 13) (d 0) (and_type (scalar_type (m 3 2 15) scalars.Int) no_argument)))) 0 true ∷ []); result = (scalar_type (m 2 2 1) scalars.Int); is_const = false; is_constexpr = false; body = Some (block (m 7 2 24) (and_statement (return_statement (m 6 2 26) (Some (literal (m 5 2 33) scalars.Int (pos 1)))) no_statement)) })
    ∷ [])
    (((codes "f"), ((d 2) ∷ [])) ∷ [])
    ([])
    ([])
    (around 0 (None ∷ []) true ∷ around 2 ([]) false ∷ [])
    ([])

abbrev pub heads_are_complete_unit_items : List Item
heads_are_complete_unit_items = (a_declaration (d 0) ∷ a_declaration (d 2) ∷ [])

-- template<typename T> struct B { T v; int get() { return twice(v); } int twice(int x) { return x + x; } };
-- struct S { int a; int b() { return a; } };
-- int f() { B<int> x{3}; return x.get(); }
abbrev pub member_bodies_unit : Program
member_bodies_unit =
    unit
    (a_struct (record { at = (p 1 29); itself = (inst (d 0) (arguments ((param 0) ∷ []))); is_template = true; template_parameters = (tp None None ∷ []); constraints = ([]); primary = None; specialised_for = ([]); members = (field (codes "v") (position_type (m 0 1 33) 0) ∷ member_function (codes "get") (d 2) ∷ member_function (codes "twice") (d 3) ∷ []) })
    ∷ a_field 0 (position_type (m 0 1 33) 0)
    ∷ a_function (record { at = (p 1 42); name = (codes "get"); owner = (Some (d 0)); is_template = true; template_parameters = (tp None None ∷ []); constraints = ([]); parameters = ([]); result = (scalar_type (m 1 1 38) scalars.Int); is_const = false; is_constexpr = false; body = Some (block (m 8 1 48) (and_statement (return_statement (m 7 1 50) (Some (call (m 6 1 57) (own_functions (m 4 1 57) (codes "twice")) (and_expression (field_name (m 5 1 63) 0 (d 1)) no_expression)))) no_statement)) })
    ∷ a_function (record { at = (p 1 73); name = (codes "twice"); owner = (Some (d 0)); is_template = true; template_parameters = (tp None None ∷ []); constraints = ([]); parameters = (parameter (scalar_type (m 3 1 79) scalars.Int) 0 true ∷ []); result = (scalar_type (m 2 1 69) scalars.Int); is_const = false; is_constexpr = false; body = Some (block (m 13 1 86) (and_statement (return_statement (m 12 1 88) (Some (binary (m 11 1 95) word.Plus (local_name (m 9 1 95) 0) (local_name (m 10 1 99) 0)))) no_statement)) })
    ∷ a_struct (record { at = (p 2 8); itself = (struct (d 4)); is_template = false; template_parameters = ([]); constraints = ([]); primary = None; specialised_for = ([]); members = (field (codes "a") (scalar_type (m 14 2 12) scalars.Int) ∷ member_function (codes "b") (d 6) ∷ []) })
    ∷ a_field 0 (scalar_type (m 14 2 12) scalars.Int)
    ∷ a_function (record { at = (p 2 23); name = (codes "b"); owner = (Some (d 4)); is_template = false; template_parameters = ([]); constraints = ([]); parameters = ([]); result = (scalar_type (m 15 2 19) scalars.Int); is_const = false; is_constexpr = false; body = Some (block (m 18 2 27) (and_statement (return_statement (m 17 2 29) (Some (field_name (m 16 2 36) 0 (d 5)))) no_statement)) })
    ∷ a_function (record { at = (p 3 5); name = (codes "f"); owner = None; is_template = false; template_parameters = ([]); constraints = ([]); parameters = ([]); result = (scalar_type (m 19 3 1) scalars.Int); is_const = false; is_constexpr = false; body = Some (block (m 29 3 9) (and_statement (variable (m 24 3 11) false (as_type (template_id (m 21 3 11) (p 3 11) (d 0) (and_type (scalar_type (m 20 3 13) scalars.Int) no_argument))) 0 (braces (m 23 3 19) (and_expression (literal (m 22 3 20) scalars.Int (pos 3)) no_expression))) (and_statement (return_statement (m 28 3 24) (Some (call (m 27 3 31) (object_functions (m 26 3 31) (local_name (m 25 3 31) 0) (codes "get")) no_expression))) no_statement))) })
    ∷ [])
    (((codes "f"), ((d 7) ∷ [])) ∷ [])
    ([])
    ([])
    (around 0 (None ∷ []) true ∷ around 14 ([]) false ∷ [])
    ([])

abbrev pub member_bodies_unit_items : List Item
member_bodies_unit_items = (a_declaration (d 0) ∷ a_declaration (d 4) ∷ a_declaration (d 7) ∷ [])
