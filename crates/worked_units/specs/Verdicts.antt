-- Verdicts on whole units: the functions that are emitted, or the first refusal with its places.
use Rattle.std.specs.Prelude.{pos, true, false, List, [], ◌∷◌, Some, None, codes}
use Rattle.cx_base.specs.declared.value.Scalar.TheVariants as scalars
use Rattle.cx_term.specs.Term.{param, struct, inst, arguments}
use Rattle.cx_term.specs.declared.word.Word.TheVariants as word
use Rattle.cx_questions.specs.Forms.{literal, local_name, position_name, field_name, parentheses, unary, binary, conditional, dot, scope, call, list, is_same, out, concept_id, requires, no_expression, and_expression, functions, functions_with, object_functions, position_type, scalar_type, void_type, struct_type, template_id, const_type, reference_type, member_type, no_argument, and_type, and_value, no_parameter, and_parameter, no_requirement, and_simple, and_type_requirement, and_constrained, of_type, as_type, as_auto, equals, braces, block, break_statement, return_statement, if_statement, while_statement, variable, expression_statement, no_statement, and_statement}
use Rattle.cx_questions.specs.Program.{Program, a_function, a_struct, a_concept, a_constant, a_field, field, member_alias, static_constant, member_function}
use Rattle.worked_units.specs.Units.{p, d, m, tp, parameter, around, unit}
use Rattle.cx_questions.specs.Stages.{Item, an_assertion, a_declaration}

-- ;
abbrev pub empty_unit_unit : Program
empty_unit_unit =
    unit
    ([])
    ([])
    ([])
    ([])
    ([])
    ([])

abbrev pub empty_unit_unit_items : List Item
empty_unit_unit_items = ([])

-- template<typename T> concept Integral = __is_same(T, int) || __is_same(T, bool);
-- template<typename T> concept Signed = Integral<T> && __is_same(T, int);
-- template<Integral T> int f(T) { return 1; }
-- template<Signed T> int f(T) { return 2; }
-- int g() { return f(1); }
abbrev pub emits_what_is_called_unit : Program
emits_what_is_called_unit =
    unit
    (a_concept (record { at = (p 1 30); template_parameters = (tp None None ∷ []); condition = (binary (m 6 1 41) word.LogicalOr (is_same (m 2 1 41) (position_type (m 0 1 51) 0) (scalar_type (m 1 1 54) scalars.Int)) (is_same (m 5 1 62) (position_type (m 3 1 72) 0) (scalar_type (m 4 1 75) scalars.Bool))) })
    ∷ a_concept (record { at = (p 2 30); template_parameters = (tp None None ∷ []); condition = (binary (m 12 2 39) word.LogicalAnd (concept_id (m 8 2 39) (d 0) (and_type (position_type (m 7 2 48) 0) no_argument)) (is_same (m 11 2 54) (position_type (m 9 2 64) 0) (scalar_type (m 10 2 67) scalars.Int))) })
    ∷ a_function (record { at = (p 3 26); name = (codes "f"); owner = None; is_template = true; template_parameters = (tp None None ∷ []); constraints = ((concept_id (m 13 3 10) (d 0) (and_type (position_type (m 13 3 10) 0) no_argument)) ∷ []); parameters = (parameter (position_type (m 15 3 28) 0) 0 false ∷ []); result = (scalar_type (m 14 3 22) scalars.Int); is_const = false; is_constexpr = false; body = Some (block (m 18 3 31) (and_statement (return_statement (m 17 3 33) (Some (literal (m 16 3 40) scalars.Int (pos 1)))) no_statement)) })
    ∷ a_function (record { at = (p 4 24); name = (codes "f"); owner = None; is_template = true; template_parameters = (tp None None ∷ []); constraints = ((concept_id (m 19 4 10) (d 1) (and_type (position_type (m 19 4 10) 0) no_argument)) ∷ []); parameters = (parameter (position_type (m 21 4 26) 0) 0 false ∷ []); result = (scalar_type (m 20 4 20) scalars.Int); is_const = false; is_constexpr = false; body = Some (block (m 24 4 29) (and_statement (return_statement (m 23 4 31) (Some (literal (m 22 4 38) scalars.Int (pos 2)))) no_statement)) })
    ∷ a_function (record { at = (p 5 5); name = (codes "g"); owner = None; is_template = false; template_parameters = ([]); constraints = ([]); parameters = ([]); result = (scalar_type (m 25 5 1) scalars.Int); is_const = false; is_constexpr = false; body = Some (block (m 30 5 9) (and_statement (return_statement (m 29 5 11) (Some (call (m 28 5 18) (functions (m 26 5 18) (codes "f") 2) (and_expression (literal (m 27 5 20) scalars.Int (pos 1)) no_expression)))) no_statement)) })
    ∷ [])
    (((codes "f"), ((d 2) ∷ (d 3) ∷ [])) ∷ ((codes "g"), ((d 4) ∷ [])) ∷ [])
    ([])
    ((2, (is_same (m 2 1 41) (position_type (m 0 1 51) 0) (scalar_type (m 1 1 54) scalars.Int)))
    ∷ (5, (is_same (m 5 1 62) (position_type (m 3 1 72) 0) (scalar_type (m 4 1 75) scalars.Bool)))
    ∷ (11, (is_same (m 11 2 54) (position_type (m 9 2 64) 0) (scalar_type (m 10 2 67) scalars.Int)))
    ∷ [])
    (around 0 (None ∷ []) true ∷ around 25 ([]) false ∷ [])
    ([])

abbrev pub emits_what_is_called_unit_items : List Item
emits_what_is_called_unit_items = (a_declaration (d 0) ∷ a_declaration (d 1) ∷ a_declaration (d 2) ∷ a_declaration (d 3) ∷ a_declaration (d 4) ∷ [])

-- template<typename T> requires (__is_same(T, int)) int f(T) { return 1; }
-- template<typename T> requires (__is_same(T, int)) && true int f(T) { return 2; }
-- int g() { return f(1); }
abbrev pub ambiguous_call_unit : Program
ambiguous_call_unit =
    unit
    (a_function (record { at = (p 1 55); name = (codes "f"); owner = None; is_template = true; template_parameters = (tp None None ∷ []); constraints = ((parentheses (m 3 1 31) (is_same (m 2 1 32) (position_type (m 0 1 42) 0) (scalar_type (m 1 1 45) scalars.Int))) ∷ []); parameters = (parameter (position_type (m 5 1 57) 0) 0 false ∷ []); result = (scalar_type (m 4 1 51) scalars.Int); is_const = false; is_constexpr = false; body = Some (block (m 8 1 60) (and_statement (return_statement (m 7 1 62) (Some (literal (m 6 1 69) scalars.Int (pos 1)))) no_statement)) })
    ∷ a_function (record { at = (p 2 63); name = (codes "f"); owner = None; is_template = true; template_parameters = (tp None None ∷ []); constraints = ((binary (m 14 2 31) word.LogicalAnd (parentheses (m 12 2 31) (is_same (m 11 2 32) (position_type (m 9 2 42) 0) (scalar_type (m 10 2 45) scalars.Int))) (literal (m 13 2 54) scalars.Bool (pos 1))) ∷ []); parameters = (parameter (position_type (m 16 2 65) 0) 0 false ∷ []); result = (scalar_type (m 15 2 59) scalars.Int); is_const = false; is_constexpr = false; body = Some (block (m 19 2 68) (and_statement (return_statement (m 18 2 70) (Some (literal (m 17 2 77) scalars.Int (pos 2)))) no_statement)) })
    ∷ a_function (record { at = (p 3 5); name = (codes "g"); owner = None; is_template = false; template_parameters = ([]); constraints = ([]); parameters = ([]); result = (scalar_type (m 20 3 1) scalars.Int); is_const = false; is_constexpr = false; body = Some (block (m 25 3 9) (and_statement (return_statement (m 24 3 11) (Some (call (m 23 3 18) (functions (m 21 3 18) (codes "f") 2) (and_expression (literal (m 22 3 20) scalars.Int (pos 1)) no_expression)))) no_statement)) })
    ∷ [])
    (((codes "f"), ((d 0) ∷ (d 1) ∷ [])) ∷ ((codes "g"), ((d 2) ∷ [])) ∷ [])
    ([])
    ((2, (is_same (m 2 1 32) (position_type (m 0 1 42) 0) (scalar_type (m 1 1 45) scalars.Int)))
    ∷ (11, (is_same (m 11 2 32) (position_type (m 9 2 42) 0) (scalar_type (m 10 2 45) scalars.Int)))
    ∷ (13, (literal (m 13 2 54) scalars.Bool (pos 1)))
    ∷ [])
    (around 0 (None ∷ []) true ∷ around 20 ([]) false ∷ [])
    ([])

abbrev pub ambiguous_call_unit_items : List Item
ambiguous_call_unit_items = (a_declaration (d 0) ∷ a_declaration (d 1) ∷ a_declaration (d 2) ∷ [])

-- int f(long long) { return 1; }
-- int f(unsigned) { return 2; }
-- int g() { return f(1); }
abbrev pub ambiguous_non_templates_unit : Program
ambiguous_non_templates_unit =
    unit
    (a_function (record { at = (p 1 5); name = (codes "f"); owner = None; is_template = false; template_parameters = ([]); constraints = ([]); parameters = (parameter (scalar_type (m 1 1 7) scalars.LongLong) 0 false ∷ []); result = (scalar_type (m 0 1 1) scalars.Int); is_const = false; is_constexpr = false; body = Some (block (m 4 1 18) (and_statement (return_statement (m 3 1 20) (Some (literal (m 2 1 27) scalars.Int (pos 1)))) no_statement)) })
    ∷ a_function (record { at = (p 2 5); name = (codes "f"); owner = None; is_template = false; template_parameters = ([]); constraints = ([]); parameters = (parameter (scalar_type (m 6 2 7) scalars.Unsigned) 0 false ∷ []); result = (scalar_type (m 5 2 1) scalars.Int); is_const = false; is_constexpr = false; body = Some (block (m 9 2 17) (and_statement (return_statement (m 8 2 19) (Some (literal (m 7 2 26) scalars.Int (pos 2)))) no_statement)) })
    ∷ a_function (record { at = (p 3 5); name = (codes "g"); owner = None; is_template = false; template_parameters = ([]); constraints = ([]); parameters = ([]); result = (scalar_type (m 10 3 1) scalars.Int); is_const = false; is_constexpr = false; body = Some (block (m 15 3 9) (and_statement (return_statement (m 14 3 11) (Some (call (m 13 3 18) (functions (m 11 3 18) (codes "f") 2) (and_expression (literal (m 12 3 20) scalars.Int (pos 1)) no_expression)))) no_statement)) })
    ∷ [])
    (((codes "f"), ((d 0) ∷ (d 1) ∷ [])) ∷ ((codes "g"), ((d 2) ∷ [])) ∷ [])
    ([])
    ([])
    (around 0 ([]) false ∷ [])
    ([])

abbrev pub ambiguous_non_templates_unit_items : List Item
ambiguous_non_templates_unit_items = (a_declaration (d 0) ∷ a_declaration (d 1) ∷ a_declaration (d 2) ∷ [])

-- template<typename T> struct Box { T v; };
-- template<typename T> int f(T&) { return 1; }
-- template<typename T> int f(Box<T>) { return 2; }
-- int f(const Box<int>&) { return 3; }
-- int g() { Box<int> b{7}; return f(b); }
abbrev pub cycle_unit : Program
cycle_unit =
    unit
    (a_struct (record { at = (p 1 29); itself = (inst (d 0) (arguments ((param 0) ∷ []))); is_template = true; template_parameters = (tp None None ∷ []); constraints = ([]); primary = None; specialised_for = ([]); members = (field (codes "v") (position_type (m 0 1 35) 0) ∷ []) })
    ∷ a_field 0 (position_type (m 0 1 35) 0)
    ∷ a_function (record { at = (p 2 26); name = (codes "f"); owner = None; is_template = true; template_parameters = (tp None None ∷ []); constraints = ([]); parameters = (parameter (reference_type (m 2 2 28) (position_type (m 2 2 28) 0)) 0 false ∷ []); result = (scalar_type (m 1 2 22) scalars.Int); is_const = false; is_constexpr = false; body = Some (block (m 5 2 32) (and_statement (return_statement (m 4 2 34) (Some (literal (m 3 2 41) scalars.Int (pos 1)))) no_statement)) })
    ∷ a_function (record { at = (p 3 26); name = (codes "f"); owner = None; is_template = true; template_parameters = (tp None None ∷ []); constraints = ([]); parameters = (parameter (template_id (m 8 3 28) (p 3 28) (d 0) (and_type (position_type (m 7 3 32) 0) no_argument)) 0 false ∷ []); result = (scalar_type (m 6 3 22) scalars.Int); is_const = false; is_constexpr = false; body = Some (block (m 11 3 36) (and_statement (return_statement (m 10 3 38) (Some (literal (m 9 3 45) scalars.Int (pos 2)))) no_statement)) })
    ∷ a_function (record { at = (p 4 5); name = (codes "f"); owner = None; is_template = false; template_parameters = ([]); constraints = ([]); parameters = (parameter (reference_type (m 14 4 7) (const_type (m 14 4 7) (template_id (m 14 4 7) (p 4 13) (d 0) (and_type (scalar_type (m 13 4 17) scalars.Int) no_argument)))) 0 false ∷ []); result = (scalar_type (m 12 4 1) scalars.Int); is_const = false; is_constexpr = false; body = Some (block (m 17 4 24) (and_statement (return_statement (m 16 4 26) (Some (literal (m 15 4 33) scalars.Int (pos 3)))) no_statement)) })
    ∷ a_function (record { at = (p 5 5); name = (codes "g"); owner = None; is_template = false; template_parameters = ([]); constraints = ([]); parameters = ([]); result = (scalar_type (m 18 5 1) scalars.Int); is_const = false; is_constexpr = false; body = Some (block (m 28 5 9) (and_statement (variable (m 23 5 11) false (as_type (template_id (m 20 5 11) (p 5 11) (d 0) (and_type (scalar_type (m 19 5 15) scalars.Int) no_argument))) 0 (braces (m 22 5 21) (and_expression (literal (m 21 5 22) scalars.Int (pos 7)) no_expression))) (and_statement (return_statement (m 27 5 26) (Some (call (m 26 5 33) (functions (m 24 5 33) (codes "f") 3) (and_expression (local_name (m 25 5 35) 0) no_expression)))) no_statement))) })
    ∷ [])
    (((codes "f"), ((d 2) ∷ (d 3) ∷ (d 4) ∷ [])) ∷ ((codes "g"), ((d 5) ∷ [])) ∷ [])
    ([])
    ([])
    (around 0 (None ∷ []) true ∷ around 12 ([]) false ∷ [])
    ([])

abbrev pub cycle_unit_items : List Item
cycle_unit_items = (a_declaration (d 0) ∷ a_declaration (d 2) ∷ a_declaration (d 3) ∷ a_declaration (d 4) ∷ a_declaration (d 5) ∷ [])

-- template<typename T> struct Wrap { typename T::bad x; };
-- template<typename T> concept W = requires { Wrap<T>{}; };
-- template<typename T> requires W<T> int f(T) { return 1; }
-- int g() { return f(1); }
abbrev pub fault_in_a_constraint_unit : Program
fault_in_a_constraint_unit =
    unit
    (a_struct (record { at = (p 1 29); itself = (inst (d 0) (arguments ((param 0) ∷ []))); is_template = true; template_parameters = (tp None None ∷ []); constraints = ([]); primary = None; specialised_for = ([]); members = (field (codes "x") (member_type (m 1 1 36) (position_type (m 0 1 45) 0) ((codes "bad") ∷ [])) ∷ []) })
    ∷ a_field 0 (member_type (m 1 1 36) (position_type (m 0 1 45) 0) ((codes "bad") ∷ []))
    ∷ a_concept (record { at = (p 2 30); template_parameters = (tp None None ∷ []); condition = (requires (m 5 2 34) no_parameter (and_simple (list (m 4 2 45) (template_id (m 3 2 45) (p 2 45) (d 0) (and_type (position_type (m 2 2 50) 0) no_argument)) no_expression) no_requirement)) })
    ∷ a_function (record { at = (p 3 40); name = (codes "f"); owner = None; is_template = true; template_parameters = (tp None None ∷ []); constraints = ((concept_id (m 7 3 31) (d 2) (and_type (position_type (m 6 3 33) 0) no_argument)) ∷ []); parameters = (parameter (position_type (m 9 3 42) 0) 0 false ∷ []); result = (scalar_type (m 8 3 36) scalars.Int); is_const = false; is_constexpr = false; body = Some (block (m 12 3 45) (and_statement (return_statement (m 11 3 47) (Some (literal (m 10 3 54) scalars.Int (pos 1)))) no_statement)) })
    ∷ a_function (record { at = (p 4 5); name = (codes "g"); owner = None; is_template = false; template_parameters = ([]); constraints = ([]); parameters = ([]); result = (scalar_type (m 13 4 1) scalars.Int); is_const = false; is_constexpr = false; body = Some (block (m 18 4 9) (and_statement (return_statement (m 17 4 11) (Some (call (m 16 4 18) (functions (m 14 4 18) (codes "f") 1) (and_expression (literal (m 15 4 20) scalars.Int (pos 1)) no_expression)))) no_statement)) })
    ∷ [])
    (((codes "f"), ((d 3) ∷ [])) ∷ ((codes "g"), ((d 4) ∷ [])) ∷ [])
    ([])
    ((5, (requires (m 5 2 34) no_parameter (and_simple (list (m 4 2 45) (template_id (m 3 2 45) (p 2 45) (d 0) (and_type (position_type (m 2 2 50) 0) no_argument)) no_expression) no_requirement)))
    ∷ [])
    (around 0 (None ∷ []) true ∷ around 13 ([]) false ∷ [])
    ([])

abbrev pub fault_in_a_constraint_unit_items : List Item
fault_in_a_constraint_unit_items = (a_declaration (d 0) ∷ a_declaration (d 2) ∷ a_declaration (d 3) ∷ a_declaration (d 4) ∷ [])

-- template<typename T> struct Wrap { typename T::bad x; };
-- template<typename T> concept W = requires { typename T::bad; };
-- template<typename T> requires W<T> int f(T) { return 1; }
-- int g() { return f(1); }
abbrev pub nothing_viable_unit : Program
nothing_viable_unit =
    unit
    (a_struct (record { at = (p 1 29); itself = (inst (d 0) (arguments ((param 0) ∷ []))); is_template = true; template_parameters = (tp None None ∷ []); constraints = ([]); primary = None; specialised_for = ([]); members = (field (codes "x") (member_type (m 1 1 36) (position_type (m 0 1 45) 0) ((codes "bad") ∷ [])) ∷ []) })
    ∷ a_field 0 (member_type (m 1 1 36) (position_type (m 0 1 45) 0) ((codes "bad") ∷ []))
    ∷ a_concept (record { at = (p 2 30); template_parameters = (tp None None ∷ []); condition = (requires (m 4 2 34) no_parameter (and_type_requirement (member_type (m 3 2 45) (position_type (m 2 2 54) 0) ((codes "bad") ∷ [])) no_requirement)) })
    ∷ a_function (record { at = (p 3 40); name = (codes "f"); owner = None; is_template = true; template_parameters = (tp None None ∷ []); constraints = ((concept_id (m 6 3 31) (d 2) (and_type (position_type (m 5 3 33) 0) no_argument)) ∷ []); parameters = (parameter (position_type (m 8 3 42) 0) 0 false ∷ []); result = (scalar_type (m 7 3 36) scalars.Int); is_const = false; is_constexpr = false; body = Some (block (m 11 3 45) (and_statement (return_statement (m 10 3 47) (Some (literal (m 9 3 54) scalars.Int (pos 1)))) no_statement)) })
    ∷ a_function (record { at = (p 4 5); name = (codes "g"); owner = None; is_template = false; template_parameters = ([]); constraints = ([]); parameters = ([]); result = (scalar_type (m 12 4 1) scalars.Int); is_const = false; is_constexpr = false; body = Some (block (m 17 4 9) (and_statement (return_statement (m 16 4 11) (Some (call (m 15 4 18) (functions (m 13 4 18) (codes "f") 1) (and_expression (literal (m 14 4 20) scalars.Int (pos 1)) no_expression)))) no_statement)) })
    ∷ [])
    (((codes "f"), ((d 3) ∷ [])) ∷ ((codes "g"), ((d 4) ∷ [])) ∷ [])
    ([])
    ((4, (requires (m 4 2 34) no_parameter (and_type_requirement (member_type (m 3 2 45) (position_type (m 2 2 54) 0) ((codes "bad") ∷ [])) no_requirement)))
    ∷ [])
    (around 0 (None ∷ []) true ∷ around 12 ([]) false ∷ [])
    ([])

abbrev pub nothing_viable_unit_items : List Item
nothing_viable_unit_items = (a_declaration (d 0) ∷ a_declaration (d 2) ∷ a_declaration (d 3) ∷ a_declaration (d 4) ∷ [])

-- template<typename T> struct Wrap { typename T::bad x; };
-- template<typename T> concept Q = true || requires { Wrap<T>{}.x; };
-- static_assert(Q<int>);
abbrev pub not_looked_at_unit : Program
not_looked_at_unit =
    unit
    (a_struct (record { at = (p 1 29); itself = (inst (d 0) (arguments ((param 0) ∷ []))); is_template = true; template_parameters = (tp None None ∷ []); constraints = ([]); primary = None; specialised_for = ([]); members = (field (codes "x") (member_type (m 1 1 36) (position_type (m 0 1 45) 0) ((codes "bad") ∷ [])) ∷ []) })
    ∷ a_field 0 (member_type (m 1 1 36) (position_type (m 0 1 45) 0) ((codes "bad") ∷ []))
    ∷ a_concept (record { at = (p 2 30); template_parameters = (tp None None ∷ []); condition = (binary (m 8 2 34) word.LogicalOr (literal (m 2 2 34) scalars.Bool (pos 1)) (requires (m 7 2 42) no_parameter (and_simple (dot (m 6 2 53) (list (m 5 2 53) (template_id (m 4 2 53) (p 2 53) (d 0) (and_type (position_type (m 3 2 58) 0) no_argument)) no_expression) (codes "x")) no_requirement))) })
    ∷ [])
    ([])
    ([])
    ((2, (literal (m 2 2 34) scalars.Bool (pos 1)))
    ∷ (7, (requires (m 7 2 42) no_parameter (and_simple (dot (m 6 2 53) (list (m 5 2 53) (template_id (m 4 2 53) (p 2 53) (d 0) (and_type (position_type (m 3 2 58) 0) no_argument)) no_expression) (codes "x")) no_requirement)))
    ∷ [])
    (around 0 (None ∷ []) true ∷ around 9 ([]) false ∷ [])
    ([])

abbrev pub not_looked_at_unit_items : List Item
not_looked_at_unit_items = (a_declaration (d 0) ∷ a_declaration (d 2) ∷ an_assertion (m 11 3 1) (concept_id (m 10 3 15) (d 2) (and_type (scalar_type (m 9 3 17) scalars.Int) no_argument)) ∷ [])

-- template<typename T> struct Wrap { typename T::bad x; };
-- template<typename T> concept Q = requires { Wrap<T>{}.x; } || true;
-- static_assert(Q<int>);
abbrev pub looked_at_unit : Program
looked_at_unit =
    unit
    (a_struct (record { at = (p 1 29); itself = (inst (d 0) (arguments ((param 0) ∷ []))); is_template = true; template_parameters = (tp None None ∷ []); constraints = ([]); primary = None; specialised_for = ([]); members = (field (codes "x") (member_type (m 1 1 36) (position_type (m 0 1 45) 0) ((codes "bad") ∷ [])) ∷ []) })
    ∷ a_field 0 (member_type (m 1 1 36) (position_type (m 0 1 45) 0) ((codes "bad") ∷ []))
    ∷ a_concept (record { at = (p 2 30); template_parameters = (tp None None ∷ []); condition = (binary (m 8 2 34) word.LogicalOr (requires (m 6 2 34) no_parameter (and_simple (dot (m 5 2 45) (list (m 4 2 45) (template_id (m 3 2 45) (p 2 45) (d 0) (and_type (position_type (m 2 2 50) 0) no_argument)) no_expression) (codes "x")) no_requirement)) (literal (m 7 2 63) scalars.Bool (pos 1))) })
    ∷ [])
    ([])
    ([])
    ((6, (requires (m 6 2 34) no_parameter (and_simple (dot (m 5 2 45) (list (m 4 2 45) (template_id (m 3 2 45) (p 2 45) (d 0) (and_type (position_type (m 2 2 50) 0) no_argument)) no_expression) (codes "x")) no_requirement)))
    ∷ (7, (literal (m 7 2 63) scalars.Bool (pos 1)))
    ∷ [])
    (around 0 (None ∷ []) true ∷ around 9 ([]) false ∷ [])
    ([])

abbrev pub looked_at_unit_items : List Item
looked_at_unit_items = (a_declaration (d 0) ∷ a_declaration (d 2) ∷ an_assertion (m 11 3 1) (concept_id (m 10 3 15) (d 2) (and_type (scalar_type (m 9 3 17) scalars.Int) no_argument)) ∷ [])

-- struct S { static constexpr int n = 1; };
-- template<typename T> requires (T::n) int f(T) { return 1; }
-- int g() { return f(S{}); }
abbrev pub int_as_constraint_unit : Program
int_as_constraint_unit =
    unit
    (a_struct (record { at = (p 1 8); itself = (struct (d 0)); is_template = false; template_parameters = ([]); constraints = ([]); primary = None; specialised_for = ([]); members = (static_constant (codes "n") (d 1) ∷ []) })
    ∷ a_constant (record { at = (p 1 33); name = (codes "n"); of = (scalar_type (m 0 1 29) scalars.Int); initialiser = (literal (m 1 1 37) scalars.Int (pos 1)); owner = (Some (d 0)) })
    ∷ a_function (record { at = (p 2 42); name = (codes "f"); owner = None; is_template = true; template_parameters = (tp None None ∷ []); constraints = ((parentheses (m 4 2 31) (scope (m 3 2 32) (position_type (m 2 2 32) 0) ([]) (codes "n"))) ∷ []); parameters = (parameter (position_type (m 6 2 44) 0) 0 false ∷ []); result = (scalar_type (m 5 2 38) scalars.Int); is_const = false; is_constexpr = false; body = Some (block (m 9 2 47) (and_statement (return_statement (m 8 2 49) (Some (literal (m 7 2 56) scalars.Int (pos 1)))) no_statement)) })
    ∷ a_function (record { at = (p 3 5); name = (codes "g"); owner = None; is_template = false; template_parameters = ([]); constraints = ([]); parameters = ([]); result = (scalar_type (m 10 3 1) scalars.Int); is_const = false; is_constexpr = false; body = Some (block (m 16 3 9) (and_statement (return_statement (m 15 3 11) (Some (call (m 14 3 18) (functions (m 11 3 18) (codes "f") 1) (and_expression (list (m 13 3 20) (struct_type (m 12 3 20) (d 0)) no_expression) no_expression)))) no_statement)) })
    ∷ [])
    (((codes "f"), ((d 2) ∷ [])) ∷ ((codes "g"), ((d 3) ∷ [])) ∷ [])
    ([])
    ((3, (scope (m 3 2 32) (position_type (m 2 2 32) 0) ([]) (codes "n")))
    ∷ [])
    (around 0 ([]) false ∷ around 2 (None ∷ []) true ∷ around 10 ([]) false ∷ [])
    ([])

abbrev pub int_as_constraint_unit_items : List Item
int_as_constraint_unit_items = (a_declaration (d 0) ∷ a_declaration (d 2) ∷ a_declaration (d 3) ∷ [])

-- struct S { static constexpr int one = 1; };
-- template<typename T> concept Big = 2147483647 + T::one > 0;
-- static_assert(!Big<S>);
abbrev pub overflow_in_a_constraint_unit : Program
overflow_in_a_constraint_unit =
    unit
    (a_struct (record { at = (p 1 8); itself = (struct (d 0)); is_template = false; template_parameters = ([]); constraints = ([]); primary = None; specialised_for = ([]); members = (static_constant (codes "one") (d 1) ∷ []) })
    ∷ a_constant (record { at = (p 1 33); name = (codes "one"); of = (scalar_type (m 0 1 29) scalars.Int); initialiser = (literal (m 1 1 39) scalars.Int (pos 1)); owner = (Some (d 0)) })
    ∷ a_concept (record { at = (p 2 30); template_parameters = (tp None None ∷ []); condition = (binary (m 7 2 36) word.Greater (binary (m 5 2 36) word.Plus (literal (m 2 2 36) scalars.Int (pos 2147483647)) (scope (m 4 2 49) (position_type (m 3 2 49) 0) ([]) (codes "one"))) (literal (m 6 2 58) scalars.Int (pos 0))) })
    ∷ [])
    ([])
    ([])
    ((7, (binary (m 7 2 36) word.Greater (binary (m 5 2 36) word.Plus (literal (m 2 2 36) scalars.Int (pos 2147483647)) (scope (m 4 2 49) (position_type (m 3 2 49) 0) ([]) (codes "one"))) (literal (m 6 2 58) scalars.Int (pos 0))))
    ∷ [])
    (around 0 ([]) false ∷ around 2 (None ∷ []) true ∷ around 8 ([]) false ∷ [])
    ([])

abbrev pub overflow_in_a_constraint_unit_items : List Item
overflow_in_a_constraint_unit_items = (a_declaration (d 0) ∷ a_declaration (d 2) ∷ an_assertion (m 11 3 1) (unary (m 10 3 15) word.Not (concept_id (m 9 3 16) (d 2) (and_type (struct_type (m 8 3 20) (d 0)) no_argument))) ∷ [])

-- struct E { };
-- bool g() { E e{}; return requires { e.x; }; }
abbrev pub requirement_outside_unit : Program
requirement_outside_unit =
    unit
    (a_struct (record { at = (p 1 8); itself = (struct (d 0)); is_template = false; template_parameters = ([]); constraints = ([]); primary = None; specialised_for = ([]); members = ([]) })
    ∷ a_function (record { at = (p 2 6); name = (codes "g"); owner = None; is_template = false; template_parameters = ([]); constraints = ([]); parameters = ([]); result = (scalar_type (m 0 2 1) scalars.Bool); is_const = false; is_constexpr = false; body = Some (block (m 8 2 10) (and_statement (variable (m 3 2 12) false (as_type (struct_type (m 1 2 12) (d 0))) 0 (braces (m 2 2 15) no_expression)) (and_statement (return_statement (m 7 2 19) (Some (requires (m 6 2 26) no_parameter (and_simple (dot (m 5 2 37) (local_name (m 4 2 37) 0) (codes "x")) no_requirement)))) no_statement))) })
    ∷ [])
    (((codes "g"), ((d 1) ∷ [])) ∷ [])
    ([])
    ((6, (requires (m 6 2 26) no_parameter (and_simple (dot (m 5 2 37) (local_name (m 4 2 37) 0) (codes "x")) no_requirement)))
    ∷ [])
    (around 0 ([]) false ∷ [])
    ((6, (0 ∷ [])) ∷ [])

abbrev pub requirement_outside_unit_items : List Item
requirement_outside_unit_items = (a_declaration (d 0) ∷ a_declaration (d 1) ∷ [])

-- struct E { };
-- template<typename T> bool f(T t) { return requires { t.x; }; }
-- bool g() { return f(E{}); }
abbrev pub requirement_inside_unit : Program
requirement_inside_unit =
    unit
    (a_struct (record { at = (p 1 8); itself = (struct (d 0)); is_template = false; template_parameters = ([]); constraints = ([]); primary = None; specialised_for = ([]); members = ([]) })
    ∷ a_function (record { at = (p 2 27); name = (codes "f"); owner = None; is_template = true; template_parameters = (tp None None ∷ []); constraints = ([]); parameters = (parameter (position_type (m 1 2 29) 0) 0 true ∷ []); result = (scalar_type (m 0 2 22) scalars.Bool); is_const = false; is_constexpr = false; body = Some (block (m 6 2 34) (and_statement (return_statement (m 5 2 36) (Some (requires (m 4 2 43) no_parameter (and_simple (dot (m 3 2 54) (local_name (m 2 2 54) 0) (codes "x")) no_requirement)))) no_statement)) })
    ∷ a_function (record { at = (p 3 6); name = (codes "g"); owner = None; is_template = false; template_parameters = ([]); constraints = ([]); parameters = ([]); result = (scalar_type (m 7 3 1) scalars.Bool); is_const = false; is_constexpr = false; body = Some (block (m 13 3 10) (and_statement (return_statement (m 12 3 12) (Some (call (m 11 3 19) (functions (m 8 3 19) (codes "f") 1) (and_expression (list (m 10 3 21) (struct_type (m 9 3 21) (d 0)) no_expression) no_expression)))) no_statement)) })
    ∷ [])
    (((codes "f"), ((d 1) ∷ [])) ∷ ((codes "g"), ((d 2) ∷ [])) ∷ [])
    ([])
    ((4, (requires (m 4 2 43) no_parameter (and_simple (dot (m 3 2 54) (local_name (m 2 2 54) 0) (codes "x")) no_requirement)))
    ∷ [])
    (around 0 (None ∷ []) true ∷ around 7 ([]) false ∷ [])
    ((4, (0 ∷ [])) ∷ [])

abbrev pub requirement_inside_unit_items : List Item
requirement_inside_unit_items = (a_declaration (d 0) ∷ a_declaration (d 1) ∷ a_declaration (d 2) ∷ [])

-- template<typename T> concept Any = true;
-- template<Any T> int g(T) { return 1; }
-- int g(int) { return 2; }
-- int a() { return g(1); }
-- int b() { return g(true); }
abbrev pub plain_and_template_unit : Program
plain_and_template_unit =
    unit
    (a_concept (record { at = (p 1 30); template_parameters = (tp None None ∷ []); condition = (literal (m 0 1 36) scalars.Bool (pos 1)) })
    ∷ a_function (record { at = (p 2 21); name = (codes "g"); owner = None; is_template = true; template_parameters = (tp None None ∷ []); constraints = ((concept_id (m 1 2 10) (d 0) (and_type (position_type (m 1 2 10) 0) no_argument)) ∷ []); parameters = (parameter (position_type (m 3 2 23) 0) 0 false ∷ []); result = (scalar_type (m 2 2 17) scalars.Int); is_const = false; is_constexpr = false; body = Some (block (m 6 2 26) (and_statement (return_statement (m 5 2 28) (Some (literal (m 4 2 35) scalars.Int (pos 1)))) no_statement)) })
    ∷ a_function (record { at = (p 3 5); name = (codes "g"); owner = None; is_template = false; template_parameters = ([]); constraints = ([]); parameters = (parameter (scalar_type (m 8 3 7) scalars.Int) 0 false ∷ []); result = (scalar_type (m 7 3 1) scalars.Int); is_const = false; is_constexpr = false; body = Some (block (m 11 3 12) (and_statement (return_statement (m 10 3 14) (Some (literal (m 9 3 21) scalars.Int (pos 2)))) no_statement)) })
    ∷ a_function (record { at = (p 4 5); name = (codes "a"); owner = None; is_template = false; template_parameters = ([]); constraints = ([]); parameters = ([]); result = (scalar_type (m 12 4 1) scalars.Int); is_const = false; is_constexpr = false; body = Some (block (m 17 4 9) (and_statement (return_statement (m 16 4 11) (Some (call (m 15 4 18) (functions (m 13 4 18) (codes "g") 2) (and_expression (literal (m 14 4 20) scalars.Int (pos 1)) no_expression)))) no_statement)) })
    ∷ a_function (record { at = (p 5 5); name = (codes "b"); owner = None; is_template = false; template_parameters = ([]); constraints = ([]); parameters = ([]); result = (scalar_type (m 18 5 1) scalars.Int); is_const = false; is_constexpr = false; body = Some (block (m 23 5 9) (and_statement (return_statement (m 22 5 11) (Some (call (m 21 5 18) (functions (m 19 5 18) (codes "g") 2) (and_expression (literal (m 20 5 20) scalars.Bool (pos 1)) no_expression)))) no_statement)) })
    ∷ [])
    (((codes "g"), ((d 1) ∷ (d 2) ∷ [])) ∷ ((codes "a"), ((d 3) ∷ [])) ∷ ((codes "b"), ((d 4) ∷ [])) ∷ [])
    ([])
    ((0, (literal (m 0 1 36) scalars.Bool (pos 1)))
    ∷ [])
    (around 0 (None ∷ []) true ∷ around 7 ([]) false ∷ [])
    ([])

abbrev pub plain_and_template_unit_items : List Item
plain_and_template_unit_items = (a_declaration (d 0) ∷ a_declaration (d 1) ∷ a_declaration (d 2) ∷ a_declaration (d 3) ∷ a_declaration (d 4) ∷ [])

-- template<typename T> struct Bad { typename T::bad x; using type = int; };
-- template<typename T> requires (!__is_same(T, int)) typename Bad<T>::type f(T) { return 1; }
-- template<typename T> int f(T) { return 2; }
-- int g() { return f(1); }
abbrev pub types_before_constraints_unit : Program
types_before_constraints_unit =
    unit
    (a_struct (record { at = (p 1 29); itself = (inst (d 0) (arguments ((param 0) ∷ []))); is_template = true; template_parameters = (tp None None ∷ []); constraints = ([]); primary = None; specialised_for = ([]); members = (field (codes "x") (member_type (m 1 1 35) (position_type (m 0 1 44) 0) ((codes "bad") ∷ [])) ∷ member_alias (codes "type") (scalar_type (m 2 1 67) scalars.Int) ∷ []) })
    ∷ a_field 0 (member_type (m 1 1 35) (position_type (m 0 1 44) 0) ((codes "bad") ∷ []))
    ∷ a_function (record { at = (p 2 74); name = (codes "f"); owner = None; is_template = true; template_parameters = (tp None None ∷ []); constraints = ((parentheses (m 7 2 31) (unary (m 6 2 32) word.Not (is_same (m 5 2 33) (position_type (m 3 2 43) 0) (scalar_type (m 4 2 46) scalars.Int)))) ∷ []); parameters = (parameter (position_type (m 11 2 76) 0) 0 false ∷ []); result = (member_type (m 10 2 52) (template_id (m 9 2 61) (p 2 61) (d 0) (and_type (position_type (m 8 2 65) 0) no_argument)) ((codes "type") ∷ [])); is_const = false; is_constexpr = false; body = Some (block (m 14 2 79) (and_statement (return_statement (m 13 2 81) (Some (literal (m 12 2 88) scalars.Int (pos 1)))) no_statement)) })
    ∷ a_function (record { at = (p 3 26); name = (codes "f"); owner = None; is_template = true; template_parameters = (tp None None ∷ []); constraints = ([]); parameters = (parameter (position_type (m 16 3 28) 0) 0 false ∷ []); result = (scalar_type (m 15 3 22) scalars.Int); is_const = false; is_constexpr = false; body = Some (block (m 19 3 31) (and_statement (return_statement (m 18 3 33) (Some (literal (m 17 3 40) scalars.Int (pos 2)))) no_statement)) })
    ∷ a_function (record { at = (p 4 5); name = (codes "g"); owner = None; is_template = false; template_parameters = ([]); constraints = ([]); parameters = ([]); result = (scalar_type (m 20 4 1) scalars.Int); is_const = false; is_constexpr = false; body = Some (block (m 25 4 9) (and_statement (return_statement (m 24 4 11) (Some (call (m 23 4 18) (functions (m 21 4 18) (codes "f") 2) (and_expression (literal (m 22 4 20) scalars.Int (pos 1)) no_expression)))) no_statement)) })
    ∷ [])
    (((codes "f"), ((d 2) ∷ (d 3) ∷ [])) ∷ ((codes "g"), ((d 4) ∷ [])) ∷ [])
    ([])
    ((6, (unary (m 6 2 32) word.Not (is_same (m 5 2 33) (position_type (m 3 2 43) 0) (scalar_type (m 4 2 46) scalars.Int))))
    ∷ [])
    (around 0 (None ∷ []) true ∷ around 20 ([]) false ∷ [])
    ([])

abbrev pub types_before_constraints_unit_items : List Item
types_before_constraints_unit_items = (a_declaration (d 0) ∷ a_declaration (d 2) ∷ a_declaration (d 3) ∷ a_declaration (d 4) ∷ [])

-- template<typename T, typename U> struct is_same { static constexpr bool value = false; };
-- template<typename T> struct is_same<T, T> { static constexpr bool value = true; };
-- template<typename T, typename U> concept Same = is_same<T, U>::value && is_same<U, T>::value;
-- template<typename T> concept Ordered = requires(const T& a, const T& b) { { a < b } -> Same<bool>; };
-- template<typename T> concept Container = requires(const T& c) { typename T::value_type; { c.size() } -> Same<int>; };
-- template<Ordered T> constexpr const T& clamp(const T& v, const T& lo, const T& hi) { return v < lo ? lo : hi < v ? hi : v; }
-- template<typename T, int N> requires (N > 0) struct Ring {
--   using value_type = T;
--   T a; T b; int n;
--   constexpr int size() const { return n; }
--   constexpr T sum() const { return a + b; }
--   constexpr void push(const T& v) { if (n < N) { b = v; n = n + 1; } }
-- };
-- static_assert(Container<Ring<int, 4>> and not Container<int>, "profile");
-- int demo(int x) {
--   Ring<int, 4> r{1, 2, 0};
--   r.push(clamp(x, 0, 5));
--   __out(r.sum());
--   if constexpr (Container<Ring<int, 4>>) return r.size(); else return -1;
-- }
abbrev pub realistic_unit : Program
realistic_unit =
    unit
    (a_struct (record { at = (p 1 41); itself = (inst (d 0) (arguments ((param 0) ∷ (param 1) ∷ []))); is_template = true; template_parameters = (tp None None ∷ tp None None ∷ []); constraints = ([]); primary = None; specialised_for = ([]); members = (static_constant (codes "value") (d 1) ∷ []) })
    ∷ a_constant (record { at = (p 1 73); name = (codes "value"); of = (scalar_type (m 0 1 68) scalars.Bool); initialiser = (literal (m 1 1 81) scalars.Bool (pos 0)); owner = (Some (d 0)) })
    ∷ a_struct (record { at = (p 2 29); itself = (inst (d 0) (arguments ((param 0) ∷ (param 0) ∷ []))); is_template = true; template_parameters = (tp None None ∷ []); constraints = ([]); primary = (Some (d 0)); specialised_for = (of_type (position_type (m 2 2 37) 0) ∷ of_type (position_type (m 3 2 40) 0) ∷ []); members = (static_constant (codes "value") (d 3) ∷ []) })
    ∷ a_constant (record { at = (p 2 67); name = (codes "value"); of = (scalar_type (m 4 2 62) scalars.Bool); initialiser = (literal (m 5 2 75) scalars.Bool (pos 1)); owner = (Some (d 2)) })
    ∷ a_concept (record { at = (p 3 42); template_parameters = (tp None None ∷ tp None None ∷ []); condition = (binary (m 14 3 49) word.LogicalAnd (scope (m 9 3 49) (template_id (m 8 3 49) (p 3 49) (d 0) (and_type (position_type (m 6 3 57) 0) (and_type (position_type (m 7 3 60) 1) no_argument))) ([]) (codes "value")) (scope (m 13 3 73) (template_id (m 12 3 73) (p 3 73) (d 0) (and_type (position_type (m 10 3 81) 1) (and_type (position_type (m 11 3 84) 0) no_argument))) ([]) (codes "value"))) })
    ∷ a_concept (record { at = (p 4 30); template_parameters = (tp None None ∷ []); condition = (requires (m 24 4 40) (and_parameter (m 16 4 58) (reference_type (m 15 4 49) (const_type (m 15 4 49) (position_type (m 15 4 49) 0))) 0 true (and_parameter (m 18 4 70) (reference_type (m 17 4 61) (const_type (m 17 4 61) (position_type (m 17 4 61) 0))) 1 true no_parameter)) (and_constrained (binary (m 21 4 77) word.Less (local_name (m 19 4 77) 0) (local_name (m 20 4 81) 1)) (m 23 4 88) (d 4) (and_type (scalar_type (m 22 4 93) scalars.Bool) no_argument) no_requirement)) })
    ∷ a_concept (record { at = (p 5 30); template_parameters = (tp None None ∷ []); condition = (requires (m 34 5 42) (and_parameter (m 26 5 60) (reference_type (m 25 5 51) (const_type (m 25 5 51) (position_type (m 25 5 51) 0))) 0 true no_parameter) (and_type_requirement (member_type (m 28 5 65) (position_type (m 27 5 74) 0) ((codes "value_type") ∷ [])) (and_constrained (call (m 31 5 91) (object_functions (m 30 5 91) (local_name (m 29 5 91) 0) (codes "size")) no_expression) (m 33 5 105) (d 4) (and_type (scalar_type (m 32 5 110) scalars.Int) no_argument) no_requirement))) })
    ∷ a_function (record { at = (p 6 40); name = (codes "clamp"); owner = None; is_template = true; template_parameters = (tp None None ∷ []); constraints = ((concept_id (m 35 6 10) (d 5) (and_type (position_type (m 35 6 10) 0) no_argument)) ∷ []); parameters = (parameter (reference_type (m 37 6 46) (const_type (m 37 6 46) (position_type (m 37 6 46) 0))) 0 true ∷ parameter (reference_type (m 38 6 58) (const_type (m 38 6 58) (position_type (m 38 6 58) 0))) 1 true ∷ parameter (reference_type (m 39 6 71) (const_type (m 39 6 71) (position_type (m 39 6 71) 0))) 2 true ∷ []); result = (reference_type (m 36 6 31) (const_type (m 36 6 31) (position_type (m 36 6 31) 0))); is_const = false; is_constexpr = true; body = Some (block (m 52 6 84) (and_statement (return_statement (m 51 6 86) (Some (conditional (m 50 6 93) (binary (m 42 6 93) word.Less (local_name (m 40 6 93) 0) (local_name (m 41 6 97) 1)) (local_name (m 43 6 102) 1) (conditional (m 49 6 107) (binary (m 46 6 107) word.Less (local_name (m 44 6 107) 2) (local_name (m 45 6 112) 0)) (local_name (m 47 6 116) 2) (local_name (m 48 6 121) 0))))) no_statement)) })
    ∷ a_struct (record { at = (p 7 53); itself = (inst (d 8) (arguments ((param 0) ∷ (param 1) ∷ []))); is_template = true; template_parameters = (tp None None ∷ tp (Some scalars.Int) None ∷ []); constraints = ((parentheses (m 56 7 38) (binary (m 55 7 39) word.Greater (position_name (m 53 7 39) 1) (literal (m 54 7 43) scalars.Int (pos 0)))) ∷ []); primary = None; specialised_for = ([]); members = (member_alias (codes "value_type") (position_type (m 57 8 22) 0) ∷ field (codes "a") (position_type (m 58 9 3) 0) ∷ field (codes "b") (position_type (m 59 9 8) 0) ∷ field (codes "n") (scalar_type (m 60 9 13) scalars.Int) ∷ member_function (codes "size") (d 12) ∷ member_function (codes "sum") (d 13) ∷ member_function (codes "push") (d 14) ∷ []) })
    ∷ a_field 0 (position_type (m 58 9 3) 0)
    ∷ a_field 1 (position_type (m 59 9 8) 0)
    ∷ a_field 2 (scalar_type (m 60 9 13) scalars.Int)
    ∷ a_function (record { at = (p 10 17); name = (codes "size"); owner = (Some (d 8)); is_template = true; template_parameters = (tp None None ∷ tp (Some scalars.Int) None ∷ []); constraints = ([]); parameters = ([]); result = (scalar_type (m 61 10 13) scalars.Int); is_const = true; is_constexpr = true; body = Some (block (m 67 10 30) (and_statement (return_statement (m 66 10 32) (Some (field_name (m 65 10 39) 2 (d 11)))) no_statement)) })
    ∷ a_function (record { at = (p 11 15); name = (codes "sum"); owner = (Some (d 8)); is_template = true; template_parameters = (tp None None ∷ tp (Some scalars.Int) None ∷ []); constraints = ([]); parameters = ([]); result = (position_type (m 62 11 13) 0); is_const = true; is_constexpr = true; body = Some (block (m 72 11 27) (and_statement (return_statement (m 71 11 29) (Some (binary (m 70 11 36) word.Plus (field_name (m 68 11 36) 0 (d 9)) (field_name (m 69 11 40) 1 (d 10))))) no_statement)) })
    ∷ a_function (record { at = (p 12 18); name = (codes "push"); owner = (Some (d 8)); is_template = true; template_parameters = (tp None None ∷ tp (Some scalars.Int) None ∷ []); constraints = ([]); parameters = (parameter (reference_type (m 64 12 23) (const_type (m 64 12 23) (position_type (m 64 12 23) 0))) 0 true ∷ []); result = (void_type (m 63 12 13)); is_const = false; is_constexpr = true; body = Some (block (m 88 12 35) (and_statement (if_statement (m 87 12 37) false (binary (m 75 12 41) word.Less (field_name (m 73 12 41) 2 (d 11)) (position_name (m 74 12 45) 1)) (block (m 86 12 48) (and_statement (expression_statement (m 79 12 50) (binary (m 78 12 50) word.Assign (field_name (m 76 12 50) 1 (d 10)) (local_name (m 77 12 54) 0))) (and_statement (expression_statement (m 85 12 57) (binary (m 84 12 57) word.Assign (field_name (m 80 12 57) 2 (d 11)) (binary (m 83 12 61) word.Plus (field_name (m 81 12 61) 2 (d 11)) (literal (m 82 12 65) scalars.Int (pos 1))))) no_statement))) no_statement) no_statement)) })
    ∷ a_function (record { at = (p 15 5); name = (codes "demo"); owner = None; is_template = false; template_parameters = ([]); constraints = ([]); parameters = (parameter (scalar_type (m 99 15 10) scalars.Int) 0 true ∷ []); result = (scalar_type (m 98 15 1) scalars.Int); is_const = false; is_constexpr = false; body = Some (block (m 134 15 17) (and_statement (variable (m 107 16 3) false (as_type (template_id (m 102 16 3) (p 16 3) (d 8) (and_type (scalar_type (m 100 16 8) scalars.Int) (and_value (literal (m 101 16 13) scalars.Int (pos 4)) no_argument)))) 1 (braces (m 106 16 17) (and_expression (literal (m 103 16 18) scalars.Int (pos 1)) (and_expression (literal (m 104 16 21) scalars.Int (pos 2)) (and_expression (literal (m 105 16 24) scalars.Int (pos 0)) no_expression))))) (and_statement (expression_statement (m 116 17 3) (call (m 115 17 3) (object_functions (m 109 17 3) (local_name (m 108 17 3) 1) (codes "push")) (and_expression (call (m 114 17 10) (functions (m 110 17 10) (codes "clamp") 1) (and_expression (local_name (m 111 17 16) 0) (and_expression (literal (m 112 17 19) scalars.Int (pos 0)) (and_expression (literal (m 113 17 22) scalars.Int (pos 5)) no_expression)))) no_expression))) (and_statement (expression_statement (m 121 18 3) (out (m 120 18 3) (call (m 119 18 9) (object_functions (m 118 18 9) (local_name (m 117 18 9) 1) (codes "sum")) no_expression))) (and_statement (if_statement (m 133 19 3) true (concept_id (m 125 19 17) (d 6) (and_type (template_id (m 124 19 27) (p 19 27) (d 8) (and_type (scalar_type (m 122 19 32) scalars.Int) (and_value (literal (m 123 19 37) scalars.Int (pos 4)) no_argument))) no_argument)) (return_statement (m 129 19 42) (Some (call (m 128 19 49) (object_functions (m 127 19 49) (local_name (m 126 19 49) 1) (codes "size")) no_expression))) (and_statement (return_statement (m 132 19 64) (Some (unary (m 131 19 71) word.Minus (literal (m 130 19 72) scalars.Int (pos 1))))) no_statement)) no_statement))))) })
    ∷ [])
    (((codes "clamp"), ((d 7) ∷ [])) ∷ ((codes "demo"), ((d 15) ∷ [])) ∷ [])
    ((0, ((d 2) ∷ [])) ∷ [])
    ((9, (scope (m 9 3 49) (template_id (m 8 3 49) (p 3 49) (d 0) (and_type (position_type (m 6 3 57) 0) (and_type (position_type (m 7 3 60) 1) no_argument))) ([]) (codes "value")))
    ∷ (13, (scope (m 13 3 73) (template_id (m 12 3 73) (p 3 73) (d 0) (and_type (position_type (m 10 3 81) 1) (and_type (position_type (m 11 3 84) 0) no_argument))) ([]) (codes "value")))
    ∷ (24, (requires (m 24 4 40) (and_parameter (m 16 4 58) (reference_type (m 15 4 49) (const_type (m 15 4 49) (position_type (m 15 4 49) 0))) 0 true (and_parameter (m 18 4 70) (reference_type (m 17 4 61) (const_type (m 17 4 61) (position_type (m 17 4 61) 0))) 1 true no_parameter)) (and_constrained (binary (m 21 4 77) word.Less (local_name (m 19 4 77) 0) (local_name (m 20 4 81) 1)) (m 23 4 88) (d 4) (and_type (scalar_type (m 22 4 93) scalars.Bool) no_argument) no_requirement)))
    ∷ (34, (requires (m 34 5 42) (and_parameter (m 26 5 60) (reference_type (m 25 5 51) (const_type (m 25 5 51) (position_type (m 25 5 51) 0))) 0 true no_parameter) (and_type_requirement (member_type (m 28 5 65) (position_type (m 27 5 74) 0) ((codes "value_type") ∷ [])) (and_constrained (call (m 31 5 91) (object_functions (m 30 5 91) (local_name (m 29 5 91) 0) (codes "size")) no_expression) (m 33 5 105) (d 4) (and_type (scalar_type (m 32 5 110) scalars.Int) no_argument) no_requirement))))
    ∷ (55, (binary (m 55 7 39) word.Greater (position_name (m 53 7 39) 1) (literal (m 54 7 43) scalars.Int (pos 0))))
    ∷ [])
    (around 0 (None ∷ None ∷ []) true ∷ around 2 (None ∷ []) true ∷ around 6 (None ∷ None ∷ []) true ∷ around 15 (None ∷ []) true ∷ around 53 (None ∷ (Some scalars.Int) ∷ []) true ∷ around 89 ([]) false ∷ [])
    ([])

abbrev pub realistic_unit_items : List Item
realistic_unit_items = (a_declaration (d 0) ∷ a_declaration (d 2) ∷ a_declaration (d 4) ∷ a_declaration (d 5) ∷ a_declaration (d 6) ∷ a_declaration (d 7) ∷ a_declaration (d 8) ∷ an_assertion (m 97 14 1) (binary (m 96 14 15) word.LogicalAnd (concept_id (m 92 14 15) (d 6) (and_type (template_id (m 91 14 25) (p 14 25) (d 8) (and_type (scalar_type (m 89 14 30) scalars.Int) (and_value (literal (m 90 14 35) scalars.Int (pos 4)) no_argument))) no_argument)) (unary (m 95 14 43) word.Not (concept_id (m 94 14 47) (d 6) (and_type (scalar_type (m 93 14 57) scalars.Int) no_argument)))) ∷ a_declaration (d 15) ∷ [])

-- static_assert(true);
-- static_assert(false);
abbrev pub asserted_unit : Program
asserted_unit =
    unit
    ([])
    ([])
    ([])
    ([])
    (around 0 ([]) false ∷ [])
    ([])

abbrev pub asserted_unit_items : List Item
asserted_unit_items = (an_assertion (m 1 1 1) (literal (m 0 1 15) scalars.Bool (pos 1)) ∷ an_assertion (m 3 2 1) (literal (m 2 2 15) scalars.Bool (pos 0)) ∷ [])

-- int f();
-- int g() { return f(); }
abbrev pub not_defined_unit : Program
not_defined_unit =
    unit
    (a_function (record { at = (p 1 5); name = (codes "f"); owner = None; is_template = false; template_parameters = ([]); constraints = ([]); parameters = ([]); result = (scalar_type (m 0 1 1) scalars.Int); is_const = false; is_constexpr = false; body = None })
    ∷ a_function (record { at = (p 2 5); name = (codes "g"); owner = None; is_template = false; template_parameters = ([]); constraints = ([]); parameters = ([]); result = (scalar_type (m 1 2 1) scalars.Int); is_const = false; is_constexpr = false; body = Some (block (m 5 2 9) (and_statement (return_statement (m 4 2 11) (Some (call (m 3 2 18) (functions (m 2 2 18) (codes "f") 1) no_expression))) no_statement)) })
    ∷ [])
    (((codes "f"), ((d 0) ∷ [])) ∷ ((codes "g"), ((d 1) ∷ [])) ∷ [])
    ([])
    ([])
    (around 0 ([]) false ∷ [])
    ([])

abbrev pub not_defined_unit_items : List Item
not_defined_unit_items = (a_declaration (d 0) ∷ a_declaration (d 1) ∷ [])

-- int f();
-- int g() { return f(); }
-- int f() { return 1; }
abbrev pub defined_later_unit : Program
defined_later_unit =
    unit
    (a_function (record { at = (p 1 5); name = (codes "f"); owner = None; is_template = false; template_parameters = ([]); constraints = ([]); parameters = ([]); result = (scalar_type (m 0 1 1) scalars.Int); is_const = false; is_constexpr = false; body = Some (block (m 9 3 9) (and_statement (return_statement (m 8 3 11) (Some (literal (m 7 3 18) scalars.Int (pos 1)))) no_statement)) })
    ∷ a_function (record { at = (p 2 5); name = (codes "g"); owner = None; is_template = false; template_parameters = ([]); constraints = ([]); parameters = ([]); result = (scalar_type (m 1 2 1) scalars.Int); is_const = false; is_constexpr = false; body = Some (block (m 5 2 9) (and_statement (return_statement (m 4 2 11) (Some (call (m 3 2 18) (functions (m 2 2 18) (codes "f") 1) no_expression))) no_statement)) })
    ∷ [])
    (((codes "f"), ((d 0) ∷ [])) ∷ ((codes "g"), ((d 1) ∷ [])) ∷ [])
    ([])
    ([])
    (around 0 ([]) false ∷ [])
    ([])

abbrev pub defined_later_unit_items : List Item
defined_later_unit_items = (a_declaration (d 0) ∷ a_declaration (d 1) ∷ [])

-- template<typename T> int f(T t) { return t.x; }
-- template<typename T> int h(T t) { return f(t); }
-- int g() { return h(1); }
-- int k() { return f(1); }
abbrev pub through_a_template_unit : Program
through_a_template_unit =
    unit
    (a_function (record { at = (p 1 26); name = (codes "f"); owner = None; is_template = true; template_parameters = (tp None None ∷ []); constraints = ([]); parameters = (parameter (position_type (m 1 1 28) 0) 0 true ∷ []); result = (scalar_type (m 0 1 22) scalars.Int); is_const = false; is_constexpr = false; body = Some (block (m 5 1 33) (and_statement (return_statement (m 4 1 35) (Some (dot (m 3 1 42) (local_name (m 2 1 42) 0) (codes "x")))) no_statement)) })
    ∷ a_function (record { at = (p 2 26); name = (codes "h"); owner = None; is_template = true; template_parameters = (tp None None ∷ []); constraints = ([]); parameters = (parameter (position_type (m 7 2 28) 0) 0 true ∷ []); result = (scalar_type (m 6 2 22) scalars.Int); is_const = false; is_constexpr = false; body = Some (block (m 12 2 33) (and_statement (return_statement (m 11 2 35) (Some (call (m 10 2 42) (functions (m 8 2 42) (codes "f") 1) (and_expression (local_name (m 9 2 44) 0) no_expression)))) no_statement)) })
    ∷ a_function (record { at = (p 3 5); name = (codes "g"); owner = None; is_template = false; template_parameters = ([]); constraints = ([]); parameters = ([]); result = (scalar_type (m 13 3 1) scalars.Int); is_const = false; is_constexpr = false; body = Some (block (m 18 3 9) (and_statement (return_statement (m 17 3 11) (Some (call (m 16 3 18) (functions (m 14 3 18) (codes "h") 1) (and_expression (literal (m 15 3 20) scalars.Int (pos 1)) no_expression)))) no_statement)) })
    ∷ a_function (record { at = (p 4 5); name = (codes "k"); owner = None; is_template = false; template_parameters = ([]); constraints = ([]); parameters = ([]); result = (scalar_type (m 19 4 1) scalars.Int); is_const = false; is_constexpr = false; body = Some (block (m 24 4 9) (and_statement (return_statement (m 23 4 11) (Some (call (m 22 4 18) (functions (m 20 4 18) (codes "f") 1) (and_expression (literal (m 21 4 20) scalars.Int (pos 1)) no_expression)))) no_statement)) })
    ∷ [])
    (((codes "f"), ((d 0) ∷ [])) ∷ ((codes "h"), ((d 1) ∷ [])) ∷ ((codes "g"), ((d 2) ∷ [])) ∷ ((codes "k"), ((d 3) ∷ [])) ∷ [])
    ([])
    ([])
    (around 0 (None ∷ []) true ∷ around 13 ([]) false ∷ [])
    ([])

abbrev pub through_a_template_unit_items : List Item
through_a_template_unit_items = (a_declaration (d 0) ∷ a_declaration (d 1) ∷ a_declaration (d 2) ∷ a_declaration (d 3) ∷ [])

-- template<typename T> int f(T t) { return t.x; }
-- template<typename T> int h(T t) { return f(t); }
-- int g() { return h(1); }
abbrev pub through_two_templates_unit : Program
through_two_templates_unit =
    unit
    (a_function (record { at = (p 1 26); name = (codes "f"); owner = None; is_template = true; template_parameters = (tp None None ∷ []); constraints = ([]); parameters = (parameter (position_type (m 1 1 28) 0) 0 true ∷ []); result = (scalar_type (m 0 1 22) scalars.Int); is_const = false; is_constexpr = false; body = Some (block (m 5 1 33) (and_statement (return_statement (m 4 1 35) (Some (dot (m 3 1 42) (local_name (m 2 1 42) 0) (codes "x")))) no_statement)) })
    ∷ a_function (record { at = (p 2 26); name = (codes "h"); owner = None; is_template = true; template_parameters = (tp None None ∷ []); constraints = ([]); parameters = (parameter (position_type (m 7 2 28) 0) 0 true ∷ []); result = (scalar_type (m 6 2 22) scalars.Int); is_const = false; is_constexpr = false; body = Some (block (m 12 2 33) (and_statement (return_statement (m 11 2 35) (Some (call (m 10 2 42) (functions (m 8 2 42) (codes "f") 1) (and_expression (local_name (m 9 2 44) 0) no_expression)))) no_statement)) })
    ∷ a_function (record { at = (p 3 5); name = (codes "g"); owner = None; is_template = false; template_parameters = ([]); constraints = ([]); parameters = ([]); result = (scalar_type (m 13 3 1) scalars.Int); is_const = false; is_constexpr = false; body = Some (block (m 18 3 9) (and_statement (return_statement (m 17 3 11) (Some (call (m 16 3 18) (functions (m 14 3 18) (codes "h") 1) (and_expression (literal (m 15 3 20) scalars.Int (pos 1)) no_expression)))) no_statement)) })
    ∷ [])
    (((codes "f"), ((d 0) ∷ [])) ∷ ((codes "h"), ((d 1) ∷ [])) ∷ ((codes "g"), ((d 2) ∷ [])) ∷ [])
    ([])
    ([])
    (around 0 (None ∷ []) true ∷ around 13 ([]) false ∷ [])
    ([])

abbrev pub through_two_templates_unit_items : List Item
through_two_templates_unit_items = (a_declaration (d 0) ∷ a_declaration (d 1) ∷ a_declaration (d 2) ∷ [])

-- template<int N> int f() { return f<N + 1>(); }
-- int g() { return f<0>(); }
abbrev pub endless_instances_unit : Program
endless_instances_unit =
    unit
    (a_function (record { at = (p 1 21); name = (codes "f"); owner = None; is_template = true; template_parameters = (tp (Some scalars.Int) None ∷ []); constraints = ([]); parameters = ([]); result = (scalar_type (m 0 1 17) scalars.Int); is_const = false; is_constexpr = false; body = Some (block (m 7 1 25) (and_statement (return_statement (m 6 1 27) (Some (call (m 5 1 34) (functions_with (m 4 1 34) (codes "f") 1 (and_value (binary (m 3 1 36) word.Plus (position_name (m 1 1 36) 0) (literal (m 2 1 40) scalars.Int (pos 1))) no_argument)) no_expression))) no_statement)) })
    ∷ a_function (record { at = (p 2 5); name = (codes "g"); owner = None; is_template = false; template_parameters = ([]); constraints = ([]); parameters = ([]); result = (scalar_type (m 8 2 1) scalars.Int); is_const = false; is_constexpr = false; body = Some (block (m 13 2 9) (and_statement (return_statement (m 12 2 11) (Some (call (m 11 2 18) (functions_with (m 10 2 18) (codes "f") 1 (and_value (literal (m 9 2 20) scalars.Int (pos 0)) no_argument)) no_expression))) no_statement)) })
    ∷ [])
    (((codes "f"), ((d 0) ∷ [])) ∷ ((codes "g"), ((d 1) ∷ [])) ∷ [])
    ([])
    ([])
    (around 0 ((Some scalars.Int) ∷ []) true ∷ around 8 ([]) false ∷ [])
    ([])

abbrev pub endless_instances_unit_items : List Item
endless_instances_unit_items = (a_declaration (d 0) ∷ a_declaration (d 1) ∷ [])

-- template<typename T> concept C0 = __is_same(T, int);
-- template<typename T> concept C1 = C0<T> && C0<T>;
-- template<typename T> concept C2 = C1<T> && C1<T>;
-- template<typename T> concept C3 = C2<T> && C2<T>;
abbrev pub many_atoms_unit : Program
many_atoms_unit =
    unit
    (a_concept (record { at = (p 1 30); template_parameters = (tp None None ∷ []); condition = (is_same (m 2 1 35) (position_type (m 0 1 45) 0) (scalar_type (m 1 1 48) scalars.Int)) })
    ∷ a_concept (record { at = (p 2 30); template_parameters = (tp None None ∷ []); condition = (binary (m 7 2 35) word.LogicalAnd (concept_id (m 4 2 35) (d 0) (and_type (position_type (m 3 2 38) 0) no_argument)) (concept_id (m 6 2 44) (d 0) (and_type (position_type (m 5 2 47) 0) no_argument))) })
    ∷ a_concept (record { at = (p 3 30); template_parameters = (tp None None ∷ []); condition = (binary (m 12 3 35) word.LogicalAnd (concept_id (m 9 3 35) (d 1) (and_type (position_type (m 8 3 38) 0) no_argument)) (concept_id (m 11 3 44) (d 1) (and_type (position_type (m 10 3 47) 0) no_argument))) })
    ∷ a_concept (record { at = (p 4 30); template_parameters = (tp None None ∷ []); condition = (binary (m 17 4 35) word.LogicalAnd (concept_id (m 14 4 35) (d 2) (and_type (position_type (m 13 4 38) 0) no_argument)) (concept_id (m 16 4 44) (d 2) (and_type (position_type (m 15 4 47) 0) no_argument))) })
    ∷ [])
    ([])
    ([])
    ((2, (is_same (m 2 1 35) (position_type (m 0 1 45) 0) (scalar_type (m 1 1 48) scalars.Int)))
    ∷ [])
    (around 0 (None ∷ []) true ∷ [])
    ([])

abbrev pub many_atoms_unit_items : List Item
many_atoms_unit_items = (a_declaration (d 0) ∷ a_declaration (d 1) ∷ a_declaration (d 2) ∷ a_declaration (d 3) ∷ [])

-- template<typename T> concept A = __is_same(T, int);
-- template<typename T> concept B = !__is_same(T, bool);
-- template<typename T> concept P = (A<T> || B<T>) && (A<T> || B<T>) && (A<T> || B<T>);
-- template<typename T> concept Q = (A<T> && B<T>) || (A<T> && B<T>) || (A<T> && B<T>);
-- template<P T> int f(T) { return 1; }
-- template<Q T> int f(T) { return 2; }
-- int g() { return f(1); }
abbrev pub many_clauses_unit : Program
many_clauses_unit =
    unit
    (a_concept (record { at = (p 1 30); template_parameters = (tp None None ∷ []); condition = (is_same (m 2 1 34) (position_type (m 0 1 44) 0) (scalar_type (m 1 1 47) scalars.Int)) })
    ∷ a_concept (record { at = (p 2 30); template_parameters = (tp None None ∷ []); condition = (unary (m 6 2 34) word.Not (is_same (m 5 2 35) (position_type (m 3 2 45) 0) (scalar_type (m 4 2 48) scalars.Bool))) })
    ∷ a_concept (record { at = (p 3 30); template_parameters = (tp None None ∷ []); condition = (binary (m 26 3 34) word.LogicalAnd (binary (m 19 3 34) word.LogicalAnd (parentheses (m 12 3 34) (binary (m 11 3 35) word.LogicalOr (concept_id (m 8 3 35) (d 0) (and_type (position_type (m 7 3 37) 0) no_argument)) (concept_id (m 10 3 43) (d 1) (and_type (position_type (m 9 3 45) 0) no_argument)))) (parentheses (m 18 3 52) (binary (m 17 3 53) word.LogicalOr (concept_id (m 14 3 53) (d 0) (and_type (position_type (m 13 3 55) 0) no_argument)) (concept_id (m 16 3 61) (d 1) (and_type (position_type (m 15 3 63) 0) no_argument))))) (parentheses (m 25 3 70) (binary (m 24 3 71) word.LogicalOr (concept_id (m 21 3 71) (d 0) (and_type (position_type (m 20 3 73) 0) no_argument)) (concept_id (m 23 3 79) (d 1) (and_type (position_type (m 22 3 81) 0) no_argument))))) })
    ∷ a_concept (record { at = (p 4 30); template_parameters = (tp None None ∷ []); condition = (binary (m 46 4 34) word.LogicalOr (binary (m 39 4 34) word.LogicalOr (parentheses (m 32 4 34) (binary (m 31 4 35) word.LogicalAnd (concept_id (m 28 4 35) (d 0) (and_type (position_type (m 27 4 37) 0) no_argument)) (concept_id (m 30 4 43) (d 1) (and_type (position_type (m 29 4 45) 0) no_argument)))) (parentheses (m 38 4 52) (binary (m 37 4 53) word.LogicalAnd (concept_id (m 34 4 53) (d 0) (and_type (position_type (m 33 4 55) 0) no_argument)) (concept_id (m 36 4 61) (d 1) (and_type (position_type (m 35 4 63) 0) no_argument))))) (parentheses (m 45 4 70) (binary (m 44 4 71) word.LogicalAnd (concept_id (m 41 4 71) (d 0) (and_type (position_type (m 40 4 73) 0) no_argument)) (concept_id (m 43 4 79) (d 1) (and_type (position_type (m 42 4 81) 0) no_argument))))) })
    ∷ a_function (record { at = (p 5 19); name = (codes "f"); owner = None; is_template = true; template_parameters = (tp None None ∷ []); constraints = ((concept_id (m 47 5 10) (d 2) (and_type (position_type (m 47 5 10) 0) no_argument)) ∷ []); parameters = (parameter (position_type (m 49 5 21) 0) 0 false ∷ []); result = (scalar_type (m 48 5 15) scalars.Int); is_const = false; is_constexpr = false; body = Some (block (m 52 5 24) (and_statement (return_statement (m 51 5 26) (Some (literal (m 50 5 33) scalars.Int (pos 1)))) no_statement)) })
    ∷ a_function (record { at = (p 6 19); name = (codes "f"); owner = None; is_template = true; template_parameters = (tp None None ∷ []); constraints = ((concept_id (m 53 6 10) (d 3) (and_type (position_type (m 53 6 10) 0) no_argument)) ∷ []); parameters = (parameter (position_type (m 55 6 21) 0) 0 false ∷ []); result = (scalar_type (m 54 6 15) scalars.Int); is_const = false; is_constexpr = false; body = Some (block (m 58 6 24) (and_statement (return_statement (m 57 6 26) (Some (literal (m 56 6 33) scalars.Int (pos 2)))) no_statement)) })
    ∷ a_function (record { at = (p 7 5); name = (codes "g"); owner = None; is_template = false; template_parameters = ([]); constraints = ([]); parameters = ([]); result = (scalar_type (m 59 7 1) scalars.Int); is_const = false; is_constexpr = false; body = Some (block (m 64 7 9) (and_statement (return_statement (m 63 7 11) (Some (call (m 62 7 18) (functions (m 60 7 18) (codes "f") 2) (and_expression (literal (m 61 7 20) scalars.Int (pos 1)) no_expression)))) no_statement)) })
    ∷ [])
    (((codes "f"), ((d 4) ∷ (d 5) ∷ [])) ∷ ((codes "g"), ((d 6) ∷ [])) ∷ [])
    ([])
    ((2, (is_same (m 2 1 34) (position_type (m 0 1 44) 0) (scalar_type (m 1 1 47) scalars.Int)))
    ∷ (6, (unary (m 6 2 34) word.Not (is_same (m 5 2 35) (position_type (m 3 2 45) 0) (scalar_type (m 4 2 48) scalars.Bool))))
    ∷ [])
    (around 0 (None ∷ []) true ∷ around 59 ([]) false ∷ [])
    ([])

abbrev pub many_clauses_unit_items : List Item
many_clauses_unit_items = (a_declaration (d 0) ∷ a_declaration (d 1) ∷ a_declaration (d 2) ∷ a_declaration (d 3) ∷ a_declaration (d 4) ∷ a_declaration (d 5) ∷ a_declaration (d 6) ∷ [])

-- template<typename T> concept A = __is_same(T, int);
-- template<typename T> concept B = !__is_same(T, bool);
-- template<typename T> concept P = (A<T> || B<T>) && (A<T> || B<T>) && (A<T> || B<T>) && (A<T> || B<T>) && (A<T> || B<T>) && (A<T> || B<T>) && (A<T> || B<T>) && (A<T> || B<T>) && (A<T> || B<T>) && (A<T> || B<T>);
-- template<typename T> concept Q = (A<T> && B<T>) || (A<T> && B<T>) || (A<T> && B<T>) || (A<T> && B<T>) || (A<T> && B<T>) || (A<T> && B<T>) || (A<T> && B<T>) || (A<T> && B<T>) || (A<T> && B<T>) || (A<T> && B<T>);
-- template<P T> int f(T) { return 1; }
-- template<Q T> int f(T) { return 2; }
-- int g() { return f(1); }
abbrev pub as_many_clauses_as_allowed_unit : Program
as_many_clauses_as_allowed_unit =
    unit
    (a_concept (record { at = (p 1 30); template_parameters = (tp None None ∷ []); condition = (is_same (m 2 1 34) (position_type (m 0 1 44) 0) (scalar_type (m 1 1 47) scalars.Int)) })
    ∷ a_concept (record { at = (p 2 30); template_parameters = (tp None None ∷ []); condition = (unary (m 6 2 34) word.Not (is_same (m 5 2 35) (position_type (m 3 2 45) 0) (scalar_type (m 4 2 48) scalars.Bool))) })
    ∷ a_concept (record { at = (p 3 30); template_parameters = (tp None None ∷ []); condition = (binary (m 75 3 34) word.LogicalAnd (binary (m 68 3 34) word.LogicalAnd (binary (m 61 3 34) word.LogicalAnd (binary (m 54 3 34) word.LogicalAnd (binary (m 47 3 34) word.LogicalAnd (binary (m 40 3 34) word.LogicalAnd (binary (m 33 3 34) word.LogicalAnd (binary (m 26 3 34) word.LogicalAnd (binary (m 19 3 34) word.LogicalAnd (parentheses (m 12 3 34) (binary (m 11 3 35) word.LogicalOr (concept_id (m 8 3 35) (d 0) (and_type (position_type (m 7 3 37) 0) no_argument)) (concept_id (m 10 3 43) (d 1) (and_type (position_type (m 9 3 45) 0) no_argument)))) (parentheses (m 18 3 52) (binary (m 17 3 53) word.LogicalOr (concept_id (m 14 3 53) (d 0) (and_type (position_type (m 13 3 55) 0) no_argument)) (concept_id (m 16 3 61) (d 1) (and_type (position_type (m 15 3 63) 0) no_argument))))) (parentheses (m 25 3 70) (binary (m 24 3 71) word.LogicalOr (concept_id (m 21 3 71) (d 0) (and_type (position_type (m 20 3 73) 0) no_argument)) (concept_id (m 23 3 79) (d 1) (and_type (position_type (m 22 3 81) 0) no_argument))))) (parentheses (m 32 3 88) (binary (m 31 3 89) word.LogicalOr (concept_id (m 28 3 89) (d 0) (and_type (position_type (m 27 3 91) 0) no_argument)) (concept_id (m 30 3 97) (d 1) (and_type (position_type (m 29 3 99) 0) no_argument))))) (parentheses (m 39 3 106) (binary (m 38 3 107) word.LogicalOr (concept_id (m 35 3 107) (d 0) (and_type (position_type (m 34 3 109) 0) no_argument)) (concept_id (m 37 3 115) (d 1) (and_type (position_type (m 36 3 117) 0) no_argument))))) (parentheses (m 46 3 124) (binary (m 45 3 125) word.LogicalOr (concept_id (m 42 3 125) (d 0) (and_type (position_type (m 41 3 127) 0) no_argument)) (concept_id (m 44 3 133) (d 1) (and_type (position_type (m 43 3 135) 0) no_argument))))) (parentheses (m 53 3 142) (binary (m 52 3 143) word.LogicalOr (concept_id (m 49 3 143) (d 0) (and_type (position_type (m 48 3 145) 0) no_argument)) (concept_id (m 51 3 151) (d 1) (and_type (position_type (m 50 3 153) 0) no_argument))))) (parentheses (m 60 3 160) (binary (m 59 3 161) word.LogicalOr (concept_id (m 56 3 161) (d 0) (and_type (position_type (m 55 3 163) 0) no_argument)) (concept_id (m 58 3 169) (d 1) (and_type (position_type (m 57 3 171) 0) no_argument))))) (parentheses (m 67 3 178) (binary (m 66 3 179) word.LogicalOr (concept_id (m 63 3 179) (d 0) (and_type (position_type (m 62 3 181) 0) no_argument)) (concept_id (m 65 3 187) (d 1) (and_type (position_type (m 64 3 189) 0) no_argument))))) (parentheses (m 74 3 196) (binary (m 73 3 197) word.LogicalOr (concept_id (m 70 3 197) (d 0) (and_type (position_type (m 69 3 199) 0) no_argument)) (concept_id (m 72 3 205) (d 1) (and_type (position_type (m 71 3 207) 0) no_argument))))) })
    ∷ a_concept (record { at = (p 4 30); template_parameters = (tp None None ∷ []); condition = (binary (m 144 4 34) word.LogicalOr (binary (m 137 4 34) word.LogicalOr (binary (m 130 4 34) word.LogicalOr (binary (m 123 4 34) word.LogicalOr (binary (m 116 4 34) word.LogicalOr (binary (m 109 4 34) word.LogicalOr (binary (m 102 4 34) word.LogicalOr (binary (m 95 4 34) word.LogicalOr (binary (m 88 4 34) word.LogicalOr (parentheses (m 81 4 34) (binary (m 80 4 35) word.LogicalAnd (concept_id (m 77 4 35) (d 0) (and_type (position_type (m 76 4 37) 0) no_argument)) (concept_id (m 79 4 43) (d 1) (and_type (position_type (m 78 4 45) 0) no_argument)))) (parentheses (m 87 4 52) (binary (m 86 4 53) word.LogicalAnd (concept_id (m 83 4 53) (d 0) (and_type (position_type (m 82 4 55) 0) no_argument)) (concept_id (m 85 4 61) (d 1) (and_type (position_type (m 84 4 63) 0) no_argument))))) (parentheses (m 94 4 70) (binary (m 93 4 71) word.LogicalAnd (concept_id (m 90 4 71) (d 0) (and_type (position_type (m 89 4 73) 0) no_argument)) (concept_id (m 92 4 79) (d 1) (and_type (position_type (m 91 4 81) 0) no_argument))))) (parentheses (m 101 4 88) (binary (m 100 4 89) word.LogicalAnd (concept_id (m 97 4 89) (d 0) (and_type (position_type (m 96 4 91) 0) no_argument)) (concept_id (m 99 4 97) (d 1) (and_type (position_type (m 98 4 99) 0) no_argument))))) (parentheses (m 108 4 106) (binary (m 107 4 107) word.LogicalAnd (concept_id (m 104 4 107) (d 0) (and_type (position_type (m 103 4 109) 0) no_argument)) (concept_id (m 106 4 115) (d 1) (and_type (position_type (m 105 4 117) 0) no_argument))))) (parentheses (m 115 4 124) (binary (m 114 4 125) word.LogicalAnd (concept_id (m 111 4 125) (d 0) (and_type (position_type (m 110 4 127) 0) no_argument)) (concept_id (m 113 4 133) (d 1) (and_type (position_type (m 112 4 135) 0) no_argument))))) (parentheses (m 122 4 142) (binary (m 121 4 143) word.LogicalAnd (concept_id (m 118 4 143) (d 0) (and_type (position_type (m 117 4 145) 0) no_argument)) (concept_id (m 120 4 151) (d 1) (and_type (position_type (m 119 4 153) 0) no_argument))))) (parentheses (m 129 4 160) (binary (m 128 4 161) word.LogicalAnd (concept_id (m 125 4 161) (d 0) (and_type (position_type (m 124 4 163) 0) no_argument)) (concept_id (m 127 4 169) (d 1) (and_type (position_type (m 126 4 171) 0) no_argument))))) (parentheses (m 136 4 178) (binary (m 135 4 179) word.LogicalAnd (concept_id (m 132 4 179) (d 0) (and_type (position_type (m 131 4 181) 0) no_argument)) (concept_id (m 134 4 187) (d 1) (and_type (position_type (m 133 4 189) 0) no_argument))))) (parentheses (m 143 4 196) (binary (m 142 4 197) word.LogicalAnd (concept_id (m 139 4 197) (d 0) (and_type (position_type (m 138 4 199) 0) no_argument)) (concept_id (m 141 4 205) (d 1) (and_type (position_type (m 140 4 207) 0) no_argument))))) })
    ∷ a_function (record { at = (p 5 19); name = (codes "f"); owner = None; is_template = true; template_parameters = (tp None None ∷ []); constraints = ((concept_id (m 145 5 10) (d 2) (and_type (position_type (m 145 5 10) 0) no_argument)) ∷ []); parameters = (parameter (position_type (m 147 5 21) 0) 0 false ∷ []); result = (scalar_type (m 146 5 15) scalars.Int); is_const = false; is_constexpr = false; body = Some (block (m 150 5 24) (and_statement (return_statement (m 149 5 26) (Some (literal (m 148 5 33) scalars.Int (pos 1)))) no_statement)) })
    ∷ a_function (record { at = (p 6 19); name = (codes "f"); owner = None; is_template = true; template_parameters = (tp None None ∷ []); constraints = ((concept_id (m 151 6 10) (d 3) (and_type (position_type (m 151 6 10) 0) no_argument)) ∷ []); parameters = (parameter (position_type (m 153 6 21) 0) 0 false ∷ []); result = (scalar_type (m 152 6 15) scalars.Int); is_const = false; is_constexpr = false; body = Some (block (m 156 6 24) (and_statement (return_statement (m 155 6 26) (Some (literal (m 154 6 33) scalars.Int (pos 2)))) no_statement)) })
    ∷ a_function (record { at = (p 7 5); name = (codes "g"); owner = None; is_template = false; template_parameters = ([]); constraints = ([]); parameters = ([]); result = (scalar_type (m 157 7 1) scalars.Int); is_const = false; is_constexpr = false; body = Some (block (m 162 7 9) (and_statement (return_statement (m 161 7 11) (Some (call (m 160 7 18) (functions (m 158 7 18) (codes "f") 2) (and_expression (literal (m 159 7 20) scalars.Int (pos 1)) no_expression)))) no_statement)) })
    ∷ [])
    (((codes "f"), ((d 4) ∷ (d 5) ∷ [])) ∷ ((codes "g"), ((d 6) ∷ [])) ∷ [])
    ([])
    ((2, (is_same (m 2 1 34) (position_type (m 0 1 44) 0) (scalar_type (m 1 1 47) scalars.Int)))
    ∷ (6, (unary (m 6 2 34) word.Not (is_same (m 5 2 35) (position_type (m 3 2 45) 0) (scalar_type (m 4 2 48) scalars.Bool))))
    ∷ [])
    (around 0 (None ∷ []) true ∷ around 157 ([]) false ∷ [])
    ([])

abbrev pub as_many_clauses_as_allowed_unit_items : List Item
as_many_clauses_as_allowed_unit_items = (a_declaration (d 0) ∷ a_declaration (d 1) ∷ a_declaration (d 2) ∷ a_declaration (d 3) ∷ a_declaration (d 4) ∷ a_declaration (d 5) ∷ a_declaration (d 6) ∷ [])

-- template<typename T> concept A = __is_same(T, int);
-- template<typename T> concept B = !__is_same(T, bool);
-- template<typename T> concept P = (A<T> || B<T>) && (A<T> || B<T>) && (A<T> || B<T>) && (A<T> || B<T>) && (A<T> || B<T>) && (A<T> || B<T>) && (A<T> || B<T>) && (A<T> || B<T>) && (A<T> || B<T>) && (A<T> || B<T>) && (A<T> || B<T>);
-- template<typename T> concept Q = (A<T> && B<T>) || (A<T> && B<T>) || (A<T> && B<T>) || (A<T> && B<T>) || (A<T> && B<T>) || (A<T> && B<T>) || (A<T> && B<T>) || (A<T> && B<T>) || (A<T> && B<T>) || (A<T> && B<T>);
-- template<P T> int f(T) { return 1; }
-- template<Q T> int f(T) { return 2; }
-- int g() { return f(1); }
abbrev pub one_clause_too_many_unit : Program
one_clause_too_many_unit =
    unit
    (a_concept (record { at = (p 1 30); template_parameters = (tp None None ∷ []); condition = (is_same (m 2 1 34) (position_type (m 0 1 44) 0) (scalar_type (m 1 1 47) scalars.Int)) })
    ∷ a_concept (record { at = (p 2 30); template_parameters = (tp None None ∷ []); condition = (unary (m 6 2 34) word.Not (is_same (m 5 2 35) (position_type (m 3 2 45) 0) (scalar_type (m 4 2 48) scalars.Bool))) })
    ∷ a_concept (record { at = (p 3 30); template_parameters = (tp None None ∷ []); condition = (binary (m 82 3 34) word.LogicalAnd (binary (m 75 3 34) word.LogicalAnd (binary (m 68 3 34) word.LogicalAnd (binary (m 61 3 34) word.LogicalAnd (binary (m 54 3 34) word.LogicalAnd (binary (m 47 3 34) word.LogicalAnd (binary (m 40 3 34) word.LogicalAnd (binary (m 33 3 34) word.LogicalAnd (binary (m 26 3 34) word.LogicalAnd (binary (m 19 3 34) word.LogicalAnd (parentheses (m 12 3 34) (binary (m 11 3 35) word.LogicalOr (concept_id (m 8 3 35) (d 0) (and_type (position_type (m 7 3 37) 0) no_argument)) (concept_id (m 10 3 43) (d 1) (and_type (position_type (m 9 3 45) 0) no_argument)))) (parentheses (m 18 3 52) (binary (m 17 3 53) word.LogicalOr (concept_id (m 14 3 53) (d 0) (and_type (position_type (m 13 3 55) 0) no_argument)) (concept_id (m 16 3 61) (d 1) (and_type (position_type (m 15 3 63) 0) no_argument))))) (parentheses (m 25 3 70) (binary (m 24 3 71) word.LogicalOr (concept_id (m 21 3 71) (d 0) (and_type (position_type (m 20 3 73) 0) no_argument)) (concept_id (m 23 3 79) (d 1) (and_type (position_type (m 22 3 81) 0) no_argument))))) (parentheses (m 32 3 88) (binary (m 31 3 89) word.LogicalOr (concept_id (m 28 3 89) (d 0) (and_type (position_type (m 27 3 91) 0) no_argument)) (concept_id (m 30 3 97) (d 1) (and_type (position_type (m 29 3 99) 0) no_argument))))) (parentheses (m 39 3 106) (binary (m 38 3 107) word.LogicalOr (concept_id (m 35 3 107) (d 0) (and_type (position_type (m 34 3 109) 0) no_argument)) (concept_id (m 37 3 115) (d 1) (and_type (position_type (m 36 3 117) 0) no_argument))))) (parentheses (m 46 3 124) (binary (m 45 3 125) word.LogicalOr (concept_id (m 42 3 125) (d 0) (and_type (position_type (m 41 3 127) 0) no_argument)) (concept_id (m 44 3 133) (d 1) (and_type (position_type (m 43 3 135) 0) no_argument))))) (parentheses (m 53 3 142) (binary (m 52 3 143) word.LogicalOr (concept_id (m 49 3 143) (d 0) (and_type (position_type (m 48 3 145) 0) no_argument)) (concept_id (m 51 3 151) (d 1) (and_type (position_type (m 50 3 153) 0) no_argument))))) (parentheses (m 60 3 160) (binary (m 59 3 161) word.LogicalOr (concept_id (m 56 3 161) (d 0) (and_type (position_type (m 55 3 163) 0) no_argument)) (concept_id (m 58 3 169) (d 1) (and_type (position_type (m 57 3 171) 0) no_argument))))) (parentheses (m 67 3 178) (binary (m 66 3 179) word.LogicalOr (concept_id (m 63 3 179) (d 0) (and_type (position_type (m 62 3 181) 0) no_argument)) (concept_id (m 65 3 187) (d 1) (and_type (position_type (m 64 3 189) 0) no_argument))))) (parentheses (m 74 3 196) (binary (m 73 3 197) word.LogicalOr (concept_id (m 70 3 197) (d 0) (and_type (position_type (m 69 3 199) 0) no_argument)) (concept_id (m 72 3 205) (d 1) (and_type (position_type (m 71 3 207) 0) no_argument))))) (parentheses (m 81 3 214) (binary (m 80 3 215) word.LogicalOr (concept_id (m 77 3 215) (d 0) (and_type (position_type (m 76 3 217) 0) no_argument)) (concept_id (m 79 3 223) (d 1) (and_type (position_type (m 78 3 225) 0) no_argument))))) })
    ∷ a_concept (record { at = (p 4 30); template_parameters = (tp None None ∷ []); condition = (binary (m 151 4 34) word.LogicalOr (binary (m 144 4 34) word.LogicalOr (binary (m 137 4 34) word.LogicalOr (binary (m 130 4 34) word.LogicalOr (binary (m 123 4 34) word.LogicalOr (binary (m 116 4 34) word.LogicalOr (binary (m 109 4 34) word.LogicalOr (binary (m 102 4 34) word.LogicalOr (binary (m 95 4 34) word.LogicalOr (parentheses (m 88 4 34) (binary (m 87 4 35) word.LogicalAnd (concept_id (m 84 4 35) (d 0) (and_type (position_type (m 83 4 37) 0) no_argument)) (concept_id (m 86 4 43) (d 1) (and_type (position_type (m 85 4 45) 0) no_argument)))) (parentheses (m 94 4 52) (binary (m 93 4 53) word.LogicalAnd (concept_id (m 90 4 53) (d 0) (and_type (position_type (m 89 4 55) 0) no_argument)) (concept_id (m 92 4 61) (d 1) (and_type (position_type (m 91 4 63) 0) no_argument))))) (parentheses (m 101 4 70) (binary (m 100 4 71) word.LogicalAnd (concept_id (m 97 4 71) (d 0) (and_type (position_type (m 96 4 73) 0) no_argument)) (concept_id (m 99 4 79) (d 1) (and_type (position_type (m 98 4 81) 0) no_argument))))) (parentheses (m 108 4 88) (binary (m 107 4 89) word.LogicalAnd (concept_id (m 104 4 89) (d 0) (and_type (position_type (m 103 4 91) 0) no_argument)) (concept_id (m 106 4 97) (d 1) (and_type (position_type (m 105 4 99) 0) no_argument))))) (parentheses (m 115 4 106) (binary (m 114 4 107) word.LogicalAnd (concept_id (m 111 4 107) (d 0) (and_type (position_type (m 110 4 109) 0) no_argument)) (concept_id (m 113 4 115) (d 1) (and_type (position_type (m 112 4 117) 0) no_argument))))) (parentheses (m 122 4 124) (binary (m 121 4 125) word.LogicalAnd (concept_id (m 118 4 125) (d 0) (and_type (position_type (m 117 4 127) 0) no_argument)) (concept_id (m 120 4 133) (d 1) (and_type (position_type (m 119 4 135) 0) no_argument))))) (parentheses (m 129 4 142) (binary (m 128 4 143) word.LogicalAnd (concept_id (m 125 4 143) (d 0) (and_type (position_type (m 124 4 145) 0) no_argument)) (concept_id (m 127 4 151) (d 1) (and_type (position_type (m 126 4 153) 0) no_argument))))) (parentheses (m 136 4 160) (binary (m 135 4 161) word.LogicalAnd (concept_id (m 132 4 161) (d 0) (and_type (position_type (m 131 4 163) 0) no_argument)) (concept_id (m 134 4 169) (d 1) (and_type (position_type (m 133 4 171) 0) no_argument))))) (parentheses (m 143 4 178) (binary (m 142 4 179) word.LogicalAnd (concept_id (m 139 4 179) (d 0) (and_type (position_type (m 138 4 181) 0) no_argument)) (concept_id (m 141 4 187) (d 1) (and_type (position_type (m 140 4 189) 0) no_argument))))) (parentheses (m 150 4 196) (binary (m 149 4 197) word.LogicalAnd (concept_id (m 146 4 197) (d 0) (and_type (position_type (m 145 4 199) 0) no_argument)) (concept_id (m 148 4 205) (d 1) (and_type (position_type (m 147 4 207) 0) no_argument))))) })
    ∷ a_function (record { at = (p 5 19); name = (codes "f"); owner = None; is_template = true; template_parameters = (tp None None ∷ []); constraints = ((concept_id (m 152 5 10) (d 2) (and_type (position_type (m 152 5 10) 0) no_argument)) ∷ []); parameters = (parameter (position_type (m 154 5 21) 0) 0 false ∷ []); result = (scalar_type (m 153 5 15) scalars.Int); is_const = false; is_constexpr = false; body = Some (block (m 157 5 24) (and_statement (return_statement (m 156 5 26) (Some (literal (m 155 5 33) scalars.Int (pos 1)))) no_statement)) })
    ∷ a_function (record { at = (p 6 19); name = (codes "f"); owner = None; is_template = true; template_parameters = (tp None None ∷ []); constraints = ((concept_id (m 158 6 10) (d 3) (and_type (position_type (m 158 6 10) 0) no_argument)) ∷ []); parameters = (parameter (position_type (m 160 6 21) 0) 0 false ∷ []); result = (scalar_type (m 159 6 15) scalars.Int); is_const = false; is_constexpr = false; body = Some (block (m 163 6 24) (and_statement (return_statement (m 162 6 26) (Some (literal (m 161 6 33) scalars.Int (pos 2)))) no_statement)) })
    ∷ a_function (record { at = (p 7 5); name = (codes "g"); owner = None; is_template = false; template_parameters = ([]); constraints = ([]); parameters = ([]); result = (scalar_type (m 164 7 1) scalars.Int); is_const = false; is_constexpr = false; body = Some (block (m 169 7 9) (and_statement (return_statement (m 168 7 11) (Some (call (m 167 7 18) (functions (m 165 7 18) (codes "f") 2) (and_expression (literal (m 166 7 20) scalars.Int (pos 1)) no_expression)))) no_statement)) })
    ∷ [])
    (((codes "f"), ((d 4) ∷ (d 5) ∷ [])) ∷ ((codes "g"), ((d 6) ∷ [])) ∷ [])
    ([])
    ((2, (is_same (m 2 1 34) (position_type (m 0 1 44) 0) (scalar_type (m 1 1 47) scalars.Int)))
    ∷ (6, (unary (m 6 2 34) word.Not (is_same (m 5 2 35) (position_type (m 3 2 45) 0) (scalar_type (m 4 2 48) scalars.Bool))))
    ∷ [])
    (around 0 (None ∷ []) true ∷ around 164 ([]) false ∷ [])
    ([])

abbrev pub one_clause_too_many_unit_items : List Item
one_clause_too_many_unit_items = (a_declaration (d 0) ∷ a_declaration (d 1) ∷ a_declaration (d 2) ∷ a_declaration (d 3) ∷ a_declaration (d 4) ∷ a_declaration (d 5) ∷ a_declaration (d 6) ∷ [])

-- struct A1 { int a; int b; };
-- struct A2 { A1 a; A1 b; };
-- struct A3 { A2 a; A2 b; };
abbrev pub large_structs_unit : Program
large_structs_unit =
    unit
    (a_struct (record { at = (p 1 8); itself = (struct (d 0)); is_template = false; template_parameters = ([]); constraints = ([]); primary = None; specialised_for = ([]); members = (field (codes "a") (scalar_type (m 0 1 13) scalars.Int) ∷ field (codes "b") (scalar_type (m 1 1 20) scalars.Int) ∷ []) })
    ∷ a_field 0 (scalar_type (m 0 1 13) scalars.Int)
    ∷ a_field 1 (scalar_type (m 1 1 20) scalars.Int)
    ∷ a_struct (record { at = (p 2 8); itself = (struct (d 3)); is_template = false; template_parameters = ([]); constraints = ([]); primary = None; specialised_for = ([]); members = (field (codes "a") (struct_type (m 2 2 13) (d 0)) ∷ field (codes "b") (struct_type (m 3 2 19) (d 0)) ∷ []) })
    ∷ a_field 0 (struct_type (m 2 2 13) (d 0))
    ∷ a_field 1 (struct_type (m 3 2 19) (d 0))
    ∷ a_struct (record { at = (p 3 8); itself = (struct (d 6)); is_template = false; template_parameters = ([]); constraints = ([]); primary = None; specialised_for = ([]); members = (field (codes "a") (struct_type (m 4 3 13) (d 3)) ∷ field (codes "b") (struct_type (m 5 3 19) (d 3)) ∷ []) })
    ∷ a_field 0 (struct_type (m 4 3 13) (d 3))
    ∷ a_field 1 (struct_type (m 5 3 19) (d 3))
    ∷ [])
    ([])
    ([])
    ([])
    (around 0 ([]) false ∷ [])
    ([])

abbrev pub large_structs_unit_items : List Item
large_structs_unit_items = (a_declaration (d 0) ∷ a_declaration (d 3) ∷ a_declaration (d 6) ∷ [])

-- template<typename T> struct S { };
-- template<typename T> struct S<T> { };
abbrev pub not_more_specialised_unit : Program
not_more_specialised_unit =
    unit
    (a_struct (record { at = (p 1 29); itself = (inst (d 0) (arguments ((param 0) ∷ []))); is_template = true; template_parameters = (tp None None ∷ []); constraints = ([]); primary = None; specialised_for = ([]); members = ([]) })
    ∷ a_struct (record { at = (p 2 29); itself = (inst (d 0) (arguments ((param 0) ∷ []))); is_template = true; template_parameters = (tp None None ∷ []); constraints = ([]); primary = (Some (d 0)); specialised_for = (of_type (position_type (m 0 2 31) 0) ∷ []); members = ([]) })
    ∷ [])
    ([])
    ((0, ((d 1) ∷ [])) ∷ [])
    ([])
    (around 0 (None ∷ []) true ∷ [])
    ([])

abbrev pub not_more_specialised_unit_items : List Item
not_more_specialised_unit_items = (a_declaration (d 0) ∷ a_declaration (d 1) ∷ [])

-- void f() { return 1; }
abbrev pub returns_unit : Program
returns_unit =
    unit
    (a_function (record { at = (p 1 6); name = (codes "f"); owner = None; is_template = false; template_parameters = ([]); constraints = ([]); parameters = ([]); result = (void_type (m 0 1 1)); is_const = false; is_constexpr = false; body = Some (block (m 3 1 10) (and_statement (return_statement (m 2 1 12) (Some (literal (m 1 1 19) scalars.Int (pos 1)))) no_statement)) })
    ∷ [])
    (((codes "f"), ((d 0) ∷ [])) ∷ [])
    ([])
    ([])
    (around 0 ([]) false ∷ [])
    ([])

abbrev pub returns_unit_items : List Item
returns_unit_items = (a_declaration (d 0) ∷ [])

-- int f() { return; }
abbrev pub returns_nothing_unit : Program
returns_nothing_unit =
    unit
    (a_function (record { at = (p 1 5); name = (codes "f"); owner = None; is_template = false; template_parameters = ([]); constraints = ([]); parameters = ([]); result = (scalar_type (m 0 1 1) scalars.Int); is_const = false; is_constexpr = false; body = Some (block (m 2 1 9) (and_statement (return_statement (m 1 1 11) None) no_statement)) })
    ∷ [])
    (((codes "f"), ((d 0) ∷ [])) ∷ [])
    ([])
    ([])
    (around 0 ([]) false ∷ [])
    ([])

abbrev pub returns_nothing_unit_items : List Item
returns_nothing_unit_items = (a_declaration (d 0) ∷ [])

-- void f() { }
-- void g() { return f(); }
abbrev pub returns_void_unit : Program
returns_void_unit =
    unit
    (a_function (record { at = (p 1 6); name = (codes "f"); owner = None; is_template = false; template_parameters = ([]); constraints = ([]); parameters = ([]); result = (void_type (m 0 1 1)); is_const = false; is_constexpr = false; body = Some (block (m 1 1 10) no_statement) })
    ∷ a_function (record { at = (p 2 6); name = (codes "g"); owner = None; is_template = false; template_parameters = ([]); constraints = ([]); parameters = ([]); result = (void_type (m 2 2 1)); is_const = false; is_constexpr = false; body = Some (block (m 6 2 10) (and_statement (return_statement (m 5 2 12) (Some (call (m 4 2 19) (functions (m 3 2 19) (codes "f") 1) no_expression))) no_statement)) })
    ∷ [])
    (((codes "f"), ((d 0) ∷ [])) ∷ ((codes "g"), ((d 1) ∷ [])) ∷ [])
    ([])
    ([])
    (around 0 ([]) false ∷ [])
    ([])

abbrev pub returns_void_unit_items : List Item
returns_void_unit_items = (a_declaration (d 0) ∷ a_declaration (d 1) ∷ [])

-- int f() { while (true) { break; } break; return 1; }
abbrev pub break_outside_unit : Program
break_outside_unit =
    unit
    (a_function (record { at = (p 1 5); name = (codes "f"); owner = None; is_template = false; template_parameters = ([]); constraints = ([]); parameters = ([]); result = (scalar_type (m 0 1 1) scalars.Int); is_const = false; is_constexpr = false; body = Some (block (m 8 1 9) (and_statement (while_statement (m 4 1 11) (literal (m 1 1 18) scalars.Bool (pos 1)) (block (m 3 1 24) (and_statement (break_statement (m 2 1 26)) no_statement))) (and_statement (break_statement (m 5 1 35)) (and_statement (return_statement (m 7 1 42) (Some (literal (m 6 1 49) scalars.Int (pos 1)))) no_statement)))) })
    ∷ [])
    (((codes "f"), ((d 0) ∷ [])) ∷ [])
    ([])
    ([])
    (around 0 ([]) false ∷ [])
    ([])

abbrev pub break_outside_unit_items : List Item
break_outside_unit_items = (a_declaration (d 0) ∷ [])

-- template<typename T> int f(T t) { if constexpr (__is_same(T, int)) return 1; else return t.x; }
-- int g() { return f(1); }
abbrev pub discarded_branch_unit : Program
discarded_branch_unit =
    unit
    (a_function (record { at = (p 1 26); name = (codes "f"); owner = None; is_template = true; template_parameters = (tp None None ∷ []); constraints = ([]); parameters = (parameter (position_type (m 1 1 28) 0) 0 true ∷ []); result = (scalar_type (m 0 1 22) scalars.Int); is_const = false; is_constexpr = false; body = Some (block (m 11 1 33) (and_statement (if_statement (m 10 1 35) true (is_same (m 4 1 49) (position_type (m 2 1 59) 0) (scalar_type (m 3 1 62) scalars.Int)) (return_statement (m 6 1 68) (Some (literal (m 5 1 75) scalars.Int (pos 1)))) (and_statement (return_statement (m 9 1 83) (Some (dot (m 8 1 90) (local_name (m 7 1 90) 0) (codes "x")))) no_statement)) no_statement)) })
    ∷ a_function (record { at = (p 2 5); name = (codes "g"); owner = None; is_template = false; template_parameters = ([]); constraints = ([]); parameters = ([]); result = (scalar_type (m 12 2 1) scalars.Int); is_const = false; is_constexpr = false; body = Some (block (m 17 2 9) (and_statement (return_statement (m 16 2 11) (Some (call (m 15 2 18) (functions (m 13 2 18) (codes "f") 1) (and_expression (literal (m 14 2 20) scalars.Int (pos 1)) no_expression)))) no_statement)) })
    ∷ [])
    (((codes "f"), ((d 0) ∷ [])) ∷ ((codes "g"), ((d 1) ∷ [])) ∷ [])
    ([])
    ([])
    (around 0 (None ∷ []) true ∷ around 12 ([]) false ∷ [])
    ([])

abbrev pub discarded_branch_unit_items : List Item
discarded_branch_unit_items = (a_declaration (d 0) ∷ a_declaration (d 1) ∷ [])

-- int f(int t) { if constexpr (true) return 1; else return t.x; }
abbrev pub kept_branch_unit : Program
kept_branch_unit =
    unit
    (a_function (record { at = (p 1 5); name = (codes "f"); owner = None; is_template = false; template_parameters = ([]); constraints = ([]); parameters = (parameter (scalar_type (m 1 1 7) scalars.Int) 0 true ∷ []); result = (scalar_type (m 0 1 1) scalars.Int); is_const = false; is_constexpr = false; body = Some (block (m 9 1 14) (and_statement (if_statement (m 8 1 16) true (literal (m 2 1 30) scalars.Bool (pos 1)) (return_statement (m 4 1 36) (Some (literal (m 3 1 43) scalars.Int (pos 1)))) (and_statement (return_statement (m 7 1 51) (Some (dot (m 6 1 58) (local_name (m 5 1 58) 0) (codes "x")))) no_statement)) no_statement)) })
    ∷ [])
    (((codes "f"), ((d 0) ∷ [])) ∷ [])
    ([])
    ([])
    (around 0 ([]) false ∷ [])
    ([])

abbrev pub kept_branch_unit_items : List Item
kept_branch_unit_items = (a_declaration (d 0) ∷ [])

-- template<typename T> concept Int = __is_same(T, int);
-- int f() { Int auto x = 1; const Int auto& r = x; return r; }
-- int g() { Int auto x = true; return 1; }
abbrev pub constrained_variable_unit : Program
constrained_variable_unit =
    unit
    (a_concept (record { at = (p 1 30); template_parameters = (tp None None ∷ []); condition = (is_same (m 2 1 36) (position_type (m 0 1 46) 0) (scalar_type (m 1 1 49) scalars.Int)) })
    ∷ a_function (record { at = (p 2 5); name = (codes "f"); owner = None; is_template = false; template_parameters = ([]); constraints = ([]); parameters = ([]); result = (scalar_type (m 3 2 1) scalars.Int); is_const = false; is_constexpr = false; body = Some (block (m 14 2 9) (and_statement (variable (m 7 2 11) false (as_auto (m 5 2 11) (Some (record { mark = (m 4 2 11); concept = (d 0); rest = no_argument })) false false) 0 (equals (literal (m 6 2 24) scalars.Int (pos 1)))) (and_statement (variable (m 11 2 27) false (as_auto (m 9 2 27) (Some (record { mark = (m 8 2 33); concept = (d 0); rest = no_argument })) true true) 1 (equals (local_name (m 10 2 47) 0))) (and_statement (return_statement (m 13 2 50) (Some (local_name (m 12 2 57) 1))) no_statement)))) })
    ∷ a_function (record { at = (p 3 5); name = (codes "g"); owner = None; is_template = false; template_parameters = ([]); constraints = ([]); parameters = ([]); result = (scalar_type (m 15 3 1) scalars.Int); is_const = false; is_constexpr = false; body = Some (block (m 22 3 9) (and_statement (variable (m 19 3 11) false (as_auto (m 17 3 11) (Some (record { mark = (m 16 3 11); concept = (d 0); rest = no_argument })) false false) 0 (equals (literal (m 18 3 24) scalars.Bool (pos 1)))) (and_statement (return_statement (m 21 3 30) (Some (literal (m 20 3 37) scalars.Int (pos 1)))) no_statement))) })
    ∷ [])
    (((codes "f"), ((d 1) ∷ [])) ∷ ((codes "g"), ((d 2) ∷ [])) ∷ [])
    ([])
    ((2, (is_same (m 2 1 36) (position_type (m 0 1 46) 0) (scalar_type (m 1 1 49) scalars.Int)))
    ∷ [])
    (around 0 (None ∷ []) true ∷ around 3 ([]) false ∷ [])
    ([])

abbrev pub constrained_variable_unit_items : List Item
constrained_variable_unit_items = (a_declaration (d 0) ∷ a_declaration (d 1) ∷ a_declaration (d 2) ∷ [])

-- int f() { unsigned u{1}; bool b{1}; int i = 1ll; return i; }
-- int g(int n) { unsigned u{n}; return 1; }
abbrev pub narrowing_variable_unit : Program
narrowing_variable_unit =
    unit
    (a_function (record { at = (p 1 5); name = (codes "f"); owner = None; is_template = false; template_parameters = ([]); constraints = ([]); parameters = ([]); result = (scalar_type (m 0 1 1) scalars.Int); is_const = false; is_constexpr = false; body = Some (block (m 14 1 9) (and_statement (variable (m 4 1 11) false (as_type (scalar_type (m 1 1 11) scalars.Unsigned)) 0 (braces (m 3 1 21) (and_expression (literal (m 2 1 22) scalars.Int (pos 1)) no_expression))) (and_statement (variable (m 8 1 26) false (as_type (scalar_type (m 5 1 26) scalars.Bool)) 1 (braces (m 7 1 32) (and_expression (literal (m 6 1 33) scalars.Int (pos 1)) no_expression))) (and_statement (variable (m 11 1 37) false (as_type (scalar_type (m 9 1 37) scalars.Int)) 2 (equals (literal (m 10 1 45) scalars.LongLong (pos 1)))) (and_statement (return_statement (m 13 1 50) (Some (local_name (m 12 1 57) 2))) no_statement))))) })
    ∷ a_function (record { at = (p 2 5); name = (codes "g"); owner = None; is_template = false; template_parameters = ([]); constraints = ([]); parameters = (parameter (scalar_type (m 16 2 7) scalars.Int) 0 true ∷ []); result = (scalar_type (m 15 2 1) scalars.Int); is_const = false; is_constexpr = false; body = Some (block (m 23 2 14) (and_statement (variable (m 20 2 16) false (as_type (scalar_type (m 17 2 16) scalars.Unsigned)) 1 (braces (m 19 2 26) (and_expression (local_name (m 18 2 27) 0) no_expression))) (and_statement (return_statement (m 22 2 31) (Some (literal (m 21 2 38) scalars.Int (pos 1)))) no_statement))) })
    ∷ [])
    (((codes "f"), ((d 0) ∷ [])) ∷ ((codes "g"), ((d 1) ∷ [])) ∷ [])
    ([])
    ([])
    (around 0 ([]) false ∷ [])
    ([])

abbrev pub narrowing_variable_unit_items : List Item
narrowing_variable_unit_items = (a_declaration (d 0) ∷ a_declaration (d 1) ∷ [])

-- int f() { const int& r = true; return r; }
-- int g() { int& r = 1; return r; }
abbrev pub reference_to_temporary_unit : Program
reference_to_temporary_unit =
    unit
    (a_function (record { at = (p 1 5); name = (codes "f"); owner = None; is_template = false; template_parameters = ([]); constraints = ([]); parameters = ([]); result = (scalar_type (m 0 1 1) scalars.Int); is_const = false; is_constexpr = false; body = Some (block (m 6 1 9) (and_statement (variable (m 3 1 11) false (as_type (reference_type (m 1 1 11) (const_type (m 1 1 11) (scalar_type (m 1 1 11) scalars.Int)))) 0 (equals (literal (m 2 1 26) scalars.Bool (pos 1)))) (and_statement (return_statement (m 5 1 32) (Some (local_name (m 4 1 39) 0))) no_statement))) })
    ∷ a_function (record { at = (p 2 5); name = (codes "g"); owner = None; is_template = false; template_parameters = ([]); constraints = ([]); parameters = ([]); result = (scalar_type (m 7 2 1) scalars.Int); is_const = false; is_constexpr = false; body = Some (block (m 13 2 9) (and_statement (variable (m 10 2 11) false (as_type (reference_type (m 8 2 11) (scalar_type (m 8 2 11) scalars.Int))) 0 (equals (literal (m 9 2 20) scalars.Int (pos 1)))) (and_statement (return_statement (m 12 2 23) (Some (local_name (m 11 2 30) 0))) no_statement))) })
    ∷ [])
    (((codes "f"), ((d 0) ∷ [])) ∷ ((codes "g"), ((d 1) ∷ [])) ∷ [])
    ([])
    ([])
    (around 0 ([]) false ∷ [])
    ([])

abbrev pub reference_to_temporary_unit_items : List Item
reference_to_temporary_unit_items = (a_declaration (d 0) ∷ a_declaration (d 1) ∷ [])

-- struct S { int x; int twice() const { return x + x; } void set(int v) { x = v; } };
-- int g() { S s{1}; s.set(2); return s.twice(); }
abbrev pub members_are_emitted_unit : Program
members_are_emitted_unit =
    unit
    (a_struct (record { at = (p 1 8); itself = (struct (d 0)); is_template = false; template_parameters = ([]); constraints = ([]); primary = None; specialised_for = ([]); members = (field (codes "x") (scalar_type (m 0 1 12) scalars.Int) ∷ member_function (codes "twice") (d 2) ∷ member_function (codes "set") (d 3) ∷ []) })
    ∷ a_field 0 (scalar_type (m 0 1 12) scalars.Int)
    ∷ a_function (record { at = (p 1 23); name = (codes "twice"); owner = (Some (d 0)); is_template = false; template_parameters = ([]); constraints = ([]); parameters = ([]); result = (scalar_type (m 1 1 19) scalars.Int); is_const = true; is_constexpr = false; body = Some (block (m 8 1 37) (and_statement (return_statement (m 7 1 39) (Some (binary (m 6 1 46) word.Plus (field_name (m 4 1 46) 0 (d 1)) (field_name (m 5 1 50) 0 (d 1))))) no_statement)) })
    ∷ a_function (record { at = (p 1 60); name = (codes "set"); owner = (Some (d 0)); is_template = false; template_parameters = ([]); constraints = ([]); parameters = (parameter (scalar_type (m 3 1 64) scalars.Int) 0 true ∷ []); result = (void_type (m 2 1 55)); is_const = false; is_constexpr = false; body = Some (block (m 13 1 71) (and_statement (expression_statement (m 12 1 73) (binary (m 11 1 73) word.Assign (field_name (m 9 1 73) 0 (d 1)) (local_name (m 10 1 77) 0))) no_statement)) })
    ∷ a_function (record { at = (p 2 5); name = (codes "g"); owner = None; is_template = false; template_parameters = ([]); constraints = ([]); parameters = ([]); result = (scalar_type (m 14 2 1) scalars.Int); is_const = false; is_constexpr = false; body = Some (block (m 28 2 9) (and_statement (variable (m 18 2 11) false (as_type (struct_type (m 15 2 11) (d 0))) 0 (braces (m 17 2 14) (and_expression (literal (m 16 2 15) scalars.Int (pos 1)) no_expression))) (and_statement (expression_statement (m 23 2 19) (call (m 22 2 19) (object_functions (m 20 2 19) (local_name (m 19 2 19) 0) (codes "set")) (and_expression (literal (m 21 2 25) scalars.Int (pos 2)) no_expression))) (and_statement (return_statement (m 27 2 29) (Some (call (m 26 2 36) (object_functions (m 25 2 36) (local_name (m 24 2 36) 0) (codes "twice")) no_expression))) no_statement)))) })
    ∷ [])
    (((codes "g"), ((d 4) ∷ [])) ∷ [])
    ([])
    ([])
    (around 0 ([]) false ∷ [])
    ([])

abbrev pub members_are_emitted_unit_items : List Item
members_are_emitted_unit_items = (a_declaration (d 0) ∷ a_declaration (d 4) ∷ [])

-- struct S { int x; void set(int v) { x = v; } void no(int v) const { x = v; } };
abbrev pub const_object_unit : Program
const_object_unit =
    unit
    (a_struct (record { at = (p 1 8); itself = (struct (d 0)); is_template = false; template_parameters = ([]); constraints = ([]); primary = None; specialised_for = ([]); members = (field (codes "x") (scalar_type (m 0 1 12) scalars.Int) ∷ member_function (codes "set") (d 2) ∷ member_function (codes "no") (d 3) ∷ []) })
    ∷ a_field 0 (scalar_type (m 0 1 12) scalars.Int)
    ∷ a_function (record { at = (p 1 24); name = (codes "set"); owner = (Some (d 0)); is_template = false; template_parameters = ([]); constraints = ([]); parameters = (parameter (scalar_type (m 2 1 28) scalars.Int) 0 true ∷ []); result = (void_type (m 1 1 19)); is_const = false; is_constexpr = false; body = Some (block (m 9 1 35) (and_statement (expression_statement (m 8 1 37) (binary (m 7 1 37) word.Assign (field_name (m 5 1 37) 0 (d 1)) (local_name (m 6 1 41) 0))) no_statement)) })
    ∷ a_function (record { at = (p 1 51); name = (codes "no"); owner = (Some (d 0)); is_template = false; template_parameters = ([]); constraints = ([]); parameters = (parameter (scalar_type (m 4 1 54) scalars.Int) 0 true ∷ []); result = (void_type (m 3 1 46)); is_const = true; is_constexpr = false; body = Some (block (m 14 1 67) (and_statement (expression_statement (m 13 1 69) (binary (m 12 1 69) word.Assign (field_name (m 10 1 69) 0 (d 1)) (local_name (m 11 1 73) 0))) no_statement)) })
    ∷ [])
    ([])
    ([])
    ([])
    (around 0 ([]) false ∷ [])
    ([])

abbrev pub const_object_unit_items : List Item
const_object_unit_items = (a_declaration (d 0) ∷ [])

-- struct S { int x; void set(int v) { x = v; } };
-- void g(const S& s) { s.set(1); }
abbrev pub member_on_const_unit : Program
member_on_const_unit =
    unit
    (a_struct (record { at = (p 1 8); itself = (struct (d 0)); is_template = false; template_parameters = ([]); constraints = ([]); primary = None; specialised_for = ([]); members = (field (codes "x") (scalar_type (m 0 1 12) scalars.Int) ∷ member_function (codes "set") (d 2) ∷ []) })
    ∷ a_field 0 (scalar_type (m 0 1 12) scalars.Int)
    ∷ a_function (record { at = (p 1 24); name = (codes "set"); owner = (Some (d 0)); is_template = false; template_parameters = ([]); constraints = ([]); parameters = (parameter (scalar_type (m 2 1 28) scalars.Int) 0 true ∷ []); result = (void_type (m 1 1 19)); is_const = false; is_constexpr = false; body = Some (block (m 7 1 35) (and_statement (expression_statement (m 6 1 37) (binary (m 5 1 37) word.Assign (field_name (m 3 1 37) 0 (d 1)) (local_name (m 4 1 41) 0))) no_statement)) })
    ∷ a_function (record { at = (p 2 6); name = (codes "g"); owner = None; is_template = false; template_parameters = ([]); constraints = ([]); parameters = (parameter (reference_type (m 9 2 8) (const_type (m 9 2 8) (struct_type (m 9 2 8) (d 0)))) 0 true ∷ []); result = (void_type (m 8 2 1)); is_const = false; is_constexpr = false; body = Some (block (m 15 2 20) (and_statement (expression_statement (m 14 2 22) (call (m 13 2 22) (object_functions (m 11 2 22) (local_name (m 10 2 22) 0) (codes "set")) (and_expression (literal (m 12 2 28) scalars.Int (pos 1)) no_expression))) no_statement)) })
    ∷ [])
    (((codes "g"), ((d 3) ∷ [])) ∷ [])
    ([])
    ([])
    (around 0 ([]) false ∷ [])
    ([])

abbrev pub member_on_const_unit_items : List Item
member_on_const_unit_items = (a_declaration (d 0) ∷ a_declaration (d 3) ∷ [])

-- template<typename T> T id(T t) { return t; }
-- int g() { return id<int>(7) + id(true); }
abbrev pub instances_by_arguments_unit : Program
instances_by_arguments_unit =
    unit
    (a_function (record { at = (p 1 24); name = (codes "id"); owner = None; is_template = true; template_parameters = (tp None None ∷ []); constraints = ([]); parameters = (parameter (position_type (m 1 1 27) 0) 0 true ∷ []); result = (position_type (m 0 1 22) 0); is_const = false; is_constexpr = false; body = Some (block (m 4 1 32) (and_statement (return_statement (m 3 1 34) (Some (local_name (m 2 1 41) 0))) no_statement)) })
    ∷ a_function (record { at = (p 2 5); name = (codes "g"); owner = None; is_template = false; template_parameters = ([]); constraints = ([]); parameters = ([]); result = (scalar_type (m 5 2 1) scalars.Int); is_const = false; is_constexpr = false; body = Some (block (m 15 2 9) (and_statement (return_statement (m 14 2 11) (Some (binary (m 13 2 18) word.Plus (call (m 9 2 18) (functions_with (m 7 2 18) (codes "id") 1 (and_type (scalar_type (m 6 2 21) scalars.Int) no_argument)) (and_expression (literal (m 8 2 26) scalars.Int (pos 7)) no_expression)) (call (m 12 2 31) (functions (m 10 2 31) (codes "id") 1) (and_expression (literal (m 11 2 34) scalars.Bool (pos 1)) no_expression))))) no_statement)) })
    ∷ [])
    (((codes "id"), ((d 0) ∷ [])) ∷ ((codes "g"), ((d 1) ∷ [])) ∷ [])
    ([])
    ([])
    (around 0 (None ∷ []) true ∷ around 5 ([]) false ∷ [])
    ([])

abbrev pub instances_by_arguments_unit_items : List Item
instances_by_arguments_unit_items = (a_declaration (d 0) ∷ a_declaration (d 1) ∷ [])

-- template<typename T> int f(T&) { return 1; }
-- template<typename T> int f(const T&) { return 2; }
-- int g(int n, const int& c) { return f(n) + f(c); }
abbrev pub by_binding_unit : Program
by_binding_unit =
    unit
    (a_function (record { at = (p 1 26); name = (codes "f"); owner = None; is_template = true; template_parameters = (tp None None ∷ []); constraints = ([]); parameters = (parameter (reference_type (m 1 1 28) (position_type (m 1 1 28) 0)) 0 false ∷ []); result = (scalar_type (m 0 1 22) scalars.Int); is_const = false; is_constexpr = false; body = Some (block (m 4 1 32) (and_statement (return_statement (m 3 1 34) (Some (literal (m 2 1 41) scalars.Int (pos 1)))) no_statement)) })
    ∷ a_function (record { at = (p 2 26); name = (codes "f"); owner = None; is_template = true; template_parameters = (tp None None ∷ []); constraints = ([]); parameters = (parameter (reference_type (m 6 2 28) (const_type (m 6 2 28) (position_type (m 6 2 28) 0))) 0 false ∷ []); result = (scalar_type (m 5 2 22) scalars.Int); is_const = false; is_constexpr = false; body = Some (block (m 9 2 38) (and_statement (return_statement (m 8 2 40) (Some (literal (m 7 2 47) scalars.Int (pos 2)))) no_statement)) })
    ∷ a_function (record { at = (p 3 5); name = (codes "g"); owner = None; is_template = false; template_parameters = ([]); constraints = ([]); parameters = (parameter (scalar_type (m 11 3 7) scalars.Int) 0 true ∷ parameter (reference_type (m 12 3 14) (const_type (m 12 3 14) (scalar_type (m 12 3 14) scalars.Int))) 1 true ∷ []); result = (scalar_type (m 10 3 1) scalars.Int); is_const = false; is_constexpr = false; body = Some (block (m 21 3 28) (and_statement (return_statement (m 20 3 30) (Some (binary (m 19 3 37) word.Plus (call (m 15 3 37) (functions (m 13 3 37) (codes "f") 2) (and_expression (local_name (m 14 3 39) 0) no_expression)) (call (m 18 3 44) (functions (m 16 3 44) (codes "f") 2) (and_expression (local_name (m 17 3 46) 1) no_expression))))) no_statement)) })
    ∷ [])
    (((codes "f"), ((d 0) ∷ (d 1) ∷ [])) ∷ ((codes "g"), ((d 2) ∷ [])) ∷ [])
    ([])
    ([])
    (around 0 (None ∷ []) true ∷ around 10 ([]) false ∷ [])
    ([])

abbrev pub by_binding_unit_items : List Item
by_binding_unit_items = (a_declaration (d 0) ∷ a_declaration (d 1) ∷ a_declaration (d 2) ∷ [])

-- template<typename T> struct In { typename T::bad x; };
-- template<typename T> struct Out { In<T> i; };
-- int g() { Out<int> o{}; return 1; }
abbrev pub chains_of_instances_unit : Program
chains_of_instances_unit =
    unit
    (a_struct (record { at = (p 1 29); itself = (inst (d 0) (arguments ((param 0) ∷ []))); is_template = true; template_parameters = (tp None None ∷ []); constraints = ([]); primary = None; specialised_for = ([]); members = (field (codes "x") (member_type (m 1 1 34) (position_type (m 0 1 43) 0) ((codes "bad") ∷ [])) ∷ []) })
    ∷ a_field 0 (member_type (m 1 1 34) (position_type (m 0 1 43) 0) ((codes "bad") ∷ []))
    ∷ a_struct (record { at = (p 2 29); itself = (inst (d 2) (arguments ((param 0) ∷ []))); is_template = true; template_parameters = (tp None None ∷ []); constraints = ([]); primary = None; specialised_for = ([]); members = (field (codes "i") (template_id (m 3 2 35) (p 2 35) (d 0) (and_type (position_type (m 2 2 38) 0) no_argument)) ∷ []) })
    ∷ a_field 0 (template_id (m 3 2 35) (p 2 35) (d 0) (and_type (position_type (m 2 2 38) 0) no_argument))
    ∷ a_function (record { at = (p 3 5); name = (codes "g"); owner = None; is_template = false; template_parameters = ([]); constraints = ([]); parameters = ([]); result = (scalar_type (m 4 3 1) scalars.Int); is_const = false; is_constexpr = false; body = Some (block (m 11 3 9) (and_statement (variable (m 8 3 11) false (as_type (template_id (m 6 3 11) (p 3 11) (d 2) (and_type (scalar_type (m 5 3 15) scalars.Int) no_argument))) 0 (braces (m 7 3 21) no_expression)) (and_statement (return_statement (m 10 3 25) (Some (literal (m 9 3 32) scalars.Int (pos 1)))) no_statement))) })
    ∷ [])
    (((codes "g"), ((d 4) ∷ [])) ∷ [])
    ([])
    ([])
    (around 0 (None ∷ []) true ∷ around 4 ([]) false ∷ [])
    ([])

abbrev pub chains_of_instances_unit_items : List Item
chains_of_instances_unit_items = (a_declaration (d 0) ∷ a_declaration (d 2) ∷ a_declaration (d 4) ∷ [])
