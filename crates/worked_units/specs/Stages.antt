-- The order of stops: types, normal forms, constants, bodies, each in unit order.
use Rattle.std.specs.Prelude.{pos, true, false, List, [], ◌∷◌, Some, None, codes}
use Rattle.cx_base.specs.declared.value.Scalar.TheVariants as scalars
use Rattle.cx_term.specs.Term.{param, scalar, struct, inst, arguments}
use Rattle.cx_term.specs.declared.word.Word.TheVariants as word
use Rattle.cx_questions.specs.Forms.{literal, local_name, field_name, parentheses, binary, dot, scope, list, is_same, concept_id, no_expression, position_type, scalar_type, void_type, struct_type, template_id, member_type, no_argument, and_type, of_type, block, return_statement, no_statement, and_statement}
use Rattle.cx_questions.specs.Program.{Program, a_function, a_struct, a_concept, a_constant, a_field, field, static_constant, member_function}
use Rattle.worked_units.specs.Units.{p, d, m, tp, parameter, around, unit}
use Rattle.cx_questions.specs.Stages.{Item, an_assertion, an_alias, a_declaration}

-- struct S { int a; };
-- int f() { return S{}; }
-- static_assert(false);
abbrev pub constants_before_bodies_unit : Program
constants_before_bodies_unit =
    unit
    (a_struct (record { at = (p 1 8); itself = (struct (d 0)); is_template = false; template_parameters = ([]); constraints = ([]); primary = None; specialised_for = ([]); members = (field (codes "a") (scalar_type (m 0 1 12) scalars.Int) ∷ []) })
    ∷ a_field 0 (scalar_type (m 0 1 12) scalars.Int)
    ∷ a_function (record { at = (p 2 5); name = (codes "f"); owner = None; is_template = false; template_parameters = ([]); constraints = ([]); parameters = ([]); result = (scalar_type (m 1 2 1) scalars.Int); is_const = false; is_constexpr = false; body = Some (block (m 5 2 9) (and_statement (return_statement (m 4 2 11) (Some (list (m 3 2 18) (struct_type (m 2 2 18) (d 0)) no_expression))) no_statement)) })
    ∷ [])
    (((codes "f"), ((d 2) ∷ [])) ∷ [])
    ([])
    ([])
    (around 0 ([]) false ∷ [])
    ([])

abbrev pub constants_before_bodies_unit_items : List Item
constants_before_bodies_unit_items = (a_declaration (d 0) ∷ a_declaration (d 2) ∷ an_assertion (m 7 3 1) (literal (m 6 3 15) scalars.Bool (pos 0)) ∷ [])

-- static_assert(false);
-- struct S { int a; };
-- template<typename T> concept C = __is_same(T, int);
-- template<typename T> requires C<typename S::none> int f(T) { return 1; }
abbrev pub forms_before_constants_unit : Program
forms_before_constants_unit =
    unit
    (a_struct (record { at = (p 2 8); itself = (struct (d 0)); is_template = false; template_parameters = ([]); constraints = ([]); primary = None; specialised_for = ([]); members = (field (codes "a") (scalar_type (m 2 2 12) scalars.Int) ∷ []) })
    ∷ a_field 0 (scalar_type (m 2 2 12) scalars.Int)
    ∷ a_concept (record { at = (p 3 30); template_parameters = (tp None None ∷ []); condition = (is_same (m 5 3 34) (position_type (m 3 3 44) 0) (scalar_type (m 4 3 47) scalars.Int)) })
    ∷ a_function (record { at = (p 4 55); name = (codes "f"); owner = None; is_template = true; template_parameters = (tp None None ∷ []); constraints = ((concept_id (m 8 4 31) (d 2) (and_type (member_type (m 7 4 33) (struct_type (m 6 4 42) (d 0)) ((codes "none") ∷ [])) no_argument)) ∷ []); parameters = (parameter (position_type (m 10 4 57) 0) 0 false ∷ []); result = (scalar_type (m 9 4 51) scalars.Int); is_const = false; is_constexpr = false; body = Some (block (m 13 4 60) (and_statement (return_statement (m 12 4 62) (Some (literal (m 11 4 69) scalars.Int (pos 1)))) no_statement)) })
    ∷ [])
    (((codes "f"), ((d 3) ∷ [])) ∷ [])
    ([])
    ((5, (is_same (m 5 3 34) (position_type (m 3 3 44) 0) (scalar_type (m 4 3 47) scalars.Int)))
    ∷ [])
    (around 0 ([]) false ∷ around 3 (None ∷ []) true ∷ [])
    ([])

abbrev pub forms_before_constants_unit_items : List Item
forms_before_constants_unit_items = (an_assertion (m 1 1 1) (literal (m 0 1 15) scalars.Bool (pos 0)) ∷ a_declaration (d 0) ∷ a_declaration (d 2) ∷ a_declaration (d 3) ∷ [])

-- struct S { int a; };
-- template<typename T> concept C = __is_same(T, int);
-- template<typename T> requires C<typename S::none> int f(T) { return 1; }
-- int g(typename S::none x);
abbrev pub types_before_forms_unit : Program
types_before_forms_unit =
    unit
    (a_struct (record { at = (p 1 8); itself = (struct (d 0)); is_template = false; template_parameters = ([]); constraints = ([]); primary = None; specialised_for = ([]); members = (field (codes "a") (scalar_type (m 0 1 12) scalars.Int) ∷ []) })
    ∷ a_field 0 (scalar_type (m 0 1 12) scalars.Int)
    ∷ a_concept (record { at = (p 2 30); template_parameters = (tp None None ∷ []); condition = (is_same (m 3 2 34) (position_type (m 1 2 44) 0) (scalar_type (m 2 2 47) scalars.Int)) })
    ∷ a_function (record { at = (p 3 55); name = (codes "f"); owner = None; is_template = true; template_parameters = (tp None None ∷ []); constraints = ((concept_id (m 6 3 31) (d 2) (and_type (member_type (m 5 3 33) (struct_type (m 4 3 42) (d 0)) ((codes "none") ∷ [])) no_argument)) ∷ []); parameters = (parameter (position_type (m 8 3 57) 0) 0 false ∷ []); result = (scalar_type (m 7 3 51) scalars.Int); is_const = false; is_constexpr = false; body = Some (block (m 11 3 60) (and_statement (return_statement (m 10 3 62) (Some (literal (m 9 3 69) scalars.Int (pos 1)))) no_statement)) })
    ∷ a_function (record { at = (p 4 5); name = (codes "g"); owner = None; is_template = false; template_parameters = ([]); constraints = ([]); parameters = (parameter (member_type (m 14 4 7) (struct_type (m 13 4 16) (d 0)) ((codes "none") ∷ [])) 0 true ∷ []); result = (scalar_type (m 12 4 1) scalars.Int); is_const = false; is_constexpr = false; body = None })
    ∷ [])
    (((codes "f"), ((d 3) ∷ [])) ∷ ((codes "g"), ((d 4) ∷ [])) ∷ [])
    ([])
    ((3, (is_same (m 3 2 34) (position_type (m 1 2 44) 0) (scalar_type (m 2 2 47) scalars.Int)))
    ∷ [])
    (around 0 ([]) false ∷ around 1 (None ∷ []) true ∷ around 12 ([]) false ∷ [])
    ([])

abbrev pub types_before_forms_unit_items : List Item
types_before_forms_unit_items = (a_declaration (d 0) ∷ a_declaration (d 2) ∷ a_declaration (d 3) ∷ a_declaration (d 4) ∷ [])

-- template<typename T> struct D { T v; };
-- template<typename T> struct D<T> { T w; };
-- struct S { int a; };
-- int g(typename S::none x);
abbrev pub specialisations_in_unit_order_unit : Program
specialisations_in_unit_order_unit =
    unit
    (a_struct (record { at = (p 1 29); itself = (inst (d 0) (arguments ((param 0) ∷ []))); is_template = true; template_parameters = (tp None None ∷ []); constraints = ([]); primary = None; specialised_for = ([]); members = (field (codes "v") (position_type (m 0 1 33) 0) ∷ []) })
    ∷ a_field 0 (position_type (m 0 1 33) 0)
    ∷ a_struct (record { at = (p 2 29); itself = (inst (d 0) (arguments ((param 0) ∷ []))); is_template = true; template_parameters = (tp None None ∷ []); constraints = ([]); primary = (Some (d 0)); specialised_for = (of_type (position_type (m 1 2 31) 0) ∷ []); members = (field (codes "w") (position_type (m 2 2 36) 0) ∷ []) })
    ∷ a_field 0 (position_type (m 2 2 36) 0)
    ∷ a_struct (record { at = (p 3 8); itself = (struct (d 4)); is_template = false; template_parameters = ([]); constraints = ([]); primary = None; specialised_for = ([]); members = (field (codes "a") (scalar_type (m 3 3 12) scalars.Int) ∷ []) })
    ∷ a_field 0 (scalar_type (m 3 3 12) scalars.Int)
    ∷ a_function (record { at = (p 4 5); name = (codes "g"); owner = None; is_template = false; template_parameters = ([]); constraints = ([]); parameters = (parameter (member_type (m 6 4 7) (struct_type (m 5 4 16) (d 4)) ((codes "none") ∷ [])) 0 true ∷ []); result = (scalar_type (m 4 4 1) scalars.Int); is_const = false; is_constexpr = false; body = None })
    ∷ [])
    (((codes "g"), ((d 6) ∷ [])) ∷ [])
    ((0, ((d 2) ∷ [])) ∷ [])
    ([])
    (around 0 (None ∷ []) true ∷ around 3 ([]) false ∷ [])
    ([])

abbrev pub specialisations_in_unit_order_unit_items : List Item
specialisations_in_unit_order_unit_items = (a_declaration (d 0) ∷ a_declaration (d 2) ∷ a_declaration (d 4) ∷ a_declaration (d 6) ∷ [])

-- template<typename T> struct D { T v; };
-- struct S { int a; };
-- int g(typename S::none x);
-- template<typename T> struct D<T> { T w; };
abbrev pub types_in_unit_order_unit : Program
types_in_unit_order_unit =
    unit
    (a_struct (record { at = (p 1 29); itself = (inst (d 0) (arguments ((param 0) ∷ []))); is_template = true; template_parameters = (tp None None ∷ []); constraints = ([]); primary = None; specialised_for = ([]); members = (field (codes "v") (position_type (m 0 1 33) 0) ∷ []) })
    ∷ a_field 0 (position_type (m 0 1 33) 0)
    ∷ a_struct (record { at = (p 2 8); itself = (struct (d 2)); is_template = false; template_parameters = ([]); constraints = ([]); primary = None; specialised_for = ([]); members = (field (codes "a") (scalar_type (m 1 2 12) scalars.Int) ∷ []) })
    ∷ a_field 0 (scalar_type (m 1 2 12) scalars.Int)
    ∷ a_function (record { at = (p 3 5); name = (codes "g"); owner = None; is_template = false; template_parameters = ([]); constraints = ([]); parameters = (parameter (member_type (m 4 3 7) (struct_type (m 3 3 16) (d 2)) ((codes "none") ∷ [])) 0 true ∷ []); result = (scalar_type (m 2 3 1) scalars.Int); is_const = false; is_constexpr = false; body = None })
    ∷ a_struct (record { at = (p 4 29); itself = (inst (d 0) (arguments ((param 0) ∷ []))); is_template = true; template_parameters = (tp None None ∷ []); constraints = ([]); primary = (Some (d 0)); specialised_for = (of_type (position_type (m 5 4 31) 0) ∷ []); members = (field (codes "w") (position_type (m 6 4 36) 0) ∷ []) })
    ∷ a_field 0 (position_type (m 6 4 36) 0)
    ∷ [])
    (((codes "g"), ((d 4) ∷ [])) ∷ [])
    ((0, ((d 5) ∷ [])) ∷ [])
    ([])
    (around 0 (None ∷ []) true ∷ around 1 ([]) false ∷ around 5 (None ∷ []) true ∷ [])
    ([])

abbrev pub types_in_unit_order_unit_items : List Item
types_in_unit_order_unit_items = (a_declaration (d 0) ∷ a_declaration (d 2) ∷ a_declaration (d 4) ∷ a_declaration (d 5) ∷ [])

-- struct S { static constexpr int n = 1 / 0; };
-- static_assert(false);
abbrev pub constants_in_unit_order_unit : Program
constants_in_unit_order_unit =
    unit
    (a_struct (record { at = (p 1 8); itself = (struct (d 0)); is_template = false; template_parameters = ([]); constraints = ([]); primary = None; specialised_for = ([]); members = (static_constant (codes "n") (d 1) ∷ []) })
    ∷ a_constant (record { at = (p 1 33); name = (codes "n"); of = (scalar_type (m 0 1 29) scalars.Int); initialiser = (binary (m 3 1 37) word.Divide (literal (m 1 1 37) scalars.Int (pos 1)) (literal (m 2 1 41) scalars.Int (pos 0))); owner = (Some (d 0)) })
    ∷ [])
    ([])
    ([])
    ([])
    (around 0 ([]) false ∷ [])
    ([])

abbrev pub constants_in_unit_order_unit_items : List Item
constants_in_unit_order_unit_items = (a_declaration (d 0) ∷ an_assertion (m 5 2 1) (literal (m 4 2 15) scalars.Bool (pos 0)) ∷ [])

-- template<typename T> int f(T t) { return t.none; }
-- template<typename T> struct D { typename T::none v; };
-- int g() { return 1; }
abbrev pub not_instantiated_unit : Program
not_instantiated_unit =
    unit
    (a_function (record { at = (p 1 26); name = (codes "f"); owner = None; is_template = true; template_parameters = (tp None None ∷ []); constraints = ([]); parameters = (parameter (position_type (m 1 1 28) 0) 0 true ∷ []); result = (scalar_type (m 0 1 22) scalars.Int); is_const = false; is_constexpr = false; body = Some (block (m 5 1 33) (and_statement (return_statement (m 4 1 35) (Some (dot (m 3 1 42) (local_name (m 2 1 42) 0) (codes "none")))) no_statement)) })
    ∷ a_struct (record { at = (p 2 29); itself = (inst (d 1) (arguments ((param 0) ∷ []))); is_template = true; template_parameters = (tp None None ∷ []); constraints = ([]); primary = None; specialised_for = ([]); members = (field (codes "v") (member_type (m 7 2 33) (position_type (m 6 2 42) 0) ((codes "none") ∷ [])) ∷ []) })
    ∷ a_field 0 (member_type (m 7 2 33) (position_type (m 6 2 42) 0) ((codes "none") ∷ []))
    ∷ a_function (record { at = (p 3 5); name = (codes "g"); owner = None; is_template = false; template_parameters = ([]); constraints = ([]); parameters = ([]); result = (scalar_type (m 8 3 1) scalars.Int); is_const = false; is_constexpr = false; body = Some (block (m 11 3 9) (and_statement (return_statement (m 10 3 11) (Some (literal (m 9 3 18) scalars.Int (pos 1)))) no_statement)) })
    ∷ [])
    (((codes "f"), ((d 0) ∷ [])) ∷ ((codes "g"), ((d 3) ∷ [])) ∷ [])
    ([])
    ([])
    (around 0 (None ∷ []) true ∷ around 8 ([]) false ∷ [])
    ([])

abbrev pub not_instantiated_unit_items : List Item
not_instantiated_unit_items = (a_declaration (d 0) ∷ a_declaration (d 1) ∷ a_declaration (d 3) ∷ [])

-- template<typename T> struct D { static constexpr int v = 1; };
-- template<typename T> requires (__is_same(T, int)) struct D<T> { static constexpr int v = 2; };
-- static_assert(D<int>::v == 2);
-- static_assert(D<bool>::v == 1);
abbrev pub specialised_by_constraints_unit : Program
specialised_by_constraints_unit =
    unit
    (a_struct (record { at = (p 1 29); itself = (inst (d 0) (arguments ((param 0) ∷ []))); is_template = true; template_parameters = (tp None None ∷ []); constraints = ([]); primary = None; specialised_for = ([]); members = (static_constant (codes "v") (d 1) ∷ []) })
    ∷ a_constant (record { at = (p 1 54); name = (codes "v"); of = (scalar_type (m 0 1 50) scalars.Int); initialiser = (literal (m 1 1 58) scalars.Int (pos 1)); owner = (Some (d 0)) })
    ∷ a_struct (record { at = (p 2 58); itself = (inst (d 0) (arguments ((param 0) ∷ []))); is_template = true; template_parameters = (tp None None ∷ []); constraints = ((parentheses (m 5 2 31) (is_same (m 4 2 32) (position_type (m 2 2 42) 0) (scalar_type (m 3 2 45) scalars.Int))) ∷ []); primary = (Some (d 0)); specialised_for = (of_type (position_type (m 6 2 60) 0) ∷ []); members = (static_constant (codes "v") (d 3) ∷ []) })
    ∷ a_constant (record { at = (p 2 86); name = (codes "v"); of = (scalar_type (m 7 2 82) scalars.Int); initialiser = (literal (m 8 2 90) scalars.Int (pos 2)); owner = (Some (d 2)) })
    ∷ [])
    ([])
    ((0, ((d 2) ∷ [])) ∷ [])
    ((4, (is_same (m 4 2 32) (position_type (m 2 2 42) 0) (scalar_type (m 3 2 45) scalars.Int)))
    ∷ [])
    (around 0 (None ∷ []) true ∷ around 9 ([]) false ∷ [])
    ([])

abbrev pub specialised_by_constraints_unit_items : List Item
specialised_by_constraints_unit_items = (a_declaration (d 0) ∷ a_declaration (d 2) ∷ an_assertion (m 14 3 1) (binary (m 13 3 15) word.Equal (scope (m 11 3 15) (template_id (m 10 3 15) (p 3 15) (d 0) (and_type (scalar_type (m 9 3 17) scalars.Int) no_argument)) ([]) (codes "v")) (literal (m 12 3 28) scalars.Int (pos 2))) ∷ an_assertion (m 20 4 1) (binary (m 19 4 15) word.Equal (scope (m 17 4 15) (template_id (m 16 4 15) (p 4 15) (d 0) (and_type (scalar_type (m 15 4 17) scalars.Bool) no_argument)) ([]) (codes "v")) (literal (m 18 4 29) scalars.Int (pos 1))) ∷ [])

-- template<typename T> struct D { T v; };
-- template<> struct D<int> { int w; int get() { return w; } };
-- template<> struct D<bool> { void v; };
abbrev pub full_specialisation_unit : Program
full_specialisation_unit =
    unit
    (a_struct (record { at = (p 1 29); itself = (inst (d 0) (arguments ((param 0) ∷ []))); is_template = true; template_parameters = (tp None None ∷ []); constraints = ([]); primary = None; specialised_for = ([]); members = (field (codes "v") (position_type (m 0 1 33) 0) ∷ []) })
    ∷ a_field 0 (position_type (m 0 1 33) 0)
    ∷ a_struct (record { at = (p 2 19); itself = (inst (d 0) (arguments ((scalar scalars.Int) ∷ []))); is_template = false; template_parameters = ([]); constraints = ([]); primary = (Some (d 0)); specialised_for = (of_type (scalar_type (m 1 2 21) scalars.Int) ∷ []); members = (field (codes "w") (scalar_type (m 2 2 28) scalars.Int) ∷ member_function (codes "get") (d 4) ∷ []) })
    ∷ a_field 0 (scalar_type (m 2 2 28) scalars.Int)
    ∷ a_function (record { at = (p 2 39); name = (codes "get"); owner = (Some (d 2)); is_template = false; template_parameters = ([]); constraints = ([]); parameters = ([]); result = (scalar_type (m 3 2 35) scalars.Int); is_const = false; is_constexpr = false; body = Some (block (m 6 2 45) (and_statement (return_statement (m 5 2 47) (Some (field_name (m 4 2 54) 0 (d 3)))) no_statement)) })
    ∷ a_struct (record { at = (p 3 19); itself = (inst (d 0) (arguments ((scalar scalars.Bool) ∷ []))); is_template = false; template_parameters = ([]); constraints = ([]); primary = (Some (d 0)); specialised_for = (of_type (scalar_type (m 7 3 21) scalars.Bool) ∷ []); members = (field (codes "v") (void_type (m 8 3 29)) ∷ []) })
    ∷ a_field 0 (void_type (m 8 3 29))
    ∷ [])
    ([])
    ((0, ((d 2) ∷ (d 5) ∷ [])) ∷ [])
    ([])
    (around 0 (None ∷ []) true ∷ around 1 ([]) false ∷ [])
    ([])

abbrev pub full_specialisation_unit_items : List Item
full_specialisation_unit_items = (a_declaration (d 0) ∷ a_declaration (d 2) ∷ a_declaration (d 5) ∷ [])

-- struct S { int a; };
-- static_assert(false);
-- using A = typename S::none;
abbrev pub aliases_are_types_unit : Program
aliases_are_types_unit =
    unit
    (a_struct (record { at = (p 1 8); itself = (struct (d 0)); is_template = false; template_parameters = ([]); constraints = ([]); primary = None; specialised_for = ([]); members = (field (codes "a") (scalar_type (m 0 1 12) scalars.Int) ∷ []) })
    ∷ a_field 0 (scalar_type (m 0 1 12) scalars.Int)
    ∷ [])
    ([])
    ([])
    ([])
    (around 0 ([]) false ∷ [])
    ([])

abbrev pub aliases_are_types_unit_items : List Item
aliases_are_types_unit_items = (a_declaration (d 0) ∷ an_assertion (m 2 2 1) (literal (m 1 2 15) scalars.Bool (pos 0)) ∷ an_alias (member_type (m 4 3 11) (struct_type (m 3 3 20) (d 0)) ((codes "none") ∷ [])) ∷ [])

-- struct S { int a; };
-- template<typename T> concept C = __is_same(T, int);
-- template<typename T> struct D { int f() requires C<typename S::none> { return 1; } };
abbrev pub members_of_templates_unit : Program
members_of_templates_unit =
    unit
    (a_struct (record { at = (p 1 8); itself = (struct (d 0)); is_template = false; template_parameters = ([]); constraints = ([]); primary = None; specialised_for = ([]); members = (field (codes "a") (scalar_type (m 0 1 12) scalars.Int) ∷ []) })
    ∷ a_field 0 (scalar_type (m 0 1 12) scalars.Int)
    ∷ a_concept (record { at = (p 2 30); template_parameters = (tp None None ∷ []); condition = (is_same (m 3 2 34) (position_type (m 1 2 44) 0) (scalar_type (m 2 2 47) scalars.Int)) })
    ∷ a_struct (record { at = (p 3 29); itself = (inst (d 3) (arguments ((param 0) ∷ []))); is_template = true; template_parameters = (tp None None ∷ []); constraints = ([]); primary = None; specialised_for = ([]); members = (member_function (codes "f") (d 4) ∷ []) })
    ∷ a_function (record { at = (p 3 37); name = (codes "f"); owner = (Some (d 3)); is_template = true; template_parameters = (tp None None ∷ []); constraints = ((concept_id (m 7 3 50) (d 2) (and_type (member_type (m 6 3 52) (struct_type (m 5 3 61) (d 0)) ((codes "none") ∷ [])) no_argument)) ∷ []); parameters = ([]); result = (scalar_type (m 4 3 33) scalars.Int); is_const = false; is_constexpr = false; body = Some (block (m 10 3 70) (and_statement (return_statement (m 9 3 72) (Some (literal (m 8 3 79) scalars.Int (pos 1)))) no_statement)) })
    ∷ [])
    ([])
    ([])
    ((3, (is_same (m 3 2 34) (position_type (m 1 2 44) 0) (scalar_type (m 2 2 47) scalars.Int)))
    ∷ [])
    (around 0 ([]) false ∷ around 1 (None ∷ []) true ∷ [])
    ([])

abbrev pub members_of_templates_unit_items : List Item
members_of_templates_unit_items = (a_declaration (d 0) ∷ a_declaration (d 2) ∷ a_declaration (d 3) ∷ [])
