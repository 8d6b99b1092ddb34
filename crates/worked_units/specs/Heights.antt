-- How far questions go into one another: the limit on their height.
use Rattle.std.specs.Prelude.{pos, true, false, [], ◌∷◌, Some, None, codes}
use Rattle.cx_base.specs.declared.value.Scalar.TheVariants as scalars
use Rattle.cx_term.specs.Term.{param, inst, val, arguments}
use Rattle.cx_term.specs.declared.word.Word.TheVariants as word
use Rattle.cx_questions.specs.Forms.{Expression, literal, position_name, binary, scope, requires, position_type, scalar_type, template_id, no_argument, and_type, and_value, no_parameter, no_requirement, and_nested, of_value}
use Rattle.cx_questions.specs.Program.{Program, a_struct, a_constant, static_constant}
use Rattle.worked_units.specs.Units.{p, d, m, tp, around, unit}

-- template<int N> struct D { static constexpr bool v = requires { requires D<N - 1>::v; }; };
-- template<> struct D<0> { static constexpr bool v = true; };
-- static_assert(D<2>::v);
-- static_assert(D<20>::v);
abbrev pub nested_instances_unit : Program
nested_instances_unit =
    unit
    (a_struct (record { at = (p 1 24); itself = (inst (d 0) (arguments ((param 0) ∷ []))); is_template = true; template_parameters = (tp (Some scalars.Int) None ∷ []); constraints = ([]); primary = None; specialised_for = ([]); members = (static_constant (codes "v") (d 1) ∷ []) })
    ∷ a_constant (record { at = (p 1 50); name = (codes "v"); of = (scalar_type (m 0 1 45) scalars.Bool); initialiser = (requires (m 6 1 54) no_parameter (and_nested (scope (m 5 1 74) (template_id (m 4 1 74) (p 1 74) (d 0) (and_value (binary (m 3 1 76) word.Minus (position_name (m 1 1 76) 0) (literal (m 2 1 80) scalars.Int (pos 1))) no_argument)) ([]) (codes "v")) no_requirement)); owner = (Some (d 0)) })
    ∷ a_struct (record { at = (p 2 19); itself = (inst (d 0) (arguments ((val scalars.Int (pos 0)) ∷ []))); is_template = false; template_parameters = ([]); constraints = ([]); primary = (Some (d 0)); specialised_for = (of_value (literal (m 7 2 21) scalars.Int (pos 0)) ∷ []); members = (static_constant (codes "v") (d 3) ∷ []) })
    ∷ a_constant (record { at = (p 2 48); name = (codes "v"); of = (scalar_type (m 8 2 43) scalars.Bool); initialiser = (literal (m 9 2 52) scalars.Bool (pos 1)); owner = (Some (d 2)) })
    ∷ [])
    ([])
    ((0, ((d 2) ∷ [])) ∷ [])
    ((5, (scope (m 5 1 74) (template_id (m 4 1 74) (p 1 74) (d 0) (and_value (binary (m 3 1 76) word.Minus (position_name (m 1 1 76) 0) (literal (m 2 1 80) scalars.Int (pos 1))) no_argument)) ([]) (codes "v")))
    ∷ (6, (requires (m 6 1 54) no_parameter (and_nested (scope (m 5 1 74) (template_id (m 4 1 74) (p 1 74) (d 0) (and_value (binary (m 3 1 76) word.Minus (position_name (m 1 1 76) 0) (literal (m 2 1 80) scalars.Int (pos 1))) no_argument)) ([]) (codes "v")) no_requirement)))
    ∷ [])
    (around 0 ((Some scalars.Int) ∷ []) true ∷ around 7 ([]) false ∷ [])
    ([])

abbrev pub nested_instances_unit_assert_3_1 : Expression
nested_instances_unit_assert_3_1 = scope (m 12 3 15) (template_id (m 11 3 15) (p 3 15) (d 0) (and_value (literal (m 10 3 17) scalars.Int (pos 2)) no_argument)) ([]) (codes "v")

abbrev pub nested_instances_unit_assert_4_1 : Expression
nested_instances_unit_assert_4_1 = scope (m 16 4 15) (template_id (m 15 4 15) (p 4 15) (d 0) (and_value (literal (m 14 4 17) scalars.Int (pos 20)) no_argument)) ([]) (codes "v")

-- template<typename T> struct S { static constexpr int v = S<T>::v; };
-- static_assert(S<int>::v == 0);
abbrev pub names_itself_unit : Program
names_itself_unit =
    unit
    (a_struct (record { at = (p 1 29); itself = (inst (d 0) (arguments ((param 0) ∷ []))); is_template = true; template_parameters = (tp None None ∷ []); constraints = ([]); primary = None; specialised_for = ([]); members = (static_constant (codes "v") (d 1) ∷ []) })
    ∷ a_constant (record { at = (p 1 54); name = (codes "v"); of = (scalar_type (m 0 1 50) scalars.Int); initialiser = (scope (m 3 1 58) (template_id (m 2 1 58) (p 1 58) (d 0) (and_type (position_type (m 1 1 60) 0) no_argument)) ([]) (codes "v")); owner = (Some (d 0)) })
    ∷ [])
    ([])
    ([])
    ([])
    (around 0 (None ∷ []) true ∷ around 4 ([]) false ∷ [])
    ([])

abbrev pub names_itself_unit_assert_2_1 : Expression
names_itself_unit_assert_2_1 = binary (m 8 2 15) word.Equal (scope (m 6 2 15) (template_id (m 5 2 15) (p 2 15) (d 0) (and_type (scalar_type (m 4 2 17) scalars.Int) no_argument)) ([]) (codes "v")) (literal (m 7 2 28) scalars.Int (pos 0))

-- template<int N> struct D { static constexpr bool v = requires { requires D<N - 1>::v; }; };
-- template<> struct D<0> { static constexpr bool v = true; };
-- static_assert(D<171>::v);
abbrev pub one_instance_deeper_unit : Program
one_instance_deeper_unit =
    unit
    (a_struct (record { at = (p 1 24); itself = (inst (d 0) (arguments ((param 0) ∷ []))); is_template = true; template_parameters = (tp (Some scalars.Int) None ∷ []); constraints = ([]); primary = None; specialised_for = ([]); members = (static_constant (codes "v") (d 1) ∷ []) })
    ∷ a_constant (record { at = (p 1 50); name = (codes "v"); of = (scalar_type (m 0 1 45) scalars.Bool); initialiser = (requires (m 6 1 54) no_parameter (and_nested (scope (m 5 1 74) (template_id (m 4 1 74) (p 1 74) (d 0) (and_value (binary (m 3 1 76) word.Minus (position_name (m 1 1 76) 0) (literal (m 2 1 80) scalars.Int (pos 1))) no_argument)) ([]) (codes "v")) no_requirement)); owner = (Some (d 0)) })
    ∷ a_struct (record { at = (p 2 19); itself = (inst (d 0) (arguments ((val scalars.Int (pos 0)) ∷ []))); is_template = false; template_parameters = ([]); constraints = ([]); primary = (Some (d 0)); specialised_for = (of_value (literal (m 7 2 21) scalars.Int (pos 0)) ∷ []); members = (static_constant (codes "v") (d 3) ∷ []) })
    ∷ a_constant (record { at = (p 2 48); name = (codes "v"); of = (scalar_type (m 8 2 43) scalars.Bool); initialiser = (literal (m 9 2 52) scalars.Bool (pos 1)); owner = (Some (d 2)) })
    ∷ [])
    ([])
    ((0, ((d 2) ∷ [])) ∷ [])
    ((5, (scope (m 5 1 74) (template_id (m 4 1 74) (p 1 74) (d 0) (and_value (binary (m 3 1 76) word.Minus (position_name (m 1 1 76) 0) (literal (m 2 1 80) scalars.Int (pos 1))) no_argument)) ([]) (codes "v")))
    ∷ (6, (requires (m 6 1 54) no_parameter (and_nested (scope (m 5 1 74) (template_id (m 4 1 74) (p 1 74) (d 0) (and_value (binary (m 3 1 76) word.Minus (position_name (m 1 1 76) 0) (literal (m 2 1 80) scalars.Int (pos 1))) no_argument)) ([]) (codes "v")) no_requirement)))
    ∷ [])
    (around 0 ((Some scalars.Int) ∷ []) true ∷ around 7 ([]) false ∷ [])
    ([])

abbrev pub one_instance_deeper_unit_assert_3_1 : Expression
one_instance_deeper_unit_assert_3_1 = scope (m 12 3 15) (template_id (m 11 3 15) (p 3 15) (d 0) (and_value (literal (m 10 3 17) scalars.Int (pos 171)) no_argument)) ([]) (codes "v")
