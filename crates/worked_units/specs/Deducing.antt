-- Template arguments: deduced, given, by default ([temp.deduct.call], [temp.arg.explicit], [temp.param]).
use Rattle.std.specs.Prelude.{pos, true, false, [], ◌∷◌, Some, None, codes}
use Rattle.cx_base.specs.declared.value.Scalar.TheVariants as scalars
use Rattle.cx_term.specs.Term.{param, scalar, struct, inst, const, ref, val, arguments}
use Rattle.cx_term.specs.declared.word.Word.TheVariants as word
use Rattle.cx_questions.specs.Forms.{Expression, literal, local_name, position_name, constant_name, unary, binary, call, list, concept_id, requires, no_expression, and_expression, functions, functions_with, position_type, scalar_type, void_type, struct_type, template_id, const_type, reference_type, member_type, decltype_type, no_argument, and_type, and_value, no_parameter, no_requirement, and_simple, of_type, of_value, block, return_statement, expression_statement, no_statement, and_statement}
use Rattle.cx_questions.specs.Program.{Program, a_function, a_struct, a_concept, a_constant, a_field, field, member_alias}
use Rattle.cx_questions.specs.Environments.{Environment}
use Rattle.worked_units.specs.Units.{p, d, m, tp, parameter, around, unit}

-- template<typename T> int v(T) { return 1; }
-- template<typename T> int w(const T) { return 1; }
-- template<typename T> int r(T&) { return 1; }
-- template<typename T> int c(const T&) { return 1; }
-- template<typename T> int d(T, T&) { return 1; }
-- int g(int i, const int k) { return v(i) + v(k) + w(k) + r(i) + r(k) + r(1) + c(i) + c(k) + c(1) + d(k, i) + d(i, k); }
abbrev pub const_and_references_unit : Program
const_and_references_unit =
    unit
    (a_function (record { at = (p 1 26); name = (codes "v"); owner = None; is_template = true; template_parameters = (tp None None ∷ []); constraints = ([]); parameters = (parameter (position_type (m 1 1 28) 0) 0 false ∷ []); result = (scalar_type (m 0 1 22) scalars.Int); is_const = false; is_constexpr = false; body = Some (block (m 4 1 31) (and_statement (return_statement (m 3 1 33) (Some (literal (m 2 1 40) scalars.Int (pos 1)))) no_statement)) })
    ∷ a_function (record { at = (p 2 26); name = (codes "w"); owner = None; is_template = true; template_parameters = (tp None None ∷ []); constraints = ([]); parameters = (parameter (const_type (m 6 2 28) (position_type (m 6 2 28) 0)) 0 false ∷ []); result = (scalar_type (m 5 2 22) scalars.Int); is_const = false; is_constexpr = false; body = Some (block (m 9 2 37) (and_statement (return_statement (m 8 2 39) (Some (literal (m 7 2 46) scalars.Int (pos 1)))) no_statement)) })
    ∷ a_function (record { at = (p 3 26); name = (codes "r"); owner = None; is_template = true; template_parameters = (tp None None ∷ []); constraints = ([]); parameters = (parameter (reference_type (m 11 3 28) (position_type (m 11 3 28) 0)) 0 false ∷ []); result = (scalar_type (m 10 3 22) scalars.Int); is_const = false; is_constexpr = false; body = Some (block (m 14 3 32) (and_statement (return_statement (m 13 3 34) (Some (literal (m 12 3 41) scalars.Int (pos 1)))) no_statement)) })
    ∷ a_function (record { at = (p 4 26); name = (codes "c"); owner = None; is_template = true; template_parameters = (tp None None ∷ []); constraints = ([]); parameters = (parameter (reference_type (m 16 4 28) (const_type (m 16 4 28) (position_type (m 16 4 28) 0))) 0 false ∷ []); result = (scalar_type (m 15 4 22) scalars.Int); is_const = false; is_constexpr = false; body = Some (block (m 19 4 38) (and_statement (return_statement (m 18 4 40) (Some (literal (m 17 4 47) scalars.Int (pos 1)))) no_statement)) })
    ∷ a_function (record { at = (p 5 26); name = (codes "d"); owner = None; is_template = true; template_parameters = (tp None None ∷ []); constraints = ([]); parameters = (parameter (position_type (m 21 5 28) 0) 0 false ∷ parameter (reference_type (m 22 5 31) (position_type (m 22 5 31) 0)) 1 false ∷ []); result = (scalar_type (m 20 5 22) scalars.Int); is_const = false; is_constexpr = false; body = Some (block (m 25 5 35) (and_statement (return_statement (m 24 5 37) (Some (literal (m 23 5 44) scalars.Int (pos 1)))) no_statement)) })
    ∷ a_function (record { at = (p 6 5); name = (codes "g"); owner = None; is_template = false; template_parameters = ([]); constraints = ([]); parameters = (parameter (scalar_type (m 27 6 7) scalars.Int) 0 true ∷ parameter (const_type (m 28 6 14) (scalar_type (m 28 6 14) scalars.Int)) 1 true ∷ []); result = (scalar_type (m 26 6 1) scalars.Int); is_const = false; is_constexpr = false; body = Some (block (m 75 6 27) (and_statement (return_statement (m 74 6 29) (Some (binary (m 73 6 36) word.Plus (binary (m 68 6 36) word.Plus (binary (m 63 6 36) word.Plus (binary (m 59 6 36) word.Plus (binary (m 55 6 36) word.Plus (binary (m 51 6 36) word.Plus (binary (m 47 6 36) word.Plus (binary (m 43 6 36) word.Plus (binary (m 39 6 36) word.Plus (binary (m 35 6 36) word.Plus (call (m 31 6 36) (functions (m 29 6 36) (codes "v") 1) (and_expression (local_name (m 30 6 38) 0) no_expression)) (call (m 34 6 43) (functions (m 32 6 43) (codes "v") 1) (and_expression (local_name (m 33 6 45) 1) no_expression))) (call (m 38 6 50) (functions (m 36 6 50) (codes "w") 1) (and_expression (local_name (m 37 6 52) 1) no_expression))) (call (m 42 6 57) (functions (m 40 6 57) (codes "r") 1) (and_expression (local_name (m 41 6 59) 0) no_expression))) (call (m 46 6 64) (functions (m 44 6 64) (codes "r") 1) (and_expression (local_name (m 45 6 66) 1) no_expression))) (call (m 50 6 71) (functions (m 48 6 71) (codes "r") 1) (and_expression (literal (m 49 6 73) scalars.Int (pos 1)) no_expression))) (call (m 54 6 78) (functions (m 52 6 78) (codes "c") 1) (and_expression (local_name (m 53 6 80) 0) no_expression))) (call (m 58 6 85) (functions (m 56 6 85) (codes "c") 1) (and_expression (local_name (m 57 6 87) 1) no_expression))) (call (m 62 6 92) (functions (m 60 6 92) (codes "c") 1) (and_expression (literal (m 61 6 94) scalars.Int (pos 1)) no_expression))) (call (m 67 6 99) (functions (m 64 6 99) (codes "d") 1) (and_expression (local_name (m 65 6 101) 1) (and_expression (local_name (m 66 6 104) 0) no_expression)))) (call (m 72 6 109) (functions (m 69 6 109) (codes "d") 1) (and_expression (local_name (m 70 6 111) 0) (and_expression (local_name (m 71 6 114) 1) no_expression)))))) no_statement)) })
    ∷ [])
    (((codes "v"), ((d 0) ∷ [])) ∷ ((codes "w"), ((d 1) ∷ [])) ∷ ((codes "r"), ((d 2) ∷ [])) ∷ ((codes "c"), ((d 3) ∷ [])) ∷ ((codes "d"), ((d 4) ∷ [])) ∷ ((codes "g"), ((d 5) ∷ [])) ∷ [])
    ([])
    ([])
    (around 0 (None ∷ []) true ∷ around 26 ([]) false ∷ [])
    ([])

abbrev pub const_and_references_unit_call_6_36 : Expression
const_and_references_unit_call_6_36 = call (m 31 6 36) (functions (m 29 6 36) (codes "v") 1) (and_expression (local_name (m 30 6 38) 0) no_expression)

abbrev pub const_and_references_unit_locals_6_36 : Environment
const_and_references_unit_locals_6_36 = record { arguments = []; variables = (Some (record { of = (scalar scalars.Int); value = None }) ∷ Some (record { of = (const (scalar scalars.Int)); value = None }) ∷ []); object = None }

abbrev pub const_and_references_unit_call_6_43 : Expression
const_and_references_unit_call_6_43 = call (m 34 6 43) (functions (m 32 6 43) (codes "v") 1) (and_expression (local_name (m 33 6 45) 1) no_expression)

abbrev pub const_and_references_unit_locals_6_43 : Environment
const_and_references_unit_locals_6_43 = record { arguments = []; variables = (Some (record { of = (scalar scalars.Int); value = None }) ∷ Some (record { of = (const (scalar scalars.Int)); value = None }) ∷ []); object = None }

abbrev pub const_and_references_unit_call_6_50 : Expression
const_and_references_unit_call_6_50 = call (m 38 6 50) (functions (m 36 6 50) (codes "w") 1) (and_expression (local_name (m 37 6 52) 1) no_expression)

abbrev pub const_and_references_unit_locals_6_50 : Environment
const_and_references_unit_locals_6_50 = record { arguments = []; variables = (Some (record { of = (scalar scalars.Int); value = None }) ∷ Some (record { of = (const (scalar scalars.Int)); value = None }) ∷ []); object = None }

abbrev pub const_and_references_unit_call_6_57 : Expression
const_and_references_unit_call_6_57 = call (m 42 6 57) (functions (m 40 6 57) (codes "r") 1) (and_expression (local_name (m 41 6 59) 0) no_expression)

abbrev pub const_and_references_unit_locals_6_57 : Environment
const_and_references_unit_locals_6_57 = record { arguments = []; variables = (Some (record { of = (scalar scalars.Int); value = None }) ∷ Some (record { of = (const (scalar scalars.Int)); value = None }) ∷ []); object = None }

abbrev pub const_and_references_unit_call_6_64 : Expression
const_and_references_unit_call_6_64 = call (m 46 6 64) (functions (m 44 6 64) (codes "r") 1) (and_expression (local_name (m 45 6 66) 1) no_expression)

abbrev pub const_and_references_unit_locals_6_64 : Environment
const_and_references_unit_locals_6_64 = record { arguments = []; variables = (Some (record { of = (scalar scalars.Int); value = None }) ∷ Some (record { of = (const (scalar scalars.Int)); value = None }) ∷ []); object = None }

abbrev pub const_and_references_unit_call_6_71 : Expression
const_and_references_unit_call_6_71 = call (m 50 6 71) (functions (m 48 6 71) (codes "r") 1) (and_expression (literal (m 49 6 73) scalars.Int (pos 1)) no_expression)

abbrev pub const_and_references_unit_locals_6_71 : Environment
const_and_references_unit_locals_6_71 = record { arguments = []; variables = (Some (record { of = (scalar scalars.Int); value = None }) ∷ Some (record { of = (const (scalar scalars.Int)); value = None }) ∷ []); object = None }

abbrev pub const_and_references_unit_call_6_78 : Expression
const_and_references_unit_call_6_78 = call (m 54 6 78) (functions (m 52 6 78) (codes "c") 1) (and_expression (local_name (m 53 6 80) 0) no_expression)

abbrev pub const_and_references_unit_locals_6_78 : Environment
const_and_references_unit_locals_6_78 = record { arguments = []; variables = (Some (record { of = (scalar scalars.Int); value = None }) ∷ Some (record { of = (const (scalar scalars.Int)); value = None }) ∷ []); object = None }

abbrev pub const_and_references_unit_call_6_85 : Expression
const_and_references_unit_call_6_85 = call (m 58 6 85) (functions (m 56 6 85) (codes "c") 1) (and_expression (local_name (m 57 6 87) 1) no_expression)

abbrev pub const_and_references_unit_locals_6_85 : Environment
const_and_references_unit_locals_6_85 = record { arguments = []; variables = (Some (record { of = (scalar scalars.Int); value = None }) ∷ Some (record { of = (const (scalar scalars.Int)); value = None }) ∷ []); object = None }

abbrev pub const_and_references_unit_call_6_92 : Expression
const_and_references_unit_call_6_92 = call (m 62 6 92) (functions (m 60 6 92) (codes "c") 1) (and_expression (literal (m 61 6 94) scalars.Int (pos 1)) no_expression)

abbrev pub const_and_references_unit_locals_6_92 : Environment
const_and_references_unit_locals_6_92 = record { arguments = []; variables = (Some (record { of = (scalar scalars.Int); value = None }) ∷ Some (record { of = (const (scalar scalars.Int)); value = None }) ∷ []); object = None }

abbrev pub const_and_references_unit_call_6_99 : Expression
const_and_references_unit_call_6_99 = call (m 67 6 99) (functions (m 64 6 99) (codes "d") 1) (and_expression (local_name (m 65 6 101) 1) (and_expression (local_name (m 66 6 104) 0) no_expression))

abbrev pub const_and_references_unit_locals_6_99 : Environment
const_and_references_unit_locals_6_99 = record { arguments = []; variables = (Some (record { of = (scalar scalars.Int); value = None }) ∷ Some (record { of = (const (scalar scalars.Int)); value = None }) ∷ []); object = None }

abbrev pub const_and_references_unit_call_6_109 : Expression
const_and_references_unit_call_6_109 = call (m 72 6 109) (functions (m 69 6 109) (codes "d") 1) (and_expression (local_name (m 70 6 111) 0) (and_expression (local_name (m 71 6 114) 1) no_expression))

abbrev pub const_and_references_unit_locals_6_109 : Environment
const_and_references_unit_locals_6_109 = record { arguments = []; variables = (Some (record { of = (scalar scalars.Int); value = None }) ∷ Some (record { of = (const (scalar scalars.Int)); value = None }) ∷ []); object = None }

-- template<typename T> struct Tag { };
-- template<typename T, typename U> struct Two { };
-- template<typename T> int a(Tag<T>) { return 1; }
-- template<typename T> int b(Tag<const T>) { return 1; }
-- template<typename T> int c(Tag<T&>) { return 1; }
-- template<typename T> int d(Tag<Tag<T>>) { return 1; }
-- template<typename T, typename U> int e(Two<T, U>) { return 1; }
-- template<typename T> int f(Two<T, T>) { return 1; }
-- template<typename T> int h(Two<T, Tag<T>>) { return 1; }
-- template<typename T> int r(Tag<T>&) { return 1; }
-- template<typename T> int s(const Tag<T>&) { return 1; }
-- int g(Tag<int> i, Tag<const int> k, Tag<int&> l, const Tag<int> m, Two<int, bool> n, Two<int, int> o, Two<int, Tag<int>> p, Tag<Tag<bool>> q) {
--   a(i);
--   a(k);
--   a(l);
--   a(m);
--   a(n);
--   a(1);
--   b(i);
--   b(k);
--   c(i);
--   c(l);
--   d(i);
--   d(q);
--   e(n);
--   f(n);
--   f(o);
--   h(o);
--   h(p);
--   r(i);
--   r(m);
--   s(m);
--   return s(Tag<bool>{});
-- }
abbrev pub parts_unit : Program
parts_unit =
    unit
    (a_struct (record { at = (p 1 29); itself = (inst (d 0) (arguments ((param 0) ∷ []))); is_template = true; template_parameters = (tp None None ∷ []); constraints = ([]); primary = None; specialised_for = ([]); members = ([]) })
    ∷ a_struct (record { at = (p 2 41); itself = (inst (d 1) (arguments ((param 0) ∷ (param 1) ∷ []))); is_template = true; template_parameters = (tp None None ∷ tp None None ∷ []); constraints = ([]); primary = None; specialised_for = ([]); members = ([]) })
    ∷ a_function (record { at = (p 3 26); name = (codes "a"); owner = None; is_template = true; template_parameters = (tp None None ∷ []); constraints = ([]); parameters = (parameter (template_id (m 2 3 28) (p 3 28) (d 0) (and_type (position_type (m 1 3 32) 0) no_argument)) 0 false ∷ []); result = (scalar_type (m 0 3 22) scalars.Int); is_const = false; is_constexpr = false; body = Some (block (m 5 3 36) (and_statement (return_statement (m 4 3 38) (Some (literal (m 3 3 45) scalars.Int (pos 1)))) no_statement)) })
    ∷ a_function (record { at = (p 4 26); name = (codes "b"); owner = None; is_template = true; template_parameters = (tp None None ∷ []); constraints = ([]); parameters = (parameter (template_id (m 8 4 28) (p 4 28) (d 0) (and_type (const_type (m 7 4 32) (position_type (m 7 4 32) 0)) no_argument)) 0 false ∷ []); result = (scalar_type (m 6 4 22) scalars.Int); is_const = false; is_constexpr = false; body = Some (block (m 11 4 42) (and_statement (return_statement (m 10 4 44) (Some (literal (m 9 4 51) scalars.Int (pos 1)))) no_statement)) })
    ∷ a_function (record { at = (p 5 26); name = (codes "c"); owner = None; is_template = true; template_parameters = (tp None None ∷ []); constraints = ([]); parameters = (parameter (template_id (m 14 5 28) (p 5 28) (d 0) (and_type (reference_type (m 13 5 32) (position_type (m 13 5 32) 0)) no_argument)) 0 false ∷ []); result = (scalar_type (m 12 5 22) scalars.Int); is_const = false; is_constexpr = false; body = Some (block (m 17 5 37) (and_statement (return_statement (m 16 5 39) (Some (literal (m 15 5 46) scalars.Int (pos 1)))) no_statement)) })
    ∷ a_function (record { at = (p 6 26); name = (codes "d"); owner = None; is_template = true; template_parameters = (tp None None ∷ []); constraints = ([]); parameters = (parameter (template_id (m 21 6 28) (p 6 28) (d 0) (and_type (template_id (m 20 6 32) (p 6 32) (d 0) (and_type (position_type (m 19 6 36) 0) no_argument)) no_argument)) 0 false ∷ []); result = (scalar_type (m 18 6 22) scalars.Int); is_const = false; is_constexpr = false; body = Some (block (m 24 6 41) (and_statement (return_statement (m 23 6 43) (Some (literal (m 22 6 50) scalars.Int (pos 1)))) no_statement)) })
    ∷ a_function (record { at = (p 7 38); name = (codes "e"); owner = None; is_template = true; template_parameters = (tp None None ∷ tp None None ∷ []); constraints = ([]); parameters = (parameter (template_id (m 28 7 40) (p 7 40) (d 1) (and_type (position_type (m 26 7 44) 0) (and_type (position_type (m 27 7 47) 1) no_argument))) 0 false ∷ []); result = (scalar_type (m 25 7 34) scalars.Int); is_const = false; is_constexpr = false; body = Some (block (m 31 7 51) (and_statement (return_statement (m 30 7 53) (Some (literal (m 29 7 60) scalars.Int (pos 1)))) no_statement)) })
    ∷ a_function (record { at = (p 8 26); name = (codes "f"); owner = None; is_template = true; template_parameters = (tp None None ∷ []); constraints = ([]); parameters = (parameter (template_id (m 35 8 28) (p 8 28) (d 1) (and_type (position_type (m 33 8 32) 0) (and_type (position_type (m 34 8 35) 0) no_argument))) 0 false ∷ []); result = (scalar_type (m 32 8 22) scalars.Int); is_const = false; is_constexpr = false; body = Some (block (m 38 8 39) (and_statement (return_statement (m 37 8 41) (Some (literal (m 36 8 48) scalars.Int (pos 1)))) no_statement)) })
    ∷ a_function (record { at = (p 9 26); name = (codes "h"); owner = None; is_template = true; template_parameters = (tp None None ∷ []); constraints = ([]); parameters = (parameter (template_id (m 43 9 28) (p 9 28) (d 1) (and_type (position_type (m 40 9 32) 0) (and_type (template_id (m 42 9 35) (p 9 35) (d 0) (and_type (position_type (m 41 9 39) 0) no_argument)) no_argument))) 0 false ∷ []); result = (scalar_type (m 39 9 22) scalars.Int); is_const = false; is_constexpr = false; body = Some (block (m 46 9 44) (and_statement (return_statement (m 45 9 46) (Some (literal (m 44 9 53) scalars.Int (pos 1)))) no_statement)) })
    ∷ a_function (record { at = (p 10 26); name = (codes "r"); owner = None; is_template = true; template_parameters = (tp None None ∷ []); constraints = ([]); parameters = (parameter (reference_type (m 49 10 28) (template_id (m 49 10 28) (p 10 28) (d 0) (and_type (position_type (m 48 10 32) 0) no_argument))) 0 false ∷ []); result = (scalar_type (m 47 10 22) scalars.Int); is_const = false; is_constexpr = false; body = Some (block (m 52 10 37) (and_statement (return_statement (m 51 10 39) (Some (literal (m 50 10 46) scalars.Int (pos 1)))) no_statement)) })
    ∷ a_function (record { at = (p 11 26); name = (codes "s"); owner = None; is_template = true; template_parameters = (tp None None ∷ []); constraints = ([]); parameters = (parameter (reference_type (m 55 11 28) (const_type (m 55 11 28) (template_id (m 55 11 28) (p 11 34) (d 0) (and_type (position_type (m 54 11 38) 0) no_argument)))) 0 false ∷ []); result = (scalar_type (m 53 11 22) scalars.Int); is_const = false; is_constexpr = false; body = Some (block (m 58 11 43) (and_statement (return_statement (m 57 11 45) (Some (literal (m 56 11 52) scalars.Int (pos 1)))) no_statement)) })
    ∷ a_function (record { at = (p 12 5); name = (codes "g"); owner = None; is_template = false; template_parameters = ([]); constraints = ([]); parameters = (parameter (template_id (m 61 12 7) (p 12 7) (d 0) (and_type (scalar_type (m 60 12 11) scalars.Int) no_argument)) 0 true ∷ parameter (template_id (m 63 12 19) (p 12 19) (d 0) (and_type (const_type (m 62 12 23) (scalar_type (m 62 12 23) scalars.Int)) no_argument)) 1 true ∷ parameter (template_id (m 65 12 37) (p 12 37) (d 0) (and_type (reference_type (m 64 12 41) (scalar_type (m 64 12 41) scalars.Int)) no_argument)) 2 true ∷ parameter (const_type (m 67 12 50) (template_id (m 67 12 50) (p 12 56) (d 0) (and_type (scalar_type (m 66 12 60) scalars.Int) no_argument))) 3 true ∷ parameter (template_id (m 70 12 68) (p 12 68) (d 1) (and_type (scalar_type (m 68 12 72) scalars.Int) (and_type (scalar_type (m 69 12 77) scalars.Bool) no_argument))) 4 true ∷ parameter (template_id (m 73 12 86) (p 12 86) (d 1) (and_type (scalar_type (m 71 12 90) scalars.Int) (and_type (scalar_type (m 72 12 95) scalars.Int) no_argument))) 5 true ∷ parameter (template_id (m 77 12 103) (p 12 103) (d 1) (and_type (scalar_type (m 74 12 107) scalars.Int) (and_type (template_id (m 76 12 112) (p 12 112) (d 0) (and_type (scalar_type (m 75 12 116) scalars.Int) no_argument)) no_argument))) 6 true ∷ parameter (template_id (m 80 12 125) (p 12 125) (d 0) (and_type (template_id (m 79 12 129) (p 12 129) (d 0) (and_type (scalar_type (m 78 12 133) scalars.Bool) no_argument)) no_argument)) 7 true ∷ []); result = (scalar_type (m 59 12 1) scalars.Int); is_const = false; is_constexpr = false; body = Some (block (m 167 12 143) (and_statement (expression_statement (m 84 13 3) (call (m 83 13 3) (functions (m 81 13 3) (codes "a") 1) (and_expression (local_name (m 82 13 5) 0) no_expression))) (and_statement (expression_statement (m 88 14 3) (call (m 87 14 3) (functions (m 85 14 3) (codes "a") 1) (and_expression (local_name (m 86 14 5) 1) no_expression))) (and_statement (expression_statement (m 92 15 3) (call (m 91 15 3) (functions (m 89 15 3) (codes "a") 1) (and_expression (local_name (m 90 15 5) 2) no_expression))) (and_statement (expression_statement (m 96 16 3) (call (m 95 16 3) (functions (m 93 16 3) (codes "a") 1) (and_expression (local_name (m 94 16 5) 3) no_expression))) (and_statement (expression_statement (m 100 17 3) (call (m 99 17 3) (functions (m 97 17 3) (codes "a") 1) (and_expression (local_name (m 98 17 5) 4) no_expression))) (and_statement (expression_statement (m 104 18 3) (call (m 103 18 3) (functions (m 101 18 3) (codes "a") 1) (and_expression (literal (m 102 18 5) scalars.Int (pos 1)) no_expression))) (and_statement (expression_statement (m 108 19 3) (call (m 107 19 3) (functions (m 105 19 3) (codes "b") 1) (and_expression (local_name (m 106 19 5) 0) no_expression))) (and_statement (expression_statement (m 112 20 3) (call (m 111 20 3) (functions (m 109 20 3) (codes "b") 1) (and_expression (local_name (m 110 20 5) 1) no_expression))) (and_statement (expression_statement (m 116 21 3) (call (m 115 21 3) (functions (m 113 21 3) (codes "c") 1) (and_expression (local_name (m 114 21 5) 0) no_expression))) (and_statement (expression_statement (m 120 22 3) (call (m 119 22 3) (functions (m 117 22 3) (codes "c") 1) (and_expression (local_name (m 118 22 5) 2) no_expression))) (and_statement (expression_statement (m 124 23 3) (call (m 123 23 3) (functions (m 121 23 3) (codes "d") 1) (and_expression (local_name (m 122 23 5) 0) no_expression))) (and_statement (expression_statement (m 128 24 3) (call (m 127 24 3) (functions (m 125 24 3) (codes "d") 1) (and_expression (local_name (m 126 24 5) 7) no_expression))) (and_statement (expression_statement (m 132 25 3) (call (m 131 25 3) (functions (m 129 25 3) (codes "e") 1) (and_expression (local_name (m 130 25 5) 4) no_expression))) (and_statement (expression_statement (m 136 26 3) (call (m 135 26 3) (functions (m 133 26 3) (codes "f") 1) (and_expression (local_name (m 134 26 5) 4) no_expression))) (and_statement (expression_statement (m 140 27 3) (call (m 139 27 3) (functions (m 137 27 3) (codes "f") 1) (and_expression (local_name (m 138 27 5) 5) no_expression))) (and_statement (expression_statement (m 144 28 3) (call (m 143 28 3) (functions (m 141 28 3) (codes "h") 1) (and_expression (local_name (m 142 28 5) 5) no_expression))) (and_statement (expression_statement (m 148 29 3) (call (m 147 29 3) (functions (m 145 29 3) (codes "h") 1) (and_expression (local_name (m 146 29 5) 6) no_expression))) (and_statement (expression_statement (m 152 30 3) (call (m 151 30 3) (functions (m 149 30 3) (codes "r") 1) (and_expression (local_name (m 150 30 5) 0) no_expression))) (and_statement (expression_statement (m 156 31 3) (call (m 155 31 3) (functions (m 153 31 3) (codes "r") 1) (and_expression (local_name (m 154 31 5) 3) no_expression))) (and_statement (expression_statement (m 160 32 3) (call (m 159 32 3) (functions (m 157 32 3) (codes "s") 1) (and_expression (local_name (m 158 32 5) 3) no_expression))) (and_statement (return_statement (m 166 33 3) (Some (call (m 165 33 10) (functions (m 161 33 10) (codes "s") 1) (and_expression (list (m 164 33 12) (template_id (m 163 33 12) (p 33 12) (d 0) (and_type (scalar_type (m 162 33 16) scalars.Bool) no_argument)) no_expression) no_expression)))) no_statement)))))))))))))))))))))) })
    ∷ [])
    (((codes "a"), ((d 2) ∷ [])) ∷ ((codes "b"), ((d 3) ∷ [])) ∷ ((codes "c"), ((d 4) ∷ [])) ∷ ((codes "d"), ((d 5) ∷ [])) ∷ ((codes "e"), ((d 6) ∷ [])) ∷ ((codes "f"), ((d 7) ∷ [])) ∷ ((codes "h"), ((d 8) ∷ [])) ∷ ((codes "r"), ((d 9) ∷ [])) ∷ ((codes "s"), ((d 10) ∷ [])) ∷ ((codes "g"), ((d 11) ∷ [])) ∷ [])
    ([])
    ([])
    (around 0 (None ∷ []) true ∷ around 25 (None ∷ None ∷ []) true ∷ around 32 (None ∷ []) true ∷ around 59 ([]) false ∷ [])
    ([])

abbrev pub parts_unit_call_13_3 : Expression
parts_unit_call_13_3 = call (m 83 13 3) (functions (m 81 13 3) (codes "a") 1) (and_expression (local_name (m 82 13 5) 0) no_expression)

abbrev pub parts_unit_locals_13_3 : Environment
parts_unit_locals_13_3 = record { arguments = []; variables = (Some (record { of = (inst (d 0) (arguments ((scalar scalars.Int) ∷ []))); value = None }) ∷ Some (record { of = (inst (d 0) (arguments ((const (scalar scalars.Int)) ∷ []))); value = None }) ∷ Some (record { of = (inst (d 0) (arguments ((ref (scalar scalars.Int)) ∷ []))); value = None }) ∷ Some (record { of = (const (inst (d 0) (arguments ((scalar scalars.Int) ∷ [])))); value = None }) ∷ Some (record { of = (inst (d 1) (arguments ((scalar scalars.Int) ∷ (scalar scalars.Bool) ∷ []))); value = None }) ∷ Some (record { of = (inst (d 1) (arguments ((scalar scalars.Int) ∷ (scalar scalars.Int) ∷ []))); value = None }) ∷ Some (record { of = (inst (d 1) (arguments ((scalar scalars.Int) ∷ (inst (d 0) (arguments ((scalar scalars.Int) ∷ []))) ∷ []))); value = None }) ∷ Some (record { of = (inst (d 0) (arguments ((inst (d 0) (arguments ((scalar scalars.Bool) ∷ []))) ∷ []))); value = None }) ∷ []); object = None }

abbrev pub parts_unit_call_14_3 : Expression
parts_unit_call_14_3 = call (m 87 14 3) (functions (m 85 14 3) (codes "a") 1) (and_expression (local_name (m 86 14 5) 1) no_expression)

abbrev pub parts_unit_locals_14_3 : Environment
parts_unit_locals_14_3 = record { arguments = []; variables = (Some (record { of = (inst (d 0) (arguments ((scalar scalars.Int) ∷ []))); value = None }) ∷ Some (record { of = (inst (d 0) (arguments ((const (scalar scalars.Int)) ∷ []))); value = None }) ∷ Some (record { of = (inst (d 0) (arguments ((ref (scalar scalars.Int)) ∷ []))); value = None }) ∷ Some (record { of = (const (inst (d 0) (arguments ((scalar scalars.Int) ∷ [])))); value = None }) ∷ Some (record { of = (inst (d 1) (arguments ((scalar scalars.Int) ∷ (scalar scalars.Bool) ∷ []))); value = None }) ∷ Some (record { of = (inst (d 1) (arguments ((scalar scalars.Int) ∷ (scalar scalars.Int) ∷ []))); value = None }) ∷ Some (record { of = (inst (d 1) (arguments ((scalar scalars.Int) ∷ (inst (d 0) (arguments ((scalar scalars.Int) ∷ []))) ∷ []))); value = None }) ∷ Some (record { of = (inst (d 0) (arguments ((inst (d 0) (arguments ((scalar scalars.Bool) ∷ []))) ∷ []))); value = None }) ∷ []); object = None }

abbrev pub parts_unit_call_15_3 : Expression
parts_unit_call_15_3 = call (m 91 15 3) (functions (m 89 15 3) (codes "a") 1) (and_expression (local_name (m 90 15 5) 2) no_expression)

abbrev pub parts_unit_locals_15_3 : Environment
parts_unit_locals_15_3 = record { arguments = []; variables = (Some (record { of = (inst (d 0) (arguments ((scalar scalars.Int) ∷ []))); value = None }) ∷ Some (record { of = (inst (d 0) (arguments ((const (scalar scalars.Int)) ∷ []))); value = None }) ∷ Some (record { of = (inst (d 0) (arguments ((ref (scalar scalars.Int)) ∷ []))); value = None }) ∷ Some (record { of = (const (inst (d 0) (arguments ((scalar scalars.Int) ∷ [])))); value = None }) ∷ Some (record { of = (inst (d 1) (arguments ((scalar scalars.Int) ∷ (scalar scalars.Bool) ∷ []))); value = None }) ∷ Some (record { of = (inst (d 1) (arguments ((scalar scalars.Int) ∷ (scalar scalars.Int) ∷ []))); value = None }) ∷ Some (record { of = (inst (d 1) (arguments ((scalar scalars.Int) ∷ (inst (d 0) (arguments ((scalar scalars.Int) ∷ []))) ∷ []))); value = None }) ∷ Some (record { of = (inst (d 0) (arguments ((inst (d 0) (arguments ((scalar scalars.Bool) ∷ []))) ∷ []))); value = None }) ∷ []); object = None }

abbrev pub parts_unit_call_16_3 : Expression
parts_unit_call_16_3 = call (m 95 16 3) (functions (m 93 16 3) (codes "a") 1) (and_expression (local_name (m 94 16 5) 3) no_expression)

abbrev pub parts_unit_locals_16_3 : Environment
parts_unit_locals_16_3 = record { arguments = []; variables = (Some (record { of = (inst (d 0) (arguments ((scalar scalars.Int) ∷ []))); value = None }) ∷ Some (record { of = (inst (d 0) (arguments ((const (scalar scalars.Int)) ∷ []))); value = None }) ∷ Some (record { of = (inst (d 0) (arguments ((ref (scalar scalars.Int)) ∷ []))); value = None }) ∷ Some (record { of = (const (inst (d 0) (arguments ((scalar scalars.Int) ∷ [])))); value = None }) ∷ Some (record { of = (inst (d 1) (arguments ((scalar scalars.Int) ∷ (scalar scalars.Bool) ∷ []))); value = None }) ∷ Some (record { of = (inst (d 1) (arguments ((scalar scalars.Int) ∷ (scalar scalars.Int) ∷ []))); value = None }) ∷ Some (record { of = (inst (d 1) (arguments ((scalar scalars.Int) ∷ (inst (d 0) (arguments ((scalar scalars.Int) ∷ []))) ∷ []))); value = None }) ∷ Some (record { of = (inst (d 0) (arguments ((inst (d 0) (arguments ((scalar scalars.Bool) ∷ []))) ∷ []))); value = None }) ∷ []); object = None }

abbrev pub parts_unit_call_17_3 : Expression
parts_unit_call_17_3 = call (m 99 17 3) (functions (m 97 17 3) (codes "a") 1) (and_expression (local_name (m 98 17 5) 4) no_expression)

abbrev pub parts_unit_locals_17_3 : Environment
parts_unit_locals_17_3 = record { arguments = []; variables = (Some (record { of = (inst (d 0) (arguments ((scalar scalars.Int) ∷ []))); value = None }) ∷ Some (record { of = (inst (d 0) (arguments ((const (scalar scalars.Int)) ∷ []))); value = None }) ∷ Some (record { of = (inst (d 0) (arguments ((ref (scalar scalars.Int)) ∷ []))); value = None }) ∷ Some (record { of = (const (inst (d 0) (arguments ((scalar scalars.Int) ∷ [])))); value = None }) ∷ Some (record { of = (inst (d 1) (arguments ((scalar scalars.Int) ∷ (scalar scalars.Bool) ∷ []))); value = None }) ∷ Some (record { of = (inst (d 1) (arguments ((scalar scalars.Int) ∷ (scalar scalars.Int) ∷ []))); value = None }) ∷ Some (record { of = (inst (d 1) (arguments ((scalar scalars.Int) ∷ (inst (d 0) (arguments ((scalar scalars.Int) ∷ []))) ∷ []))); value = None }) ∷ Some (record { of = (inst (d 0) (arguments ((inst (d 0) (arguments ((scalar scalars.Bool) ∷ []))) ∷ []))); value = None }) ∷ []); object = None }

abbrev pub parts_unit_call_18_3 : Expression
parts_unit_call_18_3 = call (m 103 18 3) (functions (m 101 18 3) (codes "a") 1) (and_expression (literal (m 102 18 5) scalars.Int (pos 1)) no_expression)

abbrev pub parts_unit_locals_18_3 : Environment
parts_unit_locals_18_3 = record { arguments = []; variables = (Some (record { of = (inst (d 0) (arguments ((scalar scalars.Int) ∷ []))); value = None }) ∷ Some (record { of = (inst (d 0) (arguments ((const (scalar scalars.Int)) ∷ []))); value = None }) ∷ Some (record { of = (inst (d 0) (arguments ((ref (scalar scalars.Int)) ∷ []))); value = None }) ∷ Some (record { of = (const (inst (d 0) (arguments ((scalar scalars.Int) ∷ [])))); value = None }) ∷ Some (record { of = (inst (d 1) (arguments ((scalar scalars.Int) ∷ (scalar scalars.Bool) ∷ []))); value = None }) ∷ Some (record { of = (inst (d 1) (arguments ((scalar scalars.Int) ∷ (scalar scalars.Int) ∷ []))); value = None }) ∷ Some (record { of = (inst (d 1) (arguments ((scalar scalars.Int) ∷ (inst (d 0) (arguments ((scalar scalars.Int) ∷ []))) ∷ []))); value = None }) ∷ Some (record { of = (inst (d 0) (arguments ((inst (d 0) (arguments ((scalar scalars.Bool) ∷ []))) ∷ []))); value = None }) ∷ []); object = None }

abbrev pub parts_unit_call_19_3 : Expression
parts_unit_call_19_3 = call (m 107 19 3) (functions (m 105 19 3) (codes "b") 1) (and_expression (local_name (m 106 19 5) 0) no_expression)

abbrev pub parts_unit_locals_19_3 : Environment
parts_unit_locals_19_3 = record { arguments = []; variables = (Some (record { of = (inst (d 0) (arguments ((scalar scalars.Int) ∷ []))); value = None }) ∷ Some (record { of = (inst (d 0) (arguments ((const (scalar scalars.Int)) ∷ []))); value = None }) ∷ Some (record { of = (inst (d 0) (arguments ((ref (scalar scalars.Int)) ∷ []))); value = None }) ∷ Some (record { of = (const (inst (d 0) (arguments ((scalar scalars.Int) ∷ [])))); value = None }) ∷ Some (record { of = (inst (d 1) (arguments ((scalar scalars.Int) ∷ (scalar scalars.Bool) ∷ []))); value = None }) ∷ Some (record { of = (inst (d 1) (arguments ((scalar scalars.Int) ∷ (scalar scalars.Int) ∷ []))); value = None }) ∷ Some (record { of = (inst (d 1) (arguments ((scalar scalars.Int) ∷ (inst (d 0) (arguments ((scalar scalars.Int) ∷ []))) ∷ []))); value = None }) ∷ Some (record { of = (inst (d 0) (arguments ((inst (d 0) (arguments ((scalar scalars.Bool) ∷ []))) ∷ []))); value = None }) ∷ []); object = None }

abbrev pub parts_unit_call_20_3 : Expression
parts_unit_call_20_3 = call (m 111 20 3) (functions (m 109 20 3) (codes "b") 1) (and_expression (local_name (m 110 20 5) 1) no_expression)

abbrev pub parts_unit_locals_20_3 : Environment
parts_unit_locals_20_3 = record { arguments = []; variables = (Some (record { of = (inst (d 0) (arguments ((scalar scalars.Int) ∷ []))); value = None }) ∷ Some (record { of = (inst (d 0) (arguments ((const (scalar scalars.Int)) ∷ []))); value = None }) ∷ Some (record { of = (inst (d 0) (arguments ((ref (scalar scalars.Int)) ∷ []))); value = None }) ∷ Some (record { of = (const (inst (d 0) (arguments ((scalar scalars.Int) ∷ [])))); value = None }) ∷ Some (record { of = (inst (d 1) (arguments ((scalar scalars.Int) ∷ (scalar scalars.Bool) ∷ []))); value = None }) ∷ Some (record { of = (inst (d 1) (arguments ((scalar scalars.Int) ∷ (scalar scalars.Int) ∷ []))); value = None }) ∷ Some (record { of = (inst (d 1) (arguments ((scalar scalars.Int) ∷ (inst (d 0) (arguments ((scalar scalars.Int) ∷ []))) ∷ []))); value = None }) ∷ Some (record { of = (inst (d 0) (arguments ((inst (d 0) (arguments ((scalar scalars.Bool) ∷ []))) ∷ []))); value = None }) ∷ []); object = None }

abbrev pub parts_unit_call_21_3 : Expression
parts_unit_call_21_3 = call (m 115 21 3) (functions (m 113 21 3) (codes "c") 1) (and_expression (local_name (m 114 21 5) 0) no_expression)

abbrev pub parts_unit_locals_21_3 : Environment
parts_unit_locals_21_3 = record { arguments = []; variables = (Some (record { of = (inst (d 0) (arguments ((scalar scalars.Int) ∷ []))); value = None }) ∷ Some (record { of = (inst (d 0) (arguments ((const (scalar scalars.Int)) ∷ []))); value = None }) ∷ Some (record { of = (inst (d 0) (arguments ((ref (scalar scalars.Int)) ∷ []))); value = None }) ∷ Some (record { of = (const (inst (d 0) (arguments ((scalar scalars.Int) ∷ [])))); value = None }) ∷ Some (record { of = (inst (d 1) (arguments ((scalar scalars.Int) ∷ (scalar scalars.Bool) ∷ []))); value = None }) ∷ Some (record { of = (inst (d 1) (arguments ((scalar scalars.Int) ∷ (scalar scalars.Int) ∷ []))); value = None }) ∷ Some (record { of = (inst (d 1) (arguments ((scalar scalars.Int) ∷ (inst (d 0) (arguments ((scalar scalars.Int) ∷ []))) ∷ []))); value = None }) ∷ Some (record { of = (inst (d 0) (arguments ((inst (d 0) (arguments ((scalar scalars.Bool) ∷ []))) ∷ []))); value = None }) ∷ []); object = None }

abbrev pub parts_unit_call_22_3 : Expression
parts_unit_call_22_3 = call (m 119 22 3) (functions (m 117 22 3) (codes "c") 1) (and_expression (local_name (m 118 22 5) 2) no_expression)

abbrev pub parts_unit_locals_22_3 : Environment
parts_unit_locals_22_3 = record { arguments = []; variables = (Some (record { of = (inst (d 0) (arguments ((scalar scalars.Int) ∷ []))); value = None }) ∷ Some (record { of = (inst (d 0) (arguments ((const (scalar scalars.Int)) ∷ []))); value = None }) ∷ Some (record { of = (inst (d 0) (arguments ((ref (scalar scalars.Int)) ∷ []))); value = None }) ∷ Some (record { of = (const (inst (d 0) (arguments ((scalar scalars.Int) ∷ [])))); value = None }) ∷ Some (record { of = (inst (d 1) (arguments ((scalar scalars.Int) ∷ (scalar scalars.Bool) ∷ []))); value = None }) ∷ Some (record { of = (inst (d 1) (arguments ((scalar scalars.Int) ∷ (scalar scalars.Int) ∷ []))); value = None }) ∷ Some (record { of = (inst (d 1) (arguments ((scalar scalars.Int) ∷ (inst (d 0) (arguments ((scalar scalars.Int) ∷ []))) ∷ []))); value = None }) ∷ Some (record { of = (inst (d 0) (arguments ((inst (d 0) (arguments ((scalar scalars.Bool) ∷ []))) ∷ []))); value = None }) ∷ []); object = None }

abbrev pub parts_unit_call_23_3 : Expression
parts_unit_call_23_3 = call (m 123 23 3) (functions (m 121 23 3) (codes "d") 1) (and_expression (local_name (m 122 23 5) 0) no_expression)

abbrev pub parts_unit_locals_23_3 : Environment
parts_unit_locals_23_3 = record { arguments = []; variables = (Some (record { of = (inst (d 0) (arguments ((scalar scalars.Int) ∷ []))); value = None }) ∷ Some (record { of = (inst (d 0) (arguments ((const (scalar scalars.Int)) ∷ []))); value = None }) ∷ Some (record { of = (inst (d 0) (arguments ((ref (scalar scalars.Int)) ∷ []))); value = None }) ∷ Some (record { of = (const (inst (d 0) (arguments ((scalar scalars.Int) ∷ [])))); value = None }) ∷ Some (record { of = (inst (d 1) (arguments ((scalar scalars.Int) ∷ (scalar scalars.Bool) ∷ []))); value = None }) ∷ Some (record { of = (inst (d 1) (arguments ((scalar scalars.Int) ∷ (scalar scalars.Int) ∷ []))); value = None }) ∷ Some (record { of = (inst (d 1) (arguments ((scalar scalars.Int) ∷ (inst (d 0) (arguments ((scalar scalars.Int) ∷ []))) ∷ []))); value = None }) ∷ Some (record { of = (inst (d 0) (arguments ((inst (d 0) (arguments ((scalar scalars.Bool) ∷ []))) ∷ []))); value = None }) ∷ []); object = None }

abbrev pub parts_unit_call_24_3 : Expression
parts_unit_call_24_3 = call (m 127 24 3) (functions (m 125 24 3) (codes "d") 1) (and_expression (local_name (m 126 24 5) 7) no_expression)

abbrev pub parts_unit_locals_24_3 : Environment
parts_unit_locals_24_3 = record { arguments = []; variables = (Some (record { of = (inst (d 0) (arguments ((scalar scalars.Int) ∷ []))); value = None }) ∷ Some (record { of = (inst (d 0) (arguments ((const (scalar scalars.Int)) ∷ []))); value = None }) ∷ Some (record { of = (inst (d 0) (arguments ((ref (scalar scalars.Int)) ∷ []))); value = None }) ∷ Some (record { of = (const (inst (d 0) (arguments ((scalar scalars.Int) ∷ [])))); value = None }) ∷ Some (record { of = (inst (d 1) (arguments ((scalar scalars.Int) ∷ (scalar scalars.Bool) ∷ []))); value = None }) ∷ Some (record { of = (inst (d 1) (arguments ((scalar scalars.Int) ∷ (scalar scalars.Int) ∷ []))); value = None }) ∷ Some (record { of = (inst (d 1) (arguments ((scalar scalars.Int) ∷ (inst (d 0) (arguments ((scalar scalars.Int) ∷ []))) ∷ []))); value = None }) ∷ Some (record { of = (inst (d 0) (arguments ((inst (d 0) (arguments ((scalar scalars.Bool) ∷ []))) ∷ []))); value = None }) ∷ []); object = None }

abbrev pub parts_unit_call_25_3 : Expression
parts_unit_call_25_3 = call (m 131 25 3) (functions (m 129 25 3) (codes "e") 1) (and_expression (local_name (m 130 25 5) 4) no_expression)

abbrev pub parts_unit_locals_25_3 : Environment
parts_unit_locals_25_3 = record { arguments = []; variables = (Some (record { of = (inst (d 0) (arguments ((scalar scalars.Int) ∷ []))); value = None }) ∷ Some (record { of = (inst (d 0) (arguments ((const (scalar scalars.Int)) ∷ []))); value = None }) ∷ Some (record { of = (inst (d 0) (arguments ((ref (scalar scalars.Int)) ∷ []))); value = None }) ∷ Some (record { of = (const (inst (d 0) (arguments ((scalar scalars.Int) ∷ [])))); value = None }) ∷ Some (record { of = (inst (d 1) (arguments ((scalar scalars.Int) ∷ (scalar scalars.Bool) ∷ []))); value = None }) ∷ Some (record { of = (inst (d 1) (arguments ((scalar scalars.Int) ∷ (scalar scalars.Int) ∷ []))); value = None }) ∷ Some (record { of = (inst (d 1) (arguments ((scalar scalars.Int) ∷ (inst (d 0) (arguments ((scalar scalars.Int) ∷ []))) ∷ []))); value = None }) ∷ Some (record { of = (inst (d 0) (arguments ((inst (d 0) (arguments ((scalar scalars.Bool) ∷ []))) ∷ []))); value = None }) ∷ []); object = None }

abbrev pub parts_unit_call_26_3 : Expression
parts_unit_call_26_3 = call (m 135 26 3) (functions (m 133 26 3) (codes "f") 1) (and_expression (local_name (m 134 26 5) 4) no_expression)

abbrev pub parts_unit_locals_26_3 : Environment
parts_unit_locals_26_3 = record { arguments = []; variables = (Some (record { of = (inst (d 0) (arguments ((scalar scalars.Int) ∷ []))); value = None }) ∷ Some (record { of = (inst (d 0) (arguments ((const (scalar scalars.Int)) ∷ []))); value = None }) ∷ Some (record { of = (inst (d 0) (arguments ((ref (scalar scalars.Int)) ∷ []))); value = None }) ∷ Some (record { of = (const (inst (d 0) (arguments ((scalar scalars.Int) ∷ [])))); value = None }) ∷ Some (record { of = (inst (d 1) (arguments ((scalar scalars.Int) ∷ (scalar scalars.Bool) ∷ []))); value = None }) ∷ Some (record { of = (inst (d 1) (arguments ((scalar scalars.Int) ∷ (scalar scalars.Int) ∷ []))); value = None }) ∷ Some (record { of = (inst (d 1) (arguments ((scalar scalars.Int) ∷ (inst (d 0) (arguments ((scalar scalars.Int) ∷ []))) ∷ []))); value = None }) ∷ Some (record { of = (inst (d 0) (arguments ((inst (d 0) (arguments ((scalar scalars.Bool) ∷ []))) ∷ []))); value = None }) ∷ []); object = None }

abbrev pub parts_unit_call_27_3 : Expression
parts_unit_call_27_3 = call (m 139 27 3) (functions (m 137 27 3) (codes "f") 1) (and_expression (local_name (m 138 27 5) 5) no_expression)

abbrev pub parts_unit_locals_27_3 : Environment
parts_unit_locals_27_3 = record { arguments = []; variables = (Some (record { of = (inst (d 0) (arguments ((scalar scalars.Int) ∷ []))); value = None }) ∷ Some (record { of = (inst (d 0) (arguments ((const (scalar scalars.Int)) ∷ []))); value = None }) ∷ Some (record { of = (inst (d 0) (arguments ((ref (scalar scalars.Int)) ∷ []))); value = None }) ∷ Some (record { of = (const (inst (d 0) (arguments ((scalar scalars.Int) ∷ [])))); value = None }) ∷ Some (record { of = (inst (d 1) (arguments ((scalar scalars.Int) ∷ (scalar scalars.Bool) ∷ []))); value = None }) ∷ Some (record { of = (inst (d 1) (arguments ((scalar scalars.Int) ∷ (scalar scalars.Int) ∷ []))); value = None }) ∷ Some (record { of = (inst (d 1) (arguments ((scalar scalars.Int) ∷ (inst (d 0) (arguments ((scalar scalars.Int) ∷ []))) ∷ []))); value = None }) ∷ Some (record { of = (inst (d 0) (arguments ((inst (d 0) (arguments ((scalar scalars.Bool) ∷ []))) ∷ []))); value = None }) ∷ []); object = None }

abbrev pub parts_unit_call_28_3 : Expression
parts_unit_call_28_3 = call (m 143 28 3) (functions (m 141 28 3) (codes "h") 1) (and_expression (local_name (m 142 28 5) 5) no_expression)

abbrev pub parts_unit_locals_28_3 : Environment
parts_unit_locals_28_3 = record { arguments = []; variables = (Some (record { of = (inst (d 0) (arguments ((scalar scalars.Int) ∷ []))); value = None }) ∷ Some (record { of = (inst (d 0) (arguments ((const (scalar scalars.Int)) ∷ []))); value = None }) ∷ Some (record { of = (inst (d 0) (arguments ((ref (scalar scalars.Int)) ∷ []))); value = None }) ∷ Some (record { of = (const (inst (d 0) (arguments ((scalar scalars.Int) ∷ [])))); value = None }) ∷ Some (record { of = (inst (d 1) (arguments ((scalar scalars.Int) ∷ (scalar scalars.Bool) ∷ []))); value = None }) ∷ Some (record { of = (inst (d 1) (arguments ((scalar scalars.Int) ∷ (scalar scalars.Int) ∷ []))); value = None }) ∷ Some (record { of = (inst (d 1) (arguments ((scalar scalars.Int) ∷ (inst (d 0) (arguments ((scalar scalars.Int) ∷ []))) ∷ []))); value = None }) ∷ Some (record { of = (inst (d 0) (arguments ((inst (d 0) (arguments ((scalar scalars.Bool) ∷ []))) ∷ []))); value = None }) ∷ []); object = None }

abbrev pub parts_unit_call_29_3 : Expression
parts_unit_call_29_3 = call (m 147 29 3) (functions (m 145 29 3) (codes "h") 1) (and_expression (local_name (m 146 29 5) 6) no_expression)

abbrev pub parts_unit_locals_29_3 : Environment
parts_unit_locals_29_3 = record { arguments = []; variables = (Some (record { of = (inst (d 0) (arguments ((scalar scalars.Int) ∷ []))); value = None }) ∷ Some (record { of = (inst (d 0) (arguments ((const (scalar scalars.Int)) ∷ []))); value = None }) ∷ Some (record { of = (inst (d 0) (arguments ((ref (scalar scalars.Int)) ∷ []))); value = None }) ∷ Some (record { of = (const (inst (d 0) (arguments ((scalar scalars.Int) ∷ [])))); value = None }) ∷ Some (record { of = (inst (d 1) (arguments ((scalar scalars.Int) ∷ (scalar scalars.Bool) ∷ []))); value = None }) ∷ Some (record { of = (inst (d 1) (arguments ((scalar scalars.Int) ∷ (scalar scalars.Int) ∷ []))); value = None }) ∷ Some (record { of = (inst (d 1) (arguments ((scalar scalars.Int) ∷ (inst (d 0) (arguments ((scalar scalars.Int) ∷ []))) ∷ []))); value = None }) ∷ Some (record { of = (inst (d 0) (arguments ((inst (d 0) (arguments ((scalar scalars.Bool) ∷ []))) ∷ []))); value = None }) ∷ []); object = None }

abbrev pub parts_unit_call_30_3 : Expression
parts_unit_call_30_3 = call (m 151 30 3) (functions (m 149 30 3) (codes "r") 1) (and_expression (local_name (m 150 30 5) 0) no_expression)

abbrev pub parts_unit_locals_30_3 : Environment
parts_unit_locals_30_3 = record { arguments = []; variables = (Some (record { of = (inst (d 0) (arguments ((scalar scalars.Int) ∷ []))); value = None }) ∷ Some (record { of = (inst (d 0) (arguments ((const (scalar scalars.Int)) ∷ []))); value = None }) ∷ Some (record { of = (inst (d 0) (arguments ((ref (scalar scalars.Int)) ∷ []))); value = None }) ∷ Some (record { of = (const (inst (d 0) (arguments ((scalar scalars.Int) ∷ [])))); value = None }) ∷ Some (record { of = (inst (d 1) (arguments ((scalar scalars.Int) ∷ (scalar scalars.Bool) ∷ []))); value = None }) ∷ Some (record { of = (inst (d 1) (arguments ((scalar scalars.Int) ∷ (scalar scalars.Int) ∷ []))); value = None }) ∷ Some (record { of = (inst (d 1) (arguments ((scalar scalars.Int) ∷ (inst (d 0) (arguments ((scalar scalars.Int) ∷ []))) ∷ []))); value = None }) ∷ Some (record { of = (inst (d 0) (arguments ((inst (d 0) (arguments ((scalar scalars.Bool) ∷ []))) ∷ []))); value = None }) ∷ []); object = None }

abbrev pub parts_unit_call_31_3 : Expression
parts_unit_call_31_3 = call (m 155 31 3) (functions (m 153 31 3) (codes "r") 1) (and_expression (local_name (m 154 31 5) 3) no_expression)

abbrev pub parts_unit_locals_31_3 : Environment
parts_unit_locals_31_3 = record { arguments = []; variables = (Some (record { of = (inst (d 0) (arguments ((scalar scalars.Int) ∷ []))); value = None }) ∷ Some (record { of = (inst (d 0) (arguments ((const (scalar scalars.Int)) ∷ []))); value = None }) ∷ Some (record { of = (inst (d 0) (arguments ((ref (scalar scalars.Int)) ∷ []))); value = None }) ∷ Some (record { of = (const (inst (d 0) (arguments ((scalar scalars.Int) ∷ [])))); value = None }) ∷ Some (record { of = (inst (d 1) (arguments ((scalar scalars.Int) ∷ (scalar scalars.Bool) ∷ []))); value = None }) ∷ Some (record { of = (inst (d 1) (arguments ((scalar scalars.Int) ∷ (scalar scalars.Int) ∷ []))); value = None }) ∷ Some (record { of = (inst (d 1) (arguments ((scalar scalars.Int) ∷ (inst (d 0) (arguments ((scalar scalars.Int) ∷ []))) ∷ []))); value = None }) ∷ Some (record { of = (inst (d 0) (arguments ((inst (d 0) (arguments ((scalar scalars.Bool) ∷ []))) ∷ []))); value = None }) ∷ []); object = None }

abbrev pub parts_unit_call_32_3 : Expression
parts_unit_call_32_3 = call (m 159 32 3) (functions (m 157 32 3) (codes "s") 1) (and_expression (local_name (m 158 32 5) 3) no_expression)

abbrev pub parts_unit_locals_32_3 : Environment
parts_unit_locals_32_3 = record { arguments = []; variables = (Some (record { of = (inst (d 0) (arguments ((scalar scalars.Int) ∷ []))); value = None }) ∷ Some (record { of = (inst (d 0) (arguments ((const (scalar scalars.Int)) ∷ []))); value = None }) ∷ Some (record { of = (inst (d 0) (arguments ((ref (scalar scalars.Int)) ∷ []))); value = None }) ∷ Some (record { of = (const (inst (d 0) (arguments ((scalar scalars.Int) ∷ [])))); value = None }) ∷ Some (record { of = (inst (d 1) (arguments ((scalar scalars.Int) ∷ (scalar scalars.Bool) ∷ []))); value = None }) ∷ Some (record { of = (inst (d 1) (arguments ((scalar scalars.Int) ∷ (scalar scalars.Int) ∷ []))); value = None }) ∷ Some (record { of = (inst (d 1) (arguments ((scalar scalars.Int) ∷ (inst (d 0) (arguments ((scalar scalars.Int) ∷ []))) ∷ []))); value = None }) ∷ Some (record { of = (inst (d 0) (arguments ((inst (d 0) (arguments ((scalar scalars.Bool) ∷ []))) ∷ []))); value = None }) ∷ []); object = None }

abbrev pub parts_unit_call_33_10 : Expression
parts_unit_call_33_10 = call (m 165 33 10) (functions (m 161 33 10) (codes "s") 1) (and_expression (list (m 164 33 12) (template_id (m 163 33 12) (p 33 12) (d 0) (and_type (scalar_type (m 162 33 16) scalars.Bool) no_argument)) no_expression) no_expression)

abbrev pub parts_unit_locals_33_10 : Environment
parts_unit_locals_33_10 = record { arguments = []; variables = (Some (record { of = (inst (d 0) (arguments ((scalar scalars.Int) ∷ []))); value = None }) ∷ Some (record { of = (inst (d 0) (arguments ((const (scalar scalars.Int)) ∷ []))); value = None }) ∷ Some (record { of = (inst (d 0) (arguments ((ref (scalar scalars.Int)) ∷ []))); value = None }) ∷ Some (record { of = (const (inst (d 0) (arguments ((scalar scalars.Int) ∷ [])))); value = None }) ∷ Some (record { of = (inst (d 1) (arguments ((scalar scalars.Int) ∷ (scalar scalars.Bool) ∷ []))); value = None }) ∷ Some (record { of = (inst (d 1) (arguments ((scalar scalars.Int) ∷ (scalar scalars.Int) ∷ []))); value = None }) ∷ Some (record { of = (inst (d 1) (arguments ((scalar scalars.Int) ∷ (inst (d 0) (arguments ((scalar scalars.Int) ∷ []))) ∷ []))); value = None }) ∷ Some (record { of = (inst (d 0) (arguments ((inst (d 0) (arguments ((scalar scalars.Bool) ∷ []))) ∷ []))); value = None }) ∷ []); object = None }

-- template<typename T> int f(T, T) { return 1; }
-- template<typename T, typename U> int k(T, U) { return 1; }
-- template<typename T, typename U> struct Two { };
-- template<typename T, typename U> int m(T, Two<T, U>) { return 1; }
-- int g(Two<int, bool> t) { return f(1, 2) + f(1, true) + f<int>(1, true) + k<bool>(1, 2u) + m<int>(true, t) + m(true, t) + m<bool>(1, t); }
abbrev pub agreement_unit : Program
agreement_unit =
    unit
    (a_function (record { at = (p 1 26); name = (codes "f"); owner = None; is_template = true; template_parameters = (tp None None ∷ []); constraints = ([]); parameters = (parameter (position_type (m 1 1 28) 0) 0 false ∷ parameter (position_type (m 2 1 31) 0) 1 false ∷ []); result = (scalar_type (m 0 1 22) scalars.Int); is_const = false; is_constexpr = false; body = Some (block (m 5 1 34) (and_statement (return_statement (m 4 1 36) (Some (literal (m 3 1 43) scalars.Int (pos 1)))) no_statement)) })
    ∷ a_function (record { at = (p 2 38); name = (codes "k"); owner = None; is_template = true; template_parameters = (tp None None ∷ tp None None ∷ []); constraints = ([]); parameters = (parameter (position_type (m 7 2 40) 0) 0 false ∷ parameter (position_type (m 8 2 43) 1) 1 false ∷ []); result = (scalar_type (m 6 2 34) scalars.Int); is_const = false; is_constexpr = false; body = Some (block (m 11 2 46) (and_statement (return_statement (m 10 2 48) (Some (literal (m 9 2 55) scalars.Int (pos 1)))) no_statement)) })
    ∷ a_struct (record { at = (p 3 41); itself = (inst (d 2) (arguments ((param 0) ∷ (param 1) ∷ []))); is_template = true; template_parameters = (tp None None ∷ tp None None ∷ []); constraints = ([]); primary = None; specialised_for = ([]); members = ([]) })
    ∷ a_function (record { at = (p 4 38); name = (codes "m"); owner = None; is_template = true; template_parameters = (tp None None ∷ tp None None ∷ []); constraints = ([]); parameters = (parameter (position_type (m 13 4 40) 0) 0 false ∷ parameter (template_id (m 16 4 43) (p 4 43) (d 2) (and_type (position_type (m 14 4 47) 0) (and_type (position_type (m 15 4 50) 1) no_argument))) 1 false ∷ []); result = (scalar_type (m 12 4 34) scalars.Int); is_const = false; is_constexpr = false; body = Some (block (m 19 4 54) (and_statement (return_statement (m 18 4 56) (Some (literal (m 17 4 63) scalars.Int (pos 1)))) no_statement)) })
    ∷ a_function (record { at = (p 5 5); name = (codes "g"); owner = None; is_template = false; template_parameters = ([]); constraints = ([]); parameters = (parameter (template_id (m 23 5 7) (p 5 7) (d 2) (and_type (scalar_type (m 21 5 11) scalars.Int) (and_type (scalar_type (m 22 5 16) scalars.Bool) no_argument))) 0 true ∷ []); result = (scalar_type (m 20 5 1) scalars.Int); is_const = false; is_constexpr = false; body = Some (block (m 63 5 25) (and_statement (return_statement (m 62 5 27) (Some (binary (m 61 5 34) word.Plus (binary (m 55 5 34) word.Plus (binary (m 50 5 34) word.Plus (binary (m 44 5 34) word.Plus (binary (m 38 5 34) word.Plus (binary (m 32 5 34) word.Plus (call (m 27 5 34) (functions (m 24 5 34) (codes "f") 1) (and_expression (literal (m 25 5 36) scalars.Int (pos 1)) (and_expression (literal (m 26 5 39) scalars.Int (pos 2)) no_expression))) (call (m 31 5 44) (functions (m 28 5 44) (codes "f") 1) (and_expression (literal (m 29 5 46) scalars.Int (pos 1)) (and_expression (literal (m 30 5 49) scalars.Bool (pos 1)) no_expression)))) (call (m 37 5 57) (functions_with (m 34 5 57) (codes "f") 1 (and_type (scalar_type (m 33 5 59) scalars.Int) no_argument)) (and_expression (literal (m 35 5 64) scalars.Int (pos 1)) (and_expression (literal (m 36 5 67) scalars.Bool (pos 1)) no_expression)))) (call (m 43 5 75) (functions_with (m 40 5 75) (codes "k") 1 (and_type (scalar_type (m 39 5 77) scalars.Bool) no_argument)) (and_expression (literal (m 41 5 83) scalars.Int (pos 1)) (and_expression (literal (m 42 5 86) scalars.Unsigned (pos 2)) no_expression)))) (call (m 49 5 92) (functions_with (m 46 5 92) (codes "m") 1 (and_type (scalar_type (m 45 5 94) scalars.Int) no_argument)) (and_expression (literal (m 47 5 99) scalars.Bool (pos 1)) (and_expression (local_name (m 48 5 105) 0) no_expression)))) (call (m 54 5 110) (functions (m 51 5 110) (codes "m") 1) (and_expression (literal (m 52 5 112) scalars.Bool (pos 1)) (and_expression (local_name (m 53 5 118) 0) no_expression)))) (call (m 60 5 123) (functions_with (m 57 5 123) (codes "m") 1 (and_type (scalar_type (m 56 5 125) scalars.Bool) no_argument)) (and_expression (literal (m 58 5 131) scalars.Int (pos 1)) (and_expression (local_name (m 59 5 134) 0) no_expression)))))) no_statement)) })
    ∷ [])
    (((codes "f"), ((d 0) ∷ [])) ∷ ((codes "k"), ((d 1) ∷ [])) ∷ ((codes "m"), ((d 3) ∷ [])) ∷ ((codes "g"), ((d 4) ∷ [])) ∷ [])
    ([])
    ([])
    (around 0 (None ∷ []) true ∷ around 6 (None ∷ None ∷ []) true ∷ around 20 ([]) false ∷ [])
    ([])

abbrev pub agreement_unit_call_5_34 : Expression
agreement_unit_call_5_34 = call (m 27 5 34) (functions (m 24 5 34) (codes "f") 1) (and_expression (literal (m 25 5 36) scalars.Int (pos 1)) (and_expression (literal (m 26 5 39) scalars.Int (pos 2)) no_expression))

abbrev pub agreement_unit_locals_5_34 : Environment
agreement_unit_locals_5_34 = record { arguments = []; variables = (Some (record { of = (inst (d 2) (arguments ((scalar scalars.Int) ∷ (scalar scalars.Bool) ∷ []))); value = None }) ∷ []); object = None }

abbrev pub agreement_unit_call_5_44 : Expression
agreement_unit_call_5_44 = call (m 31 5 44) (functions (m 28 5 44) (codes "f") 1) (and_expression (literal (m 29 5 46) scalars.Int (pos 1)) (and_expression (literal (m 30 5 49) scalars.Bool (pos 1)) no_expression))

abbrev pub agreement_unit_locals_5_44 : Environment
agreement_unit_locals_5_44 = record { arguments = []; variables = (Some (record { of = (inst (d 2) (arguments ((scalar scalars.Int) ∷ (scalar scalars.Bool) ∷ []))); value = None }) ∷ []); object = None }

abbrev pub agreement_unit_call_5_57 : Expression
agreement_unit_call_5_57 = call (m 37 5 57) (functions_with (m 34 5 57) (codes "f") 1 (and_type (scalar_type (m 33 5 59) scalars.Int) no_argument)) (and_expression (literal (m 35 5 64) scalars.Int (pos 1)) (and_expression (literal (m 36 5 67) scalars.Bool (pos 1)) no_expression))

abbrev pub agreement_unit_locals_5_57 : Environment
agreement_unit_locals_5_57 = record { arguments = []; variables = (Some (record { of = (inst (d 2) (arguments ((scalar scalars.Int) ∷ (scalar scalars.Bool) ∷ []))); value = None }) ∷ []); object = None }

abbrev pub agreement_unit_call_5_75 : Expression
agreement_unit_call_5_75 = call (m 43 5 75) (functions_with (m 40 5 75) (codes "k") 1 (and_type (scalar_type (m 39 5 77) scalars.Bool) no_argument)) (and_expression (literal (m 41 5 83) scalars.Int (pos 1)) (and_expression (literal (m 42 5 86) scalars.Unsigned (pos 2)) no_expression))

abbrev pub agreement_unit_locals_5_75 : Environment
agreement_unit_locals_5_75 = record { arguments = []; variables = (Some (record { of = (inst (d 2) (arguments ((scalar scalars.Int) ∷ (scalar scalars.Bool) ∷ []))); value = None }) ∷ []); object = None }

abbrev pub agreement_unit_call_5_92 : Expression
agreement_unit_call_5_92 = call (m 49 5 92) (functions_with (m 46 5 92) (codes "m") 1 (and_type (scalar_type (m 45 5 94) scalars.Int) no_argument)) (and_expression (literal (m 47 5 99) scalars.Bool (pos 1)) (and_expression (local_name (m 48 5 105) 0) no_expression))

abbrev pub agreement_unit_locals_5_92 : Environment
agreement_unit_locals_5_92 = record { arguments = []; variables = (Some (record { of = (inst (d 2) (arguments ((scalar scalars.Int) ∷ (scalar scalars.Bool) ∷ []))); value = None }) ∷ []); object = None }

abbrev pub agreement_unit_call_5_110 : Expression
agreement_unit_call_5_110 = call (m 54 5 110) (functions (m 51 5 110) (codes "m") 1) (and_expression (literal (m 52 5 112) scalars.Bool (pos 1)) (and_expression (local_name (m 53 5 118) 0) no_expression))

abbrev pub agreement_unit_locals_5_110 : Environment
agreement_unit_locals_5_110 = record { arguments = []; variables = (Some (record { of = (inst (d 2) (arguments ((scalar scalars.Int) ∷ (scalar scalars.Bool) ∷ []))); value = None }) ∷ []); object = None }

abbrev pub agreement_unit_call_5_123 : Expression
agreement_unit_call_5_123 = call (m 60 5 123) (functions_with (m 57 5 123) (codes "m") 1 (and_type (scalar_type (m 56 5 125) scalars.Bool) no_argument)) (and_expression (literal (m 58 5 131) scalars.Int (pos 1)) (and_expression (local_name (m 59 5 134) 0) no_expression))

abbrev pub agreement_unit_locals_5_123 : Environment
agreement_unit_locals_5_123 = record { arguments = []; variables = (Some (record { of = (inst (d 2) (arguments ((scalar scalars.Int) ∷ (scalar scalars.Bool) ∷ []))); value = None }) ∷ []); object = None }

-- template<typename T> struct Id { using type = T; };
-- template<typename T> int f(typename Id<T>::type) { return 1; }
-- template<typename T> int k(T, typename Id<T>::type) { return 1; }
-- template<typename T> int m(T t, decltype(t) u) { return 1; }
-- template<typename T> int n(T t, decltype(t + 1ll)& u) { return 1; }
-- int g(long long l, int i) { return f(1) + f<bool>(1) + k(1, true) + m(1, true) + n(i, l) + n(i, i); }
abbrev pub not_deduced_unit : Program
not_deduced_unit =
    unit
    (a_struct (record { at = (p 1 29); itself = (inst (d 0) (arguments ((param 0) ∷ []))); is_template = true; template_parameters = (tp None None ∷ []); constraints = ([]); primary = None; specialised_for = ([]); members = (member_alias (codes "type") (position_type (m 0 1 47) 0) ∷ []) })
    ∷ a_function (record { at = (p 2 26); name = (codes "f"); owner = None; is_template = true; template_parameters = (tp None None ∷ []); constraints = ([]); parameters = (parameter (member_type (m 4 2 28) (template_id (m 3 2 37) (p 2 37) (d 0) (and_type (position_type (m 2 2 40) 0) no_argument)) ((codes "type") ∷ [])) 0 false ∷ []); result = (scalar_type (m 1 2 22) scalars.Int); is_const = false; is_constexpr = false; body = Some (block (m 7 2 50) (and_statement (return_statement (m 6 2 52) (Some (literal (m 5 2 59) scalars.Int (pos 1)))) no_statement)) })
    ∷ a_function (record { at = (p 3 26); name = (codes "k"); owner = None; is_template = true; template_parameters = (tp None None ∷ []); constraints = ([]); parameters = (parameter (position_type (m 9 3 28) 0) 0 false ∷ parameter (member_type (m 12 3 31) (template_id (m 11 3 40) (p 3 40) (d 0) (and_type (position_type (m 10 3 43) 0) no_argument)) ((codes "type") ∷ [])) 1 false ∷ []); result = (scalar_type (m 8 3 22) scalars.Int); is_const = false; is_constexpr = false; body = Some (block (m 15 3 53) (and_statement (return_statement (m 14 3 55) (Some (literal (m 13 3 62) scalars.Int (pos 1)))) no_statement)) })
    ∷ a_function (record { at = (p 4 26); name = (codes "m"); owner = None; is_template = true; template_parameters = (tp None None ∷ []); constraints = ([]); parameters = (parameter (position_type (m 17 4 28) 0) 0 true ∷ parameter (decltype_type (m 19 4 33) (local_name (m 18 4 42) 0)) 1 true ∷ []); result = (scalar_type (m 16 4 22) scalars.Int); is_const = false; is_constexpr = false; body = Some (block (m 22 4 48) (and_statement (return_statement (m 21 4 50) (Some (literal (m 20 4 57) scalars.Int (pos 1)))) no_statement)) })
    ∷ a_function (record { at = (p 5 26); name = (codes "n"); owner = None; is_template = true; template_parameters = (tp None None ∷ []); constraints = ([]); parameters = (parameter (position_type (m 24 5 28) 0) 0 true ∷ parameter (reference_type (m 28 5 33) (decltype_type (m 28 5 33) (binary (m 27 5 42) word.Plus (local_name (m 25 5 42) 0) (literal (m 26 5 46) scalars.LongLong (pos 1))))) 1 true ∷ []); result = (scalar_type (m 23 5 22) scalars.Int); is_const = false; is_constexpr = false; body = Some (block (m 31 5 55) (and_statement (return_statement (m 30 5 57) (Some (literal (m 29 5 64) scalars.Int (pos 1)))) no_statement)) })
    ∷ a_function (record { at = (p 6 5); name = (codes "g"); owner = None; is_template = false; template_parameters = ([]); constraints = ([]); parameters = (parameter (scalar_type (m 33 6 7) scalars.LongLong) 0 true ∷ parameter (scalar_type (m 34 6 20) scalars.Int) 1 true ∷ []); result = (scalar_type (m 32 6 1) scalars.Int); is_const = false; is_constexpr = false; body = Some (block (m 64 6 27) (and_statement (return_statement (m 63 6 29) (Some (binary (m 62 6 36) word.Plus (binary (m 57 6 36) word.Plus (binary (m 52 6 36) word.Plus (binary (m 47 6 36) word.Plus (binary (m 42 6 36) word.Plus (call (m 37 6 36) (functions (m 35 6 36) (codes "f") 1) (and_expression (literal (m 36 6 38) scalars.Int (pos 1)) no_expression)) (call (m 41 6 43) (functions_with (m 39 6 43) (codes "f") 1 (and_type (scalar_type (m 38 6 45) scalars.Bool) no_argument)) (and_expression (literal (m 40 6 51) scalars.Int (pos 1)) no_expression))) (call (m 46 6 56) (functions (m 43 6 56) (codes "k") 1) (and_expression (literal (m 44 6 58) scalars.Int (pos 1)) (and_expression (literal (m 45 6 61) scalars.Bool (pos 1)) no_expression)))) (call (m 51 6 69) (functions (m 48 6 69) (codes "m") 1) (and_expression (literal (m 49 6 71) scalars.Int (pos 1)) (and_expression (literal (m 50 6 74) scalars.Bool (pos 1)) no_expression)))) (call (m 56 6 82) (functions (m 53 6 82) (codes "n") 1) (and_expression (local_name (m 54 6 84) 1) (and_expression (local_name (m 55 6 87) 0) no_expression)))) (call (m 61 6 92) (functions (m 58 6 92) (codes "n") 1) (and_expression (local_name (m 59 6 94) 1) (and_expression (local_name (m 60 6 97) 1) no_expression)))))) no_statement)) })
    ∷ [])
    (((codes "f"), ((d 1) ∷ [])) ∷ ((codes "k"), ((d 2) ∷ [])) ∷ ((codes "m"), ((d 3) ∷ [])) ∷ ((codes "n"), ((d 4) ∷ [])) ∷ ((codes "g"), ((d 5) ∷ [])) ∷ [])
    ([])
    ([])
    (around 0 (None ∷ []) true ∷ around 32 ([]) false ∷ [])
    ([])

abbrev pub not_deduced_unit_call_6_36 : Expression
not_deduced_unit_call_6_36 = call (m 37 6 36) (functions (m 35 6 36) (codes "f") 1) (and_expression (literal (m 36 6 38) scalars.Int (pos 1)) no_expression)

abbrev pub not_deduced_unit_locals_6_36 : Environment
not_deduced_unit_locals_6_36 = record { arguments = []; variables = (Some (record { of = (scalar scalars.LongLong); value = None }) ∷ Some (record { of = (scalar scalars.Int); value = None }) ∷ []); object = None }

abbrev pub not_deduced_unit_call_6_43 : Expression
not_deduced_unit_call_6_43 = call (m 41 6 43) (functions_with (m 39 6 43) (codes "f") 1 (and_type (scalar_type (m 38 6 45) scalars.Bool) no_argument)) (and_expression (literal (m 40 6 51) scalars.Int (pos 1)) no_expression)

abbrev pub not_deduced_unit_locals_6_43 : Environment
not_deduced_unit_locals_6_43 = record { arguments = []; variables = (Some (record { of = (scalar scalars.LongLong); value = None }) ∷ Some (record { of = (scalar scalars.Int); value = None }) ∷ []); object = None }

abbrev pub not_deduced_unit_call_6_56 : Expression
not_deduced_unit_call_6_56 = call (m 46 6 56) (functions (m 43 6 56) (codes "k") 1) (and_expression (literal (m 44 6 58) scalars.Int (pos 1)) (and_expression (literal (m 45 6 61) scalars.Bool (pos 1)) no_expression))

abbrev pub not_deduced_unit_locals_6_56 : Environment
not_deduced_unit_locals_6_56 = record { arguments = []; variables = (Some (record { of = (scalar scalars.LongLong); value = None }) ∷ Some (record { of = (scalar scalars.Int); value = None }) ∷ []); object = None }

abbrev pub not_deduced_unit_call_6_69 : Expression
not_deduced_unit_call_6_69 = call (m 51 6 69) (functions (m 48 6 69) (codes "m") 1) (and_expression (literal (m 49 6 71) scalars.Int (pos 1)) (and_expression (literal (m 50 6 74) scalars.Bool (pos 1)) no_expression))

abbrev pub not_deduced_unit_locals_6_69 : Environment
not_deduced_unit_locals_6_69 = record { arguments = []; variables = (Some (record { of = (scalar scalars.LongLong); value = None }) ∷ Some (record { of = (scalar scalars.Int); value = None }) ∷ []); object = None }

abbrev pub not_deduced_unit_call_6_82 : Expression
not_deduced_unit_call_6_82 = call (m 56 6 82) (functions (m 53 6 82) (codes "n") 1) (and_expression (local_name (m 54 6 84) 1) (and_expression (local_name (m 55 6 87) 0) no_expression))

abbrev pub not_deduced_unit_locals_6_82 : Environment
not_deduced_unit_locals_6_82 = record { arguments = []; variables = (Some (record { of = (scalar scalars.LongLong); value = None }) ∷ Some (record { of = (scalar scalars.Int); value = None }) ∷ []); object = None }

abbrev pub not_deduced_unit_call_6_92 : Expression
not_deduced_unit_call_6_92 = call (m 61 6 92) (functions (m 58 6 92) (codes "n") 1) (and_expression (local_name (m 59 6 94) 1) (and_expression (local_name (m 60 6 97) 1) no_expression))

abbrev pub not_deduced_unit_locals_6_92 : Environment
not_deduced_unit_locals_6_92 = record { arguments = []; variables = (Some (record { of = (scalar scalars.LongLong); value = None }) ∷ Some (record { of = (scalar scalars.Int); value = None }) ∷ []); object = None }

-- template<typename T, int N> struct Arr { };
-- template<unsigned N> struct U { };
-- constexpr int three = 3;
-- template<typename T, int N> int a(Arr<T, N>) { return 1; }
-- template<typename T> int b(Arr<T, 3>) { return 1; }
-- template<typename T, unsigned N> int c(Arr<T, N>) { return 1; }
-- template<int N> int d(U<N>) { return 1; }
-- template<unsigned N> int e(U<N>) { return 1; }
-- template<typename T> int f(T, U<4>) { return 1; }
-- template<typename T> int h(Arr<T, three>) { return 1; }
-- template<int N> int k(Arr<int, N + 1>) { return 1; }
-- template<typename T, int N = 2> int l(Arr<T, N + 1>) { return 1; }
-- int g(Arr<int, 3> x, Arr<bool, 4> y, U<4u> u) {
--   a(x);
--   a(y);
--   b(x);
--   b(y);
--   c(x);
--   d(u);
--   e(u);
--   f(1, u);
--   h(x);
--   h(y);
--   k(x);
--   l(x);
--   l(y);
--   return f(1, U<5>{});
-- }
abbrev pub values_unit : Program
values_unit =
    unit
    (a_struct (record { at = (p 1 36); itself = (inst (d 0) (arguments ((param 0) ∷ (param 1) ∷ []))); is_template = true; template_parameters = (tp None None ∷ tp (Some scalars.Int) None ∷ []); constraints = ([]); primary = None; specialised_for = ([]); members = ([]) })
    ∷ a_struct (record { at = (p 2 29); itself = (inst (d 1) (arguments ((param 0) ∷ []))); is_template = true; template_parameters = (tp (Some scalars.Unsigned) None ∷ []); constraints = ([]); primary = None; specialised_for = ([]); members = ([]) })
    ∷ a_constant (record { at = (p 3 15); name = (codes "three"); of = (scalar_type (m 0 3 11) scalars.Int); initialiser = (literal (m 1 3 23) scalars.Int (pos 3)); owner = None })
    ∷ a_function (record { at = (p 4 33); name = (codes "a"); owner = None; is_template = true; template_parameters = (tp None None ∷ tp (Some scalars.Int) None ∷ []); constraints = ([]); parameters = (parameter (template_id (m 5 4 35) (p 4 35) (d 0) (and_type (position_type (m 3 4 39) 0) (and_value (position_name (m 4 4 42) 1) no_argument))) 0 false ∷ []); result = (scalar_type (m 2 4 29) scalars.Int); is_const = false; is_constexpr = false; body = Some (block (m 8 4 46) (and_statement (return_statement (m 7 4 48) (Some (literal (m 6 4 55) scalars.Int (pos 1)))) no_statement)) })
    ∷ a_function (record { at = (p 5 26); name = (codes "b"); owner = None; is_template = true; template_parameters = (tp None None ∷ []); constraints = ([]); parameters = (parameter (template_id (m 12 5 28) (p 5 28) (d 0) (and_type (position_type (m 10 5 32) 0) (and_value (literal (m 11 5 35) scalars.Int (pos 3)) no_argument))) 0 false ∷ []); result = (scalar_type (m 9 5 22) scalars.Int); is_const = false; is_constexpr = false; body = Some (block (m 15 5 39) (and_statement (return_statement (m 14 5 41) (Some (literal (m 13 5 48) scalars.Int (pos 1)))) no_statement)) })
    ∷ a_function (record { at = (p 6 38); name = (codes "c"); owner = None; is_template = true; template_parameters = (tp None None ∷ tp (Some scalars.Unsigned) None ∷ []); constraints = ([]); parameters = (parameter (template_id (m 19 6 40) (p 6 40) (d 0) (and_type (position_type (m 17 6 44) 0) (and_value (position_name (m 18 6 47) 1) no_argument))) 0 false ∷ []); result = (scalar_type (m 16 6 34) scalars.Int); is_const = false; is_constexpr = false; body = Some (block (m 22 6 51) (and_statement (return_statement (m 21 6 53) (Some (literal (m 20 6 60) scalars.Int (pos 1)))) no_statement)) })
    ∷ a_function (record { at = (p 7 21); name = (codes "d"); owner = None; is_template = true; template_parameters = (tp (Some scalars.Int) None ∷ []); constraints = ([]); parameters = (parameter (template_id (m 25 7 23) (p 7 23) (d 1) (and_value (position_name (m 24 7 25) 0) no_argument)) 0 false ∷ []); result = (scalar_type (m 23 7 17) scalars.Int); is_const = false; is_constexpr = false; body = Some (block (m 28 7 29) (and_statement (return_statement (m 27 7 31) (Some (literal (m 26 7 38) scalars.Int (pos 1)))) no_statement)) })
    ∷ a_function (record { at = (p 8 26); name = (codes "e"); owner = None; is_template = true; template_parameters = (tp (Some scalars.Unsigned) None ∷ []); constraints = ([]); parameters = (parameter (template_id (m 31 8 28) (p 8 28) (d 1) (and_value (position_name (m 30 8 30) 0) no_argument)) 0 false ∷ []); result = (scalar_type (m 29 8 22) scalars.Int); is_const = false; is_constexpr = false; body = Some (block (m 34 8 34) (and_statement (return_statement (m 33 8 36) (Some (literal (m 32 8 43) scalars.Int (pos 1)))) no_statement)) })
    ∷ a_function (record { at = (p 9 26); name = (codes "f"); owner = None; is_template = true; template_parameters = (tp None None ∷ []); constraints = ([]); parameters = (parameter (position_type (m 36 9 28) 0) 0 false ∷ parameter (template_id (m 38 9 31) (p 9 31) (d 1) (and_value (literal (m 37 9 33) scalars.Int (pos 4)) no_argument)) 1 false ∷ []); result = (scalar_type (m 35 9 22) scalars.Int); is_const = false; is_constexpr = false; body = Some (block (m 41 9 37) (and_statement (return_statement (m 40 9 39) (Some (literal (m 39 9 46) scalars.Int (pos 1)))) no_statement)) })
    ∷ a_function (record { at = (p 10 26); name = (codes "h"); owner = None; is_template = true; template_parameters = (tp None None ∷ []); constraints = ([]); parameters = (parameter (template_id (m 45 10 28) (p 10 28) (d 0) (and_type (position_type (m 43 10 32) 0) (and_value (constant_name (m 44 10 35) (d 2)) no_argument))) 0 false ∷ []); result = (scalar_type (m 42 10 22) scalars.Int); is_const = false; is_constexpr = false; body = Some (block (m 48 10 43) (and_statement (return_statement (m 47 10 45) (Some (literal (m 46 10 52) scalars.Int (pos 1)))) no_statement)) })
    ∷ a_function (record { at = (p 11 21); name = (codes "k"); owner = None; is_template = true; template_parameters = (tp (Some scalars.Int) None ∷ []); constraints = ([]); parameters = (parameter (template_id (m 54 11 23) (p 11 23) (d 0) (and_type (scalar_type (m 50 11 27) scalars.Int) (and_value (binary (m 53 11 32) word.Plus (position_name (m 51 11 32) 0) (literal (m 52 11 36) scalars.Int (pos 1))) no_argument))) 0 false ∷ []); result = (scalar_type (m 49 11 17) scalars.Int); is_const = false; is_constexpr = false; body = Some (block (m 57 11 40) (and_statement (return_statement (m 56 11 42) (Some (literal (m 55 11 49) scalars.Int (pos 1)))) no_statement)) })
    ∷ a_function (record { at = (p 12 37); name = (codes "l"); owner = None; is_template = true; template_parameters = (tp None None ∷ tp (Some scalars.Int) (Some (of_value (literal (m 58 12 30) scalars.Int (pos 2)))) ∷ []); constraints = ([]); parameters = (parameter (template_id (m 64 12 39) (p 12 39) (d 0) (and_type (position_type (m 60 12 43) 0) (and_value (binary (m 63 12 46) word.Plus (position_name (m 61 12 46) 1) (literal (m 62 12 50) scalars.Int (pos 1))) no_argument))) 0 false ∷ []); result = (scalar_type (m 59 12 33) scalars.Int); is_const = false; is_constexpr = false; body = Some (block (m 67 12 54) (and_statement (return_statement (m 66 12 56) (Some (literal (m 65 12 63) scalars.Int (pos 1)))) no_statement)) })
    ∷ a_function (record { at = (p 13 5); name = (codes "g"); owner = None; is_template = false; template_parameters = ([]); constraints = ([]); parameters = (parameter (template_id (m 71 13 7) (p 13 7) (d 0) (and_type (scalar_type (m 69 13 11) scalars.Int) (and_value (literal (m 70 13 16) scalars.Int (pos 3)) no_argument))) 0 true ∷ parameter (template_id (m 74 13 22) (p 13 22) (d 0) (and_type (scalar_type (m 72 13 26) scalars.Bool) (and_value (literal (m 73 13 32) scalars.Int (pos 4)) no_argument))) 1 true ∷ parameter (template_id (m 76 13 38) (p 13 38) (d 1) (and_value (literal (m 75 13 40) scalars.Unsigned (pos 4)) no_argument)) 2 true ∷ []); result = (scalar_type (m 68 13 1) scalars.Int); is_const = false; is_constexpr = false; body = Some (block (m 137 13 47) (and_statement (expression_statement (m 80 14 3) (call (m 79 14 3) (functions (m 77 14 3) (codes "a") 1) (and_expression (local_name (m 78 14 5) 0) no_expression))) (and_statement (expression_statement (m 84 15 3) (call (m 83 15 3) (functions (m 81 15 3) (codes "a") 1) (and_expression (local_name (m 82 15 5) 1) no_expression))) (and_statement (expression_statement (m 88 16 3) (call (m 87 16 3) (functions (m 85 16 3) (codes "b") 1) (and_expression (local_name (m 86 16 5) 0) no_expression))) (and_statement (expression_statement (m 92 17 3) (call (m 91 17 3) (functions (m 89 17 3) (codes "b") 1) (and_expression (local_name (m 90 17 5) 1) no_expression))) (and_statement (expression_statement (m 96 18 3) (call (m 95 18 3) (functions (m 93 18 3) (codes "c") 1) (and_expression (local_name (m 94 18 5) 0) no_expression))) (and_statement (expression_statement (m 100 19 3) (call (m 99 19 3) (functions (m 97 19 3) (codes "d") 1) (and_expression (local_name (m 98 19 5) 2) no_expression))) (and_statement (expression_statement (m 104 20 3) (call (m 103 20 3) (functions (m 101 20 3) (codes "e") 1) (and_expression (local_name (m 102 20 5) 2) no_expression))) (and_statement (expression_statement (m 109 21 3) (call (m 108 21 3) (functions (m 105 21 3) (codes "f") 1) (and_expression (literal (m 106 21 5) scalars.Int (pos 1)) (and_expression (local_name (m 107 21 8) 2) no_expression)))) (and_statement (expression_statement (m 113 22 3) (call (m 112 22 3) (functions (m 110 22 3) (codes "h") 1) (and_expression (local_name (m 111 22 5) 0) no_expression))) (and_statement (expression_statement (m 117 23 3) (call (m 116 23 3) (functions (m 114 23 3) (codes "h") 1) (and_expression (local_name (m 115 23 5) 1) no_expression))) (and_statement (expression_statement (m 121 24 3) (call (m 120 24 3) (functions (m 118 24 3) (codes "k") 1) (and_expression (local_name (m 119 24 5) 0) no_expression))) (and_statement (expression_statement (m 125 25 3) (call (m 124 25 3) (functions (m 122 25 3) (codes "l") 1) (and_expression (local_name (m 123 25 5) 0) no_expression))) (and_statement (expression_statement (m 129 26 3) (call (m 128 26 3) (functions (m 126 26 3) (codes "l") 1) (and_expression (local_name (m 127 26 5) 1) no_expression))) (and_statement (return_statement (m 136 27 3) (Some (call (m 135 27 10) (functions (m 130 27 10) (codes "f") 1) (and_expression (literal (m 131 27 12) scalars.Int (pos 1)) (and_expression (list (m 134 27 15) (template_id (m 133 27 15) (p 27 15) (d 1) (and_value (literal (m 132 27 17) scalars.Int (pos 5)) no_argument)) no_expression) no_expression))))) no_statement))))))))))))))) })
    ∷ [])
    (((codes "a"), ((d 3) ∷ [])) ∷ ((codes "b"), ((d 4) ∷ [])) ∷ ((codes "c"), ((d 5) ∷ [])) ∷ ((codes "d"), ((d 6) ∷ [])) ∷ ((codes "e"), ((d 7) ∷ [])) ∷ ((codes "f"), ((d 8) ∷ [])) ∷ ((codes "h"), ((d 9) ∷ [])) ∷ ((codes "k"), ((d 10) ∷ [])) ∷ ((codes "l"), ((d 11) ∷ [])) ∷ ((codes "g"), ((d 12) ∷ [])) ∷ [])
    ([])
    ([])
    (around 0 ([]) false ∷ around 2 (None ∷ (Some scalars.Int) ∷ []) true ∷ around 9 (None ∷ []) true ∷ around 16 (None ∷ (Some scalars.Unsigned) ∷ []) true ∷ around 23 ((Some scalars.Int) ∷ []) true ∷ around 29 ((Some scalars.Unsigned) ∷ []) true ∷ around 35 (None ∷ []) true ∷ around 49 ((Some scalars.Int) ∷ []) true ∷ around 58 (None ∷ (Some scalars.Int) ∷ []) true ∷ around 68 ([]) false ∷ [])
    ([])

abbrev pub values_unit_call_14_3 : Expression
values_unit_call_14_3 = call (m 79 14 3) (functions (m 77 14 3) (codes "a") 1) (and_expression (local_name (m 78 14 5) 0) no_expression)

abbrev pub values_unit_locals_14_3 : Environment
values_unit_locals_14_3 = record { arguments = []; variables = (Some (record { of = (inst (d 0) (arguments ((scalar scalars.Int) ∷ (val scalars.Int (pos 3)) ∷ []))); value = None }) ∷ Some (record { of = (inst (d 0) (arguments ((scalar scalars.Bool) ∷ (val scalars.Int (pos 4)) ∷ []))); value = None }) ∷ Some (record { of = (inst (d 1) (arguments ((val scalars.Unsigned (pos 4)) ∷ []))); value = None }) ∷ []); object = None }

abbrev pub values_unit_call_15_3 : Expression
values_unit_call_15_3 = call (m 83 15 3) (functions (m 81 15 3) (codes "a") 1) (and_expression (local_name (m 82 15 5) 1) no_expression)

abbrev pub values_unit_locals_15_3 : Environment
values_unit_locals_15_3 = record { arguments = []; variables = (Some (record { of = (inst (d 0) (arguments ((scalar scalars.Int) ∷ (val scalars.Int (pos 3)) ∷ []))); value = None }) ∷ Some (record { of = (inst (d 0) (arguments ((scalar scalars.Bool) ∷ (val scalars.Int (pos 4)) ∷ []))); value = None }) ∷ Some (record { of = (inst (d 1) (arguments ((val scalars.Unsigned (pos 4)) ∷ []))); value = None }) ∷ []); object = None }

abbrev pub values_unit_call_16_3 : Expression
values_unit_call_16_3 = call (m 87 16 3) (functions (m 85 16 3) (codes "b") 1) (and_expression (local_name (m 86 16 5) 0) no_expression)

abbrev pub values_unit_locals_16_3 : Environment
values_unit_locals_16_3 = record { arguments = []; variables = (Some (record { of = (inst (d 0) (arguments ((scalar scalars.Int) ∷ (val scalars.Int (pos 3)) ∷ []))); value = None }) ∷ Some (record { of = (inst (d 0) (arguments ((scalar scalars.Bool) ∷ (val scalars.Int (pos 4)) ∷ []))); value = None }) ∷ Some (record { of = (inst (d 1) (arguments ((val scalars.Unsigned (pos 4)) ∷ []))); value = None }) ∷ []); object = None }

abbrev pub values_unit_call_17_3 : Expression
values_unit_call_17_3 = call (m 91 17 3) (functions (m 89 17 3) (codes "b") 1) (and_expression (local_name (m 90 17 5) 1) no_expression)

abbrev pub values_unit_locals_17_3 : Environment
values_unit_locals_17_3 = record { arguments = []; variables = (Some (record { of = (inst (d 0) (arguments ((scalar scalars.Int) ∷ (val scalars.Int (pos 3)) ∷ []))); value = None }) ∷ Some (record { of = (inst (d 0) (arguments ((scalar scalars.Bool) ∷ (val scalars.Int (pos 4)) ∷ []))); value = None }) ∷ Some (record { of = (inst (d 1) (arguments ((val scalars.Unsigned (pos 4)) ∷ []))); value = None }) ∷ []); object = None }

abbrev pub values_unit_call_18_3 : Expression
values_unit_call_18_3 = call (m 95 18 3) (functions (m 93 18 3) (codes "c") 1) (and_expression (local_name (m 94 18 5) 0) no_expression)

abbrev pub values_unit_locals_18_3 : Environment
values_unit_locals_18_3 = record { arguments = []; variables = (Some (record { of = (inst (d 0) (arguments ((scalar scalars.Int) ∷ (val scalars.Int (pos 3)) ∷ []))); value = None }) ∷ Some (record { of = (inst (d 0) (arguments ((scalar scalars.Bool) ∷ (val scalars.Int (pos 4)) ∷ []))); value = None }) ∷ Some (record { of = (inst (d 1) (arguments ((val scalars.Unsigned (pos 4)) ∷ []))); value = None }) ∷ []); object = None }

abbrev pub values_unit_call_19_3 : Expression
values_unit_call_19_3 = call (m 99 19 3) (functions (m 97 19 3) (codes "d") 1) (and_expression (local_name (m 98 19 5) 2) no_expression)

abbrev pub values_unit_locals_19_3 : Environment
values_unit_locals_19_3 = record { arguments = []; variables = (Some (record { of = (inst (d 0) (arguments ((scalar scalars.Int) ∷ (val scalars.Int (pos 3)) ∷ []))); value = None }) ∷ Some (record { of = (inst (d 0) (arguments ((scalar scalars.Bool) ∷ (val scalars.Int (pos 4)) ∷ []))); value = None }) ∷ Some (record { of = (inst (d 1) (arguments ((val scalars.Unsigned (pos 4)) ∷ []))); value = None }) ∷ []); object = None }

abbrev pub values_unit_call_20_3 : Expression
values_unit_call_20_3 = call (m 103 20 3) (functions (m 101 20 3) (codes "e") 1) (and_expression (local_name (m 102 20 5) 2) no_expression)

abbrev pub values_unit_locals_20_3 : Environment
values_unit_locals_20_3 = record { arguments = []; variables = (Some (record { of = (inst (d 0) (arguments ((scalar scalars.Int) ∷ (val scalars.Int (pos 3)) ∷ []))); value = None }) ∷ Some (record { of = (inst (d 0) (arguments ((scalar scalars.Bool) ∷ (val scalars.Int (pos 4)) ∷ []))); value = None }) ∷ Some (record { of = (inst (d 1) (arguments ((val scalars.Unsigned (pos 4)) ∷ []))); value = None }) ∷ []); object = None }

abbrev pub values_unit_call_21_3 : Expression
values_unit_call_21_3 = call (m 108 21 3) (functions (m 105 21 3) (codes "f") 1) (and_expression (literal (m 106 21 5) scalars.Int (pos 1)) (and_expression (local_name (m 107 21 8) 2) no_expression))

abbrev pub values_unit_locals_21_3 : Environment
values_unit_locals_21_3 = record { arguments = []; variables = (Some (record { of = (inst (d 0) (arguments ((scalar scalars.Int) ∷ (val scalars.Int (pos 3)) ∷ []))); value = None }) ∷ Some (record { of = (inst (d 0) (arguments ((scalar scalars.Bool) ∷ (val scalars.Int (pos 4)) ∷ []))); value = None }) ∷ Some (record { of = (inst (d 1) (arguments ((val scalars.Unsigned (pos 4)) ∷ []))); value = None }) ∷ []); object = None }

abbrev pub values_unit_call_22_3 : Expression
values_unit_call_22_3 = call (m 112 22 3) (functions (m 110 22 3) (codes "h") 1) (and_expression (local_name (m 111 22 5) 0) no_expression)

abbrev pub values_unit_locals_22_3 : Environment
values_unit_locals_22_3 = record { arguments = []; variables = (Some (record { of = (inst (d 0) (arguments ((scalar scalars.Int) ∷ (val scalars.Int (pos 3)) ∷ []))); value = None }) ∷ Some (record { of = (inst (d 0) (arguments ((scalar scalars.Bool) ∷ (val scalars.Int (pos 4)) ∷ []))); value = None }) ∷ Some (record { of = (inst (d 1) (arguments ((val scalars.Unsigned (pos 4)) ∷ []))); value = None }) ∷ []); object = None }

abbrev pub values_unit_call_23_3 : Expression
values_unit_call_23_3 = call (m 116 23 3) (functions (m 114 23 3) (codes "h") 1) (and_expression (local_name (m 115 23 5) 1) no_expression)

abbrev pub values_unit_locals_23_3 : Environment
values_unit_locals_23_3 = record { arguments = []; variables = (Some (record { of = (inst (d 0) (arguments ((scalar scalars.Int) ∷ (val scalars.Int (pos 3)) ∷ []))); value = None }) ∷ Some (record { of = (inst (d 0) (arguments ((scalar scalars.Bool) ∷ (val scalars.Int (pos 4)) ∷ []))); value = None }) ∷ Some (record { of = (inst (d 1) (arguments ((val scalars.Unsigned (pos 4)) ∷ []))); value = None }) ∷ []); object = None }

abbrev pub values_unit_call_24_3 : Expression
values_unit_call_24_3 = call (m 120 24 3) (functions (m 118 24 3) (codes "k") 1) (and_expression (local_name (m 119 24 5) 0) no_expression)

abbrev pub values_unit_locals_24_3 : Environment
values_unit_locals_24_3 = record { arguments = []; variables = (Some (record { of = (inst (d 0) (arguments ((scalar scalars.Int) ∷ (val scalars.Int (pos 3)) ∷ []))); value = None }) ∷ Some (record { of = (inst (d 0) (arguments ((scalar scalars.Bool) ∷ (val scalars.Int (pos 4)) ∷ []))); value = None }) ∷ Some (record { of = (inst (d 1) (arguments ((val scalars.Unsigned (pos 4)) ∷ []))); value = None }) ∷ []); object = None }

abbrev pub values_unit_call_25_3 : Expression
values_unit_call_25_3 = call (m 124 25 3) (functions (m 122 25 3) (codes "l") 1) (and_expression (local_name (m 123 25 5) 0) no_expression)

abbrev pub values_unit_locals_25_3 : Environment
values_unit_locals_25_3 = record { arguments = []; variables = (Some (record { of = (inst (d 0) (arguments ((scalar scalars.Int) ∷ (val scalars.Int (pos 3)) ∷ []))); value = None }) ∷ Some (record { of = (inst (d 0) (arguments ((scalar scalars.Bool) ∷ (val scalars.Int (pos 4)) ∷ []))); value = None }) ∷ Some (record { of = (inst (d 1) (arguments ((val scalars.Unsigned (pos 4)) ∷ []))); value = None }) ∷ []); object = None }

abbrev pub values_unit_call_26_3 : Expression
values_unit_call_26_3 = call (m 128 26 3) (functions (m 126 26 3) (codes "l") 1) (and_expression (local_name (m 127 26 5) 1) no_expression)

abbrev pub values_unit_locals_26_3 : Environment
values_unit_locals_26_3 = record { arguments = []; variables = (Some (record { of = (inst (d 0) (arguments ((scalar scalars.Int) ∷ (val scalars.Int (pos 3)) ∷ []))); value = None }) ∷ Some (record { of = (inst (d 0) (arguments ((scalar scalars.Bool) ∷ (val scalars.Int (pos 4)) ∷ []))); value = None }) ∷ Some (record { of = (inst (d 1) (arguments ((val scalars.Unsigned (pos 4)) ∷ []))); value = None }) ∷ []); object = None }

abbrev pub values_unit_call_27_10 : Expression
values_unit_call_27_10 = call (m 135 27 10) (functions (m 130 27 10) (codes "f") 1) (and_expression (literal (m 131 27 12) scalars.Int (pos 1)) (and_expression (list (m 134 27 15) (template_id (m 133 27 15) (p 27 15) (d 1) (and_value (literal (m 132 27 17) scalars.Int (pos 5)) no_argument)) no_expression) no_expression))

abbrev pub values_unit_locals_27_10 : Environment
values_unit_locals_27_10 = record { arguments = []; variables = (Some (record { of = (inst (d 0) (arguments ((scalar scalars.Int) ∷ (val scalars.Int (pos 3)) ∷ []))); value = None }) ∷ Some (record { of = (inst (d 0) (arguments ((scalar scalars.Bool) ∷ (val scalars.Int (pos 4)) ∷ []))); value = None }) ∷ Some (record { of = (inst (d 1) (arguments ((val scalars.Unsigned (pos 4)) ∷ []))); value = None }) ∷ []); object = None }

-- struct S { using type = bool; };
-- template<typename T, typename U = T> int a(T) { return 1; }
-- template<typename T = int> int b() { return 1; }
-- template<typename T, typename U = typename T::type> int c(T) { return 1; }
-- template<typename T> int d() { return 1; }
-- template<int N = 3, int M = N + 1> int e() { return 1; }
-- template<unsigned N = 2147483647 * 2> int f() { return 1; }
-- template<unsigned N = 1 - 2> int h() { return 1; }
-- template<typename T = int, typename U> int k(U) { return 1; }
-- int g(S s) { return a(1) + a<bool, int>(1) + b() + b<bool>() + c(s) + c(1) + d() + e() + e<1>() + f() + h() + k(true); }
abbrev pub default_arguments_unit : Program
default_arguments_unit =
    unit
    (a_struct (record { at = (p 1 8); itself = (struct (d 0)); is_template = false; template_parameters = ([]); constraints = ([]); primary = None; specialised_for = ([]); members = (member_alias (codes "type") (scalar_type (m 0 1 25) scalars.Bool) ∷ []) })
    ∷ a_function (record { at = (p 2 42); name = (codes "a"); owner = None; is_template = true; template_parameters = (tp None None ∷ tp None (Some (of_type (position_type (m 1 2 35) 0))) ∷ []); constraints = ([]); parameters = (parameter (position_type (m 3 2 44) 0) 0 false ∷ []); result = (scalar_type (m 2 2 38) scalars.Int); is_const = false; is_constexpr = false; body = Some (block (m 6 2 47) (and_statement (return_statement (m 5 2 49) (Some (literal (m 4 2 56) scalars.Int (pos 1)))) no_statement)) })
    ∷ a_function (record { at = (p 3 32); name = (codes "b"); owner = None; is_template = true; template_parameters = (tp None (Some (of_type (scalar_type (m 7 3 23) scalars.Int))) ∷ []); constraints = ([]); parameters = ([]); result = (scalar_type (m 8 3 28) scalars.Int); is_const = false; is_constexpr = false; body = Some (block (m 11 3 36) (and_statement (return_statement (m 10 3 38) (Some (literal (m 9 3 45) scalars.Int (pos 1)))) no_statement)) })
    ∷ a_function (record { at = (p 4 57); name = (codes "c"); owner = None; is_template = true; template_parameters = (tp None None ∷ tp None (Some (of_type (member_type (m 13 4 35) (position_type (m 12 4 44) 0) ((codes "type") ∷ [])))) ∷ []); constraints = ([]); parameters = (parameter (position_type (m 15 4 59) 0) 0 false ∷ []); result = (scalar_type (m 14 4 53) scalars.Int); is_const = false; is_constexpr = false; body = Some (block (m 18 4 62) (and_statement (return_statement (m 17 4 64) (Some (literal (m 16 4 71) scalars.Int (pos 1)))) no_statement)) })
    ∷ a_function (record { at = (p 5 26); name = (codes "d"); owner = None; is_template = true; template_parameters = (tp None None ∷ []); constraints = ([]); parameters = ([]); result = (scalar_type (m 19 5 22) scalars.Int); is_const = false; is_constexpr = false; body = Some (block (m 22 5 30) (and_statement (return_statement (m 21 5 32) (Some (literal (m 20 5 39) scalars.Int (pos 1)))) no_statement)) })
    ∷ a_function (record { at = (p 6 40); name = (codes "e"); owner = None; is_template = true; template_parameters = (tp (Some scalars.Int) (Some (of_value (literal (m 23 6 18) scalars.Int (pos 3)))) ∷ tp (Some scalars.Int) (Some (of_value (binary (m 26 6 29) word.Plus (position_name (m 24 6 29) 0) (literal (m 25 6 33) scalars.Int (pos 1))))) ∷ []); constraints = ([]); parameters = ([]); result = (scalar_type (m 27 6 36) scalars.Int); is_const = false; is_constexpr = false; body = Some (block (m 30 6 44) (and_statement (return_statement (m 29 6 46) (Some (literal (m 28 6 53) scalars.Int (pos 1)))) no_statement)) })
    ∷ a_function (record { at = (p 7 43); name = (codes "f"); owner = None; is_template = true; template_parameters = (tp (Some scalars.Unsigned) (Some (of_value (binary (m 33 7 23) word.Times (literal (m 31 7 23) scalars.Int (pos 2147483647)) (literal (m 32 7 36) scalars.Int (pos 2))))) ∷ []); constraints = ([]); parameters = ([]); result = (scalar_type (m 34 7 39) scalars.Int); is_const = false; is_constexpr = false; body = Some (block (m 37 7 47) (and_statement (return_statement (m 36 7 49) (Some (literal (m 35 7 56) scalars.Int (pos 1)))) no_statement)) })
    ∷ a_function (record { at = (p 8 34); name = (codes "h"); owner = None; is_template = true; template_parameters = (tp (Some scalars.Unsigned) (Some (of_value (binary (m 40 8 23) word.Minus (literal (m 38 8 23) scalars.Int (pos 1)) (literal (m 39 8 27) scalars.Int (pos 2))))) ∷ []); constraints = ([]); parameters = ([]); result = (scalar_type (m 41 8 30) scalars.Int); is_const = false; is_constexpr = false; body = Some (block (m 44 8 38) (and_statement (return_statement (m 43 8 40) (Some (literal (m 42 8 47) scalars.Int (pos 1)))) no_statement)) })
    ∷ a_function (record { at = (p 9 44); name = (codes "k"); owner = None; is_template = true; template_parameters = (tp None (Some (of_type (scalar_type (m 45 9 23) scalars.Int))) ∷ tp None None ∷ []); constraints = ([]); parameters = (parameter (position_type (m 47 9 46) 1) 0 false ∷ []); result = (scalar_type (m 46 9 40) scalars.Int); is_const = false; is_constexpr = false; body = Some (block (m 50 9 49) (and_statement (return_statement (m 49 9 51) (Some (literal (m 48 9 58) scalars.Int (pos 1)))) no_statement)) })
    ∷ a_function (record { at = (p 10 5); name = (codes "g"); owner = None; is_template = false; template_parameters = ([]); constraints = ([]); parameters = (parameter (struct_type (m 52 10 7) (d 0)) 0 true ∷ []); result = (scalar_type (m 51 10 1) scalars.Int); is_const = false; is_constexpr = false; body = Some (block (m 98 10 12) (and_statement (return_statement (m 97 10 14) (Some (binary (m 96 10 21) word.Plus (binary (m 92 10 21) word.Plus (binary (m 89 10 21) word.Plus (binary (m 86 10 21) word.Plus (binary (m 82 10 21) word.Plus (binary (m 79 10 21) word.Plus (binary (m 76 10 21) word.Plus (binary (m 72 10 21) word.Plus (binary (m 68 10 21) word.Plus (binary (m 64 10 21) word.Plus (binary (m 61 10 21) word.Plus (call (m 55 10 21) (functions (m 53 10 21) (codes "a") 1) (and_expression (literal (m 54 10 23) scalars.Int (pos 1)) no_expression)) (call (m 60 10 28) (functions_with (m 58 10 28) (codes "a") 1 (and_type (scalar_type (m 56 10 30) scalars.Bool) (and_type (scalar_type (m 57 10 36) scalars.Int) no_argument))) (and_expression (literal (m 59 10 41) scalars.Int (pos 1)) no_expression))) (call (m 63 10 46) (functions (m 62 10 46) (codes "b") 1) no_expression)) (call (m 67 10 52) (functions_with (m 66 10 52) (codes "b") 1 (and_type (scalar_type (m 65 10 54) scalars.Bool) no_argument)) no_expression)) (call (m 71 10 64) (functions (m 69 10 64) (codes "c") 1) (and_expression (local_name (m 70 10 66) 0) no_expression))) (call (m 75 10 71) (functions (m 73 10 71) (codes "c") 1) (and_expression (literal (m 74 10 73) scalars.Int (pos 1)) no_expression))) (call (m 78 10 78) (functions (m 77 10 78) (codes "d") 1) no_expression)) (call (m 81 10 84) (functions (m 80 10 84) (codes "e") 1) no_expression)) (call (m 85 10 90) (functions_with (m 84 10 90) (codes "e") 1 (and_value (literal (m 83 10 92) scalars.Int (pos 1)) no_argument)) no_expression)) (call (m 88 10 99) (functions (m 87 10 99) (codes "f") 1) no_expression)) (call (m 91 10 105) (functions (m 90 10 105) (codes "h") 1) no_expression)) (call (m 95 10 111) (functions (m 93 10 111) (codes "k") 1) (and_expression (literal (m 94 10 113) scalars.Bool (pos 1)) no_expression))))) no_statement)) })
    ∷ [])
    (((codes "a"), ((d 1) ∷ [])) ∷ ((codes "b"), ((d 2) ∷ [])) ∷ ((codes "c"), ((d 3) ∷ [])) ∷ ((codes "d"), ((d 4) ∷ [])) ∷ ((codes "e"), ((d 5) ∷ [])) ∷ ((codes "f"), ((d 6) ∷ [])) ∷ ((codes "h"), ((d 7) ∷ [])) ∷ ((codes "k"), ((d 8) ∷ [])) ∷ ((codes "g"), ((d 9) ∷ [])) ∷ [])
    ([])
    ([])
    (around 0 ([]) false ∷ around 1 (None ∷ None ∷ []) true ∷ around 7 (None ∷ []) true ∷ around 12 (None ∷ None ∷ []) true ∷ around 19 (None ∷ []) true ∷ around 23 ((Some scalars.Int) ∷ (Some scalars.Int) ∷ []) true ∷ around 31 ((Some scalars.Unsigned) ∷ []) true ∷ around 45 (None ∷ None ∷ []) true ∷ around 51 ([]) false ∷ [])
    ([])

abbrev pub default_arguments_unit_call_10_21 : Expression
default_arguments_unit_call_10_21 = call (m 55 10 21) (functions (m 53 10 21) (codes "a") 1) (and_expression (literal (m 54 10 23) scalars.Int (pos 1)) no_expression)

abbrev pub default_arguments_unit_locals_10_21 : Environment
default_arguments_unit_locals_10_21 = record { arguments = []; variables = (Some (record { of = (struct (d 0)); value = None }) ∷ []); object = None }

abbrev pub default_arguments_unit_call_10_28 : Expression
default_arguments_unit_call_10_28 = call (m 60 10 28) (functions_with (m 58 10 28) (codes "a") 1 (and_type (scalar_type (m 56 10 30) scalars.Bool) (and_type (scalar_type (m 57 10 36) scalars.Int) no_argument))) (and_expression (literal (m 59 10 41) scalars.Int (pos 1)) no_expression)

abbrev pub default_arguments_unit_locals_10_28 : Environment
default_arguments_unit_locals_10_28 = record { arguments = []; variables = (Some (record { of = (struct (d 0)); value = None }) ∷ []); object = None }

abbrev pub default_arguments_unit_call_10_46 : Expression
default_arguments_unit_call_10_46 = call (m 63 10 46) (functions (m 62 10 46) (codes "b") 1) no_expression

abbrev pub default_arguments_unit_locals_10_46 : Environment
default_arguments_unit_locals_10_46 = record { arguments = []; variables = (Some (record { of = (struct (d 0)); value = None }) ∷ []); object = None }

abbrev pub default_arguments_unit_call_10_52 : Expression
default_arguments_unit_call_10_52 = call (m 67 10 52) (functions_with (m 66 10 52) (codes "b") 1 (and_type (scalar_type (m 65 10 54) scalars.Bool) no_argument)) no_expression

abbrev pub default_arguments_unit_locals_10_52 : Environment
default_arguments_unit_locals_10_52 = record { arguments = []; variables = (Some (record { of = (struct (d 0)); value = None }) ∷ []); object = None }

abbrev pub default_arguments_unit_call_10_64 : Expression
default_arguments_unit_call_10_64 = call (m 71 10 64) (functions (m 69 10 64) (codes "c") 1) (and_expression (local_name (m 70 10 66) 0) no_expression)

abbrev pub default_arguments_unit_locals_10_64 : Environment
default_arguments_unit_locals_10_64 = record { arguments = []; variables = (Some (record { of = (struct (d 0)); value = None }) ∷ []); object = None }

abbrev pub default_arguments_unit_call_10_71 : Expression
default_arguments_unit_call_10_71 = call (m 75 10 71) (functions (m 73 10 71) (codes "c") 1) (and_expression (literal (m 74 10 73) scalars.Int (pos 1)) no_expression)

abbrev pub default_arguments_unit_locals_10_71 : Environment
default_arguments_unit_locals_10_71 = record { arguments = []; variables = (Some (record { of = (struct (d 0)); value = None }) ∷ []); object = None }

abbrev pub default_arguments_unit_call_10_78 : Expression
default_arguments_unit_call_10_78 = call (m 78 10 78) (functions (m 77 10 78) (codes "d") 1) no_expression

abbrev pub default_arguments_unit_locals_10_78 : Environment
default_arguments_unit_locals_10_78 = record { arguments = []; variables = (Some (record { of = (struct (d 0)); value = None }) ∷ []); object = None }

abbrev pub default_arguments_unit_call_10_84 : Expression
default_arguments_unit_call_10_84 = call (m 81 10 84) (functions (m 80 10 84) (codes "e") 1) no_expression

abbrev pub default_arguments_unit_locals_10_84 : Environment
default_arguments_unit_locals_10_84 = record { arguments = []; variables = (Some (record { of = (struct (d 0)); value = None }) ∷ []); object = None }

abbrev pub default_arguments_unit_call_10_90 : Expression
default_arguments_unit_call_10_90 = call (m 85 10 90) (functions_with (m 84 10 90) (codes "e") 1 (and_value (literal (m 83 10 92) scalars.Int (pos 1)) no_argument)) no_expression

abbrev pub default_arguments_unit_locals_10_90 : Environment
default_arguments_unit_locals_10_90 = record { arguments = []; variables = (Some (record { of = (struct (d 0)); value = None }) ∷ []); object = None }

abbrev pub default_arguments_unit_call_10_99 : Expression
default_arguments_unit_call_10_99 = call (m 88 10 99) (functions (m 87 10 99) (codes "f") 1) no_expression

abbrev pub default_arguments_unit_locals_10_99 : Environment
default_arguments_unit_locals_10_99 = record { arguments = []; variables = (Some (record { of = (struct (d 0)); value = None }) ∷ []); object = None }

abbrev pub default_arguments_unit_call_10_105 : Expression
default_arguments_unit_call_10_105 = call (m 91 10 105) (functions (m 90 10 105) (codes "h") 1) no_expression

abbrev pub default_arguments_unit_locals_10_105 : Environment
default_arguments_unit_locals_10_105 = record { arguments = []; variables = (Some (record { of = (struct (d 0)); value = None }) ∷ []); object = None }

abbrev pub default_arguments_unit_call_10_111 : Expression
default_arguments_unit_call_10_111 = call (m 95 10 111) (functions (m 93 10 111) (codes "k") 1) (and_expression (literal (m 94 10 113) scalars.Bool (pos 1)) no_expression)

abbrev pub default_arguments_unit_locals_10_111 : Environment
default_arguments_unit_locals_10_111 = record { arguments = []; variables = (Some (record { of = (struct (d 0)); value = None }) ∷ []); object = None }

-- struct S { };
-- int f(int) { return 1; }
-- template<typename T> int f(T) { return 2; }
-- template<int N> int f(bool) { return 3; }
-- template<unsigned N> int k() { return 1; }
-- template<typename T> int r(T&) { return 1; }
-- template<typename T> int p(T) { return 1; }
-- int g(int i, const int c) {
--   f(1);
--   f<int>(1);
--   f<bool>(1);
--   f<int, int>(1);
--   f<5>(1);
--   f<true>(true);
--   k<3>();
--   k<3ll>();
--   k<-1>();
--   k<1 / 0>();
--   k<int>();
--   r<int&>(i);
--   r<int>(c);
--   r<const int>(i);
--   p<void>(1);
--   r<void>(i);
--   p<typename S::none>(1);
--   return p<i>(1);
-- }
abbrev pub explicit_unit : Program
explicit_unit =
    unit
    (a_struct (record { at = (p 1 8); itself = (struct (d 0)); is_template = false; template_parameters = ([]); constraints = ([]); primary = None; specialised_for = ([]); members = ([]) })
    ∷ a_function (record { at = (p 2 5); name = (codes "f"); owner = None; is_template = false; template_parameters = ([]); constraints = ([]); parameters = (parameter (scalar_type (m 1 2 7) scalars.Int) 0 false ∷ []); result = (scalar_type (m 0 2 1) scalars.Int); is_const = false; is_constexpr = false; body = Some (block (m 4 2 12) (and_statement (return_statement (m 3 2 14) (Some (literal (m 2 2 21) scalars.Int (pos 1)))) no_statement)) })
    ∷ a_function (record { at = (p 3 26); name = (codes "f"); owner = None; is_template = true; template_parameters = (tp None None ∷ []); constraints = ([]); parameters = (parameter (position_type (m 6 3 28) 0) 0 false ∷ []); result = (scalar_type (m 5 3 22) scalars.Int); is_const = false; is_constexpr = false; body = Some (block (m 9 3 31) (and_statement (return_statement (m 8 3 33) (Some (literal (m 7 3 40) scalars.Int (pos 2)))) no_statement)) })
    ∷ a_function (record { at = (p 4 21); name = (codes "f"); owner = None; is_template = true; template_parameters = (tp (Some scalars.Int) None ∷ []); constraints = ([]); parameters = (parameter (scalar_type (m 11 4 23) scalars.Bool) 0 false ∷ []); result = (scalar_type (m 10 4 17) scalars.Int); is_const = false; is_constexpr = false; body = Some (block (m 14 4 29) (and_statement (return_statement (m 13 4 31) (Some (literal (m 12 4 38) scalars.Int (pos 3)))) no_statement)) })
    ∷ a_function (record { at = (p 5 26); name = (codes "k"); owner = None; is_template = true; template_parameters = (tp (Some scalars.Unsigned) None ∷ []); constraints = ([]); parameters = ([]); result = (scalar_type (m 15 5 22) scalars.Int); is_const = false; is_constexpr = false; body = Some (block (m 18 5 30) (and_statement (return_statement (m 17 5 32) (Some (literal (m 16 5 39) scalars.Int (pos 1)))) no_statement)) })
    ∷ a_function (record { at = (p 6 26); name = (codes "r"); owner = None; is_template = true; template_parameters = (tp None None ∷ []); constraints = ([]); parameters = (parameter (reference_type (m 20 6 28) (position_type (m 20 6 28) 0)) 0 false ∷ []); result = (scalar_type (m 19 6 22) scalars.Int); is_const = false; is_constexpr = false; body = Some (block (m 23 6 32) (and_statement (return_statement (m 22 6 34) (Some (literal (m 21 6 41) scalars.Int (pos 1)))) no_statement)) })
    ∷ a_function (record { at = (p 7 26); name = (codes "p"); owner = None; is_template = true; template_parameters = (tp None None ∷ []); constraints = ([]); parameters = (parameter (position_type (m 25 7 28) 0) 0 false ∷ []); result = (scalar_type (m 24 7 22) scalars.Int); is_const = false; is_constexpr = false; body = Some (block (m 28 7 31) (and_statement (return_statement (m 27 7 33) (Some (literal (m 26 7 40) scalars.Int (pos 1)))) no_statement)) })
    ∷ a_function (record { at = (p 8 5); name = (codes "g"); owner = None; is_template = false; template_parameters = ([]); constraints = ([]); parameters = (parameter (scalar_type (m 30 8 7) scalars.Int) 0 true ∷ parameter (const_type (m 31 8 14) (scalar_type (m 31 8 14) scalars.Int)) 1 true ∷ []); result = (scalar_type (m 29 8 1) scalars.Int); is_const = false; is_constexpr = false; body = Some (block (m 121 8 27) (and_statement (expression_statement (m 35 9 3) (call (m 34 9 3) (functions (m 32 9 3) (codes "f") 3) (and_expression (literal (m 33 9 5) scalars.Int (pos 1)) no_expression))) (and_statement (expression_statement (m 40 10 3) (call (m 39 10 3) (functions_with (m 37 10 3) (codes "f") 3 (and_type (scalar_type (m 36 10 5) scalars.Int) no_argument)) (and_expression (literal (m 38 10 10) scalars.Int (pos 1)) no_expression))) (and_statement (expression_statement (m 45 11 3) (call (m 44 11 3) (functions_with (m 42 11 3) (codes "f") 3 (and_type (scalar_type (m 41 11 5) scalars.Bool) no_argument)) (and_expression (literal (m 43 11 11) scalars.Int (pos 1)) no_expression))) (and_statement (expression_statement (m 51 12 3) (call (m 50 12 3) (functions_with (m 48 12 3) (codes "f") 3 (and_type (scalar_type (m 46 12 5) scalars.Int) (and_type (scalar_type (m 47 12 10) scalars.Int) no_argument))) (and_expression (literal (m 49 12 15) scalars.Int (pos 1)) no_expression))) (and_statement (expression_statement (m 56 13 3) (call (m 55 13 3) (functions_with (m 53 13 3) (codes "f") 3 (and_value (literal (m 52 13 5) scalars.Int (pos 5)) no_argument)) (and_expression (literal (m 54 13 8) scalars.Int (pos 1)) no_expression))) (and_statement (expression_statement (m 61 14 3) (call (m 60 14 3) (functions_with (m 58 14 3) (codes "f") 3 (and_value (literal (m 57 14 5) scalars.Bool (pos 1)) no_argument)) (and_expression (literal (m 59 14 11) scalars.Bool (pos 1)) no_expression))) (and_statement (expression_statement (m 65 15 3) (call (m 64 15 3) (functions_with (m 63 15 3) (codes "k") 1 (and_value (literal (m 62 15 5) scalars.Int (pos 3)) no_argument)) no_expression)) (and_statement (expression_statement (m 69 16 3) (call (m 68 16 3) (functions_with (m 67 16 3) (codes "k") 1 (and_value (literal (m 66 16 5) scalars.LongLong (pos 3)) no_argument)) no_expression)) (and_statement (expression_statement (m 74 17 3) (call (m 73 17 3) (functions_with (m 72 17 3) (codes "k") 1 (and_value (unary (m 71 17 5) word.Minus (literal (m 70 17 6) scalars.Int (pos 1))) no_argument)) no_expression)) (and_statement (expression_statement (m 80 18 3) (call (m 79 18 3) (functions_with (m 78 18 3) (codes "k") 1 (and_value (binary (m 77 18 5) word.Divide (literal (m 75 18 5) scalars.Int (pos 1)) (literal (m 76 18 9) scalars.Int (pos 0))) no_argument)) no_expression)) (and_statement (expression_statement (m 84 19 3) (call (m 83 19 3) (functions_with (m 82 19 3) (codes "k") 1 (and_type (scalar_type (m 81 19 5) scalars.Int) no_argument)) no_expression)) (and_statement (expression_statement (m 89 20 3) (call (m 88 20 3) (functions_with (m 86 20 3) (codes "r") 1 (and_type (reference_type (m 85 20 5) (scalar_type (m 85 20 5) scalars.Int)) no_argument)) (and_expression (local_name (m 87 20 11) 0) no_expression))) (and_statement (expression_statement (m 94 21 3) (call (m 93 21 3) (functions_with (m 91 21 3) (codes "r") 1 (and_type (scalar_type (m 90 21 5) scalars.Int) no_argument)) (and_expression (local_name (m 92 21 10) 1) no_expression))) (and_statement (expression_statement (m 99 22 3) (call (m 98 22 3) (functions_with (m 96 22 3) (codes "r") 1 (and_type (const_type (m 95 22 5) (scalar_type (m 95 22 5) scalars.Int)) no_argument)) (and_expression (local_name (m 97 22 16) 0) no_expression))) (and_statement (expression_statement (m 104 23 3) (call (m 103 23 3) (functions_with (m 101 23 3) (codes "p") 1 (and_type (void_type (m 100 23 5)) no_argument)) (and_expression (literal (m 102 23 11) scalars.Int (pos 1)) no_expression))) (and_statement (expression_statement (m 109 24 3) (call (m 108 24 3) (functions_with (m 106 24 3) (codes "r") 1 (and_type (void_type (m 105 24 5)) no_argument)) (and_expression (local_name (m 107 24 11) 0) no_expression))) (and_statement (expression_statement (m 115 25 3) (call (m 114 25 3) (functions_with (m 112 25 3) (codes "p") 1 (and_type (member_type (m 111 25 5) (struct_type (m 110 25 14) (d 0)) ((codes "none") ∷ [])) no_argument)) (and_expression (literal (m 113 25 23) scalars.Int (pos 1)) no_expression))) (and_statement (return_statement (m 120 26 3) (Some (call (m 119 26 10) (functions_with (m 117 26 10) (codes "p") 1 (and_value (local_name (m 116 26 12) 0) no_argument)) (and_expression (literal (m 118 26 15) scalars.Int (pos 1)) no_expression)))) no_statement))))))))))))))))))) })
    ∷ [])
    (((codes "f"), ((d 1) ∷ (d 2) ∷ (d 3) ∷ [])) ∷ ((codes "k"), ((d 4) ∷ [])) ∷ ((codes "r"), ((d 5) ∷ [])) ∷ ((codes "p"), ((d 6) ∷ [])) ∷ ((codes "g"), ((d 7) ∷ [])) ∷ [])
    ([])
    ([])
    (around 0 ([]) false ∷ around 5 (None ∷ []) true ∷ around 10 ((Some scalars.Int) ∷ []) true ∷ around 15 ((Some scalars.Unsigned) ∷ []) true ∷ around 19 (None ∷ []) true ∷ around 29 ([]) false ∷ [])
    ([])

abbrev pub explicit_unit_call_9_3 : Expression
explicit_unit_call_9_3 = call (m 34 9 3) (functions (m 32 9 3) (codes "f") 3) (and_expression (literal (m 33 9 5) scalars.Int (pos 1)) no_expression)

abbrev pub explicit_unit_locals_9_3 : Environment
explicit_unit_locals_9_3 = record { arguments = []; variables = (Some (record { of = (scalar scalars.Int); value = None }) ∷ Some (record { of = (const (scalar scalars.Int)); value = None }) ∷ []); object = None }

abbrev pub explicit_unit_call_10_3 : Expression
explicit_unit_call_10_3 = call (m 39 10 3) (functions_with (m 37 10 3) (codes "f") 3 (and_type (scalar_type (m 36 10 5) scalars.Int) no_argument)) (and_expression (literal (m 38 10 10) scalars.Int (pos 1)) no_expression)

abbrev pub explicit_unit_locals_10_3 : Environment
explicit_unit_locals_10_3 = record { arguments = []; variables = (Some (record { of = (scalar scalars.Int); value = None }) ∷ Some (record { of = (const (scalar scalars.Int)); value = None }) ∷ []); object = None }

abbrev pub explicit_unit_call_11_3 : Expression
explicit_unit_call_11_3 = call (m 44 11 3) (functions_with (m 42 11 3) (codes "f") 3 (and_type (scalar_type (m 41 11 5) scalars.Bool) no_argument)) (and_expression (literal (m 43 11 11) scalars.Int (pos 1)) no_expression)

abbrev pub explicit_unit_locals_11_3 : Environment
explicit_unit_locals_11_3 = record { arguments = []; variables = (Some (record { of = (scalar scalars.Int); value = None }) ∷ Some (record { of = (const (scalar scalars.Int)); value = None }) ∷ []); object = None }

abbrev pub explicit_unit_call_12_3 : Expression
explicit_unit_call_12_3 = call (m 50 12 3) (functions_with (m 48 12 3) (codes "f") 3 (and_type (scalar_type (m 46 12 5) scalars.Int) (and_type (scalar_type (m 47 12 10) scalars.Int) no_argument))) (and_expression (literal (m 49 12 15) scalars.Int (pos 1)) no_expression)

abbrev pub explicit_unit_locals_12_3 : Environment
explicit_unit_locals_12_3 = record { arguments = []; variables = (Some (record { of = (scalar scalars.Int); value = None }) ∷ Some (record { of = (const (scalar scalars.Int)); value = None }) ∷ []); object = None }

abbrev pub explicit_unit_call_13_3 : Expression
explicit_unit_call_13_3 = call (m 55 13 3) (functions_with (m 53 13 3) (codes "f") 3 (and_value (literal (m 52 13 5) scalars.Int (pos 5)) no_argument)) (and_expression (literal (m 54 13 8) scalars.Int (pos 1)) no_expression)

abbrev pub explicit_unit_locals_13_3 : Environment
explicit_unit_locals_13_3 = record { arguments = []; variables = (Some (record { of = (scalar scalars.Int); value = None }) ∷ Some (record { of = (const (scalar scalars.Int)); value = None }) ∷ []); object = None }

abbrev pub explicit_unit_call_14_3 : Expression
explicit_unit_call_14_3 = call (m 60 14 3) (functions_with (m 58 14 3) (codes "f") 3 (and_value (literal (m 57 14 5) scalars.Bool (pos 1)) no_argument)) (and_expression (literal (m 59 14 11) scalars.Bool (pos 1)) no_expression)

abbrev pub explicit_unit_locals_14_3 : Environment
explicit_unit_locals_14_3 = record { arguments = []; variables = (Some (record { of = (scalar scalars.Int); value = None }) ∷ Some (record { of = (const (scalar scalars.Int)); value = None }) ∷ []); object = None }

abbrev pub explicit_unit_call_15_3 : Expression
explicit_unit_call_15_3 = call (m 64 15 3) (functions_with (m 63 15 3) (codes "k") 1 (and_value (literal (m 62 15 5) scalars.Int (pos 3)) no_argument)) no_expression

abbrev pub explicit_unit_locals_15_3 : Environment
explicit_unit_locals_15_3 = record { arguments = []; variables = (Some (record { of = (scalar scalars.Int); value = None }) ∷ Some (record { of = (const (scalar scalars.Int)); value = None }) ∷ []); object = None }

abbrev pub explicit_unit_call_16_3 : Expression
explicit_unit_call_16_3 = call (m 68 16 3) (functions_with (m 67 16 3) (codes "k") 1 (and_value (literal (m 66 16 5) scalars.LongLong (pos 3)) no_argument)) no_expression

abbrev pub explicit_unit_locals_16_3 : Environment
explicit_unit_locals_16_3 = record { arguments = []; variables = (Some (record { of = (scalar scalars.Int); value = None }) ∷ Some (record { of = (const (scalar scalars.Int)); value = None }) ∷ []); object = None }

abbrev pub explicit_unit_call_17_3 : Expression
explicit_unit_call_17_3 = call (m 73 17 3) (functions_with (m 72 17 3) (codes "k") 1 (and_value (unary (m 71 17 5) word.Minus (literal (m 70 17 6) scalars.Int (pos 1))) no_argument)) no_expression

abbrev pub explicit_unit_locals_17_3 : Environment
explicit_unit_locals_17_3 = record { arguments = []; variables = (Some (record { of = (scalar scalars.Int); value = None }) ∷ Some (record { of = (const (scalar scalars.Int)); value = None }) ∷ []); object = None }

abbrev pub explicit_unit_call_18_3 : Expression
explicit_unit_call_18_3 = call (m 79 18 3) (functions_with (m 78 18 3) (codes "k") 1 (and_value (binary (m 77 18 5) word.Divide (literal (m 75 18 5) scalars.Int (pos 1)) (literal (m 76 18 9) scalars.Int (pos 0))) no_argument)) no_expression

abbrev pub explicit_unit_locals_18_3 : Environment
explicit_unit_locals_18_3 = record { arguments = []; variables = (Some (record { of = (scalar scalars.Int); value = None }) ∷ Some (record { of = (const (scalar scalars.Int)); value = None }) ∷ []); object = None }

abbrev pub explicit_unit_call_19_3 : Expression
explicit_unit_call_19_3 = call (m 83 19 3) (functions_with (m 82 19 3) (codes "k") 1 (and_type (scalar_type (m 81 19 5) scalars.Int) no_argument)) no_expression

abbrev pub explicit_unit_locals_19_3 : Environment
explicit_unit_locals_19_3 = record { arguments = []; variables = (Some (record { of = (scalar scalars.Int); value = None }) ∷ Some (record { of = (const (scalar scalars.Int)); value = None }) ∷ []); object = None }

abbrev pub explicit_unit_call_20_3 : Expression
explicit_unit_call_20_3 = call (m 88 20 3) (functions_with (m 86 20 3) (codes "r") 1 (and_type (reference_type (m 85 20 5) (scalar_type (m 85 20 5) scalars.Int)) no_argument)) (and_expression (local_name (m 87 20 11) 0) no_expression)

abbrev pub explicit_unit_locals_20_3 : Environment
explicit_unit_locals_20_3 = record { arguments = []; variables = (Some (record { of = (scalar scalars.Int); value = None }) ∷ Some (record { of = (const (scalar scalars.Int)); value = None }) ∷ []); object = None }

abbrev pub explicit_unit_call_21_3 : Expression
explicit_unit_call_21_3 = call (m 93 21 3) (functions_with (m 91 21 3) (codes "r") 1 (and_type (scalar_type (m 90 21 5) scalars.Int) no_argument)) (and_expression (local_name (m 92 21 10) 1) no_expression)

abbrev pub explicit_unit_locals_21_3 : Environment
explicit_unit_locals_21_3 = record { arguments = []; variables = (Some (record { of = (scalar scalars.Int); value = None }) ∷ Some (record { of = (const (scalar scalars.Int)); value = None }) ∷ []); object = None }

abbrev pub explicit_unit_call_22_3 : Expression
explicit_unit_call_22_3 = call (m 98 22 3) (functions_with (m 96 22 3) (codes "r") 1 (and_type (const_type (m 95 22 5) (scalar_type (m 95 22 5) scalars.Int)) no_argument)) (and_expression (local_name (m 97 22 16) 0) no_expression)

abbrev pub explicit_unit_locals_22_3 : Environment
explicit_unit_locals_22_3 = record { arguments = []; variables = (Some (record { of = (scalar scalars.Int); value = None }) ∷ Some (record { of = (const (scalar scalars.Int)); value = None }) ∷ []); object = None }

abbrev pub explicit_unit_call_23_3 : Expression
explicit_unit_call_23_3 = call (m 103 23 3) (functions_with (m 101 23 3) (codes "p") 1 (and_type (void_type (m 100 23 5)) no_argument)) (and_expression (literal (m 102 23 11) scalars.Int (pos 1)) no_expression)

abbrev pub explicit_unit_locals_23_3 : Environment
explicit_unit_locals_23_3 = record { arguments = []; variables = (Some (record { of = (scalar scalars.Int); value = None }) ∷ Some (record { of = (const (scalar scalars.Int)); value = None }) ∷ []); object = None }

abbrev pub explicit_unit_call_24_3 : Expression
explicit_unit_call_24_3 = call (m 108 24 3) (functions_with (m 106 24 3) (codes "r") 1 (and_type (void_type (m 105 24 5)) no_argument)) (and_expression (local_name (m 107 24 11) 0) no_expression)

abbrev pub explicit_unit_locals_24_3 : Environment
explicit_unit_locals_24_3 = record { arguments = []; variables = (Some (record { of = (scalar scalars.Int); value = None }) ∷ Some (record { of = (const (scalar scalars.Int)); value = None }) ∷ []); object = None }

abbrev pub explicit_unit_call_25_3 : Expression
explicit_unit_call_25_3 = call (m 114 25 3) (functions_with (m 112 25 3) (codes "p") 1 (and_type (member_type (m 111 25 5) (struct_type (m 110 25 14) (d 0)) ((codes "none") ∷ [])) no_argument)) (and_expression (literal (m 113 25 23) scalars.Int (pos 1)) no_expression)

abbrev pub explicit_unit_locals_25_3 : Environment
explicit_unit_locals_25_3 = record { arguments = []; variables = (Some (record { of = (scalar scalars.Int); value = None }) ∷ Some (record { of = (const (scalar scalars.Int)); value = None }) ∷ []); object = None }

abbrev pub explicit_unit_call_26_10 : Expression
explicit_unit_call_26_10 = call (m 119 26 10) (functions_with (m 117 26 10) (codes "p") 1 (and_value (local_name (m 116 26 12) 0) no_argument)) (and_expression (literal (m 118 26 15) scalars.Int (pos 1)) no_expression)

abbrev pub explicit_unit_locals_26_10 : Environment
explicit_unit_locals_26_10 = record { arguments = []; variables = (Some (record { of = (scalar scalars.Int); value = None }) ∷ Some (record { of = (const (scalar scalars.Int)); value = None }) ∷ []); object = None }

-- template<typename T> struct Bad { typename T::bad x; using type = int; };
-- template<typename T> typename T::type a(T) { return 1; }
-- template<typename T> typename Bad<T>::type b(T) { return 1; }
-- template<typename T> int b(T) { return 2; }
-- template<typename T> int c(T, typename T::type) { return 1; }
-- template<typename T> int c(T, long long) { return 2; }
-- template<typename T> decltype(T{} + 1) d(T) { return 1; }
-- struct S { int x; };
-- int g(S s) { return a(1) + b(1) + c(1, 2) + d(1) + d(s); }
abbrev pub types_that_fail_unit : Program
types_that_fail_unit =
    unit
    (a_struct (record { at = (p 1 29); itself = (inst (d 0) (arguments ((param 0) ∷ []))); is_template = true; template_parameters = (tp None None ∷ []); constraints = ([]); primary = None; specialised_for = ([]); members = (field (codes "x") (member_type (m 1 1 35) (position_type (m 0 1 44) 0) ((codes "bad") ∷ [])) ∷ member_alias (codes "type") (scalar_type (m 2 1 67) scalars.Int) ∷ []) })
    ∷ a_field 0 (member_type (m 1 1 35) (position_type (m 0 1 44) 0) ((codes "bad") ∷ []))
    ∷ a_function (record { at = (p 2 39); name = (codes "a"); owner = None; is_template = true; template_parameters = (tp None None ∷ []); constraints = ([]); parameters = (parameter (position_type (m 5 2 41) 0) 0 false ∷ []); result = (member_type (m 4 2 22) (position_type (m 3 2 31) 0) ((codes "type") ∷ [])); is_const = false; is_constexpr = false; body = Some (block (m 8 2 44) (and_statement (return_statement (m 7 2 46) (Some (literal (m 6 2 53) scalars.Int (pos 1)))) no_statement)) })
    ∷ a_function (record { at = (p 3 44); name = (codes "b"); owner = None; is_template = true; template_parameters = (tp None None ∷ []); constraints = ([]); parameters = (parameter (position_type (m 12 3 46) 0) 0 false ∷ []); result = (member_type (m 11 3 22) (template_id (m 10 3 31) (p 3 31) (d 0) (and_type (position_type (m 9 3 35) 0) no_argument)) ((codes "type") ∷ [])); is_const = false; is_constexpr = false; body = Some (block (m 15 3 49) (and_statement (return_statement (m 14 3 51) (Some (literal (m 13 3 58) scalars.Int (pos 1)))) no_statement)) })
    ∷ a_function (record { at = (p 4 26); name = (codes "b"); owner = None; is_template = true; template_parameters = (tp None None ∷ []); constraints = ([]); parameters = (parameter (position_type (m 17 4 28) 0) 0 false ∷ []); result = (scalar_type (m 16 4 22) scalars.Int); is_const = false; is_constexpr = false; body = Some (block (m 20 4 31) (and_statement (return_statement (m 19 4 33) (Some (literal (m 18 4 40) scalars.Int (pos 2)))) no_statement)) })
    ∷ a_function (record { at = (p 5 26); name = (codes "c"); owner = None; is_template = true; template_parameters = (tp None None ∷ []); constraints = ([]); parameters = (parameter (position_type (m 22 5 28) 0) 0 false ∷ parameter (member_type (m 24 5 31) (position_type (m 23 5 40) 0) ((codes "type") ∷ [])) 1 false ∷ []); result = (scalar_type (m 21 5 22) scalars.Int); is_const = false; is_constexpr = false; body = Some (block (m 27 5 49) (and_statement (return_statement (m 26 5 51) (Some (literal (m 25 5 58) scalars.Int (pos 1)))) no_statement)) })
    ∷ a_function (record { at = (p 6 26); name = (codes "c"); owner = None; is_template = true; template_parameters = (tp None None ∷ []); constraints = ([]); parameters = (parameter (position_type (m 29 6 28) 0) 0 false ∷ parameter (scalar_type (m 30 6 31) scalars.LongLong) 1 false ∷ []); result = (scalar_type (m 28 6 22) scalars.Int); is_const = false; is_constexpr = false; body = Some (block (m 33 6 42) (and_statement (return_statement (m 32 6 44) (Some (literal (m 31 6 51) scalars.Int (pos 2)))) no_statement)) })
    ∷ a_function (record { at = (p 7 40); name = (codes "d"); owner = None; is_template = true; template_parameters = (tp None None ∷ []); constraints = ([]); parameters = (parameter (position_type (m 39 7 42) 0) 0 false ∷ []); result = (decltype_type (m 38 7 22) (binary (m 37 7 31) word.Plus (list (m 35 7 31) (position_type (m 34 7 31) 0) no_expression) (literal (m 36 7 37) scalars.Int (pos 1)))); is_const = false; is_constexpr = false; body = Some (block (m 42 7 45) (and_statement (return_statement (m 41 7 47) (Some (literal (m 40 7 54) scalars.Int (pos 1)))) no_statement)) })
    ∷ a_struct (record { at = (p 8 8); itself = (struct (d 8)); is_template = false; template_parameters = ([]); constraints = ([]); primary = None; specialised_for = ([]); members = (field (codes "x") (scalar_type (m 43 8 12) scalars.Int) ∷ []) })
    ∷ a_field 0 (scalar_type (m 43 8 12) scalars.Int)
    ∷ a_function (record { at = (p 9 5); name = (codes "g"); owner = None; is_template = false; template_parameters = ([]); constraints = ([]); parameters = (parameter (struct_type (m 45 9 7) (d 8)) 0 true ∷ []); result = (scalar_type (m 44 9 1) scalars.Int); is_const = false; is_constexpr = false; body = Some (block (m 67 9 12) (and_statement (return_statement (m 66 9 14) (Some (binary (m 65 9 21) word.Plus (binary (m 61 9 21) word.Plus (binary (m 57 9 21) word.Plus (binary (m 52 9 21) word.Plus (call (m 48 9 21) (functions (m 46 9 21) (codes "a") 1) (and_expression (literal (m 47 9 23) scalars.Int (pos 1)) no_expression)) (call (m 51 9 28) (functions (m 49 9 28) (codes "b") 2) (and_expression (literal (m 50 9 30) scalars.Int (pos 1)) no_expression))) (call (m 56 9 35) (functions (m 53 9 35) (codes "c") 2) (and_expression (literal (m 54 9 37) scalars.Int (pos 1)) (and_expression (literal (m 55 9 40) scalars.Int (pos 2)) no_expression)))) (call (m 60 9 45) (functions (m 58 9 45) (codes "d") 1) (and_expression (literal (m 59 9 47) scalars.Int (pos 1)) no_expression))) (call (m 64 9 52) (functions (m 62 9 52) (codes "d") 1) (and_expression (local_name (m 63 9 54) 0) no_expression))))) no_statement)) })
    ∷ [])
    (((codes "a"), ((d 2) ∷ [])) ∷ ((codes "b"), ((d 3) ∷ (d 4) ∷ [])) ∷ ((codes "c"), ((d 5) ∷ (d 6) ∷ [])) ∷ ((codes "d"), ((d 7) ∷ [])) ∷ ((codes "g"), ((d 10) ∷ [])) ∷ [])
    ([])
    ([])
    (around 0 (None ∷ []) true ∷ around 43 ([]) false ∷ [])
    ([])

abbrev pub types_that_fail_unit_call_9_21 : Expression
types_that_fail_unit_call_9_21 = call (m 48 9 21) (functions (m 46 9 21) (codes "a") 1) (and_expression (literal (m 47 9 23) scalars.Int (pos 1)) no_expression)

abbrev pub types_that_fail_unit_locals_9_21 : Environment
types_that_fail_unit_locals_9_21 = record { arguments = []; variables = (Some (record { of = (struct (d 8)); value = None }) ∷ []); object = None }

abbrev pub types_that_fail_unit_call_9_28 : Expression
types_that_fail_unit_call_9_28 = call (m 51 9 28) (functions (m 49 9 28) (codes "b") 2) (and_expression (literal (m 50 9 30) scalars.Int (pos 1)) no_expression)

abbrev pub types_that_fail_unit_locals_9_28 : Environment
types_that_fail_unit_locals_9_28 = record { arguments = []; variables = (Some (record { of = (struct (d 8)); value = None }) ∷ []); object = None }

abbrev pub types_that_fail_unit_call_9_35 : Expression
types_that_fail_unit_call_9_35 = call (m 56 9 35) (functions (m 53 9 35) (codes "c") 2) (and_expression (literal (m 54 9 37) scalars.Int (pos 1)) (and_expression (literal (m 55 9 40) scalars.Int (pos 2)) no_expression))

abbrev pub types_that_fail_unit_locals_9_35 : Environment
types_that_fail_unit_locals_9_35 = record { arguments = []; variables = (Some (record { of = (struct (d 8)); value = None }) ∷ []); object = None }

abbrev pub types_that_fail_unit_call_9_45 : Expression
types_that_fail_unit_call_9_45 = call (m 60 9 45) (functions (m 58 9 45) (codes "d") 1) (and_expression (literal (m 59 9 47) scalars.Int (pos 1)) no_expression)

abbrev pub types_that_fail_unit_locals_9_45 : Environment
types_that_fail_unit_locals_9_45 = record { arguments = []; variables = (Some (record { of = (struct (d 8)); value = None }) ∷ []); object = None }

abbrev pub types_that_fail_unit_call_9_52 : Expression
types_that_fail_unit_call_9_52 = call (m 64 9 52) (functions (m 62 9 52) (codes "d") 1) (and_expression (local_name (m 63 9 54) 0) no_expression)

abbrev pub types_that_fail_unit_locals_9_52 : Environment
types_that_fail_unit_locals_9_52 = record { arguments = []; variables = (Some (record { of = (struct (d 8)); value = None }) ∷ []); object = None }

-- template<typename T> struct Bad { typename T::bad x; };
-- template<typename T> concept W = requires { Bad<T>{}; };
-- template<W T> typename T::none f(T) { return 1; }
-- template<typename T> int f(T) { return 2; }
-- template<typename T> requires W<T> int k(T, bool&) { return 1; }
-- template<typename T> int k(T, int) { return 2; }
-- template<typename T> requires W<T> int m(T) { return 1; }
-- template<typename T> int m(T, int) { return 2; }
-- int g() { return f(1) + k(1, 2) + m(1, 2); }
abbrev pub by_order_unit : Program
by_order_unit =
    unit
    (a_struct (record { at = (p 1 29); itself = (inst (d 0) (arguments ((param 0) ∷ []))); is_template = true; template_parameters = (tp None None ∷ []); constraints = ([]); primary = None; specialised_for = ([]); members = (field (codes "x") (member_type (m 1 1 35) (position_type (m 0 1 44) 0) ((codes "bad") ∷ [])) ∷ []) })
    ∷ a_field 0 (member_type (m 1 1 35) (position_type (m 0 1 44) 0) ((codes "bad") ∷ []))
    ∷ a_concept (record { at = (p 2 30); template_parameters = (tp None None ∷ []); condition = (requires (m 5 2 34) no_parameter (and_simple (list (m 4 2 45) (template_id (m 3 2 45) (p 2 45) (d 0) (and_type (position_type (m 2 2 49) 0) no_argument)) no_expression) no_requirement)) })
    ∷ a_function (record { at = (p 3 32); name = (codes "f"); owner = None; is_template = true; template_parameters = (tp None None ∷ []); constraints = ((concept_id (m 6 3 10) (d 2) (and_type (position_type (m 6 3 10) 0) no_argument)) ∷ []); parameters = (parameter (position_type (m 9 3 34) 0) 0 false ∷ []); result = (member_type (m 8 3 15) (position_type (m 7 3 24) 0) ((codes "none") ∷ [])); is_const = false; is_constexpr = false; body = Some (block (m 12 3 37) (and_statement (return_statement (m 11 3 39) (Some (literal (m 10 3 46) scalars.Int (pos 1)))) no_statement)) })
    ∷ a_function (record { at = (p 4 26); name = (codes "f"); owner = None; is_template = true; template_parameters = (tp None None ∷ []); constraints = ([]); parameters = (parameter (position_type (m 14 4 28) 0) 0 false ∷ []); result = (scalar_type (m 13 4 22) scalars.Int); is_const = false; is_constexpr = false; body = Some (block (m 17 4 31) (and_statement (return_statement (m 16 4 33) (Some (literal (m 15 4 40) scalars.Int (pos 2)))) no_statement)) })
    ∷ a_function (record { at = (p 5 40); name = (codes "k"); owner = None; is_template = true; template_parameters = (tp None None ∷ []); constraints = ((concept_id (m 19 5 31) (d 2) (and_type (position_type (m 18 5 33) 0) no_argument)) ∷ []); parameters = (parameter (position_type (m 21 5 42) 0) 0 false ∷ parameter (reference_type (m 22 5 45) (scalar_type (m 22 5 45) scalars.Bool)) 1 false ∷ []); result = (scalar_type (m 20 5 36) scalars.Int); is_const = false; is_constexpr = false; body = Some (block (m 25 5 52) (and_statement (return_statement (m 24 5 54) (Some (literal (m 23 5 61) scalars.Int (pos 1)))) no_statement)) })
    ∷ a_function (record { at = (p 6 26); name = (codes "k"); owner = None; is_template = true; template_parameters = (tp None None ∷ []); constraints = ([]); parameters = (parameter (position_type (m 27 6 28) 0) 0 false ∷ parameter (scalar_type (m 28 6 31) scalars.Int) 1 false ∷ []); result = (scalar_type (m 26 6 22) scalars.Int); is_const = false; is_constexpr = false; body = Some (block (m 31 6 36) (and_statement (return_statement (m 30 6 38) (Some (literal (m 29 6 45) scalars.Int (pos 2)))) no_statement)) })
    ∷ a_function (record { at = (p 7 40); name = (codes "m"); owner = None; is_template = true; template_parameters = (tp None None ∷ []); constraints = ((concept_id (m 33 7 31) (d 2) (and_type (position_type (m 32 7 33) 0) no_argument)) ∷ []); parameters = (parameter (position_type (m 35 7 42) 0) 0 false ∷ []); result = (scalar_type (m 34 7 36) scalars.Int); is_const = false; is_constexpr = false; body = Some (block (m 38 7 45) (and_statement (return_statement (m 37 7 47) (Some (literal (m 36 7 54) scalars.Int (pos 1)))) no_statement)) })
    ∷ a_function (record { at = (p 8 26); name = (codes "m"); owner = None; is_template = true; template_parameters = (tp None None ∷ []); constraints = ([]); parameters = (parameter (position_type (m 40 8 28) 0) 0 false ∷ parameter (scalar_type (m 41 8 31) scalars.Int) 1 false ∷ []); result = (scalar_type (m 39 8 22) scalars.Int); is_const = false; is_constexpr = false; body = Some (block (m 44 8 36) (and_statement (return_statement (m 43 8 38) (Some (literal (m 42 8 45) scalars.Int (pos 2)))) no_statement)) })
    ∷ a_function (record { at = (p 9 5); name = (codes "g"); owner = None; is_template = false; template_parameters = ([]); constraints = ([]); parameters = ([]); result = (scalar_type (m 45 9 1) scalars.Int); is_const = false; is_constexpr = false; body = Some (block (m 60 9 9) (and_statement (return_statement (m 59 9 11) (Some (binary (m 58 9 18) word.Plus (binary (m 53 9 18) word.Plus (call (m 48 9 18) (functions (m 46 9 18) (codes "f") 2) (and_expression (literal (m 47 9 20) scalars.Int (pos 1)) no_expression)) (call (m 52 9 25) (functions (m 49 9 25) (codes "k") 2) (and_expression (literal (m 50 9 27) scalars.Int (pos 1)) (and_expression (literal (m 51 9 30) scalars.Int (pos 2)) no_expression)))) (call (m 57 9 35) (functions (m 54 9 35) (codes "m") 2) (and_expression (literal (m 55 9 37) scalars.Int (pos 1)) (and_expression (literal (m 56 9 40) scalars.Int (pos 2)) no_expression)))))) no_statement)) })
    ∷ [])
    (((codes "f"), ((d 3) ∷ (d 4) ∷ [])) ∷ ((codes "k"), ((d 5) ∷ (d 6) ∷ [])) ∷ ((codes "m"), ((d 7) ∷ (d 8) ∷ [])) ∷ ((codes "g"), ((d 9) ∷ [])) ∷ [])
    ([])
    ((5, (requires (m 5 2 34) no_parameter (and_simple (list (m 4 2 45) (template_id (m 3 2 45) (p 2 45) (d 0) (and_type (position_type (m 2 2 49) 0) no_argument)) no_expression) no_requirement)))
    ∷ [])
    (around 0 (None ∷ []) true ∷ around 45 ([]) false ∷ [])
    ([])

abbrev pub by_order_unit_call_9_18 : Expression
by_order_unit_call_9_18 = call (m 48 9 18) (functions (m 46 9 18) (codes "f") 2) (and_expression (literal (m 47 9 20) scalars.Int (pos 1)) no_expression)

abbrev pub by_order_unit_call_9_25 : Expression
by_order_unit_call_9_25 = call (m 52 9 25) (functions (m 49 9 25) (codes "k") 2) (and_expression (literal (m 50 9 27) scalars.Int (pos 1)) (and_expression (literal (m 51 9 30) scalars.Int (pos 2)) no_expression))

abbrev pub by_order_unit_call_9_35 : Expression
by_order_unit_call_9_35 = call (m 57 9 35) (functions (m 54 9 35) (codes "m") 2) (and_expression (literal (m 55 9 37) scalars.Int (pos 1)) (and_expression (literal (m 56 9 40) scalars.Int (pos 2)) no_expression))
