-- Template argument deduction, explicit and default arguments ([temp.deduct.call], [temp.arg.explicit], [temp.param]).
use Rattle.std.specs.Prelude.{pos, true, false, [], ◌∷◌, Some, None, codes}
use Rattle.cx_base.specs.declared.value.Scalar.TheVariants as scalars
use Rattle.cx_term.specs.Term.{param, scalar, struct, inst, const, ref, val, arguments}
use Rattle.cx_term.specs.declared.word.Word.TheVariants as word
use Rattle.cx_questions.specs.Forms.{Expression, literal, local_name, position_name, unary, binary, call, no_expression, and_expression, functions, functions_with, position_type, scalar_type, void_type, struct_type, template_id, const_type, reference_type, member_type, decltype_type, no_argument, and_type, and_value, of_type, of_value, block, return_statement, expression_statement, no_statement, and_statement}
use Rattle.cx_questions.specs.Program.{Program, a_function, a_struct, a_field, field, member_alias}
use Rattle.cx_questions.specs.Environments.{Environment}
use Rattle.worked_units.specs.Units.{p, d, m, tp, parameter, around, unit}

-- template<typename T> int v(T) { return 1; }
-- template<typename T> int r(T&) { return 1; }
-- template<typename T> int c(const T&) { return 1; }
-- template<typename T> int k(const T) { return 1; }
-- void g(int n, const int& m) {
--   v(n);
--   v(m);
--   r(n);
--   r(m);
--   r(1);
--   c(n);
--   c(m);
--   c(true);
--   k(m);
-- }
abbrev pub by_value_and_reference_unit : Program
by_value_and_reference_unit =
    unit
    (a_function (record { at = (p 1 26); name = (codes "v"); owner = None; is_template = true; template_parameters = (tp None None ∷ []); constraints = ([]); parameters = (parameter (position_type (m 1 1 28) 0) 0 false ∷ []); result = (scalar_type (m 0 1 22) scalars.Int); is_const = false; is_constexpr = false; body = Some (block (m 4 1 31) (and_statement (return_statement (m 3 1 33) (Some (literal (m 2 1 40) scalars.Int (pos 1)))) no_statement)) })
    ∷ a_function (record { at = (p 2 26); name = (codes "r"); owner = None; is_template = true; template_parameters = (tp None None ∷ []); constraints = ([]); parameters = (parameter (reference_type (m 6 2 28) (position_type (m 6 2 28) 0)) 0 false ∷ []); result = (scalar_type (m 5 2 22) scalars.Int); is_const = false; is_constexpr = false; body = Some (block (m 9 2 32) (and_statement (return_statement (m 8 2 34) (Some (literal (m 7 2 41) scalars.Int (pos 1)))) no_statement)) })
    ∷ a_function (record { at = (p 3 26); name = (codes "c"); owner = None; is_template = true; template_parameters = (tp None None ∷ []); constraints = ([]); parameters = (parameter (reference_type (m 11 3 28) (const_type (m 11 3 28) (position_type (m 11 3 28) 0))) 0 false ∷ []); result = (scalar_type (m 10 3 22) scalars.Int); is_const = false; is_constexpr = false; body = Some (block (m 14 3 38) (and_statement (return_statement (m 13 3 40) (Some (literal (m 12 3 47) scalars.Int (pos 1)))) no_statement)) })
    ∷ a_function (record { at = (p 4 26); name = (codes "k"); owner = None; is_template = true; template_parameters = (tp None None ∷ []); constraints = ([]); parameters = (parameter (const_type (m 16 4 28) (position_type (m 16 4 28) 0)) 0 false ∷ []); result = (scalar_type (m 15 4 22) scalars.Int); is_const = false; is_constexpr = false; body = Some (block (m 19 4 37) (and_statement (return_statement (m 18 4 39) (Some (literal (m 17 4 46) scalars.Int (pos 1)))) no_statement)) })
    ∷ a_function (record { at = (p 5 6); name = (codes "g"); owner = None; is_template = false; template_parameters = ([]); constraints = ([]); parameters = (parameter (scalar_type (m 21 5 8) scalars.Int) 0 true ∷ parameter (reference_type (m 22 5 15) (const_type (m 22 5 15) (scalar_type (m 22 5 15) scalars.Int))) 1 true ∷ []); result = (void_type (m 20 5 1)); is_const = false; is_constexpr = false; body = Some (block (m 59 5 29) (and_statement (expression_statement (m 26 6 3) (call (m 25 6 3) (functions (m 23 6 3) (codes "v") 1) (and_expression (local_name (m 24 6 5) 0) no_expression))) (and_statement (expression_statement (m 30 7 3) (call (m 29 7 3) (functions (m 27 7 3) (codes "v") 1) (and_expression (local_name (m 28 7 5) 1) no_expression))) (and_statement (expression_statement (m 34 8 3) (call (m 33 8 3) (functions (m 31 8 3) (codes "r") 1) (and_expression (local_name (m 32 8 5) 0) no_expression))) (and_statement (expression_statement (m 38 9 3) (call (m 37 9 3) (functions (m 35 9 3) (codes "r") 1) (and_expression (local_name (m 36 9 5) 1) no_expression))) (and_statement (expression_statement (m 42 10 3) (call (m 41 10 3) (functions (m 39 10 3) (codes "r") 1) (and_expression (literal (m 40 10 5) scalars.Int (pos 1)) no_expression))) (and_statement (expression_statement (m 46 11 3) (call (m 45 11 3) (functions (m 43 11 3) (codes "c") 1) (and_expression (local_name (m 44 11 5) 0) no_expression))) (and_statement (expression_statement (m 50 12 3) (call (m 49 12 3) (functions (m 47 12 3) (codes "c") 1) (and_expression (local_name (m 48 12 5) 1) no_expression))) (and_statement (expression_statement (m 54 13 3) (call (m 53 13 3) (functions (m 51 13 3) (codes "c") 1) (and_expression (literal (m 52 13 5) scalars.Bool (pos 1)) no_expression))) (and_statement (expression_statement (m 58 14 3) (call (m 57 14 3) (functions (m 55 14 3) (codes "k") 1) (and_expression (local_name (m 56 14 5) 1) no_expression))) no_statement)))))))))) })
    ∷ [])
    (((codes "v"), ((d 0) ∷ [])) ∷ ((codes "r"), ((d 1) ∷ [])) ∷ ((codes "c"), ((d 2) ∷ [])) ∷ ((codes "k"), ((d 3) ∷ [])) ∷ ((codes "g"), ((d 4) ∷ [])) ∷ [])
    ([])
    ([])
    (around 0 (None ∷ []) true ∷ around 20 ([]) false ∷ [])
    ([])

abbrev pub by_value_and_reference_unit_call_6_3 : Expression
by_value_and_reference_unit_call_6_3 = call (m 25 6 3) (functions (m 23 6 3) (codes "v") 1) (and_expression (local_name (m 24 6 5) 0) no_expression)

abbrev pub by_value_and_reference_unit_locals_6_3 : Environment
by_value_and_reference_unit_locals_6_3 = record { arguments = []; variables = (Some (record { of = (scalar scalars.Int); value = None }) ∷ Some (record { of = (ref (const (scalar scalars.Int))); value = None }) ∷ []); object = None }

abbrev pub by_value_and_reference_unit_call_7_3 : Expression
by_value_and_reference_unit_call_7_3 = call (m 29 7 3) (functions (m 27 7 3) (codes "v") 1) (and_expression (local_name (m 28 7 5) 1) no_expression)

abbrev pub by_value_and_reference_unit_locals_7_3 : Environment
by_value_and_reference_unit_locals_7_3 = record { arguments = []; variables = (Some (record { of = (scalar scalars.Int); value = None }) ∷ Some (record { of = (ref (const (scalar scalars.Int))); value = None }) ∷ []); object = None }

abbrev pub by_value_and_reference_unit_call_8_3 : Expression
by_value_and_reference_unit_call_8_3 = call (m 33 8 3) (functions (m 31 8 3) (codes "r") 1) (and_expression (local_name (m 32 8 5) 0) no_expression)

abbrev pub by_value_and_reference_unit_locals_8_3 : Environment
by_value_and_reference_unit_locals_8_3 = record { arguments = []; variables = (Some (record { of = (scalar scalars.Int); value = None }) ∷ Some (record { of = (ref (const (scalar scalars.Int))); value = None }) ∷ []); object = None }

abbrev pub by_value_and_reference_unit_call_9_3 : Expression
by_value_and_reference_unit_call_9_3 = call (m 37 9 3) (functions (m 35 9 3) (codes "r") 1) (and_expression (local_name (m 36 9 5) 1) no_expression)

abbrev pub by_value_and_reference_unit_locals_9_3 : Environment
by_value_and_reference_unit_locals_9_3 = record { arguments = []; variables = (Some (record { of = (scalar scalars.Int); value = None }) ∷ Some (record { of = (ref (const (scalar scalars.Int))); value = None }) ∷ []); object = None }

abbrev pub by_value_and_reference_unit_call_10_3 : Expression
by_value_and_reference_unit_call_10_3 = call (m 41 10 3) (functions (m 39 10 3) (codes "r") 1) (and_expression (literal (m 40 10 5) scalars.Int (pos 1)) no_expression)

abbrev pub by_value_and_reference_unit_locals_10_3 : Environment
by_value_and_reference_unit_locals_10_3 = record { arguments = []; variables = (Some (record { of = (scalar scalars.Int); value = None }) ∷ Some (record { of = (ref (const (scalar scalars.Int))); value = None }) ∷ []); object = None }

abbrev pub by_value_and_reference_unit_call_11_3 : Expression
by_value_and_reference_unit_call_11_3 = call (m 45 11 3) (functions (m 43 11 3) (codes "c") 1) (and_expression (local_name (m 44 11 5) 0) no_expression)

abbrev pub by_value_and_reference_unit_locals_11_3 : Environment
by_value_and_reference_unit_locals_11_3 = record { arguments = []; variables = (Some (record { of = (scalar scalars.Int); value = None }) ∷ Some (record { of = (ref (const (scalar scalars.Int))); value = None }) ∷ []); object = None }

abbrev pub by_value_and_reference_unit_call_12_3 : Expression
by_value_and_reference_unit_call_12_3 = call (m 49 12 3) (functions (m 47 12 3) (codes "c") 1) (and_expression (local_name (m 48 12 5) 1) no_expression)

abbrev pub by_value_and_reference_unit_locals_12_3 : Environment
by_value_and_reference_unit_locals_12_3 = record { arguments = []; variables = (Some (record { of = (scalar scalars.Int); value = None }) ∷ Some (record { of = (ref (const (scalar scalars.Int))); value = None }) ∷ []); object = None }

abbrev pub by_value_and_reference_unit_call_13_3 : Expression
by_value_and_reference_unit_call_13_3 = call (m 53 13 3) (functions (m 51 13 3) (codes "c") 1) (and_expression (literal (m 52 13 5) scalars.Bool (pos 1)) no_expression)

abbrev pub by_value_and_reference_unit_locals_13_3 : Environment
by_value_and_reference_unit_locals_13_3 = record { arguments = []; variables = (Some (record { of = (scalar scalars.Int); value = None }) ∷ Some (record { of = (ref (const (scalar scalars.Int))); value = None }) ∷ []); object = None }

abbrev pub by_value_and_reference_unit_call_14_3 : Expression
by_value_and_reference_unit_call_14_3 = call (m 57 14 3) (functions (m 55 14 3) (codes "k") 1) (and_expression (local_name (m 56 14 5) 1) no_expression)

abbrev pub by_value_and_reference_unit_locals_14_3 : Environment
by_value_and_reference_unit_locals_14_3 = record { arguments = []; variables = (Some (record { of = (scalar scalars.Int); value = None }) ∷ Some (record { of = (ref (const (scalar scalars.Int))); value = None }) ∷ []); object = None }

-- template<typename T> struct Box { T v; };
-- template<typename T, int N> struct Row { T v; };
-- template<typename T> int b(Box<T>) { return 1; }
-- template<typename T> int bb(Box<Box<T>>&) { return 1; }
-- template<typename T, int N> int r(Row<T, N>) { return N; }
-- template<int N> int ri(Row<int, N>) { return N; }
-- template<typename T, unsigned N> int ru(Row<T, N>) { return 1; }
-- template<typename T> int r4(Row<T, 4>) { return 1; }
-- template<typename T> int rb(Row<T, true>) { return 1; }
-- void g(Box<int> x, Box<Box<bool>> y, Row<int, 4> z, Row<int, 1> w, int n) {
--   b(x);
--   b(y);
--   bb(y);
--   bb(x);
--   b(n);
--   r(z);
--   ri(z);
--   ru(z);
--   r4(z);
--   r4(w);
--   rb(w);
-- }
abbrev pub parts_of_template_ids_unit : Program
parts_of_template_ids_unit =
    unit
    (a_struct (record { at = (p 1 29); itself = (inst (d 0) (arguments ((param 0) ∷ []))); is_template = true; template_parameters = (tp None None ∷ []); constraints = ([]); primary = None; specialised_for = ([]); members = (field (codes "v") (position_type (m 0 1 35) 0) ∷ []) })
    ∷ a_field 0 (position_type (m 0 1 35) 0)
    ∷ a_struct (record { at = (p 2 36); itself = (inst (d 2) (arguments ((param 0) ∷ (param 1) ∷ []))); is_template = true; template_parameters = (tp None None ∷ tp (Some scalars.Int) None ∷ []); constraints = ([]); primary = None; specialised_for = ([]); members = (field (codes "v") (position_type (m 1 2 42) 0) ∷ []) })
    ∷ a_field 0 (position_type (m 1 2 42) 0)
    ∷ a_function (record { at = (p 3 26); name = (codes "b"); owner = None; is_template = true; template_parameters = (tp None None ∷ []); constraints = ([]); parameters = (parameter (template_id (m 4 3 28) (p 3 28) (d 0) (and_type (position_type (m 3 3 32) 0) no_argument)) 0 false ∷ []); result = (scalar_type (m 2 3 22) scalars.Int); is_const = false; is_constexpr = false; body = Some (block (m 7 3 36) (and_statement (return_statement (m 6 3 38) (Some (literal (m 5 3 45) scalars.Int (pos 1)))) no_statement)) })
    ∷ a_function (record { at = (p 4 26); name = (codes "bb"); owner = None; is_template = true; template_parameters = (tp None None ∷ []); constraints = ([]); parameters = (parameter (reference_type (m 11 4 29) (template_id (m 11 4 29) (p 4 29) (d 0) (and_type (template_id (m 10 4 33) (p 4 33) (d 0) (and_type (position_type (m 9 4 37) 0) no_argument)) no_argument))) 0 false ∷ []); result = (scalar_type (m 8 4 22) scalars.Int); is_const = false; is_constexpr = false; body = Some (block (m 14 4 43) (and_statement (return_statement (m 13 4 45) (Some (literal (m 12 4 52) scalars.Int (pos 1)))) no_statement)) })
    ∷ a_function (record { at = (p 5 33); name = (codes "r"); owner = None; is_template = true; template_parameters = (tp None None ∷ tp (Some scalars.Int) None ∷ []); constraints = ([]); parameters = (parameter (template_id (m 18 5 35) (p 5 35) (d 2) (and_type (position_type (m 16 5 39) 0) (and_value (position_name (m 17 5 42) 1) no_argument))) 0 false ∷ []); result = (scalar_type (m 15 5 29) scalars.Int); is_const = false; is_constexpr = false; body = Some (block (m 21 5 46) (and_statement (return_statement (m 20 5 48) (Some (position_name (m 19 5 55) 1))) no_statement)) })
    ∷ a_function (record { at = (p 6 21); name = (codes "ri"); owner = None; is_template = true; template_parameters = (tp (Some scalars.Int) None ∷ []); constraints = ([]); parameters = (parameter (template_id (m 25 6 24) (p 6 24) (d 2) (and_type (scalar_type (m 23 6 28) scalars.Int) (and_value (position_name (m 24 6 33) 0) no_argument))) 0 false ∷ []); result = (scalar_type (m 22 6 17) scalars.Int); is_const = false; is_constexpr = false; body = Some (block (m 28 6 37) (and_statement (return_statement (m 27 6 39) (Some (position_name (m 26 6 46) 0))) no_statement)) })
    ∷ a_function (record { at = (p 7 38); name = (codes "ru"); owner = None; is_template = true; template_parameters = (tp None None ∷ tp (Some scalars.Unsigned) None ∷ []); constraints = ([]); parameters = (parameter (template_id (m 32 7 41) (p 7 41) (d 2) (and_type (position_type (m 30 7 45) 0) (and_value (position_name (m 31 7 48) 1) no_argument))) 0 false ∷ []); result = (scalar_type (m 29 7 34) scalars.Int); is_const = false; is_constexpr = false; body = Some (block (m 35 7 52) (and_statement (return_statement (m 34 7 54) (Some (literal (m 33 7 61) scalars.Int (pos 1)))) no_statement)) })
    ∷ a_function (record { at = (p 8 26); name = (codes "r4"); owner = None; is_template = true; template_parameters = (tp None None ∷ []); constraints = ([]); parameters = (parameter (template_id (m 39 8 29) (p 8 29) (d 2) (and_type (position_type (m 37 8 33) 0) (and_value (literal (m 38 8 36) scalars.Int (pos 4)) no_argument))) 0 false ∷ []); result = (scalar_type (m 36 8 22) scalars.Int); is_const = false; is_constexpr = false; body = Some (block (m 42 8 40) (and_statement (return_statement (m 41 8 42) (Some (literal (m 40 8 49) scalars.Int (pos 1)))) no_statement)) })
    ∷ a_function (record { at = (p 9 26); name = (codes "rb"); owner = None; is_template = true; template_parameters = (tp None None ∷ []); constraints = ([]); parameters = (parameter (template_id (m 46 9 29) (p 9 29) (d 2) (and_type (position_type (m 44 9 33) 0) (and_value (literal (m 45 9 36) scalars.Bool (pos 1)) no_argument))) 0 false ∷ []); result = (scalar_type (m 43 9 22) scalars.Int); is_const = false; is_constexpr = false; body = Some (block (m 49 9 43) (and_statement (return_statement (m 48 9 45) (Some (literal (m 47 9 52) scalars.Int (pos 1)))) no_statement)) })
    ∷ a_function (record { at = (p 10 6); name = (codes "g"); owner = None; is_template = false; template_parameters = ([]); constraints = ([]); parameters = (parameter (template_id (m 52 10 8) (p 10 8) (d 0) (and_type (scalar_type (m 51 10 12) scalars.Int) no_argument)) 0 true ∷ parameter (template_id (m 55 10 20) (p 10 20) (d 0) (and_type (template_id (m 54 10 24) (p 10 24) (d 0) (and_type (scalar_type (m 53 10 28) scalars.Bool) no_argument)) no_argument)) 1 true ∷ parameter (template_id (m 58 10 38) (p 10 38) (d 2) (and_type (scalar_type (m 56 10 42) scalars.Int) (and_value (literal (m 57 10 47) scalars.Int (pos 4)) no_argument))) 2 true ∷ parameter (template_id (m 61 10 53) (p 10 53) (d 2) (and_type (scalar_type (m 59 10 57) scalars.Int) (and_value (literal (m 60 10 62) scalars.Int (pos 1)) no_argument))) 3 true ∷ parameter (scalar_type (m 62 10 68) scalars.Int) 4 true ∷ []); result = (void_type (m 50 10 1)); is_const = false; is_constexpr = false; body = Some (block (m 107 10 75) (and_statement (expression_statement (m 66 11 3) (call (m 65 11 3) (functions (m 63 11 3) (codes "b") 1) (and_expression (local_name (m 64 11 5) 0) no_expression))) (and_statement (expression_statement (m 70 12 3) (call (m 69 12 3) (functions (m 67 12 3) (codes "b") 1) (and_expression (local_name (m 68 12 5) 1) no_expression))) (and_statement (expression_statement (m 74 13 3) (call (m 73 13 3) (functions (m 71 13 3) (codes "bb") 1) (and_expression (local_name (m 72 13 6) 1) no_expression))) (and_statement (expression_statement (m 78 14 3) (call (m 77 14 3) (functions (m 75 14 3) (codes "bb") 1) (and_expression (local_name (m 76 14 6) 0) no_expression))) (and_statement (expression_statement (m 82 15 3) (call (m 81 15 3) (functions (m 79 15 3) (codes "b") 1) (and_expression (local_name (m 80 15 5) 4) no_expression))) (and_statement (expression_statement (m 86 16 3) (call (m 85 16 3) (functions (m 83 16 3) (codes "r") 1) (and_expression (local_name (m 84 16 5) 2) no_expression))) (and_statement (expression_statement (m 90 17 3) (call (m 89 17 3) (functions (m 87 17 3) (codes "ri") 1) (and_expression (local_name (m 88 17 6) 2) no_expression))) (and_statement (expression_statement (m 94 18 3) (call (m 93 18 3) (functions (m 91 18 3) (codes "ru") 1) (and_expression (local_name (m 92 18 6) 2) no_expression))) (and_statement (expression_statement (m 98 19 3) (call (m 97 19 3) (functions (m 95 19 3) (codes "r4") 1) (and_expression (local_name (m 96 19 6) 2) no_expression))) (and_statement (expression_statement (m 102 20 3) (call (m 101 20 3) (functions (m 99 20 3) (codes "r4") 1) (and_expression (local_name (m 100 20 6) 3) no_expression))) (and_statement (expression_statement (m 106 21 3) (call (m 105 21 3) (functions (m 103 21 3) (codes "rb") 1) (and_expression (local_name (m 104 21 6) 3) no_expression))) no_statement)))))))))))) })
    ∷ [])
    (((codes "b"), ((d 4) ∷ [])) ∷ ((codes "bb"), ((d 5) ∷ [])) ∷ ((codes "r"), ((d 6) ∷ [])) ∷ ((codes "ri"), ((d 7) ∷ [])) ∷ ((codes "ru"), ((d 8) ∷ [])) ∷ ((codes "r4"), ((d 9) ∷ [])) ∷ ((codes "rb"), ((d 10) ∷ [])) ∷ ((codes "g"), ((d 11) ∷ [])) ∷ [])
    ([])
    ([])
    (around 0 (None ∷ []) true ∷ around 1 (None ∷ (Some scalars.Int) ∷ []) true ∷ around 2 (None ∷ []) true ∷ around 15 (None ∷ (Some scalars.Int) ∷ []) true ∷ around 22 ((Some scalars.Int) ∷ []) true ∷ around 29 (None ∷ (Some scalars.Unsigned) ∷ []) true ∷ around 36 (None ∷ []) true ∷ around 50 ([]) false ∷ [])
    ([])

abbrev pub parts_of_template_ids_unit_call_11_3 : Expression
parts_of_template_ids_unit_call_11_3 = call (m 65 11 3) (functions (m 63 11 3) (codes "b") 1) (and_expression (local_name (m 64 11 5) 0) no_expression)

abbrev pub parts_of_template_ids_unit_locals_11_3 : Environment
parts_of_template_ids_unit_locals_11_3 = record { arguments = []; variables = (Some (record { of = (inst (d 0) (arguments ((scalar scalars.Int) ∷ []))); value = None }) ∷ Some (record { of = (inst (d 0) (arguments ((inst (d 0) (arguments ((scalar scalars.Bool) ∷ []))) ∷ []))); value = None }) ∷ Some (record { of = (inst (d 2) (arguments ((scalar scalars.Int) ∷ (val scalars.Int (pos 4)) ∷ []))); value = None }) ∷ Some (record { of = (inst (d 2) (arguments ((scalar scalars.Int) ∷ (val scalars.Int (pos 1)) ∷ []))); value = None }) ∷ Some (record { of = (scalar scalars.Int); value = None }) ∷ []); object = None }

abbrev pub parts_of_template_ids_unit_call_12_3 : Expression
parts_of_template_ids_unit_call_12_3 = call (m 69 12 3) (functions (m 67 12 3) (codes "b") 1) (and_expression (local_name (m 68 12 5) 1) no_expression)

abbrev pub parts_of_template_ids_unit_locals_12_3 : Environment
parts_of_template_ids_unit_locals_12_3 = record { arguments = []; variables = (Some (record { of = (inst (d 0) (arguments ((scalar scalars.Int) ∷ []))); value = None }) ∷ Some (record { of = (inst (d 0) (arguments ((inst (d 0) (arguments ((scalar scalars.Bool) ∷ []))) ∷ []))); value = None }) ∷ Some (record { of = (inst (d 2) (arguments ((scalar scalars.Int) ∷ (val scalars.Int (pos 4)) ∷ []))); value = None }) ∷ Some (record { of = (inst (d 2) (arguments ((scalar scalars.Int) ∷ (val scalars.Int (pos 1)) ∷ []))); value = None }) ∷ Some (record { of = (scalar scalars.Int); value = None }) ∷ []); object = None }

abbrev pub parts_of_template_ids_unit_call_13_3 : Expression
parts_of_template_ids_unit_call_13_3 = call (m 73 13 3) (functions (m 71 13 3) (codes "bb") 1) (and_expression (local_name (m 72 13 6) 1) no_expression)

abbrev pub parts_of_template_ids_unit_locals_13_3 : Environment
parts_of_template_ids_unit_locals_13_3 = record { arguments = []; variables = (Some (record { of = (inst (d 0) (arguments ((scalar scalars.Int) ∷ []))); value = None }) ∷ Some (record { of = (inst (d 0) (arguments ((inst (d 0) (arguments ((scalar scalars.Bool) ∷ []))) ∷ []))); value = None }) ∷ Some (record { of = (inst (d 2) (arguments ((scalar scalars.Int) ∷ (val scalars.Int (pos 4)) ∷ []))); value = None }) ∷ Some (record { of = (inst (d 2) (arguments ((scalar scalars.Int) ∷ (val scalars.Int (pos 1)) ∷ []))); value = None }) ∷ Some (record { of = (scalar scalars.Int); value = None }) ∷ []); object = None }

abbrev pub parts_of_template_ids_unit_call_14_3 : Expression
parts_of_template_ids_unit_call_14_3 = call (m 77 14 3) (functions (m 75 14 3) (codes "bb") 1) (and_expression (local_name (m 76 14 6) 0) no_expression)

abbrev pub parts_of_template_ids_unit_locals_14_3 : Environment
parts_of_template_ids_unit_locals_14_3 = record { arguments = []; variables = (Some (record { of = (inst (d 0) (arguments ((scalar scalars.Int) ∷ []))); value = None }) ∷ Some (record { of = (inst (d 0) (arguments ((inst (d 0) (arguments ((scalar scalars.Bool) ∷ []))) ∷ []))); value = None }) ∷ Some (record { of = (inst (d 2) (arguments ((scalar scalars.Int) ∷ (val scalars.Int (pos 4)) ∷ []))); value = None }) ∷ Some (record { of = (inst (d 2) (arguments ((scalar scalars.Int) ∷ (val scalars.Int (pos 1)) ∷ []))); value = None }) ∷ Some (record { of = (scalar scalars.Int); value = None }) ∷ []); object = None }

abbrev pub parts_of_template_ids_unit_call_15_3 : Expression
parts_of_template_ids_unit_call_15_3 = call (m 81 15 3) (functions (m 79 15 3) (codes "b") 1) (and_expression (local_name (m 80 15 5) 4) no_expression)

abbrev pub parts_of_template_ids_unit_locals_15_3 : Environment
parts_of_template_ids_unit_locals_15_3 = record { arguments = []; variables = (Some (record { of = (inst (d 0) (arguments ((scalar scalars.Int) ∷ []))); value = None }) ∷ Some (record { of = (inst (d 0) (arguments ((inst (d 0) (arguments ((scalar scalars.Bool) ∷ []))) ∷ []))); value = None }) ∷ Some (record { of = (inst (d 2) (arguments ((scalar scalars.Int) ∷ (val scalars.Int (pos 4)) ∷ []))); value = None }) ∷ Some (record { of = (inst (d 2) (arguments ((scalar scalars.Int) ∷ (val scalars.Int (pos 1)) ∷ []))); value = None }) ∷ Some (record { of = (scalar scalars.Int); value = None }) ∷ []); object = None }

abbrev pub parts_of_template_ids_unit_call_16_3 : Expression
parts_of_template_ids_unit_call_16_3 = call (m 85 16 3) (functions (m 83 16 3) (codes "r") 1) (and_expression (local_name (m 84 16 5) 2) no_expression)

abbrev pub parts_of_template_ids_unit_locals_16_3 : Environment
parts_of_template_ids_unit_locals_16_3 = record { arguments = []; variables = (Some (record { of = (inst (d 0) (arguments ((scalar scalars.Int) ∷ []))); value = None }) ∷ Some (record { of = (inst (d 0) (arguments ((inst (d 0) (arguments ((scalar scalars.Bool) ∷ []))) ∷ []))); value = None }) ∷ Some (record { of = (inst (d 2) (arguments ((scalar scalars.Int) ∷ (val scalars.Int (pos 4)) ∷ []))); value = None }) ∷ Some (record { of = (inst (d 2) (arguments ((scalar scalars.Int) ∷ (val scalars.Int (pos 1)) ∷ []))); value = None }) ∷ Some (record { of = (scalar scalars.Int); value = None }) ∷ []); object = None }

abbrev pub parts_of_template_ids_unit_call_17_3 : Expression
parts_of_template_ids_unit_call_17_3 = call (m 89 17 3) (functions (m 87 17 3) (codes "ri") 1) (and_expression (local_name (m 88 17 6) 2) no_expression)

abbrev pub parts_of_template_ids_unit_locals_17_3 : Environment
parts_of_template_ids_unit_locals_17_3 = record { arguments = []; variables = (Some (record { of = (inst (d 0) (arguments ((scalar scalars.Int) ∷ []))); value = None }) ∷ Some (record { of = (inst (d 0) (arguments ((inst (d 0) (arguments ((scalar scalars.Bool) ∷ []))) ∷ []))); value = None }) ∷ Some (record { of = (inst (d 2) (arguments ((scalar scalars.Int) ∷ (val scalars.Int (pos 4)) ∷ []))); value = None }) ∷ Some (record { of = (inst (d 2) (arguments ((scalar scalars.Int) ∷ (val scalars.Int (pos 1)) ∷ []))); value = None }) ∷ Some (record { of = (scalar scalars.Int); value = None }) ∷ []); object = None }

abbrev pub parts_of_template_ids_unit_call_18_3 : Expression
parts_of_template_ids_unit_call_18_3 = call (m 93 18 3) (functions (m 91 18 3) (codes "ru") 1) (and_expression (local_name (m 92 18 6) 2) no_expression)

abbrev pub parts_of_template_ids_unit_locals_18_3 : Environment
parts_of_template_ids_unit_locals_18_3 = record { arguments = []; variables = (Some (record { of = (inst (d 0) (arguments ((scalar scalars.Int) ∷ []))); value = None }) ∷ Some (record { of = (inst (d 0) (arguments ((inst (d 0) (arguments ((scalar scalars.Bool) ∷ []))) ∷ []))); value = None }) ∷ Some (record { of = (inst (d 2) (arguments ((scalar scalars.Int) ∷ (val scalars.Int (pos 4)) ∷ []))); value = None }) ∷ Some (record { of = (inst (d 2) (arguments ((scalar scalars.Int) ∷ (val scalars.Int (pos 1)) ∷ []))); value = None }) ∷ Some (record { of = (scalar scalars.Int); value = None }) ∷ []); object = None }

abbrev pub parts_of_template_ids_unit_call_19_3 : Expression
parts_of_template_ids_unit_call_19_3 = call (m 97 19 3) (functions (m 95 19 3) (codes "r4") 1) (and_expression (local_name (m 96 19 6) 2) no_expression)

abbrev pub parts_of_template_ids_unit_locals_19_3 : Environment
parts_of_template_ids_unit_locals_19_3 = record { arguments = []; variables = (Some (record { of = (inst (d 0) (arguments ((scalar scalars.Int) ∷ []))); value = None }) ∷ Some (record { of = (inst (d 0) (arguments ((inst (d 0) (arguments ((scalar scalars.Bool) ∷ []))) ∷ []))); value = None }) ∷ Some (record { of = (inst (d 2) (arguments ((scalar scalars.Int) ∷ (val scalars.Int (pos 4)) ∷ []))); value = None }) ∷ Some (record { of = (inst (d 2) (arguments ((scalar scalars.Int) ∷ (val scalars.Int (pos 1)) ∷ []))); value = None }) ∷ Some (record { of = (scalar scalars.Int); value = None }) ∷ []); object = None }

abbrev pub parts_of_template_ids_unit_call_20_3 : Expression
parts_of_template_ids_unit_call_20_3 = call (m 101 20 3) (functions (m 99 20 3) (codes "r4") 1) (and_expression (local_name (m 100 20 6) 3) no_expression)

abbrev pub parts_of_template_ids_unit_locals_20_3 : Environment
parts_of_template_ids_unit_locals_20_3 = record { arguments = []; variables = (Some (record { of = (inst (d 0) (arguments ((scalar scalars.Int) ∷ []))); value = None }) ∷ Some (record { of = (inst (d 0) (arguments ((inst (d 0) (arguments ((scalar scalars.Bool) ∷ []))) ∷ []))); value = None }) ∷ Some (record { of = (inst (d 2) (arguments ((scalar scalars.Int) ∷ (val scalars.Int (pos 4)) ∷ []))); value = None }) ∷ Some (record { of = (inst (d 2) (arguments ((scalar scalars.Int) ∷ (val scalars.Int (pos 1)) ∷ []))); value = None }) ∷ Some (record { of = (scalar scalars.Int); value = None }) ∷ []); object = None }

abbrev pub parts_of_template_ids_unit_call_21_3 : Expression
parts_of_template_ids_unit_call_21_3 = call (m 105 21 3) (functions (m 103 21 3) (codes "rb") 1) (and_expression (local_name (m 104 21 6) 3) no_expression)

abbrev pub parts_of_template_ids_unit_locals_21_3 : Environment
parts_of_template_ids_unit_locals_21_3 = record { arguments = []; variables = (Some (record { of = (inst (d 0) (arguments ((scalar scalars.Int) ∷ []))); value = None }) ∷ Some (record { of = (inst (d 0) (arguments ((inst (d 0) (arguments ((scalar scalars.Bool) ∷ []))) ∷ []))); value = None }) ∷ Some (record { of = (inst (d 2) (arguments ((scalar scalars.Int) ∷ (val scalars.Int (pos 4)) ∷ []))); value = None }) ∷ Some (record { of = (inst (d 2) (arguments ((scalar scalars.Int) ∷ (val scalars.Int (pos 1)) ∷ []))); value = None }) ∷ Some (record { of = (scalar scalars.Int); value = None }) ∷ []); object = None }

-- template<typename T> int f(T, T) { return 1; }
-- template<typename T> int h(T, long long) { return 1; }
-- template<typename T> int k(T, const T&) { return 1; }
-- void g(int n, const int& c) {
--   f(1, 2);
--   f(1, true);
--   h(1, true);
--   k(n, c);
--   k(n, true);
-- }
abbrev pub all_agree_unit : Program
all_agree_unit =
    unit
    (a_function (record { at = (p 1 26); name = (codes "f"); owner = None; is_template = true; template_parameters = (tp None None ∷ []); constraints = ([]); parameters = (parameter (position_type (m 1 1 28) 0) 0 false ∷ parameter (position_type (m 2 1 31) 0) 1 false ∷ []); result = (scalar_type (m 0 1 22) scalars.Int); is_const = false; is_constexpr = false; body = Some (block (m 5 1 34) (and_statement (return_statement (m 4 1 36) (Some (literal (m 3 1 43) scalars.Int (pos 1)))) no_statement)) })
    ∷ a_function (record { at = (p 2 26); name = (codes "h"); owner = None; is_template = true; template_parameters = (tp None None ∷ []); constraints = ([]); parameters = (parameter (position_type (m 7 2 28) 0) 0 false ∷ parameter (scalar_type (m 8 2 31) scalars.LongLong) 1 false ∷ []); result = (scalar_type (m 6 2 22) scalars.Int); is_const = false; is_constexpr = false; body = Some (block (m 11 2 42) (and_statement (return_statement (m 10 2 44) (Some (literal (m 9 2 51) scalars.Int (pos 1)))) no_statement)) })
    ∷ a_function (record { at = (p 3 26); name = (codes "k"); owner = None; is_template = true; template_parameters = (tp None None ∷ []); constraints = ([]); parameters = (parameter (position_type (m 13 3 28) 0) 0 false ∷ parameter (reference_type (m 14 3 31) (const_type (m 14 3 31) (position_type (m 14 3 31) 0))) 1 false ∷ []); result = (scalar_type (m 12 3 22) scalars.Int); is_const = false; is_constexpr = false; body = Some (block (m 17 3 41) (and_statement (return_statement (m 16 3 43) (Some (literal (m 15 3 50) scalars.Int (pos 1)))) no_statement)) })
    ∷ a_function (record { at = (p 4 6); name = (codes "g"); owner = None; is_template = false; template_parameters = ([]); constraints = ([]); parameters = (parameter (scalar_type (m 19 4 8) scalars.Int) 0 true ∷ parameter (reference_type (m 20 4 15) (const_type (m 20 4 15) (scalar_type (m 20 4 15) scalars.Int))) 1 true ∷ []); result = (void_type (m 18 4 1)); is_const = false; is_constexpr = false; body = Some (block (m 46 4 29) (and_statement (expression_statement (m 25 5 3) (call (m 24 5 3) (functions (m 21 5 3) (codes "f") 1) (and_expression (literal (m 22 5 5) scalars.Int (pos 1)) (and_expression (literal (m 23 5 8) scalars.Int (pos 2)) no_expression)))) (and_statement (expression_statement (m 30 6 3) (call (m 29 6 3) (functions (m 26 6 3) (codes "f") 1) (and_expression (literal (m 27 6 5) scalars.Int (pos 1)) (and_expression (literal (m 28 6 8) scalars.Bool (pos 1)) no_expression)))) (and_statement (expression_statement (m 35 7 3) (call (m 34 7 3) (functions (m 31 7 3) (codes "h") 1) (and_expression (literal (m 32 7 5) scalars.Int (pos 1)) (and_expression (literal (m 33 7 8) scalars.Bool (pos 1)) no_expression)))) (and_statement (expression_statement (m 40 8 3) (call (m 39 8 3) (functions (m 36 8 3) (codes "k") 1) (and_expression (local_name (m 37 8 5) 0) (and_expression (local_name (m 38 8 8) 1) no_expression)))) (and_statement (expression_statement (m 45 9 3) (call (m 44 9 3) (functions (m 41 9 3) (codes "k") 1) (and_expression (local_name (m 42 9 5) 0) (and_expression (literal (m 43 9 8) scalars.Bool (pos 1)) no_expression)))) no_statement)))))) })
    ∷ [])
    (((codes "f"), ((d 0) ∷ [])) ∷ ((codes "h"), ((d 1) ∷ [])) ∷ ((codes "k"), ((d 2) ∷ [])) ∷ ((codes "g"), ((d 3) ∷ [])) ∷ [])
    ([])
    ([])
    (around 0 (None ∷ []) true ∷ around 18 ([]) false ∷ [])
    ([])

abbrev pub all_agree_unit_call_5_3 : Expression
all_agree_unit_call_5_3 = call (m 24 5 3) (functions (m 21 5 3) (codes "f") 1) (and_expression (literal (m 22 5 5) scalars.Int (pos 1)) (and_expression (literal (m 23 5 8) scalars.Int (pos 2)) no_expression))

abbrev pub all_agree_unit_locals_5_3 : Environment
all_agree_unit_locals_5_3 = record { arguments = []; variables = (Some (record { of = (scalar scalars.Int); value = None }) ∷ Some (record { of = (ref (const (scalar scalars.Int))); value = None }) ∷ []); object = None }

abbrev pub all_agree_unit_call_6_3 : Expression
all_agree_unit_call_6_3 = call (m 29 6 3) (functions (m 26 6 3) (codes "f") 1) (and_expression (literal (m 27 6 5) scalars.Int (pos 1)) (and_expression (literal (m 28 6 8) scalars.Bool (pos 1)) no_expression))

abbrev pub all_agree_unit_locals_6_3 : Environment
all_agree_unit_locals_6_3 = record { arguments = []; variables = (Some (record { of = (scalar scalars.Int); value = None }) ∷ Some (record { of = (ref (const (scalar scalars.Int))); value = None }) ∷ []); object = None }

abbrev pub all_agree_unit_call_7_3 : Expression
all_agree_unit_call_7_3 = call (m 34 7 3) (functions (m 31 7 3) (codes "h") 1) (and_expression (literal (m 32 7 5) scalars.Int (pos 1)) (and_expression (literal (m 33 7 8) scalars.Bool (pos 1)) no_expression))

abbrev pub all_agree_unit_locals_7_3 : Environment
all_agree_unit_locals_7_3 = record { arguments = []; variables = (Some (record { of = (scalar scalars.Int); value = None }) ∷ Some (record { of = (ref (const (scalar scalars.Int))); value = None }) ∷ []); object = None }

abbrev pub all_agree_unit_call_8_3 : Expression
all_agree_unit_call_8_3 = call (m 39 8 3) (functions (m 36 8 3) (codes "k") 1) (and_expression (local_name (m 37 8 5) 0) (and_expression (local_name (m 38 8 8) 1) no_expression))

abbrev pub all_agree_unit_locals_8_3 : Environment
all_agree_unit_locals_8_3 = record { arguments = []; variables = (Some (record { of = (scalar scalars.Int); value = None }) ∷ Some (record { of = (ref (const (scalar scalars.Int))); value = None }) ∷ []); object = None }

abbrev pub all_agree_unit_call_9_3 : Expression
all_agree_unit_call_9_3 = call (m 44 9 3) (functions (m 41 9 3) (codes "k") 1) (and_expression (local_name (m 42 9 5) 0) (and_expression (literal (m 43 9 8) scalars.Bool (pos 1)) no_expression))

abbrev pub all_agree_unit_locals_9_3 : Environment
all_agree_unit_locals_9_3 = record { arguments = []; variables = (Some (record { of = (scalar scalars.Int); value = None }) ∷ Some (record { of = (ref (const (scalar scalars.Int))); value = None }) ∷ []); object = None }

-- template<typename T> struct Id { using type = T; };
-- template<int N> struct V { };
-- template<typename T> int m(T, typename Id<T>::type) { return 1; }
-- template<typename T> int n(typename Id<T>::type) { return 1; }
-- template<typename T> int e(T a, decltype(a) b) { return 1; }
-- template<int N> int v(V<N>, V<N + 1>) { return N; }
-- void g(V<1> x, V<2> y) {
--   m(1, true);
--   n(1);
--   n<int>(true);
--   e(1, true);
--   v(x, y);
--   v(x, x);
-- }
abbrev pub places_not_deduced_unit : Program
places_not_deduced_unit =
    unit
    (a_struct (record { at = (p 1 29); itself = (inst (d 0) (arguments ((param 0) ∷ []))); is_template = true; template_parameters = (tp None None ∷ []); constraints = ([]); primary = None; specialised_for = ([]); members = (member_alias (codes "type") (position_type (m 0 1 47) 0) ∷ []) })
    ∷ a_struct (record { at = (p 2 24); itself = (inst (d 1) (arguments ((param 0) ∷ []))); is_template = true; template_parameters = (tp (Some scalars.Int) None ∷ []); constraints = ([]); primary = None; specialised_for = ([]); members = ([]) })
    ∷ a_function (record { at = (p 3 26); name = (codes "m"); owner = None; is_template = true; template_parameters = (tp None None ∷ []); constraints = ([]); parameters = (parameter (position_type (m 2 3 28) 0) 0 false ∷ parameter (member_type (m 5 3 31) (template_id (m 4 3 40) (p 3 40) (d 0) (and_type (position_type (m 3 3 43) 0) no_argument)) ((codes "type") ∷ [])) 1 false ∷ []); result = (scalar_type (m 1 3 22) scalars.Int); is_const = false; is_constexpr = false; body = Some (block (m 8 3 53) (and_statement (return_statement (m 7 3 55) (Some (literal (m 6 3 62) scalars.Int (pos 1)))) no_statement)) })
    ∷ a_function (record { at = (p 4 26); name = (codes "n"); owner = None; is_template = true; template_parameters = (tp None None ∷ []); constraints = ([]); parameters = (parameter (member_type (m 12 4 28) (template_id (m 11 4 37) (p 4 37) (d 0) (and_type (position_type (m 10 4 40) 0) no_argument)) ((codes "type") ∷ [])) 0 false ∷ []); result = (scalar_type (m 9 4 22) scalars.Int); is_const = false; is_constexpr = false; body = Some (block (m 15 4 50) (and_statement (return_statement (m 14 4 52) (Some (literal (m 13 4 59) scalars.Int (pos 1)))) no_statement)) })
    ∷ a_function (record { at = (p 5 26); name = (codes "e"); owner = None; is_template = true; template_parameters = (tp None None ∷ []); constraints = ([]); parameters = (parameter (position_type (m 17 5 28) 0) 0 true ∷ parameter (decltype_type (m 19 5 33) (local_name (m 18 5 42) 0)) 1 true ∷ []); result = (scalar_type (m 16 5 22) scalars.Int); is_const = false; is_constexpr = false; body = Some (block (m 22 5 48) (and_statement (return_statement (m 21 5 50) (Some (literal (m 20 5 57) scalars.Int (pos 1)))) no_statement)) })
    ∷ a_function (record { at = (p 6 21); name = (codes "v"); owner = None; is_template = true; template_parameters = (tp (Some scalars.Int) None ∷ []); constraints = ([]); parameters = (parameter (template_id (m 25 6 23) (p 6 23) (d 1) (and_value (position_name (m 24 6 25) 0) no_argument)) 0 false ∷ parameter (template_id (m 29 6 29) (p 6 29) (d 1) (and_value (binary (m 28 6 31) word.Plus (position_name (m 26 6 31) 0) (literal (m 27 6 35) scalars.Int (pos 1))) no_argument)) 1 false ∷ []); result = (scalar_type (m 23 6 17) scalars.Int); is_const = false; is_constexpr = false; body = Some (block (m 32 6 39) (and_statement (return_statement (m 31 6 41) (Some (position_name (m 30 6 48) 0))) no_statement)) })
    ∷ a_function (record { at = (p 7 6); name = (codes "g"); owner = None; is_template = false; template_parameters = ([]); constraints = ([]); parameters = (parameter (template_id (m 35 7 8) (p 7 8) (d 1) (and_value (literal (m 34 7 10) scalars.Int (pos 1)) no_argument)) 0 true ∷ parameter (template_id (m 37 7 16) (p 7 16) (d 1) (and_value (literal (m 36 7 18) scalars.Int (pos 2)) no_argument)) 1 true ∷ []); result = (void_type (m 33 7 1)); is_const = false; is_constexpr = false; body = Some (block (m 67 7 24) (and_statement (expression_statement (m 42 8 3) (call (m 41 8 3) (functions (m 38 8 3) (codes "m") 1) (and_expression (literal (m 39 8 5) scalars.Int (pos 1)) (and_expression (literal (m 40 8 8) scalars.Bool (pos 1)) no_expression)))) (and_statement (expression_statement (m 46 9 3) (call (m 45 9 3) (functions (m 43 9 3) (codes "n") 1) (and_expression (literal (m 44 9 5) scalars.Int (pos 1)) no_expression))) (and_statement (expression_statement (m 51 10 3) (call (m 50 10 3) (functions_with (m 48 10 3) (codes "n") 1 (and_type (scalar_type (m 47 10 5) scalars.Int) no_argument)) (and_expression (literal (m 49 10 10) scalars.Bool (pos 1)) no_expression))) (and_statement (expression_statement (m 56 11 3) (call (m 55 11 3) (functions (m 52 11 3) (codes "e") 1) (and_expression (literal (m 53 11 5) scalars.Int (pos 1)) (and_expression (literal (m 54 11 8) scalars.Bool (pos 1)) no_expression)))) (and_statement (expression_statement (m 61 12 3) (call (m 60 12 3) (functions (m 57 12 3) (codes "v") 1) (and_expression (local_name (m 58 12 5) 0) (and_expression (local_name (m 59 12 8) 1) no_expression)))) (and_statement (expression_statement (m 66 13 3) (call (m 65 13 3) (functions (m 62 13 3) (codes "v") 1) (and_expression (local_name (m 63 13 5) 0) (and_expression (local_name (m 64 13 8) 0) no_expression)))) no_statement))))))) })
    ∷ [])
    (((codes "m"), ((d 2) ∷ [])) ∷ ((codes "n"), ((d 3) ∷ [])) ∷ ((codes "e"), ((d 4) ∷ [])) ∷ ((codes "v"), ((d 5) ∷ [])) ∷ ((codes "g"), ((d 6) ∷ [])) ∷ [])
    ([])
    ([])
    (around 0 (None ∷ []) true ∷ around 23 ((Some scalars.Int) ∷ []) true ∷ around 33 ([]) false ∷ [])
    ([])

abbrev pub places_not_deduced_unit_call_8_3 : Expression
places_not_deduced_unit_call_8_3 = call (m 41 8 3) (functions (m 38 8 3) (codes "m") 1) (and_expression (literal (m 39 8 5) scalars.Int (pos 1)) (and_expression (literal (m 40 8 8) scalars.Bool (pos 1)) no_expression))

abbrev pub places_not_deduced_unit_locals_8_3 : Environment
places_not_deduced_unit_locals_8_3 = record { arguments = []; variables = (Some (record { of = (inst (d 1) (arguments ((val scalars.Int (pos 1)) ∷ []))); value = None }) ∷ Some (record { of = (inst (d 1) (arguments ((val scalars.Int (pos 2)) ∷ []))); value = None }) ∷ []); object = None }

abbrev pub places_not_deduced_unit_call_9_3 : Expression
places_not_deduced_unit_call_9_3 = call (m 45 9 3) (functions (m 43 9 3) (codes "n") 1) (and_expression (literal (m 44 9 5) scalars.Int (pos 1)) no_expression)

abbrev pub places_not_deduced_unit_locals_9_3 : Environment
places_not_deduced_unit_locals_9_3 = record { arguments = []; variables = (Some (record { of = (inst (d 1) (arguments ((val scalars.Int (pos 1)) ∷ []))); value = None }) ∷ Some (record { of = (inst (d 1) (arguments ((val scalars.Int (pos 2)) ∷ []))); value = None }) ∷ []); object = None }

abbrev pub places_not_deduced_unit_call_10_3 : Expression
places_not_deduced_unit_call_10_3 = call (m 50 10 3) (functions_with (m 48 10 3) (codes "n") 1 (and_type (scalar_type (m 47 10 5) scalars.Int) no_argument)) (and_expression (literal (m 49 10 10) scalars.Bool (pos 1)) no_expression)

abbrev pub places_not_deduced_unit_locals_10_3 : Environment
places_not_deduced_unit_locals_10_3 = record { arguments = []; variables = (Some (record { of = (inst (d 1) (arguments ((val scalars.Int (pos 1)) ∷ []))); value = None }) ∷ Some (record { of = (inst (d 1) (arguments ((val scalars.Int (pos 2)) ∷ []))); value = None }) ∷ []); object = None }

abbrev pub places_not_deduced_unit_call_11_3 : Expression
places_not_deduced_unit_call_11_3 = call (m 55 11 3) (functions (m 52 11 3) (codes "e") 1) (and_expression (literal (m 53 11 5) scalars.Int (pos 1)) (and_expression (literal (m 54 11 8) scalars.Bool (pos 1)) no_expression))

abbrev pub places_not_deduced_unit_locals_11_3 : Environment
places_not_deduced_unit_locals_11_3 = record { arguments = []; variables = (Some (record { of = (inst (d 1) (arguments ((val scalars.Int (pos 1)) ∷ []))); value = None }) ∷ Some (record { of = (inst (d 1) (arguments ((val scalars.Int (pos 2)) ∷ []))); value = None }) ∷ []); object = None }

abbrev pub places_not_deduced_unit_call_12_3 : Expression
places_not_deduced_unit_call_12_3 = call (m 60 12 3) (functions (m 57 12 3) (codes "v") 1) (and_expression (local_name (m 58 12 5) 0) (and_expression (local_name (m 59 12 8) 1) no_expression))

abbrev pub places_not_deduced_unit_locals_12_3 : Environment
places_not_deduced_unit_locals_12_3 = record { arguments = []; variables = (Some (record { of = (inst (d 1) (arguments ((val scalars.Int (pos 1)) ∷ []))); value = None }) ∷ Some (record { of = (inst (d 1) (arguments ((val scalars.Int (pos 2)) ∷ []))); value = None }) ∷ []); object = None }

abbrev pub places_not_deduced_unit_call_13_3 : Expression
places_not_deduced_unit_call_13_3 = call (m 65 13 3) (functions (m 62 13 3) (codes "v") 1) (and_expression (local_name (m 63 13 5) 0) (and_expression (local_name (m 64 13 8) 0) no_expression))

abbrev pub places_not_deduced_unit_locals_13_3 : Environment
places_not_deduced_unit_locals_13_3 = record { arguments = []; variables = (Some (record { of = (inst (d 1) (arguments ((val scalars.Int (pos 1)) ∷ []))); value = None }) ∷ Some (record { of = (inst (d 1) (arguments ((val scalars.Int (pos 2)) ∷ []))); value = None }) ∷ []); object = None }

-- int f(int) { return 0; }
-- template<typename T> int f(T) { return 1; }
-- template<typename T, typename U> int f(U, T) { return 2; }
-- template<int N> int n() { return N; }
-- template<unsigned N> int n() { return 1; }
-- template<bool B> int o() { return 1; }
-- template<typename T> int o() { return 1; }
-- void g() {
--   f<int>(true);
--   f<bool>(1, 2);
--   f<bool, int>(1, 2);
--   f<int, int, int>(1, 2);
--   n<3>();
--   n<-3>();
--   o<true>();
--   o<int>();
--   o<2>();
--   f<int&>(1);
--   f<void>(1);
-- }
abbrev pub arguments_given_unit : Program
arguments_given_unit =
    unit
    (a_function (record { at = (p 1 5); name = (codes "f"); owner = None; is_template = false; template_parameters = ([]); constraints = ([]); parameters = (parameter (scalar_type (m 1 1 7) scalars.Int) 0 false ∷ []); result = (scalar_type (m 0 1 1) scalars.Int); is_const = false; is_constexpr = false; body = Some (block (m 4 1 12) (and_statement (return_statement (m 3 1 14) (Some (literal (m 2 1 21) scalars.Int (pos 0)))) no_statement)) })
    ∷ a_function (record { at = (p 2 26); name = (codes "f"); owner = None; is_template = true; template_parameters = (tp None None ∷ []); constraints = ([]); parameters = (parameter (position_type (m 6 2 28) 0) 0 false ∷ []); result = (scalar_type (m 5 2 22) scalars.Int); is_const = false; is_constexpr = false; body = Some (block (m 9 2 31) (and_statement (return_statement (m 8 2 33) (Some (literal (m 7 2 40) scalars.Int (pos 1)))) no_statement)) })
    ∷ a_function (record { at = (p 3 38); name = (codes "f"); owner = None; is_template = true; template_parameters = (tp None None ∷ tp None None ∷ []); constraints = ([]); parameters = (parameter (position_type (m 11 3 40) 1) 0 false ∷ parameter (position_type (m 12 3 43) 0) 1 false ∷ []); result = (scalar_type (m 10 3 34) scalars.Int); is_const = false; is_constexpr = false; body = Some (block (m 15 3 46) (and_statement (return_statement (m 14 3 48) (Some (literal (m 13 3 55) scalars.Int (pos 2)))) no_statement)) })
    ∷ a_function (record { at = (p 4 21); name = (codes "n"); owner = None; is_template = true; template_parameters = (tp (Some scalars.Int) None ∷ []); constraints = ([]); parameters = ([]); result = (scalar_type (m 16 4 17) scalars.Int); is_const = false; is_constexpr = false; body = Some (block (m 19 4 25) (and_statement (return_statement (m 18 4 27) (Some (position_name (m 17 4 34) 0))) no_statement)) })
    ∷ a_function (record { at = (p 5 26); name = (codes "n"); owner = None; is_template = true; template_parameters = (tp (Some scalars.Unsigned) None ∷ []); constraints = ([]); parameters = ([]); result = (scalar_type (m 20 5 22) scalars.Int); is_const = false; is_constexpr = false; body = Some (block (m 23 5 30) (and_statement (return_statement (m 22 5 32) (Some (literal (m 21 5 39) scalars.Int (pos 1)))) no_statement)) })
    ∷ a_function (record { at = (p 6 22); name = (codes "o"); owner = None; is_template = true; template_parameters = (tp (Some scalars.Bool) None ∷ []); constraints = ([]); parameters = ([]); result = (scalar_type (m 24 6 18) scalars.Int); is_const = false; is_constexpr = false; body = Some (block (m 27 6 26) (and_statement (return_statement (m 26 6 28) (Some (literal (m 25 6 35) scalars.Int (pos 1)))) no_statement)) })
    ∷ a_function (record { at = (p 7 26); name = (codes "o"); owner = None; is_template = true; template_parameters = (tp None None ∷ []); constraints = ([]); parameters = ([]); result = (scalar_type (m 28 7 22) scalars.Int); is_const = false; is_constexpr = false; body = Some (block (m 31 7 30) (and_statement (return_statement (m 30 7 32) (Some (literal (m 29 7 39) scalars.Int (pos 1)))) no_statement)) })
    ∷ a_function (record { at = (p 8 6); name = (codes "g"); owner = None; is_template = false; template_parameters = ([]); constraints = ([]); parameters = ([]); result = (void_type (m 32 8 1)); is_const = false; is_constexpr = false; body = Some (block (m 90 8 10) (and_statement (expression_statement (m 37 9 3) (call (m 36 9 3) (functions_with (m 34 9 3) (codes "f") 3 (and_type (scalar_type (m 33 9 5) scalars.Int) no_argument)) (and_expression (literal (m 35 9 10) scalars.Bool (pos 1)) no_expression))) (and_statement (expression_statement (m 43 10 3) (call (m 42 10 3) (functions_with (m 39 10 3) (codes "f") 3 (and_type (scalar_type (m 38 10 5) scalars.Bool) no_argument)) (and_expression (literal (m 40 10 11) scalars.Int (pos 1)) (and_expression (literal (m 41 10 14) scalars.Int (pos 2)) no_expression)))) (and_statement (expression_statement (m 50 11 3) (call (m 49 11 3) (functions_with (m 46 11 3) (codes "f") 3 (and_type (scalar_type (m 44 11 5) scalars.Bool) (and_type (scalar_type (m 45 11 11) scalars.Int) no_argument))) (and_expression (literal (m 47 11 16) scalars.Int (pos 1)) (and_expression (literal (m 48 11 19) scalars.Int (pos 2)) no_expression)))) (and_statement (expression_statement (m 58 12 3) (call (m 57 12 3) (functions_with (m 54 12 3) (codes "f") 3 (and_type (scalar_type (m 51 12 5) scalars.Int) (and_type (scalar_type (m 52 12 10) scalars.Int) (and_type (scalar_type (m 53 12 15) scalars.Int) no_argument)))) (and_expression (literal (m 55 12 20) scalars.Int (pos 1)) (and_expression (literal (m 56 12 23) scalars.Int (pos 2)) no_expression)))) (and_statement (expression_statement (m 62 13 3) (call (m 61 13 3) (functions_with (m 60 13 3) (codes "n") 2 (and_value (literal (m 59 13 5) scalars.Int (pos 3)) no_argument)) no_expression)) (and_statement (expression_statement (m 67 14 3) (call (m 66 14 3) (functions_with (m 65 14 3) (codes "n") 2 (and_value (unary (m 64 14 5) word.Minus (literal (m 63 14 6) scalars.Int (pos 3))) no_argument)) no_expression)) (and_statement (expression_statement (m 71 15 3) (call (m 70 15 3) (functions_with (m 69 15 3) (codes "o") 2 (and_value (literal (m 68 15 5) scalars.Bool (pos 1)) no_argument)) no_expression)) (and_statement (expression_statement (m 75 16 3) (call (m 74 16 3) (functions_with (m 73 16 3) (codes "o") 2 (and_type (scalar_type (m 72 16 5) scalars.Int) no_argument)) no_expression)) (and_statement (expression_statement (m 79 17 3) (call (m 78 17 3) (functions_with (m 77 17 3) (codes "o") 2 (and_value (literal (m 76 17 5) scalars.Int (pos 2)) no_argument)) no_expression)) (and_statement (expression_statement (m 84 18 3) (call (m 83 18 3) (functions_with (m 81 18 3) (codes "f") 3 (and_type (reference_type (m 80 18 5) (scalar_type (m 80 18 5) scalars.Int)) no_argument)) (and_expression (literal (m 82 18 11) scalars.Int (pos 1)) no_expression))) (and_statement (expression_statement (m 89 19 3) (call (m 88 19 3) (functions_with (m 86 19 3) (codes "f") 3 (and_type (void_type (m 85 19 5)) no_argument)) (and_expression (literal (m 87 19 11) scalars.Int (pos 1)) no_expression))) no_statement)))))))))))) })
    ∷ [])
    (((codes "f"), ((d 0) ∷ (d 1) ∷ (d 2) ∷ [])) ∷ ((codes "n"), ((d 3) ∷ (d 4) ∷ [])) ∷ ((codes "o"), ((d 5) ∷ (d 6) ∷ [])) ∷ ((codes "g"), ((d 7) ∷ [])) ∷ [])
    ([])
    ([])
    (around 0 ([]) false ∷ around 5 (None ∷ []) true ∷ around 10 (None ∷ None ∷ []) true ∷ around 16 ((Some scalars.Int) ∷ []) true ∷ around 20 ((Some scalars.Unsigned) ∷ []) true ∷ around 24 ((Some scalars.Bool) ∷ []) true ∷ around 28 (None ∷ []) true ∷ around 32 ([]) false ∷ [])
    ([])

abbrev pub arguments_given_unit_call_9_3 : Expression
arguments_given_unit_call_9_3 = call (m 36 9 3) (functions_with (m 34 9 3) (codes "f") 3 (and_type (scalar_type (m 33 9 5) scalars.Int) no_argument)) (and_expression (literal (m 35 9 10) scalars.Bool (pos 1)) no_expression)

abbrev pub arguments_given_unit_call_10_3 : Expression
arguments_given_unit_call_10_3 = call (m 42 10 3) (functions_with (m 39 10 3) (codes "f") 3 (and_type (scalar_type (m 38 10 5) scalars.Bool) no_argument)) (and_expression (literal (m 40 10 11) scalars.Int (pos 1)) (and_expression (literal (m 41 10 14) scalars.Int (pos 2)) no_expression))

abbrev pub arguments_given_unit_call_11_3 : Expression
arguments_given_unit_call_11_3 = call (m 49 11 3) (functions_with (m 46 11 3) (codes "f") 3 (and_type (scalar_type (m 44 11 5) scalars.Bool) (and_type (scalar_type (m 45 11 11) scalars.Int) no_argument))) (and_expression (literal (m 47 11 16) scalars.Int (pos 1)) (and_expression (literal (m 48 11 19) scalars.Int (pos 2)) no_expression))

abbrev pub arguments_given_unit_call_12_3 : Expression
arguments_given_unit_call_12_3 = call (m 57 12 3) (functions_with (m 54 12 3) (codes "f") 3 (and_type (scalar_type (m 51 12 5) scalars.Int) (and_type (scalar_type (m 52 12 10) scalars.Int) (and_type (scalar_type (m 53 12 15) scalars.Int) no_argument)))) (and_expression (literal (m 55 12 20) scalars.Int (pos 1)) (and_expression (literal (m 56 12 23) scalars.Int (pos 2)) no_expression))

abbrev pub arguments_given_unit_call_13_3 : Expression
arguments_given_unit_call_13_3 = call (m 61 13 3) (functions_with (m 60 13 3) (codes "n") 2 (and_value (literal (m 59 13 5) scalars.Int (pos 3)) no_argument)) no_expression

abbrev pub arguments_given_unit_call_14_3 : Expression
arguments_given_unit_call_14_3 = call (m 66 14 3) (functions_with (m 65 14 3) (codes "n") 2 (and_value (unary (m 64 14 5) word.Minus (literal (m 63 14 6) scalars.Int (pos 3))) no_argument)) no_expression

abbrev pub arguments_given_unit_call_15_3 : Expression
arguments_given_unit_call_15_3 = call (m 70 15 3) (functions_with (m 69 15 3) (codes "o") 2 (and_value (literal (m 68 15 5) scalars.Bool (pos 1)) no_argument)) no_expression

abbrev pub arguments_given_unit_call_16_3 : Expression
arguments_given_unit_call_16_3 = call (m 74 16 3) (functions_with (m 73 16 3) (codes "o") 2 (and_type (scalar_type (m 72 16 5) scalars.Int) no_argument)) no_expression

abbrev pub arguments_given_unit_call_17_3 : Expression
arguments_given_unit_call_17_3 = call (m 78 17 3) (functions_with (m 77 17 3) (codes "o") 2 (and_value (literal (m 76 17 5) scalars.Int (pos 2)) no_argument)) no_expression

abbrev pub arguments_given_unit_call_18_3 : Expression
arguments_given_unit_call_18_3 = call (m 83 18 3) (functions_with (m 81 18 3) (codes "f") 3 (and_type (reference_type (m 80 18 5) (scalar_type (m 80 18 5) scalars.Int)) no_argument)) (and_expression (literal (m 82 18 11) scalars.Int (pos 1)) no_expression)

abbrev pub arguments_given_unit_call_19_3 : Expression
arguments_given_unit_call_19_3 = call (m 88 19 3) (functions_with (m 86 19 3) (codes "f") 3 (and_type (void_type (m 85 19 5)) no_argument)) (and_expression (literal (m 87 19 11) scalars.Int (pos 1)) no_expression)

-- template<typename T> struct OnlyInt { };
-- struct S { };
-- template<typename T> int f() { return 1; }
-- void g() {
--   f<typename S::none>();
--   f<void&>();
-- }
abbrev pub faulty_explicit_type_unit : Program
faulty_explicit_type_unit =
    unit
    (a_struct (record { at = (p 1 29); itself = (inst (d 0) (arguments ((param 0) ∷ []))); is_template = true; template_parameters = (tp None None ∷ []); constraints = ([]); primary = None; specialised_for = ([]); members = ([]) })
    ∷ a_struct (record { at = (p 2 8); itself = (struct (d 1)); is_template = false; template_parameters = ([]); constraints = ([]); primary = None; specialised_for = ([]); members = ([]) })
    ∷ a_function (record { at = (p 3 26); name = (codes "f"); owner = None; is_template = true; template_parameters = (tp None None ∷ []); constraints = ([]); parameters = ([]); result = (scalar_type (m 0 3 22) scalars.Int); is_const = false; is_constexpr = false; body = Some (block (m 3 3 30) (and_statement (return_statement (m 2 3 32) (Some (literal (m 1 3 39) scalars.Int (pos 1)))) no_statement)) })
    ∷ a_function (record { at = (p 4 6); name = (codes "g"); owner = None; is_template = false; template_parameters = ([]); constraints = ([]); parameters = ([]); result = (void_type (m 4 4 1)); is_const = false; is_constexpr = false; body = Some (block (m 14 4 10) (and_statement (expression_statement (m 9 5 3) (call (m 8 5 3) (functions_with (m 7 5 3) (codes "f") 1 (and_type (member_type (m 6 5 5) (struct_type (m 5 5 14) (d 1)) ((codes "none") ∷ [])) no_argument)) no_expression)) (and_statement (expression_statement (m 13 6 3) (call (m 12 6 3) (functions_with (m 11 6 3) (codes "f") 1 (and_type (reference_type (m 10 6 5) (void_type (m 10 6 5))) no_argument)) no_expression)) no_statement))) })
    ∷ [])
    (((codes "f"), ((d 2) ∷ [])) ∷ ((codes "g"), ((d 3) ∷ [])) ∷ [])
    ([])
    ([])
    (around 0 (None ∷ []) true ∷ around 4 ([]) false ∷ [])
    ([])

abbrev pub faulty_explicit_type_unit_call_5_3 : Expression
faulty_explicit_type_unit_call_5_3 = call (m 8 5 3) (functions_with (m 7 5 3) (codes "f") 1 (and_type (member_type (m 6 5 5) (struct_type (m 5 5 14) (d 1)) ((codes "none") ∷ [])) no_argument)) no_expression

abbrev pub faulty_explicit_type_unit_call_6_3 : Expression
faulty_explicit_type_unit_call_6_3 = call (m 12 6 3) (functions_with (m 11 6 3) (codes "f") 1 (and_type (reference_type (m 10 6 5) (void_type (m 10 6 5))) no_argument)) no_expression

-- template<typename T = int> int f() { return 1; }
-- template<typename T, typename U = T> int h(T) { return 1; }
-- template<typename T, int N = 3> int k(T) { return N; }
-- template<typename T, typename U> int m(T) { return 1; }
-- template<typename T, typename U = typename T::type> int s(T) { return 1; }
-- void g() {
--   f();
--   h(true);
--   h<int, bool>(1);
--   k(1);
--   m(1);
--   s(1);
-- }
abbrev pub arguments_by_default_unit : Program
arguments_by_default_unit =
    unit
    (a_function (record { at = (p 1 32); name = (codes "f"); owner = None; is_template = true; template_parameters = (tp None (Some (of_type (scalar_type (m 0 1 23) scalars.Int))) ∷ []); constraints = ([]); parameters = ([]); result = (scalar_type (m 1 1 28) scalars.Int); is_const = false; is_constexpr = false; body = Some (block (m 4 1 36) (and_statement (return_statement (m 3 1 38) (Some (literal (m 2 1 45) scalars.Int (pos 1)))) no_statement)) })
    ∷ a_function (record { at = (p 2 42); name = (codes "h"); owner = None; is_template = true; template_parameters = (tp None None ∷ tp None (Some (of_type (position_type (m 5 2 35) 0))) ∷ []); constraints = ([]); parameters = (parameter (position_type (m 7 2 44) 0) 0 false ∷ []); result = (scalar_type (m 6 2 38) scalars.Int); is_const = false; is_constexpr = false; body = Some (block (m 10 2 47) (and_statement (return_statement (m 9 2 49) (Some (literal (m 8 2 56) scalars.Int (pos 1)))) no_statement)) })
    ∷ a_function (record { at = (p 3 37); name = (codes "k"); owner = None; is_template = true; template_parameters = (tp None None ∷ tp (Some scalars.Int) (Some (of_value (literal (m 11 3 30) scalars.Int (pos 3)))) ∷ []); constraints = ([]); parameters = (parameter (position_type (m 13 3 39) 0) 0 false ∷ []); result = (scalar_type (m 12 3 33) scalars.Int); is_const = false; is_constexpr = false; body = Some (block (m 16 3 42) (and_statement (return_statement (m 15 3 44) (Some (position_name (m 14 3 51) 1))) no_statement)) })
    ∷ a_function (record { at = (p 4 38); name = (codes "m"); owner = None; is_template = true; template_parameters = (tp None None ∷ tp None None ∷ []); constraints = ([]); parameters = (parameter (position_type (m 18 4 40) 0) 0 false ∷ []); result = (scalar_type (m 17 4 34) scalars.Int); is_const = false; is_constexpr = false; body = Some (block (m 21 4 43) (and_statement (return_statement (m 20 4 45) (Some (literal (m 19 4 52) scalars.Int (pos 1)))) no_statement)) })
    ∷ a_function (record { at = (p 5 57); name = (codes "s"); owner = None; is_template = true; template_parameters = (tp None None ∷ tp None (Some (of_type (member_type (m 23 5 35) (position_type (m 22 5 44) 0) ((codes "type") ∷ [])))) ∷ []); constraints = ([]); parameters = (parameter (position_type (m 25 5 59) 0) 0 false ∷ []); result = (scalar_type (m 24 5 53) scalars.Int); is_const = false; is_constexpr = false; body = Some (block (m 28 5 62) (and_statement (return_statement (m 27 5 64) (Some (literal (m 26 5 71) scalars.Int (pos 1)))) no_statement)) })
    ∷ a_function (record { at = (p 6 6); name = (codes "g"); owner = None; is_template = false; template_parameters = ([]); constraints = ([]); parameters = ([]); result = (void_type (m 29 6 1)); is_const = false; is_constexpr = false; body = Some (block (m 55 6 10) (and_statement (expression_statement (m 32 7 3) (call (m 31 7 3) (functions (m 30 7 3) (codes "f") 1) no_expression)) (and_statement (expression_statement (m 36 8 3) (call (m 35 8 3) (functions (m 33 8 3) (codes "h") 1) (and_expression (literal (m 34 8 5) scalars.Bool (pos 1)) no_expression))) (and_statement (expression_statement (m 42 9 3) (call (m 41 9 3) (functions_with (m 39 9 3) (codes "h") 1 (and_type (scalar_type (m 37 9 5) scalars.Int) (and_type (scalar_type (m 38 9 10) scalars.Bool) no_argument))) (and_expression (literal (m 40 9 16) scalars.Int (pos 1)) no_expression))) (and_statement (expression_statement (m 46 10 3) (call (m 45 10 3) (functions (m 43 10 3) (codes "k") 1) (and_expression (literal (m 44 10 5) scalars.Int (pos 1)) no_expression))) (and_statement (expression_statement (m 50 11 3) (call (m 49 11 3) (functions (m 47 11 3) (codes "m") 1) (and_expression (literal (m 48 11 5) scalars.Int (pos 1)) no_expression))) (and_statement (expression_statement (m 54 12 3) (call (m 53 12 3) (functions (m 51 12 3) (codes "s") 1) (and_expression (literal (m 52 12 5) scalars.Int (pos 1)) no_expression))) no_statement))))))) })
    ∷ [])
    (((codes "f"), ((d 0) ∷ [])) ∷ ((codes "h"), ((d 1) ∷ [])) ∷ ((codes "k"), ((d 2) ∷ [])) ∷ ((codes "m"), ((d 3) ∷ [])) ∷ ((codes "s"), ((d 4) ∷ [])) ∷ ((codes "g"), ((d 5) ∷ [])) ∷ [])
    ([])
    ([])
    (around 0 (None ∷ []) true ∷ around 5 (None ∷ None ∷ []) true ∷ around 11 (None ∷ (Some scalars.Int) ∷ []) true ∷ around 17 (None ∷ None ∷ []) true ∷ around 29 ([]) false ∷ [])
    ([])

abbrev pub arguments_by_default_unit_call_7_3 : Expression
arguments_by_default_unit_call_7_3 = call (m 31 7 3) (functions (m 30 7 3) (codes "f") 1) no_expression

abbrev pub arguments_by_default_unit_call_8_3 : Expression
arguments_by_default_unit_call_8_3 = call (m 35 8 3) (functions (m 33 8 3) (codes "h") 1) (and_expression (literal (m 34 8 5) scalars.Bool (pos 1)) no_expression)

abbrev pub arguments_by_default_unit_call_9_3 : Expression
arguments_by_default_unit_call_9_3 = call (m 41 9 3) (functions_with (m 39 9 3) (codes "h") 1 (and_type (scalar_type (m 37 9 5) scalars.Int) (and_type (scalar_type (m 38 9 10) scalars.Bool) no_argument))) (and_expression (literal (m 40 9 16) scalars.Int (pos 1)) no_expression)

abbrev pub arguments_by_default_unit_call_10_3 : Expression
arguments_by_default_unit_call_10_3 = call (m 45 10 3) (functions (m 43 10 3) (codes "k") 1) (and_expression (literal (m 44 10 5) scalars.Int (pos 1)) no_expression)

abbrev pub arguments_by_default_unit_call_11_3 : Expression
arguments_by_default_unit_call_11_3 = call (m 49 11 3) (functions (m 47 11 3) (codes "m") 1) (and_expression (literal (m 48 11 5) scalars.Int (pos 1)) no_expression)

abbrev pub arguments_by_default_unit_call_12_3 : Expression
arguments_by_default_unit_call_12_3 = call (m 53 12 3) (functions (m 51 12 3) (codes "s") 1) (and_expression (literal (m 52 12 5) scalars.Int (pos 1)) no_expression)

-- struct S { using type = int; };
-- template<typename T> typename T::type f(T) { return 1; }
-- template<typename T> int f(T) { return 2; }
-- template<typename T> int h(T, typename T::type) { return 1; }
-- template<typename T> int h(T, int) { return 2; }
-- template<typename T> T& k(int) { return 1; }
-- void g(S s) {
--   f(1);
--   h(1, 2);
--   k<void>(1);
-- }
abbrev pub substituted_types_unit : Program
substituted_types_unit =
    unit
    (a_struct (record { at = (p 1 8); itself = (struct (d 0)); is_template = false; template_parameters = ([]); constraints = ([]); primary = None; specialised_for = ([]); members = (member_alias (codes "type") (scalar_type (m 0 1 25) scalars.Int) ∷ []) })
    ∷ a_function (record { at = (p 2 39); name = (codes "f"); owner = None; is_template = true; template_parameters = (tp None None ∷ []); constraints = ([]); parameters = (parameter (position_type (m 3 2 41) 0) 0 false ∷ []); result = (member_type (m 2 2 22) (position_type (m 1 2 31) 0) ((codes "type") ∷ [])); is_const = false; is_constexpr = false; body = Some (block (m 6 2 44) (and_statement (return_statement (m 5 2 46) (Some (literal (m 4 2 53) scalars.Int (pos 1)))) no_statement)) })
    ∷ a_function (record { at = (p 3 26); name = (codes "f"); owner = None; is_template = true; template_parameters = (tp None None ∷ []); constraints = ([]); parameters = (parameter (position_type (m 8 3 28) 0) 0 false ∷ []); result = (scalar_type (m 7 3 22) scalars.Int); is_const = false; is_constexpr = false; body = Some (block (m 11 3 31) (and_statement (return_statement (m 10 3 33) (Some (literal (m 9 3 40) scalars.Int (pos 2)))) no_statement)) })
    ∷ a_function (record { at = (p 4 26); name = (codes "h"); owner = None; is_template = true; template_parameters = (tp None None ∷ []); constraints = ([]); parameters = (parameter (position_type (m 13 4 28) 0) 0 false ∷ parameter (member_type (m 15 4 31) (position_type (m 14 4 40) 0) ((codes "type") ∷ [])) 1 false ∷ []); result = (scalar_type (m 12 4 22) scalars.Int); is_const = false; is_constexpr = false; body = Some (block (m 18 4 49) (and_statement (return_statement (m 17 4 51) (Some (literal (m 16 4 58) scalars.Int (pos 1)))) no_statement)) })
    ∷ a_function (record { at = (p 5 26); name = (codes "h"); owner = None; is_template = true; template_parameters = (tp None None ∷ []); constraints = ([]); parameters = (parameter (position_type (m 20 5 28) 0) 0 false ∷ parameter (scalar_type (m 21 5 31) scalars.Int) 1 false ∷ []); result = (scalar_type (m 19 5 22) scalars.Int); is_const = false; is_constexpr = false; body = Some (block (m 24 5 36) (and_statement (return_statement (m 23 5 38) (Some (literal (m 22 5 45) scalars.Int (pos 2)))) no_statement)) })
    ∷ a_function (record { at = (p 6 25); name = (codes "k"); owner = None; is_template = true; template_parameters = (tp None None ∷ []); constraints = ([]); parameters = (parameter (scalar_type (m 26 6 27) scalars.Int) 0 false ∷ []); result = (reference_type (m 25 6 22) (position_type (m 25 6 22) 0)); is_const = false; is_constexpr = false; body = Some (block (m 29 6 32) (and_statement (return_statement (m 28 6 34) (Some (literal (m 27 6 41) scalars.Int (pos 1)))) no_statement)) })
    ∷ a_function (record { at = (p 7 6); name = (codes "g"); owner = None; is_template = false; template_parameters = ([]); constraints = ([]); parameters = (parameter (struct_type (m 31 7 8) (d 0)) 0 true ∷ []); result = (void_type (m 30 7 1)); is_const = false; is_constexpr = false; body = Some (block (m 46 7 13) (and_statement (expression_statement (m 35 8 3) (call (m 34 8 3) (functions (m 32 8 3) (codes "f") 2) (and_expression (literal (m 33 8 5) scalars.Int (pos 1)) no_expression))) (and_statement (expression_statement (m 40 9 3) (call (m 39 9 3) (functions (m 36 9 3) (codes "h") 2) (and_expression (literal (m 37 9 5) scalars.Int (pos 1)) (and_expression (literal (m 38 9 8) scalars.Int (pos 2)) no_expression)))) (and_statement (expression_statement (m 45 10 3) (call (m 44 10 3) (functions_with (m 42 10 3) (codes "k") 1 (and_type (void_type (m 41 10 5)) no_argument)) (and_expression (literal (m 43 10 11) scalars.Int (pos 1)) no_expression))) no_statement)))) })
    ∷ [])
    (((codes "f"), ((d 1) ∷ (d 2) ∷ [])) ∷ ((codes "h"), ((d 3) ∷ (d 4) ∷ [])) ∷ ((codes "k"), ((d 5) ∷ [])) ∷ ((codes "g"), ((d 6) ∷ [])) ∷ [])
    ([])
    ([])
    (around 0 ([]) false ∷ around 1 (None ∷ []) true ∷ around 30 ([]) false ∷ [])
    ([])

abbrev pub substituted_types_unit_call_8_3 : Expression
substituted_types_unit_call_8_3 = call (m 34 8 3) (functions (m 32 8 3) (codes "f") 2) (and_expression (literal (m 33 8 5) scalars.Int (pos 1)) no_expression)

abbrev pub substituted_types_unit_locals_8_3 : Environment
substituted_types_unit_locals_8_3 = record { arguments = []; variables = (Some (record { of = (struct (d 0)); value = None }) ∷ []); object = None }

abbrev pub substituted_types_unit_call_9_3 : Expression
substituted_types_unit_call_9_3 = call (m 39 9 3) (functions (m 36 9 3) (codes "h") 2) (and_expression (literal (m 37 9 5) scalars.Int (pos 1)) (and_expression (literal (m 38 9 8) scalars.Int (pos 2)) no_expression))

abbrev pub substituted_types_unit_locals_9_3 : Environment
substituted_types_unit_locals_9_3 = record { arguments = []; variables = (Some (record { of = (struct (d 0)); value = None }) ∷ []); object = None }

abbrev pub substituted_types_unit_call_10_3 : Expression
substituted_types_unit_call_10_3 = call (m 44 10 3) (functions_with (m 42 10 3) (codes "k") 1 (and_type (void_type (m 41 10 5)) no_argument)) (and_expression (literal (m 43 10 11) scalars.Int (pos 1)) no_expression)

abbrev pub substituted_types_unit_locals_10_3 : Environment
substituted_types_unit_locals_10_3 = record { arguments = []; variables = (Some (record { of = (struct (d 0)); value = None }) ∷ []); object = None }
