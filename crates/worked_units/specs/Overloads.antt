-- Conversions, their ranking, and which viable function is better ([over.ics.rank], [over.match.best]).
use Rattle.std.specs.Prelude.{pos, true, false, [], ◌∷◌, Some, None, codes}
use Rattle.cx_base.specs.declared.value.Scalar.TheVariants as scalars
use Rattle.cx_term.specs.Term.{param, scalar, struct, inst, const, ref, arguments}
use Rattle.cx_term.specs.declared.word.Word.TheVariants as word
use Rattle.cx_questions.specs.Forms.{Expression, literal, local_name, parentheses, binary, dot, call, list, is_same, concept_id, no_expression, and_expression, functions, object_functions, position_type, scalar_type, void_type, struct_type, template_id, const_type, reference_type, no_argument, and_type, block, return_statement, expression_statement, no_statement, and_statement}
use Rattle.cx_questions.specs.Program.{Program, a_function, a_struct, a_concept, a_field, field, member_function}
use Rattle.cx_questions.specs.Environments.{Environment}
use Rattle.worked_units.specs.Units.{p, d, m, tp, parameter, around, unit}

-- int f(int) { return 1; }
-- int f(bool) { return 2; }
-- int f(long long) { return 3; }
-- int h(int) { return 1; }
-- int h(long long) { return 2; }
-- int k(unsigned) { return 1; }
-- int k(long long) { return 2; }
-- void g() {
--   f(1);
--   f(true);
--   f(1ll);
--   f(1u);
--   h(true);
--   k(true);
--   k(1u);
--   k(1);
-- }
abbrev pub ranks_of_conversions_unit : Program
ranks_of_conversions_unit =
    unit
    (a_function (record { at = (p 1 5); name = (codes "f"); owner = None; is_template = false; template_parameters = ([]); constraints = ([]); parameters = (parameter (scalar_type (m 1 1 7) scalars.Int) 0 false ∷ []); result = (scalar_type (m 0 1 1) scalars.Int); is_const = false; is_constexpr = false; body = Some (block (m 4 1 12) (and_statement (return_statement (m 3 1 14) (Some (literal (m 2 1 21) scalars.Int (pos 1)))) no_statement)) })
    ∷ a_function (record { at = (p 2 5); name = (codes "f"); owner = None; is_template = false; template_parameters = ([]); constraints = ([]); parameters = (parameter (scalar_type (m 6 2 7) scalars.Bool) 0 false ∷ []); result = (scalar_type (m 5 2 1) scalars.Int); is_const = false; is_constexpr = false; body = Some (block (m 9 2 13) (and_statement (return_statement (m 8 2 15) (Some (literal (m 7 2 22) scalars.Int (pos 2)))) no_statement)) })
    ∷ a_function (record { at = (p 3 5); name = (codes "f"); owner = None; is_template = false; template_parameters = ([]); constraints = ([]); parameters = (parameter (scalar_type (m 11 3 7) scalars.LongLong) 0 false ∷ []); result = (scalar_type (m 10 3 1) scalars.Int); is_const = false; is_constexpr = false; body = Some (block (m 14 3 18) (and_statement (return_statement (m 13 3 20) (Some (literal (m 12 3 27) scalars.Int (pos 3)))) no_statement)) })
    ∷ a_function (record { at = (p 4 5); name = (codes "h"); owner = None; is_template = false; template_parameters = ([]); constraints = ([]); parameters = (parameter (scalar_type (m 16 4 7) scalars.Int) 0 false ∷ []); result = (scalar_type (m 15 4 1) scalars.Int); is_const = false; is_constexpr = false; body = Some (block (m 19 4 12) (and_statement (return_statement (m 18 4 14) (Some (literal (m 17 4 21) scalars.Int (pos 1)))) no_statement)) })
    ∷ a_function (record { at = (p 5 5); name = (codes "h"); owner = None; is_template = false; template_parameters = ([]); constraints = ([]); parameters = (parameter (scalar_type (m 21 5 7) scalars.LongLong) 0 false ∷ []); result = (scalar_type (m 20 5 1) scalars.Int); is_const = false; is_constexpr = false; body = Some (block (m 24 5 18) (and_statement (return_statement (m 23 5 20) (Some (literal (m 22 5 27) scalars.Int (pos 2)))) no_statement)) })
    ∷ a_function (record { at = (p 6 5); name = (codes "k"); owner = None; is_template = false; template_parameters = ([]); constraints = ([]); parameters = (parameter (scalar_type (m 26 6 7) scalars.Unsigned) 0 false ∷ []); result = (scalar_type (m 25 6 1) scalars.Int); is_const = false; is_constexpr = false; body = Some (block (m 29 6 17) (and_statement (return_statement (m 28 6 19) (Some (literal (m 27 6 26) scalars.Int (pos 1)))) no_statement)) })
    ∷ a_function (record { at = (p 7 5); name = (codes "k"); owner = None; is_template = false; template_parameters = ([]); constraints = ([]); parameters = (parameter (scalar_type (m 31 7 7) scalars.LongLong) 0 false ∷ []); result = (scalar_type (m 30 7 1) scalars.Int); is_const = false; is_constexpr = false; body = Some (block (m 34 7 18) (and_statement (return_statement (m 33 7 20) (Some (literal (m 32 7 27) scalars.Int (pos 2)))) no_statement)) })
    ∷ a_function (record { at = (p 8 6); name = (codes "g"); owner = None; is_template = false; template_parameters = ([]); constraints = ([]); parameters = ([]); result = (void_type (m 35 8 1)); is_const = false; is_constexpr = false; body = Some (block (m 68 8 10) (and_statement (expression_statement (m 39 9 3) (call (m 38 9 3) (functions (m 36 9 3) (codes "f") 3) (and_expression (literal (m 37 9 5) scalars.Int (pos 1)) no_expression))) (and_statement (expression_statement (m 43 10 3) (call (m 42 10 3) (functions (m 40 10 3) (codes "f") 3) (and_expression (literal (m 41 10 5) scalars.Bool (pos 1)) no_expression))) (and_statement (expression_statement (m 47 11 3) (call (m 46 11 3) (functions (m 44 11 3) (codes "f") 3) (and_expression (literal (m 45 11 5) scalars.LongLong (pos 1)) no_expression))) (and_statement (expression_statement (m 51 12 3) (call (m 50 12 3) (functions (m 48 12 3) (codes "f") 3) (and_expression (literal (m 49 12 5) scalars.Unsigned (pos 1)) no_expression))) (and_statement (expression_statement (m 55 13 3) (call (m 54 13 3) (functions (m 52 13 3) (codes "h") 2) (and_expression (literal (m 53 13 5) scalars.Bool (pos 1)) no_expression))) (and_statement (expression_statement (m 59 14 3) (call (m 58 14 3) (functions (m 56 14 3) (codes "k") 2) (and_expression (literal (m 57 14 5) scalars.Bool (pos 1)) no_expression))) (and_statement (expression_statement (m 63 15 3) (call (m 62 15 3) (functions (m 60 15 3) (codes "k") 2) (and_expression (literal (m 61 15 5) scalars.Unsigned (pos 1)) no_expression))) (and_statement (expression_statement (m 67 16 3) (call (m 66 16 3) (functions (m 64 16 3) (codes "k") 2) (and_expression (literal (m 65 16 5) scalars.Int (pos 1)) no_expression))) no_statement))))))))) })
    ∷ [])
    (((codes "f"), ((d 0) ∷ (d 1) ∷ (d 2) ∷ [])) ∷ ((codes "h"), ((d 3) ∷ (d 4) ∷ [])) ∷ ((codes "k"), ((d 5) ∷ (d 6) ∷ [])) ∷ ((codes "g"), ((d 7) ∷ [])) ∷ [])
    ([])
    ([])
    (around 0 ([]) false ∷ [])
    ([])

abbrev pub ranks_of_conversions_unit_call_9_3 : Expression
ranks_of_conversions_unit_call_9_3 = call (m 38 9 3) (functions (m 36 9 3) (codes "f") 3) (and_expression (literal (m 37 9 5) scalars.Int (pos 1)) no_expression)

abbrev pub ranks_of_conversions_unit_call_10_3 : Expression
ranks_of_conversions_unit_call_10_3 = call (m 42 10 3) (functions (m 40 10 3) (codes "f") 3) (and_expression (literal (m 41 10 5) scalars.Bool (pos 1)) no_expression)

abbrev pub ranks_of_conversions_unit_call_11_3 : Expression
ranks_of_conversions_unit_call_11_3 = call (m 46 11 3) (functions (m 44 11 3) (codes "f") 3) (and_expression (literal (m 45 11 5) scalars.LongLong (pos 1)) no_expression)

abbrev pub ranks_of_conversions_unit_call_12_3 : Expression
ranks_of_conversions_unit_call_12_3 = call (m 50 12 3) (functions (m 48 12 3) (codes "f") 3) (and_expression (literal (m 49 12 5) scalars.Unsigned (pos 1)) no_expression)

abbrev pub ranks_of_conversions_unit_call_13_3 : Expression
ranks_of_conversions_unit_call_13_3 = call (m 54 13 3) (functions (m 52 13 3) (codes "h") 2) (and_expression (literal (m 53 13 5) scalars.Bool (pos 1)) no_expression)

abbrev pub ranks_of_conversions_unit_call_14_3 : Expression
ranks_of_conversions_unit_call_14_3 = call (m 58 14 3) (functions (m 56 14 3) (codes "k") 2) (and_expression (literal (m 57 14 5) scalars.Bool (pos 1)) no_expression)

abbrev pub ranks_of_conversions_unit_call_15_3 : Expression
ranks_of_conversions_unit_call_15_3 = call (m 62 15 3) (functions (m 60 15 3) (codes "k") 2) (and_expression (literal (m 61 15 5) scalars.Unsigned (pos 1)) no_expression)

abbrev pub ranks_of_conversions_unit_call_16_3 : Expression
ranks_of_conversions_unit_call_16_3 = call (m 66 16 3) (functions (m 64 16 3) (codes "k") 2) (and_expression (literal (m 65 16 5) scalars.Int (pos 1)) no_expression)

-- int f(int, bool) { return 1; }
-- int f(bool, int) { return 2; }
-- int h(int, int) { return 1; }
-- int h(int, bool) { return 2; }
-- void g() {
--   f(1, 1);
--   f(1, true);
--   f(true, true);
--   h(true, true);
--   h(1, 1ll);
-- }
abbrev pub more_than_one_argument_unit : Program
more_than_one_argument_unit =
    unit
    (a_function (record { at = (p 1 5); name = (codes "f"); owner = None; is_template = false; template_parameters = ([]); constraints = ([]); parameters = (parameter (scalar_type (m 1 1 7) scalars.Int) 0 false ∷ parameter (scalar_type (m 2 1 12) scalars.Bool) 1 false ∷ []); result = (scalar_type (m 0 1 1) scalars.Int); is_const = false; is_constexpr = false; body = Some (block (m 5 1 18) (and_statement (return_statement (m 4 1 20) (Some (literal (m 3 1 27) scalars.Int (pos 1)))) no_statement)) })
    ∷ a_function (record { at = (p 2 5); name = (codes "f"); owner = None; is_template = false; template_parameters = ([]); constraints = ([]); parameters = (parameter (scalar_type (m 7 2 7) scalars.Bool) 0 false ∷ parameter (scalar_type (m 8 2 13) scalars.Int) 1 false ∷ []); result = (scalar_type (m 6 2 1) scalars.Int); is_const = false; is_constexpr = false; body = Some (block (m 11 2 18) (and_statement (return_statement (m 10 2 20) (Some (literal (m 9 2 27) scalars.Int (pos 2)))) no_statement)) })
    ∷ a_function (record { at = (p 3 5); name = (codes "h"); owner = None; is_template = false; template_parameters = ([]); constraints = ([]); parameters = (parameter (scalar_type (m 13 3 7) scalars.Int) 0 false ∷ parameter (scalar_type (m 14 3 12) scalars.Int) 1 false ∷ []); result = (scalar_type (m 12 3 1) scalars.Int); is_const = false; is_constexpr = false; body = Some (block (m 17 3 17) (and_statement (return_statement (m 16 3 19) (Some (literal (m 15 3 26) scalars.Int (pos 1)))) no_statement)) })
    ∷ a_function (record { at = (p 4 5); name = (codes "h"); owner = None; is_template = false; template_parameters = ([]); constraints = ([]); parameters = (parameter (scalar_type (m 19 4 7) scalars.Int) 0 false ∷ parameter (scalar_type (m 20 4 12) scalars.Bool) 1 false ∷ []); result = (scalar_type (m 18 4 1) scalars.Int); is_const = false; is_constexpr = false; body = Some (block (m 23 4 18) (and_statement (return_statement (m 22 4 20) (Some (literal (m 21 4 27) scalars.Int (pos 2)))) no_statement)) })
    ∷ a_function (record { at = (p 5 6); name = (codes "g"); owner = None; is_template = false; template_parameters = ([]); constraints = ([]); parameters = ([]); result = (void_type (m 24 5 1)); is_const = false; is_constexpr = false; body = Some (block (m 50 5 10) (and_statement (expression_statement (m 29 6 3) (call (m 28 6 3) (functions (m 25 6 3) (codes "f") 2) (and_expression (literal (m 26 6 5) scalars.Int (pos 1)) (and_expression (literal (m 27 6 8) scalars.Int (pos 1)) no_expression)))) (and_statement (expression_statement (m 34 7 3) (call (m 33 7 3) (functions (m 30 7 3) (codes "f") 2) (and_expression (literal (m 31 7 5) scalars.Int (pos 1)) (and_expression (literal (m 32 7 8) scalars.Bool (pos 1)) no_expression)))) (and_statement (expression_statement (m 39 8 3) (call (m 38 8 3) (functions (m 35 8 3) (codes "f") 2) (and_expression (literal (m 36 8 5) scalars.Bool (pos 1)) (and_expression (literal (m 37 8 11) scalars.Bool (pos 1)) no_expression)))) (and_statement (expression_statement (m 44 9 3) (call (m 43 9 3) (functions (m 40 9 3) (codes "h") 2) (and_expression (literal (m 41 9 5) scalars.Bool (pos 1)) (and_expression (literal (m 42 9 11) scalars.Bool (pos 1)) no_expression)))) (and_statement (expression_statement (m 49 10 3) (call (m 48 10 3) (functions (m 45 10 3) (codes "h") 2) (and_expression (literal (m 46 10 5) scalars.Int (pos 1)) (and_expression (literal (m 47 10 8) scalars.LongLong (pos 1)) no_expression)))) no_statement)))))) })
    ∷ [])
    (((codes "f"), ((d 0) ∷ (d 1) ∷ [])) ∷ ((codes "h"), ((d 2) ∷ (d 3) ∷ [])) ∷ ((codes "g"), ((d 4) ∷ [])) ∷ [])
    ([])
    ([])
    (around 0 ([]) false ∷ [])
    ([])

abbrev pub more_than_one_argument_unit_call_6_3 : Expression
more_than_one_argument_unit_call_6_3 = call (m 28 6 3) (functions (m 25 6 3) (codes "f") 2) (and_expression (literal (m 26 6 5) scalars.Int (pos 1)) (and_expression (literal (m 27 6 8) scalars.Int (pos 1)) no_expression))

abbrev pub more_than_one_argument_unit_call_7_3 : Expression
more_than_one_argument_unit_call_7_3 = call (m 33 7 3) (functions (m 30 7 3) (codes "f") 2) (and_expression (literal (m 31 7 5) scalars.Int (pos 1)) (and_expression (literal (m 32 7 8) scalars.Bool (pos 1)) no_expression))

abbrev pub more_than_one_argument_unit_call_8_3 : Expression
more_than_one_argument_unit_call_8_3 = call (m 38 8 3) (functions (m 35 8 3) (codes "f") 2) (and_expression (literal (m 36 8 5) scalars.Bool (pos 1)) (and_expression (literal (m 37 8 11) scalars.Bool (pos 1)) no_expression))

abbrev pub more_than_one_argument_unit_call_9_3 : Expression
more_than_one_argument_unit_call_9_3 = call (m 43 9 3) (functions (m 40 9 3) (codes "h") 2) (and_expression (literal (m 41 9 5) scalars.Bool (pos 1)) (and_expression (literal (m 42 9 11) scalars.Bool (pos 1)) no_expression))

abbrev pub more_than_one_argument_unit_call_10_3 : Expression
more_than_one_argument_unit_call_10_3 = call (m 48 10 3) (functions (m 45 10 3) (codes "h") 2) (and_expression (literal (m 46 10 5) scalars.Int (pos 1)) (and_expression (literal (m 47 10 8) scalars.LongLong (pos 1)) no_expression))

-- int f(int&) { return 1; }
-- int f(const int&) { return 2; }
-- int h(int) { return 1; }
-- int h(int&) { return 2; }
-- int k(int&) { return 1; }
-- int c(const int&) { return 1; }
-- int c(const bool&) { return 2; }
-- int v(int) { return 1; }
-- int v(const int&) { return 2; }
-- void g(int n, const int& r, bool b) {
--   f(n);
--   f(r);
--   f(1);
--   h(n);
--   h(r);
--   k(1);
--   k(b);
--   k(r);
--   c(b);
--   c(1u);
--   v(n);
--   v(b);
-- }
abbrev pub references_bound_unit : Program
references_bound_unit =
    unit
    (a_function (record { at = (p 1 5); name = (codes "f"); owner = None; is_template = false; template_parameters = ([]); constraints = ([]); parameters = (parameter (reference_type (m 1 1 7) (scalar_type (m 1 1 7) scalars.Int)) 0 false ∷ []); result = (scalar_type (m 0 1 1) scalars.Int); is_const = false; is_constexpr = false; body = Some (block (m 4 1 13) (and_statement (return_statement (m 3 1 15) (Some (literal (m 2 1 22) scalars.Int (pos 1)))) no_statement)) })
    ∷ a_function (record { at = (p 2 5); name = (codes "f"); owner = None; is_template = false; template_parameters = ([]); constraints = ([]); parameters = (parameter (reference_type (m 6 2 7) (const_type (m 6 2 7) (scalar_type (m 6 2 7) scalars.Int))) 0 false ∷ []); result = (scalar_type (m 5 2 1) scalars.Int); is_const = false; is_constexpr = false; body = Some (block (m 9 2 19) (and_statement (return_statement (m 8 2 21) (Some (literal (m 7 2 28) scalars.Int (pos 2)))) no_statement)) })
    ∷ a_function (record { at = (p 3 5); name = (codes "h"); owner = None; is_template = false; template_parameters = ([]); constraints = ([]); parameters = (parameter (scalar_type (m 11 3 7) scalars.Int) 0 false ∷ []); result = (scalar_type (m 10 3 1) scalars.Int); is_const = false; is_constexpr = false; body = Some (block (m 14 3 12) (and_statement (return_statement (m 13 3 14) (Some (literal (m 12 3 21) scalars.Int (pos 1)))) no_statement)) })
    ∷ a_function (record { at = (p 4 5); name = (codes "h"); owner = None; is_template = false; template_parameters = ([]); constraints = ([]); parameters = (parameter (reference_type (m 16 4 7) (scalar_type (m 16 4 7) scalars.Int)) 0 false ∷ []); result = (scalar_type (m 15 4 1) scalars.Int); is_const = false; is_constexpr = false; body = Some (block (m 19 4 13) (and_statement (return_statement (m 18 4 15) (Some (literal (m 17 4 22) scalars.Int (pos 2)))) no_statement)) })
    ∷ a_function (record { at = (p 5 5); name = (codes "k"); owner = None; is_template = false; template_parameters = ([]); constraints = ([]); parameters = (parameter (reference_type (m 21 5 7) (scalar_type (m 21 5 7) scalars.Int)) 0 false ∷ []); result = (scalar_type (m 20 5 1) scalars.Int); is_const = false; is_constexpr = false; body = Some (block (m 24 5 13) (and_statement (return_statement (m 23 5 15) (Some (literal (m 22 5 22) scalars.Int (pos 1)))) no_statement)) })
    ∷ a_function (record { at = (p 6 5); name = (codes "c"); owner = None; is_template = false; template_parameters = ([]); constraints = ([]); parameters = (parameter (reference_type (m 26 6 7) (const_type (m 26 6 7) (scalar_type (m 26 6 7) scalars.Int))) 0 false ∷ []); result = (scalar_type (m 25 6 1) scalars.Int); is_const = false; is_constexpr = false; body = Some (block (m 29 6 19) (and_statement (return_statement (m 28 6 21) (Some (literal (m 27 6 28) scalars.Int (pos 1)))) no_statement)) })
    ∷ a_function (record { at = (p 7 5); name = (codes "c"); owner = None; is_template = false; template_parameters = ([]); constraints = ([]); parameters = (parameter (reference_type (m 31 7 7) (const_type (m 31 7 7) (scalar_type (m 31 7 7) scalars.Bool))) 0 false ∷ []); result = (scalar_type (m 30 7 1) scalars.Int); is_const = false; is_constexpr = false; body = Some (block (m 34 7 20) (and_statement (return_statement (m 33 7 22) (Some (literal (m 32 7 29) scalars.Int (pos 2)))) no_statement)) })
    ∷ a_function (record { at = (p 8 5); name = (codes "v"); owner = None; is_template = false; template_parameters = ([]); constraints = ([]); parameters = (parameter (scalar_type (m 36 8 7) scalars.Int) 0 false ∷ []); result = (scalar_type (m 35 8 1) scalars.Int); is_const = false; is_constexpr = false; body = Some (block (m 39 8 12) (and_statement (return_statement (m 38 8 14) (Some (literal (m 37 8 21) scalars.Int (pos 1)))) no_statement)) })
    ∷ a_function (record { at = (p 9 5); name = (codes "v"); owner = None; is_template = false; template_parameters = ([]); constraints = ([]); parameters = (parameter (reference_type (m 41 9 7) (const_type (m 41 9 7) (scalar_type (m 41 9 7) scalars.Int))) 0 false ∷ []); result = (scalar_type (m 40 9 1) scalars.Int); is_const = false; is_constexpr = false; body = Some (block (m 44 9 19) (and_statement (return_statement (m 43 9 21) (Some (literal (m 42 9 28) scalars.Int (pos 2)))) no_statement)) })
    ∷ a_function (record { at = (p 10 6); name = (codes "g"); owner = None; is_template = false; template_parameters = ([]); constraints = ([]); parameters = (parameter (scalar_type (m 46 10 8) scalars.Int) 0 true ∷ parameter (reference_type (m 47 10 15) (const_type (m 47 10 15) (scalar_type (m 47 10 15) scalars.Int))) 1 true ∷ parameter (scalar_type (m 48 10 29) scalars.Bool) 2 true ∷ []); result = (void_type (m 45 10 1)); is_const = false; is_constexpr = false; body = Some (block (m 97 10 37) (and_statement (expression_statement (m 52 11 3) (call (m 51 11 3) (functions (m 49 11 3) (codes "f") 2) (and_expression (local_name (m 50 11 5) 0) no_expression))) (and_statement (expression_statement (m 56 12 3) (call (m 55 12 3) (functions (m 53 12 3) (codes "f") 2) (and_expression (local_name (m 54 12 5) 1) no_expression))) (and_statement (expression_statement (m 60 13 3) (call (m 59 13 3) (functions (m 57 13 3) (codes "f") 2) (and_expression (literal (m 58 13 5) scalars.Int (pos 1)) no_expression))) (and_statement (expression_statement (m 64 14 3) (call (m 63 14 3) (functions (m 61 14 3) (codes "h") 2) (and_expression (local_name (m 62 14 5) 0) no_expression))) (and_statement (expression_statement (m 68 15 3) (call (m 67 15 3) (functions (m 65 15 3) (codes "h") 2) (and_expression (local_name (m 66 15 5) 1) no_expression))) (and_statement (expression_statement (m 72 16 3) (call (m 71 16 3) (functions (m 69 16 3) (codes "k") 1) (and_expression (literal (m 70 16 5) scalars.Int (pos 1)) no_expression))) (and_statement (expression_statement (m 76 17 3) (call (m 75 17 3) (functions (m 73 17 3) (codes "k") 1) (and_expression (local_name (m 74 17 5) 2) no_expression))) (and_statement (expression_statement (m 80 18 3) (call (m 79 18 3) (functions (m 77 18 3) (codes "k") 1) (and_expression (local_name (m 78 18 5) 1) no_expression))) (and_statement (expression_statement (m 84 19 3) (call (m 83 19 3) (functions (m 81 19 3) (codes "c") 2) (and_expression (local_name (m 82 19 5) 2) no_expression))) (and_statement (expression_statement (m 88 20 3) (call (m 87 20 3) (functions (m 85 20 3) (codes "c") 2) (and_expression (literal (m 86 20 5) scalars.Unsigned (pos 1)) no_expression))) (and_statement (expression_statement (m 92 21 3) (call (m 91 21 3) (functions (m 89 21 3) (codes "v") 2) (and_expression (local_name (m 90 21 5) 0) no_expression))) (and_statement (expression_statement (m 96 22 3) (call (m 95 22 3) (functions (m 93 22 3) (codes "v") 2) (and_expression (local_name (m 94 22 5) 2) no_expression))) no_statement))))))))))))) })
    ∷ [])
    (((codes "f"), ((d 0) ∷ (d 1) ∷ [])) ∷ ((codes "h"), ((d 2) ∷ (d 3) ∷ [])) ∷ ((codes "k"), ((d 4) ∷ [])) ∷ ((codes "c"), ((d 5) ∷ (d 6) ∷ [])) ∷ ((codes "v"), ((d 7) ∷ (d 8) ∷ [])) ∷ ((codes "g"), ((d 9) ∷ [])) ∷ [])
    ([])
    ([])
    (around 0 ([]) false ∷ [])
    ([])

abbrev pub references_bound_unit_call_11_3 : Expression
references_bound_unit_call_11_3 = call (m 51 11 3) (functions (m 49 11 3) (codes "f") 2) (and_expression (local_name (m 50 11 5) 0) no_expression)

abbrev pub references_bound_unit_locals_11_3 : Environment
references_bound_unit_locals_11_3 = record { arguments = []; variables = (Some (record { of = (scalar scalars.Int); value = None }) ∷ Some (record { of = (ref (const (scalar scalars.Int))); value = None }) ∷ Some (record { of = (scalar scalars.Bool); value = None }) ∷ []); object = None }

abbrev pub references_bound_unit_call_12_3 : Expression
references_bound_unit_call_12_3 = call (m 55 12 3) (functions (m 53 12 3) (codes "f") 2) (and_expression (local_name (m 54 12 5) 1) no_expression)

abbrev pub references_bound_unit_locals_12_3 : Environment
references_bound_unit_locals_12_3 = record { arguments = []; variables = (Some (record { of = (scalar scalars.Int); value = None }) ∷ Some (record { of = (ref (const (scalar scalars.Int))); value = None }) ∷ Some (record { of = (scalar scalars.Bool); value = None }) ∷ []); object = None }

abbrev pub references_bound_unit_call_13_3 : Expression
references_bound_unit_call_13_3 = call (m 59 13 3) (functions (m 57 13 3) (codes "f") 2) (and_expression (literal (m 58 13 5) scalars.Int (pos 1)) no_expression)

abbrev pub references_bound_unit_locals_13_3 : Environment
references_bound_unit_locals_13_3 = record { arguments = []; variables = (Some (record { of = (scalar scalars.Int); value = None }) ∷ Some (record { of = (ref (const (scalar scalars.Int))); value = None }) ∷ Some (record { of = (scalar scalars.Bool); value = None }) ∷ []); object = None }

abbrev pub references_bound_unit_call_14_3 : Expression
references_bound_unit_call_14_3 = call (m 63 14 3) (functions (m 61 14 3) (codes "h") 2) (and_expression (local_name (m 62 14 5) 0) no_expression)

abbrev pub references_bound_unit_locals_14_3 : Environment
references_bound_unit_locals_14_3 = record { arguments = []; variables = (Some (record { of = (scalar scalars.Int); value = None }) ∷ Some (record { of = (ref (const (scalar scalars.Int))); value = None }) ∷ Some (record { of = (scalar scalars.Bool); value = None }) ∷ []); object = None }

abbrev pub references_bound_unit_call_15_3 : Expression
references_bound_unit_call_15_3 = call (m 67 15 3) (functions (m 65 15 3) (codes "h") 2) (and_expression (local_name (m 66 15 5) 1) no_expression)

abbrev pub references_bound_unit_locals_15_3 : Environment
references_bound_unit_locals_15_3 = record { arguments = []; variables = (Some (record { of = (scalar scalars.Int); value = None }) ∷ Some (record { of = (ref (const (scalar scalars.Int))); value = None }) ∷ Some (record { of = (scalar scalars.Bool); value = None }) ∷ []); object = None }

abbrev pub references_bound_unit_call_16_3 : Expression
references_bound_unit_call_16_3 = call (m 71 16 3) (functions (m 69 16 3) (codes "k") 1) (and_expression (literal (m 70 16 5) scalars.Int (pos 1)) no_expression)

abbrev pub references_bound_unit_locals_16_3 : Environment
references_bound_unit_locals_16_3 = record { arguments = []; variables = (Some (record { of = (scalar scalars.Int); value = None }) ∷ Some (record { of = (ref (const (scalar scalars.Int))); value = None }) ∷ Some (record { of = (scalar scalars.Bool); value = None }) ∷ []); object = None }

abbrev pub references_bound_unit_call_17_3 : Expression
references_bound_unit_call_17_3 = call (m 75 17 3) (functions (m 73 17 3) (codes "k") 1) (and_expression (local_name (m 74 17 5) 2) no_expression)

abbrev pub references_bound_unit_locals_17_3 : Environment
references_bound_unit_locals_17_3 = record { arguments = []; variables = (Some (record { of = (scalar scalars.Int); value = None }) ∷ Some (record { of = (ref (const (scalar scalars.Int))); value = None }) ∷ Some (record { of = (scalar scalars.Bool); value = None }) ∷ []); object = None }

abbrev pub references_bound_unit_call_18_3 : Expression
references_bound_unit_call_18_3 = call (m 79 18 3) (functions (m 77 18 3) (codes "k") 1) (and_expression (local_name (m 78 18 5) 1) no_expression)

abbrev pub references_bound_unit_locals_18_3 : Environment
references_bound_unit_locals_18_3 = record { arguments = []; variables = (Some (record { of = (scalar scalars.Int); value = None }) ∷ Some (record { of = (ref (const (scalar scalars.Int))); value = None }) ∷ Some (record { of = (scalar scalars.Bool); value = None }) ∷ []); object = None }

abbrev pub references_bound_unit_call_19_3 : Expression
references_bound_unit_call_19_3 = call (m 83 19 3) (functions (m 81 19 3) (codes "c") 2) (and_expression (local_name (m 82 19 5) 2) no_expression)

abbrev pub references_bound_unit_locals_19_3 : Environment
references_bound_unit_locals_19_3 = record { arguments = []; variables = (Some (record { of = (scalar scalars.Int); value = None }) ∷ Some (record { of = (ref (const (scalar scalars.Int))); value = None }) ∷ Some (record { of = (scalar scalars.Bool); value = None }) ∷ []); object = None }

abbrev pub references_bound_unit_call_20_3 : Expression
references_bound_unit_call_20_3 = call (m 87 20 3) (functions (m 85 20 3) (codes "c") 2) (and_expression (literal (m 86 20 5) scalars.Unsigned (pos 1)) no_expression)

abbrev pub references_bound_unit_locals_20_3 : Environment
references_bound_unit_locals_20_3 = record { arguments = []; variables = (Some (record { of = (scalar scalars.Int); value = None }) ∷ Some (record { of = (ref (const (scalar scalars.Int))); value = None }) ∷ Some (record { of = (scalar scalars.Bool); value = None }) ∷ []); object = None }

abbrev pub references_bound_unit_call_21_3 : Expression
references_bound_unit_call_21_3 = call (m 91 21 3) (functions (m 89 21 3) (codes "v") 2) (and_expression (local_name (m 90 21 5) 0) no_expression)

abbrev pub references_bound_unit_locals_21_3 : Environment
references_bound_unit_locals_21_3 = record { arguments = []; variables = (Some (record { of = (scalar scalars.Int); value = None }) ∷ Some (record { of = (ref (const (scalar scalars.Int))); value = None }) ∷ Some (record { of = (scalar scalars.Bool); value = None }) ∷ []); object = None }

abbrev pub references_bound_unit_call_22_3 : Expression
references_bound_unit_call_22_3 = call (m 95 22 3) (functions (m 93 22 3) (codes "v") 2) (and_expression (local_name (m 94 22 5) 2) no_expression)

abbrev pub references_bound_unit_locals_22_3 : Environment
references_bound_unit_locals_22_3 = record { arguments = []; variables = (Some (record { of = (scalar scalars.Int); value = None }) ∷ Some (record { of = (ref (const (scalar scalars.Int))); value = None }) ∷ Some (record { of = (scalar scalars.Bool); value = None }) ∷ []); object = None }

-- struct A { int x; };
-- struct B { int x; };
-- int f(A) { return 1; }
-- int f(B) { return 2; }
-- int k(int) { return 1; }
-- void g(A a, const B& b) {
--   f(a);
--   f(b);
--   f(1);
--   k(a);
-- }
abbrev pub structs_convert_unit : Program
structs_convert_unit =
    unit
    (a_struct (record { at = (p 1 8); itself = (struct (d 0)); is_template = false; template_parameters = ([]); constraints = ([]); primary = None; specialised_for = ([]); members = (field (codes "x") (scalar_type (m 0 1 12) scalars.Int) ∷ []) })
    ∷ a_field 0 (scalar_type (m 0 1 12) scalars.Int)
    ∷ a_struct (record { at = (p 2 8); itself = (struct (d 2)); is_template = false; template_parameters = ([]); constraints = ([]); primary = None; specialised_for = ([]); members = (field (codes "x") (scalar_type (m 1 2 12) scalars.Int) ∷ []) })
    ∷ a_field 0 (scalar_type (m 1 2 12) scalars.Int)
    ∷ a_function (record { at = (p 3 5); name = (codes "f"); owner = None; is_template = false; template_parameters = ([]); constraints = ([]); parameters = (parameter (struct_type (m 3 3 7) (d 0)) 0 false ∷ []); result = (scalar_type (m 2 3 1) scalars.Int); is_const = false; is_constexpr = false; body = Some (block (m 6 3 10) (and_statement (return_statement (m 5 3 12) (Some (literal (m 4 3 19) scalars.Int (pos 1)))) no_statement)) })
    ∷ a_function (record { at = (p 4 5); name = (codes "f"); owner = None; is_template = false; template_parameters = ([]); constraints = ([]); parameters = (parameter (struct_type (m 8 4 7) (d 2)) 0 false ∷ []); result = (scalar_type (m 7 4 1) scalars.Int); is_const = false; is_constexpr = false; body = Some (block (m 11 4 10) (and_statement (return_statement (m 10 4 12) (Some (literal (m 9 4 19) scalars.Int (pos 2)))) no_statement)) })
    ∷ a_function (record { at = (p 5 5); name = (codes "k"); owner = None; is_template = false; template_parameters = ([]); constraints = ([]); parameters = (parameter (scalar_type (m 13 5 7) scalars.Int) 0 false ∷ []); result = (scalar_type (m 12 5 1) scalars.Int); is_const = false; is_constexpr = false; body = Some (block (m 16 5 12) (and_statement (return_statement (m 15 5 14) (Some (literal (m 14 5 21) scalars.Int (pos 1)))) no_statement)) })
    ∷ a_function (record { at = (p 6 6); name = (codes "g"); owner = None; is_template = false; template_parameters = ([]); constraints = ([]); parameters = (parameter (struct_type (m 18 6 8) (d 0)) 0 true ∷ parameter (reference_type (m 19 6 13) (const_type (m 19 6 13) (struct_type (m 19 6 13) (d 2)))) 1 true ∷ []); result = (void_type (m 17 6 1)); is_const = false; is_constexpr = false; body = Some (block (m 36 6 25) (and_statement (expression_statement (m 23 7 3) (call (m 22 7 3) (functions (m 20 7 3) (codes "f") 2) (and_expression (local_name (m 21 7 5) 0) no_expression))) (and_statement (expression_statement (m 27 8 3) (call (m 26 8 3) (functions (m 24 8 3) (codes "f") 2) (and_expression (local_name (m 25 8 5) 1) no_expression))) (and_statement (expression_statement (m 31 9 3) (call (m 30 9 3) (functions (m 28 9 3) (codes "f") 2) (and_expression (literal (m 29 9 5) scalars.Int (pos 1)) no_expression))) (and_statement (expression_statement (m 35 10 3) (call (m 34 10 3) (functions (m 32 10 3) (codes "k") 1) (and_expression (local_name (m 33 10 5) 0) no_expression))) no_statement))))) })
    ∷ [])
    (((codes "f"), ((d 4) ∷ (d 5) ∷ [])) ∷ ((codes "k"), ((d 6) ∷ [])) ∷ ((codes "g"), ((d 7) ∷ [])) ∷ [])
    ([])
    ([])
    (around 0 ([]) false ∷ [])
    ([])

abbrev pub structs_convert_unit_call_7_3 : Expression
structs_convert_unit_call_7_3 = call (m 22 7 3) (functions (m 20 7 3) (codes "f") 2) (and_expression (local_name (m 21 7 5) 0) no_expression)

abbrev pub structs_convert_unit_locals_7_3 : Environment
structs_convert_unit_locals_7_3 = record { arguments = []; variables = (Some (record { of = (struct (d 0)); value = None }) ∷ Some (record { of = (ref (const (struct (d 2)))); value = None }) ∷ []); object = None }

abbrev pub structs_convert_unit_call_8_3 : Expression
structs_convert_unit_call_8_3 = call (m 26 8 3) (functions (m 24 8 3) (codes "f") 2) (and_expression (local_name (m 25 8 5) 1) no_expression)

abbrev pub structs_convert_unit_locals_8_3 : Environment
structs_convert_unit_locals_8_3 = record { arguments = []; variables = (Some (record { of = (struct (d 0)); value = None }) ∷ Some (record { of = (ref (const (struct (d 2)))); value = None }) ∷ []); object = None }

abbrev pub structs_convert_unit_call_9_3 : Expression
structs_convert_unit_call_9_3 = call (m 30 9 3) (functions (m 28 9 3) (codes "f") 2) (and_expression (literal (m 29 9 5) scalars.Int (pos 1)) no_expression)

abbrev pub structs_convert_unit_locals_9_3 : Environment
structs_convert_unit_locals_9_3 = record { arguments = []; variables = (Some (record { of = (struct (d 0)); value = None }) ∷ Some (record { of = (ref (const (struct (d 2)))); value = None }) ∷ []); object = None }

abbrev pub structs_convert_unit_call_10_3 : Expression
structs_convert_unit_call_10_3 = call (m 34 10 3) (functions (m 32 10 3) (codes "k") 1) (and_expression (local_name (m 33 10 5) 0) no_expression)

abbrev pub structs_convert_unit_locals_10_3 : Environment
structs_convert_unit_locals_10_3 = record { arguments = []; variables = (Some (record { of = (struct (d 0)); value = None }) ∷ Some (record { of = (ref (const (struct (d 2)))); value = None }) ∷ []); object = None }

-- struct S { int x; int get() { return 1; } int get() const { return 2; } int only() { return 3; } int look() const { return 4; } };
-- struct O { S s; };
-- S make() { return S{1}; }
-- void g(S a, const S& c, O o) {
--   a.get();
--   c.get();
--   make().get();
--   make().only();
--   c.only();
--   c.look();
--   a.look();
--   o.s.only();
--   O{}.s.only();
--   a.none();
-- }
abbrev pub objects_bound_unit : Program
objects_bound_unit =
    unit
    (a_struct (record { at = (p 1 8); itself = (struct (d 0)); is_template = false; template_parameters = ([]); constraints = ([]); primary = None; specialised_for = ([]); members = (field (codes "x") (scalar_type (m 0 1 12) scalars.Int) ∷ member_function (codes "get") (d 2) ∷ member_function (codes "get") (d 3) ∷ member_function (codes "only") (d 4) ∷ member_function (codes "look") (d 5) ∷ []) })
    ∷ a_field 0 (scalar_type (m 0 1 12) scalars.Int)
    ∷ a_function (record { at = (p 1 23); name = (codes "get"); owner = (Some (d 0)); is_template = false; template_parameters = ([]); constraints = ([]); parameters = ([]); result = (scalar_type (m 1 1 19) scalars.Int); is_const = false; is_constexpr = false; body = Some (block (m 7 1 29) (and_statement (return_statement (m 6 1 31) (Some (literal (m 5 1 38) scalars.Int (pos 1)))) no_statement)) })
    ∷ a_function (record { at = (p 1 47); name = (codes "get"); owner = (Some (d 0)); is_template = false; template_parameters = ([]); constraints = ([]); parameters = ([]); result = (scalar_type (m 2 1 43) scalars.Int); is_const = true; is_constexpr = false; body = Some (block (m 10 1 59) (and_statement (return_statement (m 9 1 61) (Some (literal (m 8 1 68) scalars.Int (pos 2)))) no_statement)) })
    ∷ a_function (record { at = (p 1 77); name = (codes "only"); owner = (Some (d 0)); is_template = false; template_parameters = ([]); constraints = ([]); parameters = ([]); result = (scalar_type (m 3 1 73) scalars.Int); is_const = false; is_constexpr = false; body = Some (block (m 13 1 84) (and_statement (return_statement (m 12 1 86) (Some (literal (m 11 1 93) scalars.Int (pos 3)))) no_statement)) })
    ∷ a_function (record { at = (p 1 102); name = (codes "look"); owner = (Some (d 0)); is_template = false; template_parameters = ([]); constraints = ([]); parameters = ([]); result = (scalar_type (m 4 1 98) scalars.Int); is_const = true; is_constexpr = false; body = Some (block (m 16 1 115) (and_statement (return_statement (m 15 1 117) (Some (literal (m 14 1 124) scalars.Int (pos 4)))) no_statement)) })
    ∷ a_struct (record { at = (p 2 8); itself = (struct (d 6)); is_template = false; template_parameters = ([]); constraints = ([]); primary = None; specialised_for = ([]); members = (field (codes "s") (struct_type (m 17 2 12) (d 0)) ∷ []) })
    ∷ a_field 0 (struct_type (m 17 2 12) (d 0))
    ∷ a_function (record { at = (p 3 3); name = (codes "make"); owner = None; is_template = false; template_parameters = ([]); constraints = ([]); parameters = ([]); result = (struct_type (m 18 3 1) (d 0)); is_const = false; is_constexpr = false; body = Some (block (m 23 3 10) (and_statement (return_statement (m 22 3 12) (Some (list (m 21 3 19) (struct_type (m 19 3 19) (d 0)) (and_expression (literal (m 20 3 21) scalars.Int (pos 1)) no_expression)))) no_statement)) })
    ∷ a_function (record { at = (p 4 6); name = (codes "g"); owner = None; is_template = false; template_parameters = ([]); constraints = ([]); parameters = (parameter (struct_type (m 25 4 8) (d 0)) 0 true ∷ parameter (reference_type (m 26 4 13) (const_type (m 26 4 13) (struct_type (m 26 4 13) (d 0)))) 1 true ∷ parameter (struct_type (m 27 4 25) (d 6)) 2 true ∷ []); result = (void_type (m 24 4 1)); is_const = false; is_constexpr = false; body = Some (block (m 73 4 30) (and_statement (expression_statement (m 31 5 3) (call (m 30 5 3) (object_functions (m 29 5 3) (local_name (m 28 5 3) 0) (codes "get")) no_expression)) (and_statement (expression_statement (m 35 6 3) (call (m 34 6 3) (object_functions (m 33 6 3) (local_name (m 32 6 3) 1) (codes "get")) no_expression)) (and_statement (expression_statement (m 40 7 3) (call (m 39 7 3) (object_functions (m 38 7 3) (call (m 37 7 3) (functions (m 36 7 3) (codes "make") 1) no_expression) (codes "get")) no_expression)) (and_statement (expression_statement (m 45 8 3) (call (m 44 8 3) (object_functions (m 43 8 3) (call (m 42 8 3) (functions (m 41 8 3) (codes "make") 1) no_expression) (codes "only")) no_expression)) (and_statement (expression_statement (m 49 9 3) (call (m 48 9 3) (object_functions (m 47 9 3) (local_name (m 46 9 3) 1) (codes "only")) no_expression)) (and_statement (expression_statement (m 53 10 3) (call (m 52 10 3) (object_functions (m 51 10 3) (local_name (m 50 10 3) 1) (codes "look")) no_expression)) (and_statement (expression_statement (m 57 11 3) (call (m 56 11 3) (object_functions (m 55 11 3) (local_name (m 54 11 3) 0) (codes "look")) no_expression)) (and_statement (expression_statement (m 62 12 3) (call (m 61 12 3) (object_functions (m 60 12 3) (dot (m 59 12 3) (local_name (m 58 12 3) 2) (codes "s")) (codes "only")) no_expression)) (and_statement (expression_statement (m 68 13 3) (call (m 67 13 3) (object_functions (m 66 13 3) (dot (m 65 13 3) (list (m 64 13 3) (struct_type (m 63 13 3) (d 6)) no_expression) (codes "s")) (codes "only")) no_expression)) (and_statement (expression_statement (m 72 14 3) (call (m 71 14 3) (object_functions (m 70 14 3) (local_name (m 69 14 3) 0) (codes "none")) no_expression)) no_statement))))))))))) })
    ∷ [])
    (((codes "make"), ((d 8) ∷ [])) ∷ ((codes "g"), ((d 9) ∷ [])) ∷ [])
    ([])
    ([])
    (around 0 ([]) false ∷ [])
    ([])

abbrev pub objects_bound_unit_call_5_3 : Expression
objects_bound_unit_call_5_3 = call (m 30 5 3) (object_functions (m 29 5 3) (local_name (m 28 5 3) 0) (codes "get")) no_expression

abbrev pub objects_bound_unit_locals_5_3 : Environment
objects_bound_unit_locals_5_3 = record { arguments = []; variables = (Some (record { of = (struct (d 0)); value = None }) ∷ Some (record { of = (ref (const (struct (d 0)))); value = None }) ∷ Some (record { of = (struct (d 6)); value = None }) ∷ []); object = None }

abbrev pub objects_bound_unit_call_6_3 : Expression
objects_bound_unit_call_6_3 = call (m 34 6 3) (object_functions (m 33 6 3) (local_name (m 32 6 3) 1) (codes "get")) no_expression

abbrev pub objects_bound_unit_locals_6_3 : Environment
objects_bound_unit_locals_6_3 = record { arguments = []; variables = (Some (record { of = (struct (d 0)); value = None }) ∷ Some (record { of = (ref (const (struct (d 0)))); value = None }) ∷ Some (record { of = (struct (d 6)); value = None }) ∷ []); object = None }

abbrev pub objects_bound_unit_call_7_3_2 : Expression
objects_bound_unit_call_7_3_2 = call (m 39 7 3) (object_functions (m 38 7 3) (call (m 37 7 3) (functions (m 36 7 3) (codes "make") 1) no_expression) (codes "get")) no_expression

abbrev pub objects_bound_unit_locals_7_3_2 : Environment
objects_bound_unit_locals_7_3_2 = record { arguments = []; variables = (Some (record { of = (struct (d 0)); value = None }) ∷ Some (record { of = (ref (const (struct (d 0)))); value = None }) ∷ Some (record { of = (struct (d 6)); value = None }) ∷ []); object = None }

abbrev pub objects_bound_unit_call_8_3_2 : Expression
objects_bound_unit_call_8_3_2 = call (m 44 8 3) (object_functions (m 43 8 3) (call (m 42 8 3) (functions (m 41 8 3) (codes "make") 1) no_expression) (codes "only")) no_expression

abbrev pub objects_bound_unit_locals_8_3_2 : Environment
objects_bound_unit_locals_8_3_2 = record { arguments = []; variables = (Some (record { of = (struct (d 0)); value = None }) ∷ Some (record { of = (ref (const (struct (d 0)))); value = None }) ∷ Some (record { of = (struct (d 6)); value = None }) ∷ []); object = None }

abbrev pub objects_bound_unit_call_9_3 : Expression
objects_bound_unit_call_9_3 = call (m 48 9 3) (object_functions (m 47 9 3) (local_name (m 46 9 3) 1) (codes "only")) no_expression

abbrev pub objects_bound_unit_locals_9_3 : Environment
objects_bound_unit_locals_9_3 = record { arguments = []; variables = (Some (record { of = (struct (d 0)); value = None }) ∷ Some (record { of = (ref (const (struct (d 0)))); value = None }) ∷ Some (record { of = (struct (d 6)); value = None }) ∷ []); object = None }

abbrev pub objects_bound_unit_call_10_3 : Expression
objects_bound_unit_call_10_3 = call (m 52 10 3) (object_functions (m 51 10 3) (local_name (m 50 10 3) 1) (codes "look")) no_expression

abbrev pub objects_bound_unit_locals_10_3 : Environment
objects_bound_unit_locals_10_3 = record { arguments = []; variables = (Some (record { of = (struct (d 0)); value = None }) ∷ Some (record { of = (ref (const (struct (d 0)))); value = None }) ∷ Some (record { of = (struct (d 6)); value = None }) ∷ []); object = None }

abbrev pub objects_bound_unit_call_11_3 : Expression
objects_bound_unit_call_11_3 = call (m 56 11 3) (object_functions (m 55 11 3) (local_name (m 54 11 3) 0) (codes "look")) no_expression

abbrev pub objects_bound_unit_locals_11_3 : Environment
objects_bound_unit_locals_11_3 = record { arguments = []; variables = (Some (record { of = (struct (d 0)); value = None }) ∷ Some (record { of = (ref (const (struct (d 0)))); value = None }) ∷ Some (record { of = (struct (d 6)); value = None }) ∷ []); object = None }

abbrev pub objects_bound_unit_call_12_3 : Expression
objects_bound_unit_call_12_3 = call (m 61 12 3) (object_functions (m 60 12 3) (dot (m 59 12 3) (local_name (m 58 12 3) 2) (codes "s")) (codes "only")) no_expression

abbrev pub objects_bound_unit_locals_12_3 : Environment
objects_bound_unit_locals_12_3 = record { arguments = []; variables = (Some (record { of = (struct (d 0)); value = None }) ∷ Some (record { of = (ref (const (struct (d 0)))); value = None }) ∷ Some (record { of = (struct (d 6)); value = None }) ∷ []); object = None }

abbrev pub objects_bound_unit_call_13_3 : Expression
objects_bound_unit_call_13_3 = call (m 67 13 3) (object_functions (m 66 13 3) (dot (m 65 13 3) (list (m 64 13 3) (struct_type (m 63 13 3) (d 6)) no_expression) (codes "s")) (codes "only")) no_expression

abbrev pub objects_bound_unit_locals_13_3 : Environment
objects_bound_unit_locals_13_3 = record { arguments = []; variables = (Some (record { of = (struct (d 0)); value = None }) ∷ Some (record { of = (ref (const (struct (d 0)))); value = None }) ∷ Some (record { of = (struct (d 6)); value = None }) ∷ []); object = None }

abbrev pub objects_bound_unit_call_14_3 : Expression
objects_bound_unit_call_14_3 = call (m 71 14 3) (object_functions (m 70 14 3) (local_name (m 69 14 3) 0) (codes "none")) no_expression

abbrev pub objects_bound_unit_locals_14_3 : Environment
objects_bound_unit_locals_14_3 = record { arguments = []; variables = (Some (record { of = (struct (d 0)); value = None }) ∷ Some (record { of = (ref (const (struct (d 0)))); value = None }) ∷ Some (record { of = (struct (d 6)); value = None }) ∷ []); object = None }

-- int f(int) { return 1; }
-- int f(int, int) { return 2; }
-- void g() {
--   f(1);
--   f(1, 2);
--   f();
--   f(1, 2, 3);
-- }
abbrev pub number_of_arguments_unit : Program
number_of_arguments_unit =
    unit
    (a_function (record { at = (p 1 5); name = (codes "f"); owner = None; is_template = false; template_parameters = ([]); constraints = ([]); parameters = (parameter (scalar_type (m 1 1 7) scalars.Int) 0 false ∷ []); result = (scalar_type (m 0 1 1) scalars.Int); is_const = false; is_constexpr = false; body = Some (block (m 4 1 12) (and_statement (return_statement (m 3 1 14) (Some (literal (m 2 1 21) scalars.Int (pos 1)))) no_statement)) })
    ∷ a_function (record { at = (p 2 5); name = (codes "f"); owner = None; is_template = false; template_parameters = ([]); constraints = ([]); parameters = (parameter (scalar_type (m 6 2 7) scalars.Int) 0 false ∷ parameter (scalar_type (m 7 2 12) scalars.Int) 1 false ∷ []); result = (scalar_type (m 5 2 1) scalars.Int); is_const = false; is_constexpr = false; body = Some (block (m 10 2 17) (and_statement (return_statement (m 9 2 19) (Some (literal (m 8 2 26) scalars.Int (pos 2)))) no_statement)) })
    ∷ a_function (record { at = (p 3 6); name = (codes "g"); owner = None; is_template = false; template_parameters = ([]); constraints = ([]); parameters = ([]); result = (void_type (m 11 3 1)); is_const = false; is_constexpr = false; body = Some (block (m 30 3 10) (and_statement (expression_statement (m 15 4 3) (call (m 14 4 3) (functions (m 12 4 3) (codes "f") 2) (and_expression (literal (m 13 4 5) scalars.Int (pos 1)) no_expression))) (and_statement (expression_statement (m 20 5 3) (call (m 19 5 3) (functions (m 16 5 3) (codes "f") 2) (and_expression (literal (m 17 5 5) scalars.Int (pos 1)) (and_expression (literal (m 18 5 8) scalars.Int (pos 2)) no_expression)))) (and_statement (expression_statement (m 23 6 3) (call (m 22 6 3) (functions (m 21 6 3) (codes "f") 2) no_expression)) (and_statement (expression_statement (m 29 7 3) (call (m 28 7 3) (functions (m 24 7 3) (codes "f") 2) (and_expression (literal (m 25 7 5) scalars.Int (pos 1)) (and_expression (literal (m 26 7 8) scalars.Int (pos 2)) (and_expression (literal (m 27 7 11) scalars.Int (pos 3)) no_expression))))) no_statement))))) })
    ∷ [])
    (((codes "f"), ((d 0) ∷ (d 1) ∷ [])) ∷ ((codes "g"), ((d 2) ∷ [])) ∷ [])
    ([])
    ([])
    (around 0 ([]) false ∷ [])
    ([])

abbrev pub number_of_arguments_unit_call_4_3 : Expression
number_of_arguments_unit_call_4_3 = call (m 14 4 3) (functions (m 12 4 3) (codes "f") 2) (and_expression (literal (m 13 4 5) scalars.Int (pos 1)) no_expression)

abbrev pub number_of_arguments_unit_call_5_3 : Expression
number_of_arguments_unit_call_5_3 = call (m 19 5 3) (functions (m 16 5 3) (codes "f") 2) (and_expression (literal (m 17 5 5) scalars.Int (pos 1)) (and_expression (literal (m 18 5 8) scalars.Int (pos 2)) no_expression))

abbrev pub number_of_arguments_unit_call_6_3 : Expression
number_of_arguments_unit_call_6_3 = call (m 22 6 3) (functions (m 21 6 3) (codes "f") 2) no_expression

abbrev pub number_of_arguments_unit_call_7_3 : Expression
number_of_arguments_unit_call_7_3 = call (m 28 7 3) (functions (m 24 7 3) (codes "f") 2) (and_expression (literal (m 25 7 5) scalars.Int (pos 1)) (and_expression (literal (m 26 7 8) scalars.Int (pos 2)) (and_expression (literal (m 27 7 11) scalars.Int (pos 3)) no_expression)))

-- template<typename T> int f(T) { return 1; }
-- int f(int) { return 2; }
-- template<typename T> int h(T) { return 1; }
-- int h(long long) { return 2; }
-- template<typename T> int k(T) { return 1; }
-- template<typename T> int k(T&) { return 2; }
-- template<typename T> int r(T&) { return 1; }
-- template<typename T> int r(const T&) { return 2; }
-- template<typename T> struct Box { T v; };
-- template<typename T> int b(T) { return 1; }
-- template<typename T> int b(Box<T>) { return 2; }
-- template<typename T> int b(Box<Box<T>>) { return 3; }
-- void g(int n, const int& c, Box<int> x, Box<Box<int>> y) {
--   f(1);
--   f(true);
--   h(1);
--   k(1);
--   k(n);
--   r(n);
--   r(c);
--   b(1);
--   b(x);
--   b(y);
-- }
abbrev pub templates_and_functions_unit : Program
templates_and_functions_unit =
    unit
    (a_function (record { at = (p 1 26); name = (codes "f"); owner = None; is_template = true; template_parameters = (tp None None ∷ []); constraints = ([]); parameters = (parameter (position_type (m 1 1 28) 0) 0 false ∷ []); result = (scalar_type (m 0 1 22) scalars.Int); is_const = false; is_constexpr = false; body = Some (block (m 4 1 31) (and_statement (return_statement (m 3 1 33) (Some (literal (m 2 1 40) scalars.Int (pos 1)))) no_statement)) })
    ∷ a_function (record { at = (p 2 5); name = (codes "f"); owner = None; is_template = false; template_parameters = ([]); constraints = ([]); parameters = (parameter (scalar_type (m 6 2 7) scalars.Int) 0 false ∷ []); result = (scalar_type (m 5 2 1) scalars.Int); is_const = false; is_constexpr = false; body = Some (block (m 9 2 12) (and_statement (return_statement (m 8 2 14) (Some (literal (m 7 2 21) scalars.Int (pos 2)))) no_statement)) })
    ∷ a_function (record { at = (p 3 26); name = (codes "h"); owner = None; is_template = true; template_parameters = (tp None None ∷ []); constraints = ([]); parameters = (parameter (position_type (m 11 3 28) 0) 0 false ∷ []); result = (scalar_type (m 10 3 22) scalars.Int); is_const = false; is_constexpr = false; body = Some (block (m 14 3 31) (and_statement (return_statement (m 13 3 33) (Some (literal (m 12 3 40) scalars.Int (pos 1)))) no_statement)) })
    ∷ a_function (record { at = (p 4 5); name = (codes "h"); owner = None; is_template = false; template_parameters = ([]); constraints = ([]); parameters = (parameter (scalar_type (m 16 4 7) scalars.LongLong) 0 false ∷ []); result = (scalar_type (m 15 4 1) scalars.Int); is_const = false; is_constexpr = false; body = Some (block (m 19 4 18) (and_statement (return_statement (m 18 4 20) (Some (literal (m 17 4 27) scalars.Int (pos 2)))) no_statement)) })
    ∷ a_function (record { at = (p 5 26); name = (codes "k"); owner = None; is_template = true; template_parameters = (tp None None ∷ []); constraints = ([]); parameters = (parameter (position_type (m 21 5 28) 0) 0 false ∷ []); result = (scalar_type (m 20 5 22) scalars.Int); is_const = false; is_constexpr = false; body = Some (block (m 24 5 31) (and_statement (return_statement (m 23 5 33) (Some (literal (m 22 5 40) scalars.Int (pos 1)))) no_statement)) })
    ∷ a_function (record { at = (p 6 26); name = (codes "k"); owner = None; is_template = true; template_parameters = (tp None None ∷ []); constraints = ([]); parameters = (parameter (reference_type (m 26 6 28) (position_type (m 26 6 28) 0)) 0 false ∷ []); result = (scalar_type (m 25 6 22) scalars.Int); is_const = false; is_constexpr = false; body = Some (block (m 29 6 32) (and_statement (return_statement (m 28 6 34) (Some (literal (m 27 6 41) scalars.Int (pos 2)))) no_statement)) })
    ∷ a_function (record { at = (p 7 26); name = (codes "r"); owner = None; is_template = true; template_parameters = (tp None None ∷ []); constraints = ([]); parameters = (parameter (reference_type (m 31 7 28) (position_type (m 31 7 28) 0)) 0 false ∷ []); result = (scalar_type (m 30 7 22) scalars.Int); is_const = false; is_constexpr = false; body = Some (block (m 34 7 32) (and_statement (return_statement (m 33 7 34) (Some (literal (m 32 7 41) scalars.Int (pos 1)))) no_statement)) })
    ∷ a_function (record { at = (p 8 26); name = (codes "r"); owner = None; is_template = true; template_parameters = (tp None None ∷ []); constraints = ([]); parameters = (parameter (reference_type (m 36 8 28) (const_type (m 36 8 28) (position_type (m 36 8 28) 0))) 0 false ∷ []); result = (scalar_type (m 35 8 22) scalars.Int); is_const = false; is_constexpr = false; body = Some (block (m 39 8 38) (and_statement (return_statement (m 38 8 40) (Some (literal (m 37 8 47) scalars.Int (pos 2)))) no_statement)) })
    ∷ a_struct (record { at = (p 9 29); itself = (inst (d 8) (arguments ((param 0) ∷ []))); is_template = true; template_parameters = (tp None None ∷ []); constraints = ([]); primary = None; specialised_for = ([]); members = (field (codes "v") (position_type (m 40 9 35) 0) ∷ []) })
    ∷ a_field 0 (position_type (m 40 9 35) 0)
    ∷ a_function (record { at = (p 10 26); name = (codes "b"); owner = None; is_template = true; template_parameters = (tp None None ∷ []); constraints = ([]); parameters = (parameter (position_type (m 42 10 28) 0) 0 false ∷ []); result = (scalar_type (m 41 10 22) scalars.Int); is_const = false; is_constexpr = false; body = Some (block (m 45 10 31) (and_statement (return_statement (m 44 10 33) (Some (literal (m 43 10 40) scalars.Int (pos 1)))) no_statement)) })
    ∷ a_function (record { at = (p 11 26); name = (codes "b"); owner = None; is_template = true; template_parameters = (tp None None ∷ []); constraints = ([]); parameters = (parameter (template_id (m 48 11 28) (p 11 28) (d 8) (and_type (position_type (m 47 11 32) 0) no_argument)) 0 false ∷ []); result = (scalar_type (m 46 11 22) scalars.Int); is_const = false; is_constexpr = false; body = Some (block (m 51 11 36) (and_statement (return_statement (m 50 11 38) (Some (literal (m 49 11 45) scalars.Int (pos 2)))) no_statement)) })
    ∷ a_function (record { at = (p 12 26); name = (codes "b"); owner = None; is_template = true; template_parameters = (tp None None ∷ []); constraints = ([]); parameters = (parameter (template_id (m 55 12 28) (p 12 28) (d 8) (and_type (template_id (m 54 12 32) (p 12 32) (d 8) (and_type (position_type (m 53 12 36) 0) no_argument)) no_argument)) 0 false ∷ []); result = (scalar_type (m 52 12 22) scalars.Int); is_const = false; is_constexpr = false; body = Some (block (m 58 12 41) (and_statement (return_statement (m 57 12 43) (Some (literal (m 56 12 50) scalars.Int (pos 3)))) no_statement)) })
    ∷ a_function (record { at = (p 13 6); name = (codes "g"); owner = None; is_template = false; template_parameters = ([]); constraints = ([]); parameters = (parameter (scalar_type (m 60 13 8) scalars.Int) 0 true ∷ parameter (reference_type (m 61 13 15) (const_type (m 61 13 15) (scalar_type (m 61 13 15) scalars.Int))) 1 true ∷ parameter (template_id (m 63 13 29) (p 13 29) (d 8) (and_type (scalar_type (m 62 13 33) scalars.Int) no_argument)) 2 true ∷ parameter (template_id (m 66 13 41) (p 13 41) (d 8) (and_type (template_id (m 65 13 45) (p 13 45) (d 8) (and_type (scalar_type (m 64 13 49) scalars.Int) no_argument)) no_argument)) 3 true ∷ []); result = (void_type (m 59 13 1)); is_const = false; is_constexpr = false; body = Some (block (m 107 13 58) (and_statement (expression_statement (m 70 14 3) (call (m 69 14 3) (functions (m 67 14 3) (codes "f") 2) (and_expression (literal (m 68 14 5) scalars.Int (pos 1)) no_expression))) (and_statement (expression_statement (m 74 15 3) (call (m 73 15 3) (functions (m 71 15 3) (codes "f") 2) (and_expression (literal (m 72 15 5) scalars.Bool (pos 1)) no_expression))) (and_statement (expression_statement (m 78 16 3) (call (m 77 16 3) (functions (m 75 16 3) (codes "h") 2) (and_expression (literal (m 76 16 5) scalars.Int (pos 1)) no_expression))) (and_statement (expression_statement (m 82 17 3) (call (m 81 17 3) (functions (m 79 17 3) (codes "k") 2) (and_expression (literal (m 80 17 5) scalars.Int (pos 1)) no_expression))) (and_statement (expression_statement (m 86 18 3) (call (m 85 18 3) (functions (m 83 18 3) (codes "k") 2) (and_expression (local_name (m 84 18 5) 0) no_expression))) (and_statement (expression_statement (m 90 19 3) (call (m 89 19 3) (functions (m 87 19 3) (codes "r") 2) (and_expression (local_name (m 88 19 5) 0) no_expression))) (and_statement (expression_statement (m 94 20 3) (call (m 93 20 3) (functions (m 91 20 3) (codes "r") 2) (and_expression (local_name (m 92 20 5) 1) no_expression))) (and_statement (expression_statement (m 98 21 3) (call (m 97 21 3) (functions (m 95 21 3) (codes "b") 3) (and_expression (literal (m 96 21 5) scalars.Int (pos 1)) no_expression))) (and_statement (expression_statement (m 102 22 3) (call (m 101 22 3) (functions (m 99 22 3) (codes "b") 3) (and_expression (local_name (m 100 22 5) 2) no_expression))) (and_statement (expression_statement (m 106 23 3) (call (m 105 23 3) (functions (m 103 23 3) (codes "b") 3) (and_expression (local_name (m 104 23 5) 3) no_expression))) no_statement))))))))))) })
    ∷ [])
    (((codes "f"), ((d 0) ∷ (d 1) ∷ [])) ∷ ((codes "h"), ((d 2) ∷ (d 3) ∷ [])) ∷ ((codes "k"), ((d 4) ∷ (d 5) ∷ [])) ∷ ((codes "r"), ((d 6) ∷ (d 7) ∷ [])) ∷ ((codes "b"), ((d 10) ∷ (d 11) ∷ (d 12) ∷ [])) ∷ ((codes "g"), ((d 13) ∷ [])) ∷ [])
    ([])
    ([])
    (around 0 (None ∷ []) true ∷ around 5 ([]) false ∷ around 10 (None ∷ []) true ∷ around 15 ([]) false ∷ around 20 (None ∷ []) true ∷ around 59 ([]) false ∷ [])
    ([])

abbrev pub templates_and_functions_unit_call_14_3 : Expression
templates_and_functions_unit_call_14_3 = call (m 69 14 3) (functions (m 67 14 3) (codes "f") 2) (and_expression (literal (m 68 14 5) scalars.Int (pos 1)) no_expression)

abbrev pub templates_and_functions_unit_locals_14_3 : Environment
templates_and_functions_unit_locals_14_3 = record { arguments = []; variables = (Some (record { of = (scalar scalars.Int); value = None }) ∷ Some (record { of = (ref (const (scalar scalars.Int))); value = None }) ∷ Some (record { of = (inst (d 8) (arguments ((scalar scalars.Int) ∷ []))); value = None }) ∷ Some (record { of = (inst (d 8) (arguments ((inst (d 8) (arguments ((scalar scalars.Int) ∷ []))) ∷ []))); value = None }) ∷ []); object = None }

abbrev pub templates_and_functions_unit_call_15_3 : Expression
templates_and_functions_unit_call_15_3 = call (m 73 15 3) (functions (m 71 15 3) (codes "f") 2) (and_expression (literal (m 72 15 5) scalars.Bool (pos 1)) no_expression)

abbrev pub templates_and_functions_unit_locals_15_3 : Environment
templates_and_functions_unit_locals_15_3 = record { arguments = []; variables = (Some (record { of = (scalar scalars.Int); value = None }) ∷ Some (record { of = (ref (const (scalar scalars.Int))); value = None }) ∷ Some (record { of = (inst (d 8) (arguments ((scalar scalars.Int) ∷ []))); value = None }) ∷ Some (record { of = (inst (d 8) (arguments ((inst (d 8) (arguments ((scalar scalars.Int) ∷ []))) ∷ []))); value = None }) ∷ []); object = None }

abbrev pub templates_and_functions_unit_call_16_3 : Expression
templates_and_functions_unit_call_16_3 = call (m 77 16 3) (functions (m 75 16 3) (codes "h") 2) (and_expression (literal (m 76 16 5) scalars.Int (pos 1)) no_expression)

abbrev pub templates_and_functions_unit_locals_16_3 : Environment
templates_and_functions_unit_locals_16_3 = record { arguments = []; variables = (Some (record { of = (scalar scalars.Int); value = None }) ∷ Some (record { of = (ref (const (scalar scalars.Int))); value = None }) ∷ Some (record { of = (inst (d 8) (arguments ((scalar scalars.Int) ∷ []))); value = None }) ∷ Some (record { of = (inst (d 8) (arguments ((inst (d 8) (arguments ((scalar scalars.Int) ∷ []))) ∷ []))); value = None }) ∷ []); object = None }

abbrev pub templates_and_functions_unit_call_17_3 : Expression
templates_and_functions_unit_call_17_3 = call (m 81 17 3) (functions (m 79 17 3) (codes "k") 2) (and_expression (literal (m 80 17 5) scalars.Int (pos 1)) no_expression)

abbrev pub templates_and_functions_unit_locals_17_3 : Environment
templates_and_functions_unit_locals_17_3 = record { arguments = []; variables = (Some (record { of = (scalar scalars.Int); value = None }) ∷ Some (record { of = (ref (const (scalar scalars.Int))); value = None }) ∷ Some (record { of = (inst (d 8) (arguments ((scalar scalars.Int) ∷ []))); value = None }) ∷ Some (record { of = (inst (d 8) (arguments ((inst (d 8) (arguments ((scalar scalars.Int) ∷ []))) ∷ []))); value = None }) ∷ []); object = None }

abbrev pub templates_and_functions_unit_call_18_3 : Expression
templates_and_functions_unit_call_18_3 = call (m 85 18 3) (functions (m 83 18 3) (codes "k") 2) (and_expression (local_name (m 84 18 5) 0) no_expression)

abbrev pub templates_and_functions_unit_locals_18_3 : Environment
templates_and_functions_unit_locals_18_3 = record { arguments = []; variables = (Some (record { of = (scalar scalars.Int); value = None }) ∷ Some (record { of = (ref (const (scalar scalars.Int))); value = None }) ∷ Some (record { of = (inst (d 8) (arguments ((scalar scalars.Int) ∷ []))); value = None }) ∷ Some (record { of = (inst (d 8) (arguments ((inst (d 8) (arguments ((scalar scalars.Int) ∷ []))) ∷ []))); value = None }) ∷ []); object = None }

abbrev pub templates_and_functions_unit_call_19_3 : Expression
templates_and_functions_unit_call_19_3 = call (m 89 19 3) (functions (m 87 19 3) (codes "r") 2) (and_expression (local_name (m 88 19 5) 0) no_expression)

abbrev pub templates_and_functions_unit_locals_19_3 : Environment
templates_and_functions_unit_locals_19_3 = record { arguments = []; variables = (Some (record { of = (scalar scalars.Int); value = None }) ∷ Some (record { of = (ref (const (scalar scalars.Int))); value = None }) ∷ Some (record { of = (inst (d 8) (arguments ((scalar scalars.Int) ∷ []))); value = None }) ∷ Some (record { of = (inst (d 8) (arguments ((inst (d 8) (arguments ((scalar scalars.Int) ∷ []))) ∷ []))); value = None }) ∷ []); object = None }

abbrev pub templates_and_functions_unit_call_20_3 : Expression
templates_and_functions_unit_call_20_3 = call (m 93 20 3) (functions (m 91 20 3) (codes "r") 2) (and_expression (local_name (m 92 20 5) 1) no_expression)

abbrev pub templates_and_functions_unit_locals_20_3 : Environment
templates_and_functions_unit_locals_20_3 = record { arguments = []; variables = (Some (record { of = (scalar scalars.Int); value = None }) ∷ Some (record { of = (ref (const (scalar scalars.Int))); value = None }) ∷ Some (record { of = (inst (d 8) (arguments ((scalar scalars.Int) ∷ []))); value = None }) ∷ Some (record { of = (inst (d 8) (arguments ((inst (d 8) (arguments ((scalar scalars.Int) ∷ []))) ∷ []))); value = None }) ∷ []); object = None }

abbrev pub templates_and_functions_unit_call_21_3 : Expression
templates_and_functions_unit_call_21_3 = call (m 97 21 3) (functions (m 95 21 3) (codes "b") 3) (and_expression (literal (m 96 21 5) scalars.Int (pos 1)) no_expression)

abbrev pub templates_and_functions_unit_locals_21_3 : Environment
templates_and_functions_unit_locals_21_3 = record { arguments = []; variables = (Some (record { of = (scalar scalars.Int); value = None }) ∷ Some (record { of = (ref (const (scalar scalars.Int))); value = None }) ∷ Some (record { of = (inst (d 8) (arguments ((scalar scalars.Int) ∷ []))); value = None }) ∷ Some (record { of = (inst (d 8) (arguments ((inst (d 8) (arguments ((scalar scalars.Int) ∷ []))) ∷ []))); value = None }) ∷ []); object = None }

abbrev pub templates_and_functions_unit_call_22_3 : Expression
templates_and_functions_unit_call_22_3 = call (m 101 22 3) (functions (m 99 22 3) (codes "b") 3) (and_expression (local_name (m 100 22 5) 2) no_expression)

abbrev pub templates_and_functions_unit_locals_22_3 : Environment
templates_and_functions_unit_locals_22_3 = record { arguments = []; variables = (Some (record { of = (scalar scalars.Int); value = None }) ∷ Some (record { of = (ref (const (scalar scalars.Int))); value = None }) ∷ Some (record { of = (inst (d 8) (arguments ((scalar scalars.Int) ∷ []))); value = None }) ∷ Some (record { of = (inst (d 8) (arguments ((inst (d 8) (arguments ((scalar scalars.Int) ∷ []))) ∷ []))); value = None }) ∷ []); object = None }

abbrev pub templates_and_functions_unit_call_23_3 : Expression
templates_and_functions_unit_call_23_3 = call (m 105 23 3) (functions (m 103 23 3) (codes "b") 3) (and_expression (local_name (m 104 23 5) 3) no_expression)

abbrev pub templates_and_functions_unit_locals_23_3 : Environment
templates_and_functions_unit_locals_23_3 = record { arguments = []; variables = (Some (record { of = (scalar scalars.Int); value = None }) ∷ Some (record { of = (ref (const (scalar scalars.Int))); value = None }) ∷ Some (record { of = (inst (d 8) (arguments ((scalar scalars.Int) ∷ []))); value = None }) ∷ Some (record { of = (inst (d 8) (arguments ((inst (d 8) (arguments ((scalar scalars.Int) ∷ []))) ∷ []))); value = None }) ∷ []); object = None }

-- template<typename T> int f(T, int) { return 1; }
-- template<typename T, typename U> int f(T, U) { return 2; }
-- template<typename T> int h(T, T) { return 1; }
-- template<typename T, typename U> int h(T, U) { return 2; }
-- template<typename T> int k(T, int) { return 1; }
-- template<typename T> int k(T, T) { return 2; }
-- void g() {
--   f(1, 2);
--   h(1, 2);
--   k(1, 2);
-- }
abbrev pub skipped_pairs_unit : Program
skipped_pairs_unit =
    unit
    (a_function (record { at = (p 1 26); name = (codes "f"); owner = None; is_template = true; template_parameters = (tp None None ∷ []); constraints = ([]); parameters = (parameter (position_type (m 1 1 28) 0) 0 false ∷ parameter (scalar_type (m 2 1 31) scalars.Int) 1 false ∷ []); result = (scalar_type (m 0 1 22) scalars.Int); is_const = false; is_constexpr = false; body = Some (block (m 5 1 36) (and_statement (return_statement (m 4 1 38) (Some (literal (m 3 1 45) scalars.Int (pos 1)))) no_statement)) })
    ∷ a_function (record { at = (p 2 38); name = (codes "f"); owner = None; is_template = true; template_parameters = (tp None None ∷ tp None None ∷ []); constraints = ([]); parameters = (parameter (position_type (m 7 2 40) 0) 0 false ∷ parameter (position_type (m 8 2 43) 1) 1 false ∷ []); result = (scalar_type (m 6 2 34) scalars.Int); is_const = false; is_constexpr = false; body = Some (block (m 11 2 46) (and_statement (return_statement (m 10 2 48) (Some (literal (m 9 2 55) scalars.Int (pos 2)))) no_statement)) })
    ∷ a_function (record { at = (p 3 26); name = (codes "h"); owner = None; is_template = true; template_parameters = (tp None None ∷ []); constraints = ([]); parameters = (parameter (position_type (m 13 3 28) 0) 0 false ∷ parameter (position_type (m 14 3 31) 0) 1 false ∷ []); result = (scalar_type (m 12 3 22) scalars.Int); is_const = false; is_constexpr = false; body = Some (block (m 17 3 34) (and_statement (return_statement (m 16 3 36) (Some (literal (m 15 3 43) scalars.Int (pos 1)))) no_statement)) })
    ∷ a_function (record { at = (p 4 38); name = (codes "h"); owner = None; is_template = true; template_parameters = (tp None None ∷ tp None None ∷ []); constraints = ([]); parameters = (parameter (position_type (m 19 4 40) 0) 0 false ∷ parameter (position_type (m 20 4 43) 1) 1 false ∷ []); result = (scalar_type (m 18 4 34) scalars.Int); is_const = false; is_constexpr = false; body = Some (block (m 23 4 46) (and_statement (return_statement (m 22 4 48) (Some (literal (m 21 4 55) scalars.Int (pos 2)))) no_statement)) })
    ∷ a_function (record { at = (p 5 26); name = (codes "k"); owner = None; is_template = true; template_parameters = (tp None None ∷ []); constraints = ([]); parameters = (parameter (position_type (m 25 5 28) 0) 0 false ∷ parameter (scalar_type (m 26 5 31) scalars.Int) 1 false ∷ []); result = (scalar_type (m 24 5 22) scalars.Int); is_const = false; is_constexpr = false; body = Some (block (m 29 5 36) (and_statement (return_statement (m 28 5 38) (Some (literal (m 27 5 45) scalars.Int (pos 1)))) no_statement)) })
    ∷ a_function (record { at = (p 6 26); name = (codes "k"); owner = None; is_template = true; template_parameters = (tp None None ∷ []); constraints = ([]); parameters = (parameter (position_type (m 31 6 28) 0) 0 false ∷ parameter (position_type (m 32 6 31) 0) 1 false ∷ []); result = (scalar_type (m 30 6 22) scalars.Int); is_const = false; is_constexpr = false; body = Some (block (m 35 6 34) (and_statement (return_statement (m 34 6 36) (Some (literal (m 33 6 43) scalars.Int (pos 2)))) no_statement)) })
    ∷ a_function (record { at = (p 7 6); name = (codes "g"); owner = None; is_template = false; template_parameters = ([]); constraints = ([]); parameters = ([]); result = (void_type (m 36 7 1)); is_const = false; is_constexpr = false; body = Some (block (m 52 7 10) (and_statement (expression_statement (m 41 8 3) (call (m 40 8 3) (functions (m 37 8 3) (codes "f") 2) (and_expression (literal (m 38 8 5) scalars.Int (pos 1)) (and_expression (literal (m 39 8 8) scalars.Int (pos 2)) no_expression)))) (and_statement (expression_statement (m 46 9 3) (call (m 45 9 3) (functions (m 42 9 3) (codes "h") 2) (and_expression (literal (m 43 9 5) scalars.Int (pos 1)) (and_expression (literal (m 44 9 8) scalars.Int (pos 2)) no_expression)))) (and_statement (expression_statement (m 51 10 3) (call (m 50 10 3) (functions (m 47 10 3) (codes "k") 2) (and_expression (literal (m 48 10 5) scalars.Int (pos 1)) (and_expression (literal (m 49 10 8) scalars.Int (pos 2)) no_expression)))) no_statement)))) })
    ∷ [])
    (((codes "f"), ((d 0) ∷ (d 1) ∷ [])) ∷ ((codes "h"), ((d 2) ∷ (d 3) ∷ [])) ∷ ((codes "k"), ((d 4) ∷ (d 5) ∷ [])) ∷ ((codes "g"), ((d 6) ∷ [])) ∷ [])
    ([])
    ([])
    (around 0 (None ∷ []) true ∷ around 6 (None ∷ None ∷ []) true ∷ around 12 (None ∷ []) true ∷ around 18 (None ∷ None ∷ []) true ∷ around 24 (None ∷ []) true ∷ around 36 ([]) false ∷ [])
    ([])

abbrev pub skipped_pairs_unit_call_8_3 : Expression
skipped_pairs_unit_call_8_3 = call (m 40 8 3) (functions (m 37 8 3) (codes "f") 2) (and_expression (literal (m 38 8 5) scalars.Int (pos 1)) (and_expression (literal (m 39 8 8) scalars.Int (pos 2)) no_expression))

abbrev pub skipped_pairs_unit_call_9_3 : Expression
skipped_pairs_unit_call_9_3 = call (m 45 9 3) (functions (m 42 9 3) (codes "h") 2) (and_expression (literal (m 43 9 5) scalars.Int (pos 1)) (and_expression (literal (m 44 9 8) scalars.Int (pos 2)) no_expression))

abbrev pub skipped_pairs_unit_call_10_3 : Expression
skipped_pairs_unit_call_10_3 = call (m 50 10 3) (functions (m 47 10 3) (codes "k") 2) (and_expression (literal (m 48 10 5) scalars.Int (pos 1)) (and_expression (literal (m 49 10 8) scalars.Int (pos 2)) no_expression))

-- template<typename T> concept A = true;
-- template<typename T> struct W {
--   int f(int) requires A<T> { return 1; }
--   int f(int) { return 2; }
--   int h(bool) requires A<T> { return 1; }
--   int h(int) { return 2; }
--   int n(int) requires (__is_same(T, bool)) { return 1; }
--   int n(int) { return 2; }
-- };
-- void g(W<int> w) {
--   w.f(1);
--   w.h(1);
--   w.n(1);
-- }
abbrev pub constrained_functions_unit : Program
constrained_functions_unit =
    unit
    (a_concept (record { at = (p 1 30); template_parameters = (tp None None ∷ []); condition = (literal (m 0 1 34) scalars.Bool (pos 1)) })
    ∷ a_struct (record { at = (p 2 29); itself = (inst (d 1) (arguments ((param 0) ∷ []))); is_template = true; template_parameters = (tp None None ∷ []); constraints = ([]); primary = None; specialised_for = ([]); members = (member_function (codes "f") (d 2) ∷ member_function (codes "f") (d 3) ∷ member_function (codes "h") (d 4) ∷ member_function (codes "h") (d 5) ∷ member_function (codes "n") (d 6) ∷ member_function (codes "n") (d 7) ∷ []) })
    ∷ a_function (record { at = (p 3 7); name = (codes "f"); owner = (Some (d 1)); is_template = true; template_parameters = (tp None None ∷ []); constraints = ((concept_id (m 4 3 23) (d 0) (and_type (position_type (m 3 3 25) 0) no_argument)) ∷ []); parameters = (parameter (scalar_type (m 2 3 9) scalars.Int) 0 false ∷ []); result = (scalar_type (m 1 3 3) scalars.Int); is_const = false; is_constexpr = false; body = Some (block (m 23 3 28) (and_statement (return_statement (m 22 3 30) (Some (literal (m 21 3 37) scalars.Int (pos 1)))) no_statement)) })
    ∷ a_function (record { at = (p 4 7); name = (codes "f"); owner = (Some (d 1)); is_template = true; template_parameters = (tp None None ∷ []); constraints = ([]); parameters = (parameter (scalar_type (m 6 4 9) scalars.Int) 0 false ∷ []); result = (scalar_type (m 5 4 3) scalars.Int); is_const = false; is_constexpr = false; body = Some (block (m 26 4 14) (and_statement (return_statement (m 25 4 16) (Some (literal (m 24 4 23) scalars.Int (pos 2)))) no_statement)) })
    ∷ a_function (record { at = (p 5 7); name = (codes "h"); owner = (Some (d 1)); is_template = true; template_parameters = (tp None None ∷ []); constraints = ((concept_id (m 10 5 24) (d 0) (and_type (position_type (m 9 5 26) 0) no_argument)) ∷ []); parameters = (parameter (scalar_type (m 8 5 9) scalars.Bool) 0 false ∷ []); result = (scalar_type (m 7 5 3) scalars.Int); is_const = false; is_constexpr = false; body = Some (block (m 29 5 29) (and_statement (return_statement (m 28 5 31) (Some (literal (m 27 5 38) scalars.Int (pos 1)))) no_statement)) })
    ∷ a_function (record { at = (p 6 7); name = (codes "h"); owner = (Some (d 1)); is_template = true; template_parameters = (tp None None ∷ []); constraints = ([]); parameters = (parameter (scalar_type (m 12 6 9) scalars.Int) 0 false ∷ []); result = (scalar_type (m 11 6 3) scalars.Int); is_const = false; is_constexpr = false; body = Some (block (m 32 6 14) (and_statement (return_statement (m 31 6 16) (Some (literal (m 30 6 23) scalars.Int (pos 2)))) no_statement)) })
    ∷ a_function (record { at = (p 7 7); name = (codes "n"); owner = (Some (d 1)); is_template = true; template_parameters = (tp None None ∷ []); constraints = ((parentheses (m 18 7 23) (is_same (m 17 7 24) (position_type (m 15 7 34) 0) (scalar_type (m 16 7 37) scalars.Bool))) ∷ []); parameters = (parameter (scalar_type (m 14 7 9) scalars.Int) 0 false ∷ []); result = (scalar_type (m 13 7 3) scalars.Int); is_const = false; is_constexpr = false; body = Some (block (m 35 7 44) (and_statement (return_statement (m 34 7 46) (Some (literal (m 33 7 53) scalars.Int (pos 1)))) no_statement)) })
    ∷ a_function (record { at = (p 8 7); name = (codes "n"); owner = (Some (d 1)); is_template = true; template_parameters = (tp None None ∷ []); constraints = ([]); parameters = (parameter (scalar_type (m 20 8 9) scalars.Int) 0 false ∷ []); result = (scalar_type (m 19 8 3) scalars.Int); is_const = false; is_constexpr = false; body = Some (block (m 38 8 14) (and_statement (return_statement (m 37 8 16) (Some (literal (m 36 8 23) scalars.Int (pos 2)))) no_statement)) })
    ∷ a_function (record { at = (p 10 6); name = (codes "g"); owner = None; is_template = false; template_parameters = ([]); constraints = ([]); parameters = (parameter (template_id (m 41 10 8) (p 10 8) (d 1) (and_type (scalar_type (m 40 10 10) scalars.Int) no_argument)) 0 true ∷ []); result = (void_type (m 39 10 1)); is_const = false; is_constexpr = false; body = Some (block (m 57 10 18) (and_statement (expression_statement (m 46 11 3) (call (m 45 11 3) (object_functions (m 43 11 3) (local_name (m 42 11 3) 0) (codes "f")) (and_expression (literal (m 44 11 7) scalars.Int (pos 1)) no_expression))) (and_statement (expression_statement (m 51 12 3) (call (m 50 12 3) (object_functions (m 48 12 3) (local_name (m 47 12 3) 0) (codes "h")) (and_expression (literal (m 49 12 7) scalars.Int (pos 1)) no_expression))) (and_statement (expression_statement (m 56 13 3) (call (m 55 13 3) (object_functions (m 53 13 3) (local_name (m 52 13 3) 0) (codes "n")) (and_expression (literal (m 54 13 7) scalars.Int (pos 1)) no_expression))) no_statement)))) })
    ∷ [])
    (((codes "g"), ((d 8) ∷ [])) ∷ [])
    ([])
    ((0, (literal (m 0 1 34) scalars.Bool (pos 1)))
    ∷ (17, (is_same (m 17 7 24) (position_type (m 15 7 34) 0) (scalar_type (m 16 7 37) scalars.Bool)))
    ∷ [])
    (around 0 (None ∷ []) true ∷ around 39 ([]) false ∷ [])
    ([])

abbrev pub constrained_functions_unit_call_11_3 : Expression
constrained_functions_unit_call_11_3 = call (m 45 11 3) (object_functions (m 43 11 3) (local_name (m 42 11 3) 0) (codes "f")) (and_expression (literal (m 44 11 7) scalars.Int (pos 1)) no_expression)

abbrev pub constrained_functions_unit_locals_11_3 : Environment
constrained_functions_unit_locals_11_3 = record { arguments = []; variables = (Some (record { of = (inst (d 1) (arguments ((scalar scalars.Int) ∷ []))); value = None }) ∷ []); object = None }

abbrev pub constrained_functions_unit_call_12_3 : Expression
constrained_functions_unit_call_12_3 = call (m 50 12 3) (object_functions (m 48 12 3) (local_name (m 47 12 3) 0) (codes "h")) (and_expression (literal (m 49 12 7) scalars.Int (pos 1)) no_expression)

abbrev pub constrained_functions_unit_locals_12_3 : Environment
constrained_functions_unit_locals_12_3 = record { arguments = []; variables = (Some (record { of = (inst (d 1) (arguments ((scalar scalars.Int) ∷ []))); value = None }) ∷ []); object = None }

abbrev pub constrained_functions_unit_call_13_3 : Expression
constrained_functions_unit_call_13_3 = call (m 55 13 3) (object_functions (m 53 13 3) (local_name (m 52 13 3) 0) (codes "n")) (and_expression (literal (m 54 13 7) scalars.Int (pos 1)) no_expression)

abbrev pub constrained_functions_unit_locals_13_3 : Environment
constrained_functions_unit_locals_13_3 = record { arguments = []; variables = (Some (record { of = (inst (d 1) (arguments ((scalar scalars.Int) ∷ []))); value = None }) ∷ []); object = None }

-- template<typename T> concept A = __is_same(T, int) || __is_same(T, bool);
-- template<typename T> concept B = A<T> && __is_same(T, int);
-- template<A T, typename U> int f(T, U) { return 1; }
-- template<typename T, B U> int f(T, U) { return 2; }
-- template<A T, typename U> int h(T, U) { return 1; }
-- template<B T, typename U> int h(T, U) { return 2; }
-- template<typename U, A T> int k(T, U) { return 1; }
-- template<B T, typename U> int k(T, U) { return 2; }
-- void g() {
--   f(1, 1);
--   h(1, 1);
--   k(1, 1);
-- }
abbrev pub as_constrained_unit : Program
as_constrained_unit =
    unit
    (a_concept (record { at = (p 1 30); template_parameters = (tp None None ∷ []); condition = (binary (m 6 1 34) word.LogicalOr (is_same (m 2 1 34) (position_type (m 0 1 44) 0) (scalar_type (m 1 1 47) scalars.Int)) (is_same (m 5 1 55) (position_type (m 3 1 65) 0) (scalar_type (m 4 1 68) scalars.Bool))) })
    ∷ a_concept (record { at = (p 2 30); template_parameters = (tp None None ∷ []); condition = (binary (m 12 2 34) word.LogicalAnd (concept_id (m 8 2 34) (d 0) (and_type (position_type (m 7 2 36) 0) no_argument)) (is_same (m 11 2 42) (position_type (m 9 2 52) 0) (scalar_type (m 10 2 55) scalars.Int))) })
    ∷ a_function (record { at = (p 3 31); name = (codes "f"); owner = None; is_template = true; template_parameters = (tp None None ∷ tp None None ∷ []); constraints = ((concept_id (m 13 3 10) (d 0) (and_type (position_type (m 13 3 10) 0) no_argument)) ∷ []); parameters = (parameter (position_type (m 15 3 33) 0) 0 false ∷ parameter (position_type (m 16 3 36) 1) 1 false ∷ []); result = (scalar_type (m 14 3 27) scalars.Int); is_const = false; is_constexpr = false; body = Some (block (m 19 3 39) (and_statement (return_statement (m 18 3 41) (Some (literal (m 17 3 48) scalars.Int (pos 1)))) no_statement)) })
    ∷ a_function (record { at = (p 4 31); name = (codes "f"); owner = None; is_template = true; template_parameters = (tp None None ∷ tp None None ∷ []); constraints = ((concept_id (m 20 4 22) (d 1) (and_type (position_type (m 20 4 22) 1) no_argument)) ∷ []); parameters = (parameter (position_type (m 22 4 33) 0) 0 false ∷ parameter (position_type (m 23 4 36) 1) 1 false ∷ []); result = (scalar_type (m 21 4 27) scalars.Int); is_const = false; is_constexpr = false; body = Some (block (m 26 4 39) (and_statement (return_statement (m 25 4 41) (Some (literal (m 24 4 48) scalars.Int (pos 2)))) no_statement)) })
    ∷ a_function (record { at = (p 5 31); name = (codes "h"); owner = None; is_template = true; template_parameters = (tp None None ∷ tp None None ∷ []); constraints = ((concept_id (m 27 5 10) (d 0) (and_type (position_type (m 27 5 10) 0) no_argument)) ∷ []); parameters = (parameter (position_type (m 29 5 33) 0) 0 false ∷ parameter (position_type (m 30 5 36) 1) 1 false ∷ []); result = (scalar_type (m 28 5 27) scalars.Int); is_const = false; is_constexpr = false; body = Some (block (m 33 5 39) (and_statement (return_statement (m 32 5 41) (Some (literal (m 31 5 48) scalars.Int (pos 1)))) no_statement)) })
    ∷ a_function (record { at = (p 6 31); name = (codes "h"); owner = None; is_template = true; template_parameters = (tp None None ∷ tp None None ∷ []); constraints = ((concept_id (m 34 6 10) (d 1) (and_type (position_type (m 34 6 10) 0) no_argument)) ∷ []); parameters = (parameter (position_type (m 36 6 33) 0) 0 false ∷ parameter (position_type (m 37 6 36) 1) 1 false ∷ []); result = (scalar_type (m 35 6 27) scalars.Int); is_const = false; is_constexpr = false; body = Some (block (m 40 6 39) (and_statement (return_statement (m 39 6 41) (Some (literal (m 38 6 48) scalars.Int (pos 2)))) no_statement)) })
    ∷ a_function (record { at = (p 7 31); name = (codes "k"); owner = None; is_template = true; template_parameters = (tp None None ∷ tp None None ∷ []); constraints = ((concept_id (m 41 7 22) (d 0) (and_type (position_type (m 41 7 22) 1) no_argument)) ∷ []); parameters = (parameter (position_type (m 43 7 33) 1) 0 false ∷ parameter (position_type (m 44 7 36) 0) 1 false ∷ []); result = (scalar_type (m 42 7 27) scalars.Int); is_const = false; is_constexpr = false; body = Some (block (m 47 7 39) (and_statement (return_statement (m 46 7 41) (Some (literal (m 45 7 48) scalars.Int (pos 1)))) no_statement)) })
    ∷ a_function (record { at = (p 8 31); name = (codes "k"); owner = None; is_template = true; template_parameters = (tp None None ∷ tp None None ∷ []); constraints = ((concept_id (m 48 8 10) (d 1) (and_type (position_type (m 48 8 10) 0) no_argument)) ∷ []); parameters = (parameter (position_type (m 50 8 33) 0) 0 false ∷ parameter (position_type (m 51 8 36) 1) 1 false ∷ []); result = (scalar_type (m 49 8 27) scalars.Int); is_const = false; is_constexpr = false; body = Some (block (m 54 8 39) (and_statement (return_statement (m 53 8 41) (Some (literal (m 52 8 48) scalars.Int (pos 2)))) no_statement)) })
    ∷ a_function (record { at = (p 9 6); name = (codes "g"); owner = None; is_template = false; template_parameters = ([]); constraints = ([]); parameters = ([]); result = (void_type (m 55 9 1)); is_const = false; is_constexpr = false; body = Some (block (m 71 9 10) (and_statement (expression_statement (m 60 10 3) (call (m 59 10 3) (functions (m 56 10 3) (codes "f") 2) (and_expression (literal (m 57 10 5) scalars.Int (pos 1)) (and_expression (literal (m 58 10 8) scalars.Int (pos 1)) no_expression)))) (and_statement (expression_statement (m 65 11 3) (call (m 64 11 3) (functions (m 61 11 3) (codes "h") 2) (and_expression (literal (m 62 11 5) scalars.Int (pos 1)) (and_expression (literal (m 63 11 8) scalars.Int (pos 1)) no_expression)))) (and_statement (expression_statement (m 70 12 3) (call (m 69 12 3) (functions (m 66 12 3) (codes "k") 2) (and_expression (literal (m 67 12 5) scalars.Int (pos 1)) (and_expression (literal (m 68 12 8) scalars.Int (pos 1)) no_expression)))) no_statement)))) })
    ∷ [])
    (((codes "f"), ((d 2) ∷ (d 3) ∷ [])) ∷ ((codes "h"), ((d 4) ∷ (d 5) ∷ [])) ∷ ((codes "k"), ((d 6) ∷ (d 7) ∷ [])) ∷ ((codes "g"), ((d 8) ∷ [])) ∷ [])
    ([])
    ((2, (is_same (m 2 1 34) (position_type (m 0 1 44) 0) (scalar_type (m 1 1 47) scalars.Int)))
    ∷ (5, (is_same (m 5 1 55) (position_type (m 3 1 65) 0) (scalar_type (m 4 1 68) scalars.Bool)))
    ∷ (11, (is_same (m 11 2 42) (position_type (m 9 2 52) 0) (scalar_type (m 10 2 55) scalars.Int)))
    ∷ [])
    (around 0 (None ∷ []) true ∷ around 13 (None ∷ None ∷ []) true ∷ around 55 ([]) false ∷ [])
    ([])

abbrev pub as_constrained_unit_call_10_3 : Expression
as_constrained_unit_call_10_3 = call (m 59 10 3) (functions (m 56 10 3) (codes "f") 2) (and_expression (literal (m 57 10 5) scalars.Int (pos 1)) (and_expression (literal (m 58 10 8) scalars.Int (pos 1)) no_expression))

abbrev pub as_constrained_unit_call_11_3 : Expression
as_constrained_unit_call_11_3 = call (m 64 11 3) (functions (m 61 11 3) (codes "h") 2) (and_expression (literal (m 62 11 5) scalars.Int (pos 1)) (and_expression (literal (m 63 11 8) scalars.Int (pos 1)) no_expression))

abbrev pub as_constrained_unit_call_12_3 : Expression
as_constrained_unit_call_12_3 = call (m 69 12 3) (functions (m 66 12 3) (codes "k") 2) (and_expression (literal (m 67 12 5) scalars.Int (pos 1)) (and_expression (literal (m 68 12 8) scalars.Int (pos 1)) no_expression))
