-- Conversions and their ranking, and what else makes a function better ([over.ics.rank], [over.match.best]).
use Rattle.std.specs.Prelude.{pos, true, false, [], ◌∷◌, Some, None, codes}
use Rattle.cx_base.specs.declared.value.Scalar.TheVariants as scalars
use Rattle.cx_term.specs.Term.{param, scalar, struct, inst, const, ref, val, arguments}
use Rattle.cx_term.specs.declared.word.Word.TheVariants as word
use Rattle.cx_questions.specs.Forms.{Expression, literal, local_name, position_name, binary, dot, call, list, is_same, concept_id, no_expression, and_expression, functions, own_functions, object_functions, position_type, scalar_type, struct_type, template_id, const_type, reference_type, no_argument, and_type, and_value, block, return_statement, expression_statement, no_statement, and_statement}
use Rattle.cx_questions.specs.Program.{Program, a_function, a_struct, a_concept, a_field, field, member_function}
use Rattle.cx_questions.specs.Environments.{Environment}
use Rattle.worked_units.specs.Units.{p, d, m, tp, parameter, around, unit}

-- int f(int) { return 1; }
-- int f(bool) { return 2; }
-- int f(long long) { return 3; }
-- int k(int) { return 1; }
-- int k(unsigned) { return 2; }
-- int m(const long long&) { return 1; }
-- int m(int) { return 2; }
-- int g(bool b, int i, unsigned u, long long l) { return f(b) + f(i) + f(u) + f(l) + k(b) + k(l) + m(b) + m(l) + m(i); }
abbrev pub ranks_unit : Program
ranks_unit =
    unit
    (a_function (record { at = (p 1 5); name = (codes "f"); owner = None; is_template = false; template_parameters = ([]); constraints = ([]); parameters = (parameter (scalar_type (m 1 1 7) scalars.Int) 0 false ∷ []); result = (scalar_type (m 0 1 1) scalars.Int); is_const = false; is_constexpr = false; body = Some (block (m 4 1 12) (and_statement (return_statement (m 3 1 14) (Some (literal (m 2 1 21) scalars.Int (pos 1)))) no_statement)) })
    ∷ a_function (record { at = (p 2 5); name = (codes "f"); owner = None; is_template = false; template_parameters = ([]); constraints = ([]); parameters = (parameter (scalar_type (m 6 2 7) scalars.Bool) 0 false ∷ []); result = (scalar_type (m 5 2 1) scalars.Int); is_const = false; is_constexpr = false; body = Some (block (m 9 2 13) (and_statement (return_statement (m 8 2 15) (Some (literal (m 7 2 22) scalars.Int (pos 2)))) no_statement)) })
    ∷ a_function (record { at = (p 3 5); name = (codes "f"); owner = None; is_template = false; template_parameters = ([]); constraints = ([]); parameters = (parameter (scalar_type (m 11 3 7) scalars.LongLong) 0 false ∷ []); result = (scalar_type (m 10 3 1) scalars.Int); is_const = false; is_constexpr = false; body = Some (block (m 14 3 18) (and_statement (return_statement (m 13 3 20) (Some (literal (m 12 3 27) scalars.Int (pos 3)))) no_statement)) })
    ∷ a_function (record { at = (p 4 5); name = (codes "k"); owner = None; is_template = false; template_parameters = ([]); constraints = ([]); parameters = (parameter (scalar_type (m 16 4 7) scalars.Int) 0 false ∷ []); result = (scalar_type (m 15 4 1) scalars.Int); is_const = false; is_constexpr = false; body = Some (block (m 19 4 12) (and_statement (return_statement (m 18 4 14) (Some (literal (m 17 4 21) scalars.Int (pos 1)))) no_statement)) })
    ∷ a_function (record { at = (p 5 5); name = (codes "k"); owner = None; is_template = false; template_parameters = ([]); constraints = ([]); parameters = (parameter (scalar_type (m 21 5 7) scalars.Unsigned) 0 false ∷ []); result = (scalar_type (m 20 5 1) scalars.Int); is_const = false; is_constexpr = false; body = Some (block (m 24 5 17) (and_statement (return_statement (m 23 5 19) (Some (literal (m 22 5 26) scalars.Int (pos 2)))) no_statement)) })
    ∷ a_function (record { at = (p 6 5); name = (codes "m"); owner = None; is_template = false; template_parameters = ([]); constraints = ([]); parameters = (parameter (reference_type (m 26 6 7) (const_type (m 26 6 7) (scalar_type (m 26 6 7) scalars.LongLong))) 0 false ∷ []); result = (scalar_type (m 25 6 1) scalars.Int); is_const = false; is_constexpr = false; body = Some (block (m 29 6 25) (and_statement (return_statement (m 28 6 27) (Some (literal (m 27 6 34) scalars.Int (pos 1)))) no_statement)) })
    ∷ a_function (record { at = (p 7 5); name = (codes "m"); owner = None; is_template = false; template_parameters = ([]); constraints = ([]); parameters = (parameter (scalar_type (m 31 7 7) scalars.Int) 0 false ∷ []); result = (scalar_type (m 30 7 1) scalars.Int); is_const = false; is_constexpr = false; body = Some (block (m 34 7 12) (and_statement (return_statement (m 33 7 14) (Some (literal (m 32 7 21) scalars.Int (pos 2)))) no_statement)) })
    ∷ a_function (record { at = (p 8 5); name = (codes "g"); owner = None; is_template = false; template_parameters = ([]); constraints = ([]); parameters = (parameter (scalar_type (m 36 8 7) scalars.Bool) 0 true ∷ parameter (scalar_type (m 37 8 15) scalars.Int) 1 true ∷ parameter (scalar_type (m 38 8 22) scalars.Unsigned) 2 true ∷ parameter (scalar_type (m 39 8 34) scalars.LongLong) 3 true ∷ []); result = (scalar_type (m 35 8 1) scalars.Int); is_const = false; is_constexpr = false; body = Some (block (m 76 8 47) (and_statement (return_statement (m 75 8 49) (Some (binary (m 74 8 56) word.Plus (binary (m 70 8 56) word.Plus (binary (m 66 8 56) word.Plus (binary (m 62 8 56) word.Plus (binary (m 58 8 56) word.Plus (binary (m 54 8 56) word.Plus (binary (m 50 8 56) word.Plus (binary (m 46 8 56) word.Plus (call (m 42 8 56) (functions (m 40 8 56) (codes "f") 3) (and_expression (local_name (m 41 8 58) 0) no_expression)) (call (m 45 8 63) (functions (m 43 8 63) (codes "f") 3) (and_expression (local_name (m 44 8 65) 1) no_expression))) (call (m 49 8 70) (functions (m 47 8 70) (codes "f") 3) (and_expression (local_name (m 48 8 72) 2) no_expression))) (call (m 53 8 77) (functions (m 51 8 77) (codes "f") 3) (and_expression (local_name (m 52 8 79) 3) no_expression))) (call (m 57 8 84) (functions (m 55 8 84) (codes "k") 2) (and_expression (local_name (m 56 8 86) 0) no_expression))) (call (m 61 8 91) (functions (m 59 8 91) (codes "k") 2) (and_expression (local_name (m 60 8 93) 3) no_expression))) (call (m 65 8 98) (functions (m 63 8 98) (codes "m") 2) (and_expression (local_name (m 64 8 100) 0) no_expression))) (call (m 69 8 105) (functions (m 67 8 105) (codes "m") 2) (and_expression (local_name (m 68 8 107) 3) no_expression))) (call (m 73 8 112) (functions (m 71 8 112) (codes "m") 2) (and_expression (local_name (m 72 8 114) 1) no_expression))))) no_statement)) })
    ∷ [])
    (((codes "f"), ((d 0) ∷ (d 1) ∷ (d 2) ∷ [])) ∷ ((codes "k"), ((d 3) ∷ (d 4) ∷ [])) ∷ ((codes "m"), ((d 5) ∷ (d 6) ∷ [])) ∷ ((codes "g"), ((d 7) ∷ [])) ∷ [])
    ([])
    ([])
    (around 0 ([]) false ∷ [])
    ([])

abbrev pub ranks_unit_call_8_56 : Expression
ranks_unit_call_8_56 = call (m 42 8 56) (functions (m 40 8 56) (codes "f") 3) (and_expression (local_name (m 41 8 58) 0) no_expression)

abbrev pub ranks_unit_locals_8_56 : Environment
ranks_unit_locals_8_56 = record { arguments = []; variables = (Some (record { of = (scalar scalars.Bool); value = None }) ∷ Some (record { of = (scalar scalars.Int); value = None }) ∷ Some (record { of = (scalar scalars.Unsigned); value = None }) ∷ Some (record { of = (scalar scalars.LongLong); value = None }) ∷ []); object = None }

abbrev pub ranks_unit_call_8_63 : Expression
ranks_unit_call_8_63 = call (m 45 8 63) (functions (m 43 8 63) (codes "f") 3) (and_expression (local_name (m 44 8 65) 1) no_expression)

abbrev pub ranks_unit_locals_8_63 : Environment
ranks_unit_locals_8_63 = record { arguments = []; variables = (Some (record { of = (scalar scalars.Bool); value = None }) ∷ Some (record { of = (scalar scalars.Int); value = None }) ∷ Some (record { of = (scalar scalars.Unsigned); value = None }) ∷ Some (record { of = (scalar scalars.LongLong); value = None }) ∷ []); object = None }

abbrev pub ranks_unit_call_8_70 : Expression
ranks_unit_call_8_70 = call (m 49 8 70) (functions (m 47 8 70) (codes "f") 3) (and_expression (local_name (m 48 8 72) 2) no_expression)

abbrev pub ranks_unit_locals_8_70 : Environment
ranks_unit_locals_8_70 = record { arguments = []; variables = (Some (record { of = (scalar scalars.Bool); value = None }) ∷ Some (record { of = (scalar scalars.Int); value = None }) ∷ Some (record { of = (scalar scalars.Unsigned); value = None }) ∷ Some (record { of = (scalar scalars.LongLong); value = None }) ∷ []); object = None }

abbrev pub ranks_unit_call_8_77 : Expression
ranks_unit_call_8_77 = call (m 53 8 77) (functions (m 51 8 77) (codes "f") 3) (and_expression (local_name (m 52 8 79) 3) no_expression)

abbrev pub ranks_unit_locals_8_77 : Environment
ranks_unit_locals_8_77 = record { arguments = []; variables = (Some (record { of = (scalar scalars.Bool); value = None }) ∷ Some (record { of = (scalar scalars.Int); value = None }) ∷ Some (record { of = (scalar scalars.Unsigned); value = None }) ∷ Some (record { of = (scalar scalars.LongLong); value = None }) ∷ []); object = None }

abbrev pub ranks_unit_call_8_84 : Expression
ranks_unit_call_8_84 = call (m 57 8 84) (functions (m 55 8 84) (codes "k") 2) (and_expression (local_name (m 56 8 86) 0) no_expression)

abbrev pub ranks_unit_locals_8_84 : Environment
ranks_unit_locals_8_84 = record { arguments = []; variables = (Some (record { of = (scalar scalars.Bool); value = None }) ∷ Some (record { of = (scalar scalars.Int); value = None }) ∷ Some (record { of = (scalar scalars.Unsigned); value = None }) ∷ Some (record { of = (scalar scalars.LongLong); value = None }) ∷ []); object = None }

abbrev pub ranks_unit_call_8_91 : Expression
ranks_unit_call_8_91 = call (m 61 8 91) (functions (m 59 8 91) (codes "k") 2) (and_expression (local_name (m 60 8 93) 3) no_expression)

abbrev pub ranks_unit_locals_8_91 : Environment
ranks_unit_locals_8_91 = record { arguments = []; variables = (Some (record { of = (scalar scalars.Bool); value = None }) ∷ Some (record { of = (scalar scalars.Int); value = None }) ∷ Some (record { of = (scalar scalars.Unsigned); value = None }) ∷ Some (record { of = (scalar scalars.LongLong); value = None }) ∷ []); object = None }

abbrev pub ranks_unit_call_8_98 : Expression
ranks_unit_call_8_98 = call (m 65 8 98) (functions (m 63 8 98) (codes "m") 2) (and_expression (local_name (m 64 8 100) 0) no_expression)

abbrev pub ranks_unit_locals_8_98 : Environment
ranks_unit_locals_8_98 = record { arguments = []; variables = (Some (record { of = (scalar scalars.Bool); value = None }) ∷ Some (record { of = (scalar scalars.Int); value = None }) ∷ Some (record { of = (scalar scalars.Unsigned); value = None }) ∷ Some (record { of = (scalar scalars.LongLong); value = None }) ∷ []); object = None }

abbrev pub ranks_unit_call_8_105 : Expression
ranks_unit_call_8_105 = call (m 69 8 105) (functions (m 67 8 105) (codes "m") 2) (and_expression (local_name (m 68 8 107) 3) no_expression)

abbrev pub ranks_unit_locals_8_105 : Environment
ranks_unit_locals_8_105 = record { arguments = []; variables = (Some (record { of = (scalar scalars.Bool); value = None }) ∷ Some (record { of = (scalar scalars.Int); value = None }) ∷ Some (record { of = (scalar scalars.Unsigned); value = None }) ∷ Some (record { of = (scalar scalars.LongLong); value = None }) ∷ []); object = None }

abbrev pub ranks_unit_call_8_112 : Expression
ranks_unit_call_8_112 = call (m 73 8 112) (functions (m 71 8 112) (codes "m") 2) (and_expression (local_name (m 72 8 114) 1) no_expression)

abbrev pub ranks_unit_locals_8_112 : Environment
ranks_unit_locals_8_112 = record { arguments = []; variables = (Some (record { of = (scalar scalars.Bool); value = None }) ∷ Some (record { of = (scalar scalars.Int); value = None }) ∷ Some (record { of = (scalar scalars.Unsigned); value = None }) ∷ Some (record { of = (scalar scalars.LongLong); value = None }) ∷ []); object = None }

-- int f(long long) { return 1; }
-- int f(unsigned) { return 2; }
-- int g() { return f(1); }
abbrev pub neither_promoted_unit : Program
neither_promoted_unit =
    unit
    (a_function (record { at = (p 1 5); name = (codes "f"); owner = None; is_template = false; template_parameters = ([]); constraints = ([]); parameters = (parameter (scalar_type (m 1 1 7) scalars.LongLong) 0 false ∷ []); result = (scalar_type (m 0 1 1) scalars.Int); is_const = false; is_constexpr = false; body = Some (block (m 4 1 18) (and_statement (return_statement (m 3 1 20) (Some (literal (m 2 1 27) scalars.Int (pos 1)))) no_statement)) })
    ∷ a_function (record { at = (p 2 5); name = (codes "f"); owner = None; is_template = false; template_parameters = ([]); constraints = ([]); parameters = (parameter (scalar_type (m 6 2 7) scalars.Unsigned) 0 false ∷ []); result = (scalar_type (m 5 2 1) scalars.Int); is_const = false; is_constexpr = false; body = Some (block (m 9 2 17) (and_statement (return_statement (m 8 2 19) (Some (literal (m 7 2 26) scalars.Int (pos 2)))) no_statement)) })
    ∷ a_function (record { at = (p 3 5); name = (codes "g"); owner = None; is_template = false; template_parameters = ([]); constraints = ([]); parameters = ([]); result = (scalar_type (m 10 3 1) scalars.Int); is_const = false; is_constexpr = false; body = Some (block (m 15 3 9) (and_statement (return_statement (m 14 3 11) (Some (call (m 13 3 18) (functions (m 11 3 18) (codes "f") 2) (and_expression (literal (m 12 3 20) scalars.Int (pos 1)) no_expression)))) no_statement)) })
    ∷ [])
    (((codes "f"), ((d 0) ∷ (d 1) ∷ [])) ∷ ((codes "g"), ((d 2) ∷ [])) ∷ [])
    ([])
    ([])
    (around 0 ([]) false ∷ [])
    ([])

abbrev pub neither_promoted_unit_call_3_18 : Expression
neither_promoted_unit_call_3_18 = call (m 13 3 18) (functions (m 11 3 18) (codes "f") 2) (and_expression (literal (m 12 3 20) scalars.Int (pos 1)) no_expression)

-- int f(int&) { return 1; }
-- int f(const int&) { return 2; }
-- int only(int&) { return 1; }
-- struct S { int x; };
-- int g(int i, const int c, bool b, S s) {
--   f(i);
--   f(c);
--   f(1);
--   f(b);
--   f(s.x);
--   f(S{}.x);
--   only(i);
--   only(c);
--   only(1);
--   only(b);
--   only(S{}.x);
--   return f(s);
-- }
abbrev pub bindings_unit : Program
bindings_unit =
    unit
    (a_function (record { at = (p 1 5); name = (codes "f"); owner = None; is_template = false; template_parameters = ([]); constraints = ([]); parameters = (parameter (reference_type (m 1 1 7) (scalar_type (m 1 1 7) scalars.Int)) 0 false ∷ []); result = (scalar_type (m 0 1 1) scalars.Int); is_const = false; is_constexpr = false; body = Some (block (m 4 1 13) (and_statement (return_statement (m 3 1 15) (Some (literal (m 2 1 22) scalars.Int (pos 1)))) no_statement)) })
    ∷ a_function (record { at = (p 2 5); name = (codes "f"); owner = None; is_template = false; template_parameters = ([]); constraints = ([]); parameters = (parameter (reference_type (m 6 2 7) (const_type (m 6 2 7) (scalar_type (m 6 2 7) scalars.Int))) 0 false ∷ []); result = (scalar_type (m 5 2 1) scalars.Int); is_const = false; is_constexpr = false; body = Some (block (m 9 2 19) (and_statement (return_statement (m 8 2 21) (Some (literal (m 7 2 28) scalars.Int (pos 2)))) no_statement)) })
    ∷ a_function (record { at = (p 3 5); name = (codes "only"); owner = None; is_template = false; template_parameters = ([]); constraints = ([]); parameters = (parameter (reference_type (m 11 3 10) (scalar_type (m 11 3 10) scalars.Int)) 0 false ∷ []); result = (scalar_type (m 10 3 1) scalars.Int); is_const = false; is_constexpr = false; body = Some (block (m 14 3 16) (and_statement (return_statement (m 13 3 18) (Some (literal (m 12 3 25) scalars.Int (pos 1)))) no_statement)) })
    ∷ a_struct (record { at = (p 4 8); itself = (struct (d 3)); is_template = false; template_parameters = ([]); constraints = ([]); primary = None; specialised_for = ([]); members = (field (codes "x") (scalar_type (m 15 4 12) scalars.Int) ∷ []) })
    ∷ a_field 0 (scalar_type (m 15 4 12) scalars.Int)
    ∷ a_function (record { at = (p 5 5); name = (codes "g"); owner = None; is_template = false; template_parameters = ([]); constraints = ([]); parameters = (parameter (scalar_type (m 17 5 7) scalars.Int) 0 true ∷ parameter (const_type (m 18 5 14) (scalar_type (m 18 5 14) scalars.Int)) 1 true ∷ parameter (scalar_type (m 19 5 27) scalars.Bool) 2 true ∷ parameter (struct_type (m 20 5 35) (d 3)) 3 true ∷ []); result = (scalar_type (m 16 5 1) scalars.Int); is_const = false; is_constexpr = false; body = Some (block (m 74 5 40) (and_statement (expression_statement (m 24 6 3) (call (m 23 6 3) (functions (m 21 6 3) (codes "f") 2) (and_expression (local_name (m 22 6 5) 0) no_expression))) (and_statement (expression_statement (m 28 7 3) (call (m 27 7 3) (functions (m 25 7 3) (codes "f") 2) (and_expression (local_name (m 26 7 5) 1) no_expression))) (and_statement (expression_statement (m 32 8 3) (call (m 31 8 3) (functions (m 29 8 3) (codes "f") 2) (and_expression (literal (m 30 8 5) scalars.Int (pos 1)) no_expression))) (and_statement (expression_statement (m 36 9 3) (call (m 35 9 3) (functions (m 33 9 3) (codes "f") 2) (and_expression (local_name (m 34 9 5) 2) no_expression))) (and_statement (expression_statement (m 41 10 3) (call (m 40 10 3) (functions (m 37 10 3) (codes "f") 2) (and_expression (dot (m 39 10 5) (local_name (m 38 10 5) 3) (codes "x")) no_expression))) (and_statement (expression_statement (m 47 11 3) (call (m 46 11 3) (functions (m 42 11 3) (codes "f") 2) (and_expression (dot (m 45 11 5) (list (m 44 11 5) (struct_type (m 43 11 5) (d 3)) no_expression) (codes "x")) no_expression))) (and_statement (expression_statement (m 51 12 3) (call (m 50 12 3) (functions (m 48 12 3) (codes "only") 1) (and_expression (local_name (m 49 12 8) 0) no_expression))) (and_statement (expression_statement (m 55 13 3) (call (m 54 13 3) (functions (m 52 13 3) (codes "only") 1) (and_expression (local_name (m 53 13 8) 1) no_expression))) (and_statement (expression_statement (m 59 14 3) (call (m 58 14 3) (functions (m 56 14 3) (codes "only") 1) (and_expression (literal (m 57 14 8) scalars.Int (pos 1)) no_expression))) (and_statement (expression_statement (m 63 15 3) (call (m 62 15 3) (functions (m 60 15 3) (codes "only") 1) (and_expression (local_name (m 61 15 8) 2) no_expression))) (and_statement (expression_statement (m 69 16 3) (call (m 68 16 3) (functions (m 64 16 3) (codes "only") 1) (and_expression (dot (m 67 16 8) (list (m 66 16 8) (struct_type (m 65 16 8) (d 3)) no_expression) (codes "x")) no_expression))) (and_statement (return_statement (m 73 17 3) (Some (call (m 72 17 10) (functions (m 70 17 10) (codes "f") 2) (and_expression (local_name (m 71 17 12) 3) no_expression)))) no_statement))))))))))))) })
    ∷ [])
    (((codes "f"), ((d 0) ∷ (d 1) ∷ [])) ∷ ((codes "only"), ((d 2) ∷ [])) ∷ ((codes "g"), ((d 5) ∷ [])) ∷ [])
    ([])
    ([])
    (around 0 ([]) false ∷ [])
    ([])

abbrev pub bindings_unit_call_6_3 : Expression
bindings_unit_call_6_3 = call (m 23 6 3) (functions (m 21 6 3) (codes "f") 2) (and_expression (local_name (m 22 6 5) 0) no_expression)

abbrev pub bindings_unit_locals_6_3 : Environment
bindings_unit_locals_6_3 = record { arguments = []; variables = (Some (record { of = (scalar scalars.Int); value = None }) ∷ Some (record { of = (const (scalar scalars.Int)); value = None }) ∷ Some (record { of = (scalar scalars.Bool); value = None }) ∷ Some (record { of = (struct (d 3)); value = None }) ∷ []); object = None }

abbrev pub bindings_unit_call_7_3 : Expression
bindings_unit_call_7_3 = call (m 27 7 3) (functions (m 25 7 3) (codes "f") 2) (and_expression (local_name (m 26 7 5) 1) no_expression)

abbrev pub bindings_unit_locals_7_3 : Environment
bindings_unit_locals_7_3 = record { arguments = []; variables = (Some (record { of = (scalar scalars.Int); value = None }) ∷ Some (record { of = (const (scalar scalars.Int)); value = None }) ∷ Some (record { of = (scalar scalars.Bool); value = None }) ∷ Some (record { of = (struct (d 3)); value = None }) ∷ []); object = None }

abbrev pub bindings_unit_call_8_3 : Expression
bindings_unit_call_8_3 = call (m 31 8 3) (functions (m 29 8 3) (codes "f") 2) (and_expression (literal (m 30 8 5) scalars.Int (pos 1)) no_expression)

abbrev pub bindings_unit_locals_8_3 : Environment
bindings_unit_locals_8_3 = record { arguments = []; variables = (Some (record { of = (scalar scalars.Int); value = None }) ∷ Some (record { of = (const (scalar scalars.Int)); value = None }) ∷ Some (record { of = (scalar scalars.Bool); value = None }) ∷ Some (record { of = (struct (d 3)); value = None }) ∷ []); object = None }

abbrev pub bindings_unit_call_9_3 : Expression
bindings_unit_call_9_3 = call (m 35 9 3) (functions (m 33 9 3) (codes "f") 2) (and_expression (local_name (m 34 9 5) 2) no_expression)

abbrev pub bindings_unit_locals_9_3 : Environment
bindings_unit_locals_9_3 = record { arguments = []; variables = (Some (record { of = (scalar scalars.Int); value = None }) ∷ Some (record { of = (const (scalar scalars.Int)); value = None }) ∷ Some (record { of = (scalar scalars.Bool); value = None }) ∷ Some (record { of = (struct (d 3)); value = None }) ∷ []); object = None }

abbrev pub bindings_unit_call_10_3 : Expression
bindings_unit_call_10_3 = call (m 40 10 3) (functions (m 37 10 3) (codes "f") 2) (and_expression (dot (m 39 10 5) (local_name (m 38 10 5) 3) (codes "x")) no_expression)

abbrev pub bindings_unit_locals_10_3 : Environment
bindings_unit_locals_10_3 = record { arguments = []; variables = (Some (record { of = (scalar scalars.Int); value = None }) ∷ Some (record { of = (const (scalar scalars.Int)); value = None }) ∷ Some (record { of = (scalar scalars.Bool); value = None }) ∷ Some (record { of = (struct (d 3)); value = None }) ∷ []); object = None }

abbrev pub bindings_unit_call_11_3 : Expression
bindings_unit_call_11_3 = call (m 46 11 3) (functions (m 42 11 3) (codes "f") 2) (and_expression (dot (m 45 11 5) (list (m 44 11 5) (struct_type (m 43 11 5) (d 3)) no_expression) (codes "x")) no_expression)

abbrev pub bindings_unit_locals_11_3 : Environment
bindings_unit_locals_11_3 = record { arguments = []; variables = (Some (record { of = (scalar scalars.Int); value = None }) ∷ Some (record { of = (const (scalar scalars.Int)); value = None }) ∷ Some (record { of = (scalar scalars.Bool); value = None }) ∷ Some (record { of = (struct (d 3)); value = None }) ∷ []); object = None }

abbrev pub bindings_unit_call_12_3 : Expression
bindings_unit_call_12_3 = call (m 50 12 3) (functions (m 48 12 3) (codes "only") 1) (and_expression (local_name (m 49 12 8) 0) no_expression)

abbrev pub bindings_unit_locals_12_3 : Environment
bindings_unit_locals_12_3 = record { arguments = []; variables = (Some (record { of = (scalar scalars.Int); value = None }) ∷ Some (record { of = (const (scalar scalars.Int)); value = None }) ∷ Some (record { of = (scalar scalars.Bool); value = None }) ∷ Some (record { of = (struct (d 3)); value = None }) ∷ []); object = None }

abbrev pub bindings_unit_call_13_3 : Expression
bindings_unit_call_13_3 = call (m 54 13 3) (functions (m 52 13 3) (codes "only") 1) (and_expression (local_name (m 53 13 8) 1) no_expression)

abbrev pub bindings_unit_locals_13_3 : Environment
bindings_unit_locals_13_3 = record { arguments = []; variables = (Some (record { of = (scalar scalars.Int); value = None }) ∷ Some (record { of = (const (scalar scalars.Int)); value = None }) ∷ Some (record { of = (scalar scalars.Bool); value = None }) ∷ Some (record { of = (struct (d 3)); value = None }) ∷ []); object = None }

abbrev pub bindings_unit_call_14_3 : Expression
bindings_unit_call_14_3 = call (m 58 14 3) (functions (m 56 14 3) (codes "only") 1) (and_expression (literal (m 57 14 8) scalars.Int (pos 1)) no_expression)

abbrev pub bindings_unit_locals_14_3 : Environment
bindings_unit_locals_14_3 = record { arguments = []; variables = (Some (record { of = (scalar scalars.Int); value = None }) ∷ Some (record { of = (const (scalar scalars.Int)); value = None }) ∷ Some (record { of = (scalar scalars.Bool); value = None }) ∷ Some (record { of = (struct (d 3)); value = None }) ∷ []); object = None }

abbrev pub bindings_unit_call_15_3 : Expression
bindings_unit_call_15_3 = call (m 62 15 3) (functions (m 60 15 3) (codes "only") 1) (and_expression (local_name (m 61 15 8) 2) no_expression)

abbrev pub bindings_unit_locals_15_3 : Environment
bindings_unit_locals_15_3 = record { arguments = []; variables = (Some (record { of = (scalar scalars.Int); value = None }) ∷ Some (record { of = (const (scalar scalars.Int)); value = None }) ∷ Some (record { of = (scalar scalars.Bool); value = None }) ∷ Some (record { of = (struct (d 3)); value = None }) ∷ []); object = None }

abbrev pub bindings_unit_call_16_3 : Expression
bindings_unit_call_16_3 = call (m 68 16 3) (functions (m 64 16 3) (codes "only") 1) (and_expression (dot (m 67 16 8) (list (m 66 16 8) (struct_type (m 65 16 8) (d 3)) no_expression) (codes "x")) no_expression)

abbrev pub bindings_unit_locals_16_3 : Environment
bindings_unit_locals_16_3 = record { arguments = []; variables = (Some (record { of = (scalar scalars.Int); value = None }) ∷ Some (record { of = (const (scalar scalars.Int)); value = None }) ∷ Some (record { of = (scalar scalars.Bool); value = None }) ∷ Some (record { of = (struct (d 3)); value = None }) ∷ []); object = None }

abbrev pub bindings_unit_call_17_10 : Expression
bindings_unit_call_17_10 = call (m 72 17 10) (functions (m 70 17 10) (codes "f") 2) (and_expression (local_name (m 71 17 12) 3) no_expression)

abbrev pub bindings_unit_locals_17_10 : Environment
bindings_unit_locals_17_10 = record { arguments = []; variables = (Some (record { of = (scalar scalars.Int); value = None }) ∷ Some (record { of = (const (scalar scalars.Int)); value = None }) ∷ Some (record { of = (scalar scalars.Bool); value = None }) ∷ Some (record { of = (struct (d 3)); value = None }) ∷ []); object = None }

-- int f(int) { return 1; }
-- int f(const int&) { return 2; }
-- int k(int) { return 1; }
-- int k(int&) { return 2; }
-- int g(int i) { return f(i) + f(1) + f(true) + k(i) + k(1); }
abbrev pub value_and_reference_unit : Program
value_and_reference_unit =
    unit
    (a_function (record { at = (p 1 5); name = (codes "f"); owner = None; is_template = false; template_parameters = ([]); constraints = ([]); parameters = (parameter (scalar_type (m 1 1 7) scalars.Int) 0 false ∷ []); result = (scalar_type (m 0 1 1) scalars.Int); is_const = false; is_constexpr = false; body = Some (block (m 4 1 12) (and_statement (return_statement (m 3 1 14) (Some (literal (m 2 1 21) scalars.Int (pos 1)))) no_statement)) })
    ∷ a_function (record { at = (p 2 5); name = (codes "f"); owner = None; is_template = false; template_parameters = ([]); constraints = ([]); parameters = (parameter (reference_type (m 6 2 7) (const_type (m 6 2 7) (scalar_type (m 6 2 7) scalars.Int))) 0 false ∷ []); result = (scalar_type (m 5 2 1) scalars.Int); is_const = false; is_constexpr = false; body = Some (block (m 9 2 19) (and_statement (return_statement (m 8 2 21) (Some (literal (m 7 2 28) scalars.Int (pos 2)))) no_statement)) })
    ∷ a_function (record { at = (p 3 5); name = (codes "k"); owner = None; is_template = false; template_parameters = ([]); constraints = ([]); parameters = (parameter (scalar_type (m 11 3 7) scalars.Int) 0 false ∷ []); result = (scalar_type (m 10 3 1) scalars.Int); is_const = false; is_constexpr = false; body = Some (block (m 14 3 12) (and_statement (return_statement (m 13 3 14) (Some (literal (m 12 3 21) scalars.Int (pos 1)))) no_statement)) })
    ∷ a_function (record { at = (p 4 5); name = (codes "k"); owner = None; is_template = false; template_parameters = ([]); constraints = ([]); parameters = (parameter (reference_type (m 16 4 7) (scalar_type (m 16 4 7) scalars.Int)) 0 false ∷ []); result = (scalar_type (m 15 4 1) scalars.Int); is_const = false; is_constexpr = false; body = Some (block (m 19 4 13) (and_statement (return_statement (m 18 4 15) (Some (literal (m 17 4 22) scalars.Int (pos 2)))) no_statement)) })
    ∷ a_function (record { at = (p 5 5); name = (codes "g"); owner = None; is_template = false; template_parameters = ([]); constraints = ([]); parameters = (parameter (scalar_type (m 21 5 7) scalars.Int) 0 true ∷ []); result = (scalar_type (m 20 5 1) scalars.Int); is_const = false; is_constexpr = false; body = Some (block (m 42 5 14) (and_statement (return_statement (m 41 5 16) (Some (binary (m 40 5 23) word.Plus (binary (m 36 5 23) word.Plus (binary (m 32 5 23) word.Plus (binary (m 28 5 23) word.Plus (call (m 24 5 23) (functions (m 22 5 23) (codes "f") 2) (and_expression (local_name (m 23 5 25) 0) no_expression)) (call (m 27 5 30) (functions (m 25 5 30) (codes "f") 2) (and_expression (literal (m 26 5 32) scalars.Int (pos 1)) no_expression))) (call (m 31 5 37) (functions (m 29 5 37) (codes "f") 2) (and_expression (literal (m 30 5 39) scalars.Bool (pos 1)) no_expression))) (call (m 35 5 47) (functions (m 33 5 47) (codes "k") 2) (and_expression (local_name (m 34 5 49) 0) no_expression))) (call (m 39 5 54) (functions (m 37 5 54) (codes "k") 2) (and_expression (literal (m 38 5 56) scalars.Int (pos 1)) no_expression))))) no_statement)) })
    ∷ [])
    (((codes "f"), ((d 0) ∷ (d 1) ∷ [])) ∷ ((codes "k"), ((d 2) ∷ (d 3) ∷ [])) ∷ ((codes "g"), ((d 4) ∷ [])) ∷ [])
    ([])
    ([])
    (around 0 ([]) false ∷ [])
    ([])

abbrev pub value_and_reference_unit_call_5_23 : Expression
value_and_reference_unit_call_5_23 = call (m 24 5 23) (functions (m 22 5 23) (codes "f") 2) (and_expression (local_name (m 23 5 25) 0) no_expression)

abbrev pub value_and_reference_unit_locals_5_23 : Environment
value_and_reference_unit_locals_5_23 = record { arguments = []; variables = (Some (record { of = (scalar scalars.Int); value = None }) ∷ []); object = None }

abbrev pub value_and_reference_unit_call_5_30 : Expression
value_and_reference_unit_call_5_30 = call (m 27 5 30) (functions (m 25 5 30) (codes "f") 2) (and_expression (literal (m 26 5 32) scalars.Int (pos 1)) no_expression)

abbrev pub value_and_reference_unit_locals_5_30 : Environment
value_and_reference_unit_locals_5_30 = record { arguments = []; variables = (Some (record { of = (scalar scalars.Int); value = None }) ∷ []); object = None }

abbrev pub value_and_reference_unit_call_5_37 : Expression
value_and_reference_unit_call_5_37 = call (m 31 5 37) (functions (m 29 5 37) (codes "f") 2) (and_expression (literal (m 30 5 39) scalars.Bool (pos 1)) no_expression)

abbrev pub value_and_reference_unit_locals_5_37 : Environment
value_and_reference_unit_locals_5_37 = record { arguments = []; variables = (Some (record { of = (scalar scalars.Int); value = None }) ∷ []); object = None }

abbrev pub value_and_reference_unit_call_5_47 : Expression
value_and_reference_unit_call_5_47 = call (m 35 5 47) (functions (m 33 5 47) (codes "k") 2) (and_expression (local_name (m 34 5 49) 0) no_expression)

abbrev pub value_and_reference_unit_locals_5_47 : Environment
value_and_reference_unit_locals_5_47 = record { arguments = []; variables = (Some (record { of = (scalar scalars.Int); value = None }) ∷ []); object = None }

abbrev pub value_and_reference_unit_call_5_54 : Expression
value_and_reference_unit_call_5_54 = call (m 39 5 54) (functions (m 37 5 54) (codes "k") 2) (and_expression (literal (m 38 5 56) scalars.Int (pos 1)) no_expression)

abbrev pub value_and_reference_unit_locals_5_54 : Environment
value_and_reference_unit_locals_5_54 = record { arguments = []; variables = (Some (record { of = (scalar scalars.Int); value = None }) ∷ []); object = None }

-- int f(const int&) { return 1; }
-- int f(const long long&) { return 2; }
-- int k(const bool&) { return 1; }
-- int k(const long long&) { return 2; }
-- int g(bool b, int i, unsigned u) { return f(b) + f(i) + f(u) + k(i) + k(b); }
abbrev pub references_to_other_types_unit : Program
references_to_other_types_unit =
    unit
    (a_function (record { at = (p 1 5); name = (codes "f"); owner = None; is_template = false; template_parameters = ([]); constraints = ([]); parameters = (parameter (reference_type (m 1 1 7) (const_type (m 1 1 7) (scalar_type (m 1 1 7) scalars.Int))) 0 false ∷ []); result = (scalar_type (m 0 1 1) scalars.Int); is_const = false; is_constexpr = false; body = Some (block (m 4 1 19) (and_statement (return_statement (m 3 1 21) (Some (literal (m 2 1 28) scalars.Int (pos 1)))) no_statement)) })
    ∷ a_function (record { at = (p 2 5); name = (codes "f"); owner = None; is_template = false; template_parameters = ([]); constraints = ([]); parameters = (parameter (reference_type (m 6 2 7) (const_type (m 6 2 7) (scalar_type (m 6 2 7) scalars.LongLong))) 0 false ∷ []); result = (scalar_type (m 5 2 1) scalars.Int); is_const = false; is_constexpr = false; body = Some (block (m 9 2 25) (and_statement (return_statement (m 8 2 27) (Some (literal (m 7 2 34) scalars.Int (pos 2)))) no_statement)) })
    ∷ a_function (record { at = (p 3 5); name = (codes "k"); owner = None; is_template = false; template_parameters = ([]); constraints = ([]); parameters = (parameter (reference_type (m 11 3 7) (const_type (m 11 3 7) (scalar_type (m 11 3 7) scalars.Bool))) 0 false ∷ []); result = (scalar_type (m 10 3 1) scalars.Int); is_const = false; is_constexpr = false; body = Some (block (m 14 3 20) (and_statement (return_statement (m 13 3 22) (Some (literal (m 12 3 29) scalars.Int (pos 1)))) no_statement)) })
    ∷ a_function (record { at = (p 4 5); name = (codes "k"); owner = None; is_template = false; template_parameters = ([]); constraints = ([]); parameters = (parameter (reference_type (m 16 4 7) (const_type (m 16 4 7) (scalar_type (m 16 4 7) scalars.LongLong))) 0 false ∷ []); result = (scalar_type (m 15 4 1) scalars.Int); is_const = false; is_constexpr = false; body = Some (block (m 19 4 25) (and_statement (return_statement (m 18 4 27) (Some (literal (m 17 4 34) scalars.Int (pos 2)))) no_statement)) })
    ∷ a_function (record { at = (p 5 5); name = (codes "g"); owner = None; is_template = false; template_parameters = ([]); constraints = ([]); parameters = (parameter (scalar_type (m 21 5 7) scalars.Bool) 0 true ∷ parameter (scalar_type (m 22 5 15) scalars.Int) 1 true ∷ parameter (scalar_type (m 23 5 22) scalars.Unsigned) 2 true ∷ []); result = (scalar_type (m 20 5 1) scalars.Int); is_const = false; is_constexpr = false; body = Some (block (m 44 5 34) (and_statement (return_statement (m 43 5 36) (Some (binary (m 42 5 43) word.Plus (binary (m 38 5 43) word.Plus (binary (m 34 5 43) word.Plus (binary (m 30 5 43) word.Plus (call (m 26 5 43) (functions (m 24 5 43) (codes "f") 2) (and_expression (local_name (m 25 5 45) 0) no_expression)) (call (m 29 5 50) (functions (m 27 5 50) (codes "f") 2) (and_expression (local_name (m 28 5 52) 1) no_expression))) (call (m 33 5 57) (functions (m 31 5 57) (codes "f") 2) (and_expression (local_name (m 32 5 59) 2) no_expression))) (call (m 37 5 64) (functions (m 35 5 64) (codes "k") 2) (and_expression (local_name (m 36 5 66) 1) no_expression))) (call (m 41 5 71) (functions (m 39 5 71) (codes "k") 2) (and_expression (local_name (m 40 5 73) 0) no_expression))))) no_statement)) })
    ∷ [])
    (((codes "f"), ((d 0) ∷ (d 1) ∷ [])) ∷ ((codes "k"), ((d 2) ∷ (d 3) ∷ [])) ∷ ((codes "g"), ((d 4) ∷ [])) ∷ [])
    ([])
    ([])
    (around 0 ([]) false ∷ [])
    ([])

abbrev pub references_to_other_types_unit_call_5_43 : Expression
references_to_other_types_unit_call_5_43 = call (m 26 5 43) (functions (m 24 5 43) (codes "f") 2) (and_expression (local_name (m 25 5 45) 0) no_expression)

abbrev pub references_to_other_types_unit_locals_5_43 : Environment
references_to_other_types_unit_locals_5_43 = record { arguments = []; variables = (Some (record { of = (scalar scalars.Bool); value = None }) ∷ Some (record { of = (scalar scalars.Int); value = None }) ∷ Some (record { of = (scalar scalars.Unsigned); value = None }) ∷ []); object = None }

abbrev pub references_to_other_types_unit_call_5_50 : Expression
references_to_other_types_unit_call_5_50 = call (m 29 5 50) (functions (m 27 5 50) (codes "f") 2) (and_expression (local_name (m 28 5 52) 1) no_expression)

abbrev pub references_to_other_types_unit_locals_5_50 : Environment
references_to_other_types_unit_locals_5_50 = record { arguments = []; variables = (Some (record { of = (scalar scalars.Bool); value = None }) ∷ Some (record { of = (scalar scalars.Int); value = None }) ∷ Some (record { of = (scalar scalars.Unsigned); value = None }) ∷ []); object = None }

abbrev pub references_to_other_types_unit_call_5_57 : Expression
references_to_other_types_unit_call_5_57 = call (m 33 5 57) (functions (m 31 5 57) (codes "f") 2) (and_expression (local_name (m 32 5 59) 2) no_expression)

abbrev pub references_to_other_types_unit_locals_5_57 : Environment
references_to_other_types_unit_locals_5_57 = record { arguments = []; variables = (Some (record { of = (scalar scalars.Bool); value = None }) ∷ Some (record { of = (scalar scalars.Int); value = None }) ∷ Some (record { of = (scalar scalars.Unsigned); value = None }) ∷ []); object = None }

abbrev pub references_to_other_types_unit_call_5_64 : Expression
references_to_other_types_unit_call_5_64 = call (m 37 5 64) (functions (m 35 5 64) (codes "k") 2) (and_expression (local_name (m 36 5 66) 1) no_expression)

abbrev pub references_to_other_types_unit_locals_5_64 : Environment
references_to_other_types_unit_locals_5_64 = record { arguments = []; variables = (Some (record { of = (scalar scalars.Bool); value = None }) ∷ Some (record { of = (scalar scalars.Int); value = None }) ∷ Some (record { of = (scalar scalars.Unsigned); value = None }) ∷ []); object = None }

abbrev pub references_to_other_types_unit_call_5_71 : Expression
references_to_other_types_unit_call_5_71 = call (m 41 5 71) (functions (m 39 5 71) (codes "k") 2) (and_expression (local_name (m 40 5 73) 0) no_expression)

abbrev pub references_to_other_types_unit_locals_5_71 : Environment
references_to_other_types_unit_locals_5_71 = record { arguments = []; variables = (Some (record { of = (scalar scalars.Bool); value = None }) ∷ Some (record { of = (scalar scalars.Int); value = None }) ∷ Some (record { of = (scalar scalars.Unsigned); value = None }) ∷ []); object = None }

-- int f(int, bool) { return 1; }
-- int f(bool, int) { return 2; }
-- int f(int, long long) { return 3; }
-- int f(int) { return 4; }
-- int g() { return f(1, 1) + f(1, true) + f(true, 1) + f(1, 1ll) + f(1) + f(1, 2, 3); }
abbrev pub several_arguments_unit : Program
several_arguments_unit =
    unit
    (a_function (record { at = (p 1 5); name = (codes "f"); owner = None; is_template = false; template_parameters = ([]); constraints = ([]); parameters = (parameter (scalar_type (m 1 1 7) scalars.Int) 0 false ∷ parameter (scalar_type (m 2 1 12) scalars.Bool) 1 false ∷ []); result = (scalar_type (m 0 1 1) scalars.Int); is_const = false; is_constexpr = false; body = Some (block (m 5 1 18) (and_statement (return_statement (m 4 1 20) (Some (literal (m 3 1 27) scalars.Int (pos 1)))) no_statement)) })
    ∷ a_function (record { at = (p 2 5); name = (codes "f"); owner = None; is_template = false; template_parameters = ([]); constraints = ([]); parameters = (parameter (scalar_type (m 7 2 7) scalars.Bool) 0 false ∷ parameter (scalar_type (m 8 2 13) scalars.Int) 1 false ∷ []); result = (scalar_type (m 6 2 1) scalars.Int); is_const = false; is_constexpr = false; body = Some (block (m 11 2 18) (and_statement (return_statement (m 10 2 20) (Some (literal (m 9 2 27) scalars.Int (pos 2)))) no_statement)) })
    ∷ a_function (record { at = (p 3 5); name = (codes "f"); owner = None; is_template = false; template_parameters = ([]); constraints = ([]); parameters = (parameter (scalar_type (m 13 3 7) scalars.Int) 0 false ∷ parameter (scalar_type (m 14 3 12) scalars.LongLong) 1 false ∷ []); result = (scalar_type (m 12 3 1) scalars.Int); is_const = false; is_constexpr = false; body = Some (block (m 17 3 23) (and_statement (return_statement (m 16 3 25) (Some (literal (m 15 3 32) scalars.Int (pos 3)))) no_statement)) })
    ∷ a_function (record { at = (p 4 5); name = (codes "f"); owner = None; is_template = false; template_parameters = ([]); constraints = ([]); parameters = (parameter (scalar_type (m 19 4 7) scalars.Int) 0 false ∷ []); result = (scalar_type (m 18 4 1) scalars.Int); is_const = false; is_constexpr = false; body = Some (block (m 22 4 12) (and_statement (return_statement (m 21 4 14) (Some (literal (m 20 4 21) scalars.Int (pos 4)))) no_statement)) })
    ∷ a_function (record { at = (p 5 5); name = (codes "g"); owner = None; is_template = false; template_parameters = ([]); constraints = ([]); parameters = ([]); result = (scalar_type (m 23 5 1) scalars.Int); is_const = false; is_constexpr = false; body = Some (block (m 54 5 9) (and_statement (return_statement (m 53 5 11) (Some (binary (m 52 5 18) word.Plus (binary (m 46 5 18) word.Plus (binary (m 42 5 18) word.Plus (binary (m 37 5 18) word.Plus (binary (m 32 5 18) word.Plus (call (m 27 5 18) (functions (m 24 5 18) (codes "f") 4) (and_expression (literal (m 25 5 20) scalars.Int (pos 1)) (and_expression (literal (m 26 5 23) scalars.Int (pos 1)) no_expression))) (call (m 31 5 28) (functions (m 28 5 28) (codes "f") 4) (and_expression (literal (m 29 5 30) scalars.Int (pos 1)) (and_expression (literal (m 30 5 33) scalars.Bool (pos 1)) no_expression)))) (call (m 36 5 41) (functions (m 33 5 41) (codes "f") 4) (and_expression (literal (m 34 5 43) scalars.Bool (pos 1)) (and_expression (literal (m 35 5 49) scalars.Int (pos 1)) no_expression)))) (call (m 41 5 54) (functions (m 38 5 54) (codes "f") 4) (and_expression (literal (m 39 5 56) scalars.Int (pos 1)) (and_expression (literal (m 40 5 59) scalars.LongLong (pos 1)) no_expression)))) (call (m 45 5 66) (functions (m 43 5 66) (codes "f") 4) (and_expression (literal (m 44 5 68) scalars.Int (pos 1)) no_expression))) (call (m 51 5 73) (functions (m 47 5 73) (codes "f") 4) (and_expression (literal (m 48 5 75) scalars.Int (pos 1)) (and_expression (literal (m 49 5 78) scalars.Int (pos 2)) (and_expression (literal (m 50 5 81) scalars.Int (pos 3)) no_expression))))))) no_statement)) })
    ∷ [])
    (((codes "f"), ((d 0) ∷ (d 1) ∷ (d 2) ∷ (d 3) ∷ [])) ∷ ((codes "g"), ((d 4) ∷ [])) ∷ [])
    ([])
    ([])
    (around 0 ([]) false ∷ [])
    ([])

abbrev pub several_arguments_unit_call_5_18 : Expression
several_arguments_unit_call_5_18 = call (m 27 5 18) (functions (m 24 5 18) (codes "f") 4) (and_expression (literal (m 25 5 20) scalars.Int (pos 1)) (and_expression (literal (m 26 5 23) scalars.Int (pos 1)) no_expression))

abbrev pub several_arguments_unit_call_5_28 : Expression
several_arguments_unit_call_5_28 = call (m 31 5 28) (functions (m 28 5 28) (codes "f") 4) (and_expression (literal (m 29 5 30) scalars.Int (pos 1)) (and_expression (literal (m 30 5 33) scalars.Bool (pos 1)) no_expression))

abbrev pub several_arguments_unit_call_5_41 : Expression
several_arguments_unit_call_5_41 = call (m 36 5 41) (functions (m 33 5 41) (codes "f") 4) (and_expression (literal (m 34 5 43) scalars.Bool (pos 1)) (and_expression (literal (m 35 5 49) scalars.Int (pos 1)) no_expression))

abbrev pub several_arguments_unit_call_5_54 : Expression
several_arguments_unit_call_5_54 = call (m 41 5 54) (functions (m 38 5 54) (codes "f") 4) (and_expression (literal (m 39 5 56) scalars.Int (pos 1)) (and_expression (literal (m 40 5 59) scalars.LongLong (pos 1)) no_expression))

abbrev pub several_arguments_unit_call_5_66 : Expression
several_arguments_unit_call_5_66 = call (m 45 5 66) (functions (m 43 5 66) (codes "f") 4) (and_expression (literal (m 44 5 68) scalars.Int (pos 1)) no_expression)

abbrev pub several_arguments_unit_call_5_73 : Expression
several_arguments_unit_call_5_73 = call (m 51 5 73) (functions (m 47 5 73) (codes "f") 4) (and_expression (literal (m 48 5 75) scalars.Int (pos 1)) (and_expression (literal (m 49 5 78) scalars.Int (pos 2)) (and_expression (literal (m 50 5 81) scalars.Int (pos 3)) no_expression)))

-- struct S { int x; };
-- struct R { int x; };
-- int f(S) { return 1; }
-- int f(R) { return 2; }
-- int f(bool) { return 3; }
-- int g(S s, const S c, R& r, int i) { return f(s) + f(c) + f(r) + f(i) + f(S{1}); }
abbrev pub structs_unit : Program
structs_unit =
    unit
    (a_struct (record { at = (p 1 8); itself = (struct (d 0)); is_template = false; template_parameters = ([]); constraints = ([]); primary = None; specialised_for = ([]); members = (field (codes "x") (scalar_type (m 0 1 12) scalars.Int) ∷ []) })
    ∷ a_field 0 (scalar_type (m 0 1 12) scalars.Int)
    ∷ a_struct (record { at = (p 2 8); itself = (struct (d 2)); is_template = false; template_parameters = ([]); constraints = ([]); primary = None; specialised_for = ([]); members = (field (codes "x") (scalar_type (m 1 2 12) scalars.Int) ∷ []) })
    ∷ a_field 0 (scalar_type (m 1 2 12) scalars.Int)
    ∷ a_function (record { at = (p 3 5); name = (codes "f"); owner = None; is_template = false; template_parameters = ([]); constraints = ([]); parameters = (parameter (struct_type (m 3 3 7) (d 0)) 0 false ∷ []); result = (scalar_type (m 2 3 1) scalars.Int); is_const = false; is_constexpr = false; body = Some (block (m 6 3 10) (and_statement (return_statement (m 5 3 12) (Some (literal (m 4 3 19) scalars.Int (pos 1)))) no_statement)) })
    ∷ a_function (record { at = (p 4 5); name = (codes "f"); owner = None; is_template = false; template_parameters = ([]); constraints = ([]); parameters = (parameter (struct_type (m 8 4 7) (d 2)) 0 false ∷ []); result = (scalar_type (m 7 4 1) scalars.Int); is_const = false; is_constexpr = false; body = Some (block (m 11 4 10) (and_statement (return_statement (m 10 4 12) (Some (literal (m 9 4 19) scalars.Int (pos 2)))) no_statement)) })
    ∷ a_function (record { at = (p 5 5); name = (codes "f"); owner = None; is_template = false; template_parameters = ([]); constraints = ([]); parameters = (parameter (scalar_type (m 13 5 7) scalars.Bool) 0 false ∷ []); result = (scalar_type (m 12 5 1) scalars.Int); is_const = false; is_constexpr = false; body = Some (block (m 16 5 13) (and_statement (return_statement (m 15 5 15) (Some (literal (m 14 5 22) scalars.Int (pos 3)))) no_statement)) })
    ∷ a_function (record { at = (p 6 5); name = (codes "g"); owner = None; is_template = false; template_parameters = ([]); constraints = ([]); parameters = (parameter (struct_type (m 18 6 7) (d 0)) 0 true ∷ parameter (const_type (m 19 6 12) (struct_type (m 19 6 12) (d 0))) 1 true ∷ parameter (reference_type (m 20 6 23) (struct_type (m 20 6 23) (d 2))) 2 true ∷ parameter (scalar_type (m 21 6 29) scalars.Int) 3 true ∷ []); result = (scalar_type (m 17 6 1) scalars.Int); is_const = false; is_constexpr = false; body = Some (block (m 44 6 36) (and_statement (return_statement (m 43 6 38) (Some (binary (m 42 6 45) word.Plus (binary (m 36 6 45) word.Plus (binary (m 32 6 45) word.Plus (binary (m 28 6 45) word.Plus (call (m 24 6 45) (functions (m 22 6 45) (codes "f") 3) (and_expression (local_name (m 23 6 47) 0) no_expression)) (call (m 27 6 52) (functions (m 25 6 52) (codes "f") 3) (and_expression (local_name (m 26 6 54) 1) no_expression))) (call (m 31 6 59) (functions (m 29 6 59) (codes "f") 3) (and_expression (local_name (m 30 6 61) 2) no_expression))) (call (m 35 6 66) (functions (m 33 6 66) (codes "f") 3) (and_expression (local_name (m 34 6 68) 3) no_expression))) (call (m 41 6 73) (functions (m 37 6 73) (codes "f") 3) (and_expression (list (m 40 6 75) (struct_type (m 38 6 75) (d 0)) (and_expression (literal (m 39 6 77) scalars.Int (pos 1)) no_expression)) no_expression))))) no_statement)) })
    ∷ [])
    (((codes "f"), ((d 4) ∷ (d 5) ∷ (d 6) ∷ [])) ∷ ((codes "g"), ((d 7) ∷ [])) ∷ [])
    ([])
    ([])
    (around 0 ([]) false ∷ [])
    ([])

abbrev pub structs_unit_call_6_45 : Expression
structs_unit_call_6_45 = call (m 24 6 45) (functions (m 22 6 45) (codes "f") 3) (and_expression (local_name (m 23 6 47) 0) no_expression)

abbrev pub structs_unit_locals_6_45 : Environment
structs_unit_locals_6_45 = record { arguments = []; variables = (Some (record { of = (struct (d 0)); value = None }) ∷ Some (record { of = (const (struct (d 0))); value = None }) ∷ Some (record { of = (ref (struct (d 2))); value = None }) ∷ Some (record { of = (scalar scalars.Int); value = None }) ∷ []); object = None }

abbrev pub structs_unit_call_6_52 : Expression
structs_unit_call_6_52 = call (m 27 6 52) (functions (m 25 6 52) (codes "f") 3) (and_expression (local_name (m 26 6 54) 1) no_expression)

abbrev pub structs_unit_locals_6_52 : Environment
structs_unit_locals_6_52 = record { arguments = []; variables = (Some (record { of = (struct (d 0)); value = None }) ∷ Some (record { of = (const (struct (d 0))); value = None }) ∷ Some (record { of = (ref (struct (d 2))); value = None }) ∷ Some (record { of = (scalar scalars.Int); value = None }) ∷ []); object = None }

abbrev pub structs_unit_call_6_59 : Expression
structs_unit_call_6_59 = call (m 31 6 59) (functions (m 29 6 59) (codes "f") 3) (and_expression (local_name (m 30 6 61) 2) no_expression)

abbrev pub structs_unit_locals_6_59 : Environment
structs_unit_locals_6_59 = record { arguments = []; variables = (Some (record { of = (struct (d 0)); value = None }) ∷ Some (record { of = (const (struct (d 0))); value = None }) ∷ Some (record { of = (ref (struct (d 2))); value = None }) ∷ Some (record { of = (scalar scalars.Int); value = None }) ∷ []); object = None }

abbrev pub structs_unit_call_6_66 : Expression
structs_unit_call_6_66 = call (m 35 6 66) (functions (m 33 6 66) (codes "f") 3) (and_expression (local_name (m 34 6 68) 3) no_expression)

abbrev pub structs_unit_locals_6_66 : Environment
structs_unit_locals_6_66 = record { arguments = []; variables = (Some (record { of = (struct (d 0)); value = None }) ∷ Some (record { of = (const (struct (d 0))); value = None }) ∷ Some (record { of = (ref (struct (d 2))); value = None }) ∷ Some (record { of = (scalar scalars.Int); value = None }) ∷ []); object = None }

abbrev pub structs_unit_call_6_73 : Expression
structs_unit_call_6_73 = call (m 41 6 73) (functions (m 37 6 73) (codes "f") 3) (and_expression (list (m 40 6 75) (struct_type (m 38 6 75) (d 0)) (and_expression (literal (m 39 6 77) scalars.Int (pos 1)) no_expression)) no_expression)

abbrev pub structs_unit_locals_6_73 : Environment
structs_unit_locals_6_73 = record { arguments = []; variables = (Some (record { of = (struct (d 0)); value = None }) ∷ Some (record { of = (const (struct (d 0))); value = None }) ∷ Some (record { of = (ref (struct (d 2))); value = None }) ∷ Some (record { of = (scalar scalars.Int); value = None }) ∷ []); object = None }

-- struct S {
--   int x;
--   int f() { return 1; }
--   int f() const { return 2; }
--   int only() { return 1; }
--   int here() { return f(); }
--   int there() const { return f(); }
--   int wrong() const { return only(); }
--   int two(int) { return 1; }
--   int two(bool) const { return 2; }
-- };
-- struct O { S s; };
-- int g(S s, const S c, S& r, const S& k) {
--   s.f();
--   c.f();
--   r.f();
--   k.f();
--   S{}.f();
--   O{}.s.f();
--   s.only();
--   c.only();
--   S{}.only();
--   s.two(1);
--   s.two(true);
--   c.two(1);
--   return S{}.two(true);
-- }
abbrev pub objects_unit : Program
objects_unit =
    unit
    (a_struct (record { at = (p 1 8); itself = (struct (d 0)); is_template = false; template_parameters = ([]); constraints = ([]); primary = None; specialised_for = ([]); members = (field (codes "x") (scalar_type (m 0 2 3) scalars.Int) ∷ member_function (codes "f") (d 2) ∷ member_function (codes "f") (d 3) ∷ member_function (codes "only") (d 4) ∷ member_function (codes "here") (d 5) ∷ member_function (codes "there") (d 6) ∷ member_function (codes "wrong") (d 7) ∷ member_function (codes "two") (d 8) ∷ member_function (codes "two") (d 9) ∷ []) })
    ∷ a_field 0 (scalar_type (m 0 2 3) scalars.Int)
    ∷ a_function (record { at = (p 3 7); name = (codes "f"); owner = (Some (d 0)); is_template = false; template_parameters = ([]); constraints = ([]); parameters = ([]); result = (scalar_type (m 1 3 3) scalars.Int); is_const = false; is_constexpr = false; body = Some (block (m 13 3 11) (and_statement (return_statement (m 12 3 13) (Some (literal (m 11 3 20) scalars.Int (pos 1)))) no_statement)) })
    ∷ a_function (record { at = (p 4 7); name = (codes "f"); owner = (Some (d 0)); is_template = false; template_parameters = ([]); constraints = ([]); parameters = ([]); result = (scalar_type (m 2 4 3) scalars.Int); is_const = true; is_constexpr = false; body = Some (block (m 16 4 17) (and_statement (return_statement (m 15 4 19) (Some (literal (m 14 4 26) scalars.Int (pos 2)))) no_statement)) })
    ∷ a_function (record { at = (p 5 7); name = (codes "only"); owner = (Some (d 0)); is_template = false; template_parameters = ([]); constraints = ([]); parameters = ([]); result = (scalar_type (m 3 5 3) scalars.Int); is_const = false; is_constexpr = false; body = Some (block (m 19 5 14) (and_statement (return_statement (m 18 5 16) (Some (literal (m 17 5 23) scalars.Int (pos 1)))) no_statement)) })
    ∷ a_function (record { at = (p 6 7); name = (codes "here"); owner = (Some (d 0)); is_template = false; template_parameters = ([]); constraints = ([]); parameters = ([]); result = (scalar_type (m 4 6 3) scalars.Int); is_const = false; is_constexpr = false; body = Some (block (m 23 6 14) (and_statement (return_statement (m 22 6 16) (Some (call (m 21 6 23) (own_functions (m 20 6 23) (codes "f")) no_expression))) no_statement)) })
    ∷ a_function (record { at = (p 7 7); name = (codes "there"); owner = (Some (d 0)); is_template = false; template_parameters = ([]); constraints = ([]); parameters = ([]); result = (scalar_type (m 5 7 3) scalars.Int); is_const = true; is_constexpr = false; body = Some (block (m 27 7 21) (and_statement (return_statement (m 26 7 23) (Some (call (m 25 7 30) (own_functions (m 24 7 30) (codes "f")) no_expression))) no_statement)) })
    ∷ a_function (record { at = (p 8 7); name = (codes "wrong"); owner = (Some (d 0)); is_template = false; template_parameters = ([]); constraints = ([]); parameters = ([]); result = (scalar_type (m 6 8 3) scalars.Int); is_const = true; is_constexpr = false; body = Some (block (m 31 8 21) (and_statement (return_statement (m 30 8 23) (Some (call (m 29 8 30) (own_functions (m 28 8 30) (codes "only")) no_expression))) no_statement)) })
    ∷ a_function (record { at = (p 9 7); name = (codes "two"); owner = (Some (d 0)); is_template = false; template_parameters = ([]); constraints = ([]); parameters = (parameter (scalar_type (m 8 9 11) scalars.Int) 0 false ∷ []); result = (scalar_type (m 7 9 3) scalars.Int); is_const = false; is_constexpr = false; body = Some (block (m 34 9 16) (and_statement (return_statement (m 33 9 18) (Some (literal (m 32 9 25) scalars.Int (pos 1)))) no_statement)) })
    ∷ a_function (record { at = (p 10 7); name = (codes "two"); owner = (Some (d 0)); is_template = false; template_parameters = ([]); constraints = ([]); parameters = (parameter (scalar_type (m 10 10 11) scalars.Bool) 0 false ∷ []); result = (scalar_type (m 9 10 3) scalars.Int); is_const = true; is_constexpr = false; body = Some (block (m 37 10 23) (and_statement (return_statement (m 36 10 25) (Some (literal (m 35 10 32) scalars.Int (pos 2)))) no_statement)) })
    ∷ a_struct (record { at = (p 12 8); itself = (struct (d 10)); is_template = false; template_parameters = ([]); constraints = ([]); primary = None; specialised_for = ([]); members = (field (codes "s") (struct_type (m 38 12 12) (d 0)) ∷ []) })
    ∷ a_field 0 (struct_type (m 38 12 12) (d 0))
    ∷ a_function (record { at = (p 13 5); name = (codes "g"); owner = None; is_template = false; template_parameters = ([]); constraints = ([]); parameters = (parameter (struct_type (m 40 13 7) (d 0)) 0 true ∷ parameter (const_type (m 41 13 12) (struct_type (m 41 13 12) (d 0))) 1 true ∷ parameter (reference_type (m 42 13 23) (struct_type (m 42 13 23) (d 0))) 2 true ∷ parameter (reference_type (m 43 13 29) (const_type (m 43 13 29) (struct_type (m 43 13 29) (d 0)))) 3 true ∷ []); result = (scalar_type (m 39 13 1) scalars.Int); is_const = false; is_constexpr = false; body = Some (block (m 105 13 41) (and_statement (expression_statement (m 47 14 3) (call (m 46 14 3) (object_functions (m 45 14 3) (local_name (m 44 14 3) 0) (codes "f")) no_expression)) (and_statement (expression_statement (m 51 15 3) (call (m 50 15 3) (object_functions (m 49 15 3) (local_name (m 48 15 3) 1) (codes "f")) no_expression)) (and_statement (expression_statement (m 55 16 3) (call (m 54 16 3) (object_functions (m 53 16 3) (local_name (m 52 16 3) 2) (codes "f")) no_expression)) (and_statement (expression_statement (m 59 17 3) (call (m 58 17 3) (object_functions (m 57 17 3) (local_name (m 56 17 3) 3) (codes "f")) no_expression)) (and_statement (expression_statement (m 64 18 3) (call (m 63 18 3) (object_functions (m 62 18 3) (list (m 61 18 3) (struct_type (m 60 18 3) (d 0)) no_expression) (codes "f")) no_expression)) (and_statement (expression_statement (m 70 19 3) (call (m 69 19 3) (object_functions (m 68 19 3) (dot (m 67 19 3) (list (m 66 19 3) (struct_type (m 65 19 3) (d 10)) no_expression) (codes "s")) (codes "f")) no_expression)) (and_statement (expression_statement (m 74 20 3) (call (m 73 20 3) (object_functions (m 72 20 3) (local_name (m 71 20 3) 0) (codes "only")) no_expression)) (and_statement (expression_statement (m 78 21 3) (call (m 77 21 3) (object_functions (m 76 21 3) (local_name (m 75 21 3) 1) (codes "only")) no_expression)) (and_statement (expression_statement (m 83 22 3) (call (m 82 22 3) (object_functions (m 81 22 3) (list (m 80 22 3) (struct_type (m 79 22 3) (d 0)) no_expression) (codes "only")) no_expression)) (and_statement (expression_statement (m 88 23 3) (call (m 87 23 3) (object_functions (m 85 23 3) (local_name (m 84 23 3) 0) (codes "two")) (and_expression (literal (m 86 23 9) scalars.Int (pos 1)) no_expression))) (and_statement (expression_statement (m 93 24 3) (call (m 92 24 3) (object_functions (m 90 24 3) (local_name (m 89 24 3) 0) (codes "two")) (and_expression (literal (m 91 24 9) scalars.Bool (pos 1)) no_expression))) (and_statement (expression_statement (m 98 25 3) (call (m 97 25 3) (object_functions (m 95 25 3) (local_name (m 94 25 3) 1) (codes "two")) (and_expression (literal (m 96 25 9) scalars.Int (pos 1)) no_expression))) (and_statement (return_statement (m 104 26 3) (Some (call (m 103 26 10) (object_functions (m 101 26 10) (list (m 100 26 10) (struct_type (m 99 26 10) (d 0)) no_expression) (codes "two")) (and_expression (literal (m 102 26 18) scalars.Bool (pos 1)) no_expression)))) no_statement)))))))))))))) })
    ∷ [])
    (((codes "g"), ((d 12) ∷ [])) ∷ [])
    ([])
    ([])
    (around 0 ([]) false ∷ [])
    ([])

abbrev pub objects_unit_call_6_23 : Expression
objects_unit_call_6_23 = call (m 21 6 23) (own_functions (m 20 6 23) (codes "f")) no_expression

abbrev pub objects_unit_call_7_30 : Expression
objects_unit_call_7_30 = call (m 25 7 30) (own_functions (m 24 7 30) (codes "f")) no_expression

abbrev pub objects_unit_call_8_30 : Expression
objects_unit_call_8_30 = call (m 29 8 30) (own_functions (m 28 8 30) (codes "only")) no_expression

abbrev pub objects_unit_call_14_3 : Expression
objects_unit_call_14_3 = call (m 46 14 3) (object_functions (m 45 14 3) (local_name (m 44 14 3) 0) (codes "f")) no_expression

abbrev pub objects_unit_locals_14_3 : Environment
objects_unit_locals_14_3 = record { arguments = []; variables = (Some (record { of = (struct (d 0)); value = None }) ∷ Some (record { of = (const (struct (d 0))); value = None }) ∷ Some (record { of = (ref (struct (d 0))); value = None }) ∷ Some (record { of = (ref (const (struct (d 0)))); value = None }) ∷ []); object = None }

abbrev pub objects_unit_call_15_3 : Expression
objects_unit_call_15_3 = call (m 50 15 3) (object_functions (m 49 15 3) (local_name (m 48 15 3) 1) (codes "f")) no_expression

abbrev pub objects_unit_locals_15_3 : Environment
objects_unit_locals_15_3 = record { arguments = []; variables = (Some (record { of = (struct (d 0)); value = None }) ∷ Some (record { of = (const (struct (d 0))); value = None }) ∷ Some (record { of = (ref (struct (d 0))); value = None }) ∷ Some (record { of = (ref (const (struct (d 0)))); value = None }) ∷ []); object = None }

abbrev pub objects_unit_call_16_3 : Expression
objects_unit_call_16_3 = call (m 54 16 3) (object_functions (m 53 16 3) (local_name (m 52 16 3) 2) (codes "f")) no_expression

abbrev pub objects_unit_locals_16_3 : Environment
objects_unit_locals_16_3 = record { arguments = []; variables = (Some (record { of = (struct (d 0)); value = None }) ∷ Some (record { of = (const (struct (d 0))); value = None }) ∷ Some (record { of = (ref (struct (d 0))); value = None }) ∷ Some (record { of = (ref (const (struct (d 0)))); value = None }) ∷ []); object = None }

abbrev pub objects_unit_call_17_3 : Expression
objects_unit_call_17_3 = call (m 58 17 3) (object_functions (m 57 17 3) (local_name (m 56 17 3) 3) (codes "f")) no_expression

abbrev pub objects_unit_locals_17_3 : Environment
objects_unit_locals_17_3 = record { arguments = []; variables = (Some (record { of = (struct (d 0)); value = None }) ∷ Some (record { of = (const (struct (d 0))); value = None }) ∷ Some (record { of = (ref (struct (d 0))); value = None }) ∷ Some (record { of = (ref (const (struct (d 0)))); value = None }) ∷ []); object = None }

abbrev pub objects_unit_call_18_3 : Expression
objects_unit_call_18_3 = call (m 63 18 3) (object_functions (m 62 18 3) (list (m 61 18 3) (struct_type (m 60 18 3) (d 0)) no_expression) (codes "f")) no_expression

abbrev pub objects_unit_locals_18_3 : Environment
objects_unit_locals_18_3 = record { arguments = []; variables = (Some (record { of = (struct (d 0)); value = None }) ∷ Some (record { of = (const (struct (d 0))); value = None }) ∷ Some (record { of = (ref (struct (d 0))); value = None }) ∷ Some (record { of = (ref (const (struct (d 0)))); value = None }) ∷ []); object = None }

abbrev pub objects_unit_call_19_3 : Expression
objects_unit_call_19_3 = call (m 69 19 3) (object_functions (m 68 19 3) (dot (m 67 19 3) (list (m 66 19 3) (struct_type (m 65 19 3) (d 10)) no_expression) (codes "s")) (codes "f")) no_expression

abbrev pub objects_unit_locals_19_3 : Environment
objects_unit_locals_19_3 = record { arguments = []; variables = (Some (record { of = (struct (d 0)); value = None }) ∷ Some (record { of = (const (struct (d 0))); value = None }) ∷ Some (record { of = (ref (struct (d 0))); value = None }) ∷ Some (record { of = (ref (const (struct (d 0)))); value = None }) ∷ []); object = None }

abbrev pub objects_unit_call_20_3 : Expression
objects_unit_call_20_3 = call (m 73 20 3) (object_functions (m 72 20 3) (local_name (m 71 20 3) 0) (codes "only")) no_expression

abbrev pub objects_unit_locals_20_3 : Environment
objects_unit_locals_20_3 = record { arguments = []; variables = (Some (record { of = (struct (d 0)); value = None }) ∷ Some (record { of = (const (struct (d 0))); value = None }) ∷ Some (record { of = (ref (struct (d 0))); value = None }) ∷ Some (record { of = (ref (const (struct (d 0)))); value = None }) ∷ []); object = None }

abbrev pub objects_unit_call_21_3 : Expression
objects_unit_call_21_3 = call (m 77 21 3) (object_functions (m 76 21 3) (local_name (m 75 21 3) 1) (codes "only")) no_expression

abbrev pub objects_unit_locals_21_3 : Environment
objects_unit_locals_21_3 = record { arguments = []; variables = (Some (record { of = (struct (d 0)); value = None }) ∷ Some (record { of = (const (struct (d 0))); value = None }) ∷ Some (record { of = (ref (struct (d 0))); value = None }) ∷ Some (record { of = (ref (const (struct (d 0)))); value = None }) ∷ []); object = None }

abbrev pub objects_unit_call_22_3 : Expression
objects_unit_call_22_3 = call (m 82 22 3) (object_functions (m 81 22 3) (list (m 80 22 3) (struct_type (m 79 22 3) (d 0)) no_expression) (codes "only")) no_expression

abbrev pub objects_unit_locals_22_3 : Environment
objects_unit_locals_22_3 = record { arguments = []; variables = (Some (record { of = (struct (d 0)); value = None }) ∷ Some (record { of = (const (struct (d 0))); value = None }) ∷ Some (record { of = (ref (struct (d 0))); value = None }) ∷ Some (record { of = (ref (const (struct (d 0)))); value = None }) ∷ []); object = None }

abbrev pub objects_unit_call_23_3 : Expression
objects_unit_call_23_3 = call (m 87 23 3) (object_functions (m 85 23 3) (local_name (m 84 23 3) 0) (codes "two")) (and_expression (literal (m 86 23 9) scalars.Int (pos 1)) no_expression)

abbrev pub objects_unit_locals_23_3 : Environment
objects_unit_locals_23_3 = record { arguments = []; variables = (Some (record { of = (struct (d 0)); value = None }) ∷ Some (record { of = (const (struct (d 0))); value = None }) ∷ Some (record { of = (ref (struct (d 0))); value = None }) ∷ Some (record { of = (ref (const (struct (d 0)))); value = None }) ∷ []); object = None }

abbrev pub objects_unit_call_24_3 : Expression
objects_unit_call_24_3 = call (m 92 24 3) (object_functions (m 90 24 3) (local_name (m 89 24 3) 0) (codes "two")) (and_expression (literal (m 91 24 9) scalars.Bool (pos 1)) no_expression)

abbrev pub objects_unit_locals_24_3 : Environment
objects_unit_locals_24_3 = record { arguments = []; variables = (Some (record { of = (struct (d 0)); value = None }) ∷ Some (record { of = (const (struct (d 0))); value = None }) ∷ Some (record { of = (ref (struct (d 0))); value = None }) ∷ Some (record { of = (ref (const (struct (d 0)))); value = None }) ∷ []); object = None }

abbrev pub objects_unit_call_25_3 : Expression
objects_unit_call_25_3 = call (m 97 25 3) (object_functions (m 95 25 3) (local_name (m 94 25 3) 1) (codes "two")) (and_expression (literal (m 96 25 9) scalars.Int (pos 1)) no_expression)

abbrev pub objects_unit_locals_25_3 : Environment
objects_unit_locals_25_3 = record { arguments = []; variables = (Some (record { of = (struct (d 0)); value = None }) ∷ Some (record { of = (const (struct (d 0))); value = None }) ∷ Some (record { of = (ref (struct (d 0))); value = None }) ∷ Some (record { of = (ref (const (struct (d 0)))); value = None }) ∷ []); object = None }

abbrev pub objects_unit_call_26_10 : Expression
objects_unit_call_26_10 = call (m 103 26 10) (object_functions (m 101 26 10) (list (m 100 26 10) (struct_type (m 99 26 10) (d 0)) no_expression) (codes "two")) (and_expression (literal (m 102 26 18) scalars.Bool (pos 1)) no_expression)

abbrev pub objects_unit_locals_26_10 : Environment
objects_unit_locals_26_10 = record { arguments = []; variables = (Some (record { of = (struct (d 0)); value = None }) ∷ Some (record { of = (const (struct (d 0))); value = None }) ∷ Some (record { of = (ref (struct (d 0))); value = None }) ∷ Some (record { of = (ref (const (struct (d 0)))); value = None }) ∷ []); object = None }

-- template<typename T> int f(T&) { return 1; }
-- template<typename T> int f(const T&) { return 2; }
-- int g(int i, const int c) { return f(i) + f(c) + f(1); }
abbrev pub const_and_partial_ordering_unit : Program
const_and_partial_ordering_unit =
    unit
    (a_function (record { at = (p 1 26); name = (codes "f"); owner = None; is_template = true; template_parameters = (tp None None ∷ []); constraints = ([]); parameters = (parameter (reference_type (m 1 1 28) (position_type (m 1 1 28) 0)) 0 false ∷ []); result = (scalar_type (m 0 1 22) scalars.Int); is_const = false; is_constexpr = false; body = Some (block (m 4 1 32) (and_statement (return_statement (m 3 1 34) (Some (literal (m 2 1 41) scalars.Int (pos 1)))) no_statement)) })
    ∷ a_function (record { at = (p 2 26); name = (codes "f"); owner = None; is_template = true; template_parameters = (tp None None ∷ []); constraints = ([]); parameters = (parameter (reference_type (m 6 2 28) (const_type (m 6 2 28) (position_type (m 6 2 28) 0))) 0 false ∷ []); result = (scalar_type (m 5 2 22) scalars.Int); is_const = false; is_constexpr = false; body = Some (block (m 9 2 38) (and_statement (return_statement (m 8 2 40) (Some (literal (m 7 2 47) scalars.Int (pos 2)))) no_statement)) })
    ∷ a_function (record { at = (p 3 5); name = (codes "g"); owner = None; is_template = false; template_parameters = ([]); constraints = ([]); parameters = (parameter (scalar_type (m 11 3 7) scalars.Int) 0 true ∷ parameter (const_type (m 12 3 14) (scalar_type (m 12 3 14) scalars.Int)) 1 true ∷ []); result = (scalar_type (m 10 3 1) scalars.Int); is_const = false; is_constexpr = false; body = Some (block (m 25 3 27) (and_statement (return_statement (m 24 3 29) (Some (binary (m 23 3 36) word.Plus (binary (m 19 3 36) word.Plus (call (m 15 3 36) (functions (m 13 3 36) (codes "f") 2) (and_expression (local_name (m 14 3 38) 0) no_expression)) (call (m 18 3 43) (functions (m 16 3 43) (codes "f") 2) (and_expression (local_name (m 17 3 45) 1) no_expression))) (call (m 22 3 50) (functions (m 20 3 50) (codes "f") 2) (and_expression (literal (m 21 3 52) scalars.Int (pos 1)) no_expression))))) no_statement)) })
    ∷ [])
    (((codes "f"), ((d 0) ∷ (d 1) ∷ [])) ∷ ((codes "g"), ((d 2) ∷ [])) ∷ [])
    ([])
    ([])
    (around 0 (None ∷ []) true ∷ around 10 ([]) false ∷ [])
    ([])

abbrev pub const_and_partial_ordering_unit_call_3_36 : Expression
const_and_partial_ordering_unit_call_3_36 = call (m 15 3 36) (functions (m 13 3 36) (codes "f") 2) (and_expression (local_name (m 14 3 38) 0) no_expression)

abbrev pub const_and_partial_ordering_unit_locals_3_36 : Environment
const_and_partial_ordering_unit_locals_3_36 = record { arguments = []; variables = (Some (record { of = (scalar scalars.Int); value = None }) ∷ Some (record { of = (const (scalar scalars.Int)); value = None }) ∷ []); object = None }

abbrev pub const_and_partial_ordering_unit_call_3_43 : Expression
const_and_partial_ordering_unit_call_3_43 = call (m 18 3 43) (functions (m 16 3 43) (codes "f") 2) (and_expression (local_name (m 17 3 45) 1) no_expression)

abbrev pub const_and_partial_ordering_unit_locals_3_43 : Environment
const_and_partial_ordering_unit_locals_3_43 = record { arguments = []; variables = (Some (record { of = (scalar scalars.Int); value = None }) ∷ Some (record { of = (const (scalar scalars.Int)); value = None }) ∷ []); object = None }

abbrev pub const_and_partial_ordering_unit_call_3_50 : Expression
const_and_partial_ordering_unit_call_3_50 = call (m 22 3 50) (functions (m 20 3 50) (codes "f") 2) (and_expression (literal (m 21 3 52) scalars.Int (pos 1)) no_expression)

abbrev pub const_and_partial_ordering_unit_locals_3_50 : Environment
const_and_partial_ordering_unit_locals_3_50 = record { arguments = []; variables = (Some (record { of = (scalar scalars.Int); value = None }) ∷ Some (record { of = (const (scalar scalars.Int)); value = None }) ∷ []); object = None }

-- template<typename T> struct Box { T v; };
-- template<typename T> int f(T&) { return 1; }
-- template<typename T> int f(Box<T>) { return 2; }
-- int f(const Box<int>&) { return 3; }
-- template<typename T> int a(T&) { return 1; }
-- template<typename T> int a(Box<T>) { return 2; }
-- template<typename T> int b(Box<T>) { return 2; }
-- int b(const Box<int>&) { return 3; }
-- template<typename T> int c(T&) { return 1; }
-- int c(const Box<int>&) { return 3; }
-- int g(Box<int> x) { return f(x) + a(x) + b(x) + c(x); }
abbrev pub circle_unit : Program
circle_unit =
    unit
    (a_struct (record { at = (p 1 29); itself = (inst (d 0) (arguments ((param 0) ∷ []))); is_template = true; template_parameters = (tp None None ∷ []); constraints = ([]); primary = None; specialised_for = ([]); members = (field (codes "v") (position_type (m 0 1 35) 0) ∷ []) })
    ∷ a_field 0 (position_type (m 0 1 35) 0)
    ∷ a_function (record { at = (p 2 26); name = (codes "f"); owner = None; is_template = true; template_parameters = (tp None None ∷ []); constraints = ([]); parameters = (parameter (reference_type (m 2 2 28) (position_type (m 2 2 28) 0)) 0 false ∷ []); result = (scalar_type (m 1 2 22) scalars.Int); is_const = false; is_constexpr = false; body = Some (block (m 5 2 32) (and_statement (return_statement (m 4 2 34) (Some (literal (m 3 2 41) scalars.Int (pos 1)))) no_statement)) })
    ∷ a_function (record { at = (p 3 26); name = (codes "f"); owner = None; is_template = true; template_parameters = (tp None None ∷ []); constraints = ([]); parameters = (parameter (template_id (m 8 3 28) (p 3 28) (d 0) (and_type (position_type (m 7 3 32) 0) no_argument)) 0 false ∷ []); result = (scalar_type (m 6 3 22) scalars.Int); is_const = false; is_constexpr = false; body = Some (block (m 11 3 36) (and_statement (return_statement (m 10 3 38) (Some (literal (m 9 3 45) scalars.Int (pos 2)))) no_statement)) })
    ∷ a_function (record { at = (p 4 5); name = (codes "f"); owner = None; is_template = false; template_parameters = ([]); constraints = ([]); parameters = (parameter (reference_type (m 14 4 7) (const_type (m 14 4 7) (template_id (m 14 4 7) (p 4 13) (d 0) (and_type (scalar_type (m 13 4 17) scalars.Int) no_argument)))) 0 false ∷ []); result = (scalar_type (m 12 4 1) scalars.Int); is_const = false; is_constexpr = false; body = Some (block (m 17 4 24) (and_statement (return_statement (m 16 4 26) (Some (literal (m 15 4 33) scalars.Int (pos 3)))) no_statement)) })
    ∷ a_function (record { at = (p 5 26); name = (codes "a"); owner = None; is_template = true; template_parameters = (tp None None ∷ []); constraints = ([]); parameters = (parameter (reference_type (m 19 5 28) (position_type (m 19 5 28) 0)) 0 false ∷ []); result = (scalar_type (m 18 5 22) scalars.Int); is_const = false; is_constexpr = false; body = Some (block (m 22 5 32) (and_statement (return_statement (m 21 5 34) (Some (literal (m 20 5 41) scalars.Int (pos 1)))) no_statement)) })
    ∷ a_function (record { at = (p 6 26); name = (codes "a"); owner = None; is_template = true; template_parameters = (tp None None ∷ []); constraints = ([]); parameters = (parameter (template_id (m 25 6 28) (p 6 28) (d 0) (and_type (position_type (m 24 6 32) 0) no_argument)) 0 false ∷ []); result = (scalar_type (m 23 6 22) scalars.Int); is_const = false; is_constexpr = false; body = Some (block (m 28 6 36) (and_statement (return_statement (m 27 6 38) (Some (literal (m 26 6 45) scalars.Int (pos 2)))) no_statement)) })
    ∷ a_function (record { at = (p 7 26); name = (codes "b"); owner = None; is_template = true; template_parameters = (tp None None ∷ []); constraints = ([]); parameters = (parameter (template_id (m 31 7 28) (p 7 28) (d 0) (and_type (position_type (m 30 7 32) 0) no_argument)) 0 false ∷ []); result = (scalar_type (m 29 7 22) scalars.Int); is_const = false; is_constexpr = false; body = Some (block (m 34 7 36) (and_statement (return_statement (m 33 7 38) (Some (literal (m 32 7 45) scalars.Int (pos 2)))) no_statement)) })
    ∷ a_function (record { at = (p 8 5); name = (codes "b"); owner = None; is_template = false; template_parameters = ([]); constraints = ([]); parameters = (parameter (reference_type (m 37 8 7) (const_type (m 37 8 7) (template_id (m 37 8 7) (p 8 13) (d 0) (and_type (scalar_type (m 36 8 17) scalars.Int) no_argument)))) 0 false ∷ []); result = (scalar_type (m 35 8 1) scalars.Int); is_const = false; is_constexpr = false; body = Some (block (m 40 8 24) (and_statement (return_statement (m 39 8 26) (Some (literal (m 38 8 33) scalars.Int (pos 3)))) no_statement)) })
    ∷ a_function (record { at = (p 9 26); name = (codes "c"); owner = None; is_template = true; template_parameters = (tp None None ∷ []); constraints = ([]); parameters = (parameter (reference_type (m 42 9 28) (position_type (m 42 9 28) 0)) 0 false ∷ []); result = (scalar_type (m 41 9 22) scalars.Int); is_const = false; is_constexpr = false; body = Some (block (m 45 9 32) (and_statement (return_statement (m 44 9 34) (Some (literal (m 43 9 41) scalars.Int (pos 1)))) no_statement)) })
    ∷ a_function (record { at = (p 10 5); name = (codes "c"); owner = None; is_template = false; template_parameters = ([]); constraints = ([]); parameters = (parameter (reference_type (m 48 10 7) (const_type (m 48 10 7) (template_id (m 48 10 7) (p 10 13) (d 0) (and_type (scalar_type (m 47 10 17) scalars.Int) no_argument)))) 0 false ∷ []); result = (scalar_type (m 46 10 1) scalars.Int); is_const = false; is_constexpr = false; body = Some (block (m 51 10 24) (and_statement (return_statement (m 50 10 26) (Some (literal (m 49 10 33) scalars.Int (pos 3)))) no_statement)) })
    ∷ a_function (record { at = (p 11 5); name = (codes "g"); owner = None; is_template = false; template_parameters = ([]); constraints = ([]); parameters = (parameter (template_id (m 54 11 7) (p 11 7) (d 0) (and_type (scalar_type (m 53 11 11) scalars.Int) no_argument)) 0 true ∷ []); result = (scalar_type (m 52 11 1) scalars.Int); is_const = false; is_constexpr = false; body = Some (block (m 71 11 19) (and_statement (return_statement (m 70 11 21) (Some (binary (m 69 11 28) word.Plus (binary (m 65 11 28) word.Plus (binary (m 61 11 28) word.Plus (call (m 57 11 28) (functions (m 55 11 28) (codes "f") 3) (and_expression (local_name (m 56 11 30) 0) no_expression)) (call (m 60 11 35) (functions (m 58 11 35) (codes "a") 2) (and_expression (local_name (m 59 11 37) 0) no_expression))) (call (m 64 11 42) (functions (m 62 11 42) (codes "b") 2) (and_expression (local_name (m 63 11 44) 0) no_expression))) (call (m 68 11 49) (functions (m 66 11 49) (codes "c") 2) (and_expression (local_name (m 67 11 51) 0) no_expression))))) no_statement)) })
    ∷ [])
    (((codes "f"), ((d 2) ∷ (d 3) ∷ (d 4) ∷ [])) ∷ ((codes "a"), ((d 5) ∷ (d 6) ∷ [])) ∷ ((codes "b"), ((d 7) ∷ (d 8) ∷ [])) ∷ ((codes "c"), ((d 9) ∷ (d 10) ∷ [])) ∷ ((codes "g"), ((d 11) ∷ [])) ∷ [])
    ([])
    ([])
    (around 0 (None ∷ []) true ∷ around 12 ([]) false ∷ around 18 (None ∷ []) true ∷ around 35 ([]) false ∷ around 41 (None ∷ []) true ∷ around 46 ([]) false ∷ [])
    ([])

abbrev pub circle_unit_call_11_28 : Expression
circle_unit_call_11_28 = call (m 57 11 28) (functions (m 55 11 28) (codes "f") 3) (and_expression (local_name (m 56 11 30) 0) no_expression)

abbrev pub circle_unit_locals_11_28 : Environment
circle_unit_locals_11_28 = record { arguments = []; variables = (Some (record { of = (inst (d 0) (arguments ((scalar scalars.Int) ∷ []))); value = None }) ∷ []); object = None }

abbrev pub circle_unit_call_11_35 : Expression
circle_unit_call_11_35 = call (m 60 11 35) (functions (m 58 11 35) (codes "a") 2) (and_expression (local_name (m 59 11 37) 0) no_expression)

abbrev pub circle_unit_locals_11_35 : Environment
circle_unit_locals_11_35 = record { arguments = []; variables = (Some (record { of = (inst (d 0) (arguments ((scalar scalars.Int) ∷ []))); value = None }) ∷ []); object = None }

abbrev pub circle_unit_call_11_42 : Expression
circle_unit_call_11_42 = call (m 64 11 42) (functions (m 62 11 42) (codes "b") 2) (and_expression (local_name (m 63 11 44) 0) no_expression)

abbrev pub circle_unit_locals_11_42 : Environment
circle_unit_locals_11_42 = record { arguments = []; variables = (Some (record { of = (inst (d 0) (arguments ((scalar scalars.Int) ∷ []))); value = None }) ∷ []); object = None }

abbrev pub circle_unit_call_11_49 : Expression
circle_unit_call_11_49 = call (m 68 11 49) (functions (m 66 11 49) (codes "c") 2) (and_expression (local_name (m 67 11 51) 0) no_expression)

abbrev pub circle_unit_locals_11_49 : Environment
circle_unit_locals_11_49 = record { arguments = []; variables = (Some (record { of = (inst (d 0) (arguments ((scalar scalars.Int) ∷ []))); value = None }) ∷ []); object = None }

-- template<typename T> struct Box { T v; };
-- template<typename T> int f(T) { return 1; }
-- template<typename T> int f(Box<T>) { return 2; }
-- template<typename T> int f(Box<Box<T>>) { return 3; }
-- template<typename T> int k(T, int) { return 1; }
-- template<typename T, typename U> int k(T, U) { return 2; }
-- template<typename T> int m(T, T) { return 1; }
-- template<typename T> int m(T, int) { return 2; }
-- template<typename T, typename U> int n(T, U) { return 1; }
-- template<typename T> int n(T, T) { return 2; }
-- template<typename T, typename U> int q(T, Box<U>) { return 1; }
-- template<typename T, typename U> int q(Box<T>, U) { return 2; }
-- int g(Box<int> x, Box<Box<int>> y) { return f(1) + f(x) + f(y) + k(1, 2) + m(1, 2) + n(1, 2) + n(1, true) + q(x, x) + q(1, x); }
abbrev pub templates_in_order_unit : Program
templates_in_order_unit =
    unit
    (a_struct (record { at = (p 1 29); itself = (inst (d 0) (arguments ((param 0) ∷ []))); is_template = true; template_parameters = (tp None None ∷ []); constraints = ([]); primary = None; specialised_for = ([]); members = (field (codes "v") (position_type (m 0 1 35) 0) ∷ []) })
    ∷ a_field 0 (position_type (m 0 1 35) 0)
    ∷ a_function (record { at = (p 2 26); name = (codes "f"); owner = None; is_template = true; template_parameters = (tp None None ∷ []); constraints = ([]); parameters = (parameter (position_type (m 2 2 28) 0) 0 false ∷ []); result = (scalar_type (m 1 2 22) scalars.Int); is_const = false; is_constexpr = false; body = Some (block (m 5 2 31) (and_statement (return_statement (m 4 2 33) (Some (literal (m 3 2 40) scalars.Int (pos 1)))) no_statement)) })
    ∷ a_function (record { at = (p 3 26); name = (codes "f"); owner = None; is_template = true; template_parameters = (tp None None ∷ []); constraints = ([]); parameters = (parameter (template_id (m 8 3 28) (p 3 28) (d 0) (and_type (position_type (m 7 3 32) 0) no_argument)) 0 false ∷ []); result = (scalar_type (m 6 3 22) scalars.Int); is_const = false; is_constexpr = false; body = Some (block (m 11 3 36) (and_statement (return_statement (m 10 3 38) (Some (literal (m 9 3 45) scalars.Int (pos 2)))) no_statement)) })
    ∷ a_function (record { at = (p 4 26); name = (codes "f"); owner = None; is_template = true; template_parameters = (tp None None ∷ []); constraints = ([]); parameters = (parameter (template_id (m 15 4 28) (p 4 28) (d 0) (and_type (template_id (m 14 4 32) (p 4 32) (d 0) (and_type (position_type (m 13 4 36) 0) no_argument)) no_argument)) 0 false ∷ []); result = (scalar_type (m 12 4 22) scalars.Int); is_const = false; is_constexpr = false; body = Some (block (m 18 4 41) (and_statement (return_statement (m 17 4 43) (Some (literal (m 16 4 50) scalars.Int (pos 3)))) no_statement)) })
    ∷ a_function (record { at = (p 5 26); name = (codes "k"); owner = None; is_template = true; template_parameters = (tp None None ∷ []); constraints = ([]); parameters = (parameter (position_type (m 20 5 28) 0) 0 false ∷ parameter (scalar_type (m 21 5 31) scalars.Int) 1 false ∷ []); result = (scalar_type (m 19 5 22) scalars.Int); is_const = false; is_constexpr = false; body = Some (block (m 24 5 36) (and_statement (return_statement (m 23 5 38) (Some (literal (m 22 5 45) scalars.Int (pos 1)))) no_statement)) })
    ∷ a_function (record { at = (p 6 38); name = (codes "k"); owner = None; is_template = true; template_parameters = (tp None None ∷ tp None None ∷ []); constraints = ([]); parameters = (parameter (position_type (m 26 6 40) 0) 0 false ∷ parameter (position_type (m 27 6 43) 1) 1 false ∷ []); result = (scalar_type (m 25 6 34) scalars.Int); is_const = false; is_constexpr = false; body = Some (block (m 30 6 46) (and_statement (return_statement (m 29 6 48) (Some (literal (m 28 6 55) scalars.Int (pos 2)))) no_statement)) })
    ∷ a_function (record { at = (p 7 26); name = (codes "m"); owner = None; is_template = true; template_parameters = (tp None None ∷ []); constraints = ([]); parameters = (parameter (position_type (m 32 7 28) 0) 0 false ∷ parameter (position_type (m 33 7 31) 0) 1 false ∷ []); result = (scalar_type (m 31 7 22) scalars.Int); is_const = false; is_constexpr = false; body = Some (block (m 36 7 34) (and_statement (return_statement (m 35 7 36) (Some (literal (m 34 7 43) scalars.Int (pos 1)))) no_statement)) })
    ∷ a_function (record { at = (p 8 26); name = (codes "m"); owner = None; is_template = true; template_parameters = (tp None None ∷ []); constraints = ([]); parameters = (parameter (position_type (m 38 8 28) 0) 0 false ∷ parameter (scalar_type (m 39 8 31) scalars.Int) 1 false ∷ []); result = (scalar_type (m 37 8 22) scalars.Int); is_const = false; is_constexpr = false; body = Some (block (m 42 8 36) (and_statement (return_statement (m 41 8 38) (Some (literal (m 40 8 45) scalars.Int (pos 2)))) no_statement)) })
    ∷ a_function (record { at = (p 9 38); name = (codes "n"); owner = None; is_template = true; template_parameters = (tp None None ∷ tp None None ∷ []); constraints = ([]); parameters = (parameter (position_type (m 44 9 40) 0) 0 false ∷ parameter (position_type (m 45 9 43) 1) 1 false ∷ []); result = (scalar_type (m 43 9 34) scalars.Int); is_const = false; is_constexpr = false; body = Some (block (m 48 9 46) (and_statement (return_statement (m 47 9 48) (Some (literal (m 46 9 55) scalars.Int (pos 1)))) no_statement)) })
    ∷ a_function (record { at = (p 10 26); name = (codes "n"); owner = None; is_template = true; template_parameters = (tp None None ∷ []); constraints = ([]); parameters = (parameter (position_type (m 50 10 28) 0) 0 false ∷ parameter (position_type (m 51 10 31) 0) 1 false ∷ []); result = (scalar_type (m 49 10 22) scalars.Int); is_const = false; is_constexpr = false; body = Some (block (m 54 10 34) (and_statement (return_statement (m 53 10 36) (Some (literal (m 52 10 43) scalars.Int (pos 2)))) no_statement)) })
    ∷ a_function (record { at = (p 11 38); name = (codes "q"); owner = None; is_template = true; template_parameters = (tp None None ∷ tp None None ∷ []); constraints = ([]); parameters = (parameter (position_type (m 56 11 40) 0) 0 false ∷ parameter (template_id (m 58 11 43) (p 11 43) (d 0) (and_type (position_type (m 57 11 47) 1) no_argument)) 1 false ∷ []); result = (scalar_type (m 55 11 34) scalars.Int); is_const = false; is_constexpr = false; body = Some (block (m 61 11 51) (and_statement (return_statement (m 60 11 53) (Some (literal (m 59 11 60) scalars.Int (pos 1)))) no_statement)) })
    ∷ a_function (record { at = (p 12 38); name = (codes "q"); owner = None; is_template = true; template_parameters = (tp None None ∷ tp None None ∷ []); constraints = ([]); parameters = (parameter (template_id (m 64 12 40) (p 12 40) (d 0) (and_type (position_type (m 63 12 44) 0) no_argument)) 0 false ∷ parameter (position_type (m 65 12 48) 1) 1 false ∷ []); result = (scalar_type (m 62 12 34) scalars.Int); is_const = false; is_constexpr = false; body = Some (block (m 68 12 51) (and_statement (return_statement (m 67 12 53) (Some (literal (m 66 12 60) scalars.Int (pos 2)))) no_statement)) })
    ∷ a_function (record { at = (p 13 5); name = (codes "g"); owner = None; is_template = false; template_parameters = ([]); constraints = ([]); parameters = (parameter (template_id (m 71 13 7) (p 13 7) (d 0) (and_type (scalar_type (m 70 13 11) scalars.Int) no_argument)) 0 true ∷ parameter (template_id (m 74 13 19) (p 13 19) (d 0) (and_type (template_id (m 73 13 23) (p 13 23) (d 0) (and_type (scalar_type (m 72 13 27) scalars.Int) no_argument)) no_argument)) 1 true ∷ []); result = (scalar_type (m 69 13 1) scalars.Int); is_const = false; is_constexpr = false; body = Some (block (m 117 13 36) (and_statement (return_statement (m 116 13 38) (Some (binary (m 115 13 45) word.Plus (binary (m 110 13 45) word.Plus (binary (m 105 13 45) word.Plus (binary (m 100 13 45) word.Plus (binary (m 95 13 45) word.Plus (binary (m 90 13 45) word.Plus (binary (m 85 13 45) word.Plus (binary (m 81 13 45) word.Plus (call (m 77 13 45) (functions (m 75 13 45) (codes "f") 3) (and_expression (literal (m 76 13 47) scalars.Int (pos 1)) no_expression)) (call (m 80 13 52) (functions (m 78 13 52) (codes "f") 3) (and_expression (local_name (m 79 13 54) 0) no_expression))) (call (m 84 13 59) (functions (m 82 13 59) (codes "f") 3) (and_expression (local_name (m 83 13 61) 1) no_expression))) (call (m 89 13 66) (functions (m 86 13 66) (codes "k") 2) (and_expression (literal (m 87 13 68) scalars.Int (pos 1)) (and_expression (literal (m 88 13 71) scalars.Int (pos 2)) no_expression)))) (call (m 94 13 76) (functions (m 91 13 76) (codes "m") 2) (and_expression (literal (m 92 13 78) scalars.Int (pos 1)) (and_expression (literal (m 93 13 81) scalars.Int (pos 2)) no_expression)))) (call (m 99 13 86) (functions (m 96 13 86) (codes "n") 2) (and_expression (literal (m 97 13 88) scalars.Int (pos 1)) (and_expression (literal (m 98 13 91) scalars.Int (pos 2)) no_expression)))) (call (m 104 13 96) (functions (m 101 13 96) (codes "n") 2) (and_expression (literal (m 102 13 98) scalars.Int (pos 1)) (and_expression (literal (m 103 13 101) scalars.Bool (pos 1)) no_expression)))) (call (m 109 13 109) (functions (m 106 13 109) (codes "q") 2) (and_expression (local_name (m 107 13 111) 0) (and_expression (local_name (m 108 13 114) 0) no_expression)))) (call (m 114 13 119) (functions (m 111 13 119) (codes "q") 2) (and_expression (literal (m 112 13 121) scalars.Int (pos 1)) (and_expression (local_name (m 113 13 124) 0) no_expression)))))) no_statement)) })
    ∷ [])
    (((codes "f"), ((d 2) ∷ (d 3) ∷ (d 4) ∷ [])) ∷ ((codes "k"), ((d 5) ∷ (d 6) ∷ [])) ∷ ((codes "m"), ((d 7) ∷ (d 8) ∷ [])) ∷ ((codes "n"), ((d 9) ∷ (d 10) ∷ [])) ∷ ((codes "q"), ((d 11) ∷ (d 12) ∷ [])) ∷ ((codes "g"), ((d 13) ∷ [])) ∷ [])
    ([])
    ([])
    (around 0 (None ∷ []) true ∷ around 25 (None ∷ None ∷ []) true ∷ around 31 (None ∷ []) true ∷ around 43 (None ∷ None ∷ []) true ∷ around 49 (None ∷ []) true ∷ around 55 (None ∷ None ∷ []) true ∷ around 69 ([]) false ∷ [])
    ([])

abbrev pub templates_in_order_unit_call_13_45 : Expression
templates_in_order_unit_call_13_45 = call (m 77 13 45) (functions (m 75 13 45) (codes "f") 3) (and_expression (literal (m 76 13 47) scalars.Int (pos 1)) no_expression)

abbrev pub templates_in_order_unit_locals_13_45 : Environment
templates_in_order_unit_locals_13_45 = record { arguments = []; variables = (Some (record { of = (inst (d 0) (arguments ((scalar scalars.Int) ∷ []))); value = None }) ∷ Some (record { of = (inst (d 0) (arguments ((inst (d 0) (arguments ((scalar scalars.Int) ∷ []))) ∷ []))); value = None }) ∷ []); object = None }

abbrev pub templates_in_order_unit_call_13_52 : Expression
templates_in_order_unit_call_13_52 = call (m 80 13 52) (functions (m 78 13 52) (codes "f") 3) (and_expression (local_name (m 79 13 54) 0) no_expression)

abbrev pub templates_in_order_unit_locals_13_52 : Environment
templates_in_order_unit_locals_13_52 = record { arguments = []; variables = (Some (record { of = (inst (d 0) (arguments ((scalar scalars.Int) ∷ []))); value = None }) ∷ Some (record { of = (inst (d 0) (arguments ((inst (d 0) (arguments ((scalar scalars.Int) ∷ []))) ∷ []))); value = None }) ∷ []); object = None }

abbrev pub templates_in_order_unit_call_13_59 : Expression
templates_in_order_unit_call_13_59 = call (m 84 13 59) (functions (m 82 13 59) (codes "f") 3) (and_expression (local_name (m 83 13 61) 1) no_expression)

abbrev pub templates_in_order_unit_locals_13_59 : Environment
templates_in_order_unit_locals_13_59 = record { arguments = []; variables = (Some (record { of = (inst (d 0) (arguments ((scalar scalars.Int) ∷ []))); value = None }) ∷ Some (record { of = (inst (d 0) (arguments ((inst (d 0) (arguments ((scalar scalars.Int) ∷ []))) ∷ []))); value = None }) ∷ []); object = None }

abbrev pub templates_in_order_unit_call_13_66 : Expression
templates_in_order_unit_call_13_66 = call (m 89 13 66) (functions (m 86 13 66) (codes "k") 2) (and_expression (literal (m 87 13 68) scalars.Int (pos 1)) (and_expression (literal (m 88 13 71) scalars.Int (pos 2)) no_expression))

abbrev pub templates_in_order_unit_locals_13_66 : Environment
templates_in_order_unit_locals_13_66 = record { arguments = []; variables = (Some (record { of = (inst (d 0) (arguments ((scalar scalars.Int) ∷ []))); value = None }) ∷ Some (record { of = (inst (d 0) (arguments ((inst (d 0) (arguments ((scalar scalars.Int) ∷ []))) ∷ []))); value = None }) ∷ []); object = None }

abbrev pub templates_in_order_unit_call_13_76 : Expression
templates_in_order_unit_call_13_76 = call (m 94 13 76) (functions (m 91 13 76) (codes "m") 2) (and_expression (literal (m 92 13 78) scalars.Int (pos 1)) (and_expression (literal (m 93 13 81) scalars.Int (pos 2)) no_expression))

abbrev pub templates_in_order_unit_locals_13_76 : Environment
templates_in_order_unit_locals_13_76 = record { arguments = []; variables = (Some (record { of = (inst (d 0) (arguments ((scalar scalars.Int) ∷ []))); value = None }) ∷ Some (record { of = (inst (d 0) (arguments ((inst (d 0) (arguments ((scalar scalars.Int) ∷ []))) ∷ []))); value = None }) ∷ []); object = None }

abbrev pub templates_in_order_unit_call_13_86 : Expression
templates_in_order_unit_call_13_86 = call (m 99 13 86) (functions (m 96 13 86) (codes "n") 2) (and_expression (literal (m 97 13 88) scalars.Int (pos 1)) (and_expression (literal (m 98 13 91) scalars.Int (pos 2)) no_expression))

abbrev pub templates_in_order_unit_locals_13_86 : Environment
templates_in_order_unit_locals_13_86 = record { arguments = []; variables = (Some (record { of = (inst (d 0) (arguments ((scalar scalars.Int) ∷ []))); value = None }) ∷ Some (record { of = (inst (d 0) (arguments ((inst (d 0) (arguments ((scalar scalars.Int) ∷ []))) ∷ []))); value = None }) ∷ []); object = None }

abbrev pub templates_in_order_unit_call_13_96 : Expression
templates_in_order_unit_call_13_96 = call (m 104 13 96) (functions (m 101 13 96) (codes "n") 2) (and_expression (literal (m 102 13 98) scalars.Int (pos 1)) (and_expression (literal (m 103 13 101) scalars.Bool (pos 1)) no_expression))

abbrev pub templates_in_order_unit_locals_13_96 : Environment
templates_in_order_unit_locals_13_96 = record { arguments = []; variables = (Some (record { of = (inst (d 0) (arguments ((scalar scalars.Int) ∷ []))); value = None }) ∷ Some (record { of = (inst (d 0) (arguments ((inst (d 0) (arguments ((scalar scalars.Int) ∷ []))) ∷ []))); value = None }) ∷ []); object = None }

abbrev pub templates_in_order_unit_call_13_109 : Expression
templates_in_order_unit_call_13_109 = call (m 109 13 109) (functions (m 106 13 109) (codes "q") 2) (and_expression (local_name (m 107 13 111) 0) (and_expression (local_name (m 108 13 114) 0) no_expression))

abbrev pub templates_in_order_unit_locals_13_109 : Environment
templates_in_order_unit_locals_13_109 = record { arguments = []; variables = (Some (record { of = (inst (d 0) (arguments ((scalar scalars.Int) ∷ []))); value = None }) ∷ Some (record { of = (inst (d 0) (arguments ((inst (d 0) (arguments ((scalar scalars.Int) ∷ []))) ∷ []))); value = None }) ∷ []); object = None }

abbrev pub templates_in_order_unit_call_13_119 : Expression
templates_in_order_unit_call_13_119 = call (m 114 13 119) (functions (m 111 13 119) (codes "q") 2) (and_expression (literal (m 112 13 121) scalars.Int (pos 1)) (and_expression (local_name (m 113 13 124) 0) no_expression))

abbrev pub templates_in_order_unit_locals_13_119 : Environment
templates_in_order_unit_locals_13_119 = record { arguments = []; variables = (Some (record { of = (inst (d 0) (arguments ((scalar scalars.Int) ∷ []))); value = None }) ∷ Some (record { of = (inst (d 0) (arguments ((inst (d 0) (arguments ((scalar scalars.Int) ∷ []))) ∷ []))); value = None }) ∷ []); object = None }

-- template<typename T, int N> struct Arr { T v; };
-- template<typename T, int N> int f(Arr<T, N>) { return 1; }
-- template<typename T> int f(Arr<T, 3>) { return 2; }
-- template<int N> int f(Arr<int, N>) { return 3; }
-- int g(Arr<bool, 2> x, Arr<bool, 3> y, Arr<int, 2> z, Arr<int, 3> w) { return f(x) + f(y) + f(z) + f(w); }
abbrev pub values_in_order_unit : Program
values_in_order_unit =
    unit
    (a_struct (record { at = (p 1 36); itself = (inst (d 0) (arguments ((param 0) ∷ (param 1) ∷ []))); is_template = true; template_parameters = (tp None None ∷ tp (Some scalars.Int) None ∷ []); constraints = ([]); primary = None; specialised_for = ([]); members = (field (codes "v") (position_type (m 0 1 42) 0) ∷ []) })
    ∷ a_field 0 (position_type (m 0 1 42) 0)
    ∷ a_function (record { at = (p 2 33); name = (codes "f"); owner = None; is_template = true; template_parameters = (tp None None ∷ tp (Some scalars.Int) None ∷ []); constraints = ([]); parameters = (parameter (template_id (m 4 2 35) (p 2 35) (d 0) (and_type (position_type (m 2 2 39) 0) (and_value (position_name (m 3 2 42) 1) no_argument))) 0 false ∷ []); result = (scalar_type (m 1 2 29) scalars.Int); is_const = false; is_constexpr = false; body = Some (block (m 7 2 46) (and_statement (return_statement (m 6 2 48) (Some (literal (m 5 2 55) scalars.Int (pos 1)))) no_statement)) })
    ∷ a_function (record { at = (p 3 26); name = (codes "f"); owner = None; is_template = true; template_parameters = (tp None None ∷ []); constraints = ([]); parameters = (parameter (template_id (m 11 3 28) (p 3 28) (d 0) (and_type (position_type (m 9 3 32) 0) (and_value (literal (m 10 3 35) scalars.Int (pos 3)) no_argument))) 0 false ∷ []); result = (scalar_type (m 8 3 22) scalars.Int); is_const = false; is_constexpr = false; body = Some (block (m 14 3 39) (and_statement (return_statement (m 13 3 41) (Some (literal (m 12 3 48) scalars.Int (pos 2)))) no_statement)) })
    ∷ a_function (record { at = (p 4 21); name = (codes "f"); owner = None; is_template = true; template_parameters = (tp (Some scalars.Int) None ∷ []); constraints = ([]); parameters = (parameter (template_id (m 18 4 23) (p 4 23) (d 0) (and_type (scalar_type (m 16 4 27) scalars.Int) (and_value (position_name (m 17 4 32) 0) no_argument))) 0 false ∷ []); result = (scalar_type (m 15 4 17) scalars.Int); is_const = false; is_constexpr = false; body = Some (block (m 21 4 36) (and_statement (return_statement (m 20 4 38) (Some (literal (m 19 4 45) scalars.Int (pos 3)))) no_statement)) })
    ∷ a_function (record { at = (p 5 5); name = (codes "g"); owner = None; is_template = false; template_parameters = ([]); constraints = ([]); parameters = (parameter (template_id (m 25 5 7) (p 5 7) (d 0) (and_type (scalar_type (m 23 5 11) scalars.Bool) (and_value (literal (m 24 5 17) scalars.Int (pos 2)) no_argument))) 0 true ∷ parameter (template_id (m 28 5 23) (p 5 23) (d 0) (and_type (scalar_type (m 26 5 27) scalars.Bool) (and_value (literal (m 27 5 33) scalars.Int (pos 3)) no_argument))) 1 true ∷ parameter (template_id (m 31 5 39) (p 5 39) (d 0) (and_type (scalar_type (m 29 5 43) scalars.Int) (and_value (literal (m 30 5 48) scalars.Int (pos 2)) no_argument))) 2 true ∷ parameter (template_id (m 34 5 54) (p 5 54) (d 0) (and_type (scalar_type (m 32 5 58) scalars.Int) (and_value (literal (m 33 5 63) scalars.Int (pos 3)) no_argument))) 3 true ∷ []); result = (scalar_type (m 22 5 1) scalars.Int); is_const = false; is_constexpr = false; body = Some (block (m 51 5 69) (and_statement (return_statement (m 50 5 71) (Some (binary (m 49 5 78) word.Plus (binary (m 45 5 78) word.Plus (binary (m 41 5 78) word.Plus (call (m 37 5 78) (functions (m 35 5 78) (codes "f") 3) (and_expression (local_name (m 36 5 80) 0) no_expression)) (call (m 40 5 85) (functions (m 38 5 85) (codes "f") 3) (and_expression (local_name (m 39 5 87) 1) no_expression))) (call (m 44 5 92) (functions (m 42 5 92) (codes "f") 3) (and_expression (local_name (m 43 5 94) 2) no_expression))) (call (m 48 5 99) (functions (m 46 5 99) (codes "f") 3) (and_expression (local_name (m 47 5 101) 3) no_expression))))) no_statement)) })
    ∷ [])
    (((codes "f"), ((d 2) ∷ (d 3) ∷ (d 4) ∷ [])) ∷ ((codes "g"), ((d 5) ∷ [])) ∷ [])
    ([])
    ([])
    (around 0 (None ∷ (Some scalars.Int) ∷ []) true ∷ around 8 (None ∷ []) true ∷ around 15 ((Some scalars.Int) ∷ []) true ∷ around 22 ([]) false ∷ [])
    ([])

abbrev pub values_in_order_unit_call_5_78 : Expression
values_in_order_unit_call_5_78 = call (m 37 5 78) (functions (m 35 5 78) (codes "f") 3) (and_expression (local_name (m 36 5 80) 0) no_expression)

abbrev pub values_in_order_unit_locals_5_78 : Environment
values_in_order_unit_locals_5_78 = record { arguments = []; variables = (Some (record { of = (inst (d 0) (arguments ((scalar scalars.Bool) ∷ (val scalars.Int (pos 2)) ∷ []))); value = None }) ∷ Some (record { of = (inst (d 0) (arguments ((scalar scalars.Bool) ∷ (val scalars.Int (pos 3)) ∷ []))); value = None }) ∷ Some (record { of = (inst (d 0) (arguments ((scalar scalars.Int) ∷ (val scalars.Int (pos 2)) ∷ []))); value = None }) ∷ Some (record { of = (inst (d 0) (arguments ((scalar scalars.Int) ∷ (val scalars.Int (pos 3)) ∷ []))); value = None }) ∷ []); object = None }

abbrev pub values_in_order_unit_call_5_85 : Expression
values_in_order_unit_call_5_85 = call (m 40 5 85) (functions (m 38 5 85) (codes "f") 3) (and_expression (local_name (m 39 5 87) 1) no_expression)

abbrev pub values_in_order_unit_locals_5_85 : Environment
values_in_order_unit_locals_5_85 = record { arguments = []; variables = (Some (record { of = (inst (d 0) (arguments ((scalar scalars.Bool) ∷ (val scalars.Int (pos 2)) ∷ []))); value = None }) ∷ Some (record { of = (inst (d 0) (arguments ((scalar scalars.Bool) ∷ (val scalars.Int (pos 3)) ∷ []))); value = None }) ∷ Some (record { of = (inst (d 0) (arguments ((scalar scalars.Int) ∷ (val scalars.Int (pos 2)) ∷ []))); value = None }) ∷ Some (record { of = (inst (d 0) (arguments ((scalar scalars.Int) ∷ (val scalars.Int (pos 3)) ∷ []))); value = None }) ∷ []); object = None }

abbrev pub values_in_order_unit_call_5_92 : Expression
values_in_order_unit_call_5_92 = call (m 44 5 92) (functions (m 42 5 92) (codes "f") 3) (and_expression (local_name (m 43 5 94) 2) no_expression)

abbrev pub values_in_order_unit_locals_5_92 : Environment
values_in_order_unit_locals_5_92 = record { arguments = []; variables = (Some (record { of = (inst (d 0) (arguments ((scalar scalars.Bool) ∷ (val scalars.Int (pos 2)) ∷ []))); value = None }) ∷ Some (record { of = (inst (d 0) (arguments ((scalar scalars.Bool) ∷ (val scalars.Int (pos 3)) ∷ []))); value = None }) ∷ Some (record { of = (inst (d 0) (arguments ((scalar scalars.Int) ∷ (val scalars.Int (pos 2)) ∷ []))); value = None }) ∷ Some (record { of = (inst (d 0) (arguments ((scalar scalars.Int) ∷ (val scalars.Int (pos 3)) ∷ []))); value = None }) ∷ []); object = None }

abbrev pub values_in_order_unit_call_5_99 : Expression
values_in_order_unit_call_5_99 = call (m 48 5 99) (functions (m 46 5 99) (codes "f") 3) (and_expression (local_name (m 47 5 101) 3) no_expression)

abbrev pub values_in_order_unit_locals_5_99 : Environment
values_in_order_unit_locals_5_99 = record { arguments = []; variables = (Some (record { of = (inst (d 0) (arguments ((scalar scalars.Bool) ∷ (val scalars.Int (pos 2)) ∷ []))); value = None }) ∷ Some (record { of = (inst (d 0) (arguments ((scalar scalars.Bool) ∷ (val scalars.Int (pos 3)) ∷ []))); value = None }) ∷ Some (record { of = (inst (d 0) (arguments ((scalar scalars.Int) ∷ (val scalars.Int (pos 2)) ∷ []))); value = None }) ∷ Some (record { of = (inst (d 0) (arguments ((scalar scalars.Int) ∷ (val scalars.Int (pos 3)) ∷ []))); value = None }) ∷ []); object = None }

-- int f(long long) { return 1; }
-- template<typename T> int f(T) { return 2; }
-- template<typename T> int k(T&) { return 1; }
-- int k(const int&) { return 2; }
-- int g(int i, const int c) { return f(i) + f(1ll) + k(i) + k(c); }
abbrev pub conversions_before_templates_unit : Program
conversions_before_templates_unit =
    unit
    (a_function (record { at = (p 1 5); name = (codes "f"); owner = None; is_template = false; template_parameters = ([]); constraints = ([]); parameters = (parameter (scalar_type (m 1 1 7) scalars.LongLong) 0 false ∷ []); result = (scalar_type (m 0 1 1) scalars.Int); is_const = false; is_constexpr = false; body = Some (block (m 4 1 18) (and_statement (return_statement (m 3 1 20) (Some (literal (m 2 1 27) scalars.Int (pos 1)))) no_statement)) })
    ∷ a_function (record { at = (p 2 26); name = (codes "f"); owner = None; is_template = true; template_parameters = (tp None None ∷ []); constraints = ([]); parameters = (parameter (position_type (m 6 2 28) 0) 0 false ∷ []); result = (scalar_type (m 5 2 22) scalars.Int); is_const = false; is_constexpr = false; body = Some (block (m 9 2 31) (and_statement (return_statement (m 8 2 33) (Some (literal (m 7 2 40) scalars.Int (pos 2)))) no_statement)) })
    ∷ a_function (record { at = (p 3 26); name = (codes "k"); owner = None; is_template = true; template_parameters = (tp None None ∷ []); constraints = ([]); parameters = (parameter (reference_type (m 11 3 28) (position_type (m 11 3 28) 0)) 0 false ∷ []); result = (scalar_type (m 10 3 22) scalars.Int); is_const = false; is_constexpr = false; body = Some (block (m 14 3 32) (and_statement (return_statement (m 13 3 34) (Some (literal (m 12 3 41) scalars.Int (pos 1)))) no_statement)) })
    ∷ a_function (record { at = (p 4 5); name = (codes "k"); owner = None; is_template = false; template_parameters = ([]); constraints = ([]); parameters = (parameter (reference_type (m 16 4 7) (const_type (m 16 4 7) (scalar_type (m 16 4 7) scalars.Int))) 0 false ∷ []); result = (scalar_type (m 15 4 1) scalars.Int); is_const = false; is_constexpr = false; body = Some (block (m 19 4 19) (and_statement (return_statement (m 18 4 21) (Some (literal (m 17 4 28) scalars.Int (pos 2)))) no_statement)) })
    ∷ a_function (record { at = (p 5 5); name = (codes "g"); owner = None; is_template = false; template_parameters = ([]); constraints = ([]); parameters = (parameter (scalar_type (m 21 5 7) scalars.Int) 0 true ∷ parameter (const_type (m 22 5 14) (scalar_type (m 22 5 14) scalars.Int)) 1 true ∷ []); result = (scalar_type (m 20 5 1) scalars.Int); is_const = false; is_constexpr = false; body = Some (block (m 39 5 27) (and_statement (return_statement (m 38 5 29) (Some (binary (m 37 5 36) word.Plus (binary (m 33 5 36) word.Plus (binary (m 29 5 36) word.Plus (call (m 25 5 36) (functions (m 23 5 36) (codes "f") 2) (and_expression (local_name (m 24 5 38) 0) no_expression)) (call (m 28 5 43) (functions (m 26 5 43) (codes "f") 2) (and_expression (literal (m 27 5 45) scalars.LongLong (pos 1)) no_expression))) (call (m 32 5 52) (functions (m 30 5 52) (codes "k") 2) (and_expression (local_name (m 31 5 54) 0) no_expression))) (call (m 36 5 59) (functions (m 34 5 59) (codes "k") 2) (and_expression (local_name (m 35 5 61) 1) no_expression))))) no_statement)) })
    ∷ [])
    (((codes "f"), ((d 0) ∷ (d 1) ∷ [])) ∷ ((codes "k"), ((d 2) ∷ (d 3) ∷ [])) ∷ ((codes "g"), ((d 4) ∷ [])) ∷ [])
    ([])
    ([])
    (around 0 ([]) false ∷ around 5 (None ∷ []) true ∷ around 15 ([]) false ∷ [])
    ([])

abbrev pub conversions_before_templates_unit_call_5_36 : Expression
conversions_before_templates_unit_call_5_36 = call (m 25 5 36) (functions (m 23 5 36) (codes "f") 2) (and_expression (local_name (m 24 5 38) 0) no_expression)

abbrev pub conversions_before_templates_unit_locals_5_36 : Environment
conversions_before_templates_unit_locals_5_36 = record { arguments = []; variables = (Some (record { of = (scalar scalars.Int); value = None }) ∷ Some (record { of = (const (scalar scalars.Int)); value = None }) ∷ []); object = None }

abbrev pub conversions_before_templates_unit_call_5_43 : Expression
conversions_before_templates_unit_call_5_43 = call (m 28 5 43) (functions (m 26 5 43) (codes "f") 2) (and_expression (literal (m 27 5 45) scalars.LongLong (pos 1)) no_expression)

abbrev pub conversions_before_templates_unit_locals_5_43 : Environment
conversions_before_templates_unit_locals_5_43 = record { arguments = []; variables = (Some (record { of = (scalar scalars.Int); value = None }) ∷ Some (record { of = (const (scalar scalars.Int)); value = None }) ∷ []); object = None }

abbrev pub conversions_before_templates_unit_call_5_52 : Expression
conversions_before_templates_unit_call_5_52 = call (m 32 5 52) (functions (m 30 5 52) (codes "k") 2) (and_expression (local_name (m 31 5 54) 0) no_expression)

abbrev pub conversions_before_templates_unit_locals_5_52 : Environment
conversions_before_templates_unit_locals_5_52 = record { arguments = []; variables = (Some (record { of = (scalar scalars.Int); value = None }) ∷ Some (record { of = (const (scalar scalars.Int)); value = None }) ∷ []); object = None }

abbrev pub conversions_before_templates_unit_call_5_59 : Expression
conversions_before_templates_unit_call_5_59 = call (m 36 5 59) (functions (m 34 5 59) (codes "k") 2) (and_expression (local_name (m 35 5 61) 1) no_expression)

abbrev pub conversions_before_templates_unit_locals_5_59 : Environment
conversions_before_templates_unit_locals_5_59 = record { arguments = []; variables = (Some (record { of = (scalar scalars.Int); value = None }) ∷ Some (record { of = (const (scalar scalars.Int)); value = None }) ∷ []); object = None }

-- template<typename T> concept A = __is_same(T, int) || __is_same(T, bool);
-- template<typename T> concept B = A<T> && __is_same(T, int);
-- template<typename T> struct X {
--   T v;
--   int f() { return 0; }
--   int f() requires A<T> { return 1; }
--   int f() requires B<T> { return 2; }
--   int k(int) requires A<T> { return 3; }
--   int k(bool) { return 4; }
--   int m() requires A<T> { return 5; }
-- };
-- int g(X<int> i, X<bool> b, X<unsigned> u) { return i.f() + b.f() + u.f() + i.k(true) + u.k(1) + u.m() + b.m(); }
abbrev pub members_by_constraints_unit : Program
members_by_constraints_unit =
    unit
    (a_concept (record { at = (p 1 30); template_parameters = (tp None None ∷ []); condition = (binary (m 6 1 34) word.LogicalOr (is_same (m 2 1 34) (position_type (m 0 1 44) 0) (scalar_type (m 1 1 47) scalars.Int)) (is_same (m 5 1 55) (position_type (m 3 1 65) 0) (scalar_type (m 4 1 68) scalars.Bool))) })
    ∷ a_concept (record { at = (p 2 30); template_parameters = (tp None None ∷ []); condition = (binary (m 12 2 34) word.LogicalAnd (concept_id (m 8 2 34) (d 0) (and_type (position_type (m 7 2 36) 0) no_argument)) (is_same (m 11 2 42) (position_type (m 9 2 52) 0) (scalar_type (m 10 2 55) scalars.Int))) })
    ∷ a_struct (record { at = (p 3 29); itself = (inst (d 2) (arguments ((param 0) ∷ []))); is_template = true; template_parameters = (tp None None ∷ []); constraints = ([]); primary = None; specialised_for = ([]); members = (field (codes "v") (position_type (m 13 4 3) 0) ∷ member_function (codes "f") (d 4) ∷ member_function (codes "f") (d 5) ∷ member_function (codes "f") (d 6) ∷ member_function (codes "k") (d 7) ∷ member_function (codes "k") (d 8) ∷ member_function (codes "m") (d 9) ∷ []) })
    ∷ a_field 0 (position_type (m 13 4 3) 0)
    ∷ a_function (record { at = (p 5 7); name = (codes "f"); owner = (Some (d 2)); is_template = true; template_parameters = (tp None None ∷ []); constraints = ([]); parameters = ([]); result = (scalar_type (m 14 5 3) scalars.Int); is_const = false; is_constexpr = false; body = Some (block (m 32 5 11) (and_statement (return_statement (m 31 5 13) (Some (literal (m 30 5 20) scalars.Int (pos 0)))) no_statement)) })
    ∷ a_function (record { at = (p 6 7); name = (codes "f"); owner = (Some (d 2)); is_template = true; template_parameters = (tp None None ∷ []); constraints = ((concept_id (m 17 6 20) (d 0) (and_type (position_type (m 16 6 22) 0) no_argument)) ∷ []); parameters = ([]); result = (scalar_type (m 15 6 3) scalars.Int); is_const = false; is_constexpr = false; body = Some (block (m 35 6 25) (and_statement (return_statement (m 34 6 27) (Some (literal (m 33 6 34) scalars.Int (pos 1)))) no_statement)) })
    ∷ a_function (record { at = (p 7 7); name = (codes "f"); owner = (Some (d 2)); is_template = true; template_parameters = (tp None None ∷ []); constraints = ((concept_id (m 20 7 20) (d 1) (and_type (position_type (m 19 7 22) 0) no_argument)) ∷ []); parameters = ([]); result = (scalar_type (m 18 7 3) scalars.Int); is_const = false; is_constexpr = false; body = Some (block (m 38 7 25) (and_statement (return_statement (m 37 7 27) (Some (literal (m 36 7 34) scalars.Int (pos 2)))) no_statement)) })
    ∷ a_function (record { at = (p 8 7); name = (codes "k"); owner = (Some (d 2)); is_template = true; template_parameters = (tp None None ∷ []); constraints = ((concept_id (m 24 8 23) (d 0) (and_type (position_type (m 23 8 25) 0) no_argument)) ∷ []); parameters = (parameter (scalar_type (m 22 8 9) scalars.Int) 0 false ∷ []); result = (scalar_type (m 21 8 3) scalars.Int); is_const = false; is_constexpr = false; body = Some (block (m 41 8 28) (and_statement (return_statement (m 40 8 30) (Some (literal (m 39 8 37) scalars.Int (pos 3)))) no_statement)) })
    ∷ a_function (record { at = (p 9 7); name = (codes "k"); owner = (Some (d 2)); is_template = true; template_parameters = (tp None None ∷ []); constraints = ([]); parameters = (parameter (scalar_type (m 26 9 9) scalars.Bool) 0 false ∷ []); result = (scalar_type (m 25 9 3) scalars.Int); is_const = false; is_constexpr = false; body = Some (block (m 44 9 15) (and_statement (return_statement (m 43 9 17) (Some (literal (m 42 9 24) scalars.Int (pos 4)))) no_statement)) })
    ∷ a_function (record { at = (p 10 7); name = (codes "m"); owner = (Some (d 2)); is_template = true; template_parameters = (tp None None ∷ []); constraints = ((concept_id (m 29 10 20) (d 0) (and_type (position_type (m 28 10 22) 0) no_argument)) ∷ []); parameters = ([]); result = (scalar_type (m 27 10 3) scalars.Int); is_const = false; is_constexpr = false; body = Some (block (m 47 10 25) (and_statement (return_statement (m 46 10 27) (Some (literal (m 45 10 34) scalars.Int (pos 5)))) no_statement)) })
    ∷ a_function (record { at = (p 12 5); name = (codes "g"); owner = None; is_template = false; template_parameters = ([]); constraints = ([]); parameters = (parameter (template_id (m 50 12 7) (p 12 7) (d 2) (and_type (scalar_type (m 49 12 9) scalars.Int) no_argument)) 0 true ∷ parameter (template_id (m 52 12 17) (p 12 17) (d 2) (and_type (scalar_type (m 51 12 19) scalars.Bool) no_argument)) 1 true ∷ parameter (template_id (m 54 12 28) (p 12 28) (d 2) (and_type (scalar_type (m 53 12 30) scalars.Unsigned) no_argument)) 2 true ∷ []); result = (scalar_type (m 48 12 1) scalars.Int); is_const = false; is_constexpr = false; body = Some (block (m 85 12 43) (and_statement (return_statement (m 84 12 45) (Some (binary (m 83 12 52) word.Plus (binary (m 79 12 52) word.Plus (binary (m 75 12 52) word.Plus (binary (m 70 12 52) word.Plus (binary (m 65 12 52) word.Plus (binary (m 61 12 52) word.Plus (call (m 57 12 52) (object_functions (m 56 12 52) (local_name (m 55 12 52) 0) (codes "f")) no_expression) (call (m 60 12 60) (object_functions (m 59 12 60) (local_name (m 58 12 60) 1) (codes "f")) no_expression)) (call (m 64 12 68) (object_functions (m 63 12 68) (local_name (m 62 12 68) 2) (codes "f")) no_expression)) (call (m 69 12 76) (object_functions (m 67 12 76) (local_name (m 66 12 76) 0) (codes "k")) (and_expression (literal (m 68 12 80) scalars.Bool (pos 1)) no_expression))) (call (m 74 12 88) (object_functions (m 72 12 88) (local_name (m 71 12 88) 2) (codes "k")) (and_expression (literal (m 73 12 92) scalars.Int (pos 1)) no_expression))) (call (m 78 12 97) (object_functions (m 77 12 97) (local_name (m 76 12 97) 2) (codes "m")) no_expression)) (call (m 82 12 105) (object_functions (m 81 12 105) (local_name (m 80 12 105) 1) (codes "m")) no_expression)))) no_statement)) })
    ∷ [])
    (((codes "g"), ((d 10) ∷ [])) ∷ [])
    ([])
    ((2, (is_same (m 2 1 34) (position_type (m 0 1 44) 0) (scalar_type (m 1 1 47) scalars.Int)))
    ∷ (5, (is_same (m 5 1 55) (position_type (m 3 1 65) 0) (scalar_type (m 4 1 68) scalars.Bool)))
    ∷ (11, (is_same (m 11 2 42) (position_type (m 9 2 52) 0) (scalar_type (m 10 2 55) scalars.Int)))
    ∷ [])
    (around 0 (None ∷ []) true ∷ around 48 ([]) false ∷ [])
    ([])

abbrev pub members_by_constraints_unit_call_12_52 : Expression
members_by_constraints_unit_call_12_52 = call (m 57 12 52) (object_functions (m 56 12 52) (local_name (m 55 12 52) 0) (codes "f")) no_expression

abbrev pub members_by_constraints_unit_locals_12_52 : Environment
members_by_constraints_unit_locals_12_52 = record { arguments = []; variables = (Some (record { of = (inst (d 2) (arguments ((scalar scalars.Int) ∷ []))); value = None }) ∷ Some (record { of = (inst (d 2) (arguments ((scalar scalars.Bool) ∷ []))); value = None }) ∷ Some (record { of = (inst (d 2) (arguments ((scalar scalars.Unsigned) ∷ []))); value = None }) ∷ []); object = None }

abbrev pub members_by_constraints_unit_call_12_60 : Expression
members_by_constraints_unit_call_12_60 = call (m 60 12 60) (object_functions (m 59 12 60) (local_name (m 58 12 60) 1) (codes "f")) no_expression

abbrev pub members_by_constraints_unit_locals_12_60 : Environment
members_by_constraints_unit_locals_12_60 = record { arguments = []; variables = (Some (record { of = (inst (d 2) (arguments ((scalar scalars.Int) ∷ []))); value = None }) ∷ Some (record { of = (inst (d 2) (arguments ((scalar scalars.Bool) ∷ []))); value = None }) ∷ Some (record { of = (inst (d 2) (arguments ((scalar scalars.Unsigned) ∷ []))); value = None }) ∷ []); object = None }

abbrev pub members_by_constraints_unit_call_12_68 : Expression
members_by_constraints_unit_call_12_68 = call (m 64 12 68) (object_functions (m 63 12 68) (local_name (m 62 12 68) 2) (codes "f")) no_expression

abbrev pub members_by_constraints_unit_locals_12_68 : Environment
members_by_constraints_unit_locals_12_68 = record { arguments = []; variables = (Some (record { of = (inst (d 2) (arguments ((scalar scalars.Int) ∷ []))); value = None }) ∷ Some (record { of = (inst (d 2) (arguments ((scalar scalars.Bool) ∷ []))); value = None }) ∷ Some (record { of = (inst (d 2) (arguments ((scalar scalars.Unsigned) ∷ []))); value = None }) ∷ []); object = None }

abbrev pub members_by_constraints_unit_call_12_76 : Expression
members_by_constraints_unit_call_12_76 = call (m 69 12 76) (object_functions (m 67 12 76) (local_name (m 66 12 76) 0) (codes "k")) (and_expression (literal (m 68 12 80) scalars.Bool (pos 1)) no_expression)

abbrev pub members_by_constraints_unit_locals_12_76 : Environment
members_by_constraints_unit_locals_12_76 = record { arguments = []; variables = (Some (record { of = (inst (d 2) (arguments ((scalar scalars.Int) ∷ []))); value = None }) ∷ Some (record { of = (inst (d 2) (arguments ((scalar scalars.Bool) ∷ []))); value = None }) ∷ Some (record { of = (inst (d 2) (arguments ((scalar scalars.Unsigned) ∷ []))); value = None }) ∷ []); object = None }

abbrev pub members_by_constraints_unit_call_12_88 : Expression
members_by_constraints_unit_call_12_88 = call (m 74 12 88) (object_functions (m 72 12 88) (local_name (m 71 12 88) 2) (codes "k")) (and_expression (literal (m 73 12 92) scalars.Int (pos 1)) no_expression)

abbrev pub members_by_constraints_unit_locals_12_88 : Environment
members_by_constraints_unit_locals_12_88 = record { arguments = []; variables = (Some (record { of = (inst (d 2) (arguments ((scalar scalars.Int) ∷ []))); value = None }) ∷ Some (record { of = (inst (d 2) (arguments ((scalar scalars.Bool) ∷ []))); value = None }) ∷ Some (record { of = (inst (d 2) (arguments ((scalar scalars.Unsigned) ∷ []))); value = None }) ∷ []); object = None }

abbrev pub members_by_constraints_unit_call_12_97 : Expression
members_by_constraints_unit_call_12_97 = call (m 78 12 97) (object_functions (m 77 12 97) (local_name (m 76 12 97) 2) (codes "m")) no_expression

abbrev pub members_by_constraints_unit_locals_12_97 : Environment
members_by_constraints_unit_locals_12_97 = record { arguments = []; variables = (Some (record { of = (inst (d 2) (arguments ((scalar scalars.Int) ∷ []))); value = None }) ∷ Some (record { of = (inst (d 2) (arguments ((scalar scalars.Bool) ∷ []))); value = None }) ∷ Some (record { of = (inst (d 2) (arguments ((scalar scalars.Unsigned) ∷ []))); value = None }) ∷ []); object = None }

abbrev pub members_by_constraints_unit_call_12_105 : Expression
members_by_constraints_unit_call_12_105 = call (m 82 12 105) (object_functions (m 81 12 105) (local_name (m 80 12 105) 1) (codes "m")) no_expression

abbrev pub members_by_constraints_unit_locals_12_105 : Environment
members_by_constraints_unit_locals_12_105 = record { arguments = []; variables = (Some (record { of = (inst (d 2) (arguments ((scalar scalars.Int) ∷ []))); value = None }) ∷ Some (record { of = (inst (d 2) (arguments ((scalar scalars.Bool) ∷ []))); value = None }) ∷ Some (record { of = (inst (d 2) (arguments ((scalar scalars.Unsigned) ∷ []))); value = None }) ∷ []); object = None }
