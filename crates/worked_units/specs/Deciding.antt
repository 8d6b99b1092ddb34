-- Calls that constraints decide ([temp.constr.order], [over.match.best]).
use Rattle.std.specs.Prelude.{pos, true, false, [], ◌∷◌, Some, None, codes}
use Rattle.cx_base.specs.declared.value.Scalar.TheVariants as scalars
use Rattle.cx_term.specs.declared.word.Word.TheVariants as word
use Rattle.cx_questions.specs.Forms.{Expression, literal, parentheses, unary, binary, call, is_same, concept_id, no_expression, and_expression, functions, position_type, scalar_type, no_argument, and_type, block, return_statement, no_statement, and_statement}
use Rattle.cx_questions.specs.Program.{Program, a_function, a_concept}
use Rattle.worked_units.specs.Units.{p, d, m, tp, parameter, around, unit}

-- template<typename T> concept Integral = __is_same(T, int) || __is_same(T, bool);
-- template<typename T> concept Signed = Integral<T> && __is_same(T, int);
-- template<Integral T> int f(T) { return 1; }
-- template<Signed T> int f(T) { return 2; }
-- int g() { return f(1); }
-- int h() { return f(true); }
-- int k() { return f(1u); }
abbrev pub the_more_constrained_unit : Program
the_more_constrained_unit =
    unit
    (a_concept (record { at = (p 1 30); template_parameters = (tp None None ∷ []); condition = (binary (m 6 1 41) word.LogicalOr (is_same (m 2 1 41) (position_type (m 0 1 51) 0) (scalar_type (m 1 1 54) scalars.Int)) (is_same (m 5 1 62) (position_type (m 3 1 72) 0) (scalar_type (m 4 1 75) scalars.Bool))) })
    ∷ a_concept (record { at = (p 2 30); template_parameters = (tp None None ∷ []); condition = (binary (m 12 2 39) word.LogicalAnd (concept_id (m 8 2 39) (d 0) (and_type (position_type (m 7 2 48) 0) no_argument)) (is_same (m 11 2 54) (position_type (m 9 2 64) 0) (scalar_type (m 10 2 67) scalars.Int))) })
    ∷ a_function (record { at = (p 3 26); name = (codes "f"); owner = None; is_template = true; template_parameters = (tp None None ∷ []); constraints = ((concept_id (m 13 3 10) (d 0) (and_type (position_type (m 13 3 10) 0) no_argument)) ∷ []); parameters = (parameter (position_type (m 15 3 28) 0) 0 false ∷ []); result = (scalar_type (m 14 3 22) scalars.Int); is_const = false; is_constexpr = false; body = Some (block (m 18 3 31) (and_statement (return_statement (m 17 3 33) (Some (literal (m 16 3 40) scalars.Int (pos 1)))) no_statement)) })
    ∷ a_function (record { at = (p 4 24); name = (codes "f"); owner = None; is_template = true; template_parameters = (tp None None ∷ []); constraints = ((concept_id (m 19 4 10) (d 1) (and_type (position_type (m 19 4 10) 0) no_argument)) ∷ []); parameters = (parameter (position_type (m 21 4 26) 0) 0 false ∷ []); result = (scalar_type (m 20 4 20) scalars.Int); is_const = false; is_constexpr = false; body = Some (block (m 24 4 29) (and_statement (return_statement (m 23 4 31) (Some (literal (m 22 4 38) scalars.Int (pos 2)))) no_statement)) })
    ∷ a_function (record { at = (p 5 5); name = (codes "g"); owner = None; is_template = false; template_parameters = ([]); constraints = ([]); parameters = ([]); result = (scalar_type (m 25 5 1) scalars.Int); is_const = false; is_constexpr = false; body = Some (block (m 30 5 9) (and_statement (return_statement (m 29 5 11) (Some (call (m 28 5 18) (functions (m 26 5 18) (codes "f") 2) (and_expression (literal (m 27 5 20) scalars.Int (pos 1)) no_expression)))) no_statement)) })
    ∷ a_function (record { at = (p 6 5); name = (codes "h"); owner = None; is_template = false; template_parameters = ([]); constraints = ([]); parameters = ([]); result = (scalar_type (m 31 6 1) scalars.Int); is_const = false; is_constexpr = false; body = Some (block (m 36 6 9) (and_statement (return_statement (m 35 6 11) (Some (call (m 34 6 18) (functions (m 32 6 18) (codes "f") 2) (and_expression (literal (m 33 6 20) scalars.Bool (pos 1)) no_expression)))) no_statement)) })
    ∷ a_function (record { at = (p 7 5); name = (codes "k"); owner = None; is_template = false; template_parameters = ([]); constraints = ([]); parameters = ([]); result = (scalar_type (m 37 7 1) scalars.Int); is_const = false; is_constexpr = false; body = Some (block (m 42 7 9) (and_statement (return_statement (m 41 7 11) (Some (call (m 40 7 18) (functions (m 38 7 18) (codes "f") 2) (and_expression (literal (m 39 7 20) scalars.Unsigned (pos 1)) no_expression)))) no_statement)) })
    ∷ [])
    (((codes "f"), ((d 2) ∷ (d 3) ∷ [])) ∷ ((codes "g"), ((d 4) ∷ [])) ∷ ((codes "h"), ((d 5) ∷ [])) ∷ ((codes "k"), ((d 6) ∷ [])) ∷ [])
    ([])
    ((2, (is_same (m 2 1 41) (position_type (m 0 1 51) 0) (scalar_type (m 1 1 54) scalars.Int)))
    ∷ (5, (is_same (m 5 1 62) (position_type (m 3 1 72) 0) (scalar_type (m 4 1 75) scalars.Bool)))
    ∷ (11, (is_same (m 11 2 54) (position_type (m 9 2 64) 0) (scalar_type (m 10 2 67) scalars.Int)))
    ∷ [])
    (around 0 (None ∷ []) true ∷ around 25 ([]) false ∷ [])
    ([])

abbrev pub the_more_constrained_unit_call_5_18 : Expression
the_more_constrained_unit_call_5_18 = call (m 28 5 18) (functions (m 26 5 18) (codes "f") 2) (and_expression (literal (m 27 5 20) scalars.Int (pos 1)) no_expression)

abbrev pub the_more_constrained_unit_call_6_18 : Expression
the_more_constrained_unit_call_6_18 = call (m 34 6 18) (functions (m 32 6 18) (codes "f") 2) (and_expression (literal (m 33 6 20) scalars.Bool (pos 1)) no_expression)

abbrev pub the_more_constrained_unit_call_7_18 : Expression
the_more_constrained_unit_call_7_18 = call (m 40 7 18) (functions (m 38 7 18) (codes "f") 2) (and_expression (literal (m 39 7 20) scalars.Unsigned (pos 1)) no_expression)

-- template<typename T> requires (__is_same(T, int)) int f(T) { return 1; }
-- template<typename T> requires (__is_same(T, int)) && true int f(T) { return 2; }
-- int g() { return f(1); }
abbrev pub appearances_unit : Program
appearances_unit =
    unit
    (a_function (record { at = (p 1 55); name = (codes "f"); owner = None; is_template = true; template_parameters = (tp None None ∷ []); constraints = ((parentheses (m 3 1 31) (is_same (m 2 1 32) (position_type (m 0 1 42) 0) (scalar_type (m 1 1 45) scalars.Int))) ∷ []); parameters = (parameter (position_type (m 5 1 57) 0) 0 false ∷ []); result = (scalar_type (m 4 1 51) scalars.Int); is_const = false; is_constexpr = false; body = Some (block (m 8 1 60) (and_statement (return_statement (m 7 1 62) (Some (literal (m 6 1 69) scalars.Int (pos 1)))) no_statement)) })
    ∷ a_function (record { at = (p 2 63); name = (codes "f"); owner = None; is_template = true; template_parameters = (tp None None ∷ []); constraints = ((binary (m 14 2 31) word.LogicalAnd (parentheses (m 12 2 31) (is_same (m 11 2 32) (position_type (m 9 2 42) 0) (scalar_type (m 10 2 45) scalars.Int))) (literal (m 13 2 54) scalars.Bool (pos 1))) ∷ []); parameters = (parameter (position_type (m 16 2 65) 0) 0 false ∷ []); result = (scalar_type (m 15 2 59) scalars.Int); is_const = false; is_constexpr = false; body = Some (block (m 19 2 68) (and_statement (return_statement (m 18 2 70) (Some (literal (m 17 2 77) scalars.Int (pos 2)))) no_statement)) })
    ∷ a_function (record { at = (p 3 5); name = (codes "g"); owner = None; is_template = false; template_parameters = ([]); constraints = ([]); parameters = ([]); result = (scalar_type (m 20 3 1) scalars.Int); is_const = false; is_constexpr = false; body = Some (block (m 25 3 9) (and_statement (return_statement (m 24 3 11) (Some (call (m 23 3 18) (functions (m 21 3 18) (codes "f") 2) (and_expression (literal (m 22 3 20) scalars.Int (pos 1)) no_expression)))) no_statement)) })
    ∷ [])
    (((codes "f"), ((d 0) ∷ (d 1) ∷ [])) ∷ ((codes "g"), ((d 2) ∷ [])) ∷ [])
    ([])
    ((2, (is_same (m 2 1 32) (position_type (m 0 1 42) 0) (scalar_type (m 1 1 45) scalars.Int)))
    ∷ (11, (is_same (m 11 2 32) (position_type (m 9 2 42) 0) (scalar_type (m 10 2 45) scalars.Int)))
    ∷ (13, (literal (m 13 2 54) scalars.Bool (pos 1)))
    ∷ [])
    (around 0 (None ∷ []) true ∷ around 20 ([]) false ∷ [])
    ([])

abbrev pub appearances_unit_call_3_18 : Expression
appearances_unit_call_3_18 = call (m 23 3 18) (functions (m 21 3 18) (codes "f") 2) (and_expression (literal (m 22 3 20) scalars.Int (pos 1)) no_expression)

-- template<typename T> concept I = __is_same(T, int);
-- template<typename T> requires I<T> int f(T) { return 1; }
-- template<typename T> requires I<T> && true int f(T) { return 2; }
-- int g() { return f(1); }
abbrev pub one_concept_unit : Program
one_concept_unit =
    unit
    (a_concept (record { at = (p 1 30); template_parameters = (tp None None ∷ []); condition = (is_same (m 2 1 34) (position_type (m 0 1 44) 0) (scalar_type (m 1 1 47) scalars.Int)) })
    ∷ a_function (record { at = (p 2 40); name = (codes "f"); owner = None; is_template = true; template_parameters = (tp None None ∷ []); constraints = ((concept_id (m 4 2 31) (d 0) (and_type (position_type (m 3 2 33) 0) no_argument)) ∷ []); parameters = (parameter (position_type (m 6 2 42) 0) 0 false ∷ []); result = (scalar_type (m 5 2 36) scalars.Int); is_const = false; is_constexpr = false; body = Some (block (m 9 2 45) (and_statement (return_statement (m 8 2 47) (Some (literal (m 7 2 54) scalars.Int (pos 1)))) no_statement)) })
    ∷ a_function (record { at = (p 3 48); name = (codes "f"); owner = None; is_template = true; template_parameters = (tp None None ∷ []); constraints = ((binary (m 13 3 31) word.LogicalAnd (concept_id (m 11 3 31) (d 0) (and_type (position_type (m 10 3 33) 0) no_argument)) (literal (m 12 3 39) scalars.Bool (pos 1))) ∷ []); parameters = (parameter (position_type (m 15 3 50) 0) 0 false ∷ []); result = (scalar_type (m 14 3 44) scalars.Int); is_const = false; is_constexpr = false; body = Some (block (m 18 3 53) (and_statement (return_statement (m 17 3 55) (Some (literal (m 16 3 62) scalars.Int (pos 2)))) no_statement)) })
    ∷ a_function (record { at = (p 4 5); name = (codes "g"); owner = None; is_template = false; template_parameters = ([]); constraints = ([]); parameters = ([]); result = (scalar_type (m 19 4 1) scalars.Int); is_const = false; is_constexpr = false; body = Some (block (m 24 4 9) (and_statement (return_statement (m 23 4 11) (Some (call (m 22 4 18) (functions (m 20 4 18) (codes "f") 2) (and_expression (literal (m 21 4 20) scalars.Int (pos 1)) no_expression)))) no_statement)) })
    ∷ [])
    (((codes "f"), ((d 1) ∷ (d 2) ∷ [])) ∷ ((codes "g"), ((d 3) ∷ [])) ∷ [])
    ([])
    ((2, (is_same (m 2 1 34) (position_type (m 0 1 44) 0) (scalar_type (m 1 1 47) scalars.Int)))
    ∷ (12, (literal (m 12 3 39) scalars.Bool (pos 1)))
    ∷ [])
    (around 0 (None ∷ []) true ∷ around 19 ([]) false ∷ [])
    ([])

abbrev pub one_concept_unit_call_4_18 : Expression
one_concept_unit_call_4_18 = call (m 22 4 18) (functions (m 20 4 18) (codes "f") 2) (and_expression (literal (m 21 4 20) scalars.Int (pos 1)) no_expression)

-- template<typename T> concept A = __is_same(T, int);
-- template<typename T> concept B = !__is_same(T, bool);
-- template<typename T> requires A<T> && B<T> int f(T) { return 1; }
-- template<typename T> requires A<T> || B<T> int f(T) { return 2; }
-- int g() { return f(1); }
abbrev pub both_or_either_unit : Program
both_or_either_unit =
    unit
    (a_concept (record { at = (p 1 30); template_parameters = (tp None None ∷ []); condition = (is_same (m 2 1 34) (position_type (m 0 1 44) 0) (scalar_type (m 1 1 47) scalars.Int)) })
    ∷ a_concept (record { at = (p 2 30); template_parameters = (tp None None ∷ []); condition = (unary (m 6 2 34) word.Not (is_same (m 5 2 35) (position_type (m 3 2 45) 0) (scalar_type (m 4 2 48) scalars.Bool))) })
    ∷ a_function (record { at = (p 3 48); name = (codes "f"); owner = None; is_template = true; template_parameters = (tp None None ∷ []); constraints = ((binary (m 11 3 31) word.LogicalAnd (concept_id (m 8 3 31) (d 0) (and_type (position_type (m 7 3 33) 0) no_argument)) (concept_id (m 10 3 39) (d 1) (and_type (position_type (m 9 3 41) 0) no_argument))) ∷ []); parameters = (parameter (position_type (m 13 3 50) 0) 0 false ∷ []); result = (scalar_type (m 12 3 44) scalars.Int); is_const = false; is_constexpr = false; body = Some (block (m 16 3 53) (and_statement (return_statement (m 15 3 55) (Some (literal (m 14 3 62) scalars.Int (pos 1)))) no_statement)) })
    ∷ a_function (record { at = (p 4 48); name = (codes "f"); owner = None; is_template = true; template_parameters = (tp None None ∷ []); constraints = ((binary (m 21 4 31) word.LogicalOr (concept_id (m 18 4 31) (d 0) (and_type (position_type (m 17 4 33) 0) no_argument)) (concept_id (m 20 4 39) (d 1) (and_type (position_type (m 19 4 41) 0) no_argument))) ∷ []); parameters = (parameter (position_type (m 23 4 50) 0) 0 false ∷ []); result = (scalar_type (m 22 4 44) scalars.Int); is_const = false; is_constexpr = false; body = Some (block (m 26 4 53) (and_statement (return_statement (m 25 4 55) (Some (literal (m 24 4 62) scalars.Int (pos 2)))) no_statement)) })
    ∷ a_function (record { at = (p 5 5); name = (codes "g"); owner = None; is_template = false; template_parameters = ([]); constraints = ([]); parameters = ([]); result = (scalar_type (m 27 5 1) scalars.Int); is_const = false; is_constexpr = false; body = Some (block (m 32 5 9) (and_statement (return_statement (m 31 5 11) (Some (call (m 30 5 18) (functions (m 28 5 18) (codes "f") 2) (and_expression (literal (m 29 5 20) scalars.Int (pos 1)) no_expression)))) no_statement)) })
    ∷ [])
    (((codes "f"), ((d 2) ∷ (d 3) ∷ [])) ∷ ((codes "g"), ((d 4) ∷ [])) ∷ [])
    ([])
    ((2, (is_same (m 2 1 34) (position_type (m 0 1 44) 0) (scalar_type (m 1 1 47) scalars.Int)))
    ∷ (6, (unary (m 6 2 34) word.Not (is_same (m 5 2 35) (position_type (m 3 2 45) 0) (scalar_type (m 4 2 48) scalars.Bool))))
    ∷ [])
    (around 0 (None ∷ []) true ∷ around 27 ([]) false ∷ [])
    ([])

abbrev pub both_or_either_unit_call_5_18 : Expression
both_or_either_unit_call_5_18 = call (m 30 5 18) (functions (m 28 5 18) (codes "f") 2) (and_expression (literal (m 29 5 20) scalars.Int (pos 1)) no_expression)

-- template<typename A, typename B> concept Rel = __is_same(A, B);
-- template<typename T, typename U> requires Rel<T, U> int f(T, U) { return 1; }
-- template<typename T, typename U> requires Rel<U, T> int f(T, U) { return 2; }
-- int g() { return f(1, 2); }
abbrev pub other_targets_unit : Program
other_targets_unit =
    unit
    (a_concept (record { at = (p 1 42); template_parameters = (tp None None ∷ tp None None ∷ []); condition = (is_same (m 2 1 48) (position_type (m 0 1 58) 0) (position_type (m 1 1 61) 1)) })
    ∷ a_function (record { at = (p 2 57); name = (codes "f"); owner = None; is_template = true; template_parameters = (tp None None ∷ tp None None ∷ []); constraints = ((concept_id (m 5 2 43) (d 0) (and_type (position_type (m 3 2 47) 0) (and_type (position_type (m 4 2 50) 1) no_argument))) ∷ []); parameters = (parameter (position_type (m 7 2 59) 0) 0 false ∷ parameter (position_type (m 8 2 62) 1) 1 false ∷ []); result = (scalar_type (m 6 2 53) scalars.Int); is_const = false; is_constexpr = false; body = Some (block (m 11 2 65) (and_statement (return_statement (m 10 2 67) (Some (literal (m 9 2 74) scalars.Int (pos 1)))) no_statement)) })
    ∷ a_function (record { at = (p 3 57); name = (codes "f"); owner = None; is_template = true; template_parameters = (tp None None ∷ tp None None ∷ []); constraints = ((concept_id (m 14 3 43) (d 0) (and_type (position_type (m 12 3 47) 1) (and_type (position_type (m 13 3 50) 0) no_argument))) ∷ []); parameters = (parameter (position_type (m 16 3 59) 0) 0 false ∷ parameter (position_type (m 17 3 62) 1) 1 false ∷ []); result = (scalar_type (m 15 3 53) scalars.Int); is_const = false; is_constexpr = false; body = Some (block (m 20 3 65) (and_statement (return_statement (m 19 3 67) (Some (literal (m 18 3 74) scalars.Int (pos 2)))) no_statement)) })
    ∷ a_function (record { at = (p 4 5); name = (codes "g"); owner = None; is_template = false; template_parameters = ([]); constraints = ([]); parameters = ([]); result = (scalar_type (m 21 4 1) scalars.Int); is_const = false; is_constexpr = false; body = Some (block (m 27 4 9) (and_statement (return_statement (m 26 4 11) (Some (call (m 25 4 18) (functions (m 22 4 18) (codes "f") 2) (and_expression (literal (m 23 4 20) scalars.Int (pos 1)) (and_expression (literal (m 24 4 23) scalars.Int (pos 2)) no_expression))))) no_statement)) })
    ∷ [])
    (((codes "f"), ((d 1) ∷ (d 2) ∷ [])) ∷ ((codes "g"), ((d 3) ∷ [])) ∷ [])
    ([])
    ((2, (is_same (m 2 1 48) (position_type (m 0 1 58) 0) (position_type (m 1 1 61) 1)))
    ∷ [])
    (around 0 (None ∷ None ∷ []) true ∷ around 21 ([]) false ∷ [])
    ([])

abbrev pub other_targets_unit_call_4_18 : Expression
other_targets_unit_call_4_18 = call (m 25 4 18) (functions (m 22 4 18) (codes "f") 2) (and_expression (literal (m 23 4 20) scalars.Int (pos 1)) (and_expression (literal (m 24 4 23) scalars.Int (pos 2)) no_expression))

-- template<typename A, typename B> concept Rel = __is_same(A, B);
-- template<typename T, typename U> requires Rel<T, U> && Rel<U, T> int f(T, U) { return 1; }
-- template<typename T, typename U> requires Rel<T, U> int f(T, U) { return 2; }
-- int g() { return f(1, 2); }
abbrev pub two_targets_unit : Program
two_targets_unit =
    unit
    (a_concept (record { at = (p 1 42); template_parameters = (tp None None ∷ tp None None ∷ []); condition = (is_same (m 2 1 48) (position_type (m 0 1 58) 0) (position_type (m 1 1 61) 1)) })
    ∷ a_function (record { at = (p 2 70); name = (codes "f"); owner = None; is_template = true; template_parameters = (tp None None ∷ tp None None ∷ []); constraints = ((binary (m 9 2 43) word.LogicalAnd (concept_id (m 5 2 43) (d 0) (and_type (position_type (m 3 2 47) 0) (and_type (position_type (m 4 2 50) 1) no_argument))) (concept_id (m 8 2 56) (d 0) (and_type (position_type (m 6 2 60) 1) (and_type (position_type (m 7 2 63) 0) no_argument)))) ∷ []); parameters = (parameter (position_type (m 11 2 72) 0) 0 false ∷ parameter (position_type (m 12 2 75) 1) 1 false ∷ []); result = (scalar_type (m 10 2 66) scalars.Int); is_const = false; is_constexpr = false; body = Some (block (m 15 2 78) (and_statement (return_statement (m 14 2 80) (Some (literal (m 13 2 87) scalars.Int (pos 1)))) no_statement)) })
    ∷ a_function (record { at = (p 3 57); name = (codes "f"); owner = None; is_template = true; template_parameters = (tp None None ∷ tp None None ∷ []); constraints = ((concept_id (m 18 3 43) (d 0) (and_type (position_type (m 16 3 47) 0) (and_type (position_type (m 17 3 50) 1) no_argument))) ∷ []); parameters = (parameter (position_type (m 20 3 59) 0) 0 false ∷ parameter (position_type (m 21 3 62) 1) 1 false ∷ []); result = (scalar_type (m 19 3 53) scalars.Int); is_const = false; is_constexpr = false; body = Some (block (m 24 3 65) (and_statement (return_statement (m 23 3 67) (Some (literal (m 22 3 74) scalars.Int (pos 2)))) no_statement)) })
    ∷ a_function (record { at = (p 4 5); name = (codes "g"); owner = None; is_template = false; template_parameters = ([]); constraints = ([]); parameters = ([]); result = (scalar_type (m 25 4 1) scalars.Int); is_const = false; is_constexpr = false; body = Some (block (m 31 4 9) (and_statement (return_statement (m 30 4 11) (Some (call (m 29 4 18) (functions (m 26 4 18) (codes "f") 2) (and_expression (literal (m 27 4 20) scalars.Int (pos 1)) (and_expression (literal (m 28 4 23) scalars.Int (pos 2)) no_expression))))) no_statement)) })
    ∷ [])
    (((codes "f"), ((d 1) ∷ (d 2) ∷ [])) ∷ ((codes "g"), ((d 3) ∷ [])) ∷ [])
    ([])
    ((2, (is_same (m 2 1 48) (position_type (m 0 1 58) 0) (position_type (m 1 1 61) 1)))
    ∷ [])
    (around 0 (None ∷ None ∷ []) true ∷ around 25 ([]) false ∷ [])
    ([])

abbrev pub two_targets_unit_call_4_18 : Expression
two_targets_unit_call_4_18 = call (m 29 4 18) (functions (m 26 4 18) (codes "f") 2) (and_expression (literal (m 27 4 20) scalars.Int (pos 1)) (and_expression (literal (m 28 4 23) scalars.Int (pos 2)) no_expression))

-- template<typename T> concept Any = true;
-- template<Any T> int g(T) { return 1; }
-- int g(int) { return 2; }
-- int a() { return g(1); }
-- int b() { return g(true); }
abbrev pub no_template_first_unit : Program
no_template_first_unit =
    unit
    (a_concept (record { at = (p 1 30); template_parameters = (tp None None ∷ []); condition = (literal (m 0 1 36) scalars.Bool (pos 1)) })
    ∷ a_function (record { at = (p 2 21); name = (codes "g"); owner = None; is_template = true; template_parameters = (tp None None ∷ []); constraints = ((concept_id (m 1 2 10) (d 0) (and_type (position_type (m 1 2 10) 0) no_argument)) ∷ []); parameters = (parameter (position_type (m 3 2 23) 0) 0 false ∷ []); result = (scalar_type (m 2 2 17) scalars.Int); is_const = false; is_constexpr = false; body = Some (block (m 6 2 26) (and_statement (return_statement (m 5 2 28) (Some (literal (m 4 2 35) scalars.Int (pos 1)))) no_statement)) })
    ∷ a_function (record { at = (p 3 5); name = (codes "g"); owner = None; is_template = false; template_parameters = ([]); constraints = ([]); parameters = (parameter (scalar_type (m 8 3 7) scalars.Int) 0 false ∷ []); result = (scalar_type (m 7 3 1) scalars.Int); is_const = false; is_constexpr = false; body = Some (block (m 11 3 12) (and_statement (return_statement (m 10 3 14) (Some (literal (m 9 3 21) scalars.Int (pos 2)))) no_statement)) })
    ∷ a_function (record { at = (p 4 5); name = (codes "a"); owner = None; is_template = false; template_parameters = ([]); constraints = ([]); parameters = ([]); result = (scalar_type (m 12 4 1) scalars.Int); is_const = false; is_constexpr = false; body = Some (block (m 17 4 9) (and_statement (return_statement (m 16 4 11) (Some (call (m 15 4 18) (functions (m 13 4 18) (codes "g") 2) (and_expression (literal (m 14 4 20) scalars.Int (pos 1)) no_expression)))) no_statement)) })
    ∷ a_function (record { at = (p 5 5); name = (codes "b"); owner = None; is_template = false; template_parameters = ([]); constraints = ([]); parameters = ([]); result = (scalar_type (m 18 5 1) scalars.Int); is_const = false; is_constexpr = false; body = Some (block (m 23 5 9) (and_statement (return_statement (m 22 5 11) (Some (call (m 21 5 18) (functions (m 19 5 18) (codes "g") 2) (and_expression (literal (m 20 5 20) scalars.Bool (pos 1)) no_expression)))) no_statement)) })
    ∷ [])
    (((codes "g"), ((d 1) ∷ (d 2) ∷ [])) ∷ ((codes "a"), ((d 3) ∷ [])) ∷ ((codes "b"), ((d 4) ∷ [])) ∷ [])
    ([])
    ((0, (literal (m 0 1 36) scalars.Bool (pos 1)))
    ∷ [])
    (around 0 (None ∷ []) true ∷ around 7 ([]) false ∷ [])
    ([])

abbrev pub no_template_first_unit_call_4_18 : Expression
no_template_first_unit_call_4_18 = call (m 15 4 18) (functions (m 13 4 18) (codes "g") 2) (and_expression (literal (m 14 4 20) scalars.Int (pos 1)) no_expression)

abbrev pub no_template_first_unit_call_5_18 : Expression
no_template_first_unit_call_5_18 = call (m 21 5 18) (functions (m 19 5 18) (codes "g") 2) (and_expression (literal (m 20 5 20) scalars.Bool (pos 1)) no_expression)

-- template<typename T> concept A = __is_same(T, int);
-- template<typename T> requires (!A<T>) int f(T) { return 1; }
-- template<typename T> requires (!A<T>) && true int f(T) { return 2; }
-- int g() { return f(true); }
abbrev pub negation_is_an_atom_unit : Program
negation_is_an_atom_unit =
    unit
    (a_concept (record { at = (p 1 30); template_parameters = (tp None None ∷ []); condition = (is_same (m 2 1 34) (position_type (m 0 1 44) 0) (scalar_type (m 1 1 47) scalars.Int)) })
    ∷ a_function (record { at = (p 2 43); name = (codes "f"); owner = None; is_template = true; template_parameters = (tp None None ∷ []); constraints = ((parentheses (m 6 2 31) (unary (m 5 2 32) word.Not (concept_id (m 4 2 33) (d 0) (and_type (position_type (m 3 2 35) 0) no_argument)))) ∷ []); parameters = (parameter (position_type (m 8 2 45) 0) 0 false ∷ []); result = (scalar_type (m 7 2 39) scalars.Int); is_const = false; is_constexpr = false; body = Some (block (m 11 2 48) (and_statement (return_statement (m 10 2 50) (Some (literal (m 9 2 57) scalars.Int (pos 1)))) no_statement)) })
    ∷ a_function (record { at = (p 3 51); name = (codes "f"); owner = None; is_template = true; template_parameters = (tp None None ∷ []); constraints = ((binary (m 17 3 31) word.LogicalAnd (parentheses (m 15 3 31) (unary (m 14 3 32) word.Not (concept_id (m 13 3 33) (d 0) (and_type (position_type (m 12 3 35) 0) no_argument)))) (literal (m 16 3 42) scalars.Bool (pos 1))) ∷ []); parameters = (parameter (position_type (m 19 3 53) 0) 0 false ∷ []); result = (scalar_type (m 18 3 47) scalars.Int); is_const = false; is_constexpr = false; body = Some (block (m 22 3 56) (and_statement (return_statement (m 21 3 58) (Some (literal (m 20 3 65) scalars.Int (pos 2)))) no_statement)) })
    ∷ a_function (record { at = (p 4 5); name = (codes "g"); owner = None; is_template = false; template_parameters = ([]); constraints = ([]); parameters = ([]); result = (scalar_type (m 23 4 1) scalars.Int); is_const = false; is_constexpr = false; body = Some (block (m 28 4 9) (and_statement (return_statement (m 27 4 11) (Some (call (m 26 4 18) (functions (m 24 4 18) (codes "f") 2) (and_expression (literal (m 25 4 20) scalars.Bool (pos 1)) no_expression)))) no_statement)) })
    ∷ [])
    (((codes "f"), ((d 1) ∷ (d 2) ∷ [])) ∷ ((codes "g"), ((d 3) ∷ [])) ∷ [])
    ([])
    ((2, (is_same (m 2 1 34) (position_type (m 0 1 44) 0) (scalar_type (m 1 1 47) scalars.Int)))
    ∷ (5, (unary (m 5 2 32) word.Not (concept_id (m 4 2 33) (d 0) (and_type (position_type (m 3 2 35) 0) no_argument))))
    ∷ (14, (unary (m 14 3 32) word.Not (concept_id (m 13 3 33) (d 0) (and_type (position_type (m 12 3 35) 0) no_argument))))
    ∷ (16, (literal (m 16 3 42) scalars.Bool (pos 1)))
    ∷ [])
    (around 0 (None ∷ []) true ∷ around 23 ([]) false ∷ [])
    ([])

abbrev pub negation_is_an_atom_unit_call_4_18 : Expression
negation_is_an_atom_unit_call_4_18 = call (m 26 4 18) (functions (m 24 4 18) (codes "f") 2) (and_expression (literal (m 25 4 20) scalars.Bool (pos 1)) no_expression)

-- template<typename T> concept N = !__is_same(T, int);
-- template<typename T> concept M = N<T> && true;
-- template<N T> int f(T) { return 1; }
-- template<M T> int f(T) { return 2; }
-- int g() { return f(true); }
abbrev pub through_concepts_unit : Program
through_concepts_unit =
    unit
    (a_concept (record { at = (p 1 30); template_parameters = (tp None None ∷ []); condition = (unary (m 3 1 34) word.Not (is_same (m 2 1 35) (position_type (m 0 1 45) 0) (scalar_type (m 1 1 48) scalars.Int))) })
    ∷ a_concept (record { at = (p 2 30); template_parameters = (tp None None ∷ []); condition = (binary (m 7 2 34) word.LogicalAnd (concept_id (m 5 2 34) (d 0) (and_type (position_type (m 4 2 36) 0) no_argument)) (literal (m 6 2 42) scalars.Bool (pos 1))) })
    ∷ a_function (record { at = (p 3 19); name = (codes "f"); owner = None; is_template = true; template_parameters = (tp None None ∷ []); constraints = ((concept_id (m 8 3 10) (d 0) (and_type (position_type (m 8 3 10) 0) no_argument)) ∷ []); parameters = (parameter (position_type (m 10 3 21) 0) 0 false ∷ []); result = (scalar_type (m 9 3 15) scalars.Int); is_const = false; is_constexpr = false; body = Some (block (m 13 3 24) (and_statement (return_statement (m 12 3 26) (Some (literal (m 11 3 33) scalars.Int (pos 1)))) no_statement)) })
    ∷ a_function (record { at = (p 4 19); name = (codes "f"); owner = None; is_template = true; template_parameters = (tp None None ∷ []); constraints = ((concept_id (m 14 4 10) (d 1) (and_type (position_type (m 14 4 10) 0) no_argument)) ∷ []); parameters = (parameter (position_type (m 16 4 21) 0) 0 false ∷ []); result = (scalar_type (m 15 4 15) scalars.Int); is_const = false; is_constexpr = false; body = Some (block (m 19 4 24) (and_statement (return_statement (m 18 4 26) (Some (literal (m 17 4 33) scalars.Int (pos 2)))) no_statement)) })
    ∷ a_function (record { at = (p 5 5); name = (codes "g"); owner = None; is_template = false; template_parameters = ([]); constraints = ([]); parameters = ([]); result = (scalar_type (m 20 5 1) scalars.Int); is_const = false; is_constexpr = false; body = Some (block (m 25 5 9) (and_statement (return_statement (m 24 5 11) (Some (call (m 23 5 18) (functions (m 21 5 18) (codes "f") 2) (and_expression (literal (m 22 5 20) scalars.Bool (pos 1)) no_expression)))) no_statement)) })
    ∷ [])
    (((codes "f"), ((d 2) ∷ (d 3) ∷ [])) ∷ ((codes "g"), ((d 4) ∷ [])) ∷ [])
    ([])
    ((3, (unary (m 3 1 34) word.Not (is_same (m 2 1 35) (position_type (m 0 1 45) 0) (scalar_type (m 1 1 48) scalars.Int))))
    ∷ (6, (literal (m 6 2 42) scalars.Bool (pos 1)))
    ∷ [])
    (around 0 (None ∷ []) true ∷ around 20 ([]) false ∷ [])
    ([])

abbrev pub through_concepts_unit_call_5_18 : Expression
through_concepts_unit_call_5_18 = call (m 23 5 18) (functions (m 21 5 18) (codes "f") 2) (and_expression (literal (m 22 5 20) scalars.Bool (pos 1)) no_expression)

-- template<typename T> concept A = true;
-- template<typename T> int f(T) { return 1; }
-- template<A T> int f(T) { return 2; }
-- int g() { return f(1); }
abbrev pub unconstrained_unit : Program
unconstrained_unit =
    unit
    (a_concept (record { at = (p 1 30); template_parameters = (tp None None ∷ []); condition = (literal (m 0 1 34) scalars.Bool (pos 1)) })
    ∷ a_function (record { at = (p 2 26); name = (codes "f"); owner = None; is_template = true; template_parameters = (tp None None ∷ []); constraints = ([]); parameters = (parameter (position_type (m 2 2 28) 0) 0 false ∷ []); result = (scalar_type (m 1 2 22) scalars.Int); is_const = false; is_constexpr = false; body = Some (block (m 5 2 31) (and_statement (return_statement (m 4 2 33) (Some (literal (m 3 2 40) scalars.Int (pos 1)))) no_statement)) })
    ∷ a_function (record { at = (p 3 19); name = (codes "f"); owner = None; is_template = true; template_parameters = (tp None None ∷ []); constraints = ((concept_id (m 6 3 10) (d 0) (and_type (position_type (m 6 3 10) 0) no_argument)) ∷ []); parameters = (parameter (position_type (m 8 3 21) 0) 0 false ∷ []); result = (scalar_type (m 7 3 15) scalars.Int); is_const = false; is_constexpr = false; body = Some (block (m 11 3 24) (and_statement (return_statement (m 10 3 26) (Some (literal (m 9 3 33) scalars.Int (pos 2)))) no_statement)) })
    ∷ a_function (record { at = (p 4 5); name = (codes "g"); owner = None; is_template = false; template_parameters = ([]); constraints = ([]); parameters = ([]); result = (scalar_type (m 12 4 1) scalars.Int); is_const = false; is_constexpr = false; body = Some (block (m 17 4 9) (and_statement (return_statement (m 16 4 11) (Some (call (m 15 4 18) (functions (m 13 4 18) (codes "f") 2) (and_expression (literal (m 14 4 20) scalars.Int (pos 1)) no_expression)))) no_statement)) })
    ∷ [])
    (((codes "f"), ((d 1) ∷ (d 2) ∷ [])) ∷ ((codes "g"), ((d 3) ∷ [])) ∷ [])
    ([])
    ((0, (literal (m 0 1 34) scalars.Bool (pos 1)))
    ∷ [])
    (around 0 (None ∷ []) true ∷ around 12 ([]) false ∷ [])
    ([])

abbrev pub unconstrained_unit_call_4_18 : Expression
unconstrained_unit_call_4_18 = call (m 15 4 18) (functions (m 13 4 18) (codes "f") 2) (and_expression (literal (m 14 4 20) scalars.Int (pos 1)) no_expression)

-- template<typename T> concept A = __is_same(T, int) || __is_same(T, bool);
-- template<typename T> concept B = A<T> && __is_same(T, int);
-- int f(A auto x) { return 1; }
-- int f(B auto x) { return 2; }
-- int g() { return f(1); }
-- int h() { return f(true); }
abbrev pub abbreviated_unit : Program
abbreviated_unit =
    unit
    (a_concept (record { at = (p 1 30); template_parameters = (tp None None ∷ []); condition = (binary (m 6 1 34) word.LogicalOr (is_same (m 2 1 34) (position_type (m 0 1 44) 0) (scalar_type (m 1 1 47) scalars.Int)) (is_same (m 5 1 55) (position_type (m 3 1 65) 0) (scalar_type (m 4 1 68) scalars.Bool))) })
    ∷ a_concept (record { at = (p 2 30); template_parameters = (tp None None ∷ []); condition = (binary (m 12 2 34) word.LogicalAnd (concept_id (m 8 2 34) (d 0) (and_type (position_type (m 7 2 36) 0) no_argument)) (is_same (m 11 2 42) (position_type (m 9 2 52) 0) (scalar_type (m 10 2 55) scalars.Int))) })
    ∷ a_function (record { at = (p 3 5); name = (codes "f"); owner = None; is_template = true; template_parameters = (tp None None ∷ []); constraints = ((concept_id (m 14 3 7) (d 0) (and_type (position_type (m 14 3 7) 0) no_argument)) ∷ []); parameters = (parameter (position_type (m 15 3 7) 0) 0 true ∷ []); result = (scalar_type (m 13 3 1) scalars.Int); is_const = false; is_constexpr = false; body = Some (block (m 18 3 17) (and_statement (return_statement (m 17 3 19) (Some (literal (m 16 3 26) scalars.Int (pos 1)))) no_statement)) })
    ∷ a_function (record { at = (p 4 5); name = (codes "f"); owner = None; is_template = true; template_parameters = (tp None None ∷ []); constraints = ((concept_id (m 20 4 7) (d 1) (and_type (position_type (m 20 4 7) 0) no_argument)) ∷ []); parameters = (parameter (position_type (m 21 4 7) 0) 0 true ∷ []); result = (scalar_type (m 19 4 1) scalars.Int); is_const = false; is_constexpr = false; body = Some (block (m 24 4 17) (and_statement (return_statement (m 23 4 19) (Some (literal (m 22 4 26) scalars.Int (pos 2)))) no_statement)) })
    ∷ a_function (record { at = (p 5 5); name = (codes "g"); owner = None; is_template = false; template_parameters = ([]); constraints = ([]); parameters = ([]); result = (scalar_type (m 25 5 1) scalars.Int); is_const = false; is_constexpr = false; body = Some (block (m 30 5 9) (and_statement (return_statement (m 29 5 11) (Some (call (m 28 5 18) (functions (m 26 5 18) (codes "f") 2) (and_expression (literal (m 27 5 20) scalars.Int (pos 1)) no_expression)))) no_statement)) })
    ∷ a_function (record { at = (p 6 5); name = (codes "h"); owner = None; is_template = false; template_parameters = ([]); constraints = ([]); parameters = ([]); result = (scalar_type (m 31 6 1) scalars.Int); is_const = false; is_constexpr = false; body = Some (block (m 36 6 9) (and_statement (return_statement (m 35 6 11) (Some (call (m 34 6 18) (functions (m 32 6 18) (codes "f") 2) (and_expression (literal (m 33 6 20) scalars.Bool (pos 1)) no_expression)))) no_statement)) })
    ∷ [])
    (((codes "f"), ((d 2) ∷ (d 3) ∷ [])) ∷ ((codes "g"), ((d 4) ∷ [])) ∷ ((codes "h"), ((d 5) ∷ [])) ∷ [])
    ([])
    ((2, (is_same (m 2 1 34) (position_type (m 0 1 44) 0) (scalar_type (m 1 1 47) scalars.Int)))
    ∷ (5, (is_same (m 5 1 55) (position_type (m 3 1 65) 0) (scalar_type (m 4 1 68) scalars.Bool)))
    ∷ (11, (is_same (m 11 2 42) (position_type (m 9 2 52) 0) (scalar_type (m 10 2 55) scalars.Int)))
    ∷ [])
    (around 0 (None ∷ []) true ∷ around 13 ([]) false ∷ around 14 (None ∷ []) false ∷ around 16 (None ∷ []) true ∷ around 19 ([]) false ∷ around 20 (None ∷ []) false ∷ around 22 (None ∷ []) true ∷ around 25 ([]) false ∷ [])
    ([])

abbrev pub abbreviated_unit_call_5_18 : Expression
abbreviated_unit_call_5_18 = call (m 28 5 18) (functions (m 26 5 18) (codes "f") 2) (and_expression (literal (m 27 5 20) scalars.Int (pos 1)) no_expression)

abbrev pub abbreviated_unit_call_6_18 : Expression
abbreviated_unit_call_6_18 = call (m 34 6 18) (functions (m 32 6 18) (codes "f") 2) (and_expression (literal (m 33 6 20) scalars.Bool (pos 1)) no_expression)

-- template<typename T, typename U> concept Same = __is_same(T, U);
-- template<Same<int> T> int f(T) { return 1; }
-- template<typename T> int f(T) { return 2; }
-- int g() { return f(1); }
-- int h() { return f(true); }
abbrev pub further_arguments_unit : Program
further_arguments_unit =
    unit
    (a_concept (record { at = (p 1 42); template_parameters = (tp None None ∷ tp None None ∷ []); condition = (is_same (m 2 1 49) (position_type (m 0 1 59) 0) (position_type (m 1 1 62) 1)) })
    ∷ a_function (record { at = (p 2 27); name = (codes "f"); owner = None; is_template = true; template_parameters = (tp None None ∷ []); constraints = ((concept_id (m 4 2 10) (d 0) (and_type (position_type (m 4 2 10) 0) (and_type (scalar_type (m 3 2 15) scalars.Int) no_argument))) ∷ []); parameters = (parameter (position_type (m 6 2 29) 0) 0 false ∷ []); result = (scalar_type (m 5 2 23) scalars.Int); is_const = false; is_constexpr = false; body = Some (block (m 9 2 32) (and_statement (return_statement (m 8 2 34) (Some (literal (m 7 2 41) scalars.Int (pos 1)))) no_statement)) })
    ∷ a_function (record { at = (p 3 26); name = (codes "f"); owner = None; is_template = true; template_parameters = (tp None None ∷ []); constraints = ([]); parameters = (parameter (position_type (m 11 3 28) 0) 0 false ∷ []); result = (scalar_type (m 10 3 22) scalars.Int); is_const = false; is_constexpr = false; body = Some (block (m 14 3 31) (and_statement (return_statement (m 13 3 33) (Some (literal (m 12 3 40) scalars.Int (pos 2)))) no_statement)) })
    ∷ a_function (record { at = (p 4 5); name = (codes "g"); owner = None; is_template = false; template_parameters = ([]); constraints = ([]); parameters = ([]); result = (scalar_type (m 15 4 1) scalars.Int); is_const = false; is_constexpr = false; body = Some (block (m 20 4 9) (and_statement (return_statement (m 19 4 11) (Some (call (m 18 4 18) (functions (m 16 4 18) (codes "f") 2) (and_expression (literal (m 17 4 20) scalars.Int (pos 1)) no_expression)))) no_statement)) })
    ∷ a_function (record { at = (p 5 5); name = (codes "h"); owner = None; is_template = false; template_parameters = ([]); constraints = ([]); parameters = ([]); result = (scalar_type (m 21 5 1) scalars.Int); is_const = false; is_constexpr = false; body = Some (block (m 26 5 9) (and_statement (return_statement (m 25 5 11) (Some (call (m 24 5 18) (functions (m 22 5 18) (codes "f") 2) (and_expression (literal (m 23 5 20) scalars.Bool (pos 1)) no_expression)))) no_statement)) })
    ∷ [])
    (((codes "f"), ((d 1) ∷ (d 2) ∷ [])) ∷ ((codes "g"), ((d 3) ∷ [])) ∷ ((codes "h"), ((d 4) ∷ [])) ∷ [])
    ([])
    ((2, (is_same (m 2 1 49) (position_type (m 0 1 59) 0) (position_type (m 1 1 62) 1)))
    ∷ [])
    (around 0 (None ∷ None ∷ []) true ∷ around 3 (None ∷ []) true ∷ around 15 ([]) false ∷ [])
    ([])

abbrev pub further_arguments_unit_call_4_18 : Expression
further_arguments_unit_call_4_18 = call (m 18 4 18) (functions (m 16 4 18) (codes "f") 2) (and_expression (literal (m 17 4 20) scalars.Int (pos 1)) no_expression)

abbrev pub further_arguments_unit_call_5_18 : Expression
further_arguments_unit_call_5_18 = call (m 24 5 18) (functions (m 22 5 18) (codes "f") 2) (and_expression (literal (m 23 5 20) scalars.Bool (pos 1)) no_expression)
