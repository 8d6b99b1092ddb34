-- Calls as expressions ([expr.call]), and names that are not called.
use Rattle.std.specs.Prelude.{pos, true, false, [], ◌∷◌, Some, None, codes}
use Rattle.cx_base.specs.declared.value.Scalar.TheVariants as scalars
use Rattle.cx_term.specs.Term.{scalar, struct, const, ref}
use Rattle.cx_term.specs.declared.word.Word.TheVariants as word
use Rattle.cx_questions.specs.Forms.{Expression, literal, local_name, constant_name, functions_name, other_name, parentheses, unary, binary, dot, call, list, is_same, concept_id, requires, no_expression, and_expression, functions, object_functions, no_function, position_type, scalar_type, void_type, struct_type, const_type, reference_type, decltype_type, no_argument, and_type, no_parameter, and_parameter, no_requirement, and_simple, and_nested, as_type, braces, block, return_statement, variable, expression_statement, no_statement, and_statement}
use Rattle.cx_questions.specs.Program.{Program, a_function, a_struct, a_concept, a_constant, a_field, field, member_function}
use Rattle.cx_questions.specs.Environments.{Environment}
use Rattle.worked_units.specs.Units.{p, d, m, tp, parameter, around, unit}

-- struct S { int x; };
-- int& place(int& x) { return x; }
-- const S& look(const S& s) { return s; }
-- S make() { return S{}; }
-- const S wrong() { return S{}; }
-- void nothing() { }
-- template<typename A, typename B> concept Is = __is_same(A, B);
-- static_assert(Is<decltype((make())), S>);
-- static_assert(Is<decltype((nothing())), void>);
-- template<typename T> concept Place = requires(T& t) { requires Is<decltype((place(t))), int&>; place(t) = 1; ++place(t); };
-- template<typename T> concept Look = requires(const T& t) { requires Is<decltype((look(t).x)), const int&>; requires Is<decltype((look(t))), const T&>; };
-- template<typename T> concept Assigns = requires(const T& t) { look(t) = t; };
-- template<typename T> concept MakesInt = requires { make().x + 1; };
-- static_assert(Place<int>);
-- static_assert(Place<bool>);
-- static_assert(Look<S>);
-- static_assert(Assigns<S>);
-- static_assert(MakesInt<S>);
-- static_assert(Is<decltype(wrong()), S>);
abbrev pub results_unit : Program
results_unit =
    unit
    (a_struct (record { at = (p 1 8); itself = (struct (d 0)); is_template = false; template_parameters = ([]); constraints = ([]); primary = None; specialised_for = ([]); members = (field (codes "x") (scalar_type (m 0 1 12) scalars.Int) ∷ []) })
    ∷ a_field 0 (scalar_type (m 0 1 12) scalars.Int)
    ∷ a_function (record { at = (p 2 6); name = (codes "place"); owner = None; is_template = false; template_parameters = ([]); constraints = ([]); parameters = (parameter (reference_type (m 2 2 12) (scalar_type (m 2 2 12) scalars.Int)) 0 true ∷ []); result = (reference_type (m 1 2 1) (scalar_type (m 1 2 1) scalars.Int)); is_const = false; is_constexpr = false; body = Some (block (m 5 2 20) (and_statement (return_statement (m 4 2 22) (Some (local_name (m 3 2 29) 0))) no_statement)) })
    ∷ a_function (record { at = (p 3 10); name = (codes "look"); owner = None; is_template = false; template_parameters = ([]); constraints = ([]); parameters = (parameter (reference_type (m 7 3 15) (const_type (m 7 3 15) (struct_type (m 7 3 15) (d 0)))) 0 true ∷ []); result = (reference_type (m 6 3 1) (const_type (m 6 3 1) (struct_type (m 6 3 1) (d 0)))); is_const = false; is_constexpr = false; body = Some (block (m 10 3 27) (and_statement (return_statement (m 9 3 29) (Some (local_name (m 8 3 36) 0))) no_statement)) })
    ∷ a_function (record { at = (p 4 3); name = (codes "make"); owner = None; is_template = false; template_parameters = ([]); constraints = ([]); parameters = ([]); result = (struct_type (m 11 4 1) (d 0)); is_const = false; is_constexpr = false; body = Some (block (m 15 4 10) (and_statement (return_statement (m 14 4 12) (Some (list (m 13 4 19) (struct_type (m 12 4 19) (d 0)) no_expression))) no_statement)) })
    ∷ a_function (record { at = (p 5 9); name = (codes "wrong"); owner = None; is_template = false; template_parameters = ([]); constraints = ([]); parameters = ([]); result = (const_type (m 16 5 1) (struct_type (m 16 5 1) (d 0))); is_const = false; is_constexpr = false; body = Some (block (m 20 5 17) (and_statement (return_statement (m 19 5 19) (Some (list (m 18 5 26) (struct_type (m 17 5 26) (d 0)) no_expression))) no_statement)) })
    ∷ a_function (record { at = (p 6 6); name = (codes "nothing"); owner = None; is_template = false; template_parameters = ([]); constraints = ([]); parameters = ([]); result = (void_type (m 21 6 1)); is_const = false; is_constexpr = false; body = Some (block (m 22 6 16) no_statement) })
    ∷ a_concept (record { at = (p 7 42); template_parameters = (tp None None ∷ tp None None ∷ []); condition = (is_same (m 25 7 47) (position_type (m 23 7 57) 0) (position_type (m 24 7 60) 1)) })
    ∷ a_concept (record { at = (p 10 30); template_parameters = (tp None None ∷ []); condition = (requires (m 58 10 38) (and_parameter (m 41 10 50) (reference_type (m 40 10 47) (position_type (m 40 10 47) 0)) 0 true no_parameter) (and_nested (concept_id (m 48 10 64) (d 7) (and_type (decltype_type (m 46 10 67) (parentheses (m 45 10 76) (call (m 44 10 77) (functions (m 42 10 77) (codes "place") 1) (and_expression (local_name (m 43 10 83) 0) no_expression)))) (and_type (reference_type (m 47 10 89) (scalar_type (m 47 10 89) scalars.Int)) no_argument))) (and_simple (binary (m 53 10 96) word.Assign (call (m 51 10 96) (functions (m 49 10 96) (codes "place") 1) (and_expression (local_name (m 50 10 102) 0) no_expression)) (literal (m 52 10 107) scalars.Int (pos 1))) (and_simple (unary (m 57 10 110) word.PreIncrement (call (m 56 10 112) (functions (m 54 10 112) (codes "place") 1) (and_expression (local_name (m 55 10 118) 0) no_expression))) no_requirement)))) })
    ∷ a_concept (record { at = (p 11 30); template_parameters = (tp None None ∷ []); condition = (requires (m 76 11 37) (and_parameter (m 60 11 55) (reference_type (m 59 11 46) (const_type (m 59 11 46) (position_type (m 59 11 46) 0))) 0 true no_parameter) (and_nested (concept_id (m 68 11 69) (d 7) (and_type (decltype_type (m 66 11 72) (parentheses (m 65 11 81) (dot (m 64 11 82) (call (m 63 11 82) (functions (m 61 11 82) (codes "look") 1) (and_expression (local_name (m 62 11 87) 0) no_expression)) (codes "x")))) (and_type (reference_type (m 67 11 95) (const_type (m 67 11 95) (scalar_type (m 67 11 95) scalars.Int))) no_argument))) (and_nested (concept_id (m 75 11 117) (d 7) (and_type (decltype_type (m 73 11 120) (parentheses (m 72 11 129) (call (m 71 11 130) (functions (m 69 11 130) (codes "look") 1) (and_expression (local_name (m 70 11 135) 0) no_expression)))) (and_type (reference_type (m 74 11 141) (const_type (m 74 11 141) (position_type (m 74 11 141) 0))) no_argument))) no_requirement))) })
    ∷ a_concept (record { at = (p 12 30); template_parameters = (tp None None ∷ []); condition = (requires (m 84 12 40) (and_parameter (m 78 12 58) (reference_type (m 77 12 49) (const_type (m 77 12 49) (position_type (m 77 12 49) 0))) 0 true no_parameter) (and_simple (binary (m 83 12 63) word.Assign (call (m 81 12 63) (functions (m 79 12 63) (codes "look") 1) (and_expression (local_name (m 80 12 68) 0) no_expression)) (local_name (m 82 12 73) 0)) no_requirement)) })
    ∷ a_concept (record { at = (p 13 30); template_parameters = (tp None None ∷ []); condition = (requires (m 90 13 41) no_parameter (and_simple (binary (m 89 13 52) word.Plus (dot (m 87 13 52) (call (m 86 13 52) (functions (m 85 13 52) (codes "make") 1) no_expression) (codes "x")) (literal (m 88 13 63) scalars.Int (pos 1))) no_requirement)) })
    ∷ [])
    (((codes "place"), ((d 2) ∷ [])) ∷ ((codes "look"), ((d 3) ∷ [])) ∷ ((codes "make"), ((d 4) ∷ [])) ∷ ((codes "wrong"), ((d 5) ∷ [])) ∷ ((codes "nothing"), ((d 6) ∷ [])) ∷ [])
    ([])
    ((25, (is_same (m 25 7 47) (position_type (m 23 7 57) 0) (position_type (m 24 7 60) 1)))
    ∷ (58, (requires (m 58 10 38) (and_parameter (m 41 10 50) (reference_type (m 40 10 47) (position_type (m 40 10 47) 0)) 0 true no_parameter) (and_nested (concept_id (m 48 10 64) (d 7) (and_type (decltype_type (m 46 10 67) (parentheses (m 45 10 76) (call (m 44 10 77) (functions (m 42 10 77) (codes "place") 1) (and_expression (local_name (m 43 10 83) 0) no_expression)))) (and_type (reference_type (m 47 10 89) (scalar_type (m 47 10 89) scalars.Int)) no_argument))) (and_simple (binary (m 53 10 96) word.Assign (call (m 51 10 96) (functions (m 49 10 96) (codes "place") 1) (and_expression (local_name (m 50 10 102) 0) no_expression)) (literal (m 52 10 107) scalars.Int (pos 1))) (and_simple (unary (m 57 10 110) word.PreIncrement (call (m 56 10 112) (functions (m 54 10 112) (codes "place") 1) (and_expression (local_name (m 55 10 118) 0) no_expression))) no_requirement)))))
    ∷ (76, (requires (m 76 11 37) (and_parameter (m 60 11 55) (reference_type (m 59 11 46) (const_type (m 59 11 46) (position_type (m 59 11 46) 0))) 0 true no_parameter) (and_nested (concept_id (m 68 11 69) (d 7) (and_type (decltype_type (m 66 11 72) (parentheses (m 65 11 81) (dot (m 64 11 82) (call (m 63 11 82) (functions (m 61 11 82) (codes "look") 1) (and_expression (local_name (m 62 11 87) 0) no_expression)) (codes "x")))) (and_type (reference_type (m 67 11 95) (const_type (m 67 11 95) (scalar_type (m 67 11 95) scalars.Int))) no_argument))) (and_nested (concept_id (m 75 11 117) (d 7) (and_type (decltype_type (m 73 11 120) (parentheses (m 72 11 129) (call (m 71 11 130) (functions (m 69 11 130) (codes "look") 1) (and_expression (local_name (m 70 11 135) 0) no_expression)))) (and_type (reference_type (m 74 11 141) (const_type (m 74 11 141) (position_type (m 74 11 141) 0))) no_argument))) no_requirement))))
    ∷ (84, (requires (m 84 12 40) (and_parameter (m 78 12 58) (reference_type (m 77 12 49) (const_type (m 77 12 49) (position_type (m 77 12 49) 0))) 0 true no_parameter) (and_simple (binary (m 83 12 63) word.Assign (call (m 81 12 63) (functions (m 79 12 63) (codes "look") 1) (and_expression (local_name (m 80 12 68) 0) no_expression)) (local_name (m 82 12 73) 0)) no_requirement)))
    ∷ (90, (requires (m 90 13 41) no_parameter (and_simple (binary (m 89 13 52) word.Plus (dot (m 87 13 52) (call (m 86 13 52) (functions (m 85 13 52) (codes "make") 1) no_expression) (codes "x")) (literal (m 88 13 63) scalars.Int (pos 1))) no_requirement)))
    ∷ [])
    (around 0 ([]) false ∷ around 23 (None ∷ None ∷ []) true ∷ around 26 ([]) false ∷ around 40 (None ∷ []) true ∷ around 91 ([]) false ∷ [])
    ([])

abbrev pub results_unit_assert_8_1 : Expression
results_unit_assert_8_1 = concept_id (m 31 8 15) (d 7) (and_type (decltype_type (m 29 8 18) (parentheses (m 28 8 27) (call (m 27 8 28) (functions (m 26 8 28) (codes "make") 1) no_expression))) (and_type (struct_type (m 30 8 38) (d 0)) no_argument))

abbrev pub results_unit_assert_9_1 : Expression
results_unit_assert_9_1 = concept_id (m 38 9 15) (d 7) (and_type (decltype_type (m 36 9 18) (parentheses (m 35 9 27) (call (m 34 9 28) (functions (m 33 9 28) (codes "nothing") 1) no_expression))) (and_type (void_type (m 37 9 41)) no_argument))

abbrev pub results_unit_assert_14_1 : Expression
results_unit_assert_14_1 = concept_id (m 92 14 15) (d 8) (and_type (scalar_type (m 91 14 21) scalars.Int) no_argument)

abbrev pub results_unit_assert_15_1 : Expression
results_unit_assert_15_1 = concept_id (m 95 15 15) (d 8) (and_type (scalar_type (m 94 15 21) scalars.Bool) no_argument)

abbrev pub results_unit_assert_16_1 : Expression
results_unit_assert_16_1 = concept_id (m 98 16 15) (d 9) (and_type (struct_type (m 97 16 20) (d 0)) no_argument)

abbrev pub results_unit_assert_17_1 : Expression
results_unit_assert_17_1 = concept_id (m 101 17 15) (d 10) (and_type (struct_type (m 100 17 23) (d 0)) no_argument)

abbrev pub results_unit_assert_18_1 : Expression
results_unit_assert_18_1 = concept_id (m 104 18 15) (d 11) (and_type (struct_type (m 103 18 24) (d 0)) no_argument)

abbrev pub results_unit_assert_19_1 : Expression
results_unit_assert_19_1 = concept_id (m 110 19 15) (d 7) (and_type (decltype_type (m 108 19 18) (call (m 107 19 27) (functions (m 106 19 27) (codes "wrong") 1) no_expression)) (and_type (struct_type (m 109 19 37) (d 0)) no_argument))

-- int f(int) { return 1; }
-- struct S { int x; int g() { return 1; } };
-- constexpr int n = 1;
-- template<typename T> concept C = true;
-- template<typename T> concept CallsConstant = requires(T t) { n(t); };
-- template<typename T> concept CallsLocal = requires(T t) { t(t); };
-- template<typename T> concept CallsField = requires(T t) { t.x(); };
-- template<typename T> concept NamesFunction = requires(T t) { f + t; };
-- template<typename T> concept NamesConcept = requires(T t) { C + t; };
-- template<typename T> concept BadArgument = requires(T t) { n(t.none); };
-- static_assert(CallsConstant<int>);
-- static_assert(CallsLocal<int>);
-- static_assert(CallsField<S>);
-- static_assert(CallsField<int>);
-- static_assert(NamesFunction<int>);
-- static_assert(NamesConcept<int>);
-- static_assert(BadArgument<S>);
-- static_assert(n(1) == 1);
abbrev pub names_not_called_unit : Program
names_not_called_unit =
    unit
    (a_function (record { at = (p 1 5); name = (codes "f"); owner = None; is_template = false; template_parameters = ([]); constraints = ([]); parameters = (parameter (scalar_type (m 1 1 7) scalars.Int) 0 false ∷ []); result = (scalar_type (m 0 1 1) scalars.Int); is_const = false; is_constexpr = false; body = Some (block (m 4 1 12) (and_statement (return_statement (m 3 1 14) (Some (literal (m 2 1 21) scalars.Int (pos 1)))) no_statement)) })
    ∷ a_struct (record { at = (p 2 8); itself = (struct (d 1)); is_template = false; template_parameters = ([]); constraints = ([]); primary = None; specialised_for = ([]); members = (field (codes "x") (scalar_type (m 5 2 12) scalars.Int) ∷ member_function (codes "g") (d 3) ∷ []) })
    ∷ a_field 0 (scalar_type (m 5 2 12) scalars.Int)
    ∷ a_function (record { at = (p 2 23); name = (codes "g"); owner = (Some (d 1)); is_template = false; template_parameters = ([]); constraints = ([]); parameters = ([]); result = (scalar_type (m 6 2 19) scalars.Int); is_const = false; is_constexpr = false; body = Some (block (m 9 2 27) (and_statement (return_statement (m 8 2 29) (Some (literal (m 7 2 36) scalars.Int (pos 1)))) no_statement)) })
    ∷ a_constant (record { at = (p 3 15); name = (codes "n"); of = (scalar_type (m 10 3 11) scalars.Int); initialiser = (literal (m 11 3 19) scalars.Int (pos 1)); owner = None })
    ∷ a_concept (record { at = (p 4 30); template_parameters = (tp None None ∷ []); condition = (literal (m 12 4 34) scalars.Bool (pos 1)) })
    ∷ a_concept (record { at = (p 5 30); template_parameters = (tp None None ∷ []); condition = (requires (m 18 5 46) (and_parameter (m 14 5 57) (position_type (m 13 5 55) 0) 0 true no_parameter) (and_simple (call (m 17 5 62) (no_function (constant_name (m 15 5 62) (d 4))) (and_expression (local_name (m 16 5 64) 0) no_expression)) no_requirement)) })
    ∷ a_concept (record { at = (p 6 30); template_parameters = (tp None None ∷ []); condition = (requires (m 24 6 43) (and_parameter (m 20 6 54) (position_type (m 19 6 52) 0) 0 true no_parameter) (and_simple (call (m 23 6 59) (no_function (local_name (m 21 6 59) 0)) (and_expression (local_name (m 22 6 61) 0) no_expression)) no_requirement)) })
    ∷ a_concept (record { at = (p 7 30); template_parameters = (tp None None ∷ []); condition = (requires (m 30 7 43) (and_parameter (m 26 7 54) (position_type (m 25 7 52) 0) 0 true no_parameter) (and_simple (call (m 29 7 59) (object_functions (m 28 7 59) (local_name (m 27 7 59) 0) (codes "x")) no_expression) no_requirement)) })
    ∷ a_concept (record { at = (p 8 30); template_parameters = (tp None None ∷ []); condition = (requires (m 36 8 46) (and_parameter (m 32 8 57) (position_type (m 31 8 55) 0) 0 true no_parameter) (and_simple (binary (m 35 8 62) word.Plus (functions_name (m 33 8 62) (codes "f") 1) (local_name (m 34 8 66) 0)) no_requirement)) })
    ∷ a_concept (record { at = (p 9 30); template_parameters = (tp None None ∷ []); condition = (requires (m 42 9 45) (and_parameter (m 38 9 56) (position_type (m 37 9 54) 0) 0 true no_parameter) (and_simple (binary (m 41 9 61) word.Plus (other_name (m 39 9 61) (d 5)) (local_name (m 40 9 65) 0)) no_requirement)) })
    ∷ a_concept (record { at = (p 10 30); template_parameters = (tp None None ∷ []); condition = (requires (m 49 10 44) (and_parameter (m 44 10 55) (position_type (m 43 10 53) 0) 0 true no_parameter) (and_simple (call (m 48 10 60) (no_function (constant_name (m 45 10 60) (d 4))) (and_expression (dot (m 47 10 62) (local_name (m 46 10 62) 0) (codes "none")) no_expression)) no_requirement)) })
    ∷ [])
    (((codes "f"), ((d 0) ∷ [])) ∷ [])
    ([])
    ((12, (literal (m 12 4 34) scalars.Bool (pos 1)))
    ∷ (18, (requires (m 18 5 46) (and_parameter (m 14 5 57) (position_type (m 13 5 55) 0) 0 true no_parameter) (and_simple (call (m 17 5 62) (no_function (constant_name (m 15 5 62) (d 4))) (and_expression (local_name (m 16 5 64) 0) no_expression)) no_requirement)))
    ∷ (24, (requires (m 24 6 43) (and_parameter (m 20 6 54) (position_type (m 19 6 52) 0) 0 true no_parameter) (and_simple (call (m 23 6 59) (no_function (local_name (m 21 6 59) 0)) (and_expression (local_name (m 22 6 61) 0) no_expression)) no_requirement)))
    ∷ (30, (requires (m 30 7 43) (and_parameter (m 26 7 54) (position_type (m 25 7 52) 0) 0 true no_parameter) (and_simple (call (m 29 7 59) (object_functions (m 28 7 59) (local_name (m 27 7 59) 0) (codes "x")) no_expression) no_requirement)))
    ∷ (36, (requires (m 36 8 46) (and_parameter (m 32 8 57) (position_type (m 31 8 55) 0) 0 true no_parameter) (and_simple (binary (m 35 8 62) word.Plus (functions_name (m 33 8 62) (codes "f") 1) (local_name (m 34 8 66) 0)) no_requirement)))
    ∷ (42, (requires (m 42 9 45) (and_parameter (m 38 9 56) (position_type (m 37 9 54) 0) 0 true no_parameter) (and_simple (binary (m 41 9 61) word.Plus (other_name (m 39 9 61) (d 5)) (local_name (m 40 9 65) 0)) no_requirement)))
    ∷ (49, (requires (m 49 10 44) (and_parameter (m 44 10 55) (position_type (m 43 10 53) 0) 0 true no_parameter) (and_simple (call (m 48 10 60) (no_function (constant_name (m 45 10 60) (d 4))) (and_expression (dot (m 47 10 62) (local_name (m 46 10 62) 0) (codes "none")) no_expression)) no_requirement)))
    ∷ [])
    (around 0 ([]) false ∷ around 12 (None ∷ []) true ∷ around 50 ([]) false ∷ [])
    ([])

abbrev pub names_not_called_unit_assert_11_1 : Expression
names_not_called_unit_assert_11_1 = concept_id (m 51 11 15) (d 6) (and_type (scalar_type (m 50 11 29) scalars.Int) no_argument)

abbrev pub names_not_called_unit_assert_12_1 : Expression
names_not_called_unit_assert_12_1 = concept_id (m 54 12 15) (d 7) (and_type (scalar_type (m 53 12 26) scalars.Int) no_argument)

abbrev pub names_not_called_unit_assert_13_1 : Expression
names_not_called_unit_assert_13_1 = concept_id (m 57 13 15) (d 8) (and_type (struct_type (m 56 13 26) (d 1)) no_argument)

abbrev pub names_not_called_unit_assert_14_1 : Expression
names_not_called_unit_assert_14_1 = concept_id (m 60 14 15) (d 8) (and_type (scalar_type (m 59 14 26) scalars.Int) no_argument)

abbrev pub names_not_called_unit_assert_15_1 : Expression
names_not_called_unit_assert_15_1 = concept_id (m 63 15 15) (d 9) (and_type (scalar_type (m 62 15 29) scalars.Int) no_argument)

abbrev pub names_not_called_unit_assert_16_1 : Expression
names_not_called_unit_assert_16_1 = concept_id (m 66 16 15) (d 10) (and_type (scalar_type (m 65 16 28) scalars.Int) no_argument)

abbrev pub names_not_called_unit_assert_17_1 : Expression
names_not_called_unit_assert_17_1 = concept_id (m 69 17 15) (d 11) (and_type (struct_type (m 68 17 27) (d 1)) no_argument)

abbrev pub names_not_called_unit_assert_18_1 : Expression
names_not_called_unit_assert_18_1 = binary (m 75 18 15) word.Equal (call (m 73 18 15) (no_function (constant_name (m 71 18 15) (d 4))) (and_expression (literal (m 72 18 17) scalars.Int (pos 1)) no_expression)) (literal (m 74 18 23) scalars.Int (pos 1))

-- struct P { int x; bool b; };
-- int first(const P& p) { return p.x; }
-- int first(int x) { return x; }
-- int h(P& p) { return 1; }
-- int h(const P& p) { return 2; }
-- int g(int n, const P& c, P& m) {
--   P p{4};
--   const P q{5};
--   first(p);
--   first(n);
--   first(c.x);
--   h(p);
--   h(q);
--   h(c);
--   h(m);
--   h(P{});
--   first(c.b);
--   return first(P{4});
-- }
abbrev pub bodies_and_locals_unit : Program
bodies_and_locals_unit =
    unit
    (a_struct (record { at = (p 1 8); itself = (struct (d 0)); is_template = false; template_parameters = ([]); constraints = ([]); primary = None; specialised_for = ([]); members = (field (codes "x") (scalar_type (m 0 1 12) scalars.Int) ∷ field (codes "b") (scalar_type (m 1 1 19) scalars.Bool) ∷ []) })
    ∷ a_field 0 (scalar_type (m 0 1 12) scalars.Int)
    ∷ a_field 1 (scalar_type (m 1 1 19) scalars.Bool)
    ∷ a_function (record { at = (p 2 5); name = (codes "first"); owner = None; is_template = false; template_parameters = ([]); constraints = ([]); parameters = (parameter (reference_type (m 3 2 11) (const_type (m 3 2 11) (struct_type (m 3 2 11) (d 0)))) 0 true ∷ []); result = (scalar_type (m 2 2 1) scalars.Int); is_const = false; is_constexpr = false; body = Some (block (m 7 2 23) (and_statement (return_statement (m 6 2 25) (Some (dot (m 5 2 32) (local_name (m 4 2 32) 0) (codes "x")))) no_statement)) })
    ∷ a_function (record { at = (p 3 5); name = (codes "first"); owner = None; is_template = false; template_parameters = ([]); constraints = ([]); parameters = (parameter (scalar_type (m 9 3 11) scalars.Int) 0 true ∷ []); result = (scalar_type (m 8 3 1) scalars.Int); is_const = false; is_constexpr = false; body = Some (block (m 12 3 18) (and_statement (return_statement (m 11 3 20) (Some (local_name (m 10 3 27) 0))) no_statement)) })
    ∷ a_function (record { at = (p 4 5); name = (codes "h"); owner = None; is_template = false; template_parameters = ([]); constraints = ([]); parameters = (parameter (reference_type (m 14 4 7) (struct_type (m 14 4 7) (d 0))) 0 true ∷ []); result = (scalar_type (m 13 4 1) scalars.Int); is_const = false; is_constexpr = false; body = Some (block (m 17 4 13) (and_statement (return_statement (m 16 4 15) (Some (literal (m 15 4 22) scalars.Int (pos 1)))) no_statement)) })
    ∷ a_function (record { at = (p 5 5); name = (codes "h"); owner = None; is_template = false; template_parameters = ([]); constraints = ([]); parameters = (parameter (reference_type (m 19 5 7) (const_type (m 19 5 7) (struct_type (m 19 5 7) (d 0)))) 0 true ∷ []); result = (scalar_type (m 18 5 1) scalars.Int); is_const = false; is_constexpr = false; body = Some (block (m 22 5 19) (and_statement (return_statement (m 21 5 21) (Some (literal (m 20 5 28) scalars.Int (pos 2)))) no_statement)) })
    ∷ a_function (record { at = (p 6 5); name = (codes "g"); owner = None; is_template = false; template_parameters = ([]); constraints = ([]); parameters = (parameter (scalar_type (m 24 6 7) scalars.Int) 0 true ∷ parameter (reference_type (m 25 6 14) (const_type (m 25 6 14) (struct_type (m 25 6 14) (d 0)))) 1 true ∷ parameter (reference_type (m 26 6 26) (struct_type (m 26 6 26) (d 0))) 2 true ∷ []); result = (scalar_type (m 23 6 1) scalars.Int); is_const = false; is_constexpr = false; body = Some (block (m 80 6 32) (and_statement (variable (m 30 7 3) false (as_type (struct_type (m 27 7 3) (d 0))) 3 (braces (m 29 7 6) (and_expression (literal (m 28 7 7) scalars.Int (pos 4)) no_expression))) (and_statement (variable (m 34 8 3) false (as_type (const_type (m 31 8 3) (struct_type (m 31 8 3) (d 0)))) 4 (braces (m 33 8 12) (and_expression (literal (m 32 8 13) scalars.Int (pos 5)) no_expression))) (and_statement (expression_statement (m 38 9 3) (call (m 37 9 3) (functions (m 35 9 3) (codes "first") 2) (and_expression (local_name (m 36 9 9) 3) no_expression))) (and_statement (expression_statement (m 42 10 3) (call (m 41 10 3) (functions (m 39 10 3) (codes "first") 2) (and_expression (local_name (m 40 10 9) 0) no_expression))) (and_statement (expression_statement (m 47 11 3) (call (m 46 11 3) (functions (m 43 11 3) (codes "first") 2) (and_expression (dot (m 45 11 9) (local_name (m 44 11 9) 1) (codes "x")) no_expression))) (and_statement (expression_statement (m 51 12 3) (call (m 50 12 3) (functions (m 48 12 3) (codes "h") 2) (and_expression (local_name (m 49 12 5) 3) no_expression))) (and_statement (expression_statement (m 55 13 3) (call (m 54 13 3) (functions (m 52 13 3) (codes "h") 2) (and_expression (local_name (m 53 13 5) 4) no_expression))) (and_statement (expression_statement (m 59 14 3) (call (m 58 14 3) (functions (m 56 14 3) (codes "h") 2) (and_expression (local_name (m 57 14 5) 1) no_expression))) (and_statement (expression_statement (m 63 15 3) (call (m 62 15 3) (functions (m 60 15 3) (codes "h") 2) (and_expression (local_name (m 61 15 5) 2) no_expression))) (and_statement (expression_statement (m 68 16 3) (call (m 67 16 3) (functions (m 64 16 3) (codes "h") 2) (and_expression (list (m 66 16 5) (struct_type (m 65 16 5) (d 0)) no_expression) no_expression))) (and_statement (expression_statement (m 73 17 3) (call (m 72 17 3) (functions (m 69 17 3) (codes "first") 2) (and_expression (dot (m 71 17 9) (local_name (m 70 17 9) 1) (codes "b")) no_expression))) (and_statement (return_statement (m 79 18 3) (Some (call (m 78 18 10) (functions (m 74 18 10) (codes "first") 2) (and_expression (list (m 77 18 16) (struct_type (m 75 18 16) (d 0)) (and_expression (literal (m 76 18 18) scalars.Int (pos 4)) no_expression)) no_expression)))) no_statement))))))))))))) })
    ∷ [])
    (((codes "first"), ((d 3) ∷ (d 4) ∷ [])) ∷ ((codes "h"), ((d 5) ∷ (d 6) ∷ [])) ∷ ((codes "g"), ((d 7) ∷ [])) ∷ [])
    ([])
    ([])
    (around 0 ([]) false ∷ [])
    ([])

abbrev pub bodies_and_locals_unit_call_9_3 : Expression
bodies_and_locals_unit_call_9_3 = call (m 37 9 3) (functions (m 35 9 3) (codes "first") 2) (and_expression (local_name (m 36 9 9) 3) no_expression)

abbrev pub bodies_and_locals_unit_locals_9_3 : Environment
bodies_and_locals_unit_locals_9_3 = record { arguments = []; variables = (Some (record { of = (scalar scalars.Int); value = None }) ∷ Some (record { of = (ref (const (struct (d 0)))); value = None }) ∷ Some (record { of = (ref (struct (d 0))); value = None }) ∷ Some (record { of = (struct (d 0)); value = None }) ∷ Some (record { of = (const (struct (d 0))); value = None }) ∷ []); object = None }

abbrev pub bodies_and_locals_unit_call_10_3 : Expression
bodies_and_locals_unit_call_10_3 = call (m 41 10 3) (functions (m 39 10 3) (codes "first") 2) (and_expression (local_name (m 40 10 9) 0) no_expression)

abbrev pub bodies_and_locals_unit_locals_10_3 : Environment
bodies_and_locals_unit_locals_10_3 = record { arguments = []; variables = (Some (record { of = (scalar scalars.Int); value = None }) ∷ Some (record { of = (ref (const (struct (d 0)))); value = None }) ∷ Some (record { of = (ref (struct (d 0))); value = None }) ∷ Some (record { of = (struct (d 0)); value = None }) ∷ Some (record { of = (const (struct (d 0))); value = None }) ∷ []); object = None }

abbrev pub bodies_and_locals_unit_call_11_3 : Expression
bodies_and_locals_unit_call_11_3 = call (m 46 11 3) (functions (m 43 11 3) (codes "first") 2) (and_expression (dot (m 45 11 9) (local_name (m 44 11 9) 1) (codes "x")) no_expression)

abbrev pub bodies_and_locals_unit_locals_11_3 : Environment
bodies_and_locals_unit_locals_11_3 = record { arguments = []; variables = (Some (record { of = (scalar scalars.Int); value = None }) ∷ Some (record { of = (ref (const (struct (d 0)))); value = None }) ∷ Some (record { of = (ref (struct (d 0))); value = None }) ∷ Some (record { of = (struct (d 0)); value = None }) ∷ Some (record { of = (const (struct (d 0))); value = None }) ∷ []); object = None }

abbrev pub bodies_and_locals_unit_call_12_3 : Expression
bodies_and_locals_unit_call_12_3 = call (m 50 12 3) (functions (m 48 12 3) (codes "h") 2) (and_expression (local_name (m 49 12 5) 3) no_expression)

abbrev pub bodies_and_locals_unit_locals_12_3 : Environment
bodies_and_locals_unit_locals_12_3 = record { arguments = []; variables = (Some (record { of = (scalar scalars.Int); value = None }) ∷ Some (record { of = (ref (const (struct (d 0)))); value = None }) ∷ Some (record { of = (ref (struct (d 0))); value = None }) ∷ Some (record { of = (struct (d 0)); value = None }) ∷ Some (record { of = (const (struct (d 0))); value = None }) ∷ []); object = None }

abbrev pub bodies_and_locals_unit_call_13_3 : Expression
bodies_and_locals_unit_call_13_3 = call (m 54 13 3) (functions (m 52 13 3) (codes "h") 2) (and_expression (local_name (m 53 13 5) 4) no_expression)

abbrev pub bodies_and_locals_unit_locals_13_3 : Environment
bodies_and_locals_unit_locals_13_3 = record { arguments = []; variables = (Some (record { of = (scalar scalars.Int); value = None }) ∷ Some (record { of = (ref (const (struct (d 0)))); value = None }) ∷ Some (record { of = (ref (struct (d 0))); value = None }) ∷ Some (record { of = (struct (d 0)); value = None }) ∷ Some (record { of = (const (struct (d 0))); value = None }) ∷ []); object = None }

abbrev pub bodies_and_locals_unit_call_14_3 : Expression
bodies_and_locals_unit_call_14_3 = call (m 58 14 3) (functions (m 56 14 3) (codes "h") 2) (and_expression (local_name (m 57 14 5) 1) no_expression)

abbrev pub bodies_and_locals_unit_locals_14_3 : Environment
bodies_and_locals_unit_locals_14_3 = record { arguments = []; variables = (Some (record { of = (scalar scalars.Int); value = None }) ∷ Some (record { of = (ref (const (struct (d 0)))); value = None }) ∷ Some (record { of = (ref (struct (d 0))); value = None }) ∷ Some (record { of = (struct (d 0)); value = None }) ∷ Some (record { of = (const (struct (d 0))); value = None }) ∷ []); object = None }

abbrev pub bodies_and_locals_unit_call_15_3 : Expression
bodies_and_locals_unit_call_15_3 = call (m 62 15 3) (functions (m 60 15 3) (codes "h") 2) (and_expression (local_name (m 61 15 5) 2) no_expression)

abbrev pub bodies_and_locals_unit_locals_15_3 : Environment
bodies_and_locals_unit_locals_15_3 = record { arguments = []; variables = (Some (record { of = (scalar scalars.Int); value = None }) ∷ Some (record { of = (ref (const (struct (d 0)))); value = None }) ∷ Some (record { of = (ref (struct (d 0))); value = None }) ∷ Some (record { of = (struct (d 0)); value = None }) ∷ Some (record { of = (const (struct (d 0))); value = None }) ∷ []); object = None }

abbrev pub bodies_and_locals_unit_call_16_3 : Expression
bodies_and_locals_unit_call_16_3 = call (m 67 16 3) (functions (m 64 16 3) (codes "h") 2) (and_expression (list (m 66 16 5) (struct_type (m 65 16 5) (d 0)) no_expression) no_expression)

abbrev pub bodies_and_locals_unit_locals_16_3 : Environment
bodies_and_locals_unit_locals_16_3 = record { arguments = []; variables = (Some (record { of = (scalar scalars.Int); value = None }) ∷ Some (record { of = (ref (const (struct (d 0)))); value = None }) ∷ Some (record { of = (ref (struct (d 0))); value = None }) ∷ Some (record { of = (struct (d 0)); value = None }) ∷ Some (record { of = (const (struct (d 0))); value = None }) ∷ []); object = None }

abbrev pub bodies_and_locals_unit_call_17_3 : Expression
bodies_and_locals_unit_call_17_3 = call (m 72 17 3) (functions (m 69 17 3) (codes "first") 2) (and_expression (dot (m 71 17 9) (local_name (m 70 17 9) 1) (codes "b")) no_expression)

abbrev pub bodies_and_locals_unit_locals_17_3 : Environment
bodies_and_locals_unit_locals_17_3 = record { arguments = []; variables = (Some (record { of = (scalar scalars.Int); value = None }) ∷ Some (record { of = (ref (const (struct (d 0)))); value = None }) ∷ Some (record { of = (ref (struct (d 0))); value = None }) ∷ Some (record { of = (struct (d 0)); value = None }) ∷ Some (record { of = (const (struct (d 0))); value = None }) ∷ []); object = None }

abbrev pub bodies_and_locals_unit_call_18_10 : Expression
bodies_and_locals_unit_call_18_10 = call (m 78 18 10) (functions (m 74 18 10) (codes "first") 2) (and_expression (list (m 77 18 16) (struct_type (m 75 18 16) (d 0)) (and_expression (literal (m 76 18 18) scalars.Int (pos 4)) no_expression)) no_expression)

abbrev pub bodies_and_locals_unit_locals_18_10 : Environment
bodies_and_locals_unit_locals_18_10 = record { arguments = []; variables = (Some (record { of = (scalar scalars.Int); value = None }) ∷ Some (record { of = (ref (const (struct (d 0)))); value = None }) ∷ Some (record { of = (ref (struct (d 0))); value = None }) ∷ Some (record { of = (struct (d 0)); value = None }) ∷ Some (record { of = (const (struct (d 0))); value = None }) ∷ []); object = None }
