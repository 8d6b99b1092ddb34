-- Types and categories of expressions ([expr]), by decltype of parenthesised expressions and by requirements.
use Rattle.std.specs.Prelude.{pos, true, false, [], ◌∷◌, Some, None, codes}
use Rattle.cx_base.specs.declared.value.Scalar.TheVariants as scalars
use Rattle.cx_term.specs.Term.{struct}
use Rattle.cx_term.specs.declared.word.Word.TheVariants as word
use Rattle.cx_questions.specs.Forms.{Expression, literal, local_name, constant_name, parentheses, unary, binary, conditional, dot, scope, list, cast, is_same, out, concept_id, requires, no_expression, and_expression, position_type, scalar_type, void_type, struct_type, const_type, reference_type, member_type, decltype_type, no_argument, and_type, no_parameter, and_parameter, no_requirement, and_simple, and_type_requirement, and_nested, block, return_statement, no_statement, and_statement}
use Rattle.cx_questions.specs.Program.{Program, a_function, a_struct, a_concept, a_constant, a_field, field, member_alias, static_constant, member_function}
use Rattle.worked_units.specs.Units.{p, d, m, tp, around, unit}

-- constexpr int n = 1;
-- struct S { int x; static constexpr long long c = 3; };
-- template<typename T, typename U> concept Is = __is_same(T, U);
-- static_assert(Is<decltype((1)), int>);
-- static_assert(Is<decltype((1u)), unsigned>);
-- static_assert(Is<decltype((1ll)), long long>);
-- static_assert(Is<decltype((4294967296)), long long>);
-- static_assert(Is<decltype((0x80000000)), unsigned>);
-- static_assert(Is<decltype((true)), bool>);
-- static_assert(Is<decltype((n)), const int&>);
-- static_assert(Is<decltype(n), const int>);
-- static_assert(Is<decltype((S::c)), const long long&>);
-- static_assert(Is<decltype(S::c), const long long>);
abbrev pub literals_and_names_unit : Program
literals_and_names_unit =
    unit
    (a_constant (record { at = (p 1 15); name = (codes "n"); of = (scalar_type (m 0 1 11) scalars.Int); initialiser = (literal (m 1 1 19) scalars.Int (pos 1)); owner = None })
    ∷ a_struct (record { at = (p 2 8); itself = (struct (d 1)); is_template = false; template_parameters = ([]); constraints = ([]); primary = None; specialised_for = ([]); members = (field (codes "x") (scalar_type (m 2 2 12) scalars.Int) ∷ static_constant (codes "c") (d 3) ∷ []) })
    ∷ a_field 0 (scalar_type (m 2 2 12) scalars.Int)
    ∷ a_constant (record { at = (p 2 46); name = (codes "c"); of = (scalar_type (m 3 2 36) scalars.LongLong); initialiser = (literal (m 4 2 50) scalars.Int (pos 3)); owner = (Some (d 1)) })
    ∷ a_concept (record { at = (p 3 42); template_parameters = (tp None None ∷ tp None None ∷ []); condition = (is_same (m 7 3 47) (position_type (m 5 3 57) 0) (position_type (m 6 3 60) 1)) })
    ∷ [])
    ([])
    ([])
    ((7, (is_same (m 7 3 47) (position_type (m 5 3 57) 0) (position_type (m 6 3 60) 1)))
    ∷ [])
    (around 0 ([]) false ∷ around 5 (None ∷ None ∷ []) true ∷ around 8 ([]) false ∷ [])
    ([])

abbrev pub literals_and_names_unit_assert_4_1 : Expression
literals_and_names_unit_assert_4_1 = concept_id (m 12 4 15) (d 4) (and_type (decltype_type (m 10 4 18) (parentheses (m 9 4 27) (literal (m 8 4 28) scalars.Int (pos 1)))) (and_type (scalar_type (m 11 4 33) scalars.Int) no_argument))

abbrev pub literals_and_names_unit_assert_5_1 : Expression
literals_and_names_unit_assert_5_1 = concept_id (m 18 5 15) (d 4) (and_type (decltype_type (m 16 5 18) (parentheses (m 15 5 27) (literal (m 14 5 28) scalars.Unsigned (pos 1)))) (and_type (scalar_type (m 17 5 34) scalars.Unsigned) no_argument))

abbrev pub literals_and_names_unit_assert_6_1 : Expression
literals_and_names_unit_assert_6_1 = concept_id (m 24 6 15) (d 4) (and_type (decltype_type (m 22 6 18) (parentheses (m 21 6 27) (literal (m 20 6 28) scalars.LongLong (pos 1)))) (and_type (scalar_type (m 23 6 35) scalars.LongLong) no_argument))

abbrev pub literals_and_names_unit_assert_7_1 : Expression
literals_and_names_unit_assert_7_1 = concept_id (m 30 7 15) (d 4) (and_type (decltype_type (m 28 7 18) (parentheses (m 27 7 27) (literal (m 26 7 28) scalars.LongLong (pos 4294967296)))) (and_type (scalar_type (m 29 7 42) scalars.LongLong) no_argument))

abbrev pub literals_and_names_unit_assert_8_1 : Expression
literals_and_names_unit_assert_8_1 = concept_id (m 36 8 15) (d 4) (and_type (decltype_type (m 34 8 18) (parentheses (m 33 8 27) (literal (m 32 8 28) scalars.Unsigned (pos 2147483648)))) (and_type (scalar_type (m 35 8 42) scalars.Unsigned) no_argument))

abbrev pub literals_and_names_unit_assert_9_1 : Expression
literals_and_names_unit_assert_9_1 = concept_id (m 42 9 15) (d 4) (and_type (decltype_type (m 40 9 18) (parentheses (m 39 9 27) (literal (m 38 9 28) scalars.Bool (pos 1)))) (and_type (scalar_type (m 41 9 36) scalars.Bool) no_argument))

abbrev pub literals_and_names_unit_assert_10_1 : Expression
literals_and_names_unit_assert_10_1 = concept_id (m 48 10 15) (d 4) (and_type (decltype_type (m 46 10 18) (parentheses (m 45 10 27) (constant_name (m 44 10 28) (d 0)))) (and_type (reference_type (m 47 10 33) (const_type (m 47 10 33) (scalar_type (m 47 10 33) scalars.Int))) no_argument))

abbrev pub literals_and_names_unit_assert_11_1 : Expression
literals_and_names_unit_assert_11_1 = concept_id (m 53 11 15) (d 4) (and_type (decltype_type (m 51 11 18) (constant_name (m 50 11 27) (d 0))) (and_type (const_type (m 52 11 31) (scalar_type (m 52 11 31) scalars.Int)) no_argument))

abbrev pub literals_and_names_unit_assert_12_1 : Expression
literals_and_names_unit_assert_12_1 = concept_id (m 60 12 15) (d 4) (and_type (decltype_type (m 58 12 18) (parentheses (m 57 12 27) (scope (m 56 12 28) (struct_type (m 55 12 28) (d 1)) ([]) (codes "c")))) (and_type (reference_type (m 59 12 36) (const_type (m 59 12 36) (scalar_type (m 59 12 36) scalars.LongLong))) no_argument))

abbrev pub literals_and_names_unit_assert_13_1 : Expression
literals_and_names_unit_assert_13_1 = concept_id (m 66 13 15) (d 4) (and_type (decltype_type (m 64 13 18) (scope (m 63 13 27) (struct_type (m 62 13 27) (d 1)) ([]) (codes "c"))) (and_type (const_type (m 65 13 34) (scalar_type (m 65 13 34) scalars.LongLong)) no_argument))

-- struct S { const int y; };
-- template<typename A> concept Absent = requires(A a) { a.z; };
-- static_assert(Absent<S>);
abbrev pub const_field_unit : Program
const_field_unit =
    unit
    (a_struct (record { at = (p 1 8); itself = (struct (d 0)); is_template = false; template_parameters = ([]); constraints = ([]); primary = None; specialised_for = ([]); members = (field (codes "y") (const_type (m 0 1 12) (scalar_type (m 0 1 12) scalars.Int)) ∷ []) })
    ∷ a_field 0 (const_type (m 0 1 12) (scalar_type (m 0 1 12) scalars.Int))
    ∷ a_concept (record { at = (p 2 30); template_parameters = (tp None None ∷ []); condition = (requires (m 5 2 39) (and_parameter (m 2 2 50) (position_type (m 1 2 48) 0) 0 true no_parameter) (and_simple (dot (m 4 2 55) (local_name (m 3 2 55) 0) (codes "z")) no_requirement)) })
    ∷ [])
    ([])
    ([])
    ((5, (requires (m 5 2 39) (and_parameter (m 2 2 50) (position_type (m 1 2 48) 0) 0 true no_parameter) (and_simple (dot (m 4 2 55) (local_name (m 3 2 55) 0) (codes "z")) no_requirement)))
    ∷ [])
    (around 0 ([]) false ∷ around 1 (None ∷ []) true ∷ around 6 ([]) false ∷ [])
    ([])

abbrev pub const_field_unit_assert_3_1 : Expression
const_field_unit_assert_3_1 = concept_id (m 7 3 15) (d 2) (and_type (struct_type (m 6 3 22) (d 0)) no_argument)

-- struct S { int x; };
-- struct T { S s; bool b; };
-- template<typename A, typename B> concept Is = __is_same(A, B);
-- template<typename A> concept Variable = requires(A a, const A& r, A& l) { requires Is<decltype(a), A>; requires Is<decltype((a)), A&>; requires Is<decltype(r), const A&>; requires Is<decltype((r)), const A&>; requires Is<decltype(l), A&>; };
-- template<typename A> concept Member = requires(A a, const A& r) { requires Is<decltype((a.b)), bool&>; requires Is<decltype(a.b), bool>; requires Is<decltype((r.b)), const bool&>; requires Is<decltype(r.b), bool>; requires Is<decltype((r.s.x)), const int&>; };
-- template<typename A> concept OfValue = requires { requires Is<decltype(A{}.b), bool>; };
-- template<typename A> concept XValue = requires { requires Is<decltype((A{}.b)), bool>; };
-- template<typename A> concept Absent = requires(A a) { a.z; };
-- template<typename A> concept OfScalar = requires(A a) { a.b; };
-- static_assert(Variable<int>);
-- static_assert(Member<T>);
-- static_assert(OfValue<T>);
-- static_assert(XValue<T>);
-- static_assert(Absent<T>);
-- static_assert(OfScalar<int>);
abbrev pub parameters_and_members_unit : Program
parameters_and_members_unit =
    unit
    (a_struct (record { at = (p 1 8); itself = (struct (d 0)); is_template = false; template_parameters = ([]); constraints = ([]); primary = None; specialised_for = ([]); members = (field (codes "x") (scalar_type (m 0 1 12) scalars.Int) ∷ []) })
    ∷ a_field 0 (scalar_type (m 0 1 12) scalars.Int)
    ∷ a_struct (record { at = (p 2 8); itself = (struct (d 2)); is_template = false; template_parameters = ([]); constraints = ([]); primary = None; specialised_for = ([]); members = (field (codes "s") (struct_type (m 1 2 12) (d 0)) ∷ field (codes "b") (scalar_type (m 2 2 17) scalars.Bool) ∷ []) })
    ∷ a_field 0 (struct_type (m 1 2 12) (d 0))
    ∷ a_field 1 (scalar_type (m 2 2 17) scalars.Bool)
    ∷ a_concept (record { at = (p 3 42); template_parameters = (tp None None ∷ tp None None ∷ []); condition = (is_same (m 5 3 47) (position_type (m 3 3 57) 0) (position_type (m 4 3 60) 1)) })
    ∷ a_concept (record { at = (p 4 30); template_parameters = (tp None None ∷ []); condition = (requires (m 34 4 41) (and_parameter (m 7 4 52) (position_type (m 6 4 50) 0) 0 true (and_parameter (m 9 4 64) (reference_type (m 8 4 55) (const_type (m 8 4 55) (position_type (m 8 4 55) 0))) 1 true (and_parameter (m 11 4 70) (reference_type (m 10 4 67) (position_type (m 10 4 67) 0)) 2 true no_parameter))) (and_nested (concept_id (m 15 4 84) (d 5) (and_type (decltype_type (m 13 4 87) (local_name (m 12 4 96) 0)) (and_type (position_type (m 14 4 100) 0) no_argument))) (and_nested (concept_id (m 20 4 113) (d 5) (and_type (decltype_type (m 18 4 116) (parentheses (m 17 4 125) (local_name (m 16 4 126) 0))) (and_type (reference_type (m 19 4 131) (position_type (m 19 4 131) 0)) no_argument))) (and_nested (concept_id (m 24 4 145) (d 5) (and_type (decltype_type (m 22 4 148) (local_name (m 21 4 157) 1)) (and_type (reference_type (m 23 4 161) (const_type (m 23 4 161) (position_type (m 23 4 161) 0))) no_argument))) (and_nested (concept_id (m 29 4 181) (d 5) (and_type (decltype_type (m 27 4 184) (parentheses (m 26 4 193) (local_name (m 25 4 194) 1))) (and_type (reference_type (m 28 4 199) (const_type (m 28 4 199) (position_type (m 28 4 199) 0))) no_argument))) (and_nested (concept_id (m 33 4 219) (d 5) (and_type (decltype_type (m 31 4 222) (local_name (m 30 4 231) 2)) (and_type (reference_type (m 32 4 235) (position_type (m 32 4 235) 0)) no_argument))) no_requirement)))))) })
    ∷ a_concept (record { at = (p 5 30); template_parameters = (tp None None ∷ []); condition = (requires (m 68 5 39) (and_parameter (m 36 5 50) (position_type (m 35 5 48) 0) 0 true (and_parameter (m 38 5 62) (reference_type (m 37 5 53) (const_type (m 37 5 53) (position_type (m 37 5 53) 0))) 1 true no_parameter)) (and_nested (concept_id (m 44 5 76) (d 5) (and_type (decltype_type (m 42 5 79) (parentheses (m 41 5 88) (dot (m 40 5 89) (local_name (m 39 5 89) 0) (codes "b")))) (and_type (reference_type (m 43 5 96) (scalar_type (m 43 5 96) scalars.Bool)) no_argument))) (and_nested (concept_id (m 49 5 113) (d 5) (and_type (decltype_type (m 47 5 116) (dot (m 46 5 125) (local_name (m 45 5 125) 0) (codes "b"))) (and_type (scalar_type (m 48 5 131) scalars.Bool) no_argument))) (and_nested (concept_id (m 55 5 147) (d 5) (and_type (decltype_type (m 53 5 150) (parentheses (m 52 5 159) (dot (m 51 5 160) (local_name (m 50 5 160) 1) (codes "b")))) (and_type (reference_type (m 54 5 167) (const_type (m 54 5 167) (scalar_type (m 54 5 167) scalars.Bool))) no_argument))) (and_nested (concept_id (m 60 5 190) (d 5) (and_type (decltype_type (m 58 5 193) (dot (m 57 5 202) (local_name (m 56 5 202) 1) (codes "b"))) (and_type (scalar_type (m 59 5 208) scalars.Bool) no_argument))) (and_nested (concept_id (m 67 5 224) (d 5) (and_type (decltype_type (m 65 5 227) (parentheses (m 64 5 236) (dot (m 63 5 237) (dot (m 62 5 237) (local_name (m 61 5 237) 1) (codes "s")) (codes "x")))) (and_type (reference_type (m 66 5 246) (const_type (m 66 5 246) (scalar_type (m 66 5 246) scalars.Int))) no_argument))) no_requirement)))))) })
    ∷ a_concept (record { at = (p 6 30); template_parameters = (tp None None ∷ []); condition = (requires (m 75 6 40) no_parameter (and_nested (concept_id (m 74 6 60) (d 5) (and_type (decltype_type (m 72 6 63) (dot (m 71 6 72) (list (m 70 6 72) (position_type (m 69 6 72) 0) no_expression) (codes "b"))) (and_type (scalar_type (m 73 6 80) scalars.Bool) no_argument))) no_requirement)) })
    ∷ a_concept (record { at = (p 7 30); template_parameters = (tp None None ∷ []); condition = (requires (m 83 7 39) no_parameter (and_nested (concept_id (m 82 7 59) (d 5) (and_type (decltype_type (m 80 7 62) (parentheses (m 79 7 71) (dot (m 78 7 72) (list (m 77 7 72) (position_type (m 76 7 72) 0) no_expression) (codes "b")))) (and_type (scalar_type (m 81 7 81) scalars.Bool) no_argument))) no_requirement)) })
    ∷ a_concept (record { at = (p 8 30); template_parameters = (tp None None ∷ []); condition = (requires (m 88 8 39) (and_parameter (m 85 8 50) (position_type (m 84 8 48) 0) 0 true no_parameter) (and_simple (dot (m 87 8 55) (local_name (m 86 8 55) 0) (codes "z")) no_requirement)) })
    ∷ a_concept (record { at = (p 9 30); template_parameters = (tp None None ∷ []); condition = (requires (m 93 9 41) (and_parameter (m 90 9 52) (position_type (m 89 9 50) 0) 0 true no_parameter) (and_simple (dot (m 92 9 57) (local_name (m 91 9 57) 0) (codes "b")) no_requirement)) })
    ∷ [])
    ([])
    ([])
    ((5, (is_same (m 5 3 47) (position_type (m 3 3 57) 0) (position_type (m 4 3 60) 1)))
    ∷ (34, (requires (m 34 4 41) (and_parameter (m 7 4 52) (position_type (m 6 4 50) 0) 0 true (and_parameter (m 9 4 64) (reference_type (m 8 4 55) (const_type (m 8 4 55) (position_type (m 8 4 55) 0))) 1 true (and_parameter (m 11 4 70) (reference_type (m 10 4 67) (position_type (m 10 4 67) 0)) 2 true no_parameter))) (and_nested (concept_id (m 15 4 84) (d 5) (and_type (decltype_type (m 13 4 87) (local_name (m 12 4 96) 0)) (and_type (position_type (m 14 4 100) 0) no_argument))) (and_nested (concept_id (m 20 4 113) (d 5) (and_type (decltype_type (m 18 4 116) (parentheses (m 17 4 125) (local_name (m 16 4 126) 0))) (and_type (reference_type (m 19 4 131) (position_type (m 19 4 131) 0)) no_argument))) (and_nested (concept_id (m 24 4 145) (d 5) (and_type (decltype_type (m 22 4 148) (local_name (m 21 4 157) 1)) (and_type (reference_type (m 23 4 161) (const_type (m 23 4 161) (position_type (m 23 4 161) 0))) no_argument))) (and_nested (concept_id (m 29 4 181) (d 5) (and_type (decltype_type (m 27 4 184) (parentheses (m 26 4 193) (local_name (m 25 4 194) 1))) (and_type (reference_type (m 28 4 199) (const_type (m 28 4 199) (position_type (m 28 4 199) 0))) no_argument))) (and_nested (concept_id (m 33 4 219) (d 5) (and_type (decltype_type (m 31 4 222) (local_name (m 30 4 231) 2)) (and_type (reference_type (m 32 4 235) (position_type (m 32 4 235) 0)) no_argument))) no_requirement)))))))
    ∷ (68, (requires (m 68 5 39) (and_parameter (m 36 5 50) (position_type (m 35 5 48) 0) 0 true (and_parameter (m 38 5 62) (reference_type (m 37 5 53) (const_type (m 37 5 53) (position_type (m 37 5 53) 0))) 1 true no_parameter)) (and_nested (concept_id (m 44 5 76) (d 5) (and_type (decltype_type (m 42 5 79) (parentheses (m 41 5 88) (dot (m 40 5 89) (local_name (m 39 5 89) 0) (codes "b")))) (and_type (reference_type (m 43 5 96) (scalar_type (m 43 5 96) scalars.Bool)) no_argument))) (and_nested (concept_id (m 49 5 113) (d 5) (and_type (decltype_type (m 47 5 116) (dot (m 46 5 125) (local_name (m 45 5 125) 0) (codes "b"))) (and_type (scalar_type (m 48 5 131) scalars.Bool) no_argument))) (and_nested (concept_id (m 55 5 147) (d 5) (and_type (decltype_type (m 53 5 150) (parentheses (m 52 5 159) (dot (m 51 5 160) (local_name (m 50 5 160) 1) (codes "b")))) (and_type (reference_type (m 54 5 167) (const_type (m 54 5 167) (scalar_type (m 54 5 167) scalars.Bool))) no_argument))) (and_nested (concept_id (m 60 5 190) (d 5) (and_type (decltype_type (m 58 5 193) (dot (m 57 5 202) (local_name (m 56 5 202) 1) (codes "b"))) (and_type (scalar_type (m 59 5 208) scalars.Bool) no_argument))) (and_nested (concept_id (m 67 5 224) (d 5) (and_type (decltype_type (m 65 5 227) (parentheses (m 64 5 236) (dot (m 63 5 237) (dot (m 62 5 237) (local_name (m 61 5 237) 1) (codes "s")) (codes "x")))) (and_type (reference_type (m 66 5 246) (const_type (m 66 5 246) (scalar_type (m 66 5 246) scalars.Int))) no_argument))) no_requirement)))))))
    ∷ (75, (requires (m 75 6 40) no_parameter (and_nested (concept_id (m 74 6 60) (d 5) (and_type (decltype_type (m 72 6 63) (dot (m 71 6 72) (list (m 70 6 72) (position_type (m 69 6 72) 0) no_expression) (codes "b"))) (and_type (scalar_type (m 73 6 80) scalars.Bool) no_argument))) no_requirement)))
    ∷ (83, (requires (m 83 7 39) no_parameter (and_nested (concept_id (m 82 7 59) (d 5) (and_type (decltype_type (m 80 7 62) (parentheses (m 79 7 71) (dot (m 78 7 72) (list (m 77 7 72) (position_type (m 76 7 72) 0) no_expression) (codes "b")))) (and_type (scalar_type (m 81 7 81) scalars.Bool) no_argument))) no_requirement)))
    ∷ (88, (requires (m 88 8 39) (and_parameter (m 85 8 50) (position_type (m 84 8 48) 0) 0 true no_parameter) (and_simple (dot (m 87 8 55) (local_name (m 86 8 55) 0) (codes "z")) no_requirement)))
    ∷ (93, (requires (m 93 9 41) (and_parameter (m 90 9 52) (position_type (m 89 9 50) 0) 0 true no_parameter) (and_simple (dot (m 92 9 57) (local_name (m 91 9 57) 0) (codes "b")) no_requirement)))
    ∷ [])
    (around 0 ([]) false ∷ around 3 (None ∷ None ∷ []) true ∷ around 6 (None ∷ []) true ∷ around 94 ([]) false ∷ [])
    ([])

abbrev pub parameters_and_members_unit_assert_10_1 : Expression
parameters_and_members_unit_assert_10_1 = concept_id (m 95 10 15) (d 6) (and_type (scalar_type (m 94 10 24) scalars.Int) no_argument)

abbrev pub parameters_and_members_unit_assert_11_1 : Expression
parameters_and_members_unit_assert_11_1 = concept_id (m 98 11 15) (d 7) (and_type (struct_type (m 97 11 22) (d 2)) no_argument)

abbrev pub parameters_and_members_unit_assert_12_1 : Expression
parameters_and_members_unit_assert_12_1 = concept_id (m 101 12 15) (d 8) (and_type (struct_type (m 100 12 23) (d 2)) no_argument)

abbrev pub parameters_and_members_unit_assert_13_1 : Expression
parameters_and_members_unit_assert_13_1 = concept_id (m 104 13 15) (d 9) (and_type (struct_type (m 103 13 22) (d 2)) no_argument)

abbrev pub parameters_and_members_unit_assert_14_1 : Expression
parameters_and_members_unit_assert_14_1 = concept_id (m 107 14 15) (d 10) (and_type (struct_type (m 106 14 22) (d 2)) no_argument)

abbrev pub parameters_and_members_unit_assert_15_1 : Expression
parameters_and_members_unit_assert_15_1 = concept_id (m 110 15 15) (d 11) (and_type (scalar_type (m 109 15 24) scalars.Int) no_argument)

-- template<typename A, typename B> concept Is = __is_same(A, B);
-- static_assert(Is<decltype((+true)), int>);
-- static_assert(Is<decltype((-1u)), unsigned>);
-- static_assert(Is<decltype((~1ll)), long long>);
-- static_assert(Is<decltype((!1)), bool>);
-- template<typename T> concept Pre = requires(T t) { requires Is<decltype((++t)), T&>; requires Is<decltype((--t)), T&>; };
-- template<typename T> concept Post = requires(T t) { requires Is<decltype((t++)), T>; requires Is<decltype((t--)), T>; };
-- template<typename T> concept PreConst = requires(const T& t) { ++t; };
-- template<typename T> concept PreValue = requires { ++1; };
-- struct S { };
-- template<typename T> concept Plus = requires(T t) { +t; };
-- static_assert(Pre<int>);
-- static_assert(Pre<bool>);
-- static_assert(Post<unsigned>);
-- static_assert(Post<bool>);
-- static_assert(PreConst<int>);
-- static_assert(PreValue<int>);
-- static_assert(Plus<bool>);
-- static_assert(Plus<S>);
abbrev pub unary_operators_unit : Program
unary_operators_unit =
    unit
    (a_concept (record { at = (p 1 42); template_parameters = (tp None None ∷ tp None None ∷ []); condition = (is_same (m 2 1 47) (position_type (m 0 1 57) 0) (position_type (m 1 1 60) 1)) })
    ∷ a_concept (record { at = (p 6 30); template_parameters = (tp None None ∷ []); condition = (requires (m 45 6 36) (and_parameter (m 32 6 47) (position_type (m 31 6 45) 0) 0 true no_parameter) (and_nested (concept_id (m 38 6 61) (d 0) (and_type (decltype_type (m 36 6 64) (parentheses (m 35 6 73) (unary (m 34 6 74) word.PreIncrement (local_name (m 33 6 76) 0)))) (and_type (reference_type (m 37 6 81) (position_type (m 37 6 81) 0)) no_argument))) (and_nested (concept_id (m 44 6 95) (d 0) (and_type (decltype_type (m 42 6 98) (parentheses (m 41 6 107) (unary (m 40 6 108) word.PreDecrement (local_name (m 39 6 110) 0)))) (and_type (reference_type (m 43 6 115) (position_type (m 43 6 115) 0)) no_argument))) no_requirement))) })
    ∷ a_concept (record { at = (p 7 30); template_parameters = (tp None None ∷ []); condition = (requires (m 60 7 37) (and_parameter (m 47 7 48) (position_type (m 46 7 46) 0) 0 true no_parameter) (and_nested (concept_id (m 53 7 62) (d 0) (and_type (decltype_type (m 51 7 65) (parentheses (m 50 7 74) (unary (m 49 7 75) word.PostIncrement (local_name (m 48 7 75) 0)))) (and_type (position_type (m 52 7 82) 0) no_argument))) (and_nested (concept_id (m 59 7 95) (d 0) (and_type (decltype_type (m 57 7 98) (parentheses (m 56 7 107) (unary (m 55 7 108) word.PostDecrement (local_name (m 54 7 108) 0)))) (and_type (position_type (m 58 7 115) 0) no_argument))) no_requirement))) })
    ∷ a_concept (record { at = (p 8 30); template_parameters = (tp None None ∷ []); condition = (requires (m 65 8 41) (and_parameter (m 62 8 59) (reference_type (m 61 8 50) (const_type (m 61 8 50) (position_type (m 61 8 50) 0))) 0 true no_parameter) (and_simple (unary (m 64 8 64) word.PreIncrement (local_name (m 63 8 66) 0)) no_requirement)) })
    ∷ a_concept (record { at = (p 9 30); template_parameters = (tp None None ∷ []); condition = (requires (m 68 9 41) no_parameter (and_simple (unary (m 67 9 52) word.PreIncrement (literal (m 66 9 54) scalars.Int (pos 1))) no_requirement)) })
    ∷ a_struct (record { at = (p 10 8); itself = (struct (d 5)); is_template = false; template_parameters = ([]); constraints = ([]); primary = None; specialised_for = ([]); members = ([]) })
    ∷ a_concept (record { at = (p 11 30); template_parameters = (tp None None ∷ []); condition = (requires (m 73 11 37) (and_parameter (m 70 11 48) (position_type (m 69 11 46) 0) 0 true no_parameter) (and_simple (unary (m 72 11 53) word.Plus (local_name (m 71 11 54) 0)) no_requirement)) })
    ∷ [])
    ([])
    ([])
    ((2, (is_same (m 2 1 47) (position_type (m 0 1 57) 0) (position_type (m 1 1 60) 1)))
    ∷ (45, (requires (m 45 6 36) (and_parameter (m 32 6 47) (position_type (m 31 6 45) 0) 0 true no_parameter) (and_nested (concept_id (m 38 6 61) (d 0) (and_type (decltype_type (m 36 6 64) (parentheses (m 35 6 73) (unary (m 34 6 74) word.PreIncrement (local_name (m 33 6 76) 0)))) (and_type (reference_type (m 37 6 81) (position_type (m 37 6 81) 0)) no_argument))) (and_nested (concept_id (m 44 6 95) (d 0) (and_type (decltype_type (m 42 6 98) (parentheses (m 41 6 107) (unary (m 40 6 108) word.PreDecrement (local_name (m 39 6 110) 0)))) (and_type (reference_type (m 43 6 115) (position_type (m 43 6 115) 0)) no_argument))) no_requirement))))
    ∷ (60, (requires (m 60 7 37) (and_parameter (m 47 7 48) (position_type (m 46 7 46) 0) 0 true no_parameter) (and_nested (concept_id (m 53 7 62) (d 0) (and_type (decltype_type (m 51 7 65) (parentheses (m 50 7 74) (unary (m 49 7 75) word.PostIncrement (local_name (m 48 7 75) 0)))) (and_type (position_type (m 52 7 82) 0) no_argument))) (and_nested (concept_id (m 59 7 95) (d 0) (and_type (decltype_type (m 57 7 98) (parentheses (m 56 7 107) (unary (m 55 7 108) word.PostDecrement (local_name (m 54 7 108) 0)))) (and_type (position_type (m 58 7 115) 0) no_argument))) no_requirement))))
    ∷ (65, (requires (m 65 8 41) (and_parameter (m 62 8 59) (reference_type (m 61 8 50) (const_type (m 61 8 50) (position_type (m 61 8 50) 0))) 0 true no_parameter) (and_simple (unary (m 64 8 64) word.PreIncrement (local_name (m 63 8 66) 0)) no_requirement)))
    ∷ (68, (requires (m 68 9 41) no_parameter (and_simple (unary (m 67 9 52) word.PreIncrement (literal (m 66 9 54) scalars.Int (pos 1))) no_requirement)))
    ∷ (73, (requires (m 73 11 37) (and_parameter (m 70 11 48) (position_type (m 69 11 46) 0) 0 true no_parameter) (and_simple (unary (m 72 11 53) word.Plus (local_name (m 71 11 54) 0)) no_requirement)))
    ∷ [])
    (around 0 (None ∷ None ∷ []) true ∷ around 3 ([]) false ∷ around 31 (None ∷ []) true ∷ around 74 ([]) false ∷ [])
    ([])

abbrev pub unary_operators_unit_assert_2_1 : Expression
unary_operators_unit_assert_2_1 = concept_id (m 8 2 15) (d 0) (and_type (decltype_type (m 6 2 18) (parentheses (m 5 2 27) (unary (m 4 2 28) word.Plus (literal (m 3 2 29) scalars.Bool (pos 1))))) (and_type (scalar_type (m 7 2 37) scalars.Int) no_argument))

abbrev pub unary_operators_unit_assert_3_1 : Expression
unary_operators_unit_assert_3_1 = concept_id (m 15 3 15) (d 0) (and_type (decltype_type (m 13 3 18) (parentheses (m 12 3 27) (unary (m 11 3 28) word.Minus (literal (m 10 3 29) scalars.Unsigned (pos 1))))) (and_type (scalar_type (m 14 3 35) scalars.Unsigned) no_argument))

abbrev pub unary_operators_unit_assert_4_1 : Expression
unary_operators_unit_assert_4_1 = concept_id (m 22 4 15) (d 0) (and_type (decltype_type (m 20 4 18) (parentheses (m 19 4 27) (unary (m 18 4 28) word.Complement (literal (m 17 4 29) scalars.LongLong (pos 1))))) (and_type (scalar_type (m 21 4 36) scalars.LongLong) no_argument))

abbrev pub unary_operators_unit_assert_5_1 : Expression
unary_operators_unit_assert_5_1 = concept_id (m 29 5 15) (d 0) (and_type (decltype_type (m 27 5 18) (parentheses (m 26 5 27) (unary (m 25 5 28) word.Not (literal (m 24 5 29) scalars.Int (pos 1))))) (and_type (scalar_type (m 28 5 34) scalars.Bool) no_argument))

abbrev pub unary_operators_unit_assert_12_1 : Expression
unary_operators_unit_assert_12_1 = concept_id (m 75 12 15) (d 1) (and_type (scalar_type (m 74 12 19) scalars.Int) no_argument)

abbrev pub unary_operators_unit_assert_13_1 : Expression
unary_operators_unit_assert_13_1 = concept_id (m 78 13 15) (d 1) (and_type (scalar_type (m 77 13 19) scalars.Bool) no_argument)

abbrev pub unary_operators_unit_assert_14_1 : Expression
unary_operators_unit_assert_14_1 = concept_id (m 81 14 15) (d 2) (and_type (scalar_type (m 80 14 20) scalars.Unsigned) no_argument)

abbrev pub unary_operators_unit_assert_15_1 : Expression
unary_operators_unit_assert_15_1 = concept_id (m 84 15 15) (d 2) (and_type (scalar_type (m 83 15 20) scalars.Bool) no_argument)

abbrev pub unary_operators_unit_assert_16_1 : Expression
unary_operators_unit_assert_16_1 = concept_id (m 87 16 15) (d 3) (and_type (scalar_type (m 86 16 24) scalars.Int) no_argument)

abbrev pub unary_operators_unit_assert_17_1 : Expression
unary_operators_unit_assert_17_1 = concept_id (m 90 17 15) (d 4) (and_type (scalar_type (m 89 17 24) scalars.Int) no_argument)

abbrev pub unary_operators_unit_assert_18_1 : Expression
unary_operators_unit_assert_18_1 = concept_id (m 93 18 15) (d 6) (and_type (scalar_type (m 92 18 20) scalars.Bool) no_argument)

abbrev pub unary_operators_unit_assert_19_1 : Expression
unary_operators_unit_assert_19_1 = concept_id (m 96 19 15) (d 6) (and_type (struct_type (m 95 19 20) (d 5)) no_argument)

-- template<typename A, typename B> concept Is = __is_same(A, B);
-- static_assert(Is<decltype((true + true)), int>);
-- static_assert(Is<decltype((1 + 1u)), unsigned>);
-- static_assert(Is<decltype((1u * 1ll)), long long>);
-- static_assert(Is<decltype((1ll - 1ull)), unsigned long long>);
-- static_assert(Is<decltype((1 / 1ll)), long long>);
-- static_assert(Is<decltype((1u % 1ull)), unsigned long long>);
-- static_assert(Is<decltype((true << 1ull)), int>);
-- static_assert(Is<decltype((1u >> 1ll)), unsigned>);
-- static_assert(Is<decltype((1 < 1u)), bool>);
-- static_assert(Is<decltype((true == 2)), bool>);
-- static_assert(Is<decltype((1 && 0)), bool>);
-- static_assert(Is<decltype((true | 1u)), unsigned>);
-- struct S { };
-- template<typename T, typename U> concept Add = requires(T t, U u) { t + u; };
-- template<typename T, typename U> concept Both = requires(T t, U u) { t && u; };
-- template<typename T, typename U> concept Equal = requires(T t, U u) { t == u; };
-- static_assert(Add<int, S>);
-- static_assert(Both<S, int>);
-- static_assert(Equal<S, S>);
-- static_assert(Equal<bool, long long>);
abbrev pub binary_operators_unit : Program
binary_operators_unit =
    unit
    (a_concept (record { at = (p 1 42); template_parameters = (tp None None ∷ tp None None ∷ []); condition = (is_same (m 2 1 47) (position_type (m 0 1 57) 0) (position_type (m 1 1 60) 1)) })
    ∷ a_struct (record { at = (p 14 8); itself = (struct (d 1)); is_template = false; template_parameters = ([]); constraints = ([]); primary = None; specialised_for = ([]); members = ([]) })
    ∷ a_concept (record { at = (p 15 42); template_parameters = (tp None None ∷ tp None None ∷ []); condition = (requires (m 106 15 48) (and_parameter (m 100 15 59) (position_type (m 99 15 57) 0) 0 true (and_parameter (m 102 15 64) (position_type (m 101 15 62) 1) 1 true no_parameter)) (and_simple (binary (m 105 15 69) word.Plus (local_name (m 103 15 69) 0) (local_name (m 104 15 73) 1)) no_requirement)) })
    ∷ a_concept (record { at = (p 16 42); template_parameters = (tp None None ∷ tp None None ∷ []); condition = (requires (m 114 16 49) (and_parameter (m 108 16 60) (position_type (m 107 16 58) 0) 0 true (and_parameter (m 110 16 65) (position_type (m 109 16 63) 1) 1 true no_parameter)) (and_simple (binary (m 113 16 70) word.LogicalAnd (local_name (m 111 16 70) 0) (local_name (m 112 16 75) 1)) no_requirement)) })
    ∷ a_concept (record { at = (p 17 42); template_parameters = (tp None None ∷ tp None None ∷ []); condition = (requires (m 122 17 50) (and_parameter (m 116 17 61) (position_type (m 115 17 59) 0) 0 true (and_parameter (m 118 17 66) (position_type (m 117 17 64) 1) 1 true no_parameter)) (and_simple (binary (m 121 17 71) word.Equal (local_name (m 119 17 71) 0) (local_name (m 120 17 76) 1)) no_requirement)) })
    ∷ [])
    ([])
    ([])
    ((2, (is_same (m 2 1 47) (position_type (m 0 1 57) 0) (position_type (m 1 1 60) 1)))
    ∷ (106, (requires (m 106 15 48) (and_parameter (m 100 15 59) (position_type (m 99 15 57) 0) 0 true (and_parameter (m 102 15 64) (position_type (m 101 15 62) 1) 1 true no_parameter)) (and_simple (binary (m 105 15 69) word.Plus (local_name (m 103 15 69) 0) (local_name (m 104 15 73) 1)) no_requirement)))
    ∷ (114, (requires (m 114 16 49) (and_parameter (m 108 16 60) (position_type (m 107 16 58) 0) 0 true (and_parameter (m 110 16 65) (position_type (m 109 16 63) 1) 1 true no_parameter)) (and_simple (binary (m 113 16 70) word.LogicalAnd (local_name (m 111 16 70) 0) (local_name (m 112 16 75) 1)) no_requirement)))
    ∷ (122, (requires (m 122 17 50) (and_parameter (m 116 17 61) (position_type (m 115 17 59) 0) 0 true (and_parameter (m 118 17 66) (position_type (m 117 17 64) 1) 1 true no_parameter)) (and_simple (binary (m 121 17 71) word.Equal (local_name (m 119 17 71) 0) (local_name (m 120 17 76) 1)) no_requirement)))
    ∷ [])
    (around 0 (None ∷ None ∷ []) true ∷ around 3 ([]) false ∷ around 99 (None ∷ None ∷ []) true ∷ around 123 ([]) false ∷ [])
    ([])

abbrev pub binary_operators_unit_assert_2_1 : Expression
binary_operators_unit_assert_2_1 = concept_id (m 9 2 15) (d 0) (and_type (decltype_type (m 7 2 18) (parentheses (m 6 2 27) (binary (m 5 2 28) word.Plus (literal (m 3 2 28) scalars.Bool (pos 1)) (literal (m 4 2 35) scalars.Bool (pos 1))))) (and_type (scalar_type (m 8 2 43) scalars.Int) no_argument))

abbrev pub binary_operators_unit_assert_3_1 : Expression
binary_operators_unit_assert_3_1 = concept_id (m 17 3 15) (d 0) (and_type (decltype_type (m 15 3 18) (parentheses (m 14 3 27) (binary (m 13 3 28) word.Plus (literal (m 11 3 28) scalars.Int (pos 1)) (literal (m 12 3 32) scalars.Unsigned (pos 1))))) (and_type (scalar_type (m 16 3 38) scalars.Unsigned) no_argument))

abbrev pub binary_operators_unit_assert_4_1 : Expression
binary_operators_unit_assert_4_1 = concept_id (m 25 4 15) (d 0) (and_type (decltype_type (m 23 4 18) (parentheses (m 22 4 27) (binary (m 21 4 28) word.Times (literal (m 19 4 28) scalars.Unsigned (pos 1)) (literal (m 20 4 33) scalars.LongLong (pos 1))))) (and_type (scalar_type (m 24 4 40) scalars.LongLong) no_argument))

abbrev pub binary_operators_unit_assert_5_1 : Expression
binary_operators_unit_assert_5_1 = concept_id (m 33 5 15) (d 0) (and_type (decltype_type (m 31 5 18) (parentheses (m 30 5 27) (binary (m 29 5 28) word.Minus (literal (m 27 5 28) scalars.LongLong (pos 1)) (literal (m 28 5 34) scalars.ULongLong (pos 1))))) (and_type (scalar_type (m 32 5 42) scalars.ULongLong) no_argument))

abbrev pub binary_operators_unit_assert_6_1 : Expression
binary_operators_unit_assert_6_1 = concept_id (m 41 6 15) (d 0) (and_type (decltype_type (m 39 6 18) (parentheses (m 38 6 27) (binary (m 37 6 28) word.Divide (literal (m 35 6 28) scalars.Int (pos 1)) (literal (m 36 6 32) scalars.LongLong (pos 1))))) (and_type (scalar_type (m 40 6 39) scalars.LongLong) no_argument))

abbrev pub binary_operators_unit_assert_7_1 : Expression
binary_operators_unit_assert_7_1 = concept_id (m 49 7 15) (d 0) (and_type (decltype_type (m 47 7 18) (parentheses (m 46 7 27) (binary (m 45 7 28) word.Remainder (literal (m 43 7 28) scalars.Unsigned (pos 1)) (literal (m 44 7 33) scalars.ULongLong (pos 1))))) (and_type (scalar_type (m 48 7 41) scalars.ULongLong) no_argument))

abbrev pub binary_operators_unit_assert_8_1 : Expression
binary_operators_unit_assert_8_1 = concept_id (m 57 8 15) (d 0) (and_type (decltype_type (m 55 8 18) (parentheses (m 54 8 27) (binary (m 53 8 28) word.ShiftLeft (literal (m 51 8 28) scalars.Bool (pos 1)) (literal (m 52 8 36) scalars.ULongLong (pos 1))))) (and_type (scalar_type (m 56 8 44) scalars.Int) no_argument))

abbrev pub binary_operators_unit_assert_9_1 : Expression
binary_operators_unit_assert_9_1 = concept_id (m 65 9 15) (d 0) (and_type (decltype_type (m 63 9 18) (parentheses (m 62 9 27) (binary (m 61 9 28) word.ShiftRight (literal (m 59 9 28) scalars.Unsigned (pos 1)) (literal (m 60 9 34) scalars.LongLong (pos 1))))) (and_type (scalar_type (m 64 9 41) scalars.Unsigned) no_argument))

abbrev pub binary_operators_unit_assert_10_1 : Expression
binary_operators_unit_assert_10_1 = concept_id (m 73 10 15) (d 0) (and_type (decltype_type (m 71 10 18) (parentheses (m 70 10 27) (binary (m 69 10 28) word.Less (literal (m 67 10 28) scalars.Int (pos 1)) (literal (m 68 10 32) scalars.Unsigned (pos 1))))) (and_type (scalar_type (m 72 10 38) scalars.Bool) no_argument))

abbrev pub binary_operators_unit_assert_11_1 : Expression
binary_operators_unit_assert_11_1 = concept_id (m 81 11 15) (d 0) (and_type (decltype_type (m 79 11 18) (parentheses (m 78 11 27) (binary (m 77 11 28) word.Equal (literal (m 75 11 28) scalars.Bool (pos 1)) (literal (m 76 11 36) scalars.Int (pos 2))))) (and_type (scalar_type (m 80 11 41) scalars.Bool) no_argument))

abbrev pub binary_operators_unit_assert_12_1 : Expression
binary_operators_unit_assert_12_1 = concept_id (m 89 12 15) (d 0) (and_type (decltype_type (m 87 12 18) (parentheses (m 86 12 27) (binary (m 85 12 28) word.LogicalAnd (literal (m 83 12 28) scalars.Int (pos 1)) (literal (m 84 12 33) scalars.Int (pos 0))))) (and_type (scalar_type (m 88 12 38) scalars.Bool) no_argument))

abbrev pub binary_operators_unit_assert_13_1 : Expression
binary_operators_unit_assert_13_1 = concept_id (m 97 13 15) (d 0) (and_type (decltype_type (m 95 13 18) (parentheses (m 94 13 27) (binary (m 93 13 28) word.BitOr (literal (m 91 13 28) scalars.Bool (pos 1)) (literal (m 92 13 35) scalars.Unsigned (pos 1))))) (and_type (scalar_type (m 96 13 41) scalars.Unsigned) no_argument))

abbrev pub binary_operators_unit_assert_18_1 : Expression
binary_operators_unit_assert_18_1 = concept_id (m 125 18 15) (d 2) (and_type (scalar_type (m 123 18 19) scalars.Int) (and_type (struct_type (m 124 18 24) (d 1)) no_argument))

abbrev pub binary_operators_unit_assert_19_1 : Expression
binary_operators_unit_assert_19_1 = concept_id (m 129 19 15) (d 3) (and_type (struct_type (m 127 19 20) (d 1)) (and_type (scalar_type (m 128 19 23) scalars.Int) no_argument))

abbrev pub binary_operators_unit_assert_20_1 : Expression
binary_operators_unit_assert_20_1 = concept_id (m 133 20 15) (d 4) (and_type (struct_type (m 131 20 21) (d 1)) (and_type (struct_type (m 132 20 24) (d 1)) no_argument))

abbrev pub binary_operators_unit_assert_21_1 : Expression
binary_operators_unit_assert_21_1 = concept_id (m 137 21 15) (d 4) (and_type (scalar_type (m 135 21 21) scalars.Bool) (and_type (scalar_type (m 136 21 27) scalars.LongLong) no_argument))

-- template<typename A, typename B> concept Is = __is_same(A, B);
-- struct S { int x; };
-- struct R { int x; };
-- template<typename T, typename U> concept Assign = requires(T t, const U& u) { requires Is<decltype((t = u)), T&>; };
-- template<typename T, typename U> concept ToConst = requires(const T& t, U u) { t = u; };
-- template<typename T, typename U> concept ToValue = requires(U u) { T{} = u; };
-- template<typename T, typename U> concept Compound = requires(T t, U u) { requires Is<decltype((t += u)), T&>; requires Is<decltype((t <<= u)), T&>; };
-- static_assert(Assign<int, bool>);
-- static_assert(Assign<S, S>);
-- static_assert(Assign<S, R>);
-- static_assert(Assign<int, S>);
-- static_assert(ToConst<int, int>);
-- static_assert(ToConst<S, S>);
-- static_assert(ToValue<int, int>);
-- static_assert(ToValue<S, S>);
-- static_assert(ToValue<S, int>);
-- static_assert(Compound<bool, long long>);
-- static_assert(Compound<S, S>);
abbrev pub assignments_unit : Program
assignments_unit =
    unit
    (a_concept (record { at = (p 1 42); template_parameters = (tp None None ∷ tp None None ∷ []); condition = (is_same (m 2 1 47) (position_type (m 0 1 57) 0) (position_type (m 1 1 60) 1)) })
    ∷ a_struct (record { at = (p 2 8); itself = (struct (d 1)); is_template = false; template_parameters = ([]); constraints = ([]); primary = None; specialised_for = ([]); members = (field (codes "x") (scalar_type (m 3 2 12) scalars.Int) ∷ []) })
    ∷ a_field 0 (scalar_type (m 3 2 12) scalars.Int)
    ∷ a_struct (record { at = (p 3 8); itself = (struct (d 3)); is_template = false; template_parameters = ([]); constraints = ([]); primary = None; specialised_for = ([]); members = (field (codes "x") (scalar_type (m 4 3 12) scalars.Int) ∷ []) })
    ∷ a_field 0 (scalar_type (m 4 3 12) scalars.Int)
    ∷ a_concept (record { at = (p 4 42); template_parameters = (tp None None ∷ tp None None ∷ []); condition = (requires (m 16 4 51) (and_parameter (m 6 4 62) (position_type (m 5 4 60) 0) 0 true (and_parameter (m 8 4 74) (reference_type (m 7 4 65) (const_type (m 7 4 65) (position_type (m 7 4 65) 1))) 1 true no_parameter)) (and_nested (concept_id (m 15 4 88) (d 0) (and_type (decltype_type (m 13 4 91) (parentheses (m 12 4 100) (binary (m 11 4 101) word.Assign (local_name (m 9 4 101) 0) (local_name (m 10 4 105) 1)))) (and_type (reference_type (m 14 4 110) (position_type (m 14 4 110) 0)) no_argument))) no_requirement)) })
    ∷ a_concept (record { at = (p 5 42); template_parameters = (tp None None ∷ tp None None ∷ []); condition = (requires (m 24 5 52) (and_parameter (m 18 5 70) (reference_type (m 17 5 61) (const_type (m 17 5 61) (position_type (m 17 5 61) 0))) 0 true (and_parameter (m 20 5 75) (position_type (m 19 5 73) 1) 1 true no_parameter)) (and_simple (binary (m 23 5 80) word.Assign (local_name (m 21 5 80) 0) (local_name (m 22 5 84) 1)) no_requirement)) })
    ∷ a_concept (record { at = (p 6 42); template_parameters = (tp None None ∷ tp None None ∷ []); condition = (requires (m 31 6 52) (and_parameter (m 26 6 63) (position_type (m 25 6 61) 1) 0 true no_parameter) (and_simple (binary (m 30 6 68) word.Assign (list (m 28 6 68) (position_type (m 27 6 68) 0) no_expression) (local_name (m 29 6 74) 0)) no_requirement)) })
    ∷ a_concept (record { at = (p 7 42); template_parameters = (tp None None ∷ tp None None ∷ []); condition = (requires (m 50 7 53) (and_parameter (m 33 7 64) (position_type (m 32 7 62) 0) 0 true (and_parameter (m 35 7 69) (position_type (m 34 7 67) 1) 1 true no_parameter)) (and_nested (concept_id (m 42 7 83) (d 0) (and_type (decltype_type (m 40 7 86) (parentheses (m 39 7 95) (binary (m 38 7 96) word.PlusAssign (local_name (m 36 7 96) 0) (local_name (m 37 7 101) 1)))) (and_type (reference_type (m 41 7 106) (position_type (m 41 7 106) 0)) no_argument))) (and_nested (concept_id (m 49 7 120) (d 0) (and_type (decltype_type (m 47 7 123) (parentheses (m 46 7 132) (binary (m 45 7 133) word.ShiftLeftAssign (local_name (m 43 7 133) 0) (local_name (m 44 7 139) 1)))) (and_type (reference_type (m 48 7 144) (position_type (m 48 7 144) 0)) no_argument))) no_requirement))) })
    ∷ [])
    ([])
    ([])
    ((2, (is_same (m 2 1 47) (position_type (m 0 1 57) 0) (position_type (m 1 1 60) 1)))
    ∷ (16, (requires (m 16 4 51) (and_parameter (m 6 4 62) (position_type (m 5 4 60) 0) 0 true (and_parameter (m 8 4 74) (reference_type (m 7 4 65) (const_type (m 7 4 65) (position_type (m 7 4 65) 1))) 1 true no_parameter)) (and_nested (concept_id (m 15 4 88) (d 0) (and_type (decltype_type (m 13 4 91) (parentheses (m 12 4 100) (binary (m 11 4 101) word.Assign (local_name (m 9 4 101) 0) (local_name (m 10 4 105) 1)))) (and_type (reference_type (m 14 4 110) (position_type (m 14 4 110) 0)) no_argument))) no_requirement)))
    ∷ (24, (requires (m 24 5 52) (and_parameter (m 18 5 70) (reference_type (m 17 5 61) (const_type (m 17 5 61) (position_type (m 17 5 61) 0))) 0 true (and_parameter (m 20 5 75) (position_type (m 19 5 73) 1) 1 true no_parameter)) (and_simple (binary (m 23 5 80) word.Assign (local_name (m 21 5 80) 0) (local_name (m 22 5 84) 1)) no_requirement)))
    ∷ (31, (requires (m 31 6 52) (and_parameter (m 26 6 63) (position_type (m 25 6 61) 1) 0 true no_parameter) (and_simple (binary (m 30 6 68) word.Assign (list (m 28 6 68) (position_type (m 27 6 68) 0) no_expression) (local_name (m 29 6 74) 0)) no_requirement)))
    ∷ (50, (requires (m 50 7 53) (and_parameter (m 33 7 64) (position_type (m 32 7 62) 0) 0 true (and_parameter (m 35 7 69) (position_type (m 34 7 67) 1) 1 true no_parameter)) (and_nested (concept_id (m 42 7 83) (d 0) (and_type (decltype_type (m 40 7 86) (parentheses (m 39 7 95) (binary (m 38 7 96) word.PlusAssign (local_name (m 36 7 96) 0) (local_name (m 37 7 101) 1)))) (and_type (reference_type (m 41 7 106) (position_type (m 41 7 106) 0)) no_argument))) (and_nested (concept_id (m 49 7 120) (d 0) (and_type (decltype_type (m 47 7 123) (parentheses (m 46 7 132) (binary (m 45 7 133) word.ShiftLeftAssign (local_name (m 43 7 133) 0) (local_name (m 44 7 139) 1)))) (and_type (reference_type (m 48 7 144) (position_type (m 48 7 144) 0)) no_argument))) no_requirement))))
    ∷ [])
    (around 0 (None ∷ None ∷ []) true ∷ around 3 ([]) false ∷ around 5 (None ∷ None ∷ []) true ∷ around 51 ([]) false ∷ [])
    ([])

abbrev pub assignments_unit_assert_8_1 : Expression
assignments_unit_assert_8_1 = concept_id (m 53 8 15) (d 5) (and_type (scalar_type (m 51 8 22) scalars.Int) (and_type (scalar_type (m 52 8 27) scalars.Bool) no_argument))

abbrev pub assignments_unit_assert_9_1 : Expression
assignments_unit_assert_9_1 = concept_id (m 57 9 15) (d 5) (and_type (struct_type (m 55 9 22) (d 1)) (and_type (struct_type (m 56 9 25) (d 1)) no_argument))

abbrev pub assignments_unit_assert_10_1 : Expression
assignments_unit_assert_10_1 = concept_id (m 61 10 15) (d 5) (and_type (struct_type (m 59 10 22) (d 1)) (and_type (struct_type (m 60 10 25) (d 3)) no_argument))

abbrev pub assignments_unit_assert_11_1 : Expression
assignments_unit_assert_11_1 = concept_id (m 65 11 15) (d 5) (and_type (scalar_type (m 63 11 22) scalars.Int) (and_type (struct_type (m 64 11 27) (d 1)) no_argument))

abbrev pub assignments_unit_assert_12_1 : Expression
assignments_unit_assert_12_1 = concept_id (m 69 12 15) (d 6) (and_type (scalar_type (m 67 12 23) scalars.Int) (and_type (scalar_type (m 68 12 28) scalars.Int) no_argument))

abbrev pub assignments_unit_assert_13_1 : Expression
assignments_unit_assert_13_1 = concept_id (m 73 13 15) (d 6) (and_type (struct_type (m 71 13 23) (d 1)) (and_type (struct_type (m 72 13 26) (d 1)) no_argument))

abbrev pub assignments_unit_assert_14_1 : Expression
assignments_unit_assert_14_1 = concept_id (m 77 14 15) (d 7) (and_type (scalar_type (m 75 14 23) scalars.Int) (and_type (scalar_type (m 76 14 28) scalars.Int) no_argument))

abbrev pub assignments_unit_assert_15_1 : Expression
assignments_unit_assert_15_1 = concept_id (m 81 15 15) (d 7) (and_type (struct_type (m 79 15 23) (d 1)) (and_type (struct_type (m 80 15 26) (d 1)) no_argument))

abbrev pub assignments_unit_assert_16_1 : Expression
assignments_unit_assert_16_1 = concept_id (m 85 16 15) (d 7) (and_type (struct_type (m 83 16 23) (d 1)) (and_type (scalar_type (m 84 16 26) scalars.Int) no_argument))

abbrev pub assignments_unit_assert_17_1 : Expression
assignments_unit_assert_17_1 = concept_id (m 89 17 15) (d 8) (and_type (scalar_type (m 87 17 24) scalars.Bool) (and_type (scalar_type (m 88 17 30) scalars.LongLong) no_argument))

abbrev pub assignments_unit_assert_18_1 : Expression
assignments_unit_assert_18_1 = concept_id (m 93 18 15) (d 8) (and_type (struct_type (m 91 18 24) (d 1)) (and_type (struct_type (m 92 18 27) (d 1)) no_argument))

-- template<typename A, typename B> concept Is = __is_same(A, B);
-- struct S { int x; };
-- struct R { int x; };
-- template<typename T> concept Lvalues = requires(T a, T b, const T& c) { requires Is<decltype((true ? a : b)), T&>; requires Is<decltype((true ? a : c)), const T&>; requires Is<decltype((true ? c : b)), const T&>; };
-- template<typename T> concept Values = requires(T a) { requires Is<decltype((true ? a : T{})), T>; };
-- template<typename T, typename U> concept Mixed = requires(T t, U u) { true ? t : u; };
-- template<typename T> concept ConstStruct = requires(const T& c) { true ? c : T{}; };
-- template<typename T> concept Members = requires(T t) { true ? t.x : T{}.x; };
-- template<typename T> concept MemberLvalues = requires(T t) { requires Is<decltype((true ? t.x : t.x)), int&>; };
-- struct O { S s; };
-- template<typename T> concept StructMembers = requires(T t) { true ? t.s : T{}.s; };
-- static_assert(Lvalues<int>);
-- static_assert(Lvalues<S>);
-- static_assert(Values<int>);
-- static_assert(Values<S>);
-- static_assert(Is<decltype((true ? 1 : 1u)), unsigned>);
-- static_assert(Is<decltype((true ? true : 1)), int>);
-- static_assert(Mixed<int, S>);
-- static_assert(Mixed<S, R>);
-- static_assert(ConstStruct<S>);
-- static_assert(ConstStruct<int>);
-- static_assert(Members<S>);
-- static_assert(MemberLvalues<S>);
-- static_assert(StructMembers<O>);
-- static_assert(requires(S s) { s ? 1 : 2; });
abbrev pub conditionals_unit : Program
conditionals_unit =
    unit
    (a_concept (record { at = (p 1 42); template_parameters = (tp None None ∷ tp None None ∷ []); condition = (is_same (m 2 1 47) (position_type (m 0 1 57) 0) (position_type (m 1 1 60) 1)) })
    ∷ a_struct (record { at = (p 2 8); itself = (struct (d 1)); is_template = false; template_parameters = ([]); constraints = ([]); primary = None; specialised_for = ([]); members = (field (codes "x") (scalar_type (m 3 2 12) scalars.Int) ∷ []) })
    ∷ a_field 0 (scalar_type (m 3 2 12) scalars.Int)
    ∷ a_struct (record { at = (p 3 8); itself = (struct (d 3)); is_template = false; template_parameters = ([]); constraints = ([]); primary = None; specialised_for = ([]); members = (field (codes "x") (scalar_type (m 4 3 12) scalars.Int) ∷ []) })
    ∷ a_field 0 (scalar_type (m 4 3 12) scalars.Int)
    ∷ a_concept (record { at = (p 4 30); template_parameters = (tp None None ∷ []); condition = (requires (m 35 4 40) (and_parameter (m 6 4 51) (position_type (m 5 4 49) 0) 0 true (and_parameter (m 8 4 56) (position_type (m 7 4 54) 0) 1 true (and_parameter (m 10 4 68) (reference_type (m 9 4 59) (const_type (m 9 4 59) (position_type (m 9 4 59) 0))) 2 true no_parameter))) (and_nested (concept_id (m 18 4 82) (d 0) (and_type (decltype_type (m 16 4 85) (parentheses (m 15 4 94) (conditional (m 14 4 95) (literal (m 11 4 95) scalars.Bool (pos 1)) (local_name (m 12 4 102) 0) (local_name (m 13 4 106) 1)))) (and_type (reference_type (m 17 4 111) (position_type (m 17 4 111) 0)) no_argument))) (and_nested (concept_id (m 26 4 125) (d 0) (and_type (decltype_type (m 24 4 128) (parentheses (m 23 4 137) (conditional (m 22 4 138) (literal (m 19 4 138) scalars.Bool (pos 1)) (local_name (m 20 4 145) 0) (local_name (m 21 4 149) 2)))) (and_type (reference_type (m 25 4 154) (const_type (m 25 4 154) (position_type (m 25 4 154) 0))) no_argument))) (and_nested (concept_id (m 34 4 174) (d 0) (and_type (decltype_type (m 32 4 177) (parentheses (m 31 4 186) (conditional (m 30 4 187) (literal (m 27 4 187) scalars.Bool (pos 1)) (local_name (m 28 4 194) 2) (local_name (m 29 4 198) 1)))) (and_type (reference_type (m 33 4 203) (const_type (m 33 4 203) (position_type (m 33 4 203) 0))) no_argument))) no_requirement)))) })
    ∷ a_concept (record { at = (p 5 30); template_parameters = (tp None None ∷ []); condition = (requires (m 47 5 39) (and_parameter (m 37 5 50) (position_type (m 36 5 48) 0) 0 true no_parameter) (and_nested (concept_id (m 46 5 64) (d 0) (and_type (decltype_type (m 44 5 67) (parentheses (m 43 5 76) (conditional (m 42 5 77) (literal (m 38 5 77) scalars.Bool (pos 1)) (local_name (m 39 5 84) 0) (list (m 41 5 88) (position_type (m 40 5 88) 0) no_expression)))) (and_type (position_type (m 45 5 95) 0) no_argument))) no_requirement)) })
    ∷ a_concept (record { at = (p 6 42); template_parameters = (tp None None ∷ tp None None ∷ []); condition = (requires (m 56 6 50) (and_parameter (m 49 6 61) (position_type (m 48 6 59) 0) 0 true (and_parameter (m 51 6 66) (position_type (m 50 6 64) 1) 1 true no_parameter)) (and_simple (conditional (m 55 6 71) (literal (m 52 6 71) scalars.Bool (pos 1)) (local_name (m 53 6 78) 0) (local_name (m 54 6 82) 1)) no_requirement)) })
    ∷ a_concept (record { at = (p 7 30); template_parameters = (tp None None ∷ []); condition = (requires (m 64 7 44) (and_parameter (m 58 7 62) (reference_type (m 57 7 53) (const_type (m 57 7 53) (position_type (m 57 7 53) 0))) 0 true no_parameter) (and_simple (conditional (m 63 7 67) (literal (m 59 7 67) scalars.Bool (pos 1)) (local_name (m 60 7 74) 0) (list (m 62 7 78) (position_type (m 61 7 78) 0) no_expression)) no_requirement)) })
    ∷ a_concept (record { at = (p 8 30); template_parameters = (tp None None ∷ []); condition = (requires (m 74 8 40) (and_parameter (m 66 8 51) (position_type (m 65 8 49) 0) 0 true no_parameter) (and_simple (conditional (m 73 8 56) (literal (m 67 8 56) scalars.Bool (pos 1)) (dot (m 69 8 63) (local_name (m 68 8 63) 0) (codes "x")) (dot (m 72 8 69) (list (m 71 8 69) (position_type (m 70 8 69) 0) no_expression) (codes "x"))) no_requirement)) })
    ∷ a_concept (record { at = (p 9 30); template_parameters = (tp None None ∷ []); condition = (requires (m 87 9 46) (and_parameter (m 76 9 57) (position_type (m 75 9 55) 0) 0 true no_parameter) (and_nested (concept_id (m 86 9 71) (d 0) (and_type (decltype_type (m 84 9 74) (parentheses (m 83 9 83) (conditional (m 82 9 84) (literal (m 77 9 84) scalars.Bool (pos 1)) (dot (m 79 9 91) (local_name (m 78 9 91) 0) (codes "x")) (dot (m 81 9 97) (local_name (m 80 9 97) 0) (codes "x"))))) (and_type (reference_type (m 85 9 104) (scalar_type (m 85 9 104) scalars.Int)) no_argument))) no_requirement)) })
    ∷ a_struct (record { at = (p 10 8); itself = (struct (d 11)); is_template = false; template_parameters = ([]); constraints = ([]); primary = None; specialised_for = ([]); members = (field (codes "s") (struct_type (m 88 10 12) (d 1)) ∷ []) })
    ∷ a_field 0 (struct_type (m 88 10 12) (d 1))
    ∷ a_concept (record { at = (p 11 30); template_parameters = (tp None None ∷ []); condition = (requires (m 98 11 46) (and_parameter (m 90 11 57) (position_type (m 89 11 55) 0) 0 true no_parameter) (and_simple (conditional (m 97 11 62) (literal (m 91 11 62) scalars.Bool (pos 1)) (dot (m 93 11 69) (local_name (m 92 11 69) 0) (codes "s")) (dot (m 96 11 75) (list (m 95 11 75) (position_type (m 94 11 75) 0) no_expression) (codes "s"))) no_requirement)) })
    ∷ [])
    ([])
    ([])
    ((2, (is_same (m 2 1 47) (position_type (m 0 1 57) 0) (position_type (m 1 1 60) 1)))
    ∷ (35, (requires (m 35 4 40) (and_parameter (m 6 4 51) (position_type (m 5 4 49) 0) 0 true (and_parameter (m 8 4 56) (position_type (m 7 4 54) 0) 1 true (and_parameter (m 10 4 68) (reference_type (m 9 4 59) (const_type (m 9 4 59) (position_type (m 9 4 59) 0))) 2 true no_parameter))) (and_nested (concept_id (m 18 4 82) (d 0) (and_type (decltype_type (m 16 4 85) (parentheses (m 15 4 94) (conditional (m 14 4 95) (literal (m 11 4 95) scalars.Bool (pos 1)) (local_name (m 12 4 102) 0) (local_name (m 13 4 106) 1)))) (and_type (reference_type (m 17 4 111) (position_type (m 17 4 111) 0)) no_argument))) (and_nested (concept_id (m 26 4 125) (d 0) (and_type (decltype_type (m 24 4 128) (parentheses (m 23 4 137) (conditional (m 22 4 138) (literal (m 19 4 138) scalars.Bool (pos 1)) (local_name (m 20 4 145) 0) (local_name (m 21 4 149) 2)))) (and_type (reference_type (m 25 4 154) (const_type (m 25 4 154) (position_type (m 25 4 154) 0))) no_argument))) (and_nested (concept_id (m 34 4 174) (d 0) (and_type (decltype_type (m 32 4 177) (parentheses (m 31 4 186) (conditional (m 30 4 187) (literal (m 27 4 187) scalars.Bool (pos 1)) (local_name (m 28 4 194) 2) (local_name (m 29 4 198) 1)))) (and_type (reference_type (m 33 4 203) (const_type (m 33 4 203) (position_type (m 33 4 203) 0))) no_argument))) no_requirement)))))
    ∷ (47, (requires (m 47 5 39) (and_parameter (m 37 5 50) (position_type (m 36 5 48) 0) 0 true no_parameter) (and_nested (concept_id (m 46 5 64) (d 0) (and_type (decltype_type (m 44 5 67) (parentheses (m 43 5 76) (conditional (m 42 5 77) (literal (m 38 5 77) scalars.Bool (pos 1)) (local_name (m 39 5 84) 0) (list (m 41 5 88) (position_type (m 40 5 88) 0) no_expression)))) (and_type (position_type (m 45 5 95) 0) no_argument))) no_requirement)))
    ∷ (56, (requires (m 56 6 50) (and_parameter (m 49 6 61) (position_type (m 48 6 59) 0) 0 true (and_parameter (m 51 6 66) (position_type (m 50 6 64) 1) 1 true no_parameter)) (and_simple (conditional (m 55 6 71) (literal (m 52 6 71) scalars.Bool (pos 1)) (local_name (m 53 6 78) 0) (local_name (m 54 6 82) 1)) no_requirement)))
    ∷ (64, (requires (m 64 7 44) (and_parameter (m 58 7 62) (reference_type (m 57 7 53) (const_type (m 57 7 53) (position_type (m 57 7 53) 0))) 0 true no_parameter) (and_simple (conditional (m 63 7 67) (literal (m 59 7 67) scalars.Bool (pos 1)) (local_name (m 60 7 74) 0) (list (m 62 7 78) (position_type (m 61 7 78) 0) no_expression)) no_requirement)))
    ∷ (74, (requires (m 74 8 40) (and_parameter (m 66 8 51) (position_type (m 65 8 49) 0) 0 true no_parameter) (and_simple (conditional (m 73 8 56) (literal (m 67 8 56) scalars.Bool (pos 1)) (dot (m 69 8 63) (local_name (m 68 8 63) 0) (codes "x")) (dot (m 72 8 69) (list (m 71 8 69) (position_type (m 70 8 69) 0) no_expression) (codes "x"))) no_requirement)))
    ∷ (87, (requires (m 87 9 46) (and_parameter (m 76 9 57) (position_type (m 75 9 55) 0) 0 true no_parameter) (and_nested (concept_id (m 86 9 71) (d 0) (and_type (decltype_type (m 84 9 74) (parentheses (m 83 9 83) (conditional (m 82 9 84) (literal (m 77 9 84) scalars.Bool (pos 1)) (dot (m 79 9 91) (local_name (m 78 9 91) 0) (codes "x")) (dot (m 81 9 97) (local_name (m 80 9 97) 0) (codes "x"))))) (and_type (reference_type (m 85 9 104) (scalar_type (m 85 9 104) scalars.Int)) no_argument))) no_requirement)))
    ∷ (98, (requires (m 98 11 46) (and_parameter (m 90 11 57) (position_type (m 89 11 55) 0) 0 true no_parameter) (and_simple (conditional (m 97 11 62) (literal (m 91 11 62) scalars.Bool (pos 1)) (dot (m 93 11 69) (local_name (m 92 11 69) 0) (codes "s")) (dot (m 96 11 75) (list (m 95 11 75) (position_type (m 94 11 75) 0) no_expression) (codes "s"))) no_requirement)))
    ∷ (158, (requires (m 158 25 15) (and_parameter (m 153 25 26) (struct_type (m 152 25 24) (d 1)) 1 true no_parameter) (and_simple (conditional (m 157 25 31) (local_name (m 154 25 31) 1) (literal (m 155 25 35) scalars.Int (pos 1)) (literal (m 156 25 39) scalars.Int (pos 2))) no_requirement)))
    ∷ [])
    (around 0 (None ∷ None ∷ []) true ∷ around 3 ([]) false ∷ around 5 (None ∷ []) true ∷ around 48 (None ∷ None ∷ []) true ∷ around 57 (None ∷ []) true ∷ around 88 ([]) false ∷ around 89 (None ∷ []) true ∷ around 99 ([]) false ∷ [])
    ([])

abbrev pub conditionals_unit_assert_12_1 : Expression
conditionals_unit_assert_12_1 = concept_id (m 100 12 15) (d 5) (and_type (scalar_type (m 99 12 23) scalars.Int) no_argument)

abbrev pub conditionals_unit_assert_13_1 : Expression
conditionals_unit_assert_13_1 = concept_id (m 103 13 15) (d 5) (and_type (struct_type (m 102 13 23) (d 1)) no_argument)

abbrev pub conditionals_unit_assert_14_1 : Expression
conditionals_unit_assert_14_1 = concept_id (m 106 14 15) (d 6) (and_type (scalar_type (m 105 14 22) scalars.Int) no_argument)

abbrev pub conditionals_unit_assert_15_1 : Expression
conditionals_unit_assert_15_1 = concept_id (m 109 15 15) (d 6) (and_type (struct_type (m 108 15 22) (d 1)) no_argument)

abbrev pub conditionals_unit_assert_16_1 : Expression
conditionals_unit_assert_16_1 = concept_id (m 118 16 15) (d 0) (and_type (decltype_type (m 116 16 18) (parentheses (m 115 16 27) (conditional (m 114 16 28) (literal (m 111 16 28) scalars.Bool (pos 1)) (literal (m 112 16 35) scalars.Int (pos 1)) (literal (m 113 16 39) scalars.Unsigned (pos 1))))) (and_type (scalar_type (m 117 16 45) scalars.Unsigned) no_argument))

abbrev pub conditionals_unit_assert_17_1 : Expression
conditionals_unit_assert_17_1 = concept_id (m 127 17 15) (d 0) (and_type (decltype_type (m 125 17 18) (parentheses (m 124 17 27) (conditional (m 123 17 28) (literal (m 120 17 28) scalars.Bool (pos 1)) (literal (m 121 17 35) scalars.Bool (pos 1)) (literal (m 122 17 42) scalars.Int (pos 1))))) (and_type (scalar_type (m 126 17 47) scalars.Int) no_argument))

abbrev pub conditionals_unit_assert_18_1 : Expression
conditionals_unit_assert_18_1 = concept_id (m 131 18 15) (d 7) (and_type (scalar_type (m 129 18 21) scalars.Int) (and_type (struct_type (m 130 18 26) (d 1)) no_argument))

abbrev pub conditionals_unit_assert_19_1 : Expression
conditionals_unit_assert_19_1 = concept_id (m 135 19 15) (d 7) (and_type (struct_type (m 133 19 21) (d 1)) (and_type (struct_type (m 134 19 24) (d 3)) no_argument))

abbrev pub conditionals_unit_assert_20_1 : Expression
conditionals_unit_assert_20_1 = concept_id (m 138 20 15) (d 8) (and_type (struct_type (m 137 20 27) (d 1)) no_argument)

abbrev pub conditionals_unit_assert_21_1 : Expression
conditionals_unit_assert_21_1 = concept_id (m 141 21 15) (d 8) (and_type (scalar_type (m 140 21 27) scalars.Int) no_argument)

abbrev pub conditionals_unit_assert_22_1 : Expression
conditionals_unit_assert_22_1 = concept_id (m 144 22 15) (d 9) (and_type (struct_type (m 143 22 23) (d 1)) no_argument)

abbrev pub conditionals_unit_assert_23_1 : Expression
conditionals_unit_assert_23_1 = concept_id (m 147 23 15) (d 10) (and_type (struct_type (m 146 23 29) (d 1)) no_argument)

abbrev pub conditionals_unit_assert_24_1 : Expression
conditionals_unit_assert_24_1 = concept_id (m 150 24 15) (d 13) (and_type (struct_type (m 149 24 29) (d 11)) no_argument)

abbrev pub conditionals_unit_assert_25_1 : Expression
conditionals_unit_assert_25_1 = requires (m 158 25 15) (and_parameter (m 153 25 26) (struct_type (m 152 25 24) (d 1)) 1 true no_parameter) (and_simple (conditional (m 157 25 31) (local_name (m 154 25 31) 1) (literal (m 155 25 35) scalars.Int (pos 1)) (literal (m 156 25 39) scalars.Int (pos 2))) no_requirement)

-- template<typename A, typename B> concept Is = __is_same(A, B);
-- struct S { int x; bool b; };
-- struct O { S s; int y; };
-- struct E { };
-- static_assert(Is<decltype((int{})), int>);
-- static_assert(Is<decltype((bool{1})), bool>);
-- static_assert(Is<decltype((unsigned{1})), unsigned>);
-- template<typename T, typename U> concept From = requires(U u) { T{u}; };
-- template<typename T, typename U> concept FromTwo = requires(U u) { T{u, u}; };
-- template<typename T> concept FromMinus = requires { T{-1}; };
-- template<typename T> concept FromThree = requires { T{3}; };
-- static_assert(From<long long, int>);
-- static_assert(From<int, long long>);
-- static_assert(From<int, bool>);
-- static_assert(From<bool, int>);
-- static_assert(From<unsigned, int>);
-- static_assert(FromMinus<unsigned>);
-- static_assert(FromMinus<int>);
-- static_assert(FromThree<bool>);
-- static_assert(FromThree<unsigned>);
-- static_assert(FromTwo<int, int>);
-- static_assert(From<S, S>);
-- static_assert(From<S, int>);
-- static_assert(FromTwo<S, bool>);
-- static_assert(FromTwo<S, int>);
-- static_assert(From<O, S>);
-- static_assert(From<O, int>);
-- static_assert(From<E, E>);
-- static_assert(From<E, int>);
-- static_assert(From<int&, int>);
-- static_assert(From<int, S>);
-- static_assert(From<const S, S>);
-- static_assert(From<void, int>);
abbrev pub lists_unit : Program
lists_unit =
    unit
    (a_concept (record { at = (p 1 42); template_parameters = (tp None None ∷ tp None None ∷ []); condition = (is_same (m 2 1 47) (position_type (m 0 1 57) 0) (position_type (m 1 1 60) 1)) })
    ∷ a_struct (record { at = (p 2 8); itself = (struct (d 1)); is_template = false; template_parameters = ([]); constraints = ([]); primary = None; specialised_for = ([]); members = (field (codes "x") (scalar_type (m 3 2 12) scalars.Int) ∷ field (codes "b") (scalar_type (m 4 2 19) scalars.Bool) ∷ []) })
    ∷ a_field 0 (scalar_type (m 3 2 12) scalars.Int)
    ∷ a_field 1 (scalar_type (m 4 2 19) scalars.Bool)
    ∷ a_struct (record { at = (p 3 8); itself = (struct (d 4)); is_template = false; template_parameters = ([]); constraints = ([]); primary = None; specialised_for = ([]); members = (field (codes "s") (struct_type (m 5 3 12) (d 1)) ∷ field (codes "y") (scalar_type (m 6 3 17) scalars.Int) ∷ []) })
    ∷ a_field 0 (struct_type (m 5 3 12) (d 1))
    ∷ a_field 1 (scalar_type (m 6 3 17) scalars.Int)
    ∷ a_struct (record { at = (p 4 8); itself = (struct (d 7)); is_template = false; template_parameters = ([]); constraints = ([]); primary = None; specialised_for = ([]); members = ([]) })
    ∷ a_concept (record { at = (p 8 42); template_parameters = (tp None None ∷ tp None None ∷ []); condition = (requires (m 35 8 49) (and_parameter (m 31 8 60) (position_type (m 30 8 58) 1) 0 true no_parameter) (and_simple (list (m 34 8 65) (position_type (m 32 8 65) 0) (and_expression (local_name (m 33 8 67) 0) no_expression)) no_requirement)) })
    ∷ a_concept (record { at = (p 9 42); template_parameters = (tp None None ∷ tp None None ∷ []); condition = (requires (m 42 9 52) (and_parameter (m 37 9 63) (position_type (m 36 9 61) 1) 0 true no_parameter) (and_simple (list (m 41 9 68) (position_type (m 38 9 68) 0) (and_expression (local_name (m 39 9 70) 0) (and_expression (local_name (m 40 9 73) 0) no_expression))) no_requirement)) })
    ∷ a_concept (record { at = (p 10 30); template_parameters = (tp None None ∷ []); condition = (requires (m 47 10 42) no_parameter (and_simple (list (m 46 10 53) (position_type (m 43 10 53) 0) (and_expression (unary (m 45 10 55) word.Minus (literal (m 44 10 56) scalars.Int (pos 1))) no_expression)) no_requirement)) })
    ∷ a_concept (record { at = (p 11 30); template_parameters = (tp None None ∷ []); condition = (requires (m 51 11 42) no_parameter (and_simple (list (m 50 11 53) (position_type (m 48 11 53) 0) (and_expression (literal (m 49 11 55) scalars.Int (pos 3)) no_expression)) no_requirement)) })
    ∷ [])
    ([])
    ([])
    ((2, (is_same (m 2 1 47) (position_type (m 0 1 57) 0) (position_type (m 1 1 60) 1)))
    ∷ (35, (requires (m 35 8 49) (and_parameter (m 31 8 60) (position_type (m 30 8 58) 1) 0 true no_parameter) (and_simple (list (m 34 8 65) (position_type (m 32 8 65) 0) (and_expression (local_name (m 33 8 67) 0) no_expression)) no_requirement)))
    ∷ (42, (requires (m 42 9 52) (and_parameter (m 37 9 63) (position_type (m 36 9 61) 1) 0 true no_parameter) (and_simple (list (m 41 9 68) (position_type (m 38 9 68) 0) (and_expression (local_name (m 39 9 70) 0) (and_expression (local_name (m 40 9 73) 0) no_expression))) no_requirement)))
    ∷ (47, (requires (m 47 10 42) no_parameter (and_simple (list (m 46 10 53) (position_type (m 43 10 53) 0) (and_expression (unary (m 45 10 55) word.Minus (literal (m 44 10 56) scalars.Int (pos 1))) no_expression)) no_requirement)))
    ∷ (51, (requires (m 51 11 42) no_parameter (and_simple (list (m 50 11 53) (position_type (m 48 11 53) 0) (and_expression (literal (m 49 11 55) scalars.Int (pos 3)) no_expression)) no_requirement)))
    ∷ [])
    (around 0 (None ∷ None ∷ []) true ∷ around 3 ([]) false ∷ around 30 (None ∷ None ∷ []) true ∷ around 43 (None ∷ []) true ∷ around 52 ([]) false ∷ [])
    ([])

abbrev pub lists_unit_assert_5_1 : Expression
lists_unit_assert_5_1 = concept_id (m 12 5 15) (d 0) (and_type (decltype_type (m 10 5 18) (parentheses (m 9 5 27) (list (m 8 5 28) (scalar_type (m 7 5 28) scalars.Int) no_expression))) (and_type (scalar_type (m 11 5 37) scalars.Int) no_argument))

abbrev pub lists_unit_assert_6_1 : Expression
lists_unit_assert_6_1 = concept_id (m 20 6 15) (d 0) (and_type (decltype_type (m 18 6 18) (parentheses (m 17 6 27) (list (m 16 6 28) (scalar_type (m 14 6 28) scalars.Bool) (and_expression (literal (m 15 6 33) scalars.Int (pos 1)) no_expression)))) (and_type (scalar_type (m 19 6 39) scalars.Bool) no_argument))

abbrev pub lists_unit_assert_7_1 : Expression
lists_unit_assert_7_1 = concept_id (m 28 7 15) (d 0) (and_type (decltype_type (m 26 7 18) (parentheses (m 25 7 27) (list (m 24 7 28) (scalar_type (m 22 7 28) scalars.Unsigned) (and_expression (literal (m 23 7 37) scalars.Int (pos 1)) no_expression)))) (and_type (scalar_type (m 27 7 43) scalars.Unsigned) no_argument))

abbrev pub lists_unit_assert_12_1 : Expression
lists_unit_assert_12_1 = concept_id (m 54 12 15) (d 8) (and_type (scalar_type (m 52 12 20) scalars.LongLong) (and_type (scalar_type (m 53 12 31) scalars.Int) no_argument))

abbrev pub lists_unit_assert_13_1 : Expression
lists_unit_assert_13_1 = concept_id (m 58 13 15) (d 8) (and_type (scalar_type (m 56 13 20) scalars.Int) (and_type (scalar_type (m 57 13 25) scalars.LongLong) no_argument))

abbrev pub lists_unit_assert_14_1 : Expression
lists_unit_assert_14_1 = concept_id (m 62 14 15) (d 8) (and_type (scalar_type (m 60 14 20) scalars.Int) (and_type (scalar_type (m 61 14 25) scalars.Bool) no_argument))

abbrev pub lists_unit_assert_15_1 : Expression
lists_unit_assert_15_1 = concept_id (m 66 15 15) (d 8) (and_type (scalar_type (m 64 15 20) scalars.Bool) (and_type (scalar_type (m 65 15 26) scalars.Int) no_argument))

abbrev pub lists_unit_assert_16_1 : Expression
lists_unit_assert_16_1 = concept_id (m 70 16 15) (d 8) (and_type (scalar_type (m 68 16 20) scalars.Unsigned) (and_type (scalar_type (m 69 16 30) scalars.Int) no_argument))

abbrev pub lists_unit_assert_17_1 : Expression
lists_unit_assert_17_1 = concept_id (m 73 17 15) (d 10) (and_type (scalar_type (m 72 17 25) scalars.Unsigned) no_argument)

abbrev pub lists_unit_assert_18_1 : Expression
lists_unit_assert_18_1 = concept_id (m 76 18 15) (d 10) (and_type (scalar_type (m 75 18 25) scalars.Int) no_argument)

abbrev pub lists_unit_assert_19_1 : Expression
lists_unit_assert_19_1 = concept_id (m 79 19 15) (d 11) (and_type (scalar_type (m 78 19 25) scalars.Bool) no_argument)

abbrev pub lists_unit_assert_20_1 : Expression
lists_unit_assert_20_1 = concept_id (m 82 20 15) (d 11) (and_type (scalar_type (m 81 20 25) scalars.Unsigned) no_argument)

abbrev pub lists_unit_assert_21_1 : Expression
lists_unit_assert_21_1 = concept_id (m 86 21 15) (d 9) (and_type (scalar_type (m 84 21 23) scalars.Int) (and_type (scalar_type (m 85 21 28) scalars.Int) no_argument))

abbrev pub lists_unit_assert_22_1 : Expression
lists_unit_assert_22_1 = concept_id (m 90 22 15) (d 8) (and_type (struct_type (m 88 22 20) (d 1)) (and_type (struct_type (m 89 22 23) (d 1)) no_argument))

abbrev pub lists_unit_assert_23_1 : Expression
lists_unit_assert_23_1 = concept_id (m 94 23 15) (d 8) (and_type (struct_type (m 92 23 20) (d 1)) (and_type (scalar_type (m 93 23 23) scalars.Int) no_argument))

abbrev pub lists_unit_assert_24_1 : Expression
lists_unit_assert_24_1 = concept_id (m 98 24 15) (d 9) (and_type (struct_type (m 96 24 23) (d 1)) (and_type (scalar_type (m 97 24 26) scalars.Bool) no_argument))

abbrev pub lists_unit_assert_25_1 : Expression
lists_unit_assert_25_1 = concept_id (m 102 25 15) (d 9) (and_type (struct_type (m 100 25 23) (d 1)) (and_type (scalar_type (m 101 25 26) scalars.Int) no_argument))

abbrev pub lists_unit_assert_26_1 : Expression
lists_unit_assert_26_1 = concept_id (m 106 26 15) (d 8) (and_type (struct_type (m 104 26 20) (d 4)) (and_type (struct_type (m 105 26 23) (d 1)) no_argument))

abbrev pub lists_unit_assert_27_1 : Expression
lists_unit_assert_27_1 = concept_id (m 110 27 15) (d 8) (and_type (struct_type (m 108 27 20) (d 4)) (and_type (scalar_type (m 109 27 23) scalars.Int) no_argument))

abbrev pub lists_unit_assert_28_1 : Expression
lists_unit_assert_28_1 = concept_id (m 114 28 15) (d 8) (and_type (struct_type (m 112 28 20) (d 7)) (and_type (struct_type (m 113 28 23) (d 7)) no_argument))

abbrev pub lists_unit_assert_29_1 : Expression
lists_unit_assert_29_1 = concept_id (m 118 29 15) (d 8) (and_type (struct_type (m 116 29 20) (d 7)) (and_type (scalar_type (m 117 29 23) scalars.Int) no_argument))

abbrev pub lists_unit_assert_30_1 : Expression
lists_unit_assert_30_1 = concept_id (m 122 30 15) (d 8) (and_type (reference_type (m 120 30 20) (scalar_type (m 120 30 20) scalars.Int)) (and_type (scalar_type (m 121 30 26) scalars.Int) no_argument))

abbrev pub lists_unit_assert_31_1 : Expression
lists_unit_assert_31_1 = concept_id (m 126 31 15) (d 8) (and_type (scalar_type (m 124 31 20) scalars.Int) (and_type (struct_type (m 125 31 25) (d 1)) no_argument))

abbrev pub lists_unit_assert_32_1 : Expression
lists_unit_assert_32_1 = concept_id (m 130 32 15) (d 8) (and_type (const_type (m 128 32 20) (struct_type (m 128 32 20) (d 1))) (and_type (struct_type (m 129 32 29) (d 1)) no_argument))

abbrev pub lists_unit_assert_33_1 : Expression
lists_unit_assert_33_1 = concept_id (m 134 33 15) (d 8) (and_type (void_type (m 132 33 20)) (and_type (scalar_type (m 133 33 26) scalars.Int) no_argument))

-- template<typename A, typename B> concept Is = __is_same(A, B);
-- struct S { int x; };
-- struct R { int x; };
-- static_assert(Is<decltype((static_cast<const int>(1u))), int>);
-- static_assert(Is<decltype((static_cast<void>(1))), void>);
-- template<typename T, typename U> concept To = requires(U& u) { static_cast<T>(u); };
-- template<typename T, typename U> concept OfValue = requires { static_cast<T>(U{}); };
-- template<typename T> concept Adds = requires(T& t) { requires Is<decltype((static_cast<const T&>(t))), const T&>; };
-- static_assert(Adds<int>);
-- static_assert(To<bool, long long>);
-- static_assert(To<int, S>);
-- static_assert(To<S, S>);
-- static_assert(To<S, R>);
-- static_assert(To<S, int>);
-- static_assert(To<void, S>);
-- static_assert(To<int&, int>);
-- static_assert(To<int&, const int>);
-- static_assert(To<const int&, const int>);
-- static_assert(To<int&, unsigned>);
-- static_assert(To<const int&, unsigned>);
-- static_assert(OfValue<const int&, int>);
-- static_assert(OfValue<int&, int>);
-- static_assert(OfValue<const S&, S>);
-- static_assert(OfValue<const S, S>);
-- static_assert(To<const R&, S>);
abbrev pub casts_unit : Program
casts_unit =
    unit
    (a_concept (record { at = (p 1 42); template_parameters = (tp None None ∷ tp None None ∷ []); condition = (is_same (m 2 1 47) (position_type (m 0 1 57) 0) (position_type (m 1 1 60) 1)) })
    ∷ a_struct (record { at = (p 2 8); itself = (struct (d 1)); is_template = false; template_parameters = ([]); constraints = ([]); primary = None; specialised_for = ([]); members = (field (codes "x") (scalar_type (m 3 2 12) scalars.Int) ∷ []) })
    ∷ a_field 0 (scalar_type (m 3 2 12) scalars.Int)
    ∷ a_struct (record { at = (p 3 8); itself = (struct (d 3)); is_template = false; template_parameters = ([]); constraints = ([]); primary = None; specialised_for = ([]); members = (field (codes "x") (scalar_type (m 4 3 12) scalars.Int) ∷ []) })
    ∷ a_field 0 (scalar_type (m 4 3 12) scalars.Int)
    ∷ a_concept (record { at = (p 6 42); template_parameters = (tp None None ∷ tp None None ∷ []); condition = (requires (m 26 6 47) (and_parameter (m 22 6 59) (reference_type (m 21 6 56) (position_type (m 21 6 56) 1)) 0 true no_parameter) (and_simple (cast (m 25 6 64) (position_type (m 23 6 76) 0) (local_name (m 24 6 79) 0)) no_requirement)) })
    ∷ a_concept (record { at = (p 7 42); template_parameters = (tp None None ∷ tp None None ∷ []); condition = (requires (m 31 7 52) no_parameter (and_simple (cast (m 30 7 63) (position_type (m 27 7 75) 0) (list (m 29 7 78) (position_type (m 28 7 78) 1) no_expression)) no_requirement)) })
    ∷ a_concept (record { at = (p 8 30); template_parameters = (tp None None ∷ []); condition = (requires (m 41 8 37) (and_parameter (m 33 8 49) (reference_type (m 32 8 46) (position_type (m 32 8 46) 0)) 0 true no_parameter) (and_nested (concept_id (m 40 8 63) (d 0) (and_type (decltype_type (m 38 8 66) (parentheses (m 37 8 75) (cast (m 36 8 76) (reference_type (m 34 8 88) (const_type (m 34 8 88) (position_type (m 34 8 88) 0))) (local_name (m 35 8 98) 0)))) (and_type (reference_type (m 39 8 104) (const_type (m 39 8 104) (position_type (m 39 8 104) 0))) no_argument))) no_requirement)) })
    ∷ [])
    ([])
    ([])
    ((2, (is_same (m 2 1 47) (position_type (m 0 1 57) 0) (position_type (m 1 1 60) 1)))
    ∷ (26, (requires (m 26 6 47) (and_parameter (m 22 6 59) (reference_type (m 21 6 56) (position_type (m 21 6 56) 1)) 0 true no_parameter) (and_simple (cast (m 25 6 64) (position_type (m 23 6 76) 0) (local_name (m 24 6 79) 0)) no_requirement)))
    ∷ (31, (requires (m 31 7 52) no_parameter (and_simple (cast (m 30 7 63) (position_type (m 27 7 75) 0) (list (m 29 7 78) (position_type (m 28 7 78) 1) no_expression)) no_requirement)))
    ∷ (41, (requires (m 41 8 37) (and_parameter (m 33 8 49) (reference_type (m 32 8 46) (position_type (m 32 8 46) 0)) 0 true no_parameter) (and_nested (concept_id (m 40 8 63) (d 0) (and_type (decltype_type (m 38 8 66) (parentheses (m 37 8 75) (cast (m 36 8 76) (reference_type (m 34 8 88) (const_type (m 34 8 88) (position_type (m 34 8 88) 0))) (local_name (m 35 8 98) 0)))) (and_type (reference_type (m 39 8 104) (const_type (m 39 8 104) (position_type (m 39 8 104) 0))) no_argument))) no_requirement)))
    ∷ [])
    (around 0 (None ∷ None ∷ []) true ∷ around 3 ([]) false ∷ around 21 (None ∷ None ∷ []) true ∷ around 32 (None ∷ []) true ∷ around 42 ([]) false ∷ [])
    ([])

abbrev pub casts_unit_assert_4_1 : Expression
casts_unit_assert_4_1 = concept_id (m 11 4 15) (d 0) (and_type (decltype_type (m 9 4 18) (parentheses (m 8 4 27) (cast (m 7 4 28) (const_type (m 5 4 40) (scalar_type (m 5 4 40) scalars.Int)) (literal (m 6 4 51) scalars.Unsigned (pos 1))))) (and_type (scalar_type (m 10 4 58) scalars.Int) no_argument))

abbrev pub casts_unit_assert_5_1 : Expression
casts_unit_assert_5_1 = concept_id (m 19 5 15) (d 0) (and_type (decltype_type (m 17 5 18) (parentheses (m 16 5 27) (cast (m 15 5 28) (void_type (m 13 5 40)) (literal (m 14 5 46) scalars.Int (pos 1))))) (and_type (void_type (m 18 5 52)) no_argument))

abbrev pub casts_unit_assert_9_1 : Expression
casts_unit_assert_9_1 = concept_id (m 43 9 15) (d 7) (and_type (scalar_type (m 42 9 20) scalars.Int) no_argument)

abbrev pub casts_unit_assert_10_1 : Expression
casts_unit_assert_10_1 = concept_id (m 47 10 15) (d 5) (and_type (scalar_type (m 45 10 18) scalars.Bool) (and_type (scalar_type (m 46 10 24) scalars.LongLong) no_argument))

abbrev pub casts_unit_assert_11_1 : Expression
casts_unit_assert_11_1 = concept_id (m 51 11 15) (d 5) (and_type (scalar_type (m 49 11 18) scalars.Int) (and_type (struct_type (m 50 11 23) (d 1)) no_argument))

abbrev pub casts_unit_assert_12_1 : Expression
casts_unit_assert_12_1 = concept_id (m 55 12 15) (d 5) (and_type (struct_type (m 53 12 18) (d 1)) (and_type (struct_type (m 54 12 21) (d 1)) no_argument))

abbrev pub casts_unit_assert_13_1 : Expression
casts_unit_assert_13_1 = concept_id (m 59 13 15) (d 5) (and_type (struct_type (m 57 13 18) (d 1)) (and_type (struct_type (m 58 13 21) (d 3)) no_argument))

abbrev pub casts_unit_assert_14_1 : Expression
casts_unit_assert_14_1 = concept_id (m 63 14 15) (d 5) (and_type (struct_type (m 61 14 18) (d 1)) (and_type (scalar_type (m 62 14 21) scalars.Int) no_argument))

abbrev pub casts_unit_assert_15_1 : Expression
casts_unit_assert_15_1 = concept_id (m 67 15 15) (d 5) (and_type (void_type (m 65 15 18)) (and_type (struct_type (m 66 15 24) (d 1)) no_argument))

abbrev pub casts_unit_assert_16_1 : Expression
casts_unit_assert_16_1 = concept_id (m 71 16 15) (d 5) (and_type (reference_type (m 69 16 18) (scalar_type (m 69 16 18) scalars.Int)) (and_type (scalar_type (m 70 16 24) scalars.Int) no_argument))

abbrev pub casts_unit_assert_17_1 : Expression
casts_unit_assert_17_1 = concept_id (m 75 17 15) (d 5) (and_type (reference_type (m 73 17 18) (scalar_type (m 73 17 18) scalars.Int)) (and_type (const_type (m 74 17 24) (scalar_type (m 74 17 24) scalars.Int)) no_argument))

abbrev pub casts_unit_assert_18_1 : Expression
casts_unit_assert_18_1 = concept_id (m 79 18 15) (d 5) (and_type (reference_type (m 77 18 18) (const_type (m 77 18 18) (scalar_type (m 77 18 18) scalars.Int))) (and_type (const_type (m 78 18 30) (scalar_type (m 78 18 30) scalars.Int)) no_argument))

abbrev pub casts_unit_assert_19_1 : Expression
casts_unit_assert_19_1 = concept_id (m 83 19 15) (d 5) (and_type (reference_type (m 81 19 18) (scalar_type (m 81 19 18) scalars.Int)) (and_type (scalar_type (m 82 19 24) scalars.Unsigned) no_argument))

abbrev pub casts_unit_assert_20_1 : Expression
casts_unit_assert_20_1 = concept_id (m 87 20 15) (d 5) (and_type (reference_type (m 85 20 18) (const_type (m 85 20 18) (scalar_type (m 85 20 18) scalars.Int))) (and_type (scalar_type (m 86 20 30) scalars.Unsigned) no_argument))

abbrev pub casts_unit_assert_21_1 : Expression
casts_unit_assert_21_1 = concept_id (m 91 21 15) (d 6) (and_type (reference_type (m 89 21 23) (const_type (m 89 21 23) (scalar_type (m 89 21 23) scalars.Int))) (and_type (scalar_type (m 90 21 35) scalars.Int) no_argument))

abbrev pub casts_unit_assert_22_1 : Expression
casts_unit_assert_22_1 = concept_id (m 95 22 15) (d 6) (and_type (reference_type (m 93 22 23) (scalar_type (m 93 22 23) scalars.Int)) (and_type (scalar_type (m 94 22 29) scalars.Int) no_argument))

abbrev pub casts_unit_assert_23_1 : Expression
casts_unit_assert_23_1 = concept_id (m 99 23 15) (d 6) (and_type (reference_type (m 97 23 23) (const_type (m 97 23 23) (struct_type (m 97 23 23) (d 1)))) (and_type (struct_type (m 98 23 33) (d 1)) no_argument))

abbrev pub casts_unit_assert_24_1 : Expression
casts_unit_assert_24_1 = concept_id (m 103 24 15) (d 6) (and_type (const_type (m 101 24 23) (struct_type (m 101 24 23) (d 1))) (and_type (struct_type (m 102 24 32) (d 1)) no_argument))

abbrev pub casts_unit_assert_25_1 : Expression
casts_unit_assert_25_1 = concept_id (m 107 25 15) (d 5) (and_type (reference_type (m 105 25 18) (const_type (m 105 25 18) (struct_type (m 105 25 18) (d 3)))) (and_type (struct_type (m 106 25 28) (d 1)) no_argument))

-- struct S { int x; using type = int; static constexpr int c = 2; int f() { return 1; } };
-- template<typename T> concept Constant = requires { T::c; };
-- template<typename T> concept Absent = requires { T::z; };
-- template<typename T> concept Field = requires { T::x; };
-- template<typename T> concept Function = requires { T::f; };
-- template<typename T> concept Type = requires { T::type; };
-- template<typename T> concept Typename = requires { typename T::type; };
-- template<typename T> concept AbsentType = requires { typename T::z; };
-- template<typename T> concept Dotted = requires(T t) { t.c; };
-- template<typename T> concept DottedFunction = requires(T t) { t.f; };
-- template<typename T> concept DottedType = requires(T t) { t.type; };
-- static_assert(Constant<S>);
-- static_assert(Constant<const S>);
-- static_assert(Constant<S&>);
-- static_assert(Constant<int>);
-- static_assert(Absent<S>);
-- static_assert(Field<S>);
-- static_assert(Function<S>);
-- static_assert(Type<S>);
-- static_assert(Typename<S>);
-- static_assert(Typename<const S>);
-- static_assert(Typename<S&>);
-- static_assert(AbsentType<S>);
-- static_assert(Dotted<S>);
-- static_assert(DottedFunction<S>);
-- static_assert(DottedType<S>);
-- static_assert(S::z == 1);
-- static_assert(int{S::c} == 2);
abbrev pub qualified_names_unit : Program
qualified_names_unit =
    unit
    (a_struct (record { at = (p 1 8); itself = (struct (d 0)); is_template = false; template_parameters = ([]); constraints = ([]); primary = None; specialised_for = ([]); members = (field (codes "x") (scalar_type (m 0 1 12) scalars.Int) ∷ member_alias (codes "type") (scalar_type (m 1 1 32) scalars.Int) ∷ static_constant (codes "c") (d 2) ∷ member_function (codes "f") (d 3) ∷ []) })
    ∷ a_field 0 (scalar_type (m 0 1 12) scalars.Int)
    ∷ a_constant (record { at = (p 1 58); name = (codes "c"); of = (scalar_type (m 2 1 54) scalars.Int); initialiser = (literal (m 3 1 62) scalars.Int (pos 2)); owner = (Some (d 0)) })
    ∷ a_function (record { at = (p 1 69); name = (codes "f"); owner = (Some (d 0)); is_template = false; template_parameters = ([]); constraints = ([]); parameters = ([]); result = (scalar_type (m 4 1 65) scalars.Int); is_const = false; is_constexpr = false; body = Some (block (m 7 1 73) (and_statement (return_statement (m 6 1 75) (Some (literal (m 5 1 82) scalars.Int (pos 1)))) no_statement)) })
    ∷ a_concept (record { at = (p 2 30); template_parameters = (tp None None ∷ []); condition = (requires (m 10 2 41) no_parameter (and_simple (scope (m 9 2 52) (position_type (m 8 2 52) 0) ([]) (codes "c")) no_requirement)) })
    ∷ a_concept (record { at = (p 3 30); template_parameters = (tp None None ∷ []); condition = (requires (m 13 3 39) no_parameter (and_simple (scope (m 12 3 50) (position_type (m 11 3 50) 0) ([]) (codes "z")) no_requirement)) })
    ∷ a_concept (record { at = (p 4 30); template_parameters = (tp None None ∷ []); condition = (requires (m 16 4 38) no_parameter (and_simple (scope (m 15 4 49) (position_type (m 14 4 49) 0) ([]) (codes "x")) no_requirement)) })
    ∷ a_concept (record { at = (p 5 30); template_parameters = (tp None None ∷ []); condition = (requires (m 19 5 41) no_parameter (and_simple (scope (m 18 5 52) (position_type (m 17 5 52) 0) ([]) (codes "f")) no_requirement)) })
    ∷ a_concept (record { at = (p 6 30); template_parameters = (tp None None ∷ []); condition = (requires (m 22 6 37) no_parameter (and_simple (scope (m 21 6 48) (position_type (m 20 6 48) 0) ([]) (codes "type")) no_requirement)) })
    ∷ a_concept (record { at = (p 7 30); template_parameters = (tp None None ∷ []); condition = (requires (m 25 7 41) no_parameter (and_type_requirement (member_type (m 24 7 52) (position_type (m 23 7 61) 0) ((codes "type") ∷ [])) no_requirement)) })
    ∷ a_concept (record { at = (p 8 30); template_parameters = (tp None None ∷ []); condition = (requires (m 28 8 43) no_parameter (and_type_requirement (member_type (m 27 8 54) (position_type (m 26 8 63) 0) ((codes "z") ∷ [])) no_requirement)) })
    ∷ a_concept (record { at = (p 9 30); template_parameters = (tp None None ∷ []); condition = (requires (m 33 9 39) (and_parameter (m 30 9 50) (position_type (m 29 9 48) 0) 0 true no_parameter) (and_simple (dot (m 32 9 55) (local_name (m 31 9 55) 0) (codes "c")) no_requirement)) })
    ∷ a_concept (record { at = (p 10 30); template_parameters = (tp None None ∷ []); condition = (requires (m 38 10 47) (and_parameter (m 35 10 58) (position_type (m 34 10 56) 0) 0 true no_parameter) (and_simple (dot (m 37 10 63) (local_name (m 36 10 63) 0) (codes "f")) no_requirement)) })
    ∷ a_concept (record { at = (p 11 30); template_parameters = (tp None None ∷ []); condition = (requires (m 43 11 43) (and_parameter (m 40 11 54) (position_type (m 39 11 52) 0) 0 true no_parameter) (and_simple (dot (m 42 11 59) (local_name (m 41 11 59) 0) (codes "type")) no_requirement)) })
    ∷ [])
    ([])
    ([])
    ((10, (requires (m 10 2 41) no_parameter (and_simple (scope (m 9 2 52) (position_type (m 8 2 52) 0) ([]) (codes "c")) no_requirement)))
    ∷ (13, (requires (m 13 3 39) no_parameter (and_simple (scope (m 12 3 50) (position_type (m 11 3 50) 0) ([]) (codes "z")) no_requirement)))
    ∷ (16, (requires (m 16 4 38) no_parameter (and_simple (scope (m 15 4 49) (position_type (m 14 4 49) 0) ([]) (codes "x")) no_requirement)))
    ∷ (19, (requires (m 19 5 41) no_parameter (and_simple (scope (m 18 5 52) (position_type (m 17 5 52) 0) ([]) (codes "f")) no_requirement)))
    ∷ (22, (requires (m 22 6 37) no_parameter (and_simple (scope (m 21 6 48) (position_type (m 20 6 48) 0) ([]) (codes "type")) no_requirement)))
    ∷ (25, (requires (m 25 7 41) no_parameter (and_type_requirement (member_type (m 24 7 52) (position_type (m 23 7 61) 0) ((codes "type") ∷ [])) no_requirement)))
    ∷ (28, (requires (m 28 8 43) no_parameter (and_type_requirement (member_type (m 27 8 54) (position_type (m 26 8 63) 0) ((codes "z") ∷ [])) no_requirement)))
    ∷ (33, (requires (m 33 9 39) (and_parameter (m 30 9 50) (position_type (m 29 9 48) 0) 0 true no_parameter) (and_simple (dot (m 32 9 55) (local_name (m 31 9 55) 0) (codes "c")) no_requirement)))
    ∷ (38, (requires (m 38 10 47) (and_parameter (m 35 10 58) (position_type (m 34 10 56) 0) 0 true no_parameter) (and_simple (dot (m 37 10 63) (local_name (m 36 10 63) 0) (codes "f")) no_requirement)))
    ∷ (43, (requires (m 43 11 43) (and_parameter (m 40 11 54) (position_type (m 39 11 52) 0) 0 true no_parameter) (and_simple (dot (m 42 11 59) (local_name (m 41 11 59) 0) (codes "type")) no_requirement)))
    ∷ [])
    (around 0 ([]) false ∷ around 8 (None ∷ []) true ∷ around 44 ([]) false ∷ [])
    ([])

abbrev pub qualified_names_unit_assert_12_1 : Expression
qualified_names_unit_assert_12_1 = concept_id (m 45 12 15) (d 4) (and_type (struct_type (m 44 12 24) (d 0)) no_argument)

abbrev pub qualified_names_unit_assert_13_1 : Expression
qualified_names_unit_assert_13_1 = concept_id (m 48 13 15) (d 4) (and_type (const_type (m 47 13 24) (struct_type (m 47 13 24) (d 0))) no_argument)

abbrev pub qualified_names_unit_assert_14_1 : Expression
qualified_names_unit_assert_14_1 = concept_id (m 51 14 15) (d 4) (and_type (reference_type (m 50 14 24) (struct_type (m 50 14 24) (d 0))) no_argument)

abbrev pub qualified_names_unit_assert_15_1 : Expression
qualified_names_unit_assert_15_1 = concept_id (m 54 15 15) (d 4) (and_type (scalar_type (m 53 15 24) scalars.Int) no_argument)

abbrev pub qualified_names_unit_assert_16_1 : Expression
qualified_names_unit_assert_16_1 = concept_id (m 57 16 15) (d 5) (and_type (struct_type (m 56 16 22) (d 0)) no_argument)

abbrev pub qualified_names_unit_assert_17_1 : Expression
qualified_names_unit_assert_17_1 = concept_id (m 60 17 15) (d 6) (and_type (struct_type (m 59 17 21) (d 0)) no_argument)

abbrev pub qualified_names_unit_assert_18_1 : Expression
qualified_names_unit_assert_18_1 = concept_id (m 63 18 15) (d 7) (and_type (struct_type (m 62 18 24) (d 0)) no_argument)

abbrev pub qualified_names_unit_assert_19_1 : Expression
qualified_names_unit_assert_19_1 = concept_id (m 66 19 15) (d 8) (and_type (struct_type (m 65 19 20) (d 0)) no_argument)

abbrev pub qualified_names_unit_assert_20_1 : Expression
qualified_names_unit_assert_20_1 = concept_id (m 69 20 15) (d 9) (and_type (struct_type (m 68 20 24) (d 0)) no_argument)

abbrev pub qualified_names_unit_assert_21_1 : Expression
qualified_names_unit_assert_21_1 = concept_id (m 72 21 15) (d 9) (and_type (const_type (m 71 21 24) (struct_type (m 71 21 24) (d 0))) no_argument)

abbrev pub qualified_names_unit_assert_22_1 : Expression
qualified_names_unit_assert_22_1 = concept_id (m 75 22 15) (d 9) (and_type (reference_type (m 74 22 24) (struct_type (m 74 22 24) (d 0))) no_argument)

abbrev pub qualified_names_unit_assert_23_1 : Expression
qualified_names_unit_assert_23_1 = concept_id (m 78 23 15) (d 10) (and_type (struct_type (m 77 23 26) (d 0)) no_argument)

abbrev pub qualified_names_unit_assert_24_1 : Expression
qualified_names_unit_assert_24_1 = concept_id (m 81 24 15) (d 11) (and_type (struct_type (m 80 24 22) (d 0)) no_argument)

abbrev pub qualified_names_unit_assert_25_1 : Expression
qualified_names_unit_assert_25_1 = concept_id (m 84 25 15) (d 12) (and_type (struct_type (m 83 25 30) (d 0)) no_argument)

abbrev pub qualified_names_unit_assert_26_1 : Expression
qualified_names_unit_assert_26_1 = concept_id (m 87 26 15) (d 13) (and_type (struct_type (m 86 26 26) (d 0)) no_argument)

abbrev pub qualified_names_unit_assert_27_1 : Expression
qualified_names_unit_assert_27_1 = binary (m 92 27 15) word.Equal (scope (m 90 27 15) (struct_type (m 89 27 15) (d 0)) ([]) (codes "z")) (literal (m 91 27 23) scalars.Int (pos 1))

abbrev pub qualified_names_unit_assert_28_1 : Expression
qualified_names_unit_assert_28_1 = binary (m 99 28 15) word.Equal (list (m 97 28 15) (scalar_type (m 94 28 15) scalars.Int) (and_expression (scope (m 96 28 19) (struct_type (m 95 28 19) (d 0)) ([]) (codes "c")) no_expression)) (literal (m 98 28 28) scalars.Int (pos 2))

-- template<typename A, typename B> concept Is = __is_same(A, B);
-- template<typename T> concept Collapses = requires { requires Is<T&, T>; };
-- template<typename T> concept ConstOfReference = requires { requires Is<const T, T>; };
-- template<typename T> concept ConstOfConst = requires { requires Is<const T, T>; };
-- template<typename T> concept Refers = requires { typename T::none; } || requires(T& t) { true; };
-- static_assert(Collapses<int&>);
-- static_assert(Collapses<int>);
-- static_assert(ConstOfReference<int&>);
-- static_assert(ConstOfConst<const int>);
-- static_assert(ConstOfConst<int>);
-- static_assert(Refers<int>);
-- static_assert(Refers<void>);
-- static_assert(Refers<const void>);
-- static_assert(Is<void, const void>);
-- static_assert(Is<decltype(1 + 1), int>);
abbrev pub references_unit : Program
references_unit =
    unit
    (a_concept (record { at = (p 1 42); template_parameters = (tp None None ∷ tp None None ∷ []); condition = (is_same (m 2 1 47) (position_type (m 0 1 57) 0) (position_type (m 1 1 60) 1)) })
    ∷ a_concept (record { at = (p 2 30); template_parameters = (tp None None ∷ []); condition = (requires (m 6 2 42) no_parameter (and_nested (concept_id (m 5 2 62) (d 0) (and_type (reference_type (m 3 2 65) (position_type (m 3 2 65) 0)) (and_type (position_type (m 4 2 69) 0) no_argument))) no_requirement)) })
    ∷ a_concept (record { at = (p 3 30); template_parameters = (tp None None ∷ []); condition = (requires (m 10 3 49) no_parameter (and_nested (concept_id (m 9 3 69) (d 0) (and_type (const_type (m 7 3 72) (position_type (m 7 3 72) 0)) (and_type (position_type (m 8 3 81) 0) no_argument))) no_requirement)) })
    ∷ a_concept (record { at = (p 4 30); template_parameters = (tp None None ∷ []); condition = (requires (m 14 4 45) no_parameter (and_nested (concept_id (m 13 4 65) (d 0) (and_type (const_type (m 11 4 68) (position_type (m 11 4 68) 0)) (and_type (position_type (m 12 4 77) 0) no_argument))) no_requirement)) })
    ∷ a_concept (record { at = (p 5 30); template_parameters = (tp None None ∷ []); condition = (binary (m 22 5 39) word.LogicalOr (requires (m 17 5 39) no_parameter (and_type_requirement (member_type (m 16 5 50) (position_type (m 15 5 59) 0) ((codes "none") ∷ [])) no_requirement)) (requires (m 21 5 73) (and_parameter (m 19 5 85) (reference_type (m 18 5 82) (position_type (m 18 5 82) 0)) 0 true no_parameter) (and_simple (literal (m 20 5 90) scalars.Bool (pos 1)) no_requirement))) })
    ∷ [])
    ([])
    ([])
    ((2, (is_same (m 2 1 47) (position_type (m 0 1 57) 0) (position_type (m 1 1 60) 1)))
    ∷ (6, (requires (m 6 2 42) no_parameter (and_nested (concept_id (m 5 2 62) (d 0) (and_type (reference_type (m 3 2 65) (position_type (m 3 2 65) 0)) (and_type (position_type (m 4 2 69) 0) no_argument))) no_requirement)))
    ∷ (10, (requires (m 10 3 49) no_parameter (and_nested (concept_id (m 9 3 69) (d 0) (and_type (const_type (m 7 3 72) (position_type (m 7 3 72) 0)) (and_type (position_type (m 8 3 81) 0) no_argument))) no_requirement)))
    ∷ (14, (requires (m 14 4 45) no_parameter (and_nested (concept_id (m 13 4 65) (d 0) (and_type (const_type (m 11 4 68) (position_type (m 11 4 68) 0)) (and_type (position_type (m 12 4 77) 0) no_argument))) no_requirement)))
    ∷ (17, (requires (m 17 5 39) no_parameter (and_type_requirement (member_type (m 16 5 50) (position_type (m 15 5 59) 0) ((codes "none") ∷ [])) no_requirement)))
    ∷ (21, (requires (m 21 5 73) (and_parameter (m 19 5 85) (reference_type (m 18 5 82) (position_type (m 18 5 82) 0)) 0 true no_parameter) (and_simple (literal (m 20 5 90) scalars.Bool (pos 1)) no_requirement)))
    ∷ [])
    (around 0 (None ∷ None ∷ []) true ∷ around 3 (None ∷ []) true ∷ around 23 ([]) false ∷ [])
    ([])

abbrev pub references_unit_assert_6_1 : Expression
references_unit_assert_6_1 = concept_id (m 24 6 15) (d 1) (and_type (reference_type (m 23 6 25) (scalar_type (m 23 6 25) scalars.Int)) no_argument)

abbrev pub references_unit_assert_7_1 : Expression
references_unit_assert_7_1 = concept_id (m 27 7 15) (d 1) (and_type (scalar_type (m 26 7 25) scalars.Int) no_argument)

abbrev pub references_unit_assert_8_1 : Expression
references_unit_assert_8_1 = concept_id (m 30 8 15) (d 2) (and_type (reference_type (m 29 8 32) (scalar_type (m 29 8 32) scalars.Int)) no_argument)

abbrev pub references_unit_assert_9_1 : Expression
references_unit_assert_9_1 = concept_id (m 33 9 15) (d 3) (and_type (const_type (m 32 9 28) (scalar_type (m 32 9 28) scalars.Int)) no_argument)

abbrev pub references_unit_assert_10_1 : Expression
references_unit_assert_10_1 = concept_id (m 36 10 15) (d 3) (and_type (scalar_type (m 35 10 28) scalars.Int) no_argument)

abbrev pub references_unit_assert_11_1 : Expression
references_unit_assert_11_1 = concept_id (m 39 11 15) (d 4) (and_type (scalar_type (m 38 11 22) scalars.Int) no_argument)

abbrev pub references_unit_assert_12_1 : Expression
references_unit_assert_12_1 = concept_id (m 42 12 15) (d 4) (and_type (void_type (m 41 12 22)) no_argument)

abbrev pub references_unit_assert_13_1 : Expression
references_unit_assert_13_1 = concept_id (m 45 13 15) (d 4) (and_type (const_type (m 44 13 22) (void_type (m 44 13 22))) no_argument)

abbrev pub references_unit_assert_14_1 : Expression
references_unit_assert_14_1 = concept_id (m 49 14 15) (d 0) (and_type (void_type (m 47 14 18)) (and_type (const_type (m 48 14 24) (void_type (m 48 14 24))) no_argument))

abbrev pub references_unit_assert_15_1 : Expression
references_unit_assert_15_1 = concept_id (m 56 15 15) (d 0) (and_type (decltype_type (m 54 15 18) (binary (m 53 15 27) word.Plus (literal (m 51 15 27) scalars.Int (pos 1)) (literal (m 52 15 31) scalars.Int (pos 1)))) (and_type (scalar_type (m 55 15 35) scalars.Int) no_argument))

-- template<typename A, typename B> concept Is = __is_same(A, B);
-- struct S { };
-- template<typename T> concept Prints = requires(T t) { requires Is<decltype((__out(t))), void>; };
-- static_assert(Prints<bool>);
-- static_assert(Prints<S>);
-- static_assert(__out(1));
abbrev pub printing_unit : Program
printing_unit =
    unit
    (a_concept (record { at = (p 1 42); template_parameters = (tp None None ∷ tp None None ∷ []); condition = (is_same (m 2 1 47) (position_type (m 0 1 57) 0) (position_type (m 1 1 60) 1)) })
    ∷ a_struct (record { at = (p 2 8); itself = (struct (d 1)); is_template = false; template_parameters = ([]); constraints = ([]); primary = None; specialised_for = ([]); members = ([]) })
    ∷ a_concept (record { at = (p 3 30); template_parameters = (tp None None ∷ []); condition = (requires (m 11 3 39) (and_parameter (m 4 3 50) (position_type (m 3 3 48) 0) 0 true no_parameter) (and_nested (concept_id (m 10 3 64) (d 0) (and_type (decltype_type (m 8 3 67) (parentheses (m 7 3 76) (out (m 6 3 77) (local_name (m 5 3 83) 0)))) (and_type (void_type (m 9 3 89)) no_argument))) no_requirement)) })
    ∷ [])
    ([])
    ([])
    ((2, (is_same (m 2 1 47) (position_type (m 0 1 57) 0) (position_type (m 1 1 60) 1)))
    ∷ (11, (requires (m 11 3 39) (and_parameter (m 4 3 50) (position_type (m 3 3 48) 0) 0 true no_parameter) (and_nested (concept_id (m 10 3 64) (d 0) (and_type (decltype_type (m 8 3 67) (parentheses (m 7 3 76) (out (m 6 3 77) (local_name (m 5 3 83) 0)))) (and_type (void_type (m 9 3 89)) no_argument))) no_requirement)))
    ∷ [])
    (around 0 (None ∷ None ∷ []) true ∷ around 3 (None ∷ []) true ∷ around 12 ([]) false ∷ [])
    ([])

abbrev pub printing_unit_assert_4_1 : Expression
printing_unit_assert_4_1 = concept_id (m 13 4 15) (d 2) (and_type (scalar_type (m 12 4 22) scalars.Bool) no_argument)

abbrev pub printing_unit_assert_5_1 : Expression
printing_unit_assert_5_1 = concept_id (m 16 5 15) (d 2) (and_type (struct_type (m 15 5 22) (d 1)) no_argument)

abbrev pub printing_unit_assert_6_1 : Expression
printing_unit_assert_6_1 = out (m 19 6 15) (literal (m 18 6 21) scalars.Int (pos 1))
