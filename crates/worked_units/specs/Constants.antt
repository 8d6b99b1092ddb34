-- Values of constant expressions of scalars ([expr.const], [conv.integral], [expr.arith.conv]).
use Rattle.std.specs.Prelude.{pos, true, false, [], ◌∷◌, Some, None, codes}
use Rattle.cx_base.specs.declared.value.Scalar.TheVariants as scalars
use Rattle.cx_term.specs.Term.{param, struct, inst, arguments}
use Rattle.cx_term.specs.declared.word.Word.TheVariants as word
use Rattle.cx_questions.specs.Forms.{Expression, literal, position_name, constant_name, parentheses, unary, binary, conditional, scope, call, list, cast, no_expression, and_expression, functions, position_type, scalar_type, struct_type, template_id, no_argument, and_type, and_value, block, return_statement, no_statement, and_statement}
use Rattle.cx_questions.specs.Program.{Program, a_function, a_struct, a_constant, static_constant}
use Rattle.worked_units.specs.Units.{p, d, m, tp, around, unit}

-- static_assert(2147483647 + 1u == 2147483648u);
-- static_assert(0u - 1 == 4294967295u);
-- static_assert(-7 / 2 == -3);
-- static_assert(-7 % 2 == -1);
-- static_assert((1 << 31) < 0);
-- static_assert(-8 >> 1 == -4);
-- static_assert(~0 == -1);
-- static_assert(-1 < 1u);
-- static_assert(-1ll < 1u);
-- static_assert((6 & 3) == 2 && (6 | 3) == 7 && (6 ^ 3) == 5);
-- static_assert(2147483647 + 1);
-- static_assert(1 / 0);
-- static_assert(1 % 0);
-- static_assert(1 << 32);
-- static_assert(1 << -1);
-- static_assert((-2147483647 - 1) / -1);
-- static_assert((-2147483647 - 1) % -1);
-- static_assert(1u << 31 == 2147483648u);
-- static_assert(18446744073709551615ull + 1 == 0);
-- static_assert(9223372036854775807ll + 1);
abbrev pub arithmetic_unit : Program
arithmetic_unit =
    unit
    ([])
    ([])
    ([])
    ([])
    (around 0 ([]) false ∷ [])
    ([])

abbrev pub arithmetic_unit_assert_1_1 : Expression
arithmetic_unit_assert_1_1 = binary (m 4 1 15) word.Equal (binary (m 2 1 15) word.Plus (literal (m 0 1 15) scalars.Int (pos 2147483647)) (literal (m 1 1 28) scalars.Unsigned (pos 1))) (literal (m 3 1 34) scalars.Unsigned (pos 2147483648))

abbrev pub arithmetic_unit_assert_2_1 : Expression
arithmetic_unit_assert_2_1 = binary (m 10 2 15) word.Equal (binary (m 8 2 15) word.Minus (literal (m 6 2 15) scalars.Unsigned (pos 0)) (literal (m 7 2 20) scalars.Int (pos 1))) (literal (m 9 2 25) scalars.Unsigned (pos 4294967295))

abbrev pub arithmetic_unit_assert_3_1 : Expression
arithmetic_unit_assert_3_1 = binary (m 18 3 15) word.Equal (binary (m 15 3 15) word.Divide (unary (m 13 3 15) word.Minus (literal (m 12 3 16) scalars.Int (pos 7))) (literal (m 14 3 20) scalars.Int (pos 2))) (unary (m 17 3 25) word.Minus (literal (m 16 3 26) scalars.Int (pos 3)))

abbrev pub arithmetic_unit_assert_4_1 : Expression
arithmetic_unit_assert_4_1 = binary (m 26 4 15) word.Equal (binary (m 23 4 15) word.Remainder (unary (m 21 4 15) word.Minus (literal (m 20 4 16) scalars.Int (pos 7))) (literal (m 22 4 20) scalars.Int (pos 2))) (unary (m 25 4 25) word.Minus (literal (m 24 4 26) scalars.Int (pos 1)))

abbrev pub arithmetic_unit_assert_5_1 : Expression
arithmetic_unit_assert_5_1 = binary (m 33 5 15) word.Less (parentheses (m 31 5 15) (binary (m 30 5 16) word.ShiftLeft (literal (m 28 5 16) scalars.Int (pos 1)) (literal (m 29 5 21) scalars.Int (pos 31)))) (literal (m 32 5 27) scalars.Int (pos 0))

abbrev pub arithmetic_unit_assert_6_1 : Expression
arithmetic_unit_assert_6_1 = binary (m 41 6 15) word.Equal (binary (m 38 6 15) word.ShiftRight (unary (m 36 6 15) word.Minus (literal (m 35 6 16) scalars.Int (pos 8))) (literal (m 37 6 21) scalars.Int (pos 1))) (unary (m 40 6 26) word.Minus (literal (m 39 6 27) scalars.Int (pos 4)))

abbrev pub arithmetic_unit_assert_7_1 : Expression
arithmetic_unit_assert_7_1 = binary (m 47 7 15) word.Equal (unary (m 44 7 15) word.Complement (literal (m 43 7 16) scalars.Int (pos 0))) (unary (m 46 7 21) word.Minus (literal (m 45 7 22) scalars.Int (pos 1)))

abbrev pub arithmetic_unit_assert_8_1 : Expression
arithmetic_unit_assert_8_1 = binary (m 52 8 15) word.Less (unary (m 50 8 15) word.Minus (literal (m 49 8 16) scalars.Int (pos 1))) (literal (m 51 8 20) scalars.Unsigned (pos 1))

abbrev pub arithmetic_unit_assert_9_1 : Expression
arithmetic_unit_assert_9_1 = binary (m 57 9 15) word.Less (unary (m 55 9 15) word.Minus (literal (m 54 9 16) scalars.LongLong (pos 1))) (literal (m 56 9 22) scalars.Unsigned (pos 1))

abbrev pub arithmetic_unit_assert_10_1 : Expression
arithmetic_unit_assert_10_1 = binary (m 78 10 15) word.LogicalAnd (binary (m 71 10 15) word.LogicalAnd (binary (m 64 10 15) word.Equal (parentheses (m 62 10 15) (binary (m 61 10 16) word.BitAnd (literal (m 59 10 16) scalars.Int (pos 6)) (literal (m 60 10 20) scalars.Int (pos 3)))) (literal (m 63 10 26) scalars.Int (pos 2))) (binary (m 70 10 31) word.Equal (parentheses (m 68 10 31) (binary (m 67 10 32) word.BitOr (literal (m 65 10 32) scalars.Int (pos 6)) (literal (m 66 10 36) scalars.Int (pos 3)))) (literal (m 69 10 42) scalars.Int (pos 7)))) (binary (m 77 10 47) word.Equal (parentheses (m 75 10 47) (binary (m 74 10 48) word.BitXor (literal (m 72 10 48) scalars.Int (pos 6)) (literal (m 73 10 52) scalars.Int (pos 3)))) (literal (m 76 10 58) scalars.Int (pos 5)))

abbrev pub arithmetic_unit_assert_11_1 : Expression
arithmetic_unit_assert_11_1 = binary (m 82 11 15) word.Plus (literal (m 80 11 15) scalars.Int (pos 2147483647)) (literal (m 81 11 28) scalars.Int (pos 1))

abbrev pub arithmetic_unit_assert_12_1 : Expression
arithmetic_unit_assert_12_1 = binary (m 86 12 15) word.Divide (literal (m 84 12 15) scalars.Int (pos 1)) (literal (m 85 12 19) scalars.Int (pos 0))

abbrev pub arithmetic_unit_assert_13_1 : Expression
arithmetic_unit_assert_13_1 = binary (m 90 13 15) word.Remainder (literal (m 88 13 15) scalars.Int (pos 1)) (literal (m 89 13 19) scalars.Int (pos 0))

abbrev pub arithmetic_unit_assert_14_1 : Expression
arithmetic_unit_assert_14_1 = binary (m 94 14 15) word.ShiftLeft (literal (m 92 14 15) scalars.Int (pos 1)) (literal (m 93 14 20) scalars.Int (pos 32))

abbrev pub arithmetic_unit_assert_15_1 : Expression
arithmetic_unit_assert_15_1 = binary (m 99 15 15) word.ShiftLeft (literal (m 96 15 15) scalars.Int (pos 1)) (unary (m 98 15 20) word.Minus (literal (m 97 15 21) scalars.Int (pos 1)))

abbrev pub arithmetic_unit_assert_16_1 : Expression
arithmetic_unit_assert_16_1 = binary (m 108 16 15) word.Divide (parentheses (m 105 16 15) (binary (m 104 16 16) word.Minus (unary (m 102 16 16) word.Minus (literal (m 101 16 17) scalars.Int (pos 2147483647))) (literal (m 103 16 30) scalars.Int (pos 1)))) (unary (m 107 16 35) word.Minus (literal (m 106 16 36) scalars.Int (pos 1)))

abbrev pub arithmetic_unit_assert_17_1 : Expression
arithmetic_unit_assert_17_1 = binary (m 117 17 15) word.Remainder (parentheses (m 114 17 15) (binary (m 113 17 16) word.Minus (unary (m 111 17 16) word.Minus (literal (m 110 17 17) scalars.Int (pos 2147483647))) (literal (m 112 17 30) scalars.Int (pos 1)))) (unary (m 116 17 35) word.Minus (literal (m 115 17 36) scalars.Int (pos 1)))

abbrev pub arithmetic_unit_assert_18_1 : Expression
arithmetic_unit_assert_18_1 = binary (m 123 18 15) word.Equal (binary (m 121 18 15) word.ShiftLeft (literal (m 119 18 15) scalars.Unsigned (pos 1)) (literal (m 120 18 21) scalars.Int (pos 31))) (literal (m 122 18 27) scalars.Unsigned (pos 2147483648))

abbrev pub arithmetic_unit_assert_19_1 : Expression
arithmetic_unit_assert_19_1 = binary (m 129 19 15) word.Equal (binary (m 127 19 15) word.Plus (literal (m 125 19 15) scalars.ULongLong (pos 18446744073709551615)) (literal (m 126 19 41) scalars.Int (pos 1))) (literal (m 128 19 46) scalars.Int (pos 0))

abbrev pub arithmetic_unit_assert_20_1 : Expression
arithmetic_unit_assert_20_1 = binary (m 133 20 15) word.Plus (literal (m 131 20 15) scalars.LongLong (pos 9223372036854775807)) (literal (m 132 20 39) scalars.Int (pos 1))

-- struct S { static constexpr int one = 1; static constexpr int bad = 2147483647 + S::one; };
-- static_assert(true || 1 / 0);
-- static_assert(false && 1 / 0);
-- static_assert(true ? true : 1 / 0 == 1);
-- static_assert(true || S::bad == 0);
-- static_assert(1 / 0 || true);
abbrev pub short_circuit_unit : Program
short_circuit_unit =
    unit
    (a_struct (record { at = (p 1 8); itself = (struct (d 0)); is_template = false; template_parameters = ([]); constraints = ([]); primary = None; specialised_for = ([]); members = (static_constant (codes "one") (d 1) ∷ static_constant (codes "bad") (d 2) ∷ []) })
    ∷ a_constant (record { at = (p 1 33); name = (codes "one"); of = (scalar_type (m 0 1 29) scalars.Int); initialiser = (literal (m 1 1 39) scalars.Int (pos 1)); owner = (Some (d 0)) })
    ∷ a_constant (record { at = (p 1 63); name = (codes "bad"); of = (scalar_type (m 2 1 59) scalars.Int); initialiser = (binary (m 6 1 69) word.Plus (literal (m 3 1 69) scalars.Int (pos 2147483647)) (scope (m 5 1 82) (struct_type (m 4 1 82) (d 0)) ([]) (codes "one"))); owner = (Some (d 0)) })
    ∷ [])
    ([])
    ([])
    ([])
    (around 0 ([]) false ∷ [])
    ([])

abbrev pub short_circuit_unit_assert_2_1 : Expression
short_circuit_unit_assert_2_1 = binary (m 11 2 15) word.LogicalOr (literal (m 7 2 15) scalars.Bool (pos 1)) (binary (m 10 2 23) word.Divide (literal (m 8 2 23) scalars.Int (pos 1)) (literal (m 9 2 27) scalars.Int (pos 0)))

abbrev pub short_circuit_unit_assert_3_1 : Expression
short_circuit_unit_assert_3_1 = binary (m 17 3 15) word.LogicalAnd (literal (m 13 3 15) scalars.Bool (pos 0)) (binary (m 16 3 24) word.Divide (literal (m 14 3 24) scalars.Int (pos 1)) (literal (m 15 3 28) scalars.Int (pos 0)))

abbrev pub short_circuit_unit_assert_4_1 : Expression
short_circuit_unit_assert_4_1 = conditional (m 26 4 15) (literal (m 19 4 15) scalars.Bool (pos 1)) (literal (m 20 4 22) scalars.Bool (pos 1)) (binary (m 25 4 29) word.Equal (binary (m 23 4 29) word.Divide (literal (m 21 4 29) scalars.Int (pos 1)) (literal (m 22 4 33) scalars.Int (pos 0))) (literal (m 24 4 38) scalars.Int (pos 1)))

abbrev pub short_circuit_unit_assert_5_1 : Expression
short_circuit_unit_assert_5_1 = binary (m 33 5 15) word.LogicalOr (literal (m 28 5 15) scalars.Bool (pos 1)) (binary (m 32 5 23) word.Equal (scope (m 30 5 23) (struct_type (m 29 5 23) (d 0)) ([]) (codes "bad")) (literal (m 31 5 33) scalars.Int (pos 0)))

abbrev pub short_circuit_unit_assert_6_1 : Expression
short_circuit_unit_assert_6_1 = binary (m 39 6 15) word.LogicalOr (binary (m 37 6 15) word.Divide (literal (m 35 6 15) scalars.Int (pos 1)) (literal (m 36 6 19) scalars.Int (pos 0))) (literal (m 38 6 24) scalars.Bool (pos 1))

-- constexpr bool b = 2;
-- constexpr unsigned u = -1;
-- constexpr long long l = true;
-- static_assert(b == 1);
-- static_assert(u == 4294967295u);
-- static_assert(l == 1);
-- static_assert(static_cast<bool>(256));
-- static_assert(static_cast<int>(4294967295u) == -1);
-- static_assert(static_cast<unsigned>(-1ll) == 4294967295u);
-- static_assert(unsigned{1} == 1);
-- static_assert(unsigned{-1} == 1);
-- static_assert(bool{2});
abbrev pub conversions_unit : Program
conversions_unit =
    unit
    (a_constant (record { at = (p 1 16); name = (codes "b"); of = (scalar_type (m 0 1 11) scalars.Bool); initialiser = (literal (m 1 1 20) scalars.Int (pos 2)); owner = None })
    ∷ a_constant (record { at = (p 2 20); name = (codes "u"); of = (scalar_type (m 2 2 11) scalars.Unsigned); initialiser = (unary (m 4 2 24) word.Minus (literal (m 3 2 25) scalars.Int (pos 1))); owner = None })
    ∷ a_constant (record { at = (p 3 21); name = (codes "l"); of = (scalar_type (m 5 3 11) scalars.LongLong); initialiser = (literal (m 6 3 25) scalars.Bool (pos 1)); owner = None })
    ∷ [])
    ([])
    ([])
    ([])
    (around 0 ([]) false ∷ [])
    ([])

abbrev pub conversions_unit_assert_4_1 : Expression
conversions_unit_assert_4_1 = binary (m 9 4 15) word.Equal (constant_name (m 7 4 15) (d 0)) (literal (m 8 4 20) scalars.Int (pos 1))

abbrev pub conversions_unit_assert_5_1 : Expression
conversions_unit_assert_5_1 = binary (m 13 5 15) word.Equal (constant_name (m 11 5 15) (d 1)) (literal (m 12 5 20) scalars.Unsigned (pos 4294967295))

abbrev pub conversions_unit_assert_6_1 : Expression
conversions_unit_assert_6_1 = binary (m 17 6 15) word.Equal (constant_name (m 15 6 15) (d 2)) (literal (m 16 6 20) scalars.Int (pos 1))

abbrev pub conversions_unit_assert_7_1 : Expression
conversions_unit_assert_7_1 = cast (m 21 7 15) (scalar_type (m 19 7 27) scalars.Bool) (literal (m 20 7 33) scalars.Int (pos 256))

abbrev pub conversions_unit_assert_8_1 : Expression
conversions_unit_assert_8_1 = binary (m 28 8 15) word.Equal (cast (m 25 8 15) (scalar_type (m 23 8 27) scalars.Int) (literal (m 24 8 32) scalars.Unsigned (pos 4294967295))) (unary (m 27 8 48) word.Minus (literal (m 26 8 49) scalars.Int (pos 1)))

abbrev pub conversions_unit_assert_9_1 : Expression
conversions_unit_assert_9_1 = binary (m 35 9 15) word.Equal (cast (m 33 9 15) (scalar_type (m 30 9 27) scalars.Unsigned) (unary (m 32 9 37) word.Minus (literal (m 31 9 38) scalars.LongLong (pos 1)))) (literal (m 34 9 46) scalars.Unsigned (pos 4294967295))

abbrev pub conversions_unit_assert_10_1 : Expression
conversions_unit_assert_10_1 = binary (m 41 10 15) word.Equal (list (m 39 10 15) (scalar_type (m 37 10 15) scalars.Unsigned) (and_expression (literal (m 38 10 24) scalars.Int (pos 1)) no_expression)) (literal (m 40 10 30) scalars.Int (pos 1))

abbrev pub conversions_unit_assert_11_1 : Expression
conversions_unit_assert_11_1 = binary (m 48 11 15) word.Equal (list (m 46 11 15) (scalar_type (m 43 11 15) scalars.Unsigned) (and_expression (unary (m 45 11 24) word.Minus (literal (m 44 11 25) scalars.Int (pos 1))) no_expression)) (literal (m 47 11 31) scalars.Int (pos 1))

abbrev pub conversions_unit_assert_12_1 : Expression
conversions_unit_assert_12_1 = list (m 52 12 15) (scalar_type (m 50 12 15) scalars.Bool) (and_expression (literal (m 51 12 20) scalars.Int (pos 2)) no_expression)

-- template<int N> struct Twice { static constexpr int v = N + N; static constexpr int w = v; };
-- template<int N> struct Bad { static constexpr int v = N / 0; };
-- template<typename T> struct Size { static constexpr int v = T::size; };
-- static_assert(Twice<3>::v == 6);
-- static_assert(Twice<1 + 2>::w == 6);
-- static_assert(Bad<1>::v == 0);
-- static_assert(Size<int>::v == 0);
abbrev pub constants_of_instances_unit : Program
constants_of_instances_unit =
    unit
    (a_struct (record { at = (p 1 24); itself = (inst (d 0) (arguments ((param 0) ∷ []))); is_template = true; template_parameters = (tp (Some scalars.Int) None ∷ []); constraints = ([]); primary = None; specialised_for = ([]); members = (static_constant (codes "v") (d 1) ∷ static_constant (codes "w") (d 2) ∷ []) })
    ∷ a_constant (record { at = (p 1 53); name = (codes "v"); of = (scalar_type (m 0 1 49) scalars.Int); initialiser = (binary (m 3 1 57) word.Plus (position_name (m 1 1 57) 0) (position_name (m 2 1 61) 0)); owner = (Some (d 0)) })
    ∷ a_constant (record { at = (p 1 85); name = (codes "w"); of = (scalar_type (m 4 1 81) scalars.Int); initialiser = (constant_name (m 5 1 89) (d 1)); owner = (Some (d 0)) })
    ∷ a_struct (record { at = (p 2 24); itself = (inst (d 3) (arguments ((param 0) ∷ []))); is_template = true; template_parameters = (tp (Some scalars.Int) None ∷ []); constraints = ([]); primary = None; specialised_for = ([]); members = (static_constant (codes "v") (d 4) ∷ []) })
    ∷ a_constant (record { at = (p 2 51); name = (codes "v"); of = (scalar_type (m 6 2 47) scalars.Int); initialiser = (binary (m 9 2 55) word.Divide (position_name (m 7 2 55) 0) (literal (m 8 2 59) scalars.Int (pos 0))); owner = (Some (d 3)) })
    ∷ a_struct (record { at = (p 3 29); itself = (inst (d 5) (arguments ((param 0) ∷ []))); is_template = true; template_parameters = (tp None None ∷ []); constraints = ([]); primary = None; specialised_for = ([]); members = (static_constant (codes "v") (d 6) ∷ []) })
    ∷ a_constant (record { at = (p 3 57); name = (codes "v"); of = (scalar_type (m 10 3 53) scalars.Int); initialiser = (scope (m 12 3 61) (position_type (m 11 3 61) 0) ([]) (codes "size")); owner = (Some (d 5)) })
    ∷ [])
    ([])
    ([])
    ([])
    (around 0 ((Some scalars.Int) ∷ []) true ∷ around 10 (None ∷ []) true ∷ around 13 ([]) false ∷ [])
    ([])

abbrev pub constants_of_instances_unit_assert_4_1 : Expression
constants_of_instances_unit_assert_4_1 = binary (m 17 4 15) word.Equal (scope (m 15 4 15) (template_id (m 14 4 15) (p 4 15) (d 0) (and_value (literal (m 13 4 21) scalars.Int (pos 3)) no_argument)) ([]) (codes "v")) (literal (m 16 4 30) scalars.Int (pos 6))

abbrev pub constants_of_instances_unit_assert_5_1 : Expression
constants_of_instances_unit_assert_5_1 = binary (m 25 5 15) word.Equal (scope (m 23 5 15) (template_id (m 22 5 15) (p 5 15) (d 0) (and_value (binary (m 21 5 21) word.Plus (literal (m 19 5 21) scalars.Int (pos 1)) (literal (m 20 5 25) scalars.Int (pos 2))) no_argument)) ([]) (codes "w")) (literal (m 24 5 34) scalars.Int (pos 6))

abbrev pub constants_of_instances_unit_assert_6_1 : Expression
constants_of_instances_unit_assert_6_1 = binary (m 31 6 15) word.Equal (scope (m 29 6 15) (template_id (m 28 6 15) (p 6 15) (d 3) (and_value (literal (m 27 6 19) scalars.Int (pos 1)) no_argument)) ([]) (codes "v")) (literal (m 30 6 28) scalars.Int (pos 0))

abbrev pub constants_of_instances_unit_assert_7_1 : Expression
constants_of_instances_unit_assert_7_1 = binary (m 37 7 15) word.Equal (scope (m 35 7 15) (template_id (m 34 7 15) (p 7 15) (d 5) (and_type (scalar_type (m 33 7 20) scalars.Int) no_argument)) ([]) (codes "v")) (literal (m 36 7 31) scalars.Int (pos 0))

-- constexpr int f() { return 1; }
-- static_assert(f() == 1);
abbrev pub not_built_unit : Program
not_built_unit =
    unit
    (a_function (record { at = (p 1 15); name = (codes "f"); owner = None; is_template = false; template_parameters = ([]); constraints = ([]); parameters = ([]); result = (scalar_type (m 0 1 11) scalars.Int); is_const = false; is_constexpr = true; body = Some (block (m 3 1 19) (and_statement (return_statement (m 2 1 21) (Some (literal (m 1 1 28) scalars.Int (pos 1)))) no_statement)) })
    ∷ [])
    (((codes "f"), ((d 0) ∷ [])) ∷ [])
    ([])
    ([])
    (around 0 ([]) false ∷ [])
    ([])

abbrev pub not_built_unit_assert_2_1 : Expression
not_built_unit_assert_2_1 = binary (m 7 2 15) word.Equal (call (m 5 2 15) (functions (m 4 2 15) (codes "f") 1) no_expression) (literal (m 6 2 22) scalars.Int (pos 1))
