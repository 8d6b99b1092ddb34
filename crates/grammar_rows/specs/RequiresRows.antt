-- Requires-expressions, and their lists of parameters.
use Rattle.std.specs.Prelude.{List, [], ◌∷◌, codes}
use Rattle.grammar_rows.specs.Answers.{clause, expr, expr_nodes', Row, row}

unfoldable pub requires_rows_1 : List Row
requires_rows_1 =
    -- requires-expressions
    row expr 0 (codes "requires { 1; }") (codes "requires(){1;}")
    ∷ row expr 0 (codes "requires (T t) { t; }") (codes "requires(T t;){t;}")
    ∷ row expr 0 (codes "requires (void) { 1; }") (codes "requires(){1;}")
    ∷ row expr 0 (codes "requires () { 1; }") (codes "requires(){1;}")
    ∷ row expr 0 (codes "requires (void& x, const T y) { x; y + 1; }") (codes "requires(void& x;const T y;){x;(y + 1);}")
    ∷ row expr 0 (codes "requires (T, U) { { 1 }; }") (codes "requires(T;U;){{1};}")
    ∷ row expr 0 (codes "requires { { a } -> Small; }") (codes "requires(){{a}->Small<>;}")
    ∷ row expr 0 (codes "requires { { a } -> Same<T, 1>; }") (codes "requires(){{a}->Same<type T, 1>;}")
    ∷ row expr 0 (codes "requires { typename T::x; }") (codes "requires(){type typename T::x;}")
    ∷ row expr 0 (codes "requires { typename Box<T>; }") (codes "requires(){type Box<type T>;}")
    ∷ row expr 0 (codes "requires { typename Box<T>::x::y; }") (codes "requires(){type typename Box<type T>::x::y;}")
    ∷ row expr 0 (codes "requires { typename T; }") (codes "Syntax 22")
    ∷ row expr 0 (codes "requires { requires a && b; }") (codes "requires(){requires (a && b);}")
    ∷ row expr 0 (codes "requires { requires a ? b : c; }") (codes "Syntax 23")
    ∷ row expr 0 (codes "requires { requires requires { 1; }; }") (codes "requires(){requires requires(){1;};}")
    ∷ row expr 0 (codes "requires { }") (codes "Syntax 12")
    ∷ row expr 0 (codes "requires ( { 1; }") (codes "Syntax 12")
    ∷ row expr 0 (codes "requires (T t { 1; }") (codes "Syntax 15")
    ∷ row expr 0 (codes "requires (T T) { T::x; }") (codes "Syntax 19")
    ∷ row expr 0 (codes "requires (T T) { T; }") (codes "requires(T T;){T;}")
    ∷ row expr 0 (codes "a + requires { 1; }") (codes "(a + requires(){1;})")
    ∷ row expr 0 (codes "f(requires { 1; })") (codes "(f(requires(){1;}))")
    ∷ row expr 0 (codes "make<requires { 1 > 2; }>(1)") (codes "(make<requires(){(1 > 2);}>(1))")
    ∷ row expr 0 (codes "requires { T{}; a = 1; }") (codes "requires(){T{};(a = 1);}")
    ∷ row expr 0 (codes "requires { int x; }") (codes "Syntax 16")
    ∷ []

unfoldable pub requires_rows_2 : List Row
requires_rows_2 =
    row expr 0 (codes "requires { new; }") (codes "Unsupported 12")
    ∷ row expr 0 (codes "requires { 1; }()") (codes "requires(){1;} ..5")
    ∷ row expr 0 (codes "requires { 1; }.x") (codes "(requires(){1;}.x)")
    ∷ row clause 0 (codes "requires { 1; } && a") (codes "(requires(){1;} && a)")
    ∷ row clause 0 (codes "a && requires { 1; }") (codes "(a && requires(){1;})")
    ∷ row expr_nodes' 0 (codes "requires (T t, U) { t; typename T::x; }") (codes "0@11 1@13 2@16 3@16 4@21 5@21 6@33 7@24 8@24 9@1")
    ∷ row expr_nodes' 0 (codes "requires { typename Box<T>; }") (codes "0@25 1@12 2@12 3@1")
    ∷ row expr_nodes' 0 (codes "requires { { a } -> Same<T>; requires b; }") (codes "0@14 1@26 2@21 3@12 4@39 5@30 6@1")
    -- loads in requires-expressions
    ∷ row expr 255 (codes "requires { 1; }") (codes "Depth 12")
    ∷ row expr 254 (codes "requires { 1; }") (codes "requires(){1;}")
    ∷ row expr 254 (codes "requires { { 1 }; }") (codes "Depth 12")
    ∷ row expr 253 (codes "requires { { 1 }; }") (codes "requires(){{1};}")
    ∷ row expr 254 (codes "requires { requires a; }") (codes "requires(){requires a;}")
    ∷ row expr 254 (codes "requires { typename T::x; }") (codes "requires(){type typename T::x;}")
    ∷ row expr 254 (codes "requires { { a } -> Small; }") (codes "Depth 12")
    ∷ row expr 253 (codes "requires { { a } -> Same<T>; }") (codes "Depth 26")
    ∷ row expr 252 (codes "requires { { a } -> Same<T>; }") (codes "requires(){{a}->Same<type T>;}")
    -- `void` at the front of parameters
    ∷ row expr 254 (codes "requires (void) { 1; }") (codes "requires(){1;}")
    ∷ row expr 255 (codes "requires (void) {") (codes "Syntax 18")
    ∷ row expr 255 (codes "requires (void") (codes "Depth 11")
    ∷ row expr 255 (codes "requires (void x) { 1; }") (codes "Depth 11")
    ∷ row expr 255 (codes "requires (void +") (codes "Depth 11")
    ∷ row expr 254 (codes "requires (void x) { 1; }") (codes "requires(void x;){1;}")
    ∷ row expr 255 (codes "requires (T x) { 1; }") (codes "Depth 11")
    ∷ row expr 256 (codes "requires (void) { 1; }") (codes "Depth 10")
    ∷ []
