-- Statements.
use Rattle.std.specs.Prelude.{List, [], ◌∷◌, codes}
use Rattle.grammar_rows.specs.Answers.{names', stmt, stmt_nodes', Row, row}

unfoldable pub statements_rows_1 : List Row
statements_rows_1 =
    -- statements of one word
    row stmt 0 (codes "break 1;") (codes "Syntax 7")
    ∷ row stmt 0 (codes "return") (codes "Syntax 7")
    ∷ row stmt 0 (codes "return {1};") (codes "Syntax 8")
    -- what begins no statement
    ∷ row stmt 0 (codes "}") (codes "Syntax 1")
    ∷ row stmt 0 (codes "throw a;") (codes "Unsupported 1")
    ∷ row stmt 0 (codes "template") (codes "Syntax 1")
    -- static assert with a text or none
    ∷ row stmt 0 (codes "static_assert();") (codes "Syntax 15")
    -- statements in braces
    ∷ row stmt 0 (codes "{") (codes "Syntax 2")
    ∷ row stmt 0 (codes "{ goto a; }") (codes "Unsupported 3")
    -- names last to the end of their block
    ∷ row stmt 0 (codes "{ { int T = 1; } T x = 1; }") (codes "{{int T = 1;} T x = 1;}")
    ∷ row stmt 0 (codes "{ int T = T{}; }") (codes "{int T = T{0};}")
    ∷ row stmt 0 (codes "{ int T = 1; { T = 2; } }") (codes "{int T = 1; {(T = 2);}}")
    -- an else belongs to the nearest if
    ∷ row stmt 0 (codes "if (a) if (b) c; else d;") (codes "if (a) [if (b) [c;] else [d;]]")
    -- conditions
    ∷ row stmt 0 (codes "if a) b;") (codes "Syntax 4")
    ∷ row stmt 0 (codes "if (a) b; else") (codes "Syntax 15")
    -- while with its condition
    ∷ row stmt 0 (codes "while (a)") (codes "Syntax 10")
    -- for with its head
    ∷ row stmt 0 (codes "for (int i = 0; i < 9; ++i) a;") (codes "for (int i = 0; (i ~ 9); (u i)) [a;]")
    ∷ row stmt 0 (codes "for () a;") (codes "Syntax 6")
    ∷ row stmt 0 (codes "for (T x{1}; x; ) {}") (codes "for (T x{1}; x; ) [{}]")
    ∷ row stmt 0 (codes "for (a; b; c) d; e;") (codes "for (a; b; c) [d;] ..10")
    -- variables of a named type
    ∷ row stmt 0 (codes "T x;") (codes "Syntax 4")
    ∷ row stmt 0 (codes "T const& x = a;") (codes "const T& x = a;")
    ∷ row stmt 0 (codes "const T{};") (codes "Syntax 8")
    ∷ row stmt 0 (codes "Box<int x = 1;") (codes "Syntax 9")
    ∷ row stmt 0 (codes "x y = 1;") (codes "Syntax 3")
    ∷ []

unfoldable pub statements_rows_2 : List Row
statements_rows_2 =
    -- variables of a scalar
    row stmt 0 (codes "int;") (codes "Syntax 4")
    ∷ row stmt 0 (codes "unsigned long long x = 1;") (codes "unsigned long long x = 1;")
    ∷ row stmt 0 (codes "long long unsigned x = 1;") (codes "unsigned long long x = 1;")
    ∷ row stmt 0 (codes "int 1 = x;") (codes "Syntax 5")
    ∷ row stmt 0 (codes "int x = {1};") (codes "Syntax 9")
    -- variables after constexpr
    ∷ row stmt 0 (codes "constexpr int x = 1;") (codes "constexpr int x = 1;")
    ∷ row stmt 0 (codes "constexpr;") (codes "Syntax 10")
    -- variables of auto
    ∷ row stmt 0 (codes "const auto const x = 1;") (codes "const auto x = 1;")
    ∷ row stmt 0 (codes "auto auto x = 1;") (codes "Syntax 6")
    ∷ row stmt 0 (codes "const Small x = 1;") (codes "Syntax 13")
    -- expressions and a semicolon
    ∷ row stmt 0 (codes "a;") (codes "a;")
    ∷ row stmt 0 (codes "++a;") (codes "(u a);")
    ∷ row stmt 0 (codes "a.b(1);") (codes "a.b(1);")
    ∷ row stmt 0 (codes "x[1];") (codes "Unsupported 2")
    -- expressions that begin with a type
    ∷ row stmt 0 (codes "T{};") (codes "T{0};")
    ∷ row stmt 0 (codes "T{}(1);") (codes "Syntax 4")
    ∷ row stmt 0 (codes "void{1};") (codes "void{1};")
    ∷ row stmt 0 (codes "T{1}") (codes "Syntax 5")
    -- expressions that begin with a concept
    ∷ row stmt 0 (codes "Same<int> && a;") (codes "(Same<1> ~ a);")
    ∷ row stmt 0 (codes "Small<> auto x = 1;") (codes "Syntax 7")
    -- constructs that are open before count
    ∷ row stmt 255 (codes "{}") (codes "Depth 1")
    ∷ row stmt 255 (codes "static_assert(a);") (codes "Depth 14")
    -- the name of a local is noted after it
    ∷ row names' 0 (codes "int T = 1;") (codes "T Value, U TypeName, Box ClassTemplate, x none")
    ∷ row names' 0 (codes "{ int U = 1; }") (codes "T TypeName, U TypeName, Box ClassTemplate, x none")
    ∷ row names' 0 (codes "for (int U = 1;;) int Box = 1;") (codes "T TypeName, U TypeName, Box ClassTemplate, x none")
    ∷ []

unfoldable pub statements_rows_3 : List Row
statements_rows_3 =
    row names' 0 (codes "x = 1;") (codes "T TypeName, U TypeName, Box ClassTemplate, x none")
    ∷ row names' 0 (codes "auto x = 1;") (codes "T TypeName, U TypeName, Box ClassTemplate, x Value")
    -- statements
    ∷ row stmt 0 (codes "requires { 1; };") (codes "requires;")
    ∷ row stmt 0 (codes "for (int x = 1; x; ++x) x;") (codes "for (int x = 1; x; (u x)) [x;]")
    ∷ row stmt_nodes' 0 (codes "for (a; b; c) d;") (codes "0@6 1@9 2@12 3@15 4@15 5@1")
    ∷ row stmt_nodes' 0 (codes "for (int x = 1; ; ) ;") (codes "0@6 1@14 2@10 3@21 4@1")
    ∷ row stmt_nodes' 0 (codes "{ auto x = 1; }") (codes "0@3 1@12 2@8 3@1")
    ∷ row stmt_nodes' 0 (codes "{ Same<T> auto& x = 1; int y{2}; }") (codes "0@8 1@3 2@3 3@21 4@17 5@24 6@30 7@29 8@28 9@1")
    ∷ row stmt_nodes' 0 (codes "if (a) b; else c;") (codes "0@5 1@8 2@8 3@16 4@16 5@1")
    ∷ row stmt_nodes' 0 (codes "static_assert(a, \"b\");") (codes "0@15 1@1")
    ∷ []
