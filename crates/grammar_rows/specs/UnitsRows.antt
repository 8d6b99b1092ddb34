-- Units.
use Rattle.std.specs.Prelude.{List, [], ◌∷◌, codes}
use Rattle.grammar_rows.specs.Answers.{unit', unit_nodes', Row, row}

unfoldable pub units_rows_1 : List Row
units_rows_1 =
    -- units
    row unit' 0 (codes "") (codes "")
    ∷ row unit' 0 (codes ";") (codes ";")
    ∷ row unit' 0 (codes "int f();") (codes "int f();")
    ∷ row unit' 0 (codes "int f() { return 0; }") (codes "int f() {return 0;}")
    ∷ row unit' 0 (codes "int f(void);") (codes "int f();")
    ∷ row unit' 0 (codes "int f(int, const unsigned& x);") (codes "int f(int, const unsigned& x);")
    ∷ row unit' 0 (codes "int f(int x,);") (codes "Syntax 13")
    ∷ row unit' 0 (codes "int f(void, int);") (codes "int f(void, int);")
    ∷ row unit' 0 (codes "int f(auto x, const auto& y);") (codes "int f(auto x, const auto& y);")
    ∷ row unit' 0 (codes "int f(auto x); int g() { return f<int>(1); }") (codes "int f(auto x); int g() {return f<1>(1);}")
    ∷ row unit' 0 (codes "int f(int x); int g() { return f < 1; }") (codes "int f(int x); int g() {return (f ~ 1);}")
    ∷ row unit' 0 (codes "int f(int x) requires a;") (codes "Syntax 14")
    ∷ row unit' 0 (codes "int f(auto x) requires a;") (codes "int f(auto x) requires a;")
    ∷ row unit' 0 (codes "int f(auto x) requires f<int>;") (codes "Syntax 30")
    ∷ row unit' 0 (codes "inline static constexpr int f();") (codes "inline static constexpr int f();")
    ∷ row unit' 0 (codes "inline inline int f();") (codes "Syntax 8")
    ∷ row unit' 0 (codes "int f() const;") (codes "Syntax 9")
    ∷ row unit' 0 (codes "constexpr int n = 1;") (codes "constexpr int n = 1;")
    ∷ row unit' 0 (codes "constexpr int n{1};") (codes "constexpr int n{1};")
    ∷ row unit' 0 (codes "int n = 1;") (codes "Syntax 7")
    ∷ row unit' 0 (codes "static int n = 1;") (codes "Syntax 14")
    ∷ row unit' 0 (codes "static constexpr const int n = 1;") (codes "static constexpr const int n = 1;")
    ∷ row unit' 0 (codes "constexpr auto n = 1;") (codes "Syntax 11")
    ∷ row unit' 0 (codes "using T = int; T f();") (codes "using T = int; T f();")
    ∷ row unit' 0 (codes "using T = T;") (codes "Syntax 11")
    ∷ []

unfoldable pub units_rows_2 : List Row
units_rows_2 =
    row unit' 0 (codes "static_assert(1); static_assert(1, \"x\");") (codes "assert(1); assert(1, \"x\");")
    ∷ row unit' 0 (codes "struct S { int x; S y; }; S f();") (codes "struct S { int x; S y; }; S f();")
    ∷ row unit' 0 (codes "struct S { };") (codes "struct S { };")
    ∷ row unit' 0 (codes "struct S { } int") (codes "Syntax 14")
    ∷ row unit' 0 (codes "struct S { int f() const; int g() const { return x; } ; using T = int; T t; };") (codes "struct S { int f() const; int g() const {return x;} ; using T = int; T t; };")
    ∷ row unit' 0 (codes "struct S { static constexpr int n = 1; static int m; };") (codes "Syntax 47")
    ∷ row unit' 0 (codes "struct S { static inline constexpr int n{1}; };") (codes "struct S { inline static constexpr int n{1}; };")
    ∷ row unit' 0 (codes "struct S { static constexpr int n(); };") (codes "Syntax 34")
    ∷ row unit' 0 (codes "struct S { inline int x; };") (codes "Syntax 24")
    ∷ row unit' 0 (codes "struct S { inline static int x; };") (codes "Syntax 19")
    ∷ row unit' 0 (codes "struct S { inline constexpr int f(); };") (codes "struct S { inline constexpr int f(); };")
    ∷ row unit' 0 (codes "struct S { int f(auto x); };") (codes "Syntax 18")
    ∷ row unit' 0 (codes "struct S { int f() requires a; };") (codes "Syntax 20")
    ∷ row unit' 0 (codes "struct S { int x = 1; };") (codes "Syntax 18")
    ∷ row unit' 0 (codes "struct S { static_assert(1); };") (codes "Syntax 12")
    -- templates
    ∷ row unit' 0 (codes "template<typename T> T f(T x);") (codes "template<typename T> T f(T x);")
    ∷ row unit' 0 (codes "template<typename T> T f(T x); int g() { return f<int>(1); }") (codes "template<typename T> T f(T x); int g() {return f<1>(1);}")
    ∷ row unit' 0 (codes "template<typename T> T f(T x) { return f<T>(x); }") (codes "template<typename T> T f(T x) {return f<1>(1);}")
    ∷ row unit' 0 (codes "template<typename T> T f(); T g();") (codes "Syntax 29")
    ∷ row unit' 0 (codes "template<class T, int n = 1 + 2> int f();") (codes "template<typename T, int n = (1 ~ 2)> int f();")
    ∷ row unit' 0 (codes "template<typename, unsigned long long> int f();") (codes "template<typename, unsigned long long> int f();")
    ∷ row unit' 0 (codes "template<typename T = int, typename U = T> int f();") (codes "template<typename T = int, typename U = T> int f();")
    ∷ row unit' 0 (codes "template<typename T = T> int f();") (codes "Syntax 23")
    ∷ row unit' 0 (codes "template<typename T> struct B { T x; }; B<int> f();") (codes "template<typename T> struct B { T x; }; B<1> f();")
    ∷ row unit' 0 (codes "template<typename T> struct B { B<T> x; int f() requires a; };") (codes "template<typename T> struct B { B<1> x; int f() requires a; };")
    ∷ []

unfoldable pub units_rows_3 : List Row
units_rows_3 =
    row unit' 0 (codes "template<typename T> struct T { T x; }; T<int> f();") (codes "template<typename T> struct T { T x; }; T<1> f();")
    ∷ row unit' 0 (codes "template<typename T> struct B { }; template<> struct B<int> { int x; };") (codes "template<typename T> struct B { }; template<> struct B<type int> { int x; };")
    ∷ row unit' 0 (codes "template<typename T> struct B { }; template<typename T> struct B<T&> { T f() requires a; };") (codes "template<typename T> struct B { }; template<typename T> struct B<type T&> { T f() requires a; };")
    ∷ row unit' 0 (codes "template<typename T> struct B { }; template<> struct B<int> { int f() requires a; };") (codes "Syntax 71")
    ∷ row unit' 0 (codes "template<typename T> struct B { }; template<> struct C<int> { };") (codes "Syntax 54")
    ∷ row unit' 0 (codes "template<typename T> struct B { }; template<> struct B { };") (codes "Syntax 56")
    ∷ row unit' 0 (codes "template<> int f();") (codes "Syntax 12")
    ∷ row unit' 0 (codes "template<typename T> concept C = 1; template<C T> int f();") (codes "template<typename T> concept C = 1; template<C type T> int f();")
    ∷ row unit' 0 (codes "template<typename T> concept C = 1; template<C<int> T = int> int f();") (codes "template<typename T> concept C = 1; template<C<1> type T = int> int f();")
    ∷ row unit' 0 (codes "template<typename T> concept C = 1; template<C T> concept D = 1;") (codes "Syntax 51")
    ∷ row unit' 0 (codes "template<typename T> concept C = C;") (codes "template<typename T> concept C = C;")
    ∷ row unit' 0 (codes "template<typename T> concept C = C<T>;") (codes "Syntax 37")
    ∷ row unit' 0 (codes "template<typename T> concept C = 1; int f(C auto x);") (codes "template<typename T> concept C = 1; int f(C auto x);")
    ∷ row unit' 0 (codes "template<typename T> concept C = 1; int f(const C<int> auto& x);") (codes "template<typename T> concept C = 1; int f(const C<1> auto& x);")
    ∷ row unit' 0 (codes "template<typename T> requires a && b int f();") (codes "template<typename T> requires (a ~ b) int f();")
    ∷ row unit' 0 (codes "template<typename T> requires a concept C = 1;") (codes "Syntax 33")
    ∷ row unit' 0 (codes "template<typename T> requires a struct B { };") (codes "template<typename T> requires a struct B { };")
    ∷ row unit' 0 (codes "template<typename T> requires (a) int f() requires b { }") (codes "template<typename T> requires [a] int f() requires b {}")
    ∷ row unit' 0 (codes "template<typename T> requires requires (T t) { t; } int f();") (codes "template<typename T> requires requires int f();")
    ∷ row unit' 0 (codes "template<typename T> template<typename U> int f();") (codes "Syntax 22")
    ∷ row unit' 0 (codes "template<int n = 1 > 2> int f();") (codes "Syntax 22")
    ∷ row unit' 0 (codes "template<int n = (1 > 2)> int f();") (codes "template<int n = [(1 ~ 2)]> int f();")
    ∷ row unit' 0 (codes "template<typename T> constexpr T n = 1;") (codes "Syntax 36")
    ∷ row unit' 0 (codes "template<typename T> using U = T;") (codes "Syntax 22")
    ∷ row unit' 0 (codes "template<typename T> ;") (codes "Syntax 22")
    ∷ []

unfoldable pub units_rows_4 : List Row
units_rows_4 =
    row unit' 0 (codes "template<typename T struct B { };") (codes "Syntax 21")
    -- their nodes
    ∷ row unit_nodes' 0 (codes "int f(int x);") (codes "0@1 1@7 2@11 3@5")
    ∷ row unit_nodes' 0 (codes "template<typename T> T f(T);") (codes "0@19 1@22 2@26 3@26 4@24 5@24")
    ∷ row unit_nodes' 0 (codes "template<typename T> struct B { T x; }; template<> struct B<int> { };") (codes "0@19 1@33 2@35 3@29 4@29 5@61 6@59 7@59")
    ∷ row unit_nodes' 0 (codes "template<int> concept C = 1;") (codes "0@10 1@27 2@23 3@23")
    ∷ row unit_nodes' 0 (codes "struct S { using T = int; static constexpr int n = 1; };") (codes "0@22 1@18 2@44 3@52 4@48 5@8")
    ∷ row unit_nodes' 0 (codes "; static_assert(1); using T = int;") (codes "0@1 1@17 2@3 3@31 4@27")
    -- what is in a unit
    ∷ row unit' 0 (codes "int f() { return 1") (codes "Syntax 19")
    ∷ row unit' 0 (codes "int f(") (codes "Syntax 7")
    ∷ row unit' 0 (codes "int") (codes "Syntax 4")
    ∷ row unit' 0 (codes "namespace") (codes "Unsupported 1")
    ∷ row unit' 0 (codes "int f() { return x[1]; }") (codes "Unsupported 19")
    ∷ row unit' 0 (codes "int f(int x) { int x = 1; return x; } int y") (codes "Syntax 44")
    ∷ row unit' 0 (codes "void f() { } const int& g();") (codes "void f() {} const int& g();")
    ∷ []
