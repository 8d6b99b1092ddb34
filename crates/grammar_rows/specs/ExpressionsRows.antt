-- Expressions, types and clauses.
use Rattle.std.specs.Prelude.{List, [], ◌∷◌, codes}
use Rattle.grammar_rows.specs.Answers.{clause, clause_nodes', expr, expr_nodes', type, type_nodes', Row, row}

unfoldable pub expressions_rows_1 : List Row
expressions_rows_1 =
    -- of neighbouring levels the tighter one binds
    row expr 0 (codes "a ^ b & c") (codes "(a ^ (b & c))")
    ∷ row expr 0 (codes "a + b >> c") (codes "((a + b) >> c)")
    -- each level groups from the left
    ∷ row expr 0 (codes "a < b > c") (codes "((a < b) > c)")
    ∷ row expr 0 (codes "a - b - c - d") (codes "(((a - b) - c) - d)")
    -- alternative tokens are operators
    ∷ row expr 0 (codes "a bitand b bitor c xor d") (codes "((a & b) | (c ^ d))")
    -- conditionals group from the right
    ∷ row expr 0 (codes "a = b ? c : d") (codes "(a = (b ? c : d))")
    ∷ row expr 0 (codes "? b : c") (codes "Syntax 1")
    -- assignments group from the right
    ∷ row expr 0 (codes "a ^= b") (codes "(a ^= b)")
    ∷ row expr 0 (codes "1 = 2") (codes "(1 = 2)")
    -- prefix operators nest
    ∷ row expr 0 (codes "- - a") (codes "(-(-a))")
    ∷ row expr 0 (codes "-a.b") (codes "(-(a.b))")
    -- postfix operators follow one another
    ∷ row expr 0 (codes "a++.b") (codes "((a++).b)")
    ∷ row expr 0 (codes "(1).b(2)") (codes "(([1].b)(2))")
    -- a call comes after a name or a member
    ∷ row expr 0 (codes "f()") (codes "(f())")
    ∷ row expr 0 (codes "(f)(1)") (codes "[f] ..3")
    ∷ row expr 0 (codes "f(1") (codes "Syntax 4")
    -- spellings of scalars
    ∷ row type 0 (codes "bool") (codes "bool")
    ∷ row type 0 (codes "signed long long int") (codes "long long")
    ∷ row type 0 (codes "unsigned long int") (codes "Syntax 15")
    ∷ row type 0 (codes "unsigned long long long") (codes "unsigned long long ..3")
    -- const and references
    ∷ row type 0 (codes "int const") (codes "const int")
    ∷ row type 0 (codes "const const int") (codes "Syntax 7")
    ∷ row type 0 (codes "const") (codes "Syntax 6")
    -- named types
    ∷ row type 0 (codes "T") (codes "T")
    ∷ row type 0 (codes "typename T::") (codes "Syntax 13")
    ∷ []

unfoldable pub expressions_rows_2 : List Row
expressions_rows_2 =
    row type 0 (codes "Box<int>::x") (codes "Box<type int> ..4")
    ∷ row type 0 (codes "Box<a<b>>") (codes "Syntax 8")
    ∷ row type 0 (codes "3") (codes "Syntax 1")
    -- names and literals
    ∷ row expr 0 (codes "7ull") (codes "7ull")
    ∷ row expr 0 (codes "a b") (codes "a ..1")
    -- names after a type
    ∷ row expr 0 (codes "Box<int>::x::y + 1") (codes "(Box<type int>::x::y + 1)")
    ∷ row expr 0 (codes "Box::x") (codes "Syntax 4")
    -- casts
    ∷ row expr 0 (codes "static_cast<T const&>(a)") (codes "static_cast<const T&>(a)")
    ∷ row expr 0 (codes "static_cast<>(a)") (codes "Syntax 13")
    ∷ row expr 0 (codes "__is_same(int, 3)") (codes "Syntax 16")
    -- lists of template arguments
    ∷ row expr 0 (codes "Same<T, U> && a") (codes "(Same<type T, type U> && a)")
    ∷ row expr 0 (codes "make<a & b>(1)") (codes "(make<(a & b)>(1))")
    ∷ row expr 0 (codes "make<,T>(1)") (codes "Syntax 6")
    -- an argument is a type or a value
    ∷ row expr 0 (codes "Small<Box<int> const>") (codes "Small<type const Box<type int>>")
    ∷ row expr 0 (codes "Small<decltype(a){1}>") (codes "Small<decltype(a){1}>")
    ∷ row expr 0 (codes "Small<const a>") (codes "Syntax 13")
    -- what closes a list
    ∷ row expr 0 (codes "Small<Box<Box<int>>>") (codes "Small<type Box<type Box<type int>>>")
    ∷ row expr 0 (codes "Small<static_cast<Box<int>>(a)>") (codes "Small<static_cast<Box<type int>>(a)>")
    ∷ row expr 0 (codes "Small<Box<int>>>") (codes "Syntax 17")
    -- a function template with arguments is called
    ∷ row expr 0 (codes "make<int>++") (codes "Syntax 10")
    -- an argument has no assignment outside brackets
    ∷ row expr 0 (codes "make<f(a += b)>(1)") (codes "(make<(f((a += b)))>(1))")
    ∷ row expr 0 (codes "make<a> = b") (codes "Syntax 9")
    -- a list comes after a core
    ∷ row expr 0 (codes "T{}") (codes "T{}")
    ∷ row expr 0 (codes "decltype(a = b){}") (codes "decltype((a = b)){}")
    -- a type alone is no expression
    ∷ row expr 0 (codes "T(1)") (codes "Syntax 2")
    ∷ []

unfoldable pub expressions_rows_3 : List Row
expressions_rows_3 =
    row expr 0 (codes "Box{1}") (codes "Syntax 4")
    ∷ row expr 0 (codes "decltype a") (codes "Syntax 10")
    -- a scalar before a list is one word
    ∷ row expr 0 (codes "a + unsigned{1}") (codes "(a + unsigned{1})")
    -- clauses join primaries
    ∷ row clause 0 (codes "a and b or c") (codes "((a && b) || c)")
    ∷ row clause 0 (codes "make && a") (codes "(make && a)")
    -- a clause ends before other operators
    ∷ row clause 0 (codes "a.b") (codes "a ..1")
    -- what a clause has not
    ∷ row clause 0 (codes "long long") (codes "Syntax 1")
    ∷ row clause 0 (codes "make<int>") (codes "Syntax 10")
    ∷ row clause 0 (codes "a && sizeof b") (codes "Unsupported 6")
    -- a fault stands at the first token that does not fit
    ∷ row expr 0 (codes "a + b *") (codes "Syntax 8")
    ∷ row expr 0 (codes "((a)") (codes "Syntax 5")
    -- tokens that the language has no use for
    ∷ row expr 0 (codes "(a->b)") (codes "Syntax 3")
    ∷ row expr 0 (codes "T::template") (codes "Syntax 4")
    -- a node comes after its parts
    ∷ row expr_nodes' 0 (codes "2 + 3 * -4") (codes "0@1 1@5 2@10 3@9 4@5 5@1")
    ∷ row expr_nodes' 0 (codes "a - b - c") (codes "0@1 1@5 2@1 3@9 4@1")
    ∷ row expr_nodes' 0 (codes "f(a, b).c") (codes "0@1 1@3 2@6 3@1 4@1")
    ∷ row expr_nodes' 0 (codes "((a))") (codes "0@3 1@2 2@1")
    ∷ row expr_nodes' 0 (codes "T{1, 2}") (codes "0@1 1@3 2@6 3@1")
    ∷ row expr_nodes' 0 (codes "int{}") (codes "0@1 1@1")
    ∷ row expr_nodes' 0 (codes "static_cast<const int&>(a)") (codes "0@13 1@25 2@1")
    ∷ row expr_nodes' 0 (codes "__is_same(int, T)") (codes "0@11 1@16 2@1")
    ∷ row expr_nodes' 0 (codes "__out(a)") (codes "0@7 1@1")
    ∷ row expr_nodes' 0 (codes "Box<int>::x") (codes "0@5 1@1 2@1")
    ∷ row expr_nodes' 0 (codes "make<T, 3>(a)") (codes "0@6 1@9 2@1 3@12 4@1")
    ∷ row expr_nodes' 0 (codes "a ? b : c = d") (codes "0@1 1@5 2@9 3@13 4@9 5@1")
    ∷ []

unfoldable pub expressions_rows_4 : List Row
expressions_rows_4 =
    row expr_nodes' 0 (codes "typename T::x{}") (codes "0@10 1@1 2@1")
    ∷ row expr_nodes' 0 (codes "decltype(a){}") (codes "0@10 1@1 2@1")
    ∷ row expr_nodes' 0 (codes "x++ . y") (codes "0@1 1@1 2@1")
    ∷ row expr_nodes' 0 (codes "Small<Box<T>> > 1") (codes "0@11 1@7 2@1 3@17 4@1")
    -- types and clauses are numbered too
    ∷ row type_nodes' 0 (codes "const Box<int>&") (codes "0@11 1@1")
    ∷ row type_nodes' 0 (codes "Pair<T, a + b>") (codes "0@6 1@9 2@13 3@9 4@1")
    ∷ row type_nodes' 0 (codes "typename Box<T>::x") (codes "0@14 1@10 2@1")
    ∷ row clause_nodes' 0 (codes "a || b && c") (codes "0@1 1@6 2@11 3@6 4@1")
    ∷ row clause_nodes' 0 (codes "Small<T> && (a)") (codes "0@7 1@1 2@14 3@13 4@1")
    -- where the last construct is open
    ∷ row expr 256 (codes "a + )") (codes "Syntax 5")
    ∷ row expr 256 (codes "int{1}") (codes "Depth 1")
    ∷ row expr 255 (codes "a + b * c") (codes "Depth 9")
    -- the load of a type
    ∷ row type 255 (codes "const int const") (codes "const int ..2")
    ∷ row type 254 (codes "Box<T::x>") (codes "Depth 5")
    -- calls count after their `)`
    ∷ row expr 255 (codes "f(a)") (codes "(f(a))")
    ∷ row expr 255 (codes "f()") (codes "(f())")
    ∷ row expr 255 (codes "make<a>(b)") (codes "(make<a>(b))")
    ∷ row expr 256 (codes "f()") (codes "Depth 2")
    ∷ row expr 255 (codes "f(a).x") (codes "Depth 6")
    ∷ row expr 254 (codes "f(a).x") (codes "((f(a)).x)")
    ∷ row expr 255 (codes "a.b()") (codes "Depth 4")
    ∷ row expr 254 (codes "a.b()") (codes "((a.b)())")
    ∷ row expr 254 (codes "a.b()++") (codes "(((a.b)())++)")
    ∷ row expr 254 (codes "a.b()++++") (codes "Depth 8")
    ∷ []
