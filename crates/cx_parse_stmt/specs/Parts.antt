-- Parts of productions that the parsers read by functions of their own.
use Rattle.std.specs.Prelude.{ℕ, ◌+◌, Bool, true, false, List, codes, Option, Some, None}
use Rattle.cx_grammar.specs.Production.{Production, give, ◌>>=◌, token, when}
use Rattle.cx_grammar.specs.Words.{word, punct}
use Rattle.cx_grammar.specs.Names.{Context}
use Rattle.cx_grammar.specs.Types.{Below, Named}
use Rattle.cx_grammar.specs.Statements.{Within, assertion, string_token, closed_stmt, jump, return_stmt, if_stmt, while_stmt, for_stmt, open_stmt}
use Rattle.cx_tree.specs.Statements.{StmtTree, AssertStmt, Break, Continue}

-- the text of a `static_assert`, or none
abbrev pub message : Context → Production (Option (List ℕ))
message c = when (punct (codes ","))
    (do
      comma ← token (c.load + 1) (punct (codes ","))
      text ← token (c.load + 1) string_token
      give (Some text.token.text))
    (give None)

-- `constexpr` or nothing
abbrev pub maybe_constexpr : Context → Production Bool
maybe_constexpr c = when (word (codes "constexpr")) (do t ← token c.load (word (codes "constexpr")); give true) (give false)

-- `static_assert` as a statement
abbrev pub assert_stmt : Below → Context → ℕ → Production (Named StmtTree)
assert_stmt b c n = do
  a ← assertion b c n
  give (AssertStmt a.0, a.1, c.names)

-- a statement that holds others, a variable or an expression
abbrev pub open_or_holding_stmt : Within → Context → ℕ → Production (Named StmtTree)
open_or_holding_stmt b c n =
    when (word (codes "if")) (closed_stmt c (if_stmt b c n))
    (when (word (codes "while")) (closed_stmt c (while_stmt b c n))
    (when (word (codes "for")) (closed_stmt c (for_stmt b c n))
    (open_stmt b.base c n)))

-- a statement that is no block and not empty
abbrev pub worded_stmt : Within → Context → ℕ → Production (Named StmtTree)
worded_stmt b c n =
    when (word (codes "static_assert")) (do a ← assertion b.base c n; give (AssertStmt a.0, a.1, c.names))
    (when (word (codes "break")) (closed_stmt c (jump (codes "break") Break c n))
    (when (word (codes "continue")) (closed_stmt c (jump (codes "continue") Continue c n))
    (when (word (codes "return")) (closed_stmt c (return_stmt b.base c n))
    (open_or_holding_stmt b c n))))
