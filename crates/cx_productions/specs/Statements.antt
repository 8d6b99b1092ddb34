-- Statements ([stmt.stmt]) and the variables that they declare ([dcl.dcl]).
use Rattle.std.specs.Prelude.{ℕ, Bool, true, false, ◌||◌, List, Option, Some, None}
use Rattle.cx_base.specs.declared.place.Place.{Place}
use Rattle.cx_tokens.specs.declared.word.Word.{Word}
use Rattle.cx_tokens.specs.declared.word.Word.TheVariants as words
use Rattle.cx_tokens.specs.declared.punctuator.Punctuator.{Punctuator}
use Rattle.cx_tokens.specs.declared.punctuator.Punctuator.TheVariants as punctuator
use Rattle.cx_names.specs.declared.name_kind.NameKind.TheVariants as names
use Rattle.cx_syntax.specs.declared.context.Context.{Context}
use Rattle.cx_syntax.specs.Contexts.{deeper, inside}
use Rattle.cx_syntax.specs.Productions.{Production, give, ◌>>=◌, token, when}
use Rattle.cx_syntax.specs.Classes.{word, punct, any_name, name_of, string}
use Rattle.cx_syntax.specs.Combinators.{node, note, in_scope, maybe, flag, in_parentheses, in_braces, items_until}
use Rattle.cx_syntax.specs.Precedence.{expression_level}
use Rattle.cx_productions.specs.declared.calling.Calling.TheVariants as calling
use Rattle.cx_productions.specs.Trees.{Mark, mark, ExprTree, NameTree, TemplateTree, TypeTree, ArgumentTrees, no_argument, place_of, exprs, ConstraintTree}
use Rattle.cx_productions.specs.StatementTrees.{AutoTree, OfType, OfAuto, InitTree, ValueInit, ListInit, VariableTree, Opening, OfVariable, OfExpr, ForHead, AssertTree, StmtTree, EmptyStmt, Block, AssertStmt, Break, Continue, Return, If, IfElse, While, For, VariableStmt, ExprStmt, stmts}
use Rattle.cx_productions.specs.Below.{Below}
use Rattle.cx_productions.specs.Scalars.{Core, scalar_word, scalar_of_word, scalar_after, scalar_at}
use Rattle.cx_productions.specs.Types.{core, head_core, type_after, type_id}
use Rattle.cx_productions.specs.Requires.{constraint}
use Rattle.cx_productions.specs.Primaries.{Operand, expr_list, list_after, after_head, head_name, core_word}
use Rattle.cx_productions.specs.Expressions.{expr, expr_of}
use Rattle.cx_productions.specs.Arguments.{after_head_mark}

-- The productions within which others stand again: those of expressions, and a statement, within its own construct.
pub record Within : Type 1 where
  pub base : Below
  pub stmt : Context → Production StmtTree

-- ---- initialisers ([dcl.init])

-- value_init = "=" expr
unfoldable pub value_init : Below → Context → Production InitTree
value_init b c = do
  equal ← token c (punct punctuator.Equal)
  e ← expr b expression_level c
  give (ValueInit e)

-- list_init = "{" [ exprs ] "}"
unfoldable pub list_init : Below → Context → Production InitTree
list_init b c = do
  es ← in_braces c (expr_list (punct punctuator.RightBrace) b)
  n ← node
  give (ListInit (mark n es.at) (exprs es.item))

-- init = value_init | list_init
unfoldable pub init : Below → Context → Production InitTree
init b c = when (punct punctuator.LeftBrace) (list_init b c) (value_init b c)

-- ---- variables ([dcl.dcl]): what stands after the type. The name is declared after its initialiser.

-- Name init ";"
unfoldable pub variable_after : Below → Context → Bool → TypeTree → Production VariableTree
variable_after b c is_constexpr of = do
  name ← token c any_name
  i ← init b c
  semicolon ← token c (punct punctuator.Semicolon)
  n ← node
  noted ← note name.token.text names.Value
  give (record { mark = mark n name.token.at; is_constexpr = is_constexpr; type = OfType of; name = name.token.text; init = i })

-- Name "=" expr ";", after `auto`
unfoldable pub auto_variable_after : Below → Context → Bool → AutoTree → Production VariableTree
auto_variable_after b c is_constexpr of = do
  name ← token c any_name
  i ← value_init b c
  semicolon ← token c (punct punctuator.Semicolon)
  n ← node
  noted ← note name.token.text names.Value
  give (record { mark = mark n name.token.at; is_constexpr = is_constexpr; type = OfAuto of; name = name.token.text; init = i })

-- ---- `auto` ([dcl.spec.auto]): `const` before or after it or both, a constraint before it, `&` after it

abbrev pub place_or : Place → Option Place → Place
place_or other None = other
place_or other (Some at) = at

-- "auto" [ "const" ] [ "&" ]. What stands before it is told: its place, `const`, a constraint.
unfoldable pub auto_after : Context → Option Place → Bool → Option ConstraintTree → Production AutoTree
auto_after c at is_const constrained = do
  auto ← token c (word words.Auto)
  constant ← flag c (word words.Const)
  reference ← flag c (punct punctuator.Ampersand)
  n ← node
  give (record { mark = mark n (place_or auto.token.at at); constant = is_const || constant; constraint = constrained; reference = reference })

-- ---- where a statement begins with a type, an `auto` or an expression that begins like one

unfoldable pub variable_of : Below → Context → Bool → TypeTree → Production Opening
variable_of b c is_constexpr of = do
  v ← variable_after b c is_constexpr of
  give (OfVariable v)

unfoldable pub variable_of_auto : Below → Context → Bool → AutoTree → Production Opening
variable_of_auto b c is_constexpr of = do
  v ← auto_variable_after b c is_constexpr of
  give (OfVariable v)

-- an expression whose first operand is read, ";"
unfoldable pub expr_opening : Below → Context → Operand → Production Opening
expr_opening b c operand = do
  e ← expr_of b c operand
  semicolon ← token c (punct punctuator.Semicolon)
  give (OfExpr e)

-- ... where that operand is not called
abbrev pub uncalled_opening : Below → Context → ExprTree → Production Opening
uncalled_opening b c e = expr_opening b c (record { tree = e; calling = calling.Never })

-- expr ";"
unfoldable pub whole_expr : Below → Context → Production Opening
whole_expr b c = do
  e ← expr b expression_level c
  semicolon ← token c (punct punctuator.Semicolon)
  give (OfExpr e)

-- a variable of a type whose core is read
unfoldable pub variable_of_core : Below → Context → Core → Production Opening
variable_of_core b c k = do
  t ← type_after c k.at false k
  variable_of b c false t

-- after a core: a list in braces makes an expression of it
unfoldable pub core_opening_after : Below → Context → Core → Production Opening
core_opening_after b c k = when (punct punctuator.LeftBrace)
    (do
      operand ← list_after b c k
      uncalled_opening b c operand)
    (variable_of_core b c k)

-- ... and after a head so does `::`
unfoldable pub head_opening_after : Below → Context → Core → Production Opening
head_opening_after b c k = when after_head_mark
    (do
      operand ← after_head b c k
      uncalled_opening b c operand)
    (variable_of_core b c k)

unfoldable pub head_opening : Below → Context → Production Opening
head_opening b c = do
  k ← head_core b (deeper c)
  head_opening_after b c k

unfoldable pub core_opening : Below → Context → Production Opening
core_opening b c = do
  k ← core b (deeper c)
  core_opening_after b c k

-- a scalar: of one word, it may be a list's type
unfoldable pub scalar_opening : Below → Context → Production Opening
scalar_opening b c = do
  t ← token (deeper c) scalar_word
  when (punct punctuator.LeftBrace)
      (do
        operand ← list_after b c (scalar_at t (scalar_of_word t))
        uncalled_opening b c operand)
      (do
        s ← scalar_after (deeper c) t
        variable_of_core b c (scalar_at t s))

-- a variable of a type
unfoldable pub typed_variable : Below → Context → Bool → Production Opening
typed_variable b c is_constexpr = do
  t ← type_id b c
  variable_of b c is_constexpr t

unfoldable pub constrained_auto : Below → Context → Option Place → Bool → Bool → Production Opening
constrained_auto b c at is_constexpr is_const = do
  k ← constraint b c
  a ← auto_after c (Some (place_or k.mark.at at)) is_const (Some k)
  variable_of_auto b c is_constexpr a

unfoldable pub plain_auto : Below → Context → Option Place → Bool → Bool → Production Opening
plain_auto b c at is_constexpr is_const = do
  a ← auto_after c at is_const None
  variable_of_auto b c is_constexpr a

-- after `const`
unfoldable pub const_variable : Below → Context → Bool → Production Opening
const_variable b c is_constexpr = do
  t ← token c (word words.Const)
  when (name_of names.Concept) (constrained_auto b c (Some t.token.at) is_constexpr true)
      (when (word words.Auto) (plain_auto b c (Some t.token.at) is_constexpr true)
      (do
        k ← core b (deeper c)
        of ← type_after c t.token.at true k
        variable_of b c is_constexpr of))

-- a declaration of a variable ([stmt.dcl]), no expression
unfoldable pub variable : Below → Context → Bool → Production Opening
variable b c is_constexpr =
    when (word words.Const) (const_variable b c is_constexpr)
    (when (name_of names.Concept) (constrained_auto b c None is_constexpr false)
    (when (word words.Auto) (plain_auto b c None is_constexpr false)
    (typed_variable b c is_constexpr)))

-- "constexpr" and a variable
unfoldable pub constexpr_variable : Below → Context → Production Opening
constexpr_variable b c = do
  t ← token c (word words.Constexpr)
  variable b c true

-- the expression that a concept's name is, with its arguments or none
abbrev pub with_arguments : Mark → List ℕ → ArgumentTrees → ExprTree
with_arguments m name no_argument = NameTree m name
with_arguments m name args = TemplateTree m name args

abbrev pub concept_expr : ConstraintTree → ExprTree
concept_expr k = with_arguments k.mark k.name k.args

-- a concept's name: after it and its arguments `auto` makes a variable of it
unfoldable pub concept_opening : Below → Context → Production Opening
concept_opening b c = do
  k ← constraint b c
  when (word words.Auto)
      (do
        a ← auto_after c (Some k.mark.at) false (Some k)
        variable_of_auto b c false a)
      (expr_opening b c (record { tree = concept_expr k; calling = calling.May }))

-- A variable or an expression: a type followed by `{` begins an expression, and so does a head followed by `::`.
unfoldable pub opening : Below → Context → Production Opening
opening b c =
    when (word words.Constexpr) (constexpr_variable b c)
    (when (word words.Const) (const_variable b c false)
    (when (word words.Auto) (plain_auto b c None false false)
    (when (name_of names.Concept) (concept_opening b c)
    (when head_name (head_opening b c)
    (when core_word (core_opening b c)
    (when scalar_word (scalar_opening b c)
    (when (word words.Long) (typed_variable b c false)
    (whole_expr b c))))))))

-- ---- statements

-- A variable is a statement, and an expression is a node of a statement besides.
unfoldable pub stmt_of : Opening → Production StmtTree
stmt_of (OfVariable v) = give (VariableStmt v)
stmt_of (OfExpr e) = do
  n ← node
  give (ExprStmt (mark n (place_of e)) e)

unfoldable pub open_stmt : Below → Context → Production StmtTree
open_stmt b c = do
  o ← opening b c
  stmt_of o

-- "," Str
unfoldable pub message : Context → Production (List ℕ)
message c = do
  comma ← token c (punct punctuator.Comma)
  text ← token c string
  give text.token.text

-- assert = "static_assert" "(" expr [ "," Str ] ")" ";"
unfoldable pub assertion : Below → Context → Production AssertTree
assertion b c = do
  start ← token c (word words.StaticAssert)
  opening ← token (deeper c) (punct punctuator.LeftParenthesis)
  e ← b.expr expression_level (inside c)
  text ← maybe (punct punctuator.Comma) (message (inside c))
  closing ← token (deeper c) (punct punctuator.RightParenthesis)
  semicolon ← token c (punct punctuator.Semicolon)
  n ← node
  give (record { mark = mark n start.token.at; condition = e; message = text })

-- { stmt }, each a construct, up to the brace that closes them
unfoldable pub statements : Within → Context → Production (List StmtTree)
statements b c = items_until (punct punctuator.RightBrace) (b.stmt (deeper c))

-- block = "{" { stmt } "}": its names are forgotten after it ([basic.scope.block])
unfoldable pub block : Within → Context → Production StmtTree
block b c = do
  ss ← in_braces c (λ inner. in_scope (statements b inner))
  n ← node
  give (Block (mark n ss.at) (stmts ss.item))

-- A statement that is a part of another one is a construct; its names are forgotten after it.
unfoldable pub substatement : Within → Context → Production StmtTree
substatement b c = in_scope (b.stmt (deeper c))

-- condition = "(" expr ")"
unfoldable pub condition : Below → Context → Production ExprTree
condition b c = do
  e ← in_parentheses c (b.expr expression_level)
  give e.item

-- [ "else" stmt ], after the statement that an `if` takes where its condition holds: an `else` belongs to the nearest
-- `if`
unfoldable pub alternative : Within → Context → Place → Bool → ExprTree → StmtTree → Production StmtTree
alternative b c at is_constexpr test chosen = when (word words.Else)
    (do
      start ← token c (word words.Else)
      otherwise ← substatement b c
      n ← node
      give (IfElse (mark n at) is_constexpr test chosen otherwise))
    (do
      n ← node
      give (If (mark n at) is_constexpr test chosen))

-- "if" [ "constexpr" ] condition stmt [ "else" stmt ]
unfoldable pub if_stmt : Within → Context → Production StmtTree
if_stmt b c = do
  start ← token c (word words.If)
  is_constexpr ← flag c (word words.Constexpr)
  test ← condition b.base c
  chosen ← substatement b c
  alternative b c start.token.at is_constexpr test chosen

-- "while" condition stmt
unfoldable pub while_stmt : Within → Context → Production StmtTree
while_stmt b c = do
  start ← token c (word words.While)
  test ← condition b.base c
  body ← substatement b c
  n ← node
  give (While (mark n start.token.at) test body)

-- [ expr ], up to what stands after it
unfoldable pub expr_until : Punctuator → Below → Context → Production (Option ExprTree)
expr_until after b c = when (punct after) (give None)
    (do
      e ← expr b expression_level c
      give (Some e))

-- ";" | variable | expr ";"
unfoldable pub for_init : Below → Context → Production (Option Opening)
for_init b c = when (punct punctuator.Semicolon)
    (do
      semicolon ← token c (punct punctuator.Semicolon)
      give None)
    (do
      o ← opening b c
      give (Some o))

-- ( variable | expr ";" | ";" ) [ expr ] ";" [ expr ]
unfoldable pub for_head : Below → Context → Production ForHead
for_head b c = do
  first ← for_init b c
  test ← expr_until punctuator.Semicolon b c
  semicolon ← token c (punct punctuator.Semicolon)
  step ← expr_until punctuator.RightParenthesis b c
  give (record { init = first; condition = test; step = step })

-- "for" "(" head ")" stmt: the names of its head are known in its body and forgotten after it
unfoldable pub for_parts : Within → Context → Place → Production StmtTree
for_parts b c at = do
  head ← in_parentheses c (for_head b.base)
  body ← substatement b c
  n ← node
  give (For (mark n at) head.item body)

unfoldable pub for_stmt : Within → Context → Production StmtTree
for_stmt b c = do
  start ← token c (word words.For)
  in_scope (for_parts b c start.token.at)

-- "return" [ expr ] ";"
unfoldable pub return_stmt : Below → Context → Production StmtTree
return_stmt b c = do
  start ← token c (word words.Return)
  e ← expr_until punctuator.Semicolon b c
  semicolon ← token c (punct punctuator.Semicolon)
  n ← node
  give (Return (mark n start.token.at) e)

-- a word and ";"
unfoldable pub jump : Word → (Mark → StmtTree) → Context → Production StmtTree
jump w make c = do
  start ← token c (word w)
  semicolon ← token c (punct punctuator.Semicolon)
  n ← node
  give (make (mark n start.token.at))

-- ";"
unfoldable pub empty_stmt : Context → Production StmtTree
empty_stmt c = do
  t ← token c (punct punctuator.Semicolon)
  n ← node
  give (EmptyStmt (mark n t.token.at))

unfoldable pub assert_stmt : Below → Context → Production StmtTree
assert_stmt b c = do
  a ← assertion b c
  give (AssertStmt a)

-- A statement, within its own construct.
unfoldable pub stmt : Within → Context → Production StmtTree
stmt b c =
    when (punct punctuator.Semicolon) (empty_stmt c)
    (when (punct punctuator.LeftBrace) (block b c)
    (when (word words.StaticAssert) (assert_stmt b.base c)
    (when (word words.Break) (jump words.Break Break c)
    (when (word words.Continue) (jump words.Continue Continue c)
    (when (word words.Return) (return_stmt b.base c)
    (when (word words.If) (if_stmt b c)
    (when (word words.While) (while_stmt b c)
    (when (word words.For) (for_stmt b c)
    (open_stmt b.base c)))))))))
