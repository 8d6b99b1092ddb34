-- Statements ([stmt.stmt]) and the declarations of variables in them.
use Rattle.std.specs.Prelude.{ℕ, ◌+◌, Bool, true, false, List, [], ◌∷◌, ◌++◌, codes, Option, Some, None}
use Rattle.cx_base.specs.declared.place.Place.{Place}
use Rattle.cx_lexer.specs.declared.token.TokenKind.{TokenKind}
use Rattle.cx_lexer.specs.declared.token.TokenKind.TheVariants as kind
use Rattle.cx_scope.specs.declared.name_kind.NameKind.TheVariants.{Value}
use Rattle.cx_scope.specs.Frames.{noted, entered}
use Rattle.cx_tree.specs.Trees.{Mark, ExprTree, NameTree, TemplateTree, TypeTree, CoreTree, ArgumentTrees, no_argument, exprs, ConstraintTree}
use Rattle.cx_tree.specs.Declarations.{ParameterTree, MemberTree, TemplateParameterTree, DeclTree}
use Rattle.cx_tree.specs.Statements.{AutoTree, OfType, OfAuto, InitTree, ValueInit, ListInit, VariableTree, ForInit, NoInit, VariableInit, ExprInit, AssertTree, StmtTree, EmptyStmt, Block, AssertStmt, Break, Continue, Return, If, IfElse, While, For, VariableStmt, ExprStmt, stmts}
use Rattle.cx_grammar.specs.Pieces.{Piece}
use Rattle.cx_grammar.specs.Production.{Production, give, ◌>>=◌, token, when, repeat}
use Rattle.cx_grammar.specs.Words.{word, punct, any_name}
use Rattle.cx_grammar.specs.Names.{Context, deeper, inside, with_names, concept_name}
use Rattle.cx_grammar.specs.Types.{Numbered, Named, Placed, MayCall, NoCall, Below, numbered, type_id, type_behind, one_word, scalar_of_word, scalar_behind, placed_scalar}
use Rattle.cx_grammar.specs.Requires.{constraint, is_not_closing}
use Rattle.cx_grammar.specs.Expressions.{place_of, expr, expr_behind, tail, exprs_until, head_name, core_word, behind_head, behind_core, goes_on}

-- The productions one construct deeper.
pub record Within : Type 1 where
  pub base : Below
  pub stmt : Context → ℕ → Production (Named StmtTree)
  pub bare : Context → ℕ → Production (Named StmtTree)
  pub head : Context → ℕ → Production (Named (ForInit × Option ExprTree × Option ExprTree))
  pub parameters : Bool → Context → ℕ → Production (Named (List ParameterTree))
  pub members : Bool → Context → ℕ → Production (Numbered (List MemberTree))
  pub template_parameters : Context → ℕ → Production (Named (List TemplateParameterTree))
  pub decl : Context → ℕ → Production (Named DeclTree)

-- a tree that declares nothing
abbrev pub unnamed : {A : Type 0} → Context → Numbered A → Named A
unnamed c x = (x.0, x.1, c.names)

-- the string of a token
abbrev pub is_string_kind : TokenKind → Bool
is_string_kind kind.Str = true
is_string_kind other = false

unfoldable pub string_token : Piece → Bool
string_token p = is_string_kind p.token.kind

abbrev pub place_or : Place → Option Place → Place
place_or other None = other
place_or other (Some at) = at

abbrev pub with_arguments : Mark → List ℕ → ArgumentTrees → ExprTree
with_arguments m name no_argument = NameTree m name
with_arguments m name as' = TemplateTree m name as'

-- the expression that a concept's name is, with its arguments or none
abbrev pub concept_expr : ConstraintTree → ExprTree
concept_expr k = with_arguments k.mark k.name k.args

-- ---- what stands in parentheses behind a word

unfoldable pub condition : Below → Context → ℕ → Production (Numbered ExprTree)
condition b c n = do
  open_round ← token (c.load + 1) (punct (codes "("))
  e ← b.expr (inside c) n
  close_round ← token (c.load + 1) (punct (codes ")"))
  give e

-- ---- initialisers ([dcl.init])

unfoldable pub value_init : Below → Context → ℕ → Production (Numbered InitTree)
value_init b c n = do
  equal ← token c.load (punct (codes "="))
  e ← expr b c n
  give (ValueInit e.0, e.1)

unfoldable pub list_init : Below → Context → ℕ → Production (Numbered InitTree)
list_init b c n = do
  open_brace ← token (c.load + 1) (punct (codes "{"))
  es ← exprs_until (codes "}") b (inside c) n
  close_brace ← token (c.load + 1) (punct (codes "}"))
  give (ListInit (numbered es.1 open_brace.token.at) (exprs es.0), es.1 + 1)

unfoldable pub init : Below → Context → ℕ → Production (Numbered InitTree)
init b c n = when (punct (codes "{")) (list_init b c n) (value_init b c n)

-- ---- variables ([dcl.dcl]): what stands behind the type

-- a name, an initialiser, `;`. The name is declared behind its initialiser.
unfoldable pub variable_behind : Below → Context → Bool → Numbered TypeTree → Production (Named VariableTree)
variable_behind b c is_constexpr of = do
  name ← token c.load any_name
  i ← init b c of.1
  semicolon ← token c.load (punct (codes ";"))
  give (record { mark = numbered i.1 name.token.at; is_constexpr = is_constexpr; type = OfType of.0; name = name.token.text; init = i.0 }, i.1 + 1, noted c.names name.token.text Value)

-- the same where the type is `auto`: no list
unfoldable pub auto_variable_behind : Below → Context → Bool → Numbered AutoTree → Production (Named VariableTree)
auto_variable_behind b c is_constexpr of = do
  name ← token c.load any_name
  i ← value_init b c of.1
  semicolon ← token c.load (punct (codes ";"))
  give (record { mark = numbered i.1 name.token.at; is_constexpr = is_constexpr; type = OfAuto of.0; name = name.token.text; init = i.0 }, i.1 + 1, noted c.names name.token.text Value)

-- ---- `auto` ([dcl.spec.auto]): `const` before or behind it or both, a constraint before it, `&` behind it

unfoldable pub const_behind_auto : Context → Bool → Production Bool
const_behind_auto c before = when (word (codes "const"))
    (do
      t ← token c.load (word (codes "const"))
      give true)
    (give before)

unfoldable pub reference_behind_auto : Context → Production Bool
reference_behind_auto c = when (punct (codes "&"))
    (do
      t ← token c.load (punct (codes "&"))
      give true)
    (give false)

-- `auto` and what is behind it; the place of the whole is told where something stands before it
unfoldable pub auto_behind : Context → Option Place → Bool → Option ConstraintTree → ℕ → Production (Numbered AutoTree)
auto_behind c at before constrained n = do
  word' ← token c.load (word (codes "auto"))
  constant ← const_behind_auto c before
  reference ← reference_behind_auto c
  give (record { mark = numbered n (place_or word'.token.at at); constant = constant; constraint = constrained; reference = reference }, n + 1)

-- ---- where a statement begins with a type, an `auto` or an expression that begins like one

abbrev pub as_stmt : Named VariableTree → Named StmtTree
as_stmt v = (VariableStmt v.0, v.1, v.2)

-- a variable of a type
unfoldable pub variable_of : Below → Context → Bool → Numbered TypeTree → Production (Named StmtTree)
variable_of b c is_constexpr of = do
  v ← variable_behind b c is_constexpr of
  give (as_stmt v)

unfoldable pub variable_of_auto : Below → Context → Bool → Numbered AutoTree → Production (Named StmtTree)
variable_of_auto b c is_constexpr of = do
  v ← auto_variable_behind b c is_constexpr of
  give (as_stmt v)

-- a statement that is an expression whose first operand is read
unfoldable pub expr_stmt_of : Below → Context → Numbered ExprTree → Production (Named StmtTree)
expr_stmt_of b c first = do
  e ← expr_behind b c first
  semicolon ← token c.load (punct (codes ";"))
  give (ExprStmt (numbered e.1 (place_of e.0)) e.0, e.1 + 1, c.names)

-- behind a core: a list in braces makes an expression of it
unfoldable pub core_stmt : Below → Context → Numbered (Placed CoreTree) → Production (Named StmtTree)
core_stmt b c k = when (punct (codes "{"))
    (do
      p ← behind_core b c k
      e ← tail b NoCall c p
      expr_stmt_of b c e)
    (do
      t ← type_behind c k.0.0 false (k.0.1, k.1)
      variable_of b c false t)

-- ... and behind the name of a type or a class template with arguments so does `::`
unfoldable pub head_stmt : Below → Context → Numbered (Placed CoreTree) → Production (Named StmtTree)
head_stmt b c k = when goes_on
    (do
      p ← behind_head b c k
      e ← tail b NoCall c p
      expr_stmt_of b c e)
    (do
      t ← type_behind c k.0.0 false (k.0.1, k.1)
      variable_of b c false t)

-- a scalar of one word may be a list's type
unfoldable pub word_stmt : Below → Context → ℕ → Production (Named StmtTree)
word_stmt b c n = do
  t ← token (c.load + 1) one_word
  when (punct (codes "{"))
      (do
        p ← behind_core b c (placed_scalar t (scalar_of_word t), n)
        e ← tail b NoCall c p
        expr_stmt_of b c e)
      (do
        s ← scalar_behind (deeper c) t
        of ← type_behind c t.token.at false ((placed_scalar t s).1, n)
        variable_of b c false of)

-- a variable of a type or `auto`, behind `constexpr` and `const`, if they stand there
unfoldable pub typed_variable : Below → Context → Bool → ℕ → Production (Named StmtTree)
typed_variable b c is_constexpr n = do
  t ← type_id b c n
  variable_of b c is_constexpr t

unfoldable pub constrained_auto : Below → Context → Option Place → Bool → Bool → ℕ → Production (Named StmtTree)
constrained_auto b c at is_constexpr before n = do
  k ← constraint b c n
  a ← auto_behind c (Some (place_or k.0.mark.at at)) before (Some k.0) k.1
  variable_of_auto b c is_constexpr a

unfoldable pub plain_auto : Below → Context → Option Place → Bool → Bool → ℕ → Production (Named StmtTree)
plain_auto b c at is_constexpr before n = do
  a ← auto_behind c at before None n
  variable_of_auto b c is_constexpr a

-- behind `const`
unfoldable pub const_variable : Below → Context → Bool → ℕ → Production (Named StmtTree)
const_variable b c is_constexpr n = do
  t ← token c.load (word (codes "const"))
  when (concept_name c) (constrained_auto b c (Some t.token.at) is_constexpr true n)
      (when (word (codes "auto")) (plain_auto b c (Some t.token.at) is_constexpr true n)
      (do
        k ← b.core (deeper c) n
        of ← type_behind c t.token.at true (k.0.1, k.1)
        variable_of b c is_constexpr of))

-- a declaration of a variable ([stmt.dcl]), no expression
unfoldable pub variable : Below → Context → Bool → ℕ → Production (Named StmtTree)
variable b c is_constexpr n =
    when (word (codes "const")) (const_variable b c is_constexpr n)
    (when (concept_name c) (constrained_auto b c None is_constexpr false n)
    (when (word (codes "auto")) (plain_auto b c None is_constexpr false n)
    (typed_variable b c is_constexpr n)))

-- a concept's name: behind it and its arguments `auto` makes a variable of it
unfoldable pub concept_stmt : Below → Context → ℕ → Production (Named StmtTree)
concept_stmt b c n = do
  k ← constraint b c n
  when (word (codes "auto"))
      (do
        a ← auto_behind c (Some k.0.mark.at) false (Some k.0) k.1
        variable_of_auto b c false a)
      (do
        e ← tail b MayCall c (concept_expr k.0, k.1)
        expr_stmt_of b c e)

-- an expression
unfoldable pub expr_stmt : Below → Context → ℕ → Production (Named StmtTree)
expr_stmt b c n = do
  e ← expr b c n
  semicolon ← token c.load (punct (codes ";"))
  give (ExprStmt (numbered e.1 (place_of e.0)) e.0, e.1 + 1, c.names)

-- a variable or an expression
unfoldable pub open_stmt : Below → Context → ℕ → Production (Named StmtTree)
open_stmt b c n =
    when (word (codes "constexpr")) (do t ← token c.load (word (codes "constexpr")); variable b c true n)
    (when (word (codes "const")) (const_variable b c false n)
    (when (word (codes "auto")) (plain_auto b c None false false n)
    (when (concept_name c) (concept_stmt b c n)
    (when (head_name c) (do k ← b.core (deeper c) n; head_stmt b c k)
    (when core_word (do k ← b.core (deeper c) n; core_stmt b c k)
    (when one_word (word_stmt b c n)
    (when (word (codes "long")) (typed_variable b c false n)
    (expr_stmt b c n))))))))

-- ---- the other statements

unfoldable pub assertion : Below → Context → ℕ → Production (Numbered AssertTree)
assertion b c n = do
  word' ← token c.load (word (codes "static_assert"))
  open_round ← token (c.load + 1) (punct (codes "("))
  e ← b.expr (inside c) n
  message ← when (punct (codes ","))
      (do
        comma ← token (c.load + 1) (punct (codes ","))
        text ← token (c.load + 1) string_token
        give (Some text.token.text))
      (give None)
  close_round ← token (c.load + 1) (punct (codes ")"))
  semicolon ← token c.load (punct (codes ";"))
  give (record { mark = numbered e.1 word'.token.at; condition = e.0; message = message }, e.1 + 1)

abbrev pub more_stmt : Within → Context → Named (List StmtTree) → Production (Named (List StmtTree))
more_stmt b c so_far = do
  s ← b.stmt (with_names c so_far.2) so_far.1
  give (so_far.0 ++ s.0 ∷ [], s.1, s.2)

-- a block: its names are forgotten behind it ([basic.scope.block])
unfoldable pub block : Within → Context → ℕ → Production (Numbered StmtTree)
block b c n = do
  open_brace ← token (c.load + 1) (punct (codes "{"))
  ss ← repeat is_not_closing (more_stmt b (inside c)) ([], n, entered c.names)
  close_brace ← token (c.load + 1) (punct (codes "}"))
  give (Block (numbered ss.1 open_brace.token.at) (stmts ss.0), ss.1 + 1)

-- a statement that is a part of another one: its names are forgotten behind it
unfoldable pub substatement : Within → Context → ℕ → Production (Numbered StmtTree)
substatement b c n = do
  s ← b.bare (deeper (with_names c (entered c.names))) n
  give (s.0, s.1)

unfoldable pub alternative : Within → Context → Mark → Bool → ExprTree → Numbered StmtTree → Production (Numbered StmtTree)
alternative b c at is_constexpr test then' = when (word (codes "else"))
    (do
      word' ← token c.load (word (codes "else"))
      otherwise ← substatement b c then'.1
      give (IfElse (numbered otherwise.1 at.at) is_constexpr test then'.0 otherwise.0, otherwise.1 + 1))
    (give (If (numbered then'.1 at.at) is_constexpr test then'.0, then'.1 + 1))

-- An `else` belongs to the nearest `if`.
unfoldable pub if_stmt : Within → Context → ℕ → Production (Numbered StmtTree)
if_stmt b c n = do
  word' ← token c.load (word (codes "if"))
  is_constexpr ← when (word (codes "constexpr")) (do t ← token c.load (word (codes "constexpr")); give true) (give false)
  test ← condition b.base c n
  then' ← substatement b c test.1
  alternative b c (numbered n word'.token.at) is_constexpr test.0 then'

unfoldable pub while_stmt : Within → Context → ℕ → Production (Numbered StmtTree)
while_stmt b c n = do
  word' ← token c.load (word (codes "while"))
  test ← condition b.base c n
  body ← substatement b c test.1
  give (While (numbered body.1 word'.token.at) test.0 body.0, body.1 + 1)

-- an expression, up to what stands behind it, or none
unfoldable pub maybe_expr : List ℕ → Below → Context → ℕ → Production (Numbered (Option ExprTree))
maybe_expr behind b c n = when (punct behind) (give (None, n))
    (do
      e ← expr b c n
      give (Some e.0, e.1))

abbrev pub as_init : StmtTree → ForInit
as_init (VariableStmt v) = VariableInit v
as_init (ExprStmt m e) = ExprInit e
as_init other = NoInit

-- what stands first in the head of a `for`, up to its `;`. An expression is no statement of its own there.
abbrev pub next_behind : StmtTree → ℕ → ℕ
next_behind (ExprStmt m e) n = m.node
next_behind other n = n

unfoldable pub for_init : Below → Context → ℕ → Production (Named ForInit)
for_init b c n = when (punct (codes ";"))
    (do
      semicolon ← token c.load (punct (codes ";"))
      give (NoInit, n, c.names))
    (do
      s ← open_stmt b c n
      give (as_init s.0, next_behind s.0 s.1, s.2))

-- The head of a `for`, in its parentheses: what stands first, the condition or none, the step or none.
unfoldable pub for_head : Below → Context → ℕ → Production (Named (ForInit × Option ExprTree × Option ExprTree))
for_head b c n = do
  i ← for_init b c n
  test ← maybe_expr (codes ";") b (with_names c i.2) i.1
  semicolon ← token c.load (punct (codes ";"))
  step ← maybe_expr (codes ")") b (with_names c i.2) test.1
  give ((i.0, test.0, step.0), step.1, i.2)

unfoldable pub for_stmt : Within → Context → ℕ → Production (Numbered StmtTree)
for_stmt b c n = do
  word' ← token c.load (word (codes "for"))
  open_round ← token (c.load + 1) (punct (codes "("))
  head ← b.head (inside (with_names c (entered c.names))) n
  close_round ← token (c.load + 1) (punct (codes ")"))
  body ← substatement b (with_names c head.2) head.1
  give (For (numbered body.1 word'.token.at) head.0.0 head.0.1 head.0.2 body.0, body.1 + 1)

unfoldable pub return_stmt : Below → Context → ℕ → Production (Numbered StmtTree)
return_stmt b c n = do
  word' ← token c.load (word (codes "return"))
  e ← maybe_expr (codes ";") b c n
  semicolon ← token c.load (punct (codes ";"))
  give (Return (numbered e.1 word'.token.at) e.0, e.1 + 1)

-- a word and `;`
unfoldable pub jump : List ℕ → (Mark → StmtTree) → Context → ℕ → Production (Numbered StmtTree)
jump text make c n = do
  word' ← token c.load (word text)
  semicolon ← token c.load (punct (codes ";"))
  give (make (numbered n word'.token.at), n + 1)

unfoldable pub empty_stmt : Context → ℕ → Production (Numbered StmtTree)
empty_stmt c n = do
  t ← token c.load (punct (codes ";"))
  give (EmptyStmt (numbered n t.token.at), n + 1)

abbrev pub closed_stmt : Context → Production (Numbered StmtTree) → Production (Named StmtTree)
closed_stmt c p = do
  s ← p
  give (unnamed c s)

-- A statement, within its own construct.
unfoldable pub bare_stmt : Within → Context → ℕ → Production (Named StmtTree)
bare_stmt b c n =
    when (punct (codes ";")) (closed_stmt c (empty_stmt c n))
    (when (punct (codes "{")) (closed_stmt c (block b c n))
    (when (word (codes "static_assert")) (do a ← assertion b.base c n; give (AssertStmt a.0, a.1, c.names))
    (when (word (codes "break")) (closed_stmt c (jump (codes "break") Break c n))
    (when (word (codes "continue")) (closed_stmt c (jump (codes "continue") Continue c n))
    (when (word (codes "return")) (closed_stmt c (return_stmt b.base c n))
    (when (word (codes "if")) (closed_stmt c (if_stmt b c n))
    (when (word (codes "while")) (closed_stmt c (while_stmt b c n))
    (when (word (codes "for")) (closed_stmt c (for_stmt b c n))
    (open_stmt b.base c n)))))))))

-- A statement: a construct.
unfoldable pub stmt : Within → Context → ℕ → Production (Named StmtTree)
stmt b c n = b.bare (deeper c) n
