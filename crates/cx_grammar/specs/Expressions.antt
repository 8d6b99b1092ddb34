-- Expressions ([expr]), template arguments ([temp.arg]) and the clause of a requires ([temp.pre]).
use Rattle.std.specs.Prelude.{ℕ, ◌+◌, zero, suc, Bool, true, false, ◌||◌, ◌&&◌, not, nat_le, List, [], ◌∷◌, ◌++◌, codes, Option, Some, None, is_some, if◌then◌else◌, ◌==◌}
use Rattle.std.specs.Str.{bytes_eq}
use Rattle.cx_base.specs.declared.place.Place.{Place}
use Rattle.cx_base.specs.declared.value.Scalar.{Scalar}
use Rattle.cx_base.specs.declared.value.Scalar.TheVariants as scalar
use Rattle.cx_lexer.specs.Literals.{type_of, value_of}
use Rattle.cx_lexer.specs.declared.token.TokenKind.{TokenKind}
use Rattle.cx_lexer.specs.declared.token.TokenKind.TheVariants as kind
use Rattle.cx_tree.specs.declared.operators.UnaryOperator.{UnaryOperator}
use Rattle.cx_tree.specs.declared.operators.UnaryOperator.TheVariants as prefix'
use Rattle.cx_tree.specs.declared.operators.PostfixOperator.{PostfixOperator}
use Rattle.cx_tree.specs.declared.operators.PostfixOperator.TheVariants as postfix'
use Rattle.cx_tree.specs.declared.operators.BinaryOperator.{BinaryOperator}
use Rattle.cx_tree.specs.declared.operators.BinaryOperator.TheVariants as binary
use Rattle.cx_tree.specs.declared.operators.AssignmentOperator.{AssignmentOperator}
use Rattle.cx_tree.specs.declared.operators.AssignmentOperator.TheVariants as assign
use Rattle.cx_tree.specs.Trees.{Mark, ExprTree, IntTree, BoolTree, NameTree, TemplateTree, QualifiedTree, ListTree, GroupTree, StaticCastTree, IsSameTree, OutTree, MemberTree, CallTree, PostfixTree, UnaryTree, BinaryTree, ConditionalTree, AssignmentTree, TypeTree, CoreTree, ArgumentTree, TypeArgument, ValueArgument, exprs, arguments, expr_mark}
use Rattle.cx_grammar.specs.Pieces.{Piece}
use Rattle.cx_grammar.specs.Production.{Production, give, ◌>>=◌, token, when, given, repeat, closed}
use Rattle.cx_grammar.specs.Words.{is_first, is_second, spelling, word, punct, any_name, literal_token, second_half}
use Rattle.cx_grammar.specs.Names.{Context, deeper, inside, listed, type_name, class_name, template_name, concept_name}
use Rattle.cx_grammar.specs.Requires.{maybe_requires}
use Rattle.cx_grammar.specs.Types.{Numbered, Placed, Calling, NoCall, MayCall, MustCall, Below, numbered, argument_list, qualified_names, as_type, type_id, core, const_type, type_behind, placed_scalar, one_word, scalar_of_word, scalar_behind, closes}

-- The place of an expression: that of its first token.
abbrev pub place_of : ExprTree → Place
place_of e = (expr_mark e).at

-- the mark of a node of this number at the place of an expression
abbrev pub marked : ℕ → ExprTree → Mark
marked n e = numbered n (place_of e)

-- ---- lists of expressions

unfoldable pub more_expr : Below → Context → Numbered (List ExprTree) → Production (Numbered (List ExprTree))
more_expr b c so_far = do
  comma ← token c.load (punct (codes ","))
  e ← b.expr c so_far.1
  give (so_far.0 ++ e.0 ∷ [], e.1)

-- one or more expressions
unfoldable pub some_exprs : Below → Context → ℕ → Production (Numbered (List ExprTree))
some_exprs b c n = do
  first ← b.expr c n
  repeat (punct (codes ",")) (more_expr b c) (first.0 ∷ [], first.1)

-- none or more, up to what closes the list
unfoldable pub exprs_until : List ℕ → Below → Context → ℕ → Production (Numbered (List ExprTree))
exprs_until closing b c n = when (punct closing) (give ([], n)) (some_exprs b c n)

-- ---- primaries ([expr.prim])

-- the type of a literal; each token that is a literal has one
abbrev pub scalar_or_int : Option Scalar → Scalar
scalar_or_int None = scalar.Int
scalar_or_int (Some s) = s

unfoldable pub literal : Context → ℕ → Production (Numbered ExprTree)
literal c n = do
  t ← token c.load literal_token
  give (IntTree (numbered n t.token.at) (scalar_or_int (type_of t.token.text)) (value_of t.token.text), n + 1)

unfoldable pub truth : Bool → List ℕ → Context → ℕ → Production (Numbered ExprTree)
truth value text c n = do
  t ← token c.load (word text)
  give (BoolTree (numbered n t.token.at) value, n + 1)

unfoldable pub group : Below → Context → ℕ → Production (Numbered ExprTree)
group b c n = do
  open_round ← token (c.load + 1) (punct (codes "("))
  e ← b.expr (inside c) n
  close_round ← token (c.load + 1) (punct (codes ")"))
  give (GroupTree (numbered e.1 open_round.token.at) e.0, e.1 + 1)

unfoldable pub static_cast : Below → Context → ℕ → Production (Numbered ExprTree)
static_cast b c n = do
  cast ← token c.load (word (codes "static_cast"))
  less ← token (c.load + 1) (punct (codes "<"))
  to ← b.type (listed c) n
  greater ← token (c.load + 1) (closes (c.angle + 1))
  open_round ← token (c.load + 1) (punct (codes "("))
  e ← b.expr (inside c) to.1
  close_round ← token (c.load + 1) (punct (codes ")"))
  give (StaticCastTree (numbered e.1 cast.token.at) to.0 e.0, e.1 + 1)

unfoldable pub is_same : Below → Context → ℕ → Production (Numbered ExprTree)
is_same b c n = do
  same ← token c.load (word (codes "__is_same"))
  open_round ← token (c.load + 1) (punct (codes "("))
  left ← b.type (inside c) n
  comma ← token (c.load + 1) (punct (codes ","))
  right ← b.type (inside c) left.1
  close_round ← token (c.load + 1) (punct (codes ")"))
  give (IsSameTree (numbered right.1 same.token.at) left.0 right.0, right.1 + 1)

unfoldable pub out : Below → Context → ℕ → Production (Numbered ExprTree)
out b c n = do
  word' ← token c.load (word (codes "__out"))
  open_round ← token (c.load + 1) (punct (codes "("))
  e ← b.expr (inside c) n
  close_round ← token (c.load + 1) (punct (codes ")"))
  give (OutTree (numbered e.1 word'.token.at) e.0, e.1 + 1)

-- ---- what begins with a type: a list in braces, or names behind `::`. The type is a construct.

-- a list in braces behind a type
unfoldable pub list : Below → Context → Numbered TypeTree → Place → Production (Numbered ExprTree)
list b c of at = do
  open_brace ← token (c.load + 1) (punct (codes "{"))
  es ← exprs_until (codes "}") b (inside c) of.1
  close_brace ← token (c.load + 1) (punct (codes "}"))
  give (ListTree (numbered es.1 at) of.0 (exprs es.0), es.1 + 1)

-- names behind a type
unfoldable pub qualified : Context → Numbered TypeTree → Place → Production (Numbered ExprTree)
qualified c head at = do
  names ← qualified_names c
  give (QualifiedTree (numbered head.1 at) head.0 names, head.1 + 1)

-- behind the name of a type, or a class template with arguments
unfoldable pub behind_head : Below → Context → Numbered (Placed CoreTree) → Production (Numbered ExprTree)
behind_head b c k = when (punct (codes "{")) (list b c (as_type k) k.0.0) (qualified c (as_type k) k.0.0)

-- behind another core
unfoldable pub behind_core : Below → Context → Numbered (Placed CoreTree) → Production (Numbered ExprTree)
behind_core b c k = list b c (as_type k) k.0.0

unfoldable pub headed : Below → Context → ℕ → Production (Numbered ExprTree)
headed b c n = do
  k ← b.core (deeper c) n
  behind_head b c k

unfoldable pub cored : Below → Context → ℕ → Production (Numbered ExprTree)
cored b c n = do
  k ← b.core (deeper c) n
  behind_core b c k

unfoldable pub word_list : Below → Context → ℕ → Production (Numbered ExprTree)
word_list b c n = do
  t ← token (c.load + 1) one_word
  behind_core b c (placed_scalar t (scalar_of_word t), n)

-- ---- names ([expr.prim.id.unqual])

unfoldable pub name_alone : Context → ℕ → Production (Numbered ExprTree)
name_alone c n = do
  t ← token c.load any_name
  give (NameTree (numbered n t.token.at) t.token.text, n + 1)

-- a name, and where `<` follows, template arguments
unfoldable pub named : Calling → Below → Context → ℕ → Production (Numbered ExprTree × Calling)
named calling b c n = do
  t ← token c.load any_name
  when (punct (codes "<"))
      (do
        args ← argument_list b c n
        give ((TemplateTree (numbered args.1 t.token.at) t.token.text (arguments args.0), args.1 + 1), calling))
      (give ((NameTree (numbered n t.token.at) t.token.text, n + 1), MayCall))

abbrev pub with_calling : Calling → Production (Numbered ExprTree) → Production (Numbered ExprTree × Calling)
with_calling calling p = do
  e ← p
  give (e, calling)

-- what begins with a word, or a group
unfoldable pub worded : Below → Context → ℕ → Production (Numbered ExprTree × Calling)
worded b c n =
    when (word (codes "true")) (with_calling NoCall (truth true (codes "true") c n))
    (when (word (codes "false")) (with_calling NoCall (truth false (codes "false") c n))
    (when (word (codes "__is_same")) (with_calling NoCall (is_same b c n))
    (when (word (codes "__out")) (with_calling NoCall (out b c n))
    (when (word (codes "requires")) (with_calling NoCall (maybe_requires b c n))
    (with_calling NoCall (group b c n))))))

-- what stands in a requires-clause too: with template arguments a function template must be called
unfoldable pub simple_primary : Below → Context → ℕ → Production (Numbered ExprTree × Calling)
simple_primary b c n =
    when literal_token (with_calling NoCall (literal c n))
    (when (template_name c) (named MustCall b c n)
    (when (concept_name c) (named MayCall b c n)
    (when any_name (with_calling MayCall (name_alone c n))
    (worded b c n))))

abbrev pub head_name : Context → Piece → Bool
head_name c p = type_name c p || class_name c p

abbrev pub core_word : Piece → Bool
core_word p = word (codes "void") p || word (codes "typename") p || word (codes "decltype") p

-- A primary expression, and whether a call may follow.
unfoldable pub primary : Below → Context → ℕ → Production (Numbered ExprTree × Calling)
primary b c n =
    when (head_name c) (with_calling NoCall (headed b c n))
    (when core_word (with_calling NoCall (cored b c n))
    (when one_word (with_calling NoCall (word_list b c n))
    (when (word (codes "static_cast")) (with_calling NoCall (static_cast b c n))
    (simple_primary b c n))))

-- ---- postfix expressions ([expr.post])

unfoldable pub member : Below → Context → Numbered ExprTree → Production (Numbered ExprTree)
member b c e = do
  dot ← token c.load (punct (codes "."))
  name ← token (c.load + 1) any_name
  b.tail MayCall (deeper c) (MemberTree (marked e.1 e.0) e.0 name.token.text, e.1 + 1)

abbrev pub is_step : Piece → Bool
is_step p = punct (codes "++") p || punct (codes "--") p

abbrev pub postfix_operator : Piece → PostfixOperator
postfix_operator p = if punct (codes "++") p then postfix'.Increment else postfix'.Decrement

unfoldable pub step : Below → Context → Numbered ExprTree → Production (Numbered ExprTree)
step b c e = do
  t ← token c.load is_step
  b.tail NoCall (deeper c) (PostfixTree (marked e.1 e.0) (postfix_operator t) e.0, e.1 + 1)

-- behind an operand that no call may follow
unfoldable pub tail_behind : Below → Context → Numbered ExprTree → Production (Numbered ExprTree)
tail_behind b c e = when (punct (codes ".")) (member b c e) (when is_step (step b c e) (give e))

-- behind the `(` of a call
unfoldable pub called : Below → Context → Numbered ExprTree → Production (Numbered ExprTree)
called b c e = do
  es ← exprs_until (codes ")") b (inside c) e.1
  close_round ← token (c.load + 1) (punct (codes ")"))
  tail_behind b c (CallTree (marked es.1 e.0) e.0 (exprs es.0), es.1 + 1)

unfoldable pub call : Below → Context → Numbered ExprTree → Production (Numbered ExprTree)
call b c e = do
  open_round ← token (c.load + 1) (punct (codes "("))
  b.called (deeper c) e

-- The postfix operators behind an operand. Each is a construct to the end of their chain.
unfoldable pub tail : Below → Calling → Context → Numbered ExprTree → Production (Numbered ExprTree)
tail b NoCall c e = tail_behind b c e
tail b MayCall c e = when (punct (codes "(")) (call b c e) (tail_behind b c e)
tail b MustCall c e = call b c e

unfoldable pub postfix : Below → Context → ℕ → Production (Numbered ExprTree)
postfix b c n = do
  p ← primary b c n
  tail b p.1 c p.0

-- ---- unary expressions ([expr.unary])

unfoldable pub is_prefix : Piece → Bool
is_prefix p = punct (codes "+") p || punct (codes "-") p || punct (codes "!") p || punct (codes "~") p || is_step p

abbrev pub unary_operator : Piece → UnaryOperator
unary_operator p =
    if punct (codes "+") p then prefix'.Plus
    else if punct (codes "-") p then prefix'.Minus
    else if punct (codes "!") p then prefix'.Not
    else if punct (codes "~") p then prefix'.Complement
    else if punct (codes "++") p then prefix'.Increment
    else prefix'.Decrement

unfoldable pub prefixed : Below → Context → ℕ → Production (Numbered ExprTree)
prefixed b c n = do
  t ← token (c.load + 1) is_prefix
  e ← b.unary (deeper c) n
  give (UnaryTree (numbered e.1 t.token.at) (unary_operator t) e.0, e.1 + 1)

unfoldable pub unary : Below → Context → ℕ → Production (Numbered ExprTree)
unary b c n = when is_prefix (prefixed b c n) (postfix b c n)

-- ---- binary expressions ([expr.mul] to [expr.log.or])

-- The operator that a punctuator is.
unfoldable pub binary_of : List ℕ → Option BinaryOperator
binary_of text =
    if bytes_eq text (codes "*") then Some binary.Multiply
    else if bytes_eq text (codes "/") then Some binary.Divide
    else if bytes_eq text (codes "%") then Some binary.Remainder
    else if bytes_eq text (codes "+") then Some binary.Add
    else if bytes_eq text (codes "-") then Some binary.Subtract
    else if bytes_eq text (codes "<<") then Some binary.ShiftLeft
    else if bytes_eq text (codes ">>") then Some binary.ShiftRight
    else if bytes_eq text (codes "<") then Some binary.Less
    else if bytes_eq text (codes "<=") then Some binary.LessEqual
    else if bytes_eq text (codes ">") then Some binary.Greater
    else if bytes_eq text (codes ">=") then Some binary.GreaterEqual
    else if bytes_eq text (codes "==") then Some binary.Equal
    else if bytes_eq text (codes "!=") then Some binary.NotEqual
    else if bytes_eq text (codes "&") then Some binary.BitAnd
    else if bytes_eq text (codes "^") then Some binary.BitXor
    else if bytes_eq text (codes "|") then Some binary.BitOr
    else if bytes_eq text (codes "&&") then Some binary.And
    else if bytes_eq text (codes "||") then Some binary.Or
    else None

-- The levels, from the tightest one, 0, to the loosest one, 9.
abbrev pub level_of : BinaryOperator → ℕ
level_of binary.Multiply = 0
level_of binary.Divide = 0
level_of binary.Remainder = 0
level_of binary.Add = 1
level_of binary.Subtract = 1
level_of binary.ShiftLeft = 2
level_of binary.ShiftRight = 2
level_of binary.Less = 3
level_of binary.LessEqual = 3
level_of binary.Greater = 3
level_of binary.GreaterEqual = 3
level_of binary.Equal = 4
level_of binary.NotEqual = 4
level_of binary.BitAnd = 5
level_of binary.BitXor = 6
level_of binary.BitOr = 7
level_of binary.And = 8
level_of binary.Or = 9

-- Within a list of template arguments `>` and `>>` are no operators.
unfoldable pub is_hidden : ℕ → Piece → Bool
is_hidden angle p = nat_le 1 angle && (bytes_eq p.token.text (codes ">") || bytes_eq p.token.text (codes ">>"))

abbrev pub is_punct : TokenKind → Bool
is_punct kind.Punct = true
is_punct other = false

-- the operator that a piece is, or begins
unfoldable pub operator_of : ℕ → Piece → Option BinaryOperator
operator_of angle p =
    if not (is_punct p.token.kind) || is_second p.half || is_hidden angle p then None else binary_of (spelling p.token.text)

abbrev pub has_level : ℕ → Option BinaryOperator → Bool
has_level level None = false
has_level level (Some o) = level_of o == level

-- whether a piece is, or begins, an operator of a level
unfoldable pub is_operator : ℕ → ℕ → Piece → Bool
is_operator level angle p = has_level level (operator_of angle p)

abbrev pub operator_or_plus : Option BinaryOperator → BinaryOperator
operator_or_plus None = binary.Add
operator_or_plus (Some o) = o

-- an operator of a level: `>>` is two pieces
unfoldable pub operator : ℕ → Context → Production BinaryOperator
operator level c = do
  t ← token c.load (is_operator level c.angle)
  given (is_first t.half)
      (do
        second ← token c.load second_half
        give (operator_or_plus (operator_of c.angle t)))
      (give (operator_or_plus (operator_of c.angle t)))

-- Behind a left operand: the operators of a level with their operands, grouped from the left. Each operator is a
-- construct to the end of their chain.
unfoldable pub binary_chain : Below → ℕ → Context → Numbered ExprTree → Production (Numbered ExprTree)
binary_chain b level c left = do
  o ← operator level c
  right ← b.operand level (deeper c) left.1
  b.binary_rest level (deeper c) (BinaryTree (marked right.1 left.0) o left.0 right.0, right.1 + 1)

unfoldable pub binary_rest : Below → ℕ → Context → Numbered ExprTree → Production (Numbered ExprTree)
binary_rest b level c left = when (is_operator level c.angle) (binary_chain b level c left) (give left)

-- behind an operand, the operators of so many levels, the tightest first
unfoldable pub rests : Below → ℕ → Context → Numbered ExprTree → Production (Numbered ExprTree)
rests b zero c e = give e
rests b (suc level) c e = do
  left ← rests b level c e
  binary_rest b level c left

-- An operand of an operator of a level: an expression of the tighter levels.
unfoldable pub operand : Below → ℕ → Context → ℕ → Production (Numbered ExprTree)
operand b level c n = do
  e ← unary b c n
  rests b level c e

-- ---- the conditional and assignments ([expr.cond], [expr.ass])

unfoldable pub conditional : Below → Context → Numbered ExprTree → Production (Numbered ExprTree)
conditional b c condition = do
  question ← token c.load (punct (codes "?"))
  then' ← b.expr (deeper c) condition.1
  colon ← token (c.load + 1) (punct (codes ":"))
  otherwise ← b.expr (deeper c) then'.1
  give (ConditionalTree (marked otherwise.1 condition.0) condition.0 then'.0 otherwise.0, otherwise.1 + 1)

unfoldable pub assignment_of : List ℕ → Option AssignmentOperator
assignment_of text =
    if bytes_eq text (codes "=") then Some assign.Assign
    else if bytes_eq text (codes "+=") then Some assign.Add
    else if bytes_eq text (codes "-=") then Some assign.Subtract
    else if bytes_eq text (codes "*=") then Some assign.Multiply
    else if bytes_eq text (codes "/=") then Some assign.Divide
    else if bytes_eq text (codes "%=") then Some assign.Remainder
    else if bytes_eq text (codes "^=") then Some assign.BitXor
    else if bytes_eq text (codes "&=") then Some assign.BitAnd
    else if bytes_eq text (codes "|=") then Some assign.BitOr
    else if bytes_eq text (codes "<<=") then Some assign.ShiftLeft
    else if bytes_eq text (codes ">>=") then Some assign.ShiftRight
    else None

-- whether a piece is an assignment operator; within a list of template arguments none is
unfoldable pub is_assignment : ℕ → Piece → Bool
is_assignment angle p = not (nat_le 1 angle) && is_punct p.token.kind && is_some (assignment_of (spelling p.token.text))

abbrev pub assignment_or_plain : Option AssignmentOperator → AssignmentOperator
assignment_or_plain None = assign.Assign
assignment_or_plain (Some o) = o

unfoldable pub assignment : Below → Context → Numbered ExprTree → Production (Numbered ExprTree)
assignment b c target = do
  t ← token c.load (is_assignment c.angle)
  value ← b.expr (deeper c) target.1
  give (AssignmentTree (marked value.1 target.0) (assignment_or_plain (assignment_of (spelling t.token.text))) target.0 value.0, value.1 + 1)

-- behind an operand: what makes an expression of it
unfoldable pub expr_behind : Below → Context → Numbered ExprTree → Production (Numbered ExprTree)
expr_behind b c e = do
  left ← rests b 10 c e
  when (punct (codes "?")) (conditional b c left)
      (when (is_assignment c.angle) (assignment b c left) (give left))

-- An expression. Within a list of template arguments it has no assignment, and `>` is no operator.
unfoldable pub expr : Below → Context → ℕ → Production (Numbered ExprTree)
expr b c n = do
  e ← unary b c n
  expr_behind b c e

-- ---- template arguments: a type, or an expression

abbrev pub value_argument : Numbered ExprTree → Numbered ArgumentTree
value_argument e = (ValueArgument e.0, e.1)

abbrev pub type_argument : Numbered TypeTree → Numbered ArgumentTree
type_argument t = (TypeArgument t.0, t.1)

-- an expression whose primary is read
unfoldable pub argument_of : Below → Context → Numbered ExprTree → Production (Numbered ArgumentTree)
argument_of b c p = do
  e ← tail b NoCall c p
  whole' ← expr_behind b c e
  give (value_argument whole')

-- a type whose core is read
unfoldable pub argument_type : Context → Numbered (Placed CoreTree) → Production (Numbered ArgumentTree)
argument_type c k = do
  t ← type_behind c k.0.0 false (k.0.1, k.1)
  give (type_argument t)

-- behind a core: a list in braces makes it an expression
unfoldable pub core_argument : Below → Context → Numbered (Placed CoreTree) → Production (Numbered ArgumentTree)
core_argument b c k = when (punct (codes "{"))
    (do
      p ← behind_core b c k
      argument_of b c p)
    (argument_type c k)

-- ... and behind the name of a type or a class template with arguments so does `::`
abbrev pub goes_on : Piece → Bool
goes_on p = punct (codes "{") p || punct (codes "::") p

unfoldable pub head_argument : Below → Context → Numbered (Placed CoreTree) → Production (Numbered ArgumentTree)
head_argument b c k = when goes_on
    (do
      p ← behind_head b c k
      argument_of b c p)
    (argument_type c k)

-- a scalar: of one word, it may be a list's type
unfoldable pub word_argument : Below → Context → ℕ → Production (Numbered ArgumentTree)
word_argument b c n = do
  t ← token (c.load + 1) one_word
  when (punct (codes "{"))
      (do
        p ← behind_core b c (placed_scalar t (scalar_of_word t), n)
        argument_of b c p)
      (do
        s ← scalar_behind (deeper c) t
        argument_type c (placed_scalar t s, n))

unfoldable pub core_type_argument : Below → Context → ℕ → Production (Numbered ArgumentTree)
core_type_argument b c n = do
  k ← b.core (deeper c) n
  argument_type c k

-- A template argument.
unfoldable pub argument : Below → Context → ℕ → Production (Numbered ArgumentTree)
argument b c n =
    when (word (codes "const")) (do t ← const_type b c n; give (type_argument t))
    (when (head_name c) (do k ← b.core (deeper c) n; head_argument b c k)
    (when core_word (do k ← b.core (deeper c) n; core_argument b c k)
    (when one_word (word_argument b c n)
    (when (word (codes "long")) (core_type_argument b c n)
    (do
      e ← expr b c n
      give (value_argument e))))))

-- ---- the clause of a requires ([temp.pre], [expr.log.and], [expr.log.or]): primary expressions joined by `&&`, and
-- these by `||`. No list in braces and no static_cast stands there.

-- a primary with the arguments of a function template cannot be called there
unfoldable pub uncalled : Context → Numbered ExprTree × Calling → Production (Numbered ExprTree)
uncalled c p = go p.1
  where
    go : Calling → Production (Numbered ExprTree)
    go MustCall = do
      t ← token c.load (λ t. false)
      give p.0
    go other = give p.0

unfoldable pub clause_primary : Below → Context → ℕ → Production (Numbered ExprTree)
clause_primary b c n = when (head_name c)
    (do
      k ← b.core (deeper c) n
      qualified c (as_type k) k.0.0)
    (do
      p ← simple_primary b c n
      uncalled c p)

unfoldable pub and_rest : Below → Context → Numbered ExprTree → Production (Numbered ExprTree)
and_rest b c left = when (punct (codes "&&"))
    (do
      t ← token c.load (punct (codes "&&"))
      right ← b.clause_primary (deeper c) left.1
      b.and_rest (deeper c) (BinaryTree (marked right.1 left.0) binary.And left.0 right.0, right.1 + 1))
    (give left)

unfoldable pub conjunction : Below → Context → ℕ → Production (Numbered ExprTree)
conjunction b c n = do
  e ← clause_primary b c n
  and_rest b c e

unfoldable pub or_rest : Below → Context → Numbered ExprTree → Production (Numbered ExprTree)
or_rest b c left = when (punct (codes "||"))
    (do
      t ← token c.load (punct (codes "||"))
      right ← b.conjunction (deeper c) left.1
      b.or_rest (deeper c) (BinaryTree (marked right.1 left.0) binary.Or left.0 right.0, right.1 + 1))
    (give left)

unfoldable pub clause : Below → Context → ℕ → Production (Numbered ExprTree)
clause b c n = do
  e ← conjunction b c n
  or_rest b c e

-- ---- the knot

abbrev pub above : Below → Below
above b = record {
  requires = b.requires;
  expr = expr b;
  unary = unary b;
  binary_rest = binary_rest b;
  operand = operand b;
  tail = tail b;
  called = called b;
  type = type_id b;
  core = core b;
  argument = argument b;
  clause_primary = clause_primary b;
  and_rest = and_rest b;
  conjunction = conjunction b;
  or_rest = or_rest b;
}

abbrev pub nothing_below : Bool → Below
nothing_below requires = record {
  requires = requires;
  expr = λ c n. closed;
  unary = λ c n. closed;
  binary_rest = λ level c e. closed;
  operand = λ level c n. closed;
  tail = λ calling c e. closed;
  called = λ c e. closed;
  type = λ c n. closed;
  core = λ c n. closed;
  argument = λ c n. closed;
  clause_primary = λ c n. closed;
  and_rest = λ c e. closed;
  conjunction = λ c n. closed;
  or_rest = λ c e. closed;
}

-- The parsers read no requires-expressions yet.
abbrev pub no_requires : Bool
no_requires = false

-- The productions whose constructs are nested so many levels deep at most, requires-expressions being read or not.
unfoldable pub levels : Bool → ℕ → Below
levels requires zero = nothing_below requires
levels requires (suc n) = above (levels requires n)
