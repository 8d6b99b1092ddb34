-- Expressions ([expr]): postfix and unary operators, binary operators, conditionals and assignments.
use Rattle.std.specs.Prelude.{ℕ, zero, suc, Bool, true, false, nat_le, Option, Some, None}
use Rattle.cx_tokens.specs.declared.punctuator.Punctuator.TheVariants as punctuator
use Rattle.cx_tokens.specs.Pieces.{Piece, is_first}
use Rattle.cx_syntax.specs.declared.context.Context.{Context}
use Rattle.cx_syntax.specs.declared.operators.UnaryOperator.{UnaryOperator}
use Rattle.cx_syntax.specs.declared.operators.UnaryOperator.TheVariants as prefix'
use Rattle.cx_syntax.specs.declared.operators.PostfixOperator.{PostfixOperator}
use Rattle.cx_syntax.specs.declared.operators.PostfixOperator.TheVariants as postfix'
use Rattle.cx_syntax.specs.declared.operators.BinaryOperator.{BinaryOperator}
use Rattle.cx_syntax.specs.declared.operators.BinaryOperator.TheVariants as binary
use Rattle.cx_syntax.specs.declared.operators.AssignmentOperator.{AssignmentOperator}
use Rattle.cx_syntax.specs.declared.operators.AssignmentOperator.TheVariants as assign
use Rattle.cx_syntax.specs.Contexts.{deeper}
use Rattle.cx_syntax.specs.Productions.{Production, Class, give, ◌>>=◌, token, when, given, repeat}
use Rattle.cx_syntax.specs.Combinators.{node, in_parentheses}
use Rattle.cx_syntax.specs.Classes.{punct, any_name, second_half, ◌or◌, where_holds}
use Rattle.cx_syntax.specs.Precedence.{expression_level, logical_or_level, unary_level, operator, operator_of, prefix_operator, unary_of, postfix_operator, postfix_of, assignment_operator, assignment_of}
use Rattle.cx_productions.specs.declared.calling.Calling.{Calling}
use Rattle.cx_productions.specs.declared.calling.Calling.TheVariants as calling
use Rattle.cx_productions.specs.Trees.{mark, ExprTree, MemberTree, CallTree, PostfixTree, UnaryTree, BinaryTree, ConditionalTree, AssignmentTree, exprs, place_of}
use Rattle.cx_productions.specs.Below.{Below}
use Rattle.cx_productions.specs.Primaries.{Operand, expr_list, primary}

-- ---- postfix expressions ([expr.post])
--
--     postfix = primary { "." Name | "(" [ exprs ] ")" | "++" | "--" }
--
-- A call follows only a name, a name with arguments and a member; it must follow the name of a function template with
-- arguments. Each operator is a construct from the token after it to the end of the chain; a call from after its `)`.

-- A chain so far, whether a call may follow, and where its next operator stands.
pub record Postfix : Type 0 where
  pub tree : ExprTree
  pub calling : Calling
  pub within : Context

abbrev pub may_call : Calling → Bool
may_call calling.Never = false
may_call other = true

abbrev pub must_call : Calling → Bool
must_call calling.Must = true
must_call other = false

abbrev pub operator_or_increment : Option PostfixOperator → PostfixOperator
operator_or_increment None = postfix'.Increment
operator_or_increment (Some o) = o

-- "." Name
unfoldable pub member_access : Postfix → Production Postfix
member_access x = do
  dot ← token x.within (punct punctuator.Dot)
  name ← token (deeper x.within) any_name
  n ← node
  give (record { tree = MemberTree (mark n (place_of x.tree)) x.tree name.token.text; calling = calling.May; within = deeper x.within })

-- "(" [ exprs ] ")"
unfoldable pub call : Below → Postfix → Production Postfix
call b x = do
  args ← in_parentheses x.within (expr_list (punct punctuator.RightParenthesis) b)
  n ← node
  give (record { tree = CallTree (mark n (place_of x.tree)) x.tree (exprs args.item); calling = calling.Never; within = deeper x.within })

-- "++" | "--"
unfoldable pub postfix_step : Postfix → Production Postfix
postfix_step x = do
  t ← token x.within postfix_operator
  n ← node
  give (record { tree = PostfixTree (mark n (place_of x.tree)) (operator_or_increment (postfix_of t.token.kind)) x.tree; calling = calling.Never; within = deeper x.within })

-- what goes on with a chain
abbrev pub opens_call : Postfix → Class
opens_call x = where_holds (may_call x.calling) (punct punctuator.LeftParenthesis)

abbrev pub continues_postfix : Postfix → Class
continues_postfix x = opens_call x or punct punctuator.Dot or postfix_operator

unfoldable pub postfix_turn : Below → Postfix → Production Postfix
postfix_turn b x = when (opens_call x) (call b x) (when (punct punctuator.Dot) (member_access x) (postfix_step x))

-- a call, where one must follow
unfoldable pub needed_call : Below → Postfix → Production Postfix
needed_call b x = given (must_call x.calling) (call b x) (give x)

abbrev pub postfix_chain : Below → Postfix → Production Postfix
postfix_chain b x = repeat continues_postfix (postfix_turn b) x

-- the operators after an operand
unfoldable pub postfix_after : Below → Context → Operand → Production ExprTree
postfix_after b c operand = do
  first ← needed_call b (record { tree = operand.tree; calling = operand.calling; within = c })
  x ← postfix_chain b first
  give x.tree

unfoldable pub postfix : Below → Context → Production ExprTree
postfix b c = do
  operand ← primary b c
  postfix_after b c operand

-- ---- unary expressions ([expr.unary])

abbrev pub operator_or_plus : Option UnaryOperator → UnaryOperator
operator_or_plus None = prefix'.Plus
operator_or_plus (Some o) = o

-- ( "+" | "-" | "!" | "~" | "++" | "--" ) unary
unfoldable pub prefixed : Below → Context → Production ExprTree
prefixed b c = do
  t ← token (deeper c) prefix_operator
  e ← b.expr unary_level (deeper c)
  n ← node
  give (UnaryTree (mark n t.token.at) (operator_or_plus (unary_of t.token.kind)) e)

-- unary = ( "+" | "-" | "!" | "~" | "++" | "--" ) unary | postfix
unfoldable pub unary : Below → Context → Production ExprTree
unary b c = when prefix_operator (prefixed b c) (postfix b c)

-- ---- binary expressions ([expr.mul] to [expr.log.or])
--
--     multiplicative = unary { ( "*" | "/" | "%" ) unary }
--     additive       = multiplicative { ( "+" | "-" ) multiplicative }
--     ..
--     logical or     = logical and { "||" logical and }
--
-- The operators of a level group from the left. Each is a construct from the token after it to the end of their chain.

-- A chain so far, and where its next operator stands.
pub record Chain : Type 0 where
  pub tree : ExprTree
  pub within : Context

-- an operator, an operand, a chain of them after a first operand
unfoldable pub chain_turn : (sign : Context → Production BinaryOperator) → (operand : Context → Production ExprTree) → Chain → Production Chain
chain_turn sign operand x = do
  o ← sign x.within
  right ← operand (deeper x.within)
  n ← node
  give (record { tree = BinaryTree (mark n (place_of x.tree)) o x.tree right; within = deeper x.within })

abbrev pub chain_from : (Context → Class) → (sign : Context → Production BinaryOperator) → (operand : Context → Production ExprTree) → Context → ExprTree → Production ExprTree
chain_from q sign operand c first = do
  x ← repeat (λ x. q x.within) (chain_turn sign operand) (record { tree = first; within = c })
  give x.tree

abbrev pub operator_or_add : Option BinaryOperator → BinaryOperator
operator_or_add None = binary.Add
operator_or_add (Some o) = o

-- an operator of a level: `>>` is two pieces
unfoldable pub binary_operator : ℕ → Context → Production BinaryOperator
binary_operator level c = do
  t ← token c (operator level c.lists)
  given (is_first t.half)
      (do
        second ← token c second_half
        give (operator_or_add (operator_of c.lists t)))
      (give (operator_or_add (operator_of c.lists t)))

-- the operators of a level after an operand of the next tighter one, with their operands
unfoldable pub binary_chain : Below → ℕ → Context → ExprTree → Production ExprTree
binary_chain b level c left = chain_from (λ c. operator (suc level) c.lists) (binary_operator (suc level)) (b.expr level) c left

-- ... and before them those of the tighter levels, after a unary expression
unfoldable pub binary_after : Below → ℕ → Context → ExprTree → Production ExprTree
binary_after b zero c e = give e
binary_after b (suc level) c e = do
  left ← binary_after b level c e
  binary_chain b level c left

-- ---- conditionals and assignments ([expr.cond], [expr.ass])

-- "?" expr ":" expr
unfoldable pub conditional : Below → Context → ExprTree → Production ExprTree
conditional b c condition = do
  question ← token c (punct punctuator.Question)
  chosen ← b.expr expression_level (deeper c)
  colon ← token (deeper c) (punct punctuator.Colon)
  otherwise ← b.expr expression_level (deeper c)
  n ← node
  give (ConditionalTree (mark n (place_of condition)) condition chosen otherwise)

abbrev pub operator_or_assign : Option AssignmentOperator → AssignmentOperator
operator_or_assign None = assign.Assign
operator_or_assign (Some o) = o

-- assign expr
unfoldable pub assignment : Below → Context → ExprTree → Production ExprTree
assignment b c target = do
  t ← token c (assignment_operator c.lists)
  value ← b.expr expression_level (deeper c)
  n ← node
  give (AssignmentTree (mark n (place_of target)) (operator_or_assign (assignment_of t.token.kind)) target value)

-- [ "?" expr ":" expr | assign expr ], after a binary expression
unfoldable pub choice_after : Below → Context → ExprTree → Production ExprTree
choice_after b c left =
    when (punct punctuator.Question) (conditional b c left)
    (when (assignment_operator c.lists) (assignment b c left) (give left))

-- ---- expressions

-- what makes an expression of a unary one
unfoldable pub expr_after : Below → Context → ExprTree → Production ExprTree
expr_after b c e = do
  left ← binary_after b logical_or_level c e
  choice_after b c left

-- expr = binary [ "?" expr ":" expr | assign expr ]
--
-- Within a list of template arguments it has no assignment, and `>` and `>>` are no operators. An expression of a
-- tighter level has no operators of looser ones.
unfoldable pub expr : Below → ℕ → Context → Production ExprTree
expr b level c = do
  e ← unary b c
  given (nat_le expression_level level) (expr_after b c e) (binary_after b level c e)

-- an expression whose first operand is read
unfoldable pub expr_of : Below → Context → Operand → Production ExprTree
expr_of b c operand = do
  e ← postfix_after b c operand
  expr_after b c e
