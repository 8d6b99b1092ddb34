-- Operators ([expr.unary.op] to [expr.ass]): which punctuator is which, and how tightly each binds.
use Rattle.std.specs.Prelude.{ℕ, Bool, true, false, ◌||◌, ◌&&◌, not, Option, Some, None, is_some, ◌==◌, if◌then◌else◌}
use Rattle.cx_tokens.specs.declared.punctuator.Punctuator.{Punctuator}
use Rattle.cx_tokens.specs.declared.punctuator.Punctuator.TheVariants as punctuator
use Rattle.cx_tokens.specs.declared.token.TokenKind.{TokenKind}
use Rattle.cx_tokens.specs.declared.token.TokenKind.TheVariants as kind
use Rattle.cx_tokens.specs.Pieces.{Piece, Half, All, First, Second, is_all}
use Rattle.cx_syntax.specs.declared.context.OpenLists.{OpenLists}
use Rattle.cx_syntax.specs.declared.operators.UnaryOperator.{UnaryOperator}
use Rattle.cx_syntax.specs.declared.operators.UnaryOperator.TheVariants as prefix'
use Rattle.cx_syntax.specs.declared.operators.PostfixOperator.{PostfixOperator}
use Rattle.cx_syntax.specs.declared.operators.PostfixOperator.TheVariants as postfix'
use Rattle.cx_syntax.specs.declared.operators.BinaryOperator.{BinaryOperator}
use Rattle.cx_syntax.specs.declared.operators.BinaryOperator.TheVariants as binary
use Rattle.cx_syntax.specs.declared.operators.AssignmentOperator.{AssignmentOperator}
use Rattle.cx_syntax.specs.declared.operators.AssignmentOperator.TheVariants as assign
use Rattle.cx_syntax.specs.Contexts.{is_listed}
use Rattle.cx_syntax.specs.Productions.{Class}

-- ---- levels

-- The levels of precedence, from the tightest to the loosest. An expression of a level is one of a tighter level, or is
-- made by an operator of that level.
abbrev pub unary_level : ℕ
unary_level = 0

abbrev pub multiplicative_level : ℕ
multiplicative_level = 1

abbrev pub additive_level : ℕ
additive_level = 2

abbrev pub shift_level : ℕ
shift_level = 3

abbrev pub relational_level : ℕ
relational_level = 4

abbrev pub equality_level : ℕ
equality_level = 5

abbrev pub and_level : ℕ
and_level = 6

abbrev pub exclusive_or_level : ℕ
exclusive_or_level = 7

abbrev pub inclusive_or_level : ℕ
inclusive_or_level = 8

abbrev pub logical_and_level : ℕ
logical_and_level = 9

abbrev pub logical_or_level : ℕ
logical_or_level = 10

-- conditionals and assignments: any expression
abbrev pub expression_level : ℕ
expression_level = 11

-- The level of a binary operator.
abbrev pub level_of : BinaryOperator → ℕ
level_of binary.Multiply = multiplicative_level
level_of binary.Divide = multiplicative_level
level_of binary.Remainder = multiplicative_level
level_of binary.Add = additive_level
level_of binary.Subtract = additive_level
level_of binary.ShiftLeft = shift_level
level_of binary.ShiftRight = shift_level
level_of binary.Less = relational_level
level_of binary.LessEqual = relational_level
level_of binary.Greater = relational_level
level_of binary.GreaterEqual = relational_level
level_of binary.Equal = equality_level
level_of binary.NotEqual = equality_level
level_of binary.BitAnd = and_level
level_of binary.BitXor = exclusive_or_level
level_of binary.BitOr = inclusive_or_level
level_of binary.And = logical_and_level
level_of binary.Or = logical_or_level

-- ---- binary operators

-- The binary operator that a punctuator is.
unfoldable pub binary_of : Punctuator → Option BinaryOperator
binary_of punctuator.Star = Some binary.Multiply
binary_of punctuator.Slash = Some binary.Divide
binary_of punctuator.Percent = Some binary.Remainder
binary_of punctuator.Plus = Some binary.Add
binary_of punctuator.Minus = Some binary.Subtract
binary_of punctuator.LessLess = Some binary.ShiftLeft
binary_of punctuator.GreaterGreater = Some binary.ShiftRight
binary_of punctuator.Less = Some binary.Less
binary_of punctuator.LessEqual = Some binary.LessEqual
binary_of punctuator.Greater = Some binary.Greater
binary_of punctuator.GreaterEqual = Some binary.GreaterEqual
binary_of punctuator.EqualEqual = Some binary.Equal
binary_of punctuator.ExclamationEqual = Some binary.NotEqual
binary_of punctuator.Ampersand = Some binary.BitAnd
binary_of punctuator.Caret = Some binary.BitXor
binary_of punctuator.Bar = Some binary.BitOr
binary_of punctuator.AmpersandAmpersand = Some binary.And
binary_of punctuator.BarBar = Some binary.Or
binary_of other = None

-- Within a list of template arguments `>` and `>>` are no operators ([temp.names]).
abbrev pub closes_list : Punctuator → Bool
closes_list punctuator.Greater = true
closes_list punctuator.GreaterGreater = true
closes_list other = false

abbrev pub binary_within : OpenLists → Punctuator → Option BinaryOperator
binary_within lists p = if is_listed lists && closes_list p then None else binary_of p

abbrev pub operator_of_kind : OpenLists → TokenKind → Option BinaryOperator
operator_of_kind lists (kind.Punct p) = binary_within lists p
operator_of_kind lists other = None

-- The operator that a piece is, or begins.
abbrev pub operator_of_half : OpenLists → TokenKind → Half → Option BinaryOperator
operator_of_half lists k Second = None
operator_of_half lists k half = operator_of_kind lists k

unfoldable pub operator_of : OpenLists → Piece → Option BinaryOperator
operator_of lists p = operator_of_half lists p.token.kind p.half

abbrev pub has_level : ℕ → Option BinaryOperator → Bool
has_level level None = false
has_level level (Some o) = level_of o == level

-- A piece that is, or begins, an operator of a level.
unfoldable pub operator : ℕ → OpenLists → Class
operator level lists names p = has_level level (operator_of lists p)

-- ---- prefix and postfix operators, assignments

unfoldable pub unary_of : TokenKind → Option UnaryOperator
unary_of (kind.Punct punctuator.Plus) = Some prefix'.Plus
unary_of (kind.Punct punctuator.Minus) = Some prefix'.Minus
unary_of (kind.Punct punctuator.Exclamation) = Some prefix'.Not
unary_of (kind.Punct punctuator.Tilde) = Some prefix'.Complement
unary_of (kind.Punct punctuator.PlusPlus) = Some prefix'.Increment
unary_of (kind.Punct punctuator.MinusMinus) = Some prefix'.Decrement
unary_of other = None

unfoldable pub postfix_of : TokenKind → Option PostfixOperator
postfix_of (kind.Punct punctuator.PlusPlus) = Some postfix'.Increment
postfix_of (kind.Punct punctuator.MinusMinus) = Some postfix'.Decrement
postfix_of other = None

unfoldable pub assignment_of : TokenKind → Option AssignmentOperator
assignment_of (kind.Punct punctuator.Equal) = Some assign.Assign
assignment_of (kind.Punct punctuator.PlusEqual) = Some assign.Add
assignment_of (kind.Punct punctuator.MinusEqual) = Some assign.Subtract
assignment_of (kind.Punct punctuator.StarEqual) = Some assign.Multiply
assignment_of (kind.Punct punctuator.SlashEqual) = Some assign.Divide
assignment_of (kind.Punct punctuator.PercentEqual) = Some assign.Remainder
assignment_of (kind.Punct punctuator.CaretEqual) = Some assign.BitXor
assignment_of (kind.Punct punctuator.AmpersandEqual) = Some assign.BitAnd
assignment_of (kind.Punct punctuator.BarEqual) = Some assign.BitOr
assignment_of (kind.Punct punctuator.LessLessEqual) = Some assign.ShiftLeft
assignment_of (kind.Punct punctuator.GreaterGreaterEqual) = Some assign.ShiftRight
assignment_of other = None

unfoldable pub prefix_operator : Class
prefix_operator names p = is_some (unary_of p.token.kind)

unfoldable pub postfix_operator : Class
postfix_operator names p = is_some (postfix_of p.token.kind)

-- An assignment operator; within a list of template arguments none is.
unfoldable pub assignment_operator : OpenLists → Class
assignment_operator lists names p = not (is_listed lists) && is_some (assignment_of p.token.kind)
