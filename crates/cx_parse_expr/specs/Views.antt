-- What the parsers' answers stand for.
use Rattle.std.specs.Prelude.{◌≡◌, ℕ, List, map, Result, Ok, Err}
use Rattle.std.specs.Borrow.{Bor}
use Rattle.std.specs.declared.vec.Vec.{Vec}
use Rattle.cx_base.specs.declared.stop.Stop.{Stop}
use Rattle.cx_tree.specs.declared.expression.Expr.{Expr}
use Rattle.cx_tree.specs.declared.expression.TemplateArgument.{TemplateArgument}
use Rattle.cx_tree.specs.Trees.{ExprTree, ArgumentTree, expr_tree, argument_tree, texts}
use Rattle.cx_grammar.specs.Production.{Production, Gives}
use Rattle.cx_grammar.specs.Types as types
use Rattle.cx_grammar.specs.Types.{Numbered}
use Rattle.cx_parse_expr.specs.declared.primary.Calling.{Calling}
use Rattle.cx_parse_expr.specs.declared.primary.Calling.TheVariants as calling
use Rattle.cx_parse_expr.specs.declared.primary.Operand.{Operand}
use Rattle.cx_spots.specs.declared.spot.Spot.{Spot}
use Rattle.cx_spots.specs.Spots.{left_at}

abbrev pub calling_of : Calling → types.Calling
calling_of calling.No = types.NoCall
calling_of calling.May = types.MayCall
calling_of calling.Must = types.MustCall

-- What a call read from a spot on is what a production's reader gives, which says how a call may follow.
abbrev pub ReadsOperand : (ℕ → Production (Numbered ExprTree × types.Calling)) → Spot → Result (Operand × Spot) Stop → Type 0
ReadsOperand p s r = Gives (λ x. (((expr_tree x.0.expr, x.1.next), calling_of x.0.calling), left_at x.1)) r ((p s.next).read 256 (left_at s))

-- an expression that was read, with how a call may follow it
abbrev pub as_operand : Calling → Result (Expr × Spot) Stop → Result (Operand × Spot) Stop
as_operand c (Ok x) = Ok (record { expr = x.0; calling = c }, x.1)
as_operand c (Err e) = Err e
