-- A reading by a parser answers the question that asks for it.
use Rattle.std.proofs.Common.{◌≡◌, ℕ, ◌<◌, Result, ap}
use Rattle.cx_base.specs.declared.stop.Stop.{Stop}
use Rattle.cx_tree.specs.declared.expression.Expr.{Expr}
use Rattle.cx_tree.specs.declared.expression.TemplateArgument.{TemplateArgument}
use Rattle.cx_tree.specs.declared.types.TypeSyn.{TypeSyn}
use Rattle.cx_tree.specs.Trees.{expr_tree, type_tree, argument_tree}
use Rattle.cx_grammar.specs.Types.{Below}
use Rattle.cx_grammar.specs.Types as types
use Rattle.cx_grammar.specs.Expressions as expressions
use Rattle.cx_spots.specs.declared.context.Context.{Context}
use Rattle.cx_spots.specs.declared.spot.Cored.{Cored}
use Rattle.cx_spots.specs.declared.spot.Spot.{Spot}
use Rattle.cx_spots.specs.Spots.{ReadsNode, Lightens, context_of, at, below}
use Rattle.cx_spots.specs.Views.{placed_core}
use Rattle.cx_parse_expr.specs.declared.ask.Question.TheVariants as question
use Rattle.cx_parse_expr.specs.declared.ask.Reply.{Reply}
use Rattle.cx_parse_expr.specs.declared.ask.Reply.TheVariants as reply
use Rattle.cx_parse_expr.specs.declared.primary.Calling.{Calling}
use Rattle.cx_parse_expr.specs.Asks.{Answers, expr_reply, type_reply, core_reply, argument_reply}
use Rattle.cx_parse_expr.specs.Views.{calling_of}
use Rattle.cx_parse_expr.proofs.Asked.{answered}
use Rattle.cx_parse_expr.proofs.Knot.{knot}

pub answers_expr : (c : Context) (s : Spot) (r : Result (Reply × Spot) Stop) (y : Result (Expr × Spot) Stop)
    → c.load < 264 → r ≡ expr_reply y → ReadsNode expr_tree (expressions.expr (below (context_of c)) (context_of c)) s y → Lightens 4 s y → Answers question.Expr c s r
unfolding Answers
answers_expr c s r y room is reads lightens = answered reply.Expr expr_tree 4 (expressions.expr (below (context_of c)) (context_of c)) ((at (context_of c)).expr (context_of c)) s r y (ap (λ (b : Below). (b.expr (context_of c))) (knot (context_of c) room)) is reads lightens

pub answers_unary : (c : Context) (s : Spot) (r : Result (Reply × Spot) Stop) (y : Result (Expr × Spot) Stop)
    → c.load < 264 → r ≡ expr_reply y → ReadsNode expr_tree (expressions.unary (below (context_of c)) (context_of c)) s y → Lightens 4 s y → Answers question.Unary c s r
unfolding Answers
answers_unary c s r y room is reads lightens = answered reply.Expr expr_tree 4 (expressions.unary (below (context_of c)) (context_of c)) ((at (context_of c)).unary (context_of c)) s r y (ap (λ (b : Below). (b.unary (context_of c))) (knot (context_of c) room)) is reads lightens

pub answers_binary_rest : (level : ℕ) (left : Expr) (c : Context) (s : Spot) (r : Result (Reply × Spot) Stop) (y : Result (Expr × Spot) Stop)
    → c.load < 264 → r ≡ expr_reply y → ReadsNode expr_tree (λ n. expressions.binary_rest (below (context_of c)) level (context_of c) (expr_tree left, n)) s y → Lightens 0 s y → Answers (question.BinaryRest level left) c s r
unfolding Answers
answers_binary_rest level left c s r y room is reads lightens = answered reply.Expr expr_tree 0 (λ n. expressions.binary_rest (below (context_of c)) level (context_of c) (expr_tree left, n)) (λ n. (at (context_of c)).binary_rest level (context_of c) (expr_tree left, n)) s r y (ap (λ (b : Below). (λ (n : ℕ). b.binary_rest level (context_of c) (expr_tree left, n))) (knot (context_of c) room)) is reads lightens

pub answers_operand : (level : ℕ) (c : Context) (s : Spot) (r : Result (Reply × Spot) Stop) (y : Result (Expr × Spot) Stop)
    → c.load < 264 → r ≡ expr_reply y → ReadsNode expr_tree (expressions.operand (below (context_of c)) level (context_of c)) s y → Lightens 4 s y → Answers (question.Operand level) c s r
unfolding Answers
answers_operand level c s r y room is reads lightens = answered reply.Expr expr_tree 4 (expressions.operand (below (context_of c)) level (context_of c)) ((at (context_of c)).operand level (context_of c)) s r y (ap (λ (b : Below). (b.operand level (context_of c))) (knot (context_of c) room)) is reads lightens

pub answers_tail : (calling : Calling) (operand : Expr) (c : Context) (s : Spot) (r : Result (Reply × Spot) Stop) (y : Result (Expr × Spot) Stop)
    → c.load < 264 → r ≡ expr_reply y → ReadsNode expr_tree (λ n. expressions.tail (below (context_of c)) (calling_of calling) (context_of c) (expr_tree operand, n)) s y → Lightens 0 s y → Answers (question.Tail calling operand) c s r
unfolding Answers
answers_tail calling operand c s r y room is reads lightens = answered reply.Expr expr_tree 0 (λ n. expressions.tail (below (context_of c)) (calling_of calling) (context_of c) (expr_tree operand, n)) (λ n. (at (context_of c)).tail (calling_of calling) (context_of c) (expr_tree operand, n)) s r y (ap (λ (b : Below). (λ (n : ℕ). b.tail (calling_of calling) (context_of c) (expr_tree operand, n))) (knot (context_of c) room)) is reads lightens

pub answers_called : (operand : Expr) (c : Context) (s : Spot) (r : Result (Reply × Spot) Stop) (y : Result (Expr × Spot) Stop)
    → c.load < 264 → r ≡ expr_reply y → ReadsNode expr_tree (λ n. expressions.called (below (context_of c)) (context_of c) (expr_tree operand, n)) s y → Lightens 0 s y → Answers (question.Called operand) c s r
unfolding Answers
answers_called operand c s r y room is reads lightens = answered reply.Expr expr_tree 0 (λ n. expressions.called (below (context_of c)) (context_of c) (expr_tree operand, n)) (λ n. (at (context_of c)).called (context_of c) (expr_tree operand, n)) s r y (ap (λ (b : Below). (λ (n : ℕ). b.called (context_of c) (expr_tree operand, n))) (knot (context_of c) room)) is reads lightens

pub answers_type : (c : Context) (s : Spot) (r : Result (Reply × Spot) Stop) (y : Result (TypeSyn × Spot) Stop)
    → c.load < 264 → r ≡ type_reply y → ReadsNode type_tree (types.type_id (below (context_of c)) (context_of c)) s y → Lightens 4 s y → Answers question.Type c s r
unfolding Answers
answers_type c s r y room is reads lightens = answered reply.Type type_tree 4 (types.type_id (below (context_of c)) (context_of c)) ((at (context_of c)).type (context_of c)) s r y (ap (λ (b : Below). (b.type (context_of c))) (knot (context_of c) room)) is reads lightens

pub answers_core : (c : Context) (s : Spot) (r : Result (Reply × Spot) Stop) (y : Result (Cored × Spot) Stop)
    → c.load < 264 → r ≡ core_reply y → ReadsNode placed_core (types.core (below (context_of c)) (context_of c)) s y → Lightens 8 s y → Answers question.Core c s r
unfolding Answers
answers_core c s r y room is reads lightens = answered reply.Core placed_core 8 (types.core (below (context_of c)) (context_of c)) ((at (context_of c)).core (context_of c)) s r y (ap (λ (b : Below). (b.core (context_of c))) (knot (context_of c) room)) is reads lightens

pub answers_argument : (c : Context) (s : Spot) (r : Result (Reply × Spot) Stop) (y : Result (TemplateArgument × Spot) Stop)
    → c.load < 264 → r ≡ argument_reply y → ReadsNode argument_tree (expressions.argument (below (context_of c)) (context_of c)) s y → Lightens 4 s y → Answers question.Argument c s r
unfolding Answers
answers_argument c s r y room is reads lightens = answered reply.Argument argument_tree 4 (expressions.argument (below (context_of c)) (context_of c)) ((at (context_of c)).argument (context_of c)) s r y (ap (λ (b : Below). (b.argument (context_of c))) (knot (context_of c) room)) is reads lightens

pub ruleset answering = (answers_expr, answers_unary, answers_binary_rest, answers_operand, answers_tail, answers_called, answers_type, answers_core, answers_argument)
