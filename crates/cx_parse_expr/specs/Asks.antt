-- What a production asks of those that stand one construct deeper, and what it is answered.
use Rattle.std.specs.Prelude.{◌≡◌, ℕ, ◌+◌, ◌<◌, ◌≤◌, ◌^◌, Result, Ok, Err}
use Rattle.cx_base.specs.declared.stop.Stop.{Stop}
use Rattle.cx_tree.specs.declared.expression.Expr.{Expr}
use Rattle.cx_tree.specs.declared.expression.TemplateArgument.{TemplateArgument}
use Rattle.cx_tree.specs.declared.types.TypeSyn.{TypeSyn}
use Rattle.cx_tree.specs.Trees.{expr_tree, type_tree, argument_tree}
use Rattle.cx_grammar.specs.Production.{Production}
use Rattle.cx_grammar.specs.Types.{Numbered}
use Rattle.cx_parse_expr.specs.declared.ask.Asked.{Asked}
use Rattle.cx_parse_expr.specs.declared.ask.Question.{Question}
use Rattle.cx_parse_expr.specs.declared.ask.Question.TheVariants as question
use Rattle.cx_parse_expr.specs.declared.ask.Reply.{Reply}
use Rattle.cx_parse_expr.specs.declared.ask.Reply.TheVariants as reply
use Rattle.cx_spots.specs.declared.context.Context.{Context}
use Rattle.cx_spots.specs.declared.spot.Cored.{Cored}
use Rattle.cx_spots.specs.declared.spot.Spot.{Spot}
use Rattle.cx_spots.specs.Spots.{ReadsNode, Lightens, weight, context_of, at}
use Rattle.cx_parse_expr.specs.Views.{calling_of}
use Rattle.cx_spots.specs.Views.{placed_core}

-- ---- a reading of a part, as a reply

abbrev pub replied : {X : Type 0} → (X → Reply) → Result (X × Spot) Stop → Result (Reply × Spot) Stop
replied tag (Ok x) = Ok (tag x.0, x.1)
replied tag (Err e) = Err e

abbrev pub expr_reply : Result (Expr × Spot) Stop → Result (Reply × Spot) Stop
expr_reply r = replied reply.Expr r

abbrev pub type_reply : Result (TypeSyn × Spot) Stop → Result (Reply × Spot) Stop
type_reply r = replied reply.Type r

abbrev pub core_reply : Result (Cored × Spot) Stop → Result (Reply × Spot) Stop
core_reply r = replied reply.Core r

abbrev pub argument_reply : Result (TemplateArgument × Spot) Stop → Result (Reply × Spot) Stop
argument_reply r = replied reply.Argument r

-- ---- answers

-- The reply is what a production gives, as a reply.
abbrev pub Replies : {X A : Type 0} → (X → Reply) → (X → A) → ℕ → (ℕ → Production (Numbered A)) → Spot → Result (Reply × Spot) Stop → Type 0
Replies tag view by p s r = (x : Result (_ × Spot) Stop) × (r ≡ replied tag x) × ReadsNode view p s x × Lightens by s x

-- Whether a reply is what a question asks for in a context.
unfoldable pub Answers : Question → Context → Spot → Result (Reply × Spot) Stop → Type 0
Answers question.Expr c s r = Replies reply.Expr expr_tree 4 ((at (context_of c)).expr (context_of c)) s r
Answers question.Unary c s r = Replies reply.Expr expr_tree 4 ((at (context_of c)).unary (context_of c)) s r
Answers (question.BinaryRest level left) c s r = Replies reply.Expr expr_tree 0 (λ n. (at (context_of c)).binary_rest level (context_of c) (expr_tree left, n)) s r
Answers (question.Operand level) c s r = Replies reply.Expr expr_tree 4 ((at (context_of c)).operand level (context_of c)) s r
Answers (question.Tail calling operand) c s r = Replies reply.Expr expr_tree 0 (λ n. (at (context_of c)).tail (calling_of calling) (context_of c) (expr_tree operand, n)) s r
Answers (question.Called operand) c s r = Replies reply.Expr expr_tree 0 (λ n. (at (context_of c)).called (context_of c) (expr_tree operand, n)) s r
Answers question.Type c s r = Replies reply.Type type_tree 4 ((at (context_of c)).type (context_of c)) s r
Answers question.Core c s r = Replies reply.Core placed_core 8 ((at (context_of c)).core (context_of c)) s r
Answers question.Argument c s r = Replies reply.Argument argument_tree 4 ((at (context_of c)).argument (context_of c)) s r

-- the greatest load at which a question may be asked: what is behind the `(` of a call stands within the construct of
-- that token, and a core begins with a token
abbrev pub deepest : Question → ℕ
deepest (question.Called operand) = 256
deepest question.Core = 258
deepest other = 257

-- A call that may be asked at a load, and answers.
pub record Asks (pre : Asked → Type 0) (post : Asked → Result (Reply × Spot) Stop → Type 0) (load : ℕ) : Type 0 where
  pub may : (a : Asked) → a.context.load ≡ load → a.context.load ≤ deepest a.question → weight a.spot < 2 ^ 32 → pre a
  pub law : (a : Asked) (r : Result (Reply × Spot) Stop) → a.context.load ≡ load → a.context.load ≤ deepest a.question → weight a.spot < 2 ^ 32 → post a r → Answers a.question a.context a.spot r
