use Rattle.std.proofs.Common.{sym, ◌∙◌}
use Rattle.cx_tokens.specs.declared.punctuator.Punctuator.TheVariants as punctuator
use Rattle.cx_syntax.specs.Classes.{punct}
use Rattle.cx_syntax.specs.declared.operators.BinaryOperator.TheVariants as binary
use Rattle.cx_productions.specs.Levels.{levels}
use Rattle.cx_productions.specs.Expressions.{chain_turn}
use Rattle.cx_productions.specs.Clauses.{clause_operator, clause_operand}
use Rattle.cx_production_laws.proofs.Turns.{takes_conjunction_turn}
use Rattle.cx_read_expr.specs.Parts.{chain_of}
use Rattle.cx_read_expr.proofs.Loops.{turned}
use Rattle.cx_read_expr.proofs.clauses.and_turns.Goals as goal

pub turns-smaller : goal.turns-smaller
turns-smaller c =
    (turned chain_of (λ x. punct punctuator.AmpersandAmpersand) (chain_turn (clause_operator punctuator.AmpersandAmpersand binary.And) (clause_operand (levels c.args.depth))) (takes_conjunction_turn c.args.depth punctuator.AmpersandAmpersand binary.And) c.turns.chain c.in_ok-chain.chain c.turns.cursor c.and_turn.new.cursor c.and_turn.result c.and_turn.ensures c.in_ok-chain.was (sym c.begins.ensures ∙ c.turns-test.true)).smaller

pub turns-preserved : goal.turns-preserved
turns-preserved c =
    (turned chain_of (λ x. punct punctuator.AmpersandAmpersand) (chain_turn (clause_operator punctuator.AmpersandAmpersand binary.And) (clause_operand (levels c.args.depth))) (takes_conjunction_turn c.args.depth punctuator.AmpersandAmpersand binary.And) c.turns.chain c.in_ok-chain.chain c.turns.cursor c.and_turn.new.cursor c.and_turn.result c.and_turn.ensures c.in_ok-chain.was (sym c.begins.ensures ∙ c.turns-test.true)).goes_on
    ∙ c.turns.invariant
