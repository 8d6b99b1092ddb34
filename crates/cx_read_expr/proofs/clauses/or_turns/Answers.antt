use Rattle.std.proofs.Common.{sym, ◌∙◌}
use Rattle.cx_tokens.specs.declared.punctuator.Punctuator.TheVariants as punctuator
use Rattle.cx_syntax.specs.Classes.{punct}
use Rattle.cx_syntax.specs.declared.operators.BinaryOperator.TheVariants as binary
use Rattle.cx_productions.specs.Levels.{levels}
use Rattle.cx_productions.specs.Expressions.{chain_turn}
use Rattle.cx_productions.specs.Clauses.{clause_operator, conjunction}
use Rattle.cx_production_laws.proofs.Turns.{takes_clause_turn}
use Rattle.cx_read_expr.specs.Parts.{chain_of}
use Rattle.cx_read_expr.proofs.Loops.{turned}
use Rattle.cx_read_expr.proofs.clauses.or_turns.Goals as goal

pub turns-smaller : goal.turns-smaller
turns-smaller c =
    (turned chain_of (λ x. punct punctuator.BarBar) (chain_turn (clause_operator punctuator.BarBar binary.Or) (conjunction (levels c.args.depth))) (takes_clause_turn c.args.depth punctuator.BarBar binary.Or) c.turns.chain c.in_ok-chain.chain c.turns.cursor c.or_turn.new.cursor c.or_turn.result c.or_turn.ensures c.in_ok-chain.was (sym c.begins.ensures ∙ c.turns-test.true)).smaller

pub turns-preserved : goal.turns-preserved
turns-preserved c =
    (turned chain_of (λ x. punct punctuator.BarBar) (chain_turn (clause_operator punctuator.BarBar binary.Or) (conjunction (levels c.args.depth))) (takes_clause_turn c.args.depth punctuator.BarBar binary.Or) c.turns.chain c.in_ok-chain.chain c.turns.cursor c.or_turn.new.cursor c.or_turn.result c.or_turn.ensures c.in_ok-chain.was (sym c.begins.ensures ∙ c.turns-test.true)).goes_on
    ∙ c.turns.invariant
