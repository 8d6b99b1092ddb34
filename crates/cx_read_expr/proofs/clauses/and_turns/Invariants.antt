use Rattle.std.proofs.Common.{◌≡◌, length}
use Rattle.cx_tokens.specs.declared.punctuator.Punctuator.TheVariants as punctuator
use Rattle.cx_syntax.specs.Classes.{punct}
use Rattle.cx_syntax.specs.declared.operators.BinaryOperator.TheVariants as binary
use Rattle.cx_productions.specs.Levels.{levels}
use Rattle.cx_productions.specs.Expressions.{chain_turn}
use Rattle.cx_productions.specs.Clauses.{clause_operator, clause_operand}
use Rattle.cx_syntax.specs.Productions.{repeat}
use Rattle.cx_read_expr.specs.Parts.{chain_of}
use Rattle.cx_read_expr.proofs.clauses.and_turns.Given as goal

-- what is left to read is what was to be read
abbrev pub invariant-turns : goal.invariant-turns
invariant-turns l =
    (repeat (λ x. punct punctuator.AmpersandAmpersand) (chain_turn (clause_operator punctuator.AmpersandAmpersand binary.And) (clause_operand (levels l.depth))) (chain_of l.chain)).read l.cursor
    ≡ (repeat (λ x. punct punctuator.AmpersandAmpersand) (chain_turn (clause_operator punctuator.AmpersandAmpersand binary.And) (clause_operand (levels l.depth))) (chain_of l.fn.so_far)).read l.fn.cursor

abbrev pub decreases-turns : goal.decreases-turns
decreases-turns l = length l.cursor.left
