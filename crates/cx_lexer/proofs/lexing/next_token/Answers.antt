use Rattle.std.proofs.Common.{Err, sym, subst}
use Rattle.cx_base.specs.Refusal.{Refusal}
use Rattle.cx_lexer.specs.Division.{ComesFrom}
use Rattle.cx_lexer.specs.Reading.{fault_at}
use Rattle.cx_lexer.specs.Tokens.{token_tree}
use Rattle.cx_lexer.proofs.OneDivision.{next_token, next_fault}
use Rattle.cx_lexer.proofs.lexing.next_token.Goals as goal

pub returns-in-Ok-clause-divides : goal.returns-in-Ok-clause-divides
returns-in-Ok-clause-divides c = next_token c.args.src.now c.args.from c.next.new.self.from (token_tree c.in-Ok.token) c.in-Ok.ensures.step

pub returns-in-Err-clause-divides : goal.returns-in-Err-clause-divides
returns-in-Err-clause-divides c =
    subst (λ (r : Refusal). ComesFrom c.args.src.now c.args.from (Err r)) (sym c.fault.ensures) (next_fault c.args.src.now c.args.from (fault_at c.in-Err.kind c.in-Err.at) c.in-Err.ensures.step)
