use Rattle.cx_lexer.specs.Tokens.{token_tree}
use Rattle.cx_lexer.specs.Reading.{fault_at}
use Rattle.cx_lexer.proofs.Steps.{next_ok, next_err}
use Rattle.cx_lexer.proofs.cursor.Cursor.next.Goals as goal

pub returns-in-Ok-clause-step : goal.returns-in-Ok-clause-step
returns-in-Ok-clause-step c = next_ok c.args.self.now.src.now c.skip.new.self.src.now c.args.self.now.from c.skip.new.self.from c.read.new.self.from (token_tree c.in-Ok.token) c.skip.ensures.at c.skip.ensures.src c.in-Ok.ensures.step

pub returns-in-Err-clause-step : goal.returns-in-Err-clause-step
returns-in-Err-clause-step c = next_err c.args.self.now.src.now c.skip.new.self.src.now c.args.self.now.from c.skip.new.self.from (fault_at c.in-Err.kind c.skip.new.self.at) c.skip.ensures.at c.skip.ensures.src c.in-Err.ensures.step
