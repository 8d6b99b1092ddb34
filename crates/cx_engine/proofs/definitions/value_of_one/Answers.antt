use Rattle.std.proofs.Common.{sym, arith}
use Rattle.cx_engine.proofs.FormsLemmas.{no_value_of_more}
use Rattle.cx_engine.proofs.definitions.value_of_one.Goals as goal

pub returns-in-len2-up : goal.returns-in-len2-up
returns-in-len2-up c = sym (no_value_of_more c.args.statements.now (omega (arith, c.in-len2-up.len_at_least)))
