use Rattle.cx_grammar.proofs.PrintedPostfix.{postfix_printed}
use Rattle.cx_grammar.proofs.text.postfixes_as_printed.Goals as goal

pub returns : goal.returns
returns c = record { printed = λ requires c' n depth. postfix_printed requires depth c' n }
