use Rattle.cx_grammar_laws.proofs.NodeLaws.{decl_numbers}
use Rattle.cx_grammar_laws.proofs.numbers.numbers_of_declarations.Goals as goal

pub returns : goal.returns
returns c = record { numbers = decl_numbers }
