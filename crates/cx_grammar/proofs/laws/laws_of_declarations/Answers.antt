use Rattle.cx_grammar.proofs.GrammarLaws.{decl_laws, decl_tokens}
use Rattle.cx_grammar.proofs.laws.laws_of_declarations.Goals as goal

pub returns : goal.returns
returns c = record { laws = decl_laws; tokens = decl_tokens }
