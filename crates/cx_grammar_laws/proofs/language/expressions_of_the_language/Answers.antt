use Rattle.cx_grammar_laws.proofs.IncludedTypes.{type_id-Included}
use Rattle.cx_grammar_laws.proofs.IncludedExpressions.{levels-Included, expr-Included, clause-Included}
use Rattle.cx_grammar_laws.proofs.Parts.{part_of}
use Rattle.cx_grammar_laws.proofs.language.expressions_of_the_language.Goals as goal

pub returns : goal.returns
returns c = record {
  expressions = λ k n. part_of _ _ (λ level. expr-Included (levels-Included level) k n);
  types = λ k n. part_of _ _ (λ level. type_id-Included (levels-Included level) k n);
  clauses = λ k n. part_of _ _ (λ level. clause-Included (levels-Included level) k n);
}
