use Rattle.cx_grammar.proofs.UnitFilled.{levels-Filled}
use Rattle.cx_grammar_laws.proofs.IncludedUnits.{unit_levels-Included, stmt-Included, decl-Included, unit-Included}
use Rattle.cx_grammar_laws.proofs.Parts.{part_of}
use Rattle.cx_grammar_laws.proofs.language.units_of_the_language.Goals as goal

pub returns : goal.returns
returns c = record {
  statements = λ k n. part_of _ _ (λ level. stmt-Included (unit_levels-Included level) (levels-Filled level) k n);
  declarations = λ k n. part_of _ _ (λ level. decl-Included (unit_levels-Included level) (levels-Filled level) k n);
  units = part_of _ _ (λ level. unit-Included (unit_levels-Included level) (levels-Filled level));
}
