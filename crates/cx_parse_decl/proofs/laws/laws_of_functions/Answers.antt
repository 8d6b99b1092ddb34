use Rattle.cx_parse_decl.proofs.Units.{unit_laws, unit_tokens}
use Rattle.cx_parse_decl.proofs.Whole.{whole_unit}
use Rattle.cx_parse_decl.proofs.laws.laws_of_functions.Goals as goal

pub returns : goal.returns
returns c = record { laws = unit_laws; tokens = unit_tokens; whole = whole_unit c.units_of_the_language.ensures.units }
