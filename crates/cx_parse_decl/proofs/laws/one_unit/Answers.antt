use Rattle.cx_grammar.specs.Pieces.{pieces}
use Rattle.cx_parse_decl.proofs.Numbers.{unit_numbered, unit_few}
use Rattle.cx_parse_decl.proofs.Readings.{one_unit, unit_found, unit_only, unit_stops, no_unit}
use Rattle.cx_parse_decl.proofs.laws.one_unit.Goals as goal

pub returns : goal.returns
returns c = record {
  one = one_unit;
  found = unit_found;
  only = unit_only;
  stops = unit_stops;
  none = no_unit;
  numbered = λ ts u t. unit_numbered (pieces ts) u t;
  few = unit_few;
}
