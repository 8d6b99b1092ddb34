-- The reports on diag, one item a line.
use Rattle.std.specs.Prelude.{ℕ, List, ◌++◌, codes, decimal}
use Rattle.std.specs.List.{flat_map}
use Rattle.cx_base.specs.Names.{kind_name, limit_name}
use Rattle.cx_base.specs.declared.fault.Fault.{Fault}
use Rattle.cx_base.specs.declared.limit.Limit.{Limit}
use Rattle.cx_base.specs.declared.place.Place.{Place}

-- L:C and the end of the line
unfoldable pub place_text : Place → List ℕ
place_text at = decimal at.line ++ codes ":" ++ decimal at.col ++ codes "\n"

-- a word, a blank and a place
unfoldable pub place_line : List ℕ → Place → List ℕ
place_line word at = word ++ codes " " ++ place_text at

-- a word, a name and a place, with blanks between
unfoldable pub name_line : List ℕ → List ℕ → Place → List ℕ
name_line word name at = word ++ codes " " ++ name ++ codes " " ++ place_text at

-- fault KIND L:C
unfoldable pub fault_line : Fault → List ℕ
fault_line f = name_line (codes "fault") (kind_name f.kind) f.at

-- also L:C
unfoldable pub also_line : Place → List ℕ
also_line at = place_line (codes "also") at

-- chain L:C
unfoldable pub chain_line : Place → List ℕ
chain_line at = place_line (codes "chain") at

-- fault KIND L:C, then also L:C for each of `also`, then chain L:C for each of `chain`
unfoldable pub fault_report : Fault → List ℕ
fault_report f = fault_line f ++ flat_map also_line f.also ++ flat_map chain_line f.chain

-- limit NAME L:C
unfoldable pub limit_report : Limit → Place → List ℕ
limit_report limit at = name_line (codes "limit") (limit_name limit) at

unfoldable pub usage_report : List ℕ
usage_report = codes "usage\n"

unfoldable pub read_fault_report : List ℕ
read_fault_report = codes "read fault\n"
