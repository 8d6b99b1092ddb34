-- Where a unit is read.
use Rattle.std.specs.Prelude.{◌≡◌, true, List, [], ◌∷◌}
use Rattle.cx_scope.specs.Frames.{Frames}
use Rattle.cx_grammar.specs.Names.{Context}
use Rattle.cx_grammar.specs.Pieces.{Piece}
use Rattle.cx_parse_decl.specs.Functions.{is_end}

-- Where a unit stands in which some names are declared.
abbrev pub unit_context : Frames → Context
unit_context names = record { names = names; angle = 0; load = 0 }

-- the next piece is the end
abbrev pub AtEnd : List Piece → Type 0
AtEnd [] = ⊥
AtEnd (p ∷ ps) = is_end p ≡ true
