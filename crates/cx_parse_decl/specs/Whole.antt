-- The units of the language, of which units of functions are some.
use Rattle.std.specs.Prelude.{true}
use Rattle.cx_tree.specs.Declarations.{UnitTree}
use Rattle.cx_grammar.specs.Declarations.{unit, unit_levels}
use Rattle.cx_grammar.specs.Laws.{Levelled}

abbrev pub whole_units : Levelled UnitTree
whole_units level = unit (unit_levels true level)
