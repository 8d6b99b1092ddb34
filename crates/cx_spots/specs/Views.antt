-- What a core that was read stands for.
use Rattle.cx_tree.specs.Trees.{CoreTree, core_tree}
use Rattle.cx_grammar.specs.Types.{Placed}
use Rattle.cx_spots.specs.declared.spot.Cored.{Cored}

abbrev pub placed_core : Cored → Placed CoreTree
placed_core k = (k.at, core_tree k.core)
