-- What the fields of a table stand for, and what holds of them. No public contract says more of them.
use Rattle.std.specs.Prelude.{◌≡◌, ℕ, ◌≤◌, List, [], ◌∷◌, ◌++◌, All, Some, map, min, slice_get, slice_index_or}
use Rattle.std.specs.Map.{keys_of}
use Rattle.std.specs.Global.{Vec}
use Rattle.cx_numbered.specs.Numbered.{HasEachOnce}
use Rattle.cx_base.specs.declared.numbers.TermId.{TermId}
use Rattle.cx_base.specs.declared.numbers.ArgsId.{ArgsId}
use Rattle.cx_term.specs.declared.node.Node.{Node}
use Rattle.cx_term.specs.declared.count.Count.{Count}
use Rattle.cx_term.specs.Term.{Term, void, arguments}
use Rattle.cx_term.specs.Size.{nodes, all_nodes, depth, all_depth}
use Rattle.cx_term.specs.Table.{Table, IsTerm, HasParts, spelled, tree_at, tree_of}

abbrev pub at : List Term → TermId → Term
at trees t = slice_index_or trees t.0 void

-- the list that a number stands for, where the stored lists are these
abbrev pub listed : List (List TermId) → List Term → ArgsId → List Term
listed lists trees a = map (at trees) (slice_index_or lists a.0 [])

-- the trees of nodes, each of which names earlier ones
unfoldable pub grow : List (List TermId) → List Term → List Node → List Term
grow lists trees [] = trees
grow lists trees (n ∷ ns) = grow lists (trees ++ spelled (at trees) (listed lists trees) n ∷ []) ns

unfoldable pub table_of : List Node → List (List TermId) → Table
table_of ns lists = let trees = grow lists [] ns in record { trees = trees; lists = map (map (at trees)) lists }

-- a count of so many nodes and so deep: the nodes are counted up to one past the limit
pub record Counts (c : Count) (n d : ℕ) : Type 0 where
  pub nodes_are : c.nodes ≡ min n 65537
  pub depth_is : c.depth ≡ d

-- a stored node with its count: its numbers are of the table, and its tree is within the limits
pub record IsStored (table : Table) (e : Node × Count) : Type 0 where
  pub parts : HasParts table e.0
  pub counts : Counts e.1 (nodes (tree_of table e.0)) (depth (tree_of table e.0))
  pub few : nodes (tree_of table e.0) ≤ 65536
  pub shallow : depth (tree_of table e.0) ≤ 512

-- a stored list with its count
pub record IsStoredList (table : Table) (e : Vec TermId × Count) : Type 0 where
  pub terms : All (IsTerm table) e.0.items
  pub counts : Counts e.1 (all_nodes (arguments (map (tree_at table) e.0.items))) (all_depth (arguments (map (tree_at table) e.0.items)))
  pub shallow : all_depth (arguments (map (tree_at table) e.0.items)) ≤ 512

abbrev pub items_of : List (Vec TermId × Count) → List (List TermId)
items_of lists = map (λ e. e.0.items) lists

abbrev pub table_in : List (Node × Count) → List (Vec TermId × Count) → Table
table_in terms lists = table_of (keys_of terms) (items_of lists)

-- the table is that of these nodes and lists
pub record Holds (table : Table) (ns : List (Node × Count)) (ls : List (Vec TermId × Count)) : Type 0 where
  pub trees : table.trees ≡ map (tree_of table) (keys_of ns)
  pub lists : table.lists ≡ map (map (tree_at table)) (items_of ls)
  pub stored : (i : ℕ) (e : Node × Count) → slice_get ns i ≡ Some e → IsStored table e
  pub stored_lists : (i : ℕ) (e : Vec TermId × Count) → slice_get ls i ≡ Some e → IsStoredList table e
  pub trees_once : HasEachOnce table.trees
  pub lists_once : HasEachOnce table.lists

abbrev pub IsTable : List (Node × Count) → List (Vec TermId × Count) → Type 0
IsTable terms lists = Holds (table_in terms lists) terms lists
