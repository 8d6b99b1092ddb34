-- A table of trees: what each number stands for.
use Rattle.std.specs.Prelude.{List, [], slice_index_or}
use Rattle.cx_numbered.specs.Numbered.{Has, Grows, put}
use Rattle.cx_base.specs.declared.numbers.TermId.{TermId}
use Rattle.cx_base.specs.declared.numbers.ArgsId.{ArgsId}
use Rattle.cx_term.specs.declared.node.Node.{Node}
use Rattle.cx_term.specs.declared.node.Node.TheVariants as node
use Rattle.cx_term.specs.Same.{same_term, same_terms}
use Rattle.cx_term.specs.Term.{Term, param, scalar, void, struct, inst, const, ref, member, decltype, val, local, functions, form, arguments}

-- the trees and the lists of trees, each at its number
pub record Table : Type 0 where
  pub trees : List Term
  pub lists : List (List Term)

-- the table with no number
abbrev pub no_terms : Table
no_terms = record { trees = []; lists = [] }

-- t and a are numbers of the table
abbrev pub IsTerm : Table → TermId → Type 0
IsTerm table t = Has table.trees t.0

abbrev pub IsList : Table → ArgsId → Type 0
IsList table a = Has table.lists a.0

-- the tree or the list that a number of the table stands for
abbrev pub tree_at : Table → TermId → Term
tree_at table t = slice_index_or table.trees t.0 void

abbrev pub list_at : Table → ArgsId → List Term
list_at table a = slice_index_or table.lists a.0 []

-- the tree of a node, where numbers stand for these trees and lists
abbrev pub spelled : (TermId → Term) → (ArgsId → List Term) → Node → Term
spelled tree list (node.Param i) = param i
spelled tree list (node.Scalar s) = scalar s
spelled tree list node.Void = void
spelled tree list (node.Struct d) = struct d
spelled tree list (node.Inst d a) = inst d (arguments (list a))
spelled tree list (node.Const t) = const (tree t)
spelled tree list (node.Ref t) = ref (tree t)
spelled tree list (node.Member t m) = member (tree t) m.now
spelled tree list (node.Decltype t) = decltype (tree t)
spelled tree list (node.Val s n) = val s n
spelled tree list (node.Local i) = local i
spelled tree list (node.Functions m n) = functions m.now n
spelled tree list (node.Form w a) = form w (arguments (list a))

abbrev pub tree_of : Table → Node → Term
tree_of table = spelled (tree_at table) (list_at table)

-- the numbers in a node are of the table
abbrev pub HasParts : Table → Node → Type 0
HasParts table (node.Inst d a) = IsList table a
HasParts table (node.Const t) = IsTerm table t
HasParts table (node.Ref t) = IsTerm table t
HasParts table (node.Member t m) = IsTerm table t
HasParts table (node.Decltype t) = IsTerm table t
HasParts table (node.Form w a) = IsList table a
HasParts table _ = Unit {0}

-- each number of the old table is one of the new, and stands for what it stood for
pub record Extends (old new : Table) : Type 0 where
  pub trees : Grows old.trees new.trees
  pub lists : Grows old.lists new.lists

-- the table in which a tree or a list has a number
abbrev pub with_tree : Table → Term → Table
with_tree table t = record { trees = put same_term table.trees t; lists = table.lists }

abbrev pub with_list : Table → List Term → Table
with_list table ts = record { trees = table.trees; lists = put same_terms table.lists ts }
