-- How large a tree is: its nodes, and the nodes on its longest path from the top, both counted as a tree, however much of it is shared.
use Rattle.std.specs.Prelude.{ℕ, ◌+◌, max, Bool, ◌&&◌, nat_le}
use Rattle.cx_term.specs.Term.{Term, Arguments, inst, const, ref, member, decltype, form, nothing, argument}

unfoldable mutual
  pub nodes : Term → ℕ
  nodes (inst d xs) = 1 + all_nodes xs
  nodes (const t) = 1 + nodes t
  nodes (ref t) = 1 + nodes t
  nodes (member t m) = 1 + nodes t
  nodes (decltype t) = 1 + nodes t
  nodes (form w xs) = 1 + all_nodes xs
  nodes _ = 1

  pub all_nodes : Arguments → ℕ
  all_nodes nothing = 0
  all_nodes (argument t xs) = nodes t + all_nodes xs

unfoldable mutual
  pub depth : Term → ℕ
  depth (inst d xs) = 1 + all_depth xs
  depth (const t) = 1 + depth t
  depth (ref t) = 1 + depth t
  depth (member t m) = 1 + depth t
  depth (decltype t) = 1 + depth t
  depth (form w xs) = 1 + all_depth xs
  depth _ = 1

  pub all_depth : Arguments → ℕ
  all_depth nothing = 0
  all_depth (argument t xs) = max (depth t) (all_depth xs)

-- at most 65,536 nodes, and no node with more than 511 above it
abbrev pub is_small : Term → Bool
is_small t = nat_le (nodes t) 65536 && nat_le (depth t) 512
