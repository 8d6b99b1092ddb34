-- Counts of trees, and of lists one tree at a time.
use Rattle.std.proofs.Common.{◌≡◌, ℕ, ◌+◌, ◌<◌, ◌≤◌, min, max, List, [], ◌∷◌, ◌++◌, length, get_or, map, take, sym, subst, add-one, take_all, arith}
use Rattle.std.proofs.Math.Seq.{take-suc}
use Rattle.cx_base.specs.declared.numbers.TermId.{TermId}
use Rattle.cx_term.specs.declared.count.Count.{Count}
use Rattle.cx_term.specs.Term.{Term, arguments}
use Rattle.cx_term.specs.Size.{nodes, all_nodes, depth, all_depth}
use Rattle.cx_term.specs.Layout.{Counts}

pub Counts-below_one : (c d : Count) (n m : ℕ) → Counts c n m → d.nodes ≡ min (c.nodes + 1) 65537 → d.depth ≡ c.depth + 1 → Counts d (1 + n) (1 + m)
Counts-below_one c d n m h e f = record { nodes_are = omega (arith, h.nodes_are); depth_is = omega (arith, h.depth_is) }

pub Counts-few : (c : Count) (n m : ℕ) → Counts c n m → c.nodes ≤ 65537
Counts-few c n m h = omega (arith, h.nodes_are)

pub ruleset counting = (Counts-below_one, Counts-few)

nodes_push : (tree : TermId → Term) (ts : List TermId) (t : TermId) → all_nodes (arguments (map tree (ts ++ t ∷ []))) ≡ all_nodes (arguments (map tree ts)) + nodes (tree t)
unfolding all_nodes
nodes_push tree [] t = omega arith
nodes_push tree (u ∷ ts) t = omega (arith, nodes_push tree ts t)

depth_push : (tree : TermId → Term) (ts : List TermId) (t : TermId) → all_depth (arguments (map tree (ts ++ t ∷ []))) ≡ max (all_depth (arguments (map tree ts))) (depth (tree t))
unfolding all_depth
depth_push tree [] t = omega arith
depth_push tree (u ∷ ts) t = omega (arith, depth_push tree ts t)

-- how large the trees of a list are, and that they are not deep
pub record CountsList (c : Count) (tree : TermId → Term) (ts : List TermId) : Type 0 where
  pub counts : Counts c (all_nodes (arguments (map tree ts))) (all_depth (arguments (map tree ts)))
  pub shallow : all_depth (arguments (map tree ts)) ≤ 512

pub CountsList-none : (c : Count) (tree : TermId → Term) → c.nodes ≡ 0 → c.depth ≡ 0 → CountsList c tree []
unfolding all_nodes all_depth
CountsList-none c tree e f = record { counts = record { nodes_are = e; depth_is = f }; shallow = omega arith }

-- one tree more
pub CountsList-next : (c d e : Count) (tree : TermId → Term) (ts : List TermId) (i : ℕ) (t : TermId) → i < length ts
    → CountsList c tree (take i ts) → Counts d (nodes (tree (get_or ts i t))) (depth (tree (get_or ts i t))) → depth (tree (get_or ts i t)) ≤ 512
    → e.nodes ≡ min (c.nodes + d.nodes) 65537 → e.depth ≡ max c.depth d.depth → CountsList e tree (take (i + 1) ts)
CountsList-next c d e tree ts i t lt h one low n m =
    let whole : take (i + 1) ts ≡ take i ts ++ get_or ts i t ∷ [] = rw add-one (take-suc ts i t lt) in
    let p = nodes_push tree (take i ts) (get_or ts i t) in
    let q = depth_push tree (take i ts) (get_or ts i t) in
    subst (CountsList e tree) (sym whole) (record {
      counts = record { nodes_are = omega (arith, n, h.counts.nodes_are, one.nodes_are, p); depth_is = omega (arith, m, h.counts.depth_is, one.depth_is, q) };
      shallow = omega (arith, q, h.shallow, low);
    })

pub CountsList-all : (c : Count) (tree : TermId → Term) (ts : List TermId) (i : ℕ) → length ts ≤ i → CountsList c tree (take i ts) → CountsList c tree ts
CountsList-all c tree ts i le h = subst (CountsList c tree) (take_all i ts le) h
