-- Walks over lists of parts, and what stands at the end of a walk.
use Rattle.std.proofs.Common.{◌≡◌, ℕ, zero, suc, ◌+◌, ◌<◌, ◌≤◌, List, [], ◌∷◌, length, get_or, drop, map, Some, refl, sym, ap, ◌∙◌, arith}
use Rattle.std.specs.Prelude.{slice_get}
use Rattle.std.specs.Option.{option_map}
use Rattle.std.specs.List.{flat_map}
use Rattle.std.proofs.lemmas.List.{drop_more, drop_all}
use Rattle.cx_base.specs.declared.place.Place.{Place}
use Rattle.cx_tree.specs.declared.walk.Walk.{Walk}
use Rattle.cx_tree.specs.declared.walk.Walk.TheVariants.{Left, Found}
use Rattle.cx_tree.specs.Trees.{Mark}
use Rattle.cx_tree.specs.Nodes.{walked}
use Rattle.cx_tree.specs.Statements.{stmts}
use Rattle.cx_tree.specs.UnitNodes.{stmt_nodes, stmts_nodes}
use Rattle.cx_tree.proofs.Walks.{walked_append}
use Rattle.cx_statements.specs.declared.statement.Stmt.{Stmt}
use Rattle.cx_statements.specs.StatementViews.{stmt_tree}

-- ---- lists of parts

-- one part further
pub next_part : {A B : Type 0} (nodes : B → List Mark) (tree : A → B) (xs : List A) (i : ℕ) (d : A) (w v : Walk) → i < length xs → v ≡ walked w (nodes (tree (get_or xs i d)))
    → walked w (flat_map nodes (map tree (drop i xs))) ≡ walked v (flat_map nodes (map tree (drop (i + 1) xs)))
next_part nodes tree xs i d w v below is =
    rw (drop_more xs i d below, walked_append w (nodes (tree (get_or xs i d))) (flat_map nodes (map tree (drop (i + 1) xs))), ← is) refl

-- no part is left
pub no_part : {A B : Type 0} (nodes : B → List Mark) (tree : A → B) (xs : List A) (i : ℕ) (w : Walk) → length xs ≤ i → walked w (flat_map nodes (map tree (drop i xs))) ≡ w
no_part nodes tree xs i w above = rw (drop_all i xs above) refl

-- one statement further
pub next_stmt : (ss : List Stmt) (i : ℕ) (d : Stmt) (w v : Walk) → i < length ss → v ≡ walked w (stmt_nodes (stmt_tree (get_or ss i d)))
    → walked w (stmts_nodes (stmts (map stmt_tree (drop i ss)))) ≡ walked v (stmts_nodes (stmts (map stmt_tree (drop (i + 1) ss))))
next_stmt ss i d w v below is = rw (drop_more ss i d below, walked_append w (stmt_nodes (stmt_tree (get_or ss i d))) (stmts_nodes (stmts (map stmt_tree (drop (i + 1) ss)))), ← is) refl

-- ---- a walk that has found its node, or has not

ended : (at : Place) (ms : List Mark) → walked (Found at) ms ≡ Found at
ended at [] = refl
ended at (m ∷ ms) = ended at ms

-- a walk that passes over fewer nodes than there are finds its node
pub finds : (ms : List Mark) (n : ℕ) (at : Place) → walked (Left n) ms ≡ Found at → option_map (λ m. m.at) (slice_get ms n) ≡ Some at
finds [] n at is = absurd cc
finds (m ∷ ms) zero at is =
    let same : m.at ≡ at = let found = sym (ended m.at ms) ∙ is in cc in
    ap (λ p. Some p) same
finds (m ∷ ms) (suc n) at is = finds ms n at is

pub passes : (ms : List Mark) (n k : ℕ) → n < length ms → walked (Left n) ms ≡ Left k → ⊥
passes [] n k below is = omega (arith, below)
passes (m ∷ ms) zero k below is =
    let found = sym (ended m.at ms) ∙ is in
    cc
passes (m ∷ ms) (suc n) k below is = passes ms n k (omega (arith, below)) is
