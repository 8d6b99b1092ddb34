-- Nodes that are counted with a piece to spare, which pays for one node more.
use Rattle.std.proofs.Common.{length-append, ◌≡◌, ℕ, suc, ◌+◌, ◌*◌, ◌≤◌, ◌<◌, List, [], ◌∷◌, ◌++◌, length, ap, ◌∙◌, append-nil, arith}
use Rattle.std.specs.List.{flat_map}
use Rattle.std.proofs.lemmas.Grind.{flat_map-append}
use Rattle.cx_base.specs.declared.place.Place.{Place}
use Rattle.cx_tree.specs.Trees.{Mark}
use Rattle.cx_grammar.specs.Types.{numbered}
use Rattle.cx_grammar.proofs.Counts.{Counted, seq, node, later, sooner}

pub record Spared (n s : ℕ) (ms : List Mark) (m k : ℕ) : Type 0 where
  pub counted : Counted n s ms m k
  pub spare : suc (length ms) + 8 * s ≤ 8 * k

-- the piece stands before the nodes, behind them, or between two parts
pub ahead : {n s m i k : ℕ} {a : List Mark} → Counted n i a m k → s < i → Spared n s a m k
ahead g up = record { counted = sooner g (omega arith); spare = omega (arith, g.few, up) }

pub behind : {n s m i k : ℕ} {a : List Mark} → Counted n s a m i → i < k → Spared n s a m k
behind g up = record { counted = later g (omega arith); spare = omega (arith, g.few, up) }

pub between : {n s m i j r k : ℕ} {a b : List Mark} → Counted n s a m i → Counted m j b r k → i < j → Spared n s (a ++ b) r k
between {a} {b} g h up = record { counted = seq g h (omega arith); spare = omega (arith, length-append a b, g.few, h.few, up) }

-- more nodes behind or before those
pub then_more : {n s m i j r k : ℕ} {a b : List Mark} → Spared n s a m i → Counted m j b r k → i ≤ j → Spared n s (a ++ b) r k
then_more {a} {b} g h up = record { counted = seq g.counted h up; spare = omega (arith, length-append a b, g.spare, h.few, up) }

pub after : {n s m i j r k : ℕ} {a b : List Mark} → Counted n s a m i → Spared m j b r k → i ≤ j → Spared n s (a ++ b) r k
after {a} {b} g h up = record { counted = seq g h.counted up; spare = omega (arith, length-append a b, g.few, h.spare, up) }

-- the node that is paid for
pub paid : {n s m k : ℕ} {a : List Mark} (at : Place) → Spared n s a m k → Counted n s (a ++ numbered m at ∷ []) (m + 1) k
paid {n} {s} {m} {k} {a} at g =
    let up : k < k + 1 = omega arith in
    let whole = node at g.counted up in
    record { numbers = whole.numbers; next = whole.next; few = omega (arith, length-append a (numbered m at ∷ []), g.spare) }

-- ---- the nodes of lists

pub flat_one : {X : Type 0} (f : X → List Mark) (x : X) → flat_map f (x ∷ []) ≡ f x
flat_one f x = append-nil (f x)

pub flat_more : {X : Type 0} (f : X → List Mark) (xs : List X) (x : X) → flat_map f (xs ++ x ∷ []) ≡ flat_map f xs ++ f x
flat_more f xs x = flat_map-append f xs (x ∷ []) ∙ ap (λ (z : List Mark). flat_map f xs ++ z) (append-nil (f x))
