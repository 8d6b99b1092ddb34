-- One write of a piece after another, and what the writer then holds.
use Rattle.std.proofs.Common.{◌≡◌, ℕ, ◌+◌, ◌-◌, ◌≤◌, List, ◌++◌, length, take, drop, Option, refl, sym, ap, ◌∙◌, subst, arith}
use Rattle.std.proofs.lemmas.List.{take_all, take_rest, drop-drop, length-drop}
use Rattle.std.proofs.Math.Seq.{take-add}
use Rattle.std.proofs.KnownBytes.{Appends-nil, Appends-trans, Appends-kept}
use Rattle.std.specs.Io.KnownBytes.{Keeps, Appends}
use Rattle.cx_io.specs.Std.{GrowsByFront}

-- A front of the piece was written, and the rest is left.
pub record HasGrown (old new : Option (List ℕ)) (piece left : List ℕ) : Type 0 where
  pub done : ℕ
  pub within : done ≤ length piece
  pub rest : left ≡ drop done piece
  pub bytes : Appends old new (take done piece)

pub nothing_yet : (a : Option (List ℕ)) (piece : List ℕ) → HasGrown a a piece piece
nothing_yet a piece = record { done = 0; within = omega arith; rest = refl; bytes = Appends-nil a }

-- a write took n bytes more
pub goes_on : (a b c : Option (List ℕ)) (piece left : List ℕ) (n : ℕ) → HasGrown a b piece left → n ≤ length left → Appends b c (take n left) → HasGrown a c piece (take (length left - n) (drop n left))
goes_on a b c piece left n so_far fits more =
    let len : length left ≡ length piece - so_far.done = ap length so_far.rest ∙ length-drop so_far.done piece in
    let joined : take (so_far.done + n) piece ≡ take so_far.done piece ++ take n left =
    take-add so_far.done n piece ∙ ap (λ (l : List ℕ). take so_far.done piece ++ take n l) (sym so_far.rest) in
    record {
      done = so_far.done + n;
      within = omega (arith, so_far.within, fits, len);
      rest = take_rest left n ∙ ap (drop n) so_far.rest ∙ drop-drop n so_far.done piece;
      bytes = subst (λ (l : List ℕ). Appends a c l) (sym joined) (Appends-trans a b c (take so_far.done piece) (take n left) so_far.bytes more);
    }

-- a write failed, and what the writer holds is a front of the piece
pub stops : (a b c : Option (List ℕ)) (piece left : List ℕ) → HasGrown a b piece left → Keeps b c → GrowsByFront a c piece
stops a b c piece left so_far kept = (so_far.done, so_far.within, Appends-kept a b c (take so_far.done piece) so_far.bytes kept)

-- nothing is left
pub ends : (a b : Option (List ℕ)) (piece left : List ℕ) → HasGrown a b piece left → length left ≡ 0 → Appends a b piece
ends a b piece left so_far none =
    let len : length left ≡ length piece - so_far.done = ap length so_far.rest ∙ length-drop so_far.done piece in
    let all : length piece ≤ so_far.done = omega (arith, len, none) in
    subst (λ (l : List ℕ). Appends a b l) (take_all so_far.done piece all) so_far.bytes
