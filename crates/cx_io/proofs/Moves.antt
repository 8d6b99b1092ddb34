-- What a read of memory moves.
use Rattle.std.proofs.Common.{◌≡◌, ◌≤◌, ℕ, List, length, take, drop, ◌++◌, ap, subst, sym, ◌∙◌, arith}
use Rattle.std.proofs.lemmas.List.{length-take, take-append-drop}
use Rattle.std.proofs.Math.Seq.{take-append_seam}

-- the bytes that were moved, and then those that are left
pub moved : (n : ℕ) (whole front kept : List ℕ) → n ≤ length whole → front ≡ take n whole → whole ≡ take n (front ++ kept) ++ drop n whole
moved n whole front kept fits is =
    let len : length front ≡ n = ap length is ∙ simp length-take (omega arith) in
    let first : take n (front ++ kept) ≡ front = subst (λ k. take k (front ++ kept) ≡ front) len (take-append_seam front kept) in
    rw (first, is) (sym (take-append-drop n whole))
