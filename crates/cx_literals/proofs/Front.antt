-- The front of a list that passes a test.
use Rattle.std.proofs.Common.{◌≡◌, ℕ, suc, inl, inr, take, ◌+◌, ◌≤◌, Bool, true, false, not, cond, ltb, List, [], ◌∷◌, length, Some, None, refl, ◌∙◌, arith}
use Rattle.std.specs.List.{list_all, prefix_len, position, position_or_len}
use Rattle.std.specs.Option.{unwrap_or}
use Rattle.std.proofs.lemmas.Bool.{cases_Bool, ltb-false, cond_both}
use Rattle.std.proofs.lemmas.List.Sums.{prefix_len-le-length}

not-not : (b : Bool) → not (not b) ≡ b
not-not true = refl
not-not false = refl

position_or_len-not : {X : Type 0} (p : X → Bool) (xs : List X) → position_or_len (λ x. not (p x)) xs ≡ prefix_len p xs
position_or_len-not p [] = refl
position_or_len-not p (x ∷ xs) = rw (not-not (p x), position_or_len-not p xs) refl

settled : (n len : ℕ) → n ≤ len → unwrap_or (cond (ltb n len) (Some n) None) len ≡ n
settled n len le = cond_both (ltb n len) (Some n) None (λ o. unwrap_or o len ≡ n) (λ e. refl) (λ e. let more : len ≤ n = ltb-false n len e in omega arith)

-- the first place that fails, or the end, is where the front that passes ends
pub unwrap_or-position : {X : Type 0} (p : X → Bool) (xs : List X) → unwrap_or (position (λ x. not (p x)) xs) (length xs) ≡ prefix_len p xs
unwrap_or-position p xs = settled (position_or_len (λ x. not (p x)) xs) (length xs) (prefix_len-le-length (λ x. not (not (p x))) xs) ∙ position_or_len-not p xs

pub list_all-front : {X : Type 0} (p : X → Bool) (xs : List X) → list_all p (take (prefix_len p xs) xs) ≡ true
list_all-front p [] = refl
list_all-front p (x ∷ xs) =
    let one_more : 1 + prefix_len p xs ≡ suc (prefix_len p xs) = omega arith in
    elim (cases_Bool (p x)) [
      | inl passes ↦ rw (passes, one_more, passes) (list_all-front p xs)
      | inr fails ↦ rw fails refl
    ]
