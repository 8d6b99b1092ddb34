-- What stands at a number in two lists, one behind the other.
use Rattle.std.proofs.Common.{◌≡◌, ℕ, zero, suc, ◌-◌, ◌<◌, ◌≤◌, List, [], ◌∷◌, ◌++◌, map, length, refl, arith}
use Rattle.std.specs.Prelude.{slice_get, option_map}

pub get_mapped : {A B : Type 0} (f : A → B) (xs : List A) (k : ℕ) → slice_get (map f xs) k ≡ option_map f (slice_get xs k)
get_mapped f [] k = refl
get_mapped f (x ∷ xs) zero = refl
get_mapped f (x ∷ xs) (suc k) = get_mapped f xs k

pub of_parameter : {A B : Type 0} (f : A → B) (xs ys : List A) (k : ℕ) → k < length xs → slice_get (map f xs ++ map f ys) k ≡ option_map f (slice_get xs k)
of_parameter f [] ys k below = absurd (omega (arith, below))
of_parameter f (x ∷ xs) ys zero below = refl
of_parameter f (x ∷ xs) ys (suc k) below = of_parameter f xs ys k (omega (arith, below))

pub of_local : {A B : Type 0} (f : A → B) (xs ys : List A) (k : ℕ) → length xs ≤ k → slice_get (map f xs ++ map f ys) k ≡ option_map f (slice_get ys (k - length xs))
of_local f [] ys k from =
    let e : k - 0 ≡ k = omega arith in
    rw e (get_mapped f ys k)
of_local f (x ∷ xs) ys zero from = absurd (omega (arith, from))
of_local f (x ∷ xs) ys (suc k) from =
    let e : suc k - suc (length xs) ≡ k - length xs = omega arith in
    rw e (of_local f xs ys k (omega (arith, from)))
