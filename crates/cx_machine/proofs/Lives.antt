-- What stands at the last object, and at one whose lifetime is over.
use Rattle.std.proofs.Common.{◌≡◌, ℕ, zero, suc, ◌≤◌, List, [], ◌∷◌, ◌++◌, length, Some, None, refl, ap, arith}
use Rattle.std.specs.Prelude.{slice_get, slice_set}
use Rattle.cx_machine.specs.Values.{Val}
use Rattle.cx_machine.specs.Machine.{Object, State, Undefined, bind, give, read, write, whole, object_value, ended}

last_get : {A : Type 0} (xs : List A) (x : A) → slice_get (xs ++ x ∷ []) (length xs) ≡ Some x
last_get [] x = refl
last_get (y ∷ ys) x = last_get ys x

last_set : {A : Type 0} (xs : List A) (x y : A) → slice_set (xs ++ x ∷ []) (length xs) y ≡ xs ++ y ∷ []
last_set [] x y = refl
last_set (z ∷ zs) x y = ap (λ ys. z ∷ ys) (last_set zs x y)

pub write_last : (globals : List Val) (v w : Val) (s : State)
    → bind (write (whole (length s.store)) w) (λ u. read globals (whole (length s.store))) (record s { store = s.store ++ Some v ∷ [] })
    ≡ give w (record s { store = s.store ++ Some w ∷ [] })
write_last globals v w s = rw (last_get s.store (Some v)) (rw (last_set s.store (Some v) (Some w)) (rw (last_get s.store (Some w)) refl))

pub over : (store : List Object) (n k : ℕ) → n ≤ k → object_value (ended n store) k ≡ None
over [] zero k le = refl
over [] (suc n) k le = refl
over (o ∷ os) zero zero le = refl
over (o ∷ os) zero (suc k) le = over os zero k (omega arith)
over (o ∷ os) (suc n) zero le = absurd (omega (arith, le))
over (o ∷ os) (suc n) (suc k) le = over os n k (omega (arith, le))

pub read_over : (globals : List Val) (k n : ℕ) (s : State) → n ≤ k → read globals (whole k) (record s { store = ended n s.store }) ≡ Undefined s.printed
read_over globals k n s le = rw (over s.store n k le) refl
