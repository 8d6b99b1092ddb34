-- The texts of numbered functions, one more at a time.
use Rattle.std.proofs.Common.{◌≡◌, ℕ, zero, suc, ◌+◌, ◌<◌, List, [], ◌∷◌, ◌++◌, map, length, get_or, take, sym, ap, ◌∙◌, append_assoc, add-one, add-zero, zero-add, subst, arith}
use Rattle.std.specs.List.{AllByRecursion}
use Rattle.std.proofs.lemmas.List.{append-nil}
use Rattle.cx_plain.specs.declared.tree.Function.{Function}
use Rattle.cx_plain.specs.PlainTree.{PlainFunction, function_view}
use Rattle.cx_plain.specs.PlainText.{numbered}

abbrev views : List Function → List PlainFunction
views fs = map function_view fs

-- one function more, where the first has the number k
numbered_push : (text : ℕ → PlainFunction → List ℕ) (k i : ℕ) (functions : List Function) (f : Function) → i < length functions → f ≡ get_or functions i f
    → numbered text k (views (take (suc i) functions)) ≡ numbered text k (views (take i functions)) ++ text (k + i) (function_view f)
unfolding numbered
numbered_push text k i [] f lt is = absurd (omega (arith, lt))
numbered_push text k zero (g ∷ gs) f lt is = rw (add-zero) (append-nil (text k (function_view g)) ∙ ap (λ h. text k (function_view h)) (sym is))
numbered_push text k (suc i) (g ∷ gs) f lt is =
    let rest = numbered_push text (k + 1) i gs f (omega (arith, lt)) is in
    let n : (k + 1) + i ≡ k + suc i = omega arith in
    rw (rest, n) (sym (append_assoc (text k (function_view g)) (numbered text (k + 1) (views (take i gs))) (text (k + suc i) (function_view f))))

pub none_yet : (text : ℕ → PlainFunction → List ℕ) (before : List ℕ) → before ≡ before ++ numbered text 0 []
unfolding numbered
none_yet text before = sym (append-nil before)

pub one_more : (text : ℕ → PlainFunction → List ℕ) (before now after : List ℕ) (i : ℕ) (functions : List Function) (f : Function) → i < length functions → f ≡ get_or functions i f
    → now ≡ before ++ numbered text 0 (map function_view (take i functions)) → after ≡ now ++ text i (function_view f) → after ≡ before ++ numbered text 0 (map function_view (take (i + 1) functions))
one_more text before now after i functions f lt is so_far put =
    let e : numbered text 0 (views (take (suc i) functions)) ≡ numbered text 0 (views (take i functions)) ++ text (0 + i) (function_view f) = numbered_push text 0 i functions f lt is in
    let more : numbered text 0 (views (take (i + 1) functions)) ≡ numbered text 0 (views (take i functions)) ++ text i (function_view f) = rw add-one (rw zero-add at e) in
    rw (put, so_far, more) (append_assoc before (numbered text 0 (views (take i functions))) (text i (function_view f)))

-- what holds of each function holds of the one of a number
pub each_at : (P : PlainFunction → Type 0) (functions : List Function) (i : ℕ) (f : Function) → i < length functions → f ≡ get_or functions i f → AllByRecursion P (map function_view functions) → P (function_view f)
each_at P [] i f lt is all = absurd (omega (arith, lt))
each_at P (g ∷ gs) zero f lt is all = subst (λ (h : Function). P (function_view h)) (sym is) all.0
each_at P (g ∷ gs) (suc i) f lt is all = each_at P gs i f (omega (arith, lt)) is all.1
