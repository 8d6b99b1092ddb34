-- Texts that a loop puts one behind the other.
use Rattle.std.proofs.Common.{◌≡◌, ℕ, suc, ◌+◌, ◌<◌, List, [], ◌∷◌, ◌++◌, map, length, get_or, take, refl, sym, ap, ◌∙◌, append_assoc, arith}
use Rattle.std.specs.Prelude.{codes}
use Rattle.std.proofs.lemmas.List.{append-nil, take_more, length-take-le, map-append}
use Rattle.cx_plain_language.specs.Text.{after_commas, joined, comma_before}

pub after_push : (ts : List (List ℕ)) (t : List ℕ) → after_commas (ts ++ t ∷ []) ≡ after_commas ts ++ codes ", " ++ t
unfolding after_commas
after_push [] t = append-nil (codes ", " ++ t)
after_push (s ∷ ss) t = rw (after_push ss t) (simp append_assoc refl)

-- one text more
pub joined_push : (ts : List (List ℕ)) (t : List ℕ) → joined (ts ++ t ∷ []) ≡ joined ts ++ comma_before (length ts) ++ t
unfolding joined comma_before after_commas
joined_push [] t = append-nil t
joined_push (s ∷ ss) t = rw (after_push ss t) (simp append_assoc refl)

length-map : {A B : Type 0} (f : A → B) (xs : List A) → length (map f xs) ≡ length xs
length-map f [] = refl
length-map f (y ∷ ys) = ap suc (length-map f ys)

-- the texts of one item more
texts_more : {A : Type 0} (text : A → List ℕ) (items : List A) (i : ℕ) (x : A) → i < length items → x ≡ get_or items i x
    → joined (map text (take (i + 1) items)) ≡ joined (map text (take i items)) ++ comma_before i ++ text x
texts_more text items i x below is =
    let long : length (map text (take i items)) ≡ i = length-map text (take i items) ∙ length-take-le i items (omega (arith, below)) in
    let more : map text (take (i + 1) items) ≡ map text (take i items) ++ text x ∷ [] =
    ap (map text) (take_more items i x below ∙ ap (λ y. take i items ++ y ∷ []) (sym is)) ∙ map-append text (take i items) (x ∷ []) in
    ap joined more ∙ joined_push (map text (take i items)) (text x) ∙ ap (λ n. joined (map text (take i items)) ++ comma_before n ++ text x) long

-- a loop that has put the texts of the first i items, and puts one more
pub one_more : {A : Type 0} (text : A → List ℕ) (items : List A) (i : ℕ) (x : A) (before now after : List ℕ) → i < length items → x ≡ get_or items i x
    → now ≡ before ++ joined (map text (take i items)) → after ≡ now ++ comma_before i ++ text x → after ≡ before ++ joined (map text (take (i + 1) items))
one_more text items i x before now after below is so_far put = rw (put, so_far, texts_more text items i x below is) (simp append_assoc refl)
