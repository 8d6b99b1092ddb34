-- The texts of numbered things, one more at a time.
use Rattle.std.proofs.Common.{◌≡◌, ℕ, suc, ◌+◌, ◌<◌, List, [], ◌∷◌, ◌++◌, map, length, get_or, take, refl, sym, ap, ◌∙◌, append_assoc, zero-add, arith}
use Rattle.std.proofs.lemmas.List.{append-nil, take_more, length-take-le, map-append}
use Rattle.cx_plain_language.specs.Text.{joined, comma_before, numbered, concatenated}
use Rattle.cx_plain_language.proofs.Joins.{joined_push}

numbered_push : {A : Type 0} (text : ℕ → A → List ℕ) (k : ℕ) (xs : List A) (x : A) → numbered text k (xs ++ x ∷ []) ≡ numbered text k xs ++ text (k + length xs) x ∷ []
numbered_push text k [] x = let e : k + 0 ≡ k = omega arith in rw e refl
numbered_push text k (y ∷ ys) x =
    let e : suc k + length ys ≡ k + suc (length ys) = omega arith in
    ap (λ r. text k y ∷ r) (numbered_push text (suc k) ys x ∙ ap (λ n. numbered text (suc k) ys ++ text n x ∷ []) e)

numbered_long : {A : Type 0} (text : ℕ → A → List ℕ) (k : ℕ) (xs : List A) → length (numbered text k xs) ≡ length xs
numbered_long text k [] = refl
numbered_long text k (x ∷ xs) = ap suc (numbered_long text (suc k) xs)

concatenated_push : (ts : List (List ℕ)) (t : List ℕ) → concatenated (ts ++ t ∷ []) ≡ concatenated ts ++ t
concatenated_push [] t = append-nil t
concatenated_push (s ∷ ss) t = rw (concatenated_push ss t) (sym (append_assoc s (concatenated ss) t))

length-map : {A B : Type 0} (f : A → B) (xs : List A) → length (map f xs) ≡ length xs
length-map f [] = refl
length-map f (y ∷ ys) = ap suc (length-map f ys)

numbered_more : {A B : Type 0} (view : A → B) (text : ℕ → B → List ℕ) (items : List A) (i : ℕ) (x : A) → i < length items → x ≡ get_or items i x
    → numbered text 0 (map view (take (i + 1) items)) ≡ numbered text 0 (map view (take i items)) ++ text i (view x) ∷ []
numbered_more view text items i x below is =
    let long : 0 + length (map view (take i items)) ≡ i = zero-add (length (map view (take i items))) ∙ length-map view (take i items) ∙ length-take-le i items (omega (arith, below)) in
    let more : map view (take (i + 1) items) ≡ map view (take i items) ++ view x ∷ [] =
    ap (map view) (take_more items i x below ∙ ap (λ y. take i items ++ y ∷ []) (sym is)) ∙ map-append view (take i items) (x ∷ []) in
    ap (numbered text 0) more ∙ numbered_push text 0 (map view (take i items)) (view x) ∙ ap (λ n. numbered text 0 (map view (take i items)) ++ text n (view x) ∷ []) long

pub none_yet : {B : Type 0} (text : ℕ → B → List ℕ) (before : List ℕ) → before ≡ before ++ concatenated (numbered text 0 [])
none_yet text before = sym (append-nil before)

pub none_joined : {B : Type 0} (text : ℕ → B → List ℕ) (before : List ℕ) → before ≡ before ++ joined (numbered text 0 [])
unfolding joined
none_joined text before = sym (append-nil before)

pub each_more : {A B : Type 0} (view : A → B) (text : ℕ → B → List ℕ) (items : List A) (i : ℕ) (x : A) (before now after : List ℕ) → i < length items → x ≡ get_or items i x
    → now ≡ before ++ concatenated (numbered text 0 (map view (take i items))) → after ≡ now ++ text i (view x) → after ≡ before ++ concatenated (numbered text 0 (map view (take (i + 1) items)))
each_more view text items i x before now after below is so_far put =
    rw (put, so_far, numbered_more view text items i x below is, concatenated_push (numbered text 0 (map view (take i items))) (text i (view x))) (append_assoc before (concatenated (numbered text 0 (map view (take i items)))) (text i (view x)))

pub joined_more : {A B : Type 0} (view : A → B) (text : ℕ → B → List ℕ) (items : List A) (i : ℕ) (x : A) (before now after : List ℕ) → i < length items → x ≡ get_or items i x
    → now ≡ before ++ joined (numbered text 0 (map view (take i items))) → after ≡ now ++ comma_before i ++ text i (view x) → after ≡ before ++ joined (numbered text 0 (map view (take (i + 1) items)))
joined_more view text items i x before now after below is so_far put =
    let long : length (numbered text 0 (map view (take i items))) ≡ i = numbered_long text 0 (map view (take i items)) ∙ length-map view (take i items) ∙ length-take-le i items (omega (arith, below)) in
    rw (put, so_far, numbered_more view text items i x below is, joined_push (numbered text 0 (map view (take i items))) (text i (view x)), long) (simp append_assoc refl)
