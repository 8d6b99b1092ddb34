-- Productions that are factored, and what they are factored from.
use Rattle.std.proofs.Common.{◌≡◌, ◌⊎◌, inl, inr, ℕ, Bool, true, false, ◌||◌, List, [], ◌∷◌, ◌++◌, refl, sym, ap, ◌∙◌, subst, append_assoc, append-nil, true≢false}
use Rattle.cx_grammar.specs.Pieces.{Piece}
use Rattle.cx_grammar.specs.Production.{Production, ◌>>=◌, token, when, begins, Chosen}

-- ---- a sequence in two groupings

module _ {A B C : Type 0} (p : Production A) (f : A → Production B) (g : B → Production C) where
  abbrev left : Production C
  left = (p >>= f) >>= g

  abbrev right : Production C
  right = p >>= (λ x. f x >>= g)

  pub right_whole : (l : ℕ) (ts behind : List Piece) (z : C) → left.whole l ts behind z → right.whole l ts behind z
  right_whole l ts behind z (y, us, vs, e, (x, us', vs', e', w, w'), v) = (
    x,
    us',
    vs' ++ vs,
    e ∙ ap (λ (s : List Piece). s ++ vs) e' ∙ append_assoc us' vs' vs,
    subst (λ (s : List Piece). p.whole l us' s x) (sym (append_assoc vs' vs behind)) w,
    (y, vs', vs, refl, w', v),
  )

  pub left_whole : (l : ℕ) (ts behind : List Piece) (z : C) → right.whole l ts behind z → left.whole l ts behind z
  left_whole l ts behind z (x, us, vs, e, w, (y, us', vs', e', w', v)) = (
    y,
    us ++ us',
    vs',
    e ∙ ap (λ (s : List Piece). us ++ s) e' ∙ sym (append_assoc us us' vs'),
    (x, us, us', refl, subst (λ (s : List Piece). p.whole l us s x) (ap (λ (s : List Piece). s ++ behind) e' ∙ append_assoc us' vs' behind) w, w'),
    v,
  )

  pub right_front : (l : ℕ) (ts : List Piece) → left.front l ts → right.front l ts
  right_front l ts (inl (inl k)) = inl k
  right_front l ts (inl (inr (x, us, vs, e, w, k))) = inr (x, us, vs, e, w, inl k)
  right_front l ts (inr (y, us, vs, e, (x, us', vs', e', w, w'), k)) =
      inr (x, us', vs' ++ vs, e ∙ ap (λ (s : List Piece). s ++ vs) e' ∙ append_assoc us' vs' vs, w, inr (y, vs', vs, refl, w', k))

  pub left_front : (l : ℕ) (ts : List Piece) → right.front l ts → left.front l ts
  left_front l ts (inl k) = inl (inl k)
  left_front l ts (inr (x, us, vs, e, w, inl k)) = inl (inr (x, us, vs, e, w, k))
  left_front l ts (inr (x, us, vs, e, w, inr (y, us', vs', e', w', k))) =
      inr (
        y,
        us ++ us',
        vs',
        e ∙ ap (λ (s : List Piece). us ++ s) e' ∙ sym (append_assoc us us' vs'),
        (x, us, us', refl, subst (λ (s : List Piece). p.whole l us s x) e' w, w'),
        k,
      )

-- ---- what begins with a token

pub record Starts {A : Type 0} (q : Piece → Bool) (p : Production A) : Type 0 where
  pub begins_so : (l : ℕ) (ts behind : List Piece) (y : A) → p.whole l ts behind y → begins q (ts ++ behind) ≡ true
  pub begun_so : (l : ℕ) (ts : List Piece) → p.front l ts → (ts ≡ []) ⊎ (begins q ts ≡ true)

module _ {B : Type 0} (load : ℕ) (q : Piece → Bool) (f : Piece → Production B) where
  token_begins : (l : ℕ) (ts behind : List Piece) (y : B) → (token load q >>= f).whole l ts behind y → begins q (ts ++ behind) ≡ true
  unfolding begins
  token_begins l ts behind y (t, us, vs, e, (e', fits, low), w) =
      ap (λ (s : List Piece). begins q (s ++ behind)) (e ∙ ap (λ (s : List Piece). s ++ vs) e') ∙ fits

  token_front : (l : ℕ) (ts : List Piece) → (token load q >>= f).front l ts → (ts ≡ []) ⊎ (begins q ts ≡ true)
  unfolding begins
  token_front l ts (inl (inl e)) = inl e
  token_front l ts (inl (inr (t, e, fits, low))) = inr (ap (λ (s : List Piece). begins q s) e ∙ fits)
  token_front l ts (inr (t, us, vs, e, (e', fits, low), k)) = inr (ap (λ (s : List Piece). begins q s) (e ∙ ap (λ (s : List Piece). s ++ vs) e') ∙ fits)

  pub token-Starts : Starts q (token load q >>= f)
  token-Starts = record { begins_so = token_begins; begun_so = token_front }

module _ {A B : Type 0} {q : Piece → Bool} {p : Production A} (f : A → Production B) (h : Starts q p) where
  pub first-Starts : Starts q (p >>= f)
  first-Starts = record { begins_so = whole; begun_so = front }
    where
      whole : (l : ℕ) (ts behind : List Piece) (y : B) → (p >>= f).whole l ts behind y → begins q (ts ++ behind) ≡ true
      whole l ts behind y (x, us, vs, e, w, v) = ap (λ (s : List Piece). begins q s) (ap (λ (s : List Piece). s ++ behind) e ∙ append_assoc us vs behind) ∙ h.begins_so l us (vs ++ behind) x w

      front : (l : ℕ) (ts : List Piece) → (p >>= f).front l ts → (ts ≡ []) ⊎ (begins q ts ≡ true)
      front l ts (inl k) = h.begun_so l ts k
      front l ts (inr (x, us, vs, e, w, k)) = inr (ap (λ (s : List Piece). begins q s) e ∙ h.begins_so l us vs x w)

-- ---- where one of two is chosen

module _ {A : Type 0} (q : Piece → Bool) (a b : Production A) where
  pub when_cases : (l : ℕ) (ts behind : List Piece) (x : A) → (when q a b).whole l ts behind x → a.whole l ts behind x ⊎ b.whole l ts behind x
  when_cases l ts behind x w = go (begins q (ts ++ behind)) w
    where
      go : (c : Bool) → Chosen c (a.whole l ts behind x) (b.whole l ts behind x) → a.whole l ts behind x ⊎ b.whole l ts behind x
      go true w = inl w
      go false w = inr w

  pub when_first : (l : ℕ) (ts behind : List Piece) (x : A) → begins q (ts ++ behind) ≡ true → a.whole l ts behind x → (when q a b).whole l ts behind x
  when_first l ts behind x e w = subst (λ (c : Bool). Chosen c (a.whole l ts behind x) (b.whole l ts behind x)) (sym e) w

  pub when_second : (l : ℕ) (ts behind : List Piece) (x : A) → begins q (ts ++ behind) ≡ false → b.whole l ts behind x → (when q a b).whole l ts behind x
  when_second l ts behind x e w = subst (λ (c : Bool). Chosen c (a.whole l ts behind x) (b.whole l ts behind x)) (sym e) w

  pub when_fronts : (l : ℕ) (ts : List Piece) → (when q a b).front l ts → a.front l ts ⊎ b.front l ts
  when_fronts l ts k = go (begins q ts) k
    where
      go : (c : Bool) → Chosen c (a.front l ts) (b.front l ts) → a.front l ts ⊎ b.front l ts
      go true k = inl k
      go false k = inr k

  pub first_front : (l : ℕ) (ts : List Piece) → begins q ts ≡ true → a.front l ts → (when q a b).front l ts
  first_front l ts e k = subst (λ (c : Bool). Chosen c (a.front l ts) (b.front l ts)) (sym e) k

  pub second_front : (l : ℕ) (ts : List Piece) → begins q ts ≡ false → b.front l ts → (when q a b).front l ts
  second_front l ts e k = subst (λ (c : Bool). Chosen c (a.front l ts) (b.front l ts)) (sym e) k

-- ---- kinds of tokens

pub begins_none : (q : Piece → Bool) → begins q [] ≡ false
unfolding begins
begins_none q = refl

pub no_other : (q r : Piece → Bool) → ((t : Piece) → r t ≡ true → q t ≡ false) → (ts : List Piece) → begins r ts ≡ true → begins q ts ≡ false
unfolding begins
no_other q r h [] e = absurd (true≢false (sym e))
no_other q r h (t ∷ ts) e = h t e

pub neither : (q r : Piece → Bool) (ts : List Piece) → begins (λ t. q t || r t) ts ≡ false → (begins q ts ≡ false) × (begins r ts ≡ false)
unfolding begins
neither q r [] e = (refl, refl)
neither q r (t ∷ ts) e = go (q t) e
  where
    go : (c : Bool) → (c || r t) ≡ false → (c ≡ false) × (r t ≡ false)
    go true e = absurd (true≢false e)
    go false e = (refl, e)

-- a tree that is all that is left
pub whole_last : {A : Type 0} (p : Production A) (l : ℕ) (vs us2 vs2 behind : List Piece) (y : A) → vs ≡ us2 ++ vs2 → vs2 ≡ [] → p.whole l us2 (vs2 ++ behind) y → p.whole l vs behind y
whole_last p l vs us2 vs2 behind y e d w =
    let all : us2 ≡ vs = sym (e ∙ ap (λ (s : List Piece). us2 ++ s) d ∙ append-nil us2) in
    subst (λ (s : List Piece). p.whole l s behind y) all (subst (λ (s : List Piece). p.whole l us2 (s ++ behind) y) d w)
