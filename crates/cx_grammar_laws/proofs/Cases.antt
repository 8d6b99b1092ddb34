-- Productions that are the same where their tokens begin in some way, and alternatives that a first token tells apart.
use Rattle.std.proofs.Common.{◌≡◌, ◌⊎◌, inl, inr, ℕ, zero, suc, Bool, true, false, ◌||◌, List, [], ◌∷◌, ◌++◌, refl, sym, ap, ◌∙◌, subst, append_assoc, append-nil, true≢false}
use Rattle.cx_grammar.specs.Pieces.{Piece}
use Rattle.cx_grammar.specs.Production.{Production, give, ◌>>=◌, token, when, given, times, repeat, begins, Chosen}
use Rattle.cx_grammar.specs.Printed as relation
use Rattle.cx_grammar.specs.Printed.{Relation, trees_of, or, optional, IsAsPrinted}
use Rattle.cx_grammar.proofs.Alone.{Filled}
use Rattle.cx_grammar.proofs.Printed.{right_whole, left_whole, right_front, left_front, Starts, when_cases, when_first, when_second, first_front, second_front, begins_none, no_other}

-- ---- the same where the tokens begin in some way

-- what is known of the tokens of a tree with those behind it, and of those of a beginning
abbrev pub Where : Type 1
Where = List Piece → Type 0

abbrev pub Any : Where
Any ts = Unit {0}

abbrev pub First : (Piece → Bool) → Where
First q ts = begins q ts ≡ true

pub record Alike {A : Type 0} (W : Where) (p r : Production A) : Type 0 where
  pub to : (l : ℕ) (ts behind : List Piece) (x : A) → W (ts ++ behind) → p.whole l ts behind x → r.whole l ts behind x
  pub back : (l : ℕ) (ts behind : List Piece) (x : A) → W (ts ++ behind) → r.whole l ts behind x → p.whole l ts behind x
  pub begun : (l : ℕ) (ts : List Piece) → W ts → p.front l ts → r.front l ts
  pub begun_back : (l : ℕ) (ts : List Piece) → W ts → r.front l ts → p.front l ts

pub alike : {A : Type 0} (W : Where) (p : Production A) → Alike W p p
alike W p = record { to = λ l ts behind x h w. w; back = λ l ts behind x h w. w; begun = λ l ts h k. k; begun_back = λ l ts h k. k }

infixl 10 ◌then◌
pub ◌then◌ : {A : Type 0} {W : Where} {p q r : Production A} → Alike W p q → Alike W q r → Alike W p r
a then b = record {
  to = λ l ts behind x h w. b.to l ts behind x h (a.to l ts behind x h w);
  back = λ l ts behind x h w. a.back l ts behind x h (b.back l ts behind x h w);
  begun = λ l ts h k. b.begun l ts h (a.begun l ts h k);
  begun_back = λ l ts h k. a.begun_back l ts h (b.begun_back l ts h k);
}

pub turned : {A : Type 0} {W : Where} {p q : Production A} → Alike W p q → Alike W q p
turned a = record { to = a.back; back = a.to; begun = a.begun_back; begun_back = a.begun }

module _ {A B : Type 0} {W : Where} {p r : Production A} (a : Alike W p r) (f : A → Production B) where
  split_known : (ts us vs behind : List Piece) → ts ≡ us ++ vs → W (ts ++ behind) → W (us ++ (vs ++ behind))
  split_known ts us vs behind e h = subst W (ap (λ (s : List Piece). s ++ behind) e ∙ append_assoc us vs behind) h

  to_first : (l : ℕ) (ts behind : List Piece) (y : B) → W (ts ++ behind) → (p >>= f).whole l ts behind y → (r >>= f).whole l ts behind y
  to_first l ts behind y h (x, us, vs, e, w, v) = (x, us, vs, e, a.to l us (vs ++ behind) x (split_known ts us vs behind e h) w, v)

  back_first : (l : ℕ) (ts behind : List Piece) (y : B) → W (ts ++ behind) → (r >>= f).whole l ts behind y → (p >>= f).whole l ts behind y
  back_first l ts behind y h (x, us, vs, e, w, v) = (x, us, vs, e, a.back l us (vs ++ behind) x (split_known ts us vs behind e h) w, v)

  begun_first : (l : ℕ) (ts : List Piece) → W ts → (p >>= f).front l ts → (r >>= f).front l ts
  begun_first l ts h (inl k) = inl (a.begun l ts h k)
  begun_first l ts h (inr (x, us, vs, e, w, k)) = inr (x, us, vs, e, a.to l us vs x (subst W e h) w, k)

  begun_back_first : (l : ℕ) (ts : List Piece) → W ts → (r >>= f).front l ts → (p >>= f).front l ts
  begun_back_first l ts h (inl k) = inl (a.begun_back l ts h k)
  begun_back_first l ts h (inr (x, us, vs, e, w, k)) = inr (x, us, vs, e, a.back l us vs x (subst W e h) w, k)

  pub first-Alike : Alike W (p >>= f) (r >>= f)
  first-Alike = record { to = to_first; back = back_first; begun = begun_first; begun_back = begun_back_first }

-- what is known of each value of the first
module _ {A B : Type 0} (W : Where) (p : Production A) {f g : A → Production B} (K : A → Type 0)
    (known : (l : ℕ) (ts behind : List Piece) (x : A) → p.whole l ts behind x → K x) (a : (x : A) → K x → Alike Any (f x) (g x)) where
  to_second : (l : ℕ) (ts behind : List Piece) (y : B) → W (ts ++ behind) → (p >>= f).whole l ts behind y → (p >>= g).whole l ts behind y
  to_second l ts behind y h (x, us, vs, e, w, v) = (x, us, vs, e, w, (a x (known l us (vs ++ behind) x w)).to l vs behind y tt v)

  back_second : (l : ℕ) (ts behind : List Piece) (y : B) → W (ts ++ behind) → (p >>= g).whole l ts behind y → (p >>= f).whole l ts behind y
  back_second l ts behind y h (x, us, vs, e, w, v) = (x, us, vs, e, w, (a x (known l us (vs ++ behind) x w)).back l vs behind y tt v)

  begun_second : (l : ℕ) (ts : List Piece) → W ts → (p >>= f).front l ts → (p >>= g).front l ts
  begun_second l ts h (inl k) = inl k
  begun_second l ts h (inr (x, us, vs, e, w, k)) = inr (x, us, vs, e, w, (a x (known l us vs x w)).begun l vs tt k)

  begun_back_second : (l : ℕ) (ts : List Piece) → W ts → (p >>= g).front l ts → (p >>= f).front l ts
  begun_back_second l ts h (inl k) = inl k
  begun_back_second l ts h (inr (x, us, vs, e, w, k)) = inr (x, us, vs, e, w, (a x (known l us vs x w)).begun_back l vs tt k)

  pub known-Alike : Alike W (p >>= f) (p >>= g)
  known-Alike = record { to = to_second; back = back_second; begun = begun_second; begun_back = begun_back_second }

pub second-Alike : {A B : Type 0} (W : Where) (p : Production A) {f g : A → Production B} → ((x : A) → Alike Any (f x) (g x)) → Alike W (p >>= f) (p >>= g)
second-Alike W p a = known-Alike W p (λ x. Unit {0}) (λ l ts behind x w. tt) (λ x k. a x)

pub regrouped : {A B C : Type 0} (W : Where) (p : Production A) (f : A → Production B) (g : B → Production C) → Alike W ((p >>= f) >>= g) (p >>= (λ x. f x >>= g))
regrouped W p f g = record {
  to = λ l ts behind z h w. right_whole p f g l ts behind z w;
  back = λ l ts behind z h w. left_whole p f g l ts behind z w;
  begun = λ l ts h k. right_front p f g l ts k;
  begun_back = λ l ts h k. left_front p f g l ts k;
}

-- no token, then a production
module _ {A B : Type 0} (W : Where) (x : A) (f : A → Production B) (starts : (l : ℕ) → (f x).front l []) where
  to_given : (l : ℕ) (ts behind : List Piece) (y : B) → W (ts ++ behind) → (give x >>= f).whole l ts behind y → (f x).whole l ts behind y
  to_given l ts behind y h (z, us, vs, e, (none, same), v) =
      subst (λ (s : List Piece). (f x).whole l s behind y) (sym (e ∙ ap (λ (s : List Piece). s ++ vs) none))
      (subst (λ (z' : A). (f z').whole l vs behind y) same v)

  begun_given : (l : ℕ) (ts : List Piece) → W ts → (give x >>= f).front l ts → (f x).front l ts
  begun_given l ts h (inl none) = subst (λ (s : List Piece). (f x).front l s) (sym none) (starts l)
  begun_given l ts h (inr (z, us, vs, e, (none, same), k)) =
      subst (λ (s : List Piece). (f x).front l s) (sym (e ∙ ap (λ (s : List Piece). s ++ vs) none))
      (subst (λ (z' : A). (f z').front l vs) same k)

  pub given-Alike : Alike W (give x >>= f) (f x)
  given-Alike = record {
    to = to_given;
    back = λ l ts behind y h v. (x, [], ts, refl, (refl, refl), v);
    begun = begun_given;
    begun_back = λ l ts h k. inr (x, [], ts, refl, (refl, refl), k);
  }

module _ {A : Type 0} {W : Where} (q : Piece → Bool) (a b : Production A) where
  pub take-Alike : ((ts : List Piece) → W ts → begins q ts ≡ true) → Alike W (when q a b) a
  take-Alike h = record {
    to = λ l ts behind x k w. subst (λ (c : Bool). Chosen c (a.whole l ts behind x) (b.whole l ts behind x)) (h (ts ++ behind) k) w;
    back = λ l ts behind x k w. when_first q a b l ts behind x (h (ts ++ behind) k) w;
    begun = λ l ts k f. subst (λ (c : Bool). Chosen c (a.front l ts) (b.front l ts)) (h ts k) f;
    begun_back = λ l ts k f. first_front q a b l ts (h ts k) f;
  }

  pub skip-Alike : ((ts : List Piece) → W ts → begins q ts ≡ false) → Alike W (when q a b) b
  skip-Alike h = record {
    to = λ l ts behind x k w. subst (λ (c : Bool). Chosen c (a.whole l ts behind x) (b.whole l ts behind x)) (h (ts ++ behind) k) w;
    back = λ l ts behind x k w. when_second q a b l ts behind x (h (ts ++ behind) k) w;
    begun = λ l ts k f. subst (λ (c : Bool). Chosen c (a.front l ts) (b.front l ts)) (h ts k) f;
    begun_back = λ l ts k f. second_front q a b l ts (h ts k) f;
  }

module _ {A : Type 0} {W : Where} (q : Piece → Bool) {a a' b b' : Production A} (ha : Alike W a a') (hb : Alike W b b') where
  pub when-Alike : Alike W (when q a b) (when q a' b')
  when-Alike = record {
    to = λ l ts behind x h w. to (begins q (ts ++ behind)) l ts behind x h w;
    back = λ l ts behind x h w. back (begins q (ts ++ behind)) l ts behind x h w;
    begun = λ l ts h k. begun (begins q ts) l ts h k;
    begun_back = λ l ts h k. begun_back (begins q ts) l ts h k;
  }
    where
      to : (c : Bool) (l : ℕ) (ts behind : List Piece) (x : A) → W (ts ++ behind) → Chosen c (a.whole l ts behind x) (b.whole l ts behind x) → Chosen c (a'.whole l ts behind x) (b'.whole l ts behind x)
      to true l ts behind x h w = ha.to l ts behind x h w
      to false l ts behind x h w = hb.to l ts behind x h w

      back : (c : Bool) (l : ℕ) (ts behind : List Piece) (x : A) → W (ts ++ behind) → Chosen c (a'.whole l ts behind x) (b'.whole l ts behind x) → Chosen c (a.whole l ts behind x) (b.whole l ts behind x)
      back true l ts behind x h w = ha.back l ts behind x h w
      back false l ts behind x h w = hb.back l ts behind x h w

      begun : (c : Bool) (l : ℕ) (ts : List Piece) → W ts → Chosen c (a.front l ts) (b.front l ts) → Chosen c (a'.front l ts) (b'.front l ts)
      begun true l ts h k = ha.begun l ts h k
      begun false l ts h k = hb.begun l ts h k

      begun_back : (c : Bool) (l : ℕ) (ts : List Piece) → W ts → Chosen c (a'.front l ts) (b'.front l ts) → Chosen c (a.front l ts) (b.front l ts)
      begun_back true l ts h k = ha.begun_back l ts h k
      begun_back false l ts h k = hb.begun_back l ts h k

-- what stands behind both of two productions stands behind each
module _ {A B : Type 0} (W : Where) (q : Piece → Bool) (a b : Production A) (f : A → Production B) where
  moved : (ts us vs behind : List Piece) → ts ≡ us ++ vs → begins q (ts ++ behind) ≡ begins q (us ++ (vs ++ behind))
  moved ts us vs behind e = ap (λ (s : List Piece). begins q s) (ap (λ (s : List Piece). s ++ behind) e ∙ append_assoc us vs behind)

  to_shared : (l : ℕ) (ts behind : List Piece) (y : B) → (when q a b >>= f).whole l ts behind y → (when q (a >>= f) (b >>= f)).whole l ts behind y
  to_shared l ts behind y (x, us, vs, e, w, v) =
      subst (λ (c : Bool). Chosen c ((a >>= f).whole l ts behind y) ((b >>= f).whole l ts behind y)) (sym (moved ts us vs behind e)) (go (begins q (us ++ (vs ++ behind))) w)
    where
      go : (c : Bool) → Chosen c (a.whole l us (vs ++ behind) x) (b.whole l us (vs ++ behind) x) → Chosen c ((a >>= f).whole l ts behind y) ((b >>= f).whole l ts behind y)
      go true w = (x, us, vs, e, w, v)
      go false w = (x, us, vs, e, w, v)

  back_shared : (l : ℕ) (ts behind : List Piece) (y : B) (c : Bool) → begins q (ts ++ behind) ≡ c → Chosen c ((a >>= f).whole l ts behind y) ((b >>= f).whole l ts behind y) → (when q a b >>= f).whole l ts behind y
  back_shared l ts behind y true d (x, us, vs, e, w, v) = (x, us, vs, e, when_first q a b l us (vs ++ behind) x (sym (moved ts us vs behind e) ∙ d) w, v)
  back_shared l ts behind y false d (x, us, vs, e, w, v) = (x, us, vs, e, when_second q a b l us (vs ++ behind) x (sym (moved ts us vs behind e) ∙ d) w, v)

  begun_shared : (l : ℕ) (ts : List Piece) → (when q a b >>= f).front l ts → (when q (a >>= f) (b >>= f)).front l ts
  begun_shared l ts (inl k) = go (begins q ts) k
    where
      go : (c : Bool) → Chosen c (a.front l ts) (b.front l ts) → Chosen c ((a >>= f).front l ts) ((b >>= f).front l ts)
      go true k = inl k
      go false k = inl k
  begun_shared l ts (inr (x, us, vs, e, w, k)) =
      subst (λ (c : Bool). Chosen c ((a >>= f).front l ts) ((b >>= f).front l ts)) (sym (ap (λ (s : List Piece). begins q s) e)) (go (begins q (us ++ vs)) w)
    where
      go : (c : Bool) → Chosen c (a.whole l us vs x) (b.whole l us vs x) → Chosen c ((a >>= f).front l ts) ((b >>= f).front l ts)
      go true w = inr (x, us, vs, e, w, k)
      go false w = inr (x, us, vs, e, w, k)

  begun_back_shared : (l : ℕ) (ts : List Piece) (c : Bool) → begins q ts ≡ c → Chosen c ((a >>= f).front l ts) ((b >>= f).front l ts) → (when q a b >>= f).front l ts
  begun_back_shared l ts true d (inl k) = inl (first_front q a b l ts d k)
  begun_back_shared l ts true d (inr (x, us, vs, e, w, k)) = inr (x, us, vs, e, when_first q a b l us vs x (sym (ap (λ (s : List Piece). begins q s) e) ∙ d) w, k)
  begun_back_shared l ts false d (inl k) = inl (second_front q a b l ts d k)
  begun_back_shared l ts false d (inr (x, us, vs, e, w, k)) = inr (x, us, vs, e, when_second q a b l us vs x (sym (ap (λ (s : List Piece). begins q s) e) ∙ d) w, k)

  pub shared : Alike W (when q a b >>= f) (when q (a >>= f) (b >>= f))
  shared = record {
    to = λ l ts behind y h w. to_shared l ts behind y w;
    back = λ l ts behind y h w. back_shared l ts behind y (begins q (ts ++ behind)) refl w;
    begun = λ l ts h k. begun_shared l ts k;
    begun_back = λ l ts h k. begun_back_shared l ts (begins q ts) refl k;
  }

-- a token of a narrower kind
pub narrower : (load : ℕ) (q r : Piece → Bool) → ((t : Piece) → q t ≡ true → r t ≡ true) → Alike (First q) (token load r) (token load q)
unfolding begins
narrower load q r h = record { to = to; back = λ l ts behind t k w. (w.0, h t w.1, w.2); begun = begun; begun_back = begun_back }
  where
    to : (l : ℕ) (ts behind : List Piece) (t : Piece) → First q (ts ++ behind) → (token load r).whole l ts behind t → (token load q).whole l ts behind t
    to l ts behind t k (e, fits, low) = (e, sym (ap (λ (s : List Piece). begins q (s ++ behind)) e) ∙ k, low)

    begun : (l : ℕ) (ts : List Piece) → First q ts → (token load r).front l ts → (token load q).front l ts
    begun l ts k (inl e) = inl e
    begun l ts k (inr (t, e, fits, low)) = inr (t, e, sym (ap (λ (s : List Piece). begins q s) e) ∙ k, low)

    begun_back : (l : ℕ) (ts : List Piece) → First q ts → (token load q).front l ts → (token load r).front l ts
    begun_back l ts k (inl e) = inl e
    begun_back l ts k (inr (t, e, fits, low)) = inr (t, e, h t fits, low)

-- values that are one
pub one_value : {A : Type 0} (W : Where) (x y : A) → x ≡ y → Alike W (give x) (give y)
one_value W x y e = subst (λ z. Alike W (give x) (give z)) e (alike W (give x))

-- what holds of a value, and of each that a turn of a repetition gives, holds of what the repetition gives
module _ {A : Type 0} (q : Piece → Bool) (step : A → Production A) (K : A → Type 0) (keeps : (x y : A) (l : ℕ) (ts behind : List Piece) → (step x).whole l ts behind y → K y) where
  turn_keeps : (x : A) → K x → (l : ℕ) (ts behind : List Piece) (y : A) (more : A → Production A) → ((z : A) → K z → (vs behind' : List Piece) → (more z).whole l vs behind' y → K y) → (step x >>= more).whole l ts behind y ⊎ (give x).whole l ts behind y
      → K y
  turn_keeps x k l ts behind y more h (inl (z, us, vs, e, w, v)) = h z (keeps x z l us (vs ++ behind) w) vs behind v
  turn_keeps x k l ts behind y more h (inr (e, same)) = subst K (sym same) k

  times_keep : (n : ℕ) (x : A) → K x → (l : ℕ) (ts behind : List Piece) (y : A) → (times n q step x).whole l ts behind y → K y
  times_keep zero x k l ts behind y w = absurd w
  times_keep (suc n) x k l ts behind y w =
      turn_keeps x k l ts behind y (times n q step) (λ z h vs behind' v. times_keep n z h l vs behind' y v) (when_cases q (step x >>= times n q step) (give x) l ts behind y w)

  pub repeat_keeps : (x : A) → K x → (l : ℕ) (ts behind : List Piece) (y : A) → (repeat q step x).whole l ts behind y → K y
  repeat_keeps x k l ts behind y (n, w) = times_keep n x k l ts behind y w

-- ---- the first tokens of productions

-- no piece is of both kinds
abbrev pub Never : (r q : Piece → Bool) → Type 0
Never r q = (t : Piece) → r t ≡ true → q t ≡ false

pub never_begins : {r q : Piece → Bool} → Never r q → (ts : List Piece) → First r ts → begins q ts ≡ false
never_begins {r} {q} h ts e = no_other q r h ts e

-- the first piece is not of a kind
pub record Avoids {A : Type 0} (q : Piece → Bool) (p : Production A) : Type 0 where
  pub trees : (l : ℕ) (ts behind : List Piece) (x : A) → p.whole l ts behind x → begins q ts ≡ false
  pub beginnings : (l : ℕ) (ts : List Piece) → p.front l ts → begins q ts ≡ false

module _ (q : Piece → Bool) where
  none_avoids : (ts : List Piece) → ts ≡ [] → begins q ts ≡ false
  none_avoids ts e = ap (λ (s : List Piece). begins q s) e ∙ begins_none q

  one_avoids : (t : Piece) (ts : List Piece) → ts ≡ t ∷ [] → q t ≡ false → begins q ts ≡ false
  unfolding begins
  one_avoids t ts e h = ap (λ (s : List Piece). begins q s) e ∙ h

  two_avoid : (us vs : List Piece) → begins q us ≡ false → begins q vs ≡ false → begins q (us ++ vs) ≡ false
  unfolding begins
  two_avoid [] vs a b = b
  two_avoid (u ∷ us) vs a b = a

  pub avoided_behind : (ts behind : List Piece) → begins q ts ≡ false → begins q behind ≡ false → begins q (ts ++ behind) ≡ false
  avoided_behind ts behind a b = two_avoid ts behind a b

  pub give-Avoids : {A : Type 0} (x : A) → Avoids q (give x)
  give-Avoids x = record { trees = λ l ts behind y w. none_avoids ts w.0; beginnings = λ l ts k. none_avoids ts k }

  pub token-Avoids : (load : ℕ) (r : Piece → Bool) → Never r q → Avoids q (token load r)
  token-Avoids load r h = record { trees = λ l ts behind t w. one_avoids t ts w.0 (h t w.1); beginnings = front }
    where
      front : (l : ℕ) (ts : List Piece) → (token load r).front l ts → begins q ts ≡ false
      front l ts (inl e) = none_avoids ts e
      front l ts (inr (t, e, fits, low)) = one_avoids t ts e (h t fits)

  pub then-Avoids : {A B : Type 0} {p : Production A} {f : A → Production B} → Avoids q p → ((x : A) → Avoids q (f x)) → Avoids q (p >>= f)
  then-Avoids {A} {B} {p} {f} hp hf = record { trees = whole; beginnings = front }
    where
      parts : (ts us vs : List Piece) → ts ≡ us ++ vs → begins q us ≡ false → begins q vs ≡ false → begins q ts ≡ false
      parts ts us vs e a b = ap (λ (s : List Piece). begins q s) e ∙ two_avoid us vs a b

      whole : (l : ℕ) (ts behind : List Piece) (y : B) → (p >>= f).whole l ts behind y → begins q ts ≡ false
      whole l ts behind y (x, us, vs, e, w, v) = parts ts us vs e (hp.trees l us (vs ++ behind) x w) ((hf x).trees l vs behind y v)

      front : (l : ℕ) (ts : List Piece) → (p >>= f).front l ts → begins q ts ≡ false
      front l ts (inl k) = hp.beginnings l ts k
      front l ts (inr (x, us, vs, e, w, k)) = parts ts us vs e (hp.trees l us vs x w) ((hf x).beginnings l vs k)

  -- what is behind a tree that is not empty may begin with anything
  pub filled-Avoids : {A B : Type 0} {p : Production A} (f : A → Production B) → Filled p → Avoids q p → Avoids q (p >>= f)
  unfolding begins
  filled-Avoids {A} {B} {p} f fp hp = record { trees = whole; beginnings = front }
    where
      longer : (l : ℕ) (us vs behind : List Piece) (x : A) → p.whole l us behind x → begins q us ≡ false → begins q (us ++ vs) ≡ false
      longer l [] vs behind x w e = absurd (fp.filled l behind x w)
      longer l (u ∷ us) vs behind x w e = e

      whole : (l : ℕ) (ts behind : List Piece) (y : B) → (p >>= f).whole l ts behind y → begins q ts ≡ false
      whole l ts behind y (x, us, vs, e, w, v) = ap (λ (s : List Piece). begins q s) e ∙ longer l us vs (vs ++ behind) x w (hp.trees l us (vs ++ behind) x w)

      front : (l : ℕ) (ts : List Piece) → (p >>= f).front l ts → begins q ts ≡ false
      front l ts (inl k) = hp.beginnings l ts k
      front l ts (inr (x, us, vs, e, w, k)) = ap (λ (s : List Piece). begins q s) e ∙ longer l us vs vs x w (hp.trees l us vs x w)

  pub when-Avoids : {A : Type 0} (r : Piece → Bool) {a b : Production A} → Avoids q a → Avoids q b → Avoids q (when r a b)
  when-Avoids {A} r {a} {b} ha hb = record { trees = λ l ts behind x w. whole (begins r (ts ++ behind)) l ts behind x w; beginnings = λ l ts k. front (begins r ts) l ts k }
    where
      whole : (c : Bool) (l : ℕ) (ts behind : List Piece) (x : A) → Chosen c (a.whole l ts behind x) (b.whole l ts behind x) → begins q ts ≡ false
      whole true l ts behind x w = ha.trees l ts behind x w
      whole false l ts behind x w = hb.trees l ts behind x w

      front : (c : Bool) (l : ℕ) (ts : List Piece) → Chosen c (a.front l ts) (b.front l ts) → begins q ts ≡ false
      front true l ts k = ha.beginnings l ts k
      front false l ts k = hb.beginnings l ts k

  pub given-Avoids : {A : Type 0} (c : Bool) {a b : Production A} → Avoids q a → Avoids q b → Avoids q (given c a b)
  given-Avoids true ha hb = ha
  given-Avoids false ha hb = hb

pub ruleset avoiding = (give-Avoids, token-Avoids, then-Avoids, when-Avoids, given-Avoids)

pub begins_left : (q r : Piece → Bool) (ts : List Piece) → begins q ts ≡ true → begins (λ t. q t || r t) ts ≡ true
unfolding begins
begins_left q r [] e = e
begins_left q r (t ∷ ts) e = ap (λ (z : Bool). z || r t) e

pub begins_right : (q r : Piece → Bool) (ts : List Piece) → begins r ts ≡ true → begins (λ t. q t || r t) ts ≡ true
unfolding begins
begins_right q r [] e = e
begins_right q r (t ∷ ts) e = go (q t)
  where
    go : (z : Bool) → (z || r t) ≡ true
    go true = refl
    go false = e

pub begins_neither : (q r : Piece → Bool) (ts : List Piece) → begins q ts ≡ false → begins r ts ≡ false → begins (λ t. q t || r t) ts ≡ false
unfolding begins
begins_neither q r [] e d = refl
begins_neither q r (t ∷ ts) e d = ap (λ (z : Bool). z || r t) e ∙ d

-- where one of two productions is chosen, what begins the one or the other begins it
module _ {A : Type 0} (s q r : Piece → Bool) {a b : Production A} where
  pub both-Starts : Starts q a → Starts r b → Starts (λ t. q t || r t) (when s a b)
  both-Starts ha hb = record { begins_so = λ l ts behind x w. whole (begins s (ts ++ behind)) l ts behind x w; begun_so = λ l ts k. front (begins s ts) l ts k }
    where
      left : (ts : List Piece) → (ts ≡ []) ⊎ (begins q ts ≡ true) → (ts ≡ []) ⊎ (begins (λ t. q t || r t) ts ≡ true)
      left ts (inl e) = inl e
      left ts (inr e) = inr (begins_left q r ts e)

      right : (ts : List Piece) → (ts ≡ []) ⊎ (begins r ts ≡ true) → (ts ≡ []) ⊎ (begins (λ t. q t || r t) ts ≡ true)
      right ts (inl e) = inl e
      right ts (inr e) = inr (begins_right q r ts e)

      whole : (c : Bool) (l : ℕ) (ts behind : List Piece) (x : A) → Chosen c (a.whole l ts behind x) (b.whole l ts behind x) → begins (λ t. q t || r t) (ts ++ behind) ≡ true
      whole true l ts behind x w = begins_left q r (ts ++ behind) (ha.begins_so l ts behind x w)
      whole false l ts behind x w = begins_right q r (ts ++ behind) (hb.begins_so l ts behind x w)

      front : (c : Bool) (l : ℕ) (ts : List Piece) → Chosen c (a.front l ts) (b.front l ts) → (ts ≡ []) ⊎ (begins (λ t. q t || r t) ts ≡ true)
      front true l ts k = left ts (ha.begun_so l ts k)
      front false l ts k = right ts (hb.begun_so l ts k)

-- ... and so does what chooses
module _ {A : Type 0} (q r : Piece → Bool) (a : Production A) {b : Production A} where
  pub chosen-Starts : Starts r b → Starts (λ t. q t || r t) (when q a b)
  chosen-Starts hb = record { begins_so = λ l ts behind x w. whole l ts behind x (begins q (ts ++ behind)) refl w; begun_so = λ l ts k. front l ts (begins q ts) refl k }
    where
      right : (ts : List Piece) → (ts ≡ []) ⊎ (begins r ts ≡ true) → (ts ≡ []) ⊎ (begins (λ t. q t || r t) ts ≡ true)
      right ts (inl e) = inl e
      right ts (inr e) = inr (begins_right q r ts e)

      whole : (l : ℕ) (ts behind : List Piece) (x : A) (c : Bool) → begins q (ts ++ behind) ≡ c → Chosen c (a.whole l ts behind x) (b.whole l ts behind x) → begins (λ t. q t || r t) (ts ++ behind) ≡ true
      whole l ts behind x true e w = begins_left q r (ts ++ behind) e
      whole l ts behind x false e w = begins_right q r (ts ++ behind) (hb.begins_so l ts behind x w)

      front : (l : ℕ) (ts : List Piece) (c : Bool) → begins q ts ≡ c → Chosen c (a.front l ts) (b.front l ts) → (ts ≡ []) ⊎ (begins (λ t. q t || r t) ts ≡ true)
      front l ts true e k = inr (begins_left q r ts e)
      front l ts false e k = right ts (hb.begun_so l ts k)

-- ---- a production is as it is printed where its tokens begin in some way

pub record PrintedWhere {A : Type 0} (W : Where) (goes_on : Piece → Bool) (p : Production A) (r : Relation A) : Type 0 where
  pub to : (l : ℕ) (ts behind : List Piece) (x : A) → W (ts ++ behind) → begins goes_on behind ≡ false → p.whole l ts behind x → r.whole l ts behind x
  pub back : (l : ℕ) (ts behind : List Piece) (x : A) → W (ts ++ behind) → begins goes_on behind ≡ false → r.whole l ts behind x → p.whole l ts behind x
  pub begun : (l : ℕ) (ts : List Piece) → W ts → p.front l ts → r.front l ts
  pub begun_back : (l : ℕ) (ts : List Piece) → W ts → r.front l ts → p.front l ts

pub everywhere : {A : Type 0} {goes_on : Piece → Bool} {p : Production A} {r : Relation A} → PrintedWhere Any goes_on p r → IsAsPrinted p goes_on r
everywhere h = record {
  same_trees = λ l ts behind x e. (λ w. h.to l ts behind x tt e w, λ w. h.back l ts behind x tt e w);
  same_beginnings = λ l ts. (λ k. h.begun l ts tt k, λ k. h.begun_back l ts tt k);
}

-- by cases of the first token
module _ {A : Type 0} {W : Where} {goes_on : Piece → Bool} (q : Piece → Bool) {a b : Production A} {r : Relation A} where
  pub by_first : PrintedWhere (First q) goes_on a r → PrintedWhere (λ ts. W ts × (begins q ts ≡ false)) goes_on b r → PrintedWhere W goes_on (when q a b) r
  by_first ha hb = record {
    to = λ l ts behind x h n w. to l ts behind x h n (begins q (ts ++ behind)) refl w;
    back = λ l ts behind x h n w. back l ts behind x h n (begins q (ts ++ behind)) refl w;
    begun = λ l ts h k. begun l ts h (begins q ts) refl k;
    begun_back = λ l ts h k. begun_back l ts h (begins q ts) refl k;
  }
    where
      to : (l : ℕ) (ts behind : List Piece) (x : A) → W (ts ++ behind) → begins goes_on behind ≡ false → (c : Bool) → begins q (ts ++ behind) ≡ c → Chosen c (a.whole l ts behind x) (b.whole l ts behind x) → r.whole l ts behind x
      to l ts behind x h n true e w = ha.to l ts behind x e n w
      to l ts behind x h n false e w = hb.to l ts behind x (h, e) n w

      back : (l : ℕ) (ts behind : List Piece) (x : A) → W (ts ++ behind) → begins goes_on behind ≡ false → (c : Bool) → begins q (ts ++ behind) ≡ c → r.whole l ts behind x → Chosen c (a.whole l ts behind x) (b.whole l ts behind x)
      back l ts behind x h n true e w = ha.back l ts behind x e n w
      back l ts behind x h n false e w = hb.back l ts behind x (h, e) n w

      begun : (l : ℕ) (ts : List Piece) → W ts → (c : Bool) → begins q ts ≡ c → Chosen c (a.front l ts) (b.front l ts) → r.front l ts
      begun l ts h true e k = ha.begun l ts e k
      begun l ts h false e k = hb.begun l ts (h, e) k

      begun_back : (l : ℕ) (ts : List Piece) → W ts → (c : Bool) → begins q ts ≡ c → r.front l ts → Chosen c (a.front l ts) (b.front l ts)
      begun_back l ts h true e k = ha.begun_back l ts e k
      begun_back l ts h false e k = hb.begun_back l ts (h, e) k

pub printed_alike : {A : Type 0} {W : Where} (goes_on : Piece → Bool) {p s : Production A} → Alike W p s → PrintedWhere W goes_on p (trees_of s)
printed_alike goes_on a = record { to = λ l ts behind x h n w. a.to l ts behind x h w; back = λ l ts behind x h n w. a.back l ts behind x h w; begun = a.begun; begun_back = a.begun_back }

-- an alternative that has no tree there, and no beginning but those of another
pub record Idle {A : Type 0} (W : Where) (r other : Relation A) : Type 0 where
  pub no_tree : (l : ℕ) (ts behind : List Piece) (x : A) → W (ts ++ behind) → r.whole l ts behind x → ⊥
  pub no_beginning : (l : ℕ) (ts : List Piece) → W ts → r.front l ts → other.front l ts

pub starts-Idle : {A : Type 0} {W : Where} (q : Piece → Bool) {p : Production A} {other : Relation A} → Starts q p → ((ts : List Piece) → W ts → begins q ts ≡ false) → ((l : ℕ) → other.front l []) → Idle W (trees_of p) other
starts-Idle {A} {W} q {p} {other} s h starts = record { no_tree = λ l ts behind x k w. true≢false (sym (s.begins_so l ts behind x w) ∙ h (ts ++ behind) k); no_beginning = λ l ts k f. go l ts k (s.begun_so l ts f) }
  where
    go : (l : ℕ) (ts : List Piece) → W ts → (ts ≡ []) ⊎ (begins q ts ≡ true) → other.front l ts
    go l ts k (inl e) = subst (λ (z : List Piece). other.front l z) (sym e) (starts l)
    go l ts k (inr e) = absurd (true≢false (sym e ∙ h ts k))

module _ {A : Type 0} {W : Where} {goes_on : Piece → Bool} {p : Production A} {s t : Relation A} where
  pub only_first : PrintedWhere W goes_on p s → Idle W t s → PrintedWhere W goes_on p (or s t)
  only_first a i = record { to = λ l ts behind x h n w. inl (a.to l ts behind x h n w); back = back; begun = λ l ts h k. inl (a.begun l ts h k); begun_back = begun_back }
    where
      back : (l : ℕ) (ts behind : List Piece) (x : A) → W (ts ++ behind) → begins goes_on behind ≡ false → s.whole l ts behind x ⊎ t.whole l ts behind x → p.whole l ts behind x
      back l ts behind x h n (inl w) = a.back l ts behind x h n w
      back l ts behind x h n (inr w) = absurd (i.no_tree l ts behind x h w)

      begun_back : (l : ℕ) (ts : List Piece) → W ts → s.front l ts ⊎ t.front l ts → p.front l ts
      begun_back l ts h (inl k) = a.begun_back l ts h k
      begun_back l ts h (inr k) = a.begun_back l ts h (i.no_beginning l ts h k)

  pub exchanged : PrintedWhere W goes_on p (or s t) → PrintedWhere W goes_on p (or t s)
  exchanged a = record {
    to = λ l ts behind x h n w. turn (a.to l ts behind x h n w);
    back = λ l ts behind x h n w. a.back l ts behind x h n (turn w);
    begun = λ l ts h k. turn (a.begun l ts h k);
    begun_back = λ l ts h k. a.begun_back l ts h (turn k);
  }
    where
      turn : {P Q : Type 0} → P ⊎ Q → Q ⊎ P
      turn (inl w) = inr w
      turn (inr w) = inl w

pub only_second : {A : Type 0} {W : Where} {goes_on : Piece → Bool} {p : Production A} {s t : Relation A} → PrintedWhere W goes_on p t → Idle W s t → PrintedWhere W goes_on p (or s t)
only_second a i = exchanged (only_first a i)

-- neither the first piece nor the next one is of a kind, where what goes on does not stand behind the pieces
pub record Apart {A : Type 0} (goes_on q : Piece → Bool) (p : Production A) : Type 0 where
  pub trees : (l : ℕ) (ts behind : List Piece) (x : A) → begins goes_on behind ≡ false → p.whole l ts behind x → begins q (ts ++ behind) ≡ false
  pub beginnings : (l : ℕ) (ts : List Piece) → p.front l ts → begins q ts ≡ false

pub avoids-Apart : {A : Type 0} {goes_on q : Piece → Bool} {p : Production A} → ((ts : List Piece) → begins goes_on ts ≡ false → begins q ts ≡ false) → Avoids q p → Apart goes_on q p
avoids-Apart {q} h a = record { trees = λ l ts behind x n w. avoided_behind q ts behind (a.trees l ts behind x w) (h behind n); beginnings = a.beginnings }

-- a tree that is not empty
pub filled-Apart : {A : Type 0} {goes_on q : Piece → Bool} {p : Production A} → Filled p → Avoids q p → Apart goes_on q p
unfolding begins
filled-Apart {A} {goes_on} {q} {p} f a = record { trees = λ l ts behind x n w. go l ts behind x w (a.trees l ts behind x w); beginnings = a.beginnings }
  where
    go : (l : ℕ) (ts behind : List Piece) (x : A) → p.whole l ts behind x → begins q ts ≡ false → begins q (ts ++ behind) ≡ false
    go l [] behind x w e = absurd (f.filled l behind x w)
    go l (t ∷ ts) behind x w e = e

pub or-Idle : {A : Type 0} {W : Where} {r s other : Relation A} → Idle W r other → Idle W s other → Idle W (or r s) other
or-Idle {A} {W} {r} {s} {other} a b = record { no_tree = no_tree; no_beginning = no_beginning }
  where
    no_tree : (l : ℕ) (ts behind : List Piece) (x : A) → W (ts ++ behind) → r.whole l ts behind x ⊎ s.whole l ts behind x → ⊥
    no_tree l ts behind x h (inl w) = a.no_tree l ts behind x h w
    no_tree l ts behind x h (inr w) = b.no_tree l ts behind x h w

    no_beginning : (l : ℕ) (ts : List Piece) → W ts → r.front l ts ⊎ s.front l ts → other.front l ts
    no_beginning l ts h (inl k) = a.no_beginning l ts h k
    no_beginning l ts h (inr k) = b.no_beginning l ts h k

-- a token, then something: it has no tree where another token stands
pub behind-Idle : {B : Type 0} {W : Where} (load : ℕ) (q : Piece → Bool) (r : Piece → Relation B) {other : Relation B} → ((ts : List Piece) → W ts → begins q ts ≡ false) → ((l : ℕ) → other.front l [])
    → Idle W (relation.◌>>=◌ (trees_of (token load q)) r) other
unfolding begins
behind-Idle {B} {W} load q r {other} h starts = record { no_tree = no_tree; no_beginning = no_beginning }
  where
    never : (ts vs behind : List Piece) (t : Piece) → ts ≡ t ∷ vs → q t ≡ true → W (ts ++ behind) → ⊥
    never ts vs behind t e fits k = true≢false (sym fits ∙ sym (ap (λ (s : List Piece). begins q (s ++ behind)) e) ∙ h (ts ++ behind) k)

    no_tree : (l : ℕ) (ts behind : List Piece) (x : B) → W (ts ++ behind) → (relation.◌>>=◌ (trees_of (token load q)) r).whole l ts behind x → ⊥
    no_tree l ts behind x k (t, us, vs, e, (d, fits, low), w) = never ts vs behind t (e ∙ ap (λ (s : List Piece). s ++ vs) d) fits k

    here : (ts vs : List Piece) (t : Piece) → ts ≡ t ∷ vs → q t ≡ true → W ts → ⊥
    here ts vs t e fits k = true≢false (sym fits ∙ sym (ap (λ (s : List Piece). begins q s) e) ∙ h ts k)

    no_beginning : (l : ℕ) (ts : List Piece) → W ts → (relation.◌>>=◌ (trees_of (token load q)) r).front l ts → other.front l ts
    no_beginning l ts k (inl (inl e)) = subst (λ (z : List Piece). other.front l z) (sym e) (starts l)
    no_beginning l ts k (inl (inr (t, e, fits, low))) = absurd (here ts [] t e fits k)
    no_beginning l ts k (inr (t, us, vs, e, (d, fits, low), f)) = absurd (here ts vs t (e ∙ ap (λ (s : List Piece). s ++ vs) d) fits k)

-- the first alternative is printed otherwise
pub first_alternative : {A : Type 0} {W : Where} {goes_on : Piece → Bool} {p s s' : Production A} {r : Relation A} → Alike W s s' → PrintedWhere W goes_on p (or (trees_of s') r) → PrintedWhere W goes_on p (or (trees_of s) r)
first_alternative {A} {W} {goes_on} {p} {s} {s'} {r} a h = record {
  to = λ l ts behind x k n w. to l ts behind x k (h.to l ts behind x k n w);
  back = λ l ts behind x k n w. h.back l ts behind x k n (back l ts behind x k w);
  begun = λ l ts k f. begun l ts k (h.begun l ts k f);
  begun_back = λ l ts k f. h.begun_back l ts k (begun_back l ts k f);
}
  where
    to : (l : ℕ) (ts behind : List Piece) (x : A) → W (ts ++ behind) → s'.whole l ts behind x ⊎ r.whole l ts behind x → s.whole l ts behind x ⊎ r.whole l ts behind x
    to l ts behind x k (inl w) = inl (a.back l ts behind x k w)
    to l ts behind x k (inr w) = inr w

    back : (l : ℕ) (ts behind : List Piece) (x : A) → W (ts ++ behind) → s.whole l ts behind x ⊎ r.whole l ts behind x → s'.whole l ts behind x ⊎ r.whole l ts behind x
    back l ts behind x k (inl w) = inl (a.to l ts behind x k w)
    back l ts behind x k (inr w) = inr w

    begun : (l : ℕ) (ts : List Piece) → W ts → s'.front l ts ⊎ r.front l ts → s.front l ts ⊎ r.front l ts
    begun l ts k (inl f) = inl (a.begun_back l ts k f)
    begun l ts k (inr f) = inr f

    begun_back : (l : ℕ) (ts : List Piece) → W ts → s.front l ts ⊎ r.front l ts → s'.front l ts ⊎ r.front l ts
    begun_back l ts k (inl f) = inl (a.begun l ts k f)
    begun_back l ts k (inr f) = inr f

-- ... and so are both
pub alternatives : {A : Type 0} {W : Where} {goes_on : Piece → Bool} {p s s' t t' : Production A} → Alike W s s' → Alike W t t' → PrintedWhere W goes_on p (or (trees_of s') (trees_of t')) → PrintedWhere W goes_on p (or (trees_of s) (trees_of t))
alternatives a b h = first_alternative a (exchanged (first_alternative b (exchanged h)))

-- what stands behind a production is printed as two alternatives
module _ {A B : Type 0} (W : Where) {goes_on : Piece → Bool} (p : Production A) (f s : A → Production B) (r : A → Relation B) (h : (x : A) → PrintedWhere Any goes_on (f x) (or (trees_of (s x)) (r x))) where
  abbrev parted : Relation B
  parted = or (trees_of (p >>= s)) (relation.◌>>=◌ (trees_of p) r)

  to_parted : (l : ℕ) (ts behind : List Piece) (y : B) → begins goes_on behind ≡ false → (p >>= f).whole l ts behind y → parted.whole l ts behind y
  to_parted l ts behind y n (x, us, vs, e, w, v) = go ((h x).to l vs behind y tt n v)
    where
      go : (s x).whole l vs behind y ⊎ (r x).whole l vs behind y → parted.whole l ts behind y
      go (inl v) = inl (x, us, vs, e, w, v)
      go (inr v) = inr (x, us, vs, e, w, v)

  back_parted : (l : ℕ) (ts behind : List Piece) (y : B) → begins goes_on behind ≡ false → parted.whole l ts behind y → (p >>= f).whole l ts behind y
  back_parted l ts behind y n (inl (x, us, vs, e, w, v)) = (x, us, vs, e, w, (h x).back l vs behind y tt n (inl v))
  back_parted l ts behind y n (inr (x, us, vs, e, w, v)) = (x, us, vs, e, w, (h x).back l vs behind y tt n (inr v))

  begun_parted : (l : ℕ) (ts : List Piece) → (p >>= f).front l ts → parted.front l ts
  begun_parted l ts (inl k) = inl (inl k)
  begun_parted l ts (inr (x, us, vs, e, w, k)) = go ((h x).begun l vs tt k)
    where
      go : (s x).front l vs ⊎ (r x).front l vs → parted.front l ts
      go (inl k) = inl (inr (x, us, vs, e, w, k))
      go (inr k) = inr (inr (x, us, vs, e, w, k))

  begun_back_parted : (l : ℕ) (ts : List Piece) → parted.front l ts → (p >>= f).front l ts
  begun_back_parted l ts (inl (inl k)) = inl k
  begun_back_parted l ts (inl (inr (x, us, vs, e, w, k))) = inr (x, us, vs, e, w, (h x).begun_back l vs tt (inl k))
  begun_back_parted l ts (inr (inl k)) = inl k
  begun_back_parted l ts (inr (inr (x, us, vs, e, w, k))) = inr (x, us, vs, e, w, (h x).begun_back l vs tt (inr k))

  pub behind-Printed : PrintedWhere W goes_on (p >>= f) parted
  behind-Printed = record {
    to = λ l ts behind y k n w. to_parted l ts behind y n w;
    back = λ l ts behind y k n w. back_parted l ts behind y n w;
    begun = λ l ts k f'. begun_parted l ts f';
    begun_back = λ l ts k f'. begun_back_parted l ts f';
  }

-- Behind a production the next token tells two apart: one begins with tokens of a kind, the other never does.
module _ {A B : Type 0} (W : Where) (goes_on q : Piece → Bool) (p : Production A) {first second : A → Production B}
    (ha : (x : A) → Starts q (first x)) (hb : (x : A) → Apart goes_on q (second x)) (starts : (x : A) (l : ℕ) → (second x).front l []) where
  abbrev told : A → Production B
  told x = when q (first x) (second x)

  to_told : (l : ℕ) (ts behind : List Piece) (y : B) → (p >>= told).whole l ts behind y → (p >>= second).whole l ts behind y ⊎ (p >>= first).whole l ts behind y
  to_told l ts behind y (x, us, vs, e, w, v) = go (begins q (vs ++ behind)) v
    where
      go : (c : Bool) → Chosen c ((first x).whole l vs behind y) ((second x).whole l vs behind y) → (p >>= second).whole l ts behind y ⊎ (p >>= first).whole l ts behind y
      go true v = inr (x, us, vs, e, w, v)
      go false v = inl (x, us, vs, e, w, v)

  back_told : (l : ℕ) (ts behind : List Piece) (y : B) → begins goes_on behind ≡ false → (p >>= second).whole l ts behind y ⊎ (p >>= first).whole l ts behind y → (p >>= told).whole l ts behind y
  back_told l ts behind y n (inl (x, us, vs, e, w, v)) =
      (x, us, vs, e, w, when_second q (first x) (second x) l vs behind y ((hb x).trees l vs behind y n v) v)
  back_told l ts behind y n (inr (x, us, vs, e, w, v)) = (x, us, vs, e, w, when_first q (first x) (second x) l vs behind y ((ha x).begins_so l vs behind y v) v)

  begun_told : (l : ℕ) (ts : List Piece) → (p >>= told).front l ts → (p >>= second).front l ts ⊎ (p >>= first).front l ts
  begun_told l ts (inl k) = inl (inl k)
  begun_told l ts (inr (x, us, vs, e, w, k)) = go (begins q vs) k
    where
      go : (c : Bool) → Chosen c ((first x).front l vs) ((second x).front l vs) → (p >>= second).front l ts ⊎ (p >>= first).front l ts
      go true k = inr (inr (x, us, vs, e, w, k))
      go false k = inl (inr (x, us, vs, e, w, k))

  begun_back_told : (l : ℕ) (ts : List Piece) → (p >>= second).front l ts ⊎ (p >>= first).front l ts → (p >>= told).front l ts
  begun_back_told l ts (inl (inl k)) = inl k
  begun_back_told l ts (inl (inr (x, us, vs, e, w, k))) = inr (x, us, vs, e, w, second_front q (first x) (second x) l vs ((hb x).beginnings l vs k) k)
  begun_back_told l ts (inr (inl k)) = inl k
  begun_back_told l ts (inr (inr (x, us, vs, e, w, k))) = inr (x, us, vs, e, w, go ((ha x).begun_so l vs k))
    where
      go : (vs ≡ []) ⊎ (begins q vs ≡ true) → (told x).front l vs
      go (inl d) = subst (λ (s : List Piece). (told x).front l s) (sym d) (second_front q (first x) (second x) l [] (begins_none q) (starts x l))
      go (inr d) = first_front q (first x) (second x) l vs d k

  pub told_apart : PrintedWhere W goes_on (p >>= told) (or (trees_of (p >>= second)) (trees_of (p >>= first)))
  told_apart = record {
    to = λ l ts behind y h n w. to_told l ts behind y w;
    back = λ l ts behind y h n w. back_told l ts behind y n w;
    begun = λ l ts h k. begun_told l ts k;
    begun_back = λ l ts h k. begun_back_told l ts k;
  }

-- ---- relations that are the same

pub record Same {A : Type 0} (r s : Relation A) : Type 0 where
  pub to : (l : ℕ) (ts behind : List Piece) (x : A) → r.whole l ts behind x → s.whole l ts behind x
  pub back : (l : ℕ) (ts behind : List Piece) (x : A) → s.whole l ts behind x → r.whole l ts behind x
  pub begun : (l : ℕ) (ts : List Piece) → r.front l ts → s.front l ts
  pub begun_back : (l : ℕ) (ts : List Piece) → s.front l ts → r.front l ts

pub printed_same : {A : Type 0} {W : Where} {goes_on : Piece → Bool} {p : Production A} {r s : Relation A} → Same r s → PrintedWhere W goes_on p r → PrintedWhere W goes_on p s
printed_same e h = record {
  to = λ l ts behind x k n w. e.to l ts behind x (h.to l ts behind x k n w);
  back = λ l ts behind x k n w. h.back l ts behind x k n (e.back l ts behind x w);
  begun = λ l ts k f. e.begun l ts (h.begun l ts k f);
  begun_back = λ l ts k f. h.begun_back l ts k (e.begun_back l ts f);
}

module _ {A : Type 0} {r r' s s' : Relation A} (a : Same r r') (b : Same s s') where
  pub or_same : Same (or r s) (or r' s')
  or_same = record { to = to; back = back; begun = begun; begun_back = begun_back }
    where
      to : (l : ℕ) (ts behind : List Piece) (x : A) → r.whole l ts behind x ⊎ s.whole l ts behind x → r'.whole l ts behind x ⊎ s'.whole l ts behind x
      to l ts behind x (inl w) = inl (a.to l ts behind x w)
      to l ts behind x (inr w) = inr (b.to l ts behind x w)

      back : (l : ℕ) (ts behind : List Piece) (x : A) → r'.whole l ts behind x ⊎ s'.whole l ts behind x → r.whole l ts behind x ⊎ s.whole l ts behind x
      back l ts behind x (inl w) = inl (a.back l ts behind x w)
      back l ts behind x (inr w) = inr (b.back l ts behind x w)

      begun : (l : ℕ) (ts : List Piece) → r.front l ts ⊎ s.front l ts → r'.front l ts ⊎ s'.front l ts
      begun l ts (inl k) = inl (a.begun l ts k)
      begun l ts (inr k) = inr (b.begun l ts k)

      begun_back : (l : ℕ) (ts : List Piece) → r'.front l ts ⊎ s'.front l ts → r.front l ts ⊎ s.front l ts
      begun_back l ts (inl k) = inl (a.begun_back l ts k)
      begun_back l ts (inr k) = inr (b.begun_back l ts k)

pub itself : {A : Type 0} (r : Relation A) → Same r r
itself r = record { to = λ l ts behind x w. w; back = λ l ts behind x w. w; begun = λ l ts k. k; begun_back = λ l ts k. k }

pub or_grouped : {A : Type 0} (r s t : Relation A) → Same (or r (or s t)) (or (or r s) t)
or_grouped r s t = record { to = λ l ts behind x w. to w; back = λ l ts behind x w. back w; begun = λ l ts k. to k; begun_back = λ l ts k. back k }
  where
    to : {P Q R : Type 0} → P ⊎ (Q ⊎ R) → (P ⊎ Q) ⊎ R
    to (inl w) = inl (inl w)
    to (inr (inl w)) = inl (inr w)
    to (inr (inr w)) = inr w

    back : {P Q R : Type 0} → (P ⊎ Q) ⊎ R → P ⊎ (Q ⊎ R)
    back (inl (inl w)) = inl w
    back (inl (inr w)) = inr (inl w)
    back (inr w) = inr (inr w)

pub turned_same : {A : Type 0} {r s : Relation A} → Same r s → Same s r
turned_same e = record { to = e.back; back = e.to; begun = e.begun_back; begun_back = e.begun }

pub or_exchanged : {A : Type 0} (r s : Relation A) → Same (or r s) (or s r)
or_exchanged r s = record { to = λ l ts behind x w. turn w; back = λ l ts behind x w. turn w; begun = λ l ts k. turn k; begun_back = λ l ts k. turn k }
  where
    turn : {P Q : Type 0} → P ⊎ Q → Q ⊎ P
    turn (inl w) = inr w
    turn (inr w) = inl w

pub both_same : {A : Type 0} {r s t : Relation A} → Same r s → Same s t → Same r t
both_same a b = record {
  to = λ l ts behind x w. b.to l ts behind x (a.to l ts behind x w);
  back = λ l ts behind x w. a.back l ts behind x (b.back l ts behind x w);
  begun = λ l ts k. b.begun l ts (a.begun l ts k);
  begun_back = λ l ts k. a.begun_back l ts (b.begun_back l ts k);
}

-- a token that may stand before a production, and a value that tells whether it does
module _ {B : Type 0} (load : ℕ) (q : Piece → Bool) (f : Bool → Production B) where
  abbrev with_token : Production B
  with_token = token load q >>= (λ t. f true)

  abbrev flag : Relation Bool
  flag = optional (trees_of (token load q >>= (λ t. give true))) false

  abbrev flagged : Relation B
  flagged = relation.◌>>=◌ flag (λ x. trees_of (f x))

  to_flagged : (l : ℕ) (ts behind : List Piece) (y : B) → with_token.whole l ts behind y ⊎ (f false).whole l ts behind y → flagged.whole l ts behind y
  to_flagged l ts behind y (inl (t, us, vs, e, w, v)) = (true, us, vs, e, inl (t, us, [], sym (append-nil us), w, (refl, refl)), v)
  to_flagged l ts behind y (inr v) = (false, [], ts, refl, inr (refl, refl), v)

  one_token : (us us' vs' : List Piece) (t : Piece) → us ≡ us' ++ vs' → us' ≡ t ∷ [] → vs' ≡ [] → us ≡ t ∷ []
  one_token us us' vs' t e d k = e ∙ ap (λ (s : List Piece). us' ++ s) k ∙ append-nil us' ∙ d

  back_flagged : (l : ℕ) (ts behind : List Piece) (y : B) → flagged.whole l ts behind y → with_token.whole l ts behind y ⊎ (f false).whole l ts behind y
  back_flagged l ts behind y (x, us, vs, e, inl (t, us', vs', e', (d, fits, low), (k, same)), v) =
      inl (t, us, vs, e, (one_token us us' vs' t e' d k, fits, low), subst (λ (z : Bool). (f z).whole l vs behind y) same v)
  back_flagged l ts behind y (x, us, vs, e, inr (d, same), v) =
      inr (subst (λ (s : List Piece). (f false).whole l s behind y) (sym (e ∙ ap (λ (s : List Piece). s ++ vs) d)) (subst (λ (z : Bool). (f z).whole l vs behind y) same v))

  begun_flagged : (l : ℕ) (ts : List Piece) → with_token.front l ts ⊎ (f false).front l ts → flagged.front l ts
  begun_flagged l ts (inl (inl k)) = inl (inl (inl k))
  begun_flagged l ts (inl (inr (t, us, vs, e, w, k))) = inr (true, us, vs, e, inl (t, us, [], sym (append-nil us), w, (refl, refl)), k)
  begun_flagged l ts (inr k) = inr (false, [], ts, refl, inr (refl, refl), k)

  begun_back_flagged : (l : ℕ) (ts : List Piece) → flagged.front l ts → with_token.front l ts ⊎ (f false).front l ts
  begun_back_flagged l ts (inl (inl (inl k))) = inl (inl k)
  begun_back_flagged l ts (inl (inl (inr (t, us, vs, e, (d, fits, low), k)))) = inl (inl (inr (t, one_token ts us vs t e d k, fits, low)))
  begun_back_flagged l ts (inl (inr e)) = inl (inl (inl e))
  begun_back_flagged l ts (inr (x, us, vs, e, inl (t, us', vs', e', (d, fits, low), (k, same)), v)) =
      inl (inr (t, us, vs, e, (one_token us us' vs' t e' d k, fits, low), subst (λ (z : Bool). (f z).front l vs) same v))
  begun_back_flagged l ts (inr (x, us, vs, e, inr (d, same), v)) =
      inr (subst (λ (s : List Piece). (f false).front l s) (sym (e ∙ ap (λ (s : List Piece). s ++ vs) d)) (subst (λ (z : Bool). (f z).front l vs) same v))

  pub flagged_same : Same (or (trees_of with_token) (trees_of (f false))) flagged
  flagged_same = record { to = to_flagged; back = back_flagged; begun = begun_flagged; begun_back = begun_back_flagged }
