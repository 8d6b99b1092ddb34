-- Relations that are the same where no token of some kind stands behind their trees.
use Rattle.std.proofs.Common.{◌≡◌, ◌⊎◌, inl, inr, ℕ, Bool, true, false, List, [], sym, subst, ◌∷◌, refl}
use Rattle.cx_grammar.specs.Pieces.{Piece}
use Rattle.cx_grammar.specs.Production.{Production, when, begins, Chosen}
use Rattle.cx_grammar.specs.Printed as relation
use Rattle.cx_grammar.specs.Printed.{Relation, trees_of, or}
use Rattle.cx_grammar.proofs.Printed.{Starts, when_cases, when_first, when_second, first_front, second_front, begins_none}
use Rattle.cx_grammar_laws.proofs.Cases.{Where, Any, Apart, PrintedWhere}

pub record SameWhere {A : Type 0} (goes_on : Piece → Bool) (r s : Relation A) : Type 0 where
  pub to : (l : ℕ) (ts behind : List Piece) (x : A) → begins goes_on behind ≡ false → r.whole l ts behind x → s.whole l ts behind x
  pub back : (l : ℕ) (ts behind : List Piece) (x : A) → begins goes_on behind ≡ false → s.whole l ts behind x → r.whole l ts behind x
  pub begun : (l : ℕ) (ts : List Piece) → r.front l ts → s.front l ts
  pub begun_back : (l : ℕ) (ts : List Piece) → s.front l ts → r.front l ts

pub printed_where : {A : Type 0} {W : Where} {goes_on : Piece → Bool} {p : Production A} {r s : Relation A} → SameWhere goes_on r s → PrintedWhere W goes_on p r → PrintedWhere W goes_on p s
printed_where e h = record {
  to = λ l ts behind x k n w. e.to l ts behind x n (h.to l ts behind x k n w);
  back = λ l ts behind x k n w. h.back l ts behind x k n (e.back l ts behind x n w);
  begun = λ l ts k f. e.begun l ts (h.begun l ts k f);
  begun_back = λ l ts k f. h.begun_back l ts k (e.begun_back l ts f);
}

-- a production and what it is printed as
pub as_printed : {A : Type 0} {goes_on : Piece → Bool} {p : Production A} {r : Relation A} → PrintedWhere Any goes_on p r → SameWhere goes_on (trees_of p) r
as_printed h = record {
  to = λ l ts behind x n w. h.to l ts behind x tt n w;
  back = λ l ts behind x n w. h.back l ts behind x tt n w;
  begun = λ l ts k. h.begun l ts tt k;
  begun_back = λ l ts k. h.begun_back l ts tt k;
}

module _ {A : Type 0} {goes_on : Piece → Bool} {r r' s s' : Relation A} (a : SameWhere goes_on r r') (b : SameWhere goes_on s s') where
  pub or_where : SameWhere goes_on (or r s) (or r' s')
  or_where = record { to = to; back = back; begun = begun; begun_back = begun_back }
    where
      to : (l : ℕ) (ts behind : List Piece) (x : A) → begins goes_on behind ≡ false → r.whole l ts behind x ⊎ s.whole l ts behind x → r'.whole l ts behind x ⊎ s'.whole l ts behind x
      to l ts behind x n (inl w) = inl (a.to l ts behind x n w)
      to l ts behind x n (inr w) = inr (b.to l ts behind x n w)

      back : (l : ℕ) (ts behind : List Piece) (x : A) → begins goes_on behind ≡ false → r'.whole l ts behind x ⊎ s'.whole l ts behind x → r.whole l ts behind x ⊎ s.whole l ts behind x
      back l ts behind x n (inl w) = inl (a.back l ts behind x n w)
      back l ts behind x n (inr w) = inr (b.back l ts behind x n w)

      begun : (l : ℕ) (ts : List Piece) → r.front l ts ⊎ s.front l ts → r'.front l ts ⊎ s'.front l ts
      begun l ts (inl k) = inl (a.begun l ts k)
      begun l ts (inr k) = inr (b.begun l ts k)

      begun_back : (l : ℕ) (ts : List Piece) → r'.front l ts ⊎ s'.front l ts → r.front l ts ⊎ s.front l ts
      begun_back l ts (inl k) = inl (a.begun_back l ts k)
      begun_back l ts (inr k) = inr (b.begun_back l ts k)

-- what stands behind another
module _ {A B : Type 0} {goes_on : Piece → Bool} (r : Relation A) {f g : A → Relation B} (a : (x : A) → SameWhere goes_on (f x) (g x)) where
  pub behind_where : SameWhere goes_on (relation.◌>>=◌ r f) (relation.◌>>=◌ r g)
  behind_where = record {
    to = λ l ts behind y n w. to l ts behind y n w;
    back = λ l ts behind y n w. back l ts behind y n w;
    begun = λ l ts k. begun l ts k;
    begun_back = λ l ts k. begun_back l ts k;
  }
    where
      to : (l : ℕ) (ts behind : List Piece) (y : B) → begins goes_on behind ≡ false → (relation.◌>>=◌ r f).whole l ts behind y → (relation.◌>>=◌ r g).whole l ts behind y
      to l ts behind y n (x, us, vs, e, w, v) = (x, us, vs, e, w, (a x).to l vs behind y n v)

      back : (l : ℕ) (ts behind : List Piece) (y : B) → begins goes_on behind ≡ false → (relation.◌>>=◌ r g).whole l ts behind y → (relation.◌>>=◌ r f).whole l ts behind y
      back l ts behind y n (x, us, vs, e, w, v) = (x, us, vs, e, w, (a x).back l vs behind y n v)

      begun : (l : ℕ) (ts : List Piece) → (relation.◌>>=◌ r f).front l ts → (relation.◌>>=◌ r g).front l ts
      begun l ts (inl k) = inl k
      begun l ts (inr (x, us, vs, e, w, k)) = inr (x, us, vs, e, w, (a x).begun l vs k)

      begun_back : (l : ℕ) (ts : List Piece) → (relation.◌>>=◌ r g).front l ts → (relation.◌>>=◌ r f).front l ts
      begun_back l ts (inl k) = inl k
      begun_back l ts (inr (x, us, vs, e, w, k)) = inr (x, us, vs, e, w, (a x).begun_back l vs k)

-- no piece is of a kind that is none
pub no_kind : (q : Piece → Bool) → ((t : Piece) → q t ≡ false) → (ts : List Piece) → begins q ts ≡ false
unfolding begins
no_kind q h [] = refl
no_kind q h (t ∷ ts) = h t

-- The next token tells two apart: one begins with tokens of a kind, the other never does.
module _ {A : Type 0} (goes_on q : Piece → Bool) {a b : Production A} (ha : Starts q a) (hb : Apart goes_on q b) (starts : (l : ℕ) → b.front l []) where
  pub next_tells : PrintedWhere Any goes_on (when q a b) (or (trees_of a) (trees_of b))
  next_tells = record {
    to = λ l ts behind x k n w. when_cases q a b l ts behind x w;
    back = λ l ts behind x k n w. back l ts behind x n w;
    begun = λ l ts k f. begun l ts (begins q ts) f;
    begun_back = λ l ts k f. begun_back l ts f;
  }
    where
      back : (l : ℕ) (ts behind : List Piece) (x : A) → begins goes_on behind ≡ false → a.whole l ts behind x ⊎ b.whole l ts behind x → (when q a b).whole l ts behind x
      back l ts behind x n (inl w) = when_first q a b l ts behind x (ha.begins_so l ts behind x w) w
      back l ts behind x n (inr w) = when_second q a b l ts behind x (hb.trees l ts behind x n w) w

      begun : (l : ℕ) (ts : List Piece) (c : Bool) → Chosen c (a.front l ts) (b.front l ts) → a.front l ts ⊎ b.front l ts
      begun l ts true f = inl f
      begun l ts false f = inr f

      here : (l : ℕ) (ts : List Piece) → a.front l ts → (ts ≡ []) ⊎ (begins q ts ≡ true) → (when q a b).front l ts
      here l ts f (inl e) = subst (λ (s : List Piece). (when q a b).front l s) (sym e) (second_front q a b l [] (begins_none q) (starts l))
      here l ts f (inr e) = first_front q a b l ts e f

      begun_back : (l : ℕ) (ts : List Piece) → a.front l ts ⊎ b.front l ts → (when q a b).front l ts
      begun_back l ts (inl f) = here l ts f (ha.begun_so l ts f)
      begun_back l ts (inr f) = second_front q a b l ts (hb.beginnings l ts f) f
