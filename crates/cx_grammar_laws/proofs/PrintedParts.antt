-- What is made of productions that are as they are printed.
use Rattle.std.proofs.Common.{◌≡◌, ◌⊎◌, inl, inr, ℕ, zero, suc, Bool, true, false, ◌||◌, List, [], ◌∷◌, ◌++◌, refl, sym, ap, ◌∙◌, append_assoc}
use Rattle.cx_grammar.specs.Pieces.{Piece}
use Rattle.cx_grammar.specs.Production.{Production, give, ◌>>=◌, when, times, repeat, begins, Chosen}
use Rattle.cx_grammar.specs.Printed.{Relation, trees_of, optional, IsAsPrinted}
use Rattle.cx_grammar.proofs.Printed.{Starts, first-Starts, when_first, when_second, when_fronts, first_front, second_front, begins_none, no_other, neither}
use Rattle.cx_grammar_laws.specs.PrintedRequires.{turns, any_number}
use Rattle.cx_grammar_laws.proofs.Cases.{Apart}
use Rattle.cx_grammar_laws.proofs.Relations.{chained}

-- which alternative is read, and by which token
pub chosen : {A : Type 0} (q : Piece → Bool) (a b : Production A) (l : ℕ) (ts behind : List Piece) (x : A) → (when q a b).whole l ts behind x → a.whole l ts behind x ⊎ ((begins q (ts ++ behind) ≡ false) × b.whole l ts behind x)
chosen {A} q a b l ts behind x w = go (begins q (ts ++ behind)) refl w
  where
    go : (c : Bool) → begins q (ts ++ behind) ≡ c → Chosen c (a.whole l ts behind x) (b.whole l ts behind x) → a.whole l ts behind x ⊎ ((begins q (ts ++ behind) ≡ false) × b.whole l ts behind x)
    go true e w = inl w
    go false e w = inr (e, w)

pub chosen_front : {A : Type 0} (q : Piece → Bool) (a b : Production A) (l : ℕ) (ts : List Piece) → (when q a b).front l ts → a.front l ts ⊎ ((begins q ts ≡ false) × b.front l ts)
chosen_front {A} q a b l ts k = go (begins q ts) refl k
  where
    go : (c : Bool) → begins q ts ≡ c → Chosen c (a.front l ts) (b.front l ts) → a.front l ts ⊎ ((begins q ts ≡ false) × b.front l ts)
    go true e k = inl k
    go false e k = inr (e, k)

-- no kind of token
abbrev pub never : Piece → Bool
never t = false

pub never_begins : (ts : List Piece) → begins never ts ≡ false
unfolding begins
never_begins [] = refl
never_begins (t ∷ ts) = refl

-- the second part of a sequence is behind the first one
pub joined : (q : Piece → Bool) (ts us vs behind : List Piece) → ts ≡ us ++ vs → begins q (us ++ (vs ++ behind)) ≡ begins q (ts ++ behind)
joined q ts us vs behind e = ap (λ (s : List Piece). begins q s) (sym (ap (λ (s : List Piece). s ++ behind) e ∙ append_assoc us vs behind))

-- a production is as it is itself
pub same-Printed : {A : Type 0} (p : Production A) (g : Piece → Bool) → IsAsPrinted p g (trees_of p)
same-Printed p g = record { same_trees = λ l ts behind x h. (λ w. w, λ w. w); same_beginnings = λ l ts. (λ k. k, λ k. k) }

-- no tree and no beginning begins with a token of some kind
pub record Shut {A : Type 0} (q : Piece → Bool) (p : Production A) : Type 0 where
  pub shut : (l : ℕ) (ts behind : List Piece) (x : A) → p.whole l ts behind x → begins q (ts ++ behind) ≡ false
  pub shut_front : (l : ℕ) (ts : List Piece) → p.front l ts → begins q ts ≡ false

pub never-Shut : {A : Type 0} (p : Production A) → Shut never p
never-Shut p = record { shut = λ l ts behind x w. never_begins (ts ++ behind); shut_front = λ l ts k. never_begins ts }

pub starts-Shut : {A : Type 0} {p : Production A} (q r : Piece → Bool) → ((t : Piece) → r t ≡ true → q t ≡ false) → Starts r p → Shut q p
unfolding begins
starts-Shut {A} {p} q r h s = record { shut = λ l ts behind x w. go (ts ++ behind) (s.begins_so l ts behind x w); shut_front = λ l ts k. front ts (s.begun_so l ts k) }
  where
    go : (ts : List Piece) → begins r ts ≡ true → begins q ts ≡ false
    go [] e = refl
    go (t ∷ ts) e = h t e

    front : (ts : List Piece) → (ts ≡ []) ⊎ (begins r ts ≡ true) → begins q ts ≡ false
    front ts (inl e) = ap (λ (s : List Piece). begins q s) e
    front ts (inr e) = go ts e

-- what goes on behind the first part does not stand there
module _ {A B : Type 0} {p : Production A} {f : A → Production B} {g g' : Piece → Bool} {P : Relation A} {F : A → Relation B} where
  pub apart-Printed : IsAsPrinted p g P → ((x : A) → IsAsPrinted (f x) g' (F x)) → ((x : A) → Apart g' g (f x)) → IsAsPrinted (p >>= f) g' (chained P F)
  apart-Printed hp hf k = record { same_trees = λ l ts behind y h. (to l ts behind y h, from l ts behind y h); same_beginnings = λ l ts. (to_front l ts, from_front l ts) }
    where
      to : (l : ℕ) (ts behind : List Piece) (y : B) → begins g' behind ≡ false → (p >>= f).whole l ts behind y → (chained P F).whole l ts behind y
      to l ts behind y h (x, us, vs, e, w, v) = (x, us, vs, e, (hp.same_trees l us (vs ++ behind) x ((k x).trees l vs behind y h v)).0 w, ((hf x).same_trees l vs behind y h).0 v)

      from : (l : ℕ) (ts behind : List Piece) (y : B) → begins g' behind ≡ false → (chained P F).whole l ts behind y → (p >>= f).whole l ts behind y
      from l ts behind y h (x, us, vs, e, w, v) =
          let v' = ((hf x).same_trees l vs behind y h).1 v in
          (x, us, vs, e, (hp.same_trees l us (vs ++ behind) x ((k x).trees l vs behind y h v')).1 w, v')

      to_front : (l : ℕ) (ts : List Piece) → (p >>= f).front l ts → (chained P F).front l ts
      to_front l ts (inl v) = inl ((hp.same_beginnings l ts).0 v)
      to_front l ts (inr (x, us, vs, e, w, v)) = inr (x, us, vs, e, (hp.same_trees l us vs x ((k x).beginnings l vs v)).0 w, ((hf x).same_beginnings l vs).0 v)

      from_front : (l : ℕ) (ts : List Piece) → (chained P F).front l ts → (p >>= f).front l ts
      from_front l ts (inl v) = inl ((hp.same_beginnings l ts).1 v)
      from_front l ts (inr (x, us, vs, e, w, v)) =
          let v' = ((hf x).same_beginnings l vs).1 v in
          inr (x, us, vs, e, (hp.same_trees l us vs x ((k x).beginnings l vs v')).1 w, v')

  pub then-Printed : IsAsPrinted p g P → ((x : A) → IsAsPrinted (f x) g' (F x)) → ((x : A) → Shut g (f x)) → IsAsPrinted (p >>= f) g' (chained P F)
  then-Printed hp hf k = apart-Printed hp hf (λ x. record { trees = λ l ts behind y h w. (k x).shut l ts behind y w; beginnings = (k x).shut_front })

-- ... where the first part is printed as it stands
pub behind-Printed : {A B : Type 0} (p : Production A) {f : A → Production B} {g : Piece → Bool} {F : A → Relation B} → ((x : A) → IsAsPrinted (f x) g (F x)) → IsAsPrinted (p >>= f) g (chained (trees_of p) F)
behind-Printed p hf = then-Printed (same-Printed p never) hf (λ x. never-Shut _)

-- the next token tells whether what may be left out stands there
pub optional-Printed : {A : Type 0} (q : Piece → Bool) {a : Production A} (x : A) {P : Relation A} → Starts q a → IsAsPrinted a q P → IsAsPrinted (when q a (give x)) q (optional P x)
unfolding begins
optional-Printed {A} q {a} x {P} s h = record { same_trees = λ l ts behind y n. (to l ts behind y n (chosen q a (give x) l ts behind y), from l ts behind y n); same_beginnings = λ l ts. (to_front l ts, from_front l ts) }
  where
    to : (l : ℕ) (ts behind : List Piece) (y : A) → begins q behind ≡ false → ((when q a (give x)).whole l ts behind y → a.whole l ts behind y ⊎ ((begins q (ts ++ behind) ≡ false) × (give x).whole l ts behind y))
        → (when q a (give x)).whole l ts behind y → (optional P x).whole l ts behind y
    to l ts behind y n choose w =
        elim (choose w) [
          | inl v ↦ inl ((h.same_trees l ts behind y n).0 v)
          | inr v ↦ inr v.1
        ]

    from : (l : ℕ) (ts behind : List Piece) (y : A) → begins q behind ≡ false → (optional P x).whole l ts behind y → (when q a (give x)).whole l ts behind y
    from l ts behind y n (inl w) =
        let v = (h.same_trees l ts behind y n).1 w in
        when_first q a (give x) l ts behind y (s.begins_so l ts behind y v) v
    from l ts behind y n (inr w) = when_second q a (give x) l ts behind y (ap (λ (z : List Piece). begins q (z ++ behind)) w.0 ∙ n) w

    to_front : (l : ℕ) (ts : List Piece) → (when q a (give x)).front l ts → (optional P x).front l ts
    to_front l ts k =
        elim (chosen_front q a (give x) l ts k) [
          | inl v ↦ inl ((h.same_beginnings l ts).0 v)
          | inr v ↦ inr v.1
        ]

    nothing : (l : ℕ) (ts : List Piece) → ts ≡ [] → (when q a (give x)).front l ts
    nothing l ts e = second_front q a (give x) l ts (ap (λ (z : List Piece). begins q z) e) e

    from_front : (l : ℕ) (ts : List Piece) → (optional P x).front l ts → (when q a (give x)).front l ts
    from_front l ts (inl k) =
        let v = (h.same_beginnings l ts).1 k in
        elim (s.begun_so l ts v) [
          | inl e ↦ nothing l ts e
          | inr e ↦ first_front q a (give x) l ts e v
        ]
    from_front l ts (inr e) = nothing l ts e

-- A repetition goes on as long as the next token begins a turn. What goes on behind a turn begins none.
module _ {A : Type 0} (q g : Piece → Bool) (apart : (t : Piece) → q t ≡ true → g t ≡ false) {step : A → Production A} {S : A → Relation A} (s : (x : A) → Starts q (step x)) (h : (x : A) → IsAsPrinted (step x) g (S x)) where
  -- behind a turn stands another one, or what stands behind them all
  behind_turn : (n : ℕ) (x : A) (l : ℕ) (ts behind : List Piece) (y : A) → begins g behind ≡ false → (times n q step x).whole l ts behind y → begins g (ts ++ behind) ≡ false
  behind_turn zero x l ts behind y k w = absurd w
  behind_turn (suc n) x l ts behind y k w =
      elim (chosen q (step x >>= times n q step) (give x) l ts behind y w) [
        | inl v ↦ no_other g q apart (ts ++ behind) ((first-Starts (times n q step) (s x)).begins_so l ts behind y v)
        | inr v ↦ ap (λ (z : List Piece). begins g (z ++ behind)) v.1.0 ∙ k
      ]

  nothing_behind : (ts : List Piece) → ts ≡ [] → begins g ts ≡ false
  nothing_behind ts e = ap (λ (z : List Piece). begins g z) e ∙ begins_none g

  behind_front : (n : ℕ) (x : A) (l : ℕ) (ts : List Piece) → (times n q step x).front l ts → begins g ts ≡ false
  behind_front zero x l ts e = nothing_behind ts e
  behind_front (suc n) x l ts k =
      elim (when_fronts q (step x >>= times n q step) (give x) l ts k) [
        | inl v ↦ elim ((first-Starts (times n q step) (s x)).begun_so l ts v) [
          | inl e ↦ nothing_behind ts e
          | inr e ↦ no_other g q apart ts e
        ]
        | inr e ↦ nothing_behind ts e
      ]

  turns_to : (n : ℕ) (x : A) (l : ℕ) (ts behind : List Piece) (y : A) → begins g behind ≡ false → (times n q step x).whole l ts behind y → (m : ℕ) × (turns m S x).whole l ts behind y
  turns_to zero x l ts behind y k w = absurd w
  turns_to (suc n) x l ts behind y k w =
      elim (chosen q (step x >>= times n q step) (give x) l ts behind y w) [
        | inl v ↦
            let r = turns_to n v.0 l v.2 behind y k v.5 in
            (suc r.0, (v.0, v.1, v.2, v.3, ((h x).same_trees l v.1 (v.2 ++ behind) v.0 (behind_turn n v.0 l v.2 behind y k v.5)).0 v.4, r.1))
        | inr v ↦ (0, v.1)
      ]

  turns_from : (m : ℕ) (x : A) (l : ℕ) (ts behind : List Piece) (y : A) → begins g behind ≡ false → begins q behind ≡ false → (turns m S x).whole l ts behind y → (n : ℕ) × (times n q step x).whole l ts behind y
  turns_from zero x l ts behind y k o w = (1, when_second q (step x >>= times 0 q step) (give x) l ts behind y (ap (λ (z : List Piece). begins q (z ++ behind)) w.0 ∙ o) w)
  turns_from (suc m) x l ts behind y k o (z, us, vs, e, w, v) =
      let r = turns_from m z l vs behind y k o v in
      let w' = ((h x).same_trees l us (vs ++ behind) z (behind_turn r.0 z l vs behind y k r.1)).1 w in
      (suc r.0, when_first q (step x >>= times r.0 q step) (give x) l ts behind y (sym (joined q ts us vs behind e) ∙ (s x).begins_so l us (vs ++ behind) z w') (z, us, vs, e, w', r.1))

  turns_to_front : (n : ℕ) (x : A) (l : ℕ) (ts : List Piece) → (times n q step x).front l ts → (m : ℕ) × (turns m S x).front l ts
  turns_to_front zero x l ts e = (0, e)
  turns_to_front (suc n) x l ts k =
      elim (when_fronts q (step x >>= times n q step) (give x) l ts k) [
        | inl (inl v) ↦ (1, inl (((h x).same_beginnings l ts).0 v))
        | inl (inr v) ↦
            let r = turns_to_front n v.0 l v.2 v.5 in
            (suc r.0, inr (v.0, v.1, v.2, v.3, ((h x).same_trees l v.1 v.2 v.0 (behind_front n v.0 l v.2 v.5)).0 v.4, r.1))
        | inr e ↦ (0, e)
      ]

  turns_from_front : (m : ℕ) (x : A) (l : ℕ) (ts : List Piece) → (turns m S x).front l ts → (n : ℕ) × (times n q step x).front l ts
  turns_from_front zero x l ts e = (0, e)
  turns_from_front (suc m) x l ts (inl k) =
      let k' = ((h x).same_beginnings l ts).1 k in
      elim ((s x).begun_so l ts k') [
        | inl e ↦ (0, e)
        | inr e ↦ (1, first_front q (step x >>= times 0 q step) (give x) l ts e (inl k'))
      ]
  turns_from_front (suc m) x l ts (inr (z, us, vs, e, w, k)) =
      let r = turns_from_front m z l vs k in
      let w' = ((h x).same_trees l us vs z (behind_front r.0 z l vs r.1)).1 w in
      (suc r.0, first_front q (step x >>= times r.0 q step) (give x) l ts (ap (λ (u : List Piece). begins q u) e ∙ (s x).begins_so l us vs z w') (inr (z, us, vs, e, w', r.1)))

  -- what goes on behind the turns
  abbrev pub turns_go_on : Piece → Bool
  turns_go_on t = g t || q t

  pub repeat-Printed : (x : A) → IsAsPrinted (repeat q step x) turns_go_on (any_number S x)
  repeat-Printed x = record {
    same_trees = λ l ts behind y o. let k = neither g q behind o in (λ w. turns_to w.0 x l ts behind y k.0 w.1, λ w. turns_from w.0 x l ts behind y k.0 k.1 w.1);
    same_beginnings = λ l ts. (λ k. turns_to_front k.0 x l ts k.1, λ k. turns_from_front k.0 x l ts k.1);
  }

  pub repeat-Apart : (x : A) → Apart turns_go_on g (repeat q step x)
  repeat-Apart x = record {
    trees = λ l ts behind y o w. behind_turn w.0 x l ts behind y (neither g q behind o).0 w.1;
    beginnings = λ l ts k. behind_front k.0 x l ts k.1;
  }
