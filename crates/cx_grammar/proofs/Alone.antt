-- A tree is one too where nothing stands behind it, and what stands behind it is refused only by what goes on.
use Rattle.std.proofs.Common.{true≢false, ◌<◌, length, length-append, ◌≡◌, ℕ, zero, suc, ◌+◌, ◌≤◌, Bool, true, false, ◌||◌, ◌&&◌, List, [], ◌∷◌, ◌++◌, Ok, refl, sym, ap, ◌∙◌, subst, append_assoc, inl, inr, ◌⊎◌, arith}
use Rattle.cx_grammar.specs.Pieces.{Piece}
use Rattle.cx_grammar.specs.Production.{Production, give, ◌>>=◌, token, when, given, closed, times, repeat, begins, Chosen}
use Rattle.cx_grammar.proofs.Lawful.{Lawful, Grows}
use Rattle.cx_grammar.proofs.Combinators.{whole_ahead, read_ahead, whole_wider, then_read, branch, branch_read, to_front, from_whole, to_whole, token_fits, ok_further, when_false, either, repeat_agrees, Steps, Takes, token-Takes, then-Takes, give-Lawful, then-Lawful, when-Lawful, token-Lawful, closed-Lawful, repeat-Lawful}

-- no tree is empty
pub record Filled {A : Type 0} (p : Production A) : Type 0 where
  pub filled : (l : ℕ) (rest : List Piece) (x : A) → p.whole l [] rest x → ⊥

-- the pieces are a beginning under some greater limit
pub record Fitting {A : Type 0} (p : Production A) (l : ℕ) (us : List Piece) : Type 0 where
  pub limit : ℕ
  pub above : l ≤ limit
  pub front : p.front limit us

-- each piece of some kind is a beginning
pub record Opens {A : Type 0} (q : Piece → Bool) (p : Production A) : Type 0 where
  pub opens : (l : ℕ) (t : Piece) → q t ≡ true → Fitting p l (t ∷ [])

-- behind a tree a reader stops, or it goes on with the next piece
pub data Goes {A : Type 0} (p : Production A) (l : ℕ) (us : List Piece) (t : Piece) (rest : List Piece) (x : A) : Type 0 where
  Stays : p.read l (us ++ t ∷ rest) ≡ Ok (x, t ∷ rest) → Goes p l us t rest x
  On : Fitting p l (us ++ t ∷ []) → Goes p l us t rest x

pub record Alone (requires : Bool) {A : Type 0} (p : Production A) : Type 0 where
  pub lawful : Lawful requires p
  pub alone : (l : ℕ) (us : List Piece) (t : Piece) (rest : List Piece) (x : A) → p.whole l us (t ∷ rest) x → p.whole l us [] x
  pub free : (l : ℕ) (us : List Piece) (t : Piece) (rest : List Piece) (x : A) → p.whole l us [] x → Goes p l us t rest x

-- ---- what is filled, and what it opens with

pub token-Filled : (load : ℕ) (p : Piece → Bool) → Filled (token load p)
token-Filled load p = record { filled = λ l rest x w. let e = w.0 in absurd (cc) }

empty_first : (us vs : List Piece) → [] ≡ us ++ vs → us ≡ []
empty_first [] vs e = refl
empty_first (u ∷ us) vs e = absurd (cc)

empty_second : (us vs : List Piece) → [] ≡ us ++ vs → vs ≡ []
empty_second [] vs e = sym e
empty_second (u ∷ us) vs e = absurd (cc)

pub first-Filled : {A B : Type 0} {p : Production A} (f : A → Production B) → Filled p → Filled (p >>= f)
first-Filled {p} f hp = record {
  filled = λ l rest y w. hp.filled l (w.2 ++ rest) w.0 (subst (λ (s : List Piece). p.whole l s (w.2 ++ rest) w.0) (empty_first w.1 w.2 w.3) w.4);
}

pub second-Filled : {A B : Type 0} (p : Production A) {f : A → Production B} → ((x : A) → Filled (f x)) → Filled (p >>= f)
second-Filled p {f} hf = record {
  filled = λ l rest y w. (hf w.0).filled l rest y (subst (λ (s : List Piece). (f w.0).whole l s rest y) (empty_second w.1 w.2 w.3) w.5);
}

pub first-Opens : {A B : Type 0} {q : Piece → Bool} {p : Production A} (f : A → Production B) → Opens q p → Opens q (p >>= f)
first-Opens f hp = record {
  opens = λ l t e. let k = hp.opens l t e in record { limit = k.limit; above = k.above; front = inl k.front };
}

pub when-Filled : {A : Type 0} (p : Piece → Bool) {a b : Production A} → Filled a → Filled b → Filled (when p a b)
when-Filled {A} p {a} {b} ha hb = record { filled = λ l rest x w. go (begins p rest) l rest x w }
  where
    go : (c : Bool) (l : ℕ) (rest : List Piece) (x : A) → Chosen c (a.whole l [] rest x) (b.whole l [] rest x) → ⊥
    go true l rest x w = ha.filled l rest x w
    go false l rest x w = hb.filled l rest x w

pub given-Filled : {A : Type 0} (c : Bool) {a b : Production A} → Filled a → Filled b → Filled (given c a b)
given-Filled true ha hb = ha
given-Filled false ha hb = hb

pub closed-Filled : {A : Type 0} → Filled (closed {A = A})
closed-Filled = record { filled = λ l rest x w. w }

pub token-Opens : (load : ℕ) (p : Piece → Bool) → Opens p (token load p)
token-Opens load p = record { opens = λ l t e. record { limit = l + load; above = omega arith; front = inr (t, refl, e, omega arith) } }

-- one of two kinds
pub either-Opens : {A : Type 0} (p q : Piece → Bool) {a b : Production A} → Opens p a → Opens q b → Opens (λ t. p t || q t) (when p a b)
unfolding begins
either-Opens p q {a} {b} ha hb = record {
  opens = λ l t e. elim (either (p t)) [
    | inl c ↦
        let k = ha.opens l t c in
        record { limit = k.limit; above = k.above; front = subst (λ (z : Bool). Chosen z (a.front k.limit (t ∷ [])) (b.front k.limit (t ∷ []))) (sym c) k.front }
    | inr c ↦
        let k = hb.opens l t (sym (ap (λ (z : Bool). z || q t) c) ∙ e) in
        record { limit = k.limit; above = k.above; front = subst (λ (z : Bool). Chosen z (a.front k.limit (t ∷ [])) (b.front k.limit (t ∷ []))) (sym c) k.front }
  ];
}

-- ... where something else holds
pub both-Opens : {A : Type 0} (s : Bool) (q : Piece → Bool) {p : Production A} → Opens q p → Opens (λ t. s && q t) p
both-Opens true q h = h
both-Opens false q h = record { opens = λ l t e. absurd (true≢false (sym e)) }

-- ---- what is alone

pub give-Alone : {requires : Bool} {A : Type 0} (x : A) → Alone requires (give x)
give-Alone x = record {
  lawful = give-Lawful x;
  alone = λ l us t rest y w. w;
  free = λ l us t rest y w. Stays (λ i. Ok (sym w.1 i, w.0 i ++ t ∷ rest));
}

pub token-Alone : {requires : Bool} (load : ℕ) (p : Piece → Bool) → Alone requires (token load p)
token-Alone load p = record {
  lawful = token-Lawful load p;
  alone = λ l us t rest x w. w;
  free = λ l us t rest x w. Stays (ap (λ (s : List Piece). (token load p).read l (s ++ t ∷ rest)) w.0 ∙ token_fits load p l x (t ∷ rest) w.1 w.2);
}

pub closed-Alone : {requires : Bool} {A : Type 0} → Alone requires (closed {A = A})
closed-Alone = record {
  lawful = closed-Lawful;
  alone = λ l us t rest x w. w;
  free = λ l us t rest x w. absurd w;
}

-- what stands behind the first of two productions, where the second has no piece
data Edge (requires : Bool) {A B : Type 0} (p : Production A) (f : A → Production B) : Type 0 where
  Bare : Alone requires p → Edge requires p f
  Covered : Lawful requires p → ((x : A) → Filled (f x)) → Edge requires p f

edge_lawful : {requires : Bool} {A B : Type 0} {p : Production A} {f : A → Production B} → Edge requires p f → Lawful requires p
edge_lawful (Bare h) = h.lawful
edge_lawful (Covered h k) = h

module _ {requires : Bool} {A B : Type 0} {p : Production A} {f : A → Production B} where
  end_alone : Edge requires p f → (l : ℕ) (us vs : List Piece) (t : Piece) (rest : List Piece) (x : A) (y : B) → p.whole l us (vs ++ t ∷ rest) x → (f x).whole l vs (t ∷ rest) y → p.whole l us (vs ++ []) x
  end_alone (Bare h) l us [] t rest x y w k = h.alone l us t rest x w
  end_alone (Bare h) l us (v ∷ vs) t rest x y w k = whole_ahead h.lawful l us v (vs ++ t ∷ rest) (vs ++ []) x w
  end_alone (Covered h c) l us [] t rest x y w k = absurd ((c x).filled l (t ∷ rest) y k)
  end_alone (Covered h c) l us (v ∷ vs) t rest x y w k = whole_ahead h l us v (vs ++ t ∷ rest) (vs ++ []) x w

  end_goes : Edge requires p f → (l : ℕ) (us vs : List Piece) (t : Piece) (rest : List Piece) (x : A) (y : B) → p.whole l us (vs ++ []) x → (f x).whole l vs [] y
      → (p.read l (us ++ (vs ++ t ∷ rest)) ≡ Ok (x, vs ++ t ∷ rest)) ⊎ Fitting p l (us ++ (vs ++ t ∷ []))
  end_goes (Bare h) l us [] t rest x y w k = elim (h.free l us t rest x w) [ Stays e ↦ inl e | On g ↦ inr g ]
  end_goes (Bare h) l us (v ∷ vs) t rest x y w k = inl (h.lawful.complete l us (v ∷ (vs ++ t ∷ rest)) x (whole_ahead h.lawful l us v (vs ++ []) (vs ++ t ∷ rest) x w))
  end_goes (Covered h c) l us [] t rest x y w k = absurd ((c x).filled l [] y k)
  end_goes (Covered h c) l us (v ∷ vs) t rest x y w k = inl (h.complete l us (v ∷ (vs ++ t ∷ rest)) x (whole_ahead h l us v (vs ++ []) (vs ++ t ∷ rest) x w))

  module _ (hp : Edge requires p f) (hf : (x : A) → Alone requires (f x)) where
    edge_alone : (l : ℕ) (us : List Piece) (t : Piece) (rest : List Piece) (y : B) → (p >>= f).whole l us (t ∷ rest) y → (p >>= f).whole l us [] y
    edge_alone l ts t rest y w = (w.0, w.1, w.2, w.3, end_alone hp l w.1 w.2 t rest w.0 y w.4 w.5, (hf w.0).alone l w.2 t rest y w.5)

    edge_on : (l : ℕ) (ts us vs : List Piece) (t : Piece) (rest : List Piece) (x : A) (y : B) → ts ≡ us ++ vs
        → p.read l (us ++ (vs ++ t ∷ rest)) ≡ Ok (x, vs ++ t ∷ rest) → Goes (f x) l vs t rest y → Goes (p >>= f) l ts t rest y
    edge_on l ts us vs t rest x y e r (Stays k) =
        Stays (ap (λ (s : List Piece). (p >>= f).read l s) (ap (λ (s : List Piece). s ++ t ∷ rest) e ∙ append_assoc us vs (t ∷ rest)) ∙ then_read p f l (us ++ (vs ++ t ∷ rest)) x (vs ++ t ∷ rest) r ∙ k)
    edge_on l ts us vs t rest x y e r (On k) =
        let hl = edge_lawful hp in
        On record {
          limit = k.limit;
          above = k.above;
          front = inr (
            x,
            us,
            vs ++ t ∷ [],
            ap (λ (s : List Piece). s ++ t ∷ []) e ∙ append_assoc us vs (t ∷ []),
            whole_wider hl l k.limit us (vs ++ t ∷ []) x k.above (read_ahead hl l us vs t rest [] x r),
            k.front,
          );
        }

    edge_free : (l : ℕ) (us : List Piece) (t : Piece) (rest : List Piece) (y : B) → (p >>= f).whole l us [] y → Goes (p >>= f) l us t rest y
    edge_free l ts t rest y w =
        elim (end_goes hp l w.1 w.2 t rest w.0 y w.4 w.5) [
          | inl r ↦ edge_on l ts w.1 w.2 t rest w.0 y w.3 r ((hf w.0).free l w.2 t rest y w.5)
          | inr k ↦ On record {
            limit = k.limit;
            above = k.above;
            front = inl (subst (λ (s : List Piece). p.front k.limit s) (sym (ap (λ (s : List Piece). s ++ t ∷ []) w.3 ∙ append_assoc w.1 w.2 (t ∷ []))) k.front);
          }
        ]

    edge-Alone : Alone requires (p >>= f)
    edge-Alone = record { lawful = then-Lawful (edge_lawful hp) (λ x. (hf x).lawful); alone = edge_alone; free = edge_free }

pub then-Alone : {requires : Bool} {A B : Type 0} {p : Production A} {f : A → Production B} → Alone requires p → ((x : A) → Alone requires (f x)) → Alone requires (p >>= f)
then-Alone hp hf = edge-Alone (Bare hp) hf

-- where the second production is not empty, nothing is asked of what stands behind the first
pub before-Alone : {requires : Bool} {A B : Type 0} {p : Production A} {f : A → Production B} → Lawful requires p → ((x : A) → Alone requires (f x)) → ((x : A) → Filled (f x)) → Alone requires (p >>= f)
before-Alone hp hf k = edge-Alone (Covered hp k) hf

branch_alone : {requires : Bool} {A : Type 0} (c : Bool) (a b : Production A) → Alone requires a → Alone requires b → Alone requires (branch c a b)
branch_alone true a b ha hb = ha
branch_alone false a b ha hb = hb

-- what the second of two productions does where it is empty and the first is chosen
data Other {A : Type 0} (p : Piece → Bool) (a b : Production A) : Type 0 where
  Opened : Opens p a → Other p a b
  Barred : Filled b → Other p a b

module _ {requires : Bool} {A : Type 0} (p : Piece → Bool) {a b : Production A} (ha : Alone requires a) (hb : Alone requires b) (fa : Filled a) (o : Other p a b) where
  when_alone : (l : ℕ) (us : List Piece) (t : Piece) (rest : List Piece) (x : A) → (when p a b).whole l us (t ∷ rest) x → (when p a b).whole l us [] x
  unfolding begins
  when_alone l [] t rest x w = go (p t) w
    where
      go : (c : Bool) → Chosen c (a.whole l [] (t ∷ rest) x) (b.whole l [] (t ∷ rest) x) → b.whole l [] [] x
      go true k = absurd (fa.filled l (t ∷ rest) x k)
      go false k = hb.alone l [] t rest x k
  when_alone l (u ∷ us) t rest x w =
      to_whole a b (p u) l (u ∷ us) [] x ((branch_alone (p u) a b ha hb).alone l (u ∷ us) t rest x (from_whole a b (p u) l (u ∷ us) (t ∷ rest) x w))

  when_opened : Other p a b → (l : ℕ) (t : Piece) (x : A) → p t ≡ true → b.whole l [] [] x → Fitting a l (t ∷ [])
  when_opened (Opened k) l t x e w = k.opens l t e
  when_opened (Barred k) l t x e w = absurd (k.filled l [] x w)

  when_goes : (l : ℕ) (u : Piece) (us : List Piece) (t : Piece) (rest : List Piece) (x : A) → Goes (branch (p u) a b) l (u ∷ us) t rest x → Goes (when p a b) l (u ∷ us) t rest x
  unfolding begins
  when_goes l u us t rest x (Stays e) = Stays (branch_read (p u) a b l (u ∷ (us ++ t ∷ rest)) ∙ e)
  when_goes l u us t rest x (On k) = On record { limit = k.limit; above = k.above; front = to_front a b (p u) k.limit (u ∷ (us ++ t ∷ [])) k.front }

  when_free : (l : ℕ) (us : List Piece) (t : Piece) (rest : List Piece) (x : A) → (when p a b).whole l us [] x → Goes (when p a b) l us t rest x
  unfolding begins
  when_free l [] t rest x w =
      elim (either (p t)) [
        | inl e ↦ let k = when_opened o l t x e w in On record { limit = k.limit; above = k.above; front = subst (λ (c : Bool). Chosen c (a.front k.limit (t ∷ [])) (b.front k.limit (t ∷ []))) (sym e) k.front }
        | inr e ↦ elim (hb.free l [] t rest x w) [
          | Stays r ↦ Stays (when_false p a b l (t ∷ rest) e ∙ r)
          | On k ↦ On record { limit = k.limit; above = k.above; front = subst (λ (c : Bool). Chosen c (a.front k.limit (t ∷ [])) (b.front k.limit (t ∷ []))) (sym e) k.front }
        ]
      ]
  when_free l (u ∷ us) t rest x w =
      when_goes l u us t rest x ((branch_alone (p u) a b ha hb).free l (u ∷ us) t rest x (from_whole a b (p u) l (u ∷ us) [] x w))

  other-Alone : Alone requires (when p a b)
  other-Alone = record { lawful = when-Lawful p ha.lawful hb.lawful; alone = when_alone; free = when_free }

-- the first production opens with each piece that chooses it
pub opens-Alone : {requires : Bool} {A : Type 0} (p : Piece → Bool) {a b : Production A} → Alone requires a → Alone requires b → Filled a → Opens p a → Alone requires (when p a b)
opens-Alone p ha hb fa k = other-Alone p ha hb fa (Opened k)

-- the second production is not empty
pub filled-Alone : {requires : Bool} {A : Type 0} (p : Piece → Bool) {a b : Production A} → Alone requires a → Alone requires b → Filled a → Filled b → Alone requires (when p a b)
filled-Alone p ha hb fa k = other-Alone p ha hb fa (Barred k)

pub given-Alone : {requires : Bool} {A : Type 0} (c : Bool) {a b : Production A} → Alone requires a → Alone requires b → Alone requires (given c a b)
given-Alone true ha hb = ha
given-Alone false ha hb = hb

-- a reader of what is not empty takes a piece
pub filled_takes : {requires : Bool} {A : Type 0} {p : Production A} → Lawful requires p → Filled p → Takes p
filled_takes {A} {p} hp fp = record { takes = takes }
  where
    shorter : (l : ℕ) (us rest : List Piece) (x : A) → p.whole l us rest x → length rest < length (us ++ rest)
    shorter l [] rest x w = absurd (fp.filled l rest x w)
    shorter l (u ∷ us) rest x w = omega (arith, length-append us rest)

    takes : (l : ℕ) (ts : List Piece) (x : A) (rest : List Piece) → p.read l ts ≡ Ok (x, rest) → length rest < length ts
    takes l ts x rest e =
        let s = hp.sound l ts x rest e in
        omega (arith, shorter l s.tree rest x s.whole, ap (λ (z : List Piece). length z) s.split)

pub filled-Steps : {requires : Bool} {A : Type 0} {p q : Production A} → Grows requires p q → Filled p → Filled q → Steps requires p q
filled-Steps h low high = record { grows = h; low = filled_takes h.low low; high = filled_takes h.high high }

-- a turn of a repetition: it opens with the piece that chooses it
pub record Turn (requires : Bool) {A : Type 0} (p : Piece → Bool) (q : Production A) : Type 0 where
  pub alone : Alone requires q
  pub filled : Filled q
  pub opens : Opens p q
  pub takes : Takes q

pub token-Turn : {requires : Bool} {A : Type 0} (load : ℕ) (p : Piece → Bool) {f : Piece → Production A} → ((x : Piece) → Alone requires (f x)) → Turn requires p (token load p >>= f)
token-Turn load p {f} hf = record {
  alone = then-Alone (token-Alone load p) hf;
  filled = first-Filled f (token-Filled load p);
  opens = first-Opens f (token-Opens load p);
  takes = then-Takes (token-Takes load p) (λ x. (hf x).lawful);
}

module _ {requires : Bool} {A : Type 0} (p : Piece → Bool) {step : A → Production A} (hs : (y : A) → Turn requires p (step y)) where
  times-Alone : (n : ℕ) (x : A) → Alone requires (times n p step x)
  times-Alone zero x = closed-Alone
  times-Alone (suc n) x = opens-Alone p (then-Alone (hs x).alone (λ y. times-Alone n y)) (give-Alone x) (first-Filled (times n p step) (hs x).filled) (first-Opens (times n p step) (hs x).opens)

  repeat_goes : (n : ℕ) (x : A) (l : ℕ) (us : List Piece) (t : Piece) (rest : List Piece) (y : A) → Goes (times n p step x) l us t rest y → Goes (repeat p step x) l us t rest y
  repeat_goes n x l us t rest y (Stays e) = Stays (ok_further (repeat_agrees p (λ z. (hs z).alone.lawful) (λ z. (hs z).takes) x n l (us ++ t ∷ rest)) y (t ∷ rest) e)
  repeat_goes n x l us t rest y (On k) = On record { limit = k.limit; above = k.above; front = (n, k.front) }

  pub repeat-Alone : (x : A) → Alone requires (repeat p step x)
  repeat-Alone x = record {
    lawful = repeat-Lawful p (λ z. (hs z).alone.lawful) (λ z. (hs z).takes) x;
    alone = λ l us t rest y w. (w.0, (times-Alone w.0 x).alone l us t rest y w.1);
    free = λ l us t rest y w. repeat_goes w.0 x l us t rest y ((times-Alone w.0 x).free l us t rest y w.1);
  }
