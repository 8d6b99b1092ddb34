-- How many nodes a production makes: each piece that is taken pays for eight of them.
use Rattle.std.proofs.Common.{◌≡◌, ◌≤◌, ◌+◌, ◌-◌, ◌*◌, ℕ, zero, suc, Bool, true, false, nat_le, List, [], ◌∷◌, length, Ok, Err, refl, sym, ap, ◌∙◌, arith, leb-true, le-leb}
use Rattle.cx_tokens.specs.Pieces.{Piece}
use Rattle.cx_names.specs.Frames.{Frames}
use Rattle.cx_syntax.specs.declared.context.Context.{Context}
use Rattle.cx_syntax.specs.States.{State, Reading, ◌>>>◌}
use Rattle.cx_syntax.specs.Productions.{Production, Class, begins, give, step, stepped, ◌>>=◌, token, counted, given, when, closed, read_closed, times, repeat}
use Rattle.cx_syntax_laws.proofs.Readings.{ok_value}
use Rattle.cx_syntax_laws.proofs.Tokens.{lawful_token}
use Rattle.cx_syntax_laws.proofs.Counted.{basic_counted}

-- the number of the next node, and eight for each piece that is left
abbrev pub worth : State → ℕ
worth s = s.next + 8 * length s.left

-- With so much in hand, so much is in hand after it.
pub record Spends (have want : ℕ) {A : Type 0} (p : Production A) : Type 0 where
  pub spends : (s t : State) (x : A) → p.read s ≡ Ok (x, t) → worth t + want ≤ worth s + have

module _ (have want : ℕ) where
  at_most : nat_le want have ≡ true → want ≤ have
  at_most e = leb-true want have e

  pub spends_give : {A : Type 0} (x : A) → nat_le want have ≡ true → Spends have want (give x)
  spends_give x e = record {
    spends = λ s t y d.
        let l = at_most e in
        let k : worth s ≡ worth t = ap worth (ok_value x y s t d).1 in
        omega arith;
  }

  pub spends_closed : (A : Type 0) → Spends have want (closed {A = A})
  unfolding read_closed
  spends_closed A = record { spends = λ s t x e. absurd (by_left t x s.left e) }
    where
      by_left : (t : State) (x : A) (l : List Piece) → read_closed {A = A} l ≡ Ok (x, t) → ⊥
      by_left t x [] e = cc
      by_left t x (y ∷ ys) e = cc

  module _ {A B : Type 0} (f : A → Production B) where
    read_value : (r : Reading A) (u : State) (y : B) → (r >>> (λ q. (f q.0).read q.1)) ≡ Ok (y, u) → (x : A) × (t : State) × (r ≡ Ok (x, t)) × ((f x).read t ≡ Ok (y, u))
    read_value (Ok q) u y e = (q.0, q.1, refl, e)
    read_value (Err z) u y e = absurd (cc)

    -- a production of which it is known, then another
    pub spends_then : (need gain : ℕ) {p : Production A} → Spends need gain p → nat_le need have ≡ true → ((x : A) → Spends (have - need + gain) want (f x)) → Spends have want (p >>= f)
    spends_then need gain {p} h e hf = record {
      spends = λ s u y d.
          let w = read_value (p.read s) u y d in
          let l = leb-true need have e in
          let a = h.spends s w.1 w.0 w.2 in
          let b = (hf w.0).spends w.1 u y w.3 in
          omega arith;
    }

    pub give_then : (x : A) → Spends have want (f x) → Spends have want (give x >>= f)
    give_then x h = record { spends = λ s t y e. h.spends s t y e }

    pub given_then : (is : Bool) (a b : Production A) → Spends have want (a >>= f) → Spends have want (b >>= f) → Spends have want (given is a b >>= f)
    given_then true a b ha hb = record { spends = λ s t y e. ha.spends s t y e }
    given_then false a b ha hb = record { spends = λ s t y e. hb.spends s t y e }

    pub when_then : (q : Class) (a b : Production A) → Spends have want (a >>= f) → Spends have want (b >>= f) → Spends have want (when q a b >>= f)
    when_then q a b ha hb = record { spends = λ s t y e. (given_then (begins q s) a b ha hb).spends s t y e }

  pub sequence_then : {A B C : Type 0} (p : Production A) (g : A → Production B) (f : B → Production C) → Spends have want (p >>= (λ x. g x >>= f)) → Spends have want ((p >>= g) >>= f)
  sequence_then p g f h = record { spends = λ s t y e. h.spends s t y (regroup (p.read s) ∙ e) }
    where
      regroup : (r : Reading _) → (r >>> (λ q. ((g q.0).read q.1 >>> (λ v. (f v.0).read v.1)))) ≡ ((r >>> (λ q. (g q.0).read q.1)) >>> (λ v. (f v.0).read v.1))
      regroup (Ok q) = refl
      regroup (Err z) = refl

  pub spends_given : {A : Type 0} (is : Bool) {a b : Production A} → Spends have want a → Spends have want b → Spends have want (given is a b)
  spends_given true ha hb = ha
  spends_given false ha hb = hb

  pub spends_when : {A : Type 0} (q : Class) {a b : Production A} → Spends have want a → Spends have want b → Spends have want (when q a b)
  spends_when q ha hb = record { spends = λ s t x e. (spends_given (begins q s) ha hb).spends s t x e }

pub spends_token : (c : Context) (q : Class) → Spends 0 8 (token c q)
spends_token c q = record {
  spends = λ s t x e.
      let w = (lawful_token c q true).basic.sound s t x e in
      let l : length s.left ≡ suc (length t.left) = ap length w.0 in
      let n : t.next ≡ s.next = ap (λ (u : State). u.next) w.1 in
      omega arith;
}

pub spends_counted : (c : Context) (v : Piece) → Spends 0 0 (counted c v)
spends_counted c v = record { spends = λ s t x e. let k : worth t ≡ worth s = ap worth ((basic_counted c v).sound s t x e).0 in omega arith }

stepped_next : {A : Type 0} (f : ℕ → Frames → A × ℕ × Frames) (s t : State) (y : A) → ◌≡◌ {A = Reading A} (Ok (stepped f s)) (Ok (y, t)) → (t.next ≡ (f s.next s.names).1) × (t.left ≡ s.left)
stepped_next f s t y e =
    let k = (ok_value (stepped f s).0 y (stepped f s).1 t e).1 in
    (ap (λ (u : State). u.next) (sym k), ap (λ (u : State). u.left) (sym k))

-- a step that takes a number, and one that takes none
pub spends_node : {A : Type 0} (f : ℕ → Frames → A × ℕ × Frames) → ((n : ℕ) (names : Frames) → (f n names).1 ≡ n + 1) → Spends 1 0 (step f)
spends_node f h = record {
  spends = λ s t y e.
      let k = stepped_next f s t y e in
      let n : t.next ≡ s.next + 1 = k.0 ∙ h s.next s.names in
      let l : length t.left ≡ length s.left = ap length k.1 in
      omega arith;
}

pub spends_step : {A : Type 0} (f : ℕ → Frames → A × ℕ × Frames) → ((n : ℕ) (names : Frames) → (f n names).1 ≡ n) → Spends 0 0 (step f)
spends_step f h = record {
  spends = λ s t y e.
      let k = stepped_next f s t y e in
      let n : t.next ≡ s.next = k.0 ∙ h s.next s.names in
      let l : length t.left ≡ length s.left = ap length k.1 in
      omega arith;
}

module _ {A : Type 0} (q : A → Class) {turn : A → Production A} (h : (x : A) → Spends 0 0 (turn x)) where
  spends_times : (n : ℕ) (x : A) → Spends 0 0 (times n q turn x)
  spends_times zero x = spends_closed 0 0 A
  spends_times (suc n) x = spends_when 0 0 (q x) (spends_then 0 0 (times n q turn) 0 0 (h x) refl (spends_times n)) (spends_give 0 0 x refl)

  pub spends_repeat : (x : A) → Spends 0 0 (repeat q turn x)
  spends_repeat x = record { spends = λ s t y e. (spends_times (suc (length s.left)) x).spends s t y e }

none_needed : (have : ℕ) → nat_le 0 have ≡ true
none_needed have = le-leb 0 have (omega arith)

-- ---- for searches: what is known of one production, before another one and alone

module _ (have want : ℕ) {A B : Type 0} (f : A → Production B) where
  pub then_repeat : (q : A → Class) {turn : A → Production A} (x : A) → ((y : A) → Spends 0 0 (turn y)) → ((y : A) → Spends (have - 0 + 0) want (f y)) → Spends have want (repeat q turn x >>= f)
  then_repeat q x h k = spends_then have want f 0 0 (spends_repeat q h x) (none_needed have) k

  pub then_node : (g : ℕ → Frames → A × ℕ × Frames) → ((n : ℕ) (names : Frames) → (g n names).1 ≡ n + 1) → nat_le 1 have ≡ true → ((x : A) → Spends (have - 1 + 0) want (f x)) → Spends have want (step g >>= f)
  then_node g h e k = spends_then have want f 1 0 (spends_node g h) e k

  pub then_step : (g : ℕ → Frames → A × ℕ × Frames) → ((n : ℕ) (names : Frames) → (g n names).1 ≡ n) → ((x : A) → Spends (have - 0 + 0) want (f x)) → Spends have want (step g >>= f)
  then_step g h k = spends_then have want f 0 0 (spends_step g h) (none_needed have) k

module _ (have want : ℕ) {B : Type 0} where
  pub then_token : (c : Context) (q : Class) (f : Piece → Production B) → ((x : Piece) → Spends (have - 0 + 8) want (f x)) → Spends have want (token c q >>= f)
  then_token c q f k = spends_then have want f 0 8 (spends_token c q) (none_needed have) k

  pub then_counted : (c : Context) (v : Piece) (f : Unit {0} → Production B) → ((x : Unit {0}) → Spends (have - 0 + 0) want (f x)) → Spends have want (counted c v >>= f)
  then_counted c v f k = spends_then have want f 0 0 (spends_counted c v) (none_needed have) k

  -- what is known with less in hand
  pub spends_any : (need gain : ℕ) {p : Production B} → Spends need gain p → nat_le need have ≡ true → nat_le want (have - need + gain) ≡ true → Spends have want p
  spends_any need gain h e d = record {
    spends = λ s t x w.
        let a = h.spends s t x w in
        let b = leb-true need have e in
        let k = leb-true want (have - need + gain) d in
        omega arith;
  }

  pub any_repeat : (q : B → Class) {turn : B → Production B} (x : B) → ((y : B) → Spends 0 0 (turn y)) → nat_le want have ≡ true → Spends have want (repeat q turn x)
  any_repeat q {turn} x h d = record {
    spends = λ s t y w.
        let a = (spends_repeat q h x).spends s t y w in
        let k = leb-true want have d in
        omega arith;
  }

pub any_token : (have want : ℕ) (c : Context) (q : Class) → nat_le want (have + 8) ≡ true → Spends have want (token c q)
any_token have want c q d = record {
  spends = λ s t x w.
      let a = (spends_token c q).spends s t x w in
      let k = leb-true want (have + 8) d in
      omega arith;
}

pub any_step : (have want : ℕ) {A : Type 0} (g : ℕ → Frames → A × ℕ × Frames) → ((n : ℕ) (names : Frames) → (g n names).1 ≡ n) → nat_le want have ≡ true → Spends have want (step g)
any_step have want g h d = record {
  spends = λ s t x w.
      let a = (spends_step g h).spends s t x w in
      let k = leb-true want have d in
      omega arith;
}

pub ruleset spending = (sequence_then, when_then, given_then, give_then, then_token, then_node, then_step, then_counted, then_repeat, spends_when, spends_given, spends_give, any_token, any_step, any_repeat)
