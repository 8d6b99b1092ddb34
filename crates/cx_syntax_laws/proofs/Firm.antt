-- A production that levels are enough for: at a higher level it reads the same.
use Rattle.std.proofs.Common.{◌≡◌, ◌≤◌, ◌<◌, ℕ, zero, suc, Bool, true, false, ◌||◌, if◌then◌else◌, nat_le, List, [], ◌∷◌, length, Ok, Err, refl, sym, ap, ◌∙◌, subst, arith, leb-true}
use Rattle.cx_names.specs.Frames.{Frames}
use Rattle.cx_tokens.specs.Pieces.{Piece}
use Rattle.cx_syntax.specs.declared.stopped.Stopped.{Stopped}
use Rattle.cx_syntax.specs.declared.stopped.Stopped.TheVariants.{Exhausted, Deep}
use Rattle.cx_syntax.specs.declared.context.Context.{Context}
use Rattle.cx_syntax.specs.States.{State, cut, misfit, ◌>>>◌, fits, Reading}
use Rattle.cx_syntax.specs.Productions.{Production, Class, give, step, stepped, ◌>>=◌, when, given, begins, times, repeat, token, read_token}
use Rattle.cx_syntax_laws.proofs.Lawful.{Takes}
use Rattle.cx_syntax.specs.Productions.{counted, read_counted}
use Rattle.cx_syntax_laws.proofs.Counted.{basic_counted}
use Rattle.cx_syntax_laws.proofs.Readings.{ok_value}
use Rattle.cx_syntax_laws.proofs.Tokens.{token_value, lawful_token}

-- From a state where levels are enough: what is nested too deep is refused before they are used up.
pub record FirmAt {A : Type 0} (p q : Production A) (s : State) : Type 0 where
  pub spared : p.read s ≡ Err Exhausted → ⊥
  pub same : q.read s ≡ p.read s
  pub bound : (t : State) (x : A) → p.read s ≡ Ok (x, t) → t.free ≡ false

-- ... from each state in which nesting is limited.
pub record Firm {A : Type 0} (p q : Production A) : Type 0 where
  pub at : (s : State) → s.free ≡ false → FirmAt p q s

-- What needs no level is firm beside itself.
pub firm_step : {A : Type 0} (f : ℕ → Frames → A × ℕ × Frames) → Firm (step f) (step f)
firm_step f = record {
  at = λ s o. record {
    spared = λ e. absurd (cc);
    same = refl;
    bound = λ t x e. step_free (stepped f s) s t x refl e o;
  };
}
  where
    step_free : {A : Type 0} (r : A × State) (s t : State) (x : A) → r.1.free ≡ s.free → ◌≡◌ {A = Reading A} (Ok r) (Ok (x, t)) → s.free ≡ false → t.free ≡ false
    step_free {A} r s t x d e o =
        let w : ◌≡◌ {A = A × State} r (x, t) = cc in
        sym (ap (λ (z : A × State). z.1.free) w) ∙ d ∙ o

give_at : {A : Type 0} (x : A) (s : State) → s.free ≡ false → FirmAt (give x) (give x) s
give_at x s o = let h = (firm_step (λ n names. (x, n, names))).at s o in record { spared = h.spared; same = h.same; bound = h.bound }

pub firm_give : {A : Type 0} (x : A) → Firm (give x) (give x)
firm_give x = record { at = give_at x }

module _ (c : Context) (q : Class) where
  token_spared : (s : State) (l : List Piece) → read_token c q s l ≡ Err Exhausted → ⊥
  unfolding read_token misfit
  token_spared s [] e = absurd (cc)
  token_spared s (y ∷ ts) e = by_tests (q s.names y) (fits c s) e
    where
      by_tests : (a b : Bool) → ◌≡◌ {A = Reading Piece} (if a then (if b then Ok (y, cut s ts) else Err (Deep y.token.at)) else Err (misfit y.token)) (Err Exhausted) → ⊥
      by_tests true true e = absurd (cc)
      by_tests true false e = absurd (cc)
      by_tests false b e = absurd (cc)

  pub firm_token : Firm (token c q) (token c q)
  firm_token = record {
    at = λ s o. record {
      spared = λ e. token_spared s s.left e;
      same = refl;
      bound = λ t x e. (lawful_token c q true).basic.limit s t x e ∙ o;
    };
  }

module _ (c : Context) (t : Piece) where
  counted_spared : (s : State) (l : List Piece) → read_counted c t s l ≡ Err Exhausted → ⊥
  unfolding read_counted
  counted_spared s [] e = absurd (cc)
  counted_spared s (y ∷ ts) e = by_test (fits c s) e
    where
      by_test : (a : Bool) → ◌≡◌ {A = Reading (Unit {0})} (if a then Ok (tt, s) else Err (Deep t.token.at)) (Err Exhausted) → ⊥
      by_test true e = absurd (cc)
      by_test false e = absurd (cc)

  pub firm_counted : Firm (counted c t) (counted c t)
  firm_counted = record {
    at = λ s o. record {
      spared = λ e. counted_spared s s.left e;
      same = refl;
      bound = λ u x e. (basic_counted c t).limit s u x e ∙ o;
    };
  }

module _ {A B : Type 0} {f g : A → Production B} where
  after_values : (r r' : Reading A) → r' ≡ r → (r ≡ Err Exhausted → ⊥) → ((t : State) (x : A) → r ≡ Ok (x, t) → FirmAt (f x) (g x) t)
      → ((r >>> (λ v. (f v.0).read v.1)) ≡ Err Exhausted → ⊥) × ((r' >>> (λ v. (g v.0).read v.1)) ≡ (r >>> (λ v. (f v.0).read v.1)))
      × ((u : State) (y : B) → (r >>> (λ v. (f v.0).read v.1)) ≡ Ok (y, u) → u.free ≡ false)
  after_values (Ok v) r' e k h =
      let w = h v.1 v.0 refl in
      (w.spared, ap (λ (r : Reading A). r >>> (λ v. (g v.0).read v.1)) e ∙ w.same, w.bound)
  after_values (Err z) r' e k h =
      ((λ d. k (let w : z ≡ Exhausted = cc in ap (λ (y : Stopped). Err y) w)), ap (λ (r : Reading A). r >>> (λ v. (g v.0).read v.1)) e, (λ u y d. absurd (cc)))

  -- What follows is firm after each value that is read.
  bind_at : {p q : Production A} (s : State) → FirmAt p q s → ((t : State) (x : A) → p.read s ≡ Ok (x, t) → FirmAt (f x) (g x) t) → FirmAt (p >>= f) (q >>= g) s
  bind_at {p} {q} s h k = let w = after_values (p.read s) (q.read s) h.same h.spared k in record { spared = w.0; same = w.1; bound = w.2 }

  pub firm_bind : {p q : Production A} → Firm p q → ((x : A) → Firm (f x) (g x)) → Firm (p >>= f) (q >>= g)
  firm_bind fp h = record { at = λ s o. bind_at s (fp.at s o) (λ t x e. (h x).at t ((fp.at s o).bound t x e)) }

pub firm_given : {A : Type 0} (is : Bool) {a b c d : Production A} → Firm a c → Firm b d → Firm (given is a b) (given is c d)
firm_given true fa fb = fa
firm_given false fa fb = fb

choice_at : {A : Type 0} (is : Bool) {a b c d : Production A} (s : State) → FirmAt a c s → FirmAt b d s → FirmAt (given is a b) (given is c d) s
choice_at true s fa fb = fa
choice_at false s fa fb = fb

when_at : {A : Type 0} (q : Class) {a b c d : Production A} (s : State) → FirmAt a c s → FirmAt b d s → FirmAt (when q a b) (when q c d) s
when_at q s fa fb = let h = choice_at (begins q s) s fa fb in record { spared = h.spared; same = h.same; bound = h.bound }

pub firm_when : {A : Type 0} (q : Class) {a b c d : Production A} → Firm a c → Firm b d → Firm (when q a b) (when q c d)
firm_when q fa fb = record { at = λ s o. when_at q s (fa.at s o) (fb.at s o) }

-- ---- what costs a construct

-- there is room for a construct in a context
pub record Fits (c : Context) : Type 0 where
  pub some : 1 ≤ c.room

-- a value is read only where there is room in a context
pub record Costs {A : Type 0} (c : Context) (p : Production A) : Type 0 where
  pub costs : (s t : State) (x : A) → s.free ≡ false → p.read s ≡ Ok (x, t) → Fits c

pub costs_token : (c : Context) (q : Class) → Costs c (token c q)
costs_token c q = record {
  costs = λ s t x o e.
      let w = token_value c q s s.left refl t x e in
      record { some = leb-true 1 c.room (ap (λ (b : Bool). b || nat_le 1 c.room) (sym o) ∙ w.3) };
}

module _ {A B : Type 0} (c : Context) (f : A → Production B) where
  costs_value : (s : State) (p : Production A) → Costs c p → s.free ≡ false → (r : Reading A) → p.read s ≡ r → (u : State) (y : B) → (r >>> (λ v. (f v.0).read v.1)) ≡ Ok (y, u) → Fits c
  costs_value s p h o (Ok v) e u y d = h.costs s v.1 v.0 o e
  costs_value s p h o (Err z) e u y d = absurd (cc)

  pub costs_first : (p : Production A) → Costs c p → Costs c (p >>= f)
  costs_first p h = record { costs = λ s u y o e. costs_value s p h o (p.read s) refl u y e }

-- After what costs a construct there was room for one.
pub firm_after : {A B : Type 0} (c : Context) {p q : Production A} {f g : A → Production B} → Costs c p → Firm p q → (Fits c → (x : A) → Firm (f x) (g x)) → Firm (p >>= f) (q >>= g)
firm_after c h fp k = record { at = λ s o. bind_at s (fp.at s o) (λ t x e. (k (h.costs s t x o e) x).at t ((fp.at s o).bound t x e)) }

pub firm_after_token : {B : Type 0} (c : Context) (q : Class) {f g : Piece → Production B} → (Fits c → (x : Piece) → Firm (f x) (g x)) → Firm (token c q >>= f) (token c q >>= g)
firm_after_token c q k = firm_after c (costs_token c q) (firm_token c q) k

-- ---- turns

-- of each value that is read something holds
pub record Keeps {A : Type 0} (I : A → Type 0) (p : Production A) : Type 0 where
  pub keeps : (s t : State) (x : A) → p.read s ≡ Ok (x, t) → I x

module _ {A : Type 0} (q : A → Class) {turn turn' : A → Production A} (I : A → Type 0)
    (takes : (x : A) → Takes (turn x)) (firm : (x : A) → I x → Firm (turn x) (turn' x)) (keeps : (x : A) → I x → Keeps I (turn x)) where
  turns_at : (n : ℕ) (x : A) → I x → (s : State) → length s.left < n → s.free ≡ false → FirmAt (times n q turn x) (times n q turn' x) s
  turns_at zero x i s l o = absurd (omega arith)
  turns_at (suc n) x i s l o =
      when_at (q x) s
      (bind_at s ((firm x i).at s o) (λ t y e. let shorter = (takes x).takes s t y e in turns_at n y ((keeps x i).keeps s t y e) t (omega arith) (((firm x i).at s o).bound t y e)))
      (give_at x s o)

  -- Turns are firm where something holds of the value from which each is read.
  pub firm_turns : (x : A) → I x → Firm (repeat q turn x) (repeat q turn' x)
  firm_turns x i = record {
    at = λ s o. let h = turns_at (suc (length s.left)) x i s (omega arith) o in record { spared = h.spared; same = h.same; bound = h.bound };
  }

-- ... or whatever the value is.
pub firm_repeat : {A : Type 0} (q : A → Class) {turn turn' : A → Production A} → ((x : A) → Takes (turn x)) → ((x : A) → Firm (turn x) (turn' x)) → (x : A) → Firm (repeat q turn x) (repeat q turn' x)
firm_repeat q {turn} {turn'} takes firm x = firm_turns q (λ y. Unit {0}) takes (λ y i. firm y) (λ y i. record { keeps = λ s t z e. tt }) x tt

-- ---- Keeps

pub keeps_give : {A : Type 0} (I : A → Type 0) (x : A) → I x → Keeps I (give x)
keeps_give I x i = record { keeps = λ s t y e. subst I (ok_value x y s t e).0 i }

module _ {A B : Type 0} (I : B → Type 0) (f : A → Production B) where
  keeps_value : (r : Reading A) → ((x : A) → Keeps I (f x)) → (u : State) (y : B) → (r >>> (λ v. (f v.0).read v.1)) ≡ Ok (y, u) → I y
  keeps_value (Ok v) h u y e = (h v.0).keeps v.1 u y e
  keeps_value (Err z) h u y e = absurd (cc)

  pub keeps_bind : (p : Production A) → ((x : A) → Keeps I (f x)) → Keeps I (p >>= f)
  keeps_bind p h = record { keeps = λ s u y e. keeps_value (p.read s) h u y e }

pub keeps_given : {A : Type 0} (I : A → Type 0) (is : Bool) {a b : Production A} → Keeps I a → Keeps I b → Keeps I (given is a b)
keeps_given I true ha hb = ha
keeps_given I false ha hb = hb

pub keeps_when : {A : Type 0} (I : A → Type 0) (q : Class) {a b : Production A} → Keeps I a → Keeps I b → Keeps I (when q a b)
keeps_when I q {a} {b} ha hb = record { keeps = λ s t x e. (keeps_given I (begins q s) ha hb).keeps s t x e }

-- What follows is firm after each value of which something holds.
pub firm_kept : {A B : Type 0} (I : A → Type 0) {p q : Production A} {f g : A → Production B} → Firm p q → Keeps I p → ((x : A) → I x → Firm (f x) (g x)) → Firm (p >>= f) (q >>= g)
firm_kept I fp kp h = record { at = λ s o. bind_at s (fp.at s o) (λ t x e. (h x (kp.keeps s t x e)).at t ((fp.at s o).bound t x e)) }
