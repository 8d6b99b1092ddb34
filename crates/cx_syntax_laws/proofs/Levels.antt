-- A production at a lower and at a higher level.
use Rattle.std.proofs.Common.{◌≡◌, ℕ, zero, suc, Bool, true, false, if◌then◌else◌, List, [], ◌∷◌, length, Ok, Err, refl, sym, ap, ◌∙◌}
use Rattle.cx_tokens.specs.Pieces.{Piece}
use Rattle.cx_syntax.specs.declared.stopped.Stopped.TheVariants.{NoMemory, Ended, Exhausted, Fault, Deep}
use Rattle.cx_syntax.specs.States.{State, ◌>>>◌, Reading}
use Rattle.cx_syntax.specs.Productions.{Production, Class, ◌>>=◌, closed, read_closed, when, given, begins, times, repeat}
use Rattle.cx_syntax_laws.proofs.Lawful.{Open, Lawful}
use Rattle.cx_tokens.specs.Pieces.{Piece}
use Rattle.cx_names.specs.Frames.{Frames}
use Rattle.cx_syntax.specs.declared.context.Context.{Context}
use Rattle.cx_syntax.specs.Productions.{give, step, token, counted}
use Rattle.cx_syntax_laws.proofs.Sequence.{lawful_give, lawful_step}
use Rattle.cx_syntax_laws.proofs.Tokens.{lawful_token}
use Rattle.cx_syntax_laws.proofs.Counted.{basic_counted}
use Rattle.cx_syntax_laws.proofs.Readings.{open_as}

-- The higher one reads the same, where the lower one has levels enough; or goes on at the end, where the lower one has
-- none.
pub data Agrees {A : Type 0} (low high : Reading A) : Type 0 where
  Lower : low ≡ Err Exhausted → Agrees low high
  Alike : high ≡ low → Agrees low high
  Further : low ≡ Err Ended → Open high → Agrees low high

pub record Grows {A : Type 0} (p q : Production A) : Type 0 where
  pub agrees : (s : State) → Agrees (p.read s) (q.read s)
  pub nothing : (s : State) → s.left ≡ [] → Open (q.read s)

-- ---- Grows

agrees_as : {A : Type 0} {l l' h h' : Reading A} → l' ≡ l → h' ≡ h → Agrees l h → Agrees l' h'
agrees_as e f (Lower k) = Lower (e ∙ k)
agrees_as e f (Alike k) = Alike (f ∙ k ∙ sym e)
agrees_as e f (Further k o) = Further (e ∙ k) (open_as f o)

pub grows_itself : {strict : Bool} {A : Type 0} {p : Production A} → Lawful strict p → Grows p p
grows_itself h = record { agrees = λ s. Alike refl; nothing = h.basic.nothing }

pub grows_give : {A : Type 0} (x : A) → Grows (give x) (give x)
grows_give x = grows_itself (lawful_give true x)

pub grows_step : {A : Type 0} (f : ℕ → Frames → A × ℕ × Frames) → Grows (step f) (step f)
grows_step f = grows_itself (lawful_step true f)

pub grows_token : (c : Context) (q : Class) → Grows (token c q) (token c q)
grows_token c q = grows_itself (lawful_token c q true)

pub grows_counted : (c : Context) (t : Piece) → Grows (counted c t) (counted c t)
grows_counted c t = record { agrees = λ s. Alike refl; nothing = (basic_counted c t).nothing }

pub grows_closed : {strict : Bool} {A : Type 0} {p : Production A} → Lawful strict p → Grows closed p
unfolding read_closed
grows_closed {A = A} {p} h = record { agrees = λ s. by_left s s.left refl; nothing = h.basic.nothing }
  where
    by_left : (s : State) (l : List Piece) → s.left ≡ l → Agrees (read_closed l) (p.read s)
    by_left s [] e = Further refl (h.basic.nothing s e)
    by_left s (y ∷ ts) e = Lower refl

module _ {A B : Type 0} {f g : A → Production B} where
  grows_open : ((x : A) → Grows (f x) (g x)) → (r : Reading A) → Open r → Open (r >>> (λ v. (g v.0).read v.1))
  grows_open h (Ok v) o = (h v.0).nothing v.1 o
  grows_open h (Err Ended) o = tt
  grows_open h (Err NoMemory) o = absurd o
  grows_open h (Err Exhausted) o = absurd o
  grows_open h (Err (Fault k at)) o = absurd o
  grows_open h (Err (Deep at)) o = absurd o

  same_agrees : ((x : A) → Grows (f x) (g x)) → (r : Reading A) → Agrees (r >>> (λ v. (f v.0).read v.1)) (r >>> (λ v. (g v.0).read v.1))
  same_agrees h (Ok v) = (h v.0).agrees v.1
  same_agrees h (Err z) = Alike refl

  bind_agrees : ((x : A) → Grows (f x) (g x)) → (r r' : Reading A) → Agrees r r' → Agrees (r >>> (λ v. (f v.0).read v.1)) (r' >>> (λ v. (g v.0).read v.1))
  bind_agrees h r r' (Lower k) = Lower (ap (λ (z : Reading A). z >>> (λ v. (f v.0).read v.1)) k)
  bind_agrees h r r' (Alike k) = agrees_as refl (ap (λ (z : Reading A). z >>> (λ v. (g v.0).read v.1)) k) (same_agrees h r)
  bind_agrees h r r' (Further k o) = Further (ap (λ (z : Reading A). z >>> (λ v. (f v.0).read v.1)) k) (grows_open h r' o)

  pub grows_bind : {p q : Production A} → Grows p q → ((x : A) → Grows (f x) (g x)) → Grows (p >>= f) (q >>= g)
  grows_bind {p} {q} gp gf = record { agrees = λ s. bind_agrees gf (p.read s) (q.read s) (gp.agrees s); nothing = λ s e. grows_open gf (q.read s) (gp.nothing s e) }

pub grows_given : {A : Type 0} (is : Bool) {a b c d : Production A} → Grows a c → Grows b d → Grows (given is a b) (given is c d)
grows_given true ga gb = ga
grows_given false ga gb = gb

pub grows_when : {A : Type 0} (q : Class) {a b c d : Production A} → Grows a c → Grows b d → Grows (when q a b) (when q c d)
grows_when {A} q {a} {b} {c} {d} ga gb = record { agrees = λ s. by_test s (begins q s); nothing = λ s e. open_test s e (begins q s) }
  where
    by_test : (s : State) (is : Bool) → Agrees (if is then a.read s else b.read s) (if is then c.read s else d.read s)
    by_test s true = ga.agrees s
    by_test s false = gb.agrees s

    open_test : (s : State) → s.left ≡ [] → (is : Bool) → Open (if is then c.read s else d.read s)
    open_test s e true = ga.nothing s e
    open_test s e false = gb.nothing s e

module _ {A : Type 0} (q : A → Class) {turn turn' : A → Production A} (h : (x : A) → Grows (turn x) (turn' x)) where
  pub grows_times : (n : ℕ) (x : A) → Grows (times n q turn x) (times n q turn' x)
  unfolding read_closed
  grows_times zero x = record { agrees = λ s. Alike refl; nothing = λ s e. open_as (ap read_closed e) tt }
  grows_times (suc n) x = grows_when (q x) (grows_bind (h x) (grows_times n)) (record { agrees = λ s. Alike refl; nothing = λ s e. e })

  pub grows_repeat : (x : A) → Grows (repeat q turn x) (repeat q turn' x)
  grows_repeat x = record {
    agrees = λ s. (grows_times (suc (length s.left)) x).agrees s;
    nothing = λ s e. (grows_times (suc (length s.left)) x).nothing s e;
  }
