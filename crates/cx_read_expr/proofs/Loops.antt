-- One turn of a loop of the code, against a production that is read again and again.
use Rattle.std.proofs.Common.{◌≡◌, ◌<◌, Result, Bool, true, if◌then◌else◌, Ok, Err, length, sym, ap, ◌∙◌}
use Rattle.cx_syntax.specs.declared.stopped.Stopped.{Stopped}
use Rattle.cx_syntax.specs.States.{State, Reading, ◌>>>◌}
use Rattle.cx_syntax.specs.Productions.{Production, Class, begins, repeat}
use Rattle.cx_cursor.specs.Reads.{Reads}
use Rattle.cx_syntax_laws.proofs.Lawful.{Takes}
use Rattle.cx_syntax_laws.proofs.Repeats.{repeat_turn}

module _ {A : Type 0} (q : A → Class) (turn : A → Production A) (takes : (x : A) → Takes (turn x)) where
  -- where a turn is read
  pub one_turn : (x y : A) (s t : State) → begins (q x) s ≡ true → (turn x).read s ≡ Ok (y, t) → (repeat q turn x).read s ≡ (repeat q turn y).read t
  one_turn x y s t b e =
      repeat_turn q takes x s
      ∙ ap (λ (c : Bool). if c then ((turn x).read s >>> (λ r. (repeat q turn r.0).read r.1)) else Ok (x, s)) b
      ∙ ap (λ (r : Reading A). r >>> (λ v. (repeat q turn v.0).read v.1)) e

-- what a call has read that gave a value
pub has_read : {X A : Type 0} (view : X → A) (p : Production A) (s t : State) (r : Result X Stopped) (x : X) → Reads view p s r t → r ≡ Ok x → p.read s ≡ Ok (view x, t)
has_read {X = X} view p s t (Ok y) x reads e = let same : y ≡ x = cc in reads (λ d. cc) ∙ ap (λ (z : X). Ok (view z, t)) same
has_read view p s t (Err y) x reads e = cc

-- a turn that a call has read: less is left, and what is read from the value and the state after it is what is read from those before
pub record Turned {A : Type 0} (q : A → Class) (turn : A → Production A) (x y : A) (s t : State) : Type 0 where
  pub smaller : length t.left < length s.left
  pub goes_on : (repeat q turn y).read t ≡ (repeat q turn x).read s

module _ {X A : Type 0} (view : X → A) (q : A → Class) (turn : A → Production A) (takes : (x : A) → Takes (turn x)) where
  pub turned : (x y : X) (s t : State) (r : Result X Stopped) → Reads view (turn (view x)) s r t → r ≡ Ok y → begins (q (view x)) s ≡ true → Turned q turn (view x) (view y) s t
  turned x y s t r reads e b =
      let read : (turn (view x)).read s ≡ Ok (view y, t) = has_read view (turn (view x)) s t r y reads e in
      record { smaller = (takes (view x)).takes s t (view y) read; goes_on = sym (one_turn q turn takes (view x) (view y) s t b read) }
