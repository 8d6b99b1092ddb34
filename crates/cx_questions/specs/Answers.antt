-- What a definition of the language answers, and how one step of it follows another.
--
-- A soft refusal is one of an immediate context ([temp.deduct]): where something is only tried, it makes a candidate not
-- viable, a constraint not satisfied, a requirement false. Elsewhere it is a fault of the unit. A hard refusal ends the unit.
use Rattle.std.specs.Prelude.{Bool, List, [], ◌∷◌, Option, Some, None, if◌then◌else◌}
use Rattle.cx_base.specs.declared.fault.Fault.{Fault}
use Rattle.cx_base.specs.declared.kind.Kind.{Kind}
use Rattle.cx_base.specs.declared.limit.Limit.{Limit}
use Rattle.cx_base.specs.declared.place.Place.{Place}

-- given: this value. invalid: a soft fault. broken: a hard fault. passed: a limit is passed at a place.
pub data Answer (A : Type 0) : Type 0 where
  given : A → Answer A
  invalid : Fault → Answer A
  broken : Fault → Answer A
  passed : Limit → Place → Answer A

-- a fault of a kind at a place
abbrev pub fault_at : Kind → Place → Fault
fault_at kind at = record { kind = kind; at = at; also = []; chain = [] }

-- ... which is about other places as well
abbrev pub fault_about : Kind → Place → List Place → Fault
fault_about kind at also = record { kind = kind; at = at; also = also; chain = [] }

-- refused softly, and refused hard
abbrev pub soft : {A : Type 0} → Kind → Place → Answer A
soft kind at = invalid (fault_at kind at)

abbrev pub hard : {A : Type 0} → Kind → Place → Answer A
hard kind at = broken (fault_at kind at)

-- ---- one step after another: the first that is no value is the answer

unfoldable pub and_then : {A B : Type 0} → Answer A → (A → Answer B) → Answer B
and_then (given x) f = f x
and_then (invalid e) f = invalid e
and_then (broken e) f = broken e
and_then (passed l at) f = passed l at

infixl 10 ◌>>=◌ ◌>>◌
abbrev pub ◌>>=◌ : {A B : Type 0} → Answer A → (A → Answer B) → Answer B
a >>= f = and_then a f

abbrev pub ◌>>◌ : {A B : Type 0} → Answer A → Answer B → Answer B
a >> b = and_then a (λ _. b)

-- one of two ways; only the way that is gone asks anything
unfoldable pub either : {A : Type 0} → Bool → (Unit {0} → Answer A) → (Unit {0} → Answer A) → Answer A
either condition yes_way no_way = (if condition then yes_way else no_way) tt

-- a condition that must hold, and a value that must be there, else this refusal
unfoldable pub must : Bool → Answer (Unit {0}) → Answer (Unit {0})
must condition refusal = if condition then given tt else refusal

unfoldable pub present : {A : Type 0} → Option A → Answer A → Answer A
present (Some x) refusal = given x
present None refusal = refusal

-- what is there, asked further, and what follows where there is nothing
unfoldable pub in_case : {A B : Type 0} → Option A → (A → Answer B) → (Unit {0} → Answer B) → Answer B
in_case (Some x) f g = f x
in_case None f g = g tt

-- what is tried only: a soft refusal is no value
unfoldable pub if_valid : {A : Type 0} → Answer A → Answer (Option A)
if_valid (given x) = given (Some x)
if_valid (invalid e) = given None
if_valid (broken e) = broken e
if_valid (passed l at) = passed l at

-- where the context is not immediate: a soft refusal is a fault of the unit
unfoldable pub harden : {A : Type 0} → Answer A → Answer A
harden (given x) = given x
harden (invalid e) = broken e
harden (broken e) = broken e
harden (passed l at) = passed l at

-- another refusal in place of a soft one
unfoldable pub instead : {A : Type 0} → Answer A → Answer A → Answer A
instead (given x) refusal = given x
instead (invalid e) refusal = refusal
instead (broken e) refusal = broken e
instead (passed l at) refusal = passed l at

-- a hard fault, reached through a use at a place: the use goes in front of its chain
abbrev pub reached_from : Place → Fault → Fault
reached_from at e = record e { chain = at ∷ e.chain }

unfoldable pub within : {A : Type 0} → Place → Answer A → Answer A
within at (given x) = given x
within at (invalid e) = invalid e
within at (broken e) = broken (reached_from at e)
within at (passed l place) = passed l place

-- ---- one question for each of a list, in order

unfoldable pub each : {A B : Type 0} → (A → Answer B) → List A → Answer (List B)
each f [] = given []
each f (x ∷ xs) = and_then (f x) (λ y. and_then (each f xs) (λ ys. given (y ∷ ys)))

-- whether all, and whether any of a list holds: what comes later is asked only where it still tells
unfoldable pub every : {A : Type 0} → (A → Answer Bool) → List A → Answer Bool
every f [] = given Bool.true
every f (x ∷ xs) = and_then (f x) (λ holds. either holds (λ _. every f xs) (λ _. given Bool.false))

-- a value that each of a list changes in turn
unfoldable pub in_turn : {A B : Type 0} → (B → A → Answer B) → B → List A → Answer B
in_turn f y [] = given y
in_turn f y (x ∷ xs) = and_then (f y x) (λ z. in_turn f z xs)
