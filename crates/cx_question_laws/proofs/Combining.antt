-- What is made of answers that stay, stays: a lemma for each way in which answers are joined.
use Rattle.std.proofs.Common.{◌≡◌, Bool, true, false, List, [], ◌∷◌, refl, sym, ap, ◌∙◌, true≢false}
use Rattle.std.specs.Prelude.{Option, Some, None, IsFalse}
use Rattle.cx_base.specs.declared.limit.Limit.{Limit}
use Rattle.cx_base.specs.declared.place.Place.{Place}
use Rattle.cx_questions.specs.Answers.{Answer, given, invalid, broken, passed, and_then, either, must, present, in_case, if_valid, harden, instead, within, each, every, in_turn}
use Rattle.cx_question_laws.specs.Staying.{Stays, it_stays, stays, passes}

module _ {kind : Limit → Bool} where
  pub same_stays : {A : Type 0} (a : Answer A) → Stays kind a a
  same_stays a = it_stays (λ h. refl)

  pub then_stays : {A B : Type 0} {a a' : Answer A} {f f' : A → Answer B} → Stays kind a a' → ((x : A) → Stays kind (f x) (f' x)) → Stays kind (and_then a f) (and_then a' f')
  unfolding and_then
  then_stays {A = A} {B = B} {a = a} {a' = a'} {f = f} {f' = f'} s k = it_stays (go a (stays s))
    where
      go : (a : Answer A) → (IsFalse (passes kind a) → a' ≡ a) → IsFalse (passes kind (and_then a f)) → and_then a' f' ≡ and_then a f
      go (given x) s h = ap (λ (y : Answer A). and_then y f') (s refl) ∙ stays (k x) h
      go (invalid e) s h = ap (λ (y : Answer A). and_then y f') (s refl)
      go (broken e) s h = ap (λ (y : Answer A). and_then y f') (s refl)
      go (passed l at) s h = ap (λ (y : Answer A). and_then y f') (s h)

  pub either_stays : {A : Type 0} (c : Bool) {f g f' g' : Unit {0} → Answer A} → ((x : Unit {0}) → Stays kind (f x) (f' x)) → ((x : Unit {0}) → Stays kind (g x) (g' x)) → Stays kind (either c f g) (either c f' g')
  unfolding either
  either_stays true k l = k tt
  either_stays false k l = l tt

  pub in_case_stays : {A B : Type 0} (o : Option A) {f f' : A → Answer B} {g g' : Unit {0} → Answer B} → ((x : A) → Stays kind (f x) (f' x)) → ((x : Unit {0}) → Stays kind (g x) (g' x)) → Stays kind (in_case o f g) (in_case o f' g')
  unfolding in_case
  in_case_stays (Some x) k l = k x
  in_case_stays None k l = l tt

  pub if_valid_stays : {A : Type 0} {a a' : Answer A} → Stays kind a a' → Stays kind (if_valid a) (if_valid a')
  unfolding if_valid
  if_valid_stays {A = A} {a = a} {a' = a'} s = it_stays (go a (stays s))
    where
      go : (a : Answer A) → (IsFalse (passes kind a) → a' ≡ a) → IsFalse (passes kind (if_valid a)) → if_valid a' ≡ if_valid a
      go (given x) s h = ap (λ (y : Answer A). if_valid y) (s refl)
      go (invalid e) s h = ap (λ (y : Answer A). if_valid y) (s refl)
      go (broken e) s h = ap (λ (y : Answer A). if_valid y) (s refl)
      go (passed l at) s h = ap (λ (y : Answer A). if_valid y) (s h)

  pub harden_stays : {A : Type 0} {a a' : Answer A} → Stays kind a a' → Stays kind (harden a) (harden a')
  unfolding harden
  harden_stays {A = A} {a = a} {a' = a'} s = it_stays (go a (stays s))
    where
      go : (a : Answer A) → (IsFalse (passes kind a) → a' ≡ a) → IsFalse (passes kind (harden a)) → harden a' ≡ harden a
      go (given x) s h = ap (λ (y : Answer A). harden y) (s refl)
      go (invalid e) s h = ap (λ (y : Answer A). harden y) (s refl)
      go (broken e) s h = ap (λ (y : Answer A). harden y) (s refl)
      go (passed l at) s h = ap (λ (y : Answer A). harden y) (s h)

  pub within_stays : {A : Type 0} (at : Place) {a a' : Answer A} → Stays kind a a' → Stays kind (within at a) (within at a')
  unfolding within
  within_stays {A = A} p {a = a} {a' = a'} s = it_stays (go a (stays s))
    where
      go : (a : Answer A) → (IsFalse (passes kind a) → a' ≡ a) → IsFalse (passes kind (within p a)) → within p a' ≡ within p a
      go (given x) s h = ap (λ (y : Answer A). within p y) (s refl)
      go (invalid e) s h = ap (λ (y : Answer A). within p y) (s refl)
      go (broken e) s h = ap (λ (y : Answer A). within p y) (s refl)
      go (passed l at) s h = ap (λ (y : Answer A). within p y) (s h)

  pub instead_stays : {A : Type 0} {a a' r r' : Answer A} → Stays kind a a' → Stays kind r r' → Stays kind (instead a r) (instead a' r')
  unfolding instead
  instead_stays {A = A} {a = a} {a' = a'} {r = r} {r' = r'} s k = it_stays (go a (stays s))
    where
      go : (a : Answer A) → (IsFalse (passes kind a) → a' ≡ a) → IsFalse (passes kind (instead a r)) → instead a' r' ≡ instead a r
      go (given x) s h = ap (λ (y : Answer A). instead y r') (s refl)
      go (invalid e) s h = ap (λ (y : Answer A). instead y r') (s refl) ∙ stays k h
      go (broken e) s h = ap (λ (y : Answer A). instead y r') (s refl)
      go (passed l at) s h = ap (λ (y : Answer A). instead y r') (s h)

  pub must_stays : (c : Bool) {r r' : Answer (Unit {0})} → Stays kind r r' → Stays kind (must c r) (must c r')
  unfolding must
  must_stays true s = same_stays (given tt)
  must_stays false s = s

  pub present_stays : {A : Type 0} (o : Option A) {r r' : Answer A} → Stays kind r r' → Stays kind (present o r) (present o r')
  unfolding present
  present_stays (Some x) s = same_stays (given x)
  present_stays None s = s

  pub each_stays : {A B : Type 0} {f f' : A → Answer B} → ((x : A) → Stays kind (f x) (f' x)) → (xs : List A) → Stays kind (each f xs) (each f' xs)
  unfolding each
  each_stays k [] = same_stays (given [])
  each_stays k (x ∷ xs) = then_stays (k x) (λ y. then_stays (each_stays k xs) (λ ys. same_stays (given (y ∷ ys))))

  pub every_stays : {A : Type 0} {f f' : A → Answer Bool} → ((x : A) → Stays kind (f x) (f' x)) → (xs : List A) → Stays kind (every f xs) (every f' xs)
  unfolding every
  every_stays k [] = same_stays (given true)
  every_stays k (x ∷ xs) = then_stays (k x) (λ holds. either_stays holds (λ _. every_stays k xs) (λ _. same_stays (given false)))

  pub in_turn_stays : {A B : Type 0} {f f' : B → A → Answer B} → ((y : B) (x : A) → Stays kind (f y x) (f' y x)) → (y : B) (xs : List A) → Stays kind (in_turn f y xs) (in_turn f' y xs)
  unfolding in_turn
  in_turn_stays k y [] = same_stays (given y)
  in_turn_stays k y (x ∷ xs) = then_stays (k y x) (λ z. in_turn_stays k z xs)

  -- a limit of the kind that a test keeps, and that a test which holds more often keeps elsewhere
  pub limit_stays : (c d : Bool) (l : Limit) (at : Place) → kind l ≡ true → (c ≡ true → d ≡ true) → Stays kind (must c (passed l at)) (must d (passed l at))
  unfolding must
  limit_stays true d l at k h = it_stays (λ _. ap (λ (b : Bool). must b (passed l at)) (h refl))
  limit_stays false d l at k h = it_stays (λ g. absurd (true≢false (sym k ∙ g)))

pub ruleset staying = (same_stays, then_stays, either_stays, in_case_stays, if_valid_stays, harden_stays, within_stays, instead_stays, must_stays, present_stays, each_stays, every_stays, in_turn_stays)
