-- Brackets, scopes and lists: what is built of the combinators again.
use Rattle.std.proofs.Common.{ℕ, Bool, true, false, sym, true≢false}
use Rattle.cx_tokens.specs.declared.punctuator.Punctuator.{Punctuator}
use Rattle.cx_tokens.specs.declared.punctuator.Punctuator.TheVariants as punctuator
use Rattle.cx_tokens.specs.Pieces.{Piece}
use Rattle.cx_names.specs.Frames.{Frames}
use Rattle.cx_syntax.specs.declared.context.Context.{Context}
use Rattle.cx_syntax.specs.Contexts.{deeper, inside, listed}
use Rattle.cx_syntax.specs.Productions.{Production, Class, give, ◌>>=◌, step, stepped, token}
use Rattle.cx_syntax.specs.Classes.{punct, closing, where_holds}
use Rattle.cx_syntax.specs.Combinators.{Bracketed, bracketed, in_angles}
use Rattle.cx_syntax_laws.proofs.Lawful.{Lawful, Filled, Takes, Opens}
use Rattle.cx_syntax_laws.proofs.Sequence.{lawful_give, lawful_bind, lawful_before}
use Rattle.cx_syntax_laws.proofs.Tokens.{lawful_token, filled_token, takes_token, opens_token}
use Rattle.cx_syntax_laws.proofs.Firsts.{filled_first, takes_first, opens_first, lawful_weak}

-- ---- what stands in brackets may be ended by the closing one

module _ {A : Type 0} (left_one right_one : Punctuator) (c : Context) (p : Context → Production A) where
  closing_lawful : (x : A) (opening : Piece) → Lawful {A = Bracketed A} true (token (deeper c) (punct right_one) >>= (λ closing. give (record { at = opening.token.at; item = x })))
  closing_lawful x opening = lawful_bind (lawful_token (deeper c) (punct right_one) true) (λ t. lawful_give true _)

  within_lawful : Lawful false (p (inside c)) → (opening : Piece) → Lawful {A = Bracketed A} true (p (inside c) >>= (λ x. token (deeper c) (punct right_one) >>= (λ closing. give (record { at = opening.token.at; item = x }))))
  within_lawful h opening = lawful_before h (λ x. closing_lawful x opening) (λ x. filled_first _ (filled_token (deeper c) (punct right_one)))

  pub lawful_bracketed_until : Lawful false (p (inside c)) → Lawful true (bracketed left_one right_one c p)
  lawful_bracketed_until h = lawful_bind (lawful_token (deeper c) (punct left_one) true) (within_lawful h)

  pub lawful_bracketed : Lawful true (p (inside c)) → Lawful true (bracketed left_one right_one c p)
  lawful_bracketed h = lawful_bracketed_until (lawful_weak h)

  pub filled_bracketed : Filled (bracketed left_one right_one c p)
  filled_bracketed = filled_first _ (filled_token (deeper c) (punct left_one))

  pub takes_bracketed_until : Lawful false (p (inside c)) → Takes (bracketed left_one right_one c p)
  takes_bracketed_until h = takes_first _ (takes_token (deeper c) (punct left_one)) (within_lawful h)

  pub takes_bracketed : Lawful true (p (inside c)) → Takes (bracketed left_one right_one c p)
  takes_bracketed h = takes_bracketed_until (lawful_weak h)

  pub opens_bracketed_until : Lawful false (p (inside c)) → Opens (punct left_one) (bracketed left_one right_one c p)
  opens_bracketed_until h = opens_first _ (opens_token (deeper c) (punct left_one)) (within_lawful h)

  pub opens_bracketed : Lawful true (p (inside c)) → Opens (punct left_one) (bracketed left_one right_one c p)
  opens_bracketed h = opens_bracketed_until (lawful_weak h)

module _ {A : Type 0} (c : Context) (p : Context → Production A) where
  angles_lawful : Lawful false (p (listed c)) → Lawful true (p (listed c) >>= (λ x. token (deeper c) (closing (listed c).lists) >>= (λ greater. give x)))
  angles_lawful h =
      lawful_before h (λ x. lawful_bind (lawful_token (deeper c) (closing (listed c).lists) true) (λ t. lawful_give true x))
      (λ x. filled_first _ (filled_token (deeper c) (closing (listed c).lists)))

  pub lawful_angles_until : Lawful false (p (listed c)) → Lawful true (in_angles c p)
  lawful_angles_until h = lawful_bind (lawful_token (deeper c) (punct punctuator.Less) true) (λ t. angles_lawful h)

  pub lawful_angles : Lawful true (p (listed c)) → Lawful true (in_angles c p)
  lawful_angles h = lawful_angles_until (lawful_weak h)

  pub filled_angles : Filled (in_angles c p)
  filled_angles = filled_first _ (filled_token (deeper c) (punct punctuator.Less))

  pub takes_angles_until : Lawful false (p (listed c)) → Takes (in_angles c p)
  takes_angles_until h = takes_first _ (takes_token (deeper c) (punct punctuator.Less)) (λ t. angles_lawful h)

  pub takes_angles : Lawful true (p (listed c)) → Takes (in_angles c p)
  takes_angles h = takes_angles_until (lawful_weak h)

  pub opens_angles_until : Lawful false (p (listed c)) → Opens (punct punctuator.Less) (in_angles c p)
  opens_angles_until h = opens_first _ (opens_token (deeper c) (punct punctuator.Less)) (λ t. angles_lawful h)

  pub opens_angles : Lawful true (p (listed c)) → Opens (punct punctuator.Less) (in_angles c p)
  opens_angles h = opens_angles_until (lawful_weak h)

-- ---- after a step, which takes no piece

pub filled_step : {A B : Type 0} (f : ℕ → Frames → A × ℕ × Frames) {g : A → Production B} → ((x : A) → Filled (g x)) → Filled (step f >>= g)
filled_step f {g} h = record { filled = λ s e. (h (stepped f s).0).filled (stepped f s).1 e }

-- ---- narrower classes

pub opens_where : {A : Type 0} (is : Bool) {q : Class} {p : Production A} → Opens q p → Opens (where_holds is q) p
opens_where true h = h
opens_where false h = record { opens = λ s t before e k. absurd (true≢false (sym k)) }
