-- The law of heights, by induction on the height.
use Rattle.std.proofs.Common.{◌≡◌, ◌≤◌, ℕ, zero, suc, Bool, true, refl, sym, ◌∙◌, true≢false, inl, arith}
use Rattle.cx_base.specs.declared.limit.Limit.{Limit}
use Rattle.cx_base.specs.declared.limit.Limit.TheVariants as limit
use Rattle.cx_base.specs.declared.place.Place.{Place}
use Rattle.cx_questions.specs.Answers.{Answer, passed}
use Rattle.cx_questions.specs.Environments.{Environment}
use Rattle.cx_questions.specs.Forms.{Expression}
use Rattle.cx_questions.specs.Knot.{answers, above, at_the_limit}
use Rattle.cx_questions.specs.Program.{Program, Limits, with_limits}
use Rattle.cx_questions.specs.Questions.{Questions}
use Rattle.cx_questions.specs.Requirements.{requires_value}
use Rattle.cx_questions.specs.Satisfaction.{concept_value}
use Rattle.cx_question_laws.specs.Laws.{LawOfHeights}
use Rattle.cx_question_laws.specs.Staying.{Stays, it_stays, AllStay, is_height}
use Rattle.cx_question_laws.proofs.Combining.{staying}
use Rattle.cx_question_laws.proofs.ConstantsStay.{constant_stays}
use Rattle.cx_question_laws.proofs.ConstraintsStay.{normal_stays, satisfied_stays, requires_value_stays}
use Rattle.cx_question_laws.proofs.LimitTests.{Larger}
use Rattle.cx_question_laws.proofs.ResolutionStays.{resolve_stays, class_stays}
use Rattle.cx_question_laws.proofs.SubstitutionStays.{type_stays}
use Rattle.cx_question_laws.proofs.TypingStays.{expression_typed_stays}

none_below : (h : ℕ) → suc h ≤ 0 → ⊥
none_below h l = omega arith

one_below : (h k : ℕ) → suc h ≤ suc k → h ≤ k
one_below h k l = omega arith

module _ (kind : Limit → Bool) (u : Program) (l : Limits) (larger : Larger kind u.limits l) where
  pub concept_value_stays : (b c : Questions) → AllStay kind b c → (env : Environment) (e : Expression) → Stays kind (concept_value b env e) (concept_value c env e)
  concept_value_stays b c below env e = search (staying, below.normal, below.satisfied) depth 12

  above_stays : (b c : Questions) → AllStay kind b c → AllStay kind (above u b) (above (with_limits u l) c)
  above_stays b c below = record {
    normal = λ rule. normal_stays kind u l larger b c below rule;
    satisfied = λ at p env. satisfied_stays kind u l larger b c below env p;
    class = λ at t. class_stays kind u l larger b c below at t;
    constant = λ e env. constant_stays kind u l larger b c below (concept_value b) (concept_value c) (requires_value u b) (requires_value (with_limits u l) c) (concept_value_stays b c below) (requires_value_stays kind u l larger b c below) env e;
    resolve = λ e env. resolve_stays kind u l larger b c below e env;
    type_of = λ e env. expression_typed_stays kind u l larger b c below env e;
  }

  -- at height 0 every answer is the limit
  height_stays : {A : Type 0} → kind limit.Height ≡ true → (at : Place) (a : Answer A) → Stays kind (passed limit.Height at) a
  height_stays k at a = it_stays (λ h. absurd (true≢false (sym k ∙ h)))

  limit_stays : kind limit.Height ≡ true → (c : Questions) → AllStay kind (at_the_limit u) c
  limit_stays k c = record {
    normal = λ rule. height_stays k _ _;
    satisfied = λ at p env. height_stays k _ _;
    class = λ at t. height_stays k _ _;
    constant = λ e env. height_stays k _ _;
    resolve = λ e env. height_stays k _ _;
    type_of = λ e env. height_stays k _ _;
  }

  pub answers_stay : kind limit.Height ≡ true → (h k : ℕ) → h ≤ k → AllStay kind (answers u h) (answers (with_limits u l) k)
  unfolding answers
  answers_stay e zero k m = limit_stays e (answers (with_limits u l) k)
  answers_stay e (suc h) zero m = absurd (none_below h m)
  answers_stay e (suc h) (suc k) m = above_stays (answers u h) (answers (with_limits u l) k) (answers_stay e h k (one_below h k m))

module _ (u : Program) (h k : ℕ) (m : h ≤ k) where
  same_limits : Larger is_height u.limits u.limits
  same_limits = record { larger = inl refl }

  pub heights_stay : AllStay is_height (answers u h) (answers u k)
  heights_stay = answers_stay is_height u u.limits same_limits refl h k m

pub law_of_heights : LawOfHeights
law_of_heights = record {
  questions = heights_stay;
  substitution = λ u h k m env t. type_stays is_height u u.limits (same_limits u h k m) (answers u h) (answers u k) (heights_stay u h k m) env t;
  typing = λ u h k m env e. expression_typed_stays is_height u u.limits (same_limits u h k m) (answers u h) (answers u k) (heights_stay u h k m) env e;
  requires_values = λ u h k m env e. requires_value_stays is_height u u.limits (same_limits u h k m) (answers u h) (answers u k) (heights_stay u h k m) env e;
}
