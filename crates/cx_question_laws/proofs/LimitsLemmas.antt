-- The law of limits.
use Rattle.std.proofs.Common.{◌≡◌, ℕ, ◌+◌, ◌≤◌, Bool, true, false, List, refl, sym, ap, ◌∙◌, true≢false, inr, arith}
use Rattle.cx_base.specs.declared.fault.Fault.{Fault}
use Rattle.cx_questions.specs.Answers.{Answer, given, invalid, broken, passed}
use Rattle.cx_questions.specs.Knot.{answers, whole_height}
use Rattle.cx_questions.specs.Program.{Program, Limits, with_limits}
use Rattle.cx_questions.specs.Reach.{Reached}
use Rattle.cx_questions.specs.Stages.{Item, verdict_at, verdict}
use Rattle.cx_question_laws.specs.Laws.{LawOfLimits}
use Rattle.cx_question_laws.specs.Staying.{Stays, stays, passes, AllStay, AtMost, is_any}
use Rattle.cx_question_laws.proofs.HeightsLemmas.{answers_stay}
use Rattle.cx_question_laws.proofs.ReachStay.{verdict_stays}

module _ (u : Program) (l m : Limits) (most : AtMost l m) (h k : ℕ) (higher : h ≤ k) where
  all_stay : AllStay is_any (answers (with_limits u l) h) (answers (with_limits u m) k)
  all_stay = answers_stay is_any (with_limits u l) m (record { larger = inr (λ x. refl, most) }) refl h k higher

  verdicts_stay : (items : List Item) → Stays is_any (verdict_at (with_limits u l) h items) (verdict_at (with_limits u m) k items)
  verdicts_stay items = verdict_stays is_any (with_limits u l) m (λ x. refl) most (answers (with_limits u l) h) (answers (with_limits u m) k) all_stay items

-- limits at least as great as two others
both_limits : Limits → Limits → Limits
both_limits l m = record { nodes = l.nodes + m.nodes; depth = l.depth + m.depth; atoms = l.atoms + m.atoms; clauses = l.clauses + m.clauses; scalars = l.scalars + m.scalars; functions = l.functions + m.functions }

left_most : (l m : Limits) → AtMost l (both_limits l m)
unfolding both_limits
left_most l m = record { nodes = omega arith; depth = omega arith; atoms = omega arith; clauses = omega arith; scalars = omega arith; functions = omega arith }

right_most : (l m : Limits) → AtMost m (both_limits l m)
unfolding both_limits
right_most l m = record { nodes = omega arith; depth = omega arith; atoms = omega arith; clauses = omega arith; scalars = omega arith; functions = omega arith }

left_higher : (h k : ℕ) → h ≤ h + k
left_higher h k = omega arith

right_higher : (h k : ℕ) → k ≤ h + k
right_higher h k = omega arith

is_given : {A : Type 0} → Answer A → Bool
is_given (given x) = true
is_given (invalid e) = false
is_given (broken e) = false
is_given (passed l at) = false

-- one answer is not both a value and a fault
not_both : {A : Type 0} (a : Answer A) (x : A) (e : Fault) → a ≡ given x → a ≡ broken e → ⊥
unfolding is_given
not_both a x e g f = true≢false (sym (ap is_given g) ∙ ap is_given f)

-- what stays and is no limit is the same
the_same : {A : Type 0} (a b c : Answer A) → Stays is_any a b → a ≡ c → passes is_any c ≡ false → b ≡ c
the_same a b c s e f = stays s (ap (passes is_any) e ∙ f) ∙ e

module _ (u : Program) (items : List Item) (e : Fault) (w : verdict u items ≡ broken e) (l : Limits) (h : ℕ) (fs : List Reached) (g : verdict_at (with_limits u l) h items ≡ given fs) where
  greater : Limits
  greater = both_limits u.limits l

  above_both : ℕ
  above_both = whole_height + h

  contradiction : ⊥
  unfolding greater above_both
  contradiction =
      not_both (verdict_at (with_limits u greater) above_both items) fs e
      (the_same (verdict_at (with_limits u l) h items) (verdict_at (with_limits u greater) above_both items) (given fs) (verdicts_stay u l greater (right_most u.limits l) h above_both (right_higher whole_height h) items) g refl)
      (the_same (verdict_at u whole_height items) (verdict_at (with_limits u greater) above_both items) (broken e) (verdicts_stay u u.limits greater (left_most u.limits l) whole_height above_both (left_higher whole_height h) items) w refl)

pub law_of_limits : LawOfLimits
law_of_limits = record {
  questions = all_stay;
  verdicts = verdicts_stay;
  refused = λ u items e w formed. contradiction u items e w formed.0 formed.1 formed.2 formed.3;
}
