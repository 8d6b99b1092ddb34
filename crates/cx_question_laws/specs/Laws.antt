-- The law of heights and the law of limits.
use Rattle.std.specs.Prelude.{◌≡◌, ◌≤◌, ℕ, List}
use Rattle.cx_base.specs.declared.fault.Fault.{Fault}
use Rattle.cx_questions.specs.Answers.{broken}
use Rattle.cx_questions.specs.Environments.{Environment}
use Rattle.cx_questions.specs.Forms.{Expression, TypeForm}
use Rattle.cx_questions.specs.Knot.{answers}
use Rattle.cx_questions.specs.Program.{Program, Limits, with_limits}
use Rattle.cx_questions.specs.Requirements.{requires_value}
use Rattle.cx_questions.specs.Stages.{Item, verdict_at, verdict, IsWellFormed}
use Rattle.cx_questions.specs.Substitution.{substitute_type}
use Rattle.cx_questions.specs.Typing.{type_expression}
use Rattle.cx_question_laws.specs.Staying.{Stays, AllStay, AtMost, is_height, is_any}

-- The law of heights: an answer at a height, other than that the limit Height is passed, is the answer at every greater
-- height. So it is for the six questions, and for what asks them: substitution, typing, the value of a requires-expression.
pub record LawOfHeights : Type 0 where
  pub questions : (u : Program) (h k : ℕ) → h ≤ k → AllStay is_height (answers u h) (answers u k)
  pub substitution : (u : Program) (h k : ℕ) → h ≤ k → (env : Environment) (t : TypeForm) → Stays is_height (substitute_type u (answers u h) env t) (substitute_type u (answers u k) env t)
  pub typing : (u : Program) (h k : ℕ) → h ≤ k → (env : Environment) (e : Expression) → Stays is_height (type_expression u (answers u h) env e) (type_expression u (answers u k) env e)
  pub requires_values : (u : Program) (h k : ℕ) → h ≤ k → (env : Environment) (e : Expression) → Stays is_height (requires_value u (answers u h) env e) (requires_value u (answers u k) env e)

-- The law of limits: an answer that is no limit is the answer with all limits greater, that on heights among them. So it is
-- for the six questions and for the verdict; and a unit that is refused by a fault is not well formed.
pub record LawOfLimits : Type 0 where
  pub questions : (u : Program) (l m : Limits) → AtMost l m → (h k : ℕ) → h ≤ k → AllStay is_any (answers (with_limits u l) h) (answers (with_limits u m) k)
  pub verdicts : (u : Program) (l m : Limits) → AtMost l m → (h k : ℕ) → h ≤ k → (items : List Item) → Stays is_any (verdict_at (with_limits u l) h items) (verdict_at (with_limits u m) k items)
  pub refused : (u : Program) (items : List Item) (e : Fault) → verdict u items ≡ broken e → IsWellFormed u items → ⊥
