-- Whether the constraints of a declaration are satisfied ([temp.constr.decl]), and its normal form, by which it is ordered
-- among others.
use Rattle.std.specs.Prelude.{◌==◌, true, List, length, Option, None}
use Rattle.cx_base.specs.declared.kind.Kind.TheVariants as kind
use Rattle.cx_base.specs.declared.numbers.DeclId.{DeclId}
use Rattle.cx_base.specs.declared.place.Place.{Place}
use Rattle.cx_questions.specs.Answers.{Answer, given, soft, ◌>>=◌, ◌>>◌, either, must, in_case}
use Rattle.cx_questions.specs.Forms.{Expression}
use Rattle.cx_questions.specs.Environments.{Environment, Form}
use Rattle.cx_questions.specs.Questions.{Questions, of_declaration}

-- The normal form of a declaration whose constraints are satisfied, asked at a place; softly refused where they are not.
-- Without constraints there is none and nothing is asked.
abbrev pub satisfied_form : Questions → DeclId → List Expression → Place → Environment → Answer (Option Form)
satisfied_form b d constraints at env = either (length constraints == 0) (λ _. given None) (λ _. do
  form ← b.normal (of_declaration d)
  holds ← in_case form (λ p. b.satisfied at p env) (λ _. given true)
  must holds (soft kind.Unsatisfied at)
  given form)
