-- Parameters of functions and of requires-expressions, as variables without values ([dcl.fct], [expr.prim.req]).
use Rattle.std.specs.Prelude.{ℕ, zero, suc, Bool, true, false, not, ◌&&◌, List, [], ◌∷◌, Option, Some, None}
use Rattle.cx_base.specs.declared.kind.Kind.TheVariants as kind
use Rattle.cx_base.specs.declared.place.Place.{Place}
use Rattle.cx_term.specs.Term.{Term}
use Rattle.cx_questions.specs.Answers.{Answer, given, hard, soft, must, ◌>>=◌, ◌>>◌}
use Rattle.cx_questions.specs.Appearance.{type_names_pass}
use Rattle.cx_questions.specs.Environments.{Environment}
use Rattle.cx_questions.specs.Forms.{TypeForm, type_place}
use Rattle.cx_questions.specs.Program.{Program}
use Rattle.cx_questions.specs.Questions.{Questions}
use Rattle.cx_questions.specs.Substitution.{substitute_type}
use Rattle.cx_questions.specs.TermTests.{is_void, is_const}

-- a list of what is there, with something put at a place
abbrev pub put_at : {A : Type 0} → ℕ → A → List (Option A) → List (Option A)
put_at zero x [] = Some x ∷ []
put_at zero x (y ∷ rest) = Some x ∷ rest
put_at (suc k) x [] = None ∷ put_at k x []
put_at (suc k) x (y ∷ rest) = y ∷ put_at k x rest

-- an environment with a local of a type, whose value no constant knows
abbrev pub with_local : Environment → ℕ → Term → Environment
with_local env k of = record env { variables = put_at k (record { of = of; value = None }) env.variables }

-- A parameter of type void is invalid. But one that C++ reads as an empty list, though it is not the word void alone, is
-- not supported: the only one, unnamed, its type void without const and without a template parameter in it.
abbrev pub void_refused : Bool → Place → Answer (Unit {0})
void_refused true at = hard kind.Unsupported at
void_refused false at = soft kind.InvalidType at

abbrev pub is_empty_list : Program → (is_alone : Bool) → TypeForm → Term → Bool
is_empty_list u is_alone t of = is_alone && type_names_pass u (λ i. false) (λ k. true) t && not (is_const of)

-- the type of a parameter; it is given whether it is the only one and unnamed
abbrev pub parameter_type : Program → Questions → Environment → (is_alone : Bool) → TypeForm → Answer Term
parameter_type u b env is_alone t = do
  of ← substitute_type u b env t
  must (not (is_void of)) (void_refused (is_empty_list u is_alone t of) (type_place t))
  given of
