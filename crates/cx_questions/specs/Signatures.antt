-- The types of a function's parameters and result in an environment ([dcl.fct], [temp.deduct]).
use Rattle.std.specs.Prelude.{Bool, not, ◌&&◌, ◌==◌, List, [], ◌∷◌, ◌++◌, length}
use Rattle.cx_base.specs.declared.kind.Kind.TheVariants as kind
use Rattle.cx_term.specs.Term.{Term}
use Rattle.cx_questions.specs.Answers.{Answer, given, hard, ◌>>=◌, ◌>>◌, must, in_turn}
use Rattle.cx_questions.specs.Forms.{TypeForm, type_place}
use Rattle.cx_questions.specs.Program.{Program, Parameter}
use Rattle.cx_questions.specs.Environments.{Environment}
use Rattle.cx_questions.specs.Questions.{Questions}
use Rattle.cx_questions.specs.TermTests.{is_const, is_class}
use Rattle.cx_questions.specs.Substitution.{substitute_type}
use Rattle.cx_questions.specs.Parameters.{with_local, parameter_type}

module _ (u : Program) (b : Questions) where
  -- the next parameter: the ones before it are variables without values
  abbrev pub with_parameter : (is_alone : Bool) → Environment × List Term → Parameter → Answer (Environment × List Term)
  with_parameter is_alone read p = do
    t ← parameter_type u b read.0 (is_alone && not p.is_named) p.of
    given (with_local read.0 p.local t, read.1 ++ t ∷ [])

  -- the types of the parameters in order, and the environment with all of them as variables
  abbrev pub parameter_types : Environment → List Parameter → Answer (Environment × List Term)
  parameter_types env ps = in_turn (with_parameter (length ps == 1)) (env, []) ps

  -- the type of the result; a const struct by value is not supported
  abbrev pub result_type : Environment → TypeForm → Answer Term
  result_type env form = do
    t ← substitute_type u b env form
    must (not (is_const t && is_class t)) (hard kind.Unsupported (type_place form))
    given t
