-- The six questions that definitions ask of one another. A question inside a question is asked one height lower, so a
-- definition is a function of the answers one height below its own.
use Rattle.std.specs.Prelude.{Bool, Option}
use Rattle.cx_base.specs.declared.numbers.DeclId.{DeclId}
use Rattle.cx_base.specs.declared.place.Place.{Place}
use Rattle.cx_term.specs.Term.{Term}
use Rattle.cx_machine.specs.Values.{Val}
use Rattle.cx_questions.specs.Answers.{Answer}
use Rattle.cx_questions.specs.Forms.{Expression}
use Rattle.cx_questions.specs.Environments.{Environment, Typed, Form, Class, Choice}

-- whose normal form is asked for: a declaration's, or an expression's
pub data Rule : Type 0 where
  of_declaration : DeclId → Rule
  of_expression : Expression → Rule

pub record Questions : Type 0 where
  -- the normal form; None where the declaration has no constraints
  pub normal : Rule → Answer (Option Form)
  -- whether a normal form is satisfied in an environment
  pub satisfied : Place → Form → Environment → Answer Bool
  -- the members of a struct or an instance
  pub class : Place → Term → Answer Class
  -- the value of a constant expression
  pub constant : Expression → Environment → Answer Val
  -- which function a call takes
  pub resolve : Expression → Environment → Answer Choice
  -- the type and category of an operand that is not evaluated
  pub type_of : Expression → Environment → Answer Typed
