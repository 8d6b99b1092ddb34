-- The answers of the six questions at each height. At height 0 a question meets the limit at its place; above, it is answered
-- by its definition over the answers one height below.
use Rattle.std.specs.Prelude.{ℕ, zero, suc}
use Rattle.cx_base.specs.declared.limit.Limit.TheVariants as limit
use Rattle.cx_base.specs.declared.place.Place.{Place}
use Rattle.cx_questions.specs.Answers.{passed}
use Rattle.cx_questions.specs.Forms.{place_of}
use Rattle.cx_questions.specs.Program.{Program, place_of_declaration}
use Rattle.cx_questions.specs.Questions.{Questions, Rule, of_declaration, of_expression}
use Rattle.cx_questions.specs.Typing.{type_expression}
use Rattle.cx_questions.specs.NormalForms.{normal}
use Rattle.cx_questions.specs.Satisfaction.{satisfied, concept_value}
use Rattle.cx_questions.specs.Requirements.{requires_value}
use Rattle.cx_questions.specs.Constants.{constant_of_expression}
use Rattle.cx_questions.specs.Classes.{class}
use Rattle.cx_questions.specs.Resolution.{resolve}

-- where the normal form of a rule is asked for
abbrev pub rule_place : Program → Rule → Place
rule_place u (of_declaration d) = place_of_declaration u d
rule_place u (of_expression e) = place_of e

abbrev pub at_the_limit : Program → Questions
at_the_limit u = record {
  normal = λ rule. passed limit.Height (rule_place u rule);
  satisfied = λ at p env. passed limit.Height at;
  class = λ at t. passed limit.Height at;
  constant = λ e env. passed limit.Height (place_of e);
  resolve = λ call env. passed limit.Height (place_of call);
  type_of = λ e env. passed limit.Height (place_of e);
}

-- the answers at a height, from those one height below
abbrev pub above : Program → Questions → Questions
above u b = record {
  normal = λ rule. normal u b rule;
  satisfied = λ at p env. satisfied u b env p;
  class = λ at t. class u b at t;
  constant = λ e env. constant_of_expression u b (concept_value b) (requires_value u b) env e;
  resolve = λ call env. resolve u b call env;
  type_of = λ e env. type_expression u b env e;
}

unfoldable pub answers : Program → ℕ → Questions
answers u zero = at_the_limit u
answers u (suc h) = above u (answers u h)

-- at what height the stages ask
abbrev pub whole_height : ℕ
whole_height = 512
