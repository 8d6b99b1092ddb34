-- When one viable function is better than another ([over.match.best]).
use Rattle.std.specs.Prelude.{Bool, not, ◌&&◌, ◌||◌, map, zip, Option}
use Rattle.std.specs.List.{list_any}
use Rattle.cx_base.specs.declared.numbers.DeclId.{DeclId}
use Rattle.cx_term.specs.Same.{same_terms}
use Rattle.cx_questions.specs.Program.{Program, function_of, kinds}
use Rattle.cx_questions.specs.Environments.{Form}
use Rattle.cx_questions.specs.TermTests.{without_const}
use Rattle.cx_questions.specs.Terms.{type_term}
use Rattle.cx_questions.specs.Conversions.{worse}
use Rattle.cx_questions.specs.ComparedTypes.{as_compared}
use Rattle.cx_questions.specs.ConstraintOrder.{more_constrained, too_many_clauses}
use Rattle.cx_questions.specs.PartialOrdering.{Compared, function_at_least, left_to_constraints, more_specialised}
use Rattle.cx_questions.specs.Viability.{Candidate}

-- some argument's conversion of the first is worse than that of the second
abbrev pub some_worse : Candidate → Candidate → Bool
some_worse f g = list_any (λ p. worse p.0 p.1) (zip f.conversions g.conversions)

-- a function template as it is compared
abbrev pub compared_function : Program → DeclId → Option Form → Compared
compared_function u d form = record { kinds = kinds (function_of u d).template_parameters; types = map (λ p. as_compared u (without_const (type_term u p.of))) (function_of u d).parameters; form = form }

module _ (u : Program) (f g : Candidate) where
  abbrev compared_f : Compared
  compared_f = compared_function u f.declaration f.form

  abbrev compared_g : Compared
  compared_g = compared_function u g.declaration g.form

  -- of both functions, none or one is a template's specialisation
  abbrev pub both_templates : Bool
  both_templates = (function_of u f.declaration).is_template && (function_of u g.declaration).is_template

  abbrev pub no_template : Bool
  no_template = not (function_of u f.declaration).is_template && not (function_of u g.declaration).is_template

  abbrev pub template_second : Bool
  template_second = not (function_of u f.declaration).is_template && (function_of u g.declaration).is_template

  -- functions that are no templates have the same parameter types
  abbrev pub same_parameters : Bool
  same_parameters = same_terms (map without_const f.parameters) (map without_const g.parameters)

  -- what tells where no conversion does: a function that is no template before one that is; the more specialised template;
  -- of two that are none and have the same parameter types the more constrained one
  abbrev pub preferred : Bool
  preferred = template_second || (both_templates && more_specialised function_at_least compared_f compared_g) || (no_template && same_parameters && more_constrained f.form g.form)

  -- F is better than G: no argument's conversion is worse, and some argument's is better, or else F is preferred
  abbrev pub better : Bool
  better = not (some_worse f g) && (some_worse g f || preferred)

  -- it is left to the constraints to tell the two apart
  abbrev pub left_to_forms : Bool
  left_to_forms = (both_templates && left_to_constraints function_at_least compared_f compared_g) || (no_template && same_parameters)

  abbrev pub constraints_tell : Bool
  constraints_tell = not (some_worse f g) && not (some_worse g f) && left_to_forms

  -- ... and their forms have too many clauses to be compared
  abbrev pub beyond_clauses : Bool
  beyond_clauses = constraints_tell && too_many_clauses u.limits.clauses f.form g.form
