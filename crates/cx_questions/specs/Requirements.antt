-- Requires-expressions ([expr.prim.req]).
use Rattle.std.specs.Prelude.{Bool, true, false, zip}
use Rattle.cx_base.specs.declared.kind.Kind.TheVariants as kind
use Rattle.cx_questions.specs.Answers.{Answer, given, hard, either, in_case, if_valid, ◌>>=◌}
use Rattle.cx_questions.specs.Appearance.{appearing}
use Rattle.cx_questions.specs.Environments.{Environment}
use Rattle.cx_questions.specs.Forms.{Expression, Mark, ArgumentForms, requires, requires_with, RequiresParameters, no_parameter, and_parameter, Requirements, no_requirement, and_simple, and_type_requirement, and_compound, and_constrained, and_nested, place_of}
use Rattle.cx_questions.specs.Parameters.{with_local, parameter_type}
use Rattle.cx_questions.specs.Program.{Program}
use Rattle.cx_questions.specs.Questions.{Questions, of_expression}
use Rattle.cx_questions.specs.Satisfaction.{rule_satisfied, meets, targets_from}
use Rattle.cx_questions.specs.Substitution.{by_category, positions_named, substitute_type, substitute_arguments}

-- one parameter, and it has no name
abbrev pub is_alone : RequiresParameters → Bool
is_alone (and_parameter m t k false no_parameter) = true
is_alone _ = false

-- The environment with the parameters of a requires-expression ([expr.prim.req]/4): variables without values, the type of
-- each read with those before it.
abbrev pub with_each : Program → Questions → (is_alone : Bool) → Environment → RequiresParameters → Answer Environment
with_each u b alone env no_parameter = given env
with_each u b alone env (and_parameter m t k is_named rest) = do
  of ← parameter_type u b env alone t
  with_each u b alone (with_local env k of) rest

abbrev pub with_parameters : Program → Questions → Environment → RequiresParameters → Answer Environment
with_parameters u b env ps = with_each u b (is_alone ps) env ps

-- Whether all requirements are fulfilled, up to the first that is not. One that is invalid is refused softly.
abbrev pub fulfilled : Program → Questions → Environment → Requirements → Answer Bool
fulfilled u b env no_requirement = given true
-- E; and { E }; need E valid ([expr.prim.req.simple], [expr.prim.req.compound])
fulfilled u b env (and_simple e rest) = b.type_of e env >>= λ _. fulfilled u b env rest
fulfilled u b env (and_compound e rest) = b.type_of e env >>= λ _. fulfilled u b env rest
-- typename T; needs T valid ([expr.prim.req.type])
fulfilled u b env (and_type_requirement t rest) = substitute_type u b env t >>= λ _. fulfilled u b env rest
-- { E } -> C<A>; needs E valid, and C<decltype((E)), A> satisfied
fulfilled u b env (and_constrained e m d xs rest) = do
  t ← b.type_of e env
  of ← by_category (place_of e) t.category t.of
  holds ← meets u b env m d of xs
  either holds (λ _. fulfilled u b env rest) (λ _. given false)
-- requires R; needs the normal form of R satisfied ([expr.prim.req.nested])
fulfilled u b env (and_nested e rest) = do
  holds ← rule_satisfied b (place_of e) (of_expression e) env
  either holds (λ _. fulfilled u b env rest) (λ _. given false)

-- In a template what is invalid is not fulfilled; elsewhere it stays invalid ([expr.prim.req]/5).
abbrev pub in_template : Bool → Answer Bool → Answer Bool
in_template is_templated value = either is_templated (λ _. if_valid value >>= λ holds. in_case holds (λ h. given h) (λ _. given false)) (λ _. value)

-- the value of a requires-expression as it is written
abbrev pub written_value : Program → Questions → Environment → Expression → Answer Bool
written_value u b env (requires m ps rs) = in_template (u.is_templated m.node) (with_parameters u b env ps >>= λ inner. fulfilled u b inner rs)
written_value u b env e = hard kind.Unsupported (place_of e)

-- the environment in which each position that appears in the expression of a node has the argument given for it
abbrev pub named_environment : Program → Questions → Environment → Mark → ArgumentForms → Answer Environment
named_environment u b env m xs = do
  arguments ← substitute_arguments u b env (positions_named u b m.node) xs
  given (record env { arguments = targets_from (zip (appearing u (u.expression m.node)) arguments) 0 (u.positions m.node) })

-- The value of a requires-expression, written or named by its node: false at the first parameter or requirement that is
-- invalid or not satisfied.
abbrev pub requires_value : Program → Questions → Environment → Expression → Answer Bool
requires_value u b env (requires_with m xs) = named_environment u b env m xs >>= λ inner. written_value u b inner (u.expression m.node)
requires_value u b env e = written_value u b env e
