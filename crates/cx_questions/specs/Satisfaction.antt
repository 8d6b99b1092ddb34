-- Satisfaction of constraints ([temp.constr.constr]).
use Rattle.std.specs.Prelude.{ℕ, ◌+◌, pos, zero, Bool, true, false, List, [], ◌∷◌, map, Some, None, ◌==◌, drop, if◌then◌else◌}
use Rattle.std.specs.Option.{option_map_or}
use Rattle.cx_base.specs.declared.kind.Kind.TheVariants as kind
use Rattle.cx_base.specs.declared.numbers.DeclId.{DeclId}
use Rattle.cx_base.specs.declared.place.Place.{Place}
use Rattle.cx_base.specs.declared.value.Scalar.TheVariants as scalar
use Rattle.cx_prop.specs.Formula.{Atomic, Atom, And, Or}
use Rattle.cx_term.specs.Term.{Term, param, val}
use Rattle.cx_machine.specs.Values.{Val, Number}
use Rattle.cx_machine.specs.Values.{Struct as fields}
use Rattle.cx_questions.specs.Answers.{Answer, given, hard, must, either, in_case, if_valid, harden, ◌>>=◌}
use Rattle.cx_questions.specs.Environments.{Environment, Form}
use Rattle.cx_questions.specs.Forms.{Mark, Expression, ArgumentForms, place_of}
use Rattle.cx_questions.specs.NormalForms.{mapping_in}
use Rattle.cx_questions.specs.Program.{Program, Parametric, concept_of, kinds}
use Rattle.cx_questions.specs.Questions.{Questions, Rule, of_declaration, of_expression}
use Rattle.cx_questions.specs.Scalars.{same_scalar}
use Rattle.cx_questions.specs.Substitution.{substitute_arguments}
use Rattle.cx_questions.specs.TermTests.{scalar_of}
use Rattle.cx_questions.specs.Typing.{type_expression}

-- the target of a position; one that the mapping has not stands for itself
abbrev pub target_of : List (ℕ × Term) → ℕ → Term
target_of [] i = param i
target_of (s ∷ mapping) i = if s.0 == i then s.1 else target_of mapping i

-- the targets of the positions from i on
abbrev pub targets_from : List (ℕ × Term) → ℕ → List Parametric → List Term
targets_from mapping i [] = []
targets_from mapping i (k ∷ rest) = target_of mapping i ∷ targets_from mapping (i + 1) rest

-- what a position takes that has this argument: a value of a scalar type, or a type
abbrev pub kind_of_argument : Term → Parametric
kind_of_argument (val s n) = Some s
kind_of_argument t = None

-- In what the expression of an atomic constraint is read: its mapping gives the arguments, with what the environment has
-- in their targets; the variables and the object are those of the environment.
abbrev pub environment_of : Program → Questions → Environment → Atomic Term → Answer Environment
environment_of u b env a =
    mapping_in u b (map kind_of_argument env.arguments) env a >>= λ mapping. given (record { arguments = targets_from mapping 0 (u.positions a.node); variables = env.variables; object = env.object })

-- bool, const or not
abbrev pub is_bool : Term → Bool
is_bool t = option_map_or (same_scalar scalar.Bool) (scalar_of t) false

-- whether a constant is true: a number other than 0
abbrev pub is_true : Val → Bool
is_true (Number s (pos zero)) = false
is_true (Number s n) = true
is_true (fields vs) = false

-- The value of an atomic constraint's expression, which is of a type: bool, else NotBool, and constant, else NotConstant.
-- Both are faults of the unit.
abbrev pub truth_of : Questions → Environment → Expression → Term → Answer Bool
truth_of b env e of = do
  _ ← must (is_bool of) (hard kind.NotBool (place_of e))
  value ← harden (b.constant e env)
  given (is_true value)

-- An atomic constraint ([temp.constr.atomic]): not satisfied where its mapping or its expression is invalid with the
-- arguments, else as its value is.
abbrev pub atom_satisfied : Program → Questions → Environment → Atomic Term → Answer Bool
atom_satisfied u b env a = do
  valid ← if_valid {A = Environment × Term} (environment_of u b env a >>= λ inner. type_expression u b inner (u.expression a.node) >>= λ t. given (inner, t.of))
  in_case valid (λ found. truth_of b found.0 (u.expression a.node) found.1) (λ _. given false)

-- Answers the question `satisfied`. The second operand of a conjunction is looked at only where the first is satisfied, that
-- of a disjunction only where it is not ([temp.constr.op]).
abbrev pub satisfied : Program → Questions → Environment → Form → Answer Bool
satisfied u b env (Atom a) = atom_satisfied u b env a
satisfied u b env (And p q) = satisfied u b env p >>= λ holds. either holds (λ _. satisfied u b env q) (λ _. given false)
satisfied u b env (Or p q) = satisfied u b env p >>= λ holds. either holds (λ _. given true) (λ _. satisfied u b env q)

-- ---- who asks for satisfaction

-- whether a rule's normal form is satisfied; where it has none, it is
abbrev pub rule_satisfied : Questions → (at : Place) → Rule → Environment → Answer Bool
rule_satisfied b at rule env = b.normal rule >>= λ form. in_case form (λ p. b.satisfied at p env) (λ _. given true)

-- the value of a concept-id as an expression ([expr.prim.id])
abbrev pub concept_value : Questions → Environment → Expression → Answer Bool
concept_value b env e = rule_satisfied b (place_of e) (of_expression e) env

-- Whether a type meets a type-constraint ([temp.param]), which stands at a mark: the concept's arguments are the type and
-- those written.
abbrev pub meets : Program → Questions → Environment → Mark → DeclId → Term → ArgumentForms → Answer Bool
meets u b env m d of rest = do
  arguments ← substitute_arguments u b env (drop 1 (kinds (concept_of u d).template_parameters)) rest
  rule_satisfied b m.at (of_declaration d) (record { arguments = of ∷ arguments; variables = env.variables; object = env.object })
