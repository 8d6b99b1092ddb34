-- How a unit is written as the definitions see it: its declarations in order, the functions of each name, the specialisations
-- of each class template, the expressions that constraints and requires-expressions are known by, and for the nodes from a
-- number on what stands around them.
use Rattle.std.specs.Prelude.{pos, map, ℕ, Bool, false, ◌==◌, nat_le, List, [], ◌∷◌, Option, slice_index_or, if◌then◌else◌}
use Rattle.cx_base.specs.declared.numbers.DeclId.{DeclId}
use Rattle.cx_base.specs.declared.place.Place.{Place}
use Rattle.cx_base.specs.declared.fault.Fault.{Fault}
use Rattle.cx_base.specs.declared.limit.Limit.{Limit}
use Rattle.cx_base.specs.declared.kind.Kind.{Kind}
use Rattle.cx_base.specs.declared.value.Scalar.TheVariants as scalars
use Rattle.cx_machine.specs.Values.{Val, Number}
use Rattle.cx_term.specs.Term.{Term, scalar}
use Rattle.cx_questions.specs.Answers.{and_then, Answer, given, invalid, broken, passed}
use Rattle.cx_questions.specs.Environments.{Environment, only_arguments, Typed, Choice, best_is, none_viable, ambiguous, Pair}
use Rattle.cx_questions.specs.Questions.{Questions}
use Rattle.cx_questions.specs.Knot.{answers}
use Rattle.cx_questions.specs.Reach.{Reached}
use Rattle.cx_questions.specs.Stages.{Item, verdict}
use Rattle.cx_questions.specs.Forms.{Name, Mark, Expression, TypeForm, ArgumentForm}
use Rattle.cx_questions.specs.Program.{Limits, with_limits, Program, Parametric, TemplateParameter, Parameter, Declaration, a_struct, empty_struct, empty_constant, the_limits}
use Rattle.cx_questions.specs.Substitution.{same_name}

-- places, numbers of declarations, marks
abbrev pub p : ℕ → ℕ → Place
p line col = record { line = line; col = col }

abbrev pub d : ℕ → DeclId
d n = record { 0 = n }

abbrev pub m : ℕ → ℕ → ℕ → Mark
m node line col = record { node = record { 0 = node }; at = p line col }

abbrev pub tp : Parametric → Option ArgumentForm → TemplateParameter
tp kind default = record { kind = kind; default = default }

abbrev pub parameter : TypeForm → ℕ → Bool → Parameter
parameter of local is_named = record { of = of; local = local; is_named = is_named }

-- what stands around the nodes from a number on: the kinds of the positions, and whether they are templated
pub record Around : Type 0 where
  pub from : ℕ
  pub positions : List Parametric
  pub is_templated : Bool

abbrev pub around : ℕ → List Parametric → Bool → Around
around from positions is_templated = record { from = from; positions = positions; is_templated = is_templated }

abbrev nothing_around : Around
nothing_around = around 0 [] false

abbrev around_node : Around → List Around → ℕ → Around
around_node found [] n = found
around_node found (a ∷ as') n = if nat_le a.from n then around_node a as' n else found

abbrev functions_in : List (Name × List DeclId) → Name → List DeclId
functions_in [] name = []
functions_in (e ∷ es) name = if same_name e.0 name then e.1 else functions_in es name

abbrev at_number : {A : Type 0} → A → List (ℕ × A) → ℕ → A
at_number none' [] n = none'
at_number none' (e ∷ es) n = if e.0 == n then e.1 else at_number none' es n

abbrev pub unit : List Declaration → List (Name × List DeclId) → List (ℕ × List DeclId) → List (ℕ × Expression) → List Around → List (ℕ × List ℕ) → Program
unit declarations named specialised expressions surroundings outer = record {
  limits = the_limits;
  declaration = λ k. slice_index_or declarations k.0 (a_struct empty_struct);
  functions_named = functions_in named;
  specialisations = λ k. at_number [] specialised k.0;
  expression = λ n. at_number empty_constant.initialiser expressions n.0;
  is_templated = λ n. (around_node nothing_around surroundings n.0).is_templated;
  positions = λ n. (around_node nothing_around surroundings n.0).positions;
  outer_locals = λ n. at_number [] outer n.0;
}

-- ---- what is asked of a unit

-- the questions as the stages ask them
abbrev pub question : Program → Questions
question u = answers u 512

-- an environment without arguments, variables and object
abbrev pub nothing_known : Environment
nothing_known = only_arguments []

-- What a call comes to: the function by its number, its template arguments, and the functions that it beats by constraints
-- alone; or the functions that none is better than; or why it has no answer.
pub data Outcome : Type 0 where
  won : ℕ → List Term → (pairs : List ℕ) → Outcome
  none_viable_in : Outcome
  undecided : List ℕ → Outcome
  refused : Fault → Outcome
  broken_off : Fault → Outcome
  limited : Limit → Place → Outcome

abbrev pub choice_outcome : Choice → Outcome
choice_outcome (best_is w) = won w.declaration.0 w.arguments (map (λ (q : Pair). q.loser.0) w.pairs)
choice_outcome none_viable = none_viable_in
choice_outcome (ambiguous ds) = undecided (map (λ (k : DeclId). k.0) ds)

abbrev pub outcome : Answer Choice → Outcome
outcome (given c) = choice_outcome c
outcome (invalid e) = refused e
outcome (broken e) = broken_off e
outcome (passed l at) = limited l at

-- what a call comes to, the type of an expression, the value of a constant expression
abbrev pub called : Program → Expression → Environment → Outcome
called u e env = outcome ((question u).resolve e env)

abbrev pub typed : Program → Expression → Environment → Answer Typed
typed u e env = (question u).type_of e env

abbrev pub valued : Program → Expression → Answer Val
valued u e = (question u).constant e nothing_known

-- ---- answers

abbrev pub int : Term
int = scalar scalars.Int

abbrev pub bool : Term
bool = scalar scalars.Bool

abbrev pub unsigned : Term
unsigned = scalar scalars.Unsigned

-- true and false
abbrev pub holds : Answer Val
holds = given (Number scalars.Bool (pos 1))

abbrev pub fails : Answer Val
fails = given (Number scalars.Bool (pos 0))

-- a hard fault with the uses that led to it, outermost first
abbrev pub through : {A : Type 0} → Kind → Place → (chain : List Place) → Answer A
through kind at chain = broken (record { kind = kind; at = at; also = []; chain = chain })

-- ---- verdicts

-- the functions that are emitted, by number and template arguments
abbrev pub listed : List Reached → Answer (List (ℕ × List Term))
listed fs = given (map (λ (f : Reached). (f.function.0, f.arguments)) fs)

abbrev pub emitted : Program → List Item → Answer (List (ℕ × List Term))
emitted u items = and_then (verdict u items) listed

-- ... with another limit in place of the program's
abbrev pub emitted_within : Program → Limits → List Item → Answer (List (ℕ × List Term))
emitted_within u limits items = emitted (with_limits u limits) items

abbrev pub functions_at_most : ℕ → Limits
functions_at_most n = record the_limits { functions = n }

abbrev pub atoms_at_most : ℕ → Limits
atoms_at_most n = record the_limits { atoms = n }

abbrev pub clauses_at_most : ℕ → Limits
clauses_at_most n = record the_limits { clauses = n }

abbrev pub scalars_at_most : ℕ → Limits
scalars_at_most n = record the_limits { scalars = n }
