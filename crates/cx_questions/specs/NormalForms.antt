-- Normal forms of constraints ([temp.constr.normal]).
use Rattle.std.specs.Prelude.{ℕ, zero, suc, List, [], ◌∷◌, map, Option, Some, None, nat_le}
use Rattle.cx_base.specs.declared.kind.Kind.TheVariants as kind
use Rattle.cx_base.specs.declared.limit.Limit.TheVariants as limit
use Rattle.cx_base.specs.declared.numbers.DeclId.{DeclId}
use Rattle.cx_base.specs.declared.place.Place.{Place}
use Rattle.cx_prop.specs.Counting.{atoms_in}
use Rattle.cx_prop.specs.Formula.{Atomic, Atom, And, Or}
use Rattle.cx_term.specs.Term.{Term, param}
use Rattle.cx_term.specs.declared.word.Word.{Word}
use Rattle.cx_term.specs.declared.word.Word.TheVariants as word
use Rattle.cx_questions.specs.Answers.{Answer, given, passed, hard, must, in_case, instead, each, in_turn, ◌>>=◌, ◌>>◌}
use Rattle.cx_questions.specs.Appearance.{appearing}
use Rattle.cx_questions.specs.Environments.{Environment, only_arguments, Form}
use Rattle.cx_questions.specs.Forms.{Expression, parentheses, binary, concept_id, ArgumentForms, Mark, mark_of, place_of}
use Rattle.cx_questions.specs.Program.{Program, Parametric, Declaration, a_function, a_struct, a_concept, concept_of, kinds}
use Rattle.cx_questions.specs.Questions.{Questions, Rule, of_declaration, of_expression}
use Rattle.cx_questions.specs.Substitution.{kind_at, substitute_argument, substitute_arguments}
use Rattle.cx_questions.specs.Terms.{argument_at}

-- An atomic constraint of an expression: its mapping takes each position that appears in it to itself.
abbrev pub atomic : Program → Expression → Form
atomic u e = Atom (record { node = (mark_of e).node; mapping = map (λ i. (i, param i)) (appearing u e) })

-- The mapping of an atomic constraint with the arguments of an environment in its targets, where it is given what the
-- positions in these take. A target stands at the place of the constraint's expression, and is for a position around it.
abbrev pub mapping_in : Program → Questions → List Parametric → Environment → Atomic Term → Answer (List (ℕ × Term))
mapping_in u b positions env a =
    each (λ s. substitute_argument u b env (kind_at (u.positions a.node) s.0) (argument_at u positions (mark_of (u.expression a.node)) s.1) >>= λ target. given (s.0, target)) a.mapping

-- A normal form with arguments in each mapping. What is invalid there is a fault of the concept-id.
abbrev pub with_arguments : Program → Questions → List Parametric → (id : Place) → List Term → Form → Answer Form
with_arguments u b positions id arguments (Atom a) = do
  mapping ← instead (mapping_in u b positions (only_arguments arguments) a) (hard kind.InvalidMapping id)
  given (Atom (record { node = a.node; mapping = mapping }))
with_arguments u b positions id arguments (And p q) = do
  left ← with_arguments u b positions id arguments p
  right ← with_arguments u b positions id arguments q
  given (And left right)
with_arguments u b positions id arguments (Or p q) = do
  left ← with_arguments u b positions id arguments p
  right ← with_arguments u b positions id arguments q
  given (Or left right)

-- a conjunction or disjunction within the limit on atoms (4,096), counted as a tree; the limit stands at what the form is asked of
abbrev pub joined : Program → (at : Place) → (Form → Form → Form) → Form → Form → Answer Form
joined u at join p q = must (nat_le (atoms_in (join p q)) u.limits.atoms) (passed limit.Atoms at) >> given (join p q)

-- what && and || join by
abbrev pub junction : Word → Option (Form → Form → Form)
junction word.LogicalAnd = Some And
junction word.LogicalOr = Some Or
junction _ = None

-- A concept-id: its arguments, as far as they hang on no position, are substituted, and are put into the normal form of
-- the concept.
abbrev pub of_concept_id : Program → Questions → Mark → DeclId → ArgumentForms → Form → Answer Form
of_concept_id u b m d xs p = do
  let positions = kinds (concept_of u d).template_parameters
  arguments ← instead (substitute_arguments u b (only_arguments []) positions xs) (hard kind.InvalidMapping m.at)
  with_arguments u b positions m.at arguments p

-- The normal form of an expression, where the normal forms of concepts are given.
abbrev pub form_of : Program → Questions → (at : Place) → (DeclId → Answer Form) → Expression → Answer Form
form_of u b at concept_form (parentheses m e) = form_of u b at concept_form e
form_of u b at concept_form (binary m w left right) =
    in_case (junction w)
    (λ join. form_of u b at concept_form left >>= λ p. form_of u b at concept_form right >>= λ q. joined u at join p q)
    (λ _. given (atomic u (binary m w left right)))
form_of u b at concept_form (concept_id m d xs) = concept_form d >>= λ p. of_concept_id u b m d xs p
form_of u b at concept_form e = given (atomic u e)

-- The normal form of a concept whose condition comes, through concept-ids, to fewer than so many concepts. A condition
-- names only concepts that are declared before, so a concept comes to fewer than its number and one.
abbrev pub form_within : Program → Questions → (at : Place) → ℕ → DeclId → Answer Form
form_within u b at zero d = hard kind.UnknownName at
form_within u b at (suc n) d = form_of u b at (form_within u b at n) (concept_of u d).condition

abbrev pub form_of_concept : Program → Questions → (at : Place) → DeclId → Answer Form
form_of_concept u b at d = form_within u b at (suc d.0) d

abbrev pub form_of_expression : Program → Questions → (at : Place) → Expression → Answer Form
form_of_expression u b at e = form_of u b at (form_of_concept u b at) e

-- The normal form of associated constraints ([temp.constr.decl]): that of their conjunction, in order.
abbrev pub form_of_all : Program → Questions → (at : Place) → List Expression → Answer (Option Form)
form_of_all u b at [] = given None
form_of_all u b at (e ∷ es) = do
  first ← form_of_expression u b at e
  whole ← in_turn (λ p next. form_of_expression u b at next >>= λ q. joined u at And p q) first es
  given (Some whole)

-- The normal form of a declaration: of a concept that of its condition, of another that of its constraints, or None.
abbrev pub form_of_declaration : Program → Questions → DeclId → Declaration → Answer (Option Form)
form_of_declaration u b d (a_concept c) = form_of_concept u b c.at d >>= λ p. given (Some p)
form_of_declaration u b d (a_function f) = form_of_all u b f.at f.constraints
form_of_declaration u b d (a_struct s) = form_of_all u b s.at s.constraints
form_of_declaration u b d _ = given None

-- Answers the question `normal`.
abbrev pub normal : Program → Questions → Rule → Answer (Option Form)
normal u b (of_declaration d) = form_of_declaration u b d (u.declaration d)
normal u b (of_expression e) = form_of_expression u b (place_of e) e >>= λ p. given (Some p)
