-- What the verdict on a unit is, once its names are resolved: the stages that ask questions, in order, each in the order of
-- the unit. The first refusal of the first stage that refuses is the verdict; else the verdict is the list of the functions
-- that are emitted.
use Rattle.std.specs.Prelude.{◌≡◌, ℕ, ◌==◌, Bool, true, false, not, ◌&&◌, length, List, [], ◌∷◌, ◌++◌, zip, Option, Some, None, is_some, is_none, if◌then◌else◌}
use Rattle.std.specs.List.{flat_map}
use Rattle.cx_base.specs.declared.kind.Kind.TheVariants as kind
use Rattle.cx_base.specs.declared.limit.Limit.TheVariants as limit
use Rattle.cx_base.specs.declared.numbers.DeclId.{DeclId}
use Rattle.cx_base.specs.declared.place.Place.{Place}
use Rattle.cx_questions.specs.Answers.{Answer, given, hard, passed, must, either, harden, in_turn, ◌>>=◌, ◌>>◌}
use Rattle.cx_questions.specs.Bodies.{asserted, completed}
use Rattle.cx_questions.specs.Classes.{signature, all_members}
use Rattle.cx_questions.specs.Constants.{initialiser_value}
use Rattle.cx_questions.specs.ConstraintOrder.{too_many_clauses}
use Rattle.cx_questions.specs.Environments.{only_arguments, Form}
use Rattle.cx_questions.specs.Forms.{class_place, Mark, Expression, TypeForm, ArgumentForm, of_type, of_value}
use Rattle.cx_questions.specs.Knot.{answers, whole_height}
use Rattle.cx_questions.specs.Members.{constant_typed}
use Rattle.cx_questions.specs.PartialOrdering.{list_at_least, left_to_constraints, more_specialised}
use Rattle.cx_questions.specs.Program.{Program, Limits, with_limits, Parametric, Declaration, a_function, a_struct, a_concept, a_constant, a_field, Struct, Constant, Member, static_constant, member_function, function_of, struct_of, place_of_declaration}
use Rattle.cx_questions.specs.Questions.{Questions, of_declaration}
use Rattle.cx_questions.specs.Reach.{Reached, reach}
use Rattle.cx_questions.specs.Requirements.{requires_value}
use Rattle.cx_questions.specs.Satisfaction.{concept_value}
use Rattle.cx_questions.specs.Specialisations.{own_type, primary_of, primary_kinds, compared_specialisation, compared_primary}
use Rattle.cx_questions.specs.Substitution.{substitute_type, substitute_argument}

-- what stands in a unit, in its order; a function that is declared again stands once, where it is declared first
pub data Item : Type 0 where
  -- static_assert, by its word
  an_assertion : Mark → Expression → Item
  -- `using` of a type
  an_alias : TypeForm → Item
  -- a function, struct, template, specialisation, concept or constexpr variable
  a_declaration : DeclId → Item

-- nothing was refused
abbrev pub Passes : Type 0
Passes = Answer (Unit {0})

abbrev pub in_order : {A : Type 0} → (A → Passes) → List A → Passes
in_order f xs = in_turn (λ done x. f x) tt xs

module _ (u : Program) (b : Questions) where
  -- ---- the types of declarations that are no templates, and specialisations (stage 5)

  -- one argument of a specialisation is for a position of its kind
  abbrev pub is_for : Parametric → ArgumentForm → Bool
  is_for None (of_type t) = true
  is_for (Some s) (of_value e) = true
  is_for _ _ = false

  abbrev pub are_for : List Parametric → List ArgumentForm → Bool
  are_for [] [] = true
  are_for (k ∷ ks) (x ∷ xs) = is_for k x && are_for ks xs
  are_for _ _ = false

  -- the argument list of a specialisation
  abbrev pub list_allowed : Struct → Passes
  list_allowed s = do
    must (are_for (primary_kinds u s) s.specialised_for) (hard kind.InvalidType s.at)
    in_order (λ p. harden (substitute_argument u b (only_arguments []) p.0 p.1) >>= λ t. given tt) (zip (primary_kinds u s) s.specialised_for)

  -- the normal form of a class template or specialisation, where it has constraints
  abbrev pub form_of_template : DeclId → Answer (Option Form)
  form_of_template d = either (length (struct_of u d).constraints == 0) (λ _. given None) (λ _. b.normal (of_declaration d))

  -- a specialisation is more specialised than its template ([temp.class.spec]/9)
  abbrev pub more_than_primary : DeclId → DeclId → Place → Passes
  more_than_primary d primary at = do
    p ← form_of_template d
    q ← form_of_template primary
    must (not (left_to_constraints list_at_least (compared_specialisation u d p) (compared_primary u primary q) && too_many_clauses u.limits.clauses p q)) (passed limit.Clauses at)
    must (more_specialised list_at_least (compared_specialisation u d p) (compared_primary u primary q)) (hard kind.NotMoreSpecialised at)

  abbrev pub specialises : DeclId → Struct → Passes
  specialises d s = either (is_none s.primary) (λ _. given tt) (λ _. list_allowed s >> more_than_primary d (primary_of s.primary) s.at)

  -- a struct that is no template, or a full specialisation: all its members
  abbrev pub members_allowed : DeclId → Struct → Passes
  members_allowed d s = either s.is_template (λ _. given tt) (λ _. harden (own_type u b d s []) >>= λ t. all_members u b (record { declaration = d; arguments = [] }) t >>= λ c. given tt)

  -- a constexpr variable of the unit: its type, and the class of that ([dcl.constexpr])
  abbrev pub constant_allowed : DeclId → Constant → Passes
  constant_allowed d c = constant_typed u b [] c.at d >>= λ t. completed u b (class_place c.of) t.of

  abbrev pub types_of : DeclId → Declaration → Passes
  types_of d (a_function f) = either f.is_template (λ _. given tt) (λ _. harden (signature u b (only_arguments []) d) >>= λ s. given tt)
  types_of d (a_struct s) = specialises d s >> members_allowed d s
  types_of d (a_constant c) = constant_allowed d c
  types_of d (a_concept c) = given tt
  types_of d (a_field k t) = given tt

  abbrev pub types_judged : Item → Passes
  types_judged (an_assertion m e) = given tt
  types_judged (an_alias t) = harden (substitute_type u b (only_arguments []) t) >>= λ s. given tt
  types_judged (a_declaration d) = types_of d (u.declaration d)

  -- ---- normal forms (stage 6)

  -- the normal form of a declaration, where it has constraints
  abbrev pub form_judged : DeclId → List Expression → Passes
  form_judged d [] = given tt
  form_judged d (e ∷ es) = b.normal (of_declaration d) >>= λ p. given tt

  abbrev pub member_form : Member → Passes
  member_form (member_function name d) = form_judged d (function_of u d).constraints
  member_form m = given tt

  abbrev pub forms_of : DeclId → Declaration → Passes
  forms_of d (a_concept c) = b.normal (of_declaration d) >>= λ p. given tt
  forms_of d (a_function f) = form_judged d f.constraints
  forms_of d (a_struct s) = form_judged d s.constraints >> in_order member_form s.members
  forms_of d other = given tt

  abbrev pub forms_judged : Item → Passes
  forms_judged (a_declaration d) = forms_of d (u.declaration d)
  forms_judged other = given tt

  -- ---- constexpr variables, static constants, assertions (stage 7)

  -- a constant of its declared type
  abbrev pub constant_judged : DeclId → Passes
  constant_judged d = do
    constant_typed u b [] (place_of_declaration u d) d
    harden (initialiser_value u b (concept_value b) (requires_value u b) (only_arguments []) d)
    given tt

  abbrev pub member_constant : Member → Passes
  member_constant (static_constant name d) = constant_judged d
  member_constant m = given tt

  -- of a struct that is no template the static constants
  abbrev pub constants_of : DeclId → Declaration → Passes
  constants_of d (a_constant c) = constant_judged d
  constants_of d (a_struct s) = either s.is_template (λ _. given tt) (λ _. in_order member_constant s.members)
  constants_of d other = given tt

  abbrev pub constants_judged : Item → Passes
  constants_judged (an_assertion m e) = asserted u b (only_arguments []) m e
  constants_judged (an_alias t) = given tt
  constants_judged (a_declaration d) = constants_of d (u.declaration d)

-- ---- the unit's own functions: those with a body that are no templates, members of structs that are no templates among
-- them

module _ (u : Program) where
  abbrev pub own_function : DeclId → List DeclId
  own_function d = if not (function_of u d).is_template && is_some (function_of u d).body then d ∷ [] else []

  abbrev pub member_functions : Member → List DeclId
  member_functions (member_function name d) = own_function d
  member_functions m = []

  abbrev pub functions_of : DeclId → Declaration → List DeclId
  functions_of d (a_function f) = own_function d
  functions_of d (a_struct s) = if s.is_template then [] else flat_map member_functions s.members
  functions_of d other = []

  abbrev pub own_functions : List Item → List DeclId
  own_functions [] = []
  own_functions (a_declaration d ∷ items) = functions_of d (u.declaration d) ++ own_functions items
  own_functions (item ∷ items) = own_functions items

-- ---- the verdict

-- by the answers of the questions that the stages ask
abbrev pub verdict_by : Program → Questions → List Item → Answer (List Reached)
verdict_by u b items = do
  in_order (types_judged u b) items
  in_order (forms_judged u b) items
  in_order (constants_judged u b) items
  reach u b (own_functions u items)

-- where the stages ask at a height
abbrev pub verdict_at : Program → ℕ → List Item → Answer (List Reached)
verdict_at u h items = verdict_by u (answers u h) items

-- The verdict on a unit whose names are resolved, up to the limit on what is written: the functions that are emitted, or the
-- first refusal.
abbrev pub verdict : Program → List Item → Answer (List Reached)
verdict u items = verdict_at u whole_height items

-- A unit is well formed: with some limits, that on heights among them, nothing is refused.
abbrev pub IsWellFormed : Program → List Item → Type 0
IsWellFormed u items = (l : Limits) × (h : ℕ) × (fs : List Reached) × (verdict_at (with_limits u l) h items ≡ given fs)
