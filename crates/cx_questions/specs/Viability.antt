-- Which candidates of a call are viable ([over.match.viable], [temp.over]). A step that fails refuses the candidate softly.
use Rattle.std.specs.Prelude.{ℕ, ◌==◌, nat_le, List, [], ◌∷◌, ◌++◌, length, map, zip, take, filter, filter_map, Option, Some, None}
use Rattle.cx_base.specs.declared.kind.Kind.TheVariants as kind
use Rattle.cx_base.specs.declared.numbers.DeclId.{DeclId}
use Rattle.cx_base.specs.declared.place.Place.{Place}
use Rattle.cx_term.specs.Term.{Term}
use Rattle.cx_questions.specs.Answers.{Answer, given, soft, ◌>>=◌, ◌>>◌, must, present, each, in_turn}
use Rattle.cx_questions.specs.Forms.{Name, Expression, ArgumentForm, of_type, of_value}
use Rattle.cx_questions.specs.Program.{Program, Parametric, TemplateParameter, Parameter, Function, Member, member_function, function_of, struct_of, kinds}
use Rattle.cx_questions.specs.Environments.{Environment, only_arguments, Typed, Form, Signature, Class, Conversion}
use Rattle.cx_questions.specs.Questions.{Questions}
use Rattle.cx_questions.specs.TermTests.{without_const}
use Rattle.cx_questions.specs.Terms.{type_term}
use Rattle.cx_questions.specs.Substitution.{substitute_type, substitute_argument, is_of_kind, same_name}
use Rattle.cx_questions.specs.Parameters.{with_local}
use Rattle.cx_questions.specs.Conversions.{convert, bind_object}
use Rattle.cx_questions.specs.ComparedTypes.{as_compared}
use Rattle.cx_questions.specs.Deduction.{Assignment, deduced_by_call}
use Rattle.cx_questions.specs.Signatures.{parameter_types, result_type}
use Rattle.cx_questions.specs.Constrained.{satisfied_form}

-- A viable candidate: the function with its template arguments, the conversions of the arguments, the object's first, its
-- types, and its normal form
pub record Candidate : Type 0 where
  pub declaration : DeclId
  pub arguments : List Term
  pub conversions : List Conversion
  pub parameters : List Term
  pub result : Term
  pub form : Option Form

-- An explicit template argument ([temp.arg.explicit]): a type is read once for the call, a value for each candidate
pub data Explicit : Type 0 where
  type_given : Term → Explicit
  value_given : Expression → Explicit

module _ (u : Program) (b : Questions) where
  abbrev pub explicit : Environment → ArgumentForm → Answer Explicit
  explicit env (of_type t) = substitute_type u b env t >>= λ s. given (type_given s)
  explicit env (of_value e) = given (value_given e)

  -- The steps of a candidate, for a call at a place in an environment
  module _ (env : Environment) (at : Place) where
    abbrev pub not_viable : {A : Type 0} → Answer A
    not_viable = soft kind.NoViable at

    abbrev pub same_number : {A B : Type 0} → List A → List B → Answer (Unit {0})
    same_number xs ys = must (length xs == length ys) not_viable

    -- ---- template arguments ([temp.deduct])

    -- an explicit argument for a position: of its kind, a value as one of the position's type
    abbrev pub for_position : Parametric → Explicit → Answer Term
    for_position k (type_given t) = must (is_of_kind k t) not_viable >> given t
    for_position None (value_given e) = not_viable
    for_position (Some s) (value_given e) = do
      t ← substitute_argument u b env (Some s) (of_value e)
      must (is_of_kind (Some s) t) not_viable
      given t

    -- at most as many as there are positions
    abbrev pub explicit_arguments : List Parametric → List Explicit → Answer (List Term)
    explicit_arguments ks xs = must (nat_le (length xs) (length ks)) not_viable >> each (λ p. for_position p.0 p.1) (zip ks xs)

    -- the types that are deduced from, as the declaration has them, each with that of its argument
    abbrev pub faced : Function → List Typed → List (Term × Term)
    faced f xs = zip (map (λ p. as_compared u (type_term u p.of)) f.parameters) (map (λ x. x.of) xs)

    -- a position that is not bound takes its default, with the arguments before it
    abbrev pub with_default : List Term → TemplateParameter × Option Term → Answer (List Term)
    with_default done (p, Some t) = given (done ++ t ∷ [])
    with_default done (p, None) = do
      form ← present p.default not_viable
      t ← substitute_argument u b (only_arguments done) p.kind form
      must (is_of_kind p.kind t) not_viable
      given (done ++ t ∷ [])

    abbrev pub completed : List TemplateParameter → Assignment → Answer (List Term)
    completed ps s = in_turn with_default [] (zip ps s)

    abbrev pub template_arguments : Function → List Explicit → List Typed → Answer (List Term)
    template_arguments f xs args = do
      ts ← explicit_arguments (kinds f.template_parameters) xs
      s ← present (deduced_by_call (kinds f.template_parameters) ts (faced f args)) not_viable
      completed f.template_parameters s

    -- ---- conversions

    abbrev pub converted : List Typed → List Term → Answer (List Conversion)
    converted args ts = each (λ p. present (convert p.0 p.1) not_viable) (zip args ts)

    -- ---- a function of the unit: the number of its parameters, its template arguments, its types, its constraints, the
    -- conversions, in this order

    abbrev pub viable_function : List Explicit → List Typed → DeclId → Answer Candidate
    viable_function xs args d = do
      same_number (function_of u d).parameters args
      ts ← template_arguments (function_of u d) xs args
      read ← parameter_types u b (only_arguments ts) (function_of u d).parameters
      result ← result_type u b read.0 (function_of u d).result
      form ← satisfied_form b d (function_of u d).constraints at read.0
      conversions ← converted args read.1
      given (record { declaration = d; arguments = ts; conversions = conversions; parameters = read.1; result = result; form = form })

    -- ---- a member function: its types come with its class, and its object is converted before the arguments

    -- the variables of a function, by its parameters and their types
    abbrev pub with_parameters : Environment → List (Parameter × Term) → Environment
    with_parameters around [] = around
    with_parameters around (p ∷ ps) = with_parameters (with_local around p.0.local p.1) ps

    abbrev pub in_member : Class → Term → Function → Signature → Environment
    in_member c t f s = with_parameters (record { arguments = c.arguments; variables = []; object = Some (record { of = t; is_const = f.is_const }) }) (zip f.parameters s.parameters)

    abbrev pub viable_member : Class → Typed → List Typed → DeclId × Signature → Answer Candidate
    viable_member c object args (d, s) = do
      same_number (function_of u d).parameters args
      form ← satisfied_form b d (function_of u d).constraints at (in_member c (without_const object.of) (function_of u d) s)
      first ← present (bind_object object (function_of u d).is_const) not_viable
      conversions ← converted args s.parameters
      given (record { declaration = d; arguments = c.arguments; conversions = first ∷ conversions; parameters = s.parameters; result = s.result; form = form })

-- ---- which functions are candidates ([over.match.call], [over.match.funcs])

-- the functions of the unit of a name, as many as are visible; with explicit template arguments the templates of them
abbrev pub functions_visible : Program → Name → ℕ → List DeclId
functions_visible u name visible = take visible (u.functions_named name)

abbrev pub templates_visible : Program → Name → ℕ → List DeclId
templates_visible u name visible = filter (λ d. (function_of u d).is_template) (functions_visible u name visible)

abbrev pub function_member : Member → Option (Name × DeclId)
function_member (member_function name d) = Some (name, d)
function_member _ = None

-- the member functions of a class of a name, with their types
abbrev pub functions_of_class : Program → Class → Name → List (DeclId × Signature)
functions_of_class u c name =
    map (λ p. (p.0.1, p.1)) (filter (λ p. same_name name p.0.0) (zip (filter_map function_member (struct_of u c.declaration).members) c.functions))
