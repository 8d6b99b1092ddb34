-- Which functions are emitted ([basic.def.odr], [temp.inst]): the unit's own, and what these need.
use Rattle.std.specs.Prelude.{ℕ, ◌+◌, zero, suc, ◌==◌, nat_lt, length, Bool, false, ◌&&◌, ◌||◌, List, [], ◌∷◌, ◌++◌, Option, Some, None, is_some}
use Rattle.std.specs.List.{list_any}
use Rattle.cx_base.specs.declared.kind.Kind.TheVariants as kind
use Rattle.cx_base.specs.declared.limit.Limit.TheVariants as limit
use Rattle.cx_base.specs.declared.numbers.DeclId.{DeclId}
use Rattle.cx_base.specs.declared.place.Place.{Place}
use Rattle.cx_term.specs.Same.{same_terms}
use Rattle.cx_term.specs.Term.{Term}
use Rattle.cx_questions.specs.Answers.{Answer, given, hard, passed, must, present, either, in_case, harden, within, in_turn, ◌>>=◌, ◌>>◌}
use Rattle.cx_questions.specs.Bodies.{Need, judged, completed}
use Rattle.cx_questions.specs.Environments.{Environment, Object}
use Rattle.cx_questions.specs.Forms.{class_place, Statement, TypeForm}
use Rattle.cx_questions.specs.Parameters.{with_local}
use Rattle.cx_questions.specs.Program.{Program, Parameter, Function, function_of, struct_of}
use Rattle.cx_questions.specs.Questions.{Questions}
use Rattle.cx_questions.specs.Specialisations.{own_type}
use Rattle.cx_questions.specs.Substitution.{substitute_type}
use Rattle.cx_questions.specs.TermTests.{without_ref}

-- A function that is reached: its declaration, the arguments of its template or of its struct's, and the calls by which it
-- was reached, outermost first, each the first that needed it.
pub record Reached : Type 0 where
  pub function : DeclId
  pub arguments : List Term
  pub chain : List Place

-- a fault in the body of a function: the calls by which it was reached go in front of its chain
abbrev pub through : {A : Type 0} → List Place → Answer A → Answer A
through [] a = a
through (at ∷ chain) a = within at (through chain a)

-- the functions that are reached so far, in order: those whose bodies are judged, and those to come
pub record Progress : Type 0 where
  pub judged : List Reached
  pub coming : List Reached

-- one by one: what is at the front, and the rest
abbrev pub in_first : {A : Type 0} → List Reached → Answer A → (Reached → List Reached → Answer A) → Answer A
in_first [] done next = done
in_first (r ∷ rest) done next = next r rest

module _ (u : Program) (b : Questions) where
  -- ---- one body

  -- a struct in the head of a function is asked for, of a reference too
  abbrev pub head_type : Environment → TypeForm → Answer Term
  head_type env t = do
    of ← harden (substitute_type u b env t)
    completed u b (class_place t) (without_ref of)
    given of

  abbrev pub with_parameter : Environment → Parameter → Answer Environment
  with_parameter env p = head_type env p.of >>= λ of. given (with_local env p.local of)

  -- the object of a member function: of the type that its struct has with the arguments
  abbrev pub object_of : Function → List Term → Answer (Option Object)
  object_of f arguments = in_case f.owner
      (λ d. harden (own_type u b d (struct_of u d) arguments) >>= λ t. given (Some (record { of = t; is_const = f.is_const })))
      (λ _. given None)

  -- A function's body is judged: the structs of its head in the order of the text, then the statements.
  abbrev pub body_needs : Function → List Term → Statement → Answer (List Need)
  body_needs f arguments body = do
    object ← object_of f arguments
    let outside : Environment = record { arguments = arguments; variables = []; object = object }
    result ← head_type outside f.result
    inside ← in_turn with_parameter outside f.parameters
    j ← judged u b (record { result = result; in_loop = false }) inside body
    given j.needs

  -- what a function with a body needs; one without a body is not reached
  abbrev pub needs_of : Reached → Answer (List Need)
  needs_of r = through r.chain (present (function_of u r.function).body (hard kind.NoDefinition (function_of u r.function).at) >>= body_needs (function_of u r.function) r.arguments)

  -- ---- the list

  abbrev pub is_of : Need → Reached → Bool
  is_of n r = (n.function.0 == r.function.0) && same_terms n.arguments r.arguments

  abbrev pub is_reached : Need → Progress → Bool
  is_reached n p = list_any (is_of n) p.judged || list_any (is_of n) p.coming

  -- At most so many functions are reached as the limit allows. A call that needs a new one stands in the body of another.
  abbrev pub newly_reached : Reached → Need → Progress → Answer Progress
  newly_reached from n p = do
    through from.chain (must (is_some (function_of u n.function).body) (hard kind.NoDefinition n.at))
    must (nat_lt (length p.judged + length p.coming) u.limits.functions) (passed limit.Instances n.at)
    given (record p { coming = p.coming ++ record { function = n.function; arguments = n.arguments; chain = from.chain ++ n.at ∷ [] } ∷ [] })

  abbrev pub reaches : Reached → Progress → Need → Answer Progress
  reaches from p n = either (is_reached n p) (λ _. given p) (λ _. newly_reached from n p)

  -- So many bodies are judged in turn, each whole before its needs are looked at. With as many as the limit on functions
  -- none is left over.
  abbrev pub reach_from : ℕ → Progress → Answer (List Reached)
  reach_from zero p = in_first p.coming (given p.judged) (λ r rest. passed limit.Instances (function_of u r.function).at)
  reach_from (suc n) p = in_first p.coming (given p.judged) (λ r rest. do
    needs ← needs_of r
    next ← in_turn (reaches r) (record { judged = p.judged ++ r ∷ []; coming = rest }) needs
    reach_from n next)

  -- a function of the unit's own
  abbrev pub own : List Reached → DeclId → Answer (List Reached)
  own reached d = must (nat_lt (length reached) u.limits.functions) (passed limit.Instances (function_of u d).at) >> given (reached ++ record { function = d; arguments = []; chain = [] } ∷ [])

  -- The list: the unit's own functions, which are given in unit order, then what each function of the list in turn needs.
  abbrev pub reach : List DeclId → Answer (List Reached)
  reach functions = in_turn own [] functions >>= λ start. reach_from u.limits.functions (record { judged = []; coming = start })
