-- Judging what stands in function bodies ([stmt.stmt], [dcl.dcl]): every expression is typed, every constant and every class
-- that is needed is asked for, in the order of the text. The first refusal is the answer, and a soft one is a fault of the
-- unit. Besides, judging tells which calls are evaluated.
use Rattle.std.specs.Prelude.{ℕ, Bool, true, false, not, ◌&&◌, ◌||◌, List, [], ◌∷◌, ◌++◌, Option, Some, None, is_some}
use Rattle.cx_base.specs.declared.kind.Kind.TheVariants as kind
use Rattle.cx_base.specs.declared.numbers.DeclId.{DeclId}
use Rattle.cx_base.specs.declared.place.Place.{Place}
use Rattle.cx_machine.specs.Values.{Val, is_true}
use Rattle.cx_term.specs.Term.{Term}
use Rattle.cx_questions.specs.Answers.{Answer, given, hard, must, present, either, in_case, harden, ◌>>=◌, ◌>>◌}
use Rattle.cx_questions.specs.Constants.{takes, initialised as in_declared_type}
use Rattle.cx_questions.specs.Conversions.{convert}
use Rattle.cx_questions.specs.Environments.{Environment, Typed, Choice, best_is, none_viable, ambiguous}
use Rattle.cx_questions.specs.Forms.{Mark, Expression, Expressions, Callee, TypeForm, Constraint, Declared, as_type, as_auto, Initialiser, equals, braces, Statement, Statements, empty_statement, block, assertion, break_statement, continue_statement, return_statement, if_statement, while_statement, for_statement, variable, expression_statement, no_statement, and_statement, place_of, type_place, class_place, parentheses, unary, binary, conditional, dot, call, list, cast, out, no_expression, and_expression, object_functions, const_type}
use Rattle.cx_questions.specs.Parameters.{put_at}
use Rattle.cx_questions.specs.Program.{Program}
use Rattle.cx_questions.specs.Questions.{Questions}
use Rattle.cx_questions.specs.Requirements.{requires_value}
use Rattle.cx_questions.specs.Satisfaction.{concept_value, meets}
use Rattle.cx_questions.specs.Substitution.{substitute_type}
use Rattle.cx_questions.specs.TermTests.{is_ref, with_ref, is_const, without_const, const_if, is_void, is_class, scalar_of}
use Rattle.cx_questions.specs.Typing.{type_expression}

-- a call that is evaluated: its place, and the function that it takes with its template arguments
pub record Need : Type 0 where
  pub at : Place
  pub function : DeclId
  pub arguments : List Term

-- what judging a statement gives: the environment after it, and its needs in order
pub record Judged : Type 0 where
  pub after : Environment
  pub needs : List Need

-- where a statement stands: what its function returns, and whether it is in a loop
pub record Around : Type 0 where
  pub result : Term
  pub in_loop : Bool

abbrev pub in_a_loop : Around → Around
in_a_loop around = record around { in_loop = true }

module _ (u : Program) (b : Questions) where
  -- ---- expressions

  -- an expression that is evaluated: its type, then its constants in the order of the text
  abbrev pub judged_expression : Environment → Expression → Answer Typed
  judged_expression env e = harden (do
    t ← type_expression u b env e
    takes u b (concept_value b) (requires_value u b) env e
    given t)

  -- a call's winner
  abbrev pub needed : Place → Choice → List Need
  needed at (best_is w) = record { at = at; function = w.declaration; arguments = w.arguments } ∷ []
  needed at none_viable = []
  needed at (ambiguous ds) = []

  -- two parts, the left one first
  abbrev pub joined_needs : Answer (List Need) → Answer (List Need) → Answer (List Need)
  joined_needs p q = p >>= λ ps. q >>= λ qs. given (ps ++ qs)

  module _ (env : Environment) where
    abbrev mutual
      -- The calls that an expression evaluates, operands first, from left to right, also in an assignment. Calls inside
      -- decltype, concept-ids and requires-expressions are none of them.
      pub calls_in : Expression → Answer (List Need)
      calls_in (parentheses m e) = calls_in e
      calls_in (unary m w e) = calls_in e
      calls_in (binary m w e f) = joined_needs (calls_in e) (calls_in f)
      calls_in (conditional m c e f) = joined_needs (calls_in c) (joined_needs (calls_in e) (calls_in f))
      calls_in (dot m e name) = calls_in e
      calls_in (call m f xs) = joined_needs (calls_in_callee f) (calls_in_all xs) >>= λ before. b.resolve (call m f xs) env >>= λ choice. given (before ++ needed m.at choice)
      calls_in (list m t xs) = calls_in_all xs
      calls_in (cast m t e) = calls_in e
      calls_in (out m e) = calls_in e
      calls_in e = given []

      pub calls_in_all : Expressions → Answer (List Need)
      calls_in_all no_expression = given []
      calls_in_all (and_expression e rest) = joined_needs (calls_in e) (calls_in_all rest)

      pub calls_in_callee : Callee → Answer (List Need)
      calls_in_callee (object_functions m e name) = calls_in e
      calls_in_callee f = given []

  -- an expression whose value is converted to bool: a scalar
  abbrev pub condition : Environment → Expression → Answer (List Need)
  condition env e = do
    t ← judged_expression env e
    must (is_some (scalar_of t.of)) (hard kind.InvalidExpr (place_of e))
    calls_in env e

  -- a constant that is converted to bool
  abbrev pub truth_in : Place → Val → Answer Bool
  truth_in at v = present (is_true v) (hard kind.InvalidExpr at)

  abbrev pub constant_condition : Environment → Expression → Answer Bool
  constant_condition env e = harden (b.constant e env) >>= truth_in (place_of e)

  -- static_assert, by its word ([dcl.pre])
  abbrev pub asserted : Environment → Mark → Expression → Answer (Unit {0})
  asserted env m e = constant_condition env e >>= λ holds. must holds (hard kind.AssertFailed m.at)

  -- an argument, initialiser or returned value has a conversion to a type
  abbrev pub converts : Expression → Typed → Term → Answer (Unit {0})
  converts e t to = must (is_some (convert t to)) (hard kind.InvalidExpr (place_of e))

  -- a struct is needed complete
  abbrev pub completed : Place → Term → Answer (Unit {0})
  completed at t = either (is_class t) (λ _. harden (b.class at (without_const t)) >>= λ c. given tt) (λ _. given tt)

  -- ---- variables ([dcl.init])

  -- what is declared: the type, a reference among them; the value, where it is constexpr; the calls of its initialiser
  abbrev pub with_variable : Environment → ℕ → (is_constexpr : Bool) → Term → Option Val → Environment
  with_variable env k is_constexpr of v = record env { variables = put_at k (record { of = const_if is_constexpr of; value = v }) env.variables }

  -- a constant that initialises a variable of a type, in that type
  abbrev pub constant_initialiser : Environment → Expression → Term → Answer Val
  constant_initialiser env e of = do
    v ← harden (b.constant e env)
    t ← harden (type_expression u b env e)
    in_declared_type u b (concept_value b) (requires_value u b) (place_of e) of t v

  -- a variable of a type by `= e`
  abbrev pub initialised : Environment → ℕ → (is_constexpr : Bool) → Term → Expression → Answer Judged
  initialised env k true of e = constant_initialiser env e of >>= λ v. given (record { after = with_variable env k true of (Some v); needs = [] })
  initialised env k false of e = do
    t ← judged_expression env e
    converts e t of
    needs ← calls_in env e
    given (record { after = with_variable env k false of None; needs = needs })

  -- a type without its const in front
  abbrev pub without_const_form : TypeForm → TypeForm
  without_const_form (const_type m t) = t
  without_const_form t = t

  -- the initialiser as an expression: `{..}` is T{..} at its `{`, T being the type without const; of a reference it is not
  -- supported
  abbrev pub as_expression : TypeForm → Term → Initialiser → Answer Expression
  as_expression t of (equals e) = given e
  as_expression t of (braces m xs) = must (not (is_ref of)) (hard kind.Unsupported m.at) >> given (list m (without_const_form t) xs)

  -- a variable of a written type: not void, a constexpr one no reference; the class of an object is asked for
  abbrev pub typed_variable : Environment → (is_constexpr : Bool) → TypeForm → ℕ → Initialiser → Answer Judged
  typed_variable env is_constexpr t k init = do
    of ← harden (substitute_type u b env t)
    must (not (is_void of)) (hard kind.InvalidType (type_place t))
    must (not (is_constexpr && is_ref of)) (hard kind.Unsupported (type_place t))
    completed (class_place t) of
    e ← as_expression t of init
    initialised env k is_constexpr of e

  -- ---- variables of `auto` ([dcl.type.auto.deduct])

  -- what auto stands for: by value, and before a reference to const, the type without const; else the type itself
  abbrev pub deduced_type : (is_const : Bool) → (is_reference : Bool) → Term → Term
  deduced_type false true t = t
  deduced_type is_const is_reference t = without_const t

  abbrev pub ref_if : Bool → Term → Term
  ref_if true t = with_ref t
  ref_if false t = t

  -- the type must meet the constraint before auto
  abbrev pub constrained : Environment → Option Constraint → Term → Answer (Unit {0})
  constrained env None of = given tt
  constrained env (Some c) of = harden (meets u b env c.mark c.concept of c.rest) >>= λ holds. must holds (hard kind.Unsatisfied c.mark.at)

  -- the type of a variable of auto, by that of its initialiser
  abbrev pub type_of_auto : Environment → Mark → Option Constraint → (is_const : Bool) → (is_reference : Bool) → Typed → Answer Term
  type_of_auto env m c is_const is_reference t = do
    must (not (is_void t.of)) (hard kind.InvalidType m.at)
    constrained env c (deduced_type is_const is_reference t.of)
    given (ref_if is_reference (const_if is_const (deduced_type is_const is_reference t.of)))

  abbrev pub auto_variable : Environment → (is_constexpr : Bool) → Mark → Option Constraint → Bool → Bool → ℕ → Expression → Answer Judged
  auto_variable env true m c is_const is_reference k e = do
    must (not is_reference) (hard kind.Unsupported m.at)
    v ← harden (b.constant e env)
    t ← harden (type_expression u b env e)
    of ← type_of_auto env m c is_const is_reference t
    completed m.at of
    given (record { after = with_variable env k true of (Some v); needs = [] })
  auto_variable env false m c is_const is_reference k e = do
    t ← judged_expression env e
    of ← type_of_auto env m c is_const is_reference t
    completed m.at of
    converts e t of
    needs ← calls_in env e
    given (record { after = with_variable env k false of None; needs = needs })

  abbrev pub declared_variable : Environment → (is_constexpr : Bool) → Declared → ℕ → Initialiser → Answer Judged
  declared_variable env is_constexpr (as_type t) k init = typed_variable env is_constexpr t k init
  declared_variable env is_constexpr (as_auto m c is_const is_reference) k (equals e) = auto_variable env is_constexpr m c is_const is_reference k e
  declared_variable env is_constexpr (as_auto m c is_const is_reference) k (braces m' xs) = hard kind.Unsupported m'.at

  -- ---- statements

  -- a statement after which the environment is as before it
  abbrev pub stays : Environment → List Need → Answer Judged
  stays env needs = given (record { after = env; needs = needs })

  -- a `return` without and with a value ([stmt.return])
  abbrev pub returned : Around → Environment → Mark → Option Expression → Answer (List Need)
  returned around env m None = must (is_void around.result) (hard kind.InvalidExpr m.at) >> given []
  returned around env m (Some e) = do
    t ← judged_expression env e
    must (is_some (convert t around.result) || (is_void around.result && is_void t.of)) (hard kind.InvalidExpr (place_of e))
    calls_in env e

  abbrev pub if_there : (Expression → Answer (List Need)) → Option Expression → Answer (List Need)
  if_there f e = in_case e f (λ _. given [])

  -- the branches of `if constexpr` ([stmt.if]/2): the calls of the one taken are needed; in a template the other is not judged
  abbrev pub branches : (is_templated : Bool) → (holds : Bool) → (Unit {0} → Answer (List Need)) → (Unit {0} → Answer (List Need)) → Answer (List Need)
  branches true true first second = first tt
  branches true false first second = second tt
  branches false true first second = first tt >>= λ needs. second tt >>= λ dropped. given needs
  branches false false first second = first tt >>= λ dropped. second tt

  abbrev mutual
    pub judged : Around → Environment → Statement → Answer Judged
    judged around env (empty_statement m) = stays env []
    judged around env (block m ss) = judged_all around env ss >>= stays env
    judged around env (assertion m e) = asserted env m e >> stays env []
    judged around env (break_statement m) = must around.in_loop (hard kind.InvalidExpr m.at) >> stays env []
    judged around env (continue_statement m) = must around.in_loop (hard kind.InvalidExpr m.at) >> stays env []
    judged around env (return_statement m e) = returned around env m e >>= stays env
    judged around env (if_statement m false e s otherwise) = do
      first ← condition env e
      then_needs ← judged around env s
      else_needs ← judged_all around env otherwise
      stays env (first ++ then_needs.needs ++ else_needs)
    judged around env (if_statement m true e s otherwise) = do
      holds ← constant_condition env e
      needs ← branches (u.is_templated m.node) holds (λ _. judged around env s >>= λ j. given j.needs) (λ _. judged_all around env otherwise)
      stays env needs
    judged around env (while_statement m e s) = do
      first ← condition env e
      body ← judged (in_a_loop around) env s
      stays env (first ++ body.needs)
    judged around env (for_statement m first e step s) = do
      start ← judged around env first
      tested ← if_there (condition start.after) e
      stepped ← if_there (λ x. judged_expression start.after x >>= λ t. calls_in start.after x) step
      body ← judged (in_a_loop around) start.after s
      stays env (start.needs ++ tested ++ stepped ++ body.needs)
    judged around env (variable m is_constexpr of k init) = declared_variable env is_constexpr of k init
    judged around env (expression_statement m e) = judged_expression env e >>= λ t. calls_in env e >>= stays env

    pub judged_all : Around → Environment → Statements → Answer (List Need)
    judged_all around env no_statement = given []
    judged_all around env (and_statement s rest) = do
      first ← judged around env s
      later ← judged_all around first.after rest
      given (first.needs ++ later)
