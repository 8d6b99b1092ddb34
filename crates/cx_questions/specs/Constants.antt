-- The value of a constant expression ([expr.const]), as far as it is built: expressions of scalars without calls and without
-- objects that change. What is not built is refused as Unsupported, hard, at its first token.
--
-- The expression is typed; one of type void is no constant. Then every constant in it is taken, in the order of the text,
-- whether the evaluation reaches it or not: static constants, constexpr variables, concept-ids, requires-expressions. Then
-- it is evaluated; where that has no meaning, or reads what is no constant, it is not constant.
use Rattle.std.specs.Prelude.{◌&&◌, ◌||◌, if◌then◌else◌, pos, is_some, Bool, true, false, not, List, [], ◌∷◌, Option, Some, None, slice_get}
use Rattle.std.specs.Option.{option_flatten, option_map_or}
use Rattle.std.specs.List.{filter_map}
use Rattle.cx_base.specs.declared.kind.Kind.TheVariants as kind
use Rattle.cx_base.specs.declared.numbers.DeclId.{DeclId}
use Rattle.cx_base.specs.declared.place.Place.{Place}
use Rattle.cx_base.specs.declared.value.Scalar.{Scalar}
use Rattle.cx_base.specs.declared.value.Scalar.TheVariants as scalars
use Rattle.cx_term.specs.Same.{same_term}
use Rattle.cx_term.specs.Term.{Term, inst, val}
use Rattle.cx_term.specs.declared.word.Word.{Word}
use Rattle.cx_term.specs.declared.word.Word.TheVariants as word
use Rattle.cx_questions.specs.Answers.{Answer, given, soft, hard, ◌>>=◌, ◌>>◌, and_then, either, must, present, in_case, harden, within, in_turn}
use Rattle.cx_questions.specs.Arithmetic.{of_one, of_two, value_in}
use Rattle.cx_machine.specs.Values.{Val, Vals, no_val, and_val, Number, bool_val, converted_value, is_true}
use Rattle.cx_machine.specs.Values.{Struct as fields}
use Rattle.cx_questions.specs.Forms.{Callee, functions, functions_with, own_functions, object_functions, no_function, Name, Expression, Expressions, place_of, type_place, literal, local_name, position_name, field_name, constant_name, functions_name, other_name, parentheses, unary, binary, conditional, dot, scope, call, list, cast, is_same, out, concept_id, requires, requires_with, no_expression, and_expression}
use Rattle.cx_questions.specs.Program.{Program, struct_of, constant_of}
use Rattle.cx_questions.specs.Environments.{Environment, Typed, Variable, only_arguments}
use Rattle.cx_questions.specs.Questions.{Questions}
use Rattle.cx_questions.specs.TermTests.{is_class, without_const, without_ref, is_const, is_void, scalar_of, argument_of}
use Rattle.cx_questions.specs.Substitution.{substitute_type, same_name}
use Rattle.cx_questions.specs.Members.{qualified_type, qualifier, constant_named, field_name_of, members_of_class}
use Rattle.cx_questions.specs.Operators.{is_alike}
use Rattle.cx_questions.specs.Typing.{type_expression}

-- what an evaluation comes to: a value, or nothing where it has no meaning or reads what is no constant
abbrev pub Evaluated : Type 0
Evaluated = Answer (Option Val)

abbrev pub meaningless : Evaluated
meaningless = given None

abbrev pub valued : Val → Evaluated
valued v = given (Some v)

-- an evaluation, then what its value gives
unfoldable pub with_value : Evaluated → (Val → Evaluated) → Evaluated
with_value a f = and_then a (λ v. in_case v f (λ _. meaningless))

-- ---- one operator

-- an object that a constant changes is not built
abbrev pub changes : Place → Evaluated → Evaluated
changes at a = with_value a (λ v. hard kind.Unsupported at)

abbrev pub unary_evaluated : Place → Word → Evaluated → Evaluated
unary_evaluated at word.PreIncrement a = changes at a
unary_evaluated at word.PreDecrement a = changes at a
unary_evaluated at word.PostIncrement a = changes at a
unary_evaluated at word.PostDecrement a = changes at a
unary_evaluated at w a = with_value a (λ v. given (of_one w v))

abbrev pub is_assignment : Word → Bool
is_assignment word.Assign = true
is_assignment word.PlusAssign = true
is_assignment word.MinusAssign = true
is_assignment word.TimesAssign = true
is_assignment word.DivideAssign = true
is_assignment word.RemainderAssign = true
is_assignment word.XorAssign = true
is_assignment word.AndAssign = true
is_assignment word.OrAssign = true
is_assignment word.ShiftLeftAssign = true
is_assignment word.ShiftRightAssign = true
is_assignment w = false

-- whether a value is true decides which way is gone
abbrev pub by_truth : Evaluated → (Unit {0} → Evaluated) → (Unit {0} → Evaluated) → Evaluated
by_truth a yes_way no_way = with_value a (λ v. in_case (is_true v) (λ holds. either holds yes_way no_way) (λ _. meaningless))

abbrev pub as_truth : Evaluated → Evaluated
as_truth a = with_value a (λ v. given (converted_value scalars.Bool v))

-- The operands in turn; the right one of && and || only where it tells, an assignment's first
abbrev pub binary_evaluated : Place → Word → (Unit {0} → Evaluated) → (Unit {0} → Evaluated) → Evaluated
binary_evaluated at word.LogicalAnd a b = by_truth (a tt) (λ _. as_truth (b tt)) (λ _. valued (bool_val false))
binary_evaluated at word.LogicalOr a b = by_truth (a tt) (λ _. valued (bool_val true)) (λ _. as_truth (b tt))
binary_evaluated at w a b =
    either (is_assignment w) (λ _. with_value (b tt) (λ v. changes at (a tt))) (λ _. with_value (a tt) (λ v. with_value (b tt) (λ w'. given (of_two w v w'))))

-- a value in a type
abbrev pub evaluated_in : Term → Evaluated → Evaluated
evaluated_in t a = with_value a (λ v. given (value_in t v))

-- what an outer variable that is not constexpr gives: a const one is not supported, another is no constant
abbrev pub outer_variable : Place → Variable → Evaluated
outer_variable at v = must (not (is_const v.of)) (hard kind.Unsupported at) >> meaningless

abbrev pub variable_value : Place → Option Variable → Evaluated
variable_value at v = in_case v (λ w. in_case w.value valued (λ _. outer_variable at w)) (λ _. meaningless)

abbrev pub term_value : Term → Evaluated
term_value (val s n) = valued (Number s n)
term_value t = meaningless

abbrev pub is_instance : Term → Bool
is_instance (inst d xs) = true
is_instance t = false

-- a use of an instance's constant is open while its initialiser is evaluated
abbrev pub used_at : Bool → Place → Answer Val → Answer Val
used_at true at a = within at a
used_at false at a = a

abbrev pub owned_by_instance : Program → Option DeclId → Bool
owned_by_instance u owner = option_map_or (λ d. is_instance (struct_of u d).itself) owner false

-- the value of the field of a name, where these are the fields' names in order
abbrev pub field_in : Name → List Name → Vals → Option Val
field_in name [] vs = None
field_in name (n ∷ names) no_val = None
field_in name (n ∷ names) (and_val v vs) = if same_name name n then Some v else field_in name names vs

-- a scalar is 0, or one value converted
abbrev pub scalar_listed : Scalar → List (Option Val) → Evaluated
scalar_listed s [] = valued (Number s (pos 0))
scalar_listed s (v ∷ vs) = with_value (given v) (λ w. given (converted_value s w))

-- ---- constants in a constant expression; concepts and requires-expressions by what they are worth

module _ (u : Program) (b : Questions) (concept_holds : Environment → Expression → Answer Bool) (requirements_hold : Environment → Expression → Answer Bool) where
  -- an initialiser's value in the declared type: a scalar is converted to a scalar, a struct is of that type
  abbrev pub initialises : Term → Typed → Bool
  initialises t x = (is_some (scalar_of t) && is_some (scalar_of x.of)) || (is_class t && is_alike t x.of)

  abbrev pub initialised : Place → Term → Typed → Val → Answer Val
  initialised at t x v = must (initialises t x) (hard kind.InvalidExpr at) >> present (value_in t v) (hard kind.InvalidExpr at)

  abbrev pub initialiser_value : Environment → DeclId → Answer Val
  initialiser_value env d = do
    v ← harden (b.constant (constant_of u d).initialiser env)
    x ← harden (type_expression u b env (constant_of u d).initialiser)
    t ← harden (substitute_type u b env (constant_of u d).of)
    initialised (place_of (constant_of u d).initialiser) t x v

  abbrev pub constant_value : List Term → Place → DeclId → Answer Val
  constant_value arguments at d = used_at (owned_by_instance u (constant_of u d).owner) at (initialiser_value (only_arguments arguments) d)

  -- T::t::m
  abbrev pub scope_value : Place → Place → Term → List Name → Name → Answer Val
  scope_value at head t names name = do
    s ← in_turn (qualified_type u b at head) t names
    c ← qualifier u b at head s
    d ← present (constant_named u c name) (soft kind.InvalidExpr at)
    constant_value c.arguments at d

  -- a field of a value
  abbrev pub field_value : Environment → Place → Typed → Name → Val → Evaluated
  field_value env at x name (Number s n) = meaningless
  field_value env at x name (fields vs) = b.class at (without_const x.of) >>= λ c. given (field_in name (filter_map field_name_of (members_of_class u c)) vs)

  -- T{..} of a scalar; of a struct it is not built
  abbrev pub listed : Place → Term → List (Option Val) → Evaluated
  listed at t vs = in_case (scalar_of t) (λ s. scalar_listed s vs) (λ _. hard kind.Unsupported at)

  module _ (env : Environment) where
    abbrev nothing_taken : Answer (Unit {0})
    nothing_taken = given tt

    abbrev mutual
      -- each constant in the expression, in the order of the text
      pub takes : Expression → Answer (Unit {0})
      takes (literal m s n) = nothing_taken
      takes (local_name m k) = nothing_taken
      takes (position_name m i) = nothing_taken
      takes (field_name m k d) = nothing_taken
      takes (constant_name m d) = constant_value env.arguments m.at d >>= λ v. nothing_taken
      takes (functions_name m name visible) = nothing_taken
      takes (other_name m d) = nothing_taken
      takes (parentheses m e) = takes e
      takes (unary m w e) = takes e
      takes (binary m w e f) = takes e >> takes f
      takes (conditional m c e f) = takes c >> takes e >> takes f
      takes (dot m e name) = takes e
      takes (scope m t names name) = substitute_type u b env t >>= λ s. scope_value m.at (type_place t) s names name >>= λ v. nothing_taken
      takes (call m f xs) = takes_in_callee f >> takes_all xs
      takes (list m t xs) = takes_all xs
      takes (cast m t e) = takes e
      takes (is_same m t v) = nothing_taken
      takes (out m e) = takes e
      takes (concept_id m d xs) = concept_holds env (concept_id m d xs) >>= λ v. nothing_taken
      takes (requires m ps rs) = requirements_hold env (requires m ps rs) >>= λ v. nothing_taken
      takes (requires_with m xs) = requirements_hold env (requires_with m xs) >>= λ v. nothing_taken

      pub takes_all : Expressions → Answer (Unit {0})
      takes_all no_expression = nothing_taken
      takes_all (and_expression e rest) = takes e >> takes_all rest

      pub takes_in_callee : Callee → Answer (Unit {0})
      takes_in_callee (functions m name visible) = nothing_taken
      takes_in_callee (functions_with m name visible xs) = nothing_taken
      takes_in_callee (own_functions m name) = nothing_taken
      takes_in_callee (object_functions m e name) = takes e
      takes_in_callee (no_function e) = nothing_taken

    abbrev pub holds_as_value : Answer Bool → Evaluated
    holds_as_value a = a >>= λ holds. valued (bool_val holds)

    abbrev mutual
      -- the value, operands first, an assignment's right operand before its left
      pub evaluated : Expression → Evaluated
      evaluated (literal m s n) = valued (Number s n)
      evaluated (local_name m k) = variable_value m.at (option_flatten (slice_get env.variables k))
      evaluated (position_name m i) = term_value (argument_of env.arguments i)
      evaluated (field_name m k d) = meaningless
      evaluated (constant_name m d) = constant_value env.arguments m.at d >>= valued
      evaluated (functions_name m name visible) = meaningless
      evaluated (other_name m d) = meaningless
      evaluated (parentheses m e) = evaluated e
      evaluated (unary m w e) = unary_evaluated m.at w (evaluated e)
      evaluated (binary m w e f) = binary_evaluated m.at w (λ _. evaluated e) (λ _. evaluated f)
      evaluated (conditional m c e f) = type_expression u b env (conditional m c e f) >>= λ x. evaluated_in x.of (by_truth (evaluated c) (λ _. evaluated e) (λ _. evaluated f))
      evaluated (dot m e name) = with_value (evaluated e) (λ v. type_expression u b env e >>= λ x. field_value env m.at x name v)
      evaluated (scope m t names name) = substitute_type u b env t >>= λ s. scope_value m.at (type_place t) s names name >>= valued
      evaluated (call m f xs) = hard kind.Unsupported m.at
      evaluated (list m t xs) = substitute_type u b env t >>= λ s. evaluated_all xs >>= λ vs. listed m.at s vs
      evaluated (cast m t e) = substitute_type u b env t >>= λ s. evaluated_in (without_ref s) (evaluated e)
      evaluated (is_same m t v) = do
        s ← substitute_type u b env t
        r ← substitute_type u b env v
        valued (bool_val (same_term s r))
      evaluated (out m e) = meaningless
      evaluated (concept_id m d xs) = holds_as_value (concept_holds env (concept_id m d xs))
      evaluated (requires m ps rs) = holds_as_value (requirements_hold env (requires m ps rs))
      evaluated (requires_with m xs) = holds_as_value (requirements_hold env (requires_with m xs))

      pub evaluated_all : Expressions → Answer (List (Option Val))
      evaluated_all no_expression = given []
      evaluated_all (and_expression e rest) = do
        v ← evaluated e
        vs ← evaluated_all rest
        given (v ∷ vs)

    -- the value of a constant expression
    abbrev pub constant_of_expression : Expression → Answer Val
    constant_of_expression e = do
      x ← type_expression u b env e
      must (not (is_void x.of)) (soft kind.NotConstant (place_of e))
      takes e
      v ← evaluated e
      present v (soft kind.NotConstant (place_of e))
