-- What plain functions do on the machine of objects. Operands and arguments go from left to right, the right operand of an
-- assignment first.
use Rattle.std.specs.Prelude.{ℕ, zero, suc, Bool, true, false, ◌&&◌, List, [], ◌∷◌, ◌++◌, map, Option, Some, None, slice_get, option_map}
use Rattle.cx_machine.specs.Values.{Val, Number, Struct, vals, unary_value, binary_value, compared_value, updated_value, compound_value, converted_value}
use Rattle.cx_machine.specs.Machine.{OfGlobal, Place, Answer, At, Of, Nothing, Outcome, Running, Run, bind, give, undefined, given, step, print_value, make, whole, closing, read, write, load, place_of, field_of, when, Env, bound_to}
use Rattle.cx_plain_language.specs.declared.types.Passing.{Passing}
use Rattle.cx_plain_language.specs.declared.types.Passing.TheVariants as passing
use Rattle.cx_plain_language.specs.Tree.{DeclaredTree, ReturnsTree, NoResult, Result, ExprTree, ConstantTree, LocalTree, GlobalTree, FieldTree, CallTree, PrintTree, StructTree, ConvertTree, DiscardTree, TemporaryTree, UnaryTree, PrefixTree, PostfixTree, BinaryTree, CompareTree, AndTree, OrTree, ChoiceTree, AssignTree, CompoundTree, ExprTrees, no_expr, and_expr, StmtTree, VariableTree, ExpressionTree, IfTree, IfElseTree, LoopTree, BlockTree, BreakTree, ContinueTree, ReturnTree, StmtTrees, no_stmt, and_stmt, LiteralTree, NumberLiteral, StructLiteral, LiteralTrees, no_literal, and_literal, FnTree, Function, UnitTree}

-- ---- what a body asks

-- Of each function that is called: how its parameters are passed, whether its result is a reference, and what a call does
-- with its arguments. Of each global its number, and the values of all globals.
pub record Known (C G : Type 0) : Type 0 where
  pub takes : C → List Passing
  pub refers : C → Bool
  pub call : C → List Answer → Run Answer
  pub number : G → ℕ
  pub globals : List Val

abbrev pub is_reference : Passing → Bool
is_reference passing.Value = false
is_reference passing.Reference = true
is_reference passing.ConstReference = true

-- whether an expression is a place ([basic.lval])
abbrev pub is_place : {C S G : Type 0} → Known C G → ExprTree C S G → Bool
is_place k (ConstantTree t z) = false
is_place k (LocalTree n) = true
is_place k (GlobalTree g) = true
is_place k (FieldTree object of n) = is_place k object
is_place k (CallTree c arguments) = k.refers c
is_place k (PrintTree x) = false
is_place k (StructTree of fields) = false
is_place k (ConvertTree to x) = false
is_place k (DiscardTree x) = false
is_place k (TemporaryTree x) = true
is_place k (UnaryTree operator x) = false
is_place k (PrefixTree operator x) = true
is_place k (PostfixTree operator x) = false
is_place k (BinaryTree operator x y) = false
is_place k (CompareTree operator x y) = false
is_place k (AndTree x y) = false
is_place k (OrTree x y) = false
is_place k (ChoiceTree c x y) = is_place k x && is_place k y
is_place k (AssignTree x y) = true
is_place k (CompoundTree operator x y) = true

-- ---- expressions

abbrev pub of_value : Option Val → Run Answer
of_value v = given (option_map Of v)

-- a place that is wanted as a value is read at once; what is void is nothing
abbrev pub valued : List Val → Answer → Run Answer
valued globals (At place) = bind (read globals place) (λ v. give (Of v))
valued globals (Of v) = give (Of v)
valued globals Nothing = give Nothing

-- what stands on one side of a choice: a place stays one where both sides are places
abbrev pub side : List Val → Bool → Answer → Run Answer
side globals true a = give a
side globals false a = valued globals a

-- how an argument is passed: a reference is bound to a place, a value is read
abbrev pub passed : List Val → Bool → Answer → Run Answer
passed globals true a = bind (place_of a) (λ p. give (At p))
passed globals false a = bind (load globals a) (λ v. give (Of v))

-- what stands at a place is replaced by what is made of it; both are given
abbrev pub replaced : List Val → (Val → Option Val) → Place → Run Val
replaced globals new place = bind (read globals place) (λ old. bind (given (new old)) (λ v. bind (write place v) (λ u. give old)))

abbrev mutual
  pub run_expr : {C S G : Type 0} → Known C G → Env → ExprTree C S G → Run Answer
  run_expr k env (ConstantTree t z) = give (Of (Number t z))
  run_expr k env (LocalTree n) = given (option_map At (bound_to n env))
  run_expr k env (GlobalTree g) = give (At (record { root = OfGlobal (k.number g); path = [] }))
  run_expr k env (FieldTree object of n) = bind (run_expr k env object) (field_of n)
  run_expr k env (CallTree c arguments) = bind (run_arguments k env (k.takes c) arguments) (k.call c)
  run_expr k env (PrintTree x) = bind (bind (run_expr k env x) (load k.globals)) (λ v. bind (print_value v) (λ u. give Nothing))
  run_expr k env (StructTree of fields) = bind (run_values k env fields) (λ vs. give (Of (Struct (vals vs))))
  run_expr k env (ConvertTree to x) = bind (bind (run_expr k env x) (load k.globals)) (λ v. of_value (converted_value to v))
  run_expr k env (DiscardTree x) = bind (run_expr k env x) (λ a. give Nothing)
  run_expr k env (TemporaryTree x) = bind (bind (run_expr k env x) (load k.globals)) (λ v. bind (make v) (λ n. give (At (whole n))))
  run_expr k env (UnaryTree operator x) = bind (bind (run_expr k env x) (load k.globals)) (λ v. of_value (unary_value operator v))
  run_expr k env (PrefixTree operator x) = bind (bind (run_expr k env x) place_of) (λ p. bind (replaced k.globals (updated_value operator) p) (λ old. give (At p)))
  run_expr k env (PostfixTree operator x) = bind (bind (run_expr k env x) place_of) (λ p. bind (replaced k.globals (updated_value operator) p) (λ old. give (Of old)))
  run_expr k env (BinaryTree operator x y) =
      bind (bind (run_expr k env x) (load k.globals)) (λ v. bind (bind (run_expr k env y) (load k.globals)) (λ w. of_value (binary_value operator v w)))
  run_expr k env (CompareTree operator x y) =
      bind (bind (run_expr k env x) (load k.globals)) (λ v. bind (bind (run_expr k env y) (load k.globals)) (λ w. of_value (compared_value operator v w)))
  run_expr k env (AndTree x y) = bind (bind (run_expr k env x) (load k.globals)) (λ v. when v (bind (run_expr k env y) (valued k.globals)) (give (Of v)))
  run_expr k env (OrTree x y) = bind (bind (run_expr k env x) (load k.globals)) (λ v. when v (give (Of v)) (bind (run_expr k env y) (valued k.globals)))
  run_expr k env (ChoiceTree c x y) =
      bind (bind (run_expr k env c) (load k.globals)) (λ v. when v (bind (run_expr k env x) (side k.globals (is_place k x && is_place k y))) (bind (run_expr k env y) (side k.globals (is_place k x && is_place k y))))
  run_expr k env (AssignTree x y) = bind (bind (run_expr k env y) (load k.globals)) (λ v. bind (bind (run_expr k env x) place_of) (λ p. bind (write p v) (λ u. give (At p))))
  run_expr k env (CompoundTree operator x y) =
      bind (bind (run_expr k env y) (load k.globals)) (λ w. bind (bind (run_expr k env x) place_of) (λ p. bind (replaced k.globals (λ v. compound_value operator v w) p) (λ old. give (At p))))

  -- the values of expressions, in order
  pub run_values : {C S G : Type 0} → Known C G → Env → ExprTrees C S G → Run (List Val)
  run_values k env no_expr = give []
  run_values k env (and_expr x xs) = bind (bind (run_expr k env x) (load k.globals)) (λ v. bind (run_values k env xs) (λ vs. give (v ∷ vs)))

  -- the arguments of a call, in order; their number is that of the parameters
  pub run_arguments : {C S G : Type 0} → Known C G → Env → List Passing → ExprTrees C S G → Run (List Answer)
  run_arguments k env [] no_expr = give []
  run_arguments k env [] (and_expr x xs) = undefined
  run_arguments k env (how ∷ hows) no_expr = undefined
  run_arguments k env (how ∷ hows) (and_expr x xs) =
      bind (bind (run_expr k env x) (passed k.globals (is_reference how))) (λ a. bind (run_arguments k env hows xs) (λ args. give (a ∷ args)))

-- ---- statements

-- How a statement ends: what comes next is run in this environment; the innermost loop ends, or its turn does; or the
-- function returns this.
pub data Flow : Type 0 where
  Next : Env → Flow
  Broke : Flow
  Continued : Flow
  Returned : Answer → Flow

abbrev pub then_next : Flow → (Env → Run Flow) → Run Flow
then_next (Next env) next = next env
then_next Broke next = give Broke
then_next Continued next = give Continued
then_next (Returned a) next = give (Returned a)

-- the names of a block are gone behind it
abbrev pub left_block : Env → Flow → Flow
left_block env (Next inner) = Next env
left_block env Broke = Broke
left_block env Continued = Continued
left_block env (Returned a) = Returned a

abbrev pub bound : ℕ → Place → Env → Env
bound n place env = record { local = n; place = place } ∷ env

-- A variable of a value: a new object, made behind the end of the initialiser's temporaries.
abbrev pub variable : ℕ → Env → Run Val → Run Flow
variable n env value = bind (closing value) (λ v. bind (make v) (λ object. give (Next (bound n (whole object) env))))

-- A reference is bound to a place.
abbrev pub reference : ℕ → Env → Run Answer → Run Flow
reference n env place = bind (closing (bind place place_of)) (λ p. give (Next (bound n p env)))

-- what a temporary has as its value; nothing of what is none
abbrev pub temporary_of : {C S G : Type 0} → ExprTree C S G → Option (ExprTree C S G)
temporary_of (ConstantTree t z) = None
temporary_of (LocalTree n) = None
temporary_of (GlobalTree g) = None
temporary_of (FieldTree object of n) = None
temporary_of (CallTree c arguments) = None
temporary_of (PrintTree x) = None
temporary_of (StructTree of fields) = None
temporary_of (ConvertTree to x) = None
temporary_of (DiscardTree x) = None
temporary_of (TemporaryTree x) = Some x
temporary_of (UnaryTree operator x) = None
temporary_of (PrefixTree operator x) = None
temporary_of (PostfixTree operator x) = None
temporary_of (BinaryTree operator x y) = None
temporary_of (CompareTree operator x y) = None
temporary_of (AndTree x y) = None
temporary_of (OrTree x y) = None
temporary_of (ChoiceTree c x y) = None
temporary_of (AssignTree x y) = None
temporary_of (CompoundTree operator x y) = None

-- The declaration of a local. Where the whole initialiser of a reference is a temporary, that lives as long as the
-- reference ([class.temporary]).
abbrev pub initialised : {C S G : Type 0} → Known C G → ℕ → Env → ExprTree C S G → Option (ExprTree C S G) → Passing → Run Flow
initialised k n env x whole_of passing.Value = variable n env (bind (run_expr k env x) (load k.globals))
initialised k n env x None passing.Reference = reference n env (run_expr k env x)
initialised k n env x (Some v) passing.Reference = variable n env (bind (run_expr k env v) (load k.globals))
initialised k n env x None passing.ConstReference = reference n env (run_expr k env x)
initialised k n env x (Some v) passing.ConstReference = variable n env (bind (run_expr k env v) (load k.globals))

abbrev pub run_variable : {C S G : Type 0} → Known C G → ℕ → Env → ExprTree C S G → Option (DeclaredTree S) → Run Flow
run_variable k n env x None = undefined
run_variable k n env x (Some d) = initialised k n env x (temporary_of x) d.passing

-- A loop makes at most so many turns. A turn takes a step, behind its true condition.
abbrev pub after_turn : Env → Run (Unit {0}) → Run Flow → Flow → Run Flow
after_turn env next again (Next inner) = bind next (λ u. again)
after_turn env next again Continued = bind next (λ u. again)
after_turn env next again Broke = give (Next env)
after_turn env next again (Returned a) = give (Returned a)

abbrev pub turns : ℕ → Env → Run Val → Run Flow → Run (Unit {0}) → Run Flow
turns zero env test body next s = Running s.printed
turns (suc n) env test body next s = bind test (λ v. when v (bind step (λ u. bind body (after_turn env next (turns n env test body next)))) (give (Next env))) s

-- Each turn takes a step, so more turns than there are steps left are never begun.
abbrev pub loop : Env → Run Val → Run Flow → Run (Unit {0}) → Run Flow
loop env test body next s = turns (suc s.left) env test body next s

abbrev pub thrown_away : {C S G : Type 0} → Known C G → Env → Option (ExprTree C S G) → Run (Unit {0})
thrown_away k env None = give tt
thrown_away k env (Some x) = bind (closing (run_expr k env x)) (λ a. give tt)

abbrev pub condition : {C S G : Type 0} → Known C G → Env → ExprTree C S G → Run Val
condition k env x = closing (bind (run_expr k env x) (load k.globals))

-- what a function gives: a reference is a place, a value is read
abbrev pub result : {S : Type 0} → List Val → ReturnsTree S → Answer → Run Answer
result globals NoResult a = give Nothing
result globals (Result type how) a = passed globals (is_reference how) a

abbrev pub run_return : {C S G : Type 0} → Known C G → Env → ReturnsTree S → Option (ExprTree C S G) → Run Flow
run_return k env returns None = give (Returned Nothing)
run_return k env returns (Some x) = bind (closing (bind (run_expr k env x) (result k.globals returns))) (λ a. give (Returned a))

-- A statement of a function whose result and whose parameters and locals are these.
abbrev mutual
  pub run_stmt : {C L S G : Type 0} → Known C G → ReturnsTree S → List (DeclaredTree S) → Env → StmtTree C L S G → Run Flow
  run_stmt k returns locals env (VariableTree n x) = run_variable k n env x (slice_get locals n)
  run_stmt k returns locals env (ExpressionTree x) = bind (closing (run_expr k env x)) (λ a. give (Next env))
  run_stmt k returns locals env (IfTree c body) = bind (condition k env c) (λ v. when v (bind (closing (run_stmts k returns locals env body)) (λ f. give (left_block env f))) (give (Next env)))
  run_stmt k returns locals env (IfElseTree c first second) =
      bind (condition k env c) (λ v. when v (bind (closing (run_stmts k returns locals env first)) (λ f. give (left_block env f))) (bind (closing (run_stmts k returns locals env second)) (λ f. give (left_block env f))))
  run_stmt k returns locals env (LoopTree label c next body) = loop env (condition k env c) (closing (run_stmts k returns locals env body)) (thrown_away k env next)
  run_stmt k returns locals env (BlockTree body) = bind (closing (run_stmts k returns locals env body)) (λ f. give (left_block env f))
  run_stmt k returns locals env BreakTree = give Broke
  run_stmt k returns locals env ContinueTree = give Continued
  run_stmt k returns locals env (ReturnTree x) = run_return k env returns x

  pub run_stmts : {C L S G : Type 0} → Known C G → ReturnsTree S → List (DeclaredTree S) → Env → StmtTrees C L S G → Run Flow
  run_stmts k returns locals env no_stmt = give (Next env)
  run_stmts k returns locals env (and_stmt s ss) = bind (run_stmt k returns locals env s) (λ f. then_next f (λ inner. run_stmts k returns locals inner ss))

-- ---- calls

-- The parameters of a call, numbered from n: an object for a value, and the place itself for a reference.
abbrev pub enter : ℕ → List Answer → Env → Run Env
enter n [] env = give env
enter n (At place ∷ args) env = enter (suc n) args (bound n place env)
enter n (Of v ∷ args) env = bind (make v) (λ object. enter (suc n) args (bound n (whole object) env))
enter n (Nothing ∷ args) env = undefined

-- Behind the last statement a void function returns; the end of another one is undefined ([stmt.return]).
abbrev pub at_end : {S : Type 0} → ReturnsTree S → Run Answer
at_end NoResult = give Nothing
at_end (Result type how) = undefined

abbrev pub returned : {S : Type 0} → ReturnsTree S → Flow → Run Answer
returned returns (Next env) = at_end returns
returned returns Broke = at_end returns
returned returns Continued = at_end returns
returned returns (Returned a) = give a

abbrev pub run_body : {C L S G : Type 0} → Known C G → FnTree C L S G → List Answer → Run Answer
run_body k f args = closing (bind (enter 0 args []) (λ env. bind (run_stmts k f.returns (f.parameters ++ f.locals) env f.body) (returned f.returns)))

-- ---- units

abbrev mutual
  pub literal_value : {S : Type 0} → LiteralTree S → Val
  literal_value (NumberLiteral t z) = Number t z
  literal_value (StructLiteral of values) = Struct (vals (literal_values values))

  pub literal_values : {S : Type 0} → LiteralTrees S → List Val
  literal_values no_literal = []
  literal_values (and_literal l ls) = literal_value l ∷ literal_values ls

abbrev pub passings : Option Function → List Passing
passings None = []
passings (Some f) = map (λ d. d.passing) f.parameters

abbrev pub gives_reference : {S : Type 0} → ReturnsTree S → Bool
gives_reference NoResult = false
gives_reference (Result type how) = is_reference how

abbrev pub refers_in : Option Function → Bool
refers_in None = false
refers_in (Some f) = gives_reference f.returns

abbrev pub known : UnitTree → (ℕ → List Answer → Run Answer) → Known ℕ ℕ
known u call = record {
  takes = λ n. passings (slice_get u.functions n);
  refers = λ n. refers_in (slice_get u.functions n);
  call = call;
  number = λ n. n;
  globals = map (λ g. literal_value g.value) u.globals;
}

abbrev pub run_function : UnitTree → (ℕ → List Answer → Run Answer) → Option Function → List Answer → Run Answer
run_function u call None args = undefined
run_function u call (Some f) args = run_body (known u call) f args

-- Calls of which at most so many are open at once. A call takes a step, behind its arguments.
unfoldable pub run_call : ℕ → UnitTree → ℕ → List Answer → Run Answer
run_call zero u n args s = Running s.printed
run_call (suc depth) u n args s = bind step (λ t. run_function u (run_call depth u) (slice_get u.functions n) args) s

-- what is given at the end of a run: a place has been read once
abbrev pub finished : List Val → Answer → Run (Option Val)
finished globals (At place) = bind (read globals place) (λ v. give (Some v))
finished globals (Of v) = give (Some v)
finished globals Nothing = give None

-- The function of a number, run on values with a number of steps. Each call that is open has taken a step, so more are never
-- open.
unfoldable pub run : UnitTree → ℕ → List Val → ℕ → Outcome (Option Val)
run u n values steps =
    bind (run_function u (run_call steps u) (slice_get u.functions n) (map Of values)) (finished (map (λ g. literal_value g.value) u.globals))
    (record { store = []; printed = []; left = steps })
