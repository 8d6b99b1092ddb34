-- Steps never rise in a run, and more calls that may be open change nothing where there are as many as there are steps.
use Rattle.std.proofs.Common.{◌≡◌, ℕ, zero, suc, ◌≤◌, ◌<◌, Bool, true, false, List, [], ◌∷◌, ◌++◌, length, Option, Some, None, refl, ap, ◌∙◌, subst, arith}
use Rattle.std.specs.Prelude.{slice_get, option_map, option_and_then}
use Rattle.cx_machine.specs.Values.{Val, Number, Struct, field, part_at, is_true}
use Rattle.cx_machine.specs.Machine.{State, Object, Place, written, end_from, root_value, Answer, At, Of, Nothing, Outcome, Done, Undefined, Running, Run, after, bind, give, given, step_of, print_value, make, whole, closing, read, write, load, place_of, field_of, chosen, when, Env, bound_to}
use Rattle.cx_plain_language.specs.declared.types.Passing.{Passing}
use Rattle.cx_plain_language.specs.declared.types.Passing.TheVariants as passing
use Rattle.cx_plain_language.specs.Tree.{DeclaredTree, ReturnsTree, NoResult, Result, ExprTree, ConstantTree, LocalTree, GlobalTree, FieldTree, CallTree, PrintTree, StructTree, ConvertTree, DiscardTree, TemporaryTree, UnaryTree, PrefixTree, PostfixTree, BinaryTree, CompareTree, AndTree, OrTree, ChoiceTree, AssignTree, CompoundTree, ExprTrees, no_expr, and_expr, StmtTree, VariableTree, ExpressionTree, IfTree, IfElseTree, LoopTree, BlockTree, BreakTree, ContinueTree, ReturnTree, StmtTrees, no_stmt, and_stmt, Function, UnitTree}
use Rattle.cx_plain_language.specs.StepsLeft.{Within, AddsNoSteps}
use Rattle.cx_plain_language.specs.Meaning.{is_reference, is_place, of_value, valued, side, passed, replaced, run_expr, run_values, run_arguments, Flow, Next, Broke, Continued, Returned, then_next, left_block, bound, variable, reference, temporary_of, initialised, run_variable, after_turn, turns, loop, thrown_away, condition, result, run_return, run_stmt, run_stmts, enter, at_end, returned, known, run_function, run_call}

-- Two runs are one from states that have at most m steps left, and no steps are added.
abbrev Alike : {A : Type 0} → ℕ → Run A → Run A → Type 0
Alike m r q = (s : State) → s.left ≤ m → (r s ≡ q s) × Within s.left (r s)

abbrev Keeps : {A : Type 0} → Run A → Type 0
Keeps r = AddsNoSteps r

itself : {A : Type 0} (m : ℕ) (r : Run A) → Keeps r → Alike m r r
itself m r keeps = λ s le. (refl, keeps s)

pub weaker : {A : Type 0} (n k : ℕ) (o : Outcome A) → n ≤ k → Within n o → Within k o
weaker n k (Done x s) le h = omega (arith, le, h)
weaker n k (Undefined printed) le h = tt
weaker n k (Running printed) le h = tt

after_alike : {A B : Type 0} (m n : ℕ) (o : Outcome A) (f g : A → Run B) → n ≤ m → Within n o → ((x : A) → Alike m (f x) (g x)) → (after o f ≡ after o g) × Within n (after o f)
after_alike m n (Done x s) f g le h next =
    let below : s.left ≤ m = omega (arith, le, h) in
    let k = next x s below in
    (k.0, weaker s.left n (f x s) h k.1)
after_alike m n (Undefined printed) f g le h next = (refl, tt)
after_alike m n (Running printed) f g le h next = (refl, tt)

bind_alike : {A B : Type 0} (m : ℕ) (r q : Run A) (f g : A → Run B) → Alike m r q → ((x : A) → Alike m (f x) (g x)) → Alike m (bind r f) (bind q g)
bind_alike m r q f g first next = λ s le.
    let h = first s le in
    let k = after_alike m s.left (r s) f g le h.1 next in
    (k.0 ∙ ap (λ o. after o g) h.0, k.1)

-- ---- what the machine does

reflexive : (n : ℕ) → n ≤ n
reflexive n = omega arith

give_keeps : {A : Type 0} (x : A) → Keeps (give x)
give_keeps x = λ s. reflexive s.left

given_keeps : {A : Type 0} (o : Option A) → Keeps (given o)
given_keeps None = λ s. tt
given_keeps (Some x) = λ s. reflexive s.left

print_keeps : (v : Val) → Keeps (print_value v)
print_keeps (Number t z) = λ s. reflexive s.left
print_keeps (Struct vs) = λ s. tt

make_keeps : (v : Val) → Keeps (make v)
make_keeps v = λ s. reflexive s.left

read_keeps : (globals : List Val) (p : Place) → Keeps (read globals p)
read_keeps globals p = λ s. given_keeps (option_and_then (part_at p.path) (root_value globals s.store p.root)) s

put_keeps : (s : State) (o : Option (List Object)) → Within {A = Unit {0}} s.left (bind (given o) (λ store s'. Done tt (record s' { store = store })) s)
put_keeps s None = tt
put_keeps s (Some store) = reflexive s.left

write_keeps : (p : Place) (v : Val) → Keeps (write p v)
write_keeps p v = λ s. put_keeps s (written s.store p.root p.path v)

load_keeps : (globals : List Val) (a : Answer) → Keeps (load globals a)
load_keeps globals (At p) = read_keeps globals p
load_keeps globals (Of v) = λ s. reflexive s.left
load_keeps globals Nothing = λ s. tt

place_keeps : (a : Answer) → Keeps (place_of a)
place_keeps (At p) = λ s. reflexive s.left
place_keeps (Of v) = λ s. tt
place_keeps Nothing = λ s. tt

field_keeps : (n : ℕ) (a : Answer) → Keeps (field_of n a)
field_keeps n (At p) = λ s. reflexive s.left
field_keeps n (Of v) = given_keeps (option_map Of (field n v))
field_keeps n Nothing = λ s. tt

closing_alike : {A : Type 0} (m : ℕ) (r q : Run A) → Alike m r q → Alike m (closing r) (closing q)
closing_alike m r q both = λ s le.
    let h = both s le in
    let k = after_alike m s.left (r s) (λ x s'. Done x (end_from (length s.store) s')) (λ x s'. Done x (end_from (length s.store) s')) le h.1 (λ x t below. (refl, reflexive t.left)) in
    (ap (λ o. after o (λ x s'. Done x (end_from (length s.store) s'))) h.0, k.1)

chosen_alike : {A : Type 0} (m : ℕ) (b : Bool) (r q r' q' : Run A) → Alike m r r' → Alike m q q' → Alike m (chosen b r q) (chosen b r' q')
chosen_alike m true r q r' q' first second = first
chosen_alike m false r q r' q' first second = second

when_alike : {A : Type 0} (m : ℕ) (v : Val) (r q r' q' : Run A) → Alike m r r' → Alike m q q' → Alike m (when v r q) (when v r' q')
when_alike m v r q r' q' first second = bind_alike m _ _ _ _ (itself m _ (given_keeps (is_true v))) (λ b. chosen_alike m b r q r' q' first second)

valued_keeps : (globals : List Val) (a : Answer) → Keeps (valued globals a)
valued_keeps globals (At p) = λ s. (bind_alike s.left _ _ _ _ (itself s.left _ (read_keeps globals p)) (λ v. itself s.left _ (λ s'. reflexive s'.left)) s (reflexive s.left)).1
valued_keeps globals (Of v) = λ s. reflexive s.left
valued_keeps globals Nothing = λ s. reflexive s.left

side_keeps : (globals : List Val) (b : Bool) (a : Answer) → Keeps (side globals b a)
side_keeps globals true a = λ s. reflexive s.left
side_keeps globals false a = valued_keeps globals a

-- a run of which each part keeps
bind_keeps : {A B : Type 0} (r : Run A) (f : A → Run B) → Keeps r → ((x : A) → Keeps (f x)) → Keeps (bind r f)
bind_keeps r f first next = λ s. (bind_alike s.left r r f f (itself s.left r first) (λ x. itself s.left (f x) (next x)) s (reflexive s.left)).1

passed_keeps : (globals : List Val) (b : Bool) (a : Answer) → Keeps (passed globals b a)
passed_keeps globals true a = bind_keeps _ _ (place_keeps a) (λ p. (λ s'. reflexive s'.left))
passed_keeps globals false a = bind_keeps _ _ (load_keeps globals a) (λ v. (λ s'. reflexive s'.left))

replaced_keeps : (globals : List Val) (new : Val → Option Val) (p : Place) → Keeps (replaced globals new p)
replaced_keeps globals new p = bind_keeps _ _ (read_keeps globals p) (λ old. bind_keeps _ _ (given_keeps (new old)) (λ v. bind_keeps _ _ (write_keeps p v) (λ u. (λ s'. reflexive s'.left))))

-- ---- expressions

abbrev Calls : Type 0
Calls = ℕ → List Answer → Run Answer

abbrev CallsAlike : ℕ → Calls → Calls → Type 0
CallsAlike m c d = (n : ℕ) (args : List Answer) → Alike m (c n args) (d n args)

module _ (m : ℕ) (u : UnitTree) (c d : Calls) (calls : CallsAlike m c d) where
  then_alike : {A B : Type 0} (r q : Run A) (f : A → Run B) → Alike m r q → ((x : A) → Keeps (f x)) → Alike m (bind r f) (bind q f)
  then_alike r q f first next = bind_alike m r q f f first (λ x. itself m (f x) (next x))

  load_alike : (r q : Run Answer) (globals : List Val) → Alike m r q → Alike m (bind r (load globals)) (bind q (load globals))
  load_alike r q globals first = then_alike r q (load globals) first (load_keeps globals)

  at_alike : (r q : Run Answer) → Alike m r q → Alike m (bind r place_of) (bind q place_of)
  at_alike r q first = then_alike r q place_of first place_keeps

  same_place : (e : ExprTree ℕ ℕ ℕ) → is_place (known u c) e ≡ is_place (known u d) e
  same_place (ConstantTree t z) = refl
  same_place (LocalTree n) = refl
  same_place (GlobalTree g) = refl
  same_place (FieldTree object of n) = same_place object
  same_place (CallTree f arguments) = refl
  same_place (PrintTree x) = refl
  same_place (StructTree of fields) = refl
  same_place (ConvertTree to x) = refl
  same_place (DiscardTree x) = refl
  same_place (TemporaryTree x) = refl
  same_place (UnaryTree operator x) = refl
  same_place (PrefixTree operator x) = refl
  same_place (PostfixTree operator x) = refl
  same_place (BinaryTree operator x y) = refl
  same_place (CompareTree operator x y) = refl
  same_place (AndTree x y) = refl
  same_place (OrTree x y) = refl
  same_place (ChoiceTree c' x y) = rw (same_place x, same_place y) refl
  same_place (AssignTree x y) = refl
  same_place (CompoundTree operator x y) = refl

  sided : (gs : List Val) (p q : Bool) → p ≡ q → (r r' : Run Answer) → Alike m r r' → Alike m (bind r (side gs p)) (bind r' (side gs q))
  sided gs p q e r r' first = subst (λ b. Alike m (bind r (side gs p)) (bind r' (side gs b))) e (then_alike r r' (side gs p) first (side_keeps gs p))

  value_keeps : (o : Option Val) → Keeps (of_value o)
  value_keeps o = given_keeps (option_map Of o)

  mutual
    expr_alike : (env : Env) (e : ExprTree ℕ ℕ ℕ) → Alike m (run_expr (known u c) env e) (run_expr (known u d) env e)
    expr_alike env (ConstantTree t z) = itself m _ (λ s'. reflexive s'.left)
    expr_alike env (LocalTree n) = itself m _ (given_keeps (option_map At (bound_to n env)))
    expr_alike env (GlobalTree g) = itself m _ (λ s'. reflexive s'.left)
    expr_alike env (FieldTree object of n) = then_alike _ _ _ (expr_alike env object) (field_keeps n)
    expr_alike env (CallTree f arguments) = bind_alike m _ _ _ _ (arguments_alike env arguments ((known u c).takes f)) (calls f)
    expr_alike env (PrintTree x) = then_alike _ _ _ (load_alike _ _ _ (expr_alike env x)) (λ v. bind_keeps _ _ (print_keeps v) (λ t. (λ s'. reflexive s'.left)))
    expr_alike env (StructTree of fields) = then_alike _ _ _ (values_alike env fields) (λ vs. (λ s'. reflexive s'.left))
    expr_alike env (ConvertTree to x) = then_alike _ _ _ (load_alike _ _ _ (expr_alike env x)) (λ v. value_keeps _)
    expr_alike env (DiscardTree x) = then_alike _ _ _ (expr_alike env x) (λ a. (λ s'. reflexive s'.left))
    expr_alike env (TemporaryTree x) = then_alike _ _ _ (load_alike _ _ _ (expr_alike env x)) (λ v s. reflexive s.left)
    expr_alike env (UnaryTree operator x) = then_alike _ _ _ (load_alike _ _ _ (expr_alike env x)) (λ v. value_keeps _)
    expr_alike env (PrefixTree operator x) = then_alike _ _ _ (at_alike _ _ (expr_alike env x)) (λ p. bind_keeps _ _ (replaced_keeps _ _ p) (λ old. (λ s'. reflexive s'.left)))
    expr_alike env (PostfixTree operator x) = then_alike _ _ _ (at_alike _ _ (expr_alike env x)) (λ p. bind_keeps _ _ (replaced_keeps _ _ p) (λ old. (λ s'. reflexive s'.left)))
    expr_alike env (BinaryTree operator x y) =
        bind_alike m _ _ _ _ (load_alike _ _ _ (expr_alike env x)) (λ v. then_alike _ _ _ (load_alike _ _ _ (expr_alike env y)) (λ w. value_keeps _))
    expr_alike env (CompareTree operator x y) =
        bind_alike m _ _ _ _ (load_alike _ _ _ (expr_alike env x)) (λ v. then_alike _ _ _ (load_alike _ _ _ (expr_alike env y)) (λ w. value_keeps _))
    expr_alike env (AndTree x y) =
        bind_alike m _ _ _ _ (load_alike _ _ _ (expr_alike env x)) (λ v. when_alike m v _ _ _ _ (then_alike _ _ _ (expr_alike env y) (valued_keeps _)) (itself m _ (λ s'. reflexive s'.left)))
    expr_alike env (OrTree x y) =
        bind_alike m _ _ _ _ (load_alike _ _ _ (expr_alike env x)) (λ v. when_alike m v _ _ _ _ (itself m _ (λ s'. reflexive s'.left)) (then_alike _ _ _ (expr_alike env y) (valued_keeps _)))
    expr_alike env (ChoiceTree b x y) =
        bind_alike m _ _ _ _ (load_alike _ _ _ (expr_alike env b)) (λ v. when_alike m v _ _ _ _
        (sided _ _ _ (same_place (ChoiceTree b x y)) _ _ (expr_alike env x)) (sided _ _ _ (same_place (ChoiceTree b x y)) _ _ (expr_alike env y)))
    expr_alike env (AssignTree x y) =
        bind_alike m _ _ _ _ (load_alike _ _ _ (expr_alike env y)) (λ v. then_alike _ _ _ (at_alike _ _ (expr_alike env x)) (λ p. bind_keeps _ _ (write_keeps p v) (λ t. (λ s'. reflexive s'.left))))
    expr_alike env (CompoundTree operator x y) =
        bind_alike m _ _ _ _ (load_alike _ _ _ (expr_alike env y)) (λ w. then_alike _ _ _ (at_alike _ _ (expr_alike env x)) (λ p. bind_keeps _ _ (replaced_keeps _ _ p) (λ old. (λ s'. reflexive s'.left))))

    values_alike : (env : Env) (es : ExprTrees ℕ ℕ ℕ) → Alike m (run_values (known u c) env es) (run_values (known u d) env es)
    values_alike env no_expr = itself m _ (λ s'. reflexive s'.left)
    values_alike env (and_expr x xs) = bind_alike m _ _ _ _ (load_alike _ _ _ (expr_alike env x)) (λ v. then_alike _ _ _ (values_alike env xs) (λ vs. (λ s'. reflexive s'.left)))

    arguments_alike : (env : Env) (es : ExprTrees ℕ ℕ ℕ) (hows : List Passing) → Alike m (run_arguments (known u c) env hows es) (run_arguments (known u d) env hows es)
    arguments_alike env no_expr [] = itself m _ (λ s'. reflexive s'.left)
    arguments_alike env no_expr (how ∷ hows) = itself m _ (λ s. tt)
    arguments_alike env (and_expr x xs) [] = itself m _ (λ s. tt)
    arguments_alike env (and_expr x xs) (how ∷ hows) =
        bind_alike m _ _ _ _ (then_alike _ _ _ (expr_alike env x) (passed_keeps _ (is_reference how))) (λ a. then_alike _ _ _ (arguments_alike env xs hows) (λ args. (λ s'. reflexive s'.left)))

  -- ---- statements

  variable_alike : (n : ℕ) (env : Env) (r q : Run Val) → Alike m r q → Alike m (variable n env r) (variable n env q)
  variable_alike n env r q first = then_alike _ _ _ (closing_alike m r q first) (λ v s. reflexive s.left)

  reference_alike : (n : ℕ) (env : Env) (r q : Run Answer) → Alike m r q → Alike m (reference n env r) (reference n env q)
  reference_alike n env r q first = then_alike _ _ _ (closing_alike m _ _ (at_alike r q first)) (λ p s. reflexive s.left)

  initialised_alike : (n : ℕ) (env : Env) (x : ExprTree ℕ ℕ ℕ) (of : Option (ExprTree ℕ ℕ ℕ)) (how : Passing) → Alike m (initialised (known u c) n env x of how) (initialised (known u d) n env x of how)
  initialised_alike n env x of passing.Value = variable_alike n env _ _ (load_alike _ _ _ (expr_alike env x))
  initialised_alike n env x None passing.Reference = reference_alike n env _ _ (expr_alike env x)
  initialised_alike n env x (Some v) passing.Reference = variable_alike n env _ _ (load_alike _ _ _ (expr_alike env v))
  initialised_alike n env x None passing.ConstReference = reference_alike n env _ _ (expr_alike env x)
  initialised_alike n env x (Some v) passing.ConstReference = variable_alike n env _ _ (load_alike _ _ _ (expr_alike env v))

  declared_alike : (n : ℕ) (env : Env) (x : ExprTree ℕ ℕ ℕ) (o : Option (DeclaredTree ℕ)) → Alike m (run_variable (known u c) n env x o) (run_variable (known u d) n env x o)
  declared_alike n env x None = itself m _ (λ s. tt)
  declared_alike n env x (Some v) = initialised_alike n env x (temporary_of x) v.passing

  condition_alike : (env : Env) (x : ExprTree ℕ ℕ ℕ) → Alike m (condition (known u c) env x) (condition (known u d) env x)
  condition_alike env x = closing_alike m _ _ (load_alike _ _ _ (expr_alike env x))

  thrown_alike : (env : Env) (o : Option (ExprTree ℕ ℕ ℕ)) → Alike m (thrown_away (known u c) env o) (thrown_away (known u d) env o)
  thrown_alike env None = itself m _ (λ s. reflexive s.left)
  thrown_alike env (Some x) = then_alike _ _ _ (closing_alike m _ _ (expr_alike env x)) (λ a s. reflexive s.left)

  result_keeps : (gs : List Val) (returns : ReturnsTree ℕ) (a : Answer) → Keeps (result gs returns a)
  result_keeps gs NoResult a = λ s. reflexive s.left
  result_keeps gs (Result t how) a = passed_keeps gs (is_reference how) a

  return_alike : (env : Env) (returns : ReturnsTree ℕ) (o : Option (ExprTree ℕ ℕ ℕ)) → Alike m (run_return (known u c) env returns o) (run_return (known u d) env returns o)
  return_alike env returns None = itself m _ (λ s. reflexive s.left)
  return_alike env returns (Some x) = then_alike _ _ _ (closing_alike m _ _ (then_alike _ _ _ (expr_alike env x) (result_keeps _ returns))) (λ a s. reflexive s.left)

  turn_alike : (env : Env) (next next' : Run (Unit {0})) (again again' : Run Flow) → Alike m next next' → Alike m again again' → (f : Flow) → Alike m (after_turn env next again f) (after_turn env next' again' f)
  turn_alike env next next' again again' nexts agains (Next inner) = bind_alike m _ _ _ _ nexts (λ t. agains)
  turn_alike env next next' again again' nexts agains Continued = bind_alike m _ _ _ _ nexts (λ t. agains)
  turn_alike env next next' again again' nexts agains Broke = itself m _ (λ s. reflexive s.left)
  turn_alike env next next' again again' nexts agains (Returned a) = itself m _ (λ s. reflexive s.left)

  step_keeps : (l : ℕ) (s : State) → l ≤ s.left → Within s.left (step_of l s)
  step_keeps zero s le = tt
  step_keeps (suc l) s le = omega (arith, le)

  turns_alike : (n : ℕ) (env : Env) (test test' : Run Val) (body body' : Run Flow) (next next' : Run (Unit {0})) → Alike m test test' → Alike m body body' → Alike m next next'
      → Alike m (turns n env test body next) (turns n env test' body' next')
  turns_alike zero env test test' body body' next next' tests bodies nexts = λ s le. (refl, tt)
  turns_alike (suc n) env test test' body body' next next' tests bodies nexts =
      bind_alike m _ _ _ _ tests (λ v. when_alike m v _ _ _ _
      (bind_alike m _ _ _ _ (itself m _ (λ s. step_keeps s.left s (reflexive s.left)))
      (λ t. bind_alike m _ _ _ _ bodies (turn_alike env next next' _ _ nexts (turns_alike n env test test' body body' next next' tests bodies nexts))))
      (itself m _ (λ s. reflexive s.left)))

  loop_alike : (env : Env) (test test' : Run Val) (body body' : Run Flow) (next next' : Run (Unit {0})) → Alike m test test' → Alike m body body' → Alike m next next' → Alike m (loop env test body next) (loop env test' body' next')
  loop_alike env test test' body body' next next' tests bodies nexts = λ s le. turns_alike (suc s.left) env test test' body body' next next' tests bodies nexts s le

  flow_alike : (f : Flow) (next next' : Env → Run Flow) → ((env : Env) → Alike m (next env) (next' env)) → Alike m (then_next f next) (then_next f next')
  flow_alike (Next env) next next' nexts = nexts env
  flow_alike Broke next next' nexts = itself m _ (λ s. reflexive s.left)
  flow_alike Continued next next' nexts = itself m _ (λ s. reflexive s.left)
  flow_alike (Returned a) next next' nexts = itself m _ (λ s. reflexive s.left)

  block_alike : (env : Env) (r q : Run Flow) → Alike m r q → Alike m (bind (closing r) (λ f. give (left_block env f))) (bind (closing q) (λ f. give (left_block env f)))
  block_alike env r q first = then_alike _ _ _ (closing_alike m r q first) (λ f s. reflexive s.left)

  module _ (returns : ReturnsTree ℕ) (locals : List (DeclaredTree ℕ)) where
    mutual
      stmt_alike : (s : StmtTree ℕ (Unit {0}) ℕ ℕ) (env : Env) → Alike m (run_stmt (known u c) returns locals env s) (run_stmt (known u d) returns locals env s)
      stmt_alike (VariableTree n x) env = declared_alike n env x (slice_get locals n)
      stmt_alike (ExpressionTree x) env = then_alike _ _ _ (closing_alike m _ _ (expr_alike env x)) (λ a s. reflexive s.left)
      stmt_alike (IfTree b body) env = bind_alike m _ _ _ _ (condition_alike env b) (λ v. when_alike m v _ _ _ _ (block_alike env _ _ (stmts_alike body env)) (itself m _ (λ s. reflexive s.left)))
      stmt_alike (IfElseTree b first second) env = bind_alike m _ _ _ _ (condition_alike env b) (λ v. when_alike m v _ _ _ _ (block_alike env _ _ (stmts_alike first env)) (block_alike env _ _ (stmts_alike second env)))
      stmt_alike (LoopTree label b next body) env = loop_alike env _ _ _ _ _ _ (condition_alike env b) (closing_alike m _ _ (stmts_alike body env)) (thrown_alike env next)
      stmt_alike (BlockTree body) env = block_alike env _ _ (stmts_alike body env)
      stmt_alike BreakTree env = itself m _ (λ s. reflexive s.left)
      stmt_alike ContinueTree env = itself m _ (λ s. reflexive s.left)
      stmt_alike (ReturnTree x) env = return_alike env returns x

      stmts_alike : (ss : StmtTrees ℕ (Unit {0}) ℕ ℕ) (env : Env) → Alike m (run_stmts (known u c) returns locals env ss) (run_stmts (known u d) returns locals env ss)
      stmts_alike no_stmt env = itself m _ (λ s. reflexive s.left)
      stmts_alike (and_stmt s ss) env = bind_alike m _ _ _ _ (stmt_alike s env) (λ f. flow_alike f _ _ (stmts_alike ss))

  enter_keeps : (n : ℕ) (args : List Answer) (env : Env) → Keeps (enter n args env)
  enter_keeps n [] env = λ s. reflexive s.left
  enter_keeps n (At p ∷ args) env = enter_keeps (suc n) args (bound n p env)
  enter_keeps n (Of v ∷ args) env = bind_keeps (make v) (λ object. enter (suc n) args (bound n (whole object) env)) (make_keeps v) (λ object. enter_keeps (suc n) args (bound n (whole object) env))
  enter_keeps n (Nothing ∷ args) env = λ s. tt

  end_keeps : (returns : ReturnsTree ℕ) → Keeps (at_end returns)
  end_keeps NoResult = λ s. reflexive s.left
  end_keeps (Result t how) = λ s. tt

  returned_keeps : (returns : ReturnsTree ℕ) (f : Flow) → Keeps (returned returns f)
  returned_keeps returns (Next env) = end_keeps returns
  returned_keeps returns Broke = end_keeps returns
  returned_keeps returns Continued = end_keeps returns
  returned_keeps returns (Returned a) = λ s. reflexive s.left

  function_alike : (o : Option Function) (args : List Answer) → Alike m (run_function u c o args) (run_function u d o args)
  function_alike None args = itself m _ (λ s. tt)
  function_alike (Some f) args =
      closing_alike m _ _ (bind_alike m _ _ _ _ (itself m _ (enter_keeps 0 args [])) (λ env. then_alike _ _ _ (stmts_alike f.returns (f.parameters ++ f.locals) f.body env) (returned_keeps f.returns)))

-- ---- calls

-- behind a step there are fewer
stepped : {A : Type 0} (a l : ℕ) (s : State) (r q : Run A) → l ≤ suc a → l ≤ s.left → Alike a r q → (after (step_of l s) (λ t. r) ≡ after (step_of l s) (λ t. q)) × Within s.left (after (step_of l s) (λ t. r))
stepped a zero s r q le more both = (refl, tt)
stepped a (suc l) s r q le more both =
    let below : l ≤ a = omega (arith, le) in
    let h = both (record s { left = l }) below in
    (h.0, weaker l s.left (r (record s { left = l })) (omega (arith, more)) h.1)

none_left : {A : Type 0} (l : ℕ) (s : State) (q : Run A) → l ≤ 0 → Running s.printed ≡ after (step_of l s) (λ t. q)
none_left zero s q le = refl
none_left (suc l) s q le = absurd (omega (arith, le))

pub call_alike : (u : UnitTree) (a b : ℕ) → a ≤ b → (n : ℕ) (args : List Answer) (s : State) → s.left ≤ a → (run_call a u n args s ≡ run_call b u n args s) × Within s.left (run_call a u n args s)
unfolding run_call
call_alike u zero zero le n args s few = (refl, tt)
call_alike u zero (suc b) le n args s few = (none_left s.left s (run_function u (run_call b u) (slice_get u.functions n) args) few, tt)
call_alike u (suc a) zero le n args s few = absurd (omega (arith, le))
call_alike u (suc a) (suc b) le n args s few =
    stepped a s.left s _ _ few (reflexive s.left) (function_alike a u (run_call a u) (run_call b u) (call_alike u a b (omega (arith, le))) (slice_get u.functions n) args)

pub calls_bounded : (u : UnitTree) (a b n : ℕ) (args : List Answer) (s : State) → a ≤ b → s.left ≤ a → run_call a u n args s ≡ run_call b u n args s
calls_bounded u a b n args s le few = (call_alike u a b le n args s few).0

-- a run with however few calls that may be open adds no steps: with more of them it is one that has enough
call_keeps : (u : UnitTree) (a n : ℕ) (args : List Answer) → Keeps (run_call a u n args)
unfolding run_call
call_keeps u zero n args = λ s. tt
call_keeps u (suc a) n args = λ s.
    (stepped s.left s.left s _ _ (omega arith) (reflexive s.left) (function_alike s.left u (run_call a u) (run_call a u) (λ k as'. itself s.left _ (call_keeps u a k as')) (slice_get u.functions n) args)).1

within_done : {A : Type 0} (n : ℕ) (o : Outcome A) (x : A) (t : State) → o ≡ Done x t → Within n o → t.left ≤ n
within_done n o x t e h = subst (λ p. Within n p) e h

pub steps_fall : (u : UnitTree) (a n : ℕ) (args : List Answer) (s t : State) (answer : Answer) → run_call a u n args s ≡ Done answer t → t.left ≤ s.left
steps_fall u a n args s t answer e = within_done s.left (run_call a u n args s) answer t e (call_keeps u a n args s)

-- ---- turns

turn_both : (m : ℕ) (env : Env) (next : Run (Unit {0})) (again again' : Run Flow) → Keeps next → Alike m again again' → (f : Flow) → Alike m (after_turn env next again f) (after_turn env next again' f)
turn_both m env next again again' nexts agains (Next inner) = bind_alike m next next _ _ (itself m next nexts) (λ t. agains)
turn_both m env next again again' nexts agains Continued = bind_alike m next next _ _ (itself m next nexts) (λ t. agains)
turn_both m env next again again' nexts agains Broke = itself m _ (λ s. reflexive s.left)
turn_both m env next again again' nexts agains (Returned a) = itself m _ (λ s. reflexive s.left)

none_both : {A : Type 0} (l : ℕ) (s : State) (r q : Run A) → l ≤ 0 → (after (step_of l s) (λ t. r) ≡ after (step_of l s) (λ t. q)) × Within s.left (after (step_of l s) (λ t. r))
none_both zero s r q le = (refl, tt)
none_both (suc l) s r q le = absurd (omega (arith, le))

-- as many turns as there are steps, and one more that is never begun
few_turns : (m b : ℕ) → m ≤ b → (env : Env) (test : Run Val) (body : Run Flow) (next : Run (Unit {0})) → Keeps test → Keeps body → Keeps next → Alike m (turns (suc m) env test body next) (turns (suc b) env test body next)
few_turns zero b le env test body next tests bodies nexts =
    bind_alike zero _ _ _ _ (itself zero test tests) (λ v. when_alike zero v _ _ _ _ (λ s few. none_both s.left s _ _ few) (itself zero _ (λ s. reflexive s.left)))
few_turns (suc m) zero le env test body next tests bodies nexts = absurd (omega (arith, le))
few_turns (suc m) (suc b) le env test body next tests bodies nexts =
    bind_alike (suc m) _ _ _ _ (itself (suc m) test tests) (λ v. when_alike (suc m) v _ _ _ _
    (λ s few. stepped m s.left s _ _ few (reflexive s.left)
    (bind_alike m _ _ _ _ (itself m body bodies) (turn_both m env next _ _ nexts (few_turns m b (omega (arith, le)) env test body next tests bodies nexts))))
    (itself (suc m) _ (λ s. reflexive s.left)))

pub turns_bounded : (a b : ℕ) (env : Env) (test : Run Val) (body : Run Flow) (next : Run (Unit {0})) (s : State) → AddsNoSteps test → AddsNoSteps body → AddsNoSteps next → a ≤ b → s.left < a → turns a env test body next s ≡ turns b env test body next s
turns_bounded zero b env test body next s tests bodies nexts le few = absurd (omega (arith, few))
turns_bounded (suc a) zero env test body next s tests bodies nexts le few = absurd (omega (arith, le))
turns_bounded (suc a) (suc b) env test body next s tests bodies nexts le few = (few_turns a b (omega (arith, le)) env test body next tests bodies nexts s (omega (arith, few))).0
