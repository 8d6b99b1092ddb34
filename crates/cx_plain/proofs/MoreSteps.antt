-- A run with more steps, and with more calls that may be open.
use Rattle.std.proofs.Common.{◌≡◌, ℕ, zero, suc, ◌+◌, ◌≤◌, List, Option, Some, None, refl, subst, arith}
use Rattle.std.specs.Prelude.{ℤ, slice_get}
use Rattle.cx_base.specs.Outcome.{Outcome, Returned, Undefined, Running}
use Rattle.cx_plain.specs.Evaluation.{and_then, given}
use Rattle.cx_plain.specs.PlainTree.{PlainExpr, PlainConstant, PlainCall, PlainUnary, PlainBinary, PlainStmt, PlainReturn, PlainFunction}
use Rattle.cx_plain.specs.PlainMeaning.{Calls, unary_result, binary_result, run_expr, run_stmt, run_body, run_call, run}

-- ---- more steps

-- the outcome of a run that has so many steps more
abbrev later : ℕ → Outcome → Outcome
later m (Returned value left) = Returned value (left + m)
later m Undefined = Undefined
later m Running = Running

-- it ended, so that more steps change nothing but what is left
abbrev Ends : Outcome → Type 0
Ends (Returned value left) = Unit {0}
Ends Undefined = Unit {0}
Ends Running = ⊥

abbrev Goes : ℕ → Outcome → Outcome → Type 0
Goes m o p = Ends o → p ≡ later m o

then_goes : (m : ℕ) (o p : Outcome) (f g : ℤ → ℕ → Outcome) → Goes m o p → ((x : ℤ) (n : ℕ) → Goes m (f x n) (g x (n + m))) → Goes m (and_then o f) (and_then p g)
then_goes m (Returned x n) p f g first next = λ ends. rw (first tt) (next x n ends)
then_goes m Undefined p f g first next = λ ends. rw (first tt) refl
then_goes m Running p f g first next = λ ends. absurd ends

given_goes : (m : ℕ) (r : Option ℤ) (n : ℕ) → Goes m (given r n) (given r (n + m))
given_goes m None n = λ ends. refl
given_goes m (Some x) n = λ ends. refl

abbrev AllGo : ℕ → Calls → Calls → Type 0
AllGo m calls more = (k n : ℕ) → Goes m (calls k n) (more k (n + m))

expr_goes : (m : ℕ) (calls more : Calls) → AllGo m calls more → (e : PlainExpr) (n : ℕ) → Goes m (run_expr calls e n) (run_expr more e (n + m))
expr_goes m calls more all (PlainConstant value) n = λ ends. refl
expr_goes m calls more all (PlainCall k) n = all k n
expr_goes m calls more all (PlainUnary op e) n = then_goes m _ _ _ _ (expr_goes m calls more all e n) (λ x left. given_goes m (unary_result op x) left)
expr_goes m calls more all (PlainBinary op l r) n =
    then_goes m _ _ _ _ (expr_goes m calls more all l n) (λ x left. then_goes m _ _ _ _ (expr_goes m calls more all r left) (λ y left'. given_goes m (binary_result op x y) left'))

body_goes : (m : ℕ) (calls more : Calls) → AllGo m calls more → (f : Option PlainFunction) (n : ℕ) → Goes m (run_body calls f n) (run_body more f (n + m))
body_goes m calls more all None n = λ ends. refl
body_goes m calls more all (Some f) n = stmt f.body
  where
    stmt : (s : PlainStmt) → Goes m (run_stmt calls s n) (run_stmt more s (n + m))
    stmt (PlainReturn value) = expr_goes m calls more all value n

call_goes : (depth m : ℕ) (functions : List PlainFunction) → AllGo m (run_call depth functions) (run_call (depth + m) functions)
unfolding run_call
call_goes zero m functions k n = λ ends. absurd ends
call_goes (suc depth) m functions k zero = λ ends. absurd ends
call_goes (suc depth) m functions k (suc n) =
    let deeper : suc depth + m ≡ suc (depth + m) = omega arith in
    let further : suc n + m ≡ suc (n + m) = omega arith in
    rw (deeper, further) (body_goes m (run_call depth functions) (run_call (depth + m) functions) (call_goes depth m functions) (slice_get functions k) n)

goes : (n m : ℕ) (functions : List PlainFunction) (k : ℕ) → Goes m (run n functions k) (run (n + m) functions k)
unfolding run
goes n m functions k = body_goes m (run_call n functions) (run_call (n + m) functions) (call_goes n m functions) (slice_get functions k) n

pub returned_later : (n m k left : ℕ) (functions : List PlainFunction) (value : ℤ) → run n functions k ≡ Returned value left → run (n + m) functions k ≡ Returned value (left + m)
returned_later n m k left functions value e =
    let P : Outcome → Type 0 = λ o. Goes m o (run (n + m) functions k) in
    subst P e (goes n m functions k) tt

pub undefined_later : (n m k : ℕ) (functions : List PlainFunction) → run n functions k ≡ Undefined → run (n + m) functions k ≡ Undefined
undefined_later n m k functions e =
    let P : Outcome → Type 0 = λ o. Goes m o (run (n + m) functions k) in
    subst P e (goes n m functions k) tt

-- ---- what is left is at most so much

abbrev Within : ℕ → Outcome → Type 0
Within n (Returned value left) = left ≤ n
Within n Undefined = Unit {0}
Within n Running = Unit {0}

within_more : (n m : ℕ) (o : Outcome) → n ≤ m → Within n o → Within m o
within_more n m (Returned value left) below le = omega (arith, below, le)
within_more n m Undefined below le = tt
within_more n m Running below le = tt

then_within : (n : ℕ) (o : Outcome) (f : ℤ → ℕ → Outcome) → Within n o → ((x : ℤ) (m : ℕ) → Within m (f x m)) → Within n (and_then o f)
then_within n (Returned x left) f le next = within_more left n (f x left) le (next x left)
then_within n Undefined f le next = tt
then_within n Running f le next = tt

given_within : (r : Option ℤ) (n : ℕ) → Within n (given r n)
given_within None n = tt
given_within (Some x) n = omega arith

abbrev AllWithin : Calls → Type 0
AllWithin calls = (k n : ℕ) → Within n (calls k n)

expr_within : (calls : Calls) → AllWithin calls → (e : PlainExpr) (n : ℕ) → Within n (run_expr calls e n)
expr_within calls each (PlainConstant value) n = omega arith
expr_within calls each (PlainCall k) n = each k n
expr_within calls each (PlainUnary op e) n = then_within n _ _ (expr_within calls each e n) (λ x left. given_within (unary_result op x) left)
expr_within calls each (PlainBinary op l r) n =
    then_within n _ _ (expr_within calls each l n) (λ x left. then_within left _ _ (expr_within calls each r left) (λ y left'. given_within (binary_result op x y) left'))

body_within : (calls : Calls) → AllWithin calls → (f : Option PlainFunction) (n : ℕ) → Within n (run_body calls f n)
body_within calls each None n = tt
body_within calls each (Some f) n = stmt f.body
  where
    stmt : (s : PlainStmt) → Within n (run_stmt calls s n)
    stmt (PlainReturn value) = expr_within calls each value n

call_within : (depth : ℕ) (functions : List PlainFunction) → AllWithin (run_call depth functions)
unfolding run_call
call_within zero functions k n = tt
call_within (suc depth) functions k zero = tt
call_within (suc depth) functions k (suc n) =
    let more : n ≤ suc n = omega arith in
    let o = run_body (run_call depth functions) (slice_get functions k) n in
    within_more n (suc n) o more (body_within (run_call depth functions) (call_within depth functions) (slice_get functions k) n)

within : (n : ℕ) (functions : List PlainFunction) (k : ℕ) → Within n (run n functions k)
unfolding run
within n functions k = body_within (run_call n functions) (call_within n functions) (slice_get functions k) n

pub left_within : (n k left : ℕ) (functions : List PlainFunction) (value : ℤ) → run n functions k ≡ Returned value left → left ≤ n
left_within n k left functions value e =
    let P : Outcome → Type 0 = λ o. Within n o in
    subst P e (within n functions k)

-- ---- more calls that may be open

-- the same with at most n steps
abbrev AllSame : ℕ → Calls → Calls → Type 0
AllSame n calls more = (k m : ℕ) → m ≤ n → calls k m ≡ more k m

then_same : (n : ℕ) (o p : Outcome) (f g : ℤ → ℕ → Outcome) → o ≡ p → Within n o → ((x : ℤ) (m : ℕ) → m ≤ n → f x m ≡ g x m) → and_then o f ≡ and_then p g
then_same n (Returned x left) p f g same le next = rw (← same) (next x left le)
then_same n Undefined p f g same le next = rw (← same) refl
then_same n Running p f g same le next = rw (← same) refl

expr_same : (n : ℕ) (calls more : Calls) → AllWithin calls → AllSame n calls more → (e : PlainExpr) (m : ℕ) → m ≤ n → run_expr calls e m ≡ run_expr more e m
expr_same n calls more each all (PlainConstant value) m le = refl
expr_same n calls more each all (PlainCall k) m le = all k m le
expr_same n calls more each all (PlainUnary op e) m le =
    let o = run_expr calls e m in
    then_same n o (run_expr more e m) _ _ (expr_same n calls more each all e m le) (within_more m n o le (expr_within calls each e m)) (λ x left below. refl)
expr_same n calls more each all (PlainBinary op l r) m le =
    let o = run_expr calls l m in
    then_same n o (run_expr more l m) _ _ (expr_same n calls more each all l m le) (within_more m n o le (expr_within calls each l m)) (λ x left below.
    let p = run_expr calls r left in
    then_same n p (run_expr more r left) _ _ (expr_same n calls more each all r left below) (within_more left n p below (expr_within calls each r left)) (λ y left' below'. refl))

body_same : (n : ℕ) (calls more : Calls) → AllWithin calls → AllSame n calls more → (f : Option PlainFunction) → run_body calls f n ≡ run_body more f n
body_same n calls more each all None = refl
body_same n calls more each all (Some f) = stmt f.body
  where
    stmt : (s : PlainStmt) → run_stmt calls s n ≡ run_stmt more s n
    stmt (PlainReturn value) = expr_same n calls more each all value n (omega arith)

no_step : (depth k : ℕ) (functions : List PlainFunction) → run_call depth functions k zero ≡ Running
unfolding run_call
no_step zero k functions = refl
no_step (suc depth) k functions = refl

call_same : (depth m n : ℕ) (functions : List PlainFunction) → n ≤ depth → AllSame n (run_call (depth + m) functions) (run_call depth functions)
unfolding run_call
call_same zero m n functions below k zero le = no_step (zero + m) k functions
call_same zero m n functions below k (suc j) le = absurd (omega (arith, below, le))
call_same (suc depth) m n functions below k zero le = no_step (suc depth + m) k functions
call_same (suc depth) m n functions below k (suc j) le =
    let deeper : suc depth + m ≡ suc (depth + m) = omega arith in
    let here : j ≤ depth = omega (arith, below, le) in
    rw deeper (body_same j (run_call (depth + m) functions) (run_call depth functions) (call_within (depth + m) functions) (call_same depth m j functions here) (slice_get functions k))

pub deeper_same : (n m k : ℕ) (functions : List PlainFunction) → run_body (run_call (n + m) functions) (slice_get functions k) n ≡ run n functions k
unfolding run
deeper_same n m k functions = body_same n (run_call (n + m) functions) (run_call n functions) (call_within (n + m) functions) (call_same n m n functions (omega arith)) (slice_get functions k)
