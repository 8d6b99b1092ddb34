-- What a function of a typed unit gives, and where it does what has no meaning.
use Rattle.std.proofs.Common.{◌≡◌, ℕ, zero, suc, ◌<◌, List, [], ◌∷◌, length, Option, Some, None, ◌⊎◌, inl, inr, refl, subst, arith}
use Rattle.std.specs.Prelude.{ℤ, slice_get, FitsSigned}
use Rattle.std.specs.Int.{w32}
use Rattle.std.specs.List.{AllByRecursion}
use Rattle.cx_base.specs.Outcome.{Outcome, Returned, Undefined, Running}
use Rattle.cx_plain.specs.Evaluation.{and_then, given}
use Rattle.cx_plain.specs.PlainTree.{PlainExpr, PlainConstant, PlainCall, PlainUnary, PlainBinary, PlainStmt, PlainReturn, PlainFunction, PlainTree}
use Rattle.cx_plain.specs.PlainMeaning.{Calls, unary_result, binary_result, run_expr, run_stmt, run_body, run_call, run}
use Rattle.cx_plain.specs.PlainTyping.{IsTyped, IsTypedExpr, IsTypedStmt, IsTypedFunction}
use Rattle.cx_plain.proofs.ArithmeticLaws.{unary_int, binary_int}
use Rattle.cx_plain.specs.Undefinedness.{Fails, FailsStmt, SomeFails}

-- what comes before is undefined, or it gave a value and what comes next is undefined
then_undefined : (o : Outcome) (f : ℤ → ℕ → Outcome) → and_then o f ≡ Undefined → (o ≡ Undefined) ⊎ ((x : ℤ) × (left : ℕ) × (o ≡ Returned x left) × (f x left ≡ Undefined))
then_undefined (Returned x left) f e = inr (x, left, refl, e)
then_undefined Undefined f e = inl refl
then_undefined Running f e = absurd cc

given_undefined : (r : Option ℤ) (n : ℕ) → given r n ≡ Undefined → r ≡ None
given_undefined None n e = refl
given_undefined (Some x) n e = absurd cc

-- a call of one of so many functions that is undefined tells P
abbrev AllTell : ℕ → Calls → Type 0 → Type 0
AllTell count calls P = (k n : ℕ) → k < count → calls k n ≡ Undefined → P

unary_tells : (P : Type 0) (calls : Calls) (op : _) (operand : PlainExpr) (n : ℕ) → (run_expr calls operand n ≡ Undefined → (Fails calls operand n) ⊎ P)
    → ((run_expr calls operand n ≡ Undefined) ⊎ ((x : ℤ) × (left : ℕ) × (run_expr calls operand n ≡ Returned x left) × (given (unary_result op x) left ≡ Undefined))) → (Fails calls (PlainUnary op operand) n) ⊎ P
unary_tells P calls op operand n tells (inl h) = elim (tells h) [ inl f ↦ inl (inl f) | inr p ↦ inr p ]
unary_tells P calls op operand n tells (inr h) = inl (inr (h.0, h.1, h.2, given_undefined (unary_result op h.0) h.1 h.3))

-- the same where the left operand gave a value
right_tells : (P : Type 0) (calls : Calls) (op : _) (first second : PlainExpr) (n : ℕ) (x : ℤ) (left : ℕ) → run_expr calls first n ≡ Returned x left → (run_expr calls second left ≡ Undefined → (Fails calls second left) ⊎ P)
    → ((run_expr calls second left ≡ Undefined) ⊎ ((y : ℤ) × (left' : ℕ) × (run_expr calls second left ≡ Returned y left') × (given (binary_result op x y) left' ≡ Undefined))) → (Fails calls (PlainBinary op first second) n) ⊎ P
right_tells P calls op first second n x left is tells (inl h) = elim (tells h) [ inl f ↦ inl (inr (x, left, is, inl f)) | inr p ↦ inr p ]
right_tells P calls op first second n x left is tells (inr h) = inl (inr (x, left, is, inr (h.0, h.1, h.2, given_undefined (binary_result op x h.0) h.1 h.3)))

binary_tells : (P : Type 0) (calls : Calls) (op : _) (first second : PlainExpr) (n : ℕ) → (run_expr calls first n ≡ Undefined → (Fails calls first n) ⊎ P)
    → ((left : ℕ) → run_expr calls second left ≡ Undefined → (Fails calls second left) ⊎ P)
    → ((run_expr calls first n ≡ Undefined)
    ⊎ ((x : ℤ) × (left : ℕ) × (run_expr calls first n ≡ Returned x left) × (and_then (run_expr calls second left) (λ y left'. given (binary_result op x y) left') ≡ Undefined)))
    → (Fails calls (PlainBinary op first second) n) ⊎ P
binary_tells P calls op first second n tells more (inl h) = elim (tells h) [ inl f ↦ inl (inl f) | inr p ↦ inr p ]
binary_tells P calls op first second n tells more (inr h) = right_tells P calls op first second n h.0 h.1 h.2 (more h.1) (then_undefined _ _ h.3)

expr_tells : (P : Type 0) (count : ℕ) (calls : Calls) → AllTell count calls P → (e : PlainExpr) → IsTypedExpr count e → (n : ℕ) → run_expr calls e n ≡ Undefined → (Fails calls e n) ⊎ P
expr_tells P count calls all (PlainConstant value) typed n e = absurd cc
expr_tells P count calls all (PlainCall k) typed n e = inr (all k n typed e)
expr_tells P count calls all (PlainUnary op operand) typed n e = unary_tells P calls op operand n (expr_tells P count calls all operand typed n) (then_undefined _ _ e)
expr_tells P count calls all (PlainBinary op first second) typed n e =
    binary_tells P calls op first second n (expr_tells P count calls all first typed.0 n) (λ left. expr_tells P count calls all second typed.1 left) (then_undefined _ _ e)

stmt_tells : (P : Type 0) (count : ℕ) (calls : Calls) → AllTell count calls P → (s : PlainStmt) → IsTypedStmt count s → (n : ℕ) → run_stmt calls s n ≡ Undefined → (FailsStmt calls s n) ⊎ P
stmt_tells P count calls all (PlainReturn value) typed n e = expr_tells P count calls all value typed n e

-- the function of a number below their count
typed_at : (count : ℕ) (functions : List PlainFunction) → AllByRecursion (IsTypedFunction count) functions → (k : ℕ) → k < length functions → (f : PlainFunction) × (slice_get functions k ≡ Some f) × IsTypedFunction count f
typed_at count [] typed k below = absurd (omega (arith, below))
typed_at count (f ∷ fs) typed zero below = (f, refl, typed.0)
typed_at count (f ∷ fs) typed (suc k) below = typed_at count fs typed.1 k (omega (arith, below))

body_tells : (functions : List PlainFunction) → AllByRecursion (IsTypedFunction (length functions)) functions → (depth : ℕ) → AllTell (length functions) (run_call depth functions) (SomeFails functions)
    → (k n : ℕ) → k < length functions → run_body (run_call depth functions) (slice_get functions k) n ≡ Undefined → SomeFails functions
body_tells functions typed depth all k n below e =
    let f = typed_at (length functions) functions typed k below in
    let calls = run_call depth functions in
    let run_f : run_stmt calls f.0.body n ≡ Undefined = subst (λ (o : Option PlainFunction). run_body calls o n ≡ Undefined) f.1 e in
    elim (stmt_tells (SomeFails functions) (length functions) calls all f.0.body f.2 n run_f) [
      | inl h ↦ record { number = k; function = f.0; depth = depth; steps = n; there = f.1; fails = h }
      | inr p ↦ p
    ]

call_tells : (functions : List PlainFunction) → AllByRecursion (IsTypedFunction (length functions)) functions → (depth : ℕ) → AllTell (length functions) (run_call depth functions) (SomeFails functions)
unfolding run_call
call_tells functions typed zero k n below e = absurd cc
call_tells functions typed (suc depth) k zero below e = absurd cc
call_tells functions typed (suc depth) k (suc n) below e = body_tells functions typed depth (call_tells functions typed depth) k n below e

pub undefined_fails : (n k : ℕ) (unit : PlainTree) → IsTyped unit → k < length unit.functions → run n unit.functions k ≡ Undefined → SomeFails unit.functions
unfolding run
undefined_fails n k unit typed below e = body_tells unit.functions typed n (call_tells unit.functions typed n) k n below e

-- ---- what is returned is an int

abbrev GivesInt : Outcome → Type 0
GivesInt (Returned value left) = FitsSigned w32 value
GivesInt Undefined = Unit {0}
GivesInt Running = Unit {0}

then_int : (o : Outcome) (f : ℤ → ℕ → Outcome) → GivesInt o → ((x : ℤ) (left : ℕ) → FitsSigned w32 x → GivesInt (f x left)) → GivesInt (and_then o f)
then_int (Returned x left) f fits next = next x left fits
then_int Undefined f fits next = tt
then_int Running f fits next = tt

given_int : (r : Option ℤ) (left : ℕ) → ((z : ℤ) → r ≡ Some z → FitsSigned w32 z) → GivesInt (given r left)
given_int None left fits = tt
given_int (Some z) left fits = fits z refl

abbrev AllGiveInts : ℕ → Calls → Type 0
AllGiveInts count calls = (k n : ℕ) → k < count → GivesInt (calls k n)

expr_int : (count : ℕ) (calls : Calls) → AllGiveInts count calls → (e : PlainExpr) → IsTypedExpr count e → (n : ℕ) → GivesInt (run_expr calls e n)
expr_int count calls all (PlainConstant value) typed n = typed
expr_int count calls all (PlainCall k) typed n = all k n typed
expr_int count calls all (PlainUnary op e) typed n = then_int _ _ (expr_int count calls all e typed n) (λ x left fits. given_int (unary_result op x) left (λ z. unary_int op x z fits))
expr_int count calls all (PlainBinary op l r) typed n =
    then_int _ _ (expr_int count calls all l typed.0 n) (λ x left fits. then_int _ _ (expr_int count calls all r typed.1 left) (λ y left' fits'. given_int (binary_result op x y) left' (λ z. binary_int op x y z fits fits')))

stmt_int : (count : ℕ) (calls : Calls) → AllGiveInts count calls → (s : PlainStmt) → IsTypedStmt count s → (n : ℕ) → GivesInt (run_stmt calls s n)
stmt_int count calls all (PlainReturn value) typed n = expr_int count calls all value typed n

body_int : (functions : List PlainFunction) → AllByRecursion (IsTypedFunction (length functions)) functions → (calls : Calls) → AllGiveInts (length functions) calls
    → (k n : ℕ) → k < length functions → GivesInt (run_body calls (slice_get functions k) n)
body_int functions typed calls all k n below =
    let f = typed_at (length functions) functions typed k below in
    rw f.1 (stmt_int (length functions) calls all f.0.body f.2 n)

call_int : (functions : List PlainFunction) → AllByRecursion (IsTypedFunction (length functions)) functions → (depth : ℕ) → AllGiveInts (length functions) (run_call depth functions)
unfolding run_call
call_int functions typed zero k n below = tt
call_int functions typed (suc depth) k zero below = tt
call_int functions typed (suc depth) k (suc n) below = body_int functions typed (run_call depth functions) (call_int functions typed depth) k n below

pub returns_int : (n k left : ℕ) (unit : PlainTree) (value : ℤ) → IsTyped unit → k < length unit.functions → run n unit.functions k ≡ Returned value left → FitsSigned w32 value
unfolding run
returns_int n k left unit value typed below e = subst GivesInt e (body_int unit.functions typed (run_call n unit.functions) (call_int unit.functions typed n) k n below)
