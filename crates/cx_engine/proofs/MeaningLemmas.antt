-- A unit whose names are all found: each name's number is that of its function, and so the plain functions do what
-- the functions of the source do.
use Rattle.std.proofs.Common.{◌≡◌, ℕ, zero, suc, ◌+◌, ◌<◌, Bool, true, false, cond, List, [], ◌∷◌, ◌++◌, length, Option, Some, None, is_some, option_to_list, Result, Ok, Err, ℤ, pos, nat_le, FitsSigned, lit<, refl, ap, sym, ◌∙◌, subst, arith, append_assoc, length-append}
use Rattle.std.specs.Prelude.{map, slice_get}
use Rattle.std.specs.List.{AllByRecursion}
use Rattle.std.specs.Int.{w32}
use Rattle.std.specs.Option.{option_map}
use Rattle.std.specs.Str.{bytes_eq}
use Rattle.std.proofs.lemmas.Bool.{leb-true}
use Rattle.std.proofs.lemmas.Slice.Eq.{bytes_eq-Decides}
use Rattle.cx_base.specs.Refusal.{Refusal, ◌>>=◌}
use Rattle.cx_base.specs.Outcome.{Outcome, Returned, Undefined, Running}
use Rattle.cx_base.specs.declared.place.Place.{Place}
use Rattle.cx_base.specs.declared.value.Scalar.{Scalar}
use Rattle.cx_base.specs.declared.value.Scalar.TheVariants as scalar
use Rattle.cx_plain.specs.declared.operators.BinaryOperator.{BinaryOperator as PlainOperator}
use Rattle.cx_plain.specs.Arithmetic.{negation, complement}
use Rattle.cx_plain.specs.Evaluation.{and_then, given}
use Rattle.cx_plain.specs.PlainTree.{PlainExpr, PlainConstant, PlainFunction}
use Rattle.cx_plain.specs.PlainMeaning.{binary_result, run_expr, run_body, run_call, run}
use Rattle.cx_plain.specs.PlainTyping.{IsTypedExpr, IsTypedFunction}
use Rattle.cx_tree.specs.declared.operators.UnaryOperator.{UnaryOperator}
use Rattle.cx_tree.specs.declared.operators.UnaryOperator.TheVariants as unary
use Rattle.cx_tree.specs.declared.operators.BinaryOperator.{BinaryOperator}
use Rattle.cx_tree.specs.declared.operators.BinaryOperator.TheVariants as binary
use Rattle.cx_tree.specs.Trees.{ExprTree, IntTree, BoolTree, NameTree, TemplateTree, QualifiedTree, ListTree, GroupTree, StaticCastTree, IsSameTree, OutTree, MemberTree, CallTree, PostfixTree, UnaryTree, BinaryTree, ConditionalTree, AssignmentTree, RequiresTree}
use Rattle.cx_tree.specs.Declarations.{UnitTree}
use Rattle.cx_engine.specs.Definitions.{Definition}
use Rattle.cx_engine.specs.Forms.{Mention, mention_of, is_int_literal, is_built_unary, plain_operator, first_of, unbuilt_in, forms_unit}
use Rattle.cx_engine.specs.Names.{Declared, declared, declaration_of, number_of, is_new, is_known, calls_in, names_called, names_function, names_functions}
use Rattle.cx_engine.proofs.FormsLemmas.{both as first_none, AreBuilt, forms_built}
use Rattle.cx_engine.specs.Plain.{unbuilt, plain_call, plain_unary, plain_binary, plain_expr, plain_function}
use Rattle.cx_engine.specs.SourceMeaning.{function_named, unary_meaning, binary_meaning, call_of, value_meaning, body_meaning, call_meaning, meaning}

some_is : {X : Type 0} (x y : X) → Some x ≡ Some y → x ≡ y
some_is x y e = cc

-- the value of a stage that did not refuse
bind_ok : {A B : Type 0} (r : Result A Refusal) (f : A → Result B Refusal) (y : B) → (r >>= f) ≡ Ok y → (x : A) × (r ≡ Ok x) × (f x ≡ Ok y)
bind_ok (Ok x) f y e = (x, refl, e)
bind_ok (Err d) f y e = absurd cc

-- ---- the number of a name among more declarations

keeps : (b : Bool) (r s : Option ℕ) (j : ℕ) → ((i : ℕ) → r ≡ Some i → s ≡ Some i) → cond b (Some 0) (option_map (λ k. k + 1) r) ≡ Some j → cond b (Some 0) (option_map (λ k. k + 1) s) ≡ Some j
keeps true r s j h e = e
keeps false None s j h e = absurd cc
keeps false (Some i) s j h e = rw (h i refl) e

number_of-before : (q : List ℕ) (xs ys : List Declared) (j : ℕ) → number_of q xs ≡ Some j → number_of q (xs ++ ys) ≡ Some j
number_of-before q [] ys j e = absurd cc
number_of-before q (x ∷ xs) ys j e = keeps (bytes_eq q x.name) (number_of q xs) (number_of q (xs ++ ys)) j (λ i h. number_of-before q xs ys i h) e

shifted : (b : Bool) (o : Option Declared) (d : Declared) (r : Option ℕ) (n j : ℕ) → cond b (Some d) o ≡ None → (o ≡ None → r ≡ Some (n + j)) → cond b (Some 0) (option_map (λ k. k + 1) r) ≡ Some (suc n + j)
shifted true o d r n j e h = absurd cc
shifted false o d r n j e h =
    let one : (n + j) + 1 ≡ suc n + j = omega arith in
    rw (h e) (ap (λ (k : ℕ). Some k) one)

number_of-behind : (q : List ℕ) (xs ys : List Declared) (j : ℕ) → declaration_of q xs ≡ None → number_of q ys ≡ Some j → number_of q (xs ++ ys) ≡ Some (length xs + j)
number_of-behind q [] ys j new e =
    let none : j ≡ 0 + j = omega arith in
    e ∙ ap (λ (k : ℕ). Some k) none
number_of-behind q (x ∷ xs) ys j new e = shifted (bytes_eq q x.name) (declaration_of q xs) x (number_of q (xs ++ ys)) (length xs) j new (λ h. number_of-behind q xs ys j h e)

-- a name that is declared has a number
numbered : (b : Bool) (d : Declared) (o : Option Declared) (r : Option ℕ) (x : Declared) → cond b (Some d) o ≡ Some x → ((y : Declared) → o ≡ Some y → (j : ℕ) × (r ≡ Some j)) → (j : ℕ) × (cond b (Some 0) (option_map (λ k. k + 1) r) ≡ Some j)
numbered true d o r x e h = (0, refl)
numbered false d None r x e h = absurd cc
numbered false d (Some y) r x e h =
    let there = h y refl in
    (there.0 + 1, rw there.1 refl)

number_of-declared : (q : List ℕ) (ds : List Declared) (x : Declared) → declaration_of q ds ≡ Some x → (j : ℕ) × (number_of q ds ≡ Some j)
number_of-declared q [] x e = absurd cc
number_of-declared q (d ∷ ds) x e = numbered (bytes_eq q d.name) d (declaration_of q ds) (number_of q ds) x e (λ y h. number_of-declared q ds y h)

same-self : (q : List ℕ) → bytes_eq q q ≡ true
same-self q = (bytes_eq-Decides q q).1 refl

-- ---- what the stage of names found

new_name : (at : _) (o : Option Declared) → is_new at o ≡ Ok tt → o ≡ None
unfolding is_new
new_name at None e = refl
new_name at (Some d) e = absurd cc

known_name : (at : _) (o : Option Declared) → is_known at o ≡ Ok tt → (d : Declared) × (o ≡ Some d)
unfolding is_known
known_name at None e = absurd cc
known_name at (Some d) e = (d, refl)

-- each name that is called has a number
abbrev pub IsResolved : List Declared → List Mention → Type 0
IsResolved names cs = AllByRecursion (λ c. (j : ℕ) × (number_of c.name names ≡ Some j)) cs

resolved_calls : (names more : List Declared) (cs : List Mention) → names_called names cs ≡ Ok tt → IsResolved (names ++ more) cs
unfolding names_called
resolved_calls names more [] e = tt
resolved_calls names more (c ∷ cs) e =
    let known = bind_ok (is_known c.at (declaration_of c.name names)) (λ _. names_called names cs) tt e in
    let d = known_name c.at (declaration_of c.name names) known.1 in
    let j = number_of-declared c.name names d.0 d.1 in
    ((j.0, number_of-before c.name names more j.0 j.1), resolved_calls names more cs known.2)

resolved_split : (names : List Declared) (cs ds : List Mention) → IsResolved names (cs ++ ds) → IsResolved names cs × IsResolved names ds
resolved_split names [] ds all = (tt, all)
resolved_split names (c ∷ cs) ds all =
    let rest = resolved_split names cs ds all.1 in
    ((all.0, rest.0), rest.1)

-- one function is found, and then the others
first_found : (names : List Declared) (f : Definition) (fs : List Definition) → names_functions names (f ∷ fs) ≡ Ok tt
    → (declaration_of f.name names ≡ None) × (names_called (names ++ declared f ∷ []) (calls_in f.value) ≡ Ok tt) × (names_functions (names ++ declared f ∷ []) fs ≡ Ok tt)
unfolding names_functions names_function
first_found names f fs e =
    let a = bind_ok (names_function names f) (λ _. names_functions (names ++ declared f ∷ []) fs) tt e in
    let b = bind_ok (is_new f.at (declaration_of f.name names)) (λ _. names_called (names ++ declared f ∷ []) (calls_in f.value)) a.0 a.1 in
    let new : is_new f.at (declaration_of f.name names) ≡ Ok tt = b.1 in
    (new_name f.at (declaration_of f.name names) new, b.2, a.2)

behind : (names : List Declared) (f : Definition) (fs : List Definition) → (names ++ declared f ∷ []) ++ map declared fs ≡ names ++ map declared (f ∷ fs)
behind names f fs = append_assoc names (declared f ∷ []) (map declared fs)

pub all_resolved : (names : List Declared) (fs : List Definition) → names_functions names fs ≡ Ok tt → AllByRecursion (λ f. IsResolved (names ++ map declared fs) (calls_in f.value)) fs
all_resolved names [] e = tt
all_resolved names (f ∷ fs) e =
    let found = first_found names f fs e in
    let here : IsResolved ((names ++ declared f ∷ []) ++ map declared fs) (calls_in f.value) = resolved_calls (names ++ declared f ∷ []) (map declared fs) (calls_in f.value) found.1 in
    let later = all_resolved (names ++ declared f ∷ []) fs found.2 in
    subst (λ (all : List Declared). IsResolved all (calls_in f.value) × AllByRecursion (λ g. IsResolved all (calls_in g.value)) fs) (behind names f fs) (here, later)

pub own_number : (names : List Declared) (fs : List Definition) (k : ℕ) (f : Definition) → names_functions names fs ≡ Ok tt → slice_get fs k ≡ Some f → number_of f.name (names ++ map declared fs) ≡ Some (length names + k)
own_number names [] k f e at = absurd cc
own_number names (g ∷ gs) zero f e at =
    let found = first_found names g gs e in
    let here : number_of g.name (map declared (g ∷ gs)) ≡ Some 0 = rw (same-self g.name) refl in
    let is : g ≡ f = cc in
    subst (λ (h : Definition). number_of h.name (names ++ map declared (g ∷ gs)) ≡ Some (length names + 0)) is (number_of-behind g.name names (map declared (g ∷ gs)) 0 found.0 here)
own_number names (g ∷ gs) (suc k) f e at =
    let found = first_found names g gs e in
    let later = own_number (names ++ declared g ∷ []) gs k f found.2 at in
    let sum : length (names ++ declared g ∷ []) + k ≡ length names + suc k = omega (arith, length-append names (declared g ∷ [])) in
    subst (λ (all : List Declared). number_of f.name all ≡ Some (length names + suc k)) (behind names g gs) (later ∙ ap (λ (n : ℕ). Some n) sum)

-- ---- the number of a name is that of its function

named_step : (b : Bool) (f : Definition) (o : Option Definition) (fs : List Definition) (r : Option ℕ) (j : ℕ) → ((i : ℕ) → r ≡ Some i → o ≡ slice_get fs i)
    → cond b (Some 0) (option_map (λ k. k + 1) r) ≡ Some j → cond b (Some f) o ≡ slice_get (f ∷ fs) j
named_step true f o fs r j h e =
    let is : 0 ≡ j = cc in
    subst (λ (k : ℕ). Some f ≡ slice_get (f ∷ fs) k) is refl
named_step false f o fs None j h e = absurd cc
named_step false f o fs (Some i) j h e =
    let is : i + 1 ≡ j = cc in
    let next : suc i ≡ j = omega (arith, is) in
    subst (λ (k : ℕ). o ≡ slice_get (f ∷ fs) k) next (h i refl)

pub function_named-number : (u : List Definition) (name : List ℕ) (j : ℕ) → number_of name (map declared u) ≡ Some j → function_named u name ≡ slice_get u j
function_named-number [] name j e = absurd cc
function_named-number (f ∷ fs) name j e = named_step (bytes_eq name f.name) f (function_named fs name) fs (number_of name (map declared fs)) j (λ i h. function_named-number fs name i h) e

-- a name that has a number is that of the function there
there_step : (b : Bool) (name : List ℕ) (f : Definition) (fs : List Definition) (r : Option ℕ) (j : ℕ) → (b ≡ true → name ≡ f.name)
    → ((i : ℕ) → r ≡ Some i → (g : Definition) × (slice_get fs i ≡ Some g) × (name ≡ g.name)) → cond b (Some 0) (option_map (λ k. k + 1) r) ≡ Some j
    → (g : Definition) × (slice_get (f ∷ fs) j ≡ Some g) × (name ≡ g.name)
there_step true name f fs r j same h e =
    let is : 0 ≡ j = cc in
    subst (λ (k : ℕ). (g : Definition) × (slice_get (f ∷ fs) k ≡ Some g) × (name ≡ g.name)) is (f, refl, same refl)
there_step false name f fs None j same h e = absurd cc
there_step false name f fs (Some i) j same h e =
    let is : i + 1 ≡ j = cc in
    let next : suc i ≡ j = omega (arith, is) in
    subst (λ (k : ℕ). (g : Definition) × (slice_get (f ∷ fs) k ≡ Some g) × (name ≡ g.name)) next (h i refl)

function_there : (u : List Definition) (name : List ℕ) (j : ℕ) → number_of name (map declared u) ≡ Some j → (g : Definition) × (slice_get u j ≡ Some g) × (name ≡ g.name)
function_there [] name j e = absurd cc
function_there (f ∷ fs) name j e = there_step (bytes_eq name f.name) name f fs (number_of name (map declared fs)) j (λ b. (bytes_eq-Decides name f.name).0 b) (λ i h. function_there fs name i h) e

-- ---- what the functions do

slice_get-map : {X Y : Type 0} (g : X → Y) (xs : List X) (k : ℕ) (x : X) → slice_get xs k ≡ Some x → slice_get (map g xs) k ≡ Some (g x)
slice_get-map g [] k x e = absurd cc
slice_get-map g (y ∷ ys) zero x e =
    let is : y ≡ x = cc in
    ap (λ z. Some (g z)) is
slice_get-map g (y ∷ ys) (suc k) x e = slice_get-map g ys k x e

resolved_at : (names : List Declared) (fs : List Definition) (k : ℕ) (f : Definition) → AllByRecursion (λ g. IsResolved names (calls_in g.value)) fs → slice_get fs k ≡ Some f → IsResolved names (calls_in f.value)
resolved_at names [] k f all e = absurd cc
resolved_at names (g ∷ gs) zero f all e =
    let is : g ≡ f = cc in
    subst (λ (h : Definition). IsResolved names (calls_in h.value)) is all.0
resolved_at names (g ∷ gs) (suc k) f all e = resolved_at names gs k f all.1 e

named_own : (u : List Definition) (k : ℕ) (f : Definition) → names_functions [] u ≡ Ok tt → slice_get u k ≡ Some f → function_named u f.name ≡ Some f
named_own u k f e at =
    let same : 0 + k ≡ k = omega arith in
    function_named-number u f.name k (own_number [] u k f e at ∙ ap (λ (n : ℕ). Some n) same) ∙ at

-- ---- expressions

then_equal : (o p : Outcome) (f g : ℤ → ℕ → Outcome) → o ≡ p → ((x : ℤ) (left : ℕ) → f x left ≡ g x left) → and_then o f ≡ and_then p g
then_equal (Returned x left) p f g e h = rw (← e) (h x left)
then_equal Undefined p f g e h = rw (← e) refl
then_equal Running p f g e h = rw (← e) refl

-- the value alone, as unary plus gives it
then_same : (o : Outcome) → o ≡ and_then o (λ x left. given (Some x) left)
then_same (Returned x left) = refl
then_same Undefined = refl
then_same Running = refl

-- where a plain operator stands for one of the source, they do the same
operators_agree : (op : BinaryOperator) (p : PlainOperator) → plain_operator op ≡ Some p → (x y : ℤ) → binary_result p x y ≡ binary_meaning op x y
operators_agree binary.Multiply p e x y = rw (← some_is _ p e) refl
operators_agree binary.Divide p e x y = rw (← some_is _ p e) refl
operators_agree binary.Remainder p e x y = rw (← some_is _ p e) refl
operators_agree binary.Add p e x y = rw (← some_is _ p e) refl
operators_agree binary.Subtract p e x y = rw (← some_is _ p e) refl
operators_agree binary.BitAnd p e x y = rw (← some_is _ p e) refl
operators_agree binary.BitXor p e x y = rw (← some_is _ p e) refl
operators_agree binary.BitOr p e x y = rw (← some_is _ p e) refl
operators_agree binary.ShiftLeft p e x y = absurd cc
operators_agree binary.ShiftRight p e x y = absurd cc
operators_agree binary.Less p e x y = absurd cc
operators_agree binary.LessEqual p e x y = absurd cc
operators_agree binary.Greater p e x y = absurd cc
operators_agree binary.GreaterEqual p e x y = absurd cc
operators_agree binary.Equal p e x y = absurd cc
operators_agree binary.NotEqual p e x y = absurd cc
operators_agree binary.And p e x y = absurd cc
operators_agree binary.Or p e x y = absurd cc

-- plain calls by numbers do what calls by names do
abbrev Agree : List Declared → (ℕ → ℕ → Outcome) → (List ℕ → ℕ → Outcome) → Type 0
Agree names calls called = (name : List ℕ) (j : ℕ) → number_of name names ≡ Some j → (n : ℕ) → calls j n ≡ called name n

int_runs : (calls : ℕ → ℕ → Outcome) (b : Bool) (at : Place) (value n : ℕ) → cond b None (Some at) ≡ None → run_expr calls (cond b (PlainConstant (pos value)) unbuilt) n ≡ Returned (pos value) n
int_runs calls true at value n built = refl
int_runs calls false at value n built = absurd cc

call_runs : (names : List Declared) (calls : ℕ → ℕ → Outcome) (called : List ℕ → ℕ → Outcome) → Agree names calls called → (o : Option Mention) (at : Place) (n : ℕ) → cond (is_some o) None (Some at) ≡ None
    → IsResolved names (option_to_list o) → run_expr calls (plain_call names o) n ≡ call_of called o n
call_runs names calls called h None at n built resolved = absurd cc
call_runs names calls called h (Some c) at n built resolved = rw resolved.0.1 (h c.name resolved.0.0 resolved.0.1 n)

unary_runs : (calls : ℕ → ℕ → Outcome) (op : UnaryOperator) (at : Place) (inner : Option Place) (plain : PlainExpr) (o : Outcome) (n : ℕ) → cond (is_built_unary op) inner (Some at) ≡ None
    → (inner ≡ None → run_expr calls plain n ≡ o) → run_expr calls (plain_unary op plain) n ≡ and_then o (λ x left. given (unary_meaning op x) left)
unary_runs calls unary.Plus at inner plain o n built h = h built ∙ then_same o
unary_runs calls unary.Minus at inner plain o n built h = ap (λ p. and_then p (λ x left. given (negation x) left)) (h built)
unary_runs calls unary.Complement at inner plain o n built h = ap (λ p. and_then p (λ x left. given (complement x) left)) (h built)
unary_runs calls unary.Not at inner plain o n built h = absurd cc
unary_runs calls unary.Increment at inner plain o n built h = absurd cc
unary_runs calls unary.Decrement at inner plain o n built h = absurd cc

binary_runs : (calls : ℕ → ℕ → Outcome) (op : BinaryOperator) (q : Option PlainOperator) (at : Place) (a b : Option Place) (left right : PlainExpr) (first : Outcome) (second : ℕ → Outcome) (n : ℕ) → plain_operator op ≡ q
    → cond (is_some q) (first_of a b) (Some at) ≡ None → (a ≡ None → run_expr calls left n ≡ first) → (b ≡ None → (m : ℕ) → run_expr calls right m ≡ second m)
    → run_expr calls (plain_binary q left right) n ≡ and_then first (λ x m. and_then (second m) (λ y k. given (binary_meaning op x y) k))
binary_runs calls op None at a b left right first second n is built h k = absurd cc
binary_runs calls op (Some p) at a b left right first second n is built h k =
    let both = first_none a b built in
    then_equal (run_expr calls left n) first _ _ (h both.0) (λ x m. then_equal (run_expr calls right m) (second m) _ _ (k both.1 m) (λ y l. ap (λ r. given r l) (operators_agree op p is x y)))

value_runs : (names : List Declared) (calls : ℕ → ℕ → Outcome) (called : List ℕ → ℕ → Outcome) → Agree names calls called → (e : ExprTree) → unbuilt_in e ≡ None → IsResolved names (calls_in e)
    → (n : ℕ) → run_expr calls (plain_expr names e) n ≡ value_meaning called e n
value_runs names calls called h (IntTree m scalar.Int value) built resolved n = int_runs calls (nat_le value 2147483647) m.at value n built
value_runs names calls called h (IntTree m scalar.Bool value) built resolved n = absurd cc
value_runs names calls called h (IntTree m scalar.Unsigned value) built resolved n = absurd cc
value_runs names calls called h (IntTree m scalar.LongLong value) built resolved n = absurd cc
value_runs names calls called h (IntTree m scalar.ULongLong value) built resolved n = absurd cc
value_runs names calls called h (CallTree m callee arguments) built resolved n = call_runs names calls called h (mention_of callee arguments) m.at n built resolved
value_runs names calls called h (GroupTree m inner) built resolved n = value_runs names calls called h inner built resolved n
value_runs names calls called h (UnaryTree m op operand) built resolved n =
    unary_runs calls op m.at (unbuilt_in operand) (plain_expr names operand) (value_meaning called operand n) n built (λ fine. value_runs names calls called h operand fine resolved n)
value_runs names calls called h (BinaryTree m op left right) built resolved n =
    let both = resolved_split names (calls_in left) (calls_in right) resolved in
    binary_runs calls op (plain_operator op) m.at (unbuilt_in left) (unbuilt_in right) (plain_expr names left) (plain_expr names right) (value_meaning called left n) (value_meaning called right) n refl built
    (λ fine. value_runs names calls called h left fine both.0 n) (λ fine m. value_runs names calls called h right fine both.1 m)
value_runs names calls called h (BoolTree m v) built resolved n = absurd cc
value_runs names calls called h (NameTree m v) built resolved n = absurd cc
value_runs names calls called h (TemplateTree m v as') built resolved n = absurd cc
value_runs names calls called h (QualifiedTree m t ns) built resolved n = absurd cc
value_runs names calls called h (ListTree m t is) built resolved n = absurd cc
value_runs names calls called h (StaticCastTree m t o) built resolved n = absurd cc
value_runs names calls called h (IsSameTree m l r) built resolved n = absurd cc
value_runs names calls called h (OutTree m o) built resolved n = absurd cc
value_runs names calls called h (MemberTree m o v) built resolved n = absurd cc
value_runs names calls called h (PostfixTree m p o) built resolved n = absurd cc
value_runs names calls called h (ConditionalTree m c t o) built resolved n = absurd cc
value_runs names calls called h (AssignmentTree m p t v) built resolved n = absurd cc
value_runs names calls called h (RequiresTree m ps rs) built resolved n = absurd cc

-- ---- functions

-- the plain functions of a unit
abbrev plain_functions : List Definition → List PlainFunction
plain_functions u = map (plain_function (map declared u)) u

body_runs : (u : List Definition) (k : ℕ) (f : Definition) (n : ℕ) (calls : ℕ → ℕ → Outcome) (called : List ℕ → ℕ → Outcome) → AreBuilt u → names_functions [] u ≡ Ok tt → slice_get u k ≡ Some f
    → Agree (map declared u) calls called → run_body calls (slice_get (plain_functions u) k) n ≡ body_meaning called (function_named u f.name) n
body_runs u k f n calls called built e at h =
    rw (slice_get-map (plain_function (map declared u)) u k f at, named_own u k f e at)
    (value_runs (map declared u) calls called h f.value (built k f at) (resolved_at (map declared u) u k f (all_resolved [] u e) at) n)

call_runs_at : (u : List Definition) → AreBuilt u → names_functions [] u ≡ Ok tt → (depth k : ℕ) (f : Definition) → slice_get u k ≡ Some f → (n : ℕ) → run_call depth (plain_functions u) k n ≡ call_meaning depth u f.name n
unfolding run_call call_meaning
call_runs_at u built e zero k f at n = refl
call_runs_at u built e (suc depth) k f at zero = refl
call_runs_at u built e (suc depth) k f at (suc n) = body_runs u k f n (run_call depth (plain_functions u)) (call_meaning depth u) built e at (λ name j h m.
    let there = function_there u name j h in
    call_runs_at u built e depth j there.0 there.1 m ∙ ap (λ q. call_meaning depth u q m) (sym there.2))

pub runs : (u : UnitTree) (fs : List Definition) → forms_unit u ≡ Ok fs → names_functions [] fs ≡ Ok tt → (n k : ℕ) (f : Definition) → slice_get fs k ≡ Some f
    → run n (map (plain_function (map declared fs)) fs) k ≡ meaning n fs f.name
unfolding run meaning
runs u fs forms e n k f at =
    let built = forms_built u fs forms in
    body_runs fs k f n (run_call n (plain_functions fs)) (call_meaning n fs) built e at (λ name j h m.
    let there = function_there fs name j h in
    call_runs_at fs built e n j there.0 there.1 m ∙ ap (λ q. call_meaning n fs q m) (sym there.2))

-- ---- typing

below_step : (b : Bool) (r : Option ℕ) (j n : ℕ) → ((i : ℕ) → r ≡ Some i → i < n) → cond b (Some 0) (option_map (λ k. k + 1) r) ≡ Some j → j < suc n
below_step true r j n h e =
    let is : 0 ≡ j = cc in
    omega (arith, is)
below_step false None j n h e = absurd cc
below_step false (Some i) j n h e =
    let is : i + 1 ≡ j = cc in
    omega (arith, is, h i refl)

number_of-below : (q : List ℕ) (ds : List Declared) (j : ℕ) → number_of q ds ≡ Some j → j < length ds
number_of-below q [] j e = absurd cc
number_of-below q (d ∷ ds) j e = below_step (bytes_eq q d.name) (number_of q ds) j (length ds) (λ i h. number_of-below q ds i h) e

zero_fits : FitsSigned w32 (pos 0)
zero_fits = record { sfits = lit< tt }

typed_call : (names : List Declared) (o : Option Mention) → IsResolved names (option_to_list o) → IsTypedExpr (length names) (plain_call names o)
typed_call names None resolved = zero_fits
typed_call names (Some c) resolved = rw resolved.0.1 (number_of-below c.name names resolved.0.0 resolved.0.1)

int_fits : (count : ℕ) (value : ℕ) (b : Bool) → nat_le value 2147483647 ≡ b → IsTypedExpr count (cond b (PlainConstant (pos value)) unbuilt)
int_fits count value true e = record { sfits = omega (arith, leb-true value 2147483647 e) }
int_fits count value false e = zero_fits

typed_int : (count : ℕ) (s : Scalar) (value : ℕ) → IsTypedExpr count (cond (is_int_literal s value) (PlainConstant (pos value)) unbuilt)
typed_int count scalar.Int value = int_fits count value (nat_le value 2147483647) refl
typed_int count scalar.Bool value = zero_fits
typed_int count scalar.Unsigned value = zero_fits
typed_int count scalar.LongLong value = zero_fits
typed_int count scalar.ULongLong value = zero_fits

typed_unary : (count : ℕ) (op : UnaryOperator) (e : PlainExpr) → IsTypedExpr count e → IsTypedExpr count (plain_unary op e)
typed_unary count unary.Plus e typed = typed
typed_unary count unary.Minus e typed = typed
typed_unary count unary.Complement e typed = typed
typed_unary count unary.Not e typed = zero_fits
typed_unary count unary.Increment e typed = zero_fits
typed_unary count unary.Decrement e typed = zero_fits

typed_binary : (count : ℕ) (q : Option PlainOperator) (l r : PlainExpr) → IsTypedExpr count l → IsTypedExpr count r → IsTypedExpr count (plain_binary q l r)
typed_binary count None l r left right = zero_fits
typed_binary count (Some p) l r left right = (left, right)

typed_value : (names : List Declared) (e : ExprTree) → IsResolved names (calls_in e) → IsTypedExpr (length names) (plain_expr names e)
typed_value names (IntTree m s value) resolved = typed_int (length names) s value
typed_value names (CallTree m callee arguments) resolved = typed_call names (mention_of callee arguments) resolved
typed_value names (GroupTree m inner) resolved = typed_value names inner resolved
typed_value names (UnaryTree m op operand) resolved = typed_unary (length names) op (plain_expr names operand) (typed_value names operand resolved)
typed_value names (BinaryTree m op left right) resolved =
    let both = resolved_split names (calls_in left) (calls_in right) resolved in
    typed_binary (length names) (plain_operator op) (plain_expr names left) (plain_expr names right) (typed_value names left both.0) (typed_value names right both.1)
typed_value names (BoolTree m v) resolved = zero_fits
typed_value names (NameTree m v) resolved = zero_fits
typed_value names (TemplateTree m v as') resolved = zero_fits
typed_value names (QualifiedTree m t ns) resolved = zero_fits
typed_value names (ListTree m t is) resolved = zero_fits
typed_value names (StaticCastTree m t o) resolved = zero_fits
typed_value names (IsSameTree m l r) resolved = zero_fits
typed_value names (OutTree m o) resolved = zero_fits
typed_value names (MemberTree m o v) resolved = zero_fits
typed_value names (PostfixTree m p o) resolved = zero_fits
typed_value names (ConditionalTree m c t o) resolved = zero_fits
typed_value names (AssignmentTree m p t v) resolved = zero_fits
typed_value names (RequiresTree m ps rs) resolved = zero_fits

typed_functions : (names : List Declared) (fs : List Definition) → AllByRecursion (λ f. IsResolved names (calls_in f.value)) fs → AllByRecursion (IsTypedFunction (length names)) (map (plain_function names) fs)
typed_functions names [] all = tt
typed_functions names (f ∷ fs) all = (typed_value names f.value all.0, typed_functions names fs all.1)

length-mapped : {X Y Z : Type 0} (g : X → Y) (h : X → Z) (xs : List X) → length (map g xs) ≡ length (map h xs)
length-mapped g h [] = refl
length-mapped g h (x ∷ xs) = ap suc (length-mapped g h xs)

pub is_typed : (u : List Definition) → names_functions [] u ≡ Ok tt → AllByRecursion (IsTypedFunction (length (map (plain_function (map declared u)) u))) (map (plain_function (map declared u)) u)
is_typed u e =
    subst (λ (n : ℕ). AllByRecursion (IsTypedFunction n) (map (plain_function (map declared u)) u)) (length-mapped declared (plain_function (map declared u)) u)
    (typed_functions (map declared u) u (all_resolved [] u e))
