-- The names of a unit, found one function after the other.
use Rattle.std.proofs.Common.{◌≡◌, ℕ, ◌+◌, ◌<◌, ◌≤◌, List, [], ◌∷◌, ◌++◌, length, get_or, take, drop, Result, Ok, Err, refl, ap, sym, ◌∙◌, subst}
use Rattle.std.specs.Prelude.{map}
use Rattle.std.proofs.lemmas.List.{take_more, take_all, drop_more, drop_all, map_push}
use Rattle.cx_base.specs.Refusal.{Refusal, Stops, ◌>>=◌}
use Rattle.cx_base.specs.declared.stop.Stop.{Stop}
use Rattle.cx_base.specs.declared.stop.Stop.TheVariants as stop
use Rattle.cx_base.specs.declared.numbers.NodeId.{NodeId}
use Rattle.cx_base.specs.declared.place.Place.{Place}
use Rattle.cx_tree.specs.declared.operators.BinaryOperator.{BinaryOperator}
use Rattle.cx_tree.specs.declared.expression.Expr.TheVariants as expr
use Rattle.cx_tree.specs.Trees.{expr_tree}
use Rattle.cx_tree.proofs.Productions.{binary_tree}
use Rattle.cx_engine.specs.declared.definitions.Definition.{Definition as Written}
use Rattle.cx_engine.specs.Definitions.{Definition, definition_tree}
use Rattle.cx_engine.specs.Forms.{Mention}
use Rattle.cx_engine.specs.Names.{Declared, declared, declaration_of, is_known, calls_in, names_called, names_function, names_functions}

abbrev pub trees : List Written → List Definition
trees fs = map definition_tree fs

-- what the functions so far declare, and what is left to find
pub record Resolving (fs : List Written) (i : ℕ) (names : List Declared) : Type 0 where
  pub so_far : names ≡ map declared (trees (take i fs))
  pub rest : names_functions names (trees (drop i fs)) ≡ names_functions [] (trees fs)

-- the names of one part behind those of another
then_same : {B : Type 0} (m : Result (Unit {0}) Refusal) (k : Result (Unit {0}) Refusal) (r l : Result B Refusal) → ((x : Unit {0}) → r ≡ (k >>= λ _. l)) → (m >>= λ _. r) ≡ ((m >>= λ _. k) >>= λ _. l)
then_same (Ok x) k r l h = h x
then_same (Err e) k r l h = refl

pub names_called_append : (names : List Declared) (cs ds : List Mention) → names_called names (cs ++ ds) ≡ (names_called names cs >>= λ _. names_called names ds)
unfolding names_called
names_called_append names [] ds = refl
names_called_append names (c ∷ cs) ds = then_same (is_known c.at (declaration_of c.name names)) (names_called names cs) (names_called names (cs ++ ds)) (names_called names ds) (λ x. names_called_append names cs ds)

-- a stage that stops stops what comes behind it
pub Stops-then : {A B : Type 0} (e : Stop) (m : Result A Refusal) (f : A → Result B Refusal) → Stops e m → Stops e (m >>= f)
Stops-then stop.NoMemory m f h = tt
Stops-then (stop.Fault d) m f h = rw h refl
Stops-then (stop.Limit l at) m f h = rw h refl

pub goes_on : (fs : List Written) (i : ℕ) (d : Written) (names more : List Declared) → i < length fs → names_function names (definition_tree (get_or fs i d)) ≡ Ok tt
    → more ≡ names ++ declared (definition_tree (get_or fs i d)) ∷ [] → Resolving fs i names → Resolving fs (i + 1) more
unfolding names_functions
goes_on fs i d names more below found adds h =
    let f = get_or fs i d in
    let one : names_functions names (trees (drop i fs)) ≡ names_functions more (trees (drop (i + 1) fs)) = rw (drop_more fs i d below, found, adds) refl in
    record {
      so_far = adds ∙ ap (λ (n : List Declared). n ++ declared (definition_tree f) ∷ []) h.so_far ∙ sym (rw (take_more fs i d below) (simp map_push refl));
      rest = sym one ∙ h.rest;
    }

pub stops_there : (fs : List Written) (i : ℕ) (d : Written) (names : List Declared) (e : Stop) → i < length fs → Stops e (names_function names (definition_tree (get_or fs i d)))
    → Resolving fs i names → Stops e (names_functions [] (trees fs))
unfolding names_functions
stops_there fs i d names e below stops h =
    let f = get_or fs i d in
    let one : names_functions names (trees (drop i fs)) ≡ (names_function names (definition_tree f) >>= λ _. names_functions (names ++ declared (definition_tree f) ∷ []) (trees (drop (i + 1) fs))) = rw (drop_more fs i d below) refl in
    subst (λ m. Stops e m) (sym one ∙ h.rest) (Stops-then e (names_function names (definition_tree f)) (λ _. names_functions (names ++ declared (definition_tree f) ∷ []) (trees (drop (i + 1) fs))) stops)

pub ends : (fs : List Written) (i : ℕ) (names : List Declared) → length fs ≤ i → Resolving fs i names → (names_functions [] (trees fs) ≡ Ok tt) × (names ≡ map declared (trees fs))
unfolding names_functions
ends fs i names above h =
    let none : names_functions names (trees (drop i fs)) ≡ Ok tt = rw (drop_all i fs above) refl in
    (sym h.rest ∙ none, h.so_far ∙ ap (λ (gs : List Written). map declared (trees gs)) (take_all i fs above))

-- the calls of a binary expression are those of its operands, the left one's first
pub binary_calls : (n : NodeId) (at : Place) (operator : BinaryOperator) (left : _) (right : _) → calls_in (expr_tree (expr.Binary n at operator left right)) ≡ calls_in (expr_tree left.value) ++ calls_in (expr_tree right.value)
binary_calls n at operator left right = ap calls_in (binary_tree n at operator left right)
