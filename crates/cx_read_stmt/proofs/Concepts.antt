-- The expression that a concept's name is.
use Rattle.std.specs.Prelude.{◌==◌}
use Rattle.std.proofs.Common.{◌≡◌, ℕ, Bool, true, false, List, [], ◌∷◌, length, map, refl, IfOk, Result, Ok, Err}
use Rattle.cx_productions.specs.Trees.{Mark, NameTree, TemplateTree, ArgumentTree, TypeArgument, ValueArgument, arguments, with_argument, ArgumentTrees}
use Rattle.cx_productions.specs.Statements.{with_arguments}

some_argument : (m : Mark) (name : List ℕ) (a : ArgumentTree) (rest : ArgumentTrees) → with_arguments m name (with_argument a rest) ≡ TemplateTree m name (with_argument a rest)
some_argument m name (TypeArgument t) rest = refl
some_argument m name (ValueArgument e) rest = refl

pub with_some : {X : Type 0} (f : X → ArgumentTree) (m : Mark) (name : List ℕ) (xs : List X) → (length xs == 0) ≡ false → with_arguments m name (arguments (map f xs)) ≡ TemplateTree m name (arguments (map f xs))
with_some f m name [] e = absurd cc
with_some f m name (x ∷ xs) e = some_argument m name (f x) (arguments (map f xs))

-- what holds of a value
pub if_ok : {X E : Type 0} (P Q : X → Type 0) → ((x : X) → P x → Q x) → (r : Result X E) → IfOk r P → IfOk r Q
if_ok P Q f (Ok x) p = f x p
if_ok P Q f (Err e) p = tt
