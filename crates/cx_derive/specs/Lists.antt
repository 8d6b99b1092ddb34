-- Lists without repeats.
use Rattle.std.specs.Prelude.{Bool, List, [], ◌∷◌, ◌++◌, fold, if◌then◌else◌}
use Rattle.std.specs.List.{list_any}

module _ {X : Type 0} (same : X → X → Bool) where
  -- whether x is one of xs
  abbrev pub is_among : List X → X → Bool
  is_among xs x = list_any (same x) xs

  -- the list with x at its end, where it has it not already
  abbrev pub with_new : List X → X → List X
  with_new xs x = if is_among xs x then xs else xs ++ x ∷ []

  -- a list, and after it what is new of another
  unfoldable pub with_all : List X → List X → List X
  with_all xs ys = fold with_new xs ys

  -- the elements in their order, without those that stand earlier in the list
  abbrev pub without_repeats : List X → List X
  without_repeats ys = with_all [] ys
