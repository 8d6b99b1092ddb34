-- What a relation "better" singles out of a list ([over.match.best]): of functions, and of the specialisations of a class
-- template.
use Rattle.std.specs.Prelude.{Bool, not, List, [], ◌∷◌, ◌++◌, filter, option_map, Option, find}
use Rattle.std.specs.List.{list_all, list_any}

-- each member of a list with all others; those before it come first
abbrev pub each_after : {A : Type 0} → (before : List A) → List A → List (A × List A)
each_after before [] = []
each_after before (x ∷ xs) = (x, before ++ xs) ∷ each_after (before ++ x ∷ []) xs

abbrev pub each_with_others : {A : Type 0} → List A → List (A × List A)
each_with_others xs = each_after [] xs

module _ {A : Type 0} (better : A → A → Bool) where
  -- the member that is better than every other, with the others
  abbrev pub best_of : List A → Option (A × List A)
  best_of xs = find (λ p. list_all (better p.0) p.1) (each_with_others xs)

  abbrev pub best : List A → Option A
  best xs = option_map (λ p. p.0) (best_of xs)

  -- the members that no member is better than
  abbrev pub unbeaten : List A → List A
  unbeaten xs = filter (λ x. not (list_any (λ y. better y x) xs)) xs

-- whether two different members are so related
abbrev pub some_pair : {A : Type 0} → (A → A → Bool) → List A → Bool
some_pair related xs = list_any (λ p. list_any (related p.0) p.1) (each_with_others xs)
