-- Numbered lists: each item stands once, its place is its number, and nothing but more items ever comes to the list.
-- The item of the number i is `slice_index_or xs i d`, whatever d is, where i is below the length.
use Rattle.std.specs.Prelude.{◌≡◌, ℕ, ◌<◌, ◌≤◌, Bool, List, [], ◌∷◌, ◌++◌, length, fold, slice_index_or, if◌then◌else◌}
use Rattle.std.specs.Bool.{Decides}
use Rattle.std.specs.List.{list_any}

-- a test of equality
abbrev pub DecidesEquality : {A : Type 0} → (A → A → Bool) → Type 0
DecidesEquality {A} same = (x y : A) → Decides (same x y) (x ≡ y)

-- i is a number of the list
abbrev pub Has : {A : Type 0} → List A → ℕ → Type 0
Has xs i = i < length xs

-- no item has two numbers
abbrev pub HasEachOnce : {A : Type 0} → List A → Type 0
HasEachOnce {A} xs = (i j : ℕ) (d : A) → i < length xs → j < length xs → slice_index_or xs i d ≡ slice_index_or xs j d → i ≡ j

-- i is the number of x, and x has no other
pub record IsNumberOf {A : Type 0} (xs : List A) (i : ℕ) (x : A) : Type 0 where
  pub has : i < length xs
  pub at : (d : A) → slice_index_or xs i d ≡ x
  pub alone : (j : ℕ) (d : A) → j < length xs → slice_index_or xs j d ≡ x → j ≡ i

-- a list has grown: each number of the old one is one of the new, and stands for the same item
pub record Grows {A : Type 0} (old new : List A) : Type 0 where
  pub longer : length old ≤ length new
  pub same : (i : ℕ) (d : A) → i < length old → slice_index_or new i d ≡ slice_index_or old i d

module _ {A : Type 0} (same : A → A → Bool) where
  -- whether x is one of xs
  abbrev pub is_among : List A → A → Bool
  is_among xs x = list_any (same x) xs

  -- the list in which x has a number: x is put last, unless it is there
  abbrev pub put : List A → A → List A
  put xs x = if is_among xs x then xs else xs ++ x ∷ []

  -- the list in which each of ys has a number, put there in their order
  unfoldable pub put_all : List A → List A → List A
  put_all xs ys = fold put xs ys
