-- The laws of derivations and of the search, for atoms of every kind. A test of atoms is one of their equality.
use Rattle.std.specs.Prelude.{◌≡◌, ◌↔◌, ℕ, ◌≤◌, Bool, List, [], ◌∷◌, ◌++◌, map, Option, None, option_map}
use Rattle.std.specs.List.{flat_map}
use Rattle.cx_prop.specs.Formula.{Formula, IsEquality, AtomsAre, TellsApart, renamed}
use Rattle.cx_prop.specs.Truth.{Entails}
use Rattle.cx_derive.specs.Sequents.{Sequent}
use Rattle.cx_derive.specs.Derivations.{Inference, IsRight, EndsWith, against}
use Rattle.cx_derive.specs.Search.{chosen, premises_of, depth, sequents_to, first_some, open_at, leaf_to, sequents_below, open_leaf, canonical}
use Rattle.cx_derive.specs.Renaming.{renamed_sequent, renamed_inference, StepsAre}

-- whoever made it: a right derivation of P against Q shows that P entails Q
abbrev pub LawOfDerivations : Type 0 → Type 0
LawOfDerivations A = (same : A → A → Bool) → IsEquality same → (d : List (Inference A)) (p q : Formula A) → IsRight same d → EndsWith d (against p q) → Entails p q

-- The two equations of the search. A sequent's search comes to what those of its premises come to, and then to the
-- sequent itself; its open leaf is the first of theirs, or the sequent where no rule fits it. And the bound on the depth
-- is of no matter where it is at least the number of connectives.
pub record LawOfSearch (A : Type 0) : Type 0 where
  pub sequents : (same : A → A → Bool) (s : Sequent A) → sequents_below same s ≡ flat_map (sequents_below same) (premises_of (chosen same s)) ++ s ∷ []
  pub leaf : (same : A → A → Bool) (s : Sequent A) → open_leaf same s ≡ open_at s (chosen same s) (first_some (open_leaf same) (premises_of (chosen same s)))
  pub sequents_deep : (same : A → A → Bool) (n : ℕ) (s : Sequent A) → depth s ≤ n → sequents_to same n s ≡ sequents_below same s
  pub leaf_deep : (same : A → A → Bool) (n : ℕ) (s : Sequent A) → depth s ≤ n → leaf_to same n s ≡ open_leaf same s

-- the search meets no open leaf exactly where P entails Q, and then the canonical derivation is right and ends with P
-- against Q
pub record LawOfCanonicalDerivations (A : Type 0) : Type 0 where
  pub decides : (same : A → A → Bool) → IsEquality same → (p q : Formula A) → (open_leaf same (against p q) ≡ None) ↔ Entails p q
  pub right : (same : A → A → Bool) → IsEquality same → (p q : Formula A) → open_leaf same (against p q) ≡ None → IsRight same (canonical same p q)
  pub ends : (same : A → A → Bool) → IsEquality same → (p q : Formula A) → open_leaf same (against p q) ≡ None → EndsWith (canonical same p q) (against p q)

-- renaming that tells the atoms of a kind apart keeps canonical derivations, open leaves and right steps over these
pub record LawOfRenamedDerivations (A B : Type 0) : Type 0 where
  pub canonical_kept : (f : A → B) (kind : A → Bool) → TellsApart kind f → (same : A → A → Bool) → IsEquality same → (named : B → B → Bool) → IsEquality named
      → (p q : Formula A) → AtomsAre kind p → AtomsAre kind q → canonical named (renamed f p) (renamed f q) ≡ map (renamed_inference f) (canonical same p q)
  pub leaf_kept : (f : A → B) (kind : A → Bool) → TellsApart kind f → (same : A → A → Bool) → IsEquality same → (named : B → B → Bool) → IsEquality named
      → (p q : Formula A) → AtomsAre kind p → AtomsAre kind q → open_leaf named (against (renamed f p) (renamed f q)) ≡ option_map (renamed_sequent f) (open_leaf same (against p q))
  pub right_kept : (f : A → B) (kind : A → Bool) → TellsApart kind f → (same : A → A → Bool) → IsEquality same → (named : B → B → Bool) → IsEquality named
      → (d : List (Inference A)) → StepsAre kind d → IsRight named (map (renamed_inference f) d) ↔ IsRight same d
