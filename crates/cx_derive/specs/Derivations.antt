-- Derivations: lists of steps, each by its rule from earlier ones.
use Rattle.std.specs.Prelude.{◌≡◌, ℕ, Bool, List, [], ◌∷◌, ◌++◌, map, Some, slice_get, take}
use Rattle.cx_prop.specs.Formula.{Formula}
use Rattle.cx_derive.specs.declared.rule.SequentRule.{SequentRule}
use Rattle.cx_derive.specs.Sequents.{Sequent, premises}

-- a step: a sequent by a rule, with the numbers of the steps that are its premises
pub record Inference (A : Type 0) : Type 0 where
  pub rule : SequentRule
  pub conclusion : Sequent A
  pub premises : List ℕ

abbrev pub conclusions : {A : Type 0} → List (Inference A) → List (Sequent A)
conclusions d = map (λ i. i.conclusion) d

-- a step is right over earlier steps: its rule fits, and asks for the sequents that its numbers name
abbrev pub IsRightStep : {A : Type 0} → (A → A → Bool) → List (Inference A) → Inference A → Type 0
IsRightStep {A} same earlier i =
    (ps : List (Sequent A)) × (premises same i.rule i.conclusion ≡ Some ps) × (map (slice_get (conclusions earlier)) i.premises ≡ map Some ps)

-- every step of a derivation is right
abbrev pub IsRight : {A : Type 0} → (A → A → Bool) → List (Inference A) → Type 0
IsRight {A} same d = (k : ℕ) (i : Inference A) → slice_get d k ≡ Some i → IsRightStep same (take k d) i

-- one formula against another
abbrev pub against : {A : Type 0} → Formula A → Formula A → Sequent A
against p q = record { left = p ∷ []; right = q ∷ [] }

-- the last step derives a sequent
abbrev pub EndsWith : {A : Type 0} → List (Inference A) → Sequent A → Type 0
EndsWith {A} d s = (front : List (Inference A)) × (i : Inference A) × (d ≡ front ++ i ∷ []) × (i.conclusion ≡ s)
