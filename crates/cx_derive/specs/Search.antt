-- The canonical search of a derivation, and what it finds.
use Rattle.std.specs.Prelude.{ℕ, Bool, zero, suc, ◌+◌, List, [], ◌∷◌, ◌++◌, map, Option, Some, None}
use Rattle.std.specs.List.{flat_map, position_or_len}
use Rattle.std.specs.Option.{option_or}
use Rattle.cx_prop.specs.Formula.{Formula, Atom, And, Or}
use Rattle.cx_derive.specs.declared.rule.SequentRule.{SequentRule}
use Rattle.cx_derive.specs.declared.rule.SequentRule.TheVariants as rule
use Rattle.cx_derive.specs.Lists.{without_repeats}
use Rattle.cx_derive.specs.Sequents.{Sequent, same_sequent, premises}
use Rattle.cx_derive.specs.Derivations.{Inference, against}

-- a rule with the premises that it asks for
abbrev pub Choice : Type 0 → Type 0
Choice A = SequentRule × List (Sequent A)

abbrev pub or_else : {A : Type 0} → Option (List (Sequent A)) → SequentRule → Option (Choice A) → Option (Choice A)
or_else (Some ps) r later = Some (r, ps)
or_else None r later = later

-- the first rule of a list that fits
abbrev pub first_fit : {A : Type 0} → (A → A → Bool) → List SequentRule → Sequent A → Option (Choice A)
first_fit same [] s = None
first_fit same (r ∷ rs) s = or_else (premises same r s) r (first_fit same rs s)

-- the rule that the search takes: `id` where it fits, else one on the left, else one on the right
unfoldable pub chosen : {A : Type 0} → (A → A → Bool) → Sequent A → Option (Choice A)
chosen same s = first_fit same (rule.Id ∷ rule.AndL ∷ rule.OrL ∷ rule.OrR ∷ rule.AndR ∷ []) s

abbrev pub premises_of : {A : Type 0} → Option (Choice A) → List (Sequent A)
premises_of None = []
premises_of (Some c) = c.1

-- ---- how deep the search goes at most: each rule takes one connective away

abbrev pub connectives : {A : Type 0} → Formula A → ℕ
connectives (Atom a) = 0
connectives (And p q) = 1 + (connectives p + connectives q)
connectives (Or p q) = 1 + (connectives p + connectives q)

abbrev pub connectives_in : {A : Type 0} → List (Formula A) → ℕ
connectives_in [] = 0
connectives_in (p ∷ ps) = connectives p + connectives_in ps

abbrev pub depth : {A : Type 0} → Sequent A → ℕ
depth s = connectives_in s.left + connectives_in s.right

-- ---- the search

-- the sequents that the search from a sequent comes to, premises first
unfoldable pub sequents_to : {A : Type 0} → (A → A → Bool) → ℕ → Sequent A → List (Sequent A)
sequents_to same zero s = s ∷ []
sequents_to same (suc n) s = flat_map (sequents_to same n) (premises_of (chosen same s)) ++ s ∷ []

abbrev pub first_some : {X Y : Type 0} → (X → Option Y) → List X → Option Y
first_some f [] = None
first_some f (x ∷ xs) = option_or (f x) (first_some f xs)

abbrev pub open_at : {A : Type 0} → Sequent A → Option (Choice A) → Option (Sequent A) → Option (Sequent A)
open_at s None later = Some s
open_at s (Some c) later = later

-- the first sequent, in the order of premises, to which no rule fits
unfoldable pub leaf_to : {A : Type 0} → (A → A → Bool) → ℕ → Sequent A → Option (Sequent A)
leaf_to same zero s = open_at s (chosen same s) None
leaf_to same (suc n) s = open_at s (chosen same s) (first_some (leaf_to same n) (premises_of (chosen same s)))

abbrev pub sequents_below : {A : Type 0} → (A → A → Bool) → Sequent A → List (Sequent A)
sequents_below same s = sequents_to same (depth s) s

abbrev pub open_leaf : {A : Type 0} → (A → A → Bool) → Sequent A → Option (Sequent A)
open_leaf same s = leaf_to same (depth s) s

-- ---- the canonical derivation

-- the number of a sequent among others: its place
abbrev pub number_among : {A : Type 0} → (A → A → Bool) → List (Sequent A) → Sequent A → ℕ
number_among same all t = position_or_len (same_sequent same t) all

-- the step of a sequent in the derivation of these sequents
abbrev pub inference_by : {A : Type 0} → (A → A → Bool) → List (Sequent A) → Sequent A → Option (Choice A) → Inference A
inference_by same all s None = record { rule = rule.Id; conclusion = s; premises = [] }
inference_by same all s (Some c) = record { rule = c.0; conclusion = s; premises = map (number_among same all) c.1 }

abbrev pub inference_in : {A : Type 0} → (A → A → Bool) → List (Sequent A) → Sequent A → Inference A
inference_in same all s = inference_by same all s (chosen same s)

-- the steps of a list of sequents: each by the rule that the search takes
abbrev pub inferences : {A : Type 0} → (A → A → Bool) → List (Sequent A) → List (Inference A)
inferences same all = map (inference_in same all) all

-- the distinct sequents of the search from P against Q, premises first
abbrev pub canonical : {A : Type 0} → (A → A → Bool) → Formula A → Formula A → List (Inference A)
canonical same p q = inferences same (without_repeats (same_sequent same) (sequents_below same (against p q)))
