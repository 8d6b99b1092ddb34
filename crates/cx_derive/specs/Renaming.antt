-- Sequents and derivations with their atoms renamed.
use Rattle.std.specs.Prelude.{Bool, List, [], ◌∷◌, map}
use Rattle.cx_prop.specs.Formula.{Formula, AtomsAre, renamed}
use Rattle.cx_derive.specs.Sequents.{Sequent}
use Rattle.cx_derive.specs.Derivations.{Inference}

abbrev pub renamed_sequent : {A B : Type 0} → (A → B) → Sequent A → Sequent B
renamed_sequent f s = record { left = map (renamed f) s.left; right = map (renamed f) s.right }

abbrev pub renamed_inference : {A B : Type 0} → (A → B) → Inference A → Inference B
renamed_inference f i = record { rule = i.rule; conclusion = renamed_sequent f i.conclusion; premises = i.premises }

-- each element of a list is of a kind
abbrev pub Each : {X : Type 0} → (X → Type 0) → List X → Type 0
Each P [] = Unit {0}
Each P (x ∷ xs) = P x × Each P xs

-- the atoms of each formula of a sequent are of a kind
abbrev pub SequentIs : {A : Type 0} → (A → Bool) → Sequent A → Type 0
SequentIs kind s = Each (AtomsAre kind) s.left × Each (AtomsAre kind) s.right

-- ... of each conclusion of a derivation
abbrev pub StepsAre : {A : Type 0} → (A → Bool) → List (Inference A) → Type 0
StepsAre kind d = Each (λ i. SequentIs kind i.conclusion) d
