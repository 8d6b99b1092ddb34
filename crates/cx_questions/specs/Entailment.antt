-- Entailment as a test ([temp.constr.order]): truth under each choice of the atoms that are true.
use Rattle.std.specs.Prelude.{Bool, not, ◌||◌, List, [], ◌∷◌, ◌++◌, map, IsTrue, ◌↔◌, if◌then◌else◌}
use Rattle.std.specs.List.{list_all}
use Rattle.cx_prop.specs.Formula.{Formula, Atom, And, Or, IsEquality}
use Rattle.cx_prop.specs.Truth.{truth, among, Entails}

-- the atoms of a formula, each as often as it stands there
abbrev pub atoms : {A : Type 0} → Formula A → List A
atoms (Atom a) = a ∷ []
atoms (And p q) = atoms p ++ atoms q
atoms (Or p q) = atoms p ++ atoms q

-- the elements of a list, each once
abbrev pub distinct : {A : Type 0} → (A → A → Bool) → List A → List A
distinct same [] = []
distinct same (a ∷ rest) = if among same rest a then distinct same rest else a ∷ distinct same rest

-- every choice of elements of a list
abbrev pub choices : {A : Type 0} → List A → List (List A)
choices [] = [] ∷ []
choices (a ∷ rest) = choices rest ++ map (λ c. a ∷ c) (choices rest)

-- whether P entails Q: whichever of their atoms are the true ones, Q is true where P is
abbrev pub entails : {A : Type 0} → (A → A → Bool) → Formula A → Formula A → Bool
entails same p q = list_all (λ c. not (truth (among same c) p) || truth (among same c) q) (choices (distinct same (atoms p ++ atoms q)))

-- the test tells truth under every valuation
abbrev pub LawOfEntailment : Type 0 → Type 0
LawOfEntailment A = (same : A → A → Bool) → IsEquality same → (p q : Formula A) → IsTrue (entails same p q) ↔ Entails p q
