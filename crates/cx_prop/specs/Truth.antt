-- Truth of formulas, and entailment.
use Rattle.std.specs.Prelude.{Bool, false, ◌&&◌, ◌||◌, List, [], ◌∷◌, IsTrue, if◌then◌else◌}
use Rattle.std.specs.List.{list_any}
use Rattle.cx_prop.specs.Formula.{Formula, Atom, And, Or}

-- which atoms are satisfied
abbrev pub Valuation : Type 0 → Type 0
Valuation A = A → Bool

-- whether a formula is satisfied ([temp.constr.op]), as truth under a valuation
abbrev pub truth : {A : Type 0} → Valuation A → Formula A → Bool
truth v (Atom a) = v a
truth v (And p q) = truth v p && truth v q
truth v (Or p q) = truth v p || truth v q

-- P entails Q: whatever makes P true makes Q true
abbrev pub Entails : {A : Type 0} → Formula A → Formula A → Type 0
Entails {A} p q = (v : Valuation A) → IsTrue (truth v p) → IsTrue (truth v q)

-- the valuation under which just the listed atoms are true, by a test of atoms
abbrev pub among : {A : Type 0} → (A → A → Bool) → List A → Valuation A
among same atoms a = list_any (same a) atoms

-- the valuation that gives each atom of a list the truth value at the same place of another
abbrev pub assigned : {A : Type 0} → (A → A → Bool) → List A → List Bool → Valuation A
assigned same [] values a = false
assigned same (x ∷ atoms) [] a = false
assigned same (x ∷ atoms) (b ∷ values) a = if same a x then b else assigned same atoms values a
