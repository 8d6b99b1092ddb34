-- What the decision of entailment answers.
use Rattle.std.specs.Prelude.{◌≡◌, ℕ, List, map, Some, None, IsTrue, slice_get}
use Rattle.cx_prop.specs.Formula.{Formula, Atom}
use Rattle.cx_prop.specs.Truth.{truth, among, Entails}
use Rattle.cx_prop.specs.Table.{atoms_of}
use Rattle.cx_derive.specs.declared.deriv.Step.{Step}
use Rattle.cx_derive.specs.declared.answer.Answer.{Answer}
use Rattle.cx_derive.specs.declared.answer.Answer.TheVariants as answer
use Rattle.cx_derive.specs.Sequents.{Sequent}
use Rattle.cx_derive.specs.Goals.{formulas_at, HasAll}
use Rattle.cx_derive.specs.Derivations.{Inference, IsRight, EndsWith, against}
use Rattle.cx_derive.specs.Search.{open_leaf, canonical}
use Rattle.cx_prop.specs.Interned.{Interned, same_interned}

-- the step that a stored step is
abbrev pub inference_of : List (Formula Interned) → Step → Inference Interned
inference_of table s = record { rule = s.rule; conclusion = record { left = formulas_at table s.left.items; right = formulas_at table s.right.items }; premises = s.premises.items }

-- the answer is the canonical derivation, or has the left atoms of the open leaf
abbrev pub IsAnswer : List (Formula Interned) → Formula Interned → Formula Interned → Answer → Type 0
IsAnswer table p q (answer.Derived d) = (open_leaf same_interned (against p q) ≡ None) × (map (inference_of table) d ≡ canonical same_interned p q)
IsAnswer table p q (answer.Separated v) = (s : Sequent Interned) × (open_leaf same_interned (against p q) ≡ Some s) × (formulas_at table v ≡ s.left)

abbrev pub IsDerived : Answer → Type 0
IsDerived (answer.Derived d) = Unit {0}
IsDerived (answer.Separated v) = ⊥

-- what each answer shows: a right derivation, and entailment; or a valuation that makes P true and Q false
abbrev pub Shows : List (Formula Interned) → Formula Interned → Formula Interned → Answer → Type 0
Shows table p q (answer.Derived d) = Entails p q × IsRight same_interned (map (inference_of table) d) × EndsWith (map (inference_of table) d) (against p q)
Shows table p q (answer.Separated v) = IsTrue (truth (among same_interned (atoms_of (formulas_at table v))) p) × (IsTrue (truth (among same_interned (atoms_of (formulas_at table v))) q) → ⊥)

-- the numbers of a stored step are of the table
pub record HasStep (table : List (Formula Interned)) (s : Step) : Type 0 where
  pub left : HasAll table s.left.items
  pub right : HasAll table s.right.items

abbrev pub HasSteps : List (Formula Interned) → List Step → Type 0
HasSteps table d = (i : ℕ) (s : Step) → slice_get d i ≡ Some s → HasStep table s

-- each of the formulas is an atom
abbrev pub AreAtoms : {A : Type 0} → List (Formula A) → Type 0
AreAtoms {A} ps = (i : ℕ) (p : Formula A) → slice_get ps i ≡ Some p → (a : A) × (p ≡ Atom a)

-- the numbers of the answer are of the table; a valuation lists atoms
abbrev pub HasNumbers : List (Formula Interned) → Answer → Type 0
HasNumbers table (answer.Derived d) = HasSteps table d
HasNumbers table (answer.Separated v) = HasAll table v × AreAtoms (formulas_at table v)
