-- Sequents as the search keeps them: over the numbers of formulas of a table.
use Rattle.std.specs.Prelude.{◌≡◌, ℕ, ◌+◌, ◌<◌, ◌==◌, ◌++◌, ◌&&◌, length, Bool, List, [], ◌∷◌, map, Option, Some, None, slice_get, IsTrue, IsSomeAnd, take, drop}
use Rattle.std.specs.Cmp.{unsigned_Decides}
use Rattle.std.specs.Cmp.Lexicographic.{pointwise}
use Rattle.std.specs.Hash as fed
use Rattle.cx_base.specs.declared.numbers.FormulaId.{FormulaId}
use Rattle.cx_prop.specs.Formula.{Formula}
use Rattle.cx_prop.specs.Table.{Has, formula_at}
use Rattle.cx_derive.specs.declared.goal.Goal.{Goal}
use Rattle.cx_derive.specs.declared.leftmost.Split.{Split}
use Rattle.cx_derive.specs.declared.leftmost.Split.TheVariants as split
use Rattle.cx_derive.specs.declared.rule.SequentRule.{SequentRule}
use Rattle.cx_derive.specs.declared.rule.SequentRule.TheVariants as rule
use Rattle.cx_derive.specs.declared.choice.Premises.{Premises}
use Rattle.cx_derive.specs.declared.choice.Premises.TheVariants as goals
use Rattle.cx_derive.specs.Sequents.{Sequent, Leftmost, Atoms, Conjunction, Disjunction, same_sequent}
use Rattle.cx_derive.specs.Lists.{is_among, with_all, without_repeats}
use Rattle.cx_derive.specs.Search.{Choice, sequents_below, open_leaf}
use Rattle.cx_prop.specs.Interned.{Interned, same_interned}

-- the formulas of numbers
abbrev pub formulas_at : List (Formula Interned) → List FormulaId → List (Formula Interned)
formulas_at table fs = map (formula_at table) fs

-- each number is one of the table
abbrev pub HasAll : List (Formula Interned) → List FormulaId → Type 0
HasAll table fs = (i : ℕ) (f : FormulaId) → slice_get fs i ≡ Some f → Has table f

-- whether two numbers are equal
abbrev pub same_number : FormulaId → FormulaId → Bool
same_number f g = f.0 == g.0

-- the sequent of a goal
abbrev pub sequent_of : List (Formula Interned) → Goal → Sequent Interned
sequent_of table g = record { left = formulas_at table g.left.items; right = formulas_at table g.right.items }

-- the goal speaks of formulas of the table
pub record HasGoal (table : List (Formula Interned)) (g : Goal) : Type 0 where
  pub left : HasAll table g.left.items
  pub right : HasAll table g.right.items

-- what a split at the place of the leftmost compound formula stands for
abbrev pub split_of : List (Formula Interned) → List FormulaId → Split → Leftmost Interned
split_of table fs split.Atoms = Atoms
split_of table fs (split.Both at p q) = Conjunction (formulas_at table (take at fs)) (formula_at table p) (formula_at table q) (formulas_at table (drop (at + 1) fs))
split_of table fs (split.Either at p q) = Disjunction (formulas_at table (take at fs)) (formula_at table p) (formula_at table q) (formulas_at table (drop (at + 1) fs))

-- the place is in the list, and the operands are of the table
abbrev pub SplitsIn : List (Formula Interned) → List FormulaId → Split → Type 0
SplitsIn table fs split.Atoms = Unit {0}
SplitsIn table fs (split.Both at p q) = (at < length fs) × Has table p × Has table q
SplitsIn table fs (split.Either at p q) = (at < length fs) × Has table p × Has table q

-- the goals of premises, in their order
abbrev pub goals_of : Premises → List Goal
goals_of goals.None = []
goals_of (goals.One g) = g ∷ []
goals_of (goals.Two g h) = g ∷ h ∷ []

abbrev pub sequents_of : List (Formula Interned) → List Goal → List (Sequent Interned)
sequents_of table gs = map (sequent_of table) gs

abbrev pub HasGoals : List (Formula Interned) → List Goal → Type 0
HasGoals table gs = (i : ℕ) (g : Goal) → slice_get gs i ≡ Some g → HasGoal table g

-- a rule with its premises
abbrev pub choice_of : List (Formula Interned) → Option (SequentRule × Premises) → Option (Choice Interned)
choice_of table None = None
choice_of table (Some c) = Some (c.0, sequents_of table (goals_of c.1))

abbrev pub HasChoice : List (Formula Interned) → Option (SequentRule × Premises) → Type 0
HasChoice table None = Unit {0}
HasChoice table (Some c) = HasGoals table (goals_of c.1)

-- ---- what was found

-- the search has gone through goals: they are of the table, and with each stand all sequents that its search comes to, and no open leaf
pub record Explored (table : List (Formula Interned)) (gs : List Goal) : Type 0 where
  pub has : HasGoals table gs
  pub closed : (s t : Sequent Interned) → IsTrue (is_among (same_sequent same_interned) (sequents_of table gs) s) → IsTrue (is_among (same_sequent same_interned) (sequents_below same_interned s) t) → IsTrue (is_among (same_sequent same_interned) (sequents_of table gs) t)
  pub no_leaf : (s : Sequent Interned) → IsTrue (is_among (same_sequent same_interned) (sequents_of table gs) s) → open_leaf same_interned s ≡ None

-- the search from a sequent found no leaf and went through what it comes to, or found this first leaf
abbrev pub Explores : List (Formula Interned) → List Goal → List Goal → Sequent Interned → Option Goal → Type 0
Explores table old new s None = (open_leaf same_interned s ≡ None) × (sequents_of table new ≡ with_all (same_sequent same_interned) (sequents_of table old) (sequents_below same_interned s))
Explores table old new s (Some leaf) = (open_leaf same_interned s ≡ Some (sequent_of table leaf)) × HasGoal table leaf

-- ---- what a goal feeds a hasher

abbrev pub number_writes : FormulaId → fed.HashWrites
number_writes f = fed.usize f.0

numbers_alike : fed.Alike (λ (f g : FormulaId). f.0 == g.0) number_writes
numbers_alike = fed.on_Alike (λ f. f.0) (fed.same_Alike fed.usize unsigned_Decides)

pub goals_alike : fed.Alike (λ (g h : Goal). pointwise (λ (x y : FormulaId). x.0 == y.0) g.left.items h.left.items && pointwise (λ (x y : FormulaId). x.0 == y.0) g.right.items h.right.items) (λ g. fed.slice number_writes g.left.items ++ fed.slice number_writes g.right.items)
goals_alike = fed.and-Alike (fed.on_Alike (λ g. g.left.items) (fed.items_Alike numbers_alike)) (fed.on_Alike (λ g. g.right.items) (fed.items_Alike numbers_alike))

-- ---- what a rule makes of a goal's numbers

-- the place of a split is in the list
abbrev pub IsPlace : List FormulaId → Split → Type 0
IsPlace fs split.Atoms = Unit {0}
IsPlace fs (split.Both at p q) = at < length fs
IsPlace fs (split.Either at p q) = at < length fs

-- parts in the place of the number at a place, without repeats
abbrev pub placed : List FormulaId → ℕ → List FormulaId → List FormulaId
placed fs at parts = without_repeats same_number (take at fs ++ parts ++ drop (at + 1) fs)

-- a goal has these lists
abbrev pub IsGoal : Goal → List FormulaId → List FormulaId → Type 0
IsGoal g left right = (g.left.items ≡ left) × (g.right.items ≡ right)

-- the premises are one goal, or two
abbrev pub IsOne : Premises → (Goal → Type 0) → Type 0
IsOne goals.None P = ⊥
IsOne (goals.One g) P = P g
IsOne (goals.Two g h) P = ⊥

abbrev pub AreTwo : Premises → (Goal → Type 0) → (Goal → Type 0) → Type 0
AreTwo goals.None P Q = ⊥
AreTwo (goals.One g) P Q = ⊥
AreTwo (goals.Two g h) P Q = P g × Q h

abbrev pub OnLeft : Goal → Split → Option (SequentRule × Premises) → Type 0
OnLeft g split.Atoms c = c ≡ None
OnLeft g (split.Both at p q) c = IsSomeAnd c (λ x. (x.0 ≡ rule.AndL) × IsOne x.1 (λ h. IsGoal h (placed g.left.items at (p ∷ q ∷ [])) g.right.items))
OnLeft g (split.Either at p q) c =
    IsSomeAnd c (λ x. (x.0 ≡ rule.OrL) × AreTwo x.1 (λ h. IsGoal h (placed g.left.items at (p ∷ [])) g.right.items) (λ h. IsGoal h (placed g.left.items at (q ∷ [])) g.right.items))

abbrev pub OnRight : Goal → Split → Option (SequentRule × Premises) → Type 0
OnRight g split.Atoms c = c ≡ None
OnRight g (split.Both at p q) c =
    IsSomeAnd c (λ x. (x.0 ≡ rule.AndR) × AreTwo x.1 (λ h. IsGoal h g.left.items (placed g.right.items at (p ∷ []))) (λ h. IsGoal h g.left.items (placed g.right.items at (q ∷ []))))
OnRight g (split.Either at p q) c = IsSomeAnd c (λ x. (x.0 ≡ rule.OrR) × IsOne x.1 (λ h. IsGoal h g.left.items (placed g.right.items at (p ∷ q ∷ []))))
