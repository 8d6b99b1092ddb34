-- Sequents of formulas over atoms of any kind, and the rules of their calculus. Where formulas are compared, a test of
-- atoms is given.
use Rattle.std.specs.Prelude.{Bool, ◌&&◌, List, [], ◌∷◌, ◌++◌, Option, Some, None, if◌then◌else◌}
use Rattle.std.specs.List.{list_any}
use Rattle.std.specs.Cmp.Lexicographic.{pointwise}
use Rattle.cx_prop.specs.Formula.{Formula, Atom, And, Or, same_formula}
use Rattle.cx_derive.specs.declared.rule.SequentRule.{SequentRule}
use Rattle.cx_derive.specs.declared.rule.SequentRule.TheVariants as rule
use Rattle.cx_derive.specs.Lists.{is_among, without_repeats}

-- a sequent: the formulas on the left together entail that one on the right holds
pub record Sequent (A : Type 0) : Type 0 where
  pub left : List (Formula A)
  pub right : List (Formula A)

abbrev pub same_formulas : {A : Type 0} → (A → A → Bool) → List (Formula A) → List (Formula A) → Bool
same_formulas same ps qs = pointwise (same_formula same) ps qs

abbrev pub same_sequent : {A : Type 0} → (A → A → Bool) → Sequent A → Sequent A → Bool
same_sequent same s t = same_formulas same s.left t.left && same_formulas same s.right t.right

-- a list of formulas by the leftmost that is no atom: what stands before it, its operands, what stands after it
pub data Leftmost (A : Type 0) : Type 0 where
  Atoms : Leftmost A
  Conjunction : List (Formula A) → Formula A → Formula A → List (Formula A) → Leftmost A
  Disjunction : List (Formula A) → Formula A → Formula A → List (Formula A) → Leftmost A

-- one more formula before it
abbrev pub behind : {A : Type 0} → Formula A → Leftmost A → Leftmost A
behind a Atoms = Atoms
behind a (Conjunction before p q after) = Conjunction (a ∷ before) p q after
behind a (Disjunction before p q after) = Disjunction (a ∷ before) p q after

abbrev pub leftmost : {A : Type 0} → List (Formula A) → Leftmost A
leftmost [] = Atoms
leftmost (Atom a ∷ ps) = behind (Atom a) (leftmost ps)
leftmost (And p q ∷ ps) = Conjunction [] p q ps
leftmost (Or p q ∷ ps) = Disjunction [] p q ps

-- a formula's place taken by its parts; a formula that stands earlier in the list is dropped
abbrev pub in_place : {A : Type 0} → (A → A → Bool) → List (Formula A) → List (Formula A) → List (Formula A) → List (Formula A)
in_place same before parts after = without_repeats (same_formula same) (before ++ parts ++ after)

-- a formula stands on both sides
abbrev pub shares_formula : {A : Type 0} → (A → A → Bool) → Sequent A → Bool
shares_formula same s = list_any (is_among (same_formula same) s.right) s.left

-- the premises that a rule asks for at a sequent with this leftmost compound formula, where the rule fits
abbrev pub and_left : {A : Type 0} → (A → A → Bool) → List (Formula A) → Leftmost A → Option (List (Sequent A))
and_left same right Atoms = None
and_left same right (Conjunction before p q after) = Some (record { left = in_place same before (p ∷ q ∷ []) after; right = right } ∷ [])
and_left same right (Disjunction before p q after) = None

abbrev pub or_left : {A : Type 0} → (A → A → Bool) → List (Formula A) → Leftmost A → Option (List (Sequent A))
or_left same right Atoms = None
or_left same right (Conjunction before p q after) = None
or_left same right (Disjunction before p q after) = Some (record { left = in_place same before (p ∷ []) after; right = right } ∷ record { left = in_place same before (q ∷ []) after; right = right } ∷ [])

abbrev pub or_right : {A : Type 0} → (A → A → Bool) → List (Formula A) → Leftmost A → Option (List (Sequent A))
or_right same left Atoms = None
or_right same left (Conjunction before p q after) = None
or_right same left (Disjunction before p q after) = Some (record { left = left; right = in_place same before (p ∷ q ∷ []) after } ∷ [])

abbrev pub and_right : {A : Type 0} → (A → A → Bool) → List (Formula A) → Leftmost A → Option (List (Sequent A))
and_right same left Atoms = None
and_right same left (Conjunction before p q after) = Some (record { left = left; right = in_place same before (p ∷ []) after } ∷ record { left = left; right = in_place same before (q ∷ []) after } ∷ [])
and_right same left (Disjunction before p q after) = None

-- the premises of a rule for a sequent, where the rule fits it
abbrev pub premises : {A : Type 0} → (A → A → Bool) → SequentRule → Sequent A → Option (List (Sequent A))
premises same rule.Id s = if shares_formula same s then Some [] else None
premises same rule.AndL s = and_left same s.right (leftmost s.left)
premises same rule.OrL s = or_left same s.right (leftmost s.left)
premises same rule.OrR s = or_right same s.left (leftmost s.right)
premises same rule.AndR s = and_right same s.left (leftmost s.right)
