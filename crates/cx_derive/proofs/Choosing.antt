-- What the search takes, by the leftmost compound formulas of the two sides.
use Rattle.std.proofs.Common.{◌≡◌, Bool, true, false, cond, List, [], ◌∷◌, Option, Some, None, sym, ap}
use Rattle.cx_prop.specs.Formula.{Formula}
use Rattle.cx_derive.specs.declared.rule.SequentRule.TheVariants as rule
use Rattle.cx_derive.specs.Sequents.{Sequent, Leftmost, leftmost, shares_formula, and_left, or_left, or_right, and_right}
use Rattle.cx_derive.specs.Search.{Choice, or_else, chosen}

module _ {A : Type 0} (same : A → A → Bool) where
  abbrev pub fit_left : List (Formula A) → Leftmost A → Option (Choice A) → Option (Choice A)
  fit_left right l rest = or_else (and_left same right l) rule.AndL (or_else (or_left same right l) rule.OrL rest)

  abbrev pub fit_right : List (Formula A) → Leftmost A → Option (Choice A)
  fit_right left l = or_else (or_right same left l) rule.OrR (or_else (and_right same left l) rule.AndR None)

  pub chosen_shared : (s : Sequent A) → shares_formula same s ≡ true → Some (rule.Id, []) ≡ chosen same s
  unfolding chosen
  chosen_shared s h = ap (λ (b : Bool). or_else (cond b (Some []) None) rule.Id (fit_left s.right (leftmost s.left) (fit_right s.left (leftmost s.right)))) (sym h)

  pub chosen_split : (s : Sequent A) → shares_formula same s ≡ false → chosen same s ≡ fit_left s.right (leftmost s.left) (fit_right s.left (leftmost s.right))
  unfolding chosen
  chosen_split s h = ap (λ (b : Bool). or_else (cond b (Some []) None) rule.Id (fit_left s.right (leftmost s.left) (fit_right s.left (leftmost s.right)))) h
