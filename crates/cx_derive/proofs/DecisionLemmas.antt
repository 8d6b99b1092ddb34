-- What the search shows of two formulas.
use Rattle.std.proofs.Common.{◌≡◌, Bool, true, false, ◌&&◌, ◌||◌, not, List, [], ◌∷◌, map, Some, None, refl, sym, ap, subst, ◌∙◌, true≢false}
use Rattle.cx_base.specs.declared.numbers.FormulaId.{FormulaId}
use Rattle.cx_prop.specs.Formula.{Formula}
use Rattle.cx_prop.specs.Truth.{truth, among, Entails}
use Rattle.cx_prop.specs.Table.{formula_at, atoms_of}
use Rattle.cx_derive.specs.declared.goal.Goal.{Goal}
use Rattle.cx_derive.specs.declared.deriv.Step.{Step}
use Rattle.cx_derive.specs.declared.answer.Answer.TheVariants as answer
use Rattle.cx_derive.specs.Lists.{with_all, without_repeats}
use Rattle.cx_derive.specs.Sequents.{Sequent, same_sequent}
use Rattle.cx_derive.specs.Derivations.{Inference, IsRight, EndsWith, against}
use Rattle.cx_derive.specs.Search.{open_leaf, sequents_below, inferences, canonical}
use Rattle.cx_derive.specs.Goals.{formulas_at, sequent_of, sequents_of, Explores}
use Rattle.cx_derive.specs.Answers.{HasNumbers, inference_of, IsAnswer, Shows}
use Rattle.cx_derive.proofs.Soundness.{against_holds}
use Rattle.cx_derive.proofs.Leaves.{closed_holds, open_fails, leaf_atoms}
use Rattle.cx_derive.proofs.Order.{canonical_right, canonical_ends}
use Rattle.cx_prop.specs.Interned.{Interned, same_interned}
use Rattle.cx_prop.proofs.Lemmas.{same_interned-Decides}

fails_both : (a b : Bool) → (not (a && true) || (b || false)) ≡ false → (a ≡ true) × (b ≡ false)
fails_both true true h = absurd (true≢false h)
fails_both true false h = (refl, refl)
fails_both false b h = absurd (true≢false h)

module _ (table : List (Formula Interned)) (p q : FormulaId) (g : Goal) (left : g.left.items ≡ p ∷ []) (right : g.right.items ≡ q ∷ []) where
  abbrev P : Formula Interned
  P = formula_at table p

  abbrev Q : Formula Interned
  Q = formula_at table q

  goal_is : sequent_of table g ≡ against P Q
  goal_is i = record { left = formulas_at table (left i); right = formulas_at table (right i) }

  module _ (old new : List Goal) (empty : old ≡ []) (found : Explores table old new (sequent_of table g) None) where
    no_leaf : (open_leaf same_interned) (against P Q) ≡ None
    no_leaf = ap (open_leaf same_interned) (sym goal_is) ∙ found.0

    pub entailed : Entails (formula_at table p) (formula_at table q)
    entailed v t = against_holds v P Q (closed_holds same_interned same_interned-Decides v (against P Q) no_leaf) t

    all_is : (inferences same_interned) (sequents_of table new) ≡ canonical same_interned P Q
    all_is =
        ap (inferences same_interned)
        (found.1 ∙ (λ i. with_all (same_sequent same_interned) (sequents_of table (empty i)) (sequents_below same_interned (sequent_of table g)))
        ∙ ap (λ (s : Sequent Interned). without_repeats (same_sequent same_interned) (sequents_below same_interned s)) goal_is)

    pub answers_derived : (d : List Step) → map (inference_of table) d ≡ inferences same_interned (sequents_of table new) → (open_leaf same_interned (against (formula_at table p) (formula_at table q)) ≡ None) × (map (inference_of table) d ≡ canonical same_interned (formula_at table p) (formula_at table q))
    answers_derived d e = (no_leaf, e ∙ all_is)

    pub shows_derived : (d : List Step) → map (inference_of table) d ≡ inferences same_interned (sequents_of table new) → Shows table (formula_at table p) (formula_at table q) (answer.Derived d)
    shows_derived d e =
        (entailed, subst (IsRight same_interned) (sym (e ∙ all_is)) (canonical_right same_interned same_interned-Decides P Q no_leaf), subst (λ (is : List (Inference Interned)). EndsWith is (against P Q)) (sym (e ∙ all_is)) (canonical_ends same_interned same_interned-Decides P Q no_leaf))

  module _ (old new : List Goal) (leaf : Goal) (found : Explores table old new (sequent_of table g) (Some leaf)) where
    a_leaf : (open_leaf same_interned) (against P Q) ≡ Some (sequent_of table leaf)
    a_leaf = ap (open_leaf same_interned) (sym goal_is) ∙ found.0

    pub answers_separated : (v : List FormulaId) → v ≡ leaf.left.items → IsAnswer table (formula_at table p) (formula_at table q) (answer.Separated v)
    answers_separated v e = (sequent_of table leaf, a_leaf, ap (formulas_at table) e)

    both : (truth (among same_interned (atoms_of (formulas_at table leaf.left.items))) P ≡ true) × (truth (among same_interned (atoms_of (formulas_at table leaf.left.items))) Q ≡ false)
    both = fails_both (truth (among same_interned (atoms_of (formulas_at table leaf.left.items))) P) (truth (among same_interned (atoms_of (formulas_at table leaf.left.items))) Q) (open_fails same_interned same_interned-Decides (sequent_of table leaf) (against P Q) a_leaf)

    pub separates : (truth (among same_interned (atoms_of (formulas_at table leaf.left.items))) (formula_at table p) ≡ true) × (truth (among same_interned (atoms_of (formulas_at table leaf.left.items))) (formula_at table q) ≡ true → ⊥)
    separates = (both.0, λ t. true≢false (sym t ∙ both.1))

    pub shows_separated : (v : List FormulaId) → v ≡ leaf.left.items → Shows table (formula_at table p) (formula_at table q) (answer.Separated v)
    shows_separated v e = subst (λ (w : List FormulaId). Shows table P Q (answer.Separated w)) (sym e) separates

    pub not_entailed : Entails (formula_at table p) (formula_at table q) → ⊥
    not_entailed e = separates.1 (e (among same_interned (atoms_of (formulas_at table leaf.left.items))) both.0)

    pub numbers_separated : (v : List FormulaId) → v ≡ leaf.left.items → HasNumbers table (answer.Separated v)
    numbers_separated v e = subst (λ (w : List FormulaId). HasNumbers table (answer.Separated w)) (sym e) (found.1.left, leaf_atoms same_interned same_interned-Decides (against P Q) (sequent_of table leaf) a_leaf)
