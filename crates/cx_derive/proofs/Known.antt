-- A number is in a set of numbers just where it is in the list that the set is made of.
use Rattle.std.proofs.Common.{◌≡◌, ℕ, Bool, true, false, ◌||◌, cond, List, [], ◌∷◌, ◌++◌, refl, sym, ap, ◌∙◌, inl, inr}
use Rattle.std.specs.Cmp.{unsigned_Decides}
use Rattle.std.proofs.Math.Bool.{or-false, or_assoc}
use Rattle.std.proofs.lemmas.List.Folds.{list_any-append}
use Rattle.cx_base.specs.declared.numbers.FormulaId.{FormulaId}
use Rattle.cx_numbered.proofs.Numbered.{either}
use Rattle.cx_derive.specs.Lists.{is_among, with_new, with_all}
use Rattle.cx_derive.specs.Goals.{same_number}

or_same : (a b : Bool) → (b ≡ true → a ≡ true) → a ≡ (a || b)
or_same true b h = refl
or_same false true h = h refl
or_same false false h = refl

is_same : (f g : FormulaId) → same_number f g ≡ true → f ≡ g
is_same f g h = ap (λ (n : ℕ). record { 0 = n }) ((unsigned_Decides f.0 g.0).0 h)

among_new : (fs : List FormulaId) (g f : FormulaId) → is_among same_number (with_new same_number fs g) f ≡ (is_among same_number fs f || same_number f g)
among_new fs g f =
    elim (either (is_among same_number fs g)) [
      | inl there ↦
          ap (λ (b : Bool). is_among same_number (cond b fs (fs ++ g ∷ [])) f) there
          ∙ or_same (is_among same_number fs f) (same_number f g) (λ e. ap (is_among same_number fs) (is_same f g e) ∙ there)
      | inr absent ↦
          ap (λ (b : Bool). is_among same_number (cond b fs (fs ++ g ∷ [])) f) absent
          ∙ list_any-append (same_number f) fs (g ∷ []) ∙ ap (λ (b : Bool). is_among same_number fs f || b) (or-false (same_number f g))
    ]

among_all : (fs gs : List FormulaId) (f : FormulaId) → is_among same_number (with_all same_number fs gs) f ≡ (is_among same_number fs f || is_among same_number gs f)
unfolding with_all
among_all fs [] f = sym (or-false (is_among same_number fs f))
among_all fs (g ∷ gs) f =
    among_all (with_new same_number fs g) gs f ∙ ap (λ (b : Bool). b || is_among same_number gs f) (among_new fs g f)
    ∙ or_assoc (is_among same_number fs f) (same_number f g) (is_among same_number gs f)

pub known : (none fs set : List FormulaId) (f : FormulaId) → none ≡ [] → set ≡ with_all same_number none fs → is_among same_number set f ≡ is_among same_number fs f
known none fs set f e h = ap (λ (gs : List FormulaId). is_among same_number gs f) (h ∙ ap (λ (gs : List FormulaId). with_all same_number gs fs) e) ∙ among_all [] fs f
