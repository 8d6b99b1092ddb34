-- What renaming atoms keeps.
use Rattle.std.proofs.Common.{◌≡◌, Bool, true, false, ◌&&◌, ◌||◌, ◌+◌, ◌*◌, List, [], ◌∷◌, ◌++◌, refl, sym, ap, ◌∙◌, inl, inr, true≢false}
use Rattle.std.specs.List.{list_any}
use Rattle.std.proofs.lemmas.Bool.Decides.{same_from_decides, Decides-like}
use Rattle.std.proofs.lemmas.List.Folds.{list_any-append}
use Rattle.cx_prop.specs.declared.counts.Counts.{Counts}
use Rattle.cx_prop.specs.Formula.{Formula, Atom, And, Or, IsEquality, AtomsAre, TellsApart, renamed, same_formula}
use Rattle.cx_prop.specs.Truth.{Valuation, truth, Entails}
use Rattle.cx_prop.specs.Counting.{disjunctive, conjunctive, atoms_in, saturated, counts_of}
use Rattle.cx_prop.specs.Laws.{LawOfRenaming}
use Rattle.cx_numbered.proofs.Numbered.{or_cases, or_left, or_right}
use Rattle.cx_prop.proofs.Tests.{and_both, and_left, and_right, both_ways}
use Rattle.cx_prop.proofs.Same.{same_formula-Decides}

module _ {A B : Type 0} (f : A → B) where
  pub truth-renamed : (v : Valuation B) (p : Formula A) → truth v (renamed f p) ≡ truth (λ a. v (f a)) p
  truth-renamed v (Atom a) = refl
  truth-renamed v (And p q) = λ i. truth-renamed v p i && truth-renamed v q i
  truth-renamed v (Or p q) = λ i. truth-renamed v p i || truth-renamed v q i

  disjunctive-renamed : (p : Formula A) → disjunctive (renamed f p) ≡ disjunctive p
  disjunctive-renamed (Atom a) = refl
  disjunctive-renamed (And p q) = λ i. disjunctive-renamed p i * disjunctive-renamed q i
  disjunctive-renamed (Or p q) = λ i. disjunctive-renamed p i + disjunctive-renamed q i

  conjunctive-renamed : (p : Formula A) → conjunctive (renamed f p) ≡ conjunctive p
  conjunctive-renamed (Atom a) = refl
  conjunctive-renamed (And p q) = λ i. conjunctive-renamed p i + conjunctive-renamed q i
  conjunctive-renamed (Or p q) = λ i. conjunctive-renamed p i * conjunctive-renamed q i

  atoms-renamed : (p : Formula A) → atoms_in (renamed f p) ≡ atoms_in p
  atoms-renamed (Atom a) = refl
  atoms-renamed (And p q) = λ i. atoms-renamed p i + atoms-renamed q i
  atoms-renamed (Or p q) = λ i. atoms-renamed p i + atoms-renamed q i

  counts-renamed : (p : Formula A) → counts_of (renamed f p) ≡ counts_of p
  counts-renamed p = λ i. record { dnf = saturated (disjunctive-renamed p i); cnf = saturated (conjunctive-renamed p i); atoms = saturated (atoms-renamed p i) }

  entails-renamed : (p q : Formula A) → Entails p q → Entails (renamed f p) (renamed f q)
  entails-renamed p q e v t = truth-renamed v q ∙ e (λ a. v (f a)) (sym (truth-renamed v p) ∙ t)

  module _ (P : A → Bool) (apart : TellsApart P f) where
    pub renamed-equal : (p q : Formula A) → AtomsAre P p → AtomsAre P q → renamed f p ≡ renamed f q → p ≡ q
    renamed-equal (Atom a) (Atom b) h k e =
        let same : f a ≡ f b = cc in
        ap Atom (apart a b h k same)
    renamed-equal (Atom a) (And p q) h k e = absurd cc
    renamed-equal (Atom a) (Or p q) h k e = absurd cc
    renamed-equal (And p q) (Atom a) h k e = absurd cc
    renamed-equal (And p q) (And r s) h k e =
        let left : renamed f p ≡ renamed f r = cc in
        let right : renamed f q ≡ renamed f s = cc in
        λ i. And (renamed-equal p r h.0 k.0 left i) (renamed-equal q s h.1 k.1 right i)
    renamed-equal (And p q) (Or r s) h k e = absurd cc
    renamed-equal (Or p q) (Atom a) h k e = absurd cc
    renamed-equal (Or p q) (And r s) h k e = absurd cc
    renamed-equal (Or p q) (Or r s) h k e =
        let left : renamed f p ≡ renamed f r = cc in
        let right : renamed f q ≡ renamed f s = cc in
        λ i. Or (renamed-equal p r h.0 k.0 left i) (renamed-equal q s h.1 k.1 right i)

    module _ (same : A → A → Bool) (decides : IsEquality same) (named : B → B → Bool) (names : IsEquality named) where
      -- tests of formulas agree
      pub same-renamed : (p q : Formula A) → AtomsAre P p → AtomsAre P q → same_formula named (renamed f p) (renamed f q) ≡ same_formula same p q
      same-renamed p q h k =
          same_from_decides (same_formula named (renamed f p) (renamed f q)) (same_formula same p q)
          (Decides-like (same_formula named (renamed f p) (renamed f q)) (renamed-equal p q h k) (ap (renamed f)) (same_formula-Decides named names (renamed f p) (renamed f q)))
          (same_formula-Decides same decides p q)

    -- a valuation of names that agrees with one of atoms
    module _ (named : B → B → Bool) (names : IsEquality named) (v : Valuation A) where
      -- whether a name is that of a true atom of the formula
      names_true : Formula A → B → Bool
      names_true (Atom a) b = named b (f a) && v a
      names_true (And p q) b = names_true p b || names_true q b
      names_true (Or p q) b = names_true p b || names_true q b

      sound : (p : Formula A) (a : A) → AtomsAre P p → P a ≡ true → names_true p (f a) ≡ true → v a ≡ true
      unfolding names_true
      sound (Atom b) a h x t =
          let same : a ≡ b = apart a b x h ((names (f a) (f b)).0 (and_left (named (f a) (f b)) (v b) t)) in
          ap v same ∙ and_right (named (f a) (f b)) (v b) t
      sound (And p q) a h x t = elim (or_cases (names_true p (f a)) (names_true q (f a)) t) [ inl left ↦ sound p a h.0 x left | inr right ↦ sound q a h.1 x right ]
      sound (Or p q) a h x t = elim (or_cases (names_true p (f a)) (names_true q (f a)) t) [ inl left ↦ sound p a h.0 x left | inr right ↦ sound q a h.1 x right ]

      module _ (w : Valuation B) (is_sound : (a : A) → P a ≡ true → w (f a) ≡ true → v a ≡ true) where
        agrees : (p : Formula A) → AtomsAre P p → ((b : B) → names_true p b ≡ true → w b ≡ true) → truth (λ a. w (f a)) p ≡ truth v p
        unfolding names_true
        agrees (Atom a) h all = both_ways (w (f a)) (v a) (is_sound a h) (λ t. all (f a) (and_both (named (f a) (f a)) (v a) ((names (f a) (f a)).1 refl) t))
        agrees (And p q) h all = λ i. agrees p h.0 (λ b t. all b (or_left (names_true p b) (names_true q b) t)) i && agrees q h.1 (λ b t. all b (or_right (names_true p b) (names_true q b) t)) i
        agrees (Or p q) h all = λ i. agrees p h.0 (λ b t. all b (or_left (names_true p b) (names_true q b) t)) i || agrees q h.1 (λ b t. all b (or_right (names_true p b) (names_true q b) t)) i

    pub entails-shown : (named : B → B → Bool) → IsEquality named → (p q : Formula A) → AtomsAre P p → AtomsAre P q → Entails (renamed f p) (renamed f q) → Entails p q
    entails-shown named names p q h k e v t =
        let w : Valuation B = λ b. names_true named names v p b || names_true named names v q b in
        let is_sound : (a : A) → P a ≡ true → w (f a) ≡ true → v a ≡ true =
        λ a x s. elim (or_cases (names_true named names v p (f a)) (names_true named names v q (f a)) s) [ inl left ↦ sound named names v p a h x left | inr right ↦ sound named names v q a k x right ] in
        let of_p = truth-renamed w p ∙ agrees named names v w is_sound p h (λ b s. or_left (names_true named names v p b) (names_true named names v q b) s) in
        let of_q = truth-renamed w q ∙ agrees named names v w is_sound q k (λ b s. or_right (names_true named names v p b) (names_true named names v q b) s) in
        sym of_q ∙ e w (of_p ∙ t)

pub law_of_renaming : (A B : Type 0) → LawOfRenaming A B
law_of_renaming A B = record {
  keeps_truth = λ f v p. truth-renamed f v p;
  keeps_counts = λ f p. counts-renamed f p;
  keeps_entailment = λ f p q e. entails-renamed f p q e;
  keeps_equality = λ f P apart p q h k e. renamed-equal f P apart p q h k e;
  shows_entailment = λ f P apart named names p q h k e. entails-shown f P apart named names p q h k e;
}
