-- The laws of the search and of canonical derivations.
use Rattle.std.proofs.Common.{◌≡◌, Bool, true, false, ◌&&◌, ◌||◌, not, Option, Some, None, refl, sym, ◌∙◌, true≢false, arith}
use Rattle.std.specs.Prelude.{◌↔◌}
use Rattle.cx_prop.specs.Formula.{Formula, IsEquality}
use Rattle.cx_prop.specs.Truth.{truth, among, Entails}
use Rattle.cx_prop.specs.Table.{atoms_of}
use Rattle.cx_derive.specs.Sequents.{Sequent}
use Rattle.cx_derive.specs.Derivations.{against}
use Rattle.cx_derive.specs.Search.{depth, open_leaf}
use Rattle.cx_derive.specs.Laws.{LawOfSearch, LawOfCanonicalDerivations}
use Rattle.cx_derive.proofs.RulesKeep.{holds}
use Rattle.cx_derive.proofs.Soundness.{against_holds}
use Rattle.cx_derive.proofs.Depths.{sequents_below-step, open_leaf-step, sequents_deep, leaf_deep}
use Rattle.cx_derive.proofs.Leaves.{closed_holds, open_fails}
use Rattle.cx_derive.proofs.Order.{canonical_right, canonical_ends}

fails_both : (a b : Bool) → (not (a && true) || (b || false)) ≡ false → (a ≡ true) × (b ≡ false)
fails_both true true h = absurd (true≢false h)
fails_both true false h = (refl, refl)
fails_both false b h = absurd (true≢false h)

module _ {A : Type 0} (same : A → A → Bool) (decides : IsEquality same) (p q : Formula A) where
  -- no open leaf: P entails Q
  pub entailed : open_leaf same (against p q) ≡ None → Entails p q
  entailed none v t = against_holds v p q (closed_holds same decides v (against p q) none) t

  -- an open leaf: its left atoms make P true and Q false
  pub separated : (l : Sequent A) → open_leaf same (against p q) ≡ Some l → (truth (among same (atoms_of l.left)) p ≡ true) × (truth (among same (atoms_of l.left)) q ≡ false)
  separated l e = fails_both (truth (among same (atoms_of l.left)) p) (truth (among same (atoms_of l.left)) q) (open_fails same decides l (against p q) e)

  closes : Entails p q → (o : Option (Sequent A)) → open_leaf same (against p q) ≡ o → o ≡ None
  closes entails None e = refl
  closes entails (Some l) e =
      let both = separated l e in
      absurd (true≢false (sym (entails (among same (atoms_of l.left)) both.0) ∙ both.1))

  pub leaf_decides : (open_leaf same (against p q) ≡ None) ↔ Entails p q
  leaf_decides = (entailed, λ entails. closes entails (open_leaf same (against p q)) refl)

pub law_of_search : (A : Type 0) → LawOfSearch A
law_of_search A = record {
  sequents = λ same s. sequents_below-step same s;
  leaf = λ same s. open_leaf-step same s;
  sequents_deep = λ same n s h. sequents_deep same n s h;
  leaf_deep = λ same n s h. leaf_deep same n s h;
}

pub law_of_canonical_derivations : (A : Type 0) → LawOfCanonicalDerivations A
law_of_canonical_derivations A = record {
  decides = λ same decides p q. leaf_decides same decides p q;
  right = λ same decides p q none. canonical_right same decides p q none;
  ends = λ same decides p q none. canonical_ends same decides p q none;
}
