-- Right derivations show entailment.
use Rattle.std.proofs.Common.{◌≡◌, ℕ, zero, suc, ◌<◌, Bool, true, false, ◌&&◌, ◌||◌, not, List, [], ◌∷◌, map, take, length, Some, refl, sym, ap, ◌∙◌, true≢false, arith}
use Rattle.std.specs.Prelude.{slice_get}
use Rattle.cx_prop.specs.Formula.{Formula, IsEquality}
use Rattle.cx_prop.specs.Truth.{Valuation, truth}
use Rattle.cx_numbered.proofs.Numbered.{get_last}
use Rattle.cx_prop.proofs.Lemmas.{and_both}
use Rattle.cx_derive.specs.Sequents.{Sequent}
use Rattle.cx_derive.specs.Derivations.{Inference, conclusions, IsRight, against, EndsWith}
use Rattle.cx_derive.specs.Laws.{LawOfDerivations}
use Rattle.cx_derive.proofs.RulesKeep.{holds, all_hold, premises_hold}

-- a conclusion among the first steps is that of a step
concluded : {A : Type 0} (d : List (Inference A)) (k n : ℕ) (s : Sequent A) → slice_get (conclusions (take k d)) n ≡ Some s → (n < k) × (i : Inference A) × (slice_get d n ≡ Some i) × (i.conclusion ≡ s)
concluded [] zero n s h = absurd cc
concluded [] (suc k) n s h = absurd cc
concluded (i ∷ d) zero n s h = absurd cc
concluded (i ∷ d) (suc k) zero s h = (omega arith, i, refl, cc)
concluded (i ∷ d) (suc k) (suc n) s h =
    let r = concluded d k n s h in
    (omega (arith, r.0), r.1, r.2, r.3)

module _ {A : Type 0} (v : Valuation A) where
  numbers_hold : (cs : List (Sequent A)) (ns : List ℕ) (ps : List (Sequent A)) → map (slice_get cs) ns ≡ map Some ps → ((n : ℕ) (s : Sequent A) → slice_get cs n ≡ Some s → holds v s ≡ true) → all_hold v ps ≡ true
  numbers_hold cs [] [] e h = refl
  numbers_hold cs [] (p ∷ ps) e h = absurd cc
  numbers_hold cs (n ∷ ns) [] e h = absurd cc
  numbers_hold cs (n ∷ ns) (p ∷ ps) e h =
      let here : slice_get cs n ≡ Some p = cc in
      let rest : map (slice_get cs) ns ≡ map Some ps = cc in
      and_both (holds v p) (all_hold v ps) (h n p here) (numbers_hold cs ns ps rest h)

  pub against_holds : (p q : Formula A) → holds v (against p q) ≡ true → truth v p ≡ true → truth v q ≡ true
  against_holds p q h t = by (truth v p) (truth v q) h t
    where
      by : (a b : Bool) → (not (a && true) || (b || false)) ≡ true → a ≡ true → b ≡ true
      by true true h t = refl
      by true false h t = h
      by false b h t = absurd (true≢false (sym t))

module _ {A : Type 0} (same : A → A → Bool) (decides : IsEquality same) where
  module _ (v : Valuation A) where
    steps_hold : (d : List (Inference A)) → IsRight same d → (k n : ℕ) (i : Inference A) → n < k → slice_get d n ≡ Some i → holds v i.conclusion ≡ true
    steps_hold d right zero n i lt at = absurd (omega arith)
    steps_hold d right (suc k) n i lt at =
        let step = right n i at in
        sym (premises_hold same decides v i.rule i.conclusion step.0 step.1)
        ∙ numbers_hold v (conclusions (take n d)) i.premises step.0 step.2
        (λ m s h.
        let c = concluded d n m s h in
        ap (holds v) (sym c.3) ∙ steps_hold d right k m c.1 (omega (arith, c.0)) c.2)

  derivations_hold : (d : List (Inference A)) (p q : Formula A) → IsRight same d → EndsWith d (against p q) → (v : Valuation A) → truth v p ≡ true → truth v q ≡ true
  derivations_hold d p q right ends v t =
      let at : slice_get d (length ends.0) ≡ Some ends.1 = ap (λ (e : List (Inference A)). slice_get e (length ends.0)) ends.2 ∙ get_last ends.0 ends.1 in
      against_holds v p q (ap (holds v) (sym ends.3) ∙ steps_hold v d right (suc (length ends.0)) (length ends.0) ends.1 (omega arith) at) t

pub law_of_derivations : (A : Type 0) → LawOfDerivations A
law_of_derivations A same decides d p q right ends v t = derivations_hold same decides d p q right ends v t
