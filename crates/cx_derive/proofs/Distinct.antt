-- Lists of sequents without repeats.
use Rattle.std.proofs.Common.{◌≡◌, Bool, true, false, ◌||◌, cond, List, [], ◌∷◌, ◌++◌, refl, sym, ap, subst, ◌∙◌, ◌⊎◌, inl, inr, true≢false}
use Rattle.std.specs.Prelude.{fold}
use Rattle.std.specs.Bool.{Decides}
use Rattle.std.proofs.lemmas.Bool.Decides.{Decides-like, Decides-and}
use Rattle.std.proofs.lemmas.Slice.Eq.{slice_eq-Decides}
use Rattle.std.proofs.lemmas.List.Folds.{list_any-append}
use Rattle.cx_prop.specs.Formula.{Formula, IsEquality}
use Rattle.cx_numbered.proofs.Numbered.{either, or_cases, or_left, or_right}
use Rattle.cx_prop.proofs.Lemmas.{same_formula-Decides}
use Rattle.cx_derive.specs.Lists.{is_among, with_new, with_all}
use Rattle.cx_derive.specs.Sequents.{Sequent, same_formulas, same_sequent}

abbrev pub Among : {A : Type 0} → (A → A → Bool) → List (Sequent A) → Sequent A → Type 0
Among same ss s = is_among (same_sequent same) ss s ≡ true

module _ {A : Type 0} (same : A → A → Bool) (decides : IsEquality same) where
  pub same_sequent-Decides : (s t : Sequent A) → Decides (same_sequent same s t) (s ≡ t)
  same_sequent-Decides s t =
      Decides-like (same_sequent same s t) (λ (h : (s.left ≡ t.left) × (s.right ≡ t.right)) i. record { left = h.0 i; right = h.1 i }) (λ e. (ap (λ (u : Sequent A). u.left) e, ap (λ (u : Sequent A). u.right) e))
      (Decides-and (same_formulas same s.left t.left) (same_formulas same s.right t.right)
      (slice_eq-Decides (same_formula-Decides same decides) s.left t.left (same_formulas same s.left t.left) refl) (slice_eq-Decides (same_formula-Decides same decides) s.right t.right (same_formulas same s.right t.right) refl))

  -- ---- lists of sequents without repeats

  abbrev same_itself : (s : Sequent A) → same_sequent same s s ≡ true
  same_itself s = (same_sequent-Decides s s).1 refl

  pub among_append_left : (ss ts : List (Sequent A)) (s : Sequent A) → Among same ss s → Among same (ss ++ ts) s
  among_append_left ss ts s h = list_any-append (same_sequent same s) ss ts ∙ or_left (is_among (same_sequent same) ss s) (is_among (same_sequent same) ts s) h

  pub among_append_right : (ss ts : List (Sequent A)) (s : Sequent A) → Among same ts s → Among same (ss ++ ts) s
  among_append_right ss ts s h = list_any-append (same_sequent same s) ss ts ∙ or_right (is_among (same_sequent same) ss s) (is_among (same_sequent same) ts s) h

  pub among_append_cases : (ss ts : List (Sequent A)) (s : Sequent A) → Among same (ss ++ ts) s → Among same ss s ⊎ Among same ts s
  among_append_cases ss ts s h = or_cases (is_among (same_sequent same) ss s) (is_among (same_sequent same) ts s) (sym (list_any-append (same_sequent same s) ss ts) ∙ h)

  pub among_one : (s : Sequent A) → Among same (s ∷ []) s
  among_one s = or_left (same_sequent same s s) false (same_itself s)

  pub among_one_is : (s t : Sequent A) → Among same (s ∷ []) t → t ≡ s
  among_one_is s t h = elim (or_cases (same_sequent same t s) false h) [ inl same ↦ (same_sequent-Decides t s).0 same | inr none ↦ absurd (true≢false (sym none)) ]

  pub new_there : (ss : List (Sequent A)) (s : Sequent A) → Among same ss s → with_new (same_sequent same) ss s ≡ ss
  new_there ss s h = ap (λ (b : Bool). cond b ss (ss ++ s ∷ [])) h

  pub new_absent : (ss : List (Sequent A)) (s : Sequent A) → is_among (same_sequent same) ss s ≡ false → with_new (same_sequent same) ss s ≡ ss ++ s ∷ []
  new_absent ss s h = ap (λ (b : Bool). cond b ss (ss ++ s ∷ [])) h

  pub among_new : (ss : List (Sequent A)) (s t : Sequent A) → Among same ss t → Among same (with_new (same_sequent same) ss s) t
  among_new ss s t h =
      elim (either (is_among (same_sequent same) ss s)) [
        | inl there ↦ subst (λ (us : List (Sequent A)). Among same us t) (sym (new_there ss s there)) h
        | inr absent ↦ subst (λ (us : List (Sequent A)). Among same us t) (sym (new_absent ss s absent)) (among_append_left ss (s ∷ []) t h)
      ]

  pub among_new_itself : (ss : List (Sequent A)) (s : Sequent A) → Among same (with_new (same_sequent same) ss s) s
  among_new_itself ss s =
      elim (either (is_among (same_sequent same) ss s)) [
        | inl there ↦ subst (λ (us : List (Sequent A)). Among same us s) (sym (new_there ss s there)) there
        | inr absent ↦ subst (λ (us : List (Sequent A)). Among same us s) (sym (new_absent ss s absent)) (among_append_right ss (s ∷ []) s (among_one s))
      ]

  pub among_new_cases : (ss : List (Sequent A)) (s t : Sequent A) → Among same (with_new (same_sequent same) ss s) t → Among same ss t ⊎ (t ≡ s)
  among_new_cases ss s t h =
      elim (either (is_among (same_sequent same) ss s)) [
        | inl there ↦ inl (subst (λ (us : List (Sequent A)). Among same us t) (new_there ss s there) h)
        | inr absent ↦ elim (among_append_cases ss (s ∷ []) t (subst (λ (us : List (Sequent A)). Among same us t) (new_absent ss s absent) h)) [ inl old ↦ inl old | inr new ↦ inr (among_one_is s t new) ]
      ]

  pub among_all_left : (ss ts : List (Sequent A)) (s : Sequent A) → Among same ss s → Among same (with_all (same_sequent same) ss ts) s
  unfolding with_all
  among_all_left ss [] s h = h
  among_all_left ss (t ∷ ts) s h = among_all_left (with_new (same_sequent same) ss t) ts s (among_new ss t s h)

  pub among_all_right : (ss ts : List (Sequent A)) (s : Sequent A) → Among same ts s → Among same (with_all (same_sequent same) ss ts) s
  unfolding with_all
  among_all_right ss [] s h = absurd (true≢false (sym h))
  among_all_right ss (t ∷ ts) s h =
      elim (or_cases (same_sequent same s t) (is_among (same_sequent same) ts s) h) [
        | inl here ↦ among_all_left (with_new (same_sequent same) ss t) ts s (subst (λ (u : Sequent A). Among same (with_new (same_sequent same) ss t) u) (sym ((same_sequent-Decides s t).0 here)) (among_new_itself ss t))
        | inr later ↦ among_all_right (with_new (same_sequent same) ss t) ts s later
      ]

  pub all_there : (ss ts : List (Sequent A)) → ((t : Sequent A) → Among same ts t → Among same ss t) → with_all (same_sequent same) ss ts ≡ ss
  unfolding with_all
  all_there ss [] h = refl
  all_there ss (t ∷ ts) h =
      let here = new_there ss t (h t (or_left (same_sequent same t t) (is_among (same_sequent same) ts t) (same_itself t))) in
      ap (λ (us : List (Sequent A)). fold (with_new (same_sequent same)) us ts) here
      ∙ all_there ss ts (λ u k. h u (or_right (same_sequent same u t) (is_among (same_sequent same) ts u) k))
