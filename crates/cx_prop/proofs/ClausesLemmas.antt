-- Subsumption by clauses is entailment.
use Rattle.std.proofs.Common.{◌≡◌, Bool, true, false, ◌&&◌, ◌||◌, List, [], ◌∷◌, ◌++◌, map, refl, sym, ap, ◌∙◌, inl, inr, true≢false}
use Rattle.std.specs.List.{list_any, list_all}
use Rattle.std.proofs.lemmas.List.Folds.{list_any-append}
use Rattle.cx_prop.specs.Formula.{Formula, Atom, And, Or, IsEquality}
use Rattle.cx_prop.specs.Truth.{Valuation, truth, among, Entails}
use Rattle.cx_prop.specs.Clauses.{Clause, pairwise, disjunctive_clauses, conjunctive_clauses, shares, subsumes}
use Rattle.cx_prop.specs.Laws.{LawOfClauses}
use Rattle.cx_numbered.proofs.Numbered.{or_cases, or_right, or_left}
use Rattle.cx_prop.proofs.Tests.{and_left, and_right, and_both}

alone_any : (b : Bool) → b ≡ ((b && true) || false)
alone_any true = refl
alone_any false = refl

alone_all : (b : Bool) → b ≡ ((b || false) && true)
alone_all true = refl
alone_all false = refl

and_false : (b : Bool) → false ≡ (b && false)
and_false true = refl
and_false false = refl

or_true : (b : Bool) → true ≡ (b || true)
or_true true = refl
or_true false = refl

and_or : (a b c : Bool) → ((a && b) || (a && c)) ≡ (a && (b || c))
and_or true b c = refl
and_or false b c = refl

or_and : (a b c : Bool) → ((a || b) && (a || c)) ≡ (a || (b && c))
or_and true b c = refl
or_and false b c = refl

or_then_and : (a b c : Bool) → ((a && c) || (b && c)) ≡ ((a || b) && c)
or_then_and true true true = refl
or_then_and true true false = refl
or_then_and true false true = refl
or_then_and true false false = refl
or_then_and false b c = refl

and_then_or : (a b c : Bool) → ((a || c) && (b || c)) ≡ ((a && b) || c)
and_then_or true b c = refl
and_then_or false true true = refl
and_then_or false true false = refl
and_then_or false false true = refl
and_then_or false false false = refl

and_assoc : (a b c : Bool) → ((a && b) && c) ≡ (a && (b && c))
and_assoc true b c = refl
and_assoc false b c = refl

list_all-append : {X : Type 0} (t : X → Bool) (xs ys : List X) → list_all t (xs ++ ys) ≡ (list_all t xs && list_all t ys)
list_all-append t [] ys = refl
list_all-append t (x ∷ xs) ys = ap (λ b. t x && b) (list_all-append t xs ys) ∙ sym (and_assoc (t x) (list_all t xs) (list_all t ys))

module _ {A : Type 0} (v : Valuation A) where
  any_prefixed : (c : Clause A) (ds : List (Clause A)) → list_any (list_all v) (map (λ d. c ++ d) ds) ≡ (list_all v c && list_any (list_all v) ds)
  any_prefixed c [] = and_false (list_all v c)
  any_prefixed c (d ∷ ds) =
      (λ i. list_all-append v c d i || any_prefixed c ds i) ∙ and_or (list_all v c) (list_all v d) (list_any (list_all v) ds)

  any_pairwise : (cs ds : List (Clause A)) → list_any (list_all v) (pairwise cs ds) ≡ (list_any (list_all v) cs && list_any (list_all v) ds)
  any_pairwise [] ds = refl
  any_pairwise (c ∷ cs) ds =
      list_any-append (list_all v) (map (λ d. c ++ d) ds) (pairwise cs ds)
      ∙ (λ i. any_prefixed c ds i || any_pairwise cs ds i)
      ∙ or_then_and (list_all v c) (list_any (list_all v) cs) (list_any (list_all v) ds)

  all_prefixed : (c : Clause A) (ds : List (Clause A)) → list_all (list_any v) (map (λ d. c ++ d) ds) ≡ (list_any v c || list_all (list_any v) ds)
  all_prefixed c [] = or_true (list_any v c)
  all_prefixed c (d ∷ ds) =
      (λ i. list_any-append v c d i && all_prefixed c ds i) ∙ or_and (list_any v c) (list_any v d) (list_all (list_any v) ds)

  all_pairwise : (cs ds : List (Clause A)) → list_all (list_any v) (pairwise cs ds) ≡ (list_all (list_any v) cs || list_all (list_any v) ds)
  all_pairwise [] ds = refl
  all_pairwise (c ∷ cs) ds =
      list_all-append (list_any v) (map (λ d. c ++ d) ds) (pairwise cs ds)
      ∙ (λ i. all_prefixed c ds i && all_pairwise cs ds i)
      ∙ and_then_or (list_any v c) (list_all (list_any v) cs) (list_all (list_any v) ds)

  -- a formula is true where one of its disjunctive clauses is
  pub truth-disjunctive : (p : Formula A) → truth v p ≡ list_any (list_all v) (disjunctive_clauses p)
  truth-disjunctive (Atom a) = alone_any (v a)
  truth-disjunctive (And p q) = (λ i. truth-disjunctive p i && truth-disjunctive q i) ∙ sym (any_pairwise (disjunctive_clauses p) (disjunctive_clauses q))
  truth-disjunctive (Or p q) = (λ i. truth-disjunctive p i || truth-disjunctive q i) ∙ sym (list_any-append (list_all v) (disjunctive_clauses p) (disjunctive_clauses q))

  -- and where all of its conjunctive clauses are
  pub truth-conjunctive : (p : Formula A) → truth v p ≡ list_all (list_any v) (conjunctive_clauses p)
  truth-conjunctive (Atom a) = alone_all (v a)
  truth-conjunctive (And p q) = (λ i. truth-conjunctive p i && truth-conjunctive q i) ∙ sym (list_all-append (list_any v) (conjunctive_clauses p) (conjunctive_clauses q))
  truth-conjunctive (Or p q) = (λ i. truth-conjunctive p i || truth-conjunctive q i) ∙ sym (all_pairwise (conjunctive_clauses p) (conjunctive_clauses q))

module _ {A : Type 0} (same : A → A → Bool) (decides : IsEquality same) where
  module _ (v : Valuation A) where
    -- what is true of each atom of a clause is true of an atom that is among them
    holds_among : (c : Clause A) (a : A) → list_all v c ≡ true → among same c a ≡ true → v a ≡ true
    holds_among [] a h k = absurd (true≢false (sym k))
    holds_among (b ∷ c) a h k =
        elim (or_cases (same a b) (among same c a) k) [
          | inl equal ↦ ap v ((decides a b).0 equal) ∙ and_left (v b) (list_all v c) h
          | inr later ↦ holds_among c a (and_right (v b) (list_all v c) h) later
        ]

    shared : (c d : Clause A) → list_all v c ≡ true → shares same c d ≡ true → list_any v d ≡ true
    shared c [] h k = k
    shared c (a ∷ d) h k =
        elim (or_cases (among same c a) (shares same c d) k) [
          | inl here ↦ or_left (v a) (list_any v d) (holds_among c a h here)
          | inr later ↦ or_right (v a) (list_any v d) (shared c d h later)
        ]

    all_shared : (c : Clause A) (ds : List (Clause A)) → list_all v c ≡ true → list_all (shares same c) ds ≡ true → list_all (list_any v) ds ≡ true
    all_shared c [] h k = refl
    all_shared c (d ∷ ds) h k =
        and_both (list_any v d) (list_all (list_any v) ds) (shared c d h (and_left (shares same c d) (list_all (shares same c) ds) k)) (all_shared c ds h (and_right (shares same c d) (list_all (shares same c) ds) k))

    follows : (cs ds : List (Clause A)) → list_all (λ c. list_all (shares same c) ds) cs ≡ true → list_any (list_all v) cs ≡ true → list_all (list_any v) ds ≡ true
    follows [] ds h k = absurd (true≢false (sym k))
    follows (c ∷ cs) ds h k =
        elim (or_cases (list_all v c) (list_any (list_all v) cs) k) [
          | inl here ↦ all_shared c ds here (and_left (list_all (shares same c) ds) (list_all (λ b. list_all (shares same b) ds) cs) h)
          | inr later ↦ follows cs ds (and_right (list_all (shares same c) ds) (list_all (λ b. list_all (shares same b) ds) cs) h) later
        ]

  subsumes-entails : (p q : Formula A) → subsumes same p q ≡ true → Entails p q
  subsumes-entails p q h v t =
      truth-conjunctive v q ∙ follows v (disjunctive_clauses p) (conjunctive_clauses q) h (sym (truth-disjunctive v p) ∙ t)

  -- each atom of a clause is among them
  among_weaker : (b : A) (c d : Clause A) → list_all (among same c) d ≡ true → list_all (among same (b ∷ c)) d ≡ true
  among_weaker b c [] h = refl
  among_weaker b c (a ∷ d) h =
      and_both (among same (b ∷ c) a) (list_all (among same (b ∷ c)) d) (or_right (same a b) (among same c a) (and_left (among same c a) (list_all (among same c) d) h)) (among_weaker b c d (and_right (among same c a) (list_all (among same c) d) h))

  among_itself : (c : Clause A) → list_all (among same c) c ≡ true
  among_itself [] = refl
  among_itself (a ∷ c) =
      and_both (among same (a ∷ c) a) (list_all (among same (a ∷ c)) c) (or_left (same a a) (among same c a) ((decides a a).1 refl)) (among_weaker a c c (among_itself c))

  each_clause : (p q : Formula A) → Entails p q → (cs : List (Clause A)) → ((v : Valuation A) → list_any (list_all v) cs ≡ true → truth v p ≡ true) → list_all (λ c. list_all (shares same c) (conjunctive_clauses q)) cs ≡ true
  each_clause p q e [] h = refl
  each_clause p q e (c ∷ cs) h =
      and_both (list_all (shares same c) (conjunctive_clauses q)) (list_all (λ b. list_all (shares same b) (conjunctive_clauses q)) cs)
      (sym (truth-conjunctive (among same c) q) ∙ e (among same c) (h (among same c) (or_left (list_all (among same c) c) (list_any (list_all (among same c)) cs) (among_itself c))))
      (each_clause p q e cs (λ v k. h v (or_right (list_all v c) (list_any (list_all v) cs) k)))

  law_by : (p q : Formula A) → (subsumes same p q ≡ true → Entails p q) × (Entails p q → subsumes same p q ≡ true)
  law_by p q =
      (subsumes-entails p q, λ e. each_clause p q e (disjunctive_clauses p) (λ v k. truth-disjunctive v p ∙ k))

pub law_of_clauses : (A : Type 0) → LawOfClauses A
law_of_clauses A same decides p q = law_by same decides p q
