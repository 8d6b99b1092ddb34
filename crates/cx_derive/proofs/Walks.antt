-- Loops over lists of numbers.
use Rattle.std.proofs.Common.{◌≡◌, ℕ, ◌+◌, ◌<◌, ◌≤◌, Bool, true, false, cond, List, [], ◌∷◌, ◌++◌, take, drop, length, get_or, refl, sym, ap, ◌∙◌, append_assoc, ◌-◌, length-drop, arith}
use Rattle.std.proofs.lemmas.List.{map-append, take_more, drop_more, take_all, drop_all}
use Rattle.std.proofs.lemmas.List.Sums.{fold-append}
use Rattle.cx_base.specs.declared.numbers.FormulaId.{FormulaId}
use Rattle.cx_prop.specs.Formula.{Formula, Atom, And, Or}
use Rattle.cx_prop.specs.Table.{formula_at}
use Rattle.cx_derive.specs.Lists.{is_among, with_new, with_all}
use Rattle.cx_derive.specs.Sequents.{Leftmost, Atoms, Conjunction, Disjunction, behind, leftmost}
use Rattle.cx_derive.specs.Goals.{formulas_at, split_of}
use Rattle.cx_derive.specs.declared.leftmost.Split.TheVariants as split
use Rattle.cx_prop.specs.Interned.{Interned}

-- what is new of two lists in turn
pub with_all-append : {X : Type 0} (same : X → X → Bool) (xs ys zs : List X) → with_all same xs (ys ++ zs) ≡ with_all same (with_all same xs ys) zs
unfolding with_all
with_all-append same xs ys zs = fold-append (with_new same) xs ys zs

pub with_all-one : {X : Type 0} (same : X → X → Bool) (xs : List X) (y : X) → with_all same xs (y ∷ []) ≡ with_new same xs y
unfolding with_all
with_all-one same xs y = refl

pub with_all-none : {X : Type 0} (same : X → X → Bool) (xs : List X) → with_all same xs [] ≡ xs
unfolding with_all
with_all-none same xs = refl

pub with_all_more : {X : Type 0} (same : X → X → Bool) (xs ys : List X) (i : ℕ) (d : X) → i < length ys → with_all same xs (take (i + 1) ys) ≡ with_new same (with_all same xs (take i ys)) (get_or ys i d)
with_all_more same xs ys i d h =
    ap (with_all same xs) (take_more ys i d h) ∙ with_all-append same xs (take i ys) (get_or ys i d ∷ []) ∙ with_all-one same (with_all same xs (take i ys)) (get_or ys i d)

-- ---- the leftmost compound formula

abbrev pub behind_all : {A : Type 0} → List (Formula A) → Leftmost A → Leftmost A
behind_all [] l = l
behind_all (p ∷ ps) l = behind p (behind_all ps l)

behind_all-push : {A : Type 0} (ps : List (Formula A)) (p : Formula A) (l : Leftmost A) → behind_all (ps ++ p ∷ []) l ≡ behind_all ps (behind p l)
behind_all-push [] p l = refl
behind_all-push (q ∷ ps) p l = ap (behind q) (behind_all-push ps p l)

behind_atoms : {A : Type 0} (ps : List (Formula A)) → behind_all ps Atoms ≡ Atoms
behind_atoms [] = refl
behind_atoms (p ∷ ps) = ap (behind p) (behind_atoms ps)

behind_conjunction : {A : Type 0} (ps : List (Formula A)) (p q : Formula A) (after : List (Formula A)) → behind_all ps (Conjunction [] p q after) ≡ Conjunction ps p q after
behind_conjunction [] p q after = refl
behind_conjunction (r ∷ ps) p q after = ap (behind r) (behind_conjunction ps p q after)

behind_disjunction : {A : Type 0} (ps : List (Formula A)) (p q : Formula A) (after : List (Formula A)) → behind_all ps (Disjunction [] p q after) ≡ Disjunction ps p q after
behind_disjunction [] p q after = refl
behind_disjunction (r ∷ ps) p q after = ap (behind r) (behind_disjunction ps p q after)

-- the walk has passed atoms alone
pub record Passed (table : List (Formula Interned)) (fs : List FormulaId) (i : ℕ) : Type 0 where
  pub so_far : leftmost (formulas_at table fs) ≡ behind_all (formulas_at table (take i fs)) (leftmost (formulas_at table (drop i fs)))

pub Passed-none : (table : List (Formula Interned)) (fs : List FormulaId) → Passed table fs 0
Passed-none table fs = record { so_far = refl }

module _ (table : List (Formula Interned)) (fs : List FormulaId) (i : ℕ) (d : FormulaId) (lt : i < length fs) (passed : Passed table fs i) where
  abbrev f : FormulaId
  f = get_or fs i d

  here : leftmost (formulas_at table fs) ≡ behind_all (formulas_at table (take i fs)) (leftmost (formula_at table f ∷ formulas_at table (drop (i + 1) fs)))
  here =
      passed.so_far
      ∙ ap (λ (gs : List FormulaId). behind_all (formulas_at table (take i fs)) (leftmost (formulas_at table gs))) (drop_more fs i d lt)

  pub Passed-more : (a : Interned) → formula_at table (get_or fs i d) ≡ Atom a → Passed table fs (i + 1)
  Passed-more a e = record {
    so_far =
        here
        ∙ ap (λ (p : Formula Interned). behind_all (formulas_at table (take i fs)) (leftmost (p ∷ formulas_at table (drop (i + 1) fs)))) e
        ∙ sym (behind_all-push (formulas_at table (take i fs)) (Atom a) (leftmost (formulas_at table (drop (i + 1) fs))))
        ∙ ap (λ (p : Formula Interned). behind_all (formulas_at table (take i fs) ++ p ∷ []) (leftmost (formulas_at table (drop (i + 1) fs)))) (sym e)
        ∙ ap (λ (ps : List (Formula Interned)). behind_all ps (leftmost (formulas_at table (drop (i + 1) fs)))) (sym (map-append (formula_at table) (take i fs) (f ∷ [])))
        ∙ ap (λ (gs : List FormulaId). behind_all (formulas_at table gs) (leftmost (formulas_at table (drop (i + 1) fs)))) (sym (take_more fs i d lt));
  }

  pub found_and : (g h : FormulaId) → formula_at table (get_or fs i d) ≡ And (formula_at table g) (formula_at table h) → split_of table fs (split.Both i g h) ≡ leftmost (formulas_at table fs)
  found_and g h e =
      sym (here ∙ ap (λ (p : Formula Interned). behind_all (formulas_at table (take i fs)) (leftmost (p ∷ formulas_at table (drop (i + 1) fs)))) e
      ∙ behind_conjunction (formulas_at table (take i fs)) (formula_at table g) (formula_at table h) (formulas_at table (drop (i + 1) fs)))

  pub found_or : (g h : FormulaId) → formula_at table (get_or fs i d) ≡ Or (formula_at table g) (formula_at table h) → split_of table fs (split.Either i g h) ≡ leftmost (formulas_at table fs)
  found_or g h e =
      sym (here ∙ ap (λ (p : Formula Interned). behind_all (formulas_at table (take i fs)) (leftmost (p ∷ formulas_at table (drop (i + 1) fs)))) e
      ∙ behind_disjunction (formulas_at table (take i fs)) (formula_at table g) (formula_at table h) (formulas_at table (drop (i + 1) fs)))

pub Passed-all : (table : List (Formula Interned)) (fs : List FormulaId) (n : ℕ) → length fs ≤ n → Passed table fs n → Atoms ≡ leftmost (formulas_at table fs)
Passed-all table fs n h passed =
    sym (passed.so_far ∙ ap (λ (gs : List FormulaId). behind_all (formulas_at table (take n fs)) (leftmost (formulas_at table gs))) (drop_all n fs h) ∙ behind_atoms (formulas_at table (take n fs)))

-- ---- three lists in turn

pub three_lists : {X : Type 0} (same : X → X → Bool) (a b c made one two : List X) → made ≡ [] → one ≡ with_all same made a → two ≡ with_all same one b → with_all same two c ≡ with_all same [] (a ++ b ++ c)
three_lists same a b c made one two e h k =
    ap (λ xs. with_all same xs c) (k ∙ ap (λ xs. with_all same xs b) (h ∙ ap (λ xs. with_all same xs a) e))
    ∙ sym (with_all-append same (with_all same [] a) b c) ∙ sym (with_all-append same [] a (b ++ c)) ∙ ap (with_all same []) (sym (append_assoc a b c))

-- a number that is added, or left out
pub added : {X : Type 0} (same : X → X → Bool) (xs : List X) (x : X) → is_among same xs x ≡ false → xs ++ x ∷ [] ≡ with_new same xs x
added same xs x h = ap (λ (b : Bool). cond b xs (xs ++ x ∷ [])) (sym h)

pub kept_out : {X : Type 0} (same : X → X → Bool) (xs : List X) (x : X) → is_among same xs x ≡ true → xs ≡ with_new same xs x
kept_out same xs x h = ap (λ (b : Bool). cond b xs (xs ++ x ∷ [])) (sym h)

pub rest_all : {X : Type 0} (xs : List X) (k : ℕ) → take (length xs - k) (drop k xs) ≡ drop k xs
rest_all xs k = take_all (length xs - k) (drop k xs) (omega (arith, length-drop k xs))
