-- What the definitions that read as algorithms give, in the words of their rules.
use Rattle.std.specs.Prelude.{◌≡◌, ◌↔◌, ◌<◌, ℕ, Bool, IsTrue, IsFalse, List, ◌∷◌, ◌++◌, length, Some, None, slice_get}
use Rattle.std.specs.List.{list_all}
use Rattle.cx_prop.specs.Truth.{Entails}
use Rattle.cx_term.specs.Term.{Term}
use Rattle.cx_questions.specs.Best.{best_of, unbeaten}
use Rattle.cx_questions.specs.Better.{better}
use Rattle.cx_questions.specs.ConstraintOrder.{form_entails}
use Rattle.cx_questions.specs.Conversions.{worse}
use Rattle.cx_questions.specs.Deduction.{Assignment, assigned_to, pairs_fit, deduced}
use Rattle.cx_questions.specs.Environments.{Form, Conversion}
use Rattle.cx_questions.specs.Program.{Program, Parametric}
use Rattle.cx_questions.specs.Specialisations.{more_special}

-- ---- deduction ([temp.deduct.call])

-- an assignment extends what is given, and all pairs fit under it
pub record Fits (ks : List Parametric) (given : List Term) (pairs : List (Term × Term)) (s : Assignment) : Type 0 where
  pub extends : (i : ℕ) (t : Term) → i < length ks → slice_get given i ≡ Some t → assigned_to s i ≡ Some t
  pub fit : IsTrue (pairs_fit ks s pairs)

-- all that one assignment says, another says too
abbrev pub IsWithin : Assignment → Assignment → Type 0
IsWithin s r = (i : ℕ) (t : Term) → assigned_to s i ≡ Some t → assigned_to r i ≡ Some t

-- deduction gives the least assignment that fits, and nothing exactly where none fits
pub record LawOfDeduction : Type 0 where
  pub fits : (ks : List Parametric) (given : List Term) (pairs : List (Term × Term)) (s : Assignment) → deduced ks given pairs ≡ Some s → Fits ks given pairs s
  pub least : (ks : List Parametric) (given : List Term) (pairs : List (Term × Term)) (s r : Assignment) → deduced ks given pairs ≡ Some s → Fits ks given pairs r → IsWithin s r
  pub none : (ks : List Parametric) (given : List Term) (pairs : List (Term × Term)) (r : Assignment) → deduced ks given pairs ≡ None → Fits ks given pairs r → ⊥

-- ---- the best of a list ([over.match.best])

-- what is better is not worse
abbrev pub IsAsymmetric : {A : Type 0} → (A → A → Bool) → Type 0
IsAsymmetric {A} better = (x y : A) → IsTrue (better x y) → IsFalse (better y x)

-- x is a member of a list
abbrev pub IsMember : {A : Type 0} → A → List A → Type 0
IsMember {A} x xs = (front : List A) × (back : List A) × (xs ≡ front ++ x ∷ back)

-- The best member, if there is one, is a member that is better than every other; and a member that is better than every
-- other is the best, so that there is one at most. Unbeaten are the members that no member is better than.
pub record LawOfBest (A : Type 0) : Type 0 where
  pub is_better : (better : A → A → Bool) (xs : List A) (x : A) (others : List A) → best_of better xs ≡ Some (x, others)
      → (front : List A) × (back : List A) × (xs ≡ front ++ x ∷ back) × (others ≡ front ++ back) × IsTrue (list_all (better x) others)
  pub is_best : (better : A → A → Bool) → IsAsymmetric better → (front : List A) (x : A) (back : List A) → IsTrue (list_all (better x) (front ++ back)) → best_of better (front ++ x ∷ back) ≡ Some (x, front ++ back)
  pub is_unbeaten : (better : A → A → Bool) (xs : List A) (x : A) → IsMember x (unbeaten better xs) ↔ (IsMember x xs × ((y : A) → IsMember y xs → IsFalse (better y x)))

-- So it is for functions and for specialisations: no two of them are better than one another.
pub record LawOfOrders : Type 0 where
  pub functions : (u : Program) → IsAsymmetric (better u)
  pub specialisations : (u : Program) → IsAsymmetric (more_special u)

-- ---- conversions ([over.ics.rank])

-- "worse" is a strict order of conversions
pub record LawOfRanking : Type 0 where
  pub irreflexive : (a : Conversion) → IsFalse (worse a a)
  pub transitive : (a b c : Conversion) → IsTrue (worse a b) → IsTrue (worse b c) → IsTrue (worse a c)

-- ---- constraints ([temp.constr.order])

-- one normal form subsumes another exactly where it is true under no valuation under which the other is false
abbrev pub LawOfSubsumption : Type 0
LawOfSubsumption = (p q : Form) → IsTrue (form_entails p q) ↔ Entails p q
