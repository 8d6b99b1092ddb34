-- The atoms of a table: atomic constraints whose targets are the numbers of terms.
use Rattle.std.specs.Prelude.{◌≡◌, ℕ, Bool, ◌==◌, List, [], ◌∷◌, refl}
use Rattle.std.specs.Coded.{Coded, code_by, coded×, coded⊎, coded_ℕ, coded_bool, coded_list}
use Rattle.std.proofs.Common.{◌⊎◌, inl, inr, ap, ◌∙◌, true, false}
use Rattle.cx_base.specs.declared.numbers.TermId.{TermId}
use Rattle.cx_prop.specs.Formula.{Atomic, Formula, Atom, And, Or, same_atomic}

abbrev pub Interned : Type 0
Interned = Atomic TermId

-- whether two terms have one number
abbrev pub same_term : TermId → TermId → Bool
same_term s t = s.0 == t.0

-- whether two atoms of a table are identical
abbrev pub same_interned : Interned → Interned → Bool
same_interned = same_atomic same_term

-- an atom of no constraint, for a number that a table has not
abbrev pub no_atom : Interned
no_atom = record { node = record { 0 = 0 }; mapping = [] }

-- ---- how a formula is stored: its atoms, and after each two operands whether they are joined by `and`

abbrev Sign : Type 0
Sign = Interned ⊎ Bool

abbrev postfix : Formula Interned → List Sign → List Sign
postfix (Atom a) rest = inl a ∷ rest
postfix (And p q) rest = postfix p (postfix q (inr true ∷ rest))
postfix (Or p q) rest = postfix p (postfix q (inr false ∷ rest))

abbrev joins : Bool → List (Formula Interned) → List (Formula Interned)
joins b [] = []
joins b (q ∷ []) = q ∷ []
joins true (q ∷ p ∷ done) = And p q ∷ done
joins false (q ∷ p ∷ done) = Or p q ∷ done

abbrev reads : List (Formula Interned) → List Sign → List (Formula Interned)
reads done [] = done
reads done (inl a ∷ signs) = reads (Atom a ∷ done) signs
reads done (inr b ∷ signs) = reads (joins b done) signs

abbrev first : List (Formula Interned) → Formula Interned
first [] = Atom no_atom
first (p ∷ ps) = p

pub reads-postfix : (p : Formula Interned) (done : List (Formula Interned)) (rest : List Sign) → reads done (postfix p rest) ≡ reads (p ∷ done) rest
reads-postfix (Atom a) done rest = refl
reads-postfix (And p q) done rest = reads-postfix p done (postfix q (inr true ∷ rest)) ∙ reads-postfix q (p ∷ done) (inr true ∷ rest)
reads-postfix (Or p q) done rest = reads-postfix p done (postfix q (inr false ∷ rest)) ∙ reads-postfix q (p ∷ done) (inr false ∷ rest)

abbrev numbers : List (ℕ × TermId) → List (ℕ × ℕ)
numbers [] = []
numbers (t ∷ ts) = (t.0, t.1.0) ∷ numbers ts

abbrev targets : List (ℕ × ℕ) → List (ℕ × TermId)
targets [] = []
targets (t ∷ ts) = (t.0, record { 0 = t.1 }) ∷ targets ts

targets-numbers : (ts : List (ℕ × TermId)) → targets (numbers ts) ≡ ts
targets-numbers [] = refl
targets-numbers (t ∷ ts) = ap (λ (us : List (ℕ × TermId)). t ∷ us) (targets-numbers ts)

abbrev stored : Interned → ℕ × List (ℕ × ℕ)
stored a = (a.node.0, numbers a.mapping)

abbrev restored : ℕ × List (ℕ × ℕ) → Interned
restored c = record { node = record { 0 = c.0 }; mapping = targets c.1 }

pub restored-stored : (a : Interned) → restored (stored a) ≡ a
restored-stored a = ap (λ (us : List (ℕ × TermId)). record { node = a.node; mapping = us }) (targets-numbers a.mapping)

abbrev pub atomic_code : Coded Interned
atomic_code = code_by (ℕ × List (ℕ × ℕ)) (coded× coded_ℕ (coded_list (coded× coded_ℕ coded_ℕ))) stored restored restored-stored

abbrev pub formula_code : Coded (Formula Interned)
formula_code =
    code_by (List Sign) (coded_list (coded⊎ atomic_code coded_bool)) (λ p. postfix p []) (λ signs. first (reads [] signs)) (λ p. ap first (reads-postfix p [] []))
