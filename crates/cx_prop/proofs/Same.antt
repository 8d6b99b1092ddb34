-- The tests of equality decide it.
use Rattle.std.proofs.Common.{◌≡◌, ℕ, Bool, false, ◌&&◌, ◌==◌, refl, sym, ap, true≢false}
use Rattle.std.specs.Bool.{Decides}
use Rattle.std.specs.Cmp.{unsigned_Decides}
use Rattle.std.specs.Cmp.Lexicographic.{pointwise}
use Rattle.std.proofs.lemmas.Bool.Decides.{Decides-and, Decides-like}
use Rattle.std.proofs.lemmas.Slice.Eq.{slice_eq-Decides}
use Rattle.cx_base.specs.declared.numbers.TermId.{TermId}
use Rattle.cx_prop.specs.Formula.{Atomic, Formula, Atom, And, Or, IsEquality, same_pair, same_atomic, same_formula}
use Rattle.cx_prop.specs.Interned.{Interned, same_term, same_interned}
use Rattle.cx_prop.specs.Laws.{LawOfEquality}

module _ {T : Type 0} (same : T → T → Bool) (decides : IsEquality same) where
  pub same_pair-Decides : (s t : ℕ × T) → Decides (same_pair same s t) (s ≡ t)
  same_pair-Decides s t =
      Decides-like (same_pair same s t) (λ (h : (s.0 ≡ t.0) × (s.1 ≡ t.1)) i. (h.0 i, h.1 i)) (λ e. (ap (λ (u : ℕ × T). u.0) e, ap (λ (u : ℕ × T). u.1) e))
      (Decides-and (s.0 == t.0) (same s.1 t.1) (unsigned_Decides s.0 t.0) (decides s.1 t.1))

  -- a test of targets makes a test of atomic constraints
  pub same_atomic-Decides : IsEquality (same_atomic same)
  same_atomic-Decides a b =
      Decides-like (same_atomic same a b) (λ (h : (a.node.0 ≡ b.node.0) × (a.mapping ≡ b.mapping)) i. record { node = record { 0 = h.0 i }; mapping = h.1 i })
      (λ e. (ap (λ (c : Atomic T). c.node.0) e, ap (λ (c : Atomic T). c.mapping) e))
      (Decides-and (a.node.0 == b.node.0) (pointwise (same_pair same) a.mapping b.mapping) (unsigned_Decides a.node.0 b.node.0)
      (slice_eq-Decides same_pair-Decides a.mapping b.mapping (pointwise (same_pair same) a.mapping b.mapping) refl))

module _ {A : Type 0} where
  never : (p q : Formula A) → (p ≡ q → ⊥) → Decides false (p ≡ q)
  never p q h = (λ t. absurd (true≢false (sym t)), λ e. absurd (h e))

module _ {A : Type 0} (same : A → A → Bool) (decides : IsEquality same) where
  -- a test of atoms makes a test of formulas
  pub same_formula-Decides : IsEquality (same_formula same)
  same_formula-Decides (Atom a) (Atom b) = Decides-like (same a b) (λ h. ap Atom h) (λ e. cc) (decides a b)
  same_formula-Decides (Atom a) (And p q) = never (Atom a) (And p q) (λ e. cc)
  same_formula-Decides (Atom a) (Or p q) = never (Atom a) (Or p q) (λ e. cc)
  same_formula-Decides (And p q) (Atom a) = never (And p q) (Atom a) (λ e. cc)
  same_formula-Decides (And p q) (And r s) =
      Decides-like (same_formula same p r && same_formula same q s) (λ (h : (p ≡ r) × (q ≡ s)). cc) (λ e. (cc, cc))
      (Decides-and (same_formula same p r) (same_formula same q s) (same_formula-Decides p r) (same_formula-Decides q s))
  same_formula-Decides (And p q) (Or r s) = never (And p q) (Or r s) (λ e. cc)
  same_formula-Decides (Or p q) (Atom a) = never (Or p q) (Atom a) (λ e. cc)
  same_formula-Decides (Or p q) (And r s) = never (Or p q) (And r s) (λ e. cc)
  same_formula-Decides (Or p q) (Or r s) =
      Decides-like (same_formula same p r && same_formula same q s) (λ (h : (p ≡ r) × (q ≡ s)). cc) (λ e. (cc, cc))
      (Decides-and (same_formula same p r) (same_formula same q s) (same_formula-Decides p r) (same_formula-Decides q s))

pub same_term-Decides : IsEquality same_term
same_term-Decides s t = Decides-like (same_term s t) (λ (h : s.0 ≡ t.0) i. record { 0 = h i }) (λ e. ap (λ (u : TermId). u.0) e) (unsigned_Decides s.0 t.0)

-- the tests of a table's atoms and of its formulas
pub same_interned-Decides : IsEquality same_interned
same_interned-Decides = same_atomic-Decides same_term same_term-Decides

pub same_stored-Decides : IsEquality (same_formula same_interned)
same_stored-Decides = same_formula-Decides same_interned same_interned-Decides

pub law_of_equality : (A : Type 0) → LawOfEquality A
law_of_equality A same decides = same_formula-Decides same decides
