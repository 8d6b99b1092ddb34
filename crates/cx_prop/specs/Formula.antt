-- Formulas: the normal forms of constraints ([temp.constr.normal]).
use Rattle.std.specs.Prelude.{◌≡◌, ℕ, Bool, false, ◌&&◌, ◌==◌, List, IsTrue}
use Rattle.std.specs.Bool.{Decides}
use Rattle.std.specs.Cmp.Lexicographic.{pointwise}
use Rattle.cx_base.specs.declared.numbers.NodeId.{NodeId}

-- An atomic constraint ([temp.constr.atomic]): the node of its expression, and its parameter mapping, a list of
-- template parameters' positions, each with its target, which stands for it: a term, or the number of one.
pub record Atomic (T : Type 0) : Type 0 where
  pub node : NodeId
  pub mapping : List (ℕ × T)

-- A formula over atoms of any kind: atoms under conjunctions and disjunctions. A normal form is one over atomic
-- constraints.
pub data Formula (A : Type 0) : Type 0 where
  Atom : A → Formula A
  And : Formula A → Formula A → Formula A
  Or : Formula A → Formula A → Formula A

-- a test of two values is a test of their equality
abbrev pub IsEquality : {X : Type 0} → (X → X → Bool) → Type 0
IsEquality {X} same = (x y : X) → Decides (same x y) (x ≡ y)

-- whether two pairs of mappings are equal, by a test of targets
abbrev pub same_pair : {T : Type 0} → (T → T → Bool) → ℕ × T → ℕ × T → Bool
same_pair same s t = (s.0 == t.0) && same s.1 t.1

-- whether two atomic constraints are identical ([temp.constr.atomic]): one expression, equal mappings
abbrev pub same_atomic : {T : Type 0} → (T → T → Bool) → Atomic T → Atomic T → Bool
same_atomic same a b = (a.node.0 == b.node.0) && pointwise (same_pair same) a.mapping b.mapping

-- whether two formulas are equal as trees, by a test of atoms
abbrev pub same_formula : {A : Type 0} → (A → A → Bool) → Formula A → Formula A → Bool
same_formula same (Atom a) (Atom b) = same a b
same_formula same (Atom a) (And p q) = false
same_formula same (Atom a) (Or p q) = false
same_formula same (And p q) (Atom a) = false
same_formula same (And p q) (And r s) = same_formula same p r && same_formula same q s
same_formula same (And p q) (Or r s) = false
same_formula same (Or p q) (Atom a) = false
same_formula same (Or p q) (And r s) = false
same_formula same (Or p q) (Or r s) = same_formula same p r && same_formula same q s

-- each atom of a formula is of a kind, given by a test
abbrev pub AtomsAre : {A : Type 0} → (A → Bool) → Formula A → Type 0
AtomsAre kind (Atom a) = IsTrue (kind a)
AtomsAre kind (And p q) = AtomsAre kind p × AtomsAre kind q
AtomsAre kind (Or p q) = AtomsAre kind p × AtomsAre kind q

-- a formula with each of its atoms replaced
abbrev pub renamed : {A B : Type 0} → (A → B) → Formula A → Formula B
renamed f (Atom a) = Atom (f a)
renamed f (And p q) = And (renamed f p) (renamed f q)
renamed f (Or p q) = Or (renamed f p) (renamed f q)

-- different atoms of a kind get different names
abbrev pub TellsApart : {A B : Type 0} → (A → Bool) → (A → B) → Type 0
TellsApart {A} kind f = (a b : A) → IsTrue (kind a) → IsTrue (kind b) → f a ≡ f b → a ≡ b
