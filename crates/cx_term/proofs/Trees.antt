-- Lemmas on trees and their tables. Other crates may cite them.
use Rattle.std.proofs.Common.{◌≡◌, ℕ, zero, suc, ◌<◌, ◌≤◌, Bool, true, false, ◌&&◌, List, [], ◌∷◌, length, map, get_or, All, refl, sym, ap, subst, true≢false, eqb-true, eq-eqb, arith}
use Rattle.std.proofs.lemmas.Slice.Eq.{slice_eq-Decides}
use base.Stored.{Gv, gnil, gnum, gcons}
use Rattle.cx_numbered.specs.Numbered.{DecidesEquality, HasEachOnce}
use Rattle.cx_numbered.proofs.Numbered.{grows_self, grows_through, grows_both, put_grows}
use Rattle.cx_base.specs.declared.numbers.TermId.{TermId}
use Rattle.cx_base.specs.declared.numbers.ArgsId.{ArgsId}
use Rattle.cx_term.specs.declared.node.Node.{Node}
use Rattle.cx_term.specs.declared.node.Node.TheVariants as node
use Rattle.cx_term.specs.Term.{Term, Arguments, param, scalar, void, struct, inst, const, ref, member, decltype, val, local, functions, form, nothing, argument, arguments, members}
use Rattle.cx_term.specs.TermCode.{term_code}
use Rattle.cx_term.specs.Same.{same_code, same_term, same_terms}
use Rattle.cx_term.specs.Size.{nodes, depth, all_nodes, all_depth}
use Rattle.cx_term.specs.Table.{Table, IsTerm, IsList, HasParts, Extends, tree_at, tree_of, with_tree, with_list}

-- ---- equality

both : (a b : Bool) → (a && b) ≡ true → (a ≡ true) × (b ≡ true)
both true b e = (refl, e)
both false b e = absurd (true≢false (sym e))

code_from_same : (g h : Gv) → same_code g h ≡ true → g ≡ h
unfolding same_code
code_from_same gnil gnil e = refl
code_from_same (gnum m) (gnum n) e = ap gnum (eqb-true m n e)
code_from_same (gcons a b) (gcons c d) e =
    let p = both (same_code a c) (same_code b d) e in
    let f = code_from_same a c p.0 in
    let h = code_from_same b d p.1 in
    λ i. gcons (f i) (h i)
code_from_same _ _ e = absurd (true≢false (sym e))

code_same_itself : (g : Gv) → same_code g g ≡ true
unfolding same_code
code_same_itself gnil = refl
code_same_itself (gnum n) = eq-eqb n n refl
code_same_itself (gcons a b) = rw (code_same_itself a, code_same_itself b) refl

pub terms_decided : DecidesEquality same_term
terms_decided t u = (
  λ e. term_code.inj t u (code_from_same (term_code.code t) (term_code.code u) e),
  λ e. subst (λ v. same_term t v ≡ true) e (code_same_itself (term_code.code t)),
)

pub lists_decided : DecidesEquality same_terms
lists_decided ts us = slice_eq-Decides terms_decided ts us (same_terms ts us) refl

pub members_arguments : (ts : List Term) → members (arguments ts) ≡ ts
members_arguments [] = refl
members_arguments (t ∷ ts) = ap (λ us. t ∷ us) (members_arguments ts)

pub arguments_members : (xs : Arguments) → arguments (members xs) ≡ xs
arguments_members nothing = refl
arguments_members (argument t xs) = ap (argument t) (arguments_members xs)

-- ---- sizes

pub has_nodes : (t : Term) → 1 ≤ depth t
unfolding depth
has_nodes (inst d xs) = omega arith
has_nodes (const t) = omega arith
has_nodes (ref t) = omega arith
has_nodes (member t m) = omega arith
has_nodes (decltype t) = omega arith
has_nodes (form w xs) = omega arith
has_nodes (param i) = omega arith
has_nodes (scalar s) = omega arith
has_nodes void = omega arith
has_nodes (struct d) = omega arith
has_nodes (val s n) = omega arith
has_nodes (local i) = omega arith
has_nodes (functions m n) = omega arith

mutual
  unfolding depth nodes

  pub paths_within : (t : Term) → depth t ≤ nodes t
  paths_within (inst d xs) = omega (arith, all_paths_within xs)
  paths_within (const t) = omega (arith, paths_within t)
  paths_within (ref t) = omega (arith, paths_within t)
  paths_within (member t m) = omega (arith, paths_within t)
  paths_within (decltype t) = omega (arith, paths_within t)
  paths_within (form w xs) = omega (arith, all_paths_within xs)
  paths_within (param i) = omega arith
  paths_within (scalar s) = omega arith
  paths_within void = omega arith
  paths_within (struct d) = omega arith
  paths_within (val s n) = omega arith
  paths_within (local i) = omega arith
  paths_within (functions m n) = omega arith

  pub all_paths_within : (xs : Arguments) → all_depth xs ≤ all_nodes xs
  all_paths_within nothing = omega arith
  all_paths_within (argument t xs) = omega (arith, paths_within t, all_paths_within xs)

-- a member of a list is no larger than the list, and no deeper
pub member_within : (ts : List Term) (i : ℕ) (d : Term) → i < length ts → nodes (get_or ts i d) ≤ all_nodes (arguments ts)
unfolding all_nodes
member_within [] i d h = absurd (omega (arith, h))
member_within (t ∷ ts) zero d h = omega arith
member_within (t ∷ ts) (suc i) d h = omega (arith, member_within ts i d (omega (arith, h)))

pub member_no_deeper : (ts : List Term) (i : ℕ) (d : Term) → i < length ts → depth (get_or ts i d) ≤ all_depth (arguments ts)
unfolding all_depth
member_no_deeper [] i d h = absurd (omega (arith, h))
member_no_deeper (t ∷ ts) zero d h = omega arith
member_no_deeper (t ∷ ts) (suc i) d h = omega (arith, member_no_deeper ts i d (omega (arith, h)))

-- ---- growth

pub extends_self : (table : Table) → Extends table table
extends_self table = record { trees = grows_self table.trees; lists = grows_self table.lists }

pub extends_through : (old now new : Table) → Extends old now → Extends now new → Extends old new
extends_through old now new g h = record {
  trees = grows_through old.trees now.trees new.trees g.trees h.trees;
  lists = grows_through old.lists now.lists new.lists g.lists h.lists;
}

pub extends_both : (a b : Table) → Extends a b → Extends b a → a ≡ b
extends_both a b g h =
    let f = grows_both a.trees b.trees g.trees h.trees in
    let k = grows_both a.lists b.lists g.lists h.lists in
    λ i. record { trees = f i; lists = k i }

pub extends_with_tree : (table : Table) (t : Term) → Extends table (with_tree table t)
extends_with_tree table t = record { trees = put_grows same_term table.trees t; lists = grows_self table.lists }

pub extends_with_list : (table : Table) (ts : List Term) → Extends table (with_list table ts)
extends_with_list table ts = record { trees = grows_self table.trees; lists = put_grows same_terms table.lists ts }

-- ---- what numbers stand for is kept

pub term_kept : (old new : Table) (t : TermId) → Extends old new → IsTerm old t → IsTerm new t
term_kept old new t h k = omega (arith, h.trees.longer, k)

pub number_of_list_kept : (old new : Table) (a : ArgsId) → Extends old new → IsList old a → IsList new a
number_of_list_kept old new a h k = omega (arith, h.lists.longer, k)

pub parts_kept : (old new : Table) (n : Node) → Extends old new → HasParts old n → HasParts new n
parts_kept old new (node.Inst d a) h parts = number_of_list_kept old new a h parts
parts_kept old new (node.Const t) h parts = term_kept old new t h parts
parts_kept old new (node.Ref t) h parts = term_kept old new t h parts
parts_kept old new (node.Member t m) h parts = term_kept old new t h parts
parts_kept old new (node.Decltype t) h parts = term_kept old new t h parts
parts_kept old new (node.Form w a) h parts = number_of_list_kept old new a h parts
parts_kept old new (node.Param i) h parts = tt
parts_kept old new (node.Scalar s) h parts = tt
parts_kept old new node.Void h parts = tt
parts_kept old new (node.Struct d) h parts = tt
parts_kept old new (node.Val s z) h parts = tt
parts_kept old new (node.Local i) h parts = tt
parts_kept old new (node.Functions m k) h parts = tt

pub tree_kept : (old new : Table) (n : Node) → Extends old new → HasParts old n → tree_of new n ≡ tree_of old n
tree_kept old new (node.Inst d a) h parts = ap (λ ts. inst d (arguments ts)) (h.lists.same a.0 [] parts)
tree_kept old new (node.Const t) h parts = ap const (h.trees.same t.0 void parts)
tree_kept old new (node.Ref t) h parts = ap ref (h.trees.same t.0 void parts)
tree_kept old new (node.Member t m) h parts = ap (λ u. member u m.now) (h.trees.same t.0 void parts)
tree_kept old new (node.Decltype t) h parts = ap decltype (h.trees.same t.0 void parts)
tree_kept old new (node.Form w a) h parts = ap (λ ts. form w (arguments ts)) (h.lists.same a.0 [] parts)
tree_kept old new (node.Param i) h parts = refl
tree_kept old new (node.Scalar s) h parts = refl
tree_kept old new node.Void h parts = refl
tree_kept old new (node.Struct d) h parts = refl
tree_kept old new (node.Val s z) h parts = refl
tree_kept old new (node.Local i) h parts = refl
tree_kept old new (node.Functions m k) h parts = refl

pub terms_kept : (old new : Table) (ts : List TermId) → Extends old new → All (IsTerm old) ts → All (IsTerm new) ts
terms_kept old new ts h all k d lt = term_kept old new (get_or ts k d) h (all k d lt)

pub list_kept : (old new : Table) (ts : List TermId) → Extends old new → All (IsTerm old) ts → map (tree_at new) ts ≡ map (tree_at old) ts
list_kept old new [] h all = refl
list_kept old new (t ∷ ts) h all =
    let a = h.trees.same t.0 void (all 0 t (omega arith)) in
    let b = list_kept old new ts h (λ k d lt. all (suc k) d (omega (arith, lt))) in
    λ i. a i ∷ b i

-- equal lists of trees are lists of the same numbers
pub same_numbers : (table : Table) (ts us : List TermId) → HasEachOnce table.trees → All (IsTerm table) ts → All (IsTerm table) us
    → map (tree_at table) ts ≡ map (tree_at table) us → ts ≡ us
same_numbers table [] [] once ht hu e = refl
same_numbers table [] (u ∷ us) once ht hu e = absurd cc
same_numbers table (t ∷ ts) [] once ht hu e = absurd cc
same_numbers table (t ∷ ts) (u ∷ us) once ht hu e =
    let f : tree_at table t ≡ tree_at table u = cc in
    let g : map (tree_at table) ts ≡ map (tree_at table) us = cc in
    let a = once t.0 u.0 void (ht 0 t (omega arith)) (hu 0 u (omega arith)) f in
    let b = same_numbers table ts us once (λ k d lt. ht (suc k) d (omega (arith, lt))) (λ k d lt. hu (suc k) d (omega (arith, lt))) g in
    λ i. record { 0 = a i } ∷ b i
