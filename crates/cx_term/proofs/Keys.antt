-- Nodes that are equal as keys have one tree, and in a table with one number for each tree only these have.
use Rattle.std.proofs.Common.{◌≡◌, ℕ, Bool, true, false, List, [], refl, sym, ap, ◌∙◌, eqb-true, eq-eqb, true≢false, rules}
use Rattle.std.specs.Prelude.{◌==◌, ◌&&◌}
use Rattle.cx_base.specs.declared.numbers.TermId.{TermId}
use Rattle.cx_base.specs.declared.numbers.ArgsId.{ArgsId}
use Rattle.cx_term.specs.declared.node.Node.{Node}
use Rattle.cx_term.specs.declared.node.Node.TheVariants as node
use Rattle.cx_term.specs.contracts.node.NodePartialEq.TheImpl as derived
use Rattle.std.specs.Str.{bytes_eq}
use Rattle.std.proofs.lemmas.Slice.Eq.{bytes_eq-Decides}
use Rattle.std.specs.Ordering.{int_eq}
use Rattle.std.specs.Cmp.{signed_Decides}
use denote.Enum.Bare.{same_true, true_same, sameb}
use Rattle.cx_base.specs.declared.numbers.DeclId.{DeclId}
use Rattle.cx_base.specs.declared.value.Scalar.{Scalar}
use Rattle.cx_base.specs.contracts.value.Scalar.{the_type}
use Rattle.cx_term.specs.Term.{Term, param, scalar, struct, val, local, functions, inst, const, ref, member, decltype, form, void, arguments, members}
use Rattle.cx_numbered.specs.Numbered.{HasEachOnce}
use Rattle.cx_term.specs.Table.{Table, IsTerm, IsList, HasParts, spelled, tree_at, list_at, tree_of}
use Rattle.cx_term.proofs.Words.{word_eq, word_from_same, words_same}
use Rattle.cx_term.proofs.Trees.{members_arguments}

abbrev pub node_eq : Node → Node → Bool
node_eq = (derived.ghosts).eq

both : (a b : Bool) → (a && b) ≡ true → (a ≡ true) × (b ≡ true)
both true b e = (refl, e)
both false b e = absurd (true≢false (sym e))

pub spelled_once : (tree : TermId → Term) (list : ArgsId → List Term) (n m : Node) → node_eq n m ≡ true → spelled tree list n ≡ spelled tree list m
spelled_once tree list (node.Param i) (node.Param j) e = ap param (eqb-true i j e)
spelled_once tree list (node.Scalar s) (node.Scalar r) e = ap scalar (same_true the_type (search rules) s r e)
spelled_once tree list node.Void node.Void e = refl
spelled_once tree list (node.Struct d) (node.Struct c) e = ap (λ (n : ℕ). struct (record { 0 = n })) (eqb-true d.0 c.0 e)
spelled_once tree list (node.Inst d a) (node.Inst c b) e =
    let p = both (d.0 == c.0) (a.0 == b.0) e in
    let f = eqb-true d.0 c.0 p.0 in
    let g = eqb-true a.0 b.0 p.1 in
    λ i. inst (record { 0 = f i }) (arguments (list (record { 0 = g i })))
spelled_once tree list (node.Const t) (node.Const u) e = ap (λ (n : ℕ). const (tree (record { 0 = n }))) (eqb-true t.0 u.0 e)
spelled_once tree list (node.Ref t) (node.Ref u) e = ap (λ (n : ℕ). ref (tree (record { 0 = n }))) (eqb-true t.0 u.0 e)
spelled_once tree list (node.Member t x) (node.Member u y) e =
    let p = both (t.0 == u.0) (bytes_eq x.now y.now) e in
    let f = eqb-true t.0 u.0 p.0 in
    let g = (bytes_eq-Decides x.now y.now).0 p.1 in
    λ i. member (tree (record { 0 = f i })) (g i)
spelled_once tree list (node.Decltype t) (node.Decltype u) e = ap (λ (n : ℕ). decltype (tree (record { 0 = n }))) (eqb-true t.0 u.0 e)
spelled_once tree list (node.Val r x) (node.Val s y) e =
    let p = both (sameb the_type r s) (int_eq x y) e in
    let f = same_true the_type (search rules) r s p.0 in
    let g = (signed_Decides x y).0 p.1 in
    λ i. val (f i) (g i)
spelled_once tree list (node.Local i) (node.Local j) e = ap local (eqb-true i j e)
spelled_once tree list (node.Functions x k) (node.Functions y l) e =
    let p = both (bytes_eq x.now y.now) (k == l) e in
    let f = (bytes_eq-Decides x.now y.now).0 p.0 in
    let g = eqb-true k l p.1 in
    λ i. functions (f i) (g i)
spelled_once tree list (node.Form v a) (node.Form w b) e =
    let p = both (word_eq v w) (a.0 == b.0) e in
    let f = word_from_same v w p.0 in
    let g = eqb-true a.0 b.0 p.1 in
    λ i. form (f i) (arguments (list (record { 0 = g i })))
spelled_once tree list _ _ e = absurd (true≢false (sym e))

-- which kind of tree it is
kind : Term → ℕ
kind (param i) = 0
kind (scalar s) = 1
kind void = 2
kind (struct d) = 3
kind (inst d xs) = 4
kind (const t) = 5
kind (ref t) = 6
kind (member t m) = 7
kind (decltype t) = 8
kind (val s z) = 9
kind (local i) = 10
kind (functions m k) = 11
kind (form w xs) = 12

and_true : (a b : Bool) → a ≡ true → b ≡ true → (a && b) ≡ true
and_true a b e f = rw (e, f) refl

numbers_same : (m n : ℕ) → m ≡ n → (m == n) ≡ true
numbers_same m n e = eq-eqb m n e

texts_same : (x y : List ℕ) → x ≡ y → bytes_eq x y ≡ true
texts_same x y e = (bytes_eq-Decides x y).1 e

scalars_same : (r s : Scalar) → r ≡ s → sameb the_type r s ≡ true
scalars_same r s e = true_same the_type r s e

module _ (table : Table) (once : HasEachOnce table.trees) (lists_once : HasEachOnce table.lists) where
  same_parts : (t u : TermId) → IsTerm table t → IsTerm table u → tree_at table t ≡ tree_at table u → (t.0 == u.0) ≡ true
  same_parts t u ht hu e = numbers_same t.0 u.0 (once t.0 u.0 void ht hu e)

  same_lists : (a b : ArgsId) → IsList table a → IsList table b → list_at table a ≡ list_at table b → (a.0 == b.0) ≡ true
  same_lists a b ha hb e = numbers_same a.0 b.0 (lists_once a.0 b.0 [] ha hb e)

  same_arguments_at : (a b : ArgsId) → arguments (list_at table a) ≡ arguments (list_at table b) → list_at table a ≡ list_at table b
  same_arguments_at a b e = sym (members_arguments (list_at table a)) ∙ ap members e ∙ members_arguments (list_at table b)

  by_kind : (n m : Node) → HasParts table n → HasParts table m → (kind (tree_of table n) == kind (tree_of table m)) ≡ true → tree_of table n ≡ tree_of table m → node_eq n m ≡ true
  unfolding kind
  by_kind (node.Param i) (node.Param j) hn hm k e = numbers_same i j cc
  by_kind (node.Scalar s) (node.Scalar r) hn hm k e = scalars_same s r cc
  by_kind node.Void node.Void hn hm k e = refl
  by_kind (node.Struct d) (node.Struct c) hn hm k e = let f : d ≡ c = cc in numbers_same d.0 c.0 (ap (λ (v : DeclId). v.0) f)
  by_kind (node.Inst d a) (node.Inst c b) hn hm k e = let f : d ≡ c = cc in let g = same_arguments_at a b cc in and_true _ _ (numbers_same d.0 c.0 (ap (λ (v : DeclId). v.0) f)) (same_lists a b hn hm g)
  by_kind (node.Const t) (node.Const u) hn hm k e = let f : tree_at table t ≡ tree_at table u = cc in same_parts t u hn hm f
  by_kind (node.Ref t) (node.Ref u) hn hm k e = let f : tree_at table t ≡ tree_at table u = cc in same_parts t u hn hm f
  by_kind (node.Member t x) (node.Member u y) hn hm k e = let f : tree_at table t ≡ tree_at table u = cc in let g : x.now ≡ y.now = cc in and_true _ _ (same_parts t u hn hm f) (texts_same x.now y.now g)
  by_kind (node.Decltype t) (node.Decltype u) hn hm k e = let f : tree_at table t ≡ tree_at table u = cc in same_parts t u hn hm f
  by_kind (node.Val r x) (node.Val s y) hn hm k e = let f : r ≡ s = cc in let g : x ≡ y = cc in and_true _ _ (scalars_same r s f) ((signed_Decides x y).1 g)
  by_kind (node.Local i) (node.Local j) hn hm k e = numbers_same i j cc
  by_kind (node.Functions x i) (node.Functions y j) hn hm k e = let f : x.now ≡ y.now = cc in let g : i ≡ j = cc in and_true _ _ (texts_same x.now y.now f) (numbers_same i j g)
  by_kind (node.Form v a) (node.Form w b) hn hm k e = let f : v ≡ w = cc in let g = same_arguments_at a b cc in and_true _ _ (words_same v w f) (same_lists a b hn hm g)
  by_kind _ _ hn hm k e = absurd (true≢false (sym k))

  pub tree_once : (n m : Node) → HasParts table n → HasParts table m → tree_of table n ≡ tree_of table m → node_eq n m ≡ true
  tree_once n m hn hm e = by_kind n m hn hm (eq-eqb (kind (tree_of table n)) (kind (tree_of table m)) (ap kind e)) e
