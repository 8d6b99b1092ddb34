-- What the stored nodes and lists stand for where one more is stored.
use Rattle.std.proofs.Common.{◌≡◌, ℕ, zero, suc, ◌<◌, ◌≤◌, List, [], ◌∷◌, ◌++◌, length, get_or, map, Some, All, refl, sym, ap, subst, ◌∙◌, inl, inr}
use Rattle.std.specs.Prelude.{slice_get}
use Rattle.std.specs.Global.{Vec}
use Rattle.std.specs.Map.{keys_of}
use Rattle.std.proofs.lemmas.List.{length-map, get_or_append_left}
use Rattle.cx_numbered.specs.Numbered.{HasEachOnce}
use Rattle.cx_numbered.proofs.Numbered.{get_or_map, get_push_cases, map_push, put_last, put_once, grows_append, grows_self}
use Rattle.cx_base.specs.declared.numbers.TermId.{TermId}
use Rattle.cx_base.specs.declared.numbers.ArgsId.{ArgsId}
use Rattle.cx_term.specs.declared.node.Node.{Node}
use Rattle.cx_term.specs.declared.node.Node.TheVariants as node
use Rattle.cx_term.specs.declared.count.Count.{Count}
use Rattle.cx_term.specs.Term.{Term, inst, form, arguments}
use Rattle.cx_term.specs.Size.{nodes, all_nodes, depth, all_depth}
use Rattle.cx_term.specs.Table.{Table, IsTerm, HasParts, Extends, spelled, tree_at, tree_of}
use Rattle.cx_term.specs.Layout.{at, listed, grow, table_of, table_in, items_of, Counts, IsStored, IsStoredList, Holds, IsTable}
use Rattle.cx_term.specs.Same.{same_term, same_terms}
use Rattle.cx_term.proofs.Trees.{terms_decided, lists_decided, parts_kept, tree_kept, terms_kept, list_kept}

-- a tree or a list is put last
abbrev pub plus_tree : Table → Term → Table
plus_tree table t = record { trees = table.trees ++ t ∷ []; lists = table.lists }

abbrev pub plus_list : Table → List Term → Table
plus_list table ts = record { trees = table.trees; lists = table.lists ++ ts ∷ [] }

extends_plus_tree : (table : Table) (t : Term) → Extends table (plus_tree table t)
extends_plus_tree table t = record { trees = grows_append table.trees (t ∷ []); lists = grows_self table.lists }

extends_plus_list : (table : Table) (ts : List Term) → Extends table (plus_list table ts)
extends_plus_list table ts = record { trees = grows_self table.trees; lists = grows_append table.lists (ts ∷ []) }

-- ---- the trees of nodes

grow-push : (ls : List (List TermId)) (ts : List Term) (ns : List Node) (n : Node)
    → grow ls ts (ns ++ n ∷ []) ≡ grow ls ts ns ++ spelled (at (grow ls ts ns)) (listed ls (grow ls ts ns)) n ∷ []
unfolding grow
grow-push ls ts [] n = refl
grow-push ls ts (m ∷ ns) n = grow-push ls (ts ++ spelled (at ts) (listed ls ts) m ∷ []) ns n

-- the lists that a node names are among the first k
NamesBelow : ℕ → Node → Type 0
NamesBelow k (node.Inst d a) = a.0 < k
NamesBelow k (node.Form w a) = a.0 < k
NamesBelow k _ = Unit {0}

NamesBelow-HasParts : (table : Table) (n : Node) → HasParts table n → NamesBelow (length table.lists) n
unfolding NamesBelow
NamesBelow-HasParts table (node.Inst d a) h = h
NamesBelow-HasParts table (node.Form w a) h = h
NamesBelow-HasParts table (node.Const t) h = tt
NamesBelow-HasParts table (node.Ref t) h = tt
NamesBelow-HasParts table (node.Member t m) h = tt
NamesBelow-HasParts table (node.Decltype t) h = tt
NamesBelow-HasParts table (node.Param i) h = tt
NamesBelow-HasParts table (node.Scalar s) h = tt
NamesBelow-HasParts table node.Void h = tt
NamesBelow-HasParts table (node.Struct d) h = tt
NamesBelow-HasParts table (node.Val s z) h = tt
NamesBelow-HasParts table (node.Local i) h = tt
NamesBelow-HasParts table (node.Functions m k) h = tt

module _ (ls : List (List TermId)) (l : List TermId) where
  listed-more : (ts : List Term) (a : ArgsId) → a.0 < length ls → listed (ls ++ l ∷ []) ts a ≡ listed ls ts a
  listed-more ts a h = ap (map (at ts)) (get_or_append_left ls (l ∷ []) [] a.0 h)

  spelled-more : (ts : List Term) (n : Node) → NamesBelow (length ls) n → spelled (at ts) (listed (ls ++ l ∷ []) ts) n ≡ spelled (at ts) (listed ls ts) n
  unfolding NamesBelow
  spelled-more ts (node.Inst d a) h = ap (λ us. inst d (arguments us)) (listed-more ts a h)
  spelled-more ts (node.Form w a) h = ap (λ us. form w (arguments us)) (listed-more ts a h)
  spelled-more ts (node.Const t) h = refl
  spelled-more ts (node.Ref t) h = refl
  spelled-more ts (node.Member t m) h = refl
  spelled-more ts (node.Decltype t) h = refl
  spelled-more ts (node.Param i) h = refl
  spelled-more ts (node.Scalar s) h = refl
  spelled-more ts node.Void h = refl
  spelled-more ts (node.Struct d) h = refl
  spelled-more ts (node.Val s z) h = refl
  spelled-more ts (node.Local i) h = refl
  spelled-more ts (node.Functions m k) h = refl

  grow-more : (ts : List Term) (ns : List Node) → ((i : ℕ) (n : Node) → slice_get ns i ≡ Some n → NamesBelow (length ls) n) → grow (ls ++ l ∷ []) ts ns ≡ grow ls ts ns
  unfolding grow
  grow-more ts [] h = refl
  grow-more ts (n ∷ ns) h =
      ap (λ t. grow (ls ++ l ∷ []) (ts ++ t ∷ []) ns) (spelled-more ts n (h 0 n refl)) ∙ grow-more (ts ++ spelled (at ts) (listed ls ts) n ∷ []) ns (λ i m e. h (suc i) m e)

-- ---- tables

list_is : (ls : List (List TermId)) (ts : List Term) (a : ArgsId) → get_or (map (map (at ts)) ls) a.0 [] ≡ listed ls ts a
list_is ls ts a = get_or_map (map (at ts)) ls a.0 []

tree_is : (ls : List (List TermId)) (ns : List Node) (n : Node) → tree_of (table_of ns ls) n ≡ spelled (at (grow ls [] ns)) (listed ls (grow ls [] ns)) n
unfolding table_of
tree_is ls ns n = ap (λ f. spelled (at (grow ls [] ns)) f n) (λ i a. list_is ls (grow ls [] ns) a i)

lists_kept : (old new : Table) → Extends old new → (ls : List (List TermId)) → ((i : ℕ) (l : List TermId) → slice_get ls i ≡ Some l → All (IsTerm old) l) → map (map (tree_at new)) ls ≡ map (map (tree_at old)) ls
lists_kept old new h [] f = refl
lists_kept old new h (l ∷ ls) f = let a = list_kept old new l h (f 0 l refl) in let b = lists_kept old new h ls (λ i k e. f (suc i) k e) in λ i. a i ∷ b i

table_of-push : (ns : List Node) (n : Node) (ls : List (List TermId)) → ((i : ℕ) (l : List TermId) → slice_get ls i ≡ Some l → All (IsTerm (table_of ns ls)) l)
    → table_of (ns ++ n ∷ []) ls ≡ plus_tree (table_of ns ls) (tree_of (table_of ns ls) n)
unfolding table_of
table_of-push ns n ls h =
    let r = grow ls [] ns in
    let t = tree_of (table_of ns ls) n in
    let a : grow ls [] (ns ++ n ∷ []) ≡ r ++ t ∷ [] = grow-push ls [] ns n ∙ ap (λ x. r ++ x ∷ []) (sym (tree_is ls ns n)) in
    let b : map (map (at (r ++ t ∷ []))) ls ≡ map (map (at r)) ls = lists_kept (table_of ns ls) (plus_tree (table_of ns ls) t) (extends_plus_tree (table_of ns ls) t) ls h in
    let c : map (map (at (grow ls [] (ns ++ n ∷ [])))) ls ≡ map (map (at r)) ls = ap (λ x. map (map (at x)) ls) a ∙ b in
    λ i. record { trees = a i; lists = c i }

table_of-push_list : (ns : List Node) (ls : List (List TermId)) (l : List TermId) → ((i : ℕ) (n : Node) → slice_get ns i ≡ Some n → NamesBelow (length ls) n)
    → table_of ns (ls ++ l ∷ []) ≡ plus_list (table_of ns ls) (map (tree_at (table_of ns ls)) l)
unfolding table_of
table_of-push_list ns ls l h =
    let a : grow (ls ++ l ∷ []) [] ns ≡ grow ls [] ns = grow-more ls l [] ns h in
    let b = ap (λ x. map (map (at x)) (ls ++ l ∷ [])) a ∙ map_push (map (at (grow ls [] ns))) ls l in
    λ i. record { trees = a i; lists = b i }

-- ---- what holds of the fields

stored_kept : (old new : Table) → Extends old new → (e : Node × Count) → IsStored old e → IsStored new e
stored_kept old new h e s =
    let same = tree_kept old new e.0 h s.parts in
    record {
      parts = parts_kept old new e.0 h s.parts;
      counts = subst (λ t. Counts e.1 (nodes t) (depth t)) (sym same) s.counts;
      few = subst (λ t. nodes t ≤ 65536) (sym same) s.few;
      shallow = subst (λ t. depth t ≤ 512) (sym same) s.shallow;
    }

stored_list_kept : (old new : Table) → Extends old new → (e : Vec TermId × Count) → IsStoredList old e → IsStoredList new e
stored_list_kept old new h e s =
    let same = list_kept old new e.0.items h s.terms in
    record {
      terms = terms_kept old new e.0.items h s.terms;
      counts = subst (λ l. Counts e.1 (all_nodes (arguments l)) (all_depth (arguments l))) (sym same) s.counts;
      shallow = subst (λ l. all_depth (arguments l) ≤ 512) (sym same) s.shallow;
    }

trees_kept : (old new : Table) → Extends old new → (terms : List (Node × Count)) → ((i : ℕ) (e : Node × Count) → slice_get terms i ≡ Some e → IsStored old e)
    → map (tree_of new) (keys_of terms) ≡ map (tree_of old) (keys_of terms)
trees_kept old new h [] s = refl
trees_kept old new h (e ∷ es) s = let a = tree_kept old new e.0 h (s 0 e refl).parts in let b = trees_kept old new h es (λ i k f. s (suc i) k f) in λ i. a i ∷ b i

pub key_at : {K X : Type 0} (es : List (K × X)) (i : ℕ) (k : K) → slice_get (keys_of es) i ≡ Some k → (e : K × X) × (slice_get es i ≡ Some e) × (e.0 ≡ k)
key_at [] i k h = absurd cc
key_at (e ∷ es) zero k h = let f : e.0 ≡ k = cc in (e, refl, f)
key_at (e ∷ es) (suc i) k h = key_at es i k h

items_at : (es : List (Vec TermId × Count)) (i : ℕ) (l : List TermId) → slice_get (items_of es) i ≡ Some l → (e : Vec TermId × Count) × (slice_get es i ≡ Some e) × (e.0.items ≡ l)
items_at [] i l h = absurd cc
items_at (e ∷ es) zero l h = let f : e.0.items ≡ l = cc in (e, refl, f)
items_at (e ∷ es) (suc i) l h = items_at es i l h

-- a node is stored last
pub Holds-push : (terms : List (Node × Count)) (lists : List (Vec TermId × Count)) (n : Node) (c : Count) → IsTable terms lists
    → IsStored (table_in terms lists) (n, c) → ((j : ℕ) → slice_get (table_in terms lists).trees j ≡ Some (tree_of (table_in terms lists) n) → ⊥)
    → IsTable (terms ++ (n, c) ∷ []) lists × (table_in (terms ++ (n, c) ∷ []) lists ≡ plus_tree (table_in terms lists) (tree_of (table_in terms lists) n))
Holds-push terms lists n c holds stored absent =
    let old = table_in terms lists in
    let t = tree_of old n in
    let new = plus_tree old t in
    let h = extends_plus_tree old t in
    let members : (i : ℕ) (l : List TermId) → slice_get (items_of lists) i ≡ Some l → All (IsTerm old) l = λ i l e. let r = items_at lists i l e in subst (All (IsTerm old)) r.2 (holds.stored_lists i r.0 r.1).terms in
    let is_new : table_in (terms ++ (n, c) ∷ []) lists ≡ new = ap (λ ns. table_of ns (items_of lists)) (map_push (λ (e : Node × Count). e.0) terms (n, c)) ∙ table_of-push (keys_of terms) n (items_of lists) members in
    let trees : new.trees ≡ map (tree_of new) (keys_of (terms ++ (n, c) ∷ [])) =
    ap (λ ts. ts ++ t ∷ []) (holds.trees ∙ sym (trees_kept old new h terms holds.stored))
    ∙ ap (λ u. map (tree_of new) (keys_of terms) ++ u ∷ []) (sym (tree_kept old new n h stored.parts))
    ∙ sym (map_push (tree_of new) (keys_of terms) n)
    ∙ ap (map (tree_of new)) (sym (map_push (λ (e : Node × Count). e.0) terms (n, c))) in
    let all : Holds new (terms ++ (n, c) ∷ []) lists = record {
      trees = trees;
      lists = holds.lists ∙ sym (lists_kept old new h (items_of lists) members);
      stored = λ i e at. elim (get_push_cases terms (n, c) i e at) [
        | inl before ↦ stored_kept old new h e (holds.stored i e before)
        | inr last ↦ subst (IsStored new) (sym last.1) (stored_kept old new h (n, c) stored)
      ];
      stored_lists = λ i e at. stored_list_kept old new h e (holds.stored_lists i e at);
      trees_once = subst HasEachOnce (put_last same_term terms_decided old.trees t absent) (put_once same_term terms_decided old.trees t holds.trees_once);
      lists_once = holds.lists_once;
    } in
    (subst (λ table. Holds table (terms ++ (n, c) ∷ []) lists) (sym is_new) all, is_new)

how_long : (terms : List (Node × Count)) (lists : List (Vec TermId × Count)) → length (table_in terms lists).lists ≡ length (items_of lists)
unfolding table_of
how_long terms lists = length-map (items_of lists) (map (at (grow (items_of lists) [] (keys_of terms))))

-- a list is stored last
pub Holds-push_list : (terms : List (Node × Count)) (lists : List (Vec TermId × Count)) (l : Vec TermId) (c : Count) → IsTable terms lists
    → IsStoredList (table_in terms lists) (l, c) → ((j : ℕ) → slice_get (table_in terms lists).lists j ≡ Some (map (tree_at (table_in terms lists)) l.items) → ⊥)
    → IsTable terms (lists ++ (l, c) ∷ []) × (table_in terms (lists ++ (l, c) ∷ []) ≡ plus_list (table_in terms lists) (map (tree_at (table_in terms lists)) l.items))
Holds-push_list terms lists l c holds stored absent =
    let old = table_in terms lists in
    let x = map (tree_at old) l.items in
    let new = plus_list old x in
    let h = extends_plus_list old x in
    let below : (i : ℕ) (n : Node) → slice_get (keys_of terms) i ≡ Some n → NamesBelow (length (items_of lists)) n =
    λ i n e. let r = key_at terms i n e in subst (NamesBelow (length (items_of lists))) r.2 (subst (λ k. NamesBelow k r.0.0) (how_long terms lists) (NamesBelow-HasParts old r.0.0 (holds.stored i r.0 r.1).parts)) in
    let is_new : table_in terms (lists ++ (l, c) ∷ []) ≡ new = ap (table_of (keys_of terms)) (map_push (λ (e : Vec TermId × Count). e.0.items) lists (l, c)) ∙ table_of-push_list (keys_of terms) (items_of lists) l.items below in
    let lists_are : new.lists ≡ map (map (tree_at new)) (items_of (lists ++ (l, c) ∷ [])) =
    ap (λ xs. xs ++ x ∷ []) holds.lists ∙ sym (map_push (map (tree_at new)) (items_of lists) l.items) ∙ ap (map (map (tree_at new))) (sym (map_push (λ (e : Vec TermId × Count). e.0.items) lists (l, c))) in
    let all : Holds new terms (lists ++ (l, c) ∷ []) = record {
      trees = holds.trees ∙ sym (trees_kept old new h terms holds.stored);
      lists = lists_are;
      stored = λ i e at. stored_kept old new h e (holds.stored i e at);
      stored_lists = λ i e at. elim (get_push_cases lists (l, c) i e at) [
        | inl before ↦ stored_list_kept old new h e (holds.stored_lists i e before)
        | inr last ↦ subst (IsStoredList new) (sym last.1) (stored_list_kept old new h (l, c) stored)
      ];
      trees_once = holds.trees_once;
      lists_once = subst HasEachOnce (put_last same_terms lists_decided old.lists x absent) (put_once same_terms lists_decided old.lists x holds.lists_once);
    } in
    (subst (λ table. Holds table terms (lists ++ (l, c) ∷ [])) (sym is_new) all, is_new)
