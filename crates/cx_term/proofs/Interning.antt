-- What a call that numbers a tree or a list has done, where it was there and where it is put last.
use Rattle.std.proofs.Common.{◌≡◌, ℕ, ◌<◌, ◌≤◌, Bool, true, false, List, [], ◌∷◌, ◌++◌, length, get_or, map, Option, Some, None, All, refl, sym, ap, subst, ◌∙◌, ◌⊎◌, inl, inr, arith, eqb-true, eq-eqb, true≢false}
use Rattle.std.specs.Prelude.{slice_get, is_some}
use Rattle.std.specs.Global.{Vec}
use Rattle.std.specs.List.{position, position_or_len}
use Rattle.std.specs.Map.{keys_of}
use Rattle.indexmap.specs.IndexMap.{IndexMap, insert_entry, get_by}
use Rattle.indexmap.proofs.CallerLemmas.{insert_entry-new}
use Rattle.std.specs.Bool.{Decides}
use Rattle.std.specs.Cmp.Lexicographic.{pointwise}
use Rattle.std.proofs.lemmas.Bool.{lt-ltb, le-leb, lt-leb, cases_lt}
use Rattle.std.proofs.lemmas.List.Quantifiers.{position-Some}
use Rattle.std.proofs.lemmas.List.Sums.{fails_before_first}
use Rattle.std.proofs.lemmas.Slice.Eq.{slice_eq-Decides}
use Rattle.cx_numbered.specs.Numbered.{IsNumberOf, is_among}
use Rattle.cx_numbered.proofs.Numbered.{get_below, get_is, get_or_is, get_map, map_get, number_there, number_last, put_at, put_last, not_among}
use Rattle.cx_base.specs.contracts.numbers.TermIdPartialEq.TheImpl as ids
use Rattle.cx_base.specs.declared.numbers.TermId.{TermId}
use Rattle.cx_base.specs.declared.numbers.ArgsId.{ArgsId}
use Rattle.cx_term.specs.declared.node.Node.{Node}
use Rattle.cx_term.specs.declared.count.Count.{Count}
use Rattle.cx_term.specs.Term.{Term, void, arguments}
use Rattle.cx_term.specs.Same.{same_term, same_terms}
use Rattle.cx_term.specs.Size.{nodes, all_nodes, depth, all_depth, is_small}
use Rattle.cx_term.specs.Table.{Table, IsTerm, HasParts, Extends, tree_at, list_at, tree_of, with_tree, with_list}
use Rattle.cx_term.specs.Layout.{table_in, items_of, Counts, Holds, IsTable}
use Rattle.cx_term.proofs.Trees.{terms_decided, lists_decided, extends_with_tree, extends_with_list, same_numbers}
use Rattle.cx_term.proofs.Keys.{node_eq, spelled_once, tree_once}
use Rattle.cx_term.proofs.Stored.{key_at, Holds-push, Holds-push_list}
use Rattle.cx_term.proofs.Fields.{how_many, how_many_lists, within}

-- ---- limits

-- a count that is too large or not, and the tree
pub too_large : (t : Term) (c : Count) → Counts c (nodes t) (depth t) → (65536 < c.nodes) ⊎ (512 < c.depth) → is_small t ≡ false
too_large t c h (inl many) = let e : 65536 < nodes t = omega (arith, many, h.nodes_are) in rw (lt-leb _ _ e) refl
too_large t c h (inr deep) =
    let e : 512 < depth t = omega (arith, deep, h.depth_is) in
    elim (cases_lt 65536 (nodes t)) [
      | inl many ↦ rw (lt-leb _ _ many) refl
      | inr few ↦ rw (le-leb _ _ few, lt-leb _ _ e) refl
    ]

pub within_limits : (c : Count) (n m : ℕ) (r : Bool) → Counts c n m → ((65536 < c.nodes) ⊎ (512 < c.depth) → r ≡ true) → r ≡ false → (n ≤ 65536) × (m ≤ 512)
within_limits c n m r h large small = (
  elim (cases_lt 65536 n) [
    | inl many ↦ absurd (true≢false (sym (large (inl (omega (arith, many, h.nodes_are)))) ∙ small))
    | inr few ↦ few
  ],
  elim (cases_lt 512 m) [
    | inl deep ↦ absurd (true≢false (sym (large (inr (omega (arith, deep, h.depth_is)))) ∙ small))
    | inr low ↦ low
  ],
)

-- ---- looking a key up

pub none_if : {A : Type 0} (r : Option A) → false ≡ is_some r → r ≡ None
none_if None h = refl
none_if (Some x) h = absurd (true≢false (sym h))

some_none : {n : ℕ} → Some n ≡ None → ⊥
some_none f = cc

-- the test tells of each key whether it stands for a
abbrev Tells : {K A : Type 0} → (K → A) → (K → Bool) → List K → A → Type 0
Tells {K} {A} f test keys a = (i : ℕ) (k : K) → slice_get keys i ≡ Some k → Decides (test k) (a ≡ f k)

there_by : {K A : Type 0} (f : K → A) (test : K → Bool) (keys : List K) (a : A) → Tells f test keys a → (i : ℕ) (d : K) → position test keys ≡ Some i → slice_get (map f keys) i ≡ Some a
there_by f test keys a tells i d e =
    let p = position-Some test keys i d e in
    let at = get_is keys i d p.0 in
    get_map f keys i (get_or keys i d) at ∙ ap Some (sym ((tells i (get_or keys i d) at).0 p.1))

key_there : {K A : Type 0} (f : K → A) (test : K → Bool) (keys : List K) (a : A) → Tells f test keys a → (i : ℕ) → position test keys ≡ Some i → slice_get (map f keys) i ≡ Some a
key_there f test [] a tells i e = absurd cc
key_there f test (k ∷ keys) a tells i e = there_by f test (k ∷ keys) a tells i k e

key_missing : {K A : Type 0} (f : K → A) (test : K → Bool) (keys : List K) (a : A) → Tells f test keys a → position test keys ≡ None → (j : ℕ) → slice_get (map f keys) j ≡ Some a → ⊥
key_missing f test keys a tells e j h =
    let r = map_get f keys j a h in
    let lt = get_below keys j r.0 r.1 in
    elim (cases_lt (position_or_len test keys) (length keys)) [
      | inl here ↦ some_none (rw (lt-ltb _ _ here) at e)
      | inr past ↦
          let fails = fails_before_first test keys j r.0 (omega (arith, past, lt)) in
          true≢false (sym ((tells j r.0 r.1).1 (sym r.2)) ∙ ap test (sym (get_or_is keys j r.0 r.0 r.1)) ∙ fails)
    ]

-- ---- a tree that is put, or that is there

pub record Interned (old new : Table) (made : Term) (t : TermId) : Type 0 where
  pub number : IsNumberOf new.trees t.0 made
  pub added : new ≡ with_tree old made
  pub extends : Extends old new

interned_by : (old new : Table) (made : Term) (t : TermId) → new ≡ with_tree old made → IsNumberOf (with_tree old made).trees t.0 made → Interned old new made t
interned_by old new made t e n = record {
  number = subst (λ table. IsNumberOf table.trees t.0 made) (sym e) n;
  added = e;
  extends = subst (Extends old) (sym e) (extends_with_tree old made);
}

module _ (table : Table) (ns : List (Node × Count)) (ls : List (Vec TermId × Count)) (o : Holds table ns ls) (n : Node) (parts : HasParts table n) where
  tells : Tells (tree_of table) (node_eq n) (keys_of ns) (tree_of table n)
  tells i k h =
      let r = key_at ns i k h in
      let of_k : HasParts table k = subst (HasParts table) r.2 (o.stored i r.0 r.1).parts in
      (spelled_once (tree_at table) (list_at table) n k, tree_once table o.trees_once o.lists_once n k parts of_k)

  -- the node is stored at i
  pub found : (i : ℕ) → position (node_eq n) (keys_of ns) ≡ Some i → slice_get table.trees i ≡ Some (tree_of table n)
  found i e = ap (λ ts. slice_get ts i) o.trees ∙ key_there (tree_of table) (node_eq n) (keys_of ns) (tree_of table n) tells i e

  pub found_interned : (i : ℕ) → position (node_eq n) (keys_of ns) ≡ Some i → Interned table table (tree_of table n) (record { 0 = i })
  found_interned i e =
      interned_by table table (tree_of table n) (record { 0 = i })
      (λ k. record { trees = sym (put_at same_term terms_decided table.trees (tree_of table n) i (found i e)) k; lists = table.lists })
      (number_there same_term terms_decided table.trees (tree_of table n) i o.trees_once (found i e))

  pub found_small : (i : ℕ) → position (node_eq n) (keys_of ns) ≡ Some i → is_small (tree_of table n) ≡ true
  found_small i e =
      subst (λ t. is_small t ≡ true) (get_or_is table.trees i (tree_of table n) void (found i e)) (within table ns ls o (record { 0 = i }) (get_below table.trees i (tree_of table n) (found i e)))

  -- no tree of the table is that of the node
  pub missing : position (node_eq n) (keys_of ns) ≡ None → (j : ℕ) → slice_get table.trees j ≡ Some (tree_of table n) → ⊥
  missing e j h = key_missing (tree_of table) (node_eq n) (keys_of ns) (tree_of table n) tells e j (ap (λ ts. slice_get ts j) (sym o.trees) ∙ h)

  pub missing_among : position (node_eq n) (keys_of ns) ≡ None → is_among same_term table.trees (tree_of table n) ≡ false
  missing_among e = not_among same_term terms_decided table.trees (tree_of table n) (missing e)

-- a node is put last
pub record Pushed (old : Table) (ns : List (Node × Count)) (ls : List (Vec TermId × Count)) (made : Term) (t : TermId) : Type 0 where
  pub invariant : IsTable ns ls
  pub interned : Interned old (table_in ns ls) made t

pub pushed : (table : Table) (ns : List (Node × Count)) (ls : List (Vec TermId × Count)) (n : Node) (c : Count) (k : ℕ) → table_in ns ls ≡ table → IsTable ns ls
    → HasParts table n → Counts c (nodes (tree_of table n)) (depth (tree_of table n)) → (nodes (tree_of table n) ≤ 65536) × (depth (tree_of table n) ≤ 512)
    → position (node_eq n) (keys_of ns) ≡ None → k ≡ length ns
    → Pushed table (ns ++ (n, c) ∷ []) ls (tree_of table n) (record { 0 = k })
pushed table ns ls n c k view holds =
    subst (λ t. HasParts t n → Counts c (nodes (tree_of t n)) (depth (tree_of t n)) → (nodes (tree_of t n) ≤ 65536) × (depth (tree_of t n) ≤ 512)
    → position (node_eq n) (keys_of ns) ≡ None → k ≡ length ns → Pushed t (ns ++ (n, c) ∷ []) ls (tree_of t n) (record { 0 = k }))
    view
    (λ parts counts small none last.
    let old = table_in ns ls in
    let made = tree_of old n in
    let absent = missing old ns ls holds n parts none in
    let p = Holds-push ns ls n c holds (record { parts = parts; counts = counts; few = small.0; shallow = small.1 }) absent in
    let added : table_in (ns ++ (n, c) ∷ []) ls ≡ with_tree old made = p.1 ∙ (λ i. record { trees = sym (put_last same_term terms_decided old.trees made absent) i; lists = old.lists }) in
    record {
      invariant = p.0;
      interned = interned_by old (table_in (ns ++ (n, c) ∷ []) ls) made (record { 0 = k }) added
          (subst (λ i. IsNumberOf (with_tree old made).trees i made) (how_many old ns ls holds ∙ sym last) (number_last same_term terms_decided old.trees made holds.trees_once absent));
    })

-- ---- a list that is put, or that is there

pub record InternedList (old new : Table) (made : List Term) (a : ArgsId) : Type 0 where
  pub number : IsNumberOf new.lists a.0 made
  pub added : new ≡ with_list old made
  pub extends : Extends old new

interned_list_by : (old new : Table) (made : List Term) (a : ArgsId) → new ≡ with_list old made → IsNumberOf (with_list old made).lists a.0 made → InternedList old new made a
interned_list_by old new made a e n = record {
  number = subst (λ table. IsNumberOf table.lists a.0 made) (sym e) n;
  added = e;
  extends = subst (Extends old) (sym e) (extends_with_list old made);
}

abbrev pub id_eq : TermId → TermId → Bool
id_eq = (ids.ghosts).eq

ids_decided : (s t : TermId) → Decides (id_eq s t) (s ≡ t)
ids_decided s t = (λ e. let f = eqb-true s.0 t.0 e in λ i. record { 0 = f i }, λ e. eq-eqb s.0 t.0 (ap (λ (u : TermId). u.0) e))

abbrev pub same_ids : List TermId → Vec TermId → Bool
same_ids ts v = pointwise id_eq ts v.items

same_ids_decided : (ts : List TermId) (v : Vec TermId) → Decides (same_ids ts v) (ts ≡ v.items)
same_ids_decided ts v = slice_eq-Decides ids_decided ts v.items (same_ids ts v) refl

of_keys : (g : List TermId → List Term) (ls : List (Vec TermId × Count)) → map g (items_of ls) ≡ map (λ (v : Vec TermId). g v.items) (keys_of ls)
of_keys g [] = refl
of_keys g (e ∷ ls) = ap (λ xs. g e.0.items ∷ xs) (of_keys g ls)

module _ (table : Table) (ns : List (Node × Count)) (ls : List (Vec TermId × Count)) (o : Holds table ns ls) (ts : List TermId) (members : All (IsTerm table) ts) where
  abbrev listed_by : Vec TermId → List Term
  listed_by v = map (tree_at table) v.items

  tells_list : Tells listed_by (same_ids ts) (keys_of ls) (map (tree_at table) ts)
  tells_list i v h =
      let r = key_at ls i v h in
      let of_v : All (IsTerm table) v.items = subst (λ (w : Vec TermId). All (IsTerm table) w.items) r.2 (o.stored_lists i r.0 r.1).terms in (
        λ e. ap (map (tree_at table)) ((same_ids_decided ts v).0 e),
        λ e. (same_ids_decided ts v).1 (same_numbers table ts v.items o.trees_once members of_v e),
      )

  lists_are : table.lists ≡ map listed_by (keys_of ls)
  lists_are = o.lists ∙ of_keys (map (tree_at table)) ls

  pub found_list : (i : ℕ) → position (same_ids ts) (keys_of ls) ≡ Some i → InternedList table table (map (tree_at table) ts) (record { 0 = i })
  found_list i e =
      let made = map (tree_at table) ts in
      let at : slice_get table.lists i ≡ Some made = ap (λ xs. slice_get xs i) lists_are ∙ key_there listed_by (same_ids ts) (keys_of ls) made tells_list i e in
      interned_list_by table table made (record { 0 = i })
      (λ k. record { trees = table.trees; lists = sym (put_at same_terms lists_decided table.lists made i at) k })
      (number_there same_terms lists_decided table.lists made i o.lists_once at)

  -- no list of the table is that of these trees
  pub missing_list : position (same_ids ts) (keys_of ls) ≡ None → (j : ℕ) → slice_get table.lists j ≡ Some (map (tree_at table) ts) → ⊥
  missing_list e j h = key_missing listed_by (same_ids ts) (keys_of ls) (map (tree_at table) ts) tells_list e j (ap (λ xs. slice_get xs j) (sym lists_are) ∙ h)

  pub missing_list_among : position (same_ids ts) (keys_of ls) ≡ None → is_among same_terms table.lists (map (tree_at table) ts) ≡ false
  missing_list_among e = not_among same_terms lists_decided table.lists (map (tree_at table) ts) (missing_list e)

-- a list is put last
pub record PushedList (old : Table) (ns : List (Node × Count)) (ls : List (Vec TermId × Count)) (made : List Term) (a : ArgsId) : Type 0 where
  pub invariant : IsTable ns ls
  pub interned : InternedList old (table_in ns ls) made a

pub pushed_list : (table : Table) (ns : List (Node × Count)) (ls : List (Vec TermId × Count)) (v : Vec TermId) (c : Count) (k : ℕ) (ts : List TermId) → v.items ≡ ts → table_in ns ls ≡ table → IsTable ns ls
    → All (IsTerm table) ts → Counts c (all_nodes (arguments (map (tree_at table) ts))) (all_depth (arguments (map (tree_at table) ts))) → all_depth (arguments (map (tree_at table) ts)) ≤ 512
    → position (same_ids ts) (keys_of ls) ≡ None → k ≡ length ls
    → PushedList table ns (ls ++ (v, c) ∷ []) (map (tree_at table) ts) (record { 0 = k })
pushed_list table ns ls v c k ts items view holds =
    subst (λ us. All (IsTerm table) us → Counts c (all_nodes (arguments (map (tree_at table) us))) (all_depth (arguments (map (tree_at table) us))) → all_depth (arguments (map (tree_at table) us)) ≤ 512
    → position (same_ids us) (keys_of ls) ≡ None → k ≡ length ls → PushedList table ns (ls ++ (v, c) ∷ []) (map (tree_at table) us) (record { 0 = k }))
    items
    (subst (λ t. All (IsTerm t) v.items → Counts c (all_nodes (arguments (map (tree_at t) v.items))) (all_depth (arguments (map (tree_at t) v.items))) → all_depth (arguments (map (tree_at t) v.items)) ≤ 512
    → position (same_ids v.items) (keys_of ls) ≡ None → k ≡ length ls → PushedList t ns (ls ++ (v, c) ∷ []) (map (tree_at t) v.items) (record { 0 = k }))
    view
    (λ members counts shallow none last.
    let old = table_in ns ls in
    let made = map (tree_at old) v.items in
    let absent = missing_list old ns ls holds v.items members none in
    let p = Holds-push_list ns ls v c holds (record { terms = members; counts = counts; shallow = shallow }) absent in
    let added : table_in ns (ls ++ (v, c) ∷ []) ≡ with_list old made = p.1 ∙ (λ i. record { trees = old.trees; lists = sym (put_last same_terms lists_decided old.lists made absent) i }) in
    record {
      invariant = p.0;
      interned = interned_list_by old (table_in ns (ls ++ (v, c) ∷ [])) made (record { 0 = k }) added
          (subst (λ i. IsNumberOf (with_list old made).lists i made) (how_many_lists old ns ls holds ∙ sym last) (number_last same_terms lists_decided old.lists made holds.lists_once absent));
    }))

-- a list that is not there is inserted last
pub inserted_list : {S : Type 0} (table : Table) (ns : List (Node × Count)) (m : IndexMap (Vec TermId) Count S) (entries : List (Vec TermId × Count)) (v : Vec TermId) (c : Count) (k : ℕ) (ts : List TermId)
    → v.items ≡ ts → entries ≡ insert_entry (λ a b. same_ids a.items b) m.entries v c → false ≡ is_some (get_by (same_ids ts) m) → table_in ns m.entries ≡ table → IsTable ns m.entries
    → All (IsTerm table) ts → Counts c (all_nodes (arguments (map (tree_at table) ts))) (all_depth (arguments (map (tree_at table) ts))) → all_depth (arguments (map (tree_at table) ts)) ≤ 512
    → position (same_ids ts) (keys_of m.entries) ≡ None → k ≡ length m.entries
    → PushedList table ns entries (map (tree_at table) ts) (record { 0 = k })
inserted_list table ns m entries v c k ts items inserted absent view holds terms counts shallow missing last =
    let absent_here : false ≡ is_some (get_by (same_ids v.items) m) = subst (λ us. false ≡ is_some (get_by (same_ids us) m)) (sym items) absent in
    let behind : entries ≡ m.entries ++ (v, c) ∷ [] = inserted ∙ insert_entry-new (λ a b. same_ids a.items b) m v c (none_if _ absent_here) in
    subst (λ es. PushedList table ns es (map (tree_at table) ts) (record { 0 = k })) (sym behind)
    (pushed_list table ns m.entries v c k ts items view holds terms counts shallow missing last)
