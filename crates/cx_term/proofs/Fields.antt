-- What the fields of a table say of what it stands for.
use Rattle.std.proofs.Common.{◌≡◌, ℕ, zero, suc, ◌<◌, ◌≤◌, true, List, [], ◌∷◌, length, get_or, map, Some, All, refl, sym, ap, subst, ◌∙◌, arith}
use Rattle.std.specs.Prelude.{slice_get}
use Rattle.std.specs.Global.{Vec}
use Rattle.std.specs.Map.{keys_of}
use Rattle.std.proofs.lemmas.Bool.{le-leb}
use Rattle.std.proofs.lemmas.List.{length-map}
use Rattle.cx_numbered.specs.Numbered.{IsNumberOf}
use Rattle.cx_numbered.proofs.Numbered.{get_or_is, get_map, get_or_map, number_from_get, once_empty}
use Rattle.cx_base.specs.declared.numbers.TermId.{TermId}
use Rattle.cx_term.specs.declared.node.Node.{Node}
use Rattle.cx_term.specs.declared.count.Count.{Count}
use Rattle.cx_term.specs.Term.{Term, void, arguments}
use Rattle.cx_term.specs.Size.{nodes, all_nodes, depth, all_depth, is_small}
use Rattle.cx_term.specs.Table.{Table, IsTerm, HasParts, tree_at, tree_of, no_terms}
use Rattle.cx_term.specs.Layout.{grow, table_of, table_in, items_of, Counts, Holds, IsTable}
use Rattle.cx_term.proofs.Trees.{member_within}

-- the fields of a table that stands for this
pub opened : (table : Table) (ns : List (Node × Count)) (ls : List (Vec TermId × Count)) → table_in ns ls ≡ table → IsTable ns ls → Holds table ns ls
opened table ns ls view invariant = subst (λ t. Holds t ns ls) view invariant

pub empty_opened : IsTable [] [] × (table_in [] [] ≡ no_terms)
unfolding table_of grow
empty_opened = (record { trees = refl; lists = refl; stored = λ i e h. absurd cc; stored_lists = λ i e h. absurd cc; trees_once = once_empty; lists_once = once_empty }, refl)

pub small_if : (t : Term) → nodes t ≤ 65536 → depth t ≤ 512 → is_small t ≡ true
small_if t few shallow = rw (le-leb _ _ few, le-leb _ _ shallow) refl

-- what is said of the node that is stored at k
pub record StoredAt (table : Table) (k : ℕ) (e : Node × Count) : Type 0 where
  pub parts : HasParts table e.0
  pub tree : tree_of table e.0 ≡ get_or table.trees k void
  pub counts : Counts e.1 (nodes (get_or table.trees k void)) (depth (get_or table.trees k void))
  pub small : is_small (get_or table.trees k void) ≡ true
  pub shallow : depth (get_or table.trees k void) ≤ 512
  pub number : IsNumberOf table.trees k (get_or table.trees k void)

-- and of the list
pub record StoredListAt (table : Table) (k : ℕ) (e : Vec TermId × Count) : Type 0 where
  pub terms : All (IsTerm table) e.0.items
  pub list : map (tree_at table) e.0.items ≡ get_or table.lists k []
  pub counts : Counts e.1 (all_nodes (arguments (get_or table.lists k []))) (all_depth (arguments (get_or table.lists k [])))
  pub small : All (λ t. is_small (tree_at table t) ≡ true) e.0.items
  pub shallow : all_depth (arguments (get_or table.lists k [])) ≤ 512
  pub number : IsNumberOf table.lists k (get_or table.lists k [])

some_at : {A : Type 0} (xs : List A) (k : ℕ) → k < length xs → (x : A) × (slice_get xs k ≡ Some x)
some_at [] k h = absurd (omega (arith, h))
some_at (x ∷ xs) zero h = (x, refl)
some_at (x ∷ xs) (suc k) h = some_at xs k (omega (arith, h))

module _ (table : Table) (ns : List (Node × Count)) (ls : List (Vec TermId × Count)) (o : Holds table ns ls) where
  pub how_many : length table.trees ≡ length ns
  how_many = ap length o.trees ∙ length-map (keys_of ns) (tree_of table) ∙ length-map ns (λ e. e.0)

  pub how_many_lists : length table.lists ≡ length ls
  how_many_lists = ap length o.lists ∙ length-map (items_of ls) (map (tree_at table)) ∙ length-map ls (λ e. e.0.items)

  pub tree_stored : (k : ℕ) (e : Node × Count) → slice_get ns k ≡ Some e → slice_get table.trees k ≡ Some (tree_of table e.0)
  tree_stored k e h = ap (λ ts. slice_get ts k) o.trees ∙ get_map (tree_of table) (keys_of ns) k e.0 (get_map (λ (p : Node × Count). p.0) ns k e h)

  pub list_stored : (k : ℕ) (e : Vec TermId × Count) → slice_get ls k ≡ Some e → slice_get table.lists k ≡ Some (map (tree_at table) e.0.items)
  list_stored k e h = ap (λ xs. slice_get xs k) o.lists ∙ get_map (map (tree_at table)) (items_of ls) k e.0.items (get_map (λ (p : Vec TermId × Count). p.0.items) ls k e h)

  pub stored_at : (k : ℕ) (e : Node × Count) → slice_get ns k ≡ Some e → StoredAt table k e
  stored_at k e h =
      let s = o.stored k e h in
      let here = tree_stored k e h in
      let tree : tree_of table e.0 ≡ get_or table.trees k void = sym (get_or_is table.trees k (tree_of table e.0) void here) in
      record {
        parts = s.parts;
        tree = tree;
        counts = subst (λ t. Counts e.1 (nodes t) (depth t)) tree s.counts;
        small = subst (λ t. is_small t ≡ true) tree (small_if (tree_of table e.0) s.few s.shallow);
        shallow = subst (λ t. depth t ≤ 512) tree s.shallow;
        number = subst (IsNumberOf table.trees k) tree (number_from_get table.trees k (tree_of table e.0) o.trees_once here);
      }

  -- each tree of the table is within the limits
  pub within : (t : TermId) → IsTerm table t → is_small (tree_at table t) ≡ true
  within t h =
      let e = some_at ns t.0 (omega (arith, how_many, h)) in
      (stored_at t.0 e.0 e.1).small

  pub list_stored_at : (k : ℕ) (e : Vec TermId × Count) → slice_get ls k ≡ Some e → StoredListAt table k e
  list_stored_at k e h =
      let s = o.stored_lists k e h in
      let here = list_stored k e h in
      let list : map (tree_at table) e.0.items ≡ get_or table.lists k [] = sym (get_or_is table.lists k (map (tree_at table) e.0.items) [] here) in
      record {
        terms = s.terms;
        list = list;
        counts = subst (λ l. Counts e.1 (all_nodes (arguments l)) (all_depth (arguments l))) list s.counts;
        small = λ i d lt. within (get_or e.0.items i d) (s.terms i d lt);
        shallow = subst (λ l. all_depth (arguments l) ≤ 512) list s.shallow;
        number = subst (IsNumberOf table.lists k) list (number_from_get table.lists k (map (tree_at table) e.0.items) o.lists_once here);
      }

-- the members of a list are no larger than it
pub members_within : (table : Table) (ts : List TermId) (us : List Term) → map (tree_at table) ts ≡ us → All (λ t. nodes (tree_at table t) ≤ all_nodes (arguments us)) ts
members_within table ts us e k d lt =
    subst (λ vs. nodes (tree_at table (get_or ts k d)) ≤ all_nodes (arguments vs)) e
    (subst (λ v. nodes v ≤ all_nodes (arguments (map (tree_at table) ts))) (get_or_map (tree_at table) ts k d)
    (member_within (map (tree_at table) ts) k (tree_at table d) (omega (arith, lt, length-map ts (tree_at table)))))
