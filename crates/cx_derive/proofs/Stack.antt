-- What is still to be done of the search.
use Rattle.std.proofs.Common.{◌≡◌, ℕ, zero, suc, ◌+◌, ◌*◌, ◌<◌, List, [], ◌∷◌, ◌++◌, length, Option, Some, None, refl, sym, ap, subst, ◌∙◌, inl, inr, arith, append_assoc, length-append}
use Rattle.std.specs.Prelude.{slice_get}
use Rattle.std.specs.List.{flat_map}
use Rattle.std.specs.Option.{option_or}
use Rattle.std.proofs.lemmas.List.{append-nil}
use Rattle.cx_prop.specs.Formula.{Formula}
use Rattle.cx_numbered.specs.Numbered.{HasEachOnce}
use Rattle.cx_numbered.proofs.Numbered.{get_front, get_last, get_push_cases}
use Rattle.cx_derive.specs.declared.goal.Goal.{Goal}
use Rattle.cx_derive.specs.declared.task.Task.{Task}
use Rattle.cx_derive.specs.declared.task.Task.TheVariants as task
use Rattle.cx_derive.specs.Lists.{with_all}
use Rattle.cx_derive.specs.Sequents.{Sequent, same_sequent}
use Rattle.cx_derive.specs.Search.{Choice, chosen, premises_of, first_some, sequents_below, open_leaf}
use Rattle.indexmap.specs.IndexSet.{insert_key}
use Rattle.cx_derive.specs.Goals.{sequent_of, sequents_of, HasGoal, HasGoals, Explored, Explores}
use Rattle.cx_derive.specs.Tasks.{onto, Goes}
use Rattle.cx_derive.proofs.Walks.{with_all-append, with_all-one, with_all-none}
use Rattle.cx_derive.proofs.Depths.{NoRule, ByRule, case_of, leaf_by_rule, leaf_by_none, below_by_rule, sequents_below-step}
use Rattle.cx_derive.proofs.Found.{goal_eq, insert_is, Explored-insert}
use Rattle.cx_derive.proofs.Distinct.{Among, all_there, among_all_right}
use Rattle.cx_prop.specs.Interned.{Interned, same_interned}
use Rattle.cx_prop.proofs.Lemmas.{same_interned-Decides}

or_none : (o : Option (Sequent Interned)) → option_or o None ≡ o
or_none None = refl
or_none (Some s) = refl

module _ (table : List (Formula Interned)) where
  -- the sequents that a task adds, and the leaf that it comes to
  abbrev pub added_by : Task → List (Sequent Interned)
  added_by (task.Search g) = sequents_below same_interned (sequent_of table g)
  added_by (task.Note g) = sequent_of table g ∷ []

  abbrev pub leaf_by : Task → Option (Sequent Interned)
  leaf_by (task.Search g) = open_leaf same_interned (sequent_of table g)
  leaf_by (task.Note g) = None

  -- the same of a stack, from its top
  abbrev pub added : List Task → List (Sequent Interned)
  added [] = []
  added (t ∷ ts) = added ts ++ added_by t

  abbrev pub leaf : List Task → Option (Sequent Interned)
  leaf [] = None
  leaf (t ∷ ts) = option_or (leaf ts) (leaf_by t)

  -- a goal may be noted where all sequents below its premises are found, and no leaf
  abbrev pub IsReady : List (Sequent Interned) → Task → Type 0
  IsReady ss (task.Search g) = Unit {0}
  IsReady ss (task.Note g) = ((u : Sequent Interned) → Among same_interned (flat_map (sequents_below same_interned) (premises_of (chosen same_interned (sequent_of table g)))) u → Among same_interned ss u) × (open_leaf same_interned (sequent_of table g) ≡ None)

  -- each task of a stack is ready when those above it are done
  abbrev pub AreReady : List (Sequent Interned) → List Task → Type 0
  AreReady ss [] = Unit {0}
  AreReady ss (t ∷ ts) = AreReady ss ts × (leaf ts ≡ None → IsReady (with_all (same_sequent same_interned) ss (added ts)) t)

  abbrev pub HasTask : Task → Type 0
  HasTask (task.Search g) = HasGoal table g
  HasTask (task.Note g) = HasGoal table g

  abbrev pub HasTasks : List Task → Type 0
  HasTasks ts = (i : ℕ) (t : Task) → slice_get ts i ≡ Some t → HasTask t

  or_assoc : (o p q : Option (Sequent Interned)) → option_or (option_or o p) q ≡ option_or o (option_or p q)
  or_assoc None p q = refl
  or_assoc (Some s) p q = refl

  pub added-push : (ts : List Task) (t : Task) → added (ts ++ t ∷ []) ≡ added_by t ++ added ts
  added-push [] t = sym (append-nil (added_by t))
  added-push (u ∷ ts) t = ap (λ (ss : List (Sequent Interned)). ss ++ added_by u) (added-push ts t) ∙ append_assoc (added_by t) (added ts) (added_by u)

  pub leaf-push : (ts : List Task) (t : Task) → leaf (ts ++ t ∷ []) ≡ option_or (leaf_by t) (leaf ts)
  leaf-push [] t = sym (or_none (leaf_by t))
  leaf-push (u ∷ ts) t = ap (λ (o : Option (Sequent Interned)). option_or o (leaf_by u)) (leaf-push ts t) ∙ or_assoc (leaf_by t) (leaf ts) (leaf_by u)

  with_all-added : (ss : List (Sequent Interned)) (ts : List Task) (t : Task) → with_all (same_sequent same_interned) ss (added (ts ++ t ∷ [])) ≡ with_all (same_sequent same_interned) (with_all (same_sequent same_interned) ss (added_by t)) (added ts)
  with_all-added ss ts t = ap (with_all (same_sequent same_interned) ss) (added-push ts t) ∙ with_all-append (same_sequent same_interned) ss (added_by t) (added ts)

  -- the top of a stack is ready, and the rest behind it
  pub ready_top : (ss : List (Sequent Interned)) (ts : List Task) (t : Task) → AreReady ss (ts ++ t ∷ []) → IsReady ss t
  ready_top ss [] t h = subst (λ (us : List (Sequent Interned)). IsReady us t) (with_all-none (same_sequent same_interned) ss) (h.1 refl)
  ready_top ss (u ∷ ts) t h = ready_top ss ts t h.0

  pub ready_rest : (ss : List (Sequent Interned)) (ts : List Task) (t : Task) → AreReady ss (ts ++ t ∷ []) → leaf_by t ≡ None → AreReady (with_all (same_sequent same_interned) ss (added_by t)) ts
  ready_rest ss [] t h none = tt
  ready_rest ss (u ∷ ts) t h none = (
    ready_rest ss ts t h.0 none,
    λ later. subst (λ (us : List (Sequent Interned)). IsReady us u) (with_all-added ss ts t) (h.1 (leaf-push ts t ∙ ap (λ (o : Option (Sequent Interned)). option_or o (leaf ts)) none ∙ later)),
  )

  or_none_left : (o p : Option (Sequent Interned)) → option_or o p ≡ None → o ≡ None
  or_none_left None p e = refl
  or_none_left (Some s) p e = absurd cc

  or_none_right : (o p : Option (Sequent Interned)) → option_or o p ≡ None → p ≡ None
  or_none_right None p e = e
  or_none_right (Some s) p e = absurd cc

  -- one more task on top
  pub ready_push : (ss : List (Sequent Interned)) (ts : List Task) (t : Task) → IsReady ss t → (leaf_by t ≡ None → AreReady (with_all (same_sequent same_interned) ss (added_by t)) ts) → AreReady ss (ts ++ t ∷ [])
  ready_push ss [] t top rest = (tt, λ _. subst (λ (us : List (Sequent Interned)). IsReady us t) (sym (with_all-none (same_sequent same_interned) ss)) top)
  ready_push ss (u ∷ ts) t top rest = (
    ready_push ss ts t top (λ none. (rest none).0),
    λ none.
        let both : option_or (leaf_by t) (leaf ts) ≡ None = sym (leaf-push ts t) ∙ none in
        subst (λ (us : List (Sequent Interned)). IsReady us u) (sym (with_all-added ss ts t)) ((rest (or_none_left (leaf_by t) (leaf ts) both)).1 (or_none_right (leaf_by t) (leaf ts) both)),
  )

  -- ---- premises on top of a stack

  pub added-onto : (ts : List Task) (gs : List Goal) → added (onto ts gs) ≡ flat_map (sequents_below same_interned) (sequents_of table gs) ++ added ts
  added-onto ts [] = refl
  added-onto ts (g ∷ gs) =
      added-push (onto ts gs) (task.Search g) ∙ ap (λ (ss : List (Sequent Interned)). sequents_below same_interned (sequent_of table g) ++ ss) (added-onto ts gs)
      ∙ sym (append_assoc (sequents_below same_interned (sequent_of table g)) (flat_map (sequents_below same_interned) (sequents_of table gs)) (added ts))

  pub leaf-onto : (ts : List Task) (gs : List Goal) → leaf (onto ts gs) ≡ option_or (first_some (open_leaf same_interned) (sequents_of table gs)) (leaf ts)
  leaf-onto ts [] = refl
  leaf-onto ts (g ∷ gs) =
      leaf-push (onto ts gs) (task.Search g) ∙ ap (option_or (open_leaf same_interned (sequent_of table g))) (leaf-onto ts gs)
      ∙ sym (or_assoc (open_leaf same_interned (sequent_of table g)) (first_some (open_leaf same_interned) (sequents_of table gs)) (leaf ts))

  both_none : (o p : Option (Sequent Interned)) → o ≡ None → p ≡ None → option_or o p ≡ None
  both_none o p e h = ap (λ (q : Option (Sequent Interned)). option_or q p) e ∙ h

  pub ready-onto : (ss : List (Sequent Interned)) (ts : List Task) (gs : List Goal)
      → (first_some (open_leaf same_interned) (sequents_of table gs) ≡ None → AreReady (with_all (same_sequent same_interned) ss (flat_map (sequents_below same_interned) (sequents_of table gs))) ts) → AreReady ss (onto ts gs)
  ready-onto ss ts [] h = subst (λ (us : List (Sequent Interned)). AreReady us ts) (with_all-none (same_sequent same_interned) ss) (h refl)
  ready-onto ss ts (g ∷ gs) h =
      ready_push ss (onto ts gs) (task.Search g) tt
      (λ none. ready-onto (with_all (same_sequent same_interned) ss (sequents_below same_interned (sequent_of table g))) ts gs
      (λ later. subst (λ (us : List (Sequent Interned)). AreReady us ts) (with_all-append (same_sequent same_interned) ss (sequents_below same_interned (sequent_of table g)) (flat_map (sequents_below same_interned) (sequents_of table gs)))
      (h (both_none (open_leaf same_interned (sequent_of table g)) (first_some (open_leaf same_interned) (sequents_of table gs)) none later))))

  HasTasks-push : (ts : List Task) (t : Task) → HasTasks ts → HasTask t → HasTasks (ts ++ t ∷ [])
  HasTasks-push ts t h k i u e = elim (get_push_cases ts t i u e) [ inl old ↦ h i u old | inr new ↦ subst HasTask (sym new.1) k ]

  HasTasks-onto : (ts : List Task) (gs : List Goal) → HasTasks ts → HasGoals table gs → HasTasks (onto ts gs)
  HasTasks-onto ts [] h k = h
  HasTasks-onto ts (g ∷ gs) h k = HasTasks-push (onto ts gs) (task.Search g) (HasTasks-onto ts gs h (λ i x e. k (suc i) x e)) (k 0 g refl)

  pub HasTasks-rest : (ts : List Task) (t : Task) → HasTasks (ts ++ t ∷ []) → HasTasks ts
  HasTasks-rest ts t h i u e = h i u (get_front ts (t ∷ []) i u e)

  pub HasTasks-top : (ts : List Task) (t : Task) → HasTasks (ts ++ t ∷ []) → HasTask t
  HasTasks-top ts t h = h (length ts) t (get_last ts t)

-- ---- the search so far, from a goal, with what was found before it

pub record Going (table : List (Formula Interned)) (old : List Goal) (start : Goal) (found : List Goal) (ts : List Task) : Type 0 where
  pub has : HasTasks table ts
  pub explored : Explored table found
  pub ready : AreReady table (sequents_of table found) ts
  pub leaf_is : leaf table ts ≡ open_leaf same_interned (sequent_of table start)
  pub all_is : with_all (same_sequent same_interned) (sequents_of table found) (added table ts) ≡ with_all (same_sequent same_interned) (sequents_of table old) (sequents_below same_interned (sequent_of table start))

module _ (table : List (Formula Interned)) (once : HasEachOnce table) (old : List Goal) (start : Goal) where
  pub Going-start : Explored table old → HasGoal table start → Going table old start old (task.Search start ∷ [])
  Going-start ex x = record {
    has = λ i t e. start_has i t e;
    explored = ex;
    ready = (tt, λ _. tt);
    leaf_is = refl;
    all_is = refl;
  }
    where
      start_has : HasTasks table (task.Search start ∷ [])
      start_has zero t e = subst (HasTask table) (some_is t e) x
        where
          some_is : (t : Task) → slice_get (task.Search start ∷ []) 0 ≡ Some t → task.Search start ≡ t
          some_is t e = cc
      start_has (suc i) t e = absurd cc

  -- the goal on top is found already
  pub Going-skip : (found : List Goal) (ts : List Task) (g : Goal) → Going table old start found (ts ++ task.Search g ∷ []) → Among same_interned (sequents_of table found) (sequent_of table g) → Going table old start found ts
  Going-skip found ts g go there =
      let ss = sequents_of table found in
      let s = sequent_of table g in
      let stays : with_all (same_sequent same_interned) ss (sequents_below same_interned s) ≡ ss = all_there same_interned same_interned-Decides ss (sequents_below same_interned s) (λ u k. go.explored.closed s u there k) in
      let none : (open_leaf same_interned) s ≡ None = go.explored.no_leaf s there in record {
        has = HasTasks-rest table ts (task.Search g) go.has;
        explored = go.explored;
        ready = subst (λ (us : List (Sequent Interned)). AreReady table us ts) stays (ready_rest table ss ts (task.Search g) go.ready none);
        leaf_is = ap (λ (o : Option (Sequent Interned)). option_or o (leaf table ts)) (sym none) ∙ sym (leaf-push table ts (task.Search g)) ∙ go.leaf_is;
        all_is = ap (λ (us : List (Sequent Interned)). with_all (same_sequent same_interned) us (added table ts)) (sym stays) ∙ sym (with_all-added table ss ts (task.Search g)) ∙ go.all_is;
      }

  -- the goal on top is an open leaf
  pub Going-leaf : (found : List Goal) (ts new : List Task) (g : Goal) → Going table old start found (ts ++ task.Search g ∷ []) → (l : Goal) → Goes table found g ts new (Some l) → Explores table old found (sequent_of table start) (Some l)
  Going-leaf found ts new g go l goes = (
    sym go.leaf_is ∙ leaf-push table ts (task.Search g) ∙ ap (λ (o : Option (Sequent Interned)). option_or o (leaf table ts)) (leaf_by_none same_interned (sequent_of table g) goes.0) ∙ ap (λ (h : Goal). Some (sequent_of table h)) (sym goes.1),
    subst (HasGoal table) (sym goes.1) (HasTasks-top table ts (task.Search g) go.has),
  )

  module _ (found : List Goal) (ts : List Task) (g : Goal) where
    abbrev ss : List (Sequent Interned)
    ss = sequents_of table found

    abbrev s : Sequent Interned
    s = sequent_of table g

    -- the goal on top is put off behind its premises
    module _ (go : Going table old start found (ts ++ task.Search g ∷ [])) (c : Choice Interned) (gs : List Goal) (has_gs : HasGoals table gs) (is : (chosen same_interned) (sequent_of table g) ≡ Some c)
        (premises_are : c.1 ≡ sequents_of table gs) where
      abbrev flat : List (Sequent Interned)
      flat = flat_map (sequents_below same_interned) (sequents_of table gs)

      below_is : (sequents_below same_interned) s ≡ flat ++ s ∷ []
      below_is = below_by_rule same_interned s c is ∙ ap (λ (ps : List (Sequent Interned)). flat_map (sequents_below same_interned) ps ++ s ∷ []) premises_are

      leaf_of_goals : (open_leaf same_interned) s ≡ first_some (open_leaf same_interned) (sequents_of table gs)
      leaf_of_goals = leaf_by_rule same_interned s c is ∙ ap (first_some (open_leaf same_interned)) premises_are

      noted : first_some (open_leaf same_interned) (sequents_of table gs) ≡ None → AreReady table (with_all (same_sequent same_interned) ss flat) (ts ++ task.Note g ∷ [])
      noted none =
          ready_push table (with_all (same_sequent same_interned) ss flat) ts (task.Note g) (
            λ u k. among_all_right same_interned same_interned-Decides ss flat u
                (subst (λ (ps : List (Sequent Interned)). Among same_interned (flat_map (sequents_below same_interned) ps) u) premises_are (subst (λ (o : Option (Choice Interned)). Among same_interned (flat_map (sequents_below same_interned) (premises_of o)) u) is k)),
            leaf_of_goals ∙ none,
          )
          (λ _. subst (λ (us : List (Sequent Interned)). AreReady table us ts) (ap (with_all (same_sequent same_interned) ss) below_is ∙ with_all-append (same_sequent same_interned) ss flat (s ∷ []))
          (ready_rest table ss ts (task.Search g) go.ready (leaf_of_goals ∙ none)))

      pub Going-put_off : Going table old start found (onto (ts ++ task.Note g ∷ []) gs)
      Going-put_off = record {
        has = HasTasks-onto table (ts ++ task.Note g ∷ []) gs (HasTasks-push table ts (task.Note g) (HasTasks-rest table ts (task.Search g) go.has) (HasTasks-top table ts (task.Search g) go.has)) has_gs;
        explored = go.explored;
        ready = ready-onto table ss (ts ++ task.Note g ∷ []) gs noted;
        leaf_is =
            leaf-onto table (ts ++ task.Note g ∷ []) gs ∙ (λ i. option_or (sym leaf_of_goals i) (leaf-push table ts (task.Note g) i))
            ∙ sym (leaf-push table ts (task.Search g)) ∙ go.leaf_is;
        all_is =
            ap (with_all (same_sequent same_interned) ss)
            (added-onto table (ts ++ task.Note g ∷ []) gs ∙ ap (λ (us : List (Sequent Interned)). flat ++ us) (added-push table ts (task.Note g))
            ∙ sym (append_assoc flat (s ∷ []) (added table ts)) ∙ ap (λ (us : List (Sequent Interned)). us ++ added table ts) (sym below_is) ∙ sym (added-push table ts (task.Search g)))
            ∙ go.all_is;
      }

    -- the goal on top is noted
    module _ (go : Going table old start found (ts ++ task.Note g ∷ [])) where
      abbrev after : List Goal
      after = insert_key goal_eq found g

      x : HasGoal table g
      x = HasTasks-top table ts (task.Note g) go.has

      top : IsReady table ss (task.Note g)
      top = ready_top table ss ts (task.Note g) go.ready

      explored_after : Explored table after
      explored_after =
          elim (case_of same_interned s) [
            | NoRule k ↦ absurd (none_some (sym top.1 ∙ leaf_by_none same_interned s k))
            | ByRule c k ↦
                Explored-insert table once found g c x k go.explored
                (λ u h. top.0 u (subst (λ (o : Option (Choice Interned)). Among same_interned (flat_map (sequents_below same_interned) (premises_of o)) u) (sym k) h)) (sym (leaf_by_rule same_interned s c k) ∙ top.1)
          ]
        where
          none_some : {t : (Sequent Interned)} → None ≡ Some t → ⊥
          none_some e = cc

      after_is : with_all (same_sequent same_interned) ss (s ∷ []) ≡ sequents_of table after
      after_is = with_all-one (same_sequent same_interned) ss s ∙ sym (insert_is table once found g go.explored.has x)

      pub Going-note : Going table old start (insert_key goal_eq found g) ts
      Going-note = record {
        has = HasTasks-rest table ts (task.Note g) go.has;
        explored = explored_after;
        ready = subst (λ (us : List (Sequent Interned)). AreReady table us ts) after_is (ready_rest table ss ts (task.Note g) go.ready refl);
        leaf_is = sym (leaf-push table ts (task.Note g)) ∙ go.leaf_is;
        all_is = ap (λ (us : List (Sequent Interned)). with_all (same_sequent same_interned) us (added table ts)) (sym after_is) ∙ sym (with_all-added table ss ts (task.Note g)) ∙ go.all_is;
      }

  -- what becomes of a goal on top that is no leaf
  pub Going-on : (found : List Goal) (ts new : List Task) (g : Goal) → Going table old start found (ts ++ task.Search g ∷ []) → Goes table found g ts new None → Going table old start found new
  Going-on found ts new g go (inl h) = subst (Going table old start found) (sym h.1) (Going-skip found ts g go h.0)
  Going-on found ts new g go (inr h) = subst (Going table old start found) (sym h.tasks) (Going-put_off found ts g go (h.rule, sequents_of table h.goals) h.goals h.has h.chooses refl)

  -- nothing is left
  pub Going-done : (found : List Goal) → Going table old start found [] → Explores table old found (sequent_of table start) None
  Going-done found go = (sym go.leaf_is, sym (with_all-none (same_sequent same_interned) (sequents_of table found)) ∙ go.all_is)

-- ---- how much is left

module _ (table : List (Formula Interned)) where
  abbrev weight : Task → ℕ
  weight (task.Search g) = 2 * length (sequents_below same_interned (sequent_of table g))
  weight (task.Note g) = 1

  abbrev pub total : List Task → ℕ
  total [] = 0
  total (t ∷ ts) = weight t + total ts

  total-push : (ts : List Task) (t : Task) → total (ts ++ t ∷ []) ≡ weight t + total ts
  total-push [] t = refl
  total-push (u ∷ ts) t = omega (arith, total-push ts t)

  total-onto : (ts : List Task) (gs : List Goal) → total (onto ts gs) ≡ 2 * length (flat_map (sequents_below same_interned) (sequents_of table gs)) + total ts
  total-onto ts [] = omega arith
  total-onto ts (g ∷ gs) =
      omega (arith, total-push (onto ts gs) (task.Search g), total-onto ts gs, length-append (sequents_below same_interned (sequent_of table g)) (flat_map (sequents_below same_interned) (sequents_of table gs)))

  longer : (ss : List (Sequent Interned)) (s : Sequent Interned) → length (ss ++ s ∷ []) ≡ length ss + 1
  longer ss s = length-append ss (s ∷ [])

  not_none : (s : Sequent Interned) → 0 < length (sequents_below same_interned s)
  not_none s =
      let e : length (sequents_below same_interned s) ≡ length (flat_map (sequents_below same_interned) (premises_of (chosen same_interned s))) + 1 =
      ap length (sequents_below-step same_interned s) ∙ longer (flat_map (sequents_below same_interned) (premises_of (chosen same_interned s))) s in
      omega arith

  pub note_smaller : (ts : List Task) (g : Goal) → total ts < total (ts ++ task.Note g ∷ [])
  note_smaller ts g = omega (arith, total-push ts (task.Note g))

  pub skip_smaller : (ts : List Task) (g : Goal) → total ts < total (ts ++ task.Search g ∷ [])
  skip_smaller ts g = omega (arith, total-push ts (task.Search g), not_none (sequent_of table g))

  pub put_off_smaller : (ts : List Task) (g : Goal) (c : Choice Interned) (gs : List Goal) → chosen same_interned (sequent_of table g) ≡ Some c → c.1 ≡ sequents_of table gs
      → total (onto (ts ++ task.Note g ∷ []) gs) < total (ts ++ task.Search g ∷ [])
  put_off_smaller ts g c gs is premises_are =
      let s = sequent_of table g in
      let flat = flat_map (sequents_below same_interned) (sequents_of table gs) in
      let e : length (sequents_below same_interned s) ≡ length flat + 1 =
      ap length (below_by_rule same_interned s c is ∙ ap (λ (ps : List (Sequent Interned)). flat_map (sequents_below same_interned) ps ++ s ∷ []) premises_are) ∙ longer flat s in
      omega (arith, total-push ts (task.Search g), total-push ts (task.Note g), total-onto (ts ++ task.Note g ∷ []) gs)

  pub goes_smaller : (found : List Goal) (ts new : List Task) (g : Goal) → Goes table found g ts new None → total new < total (ts ++ task.Search g ∷ [])
  goes_smaller found ts new g (inl h) = subst (λ (us : List Task). total us < total (ts ++ task.Search g ∷ [])) (sym h.1) (skip_smaller ts g)
  goes_smaller found ts new g (inr h) =
      subst (λ (us : List Task). total us < total (ts ++ task.Search g ∷ [])) (sym h.tasks) (put_off_smaller ts g (h.rule, sequents_of table h.goals) h.goals h.chooses refl)
