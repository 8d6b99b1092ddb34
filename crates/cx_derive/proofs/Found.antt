-- What the search has found, as goals are added.
use Rattle.std.proofs.Common.{◌≡◌, suc, Bool, true, false, ◌&&◌, ◌||◌, cond, List, [], ◌∷◌, ◌++◌, Some, None, refl, sym, ap, subst, ◌∙◌, ◌⊎◌, inl, inr, true≢false}
use Rattle.std.specs.Prelude.{fold}
use Rattle.std.specs.Bool.{Decides}
use Rattle.std.specs.Cmp.Lexicographic.{pointwise}
use Rattle.std.specs.List.{flat_map, list_any}
use Rattle.std.proofs.lemmas.Bool.Decides.{Decides-like, Decides-and}
use Rattle.std.proofs.lemmas.Slice.Eq.{slice_eq-Decides}
use Rattle.std.proofs.lemmas.List.{map-append}
use Rattle.std.proofs.lemmas.List.Folds.{list_any-append}
use Rattle.cx_base.specs.declared.numbers.FormulaId.{FormulaId}
use Rattle.cx_prop.specs.Formula.{Formula}
use Rattle.cx_numbered.specs.Numbered.{HasEachOnce}
use Rattle.cx_numbered.proofs.Numbered.{either, or_cases, or_left, or_right, get_push_cases}
use Rattle.cx_prop.proofs.Lemmas.{same_stored-Decides}
use Rattle.cx_derive.specs.declared.goal.Goal.{Goal}
use Rattle.cx_derive.specs.Lists.{is_among, with_new, with_all}
use Rattle.cx_derive.specs.Sequents.{Sequent, same_formulas, same_sequent}
use Rattle.cx_derive.specs.Search.{Choice, chosen, first_some, sequents_below, open_leaf}
use Rattle.cx_derive.specs.Goals.{formulas_at, HasAll, same_number, sequent_of, HasGoal, sequents_of, HasGoals, Explored}
use Rattle.cx_derive.specs.contracts.goal.GoalPartialEq.TheImpl as derived
use Rattle.indexmap.specs.IndexSet.{insert_key}
use Rattle.cx_derive.proofs.Numbers.{same_number_is, head, tail}
use Rattle.cx_derive.proofs.Depths.{leaf_by_rule, below_by_rule}
use Rattle.cx_prop.specs.Interned.{Interned, same_interned}
use Rattle.cx_prop.proofs.Lemmas.{same_interned-Decides}
use Rattle.cx_derive.proofs.Distinct.{Among, among_append_cases, among_one_is, among_new, among_new_itself, among_new_cases}

-- ---- goals and their sequents

abbrev pub goal_eq : Goal → Goal → Bool
goal_eq = (derived.eq-value).it

module _ (table : List (Formula Interned)) (once : HasEachOnce table) where
  numbers_eq : (fs gs : List FormulaId) → HasAll table fs → HasAll table gs → pointwise same_number fs gs ≡ same_formulas same_interned (formulas_at table fs) (formulas_at table gs)
  numbers_eq [] [] h k = refl
  numbers_eq [] (g ∷ gs) h k = refl
  numbers_eq (f ∷ fs) [] h k = refl
  numbers_eq (f ∷ fs) (g ∷ gs) h k = λ i. same_number_is table once f g (head table once f fs h) (head table once g gs k) i && numbers_eq fs gs (tail table once f fs h) (tail table once g gs k) i

  pub goal_eq_is : (g h : Goal) → HasGoal table g → HasGoal table h → goal_eq g h ≡ same_sequent same_interned (sequent_of table g) (sequent_of table h)
  goal_eq_is g h x y = λ i. numbers_eq g.left.items h.left.items x.left y.left i && numbers_eq g.right.items h.right.items x.right y.right i

  goals_head : (g : Goal) (gs : List Goal) → HasGoals table (g ∷ gs) → HasGoal table g
  goals_head g gs h = h 0 g refl

  goals_tail : (g : Goal) (gs : List Goal) → HasGoals table (g ∷ gs) → HasGoals table gs
  goals_tail g gs h i k e = h (suc i) k e

  pub contains_is : (gs : List Goal) (g : Goal) → HasGoals table gs → HasGoal table g → list_any (goal_eq g) gs ≡ is_among (same_sequent same_interned) (sequents_of table gs) (sequent_of table g)
  contains_is [] g h x = refl
  contains_is (k ∷ gs) g h x = λ i. goal_eq_is g k x (goals_head k gs h) i || contains_is gs g (goals_tail k gs h) x i

  pub insert_is : (gs : List Goal) (g : Goal) → HasGoals table gs → HasGoal table g → sequents_of table (insert_key goal_eq gs g) ≡ with_new (same_sequent same_interned) (sequents_of table gs) (sequent_of table g)
  insert_is gs g h x =
      by (list_any (goal_eq g) gs) ∙ ap (λ (b : Bool). cond b (sequents_of table gs) (sequents_of table gs ++ sequent_of table g ∷ [])) (contains_is gs g h x)
    where
      by : (b : Bool) → sequents_of table (cond b gs (gs ++ g ∷ [])) ≡ cond b (sequents_of table gs) (sequents_of table gs ++ sequent_of table g ∷ [])
      by true = refl
      by false = map-append (sequent_of table) gs (g ∷ [])

  HasGoals-insert : (gs : List Goal) (g : Goal) → HasGoals table gs → HasGoal table g → HasGoals table (insert_key goal_eq gs g)
  HasGoals-insert gs g h x = by (list_any (goal_eq g) gs)
    where
      pushed : HasGoals table (gs ++ g ∷ [])
      pushed i k e = elim (get_push_cases gs g i k e) [ inl old ↦ h i k old | inr new ↦ subst (HasGoal table) (sym new.1) x ]

      by : (b : Bool) → HasGoals table (cond b gs (gs ++ g ∷ []))
      by true = h
      by false = pushed

  -- a goal is added whose premises are found
  module _ (gs : List Goal) (g : Goal) (c : Choice Interned) (x : HasGoal table g) (is : (chosen same_interned) (sequent_of table g) ≡ Some c) (ex : Explored table gs)
      (before : (u : Sequent Interned) → Among same_interned (flat_map (sequents_below same_interned) c.1) u → Among same_interned (sequents_of table gs) u) (none : first_some (open_leaf same_interned) c.1 ≡ None) where
    abbrev s : Sequent Interned
    s = sequent_of table g

    abbrev after : List Goal
    after = insert_key goal_eq gs g

    new_is : sequents_of table after ≡ with_new (same_sequent same_interned) (sequents_of table gs) s
    new_is = insert_is gs g ex.has x

    below_there : (u : Sequent Interned) → Among same_interned (sequents_below same_interned s) u → Among same_interned (sequents_of table after) u
    below_there u h =
        subst (λ (ss : List (Sequent Interned)). Among same_interned ss u) (sym new_is)
        (elim (among_append_cases same_interned same_interned-Decides (flat_map (sequents_below same_interned) c.1) (s ∷ []) u (subst (λ (ss : List (Sequent Interned)). Among same_interned ss u) (below_by_rule same_interned s c is) h)) [
          | inl above ↦ among_new same_interned same_interned-Decides (sequents_of table gs) s u (before u above)
          | inr last ↦ subst (λ (t : Sequent Interned). Among same_interned (with_new (same_sequent same_interned) (sequents_of table gs) s) t) (sym (among_one_is same_interned same_interned-Decides s u last)) (among_new_itself same_interned same_interned-Decides (sequents_of table gs) s)
        ])

    closed_now : (t u : Sequent Interned) → Among same_interned (sequents_of table after) t → Among same_interned (sequents_below same_interned t) u → Among same_interned (sequents_of table after) u
    closed_now t u h k =
        elim (among_new_cases same_interned same_interned-Decides (sequents_of table gs) s t (subst (λ (ss : List (Sequent Interned)). Among same_interned ss t) new_is h)) [
          | inl old ↦ subst (λ (ss : List (Sequent Interned)). Among same_interned ss u) (sym new_is) (among_new same_interned same_interned-Decides (sequents_of table gs) s u (ex.closed t u old k))
          | inr same ↦ below_there u (subst (λ (w : Sequent Interned). Among same_interned (sequents_below same_interned w) u) same k)
        ]

    no_leaf_now : (t : Sequent Interned) → Among same_interned (sequents_of table after) t → open_leaf same_interned t ≡ None
    no_leaf_now t h =
        elim (among_new_cases same_interned same_interned-Decides (sequents_of table gs) s t (subst (λ (ss : List (Sequent Interned)). Among same_interned ss t) new_is h)) [
          | inl old ↦ ex.no_leaf t old
          | inr same ↦ ap (open_leaf same_interned) same ∙ leaf_by_rule same_interned s c is ∙ none
        ]

    pub Explored-insert : Explored table (insert_key goal_eq gs g)
    Explored-insert = record { has = HasGoals-insert gs g ex.has x; closed = closed_now; no_leaf = no_leaf_now }
