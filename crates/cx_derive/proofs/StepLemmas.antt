-- The steps of what was found.
use Rattle.std.proofs.Common.{◌≡◌, ℕ, suc, ◌+◌, ◌≤◌, Bool, true, false, not, cond, List, [], ◌∷◌, ◌++◌, length, Option, Some, None, refl, ◌∙◌, arith}
use Rattle.std.specs.Prelude.{position, nat_lt, unwrap_or}
use Rattle.std.specs.List.{position_or_len}
use Rattle.std.proofs.lemmas.Bool.{ltb-false}
use Rattle.std.proofs.lemmas.List.Sums.{prefix_len-le-length}
use Rattle.cx_prop.specs.Formula.{Formula}
use Rattle.cx_numbered.specs.Numbered.{HasEachOnce}
use Rattle.cx_derive.specs.declared.goal.Goal.{Goal}
use Rattle.cx_derive.specs.Search.{number_among}
use Rattle.cx_derive.specs.Goals.{sequent_of, sequents_of, HasGoal, HasGoals}
use Rattle.cx_derive.proofs.Found.{goal_eq, goal_eq_is}
use Rattle.cx_prop.specs.Interned.{Interned, same_interned}

or_length : (b : Bool) (m n : ℕ) → (b ≡ false → n ≤ m) → m ≤ n → unwrap_or (cond b (Some m) None) n ≡ m
or_length true m n h l = refl
or_length false m n h l = omega (arith, h refl)

number_same : (table : List (Formula Interned)) (once : HasEachOnce table) (gs : List Goal) (g : Goal) → HasGoals table gs → HasGoal table g → position_or_len (goal_eq g) gs ≡ number_among same_interned (sequents_of table gs) (sequent_of table g)
number_same table once [] g h x = refl
number_same table once (k ∷ gs) g h x =
    λ i. cond (not (goal_eq_is table once g k x (h 0 k refl) i)) (1 + number_same table once gs g (λ j l e. h (suc j) l e) x i) 0

pub found_number : (table : List (Formula Interned)) (once : HasEachOnce table) (gs : List Goal) (g : Goal) (r n : ℕ) (o : Option ℕ) → HasGoals table gs → HasGoal table g
    → o ≡ position (goal_eq g) gs → n ≡ length gs → r ≡ unwrap_or o n → r ≡ number_among same_interned (sequents_of table gs) (sequent_of table g)
found_number table once gs g r n o h x eo en er =
    er ∙ (λ i. unwrap_or (eo i) (en i))
    ∙ or_length (nat_lt (position_or_len (goal_eq g) gs) (length gs)) (position_or_len (goal_eq g) gs) (length gs) (λ e. ltb-false (position_or_len (goal_eq g) gs) (length gs) e) (prefix_len-le-length (λ k. not (goal_eq g k)) gs)
    ∙ number_same table once gs g h x

pub two_pushed : (none one two : List ℕ) (m n a b : ℕ) → none ≡ [] → one ≡ none ++ m ∷ [] → two ≡ one ++ n ∷ [] → m ≡ a → n ≡ b → two ≡ a ∷ b ∷ []
two_pushed none one two m n a b e f g h k = g ∙ (λ i. (f ∙ (λ j. e j ++ h j ∷ [])) i ++ k i ∷ [])
