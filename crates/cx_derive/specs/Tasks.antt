-- What of the search is still to be done: a stack of tasks, its top at the end of the list.
use Rattle.std.specs.Prelude.{◌≡◌, ◌⊎◌, List, [], ◌∷◌, ◌++◌, Option, Some, None, IsTrue}
use Rattle.cx_prop.specs.Formula.{Formula}
use Rattle.cx_derive.specs.declared.goal.Goal.{Goal}
use Rattle.cx_derive.specs.declared.task.Task.{Task}
use Rattle.cx_derive.specs.declared.task.Task.TheVariants as task
use Rattle.cx_derive.specs.declared.rule.SequentRule.{SequentRule}
use Rattle.cx_derive.specs.Lists.{is_among}
use Rattle.cx_derive.specs.Sequents.{same_sequent}
use Rattle.cx_derive.specs.Search.{chosen}
use Rattle.cx_derive.specs.Goals.{HasGoals, sequent_of, sequents_of}
use Rattle.cx_prop.specs.Interned.{Interned, same_interned}

-- goals to be searched put onto a stack, the first of them on top
abbrev pub onto : List Task → List Goal → List Task
onto ts [] = ts
onto ts (g ∷ gs) = onto ts gs ++ task.Search g ∷ []

-- the goal was put off behind its premises
pub record PutsOff (table : List (Formula Interned)) (g : Goal) (old new : List Task) : Type 0 where
  pub rule : SequentRule
  pub goals : List Goal
  pub has : HasGoals table goals
  pub chooses : chosen same_interned (sequent_of table g) ≡ Some (rule, sequents_of table goals)
  pub tasks : new ≡ onto (old ++ task.Note g ∷ []) goals

-- the goal is found already, or is put off behind its premises; or it is an open leaf
abbrev pub Goes : List (Formula Interned) → List Goal → Goal → List Task → List Task → Option Goal → Type 0
Goes table found g old new None = (IsTrue (is_among (same_sequent same_interned) (sequents_of table found) (sequent_of table g)) × (new ≡ old)) ⊎ PutsOff table g old new
Goes table found g old new (Some leaf) = (chosen same_interned (sequent_of table g) ≡ None) × (leaf ≡ g)
