use Rattle.std.proofs.Common.{◌≡◌, ◌<◌, List, [], ◌∷◌, ◌++◌, ℕ, ◌-◌, take, ap, sym, subst, ◌∙◌}
use Rattle.cx_derive.specs.declared.goal.Goal.{Goal}
use Rattle.cx_derive.specs.declared.task.Task.{Task}
use Rattle.cx_derive.specs.declared.task.Task.TheVariants as task
use Rattle.cx_derive.specs.Tasks.{Goes}
use Rattle.cx_derive.proofs.Stack.{Going, Going-start, Going-on, Going-leaf, Going-note, Going-done, HasTasks-top, total, note_smaller, goes_smaller}
use Rattle.cx_derive.proofs.search.explore.Goals as goal

none_left : (ts rest : List Task) (n : ℕ) → ts ≡ rest ++ [] → rest ≡ take (n - 1) ts → n ≡ 0 → ts ≡ []
none_left ts rest n all front none = all ∙ ap (λ (us : List Task). us ++ []) (front ∙ ap (λ (k : ℕ). take (k - 1) ts) none)

pub loop-task-init : goal.loop-task-init
loop-task-init c =
    subst (Going c.args.formulas.now c.args.found.now.keys c.args.goal c.args.found.now.keys) (sym (c.in_ok-push.ensures.items ∙ ap (λ (ts : List Task). ts ++ task.Search c.args.goal ∷ []) c.new-tasks.ensures.items))
    (Going-start c.args.formulas.now c.requires.distinct c.args.found.now.keys c.args.goal c.requires.found c.requires.goal)

pub loop-task-smaller-in_ok-insert-in-Note : goal.loop-task-smaller-in_ok-insert-in-Note
loop-task-smaller-in_ok-insert-in-Note c =
    let rest = c.pop.new.self.items in
    let e : c.loop-task.tasks.items ≡ rest ++ task.Note c.in-Note.goal ∷ [] = c.in-Some.ensures.items ∙ ap (λ (t : Task). rest ++ t ∷ []) c.in-Note.is in
    subst (λ (ts : List Task). total c.args.formulas.now rest < total c.args.formulas.now ts) (sym e) (note_smaller c.args.formulas.now rest c.in-Note.goal)

pub loop-task-preserved-in_ok-insert-in-Note : goal.loop-task-preserved-in_ok-insert-in-Note
loop-task-preserved-in_ok-insert-in-Note c =
    let table = c.args.formulas.now in
    let old = c.args.found.now.keys in
    let rest = c.pop.new.self.items in
    let e : c.loop-task.tasks.items ≡ rest ++ task.Note c.in-Note.goal ∷ [] = c.in-Some.ensures.items ∙ ap (λ (t : Task). rest ++ t ∷ []) c.in-Note.is in
    let go = subst (Going table old c.args.goal c.loop-task.found.keys) e c.loop-task.invariant in
    subst (λ (gs : List Goal). Going table old c.args.goal gs rest) (sym c.in_ok-insert-in-Note.ensures.keys) (Going-note table c.requires.distinct old c.args.goal c.loop-task.found.keys rest c.in-Note.goal go)

pub go_on-requires-clause-goal : goal.go_on-requires-clause-goal
go_on-requires-clause-goal c =
    let rest = c.pop.new.self.items in
    let e : c.loop-task.tasks.items ≡ rest ++ task.Search c.in-Search.goal ∷ [] = c.in-Some.ensures.items ∙ ap (λ (t : Task). rest ++ t ∷ []) c.in-Search.is in
    let go = subst (Going c.args.formulas.now c.args.found.now.keys c.args.goal c.loop-task.found.keys) e c.loop-task.invariant in
    HasTasks-top c.args.formulas.now rest (task.Search c.in-Search.goal) go.has

pub returns-in-Some-2-clause-ok : goal.returns-in-Some-2-clause-ok
returns-in-Some-2-clause-ok c =
    let table = c.args.formulas.now in
    let old = c.args.found.now.keys in
    let rest = c.pop.new.self.items in
    let e : c.loop-task.tasks.items ≡ rest ++ task.Search c.in-Search.goal ∷ [] = c.in-Some.ensures.items ∙ ap (λ (t : Task). rest ++ t ∷ []) c.in-Search.is in
    let go = subst (Going table old c.args.goal c.loop-task.found.keys) e c.loop-task.invariant in
    let goes = subst (Goes table c.loop-task.found.keys c.in-Search.goal rest c.go_on.new.tasks.items) c.in-Some-2.is c.in_ok-leaf-in-Search.ensures.ok in
    Going-leaf table c.requires.distinct old c.args.goal c.loop-task.found.keys rest c.go_on.new.tasks.items c.in-Search.goal go c.in-Some-2.leaf goes

pub loop-task-smaller : goal.loop-task-smaller
loop-task-smaller c =
    let table = c.args.formulas.now in
    let rest = c.pop.new.self.items in
    let e : c.loop-task.tasks.items ≡ rest ++ task.Search c.in-Search.goal ∷ [] = c.in-Some.ensures.items ∙ ap (λ (t : Task). rest ++ t ∷ []) c.in-Search.is in
    let goes = subst (Goes table c.loop-task.found.keys c.in-Search.goal rest c.go_on.new.tasks.items) c.in_default-2.is c.in_ok-leaf-in-Search.ensures.ok in
    subst (λ (ts : List Task). total table c.go_on.new.tasks.items < total table ts) (sym e) (goes_smaller table c.loop-task.found.keys rest c.go_on.new.tasks.items c.in-Search.goal goes)

pub loop-task-preserved : goal.loop-task-preserved
loop-task-preserved c =
    let table = c.args.formulas.now in
    let old = c.args.found.now.keys in
    let rest = c.pop.new.self.items in
    let e : c.loop-task.tasks.items ≡ rest ++ task.Search c.in-Search.goal ∷ [] = c.in-Some.ensures.items ∙ ap (λ (t : Task). rest ++ t ∷ []) c.in-Search.is in
    let go = subst (Going table old c.args.goal c.loop-task.found.keys) e c.loop-task.invariant in
    let goes = subst (Goes table c.loop-task.found.keys c.in-Search.goal rest c.go_on.new.tasks.items) c.in_default-2.is c.in_ok-leaf-in-Search.ensures.ok in
    Going-on table c.requires.distinct old c.args.goal c.loop-task.found.keys rest c.go_on.new.tasks.items c.in-Search.goal go goes

pub returns-clause-ok : goal.returns-clause-ok
returns-clause-ok c =
    let table = c.args.formulas.now in
    let old = c.args.found.now.keys in
    Going-done table c.requires.distinct old c.args.goal c.loop-task.found.keys (subst (Going table old c.args.goal c.loop-task.found.keys) (none_left c.loop-task.tasks.items c.pop.new.self.items _ c.in_default.ensures.items c.in_default.ensures.rest c.in_default.ensures.cases.0) c.loop-task.invariant)
