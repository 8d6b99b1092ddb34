use Rattle.std.proofs.Common.{◌≡◌, ◌+◌, List, [], ◌∷◌, ◌++◌, map, take, Some, inl, inr, ap, sym, subst, ◌∙◌}
use Rattle.std.specs.Prelude.{slice_get}
use Rattle.std.proofs.lemmas.List.{map-append, take_more}
use Rattle.cx_numbered.proofs.Numbered.{get_push_cases}
use Rattle.cx_derive.specs.declared.deriv.Step.{Step}
use Rattle.cx_derive.specs.declared.goal.Goal.{Goal}
use Rattle.cx_derive.specs.Search.{inference_in}
use Rattle.cx_derive.specs.Goals.{sequent_of, sequents_of}
use Rattle.cx_derive.specs.Answers.{HasStep, inference_of}
use Rattle.cx_derive.proofs.steps.steps.Goals as goal
use Rattle.cx_prop.specs.Interned.{same_interned}

pub loop-goal-preserved : goal.loop-goal-preserved
loop-goal-preserved c =
    let table = c.args.formulas.now in
    let keys = c.args.found.now.keys in
    let all = sequents_of table keys in
    let k = c.loop-goal.goal-index in
    let g : Goal = c.goal-item.result in
    let before : List Goal = take k keys in
    let one_more : take (k + 1) keys ≡ before ++ g ∷ [] =
    subst (λ (gs : List Goal). take (k + 1) gs ≡ take k gs ++ g ∷ []) c.as_slice-goal-items.ensures.keys
    (take_more c.as_slice-goal-items.result.now k g c.loop-goal-test.true ∙ ap (λ (h : Goal). take k c.as_slice-goal-items.result.now ++ h ∷ []) (sym c.goal-item.is)) in (
      λ i s e. elim (get_push_cases c.loop-goal.steps.items c.in_ok-step.field-0 i s (subst (λ (ss : List Step). slice_get ss i ≡ Some s) c.in_ok-push.ensures.items e)) [
        | inl old ↦ c.loop-goal.invariant.0 i s old
        | inr new ↦ subst (HasStep table) (sym new.1) c.in_ok-step.ensures.has
      ],
      ap (map (inference_of table)) c.in_ok-push.ensures.items ∙ map-append (inference_of table) c.loop-goal.steps.items (c.in_ok-step.field-0 ∷ [])
          ∙ (λ i. c.loop-goal.invariant.1 i ++ c.in_ok-step.ensures.ok i ∷ [])
          ∙ sym (ap (λ (gs : List Goal). map ((inference_in same_interned) all) (sequents_of table gs)) one_more ∙ ap (map ((inference_in same_interned) all)) (map-append (sequent_of table) before (g ∷ []))
          ∙ map-append ((inference_in same_interned) all) (sequents_of table before) (sequent_of table g ∷ [])),
    )
