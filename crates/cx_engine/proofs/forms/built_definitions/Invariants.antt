use Rattle.cx_engine.proofs.FormsLemmas.{Building}
use Rattle.cx_engine.proofs.forms.built_definitions.Given as goal

abbrev pub invariant-loop-decl : goal.invariant-loop-decl
invariant-loop-decl l = Building l.decl-items l.decl-index l.built.items
