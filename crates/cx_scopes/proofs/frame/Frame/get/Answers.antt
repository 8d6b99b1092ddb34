use Rattle.std.proofs.Common.{◌∙◌}
use Rattle.cx_scopes.proofs.FrameLemmas.{lookup-entry}
use Rattle.cx_scopes.proofs.frame.Frame.get.Goals as goal

pub returns : goal.returns
returns c = rw (← c.self.view_is) (c.copied.ensures ∙ c.get.ensures.value ∙ lookup-entry c.args.name.now c.self.inside.names.entries)
