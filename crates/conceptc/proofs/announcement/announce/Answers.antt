use Rattle.std.proofs.Common.{refl, inr}
use Rattle.cx_io.proofs.Pieces.{appends_whole}
use Rattle.conceptc.specs.Decision.{out_text}
use Rattle.conceptc.proofs.announcement.announce.Goals as goal

pub returns-in_default-put_diag-clause-says : goal.returns-in_default-put_diag-clause-says
returns-in_default-put_diag-clause-says g c =
    inr (refl, inr c.in_default-put_diag.ensures.cause, appends_whole _ _ (out_text c.args.decision.now) c.in-Ok.ensures.bytes, c.in_default-put_diag.ensures.bytes)
