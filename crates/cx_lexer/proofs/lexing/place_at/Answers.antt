use Rattle.std.proofs.Common.{take, ap, sym, ◌∙◌}
use Rattle.cx_lexer.specs.Places.{place_behind, start}
use Rattle.cx_lexer.proofs.PlaceLemmas.{place_of-fold}
use Rattle.cx_lexer.proofs.lexing.place_at.Goals as goal

pub returns : goal.returns
returns c = c.place_behind.ensures ∙ ap (place_behind start) c.split_at.ensures.front ∙ sym (place_of-fold (take c.args.offset c.args.src.now))
