use Rattle.conceptc.proofs.translation.translate_tokens.Goals as goal

pub translate_unit-requires : goal.translate_unit-requires
translate_unit-requires c = record { room = c.in_ok-unit.ensures.bounded }
