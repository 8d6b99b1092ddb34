use Rattle.std.proofs.Common.{rules, string_bytes}
use Rattle.std.proofs.lemmas.Iterator.{YieldsList-from_slice, YieldsList-from_map_by}
use Rattle.std.proofs.lemmas.Iterator.Consumers.{map_from_collect}
use Rattle.conceptc.proofs.words.as_texts.Goals as goal

pub returns : goal.returns
returns c = map_from_collect _ c.collect.ensures.ran (YieldsList-from_map_by _ (λ t. t.now) (λ w. string_bytes w) (YieldsList-from_slice c.args.words.now (search (rules))) c.map.ensures.closure (λ x r q k. search (rules)))
