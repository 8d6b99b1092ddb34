use Rattle.std.proofs.Common.{map, Ok, arith}
use Rattle.std.proofs.lemmas.List.{length-map}
use Rattle.cx_lexer.specs.Division.{AreTokens}
use Rattle.cx_lexer.specs.Tokens.{token_tree}
use Rattle.conceptc.proofs.StageLemmas.{are_tokens}
use Rattle.conceptc.proofs.translation.translate.Goals as goal

pub translate_tokens-requires-clause-ended : goal.translate_tokens-requires-clause-ended
translate_tokens-requires-clause-ended c =
    let ts = map token_tree c.in_ok-tokens.tokens.items in
    rw c.deref.ensures.value (c.one_division.ensures.ended c.args.source.now ts (are_tokens c.one_division.ensures.found c.args.source.now (Ok ts) c.in_ok-tokens.ensures.exact))

pub translate_tokens-requires-clause-spelled : goal.translate_tokens-requires-clause-spelled
translate_tokens-requires-clause-spelled c =
    let ts = map token_tree c.in_ok-tokens.tokens.items in
    rw c.deref.ensures.value (c.one_division.ensures.spelled c.args.source.now ts (are_tokens c.one_division.ensures.found c.args.source.now (Ok ts) c.in_ok-tokens.ensures.exact))

pub translate_tokens-requires-clause-room : goal.translate_tokens-requires-clause-room
translate_tokens-requires-clause-room c =
    let ts = map token_tree c.in_ok-tokens.tokens.items in
    let are : AreTokens c.args.source.now (Ok ts) = are_tokens c.one_division.ensures.found c.args.source.now (Ok ts) c.in_ok-tokens.ensures.exact in
    omega (arith, c.one_division.ensures.few c.args.source.now ts are, length-map c.in_ok-tokens.tokens.items token_tree)
