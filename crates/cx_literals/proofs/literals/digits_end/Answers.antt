use Rattle.std.proofs.Common.{not, length, ap, ◌∙◌, rules, tests}
use Rattle.std.specs.Option.{unwrap_or}
use Rattle.std.proofs.lemmas.Iterator.{YieldsList-from_slice}
use Rattle.std.proofs.lemmas.Iterator.Search.{position_from_yields_List}
use Rattle.cx_tokens.specs.Literals.{is_digit_of}
use Rattle.cx_literals.proofs.Front.{unwrap_or-position}
use Rattle.cx_literals.proofs.literals.digits_end.Goals as goal

pub returns : goal.returns
returns c =
    let found = position_from_yields_List (λ b. not (is_digit_of c.args.hexadecimal b)) _ _ c.position.result c.position.ensures.ran (YieldsList-from_slice c.args.text.now cc) (λ x b q k. search (rules, tests)) in
    c.unwrap_or.ensures ∙ ap (λ o. unwrap_or o (length c.args.text.now)) found ∙ unwrap_or-position (is_digit_of c.args.hexadecimal) c.args.text.now
