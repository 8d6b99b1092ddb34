use Rattle.std.proofs.Common.{◌++◌, sym, ap, ◌∙◌, List, ℕ}
use Rattle.std.specs.Prelude.{encode_utf8}
use Rattle.std.specs.Str.{chars}
use Rattle.std.proofs.lemmas.Str.{chars_past_char}
use Rattle.cx_lexer.proofs.CharacterLemmas.{chars_none}
use Rattle.cx_lexer.proofs.characters.split_first.Goals as goal

pub returns-in-Some-clause-parts : goal.returns-in-Some-clause-parts
returns-in-Some-clause-parts c = chars_past_char c.args.text.now c.as_str.result.now c.in-Some.first c.utf8.text (sym c.chars-characters.ensures.rest ∙ c.in-Some.ensures.steps.0 ∙ ap (λ (r : List ℕ). encode_utf8 c.in-Some.first ++ r) (sym c.as_str.ensures))

pub returns-in-None-clause-parts : goal.returns-in-None-clause-parts
returns-in-None-clause-parts c = ap chars (sym c.chars-characters.ensures.rest) ∙ chars_none c.chars-characters.result.rest.now c.in-None.ensures.steps.0.0
