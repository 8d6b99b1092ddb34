use Rattle.std.proofs.Common.{◌∙◌}
use Rattle.cx_base.specs.Refusal.{Refused}
use Rattle.cx_lexer.proofs.Steps.{lexed_text, lexed_bad}
use Rattle.cx_lexer.proofs.OneDivision.{only, read_as, gives_read, gives_only}
use Rattle.cx_lexer.proofs.lexing.lex.Goals as goal

pub returns-in-Ok : goal.returns-in-Ok
returns-in-Ok c =
    let text = lexed_text c.args.src.now c.in-Ok.text.now c.in-Ok.ensures.cases.0 c.in-Ok.ensures.cases.1 in
    record {
      exact = rw text c.lex_text.ensures;
      divides = gives_read _ c.args.src.now _ _ text c.lex_text.ensures;
      only = gives_only _ c.args.src.now _ _ text c.lex_text.ensures;
    }

pub returns-in-Err : goal.returns-in-Err
returns-in-Err c =
    let exact = lexed_bad c.args.src.now c.valid_up_to.result c.place_at-at.result (Refused c.fault.result) c.in-Err.ensures.cases.0 (c.valid_up_to.ensures ∙ c.in-Err.ensures.valid_len) c.place_at-at.ensures c.fault.ensures in
    record { exact = exact; divides = read_as c.args.src.now _ exact; only = λ r are. only c.args.src.now r are ∙ exact }
