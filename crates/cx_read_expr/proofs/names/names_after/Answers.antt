use Rattle.std.proofs.Common.{sym, ◌∙◌}
use Rattle.cx_tokens.specs.declared.punctuator.Punctuator.TheVariants as punctuator
use Rattle.cx_syntax.specs.Classes.{punct}
use Rattle.cx_productions.specs.Types.{more_names}
use Rattle.cx_production_laws.proofs.Turns.{takes_more_names}
use Rattle.cx_read_expr.specs.Parts.{all_texts}
use Rattle.cx_read_expr.proofs.Loops.{turned}
use Rattle.cx_read_expr.proofs.names.names_after.Goals as goal

pub turns-smaller : goal.turns-smaller
turns-smaller c =
    (turned all_texts (λ so_far. punct punctuator.ColonColon) (more_names c.args.context) (takes_more_names c.args.context) c.turns.names c.in_ok-names.names c.turns.cursor c.more_names.new.cursor c.more_names.result c.more_names.ensures c.in_ok-names.was (sym c.begins.ensures ∙ c.turns-test.true)).smaller

pub turns-preserved : goal.turns-preserved
turns-preserved c =
    (turned all_texts (λ so_far. punct punctuator.ColonColon) (more_names c.args.context) (takes_more_names c.args.context) c.turns.names c.in_ok-names.names c.turns.cursor c.more_names.new.cursor c.more_names.result c.more_names.ensures c.in_ok-names.was (sym c.begins.ensures ∙ c.turns-test.true)).goes_on
    ∙ c.turns.invariant
