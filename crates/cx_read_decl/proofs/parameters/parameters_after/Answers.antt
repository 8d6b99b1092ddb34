use Rattle.std.proofs.Common.{sym, ◌∙◌}
use Rattle.cx_tokens.specs.declared.punctuator.Punctuator.TheVariants as punctuator
use Rattle.cx_syntax.specs.Classes.{punct}
use Rattle.cx_syntax.specs.Combinators.{one_more}
use Rattle.cx_productions.specs.Levels.{levels}
use Rattle.cx_productions.specs.Declarations.{parameter}
use Rattle.cx_read_decl.specs.Views.{all_parameters}
use Rattle.cx_production_laws.proofs.Turns.{takes_more_parameter}
use Rattle.cx_read_expr.proofs.Loops.{turned}
use Rattle.cx_read_decl.proofs.parameters.parameters_after.Goals as goal

pub turns-smaller : goal.turns-smaller
turns-smaller c =
    (turned all_parameters (λ so_far. punct punctuator.Comma) (one_more c.args.context (parameter c.args.autos (levels c.args.depth) c.args.context)) (takes_more_parameter c.args.depth c.args.autos c.args.context c.args.context) c.turns.parameters c.in_ok-parameters.parameters c.turns.cursor c.more_parameter.new.cursor c.more_parameter.result c.more_parameter.ensures c.in_ok-parameters.was (sym c.begins.ensures ∙ c.turns-test.true)).smaller

pub turns-preserved : goal.turns-preserved
turns-preserved c =
    (turned all_parameters (λ so_far. punct punctuator.Comma) (one_more c.args.context (parameter c.args.autos (levels c.args.depth) c.args.context)) (takes_more_parameter c.args.depth c.args.autos c.args.context c.args.context) c.turns.parameters c.in_ok-parameters.parameters c.turns.cursor c.more_parameter.new.cursor c.more_parameter.result c.more_parameter.ensures c.in_ok-parameters.was (sym c.begins.ensures ∙ c.turns-test.true)).goes_on
    ∙ c.turns.invariant
