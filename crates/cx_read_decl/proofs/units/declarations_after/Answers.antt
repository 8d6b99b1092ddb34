use Rattle.std.proofs.Common.{sym, ◌∙◌}
use Rattle.cx_syntax.specs.Classes.{end, any_but}
use Rattle.cx_syntax.specs.Combinators.{one_more_item}
use Rattle.cx_productions.specs.Units.{unit_levels}
use Rattle.cx_productions.specs.Declarations.{decl}
use Rattle.cx_read_decl.specs.Views.{all_declarations}
use Rattle.cx_production_laws.proofs.Turns.{takes_declaration}
use Rattle.cx_read_expr.proofs.Loops.{turned}
use Rattle.cx_read_decl.proofs.units.declarations_after.Goals as goal

pub turns-smaller : goal.turns-smaller
turns-smaller c =
    (turned all_declarations (λ so_far. any_but end) (one_more_item (decl (unit_levels c.args.depth) c.args.context)) (takes_declaration c.args.depth c.args.context) c.turns.declarations c.in_ok-declarations.declarations c.turns.cursor c.more_decl.new.cursor c.more_decl.result c.more_decl.ensures c.in_ok-declarations.was (sym c.begins_another.ensures ∙ c.turns-test.true)).smaller

pub turns-preserved : goal.turns-preserved
turns-preserved c =
    (turned all_declarations (λ so_far. any_but end) (one_more_item (decl (unit_levels c.args.depth) c.args.context)) (takes_declaration c.args.depth c.args.context) c.turns.declarations c.in_ok-declarations.declarations c.turns.cursor c.more_decl.new.cursor c.more_decl.result c.more_decl.ensures c.in_ok-declarations.was (sym c.begins_another.ensures ∙ c.turns-test.true)).goes_on
    ∙ c.turns.invariant
