use Rattle.std.proofs.Common.{◌≡◌, true, sym, ap, ◌∙◌}
use Rattle.cx_syntax.specs.Productions.{Class, begins}
use Rattle.cx_productions.specs.Declarations.{free_specifier, one_more_specifier}
use Rattle.cx_statement_trees.specs.DeclarationViews as views
use Rattle.cx_production_laws.proofs.Turns.{takes_specifier}
use Rattle.cx_read_expr.proofs.Loops.{turned}
use Rattle.cx_read_decl.proofs.specifiers.specifiers.Goals as goal

pub turns-smaller : goal.turns-smaller
turns-smaller c =
    let more : begins (free_specifier (views.specifiers c.turns.all)) c.turns.cursor ≡ true =
    ap (λ (q : Class). begins q c.turns.cursor) (sym c.free.ensures) ∙ sym c.begins.ensures ∙ c.turns-test.true in
    (turned views.specifiers free_specifier (one_more_specifier c.args.context) (takes_specifier c.args.context) c.turns.all c.in_ok-all.all c.turns.cursor c.one_more_specifier.new.cursor c.one_more_specifier.result c.one_more_specifier.ensures c.in_ok-all.was more).smaller

pub turns-preserved : goal.turns-preserved
turns-preserved c =
    let more : begins (free_specifier (views.specifiers c.turns.all)) c.turns.cursor ≡ true =
    ap (λ (q : Class). begins q c.turns.cursor) (sym c.free.ensures) ∙ sym c.begins.ensures ∙ c.turns-test.true in
    (turned views.specifiers free_specifier (one_more_specifier c.args.context) (takes_specifier c.args.context) c.turns.all c.in_ok-all.all c.turns.cursor c.one_more_specifier.new.cursor c.one_more_specifier.result c.one_more_specifier.ensures c.in_ok-all.was more).goes_on
    ∙ c.turns.invariant
