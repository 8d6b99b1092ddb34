use Rattle.std.proofs.Common.{sym, ◌∙◌}
use Rattle.cx_tokens.specs.declared.punctuator.Punctuator.TheVariants as punctuator
use Rattle.cx_syntax.specs.Contexts.{deeper}
use Rattle.cx_syntax.specs.Classes.{punct, any_but}
use Rattle.cx_syntax.specs.Combinators.{one_more_item}
use Rattle.cx_productions.specs.Units.{statement_levels}
use Rattle.cx_production_laws.proofs.Turns.{takes_statement}
use Rattle.cx_read_stmt.specs.Parts.{all_stmts}
use Rattle.cx_read_expr.proofs.Loops.{turned}
use Rattle.cx_read_stmt.proofs.Levels.{closed_stmt}
use Rattle.cx_read_stmt.proofs.statement.+statements.Goals as goal

pub nested-returns-then-depth-eq0 : goal.nested-returns-then-depth-eq0
nested-returns-then-depth-eq0 t c n = closed_stmt c.args.depth c.args.context c.args.cursor.now c.closed.result c.if-depth-eq0.true c.closed.ensures

pub statements-turns-smaller : goal.statements-turns-smaller
statements-turns-smaller t c =
    (turned all_stmts (λ so_far. any_but (punct punctuator.RightBrace)) (one_more_item (statement_levels c.args.depth (deeper c.args.context))) (takes_statement c.args.depth (deeper c.args.context)) c.turns.all c.in_ok-all.all c.turns.cursor c.one_more.new.cursor c.one_more.result c.one_more.ensures c.in_ok-all.was (sym c.begins_another.ensures ∙ c.turns-test.true)).smaller

pub statements-turns-preserved : goal.statements-turns-preserved
statements-turns-preserved t c =
    (turned all_stmts (λ so_far. any_but (punct punctuator.RightBrace)) (one_more_item (statement_levels c.args.depth (deeper c.args.context))) (takes_statement c.args.depth (deeper c.args.context)) c.turns.all c.in_ok-all.all c.turns.cursor c.one_more.new.cursor c.one_more.result c.one_more.ensures c.in_ok-all.was (sym c.begins_another.ensures ∙ c.turns-test.true)).goes_on
    ∙ c.turns.invariant
