use Rattle.std.proofs.Common.{sym, ◌∙◌, arith}
use Rattle.std.proofs.lemmas.Grind.{common_steps}
use Rattle.cx_tree.proofs.Walks.{walked_append}
use Rattle.cx_statements.proofs.Productions.{block_tree, return_tree, if_tree, if_else_tree, while_tree, for_tree, expression_tree}
use Rattle.cx_statements.proofs.Walks.{next_stmt}
use Rattle.cx_statements.proofs.statements.+statements.Goals as goal

pub walk_stmt-returns-in-Block : goal.walk_stmt-returns-in-Block
walk_stmt-returns-in-Block t c = grind (arith, common_steps, walked_append, block_tree)

pub walk_stmt-returns-in-Return : goal.walk_stmt-returns-in-Return
walk_stmt-returns-in-Return t c = grind (arith, common_steps, walked_append, return_tree)

pub walk_stmt-returns-in-None : goal.walk_stmt-returns-in-None
walk_stmt-returns-in-None t c = grind (arith, common_steps, walked_append, if_tree)

pub walk_stmt-returns-in-Some : goal.walk_stmt-returns-in-Some
walk_stmt-returns-in-Some t c = grind (arith, common_steps, walked_append, if_else_tree)

pub walk_stmt-returns-in-While : goal.walk_stmt-returns-in-While
walk_stmt-returns-in-While t c = grind (arith, common_steps, walked_append, while_tree)

pub walk_stmt-returns-in-For : goal.walk_stmt-returns-in-For
walk_stmt-returns-in-For t c = grind (arith, common_steps, walked_append, for_tree)

pub walk_stmt-returns-in-Expression : goal.walk_stmt-returns-in-Expression
walk_stmt-returns-in-Expression t c = grind (arith, common_steps, walked_append, expression_tree)

pub walk_stmts-loop-item-preserved : goal.walk_stmts-loop-item-preserved
walk_stmts-loop-item-preserved t c =
    let item = rw c.item-item.is at c.walk_stmt-walk.ensures in
    sym (next_stmt c.args.items.now c.loop-item.item-index c.item-item.result c.loop-item.walk c.walk_stmt-walk.result c.loop-item-test.true item) ∙ c.loop-item.invariant
