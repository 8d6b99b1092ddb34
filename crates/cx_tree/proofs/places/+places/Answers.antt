use Rattle.std.proofs.Common.{◌≡◌, [], ◌∷◌, ◌++◌, map, refl, sym, ◌∙◌, rules, arith}
use Rattle.std.proofs.lemmas.Grind.{common_steps}
use Rattle.cx_tree.specs.Trees.{mark, exprs, expr_tree, type_tree}
use Rattle.cx_tree.specs.Nodes.{expr_nodes, exprs_nodes, type_nodes}
use Rattle.cx_tree.proofs.Productions.{template_tree, qualified_tree, list_tree, group_tree, static_cast_tree, is_same_tree, out_tree, member_tree, call_tree, postfix_tree, unary_tree, binary_tree, conditional_tree, assignment_tree, type_tree_of}
use Rattle.cx_tree.proofs.Walks.{walked_append, two_parts, next_expr, next_argument}
use Rattle.cx_tree.proofs.places.+places.Goals as goal

pub walk_expr-returns-in-Template : goal.walk_expr-returns-in-Template
walk_expr-returns-in-Template t c = grind (arith, common_steps, walked_append, template_tree)

pub walk_expr-returns-in-Qualified : goal.walk_expr-returns-in-Qualified
walk_expr-returns-in-Qualified t c = grind (arith, common_steps, walked_append, qualified_tree)

pub walk_expr-returns-in-List : goal.walk_expr-returns-in-List
walk_expr-returns-in-List t c =
    let of = type_nodes (type_tree c.deref-in-List-2.result.now) in
    let items = exprs_nodes (exprs (map expr_tree c.deref-in-List.result.now)) in
    let own = mark c.in-List.node c.in-List.at in
    let nodes : expr_nodes (expr_tree c.args.expr.now) ≡ of ++ items ++ own ∷ [] = rw (c.in-List.is, list_tree, c.deref-in-List-2.ensures, c.deref-in-List.ensures.value) refl in
    two_parts _ _ _ _ own of items _ nodes c.walk_type-in-List.ensures c.walk_exprs.ensures c.step-in-List.ensures

pub walk_expr-returns-in-Group : goal.walk_expr-returns-in-Group
walk_expr-returns-in-Group t c = grind (arith, common_steps, walked_append, group_tree)

pub walk_expr-returns-in-StaticCast : goal.walk_expr-returns-in-StaticCast
walk_expr-returns-in-StaticCast t c = grind (arith, common_steps, walked_append, static_cast_tree)

pub walk_expr-returns-in-IsSame : goal.walk_expr-returns-in-IsSame
walk_expr-returns-in-IsSame t c = grind (arith, common_steps, walked_append, is_same_tree)

pub walk_expr-returns-in-Out : goal.walk_expr-returns-in-Out
walk_expr-returns-in-Out t c = grind (arith, common_steps, walked_append, out_tree)

pub walk_expr-returns-in-Member : goal.walk_expr-returns-in-Member
walk_expr-returns-in-Member t c = grind (arith, common_steps, walked_append, member_tree)

pub walk_expr-returns-in-Call : goal.walk_expr-returns-in-Call
walk_expr-returns-in-Call t c =
    let callee = expr_nodes (expr_tree c.deref-in-Call-2.result.now) in
    let items = exprs_nodes (exprs (map expr_tree c.deref-in-Call.result.now)) in
    let own = mark c.in-Call.node c.in-Call.at in
    let nodes : expr_nodes (expr_tree c.args.expr.now) ≡ callee ++ items ++ own ∷ [] = rw (c.in-Call.is, call_tree, c.deref-in-Call-2.ensures, c.deref-in-Call.ensures.value) refl in
    two_parts _ _ _ _ own callee items _ nodes c.walk_expr-in-Call.ensures c.walk_exprs-in-Call.ensures c.step-in-Call.ensures

pub walk_expr-returns-in-Postfix : goal.walk_expr-returns-in-Postfix
walk_expr-returns-in-Postfix t c = grind (arith, common_steps, walked_append, postfix_tree)

pub walk_expr-returns-in-Unary : goal.walk_expr-returns-in-Unary
walk_expr-returns-in-Unary t c = grind (arith, common_steps, walked_append, unary_tree)

pub walk_expr-returns-in-Binary : goal.walk_expr-returns-in-Binary
walk_expr-returns-in-Binary t c = grind (arith, common_steps, walked_append, binary_tree)

pub walk_expr-returns-in-Conditional : goal.walk_expr-returns-in-Conditional
walk_expr-returns-in-Conditional t c = grind (arith, common_steps, walked_append, conditional_tree)

pub walk_expr-returns-in-Assignment : goal.walk_expr-returns-in-Assignment
walk_expr-returns-in-Assignment t c = grind (arith, common_steps, walked_append, assignment_tree)

pub walk_type-returns : goal.walk_type-returns
walk_type-returns t c = search (rules, walked_append, type_tree_of)

pub walk_exprs-loop-item-preserved : goal.walk_exprs-loop-item-preserved
walk_exprs-loop-item-preserved t c =
    let item = rw c.item-item.is at c.walk_expr-walk.ensures in
    sym (next_expr c.args.items.now c.loop-item.item-index c.item-item.result c.loop-item.walk c.walk_expr-walk.result c.loop-item-test.true item) ∙ c.loop-item.invariant

pub walk_arguments-loop-item-preserved : goal.walk_arguments-loop-item-preserved
walk_arguments-loop-item-preserved t c =
    let item = rw c.item-item.is at c.walk_argument-walk.ensures in
    sym (next_argument c.args.items.now c.loop-item.item-index c.item-item.result c.loop-item.walk c.walk_argument-walk.result c.loop-item-test.true item) ∙ c.loop-item.invariant
