use Rattle.std.proofs.Common.{◌≡◌, sym, ◌∙◌, ap, List, length, map}
use Rattle.std.specs.Prelude.{◌==◌}
use Rattle.cx_trees.specs.declared.expression.TemplateArgument.{TemplateArgument}
use Rattle.cx_trees.specs.declared.expression.Expr.TheVariants as expr
use Rattle.cx_trees.specs.declared.requirements.Constraint.{Constraint}
use Rattle.cx_trees.specs.Views.{mark, argument_tree, expr_tree, constraint_tree, expr_layer, argument_layer, requirement_layer, core_layer, constraint_layer, local_layer, type_layer}
use Rattle.cx_productions.specs.Trees.{ExprTree, ArgumentTree, RequirementTree, CoreTree, ConstraintTree, LocalTree, TypeTree, TemplateTree, arguments}
use Rattle.cx_trees.specs.declared.expression.Expr.TheFolds.{fold_out-Constraint, fold-roll-Expr}
use Rattle.cx_productions.specs.Statements.{concept_expr}
use Rattle.cx_read_stmt.proofs.Concepts.{with_some, if_ok}
use Rattle.cx_read_stmt.proofs.openings.concept_expr.Goals as goal

folded : (k : Constraint) → constraint_tree k ≡ record { mark = mark k.node k.at; name = k.name.now; args = arguments (map argument_tree k.arguments.items) }
folded k = fold_out-Constraint ExprTree ArgumentTree RequirementTree CoreTree ConstraintTree LocalTree TypeTree expr_layer argument_layer requirement_layer core_layer constraint_layer local_layer type_layer k

made : (k : Constraint) → expr_tree (expr.Template k.node k.at k.name k.arguments) ≡ TemplateTree (mark k.node k.at) k.name.now (arguments (map argument_tree k.arguments.items))
made k = ap expr_tree (sym (expr.rolls-Template k.node k.at k.name k.arguments)) ∙ fold-roll-Expr ExprTree ArgumentTree RequirementTree CoreTree ConstraintTree LocalTree TypeTree expr_layer argument_layer requirement_layer core_layer constraint_layer local_layer type_layer _

pub returns-clause-value : goal.returns-clause-value
returns-clause-value c =
    let k = c.into_inner-arguments.result in
    let some = ap (λ (xs : List TemplateArgument). length xs == 0) (sym c.as_slice.ensures.value) ∙ sym c.if-is_empty.ensures in
    let e = made k
    ∙ sym (with_some argument_tree (mark k.node k.at) k.name.now k.arguments.items some)
    ∙ sym (ap concept_expr (folded k))
    ∙ ap (λ k. concept_expr (constraint_tree k)) c.into_inner-arguments.ensures in
    if_ok _ _ (λ b (is : b.value ≡ expr.Template k.node k.at k.name k.arguments). ap expr_tree is ∙ e) _ c.boxed-else-is_empty.ensures.value
