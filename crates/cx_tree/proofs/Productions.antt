-- What the tree of an expression is, one production after the other.
use Rattle.std.proofs.Common.{◌≡◌, map, ap, ◌∙◌, sym}
use Rattle.cx_base.specs.declared.numbers.NodeId.{NodeId}
use Rattle.cx_base.specs.declared.place.Place.{Place}
use Rattle.cx_tree.specs.declared.types.TypeSyn.{TypeSyn}
use Rattle.cx_tree.specs.declared.expression.Expr.TheVariants as expr
use Rattle.cx_tree.specs.declared.expression.Expr.TheFolds.{fold_out-TypeSyn, fold-roll-Expr}
use Rattle.cx_tree.specs.Trees.{mark, texts, exprs, arguments, expr_tree, argument_tree, core_tree, type_tree, expr_layer, argument_layer, core_layer, type_layer, ExprTree, ArgumentTree, CoreTree, TypeTree, OfCore, TemplateTree, QualifiedTree, ListTree, GroupTree, StaticCastTree, IsSameTree, OutTree, MemberTree, CallTree, PostfixTree, UnaryTree, BinaryTree, ConditionalTree, AssignmentTree}

pub template_tree : (n : NodeId) (at : Place) (name : _) (args : _) → expr_tree (expr.Template n at name args) ≡ TemplateTree (mark n at) name.now (arguments (map argument_tree args.items))
template_tree n at name args = ap expr_tree (sym (expr.rolls-Template n at name args)) ∙ fold-roll-Expr ExprTree ArgumentTree CoreTree TypeTree expr_layer argument_layer core_layer type_layer _

pub qualified_tree : (n : NodeId) (at : Place) (head : _) (names : _) → expr_tree (expr.Qualified n at head names) ≡ QualifiedTree (mark n at) (type_tree head.value) (texts names.items)
qualified_tree n at head names = ap expr_tree (sym (expr.rolls-Qualified n at head names)) ∙ fold-roll-Expr ExprTree ArgumentTree CoreTree TypeTree expr_layer argument_layer core_layer type_layer _

pub list_tree : (n : NodeId) (at : Place) (of : _) (items : _) → expr_tree (expr.List n at of items) ≡ ListTree (mark n at) (type_tree of.value) (exprs (map expr_tree items.items))
list_tree n at of items = ap expr_tree (sym (expr.rolls-List n at of items)) ∙ fold-roll-Expr ExprTree ArgumentTree CoreTree TypeTree expr_layer argument_layer core_layer type_layer _

pub group_tree : (n : NodeId) (at : Place) (inner : _) → expr_tree (expr.Group n at inner) ≡ GroupTree (mark n at) (expr_tree inner.value)
group_tree n at inner = ap expr_tree (sym (expr.rolls-Group n at inner)) ∙ fold-roll-Expr ExprTree ArgumentTree CoreTree TypeTree expr_layer argument_layer core_layer type_layer _

pub static_cast_tree : (n : NodeId) (at : Place) (to : _) (operand : _) → expr_tree (expr.StaticCast n at to operand) ≡ StaticCastTree (mark n at) (type_tree to.value) (expr_tree operand.value)
static_cast_tree n at to operand = ap expr_tree (sym (expr.rolls-StaticCast n at to operand)) ∙ fold-roll-Expr ExprTree ArgumentTree CoreTree TypeTree expr_layer argument_layer core_layer type_layer _

pub is_same_tree : (n : NodeId) (at : Place) (left : _) (right : _) → expr_tree (expr.IsSame n at left right) ≡ IsSameTree (mark n at) (type_tree left.value) (type_tree right.value)
is_same_tree n at left right = ap expr_tree (sym (expr.rolls-IsSame n at left right)) ∙ fold-roll-Expr ExprTree ArgumentTree CoreTree TypeTree expr_layer argument_layer core_layer type_layer _

pub out_tree : (n : NodeId) (at : Place) (operand : _) → expr_tree (expr.Out n at operand) ≡ OutTree (mark n at) (expr_tree operand.value)
out_tree n at operand = ap expr_tree (sym (expr.rolls-Out n at operand)) ∙ fold-roll-Expr ExprTree ArgumentTree CoreTree TypeTree expr_layer argument_layer core_layer type_layer _

pub member_tree : (n : NodeId) (at : Place) (object : _) (name : _) → expr_tree (expr.Member n at object name) ≡ MemberTree (mark n at) (expr_tree object.value) name.now
member_tree n at object name = ap expr_tree (sym (expr.rolls-Member n at object name)) ∙ fold-roll-Expr ExprTree ArgumentTree CoreTree TypeTree expr_layer argument_layer core_layer type_layer _

pub call_tree : (n : NodeId) (at : Place) (callee : _) (args : _) → expr_tree (expr.Call n at callee args) ≡ CallTree (mark n at) (expr_tree callee.value) (exprs (map expr_tree args.items))
call_tree n at callee args = ap expr_tree (sym (expr.rolls-Call n at callee args)) ∙ fold-roll-Expr ExprTree ArgumentTree CoreTree TypeTree expr_layer argument_layer core_layer type_layer _

pub postfix_tree : (n : NodeId) (at : Place) (operator : _) (operand : _) → expr_tree (expr.Postfix n at operator operand) ≡ PostfixTree (mark n at) operator (expr_tree operand.value)
postfix_tree n at operator operand = ap expr_tree (sym (expr.rolls-Postfix n at operator operand)) ∙ fold-roll-Expr ExprTree ArgumentTree CoreTree TypeTree expr_layer argument_layer core_layer type_layer _

pub unary_tree : (n : NodeId) (at : Place) (operator : _) (operand : _) → expr_tree (expr.Unary n at operator operand) ≡ UnaryTree (mark n at) operator (expr_tree operand.value)
unary_tree n at operator operand = ap expr_tree (sym (expr.rolls-Unary n at operator operand)) ∙ fold-roll-Expr ExprTree ArgumentTree CoreTree TypeTree expr_layer argument_layer core_layer type_layer _

pub binary_tree : (n : NodeId) (at : Place) (operator : _) (left : _) (right : _) → expr_tree (expr.Binary n at operator left right) ≡ BinaryTree (mark n at) operator (expr_tree left.value) (expr_tree right.value)
binary_tree n at operator left right = ap expr_tree (sym (expr.rolls-Binary n at operator left right)) ∙ fold-roll-Expr ExprTree ArgumentTree CoreTree TypeTree expr_layer argument_layer core_layer type_layer _

pub conditional_tree : (n : NodeId) (at : Place) (condition : _) (then : _) (otherwise : _) → expr_tree (expr.Conditional n at condition then otherwise) ≡ ConditionalTree (mark n at) (expr_tree condition.value) (expr_tree then.value) (expr_tree otherwise.value)
conditional_tree n at condition then otherwise = ap expr_tree (sym (expr.rolls-Conditional n at condition then otherwise)) ∙ fold-roll-Expr ExprTree ArgumentTree CoreTree TypeTree expr_layer argument_layer core_layer type_layer _

pub assignment_tree : (n : NodeId) (at : Place) (operator : _) (target : _) (value : _) → expr_tree (expr.Assignment n at operator target value) ≡ AssignmentTree (mark n at) operator (expr_tree target.value) (expr_tree value.value)
assignment_tree n at operator target value = ap expr_tree (sym (expr.rolls-Assignment n at operator target value)) ∙ fold-roll-Expr ExprTree ArgumentTree CoreTree TypeTree expr_layer argument_layer core_layer type_layer _

pub type_tree_of : (t : TypeSyn) → type_tree t ≡ OfCore (mark t.node t.at) t.constant (core_tree t.core) t.reference
type_tree_of t = fold_out-TypeSyn ExprTree ArgumentTree CoreTree TypeTree expr_layer argument_layer core_layer type_layer t
