-- What the trees of the code stand for, layer by layer.
use Rattle.std.specs.Prelude.{ℕ, List, map, Option}
use Rattle.std.specs.Option.{option_map}
use Rattle.std.specs.Borrow.{Bor}
use Rattle.cx_base.specs.declared.numbers.NodeId.{NodeId}
use Rattle.cx_base.specs.declared.place.Place.{Place}
use Rattle.cx_productions.specs.Trees as trees
use Rattle.cx_productions.specs.Trees.{Mark, ExprTree, IntTree, BoolTree, NameTree, TemplateTree, QualifiedTree, ListTree, GroupTree, StaticCastTree, IsSameTree, OutTree, MemberTree, CallTree, PostfixTree, UnaryTree, BinaryTree, ConditionalTree, AssignmentTree, RequiresTree, OfCore, ScalarTree, VoidTree, TypeNameTree, ClassTree, MemberTypeTree, DecltypeTree, TypeArgument, ValueArgument, SimpleRequirement, TypeRequirement, CompoundRequirement, NestedRequirement, TypeTree, CoreTree, ArgumentTree, ConstraintTree, LocalTree, RequirementTree, exprs, arguments, locals, requirements}
use Rattle.cx_trees.specs.declared.expression.Expr.{Expr}
use Rattle.cx_trees.specs.declared.expression.Expr.TheFolds.{fold-Expr, fold-TemplateArgument, fold-Core, fold-TypeSyn, fold-LocalParameter, fold-Requirement, fold-Constraint}
use Rattle.cx_trees.specs.declared.expression.TemplateArgument.{TemplateArgument}
use Rattle.cx_trees.specs.declared.types.Core.{Core}
use Rattle.cx_trees.specs.declared.types.TypeSyn.{TypeSyn}
use Rattle.cx_trees.specs.declared.requirements.LocalParameter.{LocalParameter}
use Rattle.cx_trees.specs.declared.requirements.Requirement.{Requirement}
use Rattle.cx_trees.specs.declared.requirements.Constraint.{Constraint}
use Rattle.cx_trees.specs.declared.expression.Expr.TheOpen as layer
use Rattle.cx_trees.specs.declared.expression.Expr.TheOpen.{Expr-F, TemplateArgument-F, Core-F, TypeSyn-F, LocalParameter-F, Requirement-F, Constraint-F}

abbrev pub mark : NodeId → Place → Mark
mark node at = trees.mark node.0 at

abbrev pub texts : List (Bor (List ℕ)) → List (List ℕ)
texts names = map (λ name. name.now) names

abbrev pub maybe_text : Option (Bor (List ℕ)) → Option (List ℕ)
maybe_text name = option_map (λ text. text.now) name

abbrev pub expr_layer : Expr-F ExprTree ArgumentTree RequirementTree CoreTree ConstraintTree LocalTree TypeTree → ExprTree
expr_layer (layer.Int node at scalar value) = IntTree (mark node at) scalar value
expr_layer (layer.Bool node at value) = BoolTree (mark node at) value
expr_layer (layer.Name node at name) = NameTree (mark node at) name.now
expr_layer (layer.Template node at name args) = TemplateTree (mark node at) name.now (arguments args.items)
expr_layer (layer.Qualified node at head names) = QualifiedTree (mark node at) head.value (texts names.items)
expr_layer (layer.List node at of items) = ListTree (mark node at) of.value (exprs items.items)
expr_layer (layer.Group node at inner) = GroupTree (mark node at) inner.value
expr_layer (layer.StaticCast node at to operand) = StaticCastTree (mark node at) to.value operand.value
expr_layer (layer.IsSame node at left right) = IsSameTree (mark node at) left.value right.value
expr_layer (layer.Out node at operand) = OutTree (mark node at) operand.value
expr_layer (layer.Requires node at parameters rs) = RequiresTree (mark node at) (locals parameters.items) (requirements rs.items)
expr_layer (layer.Member node at object name) = MemberTree (mark node at) object.value name.now
expr_layer (layer.Call node at callee args) = CallTree (mark node at) callee.value (exprs args.items)
expr_layer (layer.Postfix node at operator operand) = PostfixTree (mark node at) operator operand.value
expr_layer (layer.Unary node at operator operand) = UnaryTree (mark node at) operator operand.value
expr_layer (layer.Binary node at operator left right) = BinaryTree (mark node at) operator left.value right.value
expr_layer (layer.Conditional node at condition then otherwise) = ConditionalTree (mark node at) condition.value then.value otherwise.value
expr_layer (layer.Assignment node at operator target value) = AssignmentTree (mark node at) operator target.value value.value

abbrev pub argument_layer : TemplateArgument-F ExprTree ArgumentTree RequirementTree CoreTree ConstraintTree LocalTree TypeTree → ArgumentTree
argument_layer (layer.Type t) = TypeArgument t.value
argument_layer (layer.Value e) = ValueArgument e.value

abbrev pub requirement_layer : Requirement-F ExprTree ArgumentTree RequirementTree CoreTree ConstraintTree LocalTree TypeTree → RequirementTree
requirement_layer (layer.Simple node at e) = SimpleRequirement (mark node at) e.value
requirement_layer (layer.OfType node at t) = TypeRequirement (mark node at) t.value
requirement_layer (layer.Compound node at e constraint) = CompoundRequirement (mark node at) e.value (option_map (λ k. k.value) constraint)
requirement_layer (layer.Nested node at e) = NestedRequirement (mark node at) e.value

abbrev pub core_layer : Core-F ExprTree ArgumentTree RequirementTree CoreTree ConstraintTree LocalTree TypeTree → CoreTree
core_layer (layer.Scalar s) = ScalarTree s
core_layer layer.Void = VoidTree
core_layer (layer.TypeName name) = TypeNameTree name.now
core_layer (layer.Class name args) = ClassTree name.now (arguments args.items)
core_layer (layer.MemberType head names) = MemberTypeTree head.value (texts names.items)
core_layer (layer.Decltype e) = DecltypeTree e.value

abbrev pub constraint_layer : Constraint-F ExprTree ArgumentTree RequirementTree CoreTree ConstraintTree LocalTree TypeTree → ConstraintTree
constraint_layer k = record { mark = mark k.node k.at; name = k.name.now; args = arguments k.arguments.items }

abbrev pub local_layer : LocalParameter-F ExprTree ArgumentTree RequirementTree CoreTree ConstraintTree LocalTree TypeTree → LocalTree
local_layer p = record { mark = mark p.node p.at; type = p.of.value; name = maybe_text p.name }

abbrev pub type_layer : TypeSyn-F ExprTree ArgumentTree RequirementTree CoreTree ConstraintTree LocalTree TypeTree → TypeTree
type_layer t = OfCore (mark t.node t.at) t.constant t.core_at t.core t.reference

-- ---- the trees

abbrev pub expr_tree : Expr → ExprTree
expr_tree = fold-Expr ExprTree ArgumentTree RequirementTree CoreTree ConstraintTree LocalTree TypeTree expr_layer argument_layer requirement_layer core_layer constraint_layer local_layer type_layer

abbrev pub argument_tree : TemplateArgument → ArgumentTree
argument_tree = fold-TemplateArgument ExprTree ArgumentTree RequirementTree CoreTree ConstraintTree LocalTree TypeTree expr_layer argument_layer requirement_layer core_layer constraint_layer local_layer type_layer

abbrev pub requirement_tree : Requirement → RequirementTree
requirement_tree = fold-Requirement ExprTree ArgumentTree RequirementTree CoreTree ConstraintTree LocalTree TypeTree expr_layer argument_layer requirement_layer core_layer constraint_layer local_layer type_layer

abbrev pub core_tree : Core → CoreTree
core_tree = fold-Core ExprTree ArgumentTree RequirementTree CoreTree ConstraintTree LocalTree TypeTree expr_layer argument_layer requirement_layer core_layer constraint_layer local_layer type_layer

abbrev pub constraint_tree : Constraint → ConstraintTree
constraint_tree = fold-Constraint ExprTree ArgumentTree RequirementTree CoreTree ConstraintTree LocalTree TypeTree expr_layer argument_layer requirement_layer core_layer constraint_layer local_layer type_layer

abbrev pub local_tree : LocalParameter → LocalTree
local_tree = fold-LocalParameter ExprTree ArgumentTree RequirementTree CoreTree ConstraintTree LocalTree TypeTree expr_layer argument_layer requirement_layer core_layer constraint_layer local_layer type_layer

abbrev pub type_tree : TypeSyn → TypeTree
type_tree = fold-TypeSyn ExprTree ArgumentTree RequirementTree CoreTree ConstraintTree LocalTree TypeTree expr_layer argument_layer requirement_layer core_layer constraint_layer local_layer type_layer
