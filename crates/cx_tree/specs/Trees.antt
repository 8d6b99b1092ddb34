-- The syntax trees without where they lie in memory.
use Rattle.std.specs.Prelude.{ℕ, Bool, List, [], ◌∷◌, map, Option, None, Some}
use Rattle.std.specs.Borrow.{Bor}
use Rattle.cx_base.specs.declared.numbers.NodeId.{NodeId}
use Rattle.cx_base.specs.declared.place.Place.{Place}
use Rattle.cx_base.specs.declared.value.Scalar.{Scalar}
use Rattle.cx_tree.specs.declared.operators.UnaryOperator.{UnaryOperator}
use Rattle.cx_tree.specs.declared.operators.PostfixOperator.{PostfixOperator}
use Rattle.cx_tree.specs.declared.operators.BinaryOperator.{BinaryOperator}
use Rattle.cx_tree.specs.declared.operators.AssignmentOperator.{AssignmentOperator}
use Rattle.cx_tree.specs.declared.expression.Expr.{Expr}
use Rattle.cx_tree.specs.declared.types.TypeSyn.{TypeSyn}
use Rattle.cx_tree.specs.declared.expression.Expr.TheFolds.{fold-Expr, fold-TemplateArgument, fold-Core, fold-TypeSyn}
use Rattle.cx_tree.specs.declared.expression.TemplateArgument.{TemplateArgument}
use Rattle.cx_tree.specs.declared.types.Core.{Core}
use Rattle.cx_tree.specs.declared.expression.Expr.TheOpen as layer
use Rattle.cx_tree.specs.declared.expression.Expr.TheOpen.{Expr-F, TemplateArgument-F, Core-F, TypeSyn-F}

-- a node's number and place
pub record Mark : Type 0 where
  pub node : ℕ
  pub at : Place

abbrev pub mark : NodeId → Place → Mark
mark node at = record { node = node.0; at = at }

mutual
  pub data ExprTree : Type 0 where
    IntTree : Mark → Scalar → (value : ℕ) → ExprTree
    BoolTree : Mark → Bool → ExprTree
    NameTree : Mark → (name : List ℕ) → ExprTree
    TemplateTree : Mark → (name : List ℕ) → ArgumentTrees → ExprTree
    QualifiedTree : Mark → (head : TypeTree) → (names : List (List ℕ)) → ExprTree
    ListTree : Mark → (of : TypeTree) → ExprTrees → ExprTree
    GroupTree : Mark → ExprTree → ExprTree
    StaticCastTree : Mark → (to : TypeTree) → ExprTree → ExprTree
    IsSameTree : Mark → TypeTree → TypeTree → ExprTree
    OutTree : Mark → ExprTree → ExprTree
    MemberTree : Mark → (object : ExprTree) → (name : List ℕ) → ExprTree
    CallTree : Mark → (callee : ExprTree) → ExprTrees → ExprTree
    PostfixTree : Mark → PostfixOperator → ExprTree → ExprTree
    UnaryTree : Mark → UnaryOperator → ExprTree → ExprTree
    BinaryTree : Mark → BinaryOperator → (left : ExprTree) → (right : ExprTree) → ExprTree
    ConditionalTree : Mark → (condition : ExprTree) → (then : ExprTree) → (otherwise : ExprTree) → ExprTree
    AssignmentTree : Mark → AssignmentOperator → (target : ExprTree) → (value : ExprTree) → ExprTree
    RequiresTree : Mark → LocalTrees → RequirementTrees → ExprTree

  -- expressions in order
  pub data ExprTrees : Type 0 where
    no_expr : ExprTrees
    and_expr : ExprTree → ExprTrees → ExprTrees

  pub data TypeTree : Type 0 where
    OfCore : Mark → (constant : Bool) → CoreTree → (reference : Bool) → TypeTree

  pub data CoreTree : Type 0 where
    ScalarTree : Scalar → CoreTree
    VoidTree : CoreTree
    TypeNameTree : (name : List ℕ) → CoreTree
    ClassTree : (name : List ℕ) → ArgumentTrees → CoreTree
    MemberTypeTree : (head : TypeTree) → (names : List (List ℕ)) → CoreTree
    DecltypeTree : ExprTree → CoreTree

  -- template arguments in order
  pub data ArgumentTrees : Type 0 where
    no_argument : ArgumentTrees
    and_type : TypeTree → ArgumentTrees → ArgumentTrees
    and_value : ExprTree → ArgumentTrees → ArgumentTrees

  -- the local parameters of a requires-expression in order ([expr.prim.req]): each of a type, with a name or none
  pub data LocalTrees : Type 0 where
    no_local : LocalTrees
    and_local : Mark → (of : TypeTree) → (name : Option (List ℕ)) → LocalTrees → LocalTrees

  -- requirements in order; a compound one may have a concept behind its `->`, with its mark, name and arguments
  pub data RequirementTrees : Type 0 where
    no_requirement : RequirementTrees
    and_simple : Mark → ExprTree → RequirementTrees → RequirementTrees
    and_required_type : Mark → (head : TypeTree) → (names : List (List ℕ)) → RequirementTrees → RequirementTrees
    and_compound : Mark → ExprTree → RequirementTrees → RequirementTrees
    and_constrained : Mark → ExprTree → (concept : Mark) → (name : List ℕ) → ArgumentTrees → RequirementTrees → RequirementTrees
    and_nested : Mark → ExprTree → RequirementTrees → RequirementTrees

-- an expression's own node
abbrev pub expr_mark : ExprTree → Mark
expr_mark (IntTree m scalar value) = m
expr_mark (BoolTree m value) = m
expr_mark (NameTree m name) = m
expr_mark (TemplateTree m name arguments) = m
expr_mark (QualifiedTree m head names) = m
expr_mark (ListTree m of items) = m
expr_mark (GroupTree m inner) = m
expr_mark (StaticCastTree m to operand) = m
expr_mark (IsSameTree m left right) = m
expr_mark (OutTree m operand) = m
expr_mark (MemberTree m object name) = m
expr_mark (CallTree m callee arguments) = m
expr_mark (PostfixTree m operator operand) = m
expr_mark (UnaryTree m operator operand) = m
expr_mark (BinaryTree m operator left right) = m
expr_mark (ConditionalTree m condition then otherwise) = m
expr_mark (AssignmentTree m operator target value) = m
expr_mark (RequiresTree m ps rs) = m

-- a template argument
pub data ArgumentTree : Type 0 where
  TypeArgument : TypeTree → ArgumentTree
  ValueArgument : ExprTree → ArgumentTree

-- a list in the form that a tree holds
abbrev pub exprs : List ExprTree → ExprTrees
exprs [] = no_expr
exprs (e ∷ es) = and_expr e (exprs es)

abbrev pub with_argument : ArgumentTree → ArgumentTrees → ArgumentTrees
with_argument (TypeArgument t) as' = and_type t as'
with_argument (ValueArgument e) as' = and_value e as'

abbrev pub arguments : List ArgumentTree → ArgumentTrees
arguments [] = no_argument
arguments (a ∷ as') = with_argument a (arguments as')

-- A concept that constrains a type, with its template arguments ([temp.param]); a list of them is never empty.
pub record ConstraintTree : Type 0 where
  pub mark : Mark
  pub name : List ℕ
  pub args : ArgumentTrees

-- A local parameter of a requires-expression ([expr.prim.req]); its place is that of its name, or of its type where it
-- has none.
pub record LocalTree : Type 0 where
  pub mark : Mark
  pub type : TypeTree
  pub name : Option (List ℕ)

-- A requirement ([expr.prim.req.simple] to [expr.prim.req.nested]); its place is that of its first token. A type
-- requirement has a head and the names behind its `::`, if they stand there; a compound one has the concept behind its
-- `->`, if it stands there.
pub data RequirementTree : Type 0 where
  SimpleRequirement : Mark → ExprTree → RequirementTree
  TypeRequirement : Mark → (head : TypeTree) → (names : List (List ℕ)) → RequirementTree
  CompoundRequirement : Mark → ExprTree → (constraint : Option ConstraintTree) → RequirementTree
  NestedRequirement : Mark → ExprTree → RequirementTree

abbrev pub locals : List LocalTree → LocalTrees
locals [] = no_local
locals (p ∷ ps) = and_local p.mark p.type p.name (locals ps)

abbrev pub with_requirement : RequirementTree → RequirementTrees → RequirementTrees
with_requirement (SimpleRequirement m e) rs = and_simple m e rs
with_requirement (TypeRequirement m head names) rs = and_required_type m head names rs
with_requirement (CompoundRequirement m e None) rs = and_compound m e rs
with_requirement (CompoundRequirement m e (Some k)) rs = and_constrained m e k.mark k.name k.args rs
with_requirement (NestedRequirement m e) rs = and_nested m e rs

abbrev pub requirements : List RequirementTree → RequirementTrees
requirements [] = no_requirement
requirements (r ∷ rs) = with_requirement r (requirements rs)

abbrev pub texts : List (Bor (List ℕ)) → List (List ℕ)
texts names = map (λ name. name.now) names

-- ---- what the trees of the code stand for, layer by layer

abbrev pub expr_layer : Expr-F ExprTree ArgumentTree CoreTree TypeTree → ExprTree
expr_layer (layer.Int node at scalar value) = IntTree (mark node at) scalar value
expr_layer (layer.Bool node at value) = BoolTree (mark node at) value
expr_layer (layer.Name node at name) = NameTree (mark node at) name.now
expr_layer (layer.Template node at name args) = TemplateTree (mark node at) name.now (arguments args.items)
expr_layer (layer.Qualified node at head names) = QualifiedTree (mark node at) head.value (texts names.items)
expr_layer (layer.List node at of items) = ListTree (mark node at) of.value (exprs items.items)
expr_layer (layer.Group node at inner) = GroupTree (mark node at) inner.value
expr_layer (layer.StaticCast node at to operand) = StaticCastTree (mark node at) to.value operand.value
expr_layer (layer.IsSame node at left right) = IsSameTree (mark node at) left.value right.value
expr_layer (layer.Out node at operand) = OutTree (mark node at) operand.value
expr_layer (layer.Member node at object name) = MemberTree (mark node at) object.value name.now
expr_layer (layer.Call node at callee args) = CallTree (mark node at) callee.value (exprs args.items)
expr_layer (layer.Postfix node at operator operand) = PostfixTree (mark node at) operator operand.value
expr_layer (layer.Unary node at operator operand) = UnaryTree (mark node at) operator operand.value
expr_layer (layer.Binary node at operator left right) = BinaryTree (mark node at) operator left.value right.value
expr_layer (layer.Conditional node at condition then otherwise) = ConditionalTree (mark node at) condition.value then.value otherwise.value
expr_layer (layer.Assignment node at operator target value) = AssignmentTree (mark node at) operator target.value value.value

abbrev pub argument_layer : TemplateArgument-F ExprTree ArgumentTree CoreTree TypeTree → ArgumentTree
argument_layer (layer.Type t) = TypeArgument t
argument_layer (layer.Value e) = ValueArgument e

abbrev pub core_layer : Core-F ExprTree ArgumentTree CoreTree TypeTree → CoreTree
core_layer (layer.Scalar s) = ScalarTree s
core_layer layer.Void = VoidTree
core_layer (layer.TypeName name) = TypeNameTree name.now
core_layer (layer.Class name args) = ClassTree name.now (arguments args.items)
core_layer (layer.MemberType head names) = MemberTypeTree head.value (texts names.items)
core_layer (layer.Decltype e) = DecltypeTree e.value

abbrev pub type_layer : TypeSyn-F ExprTree ArgumentTree CoreTree TypeTree → TypeTree
type_layer t = OfCore (mark t.node t.at) t.constant t.core t.reference

abbrev pub expr_tree : Expr → ExprTree
expr_tree = fold-Expr ExprTree ArgumentTree CoreTree TypeTree expr_layer argument_layer core_layer type_layer

abbrev pub argument_tree : TemplateArgument → ArgumentTree
argument_tree = fold-TemplateArgument ExprTree ArgumentTree CoreTree TypeTree expr_layer argument_layer core_layer type_layer

abbrev pub core_tree : Core → CoreTree
core_tree = fold-Core ExprTree ArgumentTree CoreTree TypeTree expr_layer argument_layer core_layer type_layer

abbrev pub type_tree : TypeSyn → TypeTree
type_tree = fold-TypeSyn ExprTree ArgumentTree CoreTree TypeTree expr_layer argument_layer core_layer type_layer
