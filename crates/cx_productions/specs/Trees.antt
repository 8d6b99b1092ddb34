-- The trees of expressions and types ([expr], [dcl.type], [temp.arg], [expr.prim.req]).
use Rattle.std.specs.Prelude.{ℕ, Bool, List, [], ◌∷◌, Option, None, Some}
use Rattle.cx_base.specs.declared.place.Place.{Place}
use Rattle.cx_base.specs.declared.value.Scalar.{Scalar}
use Rattle.cx_syntax.specs.declared.operators.UnaryOperator.{UnaryOperator}
use Rattle.cx_syntax.specs.declared.operators.PostfixOperator.{PostfixOperator}
use Rattle.cx_syntax.specs.declared.operators.BinaryOperator.{BinaryOperator}
use Rattle.cx_syntax.specs.declared.operators.AssignmentOperator.{AssignmentOperator}

-- A node's number, and its place: that of its first token, or of the name that it declares.
pub record Mark : Type 0 where
  pub node : ℕ
  pub at : Place

abbrev pub mark : ℕ → Place → Mark
mark node at = record { node = node; at = at }

mutual
  pub data ExprTree : Type 0 where
    IntTree : Mark → Scalar → (value : ℕ) → ExprTree
    BoolTree : Mark → Bool → ExprTree
    NameTree : Mark → (name : List ℕ) → ExprTree
    TemplateTree : Mark → (name : List ℕ) → ArgumentTrees → ExprTree
    QualifiedTree : Mark → (head : TypeTree) → (names : List (List ℕ)) → ExprTree
    ListTree : Mark → (of : TypeTree) → ExprTrees → ExprTree
    GroupTree : Mark → ExprTree → ExprTree
    StaticCastTree : Mark → (to : TypeTree) → ExprTree → ExprTree
    IsSameTree : Mark → TypeTree → TypeTree → ExprTree
    OutTree : Mark → ExprTree → ExprTree
    MemberTree : Mark → (object : ExprTree) → (name : List ℕ) → ExprTree
    CallTree : Mark → (callee : ExprTree) → ExprTrees → ExprTree
    PostfixTree : Mark → PostfixOperator → ExprTree → ExprTree
    UnaryTree : Mark → UnaryOperator → ExprTree → ExprTree
    BinaryTree : Mark → BinaryOperator → (left : ExprTree) → (right : ExprTree) → ExprTree
    ConditionalTree : Mark → (condition : ExprTree) → (then : ExprTree) → (otherwise : ExprTree) → ExprTree
    AssignmentTree : Mark → AssignmentOperator → (target : ExprTree) → (value : ExprTree) → ExprTree
    RequiresTree : Mark → LocalTrees → RequirementTrees → ExprTree

  -- expressions in order
  pub data ExprTrees : Type 0 where
    no_expr : ExprTrees
    and_expr : ExprTree → ExprTrees → ExprTrees

  -- a core, which stands at a place of its own, with `const` before or after it and with `&`
  pub data TypeTree : Type 0 where
    OfCore : Mark → (constant : Bool) → (core_at : Place) → CoreTree → (reference : Bool) → TypeTree

  pub data CoreTree : Type 0 where
    ScalarTree : Scalar → CoreTree
    VoidTree : CoreTree
    TypeNameTree : (name : List ℕ) → CoreTree
    ClassTree : (name : List ℕ) → ArgumentTrees → CoreTree
    MemberTypeTree : (head : TypeTree) → (names : List (List ℕ)) → CoreTree
    DecltypeTree : ExprTree → CoreTree

  -- template arguments in order
  pub data ArgumentTrees : Type 0 where
    no_argument : ArgumentTrees
    and_type : TypeTree → ArgumentTrees → ArgumentTrees
    and_value : ExprTree → ArgumentTrees → ArgumentTrees

  -- the local parameters of a requires-expression in order ([expr.prim.req]): each of a type, with a name or none
  pub data LocalTrees : Type 0 where
    no_local : LocalTrees
    and_local : Mark → (of : TypeTree) → (name : Option (List ℕ)) → LocalTrees → LocalTrees

  -- requirements in order; a compound one may have a concept after its `->`, with its mark, name and arguments
  pub data RequirementTrees : Type 0 where
    no_requirement : RequirementTrees
    and_simple : Mark → ExprTree → RequirementTrees → RequirementTrees
    and_required_type : Mark → TypeTree → RequirementTrees → RequirementTrees
    and_compound : Mark → ExprTree → RequirementTrees → RequirementTrees
    and_constrained : Mark → ExprTree → (concept : Mark) → (name : List ℕ) → ArgumentTrees → RequirementTrees → RequirementTrees
    and_nested : Mark → ExprTree → RequirementTrees → RequirementTrees

-- an expression's own node
abbrev pub expr_mark : ExprTree → Mark
expr_mark (IntTree m scalar value) = m
expr_mark (BoolTree m value) = m
expr_mark (NameTree m name) = m
expr_mark (TemplateTree m name arguments) = m
expr_mark (QualifiedTree m head names) = m
expr_mark (ListTree m of items) = m
expr_mark (GroupTree m inner) = m
expr_mark (StaticCastTree m to operand) = m
expr_mark (IsSameTree m left right) = m
expr_mark (OutTree m operand) = m
expr_mark (MemberTree m object name) = m
expr_mark (CallTree m callee arguments) = m
expr_mark (PostfixTree m operator operand) = m
expr_mark (UnaryTree m operator operand) = m
expr_mark (BinaryTree m operator left right) = m
expr_mark (ConditionalTree m condition then otherwise) = m
expr_mark (AssignmentTree m operator target value) = m
expr_mark (RequiresTree m ps rs) = m

-- the place of an expression; of a type
abbrev pub place_of : ExprTree → Place
place_of e = (expr_mark e).at

abbrev pub type_place : TypeTree → Place
type_place (OfCore m constant core_at core reference) = m.at

-- a template argument
pub data ArgumentTree : Type 0 where
  TypeArgument : TypeTree → ArgumentTree
  ValueArgument : ExprTree → ArgumentTree

-- a list in the form that a tree holds
abbrev pub exprs : List ExprTree → ExprTrees
exprs [] = no_expr
exprs (e ∷ es) = and_expr e (exprs es)

abbrev pub with_argument : ArgumentTree → ArgumentTrees → ArgumentTrees
with_argument (TypeArgument t) as' = and_type t as'
with_argument (ValueArgument e) as' = and_value e as'

abbrev pub arguments : List ArgumentTree → ArgumentTrees
arguments [] = no_argument
arguments (a ∷ as') = with_argument a (arguments as')

-- A concept that constrains a type, with its template arguments ([temp.param]); a list of them is never empty.
pub record ConstraintTree : Type 0 where
  pub mark : Mark
  pub name : List ℕ
  pub args : ArgumentTrees

-- A local parameter of a requires-expression ([expr.prim.req]); its place is that of its name, or of its type where it
-- has none.
pub record LocalTree : Type 0 where
  pub mark : Mark
  pub type : TypeTree
  pub name : Option (List ℕ)

-- A requirement ([expr.prim.req.simple] to [expr.prim.req.nested]); its place is that of its first token. What a type
-- requirement names is a type, which stands at the word `typename`. A compound requirement has the concept after its
-- `->`, if it stands there.
pub data RequirementTree : Type 0 where
  SimpleRequirement : Mark → ExprTree → RequirementTree
  TypeRequirement : Mark → TypeTree → RequirementTree
  CompoundRequirement : Mark → ExprTree → (constraint : Option ConstraintTree) → RequirementTree
  NestedRequirement : Mark → ExprTree → RequirementTree

abbrev pub locals : List LocalTree → LocalTrees
locals [] = no_local
locals (p ∷ ps) = and_local p.mark p.type p.name (locals ps)

abbrev pub with_requirement : RequirementTree → RequirementTrees → RequirementTrees
with_requirement (SimpleRequirement m e) rs = and_simple m e rs
with_requirement (TypeRequirement m t) rs = and_required_type m t rs
with_requirement (CompoundRequirement m e None) rs = and_compound m e rs
with_requirement (CompoundRequirement m e (Some k)) rs = and_constrained m e k.mark k.name k.args rs
with_requirement (NestedRequirement m e) rs = and_nested m e rs

abbrev pub requirements : List RequirementTree → RequirementTrees
requirements [] = no_requirement
requirements (r ∷ rs) = with_requirement r (requirements rs)
