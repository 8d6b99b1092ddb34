-- What the values of the readers stand for.
use Rattle.std.specs.Prelude.{ℕ, List, Option, map}
use Rattle.std.specs.Option.{option_map}
use Rattle.std.specs.Borrow.{Bor}
use Rattle.std.specs.declared.alloc.Global.{Global}
use Rattle.std.specs.declared.boxed.Box.{Box}
use Rattle.std.specs.declared.vec.Vec.{Vec}
use Rattle.cx_productions.specs.Trees.{ExprTree, TypeTree, ArgumentTree, ConstraintTree, LocalTree, RequirementTree}
use Rattle.cx_productions.specs.Scalars as productions
use Rattle.cx_productions.specs.Primaries as productions'
use Rattle.cx_productions.specs.Expressions as productions''
use Rattle.cx_trees.specs.declared.expression.Expr.{Expr}
use Rattle.cx_trees.specs.declared.expression.TemplateArgument.{TemplateArgument}
use Rattle.cx_trees.specs.declared.types.TypeSyn.{TypeSyn}
use Rattle.cx_trees.specs.declared.requirements.Constraint.{Constraint}
use Rattle.cx_trees.specs.declared.requirements.LocalParameter.{LocalParameter}
use Rattle.cx_trees.specs.declared.requirements.Requirement.{Requirement}
use Rattle.cx_trees.specs.Views.{expr_tree, argument_tree, core_tree, type_tree, constraint_tree, local_tree, requirement_tree, texts}
use Rattle.cx_read_expr.specs.declared.cores.PlacedCore.{PlacedCore}
use Rattle.cx_read_expr.specs.declared.operands.Operand.{Operand}
use Rattle.cx_read_expr.specs.declared.postfix.Postfix.{Postfix}
use Rattle.cx_read_expr.specs.declared.binary.Chain.{Chain}

abbrev pub boxed_expr : Box Expr Global → ExprTree
boxed_expr e = expr_tree e.value

abbrev pub boxed_type : Box TypeSyn Global → TypeTree
boxed_type t = type_tree t.value

abbrev pub boxed_constraint : Box Constraint Global → ConstraintTree
boxed_constraint k = constraint_tree k.value

abbrev pub maybe_constraint : Option (Box Constraint Global) → Option ConstraintTree
maybe_constraint k = option_map boxed_constraint k

abbrev pub all_texts : Vec (Bor (List ℕ)) Global → List (List ℕ)
all_texts names = texts names.items

abbrev pub all_exprs : Vec Expr Global → List ExprTree
all_exprs es = map expr_tree es.items

abbrev pub all_arguments : Vec TemplateArgument Global → List ArgumentTree
all_arguments args = map argument_tree args.items

abbrev pub all_locals : Vec LocalParameter Global → List LocalTree
all_locals ps = map local_tree ps.items

abbrev pub all_requirements : Vec Requirement Global → List RequirementTree
all_requirements rs = map requirement_tree rs.items

abbrev pub placed_core : PlacedCore → productions.Core
placed_core k = record { at = k.at; tree = core_tree k.core.value }

abbrev pub operand_of : Operand → productions'.Operand
operand_of o = record { tree = boxed_expr o.tree; calling = o.calling }

abbrev pub postfix_of : Postfix → productions''.Postfix
postfix_of x = record { tree = boxed_expr x.tree; calling = x.calling; within = x.within }

abbrev pub chain_of : Chain → productions''.Chain
chain_of x = record { tree = boxed_expr x.tree; within = x.within }
