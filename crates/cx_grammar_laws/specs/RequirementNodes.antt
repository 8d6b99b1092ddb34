-- The nodes of a requirement ([expr.prim.req.simple] to [expr.prim.req.nested]): each stands behind its parts, the parts
-- in the order of the text.
use Rattle.std.specs.Prelude.{List, [], ◌∷◌, ◌++◌}
use Rattle.cx_tree.specs.Trees.{Mark, RequirementTree, SimpleRequirement, TypeRequirement, CompoundRequirement, NestedRequirement}
use Rattle.cx_tree.specs.Nodes.{expr_nodes, type_nodes}
use Rattle.cx_tree.specs.UnitNodes.{maybe_constraint_nodes}

abbrev pub requirement_nodes : RequirementTree → List Mark
requirement_nodes (SimpleRequirement m e) = expr_nodes e ++ m ∷ []
requirement_nodes (TypeRequirement m head names) = type_nodes head ++ m ∷ []
requirement_nodes (CompoundRequirement m e constraint) = expr_nodes e ++ maybe_constraint_nodes constraint ++ m ∷ []
requirement_nodes (NestedRequirement m e) = expr_nodes e ++ m ∷ []
