-- The nodes of a tree.
use Rattle.std.specs.Prelude.{◌≡◌, ◌+◌, ℕ, List, [], ◌∷◌, ◌++◌}
use Rattle.cx_productions.specs.Trees.{Mark, ExprTree, IntTree, BoolTree, NameTree, TemplateTree, QualifiedTree, ListTree, GroupTree, StaticCastTree, IsSameTree, OutTree, MemberTree, CallTree, PostfixTree, UnaryTree, BinaryTree, ConditionalTree, AssignmentTree, RequiresTree, ExprTrees, no_expr, and_expr, TypeTree, OfCore, CoreTree, ScalarTree, VoidTree, TypeNameTree, ClassTree, MemberTypeTree, DecltypeTree, ArgumentTrees, no_argument, and_type, and_value, LocalTrees, no_local, and_local, RequirementTrees, no_requirement, and_simple, and_required_type, and_compound, and_constrained, and_nested}

-- Each node comes after its parts, the parts in the order of the text.
abbrev mutual
  pub expr_nodes : ExprTree → List Mark
  expr_nodes (IntTree m scalar value) = m ∷ []
  expr_nodes (BoolTree m value) = m ∷ []
  expr_nodes (NameTree m name) = m ∷ []
  expr_nodes (TemplateTree m name arguments) = argument_nodes arguments ++ m ∷ []
  expr_nodes (QualifiedTree m head names) = type_nodes head ++ m ∷ []
  expr_nodes (ListTree m of items) = type_nodes of ++ exprs_nodes items ++ m ∷ []
  expr_nodes (GroupTree m inner) = expr_nodes inner ++ m ∷ []
  expr_nodes (StaticCastTree m to operand) = type_nodes to ++ expr_nodes operand ++ m ∷ []
  expr_nodes (IsSameTree m left right) = type_nodes left ++ type_nodes right ++ m ∷ []
  expr_nodes (OutTree m operand) = expr_nodes operand ++ m ∷ []
  expr_nodes (MemberTree m object name) = expr_nodes object ++ m ∷ []
  expr_nodes (CallTree m callee arguments) = expr_nodes callee ++ exprs_nodes arguments ++ m ∷ []
  expr_nodes (PostfixTree m operator operand) = expr_nodes operand ++ m ∷ []
  expr_nodes (UnaryTree m operator operand) = expr_nodes operand ++ m ∷ []
  expr_nodes (BinaryTree m operator left right) = expr_nodes left ++ expr_nodes right ++ m ∷ []
  expr_nodes (ConditionalTree m condition then otherwise) = expr_nodes condition ++ expr_nodes then ++ expr_nodes otherwise ++ m ∷ []
  expr_nodes (AssignmentTree m operator target value) = expr_nodes target ++ expr_nodes value ++ m ∷ []
  expr_nodes (RequiresTree m ps rs) = locals_nodes ps ++ requirements_nodes rs ++ m ∷ []

  pub exprs_nodes : ExprTrees → List Mark
  exprs_nodes no_expr = []
  exprs_nodes (and_expr e es) = expr_nodes e ++ exprs_nodes es

  pub type_nodes : TypeTree → List Mark
  type_nodes (OfCore m constant core_at core reference) = core_nodes core ++ m ∷ []

  -- a core is no node of its own
  pub core_nodes : CoreTree → List Mark
  core_nodes (ScalarTree scalar) = []
  core_nodes VoidTree = []
  core_nodes (TypeNameTree name) = []
  core_nodes (ClassTree name arguments) = argument_nodes arguments
  core_nodes (MemberTypeTree head names) = type_nodes head
  core_nodes (DecltypeTree operand) = expr_nodes operand

  -- nor is a template argument beside its type or value
  pub argument_nodes : ArgumentTrees → List Mark
  argument_nodes no_argument = []
  argument_nodes (and_type t rest) = type_nodes t ++ argument_nodes rest
  argument_nodes (and_value e rest) = expr_nodes e ++ argument_nodes rest

  pub locals_nodes : LocalTrees → List Mark
  locals_nodes no_local = []
  locals_nodes (and_local m of name rest) = type_nodes of ++ m ∷ locals_nodes rest

  pub requirements_nodes : RequirementTrees → List Mark
  requirements_nodes no_requirement = []
  requirements_nodes (and_simple m e rest) = expr_nodes e ++ m ∷ requirements_nodes rest
  requirements_nodes (and_required_type m t rest) = type_nodes t ++ m ∷ requirements_nodes rest
  requirements_nodes (and_compound m e rest) = expr_nodes e ++ m ∷ requirements_nodes rest
  requirements_nodes (and_constrained m e concept name arguments rest) = expr_nodes e ++ argument_nodes arguments ++ concept ∷ m ∷ requirements_nodes rest
  requirements_nodes (and_nested m e rest) = expr_nodes e ++ m ∷ requirements_nodes rest

-- The nodes of a list are numbered one after the other from n on.
abbrev pub IsNumberedFrom : ℕ → List Mark → Type 0
IsNumberedFrom n [] = Unit {0}
IsNumberedFrom n (m ∷ ms) = (m.node ≡ n) × IsNumberedFrom (n + 1) ms
