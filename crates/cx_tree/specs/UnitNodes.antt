-- The nodes of statements ([stmt.stmt]), declarations ([dcl.dcl]) and units ([basic.link]): each stands behind its parts,
-- the parts in the order of the text.
use Rattle.std.specs.Prelude.{List, [], ◌∷◌, ◌++◌, Option, Some, None}
use Rattle.std.specs.List.{flat_map}
use Rattle.cx_tree.specs.Trees.{Mark, ExprTree, TypeTree, ConstraintTree}
use Rattle.cx_tree.specs.Nodes.{expr_nodes, exprs_nodes, type_nodes, argument_nodes}
use Rattle.cx_tree.specs.Statements.{AutoTree, WrittenType, OfType, OfAuto, InitTree, ValueInit, ListInit, VariableTree, ForInit, NoInit, VariableInit, ExprInit, AssertTree, StmtTree, EmptyStmt, Block, AssertStmt, Break, Continue, Return, If, IfElse, While, For, VariableStmt, ExprStmt, StmtTrees, no_stmt, and_stmt}
use Rattle.cx_tree.specs.Declarations.{ParameterTree, FunctionTree, AliasTree, ConstantTree, MemberTree, EmptyMember, AliasMember, FieldMember, ConstantMember, FunctionMember, StructTree, TemplateParameterTree, TypeParameter, ConstrainedParameter, ValueParameter, TemplatedTree, FunctionTemplate, StructTemplate, ConceptDefinition, Specialisation, DeclTree, EmptyDecl, AssertDecl, AliasDecl, ConstantDecl, FunctionDecl, StructDecl, TemplateDecl, UnitTree}

-- ---- parts that may be left out

abbrev pub maybe_expr_nodes : Option ExprTree → List Mark
maybe_expr_nodes None = []
maybe_expr_nodes (Some e) = expr_nodes e

abbrev pub maybe_type_nodes : Option TypeTree → List Mark
maybe_type_nodes None = []
maybe_type_nodes (Some t) = type_nodes t

-- ---- variables

abbrev pub constraint_nodes : ConstraintTree → List Mark
constraint_nodes k = argument_nodes k.args ++ k.mark ∷ []

abbrev pub maybe_constraint_nodes : Option ConstraintTree → List Mark
maybe_constraint_nodes None = []
maybe_constraint_nodes (Some k) = constraint_nodes k

abbrev pub auto_nodes : AutoTree → List Mark
auto_nodes a = maybe_constraint_nodes a.constraint ++ a.mark ∷ []

abbrev pub written_nodes : WrittenType → List Mark
written_nodes (OfType t) = type_nodes t
written_nodes (OfAuto a) = auto_nodes a

abbrev pub init_nodes : InitTree → List Mark
init_nodes (ValueInit e) = expr_nodes e
init_nodes (ListInit m es) = exprs_nodes es ++ m ∷ []

abbrev pub variable_nodes : VariableTree → List Mark
variable_nodes v = written_nodes v.type ++ init_nodes v.init ++ v.mark ∷ []

-- ---- statements

abbrev pub for_init_nodes : ForInit → List Mark
for_init_nodes NoInit = []
for_init_nodes (VariableInit v) = variable_nodes v
for_init_nodes (ExprInit e) = expr_nodes e

abbrev pub assert_nodes : AssertTree → List Mark
assert_nodes a = expr_nodes a.condition ++ a.mark ∷ []

abbrev mutual
  pub stmt_nodes : StmtTree → List Mark
  stmt_nodes (EmptyStmt m) = m ∷ []
  stmt_nodes (Block m ss) = stmts_nodes ss ++ m ∷ []
  stmt_nodes (AssertStmt a) = assert_nodes a
  stmt_nodes (Break m) = m ∷ []
  stmt_nodes (Continue m) = m ∷ []
  stmt_nodes (Return m e) = maybe_expr_nodes e ++ m ∷ []
  stmt_nodes (If m is_constexpr condition then) = expr_nodes condition ++ stmt_nodes then ++ m ∷ []
  stmt_nodes (IfElse m is_constexpr condition then otherwise) = expr_nodes condition ++ stmt_nodes then ++ stmt_nodes otherwise ++ m ∷ []
  stmt_nodes (While m condition body) = expr_nodes condition ++ stmt_nodes body ++ m ∷ []
  stmt_nodes (For m init condition step body) = for_init_nodes init ++ maybe_expr_nodes condition ++ maybe_expr_nodes step ++ stmt_nodes body ++ m ∷ []
  stmt_nodes (VariableStmt v) = variable_nodes v
  stmt_nodes (ExprStmt m e) = expr_nodes e ++ m ∷ []

  pub stmts_nodes : StmtTrees → List Mark
  stmts_nodes no_stmt = []
  stmts_nodes (and_stmt s ss) = stmt_nodes s ++ stmts_nodes ss

abbrev pub maybe_stmt_nodes : Option StmtTree → List Mark
maybe_stmt_nodes None = []
maybe_stmt_nodes (Some s) = stmt_nodes s

-- ---- declarations

abbrev pub parameter_nodes : ParameterTree → List Mark
parameter_nodes p = written_nodes p.type ++ p.mark ∷ []

abbrev pub function_nodes : FunctionTree → List Mark
function_nodes f = type_nodes f.result ++ flat_map parameter_nodes f.parameters ++ maybe_expr_nodes f.trailing ++ maybe_stmt_nodes f.body ++ f.mark ∷ []

abbrev pub alias_nodes : AliasTree → List Mark
alias_nodes a = type_nodes a.type ++ a.mark ∷ []

abbrev pub constant_nodes : ConstantTree → List Mark
constant_nodes v = type_nodes v.type ++ init_nodes v.init ++ v.mark ∷ []

abbrev pub member_nodes : MemberTree → List Mark
member_nodes (EmptyMember m) = m ∷ []
member_nodes (AliasMember a) = alias_nodes a
member_nodes (FieldMember m of name) = type_nodes of ++ m ∷ []
member_nodes (ConstantMember v) = constant_nodes v
member_nodes (FunctionMember f) = function_nodes f

abbrev pub struct_nodes : StructTree → List Mark
struct_nodes s = flat_map member_nodes s.members ++ s.mark ∷ []

abbrev pub template_parameter_nodes : TemplateParameterTree → List Mark
template_parameter_nodes (TypeParameter m name default) = maybe_type_nodes default ++ m ∷ []
template_parameter_nodes (ConstrainedParameter m k name default) = constraint_nodes k ++ maybe_type_nodes default ++ m ∷ []
template_parameter_nodes (ValueParameter m scalar name default) = maybe_expr_nodes default ++ m ∷ []

-- the arguments of a specialisation stand before its members
abbrev pub templated_nodes : TemplatedTree → List Mark
templated_nodes (FunctionTemplate f) = function_nodes f
templated_nodes (StructTemplate s) = struct_nodes s
templated_nodes (ConceptDefinition m name e) = expr_nodes e ++ m ∷ []
templated_nodes (Specialisation s args) = argument_nodes args ++ struct_nodes s

abbrev pub decl_nodes : DeclTree → List Mark
decl_nodes (EmptyDecl m) = m ∷ []
decl_nodes (AssertDecl a) = assert_nodes a
decl_nodes (AliasDecl a) = alias_nodes a
decl_nodes (ConstantDecl v) = constant_nodes v
decl_nodes (FunctionDecl f) = function_nodes f
decl_nodes (StructDecl s) = struct_nodes s
decl_nodes (TemplateDecl m ps clause t) = flat_map template_parameter_nodes ps ++ maybe_expr_nodes clause ++ templated_nodes t ++ m ∷ []

-- ---- units

abbrev pub unit_nodes : UnitTree → List Mark
unit_nodes ds = flat_map decl_nodes ds
