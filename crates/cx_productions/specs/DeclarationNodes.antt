-- The nodes of declarations ([dcl.dcl]) and units ([basic.link]): each comes after its parts, the parts in the order of
-- the text.
use Rattle.std.specs.Prelude.{List, [], ◌∷◌, ◌++◌, Option, Some, None}
use Rattle.std.specs.List.{flat_map}
use Rattle.cx_productions.specs.Trees.{Mark, TypeTree}
use Rattle.cx_productions.specs.Nodes.{type_nodes, expr_nodes, argument_nodes}
use Rattle.cx_productions.specs.DeclarationTrees.{ParameterTree, FunctionTree, AliasTree, ConstantTree, MemberTree, EmptyMember, AliasMember, FieldMember, ConstantMember, FunctionMember, StructTree, TemplateParameterTree, TypeParameter, ConstrainedParameter, ValueParameter, TemplatedTree, FunctionTemplate, StructTemplate, ConceptDefinition, Specialisation, DeclTree, EmptyDecl, AssertDecl, AliasDecl, ConstantDecl, FunctionDecl, StructDecl, TemplateDecl, UnitTree}
use Rattle.cx_productions.specs.StatementNodes.{maybe_expr_nodes, maybe_stmt_nodes, written_nodes, init_nodes, assert_nodes, constraint_nodes}

abbrev pub maybe_type_nodes : Option TypeTree → List Mark
maybe_type_nodes None = []
maybe_type_nodes (Some t) = type_nodes t

-- ---- declarations

abbrev pub parameter_nodes : ParameterTree → List Mark
parameter_nodes p = written_nodes p.type ++ p.mark ∷ []

abbrev pub function_nodes : FunctionTree → List Mark
function_nodes f = type_nodes f.result ++ flat_map parameter_nodes f.parameters ++ maybe_expr_nodes f.trailing ++ maybe_stmt_nodes f.body ++ f.mark ∷ []

abbrev pub alias_nodes : AliasTree → List Mark
alias_nodes a = type_nodes a.type ++ a.mark ∷ []

abbrev pub constant_nodes : ConstantTree → List Mark
constant_nodes v = type_nodes v.type ++ init_nodes v.init ++ v.mark ∷ []

abbrev pub member_nodes : MemberTree → List Mark
member_nodes (EmptyMember m) = m ∷ []
member_nodes (AliasMember a) = alias_nodes a
member_nodes (FieldMember m of name) = type_nodes of ++ m ∷ []
member_nodes (ConstantMember v) = constant_nodes v
member_nodes (FunctionMember f) = function_nodes f

abbrev pub struct_nodes : StructTree → List Mark
struct_nodes s = flat_map member_nodes s.members ++ s.mark ∷ []

abbrev pub template_parameter_nodes : TemplateParameterTree → List Mark
template_parameter_nodes (TypeParameter m name default) = maybe_type_nodes default ++ m ∷ []
template_parameter_nodes (ConstrainedParameter m k name default) = constraint_nodes k ++ maybe_type_nodes default ++ m ∷ []
template_parameter_nodes (ValueParameter m scalar name default) = maybe_expr_nodes default ++ m ∷ []

-- the arguments of a specialisation stand before its members
abbrev pub templated_nodes : TemplatedTree → List Mark
templated_nodes (FunctionTemplate f) = function_nodes f
templated_nodes (StructTemplate s) = struct_nodes s
templated_nodes (ConceptDefinition m name e) = expr_nodes e ++ m ∷ []
templated_nodes (Specialisation s args) = argument_nodes args ++ struct_nodes s

abbrev pub decl_nodes : DeclTree → List Mark
decl_nodes (EmptyDecl m) = m ∷ []
decl_nodes (AssertDecl a) = assert_nodes a
decl_nodes (AliasDecl a) = alias_nodes a
decl_nodes (ConstantDecl v) = constant_nodes v
decl_nodes (FunctionDecl f) = function_nodes f
decl_nodes (StructDecl s) = struct_nodes s
decl_nodes (TemplateDecl m ps clause t) = flat_map template_parameter_nodes ps ++ maybe_expr_nodes clause ++ templated_nodes t ++ m ∷ []

-- ---- units

abbrev pub unit_nodes : UnitTree → List Mark
unit_nodes ds = flat_map decl_nodes ds
