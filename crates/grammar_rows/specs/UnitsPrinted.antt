-- Declarations and units in short.
use Rattle.std.specs.Prelude.{Bool, true, false, List, [], ◌∷◌, ◌++◌, codes, Option, Some, None}
use Rattle.cx_productions.specs.Trees.{ExprTree}
use Rattle.cx_productions.specs.StatementTrees.{StmtTree}
use Rattle.cx_productions.specs.DeclarationTrees.{Specifiers, ParameterTree, FunctionTree, AliasTree, ConstantTree, MemberTree, EmptyMember, AliasMember, FieldMember, ConstantMember, FunctionMember, StructTree, TemplateParameterTree, TypeParameter, ConstrainedParameter, ValueParameter, TemplatedTree, FunctionTemplate, StructTemplate, ConceptDefinition, Specialisation, DeclTree, EmptyDecl, AssertDecl, AliasDecl, ConstantDecl, FunctionDecl, StructDecl, TemplateDecl, UnitTree}
use Rattle.grammar_rows.specs.Printed.{Text, scalar_text, argument_text}
use Rattle.grammar_rows.specs.StatementsPrinted.{type_short, expr_short, written_short, init_short, message_short, constraint_short, stmt_short}

abbrev pub flag_text : Text → Bool → Text
flag_text t true = t
flag_text t false = []

abbrev pub specifiers_short : Specifiers → Text
specifiers_short s = flag_text (codes "inline ") s.is_inline ++ flag_text (codes "static ") s.is_static ++ flag_text (codes "constexpr ") s.is_constexpr

abbrev pub name_short : Option Text → Text
name_short None = []
name_short (Some n) = codes " " ++ n

abbrev pub parameters_short : List ParameterTree → Text
parameters_short [] = []
parameters_short (p ∷ []) = written_short p.type ++ name_short p.name
parameters_short (p ∷ q ∷ ps) = written_short p.type ++ name_short p.name ++ codes ", " ++ parameters_short (q ∷ ps)

abbrev pub clause_short : Option ExprTree → Text
clause_short None = []
clause_short (Some e) = codes " requires " ++ expr_short e

abbrev pub body_short : Option StmtTree → Text
body_short None = codes ";"
body_short (Some s) = codes " " ++ stmt_short s

abbrev pub function_short : FunctionTree → Text
function_short f = specifiers_short f.specifiers ++ type_short f.result ++ codes " " ++ f.name ++ codes "(" ++ parameters_short f.parameters ++ codes ")" ++ flag_text (codes " const") f.is_const ++ clause_short f.trailing ++ body_short f.body

abbrev pub alias_short : AliasTree → Text
alias_short a = codes "using " ++ a.name ++ codes " = " ++ type_short a.type ++ codes ";"

abbrev pub constant_short : ConstantTree → Text
constant_short v = specifiers_short v.specifiers ++ type_short v.type ++ codes " " ++ v.name ++ init_short v.init ++ codes ";"

abbrev pub member_short : MemberTree → Text
member_short (EmptyMember m) = codes ";"
member_short (AliasMember a) = alias_short a
member_short (FieldMember m of name) = type_short of ++ codes " " ++ name ++ codes ";"
member_short (ConstantMember v) = constant_short v
member_short (FunctionMember f) = function_short f

abbrev pub members_short : List MemberTree → Text
members_short [] = []
members_short (m ∷ ms) = codes " " ++ member_short m ++ members_short ms

abbrev pub struct_short : StructTree → Text → Text
struct_short s args = codes "struct " ++ s.name ++ args ++ codes " {" ++ members_short s.members ++ codes " };"

abbrev pub default_short : {A : Type 0} → (A → Text) → Option A → Text
default_short text None = []
default_short text (Some x) = codes " = " ++ text x

abbrev pub template_parameter_short : TemplateParameterTree → Text
template_parameter_short (TypeParameter m name default) = codes "typename" ++ name_short name ++ default_short type_short default
template_parameter_short (ConstrainedParameter m k name default) = constraint_short (Some k) ++ codes "type" ++ name_short name ++ default_short type_short default
template_parameter_short (ValueParameter m s name default) = scalar_text s ++ name_short name ++ default_short expr_short default

abbrev pub template_parameters_short : List TemplateParameterTree → Text
template_parameters_short [] = []
template_parameters_short (p ∷ []) = template_parameter_short p
template_parameters_short (p ∷ q ∷ ps) = template_parameter_short p ++ codes ", " ++ template_parameters_short (q ∷ ps)

abbrev pub templated_short : TemplatedTree → Text
templated_short (FunctionTemplate f) = function_short f
templated_short (StructTemplate s) = struct_short s []
templated_short (ConceptDefinition m name e) = codes "concept " ++ name ++ codes " = " ++ expr_short e ++ codes ";"
templated_short (Specialisation s args) = struct_short s (codes "<" ++ argument_text args ++ codes ">")

abbrev pub decl_short : DeclTree → Text
decl_short (EmptyDecl m) = codes ";"
decl_short (AssertDecl a) = codes "assert(" ++ expr_short a.condition ++ message_short a.message ++ codes ");"
decl_short (AliasDecl a) = alias_short a
decl_short (ConstantDecl v) = constant_short v
decl_short (FunctionDecl f) = function_short f
decl_short (StructDecl s) = struct_short s []
decl_short (TemplateDecl m ps k t) = codes "template<" ++ template_parameters_short ps ++ codes ">" ++ clause_short k ++ codes " " ++ templated_short t

abbrev pub unit_short : UnitTree → Text
unit_short [] = []
unit_short (d ∷ []) = decl_short d
unit_short (d ∷ e ∷ ds) = decl_short d ++ codes " " ++ unit_short (e ∷ ds)
