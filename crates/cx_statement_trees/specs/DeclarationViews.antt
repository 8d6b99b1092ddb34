-- What the declarations of the code stand for.
use Rattle.std.specs.Prelude.{map}
use Rattle.std.specs.Option.{option_map}
use Rattle.cx_productions.specs.Trees.{arguments}
use Rattle.cx_trees.specs.Views.{mark, expr_tree, type_tree, argument_tree, constraint_tree, maybe_text}
use Rattle.cx_productions.specs.DeclarationTrees as plain
use Rattle.cx_statement_trees.specs.StatementViews.{written_type, init_tree, assert_tree, stmt_tree}
use Rattle.cx_statement_trees.specs.declared.declaration.Decl.{Decl}
use Rattle.cx_statement_trees.specs.declared.declaration.Decl.TheVariants as decl
use Rattle.cx_statement_trees.specs.declared.declaration.Specifiers.{Specifiers}
use Rattle.cx_statement_trees.specs.declared.declaration.FunctionDecl.{FunctionDecl}
use Rattle.cx_statement_trees.specs.declared.declaration.Parameter.{Parameter}
use Rattle.cx_statement_trees.specs.declared.declaration.Alias.{Alias}
use Rattle.cx_statement_trees.specs.declared.declaration.Constant.{Constant}
use Rattle.cx_statement_trees.specs.declared.declaration.Struct.{Struct}
use Rattle.cx_statement_trees.specs.declared.declaration.Member.{Member}
use Rattle.cx_statement_trees.specs.declared.declaration.Member.TheVariants as member
use Rattle.cx_statement_trees.specs.declared.declaration.TemplateParameter.{TemplateParameter}
use Rattle.cx_statement_trees.specs.declared.declaration.TemplateParameter.TheVariants as parameter
use Rattle.cx_statement_trees.specs.declared.declaration.Templated.{Templated}
use Rattle.cx_statement_trees.specs.declared.declaration.Templated.TheVariants as templated
use Rattle.cx_statement_trees.specs.declared.declaration.Unit.{Unit as UnitOfDeclarations}

abbrev pub specifiers : Specifiers → plain.Specifiers
specifiers s = record { is_inline = s.is_inline; is_static = s.is_static; is_constexpr = s.is_constexpr }

abbrev pub parameter_tree : Parameter → plain.ParameterTree
parameter_tree p = record { mark = mark p.node p.at; type = written_type p.written; name = maybe_text p.name }

abbrev pub function_decl : FunctionDecl → plain.FunctionTree
function_decl f = record {
  mark = mark f.node f.at;
  specifiers = specifiers f.specifiers;
  result = type_tree f.result.value;
  name = f.name.now;
  parameters = map parameter_tree f.parameters.items;
  is_const = f.is_const;
  trailing = option_map (λ e. expr_tree e.value) f.trailing;
  body = option_map (λ s. stmt_tree s.value) f.body;
}

abbrev pub alias_tree : Alias → plain.AliasTree
alias_tree a = record { mark = mark a.node a.at; name = a.name.now; type = type_tree a.of.value }

abbrev pub constant_tree : Constant → plain.ConstantTree
constant_tree c = record { mark = mark c.node c.at; specifiers = specifiers c.specifiers; type = type_tree c.of.value; name = c.name.now; init = init_tree c.init }

abbrev pub member_tree : Member → plain.MemberTree
member_tree (member.Empty node at) = plain.EmptyMember (mark node at)
member_tree (member.Alias a) = plain.AliasMember (alias_tree a.value)
member_tree (member.Field node at of name) = plain.FieldMember (mark node at) (type_tree of.value) name.now
member_tree (member.Constant c) = plain.ConstantMember (constant_tree c.value)
member_tree (member.Function f) = plain.FunctionMember (function_decl f.value)

abbrev pub struct_tree : Struct → plain.StructTree
struct_tree s = record { mark = mark s.node s.at; name = s.name.now; members = map member_tree s.members.items }

abbrev pub template_parameter : TemplateParameter → plain.TemplateParameterTree
template_parameter (parameter.Type node at name default) = plain.TypeParameter (mark node at) (maybe_text name) (option_map (λ t. type_tree t.value) default)
template_parameter (parameter.Constrained node at constraint name default) = plain.ConstrainedParameter (mark node at) (constraint_tree constraint.value) (maybe_text name) (option_map (λ t. type_tree t.value) default)
template_parameter (parameter.Value node at scalar name default) = plain.ValueParameter (mark node at) scalar (maybe_text name) (option_map (λ e. expr_tree e.value) default)

abbrev pub templated_tree : Templated → plain.TemplatedTree
templated_tree (templated.Function f) = plain.FunctionTemplate (function_decl f.value)
templated_tree (templated.Struct s) = plain.StructTemplate (struct_tree s.value)
templated_tree (templated.Concept node at name condition) = plain.ConceptDefinition (mark node at) name.now (expr_tree condition.value)
templated_tree (templated.Specialisation s args) = plain.Specialisation (struct_tree s.value) (arguments (map argument_tree args.items))

abbrev pub decl_tree : Decl → plain.DeclTree
decl_tree (decl.Empty node at) = plain.EmptyDecl (mark node at)
decl_tree (decl.StaticAssert a) = plain.AssertDecl (assert_tree a.value)
decl_tree (decl.Alias a) = plain.AliasDecl (alias_tree a.value)
decl_tree (decl.Constant c) = plain.ConstantDecl (constant_tree c.value)
decl_tree (decl.Function f) = plain.FunctionDecl (function_decl f.value)
decl_tree (decl.Struct s) = plain.StructDecl (struct_tree s.value)
decl_tree (decl.Template node at parameters clause templated') = plain.TemplateDecl (mark node at) (map template_parameter parameters.items) (option_map (λ e. expr_tree e.value) clause) (templated_tree templated')

abbrev pub unit_tree : UnitOfDeclarations → plain.UnitTree
unit_tree u = map decl_tree u.declarations.items
