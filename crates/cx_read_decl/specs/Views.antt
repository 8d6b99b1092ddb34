-- What the values of the readers stand for.
use Rattle.std.specs.Prelude.{ℕ, List, Option, map}
use Rattle.std.specs.Option.{option_map}
use Rattle.std.specs.declared.alloc.Global.{Global}
use Rattle.std.specs.declared.boxed.Box.{Box}
use Rattle.std.specs.declared.vec.Vec.{Vec}
use Rattle.cx_tokens.specs.Pieces as pieces
use Rattle.cx_cursor.specs.declared.piece.Piece.{Piece}
use Rattle.cx_cursor.specs.Pieces.{piece_tree}
use Rattle.cx_trees.specs.Views.{constraint_tree}
use Rattle.cx_trees.specs.declared.requirements.Constraint.{Constraint}
use Rattle.cx_productions.specs.Trees.{ConstraintTree}
use Rattle.cx_productions.specs.StatementTrees.{AutoTree}
use Rattle.cx_productions.specs.StatementTrees.{StmtTree}
use Rattle.cx_productions.specs.DeclarationTrees.{ParameterTree, FunctionTree, AliasTree, ConstantTree, MemberTree, StructTree, TemplateParameterTree, DeclTree}
use Rattle.cx_productions.specs.Declarations as declarations
use Rattle.cx_statement_trees.specs.StatementViews.{auto_tree, stmt_tree}
use Rattle.cx_statement_trees.specs.DeclarationViews.{parameter_tree, function_decl, alias_tree, constant_tree, member_tree, struct_tree, template_parameter, decl_tree}
use Rattle.cx_statement_trees.specs.declared.statement.Auto.{Auto}
use Rattle.cx_statement_trees.specs.declared.statement.Stmt.{Stmt}
use Rattle.cx_statement_trees.specs.declared.declaration.Parameter.{Parameter}
use Rattle.cx_statement_trees.specs.declared.declaration.FunctionDecl.{FunctionDecl}
use Rattle.cx_statement_trees.specs.declared.declaration.Alias.{Alias}
use Rattle.cx_statement_trees.specs.declared.declaration.Constant.{Constant}
use Rattle.cx_statement_trees.specs.declared.declaration.Member.{Member}
use Rattle.cx_statement_trees.specs.declared.declaration.Struct.{Struct}
use Rattle.cx_statement_trees.specs.declared.declaration.TemplateParameter.{TemplateParameter}
use Rattle.cx_statement_trees.specs.declared.declaration.Decl.{Decl}
use Rattle.cx_read_decl.specs.declared.functions.Surroundings.{Surroundings}

abbrev pub maybe_piece : Option Piece → Option pieces.Piece
maybe_piece p = option_map piece_tree p

abbrev pub maybe_constraint : Option (Box Constraint Global) → Option ConstraintTree
maybe_constraint k = option_map (λ k. constraint_tree k.value) k

abbrev pub boxed_auto : Box Auto Global → AutoTree
boxed_auto a = auto_tree a.value

abbrev pub all_parameters : Vec Parameter Global → List ParameterTree
all_parameters ps = map parameter_tree ps.items

abbrev pub surroundings : Surroundings → declarations.Surroundings
surroundings s = record { is_member = s.is_member; templated = s.templated }

abbrev pub boxed_stmt : Box Stmt Global → StmtTree
boxed_stmt s = stmt_tree s.value

abbrev pub boxed_function : Box FunctionDecl Global → FunctionTree
boxed_function f = function_decl f.value

abbrev pub boxed_alias : Box Alias Global → AliasTree
boxed_alias a = alias_tree a.value

abbrev pub boxed_constant : Box Constant Global → ConstantTree
boxed_constant c = constant_tree c.value

abbrev pub boxed_struct : Box Struct Global → StructTree
boxed_struct s = struct_tree s.value

abbrev pub all_members : Vec Member Global → List MemberTree
all_members ms = map member_tree ms.items

abbrev pub all_template_parameters : Vec TemplateParameter Global → List TemplateParameterTree
all_template_parameters ps = map template_parameter ps.items

abbrev pub all_declarations : Vec Decl Global → List DeclTree
all_declarations ds = map decl_tree ds.items
