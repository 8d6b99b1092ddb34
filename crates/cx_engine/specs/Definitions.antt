-- What is built of a unit: the functions that it defines, each with the value that its body returns.
use Rattle.std.specs.Prelude.{◌≡◌, ℕ, List, Option, Some, None, option_map, option_and_then, option_to_list}
use Rattle.std.specs.List.{flat_map}
use Rattle.cx_base.specs.declared.place.Place.{Place}
use Rattle.cx_tree.specs.Trees.{Mark, ExprTree, expr_tree}
use Rattle.cx_tree.specs.Statements.{StmtTree, Block, Return, StmtTrees, no_stmt, and_stmt}
use Rattle.cx_tree.specs.Declarations.{FunctionTree, DeclTree, FunctionDecl, UnitTree}
use Rattle.cx_engine.specs.declared.definitions.Definition.{Definition as Written}

-- A function that is defined: the name, its place, and the value that its body returns ([dcl.fct.def]).
pub record Definition : Type 0 where
  pub at : Place
  pub name : List ℕ
  pub value : ExprTree

-- what the code's definition stands for
abbrev pub definition_tree : Written → Definition
definition_tree d = record { at = d.at; name = d.name.now; value = expr_tree d.value.now }

-- what a `return` returns
abbrev pub value_of_stmt : StmtTree → Option ExprTree
value_of_stmt (Return m value) = value
value_of_stmt other = None

-- what one statement alone returns
abbrev pub value_of_one : StmtTrees → Option ExprTree
value_of_one (and_stmt s no_stmt) = value_of_stmt s
value_of_one other = None

-- what a body returns that is a block of one `return`
abbrev pub value_of_body : StmtTree → Option ExprTree
value_of_body (Block m ss) = value_of_one ss
value_of_body other = None

-- the definition that a declaration is, where it is that of a function whose body is one `return` of a value
abbrev pub definition_of : DeclTree → Option Definition
definition_of (FunctionDecl f) = option_map (λ value. record { at = f.mark.at; name = f.name; value = value }) (option_and_then value_of_body f.body)
definition_of other = None

-- The definitions of a unit, in order.
abbrev pub definitions : UnitTree → List Definition
definitions u = flat_map (λ d. option_to_list (definition_of d)) u

-- A declaration is that of this definition: of a function of its name, whose body is a block of one `return` of its
-- value.
pub record Defines (d : DeclTree) (definition : Definition) : Type 0 where
  pub function : FunctionTree
  pub block : Mark
  pub return : Mark
  pub is : d ≡ FunctionDecl function
  pub at : function.mark.at ≡ definition.at
  pub name : function.name ≡ definition.name
  pub body : function.body ≡ Some (Block block (and_stmt (Return return (Some definition.value)) no_stmt))
