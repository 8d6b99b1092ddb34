-- What the types of the code stand for.
use Rattle.std.specs.Prelude.{map, option_map}
use Rattle.cx_plain_language.specs.declared.types.Type as rust
use Rattle.cx_plain_language.specs.declared.types.Type.TheVariants as kind
use Rattle.cx_plain_language.specs.declared.types.Declared.{Declared}
use Rattle.cx_plain_language.specs.declared.types.Returns.{Returns}
use Rattle.cx_plain_language.specs.declared.types.Returns.TheVariants as returns
use Rattle.cx_plain_language.specs.declared.expression.Expr.{Expr}
use Rattle.cx_plain_language.specs.declared.expression.Expr.TheOpen as layer
use Rattle.cx_plain_language.specs.declared.expression.Expr.TheOpen.{Expr-F}
use Rattle.cx_plain_language.specs.declared.expression.Expr.TheFolds.{fold-Expr}
use Rattle.cx_plain_language.specs.declared.statement.Stmt.{Stmt}
use Rattle.cx_plain_language.specs.declared.statement.Stmt.TheOpen as statement
use Rattle.cx_plain_language.specs.declared.statement.Stmt.TheOpen.{Stmt-F}
use Rattle.cx_plain_language.specs.declared.statement.Stmt.TheFolds.{fold-Stmt}
use Rattle.cx_plain_language.specs.declared.unit.Literal.{Literal}
use Rattle.cx_plain_language.specs.declared.unit.Literal.TheOpen as constant
use Rattle.cx_plain_language.specs.declared.unit.Literal.TheOpen.{Literal-F}
use Rattle.cx_plain_language.specs.declared.unit.Literal.TheFolds.{fold-Literal}
use Rattle.cx_plain_language.specs.declared.unit.Field.{Field}
use Rattle.cx_plain_language.specs.declared.unit.Struct.{Struct}
use Rattle.cx_plain_language.specs.declared.unit.Global.{Global}
use Rattle.cx_plain_language.specs.declared.unit.PlainFn.{PlainFn}
use Rattle.cx_plain_language.specs.declared.unit.PlainUnit.{PlainUnit}
use Rattle.cx_plain_language.specs.Tree

abbrev pub type_view : {S : Type 0} → rust.Type S → Tree.TypeTree S
type_view (kind.Scalar scalar) = Tree.OfScalar scalar
type_view (kind.Struct of) = Tree.OfStruct of

abbrev pub declared_view : {S : Type 0} → Declared S → Tree.DeclaredTree S
declared_view d = record { type = type_view d.of; passing = d.passing; name = d.name }

abbrev pub returns_view : {S : Type 0} → Returns S → Tree.ReturnsTree S
returns_view returns.Void = Tree.NoResult
returns_view (returns.Gives of passing) = Tree.Result (type_view of) passing

abbrev pub expr_layer : {C S G : Type 0} → Expr-F C S G (Tree.ExprTree C S G) → Tree.ExprTree C S G
expr_layer (layer.Constant scalar value) = Tree.ConstantTree scalar value
expr_layer (layer.Local number) = Tree.LocalTree number
expr_layer (layer.Global global) = Tree.GlobalTree global
expr_layer (layer.Field object of number) = Tree.FieldTree object.value of number
expr_layer (layer.Call callee arguments) = Tree.CallTree callee (Tree.exprs arguments.items)
expr_layer (layer.Print operand) = Tree.PrintTree operand.value
expr_layer (layer.Struct of fields) = Tree.StructTree of (Tree.exprs fields.items)
expr_layer (layer.Convert to operand) = Tree.ConvertTree to operand.value
expr_layer (layer.Discard operand) = Tree.DiscardTree operand.value
expr_layer (layer.Temporary operand) = Tree.TemporaryTree operand.value
expr_layer (layer.Unary operator operand) = Tree.UnaryTree operator operand.value
expr_layer (layer.Prefix operator operand) = Tree.PrefixTree operator operand.value
expr_layer (layer.Postfix operator operand) = Tree.PostfixTree operator operand.value
expr_layer (layer.Binary operator left right) = Tree.BinaryTree operator left.value right.value
expr_layer (layer.Compare operator left right) = Tree.CompareTree operator left.value right.value
expr_layer (layer.And left right) = Tree.AndTree left.value right.value
expr_layer (layer.Or left right) = Tree.OrTree left.value right.value
expr_layer (layer.Choice condition first second) = Tree.ChoiceTree condition.value first.value second.value
expr_layer (layer.Assign target value) = Tree.AssignTree target.value value.value
expr_layer (layer.Compound operator target value) = Tree.CompoundTree operator target.value value.value

abbrev pub expr_view : {C S G : Type 0} → Expr C S G → Tree.ExprTree C S G
expr_view {C} {S} {G} = fold-Expr C S G (Tree.ExprTree C S G) expr_layer

abbrev pub stmt_layer : {C L S G : Type 0} → Stmt-F C L S G (Tree.StmtTree C L S G) → Tree.StmtTree C L S G
stmt_layer (statement.Variable number value) = Tree.VariableTree number (expr_view value)
stmt_layer (statement.Expression expr) = Tree.ExpressionTree (expr_view expr)
stmt_layer (statement.If condition first) = Tree.IfTree (expr_view condition) (Tree.stmts first.items)
stmt_layer (statement.IfElse condition first second) = Tree.IfElseTree (expr_view condition) (Tree.stmts first.items) (Tree.stmts second.items)
stmt_layer (statement.Loop label condition after body) = Tree.LoopTree label (expr_view condition) (option_map expr_view after) (Tree.stmts body.items)
stmt_layer (statement.Block body) = Tree.BlockTree (Tree.stmts body.items)
stmt_layer statement.Break = Tree.BreakTree
stmt_layer statement.Continue = Tree.ContinueTree
stmt_layer (statement.Return value) = Tree.ReturnTree (option_map expr_view value)

abbrev pub stmt_view : {C L S G : Type 0} → Stmt C L S G → Tree.StmtTree C L S G
stmt_view {C} {L} {S} {G} = fold-Stmt C L S G (Tree.StmtTree C L S G) stmt_layer

abbrev pub literal_layer : {S : Type 0} → Literal-F S (Tree.LiteralTree S) → Tree.LiteralTree S
literal_layer (constant.Number scalar value) = Tree.NumberLiteral scalar value
literal_layer (constant.Struct of values) = Tree.StructLiteral of (Tree.literals values.items)

abbrev pub literal_view : {S : Type 0} → Literal S → Tree.LiteralTree S
literal_view {S} = fold-Literal S (Tree.LiteralTree S) literal_layer

abbrev pub fn_view : {C L S G : Type 0} → PlainFn C L S G → Tree.FnTree C L S G
fn_view f = record {
  name = f.name;
  returns = returns_view f.returns;
  parameters = map declared_view f.parameters;
  locals = map declared_view f.locals;
  body = Tree.stmts (map stmt_view f.body.items);
}

abbrev pub field_view : Field → Tree.FieldOf
field_view f = record { type = type_view f.of; name = f.name }

abbrev pub struct_view : Struct → Tree.StructOf
struct_view s = record { name = s.name; fields = map field_view s.fields }

abbrev pub global_view : Global → Tree.GlobalOf
global_view g = record { type = type_view g.of; name = g.name; value = literal_view g.value }

abbrev pub unit_view : PlainUnit → Tree.UnitTree
unit_view u = record { structs = map struct_view u.structs; globals = map global_view u.globals; functions = map fn_view u.functions }
