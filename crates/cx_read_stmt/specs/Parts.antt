-- What lists of statements stand for.
use Rattle.std.specs.Prelude.{List, map}
use Rattle.std.specs.declared.alloc.Global.{Global}
use Rattle.std.specs.declared.vec.Vec.{Vec}
use Rattle.cx_productions.specs.StatementTrees.{StmtTree}
use Rattle.cx_statement_trees.specs.declared.statement.Stmt.{Stmt}
use Rattle.cx_statement_trees.specs.StatementViews.{stmt_tree}

abbrev pub all_stmts : Vec Stmt Global → List StmtTree
all_stmts v = map stmt_tree v.items
