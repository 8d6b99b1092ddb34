-- The productions within which others stand again, one construct deeper.
use Rattle.std.specs.Prelude.{ℕ}
use Rattle.cx_syntax.specs.declared.context.Context.{Context}
use Rattle.cx_syntax.specs.Productions.{Production}
use Rattle.cx_productions.specs.Trees.{ExprTree, ArgumentTree}

-- Expressions of a level of precedence, and template arguments.
pub record Below : Type 1 where
  pub expr : (level : ℕ) → Context → Production ExprTree
  pub argument : Context → Production ArgumentTree
