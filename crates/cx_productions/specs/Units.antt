-- The knot of statements, and units ([basic.link]).
use Rattle.std.specs.Prelude.{ℕ, zero, suc}
use Rattle.cx_syntax.specs.declared.context.Context.{Context}
use Rattle.cx_syntax.specs.Contexts.{deeper}
use Rattle.cx_syntax.specs.Productions.{Production, give, ◌>>=◌, token, closed}
use Rattle.cx_syntax.specs.Classes.{end}
use Rattle.cx_syntax.specs.Combinators.{items_until}
use Rattle.cx_productions.specs.StatementTrees.{StmtTree}
use Rattle.cx_productions.specs.DeclarationTrees.{UnitTree}
use Rattle.cx_productions.specs.Levels.{levels}
use Rattle.cx_productions.specs.Statements.{Within, stmt}
use Rattle.cx_productions.specs.Declarations.{decl}

-- A statement, within its own construct, in which constructs are nested so many levels deep at most.
unfoldable pub statement_levels : ℕ → Context → Production StmtTree
statement_levels zero c = closed
statement_levels (suc n) c = stmt (record { base = levels n; stmt = statement_levels n }) c

abbrev pub unit_levels : ℕ → Within
unit_levels n = record { base = levels n; stmt = statement_levels n }

-- unit = { decl } End: each declaration is a construct
unfoldable pub unit : Within → Context → Production UnitTree
unit b c = do
  ds ← items_until end (decl b (deeper c))
  last ← token c end
  give ds
