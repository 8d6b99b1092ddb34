use Rattle.std.proofs.Common.{◌≡◌, length}
use Rattle.cx_syntax.specs.Productions.{repeat}
use Rattle.cx_productions.specs.Declarations.{free_specifier, one_more_specifier}
use Rattle.cx_statement_trees.specs.DeclarationViews as views
use Rattle.cx_read_decl.proofs.specifiers.specifiers.Given as goal

-- what is left to read is what was to be read
abbrev pub invariant-turns : goal.invariant-turns
invariant-turns l =
    (repeat free_specifier (one_more_specifier l.context) (views.specifiers l.all)).read l.cursor
    ≡ (repeat free_specifier (one_more_specifier l.context) (views.specifiers l.fn.first)).read l.fn.cursor

abbrev pub decreases-turns : goal.decreases-turns
decreases-turns l = length l.cursor.left
