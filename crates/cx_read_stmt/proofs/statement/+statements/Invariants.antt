use Rattle.std.proofs.Common.{◌≡◌, map, Err, ℕ, ◌+◌, ◌-◌, ◌*◌, ◌<◌, ◌≤◌, length}
use Rattle.cx_syntax.specs.Productions.{read_closed}
use Rattle.cx_productions.specs.StatementTrees.{StmtTree}
use Rattle.std.specs.Option.{option_map}
use Rattle.cx_trees.specs.Views.{expr_tree}
use Rattle.cx_productions.specs.Units.{statement_levels}
use Rattle.cx_productions.specs.Statements as statements
use Rattle.cx_statement_trees.specs.StatementViews.{stmt_tree}
use Rattle.cx_syntax.specs.Combinators.{in_scope, one_more_item}
use Rattle.cx_syntax.specs.Contexts.{deeper}
use Rattle.cx_cursor.specs.Reads.{Reads}
use Rattle.std.proofs.Common.{[]}
use Rattle.cx_tokens.specs.declared.punctuator.Punctuator.TheVariants as punctuator
use Rattle.cx_syntax.specs.Classes.{punct, any_but}
use Rattle.cx_syntax.specs.Productions.{repeat}
use Rattle.cx_read_stmt.specs.Parts.{all_stmts}
use Rattle.cx_read_stmt.proofs.statement.+statements.Given as goal

-- how many levels are left, then how many calls may follow at the same level
abbrev measure : ℕ → ℕ → ℕ
measure depth rank = 16 * depth + rank

abbrev pub decreases-alternative : goal.decreases-alternative
decreases-alternative l = measure l.depth 8

abbrev pub decreases-block : goal.decreases-block
decreases-block l = measure l.depth 10

abbrev pub decreases-for_parts : goal.decreases-for_parts
decreases-for_parts l = measure l.depth 9

abbrev pub decreases-for_stmt : goal.decreases-for_stmt
decreases-for_stmt l = measure l.depth 10

abbrev pub decreases-if_stmt : goal.decreases-if_stmt
decreases-if_stmt l = measure l.depth 10

abbrev pub decreases-nested : goal.decreases-nested
decreases-nested l = measure l.depth 0

abbrev pub decreases-one_more : goal.decreases-one_more
decreases-one_more l = measure l.depth 6

abbrev pub decreases-scoped_statements : goal.decreases-scoped_statements
decreases-scoped_statements l = measure l.depth 8

abbrev pub decreases-statements : goal.decreases-statements
decreases-statements l = measure l.depth 7

abbrev pub decreases-stmt : goal.decreases-stmt
decreases-stmt l = measure l.depth 12

abbrev pub decreases-substatement : goal.decreases-substatement
decreases-substatement l = measure l.depth 6

abbrev pub decreases-while_stmt : goal.decreases-while_stmt
decreases-while_stmt l = measure l.depth 10

-- what is left to read is what was to be read
abbrev pub invariant-statements-turns : goal.invariant-statements-turns
invariant-statements-turns l =
    (repeat (λ so_far. any_but (punct punctuator.RightBrace)) (one_more_item (statement_levels l.depth (deeper l.context))) (all_stmts l.all)).read l.cursor
    ≡ (repeat (λ so_far. any_but (punct punctuator.RightBrace)) (one_more_item (statement_levels l.depth (deeper l.context))) []).read l.initial.cursor

abbrev pub decreases-statements-turns : goal.decreases-statements-turns
decreases-statements-turns l = length l.cursor.left
