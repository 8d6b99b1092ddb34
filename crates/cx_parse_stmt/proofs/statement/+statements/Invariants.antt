use Rattle.std.proofs.Common.{◌≡◌, ℕ, suc, ◌+◌, ◌*◌, ◌-◌, ◌≤◌, [], length, map, codes}
use Rattle.cx_statements.specs.StatementViews.{stmt_tree}
use Rattle.cx_scope.specs.Frames.{left}
use Rattle.cx_grammar.specs.Production.{times, repeat}
use Rattle.cx_grammar.specs.Names.{inside}
use Rattle.cx_grammar.specs.Requires.{is_not_closing}
use Rattle.cx_grammar.specs.Statements.{more_stmt}
use Rattle.cx_spots.specs.Spots.{left_at, weight}
use Rattle.cx_parse_stmt.specs.Within.{standing, opened}
use Rattle.cx_parse_stmt.proofs.statement.+statements.Given as goal

-- how far the load is from its end, then how many calls may follow at the same load
abbrev measure : ℕ → ℕ → ℕ
measure load rank = 64 * (264 - load) + rank

abbrev pub decreases-statement : goal.decreases-statement
decreases-statement l = measure l.load 10

abbrev pub decreases-bare_stmt : goal.decreases-bare_stmt
decreases-bare_stmt l = measure l.load 9

abbrev pub decreases-worded_stmt : goal.decreases-worded_stmt
decreases-worded_stmt l = measure l.load 8

abbrev pub decreases-open_or_holding_stmt : goal.decreases-open_or_holding_stmt
decreases-open_or_holding_stmt l = measure l.load 7

abbrev pub decreases-block : goal.decreases-block
decreases-block l = measure l.load 6

abbrev pub decreases-if_stmt : goal.decreases-if_stmt
decreases-if_stmt l = measure l.load 6

abbrev pub decreases-while_stmt : goal.decreases-while_stmt
decreases-while_stmt l = measure l.load 6

abbrev pub decreases-for_stmt : goal.decreases-for_stmt
decreases-for_stmt l = measure l.load 6

abbrev pub decreases-alternative : goal.decreases-alternative
decreases-alternative l = measure l.load 5

abbrev pub decreases-statement_seq : goal.decreases-statement_seq
decreases-statement_seq l = measure l.load 5

abbrev pub decreases-more_stmt : goal.decreases-more_stmt
decreases-more_stmt l = measure l.load 4

abbrev pub decreases-substatement : goal.decreases-substatement
decreases-substatement l = measure l.load 4

abbrev pub invariant-statement_seq-statements : goal.invariant-statement_seq-statements
invariant-statement_seq-statements l = record {
  so_far : (n : ℕ) × (length (left_at l.spot) ≤ n) × ((times (suc n) is_not_closing (more_stmt (opened l.load) (inside (standing (left l.initial.scope) l.load))) (map stmt_tree l.all.items, l.spot.next, l.scope)).read 256 (left_at l.spot) ≡ (repeat is_not_closing (more_stmt (opened l.load) (inside (standing (left l.initial.scope) l.load))) ([], l.initial.spot.next, l.initial.scope)).read 256 (left_at l.initial.spot));
  outer : left l.scope ≡ left l.initial.scope;
  depth : length l.scope ≡ length l.initial.scope;
  numbers : l.initial.spot.next ≤ l.spot.next;
  weights : weight l.spot ≤ weight l.initial.spot;
}

abbrev pub decreases-statement_seq-statements : goal.decreases-statement_seq-statements
decreases-statement_seq-statements l = length (left_at l.spot)
