use Rattle.std.proofs.Common.{◌≡◌, ◌≤◌, Ok}
use Rattle.cx_tree.specs.Trees.{expr_tree}
use Rattle.cx_grammar.specs.Expressions.{rests}
use Rattle.cx_spots.specs.Spots.{below, context_of, left_at, weight}
use Rattle.cx_parse_expr.proofs.binary.rests.Given as goal

abbrev pub invariant-levels : goal.invariant-levels
invariant-levels g l = record {
  so_far : (rests (below (context_of l.context)) l.level (context_of l.context) (expr_tree l.initial.left, l.initial.spot.next)).read 256 (left_at l.initial.spot) ≡ Ok ((expr_tree l.left, l.spot.next), left_at l.spot);
  numbers : l.initial.spot.next ≤ l.spot.next;
  weights : weight l.spot ≤ weight l.initial.spot;
}
