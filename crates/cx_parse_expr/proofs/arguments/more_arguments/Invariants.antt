use Rattle.std.proofs.Common.{◌≡◌, ℕ, suc, ◌≤◌, length, map, codes}
use Rattle.cx_tree.specs.Trees.{argument_tree}
use Rattle.cx_grammar.specs.Production.{times, repeat}
use Rattle.cx_grammar.specs.Words.{punct}
use Rattle.cx_grammar.specs.Types.{more_argument}
use Rattle.cx_spots.specs.Spots.{at, context_of, left_at, weight}
use Rattle.cx_parse_expr.proofs.arguments.more_arguments.Given as goal

abbrev pub invariant-arguments : goal.invariant-arguments
invariant-arguments g l = record {
  so_far : (n : ℕ) × (length (left_at l.spot) ≤ n) × ((times (suc n) (punct (codes ",")) (more_argument (at (context_of l.context)) (context_of l.context)) (map argument_tree l.arguments.items, l.spot.next)).read 256 (left_at l.spot) ≡ (repeat (punct (codes ",")) (more_argument (at (context_of l.context)) (context_of l.context)) (map argument_tree l.initial.arguments.items, l.initial.spot.next)).read 256 (left_at l.initial.spot));
  numbers : l.initial.spot.next ≤ l.spot.next;
  weights : weight l.spot ≤ weight l.initial.spot;
}

abbrev pub decreases-arguments : goal.decreases-arguments
decreases-arguments g l = length (left_at l.spot)
