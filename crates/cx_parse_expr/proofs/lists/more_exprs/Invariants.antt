use Rattle.std.proofs.Common.{◌≡◌, ℕ, suc, ◌≤◌, length, map, codes}
use Rattle.cx_tree.specs.Trees.{expr_tree}
use Rattle.cx_grammar.specs.Production.{times, repeat}
use Rattle.cx_grammar.specs.Words.{punct}
use Rattle.cx_grammar.specs.Expressions.{more_expr}
use Rattle.cx_spots.specs.Spots.{at, context_of, left_at, weight}
use Rattle.cx_parse_expr.proofs.lists.more_exprs.Given as goal

abbrev pub invariant-exprs : goal.invariant-exprs
invariant-exprs g l = record {
  so_far : (n : ℕ) × (length (left_at l.spot) ≤ n) × ((times (suc n) (punct (codes ",")) (more_expr (at (context_of l.context)) (context_of l.context)) (map expr_tree l.exprs.items, l.spot.next)).read 256 (left_at l.spot) ≡ (repeat (punct (codes ",")) (more_expr (at (context_of l.context)) (context_of l.context)) (map expr_tree l.initial.exprs.items, l.initial.spot.next)).read 256 (left_at l.initial.spot));
  numbers : l.initial.spot.next ≤ l.spot.next;
  weights : weight l.spot ≤ weight l.initial.spot;
}

abbrev pub decreases-exprs : goal.decreases-exprs
decreases-exprs g l = length (left_at l.spot)
