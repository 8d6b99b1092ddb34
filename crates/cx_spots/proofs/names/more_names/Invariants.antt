use Rattle.std.proofs.Common.{◌≡◌, ℕ, suc, ◌≤◌, length, codes}
use Rattle.cx_tree.specs.Trees.{texts}
use Rattle.cx_grammar.specs.Production.{times, repeat}
use Rattle.cx_grammar.specs.Words.{punct}
use Rattle.cx_grammar.specs.Types.{more_name}
use Rattle.cx_spots.specs.Spots.{context_of, left_at, weight}
use Rattle.cx_spots.proofs.names.more_names.Given as goal

abbrev pub invariant-names : goal.invariant-names
invariant-names l = record {
  so_far : (n : ℕ) × (length (left_at l.spot) ≤ n) × ((times (suc n) (punct (codes "::")) (more_name (context_of l.context)) (texts l.names.items)).read 256 (left_at l.spot) ≡ (repeat (punct (codes "::")) (more_name (context_of l.context)) (texts l.initial.names.items)).read 256 (left_at l.initial.spot));
  numbers : l.spot.next ≡ l.initial.spot.next;
  weights : weight l.spot ≤ weight l.initial.spot;
}

abbrev pub decreases-names : goal.decreases-names
decreases-names l = length (left_at l.spot)
