use Rattle.std.proofs.Common.{◌≡◌, ℕ, suc, ◌+◌, ◌<◌, ◌≤◌, [], length, map}
use Rattle.cx_statements.specs.DeclarationViews.{decl_tree}
use Rattle.cx_grammar.specs.Expressions.{no_requires}
use Rattle.cx_grammar.specs.Declarations.{is_not_end}
use Rattle.cx_grammar.specs.Declarations.{unit_levels}
use Rattle.cx_grammar.specs.Production.{times, repeat}
use Rattle.cx_spots.specs.Spots.{left_at, weight}
use Rattle.cx_parse_decl.specs.Functions.{more_function, outermost}
use Rattle.cx_parse_decl.specs.Units.{depth}
use Rattle.cx_parse_decl.proofs.unit.functions.Given as goal

abbrev pub invariant-functions : goal.invariant-functions
invariant-functions l = record {
  so_far : (n : ℕ) × (length (left_at l.spot) ≤ n) × ((times (suc n) is_not_end (more_function (unit_levels no_requires depth) outermost) (map decl_tree l.functions.items, l.spot.next, l.scope)).read 256 (left_at l.spot) ≡ (repeat is_not_end (more_function (unit_levels no_requires depth) outermost) ([], l.initial.spot.next, l.initial.scope)).read 256 (left_at l.initial.spot));
  weights : weight l.spot ≤ weight l.initial.spot;
  counts : length l.functions.items + l.initial.spot.next ≤ l.spot.next;
  scope : 0 < length l.scope;
}

abbrev pub decreases-functions : goal.decreases-functions
decreases-functions l = length (left_at l.spot)
