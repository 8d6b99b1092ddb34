use Rattle.std.proofs.Common.{List, length, map, ap, arith}
use Rattle.cx_statements.specs.declared.declaration.Decl.{Decl}
use Rattle.cx_statements.specs.DeclarationViews.{decl_tree}
use Rattle.cx_grammar.specs.Expressions.{no_requires}
use Rattle.cx_grammar.specs.Declarations.{is_not_end}
use Rattle.cx_grammar.specs.Declarations.{unit_levels}
use Rattle.cx_spots.specs.Spots.{left_at}
use Rattle.cx_spots.proofs.Repeats.{repeat_more}
use Rattle.cx_parse_decl.specs.Functions.{more_function, outermost}
use Rattle.cx_parse_decl.specs.Units.{depth}
use Rattle.cx_parse_decl.proofs.Parsing.{functions_start, goes_on}
use Rattle.cx_parse_decl.proofs.unit.functions.Goals as goal

pub functions-init : goal.functions-init
functions-init c = record {
  so_far = functions_start (map decl_tree c.new-functions.result.items) c.args.spot.next c.args.scope.now (left_at c.args.spot) (ap (λ (z : List Decl). map decl_tree z) c.new-functions.ensures.items);
  weights = omega arith;
  counts = let e = ap (λ (z : List Decl). length z) c.new-functions.ensures.items in omega (arith, e);
  scope = c.requires.scope;
}

pub functions-preserved : goal.functions-preserved
functions-preserved c = record {
  so_far = repeat_more is_not_end (more_function (unit_levels no_requires depth) outermost) c.functions.invariant.so_far.0 (map decl_tree c.functions.functions.items, c.functions.spot.next, c.functions.scope) (map decl_tree c.in_ok-more.more.items, c.in_ok-more.behind.next, c.one_more.new.scope) (left_at c.functions.spot) (left_at c.in_ok-more.behind) _ c.functions.invariant.so_far.1 (goes_on _ _ c.is_end.ensures.same c.functions-test.true) c.in_ok-more.ensures.exact (omega (arith, c.in_ok-more.ensures.lightens.0, c.in_ok-more.ensures.lightens.1)) c.functions.invariant.so_far.2;
  weights = omega (arith, c.in_ok-more.ensures.lightens.1, c.functions.invariant.weights);
  counts = omega (arith, c.in_ok-more.ensures.counts.0, c.in_ok-more.ensures.counts.1, c.functions.invariant.counts);
  scope = c.in_ok-more.ensures.scope;
}
