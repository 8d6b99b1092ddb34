use Rattle.std.proofs.Common.{◌≡◌, codes, map, sym, ◌∙◌, arith}
use Rattle.cx_tree.specs.Trees.{argument_tree}
use Rattle.cx_grammar.specs.Words.{punct}
use Rattle.cx_grammar.specs.Types.{more_argument}
use Rattle.cx_spots.specs.Spots.{context_of, left_at, at}
use Rattle.cx_spots.proofs.Repeats.{repeat_begins, repeat_more}
use Rattle.cx_parse_expr.proofs.arguments.more_arguments.Goals as goal

pub arguments-init : goal.arguments-init
arguments-init g c = record {
  so_far = repeat_begins (punct (codes ",")) (more_argument (at (context_of c.args.context)) (context_of c.args.context)) (map argument_tree c.args.so_far.items, c.args.spot.next) (left_at c.args.spot);
  numbers = omega arith;
  weights = omega arith;
}

pub arguments-preserved : goal.arguments-preserved
arguments-preserved g c = record {
  so_far = repeat_more (punct (codes ",")) (more_argument (at (context_of c.args.context)) (context_of c.args.context)) c.arguments.invariant.so_far.0 (map argument_tree c.arguments.arguments.items, c.arguments.spot.next) (map argument_tree c.in_ok-more.more.items, c.in_ok-more.behind.next) (left_at c.arguments.spot) (left_at c.in_ok-more.behind) _ c.arguments.invariant.so_far.1 (sym c.begins.ensures ∙ c.arguments-test.true) c.in_ok-more.ensures.exact (omega (arith, c.in_ok-more.ensures.lightens.0, c.in_ok-more.ensures.lightens.1)) c.arguments.invariant.so_far.2;
  numbers = omega (arith, c.in_ok-more.ensures.lightens.0);
  weights = omega (arith, c.in_ok-more.ensures.lightens.1);
}
