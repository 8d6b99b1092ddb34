use Rattle.std.proofs.Common.{◌≡◌, codes, map, sym, ◌∙◌, arith}
use Rattle.cx_tree.specs.Trees.{expr_tree}
use Rattle.cx_grammar.specs.Words.{punct}
use Rattle.cx_grammar.specs.Expressions.{more_expr}
use Rattle.cx_spots.specs.Spots.{context_of, left_at, at}
use Rattle.cx_spots.proofs.Repeats.{repeat_begins, repeat_more}
use Rattle.cx_parse_expr.proofs.lists.more_exprs.Goals as goal

pub exprs-init : goal.exprs-init
exprs-init g c = record {
  so_far = repeat_begins (punct (codes ",")) (more_expr (at (context_of c.args.context)) (context_of c.args.context)) (map expr_tree c.args.so_far.items, c.args.spot.next) (left_at c.args.spot);
  numbers = omega arith;
  weights = omega arith;
}

pub exprs-preserved : goal.exprs-preserved
exprs-preserved g c = record {
  so_far = repeat_more (punct (codes ",")) (more_expr (at (context_of c.args.context)) (context_of c.args.context)) c.exprs.invariant.so_far.0 (map expr_tree c.exprs.exprs.items, c.exprs.spot.next) (map expr_tree c.in_ok-more.more.items, c.in_ok-more.behind.next) (left_at c.exprs.spot) (left_at c.in_ok-more.behind) _ c.exprs.invariant.so_far.1 (sym c.begins.ensures ∙ c.exprs-test.true) c.in_ok-more.ensures.exact (omega (arith, c.in_ok-more.ensures.lightens.0, c.in_ok-more.ensures.lightens.1)) c.exprs.invariant.so_far.2;
  numbers = omega (arith, c.in_ok-more.ensures.lightens.0);
  weights = omega (arith, c.in_ok-more.ensures.lightens.1);
}
