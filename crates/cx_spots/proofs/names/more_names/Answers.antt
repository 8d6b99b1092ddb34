use Rattle.std.proofs.Common.{◌≡◌, ℕ, Bool, true, false, codes, sym, ◌∙◌, arith, rules}
use Rattle.cx_tree.specs.Trees.{texts}
use Rattle.cx_grammar.specs.Words.{punct}
use Rattle.cx_grammar.specs.Types.{more_name}
use Rattle.cx_spots.specs.Spots.{context_of, left_at}
use Rattle.cx_spots.proofs.Repeats.{repeat_begins, repeat_more, repeat_fails, repeat_ends}
use Rattle.cx_spots.proofs.names.more_names.Goals as goal

pub names-init : goal.names-init
names-init c = record {
  so_far = repeat_begins (punct (codes "::")) (more_name (context_of c.args.context)) (texts c.args.so_far.items) (left_at c.args.spot);
  numbers = search rules;
  weights = omega arith;
}

pub names-preserved : goal.names-preserved
names-preserved c = record {
  so_far = repeat_more (punct (codes "::")) (more_name (context_of c.args.context)) c.names.invariant.so_far.0 (texts c.names.names.items) (texts c.in_ok-more.more.items) (left_at c.names.spot) (left_at c.in_ok-more.behind) _ c.names.invariant.so_far.1 (sym c.begins.ensures ∙ c.names-test.true) c.in_ok-more.ensures.exact (omega (arith, c.in_ok-more.ensures.next, c.in_ok-more.ensures.lightens.1)) c.names.invariant.so_far.2;
  numbers = c.in_ok-more.ensures.next ∙ c.names.invariant.numbers;
  weights = omega (arith, c.in_ok-more.ensures.lightens.1);
}
