use Rattle.std.proofs.Common.{sym}
use Rattle.std.proofs.lemmas.Str.{IsCharBoundary-start}
use Rattle.cx_lexer.proofs.PlaceLemmas.{place_at-start}
use Rattle.cx_lexer.proofs.cursor.Cursor.new.Goals as goal

pub invariant_of-result : goal.invariant_of-result
invariant_of-result c = record {
  short = c.requires;
  boundary = IsCharBoundary-start c.args.src.now c.utf8.src;
  here = sym (place_at-start c.args.src.now);
}
