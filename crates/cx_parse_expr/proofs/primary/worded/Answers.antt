use Rattle.std.proofs.Common.{sym, ◌∙◌}
use Rattle.cx_spots.specs.Spots.{context_of, left_at, piece_tree}
use Rattle.cx_parse_expr.proofs.Unread.{worded_stops}
use Rattle.cx_parse_expr.proofs.primary.worded.Goals as goal

pub returns-then-begins-5-clause-exact : goal.returns-then-begins-5-clause-exact
returns-then-begins-5-clause-exact g c =
    worded_stops (context_of c.args.context) c.args.spot.next c.unsupported.result (piece_tree c.piece.result) (left_at c.args.spot)
    (sym c.begins.ensures ∙ c.if-begins.false) (sym c.begins-2.ensures ∙ c.if-begins-2.false) (sym c.begins-3.ensures ∙ c.if-begins-3.false) (sym c.begins-4.ensures ∙ c.if-begins-4.false)
    (sym c.begins-5.ensures ∙ c.if-begins-5.true) c.piece.ensures.first c.unsupported.ensures
