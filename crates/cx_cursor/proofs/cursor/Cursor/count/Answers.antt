use Rattle.std.proofs.Common.{Bool, Ok, Err, ap, sym, ◌∙◌, if◌then◌else◌}
use Rattle.std.specs.Option.{option_map}
use Rattle.cx_syntax.specs.States.{State}
use Rattle.cx_syntax.specs.declared.stopped.Stopped.TheVariants as stopped
use Rattle.cx_cursor.specs.Pieces.{piece_tree}
use Rattle.cx_cursor.proofs.Heads.{counted_some, fits_none, fits_some}
use Rattle.cx_cursor.proofs.cursor.Cursor.count.Goals as goal

pub returns-then-context-eq0 : goal.returns-then-context-eq0
returns-then-context-eq0 c n =
    counted_some c.args.context (piece_tree c.args.piece) c.args.self.now c.args.self.now.left _ (sym (ap (option_map piece_tree) c.in-Some.is) ∙ c.peek.ensures)
    ∙ ap (λ (b : Bool). if b then Ok (tt, c.args.self.now) else Err (stopped.Deep c.args.piece.token.at))
    (fits_none c.args.context c.args.self.now (sym (ap (λ (s : State). s.free) c.self.view_is)) c.if-context-eq0.true)

pub returns : goal.returns
returns c n =
    counted_some c.args.context (piece_tree c.args.piece) c.args.self.now c.args.self.now.left _ (sym (ap (option_map piece_tree) c.in-Some.is) ∙ c.peek.ensures)
    ∙ ap (λ (b : Bool). if b then Ok (tt, c.args.self.now) else Err (stopped.Deep c.args.piece.token.at)) (fits_some c.args.context c.args.self.now c.if-context-eq0.false)
