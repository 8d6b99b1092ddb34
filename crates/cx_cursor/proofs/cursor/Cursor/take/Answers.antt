use Rattle.std.proofs.Common.{◌≡◌, false, true, Some, Ok, Err, ap, sym, subst, ◌∙◌}
use Rattle.std.specs.Option.{option_map}
use Rattle.cx_syntax.specs.States.{State}
use Rattle.cx_cursor.specs.Classes.{meaning}
use Rattle.cx_cursor.specs.Pieces.{piece_tree, head_piece}
use Rattle.cx_cursor.specs.States.{state_of}
use Rattle.cx_cursor.proofs.Heads.{token_misfit, token_deep, token_taken, fits_none, fits_some}
use Rattle.cx_cursor.proofs.cursor.Cursor.take.Goals as goal

pub returns-then-not-is : goal.returns-then-not-is
returns-then-not-is c n =
    let first : Some (piece_tree c.in-Some.piece) ≡ head_piece c.args.self.now.left = sym (ap (option_map piece_tree) c.in-Some.is) ∙ c.peek.ensures in
    let other : meaning c.args.class (state_of c.self.inside).names (piece_tree c.in-Some.piece) ≡ false = sym c.is.ensures ∙ c.if-not-is.true in
    token_misfit c.args.context (meaning c.args.class) c.args.self.now c.args.self.now.left (piece_tree c.in-Some.piece) first (subst (λ (s : State). meaning c.args.class s.names (piece_tree c.in-Some.piece) ≡ false) c.self.view_is other) ∙ ap Err (sym c.misfit.ensures)

pub returns-then-context-eq0 : goal.returns-then-context-eq0
returns-then-context-eq0 c n =
    let first : Some (piece_tree c.in-Some.piece) ≡ head_piece c.args.self.now.left = sym (ap (option_map piece_tree) c.in-Some.is) ∙ c.peek.ensures in
    let this : meaning c.args.class (state_of c.self.inside).names (piece_tree c.in-Some.piece) ≡ true = sym c.is.ensures ∙ c.if-not-is.false in
    token_deep c.args.context (meaning c.args.class) c.args.self.now c.args.self.now.left (piece_tree c.in-Some.piece) first (subst (λ (s : State). meaning c.args.class s.names (piece_tree c.in-Some.piece) ≡ true) c.self.view_is this)
    (fits_none c.args.context c.args.self.now (sym (ap (λ (s : State). s.free) c.self.view_is)) c.if-context-eq0.true)

pub returns : goal.returns
returns c n =
    let first : Some (piece_tree c.in-Some.piece) ≡ head_piece c.args.self.now.left = sym (ap (option_map piece_tree) c.in-Some.is) ∙ c.peek.ensures in
    let this : meaning c.args.class (state_of c.self.inside).names (piece_tree c.in-Some.piece) ≡ true = sym c.is.ensures ∙ c.if-not-is.false in
    token_taken c.args.context (meaning c.args.class) c.args.self.now c.args.self.now.left (piece_tree c.in-Some.piece) first (subst (λ (s : State). meaning c.args.class s.names (piece_tree c.in-Some.piece) ≡ true) c.self.view_is this)
    (fits_some c.args.context c.args.self.now c.if-context-eq0.false)
    ∙ ap (λ (s : State). Ok (piece_tree c.in-Some.piece, s)) (sym c.advance.ensures)
