use Rattle.cx_syntax.specs.Classes.{literal}
use Rattle.cx_syntax.specs.Productions.{token}
use Rattle.cx_syntax_laws.proofs.Tokens.{lawful_token}
use Rattle.cx_cursor.specs.Pieces.{piece_tree}
use Rattle.cx_read_expr.proofs.Loops.{has_read}
use Rattle.std.proofs.Common.{false}
use Rattle.cx_read_expr.proofs.primaries.int_literal.Goals as goal

pub literal-scalar-requires : goal.literal-scalar-requires
unfolding literal
literal-scalar-requires c =
    let whole = (lawful_token c.args.context literal false).basic.sound c.args.cursor.now c.take.new.self (piece_tree c.in_ok-literal.literal)
    (has_read piece_tree (token c.args.context literal) c.args.cursor.now c.take.new.self c.take.result c.in_ok-literal.literal c.take.ensures c.in_ok-literal.was) in
    whole.2
