-- The nodes of a unit are numbered from 0 on, since they are those of a unit of declarations.
use Rattle.std.proofs.Common.{length-append, ◌*◌, ◌≤◌, Bool, true, false, List, [], ◌∷◌, length, if◌then◌else◌, arith}
use Rattle.cx_lexer.specs.Tokens.{TokenTree}
use Rattle.cx_tree.specs.Declarations.{UnitTree}
use Rattle.cx_tree.specs.Nodes.{IsNumberedFrom}
use Rattle.cx_tree.specs.UnitNodes.{unit_nodes}
use Rattle.cx_grammar.specs.Pieces.{Piece, First, Second, All, as_piece, is_double, halves, pieces}
use Rattle.cx_grammar.specs.Expressions.{no_requires}
use Rattle.cx_grammar.specs.Laws.{IsTree}
use Rattle.cx_grammar_laws.proofs.NodeLaws.{unit_numbers}
use Rattle.cx_parse_decl.specs.Units.{units}
use Rattle.cx_parse_decl.proofs.Whole.{read_units, read_unit}

two_at_most : (b : Bool) (t : TokenTree) → length (if b then as_piece t First ∷ as_piece t Second ∷ [] else as_piece t All ∷ []) ≤ 2
two_at_most true t = omega arith
two_at_most false t = omega arith

-- a token has two pieces at most
pub length-pieces : (ts : List TokenTree) → length (pieces ts) ≤ 2 * length ts
length-pieces [] = omega arith
length-pieces (t ∷ ts) =
    let e = length-append (halves t) (pieces ts) in
    omega (arith, length-pieces ts, two_at_most (is_double t) t, e)

read_tree : (ts : List Piece) (u : UnitTree) → IsTree units ts u → IsTree read_units ts u
read_tree ts u (limit, t) = (limit, read_unit limit ts u t)

pub unit_numbered : (ts : List Piece) (u : UnitTree) → IsTree units ts u → IsNumberedFrom 0 (unit_nodes u)
unit_numbered ts u t = (unit_numbers no_requires).numbered ts u (read_tree ts u t)

pub unit_few : (ts : List TokenTree) (u : UnitTree) → IsTree units (pieces ts) u → length (unit_nodes u) ≤ 16 * length ts
unit_few ts u t = (unit_numbers no_requires).for_tokens ts u (read_tree (pieces ts) u t)
