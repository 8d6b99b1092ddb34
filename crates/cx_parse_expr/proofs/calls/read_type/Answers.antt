use Rattle.std.proofs.Common.{sym, subst, arith}
use Rattle.cx_tree.specs.Trees.{type_tree}
use Rattle.cx_grammar.specs.Types.{Below}
use Rattle.cx_spots.specs.Spots.{ReadsNode, context_of}
use Rattle.cx_parse_expr.proofs.Knot.{knot}
use Rattle.cx_parse_expr.proofs.calls.read_type.Goals as goal

pub returns-clause-asked : goal.returns-clause-asked
returns-clause-asked c = subst (λ (b : Below). ReadsNode type_tree (b.type (context_of c.args.context)) c.args.spot c.type_here.result) (sym (knot (context_of c.args.context) (omega (arith, c.requires.load)))) c.type_here.ensures.exact
