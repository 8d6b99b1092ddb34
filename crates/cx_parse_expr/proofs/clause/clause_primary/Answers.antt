use Rattle.std.proofs.Common.{sym, subst, arith}
use Rattle.cx_tree.specs.Trees.{expr_tree}
use Rattle.cx_grammar.specs.Types.{Below}
use Rattle.cx_spots.specs.Spots.{ReadsNode, context_of}
use Rattle.cx_parse_expr.proofs.Knot.{knot}
use Rattle.cx_parse_expr.proofs.clause.clause_primary.Goals as goal

pub returns-clause-exact : goal.returns-clause-exact
returns-clause-exact c = subst (λ (b : Below). ReadsNode expr_tree (b.clause_primary (context_of c.args.context)) c.args.spot c.clause_primary_here.result) (sym (knot (context_of c.args.context) (omega (arith, c.requires.load)))) c.clause_primary_here.ensures.exact
