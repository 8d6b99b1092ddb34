use Rattle.std.proofs.Common.{sym, subst, arith}
use Rattle.cx_statements.specs.StatementViews.{stmt_tree}
use Rattle.cx_grammar.specs.Statements.{Within, block}
use Rattle.cx_spots.specs.Spots.{ReadsNode}
use Rattle.cx_parse_stmt.specs.Within.{standing}
use Rattle.cx_parse_stmt.proofs.Knot.{levels_opened}
use Rattle.cx_parse_stmt.proofs.calls.read_block.Goals as goal

pub returns-clause-exact : goal.returns-clause-exact
returns-clause-exact c = subst (λ (b : Within). ReadsNode stmt_tree (block b (standing c.args.scope.now c.args.load)) c.args.spot c.block.result) (sym (levels_opened c.args.load (omega (arith, c.requires.load)))) c.block.ensures.exact
