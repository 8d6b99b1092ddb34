use Rattle.cx_production_laws.proofs.NodeLaws.{nodes_of_expr, nodes_of_type, nodes_of_clause}
use Rattle.cx_production_laws.proofs.numbers.numbers_of_expressions.Goals as goal

pub returns : goal.returns
returns c = record { expressions = nodes_of_expr; types = nodes_of_type; clauses = nodes_of_clause }
