use Rattle.cx_production_laws.proofs.WholeLaws.{bounds_expr, bounds_type, bounds_argument, bounds_clause, bounds_stmt, bounds_decl, bounds_unit}
use Rattle.cx_production_laws.proofs.tokens.bounds_of_numbers.Goals as goal

pub returns : goal.returns
returns c = record { expressions = bounds_expr; types = bounds_type; arguments = bounds_argument; clauses = bounds_clause; statements = bounds_stmt; declarations = bounds_decl; units = bounds_unit }
