use Rattle.cx_production_laws.proofs.WholeLaws.{whole_expr, whole_type, whole_argument, whole_clause, whole_stmt, whole_decl, whole_unit}
use Rattle.cx_production_laws.proofs.tokens.whole_tokens.Goals as goal

pub returns : goal.returns
returns c = record { expressions = whole_expr; types = whole_type; arguments = whole_argument; clauses = whole_clause; statements = whole_stmt; declarations = whole_decl; units = whole_unit }
