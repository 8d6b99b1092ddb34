-- How the logic stores a table.
use Rattle.std.specs.Prelude.{List, refl}
use Rattle.std.specs.Coded.{Coded, code_by, coded×, coded_list}
use Rattle.cx_term.specs.Term.{Term}
use Rattle.cx_term.specs.TermCode.{term_code}
use Rattle.cx_term.specs.Table.{Table}

abbrev pub table_code : Coded Table
table_code =
    code_by (List Term × List (List Term)) (coded× (coded_list term_code) (coded_list (coded_list term_code))) (λ t. (t.trees, t.lists)) (λ p. record { trees = p.0; lists = p.1 }) (λ _. refl)
