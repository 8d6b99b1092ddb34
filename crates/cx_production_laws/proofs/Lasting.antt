-- The laws of the grammar's productions, from what holds of each at each level.
use Rattle.std.proofs.Common.{◌≤◌, ℕ, suc, arith}
use Rattle.cx_syntax.specs.declared.context.Context.{Context}
use Rattle.cx_productions.specs.Levels.{levels}
use Rattle.cx_productions.specs.Types.{type_id}
use Rattle.cx_productions.specs.Expressions.{expr}
use Rattle.cx_productions.specs.Arguments.{argument}
use Rattle.cx_productions.specs.Clauses.{clause}
use Rattle.cx_productions.specs.Statements.{stmt}
use Rattle.cx_productions.specs.Declarations.{decl}
use Rattle.cx_productions.specs.Units.{unit_levels, unit}
use Rattle.cx_syntax_laws.specs.GrammarLaws.{GrammarLaws}
use Rattle.cx_syntax_laws.proofs.Room.{Enough}
use Rattle.cx_syntax_laws.proofs.Answers.{grammar_laws}
use Rattle.cx_production_laws.proofs.TypeLaws.{lawful_type}
use Rattle.cx_production_laws.proofs.ExpressionLaws.{lower_levels, lawful_expr, lawful_argument, lawful_clause}
use Rattle.cx_production_laws.proofs.GrowLaws.{rising_levels, grows_type, grows_expr, grows_argument, grows_clause}
use Rattle.cx_production_laws.proofs.FirmLaws.{lasts_levels, firm_type, firm_expr, firm_argument, firm_clause}
use Rattle.cx_production_laws.proofs.StatementLaws.{within_levels, lawful_stmt}
use Rattle.cx_production_laws.proofs.DeclarationLaws.{lawful_decl, lawful_unit}
use Rattle.cx_production_laws.proofs.UnitGrows.{within_rising, grows_stmt, grows_decl, grows_unit}
use Rattle.cx_production_laws.proofs.UnitFirm.{within_lasts, firm_stmt, firm_decl, firm_unit}

pub room_enough : {n : ℕ} {c : Context} → c.room ≤ n → Enough (suc n) c
room_enough e = record { enough = omega arith }

pub laws_of_expr : (level : ℕ) (c : Context) → GrammarLaws c.room (λ n. expr (levels n) level c)
laws_of_expr level c = grammar_laws (record {
  lawful = λ n. lawful_expr (lower_levels n) level c;
  grows = λ n. grows_expr (rising_levels n) level c;
  firm = λ n e. firm_expr (lower_levels n) (lasts_levels n) level c (room_enough e);
})

pub laws_of_type : (c : Context) → GrammarLaws c.room (λ n. type_id (levels n) c)
laws_of_type c = grammar_laws (record {
  lawful = λ n. lawful_type (lower_levels n) c;
  grows = λ n. grows_type (rising_levels n) c;
  firm = λ n e. firm_type (lower_levels n) (lasts_levels n) c (room_enough e);
})

pub laws_of_argument : (c : Context) → GrammarLaws c.room (λ n. argument (levels n) c)
laws_of_argument c = grammar_laws (record {
  lawful = λ n. lawful_argument (lower_levels n) c;
  grows = λ n. grows_argument (rising_levels n) c;
  firm = λ n e. firm_argument (lower_levels n) (lasts_levels n) c (room_enough e);
})

pub laws_of_clause : (c : Context) → GrammarLaws c.room (λ n. clause (levels n) c)
laws_of_clause c = grammar_laws (record {
  lawful = λ n. lawful_clause (lower_levels n) c;
  grows = λ n. grows_clause (rising_levels n) c;
  firm = λ n e. firm_clause (lower_levels n) (lasts_levels n) c (room_enough e);
})

pub laws_of_stmt : (c : Context) → GrammarLaws c.room (λ n. stmt (unit_levels n) c)
laws_of_stmt c = grammar_laws (record {
  lawful = λ n. lawful_stmt (within_levels n) c;
  grows = λ n. grows_stmt (within_rising n) c;
  firm = λ n e. firm_stmt (within_levels n) (within_lasts n) c (room_enough e);
})

pub laws_of_decl : (c : Context) → GrammarLaws c.room (λ n. decl (unit_levels n) c)
laws_of_decl c = grammar_laws (record {
  lawful = λ n. lawful_decl (within_levels n) c;
  grows = λ n. grows_decl (within_rising n) c;
  firm = λ n e. firm_decl (within_levels n) (within_lasts n) c (room_enough e);
})

pub laws_of_unit : (c : Context) → GrammarLaws c.room (λ n. unit (unit_levels n) c)
laws_of_unit c = grammar_laws (record {
  lawful = λ n. lawful_unit (within_levels n) c;
  grows = λ n. grows_unit (within_rising n) c;
  firm = λ n e. firm_unit (within_levels n) (within_lasts n) c (room_enough e);
})
