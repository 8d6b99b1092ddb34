-- Whole tokens, and bounds of numbers, of what is public.
use Rattle.std.proofs.Common.{◌≡◌, ℕ, false, List, [], Ok, ap}
use Rattle.cx_tokens.specs.Tokens.{TokenTree}
use Rattle.cx_tokens.specs.Pieces.{pieces}
use Rattle.cx_syntax.specs.declared.context.Context.{Context}
use Rattle.cx_syntax.specs.declared.context.OpenLists.TheVariants as lists
use Rattle.cx_syntax.specs.Contexts.{is_listed}
use Rattle.cx_syntax.specs.States.{State}
use Rattle.cx_productions.specs.Trees.{ExprTree, TypeTree}
use Rattle.cx_productions.specs.StatementTrees.{StmtTree}
use Rattle.cx_productions.specs.DeclarationTrees.{DeclTree}
use Rattle.cx_productions.specs.Levels.{levels}
use Rattle.cx_productions.specs.Types.{type_id}
use Rattle.cx_productions.specs.Expressions.{expr}
use Rattle.cx_productions.specs.Arguments.{argument}
use Rattle.cx_productions.specs.Clauses.{clause}
use Rattle.cx_productions.specs.Statements.{stmt}
use Rattle.cx_productions.specs.Declarations.{decl}
use Rattle.cx_productions.specs.Units.{unit_levels, unit}
use Rattle.cx_syntax_laws.specs.NumberLaws.{NumberBounds}
use Rattle.cx_syntax_laws.specs.WholeTokens.{WholeTokens}
use Rattle.cx_syntax_laws.proofs.Even.{whole_tokens, whole_read, Tokens_after}
use Rattle.cx_syntax_laws.proofs.NumberBounds.{number_bounds}
use Rattle.cx_production_laws.proofs.TypeLaws.{lawful_type}
use Rattle.cx_production_laws.proofs.ExpressionLaws.{lower_levels, lawful_expr, lawful_argument, lawful_clause}
use Rattle.cx_production_laws.proofs.StatementLaws.{within_levels, lawful_stmt}
use Rattle.cx_production_laws.proofs.DeclarationLaws.{lawful_decl, lawful_unit}
use Rattle.cx_production_laws.proofs.EvenLaws.{evenly_levels, within_evenly, even_type, even_expr, even_argument, even_clause, even_stmt, even_decl, even_unit}
use Rattle.cx_production_laws.proofs.NumberBounds.{spending_levels, within_spending, spends_type, spends_expr, spends_argument, spends_clause, spends_stmt, spends_decl, spends_unit}

not_listed : (c : Context) → c.lists ≡ lists.None → is_listed c.lists ≡ false
not_listed c e = ap is_listed e

pub whole_expr : (level : ℕ) (c : Context) → c.lists ≡ lists.None → WholeTokens (λ n. expr (levels n) level c)
whole_expr level c e = whole_tokens (λ n. lawful_expr (lower_levels n) level c) (λ ts rest n. even_expr ts rest (evenly_levels ts rest n) false level c (not_listed c e))

pub whole_type : (c : Context) → c.lists ≡ lists.None → WholeTokens (λ n. type_id (levels n) c)
whole_type c e = whole_tokens (λ n. lawful_type (lower_levels n) c) (λ ts rest n. even_type ts rest (evenly_levels ts rest n) false c (not_listed c e))

pub whole_argument : (c : Context) → c.lists ≡ lists.None → WholeTokens (λ n. argument (levels n) c)
whole_argument c e = whole_tokens (λ n. lawful_argument (lower_levels n) c) (λ ts rest n. even_argument ts rest (evenly_levels ts rest n) false c (not_listed c e))

pub whole_clause : (c : Context) → c.lists ≡ lists.None → WholeTokens (λ n. clause (levels n) c)
whole_clause c e = whole_tokens (λ n. lawful_clause (lower_levels n) c) (λ ts rest n. even_clause ts rest (evenly_levels ts rest n) false c (not_listed c e))

pub whole_stmt : (c : Context) → c.lists ≡ lists.None → WholeTokens (λ n. stmt (unit_levels n) c)
whole_stmt c e = whole_tokens (λ n. lawful_stmt (within_levels n) c) (λ ts rest n. even_stmt ts rest (within_evenly ts rest n) false c (not_listed c e))

pub whole_decl : (c : Context) → c.lists ≡ lists.None → WholeTokens (λ n. decl (unit_levels n) c)
whole_decl c e = whole_tokens (λ n. lawful_decl (within_levels n) c) (λ ts rest n. even_decl ts rest (within_evenly ts rest n) false c (not_listed c e))

pub whole_unit : (c : Context) → c.lists ≡ lists.None → WholeTokens (λ n. unit (unit_levels n) c)
whole_unit c e = whole_tokens (λ n. lawful_unit (within_levels n) c) (λ ts rest n. even_unit ts rest (within_evenly ts rest n) false c (not_listed c e))

pub bounds_expr : (level : ℕ) (c : Context) → NumberBounds (λ n. expr (levels n) level c)
bounds_expr level c = number_bounds (λ n. lawful_expr (lower_levels n) level c) 7 (λ n. spends_expr (spending_levels n) level c)

pub bounds_type : (c : Context) → NumberBounds (λ n. type_id (levels n) c)
bounds_type c = number_bounds (λ n. lawful_type (lower_levels n) c) 7 (λ n. spends_type (spending_levels n) c)

pub bounds_argument : (c : Context) → NumberBounds (λ n. argument (levels n) c)
bounds_argument c = number_bounds (λ n. lawful_argument (lower_levels n) c) 7 (λ n. spends_argument (spending_levels n) c)

pub bounds_clause : (c : Context) → NumberBounds (λ n. clause (levels n) c)
bounds_clause c = number_bounds (λ n. lawful_clause (lower_levels n) c) 7 (λ n. spends_clause (spending_levels n) c)

pub bounds_stmt : (c : Context) → NumberBounds (λ n. stmt (unit_levels n) c)
bounds_stmt c = number_bounds (λ n. lawful_stmt (within_levels n) c) 7 (λ n. spends_stmt (within_spending n) c)

pub bounds_decl : (c : Context) → NumberBounds (λ n. decl (unit_levels n) c)
bounds_decl c = number_bounds (λ n. lawful_decl (within_levels n) c) 7 (λ n. spends_decl (within_spending n) c)

pub bounds_unit : (c : Context) → NumberBounds (λ n. unit (unit_levels n) c)
bounds_unit c = number_bounds (λ n. lawful_unit (within_levels n) c) 8 (λ n. spends_unit (within_spending n) c)

-- ---- for the code: what a public call leaves

pub after_expr : (depth level : ℕ) (c : Context) → c.lists ≡ lists.None → (ts : List TokenTree) (s t : State) (x : ExprTree) → s.left ≡ pieces ts → (expr (levels depth) level c).read s ≡ Ok (x, t) → Tokens_after ts t
after_expr depth level c e ts s t x = whole_read ts (even_expr ts [] (evenly_levels ts [] depth) false level c (not_listed c e)) s t x

pub after_type : (depth : ℕ) (c : Context) → c.lists ≡ lists.None → (ts : List TokenTree) (s t : State) (x : TypeTree) → s.left ≡ pieces ts → (type_id (levels depth) c).read s ≡ Ok (x, t) → Tokens_after ts t
after_type depth c e ts s t x = whole_read ts (even_type ts [] (evenly_levels ts [] depth) false c (not_listed c e)) s t x

pub after_clause : (depth : ℕ) (c : Context) → c.lists ≡ lists.None → (ts : List TokenTree) (s t : State) (x : ExprTree) → s.left ≡ pieces ts → (clause (levels depth) c).read s ≡ Ok (x, t) → Tokens_after ts t
after_clause depth c e ts s t x = whole_read ts (even_clause ts [] (evenly_levels ts [] depth) false c (not_listed c e)) s t x

pub after_stmt : (depth : ℕ) (c : Context) → c.lists ≡ lists.None → (ts : List TokenTree) (s t : State) (x : StmtTree) → s.left ≡ pieces ts → (stmt (unit_levels depth) c).read s ≡ Ok (x, t) → Tokens_after ts t
after_stmt depth c e ts s t x = whole_read ts (even_stmt ts [] (within_evenly ts [] depth) false c (not_listed c e)) s t x

pub after_decl : (depth : ℕ) (c : Context) → c.lists ≡ lists.None → (ts : List TokenTree) (s t : State) (x : DeclTree) → s.left ≡ pieces ts → (decl (unit_levels depth) c).read s ≡ Ok (x, t) → Tokens_after ts t
after_decl depth c e ts s t x = whole_read ts (even_decl ts [] (within_evenly ts [] depth) false c (not_listed c e)) s t x
