-- The end of a unit is in no statement.
use Rattle.std.proofs.Common.{ℕ, zero, suc, Bool, List, Option}
use Rattle.cx_base.specs.declared.place.Place.{Place}
use Rattle.cx_tree.specs.Trees.{Mark, ExprTree, TypeTree, CoreTree, ConstraintTree}
use Rattle.cx_tree.specs.Statements.{AutoTree, StmtTree}
use Rattle.cx_grammar.specs.Production.{Production}
use Rattle.cx_grammar.specs.Names.{Context}
use Rattle.cx_grammar.specs.Types.{Numbered, Placed, Below, Named}
use Rattle.cx_grammar.specs.Statements.{Within, condition, value_init, list_init, init, variable_behind, auto_variable_behind, const_behind_auto, reference_behind_auto, auto_behind, variable_of, variable_of_auto, expr_stmt_of, core_stmt, head_stmt, word_stmt, typed_variable, constrained_auto, plain_auto, const_variable, variable, concept_stmt, expr_stmt, open_stmt, assertion, more_stmt, block, substatement, alternative, if_stmt, while_stmt, maybe_expr, for_init, for_head, for_stmt, return_stmt, jump, empty_stmt, closed_stmt, bare_stmt, stmt}
use Rattle.cx_grammar.specs.Declarations.{unit_levels}
use Rattle.cx_parse_decl.proofs.Endless.{Endless, closed-Endless, repeat-Endless, string_token-Other}
use Rattle.cx_parse_decl.proofs.EndlessTypes.{BelowEndless, endlessness, argument_list-Endless, scalar_behind-Endless, type_behind-Endless, type_id-Endless}
use Rattle.cx_parse_decl.proofs.EndlessRequires.{constraint-Endless}
use Rattle.cx_parse_decl.proofs.EndlessExpressions.{levels-Endless, exprs_until-Endless, behind_head-Endless, behind_core-Endless, tail-Endless, expr_behind-Endless, expr-Endless}

-- the productions of a level that stand within statements
pub record WithinEndless (b : Within) : Type 0 where
  pub base : BelowEndless b.base
  pub stmt : (c : Context) (n : ℕ) → Endless (b.stmt c n)
  pub bare : (c : Context) (n : ℕ) → Endless (b.bare c n)
  pub head : (c : Context) (n : ℕ) → Endless (b.head c n)

module _ {b : Below} (h : BelowEndless b) where
  condition-Endless : (c : Context) (n : ℕ) → Endless (condition b c n)
  unfolding condition
  condition-Endless c n = search (endlessness, h.expr) depth 13

  value_init-Endless : (c : Context) (n : ℕ) → Endless (value_init b c n)
  unfolding value_init
  value_init-Endless c n = search (endlessness, expr-Endless h) depth 13

  list_init-Endless : (c : Context) (n : ℕ) → Endless (list_init b c n)
  unfolding list_init
  list_init-Endless c n = search (endlessness, exprs_until-Endless h) depth 13

  init-Endless : (c : Context) (n : ℕ) → Endless (init b c n)
  unfolding init
  init-Endless c n = search (endlessness, value_init-Endless, list_init-Endless) depth 13

  variable_behind-Endless : (c : Context) (is_constexpr : Bool) (of : Numbered TypeTree) → Endless (variable_behind b c is_constexpr of)
  unfolding variable_behind
  variable_behind-Endless c is_constexpr of = search (endlessness, init-Endless) depth 13

  auto_variable_behind-Endless : (c : Context) (is_constexpr : Bool) (of : Numbered AutoTree) → Endless (auto_variable_behind b c is_constexpr of)
  unfolding auto_variable_behind
  auto_variable_behind-Endless c is_constexpr of = search (endlessness, value_init-Endless) depth 13

const_behind_auto-Endless : (c : Context) (before : Bool) → Endless (const_behind_auto c before)
unfolding const_behind_auto
const_behind_auto-Endless c before = search endlessness depth 13

reference_behind_auto-Endless : (c : Context) → Endless (reference_behind_auto c)
unfolding reference_behind_auto
reference_behind_auto-Endless c = search endlessness depth 13

auto_behind-Endless : (c : Context) (at : Option Place) (before : Bool) (constrained : Option ConstraintTree) (n : ℕ) → Endless (auto_behind c at before constrained n)
unfolding auto_behind
auto_behind-Endless c at before constrained n = search (endlessness, const_behind_auto-Endless, reference_behind_auto-Endless) depth 13

module _ {b : Below} (h : BelowEndless b) where
  variable_of-Endless : (c : Context) (is_constexpr : Bool) (of : Numbered TypeTree) → Endless (variable_of b c is_constexpr of)
  unfolding variable_of
  variable_of-Endless c is_constexpr of = search (endlessness, variable_behind-Endless h) depth 13

  variable_of_auto-Endless : (c : Context) (is_constexpr : Bool) (of : Numbered AutoTree) → Endless (variable_of_auto b c is_constexpr of)
  unfolding variable_of_auto
  variable_of_auto-Endless c is_constexpr of = search (endlessness, auto_variable_behind-Endless h) depth 13

  expr_stmt_of-Endless : (c : Context) (first : Numbered ExprTree) → Endless (expr_stmt_of b c first)
  unfolding expr_stmt_of
  expr_stmt_of-Endless c first = search (endlessness, expr_behind-Endless h) depth 13

  core_stmt-Endless : (c : Context) (k : Numbered (Placed CoreTree)) → Endless (core_stmt b c k)
  unfolding core_stmt
  core_stmt-Endless c k = search (endlessness, behind_core-Endless h, tail-Endless h, type_behind-Endless, variable_of-Endless, expr_stmt_of-Endless) depth 13

  head_stmt-Endless : (c : Context) (k : Numbered (Placed CoreTree)) → Endless (head_stmt b c k)
  unfolding head_stmt
  head_stmt-Endless c k = search (endlessness, behind_head-Endless h, tail-Endless h, type_behind-Endless, variable_of-Endless, expr_stmt_of-Endless) depth 13

  word_stmt-Endless : (c : Context) (n : ℕ) → Endless (word_stmt b c n)
  unfolding word_stmt
  word_stmt-Endless c n = search (endlessness, scalar_behind-Endless, behind_core-Endless h, tail-Endless h, type_behind-Endless, variable_of-Endless, expr_stmt_of-Endless) depth 13

  typed_variable-Endless : (c : Context) (is_constexpr : Bool) (n : ℕ) → Endless (typed_variable b c is_constexpr n)
  unfolding typed_variable
  typed_variable-Endless c is_constexpr n = search (endlessness, type_id-Endless h, variable_of-Endless) depth 13

  constrained_auto-Endless : (c : Context) (at : Option Place) (is_constexpr : Bool) (before : Bool) (n : ℕ) → Endless (constrained_auto b c at is_constexpr before n)
  unfolding constrained_auto
  constrained_auto-Endless c at is_constexpr before n = search (endlessness, constraint-Endless h, auto_behind-Endless, variable_of_auto-Endless) depth 13

  plain_auto-Endless : (c : Context) (at : Option Place) (is_constexpr : Bool) (before : Bool) (n : ℕ) → Endless (plain_auto b c at is_constexpr before n)
  unfolding plain_auto
  plain_auto-Endless c at is_constexpr before n = search (endlessness, auto_behind-Endless, variable_of_auto-Endless) depth 13

  const_variable-Endless : (c : Context) (is_constexpr : Bool) (n : ℕ) → Endless (const_variable b c is_constexpr n)
  unfolding const_variable
  const_variable-Endless c is_constexpr n = search (endlessness, h.core, type_behind-Endless, variable_of-Endless, constrained_auto-Endless, plain_auto-Endless) depth 13

  variable-Endless : (c : Context) (is_constexpr : Bool) (n : ℕ) → Endless (variable b c is_constexpr n)
  unfolding variable
  variable-Endless c is_constexpr n = search (endlessness, typed_variable-Endless, constrained_auto-Endless, plain_auto-Endless, const_variable-Endless) depth 13

  concept_stmt-Endless : (c : Context) (n : ℕ) → Endless (concept_stmt b c n)
  unfolding concept_stmt
  concept_stmt-Endless c n = search (endlessness, tail-Endless h, constraint-Endless h, auto_behind-Endless, variable_of_auto-Endless, expr_stmt_of-Endless) depth 13

  expr_stmt-Endless : (c : Context) (n : ℕ) → Endless (expr_stmt b c n)
  unfolding expr_stmt
  expr_stmt-Endless c n = search (endlessness, expr-Endless h) depth 13

  open_stmt-Endless : (c : Context) (n : ℕ) → Endless (open_stmt b c n)
  unfolding open_stmt
  open_stmt-Endless c n = search (endlessness, h.core, core_stmt-Endless, head_stmt-Endless, word_stmt-Endless, typed_variable-Endless, plain_auto-Endless, const_variable-Endless, variable-Endless, concept_stmt-Endless, expr_stmt-Endless) depth 16

  assertion-Endless : (c : Context) (n : ℕ) → Endless (assertion b c n)
  unfolding assertion
  assertion-Endless c n = search (endlessness, string_token-Other, h.expr) depth 16

  maybe_expr-Endless : (behind : List ℕ) (c : Context) (n : ℕ) → Endless (maybe_expr behind b c n)
  unfolding maybe_expr
  maybe_expr-Endless behind c n = search (endlessness, expr-Endless h) depth 13

  for_init-Endless : (c : Context) (n : ℕ) → Endless (for_init b c n)
  unfolding for_init
  for_init-Endless c n = search (endlessness, open_stmt-Endless) depth 13

  for_head-Endless : (c : Context) (n : ℕ) → Endless (for_head b c n)
  unfolding for_head
  for_head-Endless c n = search (endlessness, maybe_expr-Endless, for_init-Endless) depth 13

  return_stmt-Endless : (c : Context) (n : ℕ) → Endless (return_stmt b c n)
  unfolding return_stmt
  return_stmt-Endless c n = search (endlessness, maybe_expr-Endless) depth 13

jump-Endless : (text : List ℕ) (make : Mark → StmtTree) (c : Context) (n : ℕ) → Endless (jump text make c n)
unfolding jump
jump-Endless text make c n = search endlessness depth 13

empty_stmt-Endless : (c : Context) (n : ℕ) → Endless (empty_stmt c n)
unfolding empty_stmt
empty_stmt-Endless c n = search endlessness depth 13

closed_stmt-Endless : (c : Context) {p : Production (Numbered StmtTree)} → Endless p → Endless (closed_stmt c p)
closed_stmt-Endless c h = search endlessness depth 13

module _ {b : Within} (h : WithinEndless b) where
  more_stmt-Endless : (c : Context) (so_far : Named (List StmtTree)) → Endless (more_stmt b c so_far)
  more_stmt-Endless c so_far = search (endlessness, h.stmt) depth 13

  pub block-Endless : (c : Context) (n : ℕ) → Endless (block b c n)
  unfolding block
  block-Endless c n = search (endlessness, repeat-Endless, more_stmt-Endless) depth 13

  substatement-Endless : (c : Context) (n : ℕ) → Endless (substatement b c n)
  unfolding substatement
  substatement-Endless c n = search (endlessness, h.bare) depth 13

  alternative-Endless : (c : Context) (at : Mark) (is_constexpr : Bool) (test : ExprTree) (then' : Numbered StmtTree) → Endless (alternative b c at is_constexpr test then')
  unfolding alternative
  alternative-Endless c at is_constexpr test then' = search (endlessness, substatement-Endless) depth 13

  if_stmt-Endless : (c : Context) (n : ℕ) → Endless (if_stmt b c n)
  unfolding if_stmt
  if_stmt-Endless c n = search (endlessness, condition-Endless h.base, substatement-Endless, alternative-Endless) depth 13

  while_stmt-Endless : (c : Context) (n : ℕ) → Endless (while_stmt b c n)
  unfolding while_stmt
  while_stmt-Endless c n = search (endlessness, condition-Endless h.base, substatement-Endless) depth 13

  for_stmt-Endless : (c : Context) (n : ℕ) → Endless (for_stmt b c n)
  unfolding for_stmt
  for_stmt-Endless c n = search (endlessness, h.head, substatement-Endless) depth 13

  bare_stmt-Endless : (c : Context) (n : ℕ) → Endless (bare_stmt b c n)
  unfolding bare_stmt
  bare_stmt-Endless c n = search (endlessness, open_stmt-Endless h.base, assertion-Endless h.base, block-Endless, if_stmt-Endless, while_stmt-Endless, for_stmt-Endless, return_stmt-Endless h.base, jump-Endless, empty_stmt-Endless, closed_stmt-Endless) depth 16

  stmt-Endless : (c : Context) (n : ℕ) → Endless (stmt b c n)
  unfolding stmt
  stmt-Endless c n = search (endlessness, h.bare) depth 13

pub unit_levels-Endless : (requires : Bool) (n : ℕ) → WithinEndless (unit_levels requires n)
unfolding unit_levels
unit_levels-Endless requires zero = record {
  base = levels-Endless requires 0;
  stmt = λ c m. closed-Endless;
  bare = λ c m. closed-Endless;
  head = λ c m. closed-Endless;
}
unit_levels-Endless requires (suc n) = record {
  base = levels-Endless requires (suc n);
  stmt = stmt-Endless (unit_levels-Endless requires n);
  bare = bare_stmt-Endless (unit_levels-Endless requires n);
  head = for_head-Endless (levels-Endless requires n);
}
