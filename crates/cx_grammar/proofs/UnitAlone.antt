-- Statements, declarations and units are trees too where nothing stands behind them.
use Rattle.std.proofs.Common.{ℕ, zero, suc, Bool, List, Option}
use Rattle.cx_base.specs.declared.place.Place.{Place}
use Rattle.cx_scope.specs.declared.name_kind.NameKind.{NameKind}
use Rattle.cx_tree.specs.Trees.{Mark, ExprTree, TypeTree, CoreTree, ConstraintTree}
use Rattle.cx_tree.specs.Statements.{AutoTree, StmtTree}
use Rattle.cx_tree.specs.Declarations.{Specifiers, TemplateParameterTree, DeclTree}
use Rattle.cx_grammar.specs.Pieces.{Piece}
use Rattle.cx_grammar.specs.Production.{Production, repeat}
use Rattle.cx_grammar.specs.Words.{punct}
use Rattle.cx_grammar.specs.Names.{Context}
use Rattle.cx_grammar.specs.Types.{Numbered, Placed, Below, Named}
use Rattle.cx_grammar.specs.Requires.{is_not_closing}
use Rattle.cx_grammar.specs.Statements.{Within, condition, value_init, list_init, init, variable_behind, auto_variable_behind, const_behind_auto, reference_behind_auto, auto_behind, variable_of, variable_of_auto, expr_stmt_of, core_stmt, head_stmt, word_stmt, typed_variable, constrained_auto, plain_auto, const_variable, variable, concept_stmt, expr_stmt, open_stmt, assertion, more_stmt, block, substatement, alternative, if_stmt, while_stmt, maybe_expr, for_stmt, return_stmt, jump, empty_stmt, closed_stmt, bare_stmt, stmt}
use Rattle.cx_grammar.specs.Declarations.{unit_levels, is_not_end, is_free, with_specifier, specifiers_from, specifiers, trailing, maybe_const_member, function_body, function_behind, constant_behind, alias, variable_or_function, struct_body, struct_behind, struct, concept, specialisation, templated_struct, templated_function, templated, maybe_clause, template, decl, more_decl, unit}
use Rattle.cx_grammar.proofs.Lawful.{Lawful}
use Rattle.cx_grammar.proofs.Combinators.{give-Lawful, then-Lawful, when-Lawful, turns-Grows}
use Rattle.cx_grammar.proofs.Alone.{Alone, Filled, give-Alone, token-Alone, then-Alone, before-Alone, given-Alone, opens-Alone, filled-Alone, closed-Alone, both-Opens, token-Filled, first-Filled, second-Filled, when-Filled, token-Opens, first-Opens}
use Rattle.cx_grammar.proofs.AloneTypes.{BelowAlone, aloneness, argument_list-Alone, scalar_behind-Alone, type_id-Alone, type_behind-Alone}
use Rattle.cx_grammar.proofs.AloneExpressions.{levels-Alone, behind_core-Alone, behind_core-Filled, behind_head-Alone, behind_head-Filled, clause-Alone, expr-Alone, expr_behind-Alone, exprs_until-Lawful, rests-Alone, tail-Alone, unary-Alone}
use Rattle.cx_grammar.proofs.UnitFilled.{WithinFilled, levels-Filled, alias-Filled, assertion-Filled, auto_behind-Filled, block-Filled, concept-Filled, concept_stmt-Filled, const_variable-Filled, constant_behind-Filled, constrained_auto-Filled, empty_stmt-Filled, expr_stmt-Filled, expr_stmt_of-Filled, for_stmt-Filled, function_behind-Filled, if_stmt-Filled, jump-Filled, list_init-Filled, open_stmt-Filled, plain_auto-Filled, return_stmt-Filled, specialisation-Filled, struct-Filled, struct_behind-Filled, template-Filled, templated_function-Filled, templated_struct-Filled, typed_variable-Filled, value_init-Filled, variable_of-Filled, variable_or_function-Filled, while_stmt-Filled, word_stmt-Filled}
use Rattle.cx_grammar.proofs.UnitGrows.{WithinGrows, unit_levels-Grows, more_stmt-Steps, more_decl-Steps}
use Rattle.cx_grammar.proofs.AloneRequires.{constraint-Alone}

-- the productions of a level; behind some stands a piece in each tree
pub record WithinAlone (requires : Bool) (b : Within) : Type 0 where
  pub base : BelowAlone requires b.base
  pub stmt : (c : Context) (n : ℕ) → Alone requires (b.stmt c n)
  pub bare : (c : Context) (n : ℕ) → Alone requires (b.bare c n)
  pub head : (c : Context) (n : ℕ) → Lawful requires (b.head c n)
  pub parameters : (autos : Bool) (c : Context) (n : ℕ) → Lawful requires (b.parameters autos c n)
  pub members : (templated : Bool) (c : Context) (n : ℕ) → Lawful requires (b.members templated c n)
  pub template_parameters : (c : Context) (n : ℕ) → Lawful requires (b.template_parameters c n)
  pub decl : (c : Context) (n : ℕ) → Alone requires (b.decl c n)

ruleset unit_aloneness = (give-Alone, token-Alone, then-Alone, given-Alone, filled-Alone, opens-Alone, token-Filled, first-Filled, second-Filled, when-Filled, token-Opens, first-Opens)

module _ {requires : Bool} {b : Below} (h : BelowAlone requires b) where
  pub condition-Alone : (c : Context) (n : ℕ) → Alone requires (condition b c n)
  unfolding condition
  condition-Alone c n = search (unit_aloneness, h.expr) depth 9

  pub value_init-Alone : (c : Context) (n : ℕ) → Alone requires (value_init b c n)
  unfolding value_init
  value_init-Alone c n = search (unit_aloneness, expr-Alone) depth 8

  pub list_init-Alone : (c : Context) (n : ℕ) → Alone requires (list_init b c n)
  unfolding list_init
  list_init-Alone c n = search (unit_aloneness, before-Alone, exprs_until-Lawful) depth 9

  pub init-Alone : (c : Context) (n : ℕ) → Alone requires (init b c n)
  unfolding init
  init-Alone c n = search (unit_aloneness, value_init-Alone, value_init-Filled, list_init-Alone, list_init-Filled) depth 8

  pub variable_behind-Alone : (c : Context) (is_constexpr : Bool) (of : Numbered TypeTree) → Alone requires (variable_behind b c is_constexpr of)
  unfolding variable_behind
  variable_behind-Alone c is_constexpr of = search (unit_aloneness, init-Alone) depth 9

  pub auto_variable_behind-Alone : (c : Context) (is_constexpr : Bool) (of : Numbered AutoTree) → Alone requires (auto_variable_behind b c is_constexpr of)
  unfolding auto_variable_behind
  auto_variable_behind-Alone c is_constexpr of = search (unit_aloneness, value_init-Alone) depth 9

pub const_behind_auto-Alone : {requires : Bool} (c : Context) (before : Bool) → Alone requires (const_behind_auto c before)
unfolding const_behind_auto
const_behind_auto-Alone c before = search unit_aloneness depth 8

pub reference_behind_auto-Alone : {requires : Bool} (c : Context) → Alone requires (reference_behind_auto c)
unfolding reference_behind_auto
reference_behind_auto-Alone c = search unit_aloneness depth 8

pub auto_behind-Alone : {requires : Bool} (c : Context) (at : Option Place) (before : Bool) (constrained : Option ConstraintTree) (n : ℕ) → Alone requires (auto_behind c at before constrained n)
unfolding auto_behind
auto_behind-Alone c at before constrained n = search (unit_aloneness, const_behind_auto-Alone, reference_behind_auto-Alone) depth 9

module _ {requires : Bool} {b : Below} (h : BelowAlone requires b) where
  pub variable_of-Alone : (c : Context) (is_constexpr : Bool) (of : Numbered TypeTree) → Alone requires (variable_of b c is_constexpr of)
  unfolding variable_of
  variable_of-Alone c is_constexpr of = search (unit_aloneness, variable_behind-Alone) depth 8

  pub variable_of_auto-Alone : (c : Context) (is_constexpr : Bool) (of : Numbered AutoTree) → Alone requires (variable_of_auto b c is_constexpr of)
  unfolding variable_of_auto
  variable_of_auto-Alone c is_constexpr of = search (unit_aloneness, auto_variable_behind-Alone) depth 8

  pub expr_stmt_of-Alone : (c : Context) (first : Numbered ExprTree) → Alone requires (expr_stmt_of b c first)
  unfolding expr_stmt_of
  expr_stmt_of-Alone c first = search (unit_aloneness, expr_behind-Alone) depth 8

  pub core_stmt-Alone : (c : Context) (k : Numbered (Placed CoreTree)) → Alone requires (core_stmt b c k)
  unfolding core_stmt
  core_stmt-Alone c k = search (unit_aloneness, type_behind-Alone, behind_core-Alone, behind_core-Filled, tail-Alone, variable_of-Alone, variable_of-Filled, expr_stmt_of-Alone) depth 10

  pub head_stmt-Alone : (c : Context) (k : Numbered (Placed CoreTree)) → Alone requires (head_stmt b c k)
  unfolding head_stmt
  head_stmt-Alone c k = search (unit_aloneness, type_behind-Alone, behind_head-Alone, behind_head-Filled, tail-Alone, variable_of-Alone, variable_of-Filled, expr_stmt_of-Alone) depth 10

  pub word_stmt-Alone : (c : Context) (n : ℕ) → Alone requires (word_stmt b c n)
  unfolding word_stmt
  word_stmt-Alone c n = search (unit_aloneness, scalar_behind-Alone, type_behind-Alone, behind_core-Alone, behind_core-Filled, tail-Alone, variable_of-Alone, variable_of-Filled, expr_stmt_of-Alone) depth 12

  pub typed_variable-Alone : (c : Context) (is_constexpr : Bool) (n : ℕ) → Alone requires (typed_variable b c is_constexpr n)
  unfolding typed_variable
  typed_variable-Alone c is_constexpr n = search (unit_aloneness, type_id-Alone, variable_of-Alone) depth 8

  pub constrained_auto-Alone : (c : Context) (at : Option Place) (is_constexpr : Bool) (before : Bool) (n : ℕ) → Alone requires (constrained_auto b c at is_constexpr before n)
  unfolding constrained_auto
  constrained_auto-Alone c at is_constexpr before n = search (unit_aloneness, constraint-Alone, auto_behind-Alone, variable_of_auto-Alone) depth 8

  pub plain_auto-Alone : (c : Context) (at : Option Place) (is_constexpr : Bool) (before : Bool) (n : ℕ) → Alone requires (plain_auto b c at is_constexpr before n)
  unfolding plain_auto
  plain_auto-Alone c at is_constexpr before n = search (unit_aloneness, auto_behind-Alone, variable_of_auto-Alone) depth 8

  pub const_variable-Alone : (c : Context) (is_constexpr : Bool) (n : ℕ) → Alone requires (const_variable b c is_constexpr n)
  unfolding const_variable
  const_variable-Alone c is_constexpr n = search (unit_aloneness, type_behind-Alone, variable_of-Alone, constrained_auto-Alone, constrained_auto-Filled, plain_auto-Alone, plain_auto-Filled, h.core, h.some_core) depth 11

  pub variable-Alone : (c : Context) (is_constexpr : Bool) (n : ℕ) → Alone requires (variable b c is_constexpr n)
  unfolding variable
  variable-Alone c is_constexpr n = search (unit_aloneness, typed_variable-Alone, typed_variable-Filled, constrained_auto-Alone, constrained_auto-Filled, plain_auto-Alone, plain_auto-Filled, const_variable-Alone, const_variable-Filled) depth 9

  pub concept_stmt-Alone : (c : Context) (n : ℕ) → Alone requires (concept_stmt b c n)
  unfolding concept_stmt
  concept_stmt-Alone c n = search (unit_aloneness, tail-Alone, constraint-Alone, auto_behind-Alone, auto_behind-Filled, variable_of_auto-Alone, expr_stmt_of-Alone, expr_stmt_of-Filled) depth 10

  pub expr_stmt-Alone : (c : Context) (n : ℕ) → Alone requires (expr_stmt b c n)
  unfolding expr_stmt
  expr_stmt-Alone c n = search (unit_aloneness, expr-Alone) depth 8

  pub open_stmt-Alone : (c : Context) (n : ℕ) → Alone requires (open_stmt b c n)
  unfolding open_stmt
  open_stmt-Alone c n = search (filled-Alone, when-Filled, first-Filled, token-Filled, then-Alone, token-Alone, core_stmt-Alone, head_stmt-Alone, word_stmt-Alone, word_stmt-Filled, typed_variable-Alone, typed_variable-Filled, plain_auto-Alone, plain_auto-Filled, const_variable-Alone, const_variable-Filled, variable-Alone, concept_stmt-Alone, concept_stmt-Filled, expr_stmt-Alone, expr_stmt-Filled, h.core, h.some_core) depth 17 fits 20000

  pub assertion-Alone : (c : Context) (n : ℕ) → Alone requires (assertion b c n)
  unfolding assertion
  assertion-Alone c n = search (unit_aloneness, h.expr) depth 15

module _ {requires : Bool} {b d : Within} (g : WithinGrows requires b d) (low : WithinFilled requires b) (high : WithinFilled requires d) (h : WithinAlone requires b) where
  stmts-Lawful : (c : Context) (x : Named (List StmtTree)) → Lawful requires (repeat is_not_closing (more_stmt b c) x)
  stmts-Lawful c x = (turns-Grows is_not_closing (more_stmt-Steps g low high c) x).low

  pub block-Alone : (c : Context) (n : ℕ) → Alone requires (block b c n)
  unfolding block
  block-Alone c n = search (unit_aloneness, before-Alone, stmts-Lawful) depth 9

  pub substatement-Alone : (c : Context) (n : ℕ) → Alone requires (substatement b c n)
  unfolding substatement
  substatement-Alone c n = search (unit_aloneness, h.bare) depth 8

  pub alternative-Alone : (c : Context) (at : Mark) (is_constexpr : Bool) (test : ExprTree) (then' : Numbered StmtTree) → Alone requires (alternative b c at is_constexpr test then')
  unfolding alternative
  alternative-Alone c at is_constexpr test then' = search (unit_aloneness, substatement-Alone) depth 9

  pub if_stmt-Alone : (c : Context) (n : ℕ) → Alone requires (if_stmt b c n)
  unfolding if_stmt
  if_stmt-Alone c n = search (unit_aloneness, condition-Alone h.base, substatement-Alone, alternative-Alone) depth 12

  pub while_stmt-Alone : (c : Context) (n : ℕ) → Alone requires (while_stmt b c n)
  unfolding while_stmt
  while_stmt-Alone c n = search (unit_aloneness, condition-Alone h.base, substatement-Alone) depth 9

module _ {requires : Bool} {b : Below} (h : BelowAlone requires b) where
  maybe_expr-Lawful : (behind : List ℕ) (c : Context) (n : ℕ) → Lawful requires (maybe_expr behind b c n)
  unfolding maybe_expr
  maybe_expr-Lawful behind c n = when-Lawful (punct behind) (give-Lawful _) (then-Lawful (expr-Alone h c n).lawful (λ e. give-Lawful _))

module _ {requires : Bool} {b d : Within} (g : WithinGrows requires b d) (low : WithinFilled requires b) (high : WithinFilled requires d) (h : WithinAlone requires b) where
  pub for_stmt-Alone : (c : Context) (n : ℕ) → Alone requires (for_stmt b c n)
  unfolding for_stmt
  for_stmt-Alone c n = search (unit_aloneness, before-Alone, h.head, substatement-Alone) depth 11

module _ {requires : Bool} {b : Below} (h : BelowAlone requires b) where
  pub return_stmt-Alone : (c : Context) (n : ℕ) → Alone requires (return_stmt b c n)
  unfolding return_stmt
  return_stmt-Alone c n = search (unit_aloneness, before-Alone, maybe_expr-Lawful) depth 9

pub jump-Alone : {requires : Bool} (text : List ℕ) (make : Mark → StmtTree) (c : Context) (n : ℕ) → Alone requires (jump text make c n)
unfolding jump
jump-Alone text make c n = search unit_aloneness depth 8

pub empty_stmt-Alone : {requires : Bool} (c : Context) (n : ℕ) → Alone requires (empty_stmt c n)
unfolding empty_stmt
empty_stmt-Alone c n = search unit_aloneness depth 8

closed_stmt-Alone : {requires : Bool} (c : Context) {p : Production (Numbered StmtTree)} → Alone requires p → Alone requires (closed_stmt c p)
closed_stmt-Alone c h = search aloneness

closed_stmt-Filled : (c : Context) {p : Production (Numbered StmtTree)} → Filled p → Filled (closed_stmt c p)
closed_stmt-Filled c h = search aloneness

module _ {requires : Bool} {b d : Within} (g : WithinGrows requires b d) (low : WithinFilled requires b) (high : WithinFilled requires d) (h : WithinAlone requires b) where
  pub bare_stmt-Alone : (c : Context) (n : ℕ) → Alone requires (bare_stmt b c n)
  unfolding bare_stmt
  bare_stmt-Alone c n = search (filled-Alone, when-Filled, first-Filled, then-Alone, give-Alone, open_stmt-Alone h.base, open_stmt-Filled h.base, assertion-Alone h.base, assertion-Filled h.base, block-Alone, block-Filled low, if_stmt-Alone, if_stmt-Filled low, while_stmt-Alone, while_stmt-Filled low, for_stmt-Alone, for_stmt-Filled low, return_stmt-Alone h.base, return_stmt-Filled h.base, jump-Alone, jump-Filled, empty_stmt-Alone, empty_stmt-Filled, closed_stmt-Alone) depth 16 fits 20000

  pub stmt-Alone : (c : Context) (n : ℕ) → Alone requires (stmt b c n)
  unfolding stmt
  stmt-Alone c n = search (unit_aloneness, h.bare) depth 8

specifiers_from-Alone : {requires : Bool} (n : ℕ) (c : Context) (s : Specifiers) → Alone requires (specifiers_from n c s)
unfolding specifiers_from
specifiers_from-Alone zero c s = give-Alone s
specifiers_from-Alone (suc n) c s = (opens-Alone (is_free s) (then-Alone (token-Alone c.load (is_free s)) (λ t. specifiers_from-Alone n c (with_specifier s t))) (give-Alone s) (first-Filled _ (token-Filled c.load (is_free s))) (first-Opens _ (token-Opens c.load (is_free s))))

pub specifiers-Alone : {requires : Bool} (c : Context) (s : Specifiers) → Alone requires (specifiers c s)
specifiers-Alone c s = search (unit_aloneness, specifiers_from-Alone) depth 8

module _ {requires : Bool} {b : Below} (h : BelowAlone requires b) where
  pub trailing-Alone : (templated : Bool) (c : Context) (n : ℕ) → Alone requires (trailing templated b c n)
  unfolding trailing
  trailing-Alone templated c n = search (unit_aloneness, clause-Alone, both-Opens) depth 9

pub maybe_const_member-Alone : {requires : Bool} (is_member : Bool) (c : Context) → Alone requires (maybe_const_member is_member c)
unfolding maybe_const_member
maybe_const_member-Alone is_member c = search (unit_aloneness, both-Opens) depth 8

module _ {requires : Bool} {b d : Within} (g : WithinGrows requires b d) (low : WithinFilled requires b) (high : WithinFilled requires d) (h : WithinAlone requires b) where
  pub function_body-Alone : (c : Context) (n : ℕ) → Alone requires (function_body b c n)
  unfolding function_body
  function_body-Alone c n = search (unit_aloneness, block-Alone, block-Filled low) depth 9

  pub function_behind-Alone : (is_member : Bool) (templated : Bool) (c : Context) (s : Specifiers) (result : Numbered TypeTree) (name : Piece) → Alone requires (function_behind is_member templated b c s result name)
  unfolding function_behind
  function_behind-Alone is_member templated c s result name = search (unit_aloneness, before-Alone, h.parameters, trailing-Alone h.base, maybe_const_member-Alone, function_body-Alone) depth 12

module _ {requires : Bool} {b : Below} (h : BelowAlone requires b) where
  pub constant_behind-Alone : (c : Context) (s : Specifiers) (of : Numbered TypeTree) (name : Piece) → Alone requires (constant_behind b c s of name)
  unfolding constant_behind
  constant_behind-Alone c s of name = search (unit_aloneness, init-Alone) depth 8

  pub alias-Alone : (c : Context) (n : ℕ) → Alone requires (alias b c n)
  unfolding alias
  alias-Alone c n = search (unit_aloneness, type_id-Alone) depth 11

module _ {requires : Bool} {b d : Within} (g : WithinGrows requires b d) (low : WithinFilled requires b) (high : WithinFilled requires d) (h : WithinAlone requires b) where
  pub variable_or_function-Alone : (c : Context) (n : ℕ) → Alone requires (variable_or_function b c n)
  unfolding variable_or_function
  variable_or_function-Alone c n = search (unit_aloneness, type_id-Alone h.base, specifiers-Alone, function_behind-Alone, function_behind-Filled low, constant_behind-Alone h.base, constant_behind-Filled h.base) depth 12

  pub struct_body-Alone : (templated : Bool) (c : Context) (n : ℕ) → Alone requires (struct_body templated b c n)
  unfolding struct_body
  struct_body-Alone templated c n = search (unit_aloneness, before-Alone, h.members) depth 10

  pub struct_behind-Alone : (templated : Bool) (c : Context) (k : NameKind) (name : Piece) (n : ℕ) → Alone requires (struct_behind templated b c k name n)
  unfolding struct_behind
  struct_behind-Alone templated c k name n = search (unit_aloneness, struct_body-Alone) depth 8

  pub struct-Alone : (c : Context) (n : ℕ) → Alone requires (struct b c n)
  unfolding struct
  struct-Alone c n = search (unit_aloneness, struct_behind-Alone) depth 9

module _ {requires : Bool} {b : Below} (h : BelowAlone requires b) where
  pub concept-Alone : (c : Context) (n : ℕ) → Alone requires (concept b c n)
  unfolding concept
  concept-Alone c n = search (unit_aloneness, unary-Alone, rests-Alone) depth 12

module _ {requires : Bool} {b d : Within} (g : WithinGrows requires b d) (low : WithinFilled requires b) (high : WithinFilled requires d) (h : WithinAlone requires b) where
  pub specialisation-Alone : (full : Bool) (c : Context) (name : Piece) (n : ℕ) → Alone requires (specialisation full b c name n)
  unfolding specialisation
  specialisation-Alone full c name n = search (unit_aloneness, argument_list-Alone h.base, struct_body-Alone) depth 8

  pub templated_struct-Alone : (full : Bool) (c : Context) (n : ℕ) → Alone requires (templated_struct full b c n)
  unfolding templated_struct
  templated_struct-Alone full c n = search (unit_aloneness, struct_behind-Alone, struct_behind-Filled low, specialisation-Alone, specialisation-Filled low) depth 10

  pub templated_function-Alone : (c : Context) (n : ℕ) → Alone requires (templated_function b c n)
  unfolding templated_function
  templated_function-Alone c n = search (unit_aloneness, type_id-Alone h.base, specifiers-Alone, function_behind-Alone) depth 10

  pub templated-Alone : (ps : List TemplateParameterTree) (has_clause : Bool) (c : Context) (n : ℕ) → Alone requires (templated ps has_clause b c n)
  unfolding templated
  templated-Alone ps has_clause c n = search (unit_aloneness, concept-Alone h.base, concept-Filled h.base, templated_struct-Alone, templated_struct-Filled low, templated_function-Alone, templated_function-Filled low) depth 8

module _ {requires : Bool} {b : Below} (h : BelowAlone requires b) where
  pub maybe_clause-Alone : (c : Context) (n : ℕ) → Alone requires (maybe_clause b c n)
  unfolding maybe_clause
  maybe_clause-Alone c n = search (unit_aloneness, clause-Alone) depth 9

module _ {requires : Bool} {b d : Within} (g : WithinGrows requires b d) (low : WithinFilled requires b) (high : WithinFilled requires d) (h : WithinAlone requires b) where
  pub template-Alone : (c : Context) (n : ℕ) → Alone requires (template b c n)
  unfolding template
  template-Alone c n = search (unit_aloneness, before-Alone, h.template_parameters, templated-Alone, maybe_clause-Alone h.base) depth 12

  pub decl-Alone : (c : Context) (n : ℕ) → Alone requires (decl b c n)
  unfolding decl
  decl-Alone c n = search (unit_aloneness, assertion-Alone h.base, assertion-Filled h.base, alias-Alone h.base, alias-Filled h.base, variable_or_function-Alone, variable_or_function-Filled low, struct-Alone, struct-Filled low, template-Alone, template-Filled low) depth 14

  decls-Lawful : (c : Context) (x : Named (List DeclTree)) → Lawful requires (repeat is_not_end (more_decl b c) x)
  decls-Lawful c x = (turns-Grows is_not_end (more_decl-Steps g low high c) x).low

  pub unit-Alone : Alone requires (unit b)
  unfolding unit
  unit-Alone = search (unit_aloneness, before-Alone, decls-Lawful) depth 8

pub unit_levels-Alone : {requires : Bool} (n : ℕ) → WithinAlone requires (unit_levels requires n)
unfolding unit_levels
unit_levels-Alone zero = record {
  base = levels-Alone 0;
  stmt = λ c m. closed-Alone;
  bare = λ c m. closed-Alone;
  head = λ c m. ((unit_levels-Grows 0).head c m).low;
  parameters = λ autos c m. ((unit_levels-Grows 0).parameters autos c m).low;
  members = λ templated c m. ((unit_levels-Grows 0).members templated c m).low;
  template_parameters = λ c m. ((unit_levels-Grows 0).template_parameters c m).low;
  decl = λ c m. closed-Alone;
}
unit_levels-Alone (suc n) = record {
  base = levels-Alone (suc n);
  stmt = λ c m. stmt-Alone (unit_levels-Grows n) (levels-Filled n) (levels-Filled (suc n)) (unit_levels-Alone n) c m;
  bare = λ c m. bare_stmt-Alone (unit_levels-Grows n) (levels-Filled n) (levels-Filled (suc n)) (unit_levels-Alone n) c m;
  head = λ c m. ((unit_levels-Grows (suc n)).head c m).low;
  parameters = λ autos c m. ((unit_levels-Grows (suc n)).parameters autos c m).low;
  members = λ templated c m. ((unit_levels-Grows (suc n)).members templated c m).low;
  template_parameters = λ c m. ((unit_levels-Grows (suc n)).template_parameters c m).low;
  decl = λ c m. decl-Alone (unit_levels-Grows n) (levels-Filled n) (levels-Filled (suc n)) (unit_levels-Alone n) c m;
}
