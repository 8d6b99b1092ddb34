-- Statements, declarations and units end with whole tokens.
use Rattle.std.proofs.Common.{◌≡◌, ℕ, zero, suc, Bool, List, Option}
use Rattle.cx_base.specs.declared.place.Place.{Place}
use Rattle.cx_scope.specs.declared.name_kind.NameKind.{NameKind}
use Rattle.cx_tree.specs.Trees.{Mark, ExprTree, TypeTree, CoreTree}
use Rattle.cx_tree.specs.Statements.{AutoTree, StmtTree}
use Rattle.cx_tree.specs.Declarations.{Specifiers, TemplateParameterTree}
use Rattle.cx_grammar.specs.Pieces.{Piece}
use Rattle.cx_grammar.specs.Production.{Production}
use Rattle.cx_grammar.specs.Names.{Context}
use Rattle.cx_grammar.specs.Types.{Numbered, Placed, Below}
use Rattle.cx_grammar.specs.Statements.{Within, variable_behind, auto_variable_behind, variable_of, variable_of_auto, expr_stmt_of, core_stmt, head_stmt, word_stmt, typed_variable, constrained_auto, plain_auto, const_variable, variable, concept_stmt, expr_stmt, open_stmt, assertion, block, substatement, alternative, if_stmt, while_stmt, for_stmt, return_stmt, jump, empty_stmt, closed_stmt, bare_stmt, stmt}
use Rattle.cx_grammar.specs.Declarations.{unit_levels, function_body, function_behind, constant_behind, alias, variable_or_function, struct_body, struct_behind, struct, concept, specialisation, templated_struct, templated_function, templated, template, decl, unit}
use Rattle.cx_grammar.proofs.Even.{Even, repeat-Even, closed-Even}
use Rattle.cx_grammar.proofs.AloneTypes.{BelowAlone, type_id-Filled}
use Rattle.cx_grammar.proofs.UnitFilled.{WithinFilled, levels-Filled, auto_behind-Filled, condition-Filled, expr_stmt_of-Filled, function_body-Filled, specialisation-Filled, struct_behind-Filled, substatement-Filled, templated-Filled, variable-Filled, variable_of_auto-Filled}
use Rattle.cx_grammar.proofs.EvenExpressions.{BelowEven, levels-Even, evenness, argument_list-Even, behind_core-Even, behind_head-Even, expr-Even, expr_behind-Even, levels-Even, rests-Even, scalar_behind-Even, tail-Even, type_behind-Even, type_id-Even, unary-Even}

-- the productions of a level, in no list of template arguments
pub record WithinEven (b : Within) : Type 0 where
  pub base : BelowEven b.base
  pub stmt : (c : Context) (n : ℕ) → c.angle ≡ 0 → Even (b.stmt c n)
  pub bare : (c : Context) (n : ℕ) → c.angle ≡ 0 → Even (b.bare c n)
  pub decl : (c : Context) (n : ℕ) → c.angle ≡ 0 → Even (b.decl c n)

module _ {requires : Bool} {b : Below} (h : BelowAlone requires b) (k : BelowEven b) where
  pub variable_behind-Even : (c : Context) (is_constexpr : Bool) (of : Numbered TypeTree) → c.angle ≡ 0 → Even (variable_behind b c is_constexpr of)
  unfolding variable_behind
  variable_behind-Even c is_constexpr of w = search evenness depth 8 fits 4000

  pub auto_variable_behind-Even : (c : Context) (is_constexpr : Bool) (of : Numbered AutoTree) → c.angle ≡ 0 → Even (auto_variable_behind b c is_constexpr of)
  unfolding auto_variable_behind
  auto_variable_behind-Even c is_constexpr of w = search evenness depth 8 fits 4000

  pub variable_of-Even : (c : Context) (is_constexpr : Bool) (of : Numbered TypeTree) → c.angle ≡ 0 → Even (variable_of b c is_constexpr of)
  unfolding variable_of
  variable_of-Even c is_constexpr of w = search (evenness, variable_behind-Even) depth 6 fits 4000

  pub variable_of_auto-Even : (c : Context) (is_constexpr : Bool) (of : Numbered AutoTree) → c.angle ≡ 0 → Even (variable_of_auto b c is_constexpr of)
  unfolding variable_of_auto
  variable_of_auto-Even c is_constexpr of w = search (evenness, auto_variable_behind-Even) depth 6 fits 4000

  pub expr_stmt_of-Even : (c : Context) (first : Numbered ExprTree) → c.angle ≡ 0 → Even (expr_stmt_of b c first)
  unfolding expr_stmt_of
  expr_stmt_of-Even c first w = search (evenness, expr_behind-Even) depth 7 fits 4000

  pub core_stmt-Even : (c : Context) (k' : Numbered (Placed CoreTree)) → c.angle ≡ 0 → Even (core_stmt b c k')
  unfolding core_stmt
  core_stmt-Even c k' w = search (evenness, type_behind-Even, behind_core-Even, tail-Even, variable_of-Even, expr_stmt_of-Even) depth 9 fits 4000

  pub head_stmt-Even : (c : Context) (k' : Numbered (Placed CoreTree)) → c.angle ≡ 0 → Even (head_stmt b c k')
  unfolding head_stmt
  head_stmt-Even c k' w = search (evenness, type_behind-Even, behind_head-Even, tail-Even, variable_of-Even, expr_stmt_of-Even) depth 9 fits 4000

  pub word_stmt-Even : (c : Context) (n : ℕ) → c.angle ≡ 0 → Even (word_stmt b c n)
  unfolding word_stmt
  word_stmt-Even c n w = search (evenness, scalar_behind-Even, type_behind-Even, behind_core-Even, tail-Even, variable_of-Even, expr_stmt_of-Even) depth 11 fits 4000

  pub typed_variable-Even : (c : Context) (is_constexpr : Bool) (n : ℕ) → c.angle ≡ 0 → Even (typed_variable b c is_constexpr n)
  unfolding typed_variable
  typed_variable-Even c is_constexpr n w = search (evenness, type_id-Even, variable_of-Even) depth 6 fits 4000

  pub constrained_auto-Even : (c : Context) (at : Option Place) (is_constexpr : Bool) (before : Bool) (n : ℕ) → c.angle ≡ 0 → Even (constrained_auto b c at is_constexpr before n)
  unfolding constrained_auto
  constrained_auto-Even c at is_constexpr before n w = search (evenness, auto_behind-Filled, variable_of_auto-Even, variable_of_auto-Filled) depth 7 fits 4000

  pub plain_auto-Even : (c : Context) (at : Option Place) (is_constexpr : Bool) (before : Bool) (n : ℕ) → c.angle ≡ 0 → Even (plain_auto b c at is_constexpr before n)
  unfolding plain_auto
  plain_auto-Even c at is_constexpr before n w = search (evenness, variable_of_auto-Even, variable_of_auto-Filled) depth 6 fits 4000

  pub const_variable-Even : (c : Context) (is_constexpr : Bool) (n : ℕ) → c.angle ≡ 0 → Even (const_variable b c is_constexpr n)
  unfolding const_variable
  const_variable-Even c is_constexpr n w = search (evenness, type_behind-Even, variable_of-Even, constrained_auto-Even, plain_auto-Even, k.core) depth 10 fits 4000

  pub variable-Even : (c : Context) (is_constexpr : Bool) (n : ℕ) → c.angle ≡ 0 → Even (variable b c is_constexpr n)
  unfolding variable
  variable-Even c is_constexpr n w = search (evenness, typed_variable-Even, constrained_auto-Even, plain_auto-Even, const_variable-Even) depth 8 fits 4000

  pub concept_stmt-Even : (c : Context) (n : ℕ) → c.angle ≡ 0 → Even (concept_stmt b c n)
  unfolding concept_stmt
  concept_stmt-Even c n w = search (evenness, tail-Even, auto_behind-Filled, variable_of_auto-Even, variable_of_auto-Filled, expr_stmt_of-Even, expr_stmt_of-Filled) depth 9 fits 4000

  pub expr_stmt-Even : (c : Context) (n : ℕ) → c.angle ≡ 0 → Even (expr_stmt b c n)
  unfolding expr_stmt
  expr_stmt-Even c n w = search (evenness, expr-Even) depth 7 fits 4000

  pub open_stmt-Even : (c : Context) (n : ℕ) → c.angle ≡ 0 → Even (open_stmt b c n)
  unfolding open_stmt
  open_stmt-Even c n w = search (evenness, core_stmt-Even, head_stmt-Even, word_stmt-Even, typed_variable-Even, plain_auto-Even, const_variable-Even, variable-Even, variable-Filled, concept_stmt-Even, expr_stmt-Even, k.core) depth 16 fits 4000

  pub assertion-Even : (c : Context) (n : ℕ) → c.angle ≡ 0 → Even (assertion b c n)
  unfolding assertion
  assertion-Even c n w = search (evenness, k.expr) depth 14 fits 4000

module _ {requires : Bool} {b : Within} (h : WithinFilled requires b) (k : WithinEven b) where
  pub block-Even : (c : Context) (n : ℕ) → c.angle ≡ 0 → Even (block b c n)
  unfolding block
  block-Even c n w = search (evenness, repeat-Even) depth 8 fits 4000

  pub substatement-Even : (c : Context) (n : ℕ) → c.angle ≡ 0 → Even (substatement b c n)
  unfolding substatement
  substatement-Even c n w = search (evenness, k.bare) depth 6 fits 4000

  pub alternative-Even : (c : Context) (at : Mark) (is_constexpr : Bool) (test : ExprTree) (then' : Numbered StmtTree) → c.angle ≡ 0 → Even (alternative b c at is_constexpr test then')
  unfolding alternative
  alternative-Even c at is_constexpr test then' w = search (evenness, substatement-Even) depth 8 fits 4000

  pub if_stmt-Even : (c : Context) (n : ℕ) → c.angle ≡ 0 → Even (if_stmt b c n)
  unfolding if_stmt
  if_stmt-Even c n w = search (evenness, condition-Filled h.base, substatement-Even, substatement-Filled, alternative-Even) depth 11 fits 4000

  pub while_stmt-Even : (c : Context) (n : ℕ) → c.angle ≡ 0 → Even (while_stmt b c n)
  unfolding while_stmt
  while_stmt-Even c n w = search (evenness, substatement-Even, substatement-Filled) depth 8 fits 4000

  pub for_stmt-Even : (c : Context) (n : ℕ) → c.angle ≡ 0 → Even (for_stmt b c n)
  unfolding for_stmt
  for_stmt-Even c n w = search (evenness, substatement-Even) depth 10 fits 4000

module _ {requires : Bool} {b : Below} (h : BelowAlone requires b) (k : BelowEven b) where
  pub return_stmt-Even : (c : Context) (n : ℕ) → c.angle ≡ 0 → Even (return_stmt b c n)
  unfolding return_stmt
  return_stmt-Even c n w = search evenness depth 8 fits 4000

pub jump-Even : (text : List ℕ) (make : Mark → StmtTree) (c : Context) (n : ℕ) → Even (jump text make c n)
unfolding jump
jump-Even text make c n = search evenness depth 7 fits 4000

pub empty_stmt-Even : (c : Context) (n : ℕ) → Even (empty_stmt c n)
unfolding empty_stmt
empty_stmt-Even c n = search evenness depth 6 fits 4000

pub closed_stmt-Even : (c : Context) {p : Production (Numbered StmtTree)} → Even p → Even (closed_stmt c p)
closed_stmt-Even c h = search evenness

module _ {requires : Bool} {b : Within} (h : WithinFilled requires b) (k : WithinEven b) where
  pub bare_stmt-Even : (c : Context) (n : ℕ) → c.angle ≡ 0 → Even (bare_stmt b c n)
  unfolding bare_stmt
  bare_stmt-Even c n w = search (evenness, open_stmt-Even h.base k.base, assertion-Even h.base k.base, block-Even, if_stmt-Even, while_stmt-Even, for_stmt-Even, return_stmt-Even h.base k.base, jump-Even, empty_stmt-Even, closed_stmt-Even) depth 15 fits 4000

  pub stmt-Even : (c : Context) (n : ℕ) → c.angle ≡ 0 → Even (stmt b c n)
  unfolding stmt
  stmt-Even c n w = search (evenness, k.bare) depth 6 fits 4000

  pub function_body-Even : (c : Context) (n : ℕ) → c.angle ≡ 0 → Even (function_body b c n)
  unfolding function_body
  function_body-Even c n w = search (evenness, block-Even) depth 8 fits 4000

  pub function_behind-Even : (is_member : Bool) (templated : Bool) (c : Context) (s : Specifiers) (result : Numbered TypeTree) (name : Piece) → c.angle ≡ 0 → Even (function_behind is_member templated b c s result name)
  unfolding function_behind
  function_behind-Even is_member templated c s result name w = search (evenness, function_body-Even, function_body-Filled) depth 11 fits 4000

module _ {requires : Bool} {b : Below} (h : BelowAlone requires b) (k : BelowEven b) where
  pub constant_behind-Even : (c : Context) (s : Specifiers) (of : Numbered TypeTree) (name : Piece) → c.angle ≡ 0 → Even (constant_behind b c s of name)
  unfolding constant_behind
  constant_behind-Even c s of name w = search evenness depth 7 fits 4000

  pub alias-Even : (c : Context) (n : ℕ) → c.angle ≡ 0 → Even (alias b c n)
  unfolding alias
  alias-Even c n w = search (evenness, type_id-Even) depth 10 fits 4000

module _ {requires : Bool} {b : Within} (h : WithinFilled requires b) (k : WithinEven b) where
  pub variable_or_function-Even : (c : Context) (n : ℕ) → c.angle ≡ 0 → Even (variable_or_function b c n)
  unfolding variable_or_function
  variable_or_function-Even c n w = search (evenness, type_id-Even h.base k.base, type_id-Filled h.base, function_behind-Even, constant_behind-Even h.base k.base) depth 11 fits 4000

  pub struct_body-Even : (templated : Bool) (c : Context) (n : ℕ) → c.angle ≡ 0 → Even (struct_body templated b c n)
  unfolding struct_body
  struct_body-Even templated c n w = search evenness depth 9 fits 4000

  pub struct_behind-Even : (templated : Bool) (c : Context) (k' : NameKind) (name : Piece) (n : ℕ) → c.angle ≡ 0 → Even (struct_behind templated b c k' name n)
  unfolding struct_behind
  struct_behind-Even templated c k' name n w = search (evenness, struct_body-Even) depth 6 fits 4000

  pub struct-Even : (c : Context) (n : ℕ) → c.angle ≡ 0 → Even (struct b c n)
  unfolding struct
  struct-Even c n w = search (evenness, struct_behind-Even) depth 8 fits 4000

module _ {requires : Bool} {b : Below} (h : BelowAlone requires b) (k : BelowEven b) where
  pub concept-Even : (c : Context) (n : ℕ) → c.angle ≡ 0 → Even (concept b c n)
  unfolding concept
  concept-Even c n w = search (evenness, unary-Even, rests-Even) depth 11 fits 4000

module _ {requires : Bool} {b : Within} (h : WithinFilled requires b) (k : WithinEven b) where
  pub specialisation-Even : (full : Bool) (c : Context) (name : Piece) (n : ℕ) → c.angle ≡ 0 → Even (specialisation full b c name n)
  unfolding specialisation
  specialisation-Even full c name n w = search (evenness, argument_list-Even h.base k.base, struct_body-Even) depth 7 fits 4000

  pub templated_struct-Even : (full : Bool) (c : Context) (n : ℕ) → c.angle ≡ 0 → Even (templated_struct full b c n)
  unfolding templated_struct
  templated_struct-Even full c n w = search (evenness, struct_behind-Even, struct_behind-Filled, specialisation-Even, specialisation-Filled) depth 9 fits 4000

  pub templated_function-Even : (c : Context) (n : ℕ) → c.angle ≡ 0 → Even (templated_function b c n)
  unfolding templated_function
  templated_function-Even c n w = search (evenness, type_id-Even h.base k.base, type_id-Filled h.base, function_behind-Even) depth 9 fits 4000

  pub templated-Even : (ps : List TemplateParameterTree) (has_clause : Bool) (c : Context) (n : ℕ) → c.angle ≡ 0 → Even (templated ps has_clause b c n)
  unfolding templated
  templated-Even ps has_clause c n w = search (evenness, concept-Even h.base k.base, templated_struct-Even, templated_function-Even) depth 7 fits 4000

  pub template-Even : (c : Context) (n : ℕ) → c.angle ≡ 0 → Even (template b c n)
  unfolding template
  template-Even c n w = search (evenness, templated-Even, templated-Filled) depth 11 fits 4000

  pub decl-Even : (c : Context) (n : ℕ) → c.angle ≡ 0 → Even (decl b c n)
  unfolding decl
  decl-Even c n w = search (evenness, assertion-Even h.base k.base, alias-Even h.base k.base, variable_or_function-Even, struct-Even, template-Even) depth 13 fits 4000

  pub unit-Even : Even (unit b)
  unfolding unit
  unit-Even = search (evenness, repeat-Even) depth 7 fits 4000

pub unit_levels-Even : (requires : Bool) (n : ℕ) → WithinEven (unit_levels requires n)
unfolding unit_levels
unit_levels-Even requires zero = record {
  base = levels-Even requires 0;
  stmt = λ c m w. closed-Even;
  bare = λ c m w. closed-Even;
  decl = λ c m w. closed-Even;
}
unit_levels-Even requires (suc n) = record {
  base = levels-Even requires (suc n);
  stmt = stmt-Even (levels-Filled n) (unit_levels-Even requires n);
  bare = bare_stmt-Even (levels-Filled n) (unit_levels-Even requires n);
  decl = decl-Even (levels-Filled n) (unit_levels-Even requires n);
}
