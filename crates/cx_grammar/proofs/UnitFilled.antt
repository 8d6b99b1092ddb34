-- Statements and declarations are not empty.
use Rattle.std.proofs.Common.{ℕ, zero, suc, Bool, List, Option}
use Rattle.cx_base.specs.declared.place.Place.{Place}
use Rattle.cx_scope.specs.declared.name_kind.NameKind.{NameKind}
use Rattle.cx_tree.specs.Trees.{Mark, ExprTree, TypeTree, CoreTree, ConstraintTree}
use Rattle.cx_tree.specs.Statements.{AutoTree, StmtTree}
use Rattle.cx_tree.specs.Declarations.{Specifiers, ParameterTree, MemberTree, TemplateParameterTree, DeclTree}
use Rattle.cx_grammar.specs.Pieces.{Piece}
use Rattle.cx_grammar.specs.Names.{Context}
use Rattle.cx_grammar.specs.Types.{Numbered, Placed, Below, Named}
use Rattle.cx_grammar.specs.Statements.{Within, condition, value_init, list_init, init, variable_behind, auto_variable_behind, auto_behind, variable_of, variable_of_auto, expr_stmt_of, core_stmt, head_stmt, word_stmt, typed_variable, constrained_auto, plain_auto, const_variable, variable, concept_stmt, expr_stmt, open_stmt, assertion, more_stmt, block, substatement, if_stmt, while_stmt, for_init, for_stmt, return_stmt, jump, empty_stmt, bare_stmt, stmt}
use Rattle.cx_grammar.specs.Declarations.{unit_levels, auto_parameter, const_parameter, parameter, more_parameter, void_parameters, function_body, function_behind, constant_behind, alias, variable_or_function, static_member, field_or_function, struct_member, more_member, struct_body, struct_behind, struct, type_parameter, constrained_parameter, value_parameter, template_parameter, more_template_parameter, concept, specialisation, templated_struct, templated_function, templated, template, decl, more_decl, unit}
use Rattle.cx_grammar.proofs.Alone.{Filled, token-Filled, first-Filled, second-Filled, when-Filled, given-Filled, closed-Filled}
use Rattle.cx_grammar.proofs.AloneTypes.{argument_list-Filled, BelowAlone, type_id-Filled, scalar_core-Filled}
use Rattle.cx_grammar.proofs.AloneExpressions.{levels-Alone, expr-Filled, behind_core-Filled, behind_head-Filled}
use Rattle.cx_grammar.proofs.Requires.{constraint-Filled}

-- what a level has
pub record WithinFilled (requires : Bool) (b : Within) : Type 0 where
  pub base : BelowAlone requires b.base
  pub stmt : (c : Context) (n : ℕ) → Filled (b.stmt c n)
  pub bare : (c : Context) (n : ℕ) → Filled (b.bare c n)
  pub decl : (c : Context) (n : ℕ) → Filled (b.decl c n)

ruleset filling = (token-Filled, first-Filled, second-Filled, when-Filled, given-Filled)

module _ {requires : Bool} {b : Below} (h : BelowAlone requires b) where
  pub condition-Filled : (c : Context) (n : ℕ) → Filled (condition b c n)
  unfolding condition
  condition-Filled c n = search filling depth 6

  pub value_init-Filled : (c : Context) (n : ℕ) → Filled (value_init b c n)
  unfolding value_init
  value_init-Filled c n = search filling depth 5

  pub list_init-Filled : (c : Context) (n : ℕ) → Filled (list_init b c n)
  unfolding list_init
  list_init-Filled c n = search filling depth 6

  pub init-Filled : (c : Context) (n : ℕ) → Filled (init b c n)
  unfolding init
  init-Filled c n = search (filling, value_init-Filled, list_init-Filled) depth 5

  pub variable_behind-Filled : (c : Context) (is_constexpr : Bool) (of : Numbered TypeTree) → Filled (variable_behind b c is_constexpr of)
  unfolding variable_behind
  variable_behind-Filled c is_constexpr of = search filling depth 6

  pub auto_variable_behind-Filled : (c : Context) (is_constexpr : Bool) (of : Numbered AutoTree) → Filled (auto_variable_behind b c is_constexpr of)
  unfolding auto_variable_behind
  auto_variable_behind-Filled c is_constexpr of = search filling depth 6

pub auto_behind-Filled : (c : Context) (at : Option Place) (before : Bool) (constrained : Option ConstraintTree) (n : ℕ) → Filled (auto_behind c at before constrained n)
unfolding auto_behind
auto_behind-Filled c at before constrained n = search filling depth 6

module _ {requires : Bool} {b : Below} (h : BelowAlone requires b) where
  pub variable_of-Filled : (c : Context) (is_constexpr : Bool) (of : Numbered TypeTree) → Filled (variable_of b c is_constexpr of)
  unfolding variable_of
  variable_of-Filled c is_constexpr of = search (filling, variable_behind-Filled) depth 5

  pub variable_of_auto-Filled : (c : Context) (is_constexpr : Bool) (of : Numbered AutoTree) → Filled (variable_of_auto b c is_constexpr of)
  unfolding variable_of_auto
  variable_of_auto-Filled c is_constexpr of = search (filling, auto_variable_behind-Filled) depth 5

  pub expr_stmt_of-Filled : (c : Context) (first : Numbered ExprTree) → Filled (expr_stmt_of b c first)
  unfolding expr_stmt_of
  expr_stmt_of-Filled c first = search filling depth 5

  pub core_stmt-Filled : (c : Context) (k : Numbered (Placed CoreTree)) → Filled (core_stmt b c k)
  unfolding core_stmt
  core_stmt-Filled c k = search (filling, behind_core-Filled, variable_of-Filled) depth 7

  pub head_stmt-Filled : (c : Context) (k : Numbered (Placed CoreTree)) → Filled (head_stmt b c k)
  unfolding head_stmt
  head_stmt-Filled c k = search (filling, behind_head-Filled, variable_of-Filled) depth 7

  pub word_stmt-Filled : (c : Context) (n : ℕ) → Filled (word_stmt b c n)
  unfolding word_stmt
  word_stmt-Filled c n = search filling depth 9

  pub typed_variable-Filled : (c : Context) (is_constexpr : Bool) (n : ℕ) → Filled (typed_variable b c is_constexpr n)
  unfolding typed_variable
  typed_variable-Filled c is_constexpr n = search (filling, type_id-Filled, variable_of-Filled) depth 5

  pub constrained_auto-Filled : (c : Context) (at : Option Place) (is_constexpr : Bool) (before : Bool) (n : ℕ) → Filled (constrained_auto b c at is_constexpr before n)
  unfolding constrained_auto
  constrained_auto-Filled c at is_constexpr before n = search (filling, constraint-Filled) depth 5

  pub plain_auto-Filled : (c : Context) (at : Option Place) (is_constexpr : Bool) (before : Bool) (n : ℕ) → Filled (plain_auto b c at is_constexpr before n)
  unfolding plain_auto
  plain_auto-Filled c at is_constexpr before n = search (filling, auto_behind-Filled, variable_of_auto-Filled) depth 5

  pub const_variable-Filled : (c : Context) (is_constexpr : Bool) (n : ℕ) → Filled (const_variable b c is_constexpr n)
  unfolding const_variable
  const_variable-Filled c is_constexpr n = search filling depth 8

  pub variable-Filled : (c : Context) (is_constexpr : Bool) (n : ℕ) → Filled (variable b c is_constexpr n)
  unfolding variable
  variable-Filled c is_constexpr n = search (filling, typed_variable-Filled, constrained_auto-Filled, plain_auto-Filled, const_variable-Filled) depth 6

  pub concept_stmt-Filled : (c : Context) (n : ℕ) → Filled (concept_stmt b c n)
  unfolding concept_stmt
  concept_stmt-Filled c n = search (filling, constraint-Filled) depth 7

  pub expr_stmt-Filled : (c : Context) (n : ℕ) → Filled (expr_stmt b c n)
  unfolding expr_stmt
  expr_stmt-Filled c n = search (filling, expr-Filled) depth 5

  pub open_stmt-Filled : (c : Context) (n : ℕ) → Filled (open_stmt b c n)
  unfolding open_stmt
  open_stmt-Filled c n = search (filling, core_stmt-Filled, head_stmt-Filled, word_stmt-Filled, typed_variable-Filled, plain_auto-Filled, const_variable-Filled, variable-Filled, concept_stmt-Filled, expr_stmt-Filled, h.some_core) depth 14

  pub assertion-Filled : (c : Context) (n : ℕ) → Filled (assertion b c n)
  unfolding assertion
  assertion-Filled c n = search filling depth 12

module _ {requires : Bool} {b : Within} (h : WithinFilled requires b) where
  pub more_stmt-Filled : (c : Context) (so_far : Named (List StmtTree)) → Filled (more_stmt b c so_far)
  more_stmt-Filled c so_far = search (filling, h.stmt) depth 5

  pub block-Filled : (c : Context) (n : ℕ) → Filled (block b c n)
  unfolding block
  block-Filled c n = search filling depth 6

  pub substatement-Filled : (c : Context) (n : ℕ) → Filled (substatement b c n)
  unfolding substatement
  substatement-Filled c n = search (filling, h.bare) depth 5

  pub if_stmt-Filled : (c : Context) (n : ℕ) → Filled (if_stmt b c n)
  unfolding if_stmt
  if_stmt-Filled c n = search filling depth 9

  pub while_stmt-Filled : (c : Context) (n : ℕ) → Filled (while_stmt b c n)
  unfolding while_stmt
  while_stmt-Filled c n = search filling depth 6

module _ {requires : Bool} {b : Below} (h : BelowAlone requires b) where
  pub for_init-Filled : (c : Context) (n : ℕ) → Filled (for_init b c n)
  unfolding for_init
  for_init-Filled c n = search (filling, open_stmt-Filled) depth 6

module _ {requires : Bool} {b : Within} (h : WithinFilled requires b) where
  pub for_stmt-Filled : (c : Context) (n : ℕ) → Filled (for_stmt b c n)
  unfolding for_stmt
  for_stmt-Filled c n = search filling depth 8

module _ {requires : Bool} {b : Below} (h : BelowAlone requires b) where
  pub return_stmt-Filled : (c : Context) (n : ℕ) → Filled (return_stmt b c n)
  unfolding return_stmt
  return_stmt-Filled c n = search filling depth 6

pub jump-Filled : (text : List ℕ) (make : Mark → StmtTree) (c : Context) (n : ℕ) → Filled (jump text make c n)
unfolding jump
jump-Filled text make c n = search filling depth 5

pub empty_stmt-Filled : (c : Context) (n : ℕ) → Filled (empty_stmt c n)
unfolding empty_stmt
empty_stmt-Filled c n = search filling depth 5

module _ {requires : Bool} {b : Within} (h : WithinFilled requires b) where
  pub bare_stmt-Filled : (c : Context) (n : ℕ) → Filled (bare_stmt b c n)
  unfolding bare_stmt
  bare_stmt-Filled c n = search (filling, open_stmt-Filled h.base, assertion-Filled h.base, block-Filled, if_stmt-Filled, while_stmt-Filled, for_stmt-Filled, return_stmt-Filled h.base, jump-Filled, empty_stmt-Filled) depth 13

  pub stmt-Filled : (c : Context) (n : ℕ) → Filled (stmt b c n)
  unfolding stmt
  stmt-Filled c n = search (filling, h.bare) depth 5

pub auto_parameter-Filled : (c : Context) (at : Option Place) (before : Bool) (constrained : Option ConstraintTree) (n : ℕ) → Filled (auto_parameter c at before constrained n)
unfolding auto_parameter
auto_parameter-Filled c at before constrained n = search (filling, auto_behind-Filled) depth 5

module _ {requires : Bool} {b : Below} (h : BelowAlone requires b) where
  pub const_parameter-Filled : (autos : Bool) (c : Context) (n : ℕ) → Filled (const_parameter autos b c n)
  unfolding const_parameter
  const_parameter-Filled autos c n = search filling depth 9

  pub parameter-Filled : (autos : Bool) (c : Context) (n : ℕ) → Filled (parameter autos b c n)
  unfolding parameter
  parameter-Filled autos c n = search (filling, type_id-Filled, constraint-Filled, auto_parameter-Filled, const_parameter-Filled) depth 8

  pub more_parameter-Filled : (autos : Bool) (c : Context) (so_far : Named (List ParameterTree)) → Filled (more_parameter autos b c so_far)
  more_parameter-Filled autos c so_far = search filling depth 5

  pub void_parameters-Filled : (autos : Bool) (c : Context) (n : ℕ) → Filled (void_parameters autos b c n)
  unfolding void_parameters
  void_parameters-Filled autos c n = search filling depth 7

module _ {requires : Bool} {b : Within} (h : WithinFilled requires b) where
  pub function_body-Filled : (c : Context) (n : ℕ) → Filled (function_body b c n)
  unfolding function_body
  function_body-Filled c n = search (filling, block-Filled) depth 6

  pub function_behind-Filled : (is_member : Bool) (templated : Bool) (c : Context) (s : Specifiers) (result : Numbered TypeTree) (name : Piece) → Filled (function_behind is_member templated b c s result name)
  unfolding function_behind
  function_behind-Filled is_member templated c s result name = search filling depth 9

module _ {requires : Bool} {b : Below} (h : BelowAlone requires b) where
  pub constant_behind-Filled : (c : Context) (s : Specifiers) (of : Numbered TypeTree) (name : Piece) → Filled (constant_behind b c s of name)
  unfolding constant_behind
  constant_behind-Filled c s of name = search filling depth 5

  pub alias-Filled : (c : Context) (n : ℕ) → Filled (alias b c n)
  unfolding alias
  alias-Filled c n = search filling depth 8

module _ {requires : Bool} {b : Within} (h : WithinFilled requires b) where
  pub variable_or_function-Filled : (c : Context) (n : ℕ) → Filled (variable_or_function b c n)
  unfolding variable_or_function
  variable_or_function-Filled c n = search (filling, type_id-Filled h.base) depth 9

module _ {requires : Bool} {b : Below} (h : BelowAlone requires b) where
  pub static_member-Filled : (c : Context) (n : ℕ) → Filled (static_member b c n)
  unfolding static_member
  static_member-Filled c n = search filling depth 10

module _ {requires : Bool} {b : Within} (h : WithinFilled requires b) where
  pub field_or_function-Filled : (templated : Bool) (c : Context) (n : ℕ) → Filled (field_or_function templated b c n)
  unfolding field_or_function
  field_or_function-Filled templated c n = search (filling, type_id-Filled h.base) depth 9

  pub struct_member-Filled : (templated : Bool) (c : Context) (n : ℕ) → Filled (struct_member templated b c n)
  unfolding struct_member
  struct_member-Filled templated c n = search (filling, alias-Filled h.base, static_member-Filled h.base, field_or_function-Filled) depth 8

  pub more_member-Filled : (templated : Bool) (c : Context) (so_far : Named (List MemberTree)) → Filled (more_member templated b c so_far)
  more_member-Filled templated c so_far = search (filling, struct_member-Filled) depth 5

  pub struct_body-Filled : (templated : Bool) (c : Context) (n : ℕ) → Filled (struct_body templated b c n)
  unfolding struct_body
  struct_body-Filled templated c n = search filling depth 7

  pub struct_behind-Filled : (templated : Bool) (c : Context) (k : NameKind) (name : Piece) (n : ℕ) → Filled (struct_behind templated b c k name n)
  unfolding struct_behind
  struct_behind-Filled templated c k name n = search (filling, struct_body-Filled) depth 5

  pub struct-Filled : (c : Context) (n : ℕ) → Filled (struct b c n)
  unfolding struct
  struct-Filled c n = search filling depth 6

module _ {requires : Bool} {b : Below} (h : BelowAlone requires b) where
  pub type_parameter-Filled : (c : Context) (n : ℕ) → Filled (type_parameter b c n)
  unfolding type_parameter
  type_parameter-Filled c n = search filling depth 6

  pub constrained_parameter-Filled : (c : Context) (n : ℕ) → Filled (constrained_parameter b c n)
  unfolding constrained_parameter
  constrained_parameter-Filled c n = search (filling, constraint-Filled) depth 6

  pub value_parameter-Filled : (c : Context) (n : ℕ) → Filled (value_parameter b c n)
  unfolding value_parameter
  value_parameter-Filled c n = search (filling, scalar_core-Filled) depth 6

  pub template_parameter-Filled : (c : Context) (n : ℕ) → Filled (template_parameter b c n)
  unfolding template_parameter
  template_parameter-Filled c n = search (filling, type_parameter-Filled, constrained_parameter-Filled, value_parameter-Filled) depth 5

  pub more_template_parameter-Filled : (c : Context) (so_far : Named (List TemplateParameterTree)) → Filled (more_template_parameter b c so_far)
  more_template_parameter-Filled c so_far = search filling depth 5

  pub concept-Filled : (c : Context) (n : ℕ) → Filled (concept b c n)
  unfolding concept
  concept-Filled c n = search filling depth 9

module _ {requires : Bool} {b : Within} (h : WithinFilled requires b) where
  pub specialisation-Filled : (full : Bool) (c : Context) (name : Piece) (n : ℕ) → Filled (specialisation full b c name n)
  unfolding specialisation
  specialisation-Filled full c name n = search (filling, argument_list-Filled h.base) depth 5

  pub templated_struct-Filled : (full : Bool) (c : Context) (n : ℕ) → Filled (templated_struct full b c n)
  unfolding templated_struct
  templated_struct-Filled full c n = search filling depth 7

  pub templated_function-Filled : (c : Context) (n : ℕ) → Filled (templated_function b c n)
  unfolding templated_function
  templated_function-Filled c n = search (filling, type_id-Filled h.base) depth 7

  pub templated-Filled : (ps : List TemplateParameterTree) (has_clause : Bool) (c : Context) (n : ℕ) → Filled (templated ps has_clause b c n)
  unfolding templated
  templated-Filled ps has_clause c n = search (filling, concept-Filled h.base, templated_struct-Filled, templated_function-Filled) depth 5

  pub template-Filled : (c : Context) (n : ℕ) → Filled (template b c n)
  unfolding template
  template-Filled c n = search filling depth 9

  pub decl-Filled : (c : Context) (n : ℕ) → Filled (decl b c n)
  unfolding decl
  decl-Filled c n = search (filling, assertion-Filled h.base, alias-Filled h.base, variable_or_function-Filled, struct-Filled, template-Filled) depth 11

  pub more_decl-Filled : (c : Context) (so_far : Named (List DeclTree)) → Filled (more_decl b c so_far)
  more_decl-Filled c so_far = search (filling, h.decl) depth 5

  pub unit-Filled : Filled (unit b)
  unfolding unit
  unit-Filled = search filling depth 5

pub levels-Filled : {requires : Bool} (n : ℕ) → WithinFilled requires (unit_levels requires n)
unfolding unit_levels
levels-Filled zero = record { base = levels-Alone 0; stmt = λ c n. closed-Filled; bare = λ c n. closed-Filled; decl = λ c n. closed-Filled }
levels-Filled (suc n) = record {
  base = levels-Alone (suc n);
  stmt = λ c m. stmt-Filled (levels-Filled n) c m;
  bare = λ c m. bare_stmt-Filled (levels-Filled n) c m;
  decl = λ c m. decl-Filled (levels-Filled n) c m;
}
