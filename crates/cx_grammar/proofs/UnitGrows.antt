-- The laws of the productions of statements, declarations and units.
use Rattle.std.proofs.Common.{ℕ, zero, suc, Bool, List, Option}
use Rattle.cx_base.specs.declared.place.Place.{Place}
use Rattle.cx_scope.specs.declared.name_kind.NameKind.{NameKind}
use Rattle.cx_tree.specs.Trees.{Mark, ExprTree, TypeTree, CoreTree, ConstraintTree}
use Rattle.cx_tree.specs.Statements.{AutoTree, WrittenType, StmtTree}
use Rattle.cx_tree.specs.Declarations.{Specifiers, ParameterTree, MemberTree, TemplateParameterTree, DeclTree}
use Rattle.cx_grammar.specs.Pieces.{Piece}
use Rattle.cx_grammar.specs.Production.{Production}
use Rattle.cx_grammar.specs.Names.{Context}
use Rattle.cx_grammar.specs.Types.{Numbered, Placed, Below, Named}
use Rattle.cx_grammar.specs.Expressions.{levels}
use Rattle.cx_grammar.specs.Statements.{Within, condition, value_init, list_init, init, variable_behind, auto_variable_behind, const_behind_auto, reference_behind_auto, auto_behind, variable_of, variable_of_auto, expr_stmt_of, core_stmt, head_stmt, word_stmt, typed_variable, constrained_auto, plain_auto, const_variable, variable, concept_stmt, expr_stmt, open_stmt, assertion, more_stmt, block, substatement, alternative, if_stmt, while_stmt, maybe_expr, for_init, for_head, for_stmt, return_stmt, jump, empty_stmt, closed_stmt, bare_stmt, stmt}
use Rattle.cx_grammar.specs.Declarations.{unit_levels, is_free, with_specifier, specifiers_from, specifiers, parameter_behind, typed_parameter, auto_parameter, const_parameter, parameter, more_parameter, parameters_behind, void_parameters, parameters, trailing, maybe_const_member, function_body, function_behind, constant_behind, alias, variable_or_function, static_member, field_or_function, struct_member, more_member, members, struct_body, struct_behind, struct, maybe_name, default_type, default_value, type_parameter, constrained_parameter, value_parameter, template_parameter, more_template_parameter, template_parameters, concept, specialisation, templated_struct, templated_function, templated, maybe_clause, template, decl, more_decl, unit}
use Rattle.cx_grammar.proofs.Lawful.{Grows}
use Rattle.cx_grammar.proofs.Combinators.{Steps, token-Steps, turns-Grows, give-Grows, token-Grows, then-Grows, when-Grows, closed-Lawful, closed-Grows, same-Grows}
use Rattle.cx_grammar.proofs.Alone.{filled-Steps}
use Rattle.cx_grammar.proofs.Types.{BelowGrows, growing, argument_list-Grows, scalar_behind-Grows, scalar_core-Grows, type_id-Grows, type_behind-Grows}
use Rattle.cx_grammar.proofs.Expressions.{levels-Grows, nothing-Grows, behind_core-Grows, behind_head-Grows, clause-Grows, expr-Grows, expr_behind-Grows, exprs_until-Grows, rests-Grows, tail-Grows, unary-Grows}
use Rattle.cx_grammar.proofs.UnitFilled.{WithinFilled, levels-Filled, more_stmt-Filled, more_member-Filled, more_decl-Filled}
use Rattle.cx_grammar.proofs.Requires.{constraint-Grows}

-- all productions at a lower and at a higher level
pub record WithinGrows (requires : Bool) (b d : Within) : Type 0 where
  pub base : BelowGrows requires b.base d.base
  pub stmt : (c : Context) (n : ℕ) → Grows requires (b.stmt c n) (d.stmt c n)
  pub bare : (c : Context) (n : ℕ) → Grows requires (b.bare c n) (d.bare c n)
  pub head : (c : Context) (n : ℕ) → Grows requires (b.head c n) (d.head c n)
  pub parameters : (autos : Bool) (c : Context) (n : ℕ) → Grows requires (b.parameters autos c n) (d.parameters autos c n)
  pub members : (templated : Bool) (c : Context) (n : ℕ) → Grows requires (b.members templated c n) (d.members templated c n)
  pub template_parameters : (c : Context) (n : ℕ) → Grows requires (b.template_parameters c n) (d.template_parameters c n)
  pub decl : (c : Context) (n : ℕ) → Grows requires (b.decl c n) (d.decl c n)

module _ {requires : Bool} {b d : Below} (h : BelowGrows requires b d) where
  pub condition-Grows : (c : Context) (n : ℕ) → Grows requires (condition b c n) (condition d c n)
  unfolding condition
  condition-Grows c n = search (growing, h.expr) depth 6

  pub value_init-Grows : (c : Context) (n : ℕ) → Grows requires (value_init b c n) (value_init d c n)
  unfolding value_init
  value_init-Grows c n = search (growing, expr-Grows) depth 5

  pub list_init-Grows : (c : Context) (n : ℕ) → Grows requires (list_init b c n) (list_init d c n)
  unfolding list_init
  list_init-Grows c n = search (growing, exprs_until-Grows) depth 6

  pub init-Grows : (c : Context) (n : ℕ) → Grows requires (init b c n) (init d c n)
  unfolding init
  init-Grows c n = search (growing, value_init-Grows, list_init-Grows) depth 5

  pub variable_behind-Grows : (c : Context) (is_constexpr : Bool) (of : Numbered TypeTree) → Grows requires (variable_behind b c is_constexpr of) (variable_behind d c is_constexpr of)
  unfolding variable_behind
  variable_behind-Grows c is_constexpr of = search (growing, init-Grows) depth 6

  pub auto_variable_behind-Grows : (c : Context) (is_constexpr : Bool) (of : Numbered AutoTree) → Grows requires (auto_variable_behind b c is_constexpr of) (auto_variable_behind d c is_constexpr of)
  unfolding auto_variable_behind
  auto_variable_behind-Grows c is_constexpr of = search (growing, value_init-Grows) depth 6

pub const_behind_auto-Grows : {requires : Bool} (c : Context) (before : Bool) → Grows requires (const_behind_auto c before) (const_behind_auto c before)
unfolding const_behind_auto
const_behind_auto-Grows c before = search growing depth 5

pub reference_behind_auto-Grows : {requires : Bool} (c : Context) → Grows requires (reference_behind_auto c) (reference_behind_auto c)
unfolding reference_behind_auto
reference_behind_auto-Grows c = search growing depth 5

pub auto_behind-Grows : {requires : Bool} (c : Context) (at : Option Place) (before : Bool) (constrained : Option ConstraintTree) (n : ℕ) → Grows requires (auto_behind c at before constrained n) (auto_behind c at before constrained n)
unfolding auto_behind
auto_behind-Grows c at before constrained n = search (growing, const_behind_auto-Grows, reference_behind_auto-Grows) depth 6

module _ {requires : Bool} {b d : Below} (h : BelowGrows requires b d) where
  pub variable_of-Grows : (c : Context) (is_constexpr : Bool) (of : Numbered TypeTree) → Grows requires (variable_of b c is_constexpr of) (variable_of d c is_constexpr of)
  unfolding variable_of
  variable_of-Grows c is_constexpr of = search (growing, variable_behind-Grows) depth 5

  pub variable_of_auto-Grows : (c : Context) (is_constexpr : Bool) (of : Numbered AutoTree) → Grows requires (variable_of_auto b c is_constexpr of) (variable_of_auto d c is_constexpr of)
  unfolding variable_of_auto
  variable_of_auto-Grows c is_constexpr of = search (growing, auto_variable_behind-Grows) depth 5

  pub expr_stmt_of-Grows : (c : Context) (first : Numbered ExprTree) → Grows requires (expr_stmt_of b c first) (expr_stmt_of d c first)
  unfolding expr_stmt_of
  expr_stmt_of-Grows c first = search (growing, expr_behind-Grows) depth 5

  pub core_stmt-Grows : (c : Context) (k : Numbered (Placed CoreTree)) → Grows requires (core_stmt b c k) (core_stmt d c k)
  unfolding core_stmt
  core_stmt-Grows c k = search (growing, type_behind-Grows, behind_core-Grows, tail-Grows, variable_of-Grows, expr_stmt_of-Grows) depth 7

  pub head_stmt-Grows : (c : Context) (k : Numbered (Placed CoreTree)) → Grows requires (head_stmt b c k) (head_stmt d c k)
  unfolding head_stmt
  head_stmt-Grows c k = search (growing, type_behind-Grows, behind_head-Grows, tail-Grows, variable_of-Grows, expr_stmt_of-Grows) depth 7

  pub word_stmt-Grows : (c : Context) (n : ℕ) → Grows requires (word_stmt b c n) (word_stmt d c n)
  unfolding word_stmt
  word_stmt-Grows c n = search (growing, scalar_behind-Grows, type_behind-Grows, behind_core-Grows, tail-Grows, variable_of-Grows, expr_stmt_of-Grows) depth 9

  pub typed_variable-Grows : (c : Context) (is_constexpr : Bool) (n : ℕ) → Grows requires (typed_variable b c is_constexpr n) (typed_variable d c is_constexpr n)
  unfolding typed_variable
  typed_variable-Grows c is_constexpr n = search (growing, type_id-Grows, variable_of-Grows) depth 5

  pub constrained_auto-Grows : (c : Context) (at : Option Place) (is_constexpr : Bool) (before : Bool) (n : ℕ) → Grows requires (constrained_auto b c at is_constexpr before n) (constrained_auto d c at is_constexpr before n)
  unfolding constrained_auto
  constrained_auto-Grows c at is_constexpr before n = search (growing, constraint-Grows, auto_behind-Grows, variable_of_auto-Grows) depth 5

  pub plain_auto-Grows : (c : Context) (at : Option Place) (is_constexpr : Bool) (before : Bool) (n : ℕ) → Grows requires (plain_auto b c at is_constexpr before n) (plain_auto d c at is_constexpr before n)
  unfolding plain_auto
  plain_auto-Grows c at is_constexpr before n = search (growing, auto_behind-Grows, variable_of_auto-Grows) depth 5

  pub const_variable-Grows : (c : Context) (is_constexpr : Bool) (n : ℕ) → Grows requires (const_variable b c is_constexpr n) (const_variable d c is_constexpr n)
  unfolding const_variable
  const_variable-Grows c is_constexpr n = search (growing, type_behind-Grows, variable_of-Grows, constrained_auto-Grows, plain_auto-Grows, h.core) depth 8

  pub variable-Grows : (c : Context) (is_constexpr : Bool) (n : ℕ) → Grows requires (variable b c is_constexpr n) (variable d c is_constexpr n)
  unfolding variable
  variable-Grows c is_constexpr n = search (growing, typed_variable-Grows, constrained_auto-Grows, plain_auto-Grows, const_variable-Grows) depth 6

  pub concept_stmt-Grows : (c : Context) (n : ℕ) → Grows requires (concept_stmt b c n) (concept_stmt d c n)
  unfolding concept_stmt
  concept_stmt-Grows c n = search (growing, tail-Grows, constraint-Grows, auto_behind-Grows, variable_of_auto-Grows, expr_stmt_of-Grows) depth 7

  pub expr_stmt-Grows : (c : Context) (n : ℕ) → Grows requires (expr_stmt b c n) (expr_stmt d c n)
  unfolding expr_stmt
  expr_stmt-Grows c n = search (growing, expr-Grows) depth 5

  pub open_stmt-Grows : (c : Context) (n : ℕ) → Grows requires (open_stmt b c n) (open_stmt d c n)
  unfolding open_stmt
  open_stmt-Grows c n = search (growing, core_stmt-Grows, head_stmt-Grows, word_stmt-Grows, typed_variable-Grows, plain_auto-Grows, const_variable-Grows, variable-Grows, concept_stmt-Grows, expr_stmt-Grows, h.core) depth 14

  pub assertion-Grows : (c : Context) (n : ℕ) → Grows requires (assertion b c n) (assertion d c n)
  unfolding assertion
  assertion-Grows c n = search (growing, h.expr) depth 12

module _ {requires : Bool} {b d : Within} (h : WithinGrows requires b d) (low : WithinFilled requires b) (high : WithinFilled requires d) where
  pub more_stmt-Grows : (c : Context) (so_far : Named (List StmtTree)) → Grows requires (more_stmt b c so_far) (more_stmt d c so_far)
  more_stmt-Grows c so_far = search (growing, h.stmt) depth 5

  pub more_stmt-Steps : (c : Context) (so_far : Named (List StmtTree)) → Steps requires (more_stmt b c so_far) (more_stmt d c so_far)
  more_stmt-Steps c so_far = filled-Steps (more_stmt-Grows c so_far) (more_stmt-Filled low c so_far) (more_stmt-Filled high c so_far)

  pub block-Grows : (c : Context) (n : ℕ) → Grows requires (block b c n) (block d c n)
  unfolding block
  block-Grows c n = search (growing, turns-Grows, more_stmt-Steps) depth 6

  pub substatement-Grows : (c : Context) (n : ℕ) → Grows requires (substatement b c n) (substatement d c n)
  unfolding substatement
  substatement-Grows c n = search (growing, h.bare) depth 5

  pub alternative-Grows : (c : Context) (at : Mark) (is_constexpr : Bool) (test : ExprTree) (then' : Numbered StmtTree) → Grows requires (alternative b c at is_constexpr test then') (alternative d c at is_constexpr test then')
  unfolding alternative
  alternative-Grows c at is_constexpr test then' = search (growing, substatement-Grows) depth 6

  pub if_stmt-Grows : (c : Context) (n : ℕ) → Grows requires (if_stmt b c n) (if_stmt d c n)
  unfolding if_stmt
  if_stmt-Grows c n = search (growing, condition-Grows h.base, substatement-Grows, alternative-Grows) depth 9

  pub while_stmt-Grows : (c : Context) (n : ℕ) → Grows requires (while_stmt b c n) (while_stmt d c n)
  unfolding while_stmt
  while_stmt-Grows c n = search (growing, condition-Grows h.base, substatement-Grows) depth 6

module _ {requires : Bool} {b d : Below} (h : BelowGrows requires b d) where
  pub maybe_expr-Grows : (behind : List ℕ) (c : Context) (n : ℕ) → Grows requires (maybe_expr behind b c n) (maybe_expr behind d c n)
  unfolding maybe_expr
  maybe_expr-Grows behind c n = search (growing, expr-Grows) depth 5

  pub for_init-Grows : (c : Context) (n : ℕ) → Grows requires (for_init b c n) (for_init d c n)
  unfolding for_init
  for_init-Grows c n = search (growing, open_stmt-Grows) depth 6

  pub for_head-Grows : (c : Context) (n : ℕ) → Grows requires (for_head b c n) (for_head d c n)
  unfolding for_head
  for_head-Grows c n = search (growing, maybe_expr-Grows, for_init-Grows) depth 7

module _ {requires : Bool} {b d : Within} (h : WithinGrows requires b d) (low : WithinFilled requires b) (high : WithinFilled requires d) where
  pub for_stmt-Grows : (c : Context) (n : ℕ) → Grows requires (for_stmt b c n) (for_stmt d c n)
  unfolding for_stmt
  for_stmt-Grows c n = search (growing, substatement-Grows, h.head) depth 8

module _ {requires : Bool} {b d : Below} (h : BelowGrows requires b d) where
  pub return_stmt-Grows : (c : Context) (n : ℕ) → Grows requires (return_stmt b c n) (return_stmt d c n)
  unfolding return_stmt
  return_stmt-Grows c n = search (growing, maybe_expr-Grows) depth 6

pub jump-Grows : {requires : Bool} (text : List ℕ) (make : Mark → StmtTree) (c : Context) (n : ℕ) → Grows requires (jump text make c n) (jump text make c n)
unfolding jump
jump-Grows text make c n = search growing depth 5

pub empty_stmt-Grows : {requires : Bool} (c : Context) (n : ℕ) → Grows requires (empty_stmt c n) (empty_stmt c n)
unfolding empty_stmt
empty_stmt-Grows c n = search growing depth 5

pub closed_stmt-Grows : {requires : Bool} (c : Context) {p q : Production (Numbered StmtTree)} → Grows requires p q → Grows requires (closed_stmt c p) (closed_stmt c q)
closed_stmt-Grows c h = search growing

module _ {requires : Bool} {b d : Within} (h : WithinGrows requires b d) (low : WithinFilled requires b) (high : WithinFilled requires d) where
  pub bare_stmt-Grows : (c : Context) (n : ℕ) → Grows requires (bare_stmt b c n) (bare_stmt d c n)
  unfolding bare_stmt
  bare_stmt-Grows c n = search (growing, open_stmt-Grows h.base, assertion-Grows h.base, block-Grows, if_stmt-Grows, while_stmt-Grows, for_stmt-Grows, return_stmt-Grows h.base, jump-Grows, empty_stmt-Grows, closed_stmt-Grows) depth 13

  pub stmt-Grows : (c : Context) (n : ℕ) → Grows requires (stmt b c n) (stmt d c n)
  unfolding stmt
  stmt-Grows c n = search (growing, h.bare) depth 5

pub specifiers_from-Grows : {requires : Bool} (n : ℕ) (c : Context) (s : Specifiers) → Grows requires (specifiers_from n c s) (specifiers_from n c s)
unfolding specifiers_from
specifiers_from-Grows zero c s = give-Grows s
specifiers_from-Grows (suc n) c s = when-Grows (is_free s) (then-Grows (token-Grows c.load (is_free s)) (λ t. specifiers_from-Grows n c (with_specifier s t))) (give-Grows s)

pub specifiers-Grows : {requires : Bool} (c : Context) (s : Specifiers) → Grows requires (specifiers c s) (specifiers c s)
specifiers-Grows c s = search (growing, specifiers_from-Grows) depth 5

pub parameter_behind-Grows : {requires : Bool} (c : Context) (at : Place) (of : Numbered WrittenType) → Grows requires (parameter_behind c at of) (parameter_behind c at of)
unfolding parameter_behind
parameter_behind-Grows c at of = search growing depth 5

pub typed_parameter-Grows : {requires : Bool} (c : Context) (of : Numbered TypeTree) → Grows requires (typed_parameter c of) (typed_parameter c of)
unfolding typed_parameter
typed_parameter-Grows c of = search (growing, parameter_behind-Grows) depth 5

pub auto_parameter-Grows : {requires : Bool} (c : Context) (at : Option Place) (before : Bool) (constrained : Option ConstraintTree) (n : ℕ) → Grows requires (auto_parameter c at before constrained n) (auto_parameter c at before constrained n)
unfolding auto_parameter
auto_parameter-Grows c at before constrained n = search (growing, auto_behind-Grows, parameter_behind-Grows) depth 5

module _ {requires : Bool} {b d : Below} (h : BelowGrows requires b d) where
  pub const_parameter-Grows : (autos : Bool) (c : Context) (n : ℕ) → Grows requires (const_parameter autos b c n) (const_parameter autos d c n)
  unfolding const_parameter
  const_parameter-Grows autos c n = search (growing, type_behind-Grows, constraint-Grows, typed_parameter-Grows, auto_parameter-Grows, h.core) depth 9

  pub parameter-Grows : (autos : Bool) (c : Context) (n : ℕ) → Grows requires (parameter autos b c n) (parameter autos d c n)
  unfolding parameter
  parameter-Grows autos c n = search (growing, type_id-Grows, constraint-Grows, typed_parameter-Grows, auto_parameter-Grows, const_parameter-Grows) depth 8

  pub more_parameter-Steps : (autos : Bool) (c : Context) (so_far : Named (List ParameterTree)) → Steps requires (more_parameter autos b c so_far) (more_parameter autos d c so_far)
  more_parameter-Steps autos c so_far = search (token-Steps, growing, parameter-Grows) depth 5

  pub parameters_behind-Grows : (autos : Bool) (c : Context) (first : Named ParameterTree) → Grows requires (parameters_behind autos b c first) (parameters_behind autos d c first)
  unfolding parameters_behind
  parameters_behind-Grows autos c first = search (growing, turns-Grows, more_parameter-Steps) depth 5

  pub void_parameters-Grows : (autos : Bool) (c : Context) (n : ℕ) → Grows requires (void_parameters autos b c n) (void_parameters autos d c n)
  unfolding void_parameters
  void_parameters-Grows autos c n = search (growing, type_behind-Grows, typed_parameter-Grows, parameters_behind-Grows) depth 7

  pub parameters-Grows : (autos : Bool) (c : Context) (n : ℕ) → Grows requires (parameters autos b c n) (parameters autos d c n)
  unfolding parameters
  parameters-Grows autos c n = search (growing, parameter-Grows, parameters_behind-Grows, void_parameters-Grows) depth 6

  pub trailing-Grows : (templated : Bool) (c : Context) (n : ℕ) → Grows requires (trailing templated b c n) (trailing templated d c n)
  unfolding trailing
  trailing-Grows templated c n = search (growing, clause-Grows) depth 6

pub maybe_const_member-Grows : {requires : Bool} (is_member : Bool) (c : Context) → Grows requires (maybe_const_member is_member c) (maybe_const_member is_member c)
unfolding maybe_const_member
maybe_const_member-Grows is_member c = search growing depth 5

module _ {requires : Bool} {b d : Within} (h : WithinGrows requires b d) (low : WithinFilled requires b) (high : WithinFilled requires d) where
  pub function_body-Grows : (c : Context) (n : ℕ) → Grows requires (function_body b c n) (function_body d c n)
  unfolding function_body
  function_body-Grows c n = search (growing, block-Grows) depth 6

  pub function_behind-Grows : (is_member : Bool) (templated : Bool) (c : Context) (s : Specifiers) (result : Numbered TypeTree) (name : Piece) → Grows requires (function_behind is_member templated b c s result name) (function_behind is_member templated d c s result name)
  unfolding function_behind
  function_behind-Grows is_member templated c s result name = search (growing, trailing-Grows h.base, maybe_const_member-Grows, function_body-Grows, h.parameters) depth 9

module _ {requires : Bool} {b d : Below} (h : BelowGrows requires b d) where
  pub constant_behind-Grows : (c : Context) (s : Specifiers) (of : Numbered TypeTree) (name : Piece) → Grows requires (constant_behind b c s of name) (constant_behind d c s of name)
  unfolding constant_behind
  constant_behind-Grows c s of name = search (growing, init-Grows) depth 5

  pub alias-Grows : (c : Context) (n : ℕ) → Grows requires (alias b c n) (alias d c n)
  unfolding alias
  alias-Grows c n = search (growing, type_id-Grows) depth 8

module _ {requires : Bool} {b d : Within} (h : WithinGrows requires b d) (low : WithinFilled requires b) (high : WithinFilled requires d) where
  pub variable_or_function-Grows : (c : Context) (n : ℕ) → Grows requires (variable_or_function b c n) (variable_or_function d c n)
  unfolding variable_or_function
  variable_or_function-Grows c n = search (growing, type_id-Grows h.base, specifiers-Grows, function_behind-Grows, constant_behind-Grows h.base) depth 9

module _ {requires : Bool} {b d : Below} (h : BelowGrows requires b d) where
  pub static_member-Grows : (c : Context) (n : ℕ) → Grows requires (static_member b c n) (static_member d c n)
  unfolding static_member
  static_member-Grows c n = search (growing, type_id-Grows, specifiers-Grows, constant_behind-Grows) depth 10

module _ {requires : Bool} {b d : Within} (h : WithinGrows requires b d) (low : WithinFilled requires b) (high : WithinFilled requires d) where
  pub field_or_function-Grows : (templated : Bool) (c : Context) (n : ℕ) → Grows requires (field_or_function templated b c n) (field_or_function templated d c n)
  unfolding field_or_function
  field_or_function-Grows templated c n = search (growing, type_id-Grows h.base, specifiers-Grows, function_behind-Grows) depth 9

  pub struct_member-Grows : (templated : Bool) (c : Context) (n : ℕ) → Grows requires (struct_member templated b c n) (struct_member templated d c n)
  unfolding struct_member
  struct_member-Grows templated c n = search (growing, alias-Grows h.base, static_member-Grows h.base, field_or_function-Grows) depth 8

  pub more_member-Grows : (templated : Bool) (c : Context) (so_far : Named (List MemberTree)) → Grows requires (more_member templated b c so_far) (more_member templated d c so_far)
  more_member-Grows templated c so_far = search (growing, struct_member-Grows) depth 5

  pub more_member-Steps : (templated : Bool) (c : Context) (so_far : Named (List MemberTree)) → Steps requires (more_member templated b c so_far) (more_member templated d c so_far)
  more_member-Steps templated c so_far = filled-Steps (more_member-Grows templated c so_far) (more_member-Filled low templated c so_far) (more_member-Filled high templated c so_far)

  pub members-Grows : (templated : Bool) (c : Context) (n : ℕ) → Grows requires (members templated b c n) (members templated d c n)
  unfolding members
  members-Grows templated c n = search (growing, turns-Grows, more_member-Steps) depth 5

  pub struct_body-Grows : (templated : Bool) (c : Context) (n : ℕ) → Grows requires (struct_body templated b c n) (struct_body templated d c n)
  unfolding struct_body
  struct_body-Grows templated c n = search (growing, h.members) depth 7

  pub struct_behind-Grows : (templated : Bool) (c : Context) (k : NameKind) (name : Piece) (n : ℕ) → Grows requires (struct_behind templated b c k name n) (struct_behind templated d c k name n)
  unfolding struct_behind
  struct_behind-Grows templated c k name n = search (growing, struct_body-Grows) depth 5

  pub struct-Grows : (c : Context) (n : ℕ) → Grows requires (struct b c n) (struct d c n)
  unfolding struct
  struct-Grows c n = search (growing, struct_behind-Grows) depth 6

pub maybe_name-Grows : {requires : Bool} (c : Context) → Grows requires (maybe_name c) (maybe_name c)
unfolding maybe_name
maybe_name-Grows c = search growing depth 5

module _ {requires : Bool} {b d : Below} (h : BelowGrows requires b d) where
  pub default_type-Grows : (c : Context) (n : ℕ) → Grows requires (default_type b c n) (default_type d c n)
  unfolding default_type
  default_type-Grows c n = search (growing, type_id-Grows) depth 6

  pub default_value-Grows : (c : Context) (n : ℕ) → Grows requires (default_value b c n) (default_value d c n)
  unfolding default_value
  default_value-Grows c n = search (growing, expr-Grows) depth 6

  pub type_parameter-Grows : (c : Context) (n : ℕ) → Grows requires (type_parameter b c n) (type_parameter d c n)
  unfolding type_parameter
  type_parameter-Grows c n = search (growing, maybe_name-Grows, default_type-Grows) depth 6

  pub constrained_parameter-Grows : (c : Context) (n : ℕ) → Grows requires (constrained_parameter b c n) (constrained_parameter d c n)
  unfolding constrained_parameter
  constrained_parameter-Grows c n = search (growing, constraint-Grows, maybe_name-Grows, default_type-Grows) depth 6

  pub value_parameter-Grows : (c : Context) (n : ℕ) → Grows requires (value_parameter b c n) (value_parameter d c n)
  unfolding value_parameter
  value_parameter-Grows c n = search (growing, scalar_core-Grows, maybe_name-Grows, default_value-Grows) depth 6

  pub template_parameter-Grows : (c : Context) (n : ℕ) → Grows requires (template_parameter b c n) (template_parameter d c n)
  unfolding template_parameter
  template_parameter-Grows c n = search (growing, type_parameter-Grows, constrained_parameter-Grows, value_parameter-Grows) depth 5

  pub more_template_parameter-Steps : (c : Context) (so_far : Named (List TemplateParameterTree)) → Steps requires (more_template_parameter b c so_far) (more_template_parameter d c so_far)
  more_template_parameter-Steps c so_far = search (token-Steps, growing, template_parameter-Grows) depth 5

  pub template_parameters-Grows : (c : Context) (n : ℕ) → Grows requires (template_parameters b c n) (template_parameters d c n)
  unfolding template_parameters
  template_parameters-Grows c n = search (growing, turns-Grows, template_parameter-Grows, more_template_parameter-Steps) depth 5

  pub concept-Grows : (c : Context) (n : ℕ) → Grows requires (concept b c n) (concept d c n)
  unfolding concept
  concept-Grows c n = search (growing, unary-Grows, rests-Grows) depth 9

module _ {requires : Bool} {b d : Within} (h : WithinGrows requires b d) (low : WithinFilled requires b) (high : WithinFilled requires d) where
  pub specialisation-Grows : (full : Bool) (c : Context) (name : Piece) (n : ℕ) → Grows requires (specialisation full b c name n) (specialisation full d c name n)
  unfolding specialisation
  specialisation-Grows full c name n = search (growing, argument_list-Grows h.base, struct_body-Grows) depth 5

  pub templated_struct-Grows : (full : Bool) (c : Context) (n : ℕ) → Grows requires (templated_struct full b c n) (templated_struct full d c n)
  unfolding templated_struct
  templated_struct-Grows full c n = search (growing, struct_behind-Grows, specialisation-Grows) depth 7

  pub templated_function-Grows : (c : Context) (n : ℕ) → Grows requires (templated_function b c n) (templated_function d c n)
  unfolding templated_function
  templated_function-Grows c n = search (growing, type_id-Grows h.base, specifiers-Grows, function_behind-Grows) depth 7

  pub templated-Grows : (ps : List TemplateParameterTree) (has_clause : Bool) (c : Context) (n : ℕ) → Grows requires (templated ps has_clause b c n) (templated ps has_clause d c n)
  unfolding templated
  templated-Grows ps has_clause c n = search (growing, concept-Grows h.base, templated_struct-Grows, templated_function-Grows) depth 5

module _ {requires : Bool} {b d : Below} (h : BelowGrows requires b d) where
  pub maybe_clause-Grows : (c : Context) (n : ℕ) → Grows requires (maybe_clause b c n) (maybe_clause d c n)
  unfolding maybe_clause
  maybe_clause-Grows c n = search (growing, clause-Grows) depth 6

module _ {requires : Bool} {b d : Within} (h : WithinGrows requires b d) (low : WithinFilled requires b) (high : WithinFilled requires d) where
  pub template-Grows : (c : Context) (n : ℕ) → Grows requires (template b c n) (template d c n)
  unfolding template
  template-Grows c n = search (growing, templated-Grows, maybe_clause-Grows h.base, h.template_parameters) depth 9

  pub decl-Grows : (c : Context) (n : ℕ) → Grows requires (decl b c n) (decl d c n)
  unfolding decl
  decl-Grows c n = search (growing, assertion-Grows h.base, alias-Grows h.base, variable_or_function-Grows, struct-Grows, template-Grows) depth 11

  pub more_decl-Grows : (c : Context) (so_far : Named (List DeclTree)) → Grows requires (more_decl b c so_far) (more_decl d c so_far)
  more_decl-Grows c so_far = search (growing, h.decl) depth 5

  pub more_decl-Steps : (c : Context) (so_far : Named (List DeclTree)) → Steps requires (more_decl b c so_far) (more_decl d c so_far)
  more_decl-Steps c so_far = filled-Steps (more_decl-Grows c so_far) (more_decl-Filled low c so_far) (more_decl-Filled high c so_far)

  pub unit-Grows : Grows requires (unit b) (unit d)
  unfolding unit
  unit-Grows = search (growing, turns-Grows, more_decl-Steps) depth 5

-- a level, and what is nested in it: nothing, or a level
above_unit : {requires : Bool} (n : ℕ) → WithinGrows requires (unit_levels requires n) (unit_levels requires (suc n)) → WithinGrows requires (unit_levels requires (suc n)) (unit_levels requires (suc (suc n)))
unfolding unit_levels
above_unit n g = record {
  base = levels-Grows (suc n);
  stmt = λ c m. stmt-Grows g (levels-Filled n) (levels-Filled (suc n)) c m;
  bare = λ c m. bare_stmt-Grows g (levels-Filled n) (levels-Filled (suc n)) c m;
  head = λ c m. for_head-Grows (levels-Grows n) c m;
  parameters = λ autos c m. parameters-Grows (levels-Grows n) autos c m;
  members = λ templated c m. members-Grows g (levels-Filled n) (levels-Filled (suc n)) templated c m;
  template_parameters = λ c m. template_parameters-Grows (levels-Grows n) c m;
  decl = λ c m. decl-Grows g (levels-Filled n) (levels-Filled (suc n)) c m;
}

first_unit : {requires : Bool} → WithinGrows requires (unit_levels requires 0) (unit_levels requires 1)
unfolding unit_levels levels
first_unit {requires} = record {
  base = levels-Grows 0;
  stmt = λ c m. closed-Grows (stmt-Grows none (levels-Filled 0) (levels-Filled 0) c m).low;
  bare = λ c m. closed-Grows (bare_stmt-Grows none (levels-Filled 0) (levels-Filled 0) c m).low;
  head = λ c m. closed-Grows (for_head-Grows nothing-Grows c m).low;
  parameters = λ autos c m. closed-Grows (parameters-Grows nothing-Grows autos c m).low;
  members = λ templated c m. closed-Grows (members-Grows none (levels-Filled 0) (levels-Filled 0) templated c m).low;
  template_parameters = λ c m. closed-Grows (template_parameters-Grows nothing-Grows c m).low;
  decl = λ c m. closed-Grows (decl-Grows none (levels-Filled 0) (levels-Filled 0) c m).low;
}
  where
    none : WithinGrows requires (unit_levels requires 0) (unit_levels requires 0)
    none = record {
      base = nothing-Grows;
      stmt = λ c m. same-Grows closed-Lawful;
      bare = λ c m. same-Grows closed-Lawful;
      head = λ c m. same-Grows closed-Lawful;
      parameters = λ autos c m. same-Grows closed-Lawful;
      members = λ templated c m. same-Grows closed-Lawful;
      template_parameters = λ c m. same-Grows closed-Lawful;
      decl = λ c m. same-Grows closed-Lawful;
    }

pub unit_levels-Grows : {requires : Bool} (n : ℕ) → WithinGrows requires (unit_levels requires n) (unit_levels requires (suc n))
unit_levels-Grows zero = first_unit
unit_levels-Grows (suc n) = above_unit n (unit_levels-Grows n)
