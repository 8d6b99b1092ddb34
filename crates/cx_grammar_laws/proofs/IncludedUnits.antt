-- Statements, declarations and units where requires-expressions are not read are some of the language.
use Rattle.std.proofs.Common.{ℕ, zero, suc, Bool, true, false, List, Option}
use Rattle.cx_base.specs.declared.place.Place.{Place}
use Rattle.cx_scope.specs.declared.name_kind.NameKind.{NameKind}
use Rattle.cx_tree.specs.Trees.{Mark, ExprTree, TypeTree, CoreTree, ConstraintTree}
use Rattle.cx_tree.specs.Statements.{AutoTree, WrittenType, StmtTree}
use Rattle.cx_tree.specs.Declarations.{Specifiers, ParameterTree, MemberTree, TemplateParameterTree, DeclTree}
use Rattle.cx_grammar.specs.Pieces.{Piece}
use Rattle.cx_grammar.specs.Production.{Production}
use Rattle.cx_grammar.specs.Names.{Context}
use Rattle.cx_grammar.specs.Types.{Numbered, Placed, Below, Named}
use Rattle.cx_grammar.specs.Expressions.{levels}
use Rattle.cx_grammar.specs.Statements.{Within, condition, value_init, list_init, init, variable_behind, auto_variable_behind, const_behind_auto, reference_behind_auto, auto_behind, variable_of, variable_of_auto, expr_stmt_of, core_stmt, head_stmt, word_stmt, typed_variable, constrained_auto, plain_auto, const_variable, variable, concept_stmt, expr_stmt, open_stmt, assertion, more_stmt, block, substatement, alternative, if_stmt, while_stmt, maybe_expr, for_init, for_head, for_stmt, return_stmt, jump, empty_stmt, closed_stmt, bare_stmt, stmt}
use Rattle.cx_grammar.specs.Declarations.{unit_levels, is_free, with_specifier, specifiers_from, specifiers, parameter_behind, typed_parameter, auto_parameter, const_parameter, parameter, more_parameter, parameters_behind, void_parameters, parameters, trailing, maybe_const_member, function_body, function_behind, constant_behind, alias, variable_or_function, static_member, field_or_function, struct_member, more_member, members, struct_body, struct_behind, struct, maybe_name, default_type, default_value, type_parameter, constrained_parameter, value_parameter, template_parameter, more_template_parameter, template_parameters, concept, specialisation, templated_struct, templated_function, templated, maybe_clause, template, decl, more_decl, unit}
use Rattle.cx_grammar_laws.proofs.Included.{Included, Turns, give-Included, token-Included, then-Included, when-Included, given-Included, closed-Included, repeat-Included, token-Turns, filled-Turns}
use Rattle.cx_grammar_laws.proofs.IncludedTypes.{BelowIncluded, including, argument_list-Included, scalar_behind-Included, scalar_core-Included, type_id-Included, type_behind-Included}
use Rattle.cx_grammar_laws.proofs.IncludedExpressions.{levels-Included, behind_core-Included, behind_head-Included, clause-Included, expr-Included, expr_behind-Included, exprs_until-Included, rests-Included, tail-Included, unary-Included}
use Rattle.cx_grammar.proofs.UnitFilled.{WithinFilled, levels-Filled, more_stmt-Filled, more_member-Filled, more_decl-Filled}
use Rattle.cx_grammar_laws.proofs.IncludedRequires.{constraint-Included}

-- all productions at a lower and at a higher level
pub record WithinIncluded (b d : Within) : Type 0 where
  pub base : BelowIncluded b.base d.base
  pub stmt : (c : Context) (n : ℕ) → Included (b.stmt c n) (d.stmt c n)
  pub bare : (c : Context) (n : ℕ) → Included (b.bare c n) (d.bare c n)
  pub head : (c : Context) (n : ℕ) → Included (b.head c n) (d.head c n)
  pub parameters : (autos : Bool) (c : Context) (n : ℕ) → Included (b.parameters autos c n) (d.parameters autos c n)
  pub members : (templated : Bool) (c : Context) (n : ℕ) → Included (b.members templated c n) (d.members templated c n)
  pub template_parameters : (c : Context) (n : ℕ) → Included (b.template_parameters c n) (d.template_parameters c n)
  pub decl : (c : Context) (n : ℕ) → Included (b.decl c n) (d.decl c n)

module _ {b d : Below} (h : BelowIncluded b d) where
  pub condition-Included : (c : Context) (n : ℕ) → Included (condition b c n) (condition d c n)
  unfolding condition
  condition-Included c n = search (including, h.expr) depth 6

  pub value_init-Included : (c : Context) (n : ℕ) → Included (value_init b c n) (value_init d c n)
  unfolding value_init
  value_init-Included c n = search (including, expr-Included) depth 5

  pub list_init-Included : (c : Context) (n : ℕ) → Included (list_init b c n) (list_init d c n)
  unfolding list_init
  list_init-Included c n = search (including, exprs_until-Included) depth 6

  pub init-Included : (c : Context) (n : ℕ) → Included (init b c n) (init d c n)
  unfolding init
  init-Included c n = search (including, value_init-Included, list_init-Included) depth 5

  pub variable_behind-Included : (c : Context) (is_constexpr : Bool) (of : Numbered TypeTree) → Included (variable_behind b c is_constexpr of) (variable_behind d c is_constexpr of)
  unfolding variable_behind
  variable_behind-Included c is_constexpr of = search (including, init-Included) depth 6

  pub auto_variable_behind-Included : (c : Context) (is_constexpr : Bool) (of : Numbered AutoTree) → Included (auto_variable_behind b c is_constexpr of) (auto_variable_behind d c is_constexpr of)
  unfolding auto_variable_behind
  auto_variable_behind-Included c is_constexpr of = search (including, value_init-Included) depth 6

pub const_behind_auto-Included : (c : Context) (before : Bool) → Included (const_behind_auto c before) (const_behind_auto c before)
unfolding const_behind_auto
const_behind_auto-Included c before = search including depth 5

pub reference_behind_auto-Included : (c : Context) → Included (reference_behind_auto c) (reference_behind_auto c)
unfolding reference_behind_auto
reference_behind_auto-Included c = search including depth 5

pub auto_behind-Included : (c : Context) (at : Option Place) (before : Bool) (constrained : Option ConstraintTree) (n : ℕ) → Included (auto_behind c at before constrained n) (auto_behind c at before constrained n)
unfolding auto_behind
auto_behind-Included c at before constrained n = search (including, const_behind_auto-Included, reference_behind_auto-Included) depth 6

module _ {b d : Below} (h : BelowIncluded b d) where
  pub variable_of-Included : (c : Context) (is_constexpr : Bool) (of : Numbered TypeTree) → Included (variable_of b c is_constexpr of) (variable_of d c is_constexpr of)
  unfolding variable_of
  variable_of-Included c is_constexpr of = search (including, variable_behind-Included) depth 5

  pub variable_of_auto-Included : (c : Context) (is_constexpr : Bool) (of : Numbered AutoTree) → Included (variable_of_auto b c is_constexpr of) (variable_of_auto d c is_constexpr of)
  unfolding variable_of_auto
  variable_of_auto-Included c is_constexpr of = search (including, auto_variable_behind-Included) depth 5

  pub expr_stmt_of-Included : (c : Context) (first : Numbered ExprTree) → Included (expr_stmt_of b c first) (expr_stmt_of d c first)
  unfolding expr_stmt_of
  expr_stmt_of-Included c first = search (including, expr_behind-Included) depth 5

  pub core_stmt-Included : (c : Context) (k : Numbered (Placed CoreTree)) → Included (core_stmt b c k) (core_stmt d c k)
  unfolding core_stmt
  core_stmt-Included c k = search (including, type_behind-Included, behind_core-Included, tail-Included, variable_of-Included, expr_stmt_of-Included) depth 7

  pub head_stmt-Included : (c : Context) (k : Numbered (Placed CoreTree)) → Included (head_stmt b c k) (head_stmt d c k)
  unfolding head_stmt
  head_stmt-Included c k = search (including, type_behind-Included, behind_head-Included, tail-Included, variable_of-Included, expr_stmt_of-Included) depth 7

  pub word_stmt-Included : (c : Context) (n : ℕ) → Included (word_stmt b c n) (word_stmt d c n)
  unfolding word_stmt
  word_stmt-Included c n = search (including, scalar_behind-Included, type_behind-Included, behind_core-Included, tail-Included, variable_of-Included, expr_stmt_of-Included) depth 9

  pub typed_variable-Included : (c : Context) (is_constexpr : Bool) (n : ℕ) → Included (typed_variable b c is_constexpr n) (typed_variable d c is_constexpr n)
  unfolding typed_variable
  typed_variable-Included c is_constexpr n = search (including, type_id-Included, variable_of-Included) depth 5

  pub constrained_auto-Included : (c : Context) (at : Option Place) (is_constexpr : Bool) (before : Bool) (n : ℕ) → Included (constrained_auto b c at is_constexpr before n) (constrained_auto d c at is_constexpr before n)
  unfolding constrained_auto
  constrained_auto-Included c at is_constexpr before n = search (including, constraint-Included, auto_behind-Included, variable_of_auto-Included) depth 5

  pub plain_auto-Included : (c : Context) (at : Option Place) (is_constexpr : Bool) (before : Bool) (n : ℕ) → Included (plain_auto b c at is_constexpr before n) (plain_auto d c at is_constexpr before n)
  unfolding plain_auto
  plain_auto-Included c at is_constexpr before n = search (including, auto_behind-Included, variable_of_auto-Included) depth 5

  pub const_variable-Included : (c : Context) (is_constexpr : Bool) (n : ℕ) → Included (const_variable b c is_constexpr n) (const_variable d c is_constexpr n)
  unfolding const_variable
  const_variable-Included c is_constexpr n = search (including, type_behind-Included, variable_of-Included, constrained_auto-Included, plain_auto-Included, h.core) depth 8

  pub variable-Included : (c : Context) (is_constexpr : Bool) (n : ℕ) → Included (variable b c is_constexpr n) (variable d c is_constexpr n)
  unfolding variable
  variable-Included c is_constexpr n = search (including, typed_variable-Included, constrained_auto-Included, plain_auto-Included, const_variable-Included) depth 6

  pub concept_stmt-Included : (c : Context) (n : ℕ) → Included (concept_stmt b c n) (concept_stmt d c n)
  unfolding concept_stmt
  concept_stmt-Included c n = search (including, tail-Included, constraint-Included, auto_behind-Included, variable_of_auto-Included, expr_stmt_of-Included) depth 7

  pub expr_stmt-Included : (c : Context) (n : ℕ) → Included (expr_stmt b c n) (expr_stmt d c n)
  unfolding expr_stmt
  expr_stmt-Included c n = search (including, expr-Included) depth 5

  pub open_stmt-Included : (c : Context) (n : ℕ) → Included (open_stmt b c n) (open_stmt d c n)
  unfolding open_stmt
  open_stmt-Included c n = search (including, core_stmt-Included, head_stmt-Included, word_stmt-Included, typed_variable-Included, plain_auto-Included, const_variable-Included, variable-Included, concept_stmt-Included, expr_stmt-Included, h.core) depth 14

  pub assertion-Included : (c : Context) (n : ℕ) → Included (assertion b c n) (assertion d c n)
  unfolding assertion
  assertion-Included c n = search (including, h.expr) depth 12

module _ {b d : Within} (h : WithinIncluded b d) (low : WithinFilled false b) where
  pub more_stmt-Included : (c : Context) (so_far : Named (List StmtTree)) → Included (more_stmt b c so_far) (more_stmt d c so_far)
  more_stmt-Included c so_far = search (including, h.stmt) depth 5

  pub more_stmt-Turns : (c : Context) (so_far : Named (List StmtTree)) → Turns (more_stmt b c so_far) (more_stmt d c so_far)
  more_stmt-Turns c so_far = filled-Turns (more_stmt-Included c so_far) (more_stmt-Filled low c so_far)

  pub block-Included : (c : Context) (n : ℕ) → Included (block b c n) (block d c n)
  unfolding block
  block-Included c n = search (including, repeat-Included, more_stmt-Turns) depth 6

  pub substatement-Included : (c : Context) (n : ℕ) → Included (substatement b c n) (substatement d c n)
  unfolding substatement
  substatement-Included c n = search (including, h.bare) depth 5

  pub alternative-Included : (c : Context) (at : Mark) (is_constexpr : Bool) (test : ExprTree) (then' : Numbered StmtTree) → Included (alternative b c at is_constexpr test then') (alternative d c at is_constexpr test then')
  unfolding alternative
  alternative-Included c at is_constexpr test then' = search (including, substatement-Included) depth 6

  pub if_stmt-Included : (c : Context) (n : ℕ) → Included (if_stmt b c n) (if_stmt d c n)
  unfolding if_stmt
  if_stmt-Included c n = search (including, condition-Included h.base, substatement-Included, alternative-Included) depth 9

  pub while_stmt-Included : (c : Context) (n : ℕ) → Included (while_stmt b c n) (while_stmt d c n)
  unfolding while_stmt
  while_stmt-Included c n = search (including, condition-Included h.base, substatement-Included) depth 6

module _ {b d : Below} (h : BelowIncluded b d) where
  pub maybe_expr-Included : (behind : List ℕ) (c : Context) (n : ℕ) → Included (maybe_expr behind b c n) (maybe_expr behind d c n)
  unfolding maybe_expr
  maybe_expr-Included behind c n = search (including, expr-Included) depth 5

  pub for_init-Included : (c : Context) (n : ℕ) → Included (for_init b c n) (for_init d c n)
  unfolding for_init
  for_init-Included c n = search (including, open_stmt-Included) depth 6

  pub for_head-Included : (c : Context) (n : ℕ) → Included (for_head b c n) (for_head d c n)
  unfolding for_head
  for_head-Included c n = search (including, maybe_expr-Included, for_init-Included) depth 7

module _ {b d : Within} (h : WithinIncluded b d) (low : WithinFilled false b) where
  pub for_stmt-Included : (c : Context) (n : ℕ) → Included (for_stmt b c n) (for_stmt d c n)
  unfolding for_stmt
  for_stmt-Included c n = search (including, substatement-Included, h.head) depth 8

module _ {b d : Below} (h : BelowIncluded b d) where
  pub return_stmt-Included : (c : Context) (n : ℕ) → Included (return_stmt b c n) (return_stmt d c n)
  unfolding return_stmt
  return_stmt-Included c n = search (including, maybe_expr-Included) depth 6

pub jump-Included : (text : List ℕ) (make : Mark → StmtTree) (c : Context) (n : ℕ) → Included (jump text make c n) (jump text make c n)
unfolding jump
jump-Included text make c n = search including depth 5

pub empty_stmt-Included : (c : Context) (n : ℕ) → Included (empty_stmt c n) (empty_stmt c n)
unfolding empty_stmt
empty_stmt-Included c n = search including depth 5

pub closed_stmt-Included : (c : Context) {p q : Production (Numbered StmtTree)} → Included p q → Included (closed_stmt c p) (closed_stmt c q)
closed_stmt-Included c h = search including

module _ {b d : Within} (h : WithinIncluded b d) (low : WithinFilled false b) where
  pub bare_stmt-Included : (c : Context) (n : ℕ) → Included (bare_stmt b c n) (bare_stmt d c n)
  unfolding bare_stmt
  bare_stmt-Included c n = search (including, open_stmt-Included h.base, assertion-Included h.base, block-Included, if_stmt-Included, while_stmt-Included, for_stmt-Included, return_stmt-Included h.base, jump-Included, empty_stmt-Included, closed_stmt-Included) depth 13

  pub stmt-Included : (c : Context) (n : ℕ) → Included (stmt b c n) (stmt d c n)
  unfolding stmt
  stmt-Included c n = search (including, h.bare) depth 5

pub specifiers_from-Included : (n : ℕ) (c : Context) (s : Specifiers) → Included (specifiers_from n c s) (specifiers_from n c s)
unfolding specifiers_from
specifiers_from-Included zero c s = give-Included s
specifiers_from-Included (suc n) c s = when-Included (is_free s) (then-Included (token-Included c.load (is_free s)) (λ t. specifiers_from-Included n c (with_specifier s t))) (give-Included s)

pub specifiers-Included : (c : Context) (s : Specifiers) → Included (specifiers c s) (specifiers c s)
specifiers-Included c s = search (including, specifiers_from-Included) depth 5

pub parameter_behind-Included : (c : Context) (at : Place) (of : Numbered WrittenType) → Included (parameter_behind c at of) (parameter_behind c at of)
unfolding parameter_behind
parameter_behind-Included c at of = search including depth 5

pub typed_parameter-Included : (c : Context) (of : Numbered TypeTree) → Included (typed_parameter c of) (typed_parameter c of)
unfolding typed_parameter
typed_parameter-Included c of = search (including, parameter_behind-Included) depth 5

pub auto_parameter-Included : (c : Context) (at : Option Place) (before : Bool) (constrained : Option ConstraintTree) (n : ℕ) → Included (auto_parameter c at before constrained n) (auto_parameter c at before constrained n)
unfolding auto_parameter
auto_parameter-Included c at before constrained n = search (including, auto_behind-Included, parameter_behind-Included) depth 5

module _ {b d : Below} (h : BelowIncluded b d) where
  pub const_parameter-Included : (autos : Bool) (c : Context) (n : ℕ) → Included (const_parameter autos b c n) (const_parameter autos d c n)
  unfolding const_parameter
  const_parameter-Included autos c n = search (including, type_behind-Included, constraint-Included, typed_parameter-Included, auto_parameter-Included, h.core) depth 9

  pub parameter-Included : (autos : Bool) (c : Context) (n : ℕ) → Included (parameter autos b c n) (parameter autos d c n)
  unfolding parameter
  parameter-Included autos c n = search (including, type_id-Included, constraint-Included, typed_parameter-Included, auto_parameter-Included, const_parameter-Included) depth 8

  pub more_parameter-Turns : (autos : Bool) (c : Context) (so_far : Named (List ParameterTree)) → Turns (more_parameter autos b c so_far) (more_parameter autos d c so_far)
  more_parameter-Turns autos c so_far = search (token-Turns, including, parameter-Included) depth 5

  pub parameters_behind-Included : (autos : Bool) (c : Context) (first : Named ParameterTree) → Included (parameters_behind autos b c first) (parameters_behind autos d c first)
  unfolding parameters_behind
  parameters_behind-Included autos c first = search (including, repeat-Included, more_parameter-Turns) depth 5

  pub void_parameters-Included : (autos : Bool) (c : Context) (n : ℕ) → Included (void_parameters autos b c n) (void_parameters autos d c n)
  unfolding void_parameters
  void_parameters-Included autos c n = search (including, type_behind-Included, typed_parameter-Included, parameters_behind-Included) depth 7

  pub parameters-Included : (autos : Bool) (c : Context) (n : ℕ) → Included (parameters autos b c n) (parameters autos d c n)
  unfolding parameters
  parameters-Included autos c n = search (including, parameter-Included, parameters_behind-Included, void_parameters-Included) depth 6

  pub trailing-Included : (templated : Bool) (c : Context) (n : ℕ) → Included (trailing templated b c n) (trailing templated d c n)
  unfolding trailing
  trailing-Included templated c n = search (including, clause-Included) depth 6

pub maybe_const_member-Included : (is_member : Bool) (c : Context) → Included (maybe_const_member is_member c) (maybe_const_member is_member c)
unfolding maybe_const_member
maybe_const_member-Included is_member c = search including depth 5

module _ {b d : Within} (h : WithinIncluded b d) (low : WithinFilled false b) where
  pub function_body-Included : (c : Context) (n : ℕ) → Included (function_body b c n) (function_body d c n)
  unfolding function_body
  function_body-Included c n = search (including, block-Included) depth 6

  pub function_behind-Included : (is_member : Bool) (templated : Bool) (c : Context) (s : Specifiers) (result : Numbered TypeTree) (name : Piece) → Included (function_behind is_member templated b c s result name) (function_behind is_member templated d c s result name)
  unfolding function_behind
  function_behind-Included is_member templated c s result name = search (including, trailing-Included h.base, maybe_const_member-Included, function_body-Included, h.parameters) depth 9

module _ {b d : Below} (h : BelowIncluded b d) where
  pub constant_behind-Included : (c : Context) (s : Specifiers) (of : Numbered TypeTree) (name : Piece) → Included (constant_behind b c s of name) (constant_behind d c s of name)
  unfolding constant_behind
  constant_behind-Included c s of name = search (including, init-Included) depth 5

  pub alias-Included : (c : Context) (n : ℕ) → Included (alias b c n) (alias d c n)
  unfolding alias
  alias-Included c n = search (including, type_id-Included) depth 8

module _ {b d : Within} (h : WithinIncluded b d) (low : WithinFilled false b) where
  pub variable_or_function-Included : (c : Context) (n : ℕ) → Included (variable_or_function b c n) (variable_or_function d c n)
  unfolding variable_or_function
  variable_or_function-Included c n = search (including, type_id-Included h.base, specifiers-Included, function_behind-Included, constant_behind-Included h.base) depth 9

module _ {b d : Below} (h : BelowIncluded b d) where
  pub static_member-Included : (c : Context) (n : ℕ) → Included (static_member b c n) (static_member d c n)
  unfolding static_member
  static_member-Included c n = search (including, type_id-Included, specifiers-Included, constant_behind-Included) depth 10

module _ {b d : Within} (h : WithinIncluded b d) (low : WithinFilled false b) where
  pub field_or_function-Included : (templated : Bool) (c : Context) (n : ℕ) → Included (field_or_function templated b c n) (field_or_function templated d c n)
  unfolding field_or_function
  field_or_function-Included templated c n = search (including, type_id-Included h.base, specifiers-Included, function_behind-Included) depth 9

  pub struct_member-Included : (templated : Bool) (c : Context) (n : ℕ) → Included (struct_member templated b c n) (struct_member templated d c n)
  unfolding struct_member
  struct_member-Included templated c n = search (including, alias-Included h.base, static_member-Included h.base, field_or_function-Included) depth 8

  pub more_member-Included : (templated : Bool) (c : Context) (so_far : Named (List MemberTree)) → Included (more_member templated b c so_far) (more_member templated d c so_far)
  more_member-Included templated c so_far = search (including, struct_member-Included) depth 5

  pub more_member-Turns : (templated : Bool) (c : Context) (so_far : Named (List MemberTree)) → Turns (more_member templated b c so_far) (more_member templated d c so_far)
  more_member-Turns templated c so_far = filled-Turns (more_member-Included templated c so_far) (more_member-Filled low templated c so_far)

  pub members-Included : (templated : Bool) (c : Context) (n : ℕ) → Included (members templated b c n) (members templated d c n)
  unfolding members
  members-Included templated c n = search (including, repeat-Included, more_member-Turns) depth 5

  pub struct_body-Included : (templated : Bool) (c : Context) (n : ℕ) → Included (struct_body templated b c n) (struct_body templated d c n)
  unfolding struct_body
  struct_body-Included templated c n = search (including, h.members) depth 7

  pub struct_behind-Included : (templated : Bool) (c : Context) (k : NameKind) (name : Piece) (n : ℕ) → Included (struct_behind templated b c k name n) (struct_behind templated d c k name n)
  unfolding struct_behind
  struct_behind-Included templated c k name n = search (including, struct_body-Included) depth 5

  pub struct-Included : (c : Context) (n : ℕ) → Included (struct b c n) (struct d c n)
  unfolding struct
  struct-Included c n = search (including, struct_behind-Included) depth 6

pub maybe_name-Included : (c : Context) → Included (maybe_name c) (maybe_name c)
unfolding maybe_name
maybe_name-Included c = search including depth 5

module _ {b d : Below} (h : BelowIncluded b d) where
  pub default_type-Included : (c : Context) (n : ℕ) → Included (default_type b c n) (default_type d c n)
  unfolding default_type
  default_type-Included c n = search (including, type_id-Included) depth 6

  pub default_value-Included : (c : Context) (n : ℕ) → Included (default_value b c n) (default_value d c n)
  unfolding default_value
  default_value-Included c n = search (including, expr-Included) depth 6

  pub type_parameter-Included : (c : Context) (n : ℕ) → Included (type_parameter b c n) (type_parameter d c n)
  unfolding type_parameter
  type_parameter-Included c n = search (including, maybe_name-Included, default_type-Included) depth 6

  pub constrained_parameter-Included : (c : Context) (n : ℕ) → Included (constrained_parameter b c n) (constrained_parameter d c n)
  unfolding constrained_parameter
  constrained_parameter-Included c n = search (including, constraint-Included, maybe_name-Included, default_type-Included) depth 6

  pub value_parameter-Included : (c : Context) (n : ℕ) → Included (value_parameter b c n) (value_parameter d c n)
  unfolding value_parameter
  value_parameter-Included c n = search (including, scalar_core-Included, maybe_name-Included, default_value-Included) depth 6

  pub template_parameter-Included : (c : Context) (n : ℕ) → Included (template_parameter b c n) (template_parameter d c n)
  unfolding template_parameter
  template_parameter-Included c n = search (including, type_parameter-Included, constrained_parameter-Included, value_parameter-Included) depth 5

  pub more_template_parameter-Turns : (c : Context) (so_far : Named (List TemplateParameterTree)) → Turns (more_template_parameter b c so_far) (more_template_parameter d c so_far)
  more_template_parameter-Turns c so_far = search (token-Turns, including, template_parameter-Included) depth 5

  pub template_parameters-Included : (c : Context) (n : ℕ) → Included (template_parameters b c n) (template_parameters d c n)
  unfolding template_parameters
  template_parameters-Included c n = search (including, repeat-Included, template_parameter-Included, more_template_parameter-Turns) depth 5

  pub concept-Included : (c : Context) (n : ℕ) → Included (concept b c n) (concept d c n)
  unfolding concept
  concept-Included c n = search (including, unary-Included, rests-Included) depth 9

module _ {b d : Within} (h : WithinIncluded b d) (low : WithinFilled false b) where
  pub specialisation-Included : (full : Bool) (c : Context) (name : Piece) (n : ℕ) → Included (specialisation full b c name n) (specialisation full d c name n)
  unfolding specialisation
  specialisation-Included full c name n = search (including, argument_list-Included h.base, struct_body-Included) depth 5

  pub templated_struct-Included : (full : Bool) (c : Context) (n : ℕ) → Included (templated_struct full b c n) (templated_struct full d c n)
  unfolding templated_struct
  templated_struct-Included full c n = search (including, struct_behind-Included, specialisation-Included) depth 7

  pub templated_function-Included : (c : Context) (n : ℕ) → Included (templated_function b c n) (templated_function d c n)
  unfolding templated_function
  templated_function-Included c n = search (including, type_id-Included h.base, specifiers-Included, function_behind-Included) depth 7

  pub templated-Included : (ps : List TemplateParameterTree) (has_clause : Bool) (c : Context) (n : ℕ) → Included (templated ps has_clause b c n) (templated ps has_clause d c n)
  unfolding templated
  templated-Included ps has_clause c n = search (including, concept-Included h.base, templated_struct-Included, templated_function-Included) depth 5

module _ {b d : Below} (h : BelowIncluded b d) where
  pub maybe_clause-Included : (c : Context) (n : ℕ) → Included (maybe_clause b c n) (maybe_clause d c n)
  unfolding maybe_clause
  maybe_clause-Included c n = search (including, clause-Included) depth 6

module _ {b d : Within} (h : WithinIncluded b d) (low : WithinFilled false b) where
  pub template-Included : (c : Context) (n : ℕ) → Included (template b c n) (template d c n)
  unfolding template
  template-Included c n = search (including, templated-Included, maybe_clause-Included h.base, h.template_parameters) depth 9

  pub decl-Included : (c : Context) (n : ℕ) → Included (decl b c n) (decl d c n)
  unfolding decl
  decl-Included c n = search (including, assertion-Included h.base, alias-Included h.base, variable_or_function-Included, struct-Included, template-Included) depth 11

  pub more_decl-Included : (c : Context) (so_far : Named (List DeclTree)) → Included (more_decl b c so_far) (more_decl d c so_far)
  more_decl-Included c so_far = search (including, h.decl) depth 5

  pub more_decl-Turns : (c : Context) (so_far : Named (List DeclTree)) → Turns (more_decl b c so_far) (more_decl d c so_far)
  more_decl-Turns c so_far = filled-Turns (more_decl-Included c so_far) (more_decl-Filled low c so_far)

  pub unit-Included : Included (unit b) (unit d)
  unfolding unit
  unit-Included = search (including, repeat-Included, more_decl-Turns) depth 5

-- each level is included in that of the language
pub unit_levels-Included : (n : ℕ) → WithinIncluded (unit_levels false n) (unit_levels true n)
unfolding unit_levels
unit_levels-Included zero = record {
  base = levels-Included 0;
  stmt = λ c m. closed-Included;
  bare = λ c m. closed-Included;
  head = λ c m. closed-Included;
  parameters = λ autos c m. closed-Included;
  members = λ templated c m. closed-Included;
  template_parameters = λ c m. closed-Included;
  decl = λ c m. closed-Included;
}
unit_levels-Included (suc n) = record {
  base = levels-Included (suc n);
  stmt = λ c m. stmt-Included (unit_levels-Included n) (levels-Filled n) c m;
  bare = λ c m. bare_stmt-Included (unit_levels-Included n) (levels-Filled n) c m;
  head = λ c m. for_head-Included (levels-Included n) c m;
  parameters = λ autos c m. parameters-Included (levels-Included n) autos c m;
  members = λ templated c m. members-Included (unit_levels-Included n) (levels-Filled n) templated c m;
  template_parameters = λ c m. template_parameters-Included (levels-Included n) c m;
  decl = λ c m. decl-Included (unit_levels-Included n) (levels-Filled n) c m;
}
