-- Statements, declarations and units are not exhausted where the levels are more than what the limit leaves.
use Rattle.std.proofs.Common.{◌≤◌, ℕ, zero, suc, ◌+◌, Bool, List, Option, arith}
use Rattle.cx_base.specs.declared.place.Place.{Place}
use Rattle.cx_scope.specs.declared.name_kind.NameKind.{NameKind}
use Rattle.cx_tree.specs.Trees.{Mark, ExprTree, TypeTree, CoreTree, ConstraintTree}
use Rattle.cx_tree.specs.Statements.{AutoTree, WrittenType, StmtTree}
use Rattle.cx_tree.specs.Declarations.{Specifiers, ParameterTree, MemberTree, TemplateParameterTree, DeclTree}
use Rattle.cx_grammar.specs.Pieces.{Piece}
use Rattle.cx_grammar.specs.Production.{Production}
use Rattle.cx_grammar.specs.Names.{Context}
use Rattle.cx_grammar.specs.Types.{Numbered, Placed, Below, Named}
use Rattle.cx_grammar.specs.Statements.{Within, condition, value_init, list_init, init, variable_behind, auto_variable_behind, const_behind_auto, reference_behind_auto, auto_behind, variable_of, variable_of_auto, expr_stmt_of, core_stmt, head_stmt, word_stmt, typed_variable, constrained_auto, plain_auto, const_variable, variable, concept_stmt, expr_stmt, open_stmt, assertion, more_stmt, block, substatement, alternative, if_stmt, while_stmt, maybe_expr, for_init, for_head, for_stmt, return_stmt, jump, empty_stmt, closed_stmt, bare_stmt, stmt}
use Rattle.cx_grammar.specs.Declarations.{unit_levels, is_free, with_specifier, specifiers_from, specifiers, parameter_behind, typed_parameter, auto_parameter, const_parameter, parameter, more_parameter, parameters_behind, void_parameters, parameters, trailing, maybe_const_member, function_body, function_behind, constant_behind, alias, variable_or_function, static_member, field_or_function, struct_member, more_member, members, struct_body, struct_behind, struct, maybe_name, default_type, default_value, type_parameter, constrained_parameter, value_parameter, template_parameter, more_template_parameter, template_parameters, concept, specialisation, templated_struct, templated_function, templated, maybe_clause, template, decl, more_decl, unit}
use Rattle.cx_grammar.proofs.Combinators.{Takes, Firm, give-Firm, token-Firm, then-Firm, when-Firm, repeat-Firm}
use Rattle.cx_grammar.proofs.Types.{BelowGrows}
use Rattle.cx_grammar.proofs.Expressions.{levels-Grows}
use Rattle.cx_grammar.proofs.FirmTypes.{BelowFirm, Enough, rooms, firmness, argument_list-Firm, scalar_behind-Firm, scalar_core-Firm, type_id-Firm, type_behind-Firm}
use Rattle.cx_grammar.proofs.FirmExpressions.{levels-Firm, behind_core-Firm, behind_head-Firm, clause-Firm, expr-Firm, expr_behind-Firm, exprs_until-Firm, rests-Firm, tail-Firm, unary-Firm}
use Rattle.cx_grammar.proofs.UnitFilled.{WithinFilled, levels-Filled}
use Rattle.cx_grammar.proofs.UnitGrows.{WithinGrows, unit_levels-Grows, more_stmt-Steps, more_member-Steps, more_decl-Steps, more_parameter-Steps, more_template_parameter-Steps}
use Rattle.cx_grammar.proofs.FirmRequires.{constraint-Firm}

-- levels for a load: one more, for a statement, which is a construct of its own
pub record More (limit n load : ℕ) : Type 0 where
  pub left : limit + 3 ≤ n + load
  pub more : 3 ≤ n

more_next : (limit n load : ℕ) → More limit (suc n) load → Enough limit n (load + 1)
more_next limit n load k = record { left = omega (arith, k.left); more = omega (arith, k.more) }

more_inner : (limit n load : ℕ) → load + 1 ≤ limit → Enough limit (suc n) load → More limit n (load + 1)
more_inner limit n load h k = record { left = omega (arith, k.left); more = omega (arith, k.left) }

ruleset unit_rooms = (more_next, more_inner)

-- productions of level n and of a higher level, within a load
pub record WithinFirm (limit n : ℕ) (b d : Within) : Type 0 where
  pub base : BelowFirm limit n b.base d.base
  pub stmt : (c : Context) (k : ℕ) → More limit n c.load → Firm limit (b.stmt c k) (d.stmt c k)
  pub bare : (c : Context) (k : ℕ) → Enough limit n c.load → Firm limit (b.bare c k) (d.bare c k)
  pub head : (c : Context) (k : ℕ) → Enough limit n c.load → Firm limit (b.head c k) (d.head c k)
  pub parameters : (autos : Bool) (c : Context) (k : ℕ) → Enough limit n c.load → Firm limit (b.parameters autos c k) (d.parameters autos c k)
  pub members : (templated : Bool) (c : Context) (k : ℕ) → Enough limit n c.load → Firm limit (b.members templated c k) (d.members templated c k)
  pub template_parameters : (c : Context) (k : ℕ) → Enough limit n c.load → Firm limit (b.template_parameters c k) (d.template_parameters c k)
  pub decl : (c : Context) (k : ℕ) → Enough limit n c.load → Firm limit (b.decl c k) (d.decl c k)

module _ {requires : Bool} {limit n : ℕ} {b d : Below} (g : BelowGrows requires b d) (f : BelowFirm limit n b d) where
  pub condition-Firm : (c : Context) (m : ℕ) → Enough limit (suc n) c.load → Firm limit (condition b c m) (condition d c m)
  unfolding condition
  condition-Firm c m k = search (firmness, f.expr, rooms) depth 8

  pub value_init-Firm : (c : Context) (m : ℕ) → Enough limit (suc n) c.load → Firm limit (value_init b c m) (value_init d c m)
  unfolding value_init
  value_init-Firm c m k = search (firmness, expr-Firm, rooms) depth 7

  pub list_init-Firm : (c : Context) (m : ℕ) → Enough limit (suc n) c.load → Firm limit (list_init b c m) (list_init d c m)
  unfolding list_init
  list_init-Firm c m k = search (firmness, exprs_until-Firm, rooms) depth 8

  pub init-Firm : (c : Context) (m : ℕ) → Enough limit (suc n) c.load → Firm limit (init b c m) (init d c m)
  unfolding init
  init-Firm c m k = search (firmness, value_init-Firm, list_init-Firm, rooms) depth 7

  pub variable_behind-Firm : (c : Context) (is_constexpr : Bool) (of : Numbered TypeTree) → Enough limit (suc n) c.load → Firm limit (variable_behind b c is_constexpr of) (variable_behind d c is_constexpr of)
  unfolding variable_behind
  variable_behind-Firm c is_constexpr of k = search (firmness, init-Firm, rooms) depth 8

  pub auto_variable_behind-Firm : (c : Context) (is_constexpr : Bool) (of : Numbered AutoTree) → Enough limit (suc n) c.load → Firm limit (auto_variable_behind b c is_constexpr of) (auto_variable_behind d c is_constexpr of)
  unfolding auto_variable_behind
  auto_variable_behind-Firm c is_constexpr of k = search (firmness, value_init-Firm, rooms) depth 8

module _ (limit : ℕ) where
  pub const_behind_auto-Firm : (c : Context) (before : Bool) → Firm limit (const_behind_auto c before) (const_behind_auto c before)
  unfolding const_behind_auto
  const_behind_auto-Firm c before = search firmness depth 7

  pub reference_behind_auto-Firm : (c : Context) → Firm limit (reference_behind_auto c) (reference_behind_auto c)
  unfolding reference_behind_auto
  reference_behind_auto-Firm c = search firmness depth 7

  pub auto_behind-Firm : (c : Context) (at : Option Place) (before : Bool) (constrained : Option ConstraintTree) (n : ℕ) → Firm limit (auto_behind c at before constrained n) (auto_behind c at before constrained n)
  unfolding auto_behind
  auto_behind-Firm c at before constrained n = search (firmness, const_behind_auto-Firm, reference_behind_auto-Firm) depth 8

module _ {requires : Bool} {limit n : ℕ} {b d : Below} (g : BelowGrows requires b d) (f : BelowFirm limit n b d) where
  pub variable_of-Firm : (c : Context) (is_constexpr : Bool) (of : Numbered TypeTree) → Enough limit (suc n) c.load → Firm limit (variable_of b c is_constexpr of) (variable_of d c is_constexpr of)
  unfolding variable_of
  variable_of-Firm c is_constexpr of k = search (firmness, variable_behind-Firm, rooms) depth 7

  pub variable_of_auto-Firm : (c : Context) (is_constexpr : Bool) (of : Numbered AutoTree) → Enough limit (suc n) c.load → Firm limit (variable_of_auto b c is_constexpr of) (variable_of_auto d c is_constexpr of)
  unfolding variable_of_auto
  variable_of_auto-Firm c is_constexpr of k = search (firmness, auto_variable_behind-Firm, rooms) depth 7

  pub expr_stmt_of-Firm : (c : Context) (first : Numbered ExprTree) → Enough limit (suc n) c.load → Firm limit (expr_stmt_of b c first) (expr_stmt_of d c first)
  unfolding expr_stmt_of
  expr_stmt_of-Firm c first k = search (firmness, expr_behind-Firm, rooms) depth 7

  pub core_stmt-Firm : (c : Context) (k' : Numbered (Placed CoreTree)) → Enough limit (suc n) c.load → Firm limit (core_stmt b c k') (core_stmt d c k')
  unfolding core_stmt
  core_stmt-Firm c k' k = search (firmness, type_behind-Firm, behind_core-Firm, tail-Firm, variable_of-Firm, expr_stmt_of-Firm, rooms) depth 9

  pub head_stmt-Firm : (c : Context) (k' : Numbered (Placed CoreTree)) → Enough limit (suc n) c.load → Firm limit (head_stmt b c k') (head_stmt d c k')
  unfolding head_stmt
  head_stmt-Firm c k' k = search (firmness, type_behind-Firm, behind_head-Firm, tail-Firm, variable_of-Firm, expr_stmt_of-Firm, rooms) depth 9

  pub word_stmt-Firm : (c : Context) (m : ℕ) → Enough limit (suc n) c.load → Firm limit (word_stmt b c m) (word_stmt d c m)
  unfolding word_stmt
  word_stmt-Firm c m k = search (firmness, scalar_behind-Firm, type_behind-Firm, behind_core-Firm, tail-Firm, variable_of-Firm, expr_stmt_of-Firm, rooms) depth 11

  pub typed_variable-Firm : (c : Context) (is_constexpr : Bool) (m : ℕ) → Enough limit (suc n) c.load → Firm limit (typed_variable b c is_constexpr m) (typed_variable d c is_constexpr m)
  unfolding typed_variable
  typed_variable-Firm c is_constexpr m k = search (firmness, type_id-Firm, variable_of-Firm, rooms) depth 7

  pub constrained_auto-Firm : (c : Context) (at : Option Place) (is_constexpr : Bool) (before : Bool) (m : ℕ) → Enough limit (suc n) c.load → Firm limit (constrained_auto b c at is_constexpr before m) (constrained_auto d c at is_constexpr before m)
  unfolding constrained_auto
  constrained_auto-Firm c at is_constexpr before m k = search (firmness, constraint-Firm, auto_behind-Firm, variable_of_auto-Firm, rooms) depth 7

  pub plain_auto-Firm : (c : Context) (at : Option Place) (is_constexpr : Bool) (before : Bool) (m : ℕ) → Enough limit (suc n) c.load → Firm limit (plain_auto b c at is_constexpr before m) (plain_auto d c at is_constexpr before m)
  unfolding plain_auto
  plain_auto-Firm c at is_constexpr before m k = search (firmness, auto_behind-Firm, variable_of_auto-Firm, rooms) depth 7

  pub const_variable-Firm : (c : Context) (is_constexpr : Bool) (m : ℕ) → Enough limit (suc n) c.load → Firm limit (const_variable b c is_constexpr m) (const_variable d c is_constexpr m)
  unfolding const_variable
  const_variable-Firm c is_constexpr m k = search (firmness, type_behind-Firm, variable_of-Firm, constrained_auto-Firm, plain_auto-Firm, f.core, rooms) depth 10

  pub variable-Firm : (c : Context) (is_constexpr : Bool) (m : ℕ) → Enough limit (suc n) c.load → Firm limit (variable b c is_constexpr m) (variable d c is_constexpr m)
  unfolding variable
  variable-Firm c is_constexpr m k = search (firmness, typed_variable-Firm, constrained_auto-Firm, plain_auto-Firm, const_variable-Firm, rooms) depth 8

  pub concept_stmt-Firm : (c : Context) (m : ℕ) → Enough limit (suc n) c.load → Firm limit (concept_stmt b c m) (concept_stmt d c m)
  unfolding concept_stmt
  concept_stmt-Firm c m k = search (firmness, tail-Firm, constraint-Firm, auto_behind-Firm, variable_of_auto-Firm, expr_stmt_of-Firm, rooms) depth 9

  pub expr_stmt-Firm : (c : Context) (m : ℕ) → Enough limit (suc n) c.load → Firm limit (expr_stmt b c m) (expr_stmt d c m)
  unfolding expr_stmt
  expr_stmt-Firm c m k = search (firmness, expr-Firm, rooms) depth 7

  pub open_stmt-Firm : (c : Context) (m : ℕ) → Enough limit (suc n) c.load → Firm limit (open_stmt b c m) (open_stmt d c m)
  unfolding open_stmt
  open_stmt-Firm c m k = search (firmness, core_stmt-Firm, head_stmt-Firm, word_stmt-Firm, typed_variable-Firm, plain_auto-Firm, const_variable-Firm, variable-Firm, concept_stmt-Firm, expr_stmt-Firm, f.core, rooms) depth 16

  pub assertion-Firm : (c : Context) (m : ℕ) → Enough limit (suc n) c.load → Firm limit (assertion b c m) (assertion d c m)
  unfolding assertion
  assertion-Firm c m k = search (firmness, f.expr, rooms) depth 14

module _ {requires : Bool} {limit n : ℕ} {b d : Within} (g : WithinGrows requires b d) (low : WithinFilled requires b) (high : WithinFilled requires d) (f : WithinFirm limit n b d) where
  more_stmt-Takes : (c : Context) (so_far : Named (List StmtTree)) → Takes (more_stmt b c so_far)
  more_stmt-Takes c so_far = (more_stmt-Steps g low high c so_far).low

  pub more_stmt-Firm : (c : Context) (so_far : Named (List StmtTree)) → More limit n c.load → Firm limit (more_stmt b c so_far) (more_stmt d c so_far)
  more_stmt-Firm c so_far k = search (firmness, f.stmt, rooms, unit_rooms) depth 7

  pub block-Firm : (c : Context) (m : ℕ) → Enough limit (suc n) c.load → Firm limit (block b c m) (block d c m)
  unfolding block
  block-Firm c m k = search (firmness, repeat-Firm, more_stmt-Firm, more_stmt-Takes, rooms, unit_rooms) depth 8

  pub substatement-Firm : (c : Context) (m : ℕ) → c.load ≤ limit → Enough limit (suc n) c.load → Firm limit (substatement b c m) (substatement d c m)
  unfolding substatement
  substatement-Firm c m w k = search (firmness, f.bare, rooms, unit_rooms) depth 7

  pub alternative-Firm : (c : Context) (at : Mark) (is_constexpr : Bool) (test : ExprTree) (then' : Numbered StmtTree) → Enough limit (suc n) c.load → Firm limit (alternative b c at is_constexpr test then') (alternative d c at is_constexpr test then')
  unfolding alternative
  alternative-Firm c at is_constexpr test then' k = search (firmness, substatement-Firm, rooms, unit_rooms) depth 8

  pub if_stmt-Firm : (c : Context) (m : ℕ) → Enough limit (suc n) c.load → Firm limit (if_stmt b c m) (if_stmt d c m)
  unfolding if_stmt
  if_stmt-Firm c m k = search (firmness, condition-Firm g.base f.base, substatement-Firm, alternative-Firm, rooms, unit_rooms) depth 11

  pub while_stmt-Firm : (c : Context) (m : ℕ) → Enough limit (suc n) c.load → Firm limit (while_stmt b c m) (while_stmt d c m)
  unfolding while_stmt
  while_stmt-Firm c m k = search (firmness, condition-Firm g.base f.base, substatement-Firm, rooms, unit_rooms) depth 8

module _ {requires : Bool} {limit n : ℕ} {b d : Below} (g : BelowGrows requires b d) (f : BelowFirm limit n b d) where
  pub maybe_expr-Firm : (behind : List ℕ) (c : Context) (m : ℕ) → Enough limit (suc n) c.load → Firm limit (maybe_expr behind b c m) (maybe_expr behind d c m)
  unfolding maybe_expr
  maybe_expr-Firm behind c m k = search (firmness, expr-Firm, rooms) depth 7

  pub for_init-Firm : (c : Context) (m : ℕ) → Enough limit (suc n) c.load → Firm limit (for_init b c m) (for_init d c m)
  unfolding for_init
  for_init-Firm c m k = search (firmness, open_stmt-Firm, rooms) depth 8

  pub for_head-Firm : (c : Context) (m : ℕ) → Enough limit (suc n) c.load → Firm limit (for_head b c m) (for_head d c m)
  unfolding for_head
  for_head-Firm c m k = search (firmness, maybe_expr-Firm, for_init-Firm, rooms) depth 9

module _ {requires : Bool} {limit n : ℕ} {b d : Within} (g : WithinGrows requires b d) (low : WithinFilled requires b) (high : WithinFilled requires d) (f : WithinFirm limit n b d) where
  pub for_stmt-Firm : (c : Context) (m : ℕ) → Enough limit (suc n) c.load → Firm limit (for_stmt b c m) (for_stmt d c m)
  unfolding for_stmt
  for_stmt-Firm c m k = search (firmness, substatement-Firm, f.head, rooms, unit_rooms) depth 10

module _ {requires : Bool} {limit n : ℕ} {b d : Below} (g : BelowGrows requires b d) (f : BelowFirm limit n b d) where
  pub return_stmt-Firm : (c : Context) (m : ℕ) → Enough limit (suc n) c.load → Firm limit (return_stmt b c m) (return_stmt d c m)
  unfolding return_stmt
  return_stmt-Firm c m k = search (firmness, maybe_expr-Firm, rooms) depth 8

module _ (limit : ℕ) where
  pub jump-Firm : (text : List ℕ) (make : Mark → StmtTree) (c : Context) (n : ℕ) → Firm limit (jump text make c n) (jump text make c n)
  unfolding jump
  jump-Firm text make c n = search firmness depth 7

  pub empty_stmt-Firm : (c : Context) (n : ℕ) → Firm limit (empty_stmt c n) (empty_stmt c n)
  unfolding empty_stmt
  empty_stmt-Firm c n = search firmness depth 7

module _ (limit : ℕ) where
  pub closed_stmt-Firm : (c : Context) {p q : Production (Numbered StmtTree)} → Firm limit p q → Firm limit (closed_stmt c p) (closed_stmt c q)
  closed_stmt-Firm c h = search firmness

module _ {requires : Bool} {limit n : ℕ} {b d : Within} (g : WithinGrows requires b d) (low : WithinFilled requires b) (high : WithinFilled requires d) (f : WithinFirm limit n b d) where
  pub bare_stmt-Firm : (c : Context) (m : ℕ) → Enough limit (suc n) c.load → Firm limit (bare_stmt b c m) (bare_stmt d c m)
  unfolding bare_stmt
  bare_stmt-Firm c m k = search (firmness, open_stmt-Firm g.base f.base, assertion-Firm g.base f.base, block-Firm, if_stmt-Firm, while_stmt-Firm, for_stmt-Firm, return_stmt-Firm g.base f.base, jump-Firm, empty_stmt-Firm, closed_stmt-Firm, rooms, unit_rooms) depth 15

  pub stmt-Firm : (c : Context) (m : ℕ) → More limit (suc n) c.load → Firm limit (stmt b c m) (stmt d c m)
  unfolding stmt
  stmt-Firm c m k = search (firmness, f.bare, rooms, unit_rooms) depth 7

module _ (limit : ℕ) where
  pub specifiers_from-Firm : (n : ℕ) (c : Context) (s : Specifiers) → Firm limit (specifiers_from n c s) (specifiers_from n c s)
  unfolding specifiers_from
  specifiers_from-Firm zero c s = give-Firm limit s
  specifiers_from-Firm (suc n) c s = when-Firm limit (is_free s) (then-Firm limit (token-Firm limit c.load (is_free s)) (λ t. specifiers_from-Firm n c (with_specifier s t))) (give-Firm limit s)

  pub specifiers-Firm : (c : Context) (s : Specifiers) → Firm limit (specifiers c s) (specifiers c s)
  specifiers-Firm c s = search (firmness, specifiers_from-Firm) depth 7

  pub parameter_behind-Firm : (c : Context) (at : Place) (of : Numbered WrittenType) → Firm limit (parameter_behind c at of) (parameter_behind c at of)
  unfolding parameter_behind
  parameter_behind-Firm c at of = search firmness depth 7

  pub typed_parameter-Firm : (c : Context) (of : Numbered TypeTree) → Firm limit (typed_parameter c of) (typed_parameter c of)
  unfolding typed_parameter
  typed_parameter-Firm c of = search (firmness, parameter_behind-Firm) depth 7

  pub auto_parameter-Firm : (c : Context) (at : Option Place) (before : Bool) (constrained : Option ConstraintTree) (n : ℕ) → Firm limit (auto_parameter c at before constrained n) (auto_parameter c at before constrained n)
  unfolding auto_parameter
  auto_parameter-Firm c at before constrained n = search (firmness, auto_behind-Firm, parameter_behind-Firm) depth 7

module _ {requires : Bool} {limit n : ℕ} {b d : Below} (g : BelowGrows requires b d) (f : BelowFirm limit n b d) where
  pub const_parameter-Firm : (autos : Bool) (c : Context) (m : ℕ) → Enough limit (suc n) c.load → Firm limit (const_parameter autos b c m) (const_parameter autos d c m)
  unfolding const_parameter
  const_parameter-Firm autos c m k = search (firmness, type_behind-Firm, constraint-Firm, typed_parameter-Firm, auto_parameter-Firm, f.core, rooms) depth 11

  pub parameter-Firm : (autos : Bool) (c : Context) (m : ℕ) → Enough limit (suc n) c.load → Firm limit (parameter autos b c m) (parameter autos d c m)
  unfolding parameter
  parameter-Firm autos c m k = search (firmness, type_id-Firm, constraint-Firm, typed_parameter-Firm, auto_parameter-Firm, const_parameter-Firm, rooms) depth 10

  more_parameter-Takes : (autos : Bool) (c : Context) (so_far : Named (List ParameterTree)) → Takes (more_parameter autos b c so_far)
  more_parameter-Takes autos c so_far = (more_parameter-Steps g autos c so_far).low

  pub more_parameter-Firm : (autos : Bool) (c : Context) (so_far : Named (List ParameterTree)) → Enough limit (suc n) c.load → Firm limit (more_parameter autos b c so_far) (more_parameter autos d c so_far)
  more_parameter-Firm autos c so_far k = search (firmness, parameter-Firm, rooms) depth 7

  pub parameters_behind-Firm : (autos : Bool) (c : Context) (first : Named ParameterTree) → Enough limit (suc n) c.load → Firm limit (parameters_behind autos b c first) (parameters_behind autos d c first)
  unfolding parameters_behind
  parameters_behind-Firm autos c first k = search (firmness, repeat-Firm, more_parameter-Firm, more_parameter-Takes, rooms) depth 7

  pub void_parameters-Firm : (autos : Bool) (c : Context) (m : ℕ) → Enough limit (suc n) c.load → Firm limit (void_parameters autos b c m) (void_parameters autos d c m)
  unfolding void_parameters
  void_parameters-Firm autos c m k = search (firmness, type_behind-Firm, typed_parameter-Firm, parameters_behind-Firm, rooms) depth 9

  pub parameters-Firm : (autos : Bool) (c : Context) (m : ℕ) → Enough limit (suc n) c.load → Firm limit (parameters autos b c m) (parameters autos d c m)
  unfolding parameters
  parameters-Firm autos c m k = search (firmness, parameter-Firm, parameters_behind-Firm, void_parameters-Firm, rooms) depth 8

  pub trailing-Firm : (templated : Bool) (c : Context) (m : ℕ) → Enough limit (suc n) c.load → Firm limit (trailing templated b c m) (trailing templated d c m)
  unfolding trailing
  trailing-Firm templated c m k = search (firmness, clause-Firm, rooms) depth 8

module _ (limit : ℕ) where
  pub maybe_const_member-Firm : (is_member : Bool) (c : Context) → Firm limit (maybe_const_member is_member c) (maybe_const_member is_member c)
  unfolding maybe_const_member
  maybe_const_member-Firm is_member c = search firmness depth 7

module _ {requires : Bool} {limit n : ℕ} {b d : Within} (g : WithinGrows requires b d) (low : WithinFilled requires b) (high : WithinFilled requires d) (f : WithinFirm limit n b d) where
  pub function_body-Firm : (c : Context) (m : ℕ) → Enough limit (suc n) c.load → Firm limit (function_body b c m) (function_body d c m)
  unfolding function_body
  function_body-Firm c m k = search (firmness, block-Firm, rooms, unit_rooms) depth 8

  pub function_behind-Firm : (is_member : Bool) (templated : Bool) (c : Context) (s : Specifiers) (result : Numbered TypeTree) (name : Piece) → Enough limit (suc n) c.load → Firm limit (function_behind is_member templated b c s result name) (function_behind is_member templated d c s result name)
  unfolding function_behind
  function_behind-Firm is_member templated c s result name k = search (firmness, trailing-Firm g.base f.base, maybe_const_member-Firm, function_body-Firm, f.parameters, rooms, unit_rooms) depth 11

module _ {requires : Bool} {limit n : ℕ} {b d : Below} (g : BelowGrows requires b d) (f : BelowFirm limit n b d) where
  pub constant_behind-Firm : (c : Context) (s : Specifiers) (of : Numbered TypeTree) (name : Piece) → Enough limit (suc n) c.load → Firm limit (constant_behind b c s of name) (constant_behind d c s of name)
  unfolding constant_behind
  constant_behind-Firm c s of name k = search (firmness, init-Firm, rooms) depth 7

  pub alias-Firm : (c : Context) (m : ℕ) → Enough limit (suc n) c.load → Firm limit (alias b c m) (alias d c m)
  unfolding alias
  alias-Firm c m k = search (firmness, type_id-Firm, rooms) depth 10

module _ {requires : Bool} {limit n : ℕ} {b d : Within} (g : WithinGrows requires b d) (low : WithinFilled requires b) (high : WithinFilled requires d) (f : WithinFirm limit n b d) where
  pub variable_or_function-Firm : (c : Context) (m : ℕ) → Enough limit (suc n) c.load → Firm limit (variable_or_function b c m) (variable_or_function d c m)
  unfolding variable_or_function
  variable_or_function-Firm c m k = search (firmness, type_id-Firm g.base f.base, specifiers-Firm, function_behind-Firm, constant_behind-Firm g.base f.base, rooms, unit_rooms) depth 11

module _ {requires : Bool} {limit n : ℕ} {b d : Below} (g : BelowGrows requires b d) (f : BelowFirm limit n b d) where
  pub static_member-Firm : (c : Context) (m : ℕ) → Enough limit (suc n) c.load → Firm limit (static_member b c m) (static_member d c m)
  unfolding static_member
  static_member-Firm c m k = search (firmness, type_id-Firm, specifiers-Firm, constant_behind-Firm, rooms) depth 12

module _ {requires : Bool} {limit n : ℕ} {b d : Within} (g : WithinGrows requires b d) (low : WithinFilled requires b) (high : WithinFilled requires d) (f : WithinFirm limit n b d) where
  pub field_or_function-Firm : (templated : Bool) (c : Context) (m : ℕ) → Enough limit (suc n) c.load → Firm limit (field_or_function templated b c m) (field_or_function templated d c m)
  unfolding field_or_function
  field_or_function-Firm templated c m k = search (firmness, type_id-Firm g.base f.base, specifiers-Firm, function_behind-Firm, rooms, unit_rooms) depth 11

  pub struct_member-Firm : (templated : Bool) (c : Context) (m : ℕ) → Enough limit (suc n) c.load → Firm limit (struct_member templated b c m) (struct_member templated d c m)
  unfolding struct_member
  struct_member-Firm templated c m k = search (firmness, alias-Firm g.base f.base, static_member-Firm g.base f.base, field_or_function-Firm, rooms, unit_rooms) depth 10

  more_member-Takes : (templated : Bool) (c : Context) (so_far : Named (List MemberTree)) → Takes (more_member templated b c so_far)
  more_member-Takes templated c so_far = (more_member-Steps g low high templated c so_far).low

  pub more_member-Firm : (templated : Bool) (c : Context) (so_far : Named (List MemberTree)) → Enough limit (suc n) c.load → Firm limit (more_member templated b c so_far) (more_member templated d c so_far)
  more_member-Firm templated c so_far k = search (firmness, struct_member-Firm, rooms, unit_rooms) depth 7

  pub members-Firm : (templated : Bool) (c : Context) (m : ℕ) → Enough limit (suc n) c.load → Firm limit (members templated b c m) (members templated d c m)
  unfolding members
  members-Firm templated c m k = search (firmness, repeat-Firm, more_member-Firm, more_member-Takes, rooms, unit_rooms) depth 7

  pub struct_body-Firm : (templated : Bool) (c : Context) (m : ℕ) → Enough limit (suc n) c.load → Firm limit (struct_body templated b c m) (struct_body templated d c m)
  unfolding struct_body
  struct_body-Firm templated c m k = search (firmness, f.members, rooms, unit_rooms) depth 9

  pub struct_behind-Firm : (templated : Bool) (c : Context) (k' : NameKind) (name : Piece) (m : ℕ) → Enough limit (suc n) c.load → Firm limit (struct_behind templated b c k' name m) (struct_behind templated d c k' name m)
  unfolding struct_behind
  struct_behind-Firm templated c k' name m k = search (firmness, struct_body-Firm, rooms, unit_rooms) depth 7

  pub struct-Firm : (c : Context) (m : ℕ) → Enough limit (suc n) c.load → Firm limit (struct b c m) (struct d c m)
  unfolding struct
  struct-Firm c m k = search (firmness, struct_behind-Firm, rooms, unit_rooms) depth 8

module _ (limit : ℕ) where
  pub maybe_name-Firm : (c : Context) → Firm limit (maybe_name c) (maybe_name c)
  unfolding maybe_name
  maybe_name-Firm c = search firmness depth 7

module _ {requires : Bool} {limit n : ℕ} {b d : Below} (g : BelowGrows requires b d) (f : BelowFirm limit n b d) where
  pub default_type-Firm : (c : Context) (m : ℕ) → Enough limit (suc n) c.load → Firm limit (default_type b c m) (default_type d c m)
  unfolding default_type
  default_type-Firm c m k = search (firmness, type_id-Firm, rooms) depth 8

  pub default_value-Firm : (c : Context) (m : ℕ) → Enough limit (suc n) c.load → Firm limit (default_value b c m) (default_value d c m)
  unfolding default_value
  default_value-Firm c m k = search (firmness, expr-Firm, rooms) depth 8

  pub type_parameter-Firm : (c : Context) (m : ℕ) → Enough limit (suc n) c.load → Firm limit (type_parameter b c m) (type_parameter d c m)
  unfolding type_parameter
  type_parameter-Firm c m k = search (firmness, maybe_name-Firm, default_type-Firm, rooms) depth 8

  pub constrained_parameter-Firm : (c : Context) (m : ℕ) → Enough limit (suc n) c.load → Firm limit (constrained_parameter b c m) (constrained_parameter d c m)
  unfolding constrained_parameter
  constrained_parameter-Firm c m k = search (firmness, constraint-Firm, maybe_name-Firm, default_type-Firm, rooms) depth 8

  pub value_parameter-Firm : (c : Context) (m : ℕ) → Enough limit (suc n) c.load → Firm limit (value_parameter b c m) (value_parameter d c m)
  unfolding value_parameter
  value_parameter-Firm c m k = search (firmness, scalar_core-Firm, maybe_name-Firm, default_value-Firm, rooms) depth 8

  pub template_parameter-Firm : (c : Context) (m : ℕ) → Enough limit (suc n) c.load → Firm limit (template_parameter b c m) (template_parameter d c m)
  unfolding template_parameter
  template_parameter-Firm c m k = search (firmness, type_parameter-Firm, constrained_parameter-Firm, value_parameter-Firm, rooms) depth 7

  more_template_parameter-Takes : (c : Context) (so_far : Named (List TemplateParameterTree)) → Takes (more_template_parameter b c so_far)
  more_template_parameter-Takes c so_far = (more_template_parameter-Steps g c so_far).low

  pub more_template_parameter-Firm : (c : Context) (so_far : Named (List TemplateParameterTree)) → Enough limit (suc n) c.load → Firm limit (more_template_parameter b c so_far) (more_template_parameter d c so_far)
  more_template_parameter-Firm c so_far k = search (firmness, template_parameter-Firm, rooms) depth 7

  pub template_parameters-Firm : (c : Context) (m : ℕ) → Enough limit (suc n) c.load → Firm limit (template_parameters b c m) (template_parameters d c m)
  unfolding template_parameters
  template_parameters-Firm c m k = search (firmness, repeat-Firm, template_parameter-Firm, more_template_parameter-Firm, more_template_parameter-Takes, rooms) depth 7

  pub concept-Firm : (c : Context) (m : ℕ) → Enough limit (suc n) c.load → Firm limit (concept b c m) (concept d c m)
  unfolding concept
  concept-Firm c m k = search (firmness, unary-Firm, rests-Firm, rooms) depth 11

module _ {requires : Bool} {limit n : ℕ} {b d : Within} (g : WithinGrows requires b d) (low : WithinFilled requires b) (high : WithinFilled requires d) (f : WithinFirm limit n b d) where
  pub specialisation-Firm : (full : Bool) (c : Context) (name : Piece) (m : ℕ) → Enough limit (suc n) c.load → Firm limit (specialisation full b c name m) (specialisation full d c name m)
  unfolding specialisation
  specialisation-Firm full c name m k = search (firmness, argument_list-Firm g.base f.base, struct_body-Firm, rooms, unit_rooms) depth 7

  pub templated_struct-Firm : (full : Bool) (c : Context) (m : ℕ) → Enough limit (suc n) c.load → Firm limit (templated_struct full b c m) (templated_struct full d c m)
  unfolding templated_struct
  templated_struct-Firm full c m k = search (firmness, struct_behind-Firm, specialisation-Firm, rooms, unit_rooms) depth 9

  pub templated_function-Firm : (c : Context) (m : ℕ) → Enough limit (suc n) c.load → Firm limit (templated_function b c m) (templated_function d c m)
  unfolding templated_function
  templated_function-Firm c m k = search (firmness, type_id-Firm g.base f.base, specifiers-Firm, function_behind-Firm, rooms, unit_rooms) depth 9

  pub templated-Firm : (ps : List TemplateParameterTree) (has_clause : Bool) (c : Context) (m : ℕ) → Enough limit (suc n) c.load → Firm limit (templated ps has_clause b c m) (templated ps has_clause d c m)
  unfolding templated
  templated-Firm ps has_clause c m k = search (firmness, concept-Firm g.base f.base, templated_struct-Firm, templated_function-Firm, rooms, unit_rooms) depth 7

module _ {requires : Bool} {limit n : ℕ} {b d : Below} (g : BelowGrows requires b d) (f : BelowFirm limit n b d) where
  pub maybe_clause-Firm : (c : Context) (m : ℕ) → Enough limit (suc n) c.load → Firm limit (maybe_clause b c m) (maybe_clause d c m)
  unfolding maybe_clause
  maybe_clause-Firm c m k = search (firmness, clause-Firm, rooms) depth 8

module _ {requires : Bool} {limit n : ℕ} {b d : Within} (g : WithinGrows requires b d) (low : WithinFilled requires b) (high : WithinFilled requires d) (f : WithinFirm limit n b d) where
  pub template-Firm : (c : Context) (m : ℕ) → Enough limit (suc n) c.load → Firm limit (template b c m) (template d c m)
  unfolding template
  template-Firm c m k = search (firmness, templated-Firm, maybe_clause-Firm g.base f.base, f.template_parameters, rooms, unit_rooms) depth 11

  pub decl-Firm : (c : Context) (m : ℕ) → Enough limit (suc n) c.load → Firm limit (decl b c m) (decl d c m)
  unfolding decl
  decl-Firm c m k = search (firmness, assertion-Firm g.base f.base, alias-Firm g.base f.base, variable_or_function-Firm, struct-Firm, template-Firm, rooms, unit_rooms) depth 13

  more_decl-Takes : (c : Context) (so_far : Named (List DeclTree)) → Takes (more_decl b c so_far)
  more_decl-Takes c so_far = (more_decl-Steps g low high c so_far).low

  pub more_decl-Firm : (c : Context) (so_far : Named (List DeclTree)) → Enough limit n (c.load + 1) → Firm limit (more_decl b c so_far) (more_decl d c so_far)
  more_decl-Firm c so_far k = search (firmness, f.decl, rooms, unit_rooms) depth 7

  pub unit-Firm : Enough limit n 1 → Firm limit (unit b) (unit d)
  unfolding unit
  unit-Firm k = search (firmness, repeat-Firm, more_decl-Firm, more_decl-Takes, rooms, unit_rooms) depth 7

module _ (limit : ℕ) where
  no_unit_room : (load : ℕ) → Enough limit 0 load → ⊥
  no_unit_room load k = omega (arith, k.more)

  no_more : (load : ℕ) → More limit 0 load → ⊥
  no_more load k = omega (arith, k.more)

  no_unit-Firm : (requires : Bool) → WithinFirm limit 0 (unit_levels requires 0) (unit_levels requires 1)
  unfolding unit_levels
  no_unit-Firm requires = record {
    base = levels-Firm limit requires 0;
    stmt = λ c m k. absurd (no_more c.load k);
    bare = λ c m k. absurd (no_unit_room c.load k);
    head = λ c m k. absurd (no_unit_room c.load k);
    parameters = λ autos c m k. absurd (no_unit_room c.load k);
    members = λ templated c m k. absurd (no_unit_room c.load k);
    template_parameters = λ c m k. absurd (no_unit_room c.load k);
    decl = λ c m k. absurd (no_unit_room c.load k);
  }

  above_unit-Firm : (requires : Bool) (n : ℕ) → WithinFirm limit n (unit_levels requires n) (unit_levels requires (suc n)) → WithinFirm limit (suc n) (unit_levels requires (suc n)) (unit_levels requires (suc (suc n)))
  unfolding unit_levels
  above_unit-Firm requires n f = record {
    base = levels-Firm limit requires (suc n);
    stmt = λ c m k. stmt-Firm (unit_levels-Grows n) (levels-Filled n) (levels-Filled (suc n)) f c m k;
    bare = λ c m k. bare_stmt-Firm (unit_levels-Grows n) (levels-Filled n) (levels-Filled (suc n)) f c m k;
    head = λ c m k. for_head-Firm (levels-Grows n) (levels-Firm limit requires n) c m k;
    parameters = λ autos c m k. parameters-Firm (levels-Grows n) (levels-Firm limit requires n) autos c m k;
    members = λ templated c m k. members-Firm (unit_levels-Grows n) (levels-Filled n) (levels-Filled (suc n)) f templated c m k;
    template_parameters = λ c m k. template_parameters-Firm (levels-Grows n) (levels-Firm limit requires n) c m k;
    decl = λ c m k. decl-Firm (unit_levels-Grows n) (levels-Filled n) (levels-Filled (suc n)) f c m k;
  }

  pub unit_levels-Firm : (requires : Bool) (n : ℕ) → WithinFirm limit n (unit_levels requires n) (unit_levels requires (suc n))
  unit_levels-Firm requires zero = no_unit-Firm requires
  unit_levels-Firm requires (suc n) = above_unit-Firm requires n (unit_levels-Firm requires n)
