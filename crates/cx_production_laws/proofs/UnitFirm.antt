-- Levels are enough for statements, declarations and units where there is one more than room for constructs.
use Rattle.std.proofs.Common.{ℕ, zero, suc, Bool, true, false, List, Option, Some, None}
use Rattle.cx_base.specs.declared.place.Place.{Place}
use Rattle.cx_tokens.specs.declared.word.Word.{Word}
use Rattle.cx_tokens.specs.declared.word.Word.TheVariants as words
use Rattle.cx_tokens.specs.declared.punctuator.Punctuator.TheVariants as punctuator
use Rattle.cx_syntax.specs.Classes.{word, punct, nothing}
use Rattle.cx_tokens.specs.declared.punctuator.Punctuator.{Punctuator}
use Rattle.cx_tokens.specs.Pieces.{Piece}
use Rattle.cx_syntax.specs.declared.context.Context.{Context}
use Rattle.cx_syntax.specs.Contexts.{deeper}
use Rattle.cx_syntax.specs.Combinators.{node, in_scope, one_more_item, one_more}
use Rattle.cx_syntax.specs.Productions.{give, token, when, ◌>>=◌, given}
use Rattle.cx_productions.specs.Trees.{mark, Mark, ExprTree, TypeTree, ConstraintTree}
use Rattle.cx_productions.specs.StatementTrees.{Return, AutoTree, Opening, OfVariable, OfExpr, StmtTree}
use Rattle.cx_productions.specs.Below.{Below}
use Rattle.cx_productions.specs.Units.{unit_levels, statement_levels, unit}
use Rattle.cx_productions.specs.Scalars.{Core, scalar_after, scalar_at, scalar_of_word}
use Rattle.cx_productions.specs.Types.{type_id}
use Rattle.cx_productions.specs.Primaries.{Operand, list_after}
use Rattle.cx_productions.specs.declared.calling.Calling.TheVariants as calling
use Rattle.cx_productions.specs.Statements.{concept_expr, uncalled_opening, Within, value_init, list_init, init, variable_after, auto_variable_after, auto_after, variable_of, variable_of_auto, expr_opening, whole_expr, variable_of_core, core_opening_after, head_opening_after, head_opening, core_opening, scalar_opening, typed_variable, constrained_auto, plain_auto, const_variable, variable, constexpr_variable, concept_opening, opening, stmt_of, open_stmt, message, assertion, statements, block, substatement, condition, alternative, if_stmt, while_stmt, expr_until, for_init, for_head, for_parts, for_stmt, return_stmt, jump, empty_stmt, assert_stmt, stmt}
use Rattle.cx_names.specs.declared.name_kind.NameKind.{NameKind}
use Rattle.cx_productions.specs.DeclarationTrees.{Specifiers, MemberTree, TemplateParameterTree, DeclTree}
use Rattle.cx_productions.specs.Declarations.{one_more_specifier, specifiers, maybe_name, note_maybe, parameter_after, typed_parameter, auto_parameter, constrained_parameter, const_parameter, parameter, parameters, Surroundings, maybe_clause, function_body, function_parts, function_after, constant_after, alias, variable_or_function, static_member, field_or_function, empty_member, alias_member, member, members, struct_body, struct_after, struct_decl, default_type, default_value, type_parameter, constrained_type_parameter, value_parameter, template_parameter, template_parameters, concept, specialisation, struct_template, specialised_or_new, templated_struct, function_template, templated, template_parts, template, empty_decl, assert_decl, alias_decl, decl, constant_or_function_after, field_after, field_or_function_after, function_rest, plain_parameter, static_type}
use Rattle.cx_syntax_laws.proofs.Lawful.{Lawful, Takes}
use Rattle.cx_syntax_laws.proofs.Firm.{Firm}
use Rattle.cx_syntax_laws.proofs.Room.{Enough, room}
use Rattle.cx_syntax_laws.proofs.Rules.{firmness}
use Rattle.cx_production_laws.proofs.TypeLaws.{Lower}
use Rattle.cx_production_laws.proofs.StatementLaws.{LowerWithin, within_levels, statement_item}
use Rattle.cx_production_laws.proofs.DeclarationLaws.{specifier_turns, lawful_parameter, lawful_template_parameter, member_item, declaration_item}
use Rattle.cx_production_laws.proofs.FirmLaws.{Lasts, lasts_levels, no_level, takes_more, firm_scalar_after, firm_scalar, firm_type, firm_type_after, firm_core, firm_head, firm_arguments, firm_exprs, firm_expr, firm_expr_of, firm_list_after, firm_after_head, firm_constraint, firm_clause}

pub record LastsWithin (n : ℕ) (b d : Within) : Type 0 where
  pub base : Lasts n b.base d.base
  pub stmt : (c : Context) → Enough n c → Firm (b.stmt c) (d.stmt c)

takes_specifier : (c : Context) (s : Specifiers) → Takes (one_more_specifier c s)
takes_specifier c s = (specifier_turns c s).takes

pub firm_auto_after : (c : Context) (at : Option Place) (is_const : Bool) (k : Option ConstraintTree) → Firm (auto_after c at is_const k) (auto_after c at is_const k)
unfolding auto_after
firm_auto_after c at is_const k = search (firmness, room) depth 15 fits 3000

module _ {n : ℕ} {b d : Below} (h : Lower b) (l : Lasts n b d) where
  firm_value_init : (c : Context) → Enough (suc n) c → Firm (value_init b c) (value_init d c)
  unfolding value_init
  firm_value_init c e = search (firm_expr, firmness, room) depth 15 fits 3000

  pub firm_init : (c : Context) → Enough (suc n) c → Firm (init b c) (init d c)
  unfolding init list_init value_init
  firm_init c e = search (firm_exprs, firm_expr, firmness, room) depth 15 fits 3000

  firm_variable_of : (c : Context) (is_constexpr : Bool) (of : TypeTree) → Enough (suc n) c → Firm (variable_of b c is_constexpr of) (variable_of d c is_constexpr of)
  unfolding variable_of variable_after
  firm_variable_of c is_constexpr of e = search (firm_init, firmness, room) depth 15 fits 3000

  firm_variable_of_auto : (c : Context) (is_constexpr : Bool) (of : AutoTree) → Enough (suc n) c → Firm (variable_of_auto b c is_constexpr of) (variable_of_auto d c is_constexpr of)
  unfolding variable_of_auto auto_variable_after
  firm_variable_of_auto c is_constexpr of e = search (firm_value_init, firmness, room) depth 15 fits 3000

  firm_expr_opening : (c : Context) (operand : Operand) → Enough (suc n) c → Firm (expr_opening b c operand) (expr_opening d c operand)
  unfolding expr_opening
  firm_expr_opening c operand e = search (firm_expr_of, firmness, room) depth 15 fits 3000

  firm_constrained_auto : (c : Context) (at : Option Place) (is_constexpr is_const : Bool) → Enough (suc n) c → Firm (constrained_auto b c at is_constexpr is_const) (constrained_auto d c at is_constexpr is_const)
  unfolding constrained_auto
  firm_constrained_auto c at is_constexpr is_const e = search (firm_constraint, firm_auto_after, firm_variable_of_auto, firmness, room) depth 15 fits 3000

  firm_plain_auto : (c : Context) (at : Option Place) (is_constexpr is_const : Bool) → Enough (suc n) c → Firm (plain_auto b c at is_constexpr is_const) (plain_auto d c at is_constexpr is_const)
  unfolding plain_auto
  firm_plain_auto c at is_constexpr is_const e = search (firm_auto_after, firm_variable_of_auto, firmness, room) depth 15 fits 3000

  firm_const_variable : (c : Context) (is_constexpr : Bool) → Enough (suc n) c → Firm (const_variable b c is_constexpr) (const_variable d c is_constexpr)
  unfolding const_variable constrained_auto plain_auto
  firm_const_variable c is_constexpr e = search (firm_constrained_auto, firm_plain_auto, firm_core, firm_type_after, firm_variable_of, firmness, room) depth 15 fits 3000

  firm_variable : (c : Context) (is_constexpr : Bool) → Enough (suc n) c → Firm (variable b c is_constexpr) (variable d c is_constexpr)
  unfolding variable constrained_auto plain_auto typed_variable const_variable
  firm_variable c is_constexpr e = search (firm_constrained_auto, firm_plain_auto, firm_const_variable, firm_type, firm_variable_of, firmness, room) depth 15 fits 3000

  firm_variable_of_core : (c : Context) (k : Core) → Enough (suc n) c → Firm (variable_of_core b c k) (variable_of_core d c k)
  unfolding variable_of_core
  firm_variable_of_core c k e = search (firm_type_after, firm_variable_of, firmness, room) depth 15 fits 3000

  firm_core_opening_after : (c : Context) (k : Core) → Enough (suc n) c → Firm (core_opening_after b c k) (core_opening_after d c k)
  unfolding core_opening_after
  firm_core_opening_after c k e = search (firm_list_after, firm_expr_opening, firm_variable_of_core, firmness, room) depth 15 fits 3000

  firm_head_opening_after : (c : Context) (k : Core) → Enough (suc n) c → Firm (head_opening_after b c k) (head_opening_after d c k)
  unfolding head_opening_after
  firm_head_opening_after c k e = search (firm_after_head, firm_expr_opening, firm_variable_of_core, firmness, room) depth 15 fits 3000

  firm_scalar_after_word : (c : Context) (t : Piece) → Enough (suc n) c → Firm (when (punct punctuator.LeftBrace) (list_after b c (scalar_at t (scalar_of_word t)) >>= (λ operand. uncalled_opening b c operand)) (scalar_after (deeper c) t >>= (λ s. variable_of_core b c (scalar_at t s)))) (when (punct punctuator.LeftBrace) (list_after d c (scalar_at t (scalar_of_word t)) >>= (λ operand. uncalled_opening d c operand)) (scalar_after (deeper c) t >>= (λ s. variable_of_core d c (scalar_at t s))))
  firm_scalar_after_word c t e = search (firm_list_after, firm_expr_opening, firm_scalar_after, firm_variable_of_core, firmness, room) depth 15 fits 3000

  firm_scalar_opening : (c : Context) → Enough (suc n) c → Firm (scalar_opening b c) (scalar_opening d c)
  unfolding scalar_opening
  firm_scalar_opening c e = search (firm_scalar_after_word, firmness, room) depth 15 fits 3000

  firm_concept_after : (c : Context) (k : ConstraintTree) → Enough (suc n) c → Firm (when (word words.Auto) (auto_after c (Some k.mark.at) false (Some k) >>= (λ a. variable_of_auto b c false a)) (expr_opening b c (record { tree = concept_expr k; calling = calling.May }))) (when (word words.Auto) (auto_after c (Some k.mark.at) false (Some k) >>= (λ a. variable_of_auto d c false a)) (expr_opening d c (record { tree = concept_expr k; calling = calling.May })))
  firm_concept_after c k e = search (firm_auto_after, firm_variable_of_auto, firm_expr_opening, firmness, room) depth 15 fits 3000

  firm_concept_opening : (c : Context) → Enough (suc n) c → Firm (concept_opening b c) (concept_opening d c)
  unfolding concept_opening
  firm_concept_opening c e = search (firm_constraint, firm_concept_after, firmness, room) depth 15 fits 3000

  firm_constexpr_variable : (c : Context) → Enough (suc n) c → Firm (constexpr_variable b c) (constexpr_variable d c)
  unfolding constexpr_variable
  firm_constexpr_variable c e = search (firm_variable, firmness, room) depth 15 fits 3000

  firm_head_opening : (c : Context) → Enough (suc n) c → Firm (head_opening b c) (head_opening d c)
  unfolding head_opening
  firm_head_opening c e = search (firm_head, firm_head_opening_after, firmness, room) depth 15 fits 3000

  firm_core_opening : (c : Context) → Enough (suc n) c → Firm (core_opening b c) (core_opening d c)
  unfolding core_opening
  firm_core_opening c e = search (firm_core, firm_core_opening_after, firmness, room) depth 15 fits 3000

  firm_typed_variable : (c : Context) (is_constexpr : Bool) → Enough (suc n) c → Firm (typed_variable b c is_constexpr) (typed_variable d c is_constexpr)
  unfolding typed_variable
  firm_typed_variable c is_constexpr e = search (firm_type, firm_variable_of, firmness, room) depth 15 fits 3000

  firm_whole_expr : (c : Context) → Enough (suc n) c → Firm (whole_expr b c) (whole_expr d c)
  unfolding whole_expr
  firm_whole_expr c e = search (firm_expr, firmness, room) depth 15 fits 3000

  pub firm_opening : (c : Context) → Enough (suc n) c → Firm (opening b c) (opening d c)
  unfolding opening
  firm_opening c e = search (firm_constexpr_variable, firm_const_variable, firm_plain_auto, firm_concept_opening, firm_head_opening, firm_core_opening, firm_scalar_opening, firm_typed_variable, firm_whole_expr, firmness, room) depth 15 fits 3000

  firm_stmt_of : (o : Opening) → Firm (stmt_of o) (stmt_of o)
  unfolding stmt_of
  firm_stmt_of (OfVariable v) = search (firmness, room) depth 15 fits 3000
  firm_stmt_of (OfExpr e) = search (firmness, room) depth 15 fits 3000

  pub firm_assertion : (c : Context) → Enough (suc n) c → Firm (assertion b c) (assertion d c)
  unfolding assertion message
  firm_assertion c e = search (l.expr, firmness, room) depth 20 fits 3000

  firm_condition : (c : Context) → Enough (suc n) c → Firm (condition b c) (condition d c)
  unfolding condition
  firm_condition c e = search (l.expr, firmness, room) depth 15 fits 3000

  firm_expr_until : (after : Punctuator) (c : Context) → Enough (suc n) c → Firm (expr_until after b c) (expr_until after d c)
  unfolding expr_until
  firm_expr_until after c e = search (firm_expr, firmness, room) depth 15 fits 3000

  firm_for_init : (c : Context) → Enough (suc n) c → Firm (for_init b c) (for_init d c)
  unfolding for_init
  firm_for_init c e = search (firm_opening, firmness, room) depth 15 fits 3000

  firm_for_head : (c : Context) → Enough (suc n) c → Firm (for_head b c) (for_head d c)
  unfolding for_head
  firm_for_head c e = search (firm_for_init, firm_expr_until, firmness, room) depth 15 fits 3000

  firm_return_value : (c : Context) (at : Place) → Enough (suc n) c → Firm (expr_until punctuator.Semicolon b c >>= (λ e. token c (punct punctuator.Semicolon) >>= (λ semicolon. node >>= (λ n. give (Return (mark n at) e))))) (expr_until punctuator.Semicolon d c >>= (λ e. token c (punct punctuator.Semicolon) >>= (λ semicolon. node >>= (λ n. give (Return (mark n at) e)))))
  firm_return_value c at e = search (firm_expr_until, firmness, room) depth 15 fits 3000

  firm_return : (c : Context) → Enough (suc n) c → Firm (return_stmt b c) (return_stmt d c)
  unfolding return_stmt
  firm_return c e = search (firm_return_value, firmness, room) depth 15 fits 3000

pub firm_empty : (c : Context) → Firm (empty_stmt c) (empty_stmt c)
unfolding empty_stmt
firm_empty c = search (firmness, room) depth 15 fits 3000

pub firm_jump : (w : Word) (make : Mark → StmtTree) (c : Context) → Firm (jump w make c) (jump w make c)
unfolding jump
firm_jump w make c = search (firmness, room) depth 15 fits 3000

module _ {n : ℕ} {b d : Within} (h : LowerWithin b) (l : LastsWithin n b d) where
  takes_statement : (c : Context) (so_far : List StmtTree) → Takes (one_more_item (b.stmt c) so_far)
  takes_statement c so_far = (statement_item h c so_far).takes

  firm_statements : (c : Context) → Enough n (deeper c) → Firm (statements b c) (statements d c)
  unfolding statements
  firm_statements c e = search (firmness, room, takes_statement, l.stmt) depth 15 fits 3000

  pub firm_block : (c : Context) → Enough (suc n) c → Firm (block b c) (block d c)
  unfolding block
  firm_block c e = search (firm_statements, firmness, room) depth 15 fits 3000

  firm_substatement : (c : Context) → Enough n (deeper c) → Firm (substatement b c) (substatement d c)
  unfolding substatement
  firm_substatement c e = search (l.stmt, firmness, room) depth 15 fits 3000

  firm_alternative : (c : Context) (at : Place) (is_constexpr : Bool) (test : ExprTree) (chosen : StmtTree) → Enough (suc n) c → Firm (alternative b c at is_constexpr test chosen) (alternative d c at is_constexpr test chosen)
  unfolding alternative
  firm_alternative c at is_constexpr test chosen e = search (firm_substatement, firmness, room) depth 15 fits 3000

  firm_if : (c : Context) → Enough (suc n) c → Firm (if_stmt b c) (if_stmt d c)
  unfolding if_stmt
  firm_if c e = search (firm_condition, l.base, firm_substatement, firm_alternative, firmness, room, h.base) depth 15 fits 3000

  firm_while : (c : Context) → Enough (suc n) c → Firm (while_stmt b c) (while_stmt d c)
  unfolding while_stmt
  firm_while c e = search (firm_condition, l.base, firm_substatement, firmness, room, h.base) depth 15 fits 3000

  firm_for_scope : (c : Context) (at : Place) → Enough (suc n) c → Enough n (deeper c) → Firm (in_scope (for_parts b c at)) (in_scope (for_parts d c at))
  unfolding for_parts
  firm_for_scope c at e f = search (firm_for_head, l.base, firm_substatement, firmness, room, h.base) depth 15 fits 3000

  firm_for : (c : Context) → Enough (suc n) c → Firm (for_stmt b c) (for_stmt d c)
  unfolding for_stmt
  firm_for c e = search (firm_for_scope, firmness, room) depth 15 fits 3000

  firm_assert : (c : Context) → Enough (suc n) c → Firm (assert_stmt b.base c) (assert_stmt d.base c)
  unfolding assert_stmt
  firm_assert c e = search (firm_assertion, l.base, firmness, room, h.base) depth 15 fits 3000

  firm_open_stmt : (c : Context) → Enough (suc n) c → Firm (open_stmt b.base c) (open_stmt d.base c)
  unfolding open_stmt
  firm_open_stmt c e = search (firm_opening, firm_stmt_of, l.base, firmness, room, h.base) depth 15 fits 3000

  pub firm_stmt : (c : Context) → Enough (suc n) c → Firm (stmt b c) (stmt d c)
  unfolding stmt
  firm_stmt c e = search (firm_empty, firm_block, firm_assert, firm_jump, firm_return, firm_if, firm_while, firm_for, firm_open_stmt, l.base, firmness, room, h.base) depth 15 fits 3000

pub firm_specifiers : (c : Context) (s : Specifiers) → Firm (specifiers c s) (specifiers c s)
unfolding specifiers one_more_specifier
firm_specifiers c s = search (firmness, room, takes_specifier) depth 15 fits 3000

firm_maybe_name : (c : Context) → Firm (maybe_name c) (maybe_name c)
unfolding maybe_name
firm_maybe_name c = search (firmness, room) depth 15 fits 3000

firm_note_maybe : (kind : NameKind) (name : Option Piece) → Firm (note_maybe kind name) (note_maybe kind name)
unfolding note_maybe
firm_note_maybe kind None = search (firmness, room) depth 15 fits 3000
firm_note_maybe kind (Some t) = search (firmness, room) depth 15 fits 3000

firm_typed_parameter : (c : Context) (of : TypeTree) → Firm (typed_parameter c of) (typed_parameter c of)
unfolding typed_parameter parameter_after
firm_typed_parameter c of = search (firm_maybe_name, firm_note_maybe, firmness, room) depth 15 fits 3000

firm_auto_parameter : (c : Context) (at : Option Place) (is_const : Bool) (k : Option ConstraintTree) → Firm (auto_parameter c at is_const k) (auto_parameter c at is_const k)
unfolding auto_parameter parameter_after
firm_auto_parameter c at is_const k = search (firm_auto_after, firm_maybe_name, firm_note_maybe, firmness, room) depth 15 fits 3000

module _ {n : ℕ} {b d : Below} (h : Lower b) (l : Lasts n b d) where
  firm_constrained_parameter : (c : Context) (at : Option Place) (is_const : Bool) → Enough (suc n) c → Firm (constrained_parameter b c at is_const) (constrained_parameter d c at is_const)
  unfolding constrained_parameter
  firm_constrained_parameter c at is_const e = search (firm_constraint, firm_auto_parameter, firmness, room) depth 15 fits 3000

  firm_const_parameter : (autos : Bool) (c : Context) → Enough (suc n) c → Firm (const_parameter autos b c) (const_parameter autos d c)
  unfolding const_parameter
  firm_const_parameter autos c e = search (firm_constrained_parameter, firm_auto_parameter, firm_typed_parameter, firm_core, firm_type_after, firmness, room) depth 15 fits 3000

  pub firm_parameter : (autos : Bool) (c : Context) → Enough (suc n) c → Firm (parameter autos b c) (parameter autos d c)
  unfolding parameter plain_parameter
  firm_parameter autos c e = search (firm_const_parameter, firm_constrained_parameter, firm_auto_parameter, firm_typed_parameter, firm_type, firmness, room) depth 15 fits 3000

  more_parameter : (autos : Bool) (c : Context) → Lawful true (parameter autos b c)
  more_parameter autos c = lawful_parameter h autos c

  pub firm_function_parameters : (autos : Bool) (c : Context) → Enough (suc n) c → Firm (parameters autos b c) (parameters autos d c)
  unfolding parameters
  firm_function_parameters autos c e = search (firm_typed_parameter, firm_parameter, firm_type_after, firmness, room, takes_more, more_parameter) depth 20 fits 5000

  pub firm_maybe_clause : (templated : Bool) (c : Context) → Enough (suc n) c → Firm (maybe_clause templated b c) (maybe_clause templated d c)
  unfolding maybe_clause
  firm_maybe_clause templated c e = search (firm_clause, firmness, room) depth 15 fits 3000

  firm_constant_after : (c : Context) (s : Specifiers) (of : TypeTree) (name : Piece) → Enough (suc n) c → Firm (constant_after b c s of name) (constant_after d c s of name)
  unfolding constant_after
  firm_constant_after c s of name e = search (firm_init, firmness, room) depth 15 fits 3000

  firm_alias : (c : Context) → Enough (suc n) c → Firm (alias b c) (alias d c)
  unfolding alias
  firm_alias c e = search (firm_type, firmness, room) depth 20 fits 3000

  firm_static_type : (is : Bool) (c : Context) → Enough (suc n) c → Firm (given is (type_id b c) (token c nothing >>= (λ t. type_id b c))) (given is (type_id d c) (token c nothing >>= (λ t. type_id d c)))
  firm_static_type is c e = search (firm_type, firmness, room) depth 15 fits 3000

  firm_static : (c : Context) → Enough (suc n) c → Firm (static_member b c) (static_member d c)
  unfolding static_member static_type
  firm_static c e = search (firm_static_type, firm_specifiers, firm_constant_after, firmness, room) depth 15 fits 3000

  firm_alias_member : (c : Context) → Enough (suc n) c → Firm (alias_member b c) (alias_member d c)
  unfolding alias_member
  firm_alias_member c e = search (firm_alias, firmness, room) depth 15 fits 3000

  firm_default_type : (c : Context) → Enough (suc n) c → Firm (default_type b c) (default_type d c)
  unfolding default_type
  firm_default_type c e = search (firm_type, firmness, room) depth 15 fits 3000

  firm_default_value : (c : Context) → Enough (suc n) c → Firm (default_value b c) (default_value d c)
  unfolding default_value
  firm_default_value c e = search (firm_expr, firmness, room) depth 15 fits 3000

  pub firm_template_parameter : (c : Context) → Enough (suc n) c → Firm (template_parameter b c) (template_parameter d c)
  unfolding template_parameter type_parameter constrained_type_parameter value_parameter
  firm_template_parameter c e = search (firm_default_type, firm_default_value, firm_maybe_name, firm_note_maybe, firm_constraint, firm_scalar, firmness, room) depth 20 fits 5000

  takes_parameters : (c d : Context) (so_far : List TemplateParameterTree) → Takes (one_more d (template_parameter b c) so_far)
  takes_parameters c d so_far = takes_more d (lawful_template_parameter h c) so_far

  pub firm_template_parameters : (c : Context) → Enough (suc n) c → Firm (template_parameters b c) (template_parameters d c)
  unfolding template_parameters
  firm_template_parameters c e = search (firm_template_parameter, firmness, room, takes_parameters) depth 15 fits 3000

  firm_concept : (c : Context) → Enough (suc n) c → Firm (concept b c) (concept d c)
  unfolding concept
  firm_concept c e = search (firm_expr, firmness, room) depth 20 fits 3000

  firm_assert_decl : (c : Context) → Enough (suc n) c → Firm (assert_decl b c) (assert_decl d c)
  unfolding assert_decl
  firm_assert_decl c e = search (firm_assertion, firmness, room) depth 15 fits 3000

  firm_alias_decl : (c : Context) → Enough (suc n) c → Firm (alias_decl b c) (alias_decl d c)
  unfolding alias_decl
  firm_alias_decl c e = search (firm_alias, firmness, room) depth 15 fits 3000

module _ {n : ℕ} {b d : Within} (h : LowerWithin b) (l : LastsWithin n b d) where
  firm_function_body : (c : Context) → Enough (suc n) c → Firm (function_body b c) (function_body d c)
  unfolding function_body
  firm_function_body c e = search (firm_block, l.base, firmness, room, h.base) depth 15 fits 3000

  firm_function_after : (s : Surroundings) (c : Context) (k : Specifiers) (of : TypeTree) (name : Piece) → Enough (suc n) c → Firm (function_after s b c k of name) (function_after s d c k of name)
  unfolding function_after function_parts function_rest
  firm_function_after s c k of name e = search (firm_function_parameters, firm_maybe_clause, firm_function_body, l.base, firmness, room, h.base) depth 20 fits 3000

  firm_variable_or_function : (c : Context) → Enough (suc n) c → Firm (variable_or_function b c) (variable_or_function d c)
  unfolding variable_or_function constant_or_function_after
  firm_variable_or_function c e = search (firm_specifiers, firm_type, firm_constant_after, firm_function_after, l.base, firmness, room, h.base) depth 15 fits 3000

  firm_field_or_function : (templated : Bool) (c : Context) → Enough (suc n) c → Firm (field_or_function templated b c) (field_or_function templated d c)
  unfolding field_or_function field_or_function_after field_after
  firm_field_or_function templated c e = search (firm_specifiers, firm_type, firm_function_after, l.base, firmness, room, h.base) depth 20 fits 3000

  firm_member : (templated : Bool) (c : Context) → Enough (suc n) c → Firm (member templated b c) (member templated d c)
  unfolding member empty_member
  firm_member templated c e = search (firm_alias_member, firm_static, firm_field_or_function, l.base, firmness, room, h.base) depth 15 fits 3000

  takes_member : (templated : Bool) (c : Context) (so_far : List MemberTree) → Takes (one_more_item (member templated b c) so_far)
  takes_member templated c so_far = (member_item h templated c so_far).takes

  firm_members : (templated : Bool) (c : Context) → Enough (suc n) c → Firm (members templated b c) (members templated d c)
  unfolding members
  firm_members templated c e = search (firm_member, firmness, room, takes_member) depth 15 fits 3000

  firm_struct_after : (templated : Bool) (c : Context) (name : Piece) → Enough (suc n) c → Firm (struct_after templated b c name) (struct_after templated d c name)
  unfolding struct_after struct_body
  firm_struct_after templated c name e = search (firm_members, firmness, room) depth 15 fits 3000

  firm_struct : (c : Context) → Enough (suc n) c → Firm (struct_decl b c) (struct_decl d c)
  unfolding struct_decl
  firm_struct c e = search (firm_struct_after, firmness, room) depth 15 fits 3000

  firm_specialisation : (full : Bool) (c : Context) (name : Piece) → Enough (suc n) c → Firm (specialisation full b c name) (specialisation full d c name)
  unfolding specialisation
  firm_specialisation full c name e = search (firm_arguments, firm_struct_after, l.base, firmness, room, h.base) depth 15 fits 3000

  firm_struct_template : (c : Context) (name : Piece) → Enough (suc n) c → Firm (struct_template b c name) (struct_template d c name)
  unfolding struct_template
  firm_struct_template c name e = search (firm_struct_after, firmness, room) depth 15 fits 3000

  firm_templated_struct : (full : Bool) (c : Context) → Enough (suc n) c → Firm (templated_struct full b c) (templated_struct full d c)
  unfolding templated_struct specialised_or_new
  firm_templated_struct full c e = search (firm_specialisation, firm_struct_template, l.base, firmness, room, h.base) depth 20 fits 5000

  firm_function_template : (c : Context) → Enough (suc n) c → Firm (function_template b c) (function_template d c)
  unfolding function_template
  firm_function_template c e = search (firm_specifiers, firm_type, firm_function_after, l.base, firmness, room, h.base) depth 15 fits 3000

  firm_templated : (ps : List TemplateParameterTree) (has_clause : Bool) (c : Context) → Enough (suc n) c → Firm (templated ps has_clause b c) (templated ps has_clause d c)
  unfolding templated
  firm_templated ps has_clause c e = search (firm_templated_struct, firm_concept, firm_function_template, l.base, firmness, room, h.base) depth 15 fits 3000

  firm_template_parts : (c : Context) → Enough (suc n) c → Firm (template_parts b c) (template_parts d c)
  unfolding template_parts
  firm_template_parts c e = search (firm_template_parameters, firm_maybe_clause, firm_templated, l.base, firmness, room, h.base) depth 15 fits 3000

  firm_template : (c : Context) → Enough (suc n) c → Firm (template b c) (template d c)
  unfolding template
  firm_template c e = search (firm_template_parts, firmness, room) depth 15 fits 3000

  pub firm_decl : (c : Context) → Enough (suc n) c → Firm (decl b c) (decl d c)
  unfolding decl empty_decl
  firm_decl c e = search (firm_assert_decl, firm_alias_decl, firm_struct, firm_template, firm_variable_or_function, l.base, firmness, room, h.base) depth 15 fits 3000

  takes_declaration : (c : Context) (so_far : List DeclTree) → Takes (one_more_item (decl b c) so_far)
  takes_declaration c so_far = (declaration_item h c so_far).takes

  pub firm_unit : (c : Context) → Enough (suc n) c → Firm (unit b c) (unit d c)
  unfolding unit
  firm_unit c e = search (firm_decl, firmness, room, takes_declaration) depth 15 fits 3000

pub within_lasts : (n : ℕ) → LastsWithin n (unit_levels n) (unit_levels (suc n))
unfolding statement_levels
within_lasts zero = record { base = lasts_levels zero; stmt = λ c e. no_level e }
within_lasts (suc n) = record { base = lasts_levels (suc n); stmt = firm_stmt (within_levels n) (within_lasts n) }
