-- Statements, declarations and units read at a higher level what they read at a lower one, or more.
use Rattle.std.proofs.Common.{ℕ, zero, suc, Bool, false, List, Option, Some, None}
use Rattle.cx_base.specs.declared.place.Place.{Place}
use Rattle.cx_tokens.specs.declared.word.Word.{Word}
use Rattle.cx_tokens.specs.declared.word.Word.TheVariants as words
use Rattle.cx_tokens.specs.declared.punctuator.Punctuator.TheVariants as punctuator
use Rattle.cx_syntax.specs.Classes.{word, punct, nothing}
use Rattle.cx_tokens.specs.declared.punctuator.Punctuator.{Punctuator}
use Rattle.cx_tokens.specs.Pieces.{Piece}
use Rattle.cx_syntax.specs.declared.context.Context.{Context}
use Rattle.cx_syntax.specs.Contexts.{deeper}
use Rattle.cx_syntax.specs.Combinators.{node, in_scope}
use Rattle.cx_syntax.specs.Productions.{give, token, when, ◌>>=◌, given}
use Rattle.cx_productions.specs.Trees.{mark, Mark, ExprTree, TypeTree, ConstraintTree}
use Rattle.cx_productions.specs.StatementTrees.{Return, AutoTree, Opening, OfVariable, OfExpr, StmtTree}
use Rattle.cx_productions.specs.Below.{Below}
use Rattle.cx_productions.specs.Units.{unit_levels, statement_levels, unit}
use Rattle.cx_productions.specs.Scalars.{Core, scalar_after, scalar_at, scalar_of_word}
use Rattle.cx_productions.specs.Types.{type_id}
use Rattle.cx_productions.specs.Primaries.{Operand, list_after}
use Rattle.cx_productions.specs.declared.calling.Calling.TheVariants as calling
use Rattle.cx_productions.specs.Statements.{concept_expr, uncalled_opening, Within, value_init, list_init, init, variable_after, auto_variable_after, auto_after, variable_of, variable_of_auto, expr_opening, whole_expr, variable_of_core, core_opening_after, head_opening_after, head_opening, core_opening, scalar_opening, typed_variable, constrained_auto, plain_auto, const_variable, variable, constexpr_variable, concept_opening, opening, stmt_of, open_stmt, message, assertion, statements, block, substatement, condition, alternative, if_stmt, while_stmt, expr_until, for_init, for_head, for_parts, for_stmt, return_stmt, jump, empty_stmt, assert_stmt, stmt}
use Rattle.cx_names.specs.declared.name_kind.NameKind.{NameKind}
use Rattle.cx_productions.specs.DeclarationTrees.{Specifiers, TemplateParameterTree}
use Rattle.cx_productions.specs.Declarations.{one_more_specifier, specifiers, maybe_name, note_maybe, parameter_after, typed_parameter, auto_parameter, constrained_parameter, const_parameter, parameter, parameters, Surroundings, maybe_clause, function_body, function_parts, function_after, constant_after, alias, variable_or_function, static_member, field_or_function, empty_member, alias_member, member, members, struct_body, struct_after, struct_decl, default_type, default_value, type_parameter, constrained_type_parameter, value_parameter, template_parameter, template_parameters, concept, specialisation, struct_template, specialised_or_new, templated_struct, function_template, templated, template_parts, template, empty_decl, assert_decl, alias_decl, decl, constant_or_function_after, field_after, field_or_function_after, function_rest, plain_parameter, static_type}
use Rattle.cx_syntax_laws.proofs.Levels.{Grows, grows_closed}
use Rattle.cx_syntax_laws.proofs.Rules.{growth}
use Rattle.cx_production_laws.proofs.GrowLaws.{Rising, rising_levels, grows_scalar_after, grows_scalar, grows_type, grows_type_after, grows_core, grows_head, grows_arguments, grows_exprs, grows_expr, grows_expr_of, grows_list_after, grows_after_head, grows_constraint, grows_clause}
use Rattle.cx_production_laws.proofs.StatementLaws.{within_levels, lawful_stmt}

pub record RisingWithin (b d : Within) : Type 0 where
  pub base : Rising b.base d.base
  pub stmt : (c : Context) → Grows (b.stmt c) (d.stmt c)

pub grows_auto_after : (c : Context) (at : Option Place) (is_const : Bool) (k : Option ConstraintTree) → Grows (auto_after c at is_const k) (auto_after c at is_const k)
unfolding auto_after
grows_auto_after c at is_const k = search (growth) depth 15 fits 3000

module _ {b d : Below} (l : Rising b d) where
  grows_value_init : (c : Context) → Grows (value_init b c) (value_init d c)
  unfolding value_init
  grows_value_init c = search (grows_expr, growth) depth 15 fits 3000

  pub grows_init : (c : Context) → Grows (init b c) (init d c)
  unfolding init list_init value_init
  grows_init c = search (grows_exprs, grows_expr, growth) depth 15 fits 3000

  grows_variable_of : (c : Context) (is_constexpr : Bool) (of : TypeTree) → Grows (variable_of b c is_constexpr of) (variable_of d c is_constexpr of)
  unfolding variable_of variable_after
  grows_variable_of c is_constexpr of = search (grows_init, growth) depth 15 fits 3000

  grows_variable_of_auto : (c : Context) (is_constexpr : Bool) (of : AutoTree) → Grows (variable_of_auto b c is_constexpr of) (variable_of_auto d c is_constexpr of)
  unfolding variable_of_auto auto_variable_after
  grows_variable_of_auto c is_constexpr of = search (grows_value_init, growth) depth 15 fits 3000

  grows_expr_opening : (c : Context) (operand : Operand) → Grows (expr_opening b c operand) (expr_opening d c operand)
  unfolding expr_opening
  grows_expr_opening c operand = search (grows_expr_of, growth) depth 15 fits 3000

  grows_constrained_auto : (c : Context) (at : Option Place) (is_constexpr is_const : Bool) → Grows (constrained_auto b c at is_constexpr is_const) (constrained_auto d c at is_constexpr is_const)
  unfolding constrained_auto
  grows_constrained_auto c at is_constexpr is_const = search (grows_constraint, grows_auto_after, grows_variable_of_auto, growth) depth 15 fits 3000

  grows_plain_auto : (c : Context) (at : Option Place) (is_constexpr is_const : Bool) → Grows (plain_auto b c at is_constexpr is_const) (plain_auto d c at is_constexpr is_const)
  unfolding plain_auto
  grows_plain_auto c at is_constexpr is_const = search (grows_auto_after, grows_variable_of_auto, growth) depth 15 fits 3000

  grows_const_variable : (c : Context) (is_constexpr : Bool) → Grows (const_variable b c is_constexpr) (const_variable d c is_constexpr)
  unfolding const_variable constrained_auto plain_auto
  grows_const_variable c is_constexpr = search (grows_constrained_auto, grows_plain_auto, grows_core, grows_type_after, grows_variable_of, growth) depth 15 fits 3000

  grows_variable : (c : Context) (is_constexpr : Bool) → Grows (variable b c is_constexpr) (variable d c is_constexpr)
  unfolding variable constrained_auto plain_auto typed_variable const_variable
  grows_variable c is_constexpr = search (grows_constrained_auto, grows_plain_auto, grows_const_variable, grows_type, grows_variable_of, growth) depth 15 fits 3000

  grows_variable_of_core : (c : Context) (k : Core) → Grows (variable_of_core b c k) (variable_of_core d c k)
  unfolding variable_of_core
  grows_variable_of_core c k = search (grows_type_after, grows_variable_of, growth) depth 15 fits 3000

  grows_core_opening_after : (c : Context) (k : Core) → Grows (core_opening_after b c k) (core_opening_after d c k)
  unfolding core_opening_after
  grows_core_opening_after c k = search (grows_list_after, grows_expr_opening, grows_variable_of_core, growth) depth 15 fits 3000

  grows_head_opening_after : (c : Context) (k : Core) → Grows (head_opening_after b c k) (head_opening_after d c k)
  unfolding head_opening_after
  grows_head_opening_after c k = search (grows_after_head, grows_expr_opening, grows_variable_of_core, growth) depth 15 fits 3000

  grows_scalar_after_word : (c : Context) (t : Piece) → Grows (when (punct punctuator.LeftBrace) (list_after b c (scalar_at t (scalar_of_word t)) >>= (λ operand. uncalled_opening b c operand)) (scalar_after (deeper c) t >>= (λ s. variable_of_core b c (scalar_at t s)))) (when (punct punctuator.LeftBrace) (list_after d c (scalar_at t (scalar_of_word t)) >>= (λ operand. uncalled_opening d c operand)) (scalar_after (deeper c) t >>= (λ s. variable_of_core d c (scalar_at t s))))
  grows_scalar_after_word c t = search (grows_list_after, grows_expr_opening, grows_scalar_after, grows_variable_of_core, growth) depth 15 fits 3000

  grows_scalar_opening : (c : Context) → Grows (scalar_opening b c) (scalar_opening d c)
  unfolding scalar_opening
  grows_scalar_opening c = search (grows_scalar_after_word, growth) depth 15 fits 3000

  grows_concept_after : (c : Context) (k : ConstraintTree) → Grows (when (word words.Auto) (auto_after c (Some k.mark.at) false (Some k) >>= (λ a. variable_of_auto b c false a)) (expr_opening b c (record { tree = concept_expr k; calling = calling.May }))) (when (word words.Auto) (auto_after c (Some k.mark.at) false (Some k) >>= (λ a. variable_of_auto d c false a)) (expr_opening d c (record { tree = concept_expr k; calling = calling.May })))
  grows_concept_after c k = search (grows_auto_after, grows_variable_of_auto, grows_expr_opening, growth) depth 15 fits 3000

  grows_concept_opening : (c : Context) → Grows (concept_opening b c) (concept_opening d c)
  unfolding concept_opening
  grows_concept_opening c = search (grows_constraint, grows_concept_after, growth) depth 15 fits 3000

  grows_constexpr_variable : (c : Context) → Grows (constexpr_variable b c) (constexpr_variable d c)
  unfolding constexpr_variable
  grows_constexpr_variable c = search (grows_variable, growth) depth 15 fits 3000

  grows_head_opening : (c : Context) → Grows (head_opening b c) (head_opening d c)
  unfolding head_opening
  grows_head_opening c = search (grows_head, grows_head_opening_after, growth) depth 15 fits 3000

  grows_core_opening : (c : Context) → Grows (core_opening b c) (core_opening d c)
  unfolding core_opening
  grows_core_opening c = search (grows_core, grows_core_opening_after, growth) depth 15 fits 3000

  grows_typed_variable : (c : Context) (is_constexpr : Bool) → Grows (typed_variable b c is_constexpr) (typed_variable d c is_constexpr)
  unfolding typed_variable
  grows_typed_variable c is_constexpr = search (grows_type, grows_variable_of, growth) depth 15 fits 3000

  grows_whole_expr : (c : Context) → Grows (whole_expr b c) (whole_expr d c)
  unfolding whole_expr
  grows_whole_expr c = search (grows_expr, growth) depth 15 fits 3000

  pub grows_opening : (c : Context) → Grows (opening b c) (opening d c)
  unfolding opening
  grows_opening c = search (grows_constexpr_variable, grows_const_variable, grows_plain_auto, grows_concept_opening, grows_head_opening, grows_core_opening, grows_scalar_opening, grows_typed_variable, grows_whole_expr, growth) depth 15 fits 3000

  grows_stmt_of : (o : Opening) → Grows (stmt_of o) (stmt_of o)
  unfolding stmt_of
  grows_stmt_of (OfVariable v) = search (growth) depth 15 fits 3000
  grows_stmt_of (OfExpr e) = search (growth) depth 15 fits 3000

  pub grows_assertion : (c : Context) → Grows (assertion b c) (assertion d c)
  unfolding assertion message
  grows_assertion c = search (l.expr, growth) depth 20 fits 3000

  grows_condition : (c : Context) → Grows (condition b c) (condition d c)
  unfolding condition
  grows_condition c = search (l.expr, growth) depth 15 fits 3000

  grows_expr_until : (after : Punctuator) (c : Context) → Grows (expr_until after b c) (expr_until after d c)
  unfolding expr_until
  grows_expr_until after c = search (grows_expr, growth) depth 15 fits 3000

  grows_for_init : (c : Context) → Grows (for_init b c) (for_init d c)
  unfolding for_init
  grows_for_init c = search (grows_opening, growth) depth 15 fits 3000

  grows_for_head : (c : Context) → Grows (for_head b c) (for_head d c)
  unfolding for_head
  grows_for_head c = search (grows_for_init, grows_expr_until, growth) depth 15 fits 3000

  grows_return_value : (c : Context) (at : Place) → Grows (expr_until punctuator.Semicolon b c >>= (λ e. token c (punct punctuator.Semicolon) >>= (λ semicolon. node >>= (λ n. give (Return (mark n at) e))))) (expr_until punctuator.Semicolon d c >>= (λ e. token c (punct punctuator.Semicolon) >>= (λ semicolon. node >>= (λ n. give (Return (mark n at) e)))))
  grows_return_value c at = search (grows_expr_until, growth) depth 15 fits 3000

  grows_return : (c : Context) → Grows (return_stmt b c) (return_stmt d c)
  unfolding return_stmt
  grows_return c = search (grows_return_value, growth) depth 15 fits 3000

pub grows_empty : (c : Context) → Grows (empty_stmt c) (empty_stmt c)
unfolding empty_stmt
grows_empty c = search (growth) depth 15 fits 3000

pub grows_jump : (w : Word) (make : Mark → StmtTree) (c : Context) → Grows (jump w make c) (jump w make c)
unfolding jump
grows_jump w make c = search (growth) depth 15 fits 3000

module _ {b d : Within} (l : RisingWithin b d) where
  grows_statements : (c : Context) → Grows (statements b c) (statements d c)
  unfolding statements
  grows_statements c = search (growth, l.stmt) depth 15 fits 3000

  pub grows_block : (c : Context) → Grows (block b c) (block d c)
  unfolding block
  grows_block c = search (grows_statements, growth) depth 15 fits 3000

  grows_substatement : (c : Context) → Grows (substatement b c) (substatement d c)
  unfolding substatement
  grows_substatement c = search (l.stmt, growth) depth 15 fits 3000

  grows_alternative : (c : Context) (at : Place) (is_constexpr : Bool) (test : ExprTree) (chosen : StmtTree) → Grows (alternative b c at is_constexpr test chosen) (alternative d c at is_constexpr test chosen)
  unfolding alternative
  grows_alternative c at is_constexpr test chosen = search (grows_substatement, growth) depth 15 fits 3000

  grows_if : (c : Context) → Grows (if_stmt b c) (if_stmt d c)
  unfolding if_stmt
  grows_if c = search (grows_condition, l.base, grows_substatement, grows_alternative, growth) depth 15 fits 3000

  grows_while : (c : Context) → Grows (while_stmt b c) (while_stmt d c)
  unfolding while_stmt
  grows_while c = search (grows_condition, l.base, grows_substatement, growth) depth 15 fits 3000

  grows_for_scope : (c : Context) (at : Place) → Grows (in_scope (for_parts b c at)) (in_scope (for_parts d c at))
  unfolding for_parts
  grows_for_scope c at = search (grows_for_head, l.base, grows_substatement, growth) depth 15 fits 3000

  grows_for : (c : Context) → Grows (for_stmt b c) (for_stmt d c)
  unfolding for_stmt
  grows_for c = search (grows_for_scope, growth) depth 15 fits 3000

  grows_assert : (c : Context) → Grows (assert_stmt b.base c) (assert_stmt d.base c)
  unfolding assert_stmt
  grows_assert c = search (grows_assertion, l.base, growth) depth 15 fits 3000

  grows_open_stmt : (c : Context) → Grows (open_stmt b.base c) (open_stmt d.base c)
  unfolding open_stmt
  grows_open_stmt c = search (grows_opening, grows_stmt_of, l.base, growth) depth 15 fits 3000

  pub grows_stmt : (c : Context) → Grows (stmt b c) (stmt d c)
  unfolding stmt
  grows_stmt c = search (grows_empty, grows_block, grows_assert, grows_jump, grows_return, grows_if, grows_while, grows_for, grows_open_stmt, l.base, growth) depth 15 fits 3000

pub grows_specifiers : (c : Context) (s : Specifiers) → Grows (specifiers c s) (specifiers c s)
unfolding specifiers one_more_specifier
grows_specifiers c s = search (growth) depth 15 fits 3000

grows_maybe_name : (c : Context) → Grows (maybe_name c) (maybe_name c)
unfolding maybe_name
grows_maybe_name c = search (growth) depth 15 fits 3000

grows_note_maybe : (kind : NameKind) (name : Option Piece) → Grows (note_maybe kind name) (note_maybe kind name)
unfolding note_maybe
grows_note_maybe kind None = search (growth) depth 15 fits 3000
grows_note_maybe kind (Some t) = search (growth) depth 15 fits 3000

grows_typed_parameter : (c : Context) (of : TypeTree) → Grows (typed_parameter c of) (typed_parameter c of)
unfolding typed_parameter parameter_after
grows_typed_parameter c of = search (grows_maybe_name, grows_note_maybe, growth) depth 15 fits 3000

grows_auto_parameter : (c : Context) (at : Option Place) (is_const : Bool) (k : Option ConstraintTree) → Grows (auto_parameter c at is_const k) (auto_parameter c at is_const k)
unfolding auto_parameter parameter_after
grows_auto_parameter c at is_const k = search (grows_auto_after, grows_maybe_name, grows_note_maybe, growth) depth 15 fits 3000

module _ {b d : Below} (l : Rising b d) where
  grows_constrained_parameter : (c : Context) (at : Option Place) (is_const : Bool) → Grows (constrained_parameter b c at is_const) (constrained_parameter d c at is_const)
  unfolding constrained_parameter
  grows_constrained_parameter c at is_const = search (grows_constraint, grows_auto_parameter, growth) depth 15 fits 3000

  grows_const_parameter : (autos : Bool) (c : Context) → Grows (const_parameter autos b c) (const_parameter autos d c)
  unfolding const_parameter
  grows_const_parameter autos c = search (grows_constrained_parameter, grows_auto_parameter, grows_typed_parameter, grows_core, grows_type_after, growth) depth 15 fits 3000

  pub grows_parameter : (autos : Bool) (c : Context) → Grows (parameter autos b c) (parameter autos d c)
  unfolding parameter plain_parameter
  grows_parameter autos c = search (grows_const_parameter, grows_constrained_parameter, grows_auto_parameter, grows_typed_parameter, grows_type, growth) depth 15 fits 3000

  pub grows_function_parameters : (autos : Bool) (c : Context) → Grows (parameters autos b c) (parameters autos d c)
  unfolding parameters
  grows_function_parameters autos c = search (grows_typed_parameter, grows_parameter, grows_type_after, growth) depth 20 fits 5000

  pub grows_maybe_clause : (templated : Bool) (c : Context) → Grows (maybe_clause templated b c) (maybe_clause templated d c)
  unfolding maybe_clause
  grows_maybe_clause templated c = search (grows_clause, growth) depth 15 fits 3000

  grows_constant_after : (c : Context) (s : Specifiers) (of : TypeTree) (name : Piece) → Grows (constant_after b c s of name) (constant_after d c s of name)
  unfolding constant_after
  grows_constant_after c s of name = search (grows_init, growth) depth 15 fits 3000

  grows_alias : (c : Context) → Grows (alias b c) (alias d c)
  unfolding alias
  grows_alias c = search (grows_type, growth) depth 20 fits 3000

  grows_static_type : (is : Bool) (c : Context) → Grows (given is (type_id b c) (token c nothing >>= (λ t. type_id b c))) (given is (type_id d c) (token c nothing >>= (λ t. type_id d c)))
  grows_static_type is c = search (grows_type, growth) depth 15 fits 3000

  grows_static : (c : Context) → Grows (static_member b c) (static_member d c)
  unfolding static_member static_type
  grows_static c = search (grows_static_type, grows_specifiers, grows_constant_after, growth) depth 15 fits 3000

  grows_alias_member : (c : Context) → Grows (alias_member b c) (alias_member d c)
  unfolding alias_member
  grows_alias_member c = search (grows_alias, growth) depth 15 fits 3000

  grows_default_type : (c : Context) → Grows (default_type b c) (default_type d c)
  unfolding default_type
  grows_default_type c = search (grows_type, growth) depth 15 fits 3000

  grows_default_value : (c : Context) → Grows (default_value b c) (default_value d c)
  unfolding default_value
  grows_default_value c = search (grows_expr, growth) depth 15 fits 3000

  pub grows_template_parameter : (c : Context) → Grows (template_parameter b c) (template_parameter d c)
  unfolding template_parameter type_parameter constrained_type_parameter value_parameter
  grows_template_parameter c = search (grows_default_type, grows_default_value, grows_maybe_name, grows_note_maybe, grows_constraint, grows_scalar, growth) depth 20 fits 5000

  pub grows_template_parameters : (c : Context) → Grows (template_parameters b c) (template_parameters d c)
  unfolding template_parameters
  grows_template_parameters c = search (grows_template_parameter, growth) depth 15 fits 3000

  grows_concept : (c : Context) → Grows (concept b c) (concept d c)
  unfolding concept
  grows_concept c = search (grows_expr, growth) depth 20 fits 3000

  grows_assert_decl : (c : Context) → Grows (assert_decl b c) (assert_decl d c)
  unfolding assert_decl
  grows_assert_decl c = search (grows_assertion, growth) depth 15 fits 3000

  grows_alias_decl : (c : Context) → Grows (alias_decl b c) (alias_decl d c)
  unfolding alias_decl
  grows_alias_decl c = search (grows_alias, growth) depth 15 fits 3000

module _ {b d : Within} (l : RisingWithin b d) where
  grows_function_body : (c : Context) → Grows (function_body b c) (function_body d c)
  unfolding function_body
  grows_function_body c = search (grows_block, l.base, growth) depth 15 fits 3000

  grows_function_after : (s : Surroundings) (c : Context) (k : Specifiers) (of : TypeTree) (name : Piece) → Grows (function_after s b c k of name) (function_after s d c k of name)
  unfolding function_after function_parts function_rest
  grows_function_after s c k of name = search (grows_function_parameters, grows_maybe_clause, grows_function_body, l.base, growth) depth 20 fits 3000

  grows_variable_or_function : (c : Context) → Grows (variable_or_function b c) (variable_or_function d c)
  unfolding variable_or_function constant_or_function_after
  grows_variable_or_function c = search (grows_specifiers, grows_type, grows_constant_after, grows_function_after, l.base, growth) depth 15 fits 3000

  grows_field_or_function : (templated : Bool) (c : Context) → Grows (field_or_function templated b c) (field_or_function templated d c)
  unfolding field_or_function field_or_function_after field_after
  grows_field_or_function templated c = search (grows_specifiers, grows_type, grows_function_after, l.base, growth) depth 20 fits 3000

  grows_member : (templated : Bool) (c : Context) → Grows (member templated b c) (member templated d c)
  unfolding member empty_member
  grows_member templated c = search (grows_alias_member, grows_static, grows_field_or_function, l.base, growth) depth 15 fits 3000

  grows_members : (templated : Bool) (c : Context) → Grows (members templated b c) (members templated d c)
  unfolding members
  grows_members templated c = search (grows_member, growth) depth 15 fits 3000

  grows_struct_after : (templated : Bool) (c : Context) (name : Piece) → Grows (struct_after templated b c name) (struct_after templated d c name)
  unfolding struct_after struct_body
  grows_struct_after templated c name = search (grows_members, growth) depth 15 fits 3000

  grows_struct : (c : Context) → Grows (struct_decl b c) (struct_decl d c)
  unfolding struct_decl
  grows_struct c = search (grows_struct_after, growth) depth 15 fits 3000

  grows_specialisation : (full : Bool) (c : Context) (name : Piece) → Grows (specialisation full b c name) (specialisation full d c name)
  unfolding specialisation
  grows_specialisation full c name = search (grows_arguments, grows_struct_after, l.base, growth) depth 15 fits 3000

  grows_struct_template : (c : Context) (name : Piece) → Grows (struct_template b c name) (struct_template d c name)
  unfolding struct_template
  grows_struct_template c name = search (grows_struct_after, growth) depth 15 fits 3000

  grows_templated_struct : (full : Bool) (c : Context) → Grows (templated_struct full b c) (templated_struct full d c)
  unfolding templated_struct specialised_or_new
  grows_templated_struct full c = search (grows_specialisation, grows_struct_template, l.base, growth) depth 20 fits 5000

  grows_function_template : (c : Context) → Grows (function_template b c) (function_template d c)
  unfolding function_template
  grows_function_template c = search (grows_specifiers, grows_type, grows_function_after, l.base, growth) depth 15 fits 3000

  grows_templated : (ps : List TemplateParameterTree) (has_clause : Bool) (c : Context) → Grows (templated ps has_clause b c) (templated ps has_clause d c)
  unfolding templated
  grows_templated ps has_clause c = search (grows_templated_struct, grows_concept, grows_function_template, l.base, growth) depth 15 fits 3000

  grows_template_parts : (c : Context) → Grows (template_parts b c) (template_parts d c)
  unfolding template_parts
  grows_template_parts c = search (grows_template_parameters, grows_maybe_clause, grows_templated, l.base, growth) depth 15 fits 3000

  grows_template : (c : Context) → Grows (template b c) (template d c)
  unfolding template
  grows_template c = search (grows_template_parts, growth) depth 15 fits 3000

  pub grows_decl : (c : Context) → Grows (decl b c) (decl d c)
  unfolding decl empty_decl
  grows_decl c = search (grows_assert_decl, grows_alias_decl, grows_struct, grows_template, grows_variable_or_function, l.base, growth) depth 15 fits 3000

  pub grows_unit : (c : Context) → Grows (unit b c) (unit d c)
  unfolding unit
  grows_unit c = search (grows_decl, growth) depth 15 fits 3000

pub within_rising : (n : ℕ) → RisingWithin (unit_levels n) (unit_levels (suc n))
unfolding statement_levels
within_rising zero = record { base = rising_levels zero; stmt = λ c. grows_closed (lawful_stmt (within_levels zero) c) }
within_rising (suc n) = record { base = rising_levels (suc n); stmt = grows_stmt (within_rising n) }
