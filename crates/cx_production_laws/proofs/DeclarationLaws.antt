-- Declarations ([dcl.dcl], [dcl.fct], [class.mem], [temp]) and units ([basic.link]) are lawful.
use Rattle.std.proofs.Common.{Bool, true, false, List, Option, Some, None}
use Rattle.cx_base.specs.declared.place.Place.{Place}
use Rattle.cx_tokens.specs.Pieces.{Piece}
use Rattle.cx_names.specs.declared.name_kind.NameKind.{NameKind}
use Rattle.cx_syntax.specs.declared.context.Context.{Context}
use Rattle.cx_syntax.specs.Contexts.{deeper}
use Rattle.cx_syntax.specs.Productions.{token, given, ◌>>=◌}
use Rattle.cx_syntax.specs.Classes.{nothing, end}
use Rattle.cx_syntax.specs.Combinators.{one_more_item, items_until}
use Rattle.cx_productions.specs.Trees.{TypeTree, ConstraintTree}
use Rattle.cx_productions.specs.DeclarationTrees.{Specifiers, MemberTree, TemplateParameterTree, DeclTree}
use Rattle.cx_productions.specs.Below.{Below}
use Rattle.cx_productions.specs.Units.{unit}
use Rattle.cx_productions.specs.Types.{type_id}
use Rattle.cx_productions.specs.Statements.{Within}
use Rattle.cx_productions.specs.Declarations.{free_specifier, one_more_specifier, specifiers, maybe_name, note_maybe, parameter_after, typed_parameter, auto_parameter, constrained_parameter, const_parameter, parameter, parameters, Surroundings, maybe_clause, function_body, function_parts, function_after, constant_after, alias, variable_or_function, static_member, field_or_function, empty_member, alias_member, member, members, struct_body, struct_after, struct_decl, default_type, default_value, type_parameter, constrained_type_parameter, value_parameter, template_parameter, template_parameters, concept, specialisation, struct_template, specialised_or_new, templated_struct, function_template, templated, template_parts, template, empty_decl, assert_decl, alias_decl, decl, constant_or_function_after, field_after, field_or_function_after, function_rest, plain_parameter, static_type}
use Rattle.cx_syntax_laws.proofs.Lawful.{Lawful, Filled, Takes}
use Rattle.cx_syntax_laws.proofs.Sequence.{lawful_before, lawful_bind, lawful_give}
use Rattle.cx_syntax_laws.proofs.Tokens.{lawful_token}
use Rattle.cx_syntax_laws.proofs.Firsts.{lawful_weak, filled_after}
use Rattle.cx_syntax_laws.proofs.Repeats.{Turn, Item}
use Rattle.cx_syntax_laws.proofs.Rules.{laws, filling}
use Rattle.cx_production_laws.proofs.TypeLaws.{Lower, lawful_scalar, filled_scalar, lawful_type, filled_type, takes_type, lawful_type_after, lawful_core, filled_core, lawful_arguments, filled_arguments, more_turn}
use Rattle.cx_production_laws.proofs.ExpressionLaws.{lawful_parameters, lawful_clause, lawful_expr, lawful_constraint}
use Rattle.cx_production_laws.proofs.StatementLaws.{LowerWithin, filled_constraint, lawful_auto_after, filled_auto_after, lawful_init, filled_init, lawful_assertion, filled_assertion, takes_assertion, lawful_block, filled_block}

-- ---- specifiers

pub specifier_turns : (c : Context) (s : Specifiers) → Turn (free_specifier s) (one_more_specifier c s)
unfolding one_more_specifier
specifier_turns c s = search laws depth 15 fits 3000

pub lawful_specifiers : (c : Context) (s : Specifiers) → Lawful true (specifiers c s)
unfolding specifiers
lawful_specifiers c s = search (laws, specifier_turns) depth 15 fits 3000

-- ---- parameters

lawful_maybe_name : (c : Context) → Lawful true (maybe_name c)
unfolding maybe_name
lawful_maybe_name c = search laws depth 15 fits 3000

lawful_note_maybe : (kind : NameKind) (name : Option Piece) → Lawful true (note_maybe kind name)
unfolding note_maybe
lawful_note_maybe kind None = search laws
lawful_note_maybe kind (Some t) = search laws

lawful_typed_parameter : (c : Context) (of : TypeTree) → Lawful true (typed_parameter c of)
unfolding typed_parameter parameter_after
lawful_typed_parameter c of = search (laws, lawful_maybe_name, lawful_note_maybe) depth 15 fits 3000

lawful_auto_parameter : (c : Context) (at : Option Place) (is_const : Bool) (k : Option ConstraintTree) → Lawful true (auto_parameter c at is_const k)
unfolding auto_parameter parameter_after
lawful_auto_parameter c at is_const k = search (laws, lawful_auto_after, lawful_maybe_name, lawful_note_maybe) depth 15 fits 3000

filled_auto_parameter : (c : Context) (at : Option Place) (is_const : Bool) (k : Option ConstraintTree) → Filled (auto_parameter c at is_const k)
unfolding auto_parameter
filled_auto_parameter c at is_const k = search (filling, filled_auto_after)

module _ {b : Below} (l : Lower b) where
  lawful_constrained_parameter : (c : Context) (at : Option Place) (is_const : Bool) → Lawful true (constrained_parameter b c at is_const)
  unfolding constrained_parameter
  lawful_constrained_parameter c at is_const = search (laws, lawful_constraint, lawful_auto_parameter) depth 15 fits 3000

  filled_constrained_parameter : (c : Context) (at : Option Place) (is_const : Bool) → Filled (constrained_parameter b c at is_const)
  unfolding constrained_parameter
  filled_constrained_parameter c at is_const = search (filling, filled_constraint)

  lawful_const_parameter : (autos : Bool) (c : Context) → Lawful true (const_parameter autos b c)
  unfolding const_parameter
  lawful_const_parameter autos c = search (lawful_constrained_parameter, filled_constrained_parameter, lawful_auto_parameter, filled_auto_parameter, lawful_typed_parameter, laws, lawful_core, filled_core, lawful_type_after) depth 15 fits 3000

  filled_const_parameter : (autos : Bool) (c : Context) → Filled (const_parameter autos b c)
  unfolding const_parameter
  filled_const_parameter autos c = search filling

  pub lawful_parameter : (autos : Bool) (c : Context) → Lawful true (parameter autos b c)
  unfolding parameter plain_parameter
  lawful_parameter autos c = search (lawful_const_parameter, filled_const_parameter, lawful_constrained_parameter, filled_constrained_parameter, lawful_auto_parameter, filled_auto_parameter, lawful_typed_parameter, laws, lawful_type, filled_type) depth 15 fits 3000

  filled_parameter : (autos : Bool) (c : Context) → Filled (parameter autos b c)
  unfolding parameter plain_parameter
  filled_parameter autos c = search (filled_const_parameter, filled_constrained_parameter, filled_auto_parameter, filling, filled_type) depth 15 fits 3000

  pub lawful_function_parameters : (autos : Bool) (c : Context) → Lawful false (parameters autos b c)
  unfolding parameters
  lawful_function_parameters autos c = lawful_parameters c (lawful_typed_parameter c) (lawful_parameter autos c) (filled_parameter autos c)

  -- ---- clauses, constants, aliases

  lawful_maybe_clause : (templated : Bool) (c : Context) → Lawful true (maybe_clause templated b c)
  unfolding maybe_clause
  lawful_maybe_clause templated c = search (laws, lawful_clause) depth 15 fits 3000

  lawful_constant_after : (c : Context) (s : Specifiers) (of : TypeTree) (name : Piece) → Lawful true (constant_after b c s of name)
  unfolding constant_after
  lawful_constant_after c s of name = search (laws, lawful_init) depth 15 fits 3000

  filled_constant_after : (c : Context) (s : Specifiers) (of : TypeTree) (name : Piece) → Filled (constant_after b c s of name)
  unfolding constant_after
  filled_constant_after c s of name = search (filling, filled_init)

  lawful_alias : (c : Context) → Lawful true (alias b c)
  unfolding alias
  lawful_alias c = search (laws, lawful_type) depth 20 fits 3000

  filled_alias : (c : Context) → Filled (alias b c)
  unfolding alias
  filled_alias c = search filling

  takes_alias : (c : Context) → Takes (alias b c)
  unfolding alias
  takes_alias c = search (laws, lawful_type) depth 20 fits 3000

  -- ---- static members

  lawful_static_type : (is : Bool) (c : Context) → Lawful true (given is (type_id b c) (token c nothing >>= (λ t. type_id b c)))
  lawful_static_type is c = search (laws, lawful_type)

  lawful_static : (c : Context) → Lawful true (static_member b c)
  unfolding static_member static_type
  lawful_static c = search (lawful_static_type, laws, lawful_specifiers, lawful_constant_after) depth 15 fits 3000

  filled_static : (c : Context) → Filled (static_member b c)
  unfolding static_member static_type
  filled_static c = search filling

  takes_static : (c : Context) → Takes (static_member b c)
  unfolding static_member static_type
  takes_static c = search (lawful_static_type, laws, lawful_specifiers, lawful_constant_after) depth 15 fits 3000

  lawful_alias_member : (c : Context) → Lawful true (alias_member b c)
  unfolding alias_member
  lawful_alias_member c = search (laws, lawful_alias)

  filled_alias_member : (c : Context) → Filled (alias_member b c)
  unfolding alias_member
  filled_alias_member c = search (filling, filled_alias)

  takes_alias_member : (c : Context) → Takes (alias_member b c)
  unfolding alias_member
  takes_alias_member c = search (laws, takes_alias)

  -- ---- template parameters

  lawful_default_type : (c : Context) → Lawful true (default_type b c)
  unfolding default_type
  lawful_default_type c = search (laws, lawful_type) depth 15 fits 3000

  lawful_default_value : (c : Context) → Lawful true (default_value b c)
  unfolding default_value
  lawful_default_value c = search (laws, lawful_expr) depth 15 fits 3000

  pub lawful_template_parameter : (c : Context) → Lawful true (template_parameter b c)
  unfolding template_parameter type_parameter constrained_type_parameter value_parameter
  lawful_template_parameter c = search (lawful_default_type, lawful_default_value, lawful_maybe_name, lawful_note_maybe, lawful_constraint, filled_constraint, lawful_scalar, filled_scalar, laws) depth 20 fits 5000

  filled_template_parameter : (c : Context) → Filled (template_parameter b c)
  unfolding template_parameter type_parameter constrained_type_parameter value_parameter
  filled_template_parameter c = search (filled_constraint, filled_scalar, filling)

  pub lawful_template_parameters : (c : Context) → Lawful false (template_parameters b c)
  unfolding template_parameters
  lawful_template_parameters c = search (laws, lawful_weak, more_turn, lawful_template_parameter, filled_template_parameter) depth 15 fits 3000

  -- ---- concepts, assertions

  lawful_concept : (c : Context) → Lawful true (concept b c)
  unfolding concept
  lawful_concept c = search (laws, lawful_expr) depth 20 fits 3000

  filled_concept : (c : Context) → Filled (concept b c)
  unfolding concept
  filled_concept c = search filling

  lawful_assert_decl : (c : Context) → Lawful true (assert_decl b c)
  unfolding assert_decl
  lawful_assert_decl c = search (laws, lawful_assertion)

  filled_assert_decl : (c : Context) → Filled (assert_decl b c)
  unfolding assert_decl
  filled_assert_decl c = search (filling, filled_assertion)

  takes_assert_decl : (c : Context) → Takes (assert_decl b c)
  unfolding assert_decl
  takes_assert_decl c = search (laws, takes_assertion)

  lawful_alias_decl : (c : Context) → Lawful true (alias_decl b c)
  unfolding alias_decl
  lawful_alias_decl c = search (laws, lawful_alias)

  filled_alias_decl : (c : Context) → Filled (alias_decl b c)
  unfolding alias_decl
  filled_alias_decl c = search (filling, filled_alias)

  takes_alias_decl : (c : Context) → Takes (alias_decl b c)
  unfolding alias_decl
  takes_alias_decl c = search (laws, takes_alias)

module _ {b : Within} (l : LowerWithin b) where
  -- ---- functions

  lawful_function_body : (c : Context) → Lawful true (function_body b c)
  unfolding function_body
  lawful_function_body c = search (laws, lawful_block, filled_block, l.base) depth 15 fits 3000

  lawful_function_after : (s : Surroundings) (c : Context) (k : Specifiers) (of : TypeTree) (name : Piece) → Lawful true (function_after s b c k of name)
  unfolding function_after function_parts function_rest
  lawful_function_after s c k of name = search (laws, lawful_function_parameters, lawful_maybe_clause, lawful_function_body, l.base) depth 20 fits 3000

  filled_function_after : (s : Surroundings) (c : Context) (k : Specifiers) (of : TypeTree) (name : Piece) → Filled (function_after s b c k of name)
  unfolding function_after function_parts function_rest
  filled_function_after s c k of name = search filling depth 10

  lawful_variable_or_function : (c : Context) → Lawful true (variable_or_function b c)
  unfolding variable_or_function constant_or_function_after
  lawful_variable_or_function c = search (laws, lawful_specifiers, lawful_type, lawful_constant_after, filled_constant_after, lawful_function_after, filled_function_after, l.base) depth 15 fits 3000

  -- ---- members

  lawful_field_or_function : (templated : Bool) (c : Context) → Lawful true (field_or_function templated b c)
  unfolding field_or_function field_or_function_after field_after
  lawful_field_or_function templated c = search (laws, lawful_specifiers, lawful_type, lawful_function_after, filled_function_after, l.base) depth 20 fits 3000

  filled_field_or_function : (templated : Bool) (c : Context) → Filled (field_or_function templated b c)
  unfolding field_or_function field_or_function_after field_after
  filled_field_or_function templated c = search (filled_after, lawful_specifiers, filling, filled_type, l.base) depth 10

  takes_field_or_function : (templated : Bool) (c : Context) → Takes (field_or_function templated b c)
  unfolding field_or_function field_or_function_after field_after
  takes_field_or_function templated c = search (laws, lawful_specifiers, lawful_type, takes_type, lawful_function_after, filled_function_after, l.base) depth 20 fits 3000

  lawful_member : (templated : Bool) (c : Context) → Lawful true (member templated b c)
  unfolding member empty_member
  lawful_member templated c = search (lawful_alias_member, filled_alias_member, lawful_static, filled_static, lawful_field_or_function, filled_field_or_function, laws, l.base) depth 15 fits 3000

  filled_member : (templated : Bool) (c : Context) → Filled (member templated b c)
  unfolding member empty_member
  filled_member templated c = search (filled_alias_member, filled_static, filled_field_or_function, filling, l.base) depth 15 fits 3000

  takes_member : (templated : Bool) (c : Context) → Takes (member templated b c)
  unfolding member empty_member
  takes_member templated c = search (takes_alias_member, takes_static, takes_field_or_function, laws, l.base) depth 15 fits 3000

  pub member_item : (templated : Bool) (c : Context) (so_far : List MemberTree) → Item (one_more_item (member templated b c) so_far)
  member_item templated c so_far = search (lawful_member, filled_member, takes_member, laws) depth 15 fits 3000

  lawful_members : (templated : Bool) (c : Context) → Lawful false (members templated b c)
  unfolding members
  lawful_members templated c = search (laws, member_item) depth 15 fits 3000

  lawful_struct_after : (templated : Bool) (c : Context) (name : Piece) → Lawful true (struct_after templated b c name)
  unfolding struct_after struct_body
  lawful_struct_after templated c name = search (laws, lawful_members) depth 15 fits 3000

  filled_struct_after : (templated : Bool) (c : Context) (name : Piece) → Filled (struct_after templated b c name)
  unfolding struct_after struct_body
  filled_struct_after templated c name = search filling

  lawful_struct : (c : Context) → Lawful true (struct_decl b c)
  unfolding struct_decl
  lawful_struct c = search (laws, lawful_struct_after) depth 15 fits 3000

  filled_struct : (c : Context) → Filled (struct_decl b c)
  unfolding struct_decl
  filled_struct c = search filling

  takes_struct : (c : Context) → Takes (struct_decl b c)
  unfolding struct_decl
  takes_struct c = search (laws, lawful_struct_after) depth 15 fits 3000

  -- ---- templates

  lawful_specialisation : (full : Bool) (c : Context) (name : Piece) → Lawful true (specialisation full b c name)
  unfolding specialisation
  lawful_specialisation full c name = search (laws, lawful_arguments, lawful_struct_after, l.base) depth 15 fits 3000

  filled_specialisation : (full : Bool) (c : Context) (name : Piece) → Filled (specialisation full b c name)
  unfolding specialisation
  filled_specialisation full c name = search (filling, filled_arguments, l.base)

  lawful_struct_template : (c : Context) (name : Piece) → Lawful true (struct_template b c name)
  unfolding struct_template
  lawful_struct_template c name = search (laws, lawful_struct_after) depth 15 fits 3000

  filled_struct_template : (c : Context) (name : Piece) → Filled (struct_template b c name)
  unfolding struct_template
  filled_struct_template c name = search (filling, filled_struct_after)

  lawful_templated_struct : (full : Bool) (c : Context) → Lawful true (templated_struct full b c)
  unfolding templated_struct specialised_or_new
  lawful_templated_struct full c = search (lawful_specialisation, filled_specialisation, lawful_struct_template, filled_struct_template, laws, l.base) depth 20 fits 5000

  filled_templated_struct : (full : Bool) (c : Context) → Filled (templated_struct full b c)
  unfolding templated_struct
  filled_templated_struct full c = search filling

  lawful_function_template : (c : Context) → Lawful true (function_template b c)
  unfolding function_template
  lawful_function_template c = search (laws, lawful_specifiers, lawful_type, lawful_function_after, l.base) depth 15 fits 3000

  filled_function_template : (c : Context) → Filled (function_template b c)
  unfolding function_template
  filled_function_template c = search (filled_after, lawful_specifiers, filling, filled_type, l.base) depth 10

  lawful_templated : (ps : List TemplateParameterTree) (has_clause : Bool) (c : Context) → Lawful true (templated ps has_clause b c)
  unfolding templated
  lawful_templated ps has_clause c = search (lawful_templated_struct, filled_templated_struct, lawful_concept, filled_concept, lawful_function_template, filled_function_template, laws, l.base) depth 15 fits 3000

  lawful_template_parts : (c : Context) → Lawful true (template_parts b c)
  unfolding template_parts
  lawful_template_parts c = search (lawful_template_parameters, lawful_maybe_clause, lawful_templated, laws, l.base) depth 15 fits 3000

  lawful_template : (c : Context) → Lawful true (template b c)
  unfolding template
  lawful_template c = search (laws, lawful_template_parts) depth 15 fits 3000

  filled_template : (c : Context) → Filled (template b c)
  unfolding template
  filled_template c = search filling

  takes_template : (c : Context) → Takes (template b c)
  unfolding template
  takes_template c = search (laws, lawful_template_parts) depth 15 fits 3000

  -- ---- declarations

  filled_variable_or_function : (c : Context) → Filled (variable_or_function b c)
  unfolding variable_or_function constant_or_function_after
  filled_variable_or_function c = search (filled_after, lawful_specifiers, filling, filled_type, l.base) depth 10

  takes_variable_or_function : (c : Context) → Takes (variable_or_function b c)
  unfolding variable_or_function constant_or_function_after
  takes_variable_or_function c = search (laws, lawful_specifiers, lawful_type, takes_type, lawful_constant_after, filled_constant_after, lawful_function_after, filled_function_after, l.base) depth 20 fits 3000

  pub lawful_decl : (c : Context) → Lawful true (decl b c)
  unfolding decl empty_decl
  lawful_decl c = search (lawful_assert_decl, filled_assert_decl, lawful_alias_decl, filled_alias_decl, lawful_struct, filled_struct, lawful_template, filled_template, lawful_variable_or_function, filled_variable_or_function, laws, l.base) depth 15 fits 3000

  pub filled_decl : (c : Context) → Filled (decl b c)
  unfolding decl empty_decl
  filled_decl c = search (filled_assert_decl, filled_alias_decl, filled_struct, filled_template, filled_variable_or_function, filling, l.base) depth 15 fits 3000

  pub takes_decl : (c : Context) → Takes (decl b c)
  unfolding decl empty_decl
  takes_decl c = search (takes_assert_decl, takes_alias_decl, takes_struct, takes_template, takes_variable_or_function, laws, l.base) depth 15 fits 3000

  pub declaration_item : (c : Context) (so_far : List DeclTree) → Item (one_more_item (decl b c) so_far)
  declaration_item c so_far = search (lawful_decl, filled_decl, takes_decl, laws) depth 15 fits 3000

  lawful_decls : (c : Context) → Lawful false (items_until end (decl b (deeper c)))
  lawful_decls c = search (laws, declaration_item) depth 15 fits 3000

  pub lawful_unit : (c : Context) → Lawful true (unit b c)
  unfolding unit
  lawful_unit c = search (lawful_before, lawful_decls, lawful_token, lawful_give, lawful_bind, filling) depth 15 fits 3000
