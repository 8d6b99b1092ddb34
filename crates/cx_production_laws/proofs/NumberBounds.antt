-- How many nodes each production makes: eight for each piece that it takes, at most.
use Rattle.std.proofs.Common.{◌≡◌, ◌+◌, ◌-◌, arith, ℕ, zero, suc, Bool, true, false, nat_le, List, Option, Some, None, refl, le-leb}
use Rattle.cx_base.specs.declared.place.Place.{Place}
use Rattle.cx_tokens.specs.declared.punctuator.Punctuator.TheVariants as punctuator
use Rattle.cx_tokens.specs.Pieces.{Piece}
use Rattle.cx_syntax.specs.declared.context.Context.{Context}
use Rattle.cx_syntax.specs.Productions.{Production, Class, ◌>>=◌, when, give, token, given}
use Rattle.cx_syntax.specs.Combinators.{node, in_scope}
use Rattle.cx_syntax.specs.Classes.{punct, word, nothing}
use Rattle.cx_productions.specs.Trees.{ExprTree, TypeTree, ArgumentTree, mark, Mark, ConstraintTree}
use Rattle.cx_productions.specs.Below.{Below}
use Rattle.cx_productions.specs.Scalars.{Core, maybe_int, long_long, after_sign, scalar_after, word_core, after_long_long, long_core, scalar_core, scalar_at, scalar_of_word}
use Rattle.cx_productions.specs.Types.{argument_list, member_name, more_names, member_names, as_type, class_core, type_name_core, head_core, member_core, decltype_core, void_core, core, const_after, type_after, const_type, plain_type, type_id}
use Rattle.cx_tokens.specs.declared.word.Word.{Word}
use Rattle.cx_tokens.specs.declared.punctuator.Punctuator.{Punctuator}
use Rattle.cx_names.specs.declared.name_kind.NameKind.{NameKind}
use Rattle.cx_syntax.specs.Contexts.{deeper}
use Rattle.cx_productions.specs.declared.calling.Calling.{Calling}
use Rattle.cx_productions.specs.Levels.{levels}
use Rattle.cx_productions.specs.Primaries.{Operand, expr_list, int_literal, truth, group, static_cast, is_same, out, list_after, names_after, after_head, head_primary, core_primary, scalar_primary, name_alone, template_name, word_primary, simple_primary, primary}
use Rattle.cx_productions.specs.Requires.{constraint, local_after, local, local_list, maybe_locals, simple_requirement, required_member, required_core, type_requirement, result_constraint, compound_requirement, nested_requirement, requirement, requirement_list, requires_expr}
use Rattle.cx_productions.specs.Expressions.{Postfix, member_access, call, postfix_step, postfix_turn, needed_call, postfix_after, postfix, prefixed, unary, chain_turn, binary_operator, binary_chain, binary_after, conditional, assignment, choice_after, expr_after, expr, expr_of}
use Rattle.cx_productions.specs.Arguments.{value_of_operand, type_of_core, core_argument_after, head_argument_after, head_argument, core_argument, scalar_argument, long_argument, const_argument, value_argument, argument}
use Rattle.cx_productions.specs.Clauses.{uncalled, head_operand, simple_operand, clause_operand, clause_operator, conjunction, clause}
use Rattle.cx_tokens.specs.declared.word.Word.TheVariants as words
use Rattle.cx_productions.specs.StatementTrees.{Return, AutoTree, Opening, OfVariable, OfExpr, StmtTree}
use Rattle.cx_productions.specs.Units.{unit_levels, statement_levels, unit}
use Rattle.cx_productions.specs.declared.calling.Calling.TheVariants as calling
use Rattle.cx_productions.specs.Statements.{concept_expr, uncalled_opening, Within, value_init, list_init, init, variable_after, auto_variable_after, auto_after, variable_of, variable_of_auto, expr_opening, whole_expr, variable_of_core, core_opening_after, head_opening_after, head_opening, core_opening, scalar_opening, typed_variable, constrained_auto, plain_auto, const_variable, variable, constexpr_variable, concept_opening, opening, stmt_of, open_stmt, message, assertion, statements, block, substatement, condition, alternative, if_stmt, while_stmt, expr_until, for_init, for_head, for_parts, for_stmt, return_stmt, jump, empty_stmt, assert_stmt, stmt}
use Rattle.cx_productions.specs.DeclarationTrees.{Specifiers, TemplateParameterTree}
use Rattle.cx_productions.specs.Declarations.{one_more_specifier, specifiers, maybe_name, note_maybe, parameter_after, typed_parameter, auto_parameter, constrained_parameter, const_parameter, parameter, parameters, Surroundings, maybe_clause, function_body, function_parts, function_after, constant_after, alias, variable_or_function, static_member, field_or_function, empty_member, alias_member, member, members, struct_body, struct_after, struct_decl, default_type, default_value, type_parameter, constrained_type_parameter, value_parameter, template_parameter, template_parameters, concept, specialisation, struct_template, specialised_or_new, templated_struct, function_template, templated, template_parts, template, empty_decl, assert_decl, alias_decl, decl, constant_or_function_after, field_after, field_or_function_after, function_rest, plain_parameter, static_type}
use Rattle.cx_productions.specs.Types.{more_names}
use Rattle.cx_syntax_laws.proofs.Spending.{Spends, spending, spends_then, spends_any, spends_give, spends_closed}

pub record Spending (b : Below) : Type 0 where
  pub expr : (level : ℕ) (c : Context) → Spends 0 7 (b.expr level c)
  pub argument : (c : Context) → Spends 0 7 (b.argument c)

pub record SpendingWithin (b : Within) : Type 0 where
  pub base : Spending b.base
  pub stmt : (c : Context) → Spends 0 7 (b.stmt c)

pub spends_scalar_after : (c : Context) (t : Piece) → Spends 0 0 (scalar_after c t)
unfolding scalar_after after_sign long_long maybe_int
spends_scalar_after c t = search (spending) depth 40 fits 8000

then_scalar_after : (have want : ℕ) {B : Type 0} (c : Context) (t : Piece) (f : _ → Production B) → nat_le 0 have ≡ true → ((x : _) → Spends (have - 0 + 0) want (f x)) → Spends have want (scalar_after c t >>= f)
then_scalar_after have want c t f enough rest = spends_then have want f 0 0 (spends_scalar_after c t) enough rest

any_scalar_after : (have want : ℕ) (c : Context) (t : Piece) → nat_le 0 have ≡ true → nat_le want (have - 0 + 0) ≡ true → Spends have want (scalar_after c t)
any_scalar_after have want c t enough more = spends_any have want 0 0 (spends_scalar_after c t) enough more

pub spends_scalar : (c : Context) → Spends 0 8 (scalar_core c)
unfolding scalar_core word_core long_core after_long_long maybe_int
spends_scalar c = search (then_scalar_after, any_scalar_after, spending) depth 40 fits 8000

then_scalar : (have want : ℕ) {B : Type 0} (c : Context) (f : _ → Production B) → nat_le 0 have ≡ true → ((x : _) → Spends (have - 0 + 8) want (f x)) → Spends have want (scalar_core c >>= f)
then_scalar have want c f enough rest = spends_then have want f 0 8 (spends_scalar c) enough rest

any_scalar : (have want : ℕ) (c : Context) → nat_le 0 have ≡ true → nat_le want (have - 0 + 8) ≡ true → Spends have want (scalar_core c)
any_scalar have want c enough more = spends_any have want 0 8 (spends_scalar c) enough more

pub spends_long : (c : Context) → Spends 0 8 (long_core c)
unfolding long_core after_long_long maybe_int
spends_long c = search (spending) depth 40 fits 8000

then_long : (have want : ℕ) {B : Type 0} (c : Context) (f : _ → Production B) → nat_le 0 have ≡ true → ((x : _) → Spends (have - 0 + 8) want (f x)) → Spends have want (long_core c >>= f)
then_long have want c f enough rest = spends_then have want f 0 8 (spends_long c) enough rest

any_long : (have want : ℕ) (c : Context) → nat_le 0 have ≡ true → nat_le want (have - 0 + 8) ≡ true → Spends have want (long_core c)
any_long have want c enough more = spends_any have want 0 8 (spends_long c) enough more

pub spends_names : (c : Context) → Spends 0 16 (member_names c)
unfolding member_names member_name more_names
spends_names c = search (spending) depth 40 fits 8000

then_names : (have want : ℕ) {B : Type 0} (c : Context) (f : _ → Production B) → nat_le 0 have ≡ true → ((x : _) → Spends (have - 0 + 16) want (f x)) → Spends have want (member_names c >>= f)
then_names have want c f enough rest = spends_then have want f 0 16 (spends_names c) enough rest

any_names : (have want : ℕ) (c : Context) → nat_le 0 have ≡ true → nat_le want (have - 0 + 16) ≡ true → Spends have want (member_names c)
any_names have want c enough more = spends_any have want 0 16 (spends_names c) enough more

pub spends_type_after : (c : Context) (at : Place) (before : Bool) (k : Core) → Spends 1 0 (type_after c at before k)
unfolding type_after const_after
spends_type_after c at before k = search (spending) depth 40 fits 8000

then_type_after : (have want : ℕ) {B : Type 0} (c : Context) (at : Place) (before : Bool) (k : Core) (f : _ → Production B) → nat_le 1 have ≡ true → ((x : _) → Spends (have - 1 + 0) want (f x)) → Spends have want (type_after c at before k >>= f)
then_type_after have want c at before k f enough rest = spends_then have want f 1 0 (spends_type_after c at before k) enough rest

any_type_after : (have want : ℕ) (c : Context) (at : Place) (before : Bool) (k : Core) → nat_le 1 have ≡ true → nat_le want (have - 1 + 0) ≡ true → Spends have want (type_after c at before k)
any_type_after have want c at before k enough more = spends_any have want 1 0 (spends_type_after c at before k) enough more

module _ {b : Below} (l : Spending b) where
  then_below_expr : (have want : ℕ) {B : Type 0} (level : ℕ) (c : Context) (f : _ → Production B) → ((x : _) → Spends (have - 0 + 7) want (f x)) → Spends have want (b.expr level c >>= f)
  then_below_expr have want level c f k = spends_then have want f 0 7 (l.expr level c) (le-leb 0 have (omega arith)) k

  any_below_expr : (have want : ℕ) (level : ℕ) (c : Context) → nat_le want (have - 0 + 7) ≡ true → Spends have want (b.expr level c)
  any_below_expr have want level c d = spends_any have want 0 7 (l.expr level c) (le-leb 0 have (omega arith)) d

  then_below_argument : (have want : ℕ) {B : Type 0} (c : Context) (f : _ → Production B) → ((x : _) → Spends (have - 0 + 7) want (f x)) → Spends have want (b.argument c >>= f)
  then_below_argument have want c f k = spends_then have want f 0 7 (l.argument c) (le-leb 0 have (omega arith)) k

  any_below_argument : (have want : ℕ) (c : Context) → nat_le want (have - 0 + 7) ≡ true → Spends have want (b.argument c)
  any_below_argument have want c d = spends_any have want 0 7 (l.argument c) (le-leb 0 have (omega arith)) d

  pub spends_arguments : (c : Context) → Spends 0 8 (argument_list b c)
  unfolding argument_list
  spends_arguments c = search (then_below_argument, any_below_argument, spending) depth 40 fits 8000

  then_arguments : (have want : ℕ) {B : Type 0} (c : Context) (f : _ → Production B) → nat_le 0 have ≡ true → ((x : _) → Spends (have - 0 + 8) want (f x)) → Spends have want (argument_list b c >>= f)
  then_arguments have want c f enough rest = spends_then have want f 0 8 (spends_arguments c) enough rest

  any_arguments : (have want : ℕ) (c : Context) → nat_le 0 have ≡ true → nat_le want (have - 0 + 8) ≡ true → Spends have want (argument_list b c)
  any_arguments have want c enough more = spends_any have want 0 8 (spends_arguments c) enough more

  pub spends_head : (c : Context) → Spends 0 8 (head_core b c)
  unfolding head_core class_core type_name_core
  spends_head c = search (then_arguments, any_arguments, spending) depth 40 fits 8000

  then_head : (have want : ℕ) {B : Type 0} (c : Context) (f : _ → Production B) → nat_le 0 have ≡ true → ((x : _) → Spends (have - 0 + 8) want (f x)) → Spends have want (head_core b c >>= f)
  then_head have want c f enough rest = spends_then have want f 0 8 (spends_head c) enough rest

  any_head : (have want : ℕ) (c : Context) → nat_le 0 have ≡ true → nat_le want (have - 0 + 8) ≡ true → Spends have want (head_core b c)
  any_head have want c enough more = spends_any have want 0 8 (spends_head c) enough more

  pub spends_core : (c : Context) → Spends 0 8 (core b c)
  unfolding core member_core decltype_core void_core as_type head_core class_core type_name_core
  spends_core c = search (then_arguments, any_arguments, then_names, any_names, then_scalar, any_scalar, then_below_expr, any_below_expr, spending) depth 40 fits 8000

  then_core : (have want : ℕ) {B : Type 0} (c : Context) (f : _ → Production B) → nat_le 0 have ≡ true → ((x : _) → Spends (have - 0 + 8) want (f x)) → Spends have want (core b c >>= f)
  then_core have want c f enough rest = spends_then have want f 0 8 (spends_core c) enough rest

  any_core : (have want : ℕ) (c : Context) → nat_le 0 have ≡ true → nat_le want (have - 0 + 8) ≡ true → Spends have want (core b c)
  any_core have want c enough more = spends_any have want 0 8 (spends_core c) enough more

  pub spends_type : (c : Context) → Spends 0 7 (type_id b c)
  unfolding type_id const_type plain_type core member_core decltype_core void_core head_core class_core type_name_core
  spends_type c = search (then_core, any_core, then_type_after, any_type_after, spending) depth 40 fits 8000

  then_type : (have want : ℕ) {B : Type 0} (c : Context) (f : _ → Production B) → nat_le 0 have ≡ true → ((x : _) → Spends (have - 0 + 7) want (f x)) → Spends have want (type_id b c >>= f)
  then_type have want c f enough rest = spends_then have want f 0 7 (spends_type c) enough rest

  any_type : (have want : ℕ) (c : Context) → nat_le 0 have ≡ true → nat_le want (have - 0 + 7) ≡ true → Spends have want (type_id b c)
  any_type have want c enough more = spends_any have want 0 7 (spends_type c) enough more

pub spends_as_type : (k : Core) → Spends 1 0 (as_type k)
unfolding as_type
spends_as_type k = search (spending) depth 40 fits 8000

then_as_type : (have want : ℕ) {B : Type 0} (k : Core) (f : _ → Production B) → nat_le 1 have ≡ true → ((x : _) → Spends (have - 1 + 0) want (f x)) → Spends have want (as_type k >>= f)
then_as_type have want k f enough rest = spends_then have want f 1 0 (spends_as_type k) enough rest

any_as_type : (have want : ℕ) (k : Core) → nat_le 1 have ≡ true → nat_le want (have - 1 + 0) ≡ true → Spends have want (as_type k)
any_as_type have want k enough more = spends_any have want 1 0 (spends_as_type k) enough more

pub spends_local_after : (c : Context) (of : TypeTree) → Spends 1 0 (local_after c of)
unfolding local_after
spends_local_after c of = search (spending) depth 40 fits 8000

then_local_after : (have want : ℕ) {B : Type 0} (c : Context) (of : TypeTree) (f : _ → Production B) → nat_le 1 have ≡ true → ((x : _) → Spends (have - 1 + 0) want (f x)) → Spends have want (local_after c of >>= f)
then_local_after have want c of f enough rest = spends_then have want f 1 0 (spends_local_after c of) enough rest

any_local_after : (have want : ℕ) (c : Context) (of : TypeTree) → nat_le 1 have ≡ true → nat_le want (have - 1 + 0) ≡ true → Spends have want (local_after c of)
any_local_after have want c of enough more = spends_any have want 1 0 (spends_local_after c of) enough more

module _ {b : Below} (l : Spending b) where
  pub spends_exprs : (close : Class) (c : Context) → Spends 0 0 (expr_list close b c)
  unfolding expr_list
  spends_exprs close c = search (then_below_expr, any_below_expr, spending) depth 40 fits 8000

  then_exprs : (have want : ℕ) {B : Type 0} (close : Class) (c : Context) (f : _ → Production B) → nat_le 0 have ≡ true → ((x : _) → Spends (have - 0 + 0) want (f x)) → Spends have want (expr_list close b c >>= f)
  then_exprs have want close c f enough rest = spends_then have want f 0 0 (spends_exprs close c) enough rest

  any_exprs : (have want : ℕ) (close : Class) (c : Context) → nat_le 0 have ≡ true → nat_le want (have - 0 + 0) ≡ true → Spends have want (expr_list close b c)
  any_exprs have want close c enough more = spends_any have want 0 0 (spends_exprs close c) enough more

  pub spends_list_after : (c : Context) (k : Core) → Spends 1 8 (list_after b c k)
  unfolding list_after as_type
  spends_list_after c k = search (then_as_type, any_as_type, then_exprs, any_exprs, spending) depth 40 fits 8000

  then_list_after : (have want : ℕ) {B : Type 0} (c : Context) (k : Core) (f : _ → Production B) → nat_le 1 have ≡ true → ((x : _) → Spends (have - 1 + 8) want (f x)) → Spends have want (list_after b c k >>= f)
  then_list_after have want c k f enough rest = spends_then have want f 1 8 (spends_list_after c k) enough rest

  any_list_after : (have want : ℕ) (c : Context) (k : Core) → nat_le 1 have ≡ true → nat_le want (have - 1 + 8) ≡ true → Spends have want (list_after b c k)
  any_list_after have want c k enough more = spends_any have want 1 8 (spends_list_after c k) enough more

  pub spends_after_head : (c : Context) (k : Core) → Spends 1 8 (after_head b c k)
  unfolding after_head names_after as_type
  spends_after_head c k = search (then_list_after, any_list_after, then_as_type, any_as_type, then_names, any_names, spending) depth 40 fits 8000

  then_after_head : (have want : ℕ) {B : Type 0} (c : Context) (k : Core) (f : _ → Production B) → nat_le 1 have ≡ true → ((x : _) → Spends (have - 1 + 8) want (f x)) → Spends have want (after_head b c k >>= f)
  then_after_head have want c k f enough rest = spends_then have want f 1 8 (spends_after_head c k) enough rest

  any_after_head : (have want : ℕ) (c : Context) (k : Core) → nat_le 1 have ≡ true → nat_le want (have - 1 + 8) ≡ true → Spends have want (after_head b c k)
  any_after_head have want c k enough more = spends_any have want 1 8 (spends_after_head c k) enough more

  pub spends_template_name : (kind : NameKind) (calls : Calling) (c : Context) → Spends 0 7 (template_name kind calls b c)
  unfolding template_name
  spends_template_name kind calls c = search (then_arguments, any_arguments, spending) depth 40 fits 8000

  then_template_name : (have want : ℕ) {B : Type 0} (kind : NameKind) (calls : Calling) (c : Context) (f : _ → Production B) → nat_le 0 have ≡ true → ((x : _) → Spends (have - 0 + 7) want (f x)) → Spends have want (template_name kind calls b c >>= f)
  then_template_name have want kind calls c f enough rest = spends_then have want f 0 7 (spends_template_name kind calls c) enough rest

  any_template_name : (have want : ℕ) (kind : NameKind) (calls : Calling) (c : Context) → nat_le 0 have ≡ true → nat_le want (have - 0 + 7) ≡ true → Spends have want (template_name kind calls b c)
  any_template_name have want kind calls c enough more = spends_any have want 0 7 (spends_template_name kind calls c) enough more

  pub spends_constraint : (c : Context) → Spends 0 7 (constraint b c)
  unfolding constraint
  spends_constraint c = search (then_arguments, any_arguments, spending) depth 40 fits 8000

  then_constraint : (have want : ℕ) {B : Type 0} (c : Context) (f : _ → Production B) → nat_le 0 have ≡ true → ((x : _) → Spends (have - 0 + 7) want (f x)) → Spends have want (constraint b c >>= f)
  then_constraint have want c f enough rest = spends_then have want f 0 7 (spends_constraint c) enough rest

  any_constraint : (have want : ℕ) (c : Context) → nat_le 0 have ≡ true → nat_le want (have - 0 + 7) ≡ true → Spends have want (constraint b c)
  any_constraint have want c enough more = spends_any have want 0 7 (spends_constraint c) enough more

  pub spends_local : (c : Context) → Spends 0 6 (local b c)
  unfolding local
  spends_local c = search (then_type, any_type, then_local_after, any_local_after, spending) depth 40 fits 8000

  then_local : (have want : ℕ) {B : Type 0} (c : Context) (f : _ → Production B) → nat_le 0 have ≡ true → ((x : _) → Spends (have - 0 + 6) want (f x)) → Spends have want (local b c >>= f)
  then_local have want c f enough rest = spends_then have want f 0 6 (spends_local c) enough rest

  any_local : (have want : ℕ) (c : Context) → nat_le 0 have ≡ true → nat_le want (have - 0 + 6) ≡ true → Spends have want (local b c)
  any_local have want c enough more = spends_any have want 0 6 (spends_local c) enough more

  pub spends_locals : (c : Context) → Spends 0 0 (local_list b c)
  unfolding local_list
  spends_locals c = search (then_local, any_local, then_local_after, any_local_after, then_type_after, any_type_after, spending) depth 40 fits 8000

  then_locals : (have want : ℕ) {B : Type 0} (c : Context) (f : _ → Production B) → nat_le 0 have ≡ true → ((x : _) → Spends (have - 0 + 0) want (f x)) → Spends have want (local_list b c >>= f)
  then_locals have want c f enough rest = spends_then have want f 0 0 (spends_locals c) enough rest

  any_locals : (have want : ℕ) (c : Context) → nat_le 0 have ≡ true → nat_le want (have - 0 + 0) ≡ true → Spends have want (local_list b c)
  any_locals have want c enough more = spends_any have want 0 0 (spends_locals c) enough more

  pub spends_maybe_locals : (c : Context) → Spends 0 0 (maybe_locals b c)
  unfolding maybe_locals
  spends_maybe_locals c = search (then_locals, any_locals, spending) depth 40 fits 8000

  then_maybe_locals : (have want : ℕ) {B : Type 0} (c : Context) (f : _ → Production B) → nat_le 0 have ≡ true → ((x : _) → Spends (have - 0 + 0) want (f x)) → Spends have want (maybe_locals b c >>= f)
  then_maybe_locals have want c f enough rest = spends_then have want f 0 0 (spends_maybe_locals c) enough rest

  any_maybe_locals : (have want : ℕ) (c : Context) → nat_le 0 have ≡ true → nat_le want (have - 0 + 0) ≡ true → Spends have want (maybe_locals b c)
  any_maybe_locals have want c enough more = spends_any have want 0 0 (spends_maybe_locals c) enough more

  pub spends_required_core : (c : Context) (first : Piece) → Spends 0 8 (required_core b c first)
  unfolding required_core class_core type_name_core required_member as_type
  spends_required_core c first = search (then_arguments, any_arguments, then_names, any_names, spending) depth 40 fits 8000

  then_required_core : (have want : ℕ) {B : Type 0} (c : Context) (first : Piece) (f : _ → Production B) → nat_le 0 have ≡ true → ((x : _) → Spends (have - 0 + 8) want (f x)) → Spends have want (required_core b c first >>= f)
  then_required_core have want c first f enough rest = spends_then have want f 0 8 (spends_required_core c first) enough rest

  any_required_core : (have want : ℕ) (c : Context) (first : Piece) → nat_le 0 have ≡ true → nat_le want (have - 0 + 8) ≡ true → Spends have want (required_core b c first)
  any_required_core have want c first enough more = spends_any have want 0 8 (spends_required_core c first) enough more

  pub spends_requirement : (c : Context) → Spends 0 7 (requirement b c)
  unfolding requirement type_requirement nested_requirement compound_requirement simple_requirement result_constraint
  spends_requirement c = search (then_required_core, any_required_core, then_constraint, any_constraint, then_below_expr, any_below_expr, spending) depth 40 fits 8000

  then_requirement : (have want : ℕ) {B : Type 0} (c : Context) (f : _ → Production B) → nat_le 0 have ≡ true → ((x : _) → Spends (have - 0 + 7) want (f x)) → Spends have want (requirement b c >>= f)
  then_requirement have want c f enough rest = spends_then have want f 0 7 (spends_requirement c) enough rest

  any_requirement : (have want : ℕ) (c : Context) → nat_le 0 have ≡ true → nat_le want (have - 0 + 7) ≡ true → Spends have want (requirement b c)
  any_requirement have want c enough more = spends_any have want 0 7 (spends_requirement c) enough more

  pub spends_requirements : (c : Context) → Spends 0 0 (requirement_list b c)
  unfolding requirement_list
  spends_requirements c = search (then_requirement, any_requirement, spending) depth 40 fits 8000

  then_requirements : (have want : ℕ) {B : Type 0} (c : Context) (f : _ → Production B) → nat_le 0 have ≡ true → ((x : _) → Spends (have - 0 + 0) want (f x)) → Spends have want (requirement_list b c >>= f)
  then_requirements have want c f enough rest = spends_then have want f 0 0 (spends_requirements c) enough rest

  any_requirements : (have want : ℕ) (c : Context) → nat_le 0 have ≡ true → nat_le want (have - 0 + 0) ≡ true → Spends have want (requirement_list b c)
  any_requirements have want c enough more = spends_any have want 0 0 (spends_requirements c) enough more

  pub spends_requires : (c : Context) → Spends 0 7 (requires_expr b c)
  unfolding requires_expr
  spends_requires c = search (then_maybe_locals, any_maybe_locals, then_requirements, any_requirements, spending) depth 40 fits 8000

  then_requires : (have want : ℕ) {B : Type 0} (c : Context) (f : _ → Production B) → nat_le 0 have ≡ true → ((x : _) → Spends (have - 0 + 7) want (f x)) → Spends have want (requires_expr b c >>= f)
  then_requires have want c f enough rest = spends_then have want f 0 7 (spends_requires c) enough rest

  any_requires : (have want : ℕ) (c : Context) → nat_le 0 have ≡ true → nat_le want (have - 0 + 7) ≡ true → Spends have want (requires_expr b c)
  any_requires have want c enough more = spends_any have want 0 7 (spends_requires c) enough more

  pub spends_word_primary : (c : Context) → Spends 0 7 (word_primary b c)
  unfolding word_primary truth is_same out group requires_expr
  spends_word_primary c = search (then_requires, any_requires, then_type, any_type, then_below_expr, any_below_expr, spending) depth 40 fits 8000

  then_word_primary : (have want : ℕ) {B : Type 0} (c : Context) (f : _ → Production B) → nat_le 0 have ≡ true → ((x : _) → Spends (have - 0 + 7) want (f x)) → Spends have want (word_primary b c >>= f)
  then_word_primary have want c f enough rest = spends_then have want f 0 7 (spends_word_primary c) enough rest

  any_word_primary : (have want : ℕ) (c : Context) → nat_le 0 have ≡ true → nat_le want (have - 0 + 7) ≡ true → Spends have want (word_primary b c)
  any_word_primary have want c enough more = spends_any have want 0 7 (spends_word_primary c) enough more

  pub spends_simple : (c : Context) → Spends 0 7 (simple_primary b c)
  unfolding simple_primary int_literal template_name name_alone
  spends_simple c = search (then_word_primary, any_word_primary, then_template_name, any_template_name, spending) depth 40 fits 8000

  then_simple : (have want : ℕ) {B : Type 0} (c : Context) (f : _ → Production B) → nat_le 0 have ≡ true → ((x : _) → Spends (have - 0 + 7) want (f x)) → Spends have want (simple_primary b c >>= f)
  then_simple have want c f enough rest = spends_then have want f 0 7 (spends_simple c) enough rest

  any_simple : (have want : ℕ) (c : Context) → nat_le 0 have ≡ true → nat_le want (have - 0 + 7) ≡ true → Spends have want (simple_primary b c)
  any_simple have want c enough more = spends_any have want 0 7 (spends_simple c) enough more

  pub spends_primary : (c : Context) → Spends 0 7 (primary b c)
  unfolding primary head_primary core_primary scalar_primary static_cast
  spends_primary c = search (then_simple, any_simple, then_after_head, any_after_head, then_list_after, any_list_after, then_head, any_head, then_core, any_core, then_type, any_type, then_below_expr, any_below_expr, spending) depth 40 fits 8000

  then_primary : (have want : ℕ) {B : Type 0} (c : Context) (f : _ → Production B) → nat_le 0 have ≡ true → ((x : _) → Spends (have - 0 + 7) want (f x)) → Spends have want (primary b c >>= f)
  then_primary have want c f enough rest = spends_then have want f 0 7 (spends_primary c) enough rest

  any_primary : (have want : ℕ) (c : Context) → nat_le 0 have ≡ true → nat_le want (have - 0 + 7) ≡ true → Spends have want (primary b c)
  any_primary have want c enough more = spends_any have want 0 7 (spends_primary c) enough more

  pub spends_call : (x : Postfix) → Spends 0 7 (call b x)
  unfolding call
  spends_call x = search (then_exprs, any_exprs, spending) depth 40 fits 8000

  then_call : (have want : ℕ) {B : Type 0} (x : Postfix) (f : _ → Production B) → nat_le 0 have ≡ true → ((x : _) → Spends (have - 0 + 7) want (f x)) → Spends have want (call b x >>= f)
  then_call have want x f enough rest = spends_then have want f 0 7 (spends_call x) enough rest

  any_call : (have want : ℕ) (x : Postfix) → nat_le 0 have ≡ true → nat_le want (have - 0 + 7) ≡ true → Spends have want (call b x)
  any_call have want x enough more = spends_any have want 0 7 (spends_call x) enough more

  spends_postfix_turn : (x : Postfix) → Spends 0 0 (postfix_turn b x)
  unfolding postfix_turn member_access postfix_step
  spends_postfix_turn x = search (then_call, any_call, spending) depth 30 fits 5000

  pub spends_postfix_after : (c : Context) (operand : Operand) → Spends 0 0 (postfix_after b c operand)
  unfolding postfix_after needed_call
  spends_postfix_after c operand = search (then_call, any_call, spends_postfix_turn, spending) depth 40 fits 8000

  then_postfix_after : (have want : ℕ) {B : Type 0} (c : Context) (operand : Operand) (f : _ → Production B) → nat_le 0 have ≡ true → ((x : _) → Spends (have - 0 + 0) want (f x)) → Spends have want (postfix_after b c operand >>= f)
  then_postfix_after have want c operand f enough rest = spends_then have want f 0 0 (spends_postfix_after c operand) enough rest

  any_postfix_after : (have want : ℕ) (c : Context) (operand : Operand) → nat_le 0 have ≡ true → nat_le want (have - 0 + 0) ≡ true → Spends have want (postfix_after b c operand)
  any_postfix_after have want c operand enough more = spends_any have want 0 0 (spends_postfix_after c operand) enough more

  pub spends_unary : (c : Context) → Spends 0 7 (unary b c)
  unfolding unary prefixed postfix
  spends_unary c = search (then_primary, any_primary, then_postfix_after, any_postfix_after, then_below_expr, any_below_expr, spending) depth 40 fits 8000

  then_unary : (have want : ℕ) {B : Type 0} (c : Context) (f : _ → Production B) → nat_le 0 have ≡ true → ((x : _) → Spends (have - 0 + 7) want (f x)) → Spends have want (unary b c >>= f)
  then_unary have want c f enough rest = spends_then have want f 0 7 (spends_unary c) enough rest

  any_unary : (have want : ℕ) (c : Context) → nat_le 0 have ≡ true → nat_le want (have - 0 + 7) ≡ true → Spends have want (unary b c)
  any_unary have want c enough more = spends_any have want 0 7 (spends_unary c) enough more

  pub spends_operator : (level : ℕ) (c : Context) → Spends 0 8 (binary_operator level c)
  unfolding binary_operator
  spends_operator level c = search (spending) depth 40 fits 8000

  then_operator : (have want : ℕ) {B : Type 0} (level : ℕ) (c : Context) (f : _ → Production B) → nat_le 0 have ≡ true → ((x : _) → Spends (have - 0 + 8) want (f x)) → Spends have want (binary_operator level c >>= f)
  then_operator have want level c f enough rest = spends_then have want f 0 8 (spends_operator level c) enough rest

  any_operator : (have want : ℕ) (level : ℕ) (c : Context) → nat_le 0 have ≡ true → nat_le want (have - 0 + 8) ≡ true → Spends have want (binary_operator level c)
  any_operator have want level c enough more = spends_any have want 0 8 (spends_operator level c) enough more

  pub spends_chain : (level : ℕ) (c : Context) (e : ExprTree) → Spends 0 0 (binary_chain b level c e)
  unfolding binary_chain chain_turn binary_operator
  spends_chain level c e = search (then_below_expr, any_below_expr, spending) depth 40 fits 8000

  then_chain : (have want : ℕ) {B : Type 0} (level : ℕ) (c : Context) (e : ExprTree) (f : _ → Production B) → nat_le 0 have ≡ true → ((x : _) → Spends (have - 0 + 0) want (f x)) → Spends have want (binary_chain b level c e >>= f)
  then_chain have want level c e f enough rest = spends_then have want f 0 0 (spends_chain level c e) enough rest

  any_chain : (have want : ℕ) (level : ℕ) (c : Context) (e : ExprTree) → nat_le 0 have ≡ true → nat_le want (have - 0 + 0) ≡ true → Spends have want (binary_chain b level c e)
  any_chain have want level c e enough more = spends_any have want 0 0 (spends_chain level c e) enough more

  pub spends_binary_after : (level : ℕ) (c : Context) (e : ExprTree) → Spends 0 0 (binary_after b level c e)
  unfolding binary_after
  spends_binary_after zero c e = spends_give 0 0 e refl
  spends_binary_after (suc level) c e = spends_then 0 0 (binary_chain b level c) 0 0 (spends_binary_after level c e) refl (spends_chain level c)

  then_binary_after : (have want : ℕ) {B : Type 0} (level : ℕ) (c : Context) (e : ExprTree) (f : _ → Production B) → nat_le 0 have ≡ true → ((x : _) → Spends (have - 0 + 0) want (f x)) → Spends have want (binary_after b level c e >>= f)
  then_binary_after have want level c e f enough rest = spends_then have want f 0 0 (spends_binary_after level c e) enough rest

  any_binary_after : (have want : ℕ) (level : ℕ) (c : Context) (e : ExprTree) → nat_le 0 have ≡ true → nat_le want (have - 0 + 0) ≡ true → Spends have want (binary_after b level c e)
  any_binary_after have want level c e enough more = spends_any have want 0 0 (spends_binary_after level c e) enough more

  pub spends_choice_after : (c : Context) (e : ExprTree) → Spends 0 0 (choice_after b c e)
  unfolding choice_after conditional assignment
  spends_choice_after c e = search (then_below_expr, any_below_expr, spending) depth 40 fits 8000

  then_choice_after : (have want : ℕ) {B : Type 0} (c : Context) (e : ExprTree) (f : _ → Production B) → nat_le 0 have ≡ true → ((x : _) → Spends (have - 0 + 0) want (f x)) → Spends have want (choice_after b c e >>= f)
  then_choice_after have want c e f enough rest = spends_then have want f 0 0 (spends_choice_after c e) enough rest

  any_choice_after : (have want : ℕ) (c : Context) (e : ExprTree) → nat_le 0 have ≡ true → nat_le want (have - 0 + 0) ≡ true → Spends have want (choice_after b c e)
  any_choice_after have want c e enough more = spends_any have want 0 0 (spends_choice_after c e) enough more

  pub spends_expr_after : (c : Context) (e : ExprTree) → Spends 0 0 (expr_after b c e)
  unfolding expr_after
  spends_expr_after c e = search (then_binary_after, any_binary_after, then_choice_after, any_choice_after, spending) depth 40 fits 8000

  then_expr_after : (have want : ℕ) {B : Type 0} (c : Context) (e : ExprTree) (f : _ → Production B) → nat_le 0 have ≡ true → ((x : _) → Spends (have - 0 + 0) want (f x)) → Spends have want (expr_after b c e >>= f)
  then_expr_after have want c e f enough rest = spends_then have want f 0 0 (spends_expr_after c e) enough rest

  any_expr_after : (have want : ℕ) (c : Context) (e : ExprTree) → nat_le 0 have ≡ true → nat_le want (have - 0 + 0) ≡ true → Spends have want (expr_after b c e)
  any_expr_after have want c e enough more = spends_any have want 0 0 (spends_expr_after c e) enough more

  pub spends_expr : (level : ℕ) (c : Context) → Spends 0 7 (expr b level c)
  unfolding expr
  spends_expr level c = search (then_unary, any_unary, then_expr_after, any_expr_after, then_binary_after, any_binary_after, spending) depth 40 fits 8000

  then_expr : (have want : ℕ) {B : Type 0} (level : ℕ) (c : Context) (f : _ → Production B) → nat_le 0 have ≡ true → ((x : _) → Spends (have - 0 + 7) want (f x)) → Spends have want (expr b level c >>= f)
  then_expr have want level c f enough rest = spends_then have want f 0 7 (spends_expr level c) enough rest

  any_expr : (have want : ℕ) (level : ℕ) (c : Context) → nat_le 0 have ≡ true → nat_le want (have - 0 + 7) ≡ true → Spends have want (expr b level c)
  any_expr have want level c enough more = spends_any have want 0 7 (spends_expr level c) enough more

  pub spends_expr_of : (c : Context) (operand : Operand) → Spends 0 0 (expr_of b c operand)
  unfolding expr_of
  spends_expr_of c operand = search (then_postfix_after, any_postfix_after, then_expr_after, any_expr_after, spending) depth 40 fits 8000

  then_expr_of : (have want : ℕ) {B : Type 0} (c : Context) (operand : Operand) (f : _ → Production B) → nat_le 0 have ≡ true → ((x : _) → Spends (have - 0 + 0) want (f x)) → Spends have want (expr_of b c operand >>= f)
  then_expr_of have want c operand f enough rest = spends_then have want f 0 0 (spends_expr_of c operand) enough rest

  any_expr_of : (have want : ℕ) (c : Context) (operand : Operand) → nat_le 0 have ≡ true → nat_le want (have - 0 + 0) ≡ true → Spends have want (expr_of b c operand)
  any_expr_of have want c operand enough more = spends_any have want 0 0 (spends_expr_of c operand) enough more

  pub spends_argument : (c : Context) → Spends 0 7 (argument b c)
  unfolding argument value_of_operand type_of_core core_argument_after head_argument_after head_argument core_argument scalar_argument long_argument const_argument value_argument const_type
  spends_argument c = search (then_expr_of, any_expr_of, then_expr, any_expr, then_type_after, any_type_after, then_core, any_core, then_head, any_head, then_list_after, any_list_after, then_after_head, any_after_head, then_scalar_after, any_scalar_after, then_long, any_long, spending) depth 40 fits 8000

  then_argument : (have want : ℕ) {B : Type 0} (c : Context) (f : _ → Production B) → nat_le 0 have ≡ true → ((x : _) → Spends (have - 0 + 7) want (f x)) → Spends have want (argument b c >>= f)
  then_argument have want c f enough rest = spends_then have want f 0 7 (spends_argument c) enough rest

  any_argument : (have want : ℕ) (c : Context) → nat_le 0 have ≡ true → nat_le want (have - 0 + 7) ≡ true → Spends have want (argument b c)
  any_argument have want c enough more = spends_any have want 0 7 (spends_argument c) enough more

  pub spends_operand : (c : Context) → Spends 0 7 (clause_operand b c)
  unfolding clause_operand head_operand simple_operand uncalled names_after as_type
  spends_operand c = search (then_head, any_head, then_as_type, any_as_type, then_names, any_names, then_simple, any_simple, spending) depth 40 fits 8000

  then_operand : (have want : ℕ) {B : Type 0} (c : Context) (f : _ → Production B) → nat_le 0 have ≡ true → ((x : _) → Spends (have - 0 + 7) want (f x)) → Spends have want (clause_operand b c >>= f)
  then_operand have want c f enough rest = spends_then have want f 0 7 (spends_operand c) enough rest

  any_operand : (have want : ℕ) (c : Context) → nat_le 0 have ≡ true → nat_le want (have - 0 + 7) ≡ true → Spends have want (clause_operand b c)
  any_operand have want c enough more = spends_any have want 0 7 (spends_operand c) enough more

  pub spends_conjunction : (c : Context) → Spends 0 7 (conjunction b c)
  unfolding conjunction chain_turn clause_operator
  spends_conjunction c = search (then_operand, any_operand, spending) depth 40 fits 8000

  then_conjunction : (have want : ℕ) {B : Type 0} (c : Context) (f : _ → Production B) → nat_le 0 have ≡ true → ((x : _) → Spends (have - 0 + 7) want (f x)) → Spends have want (conjunction b c >>= f)
  then_conjunction have want c f enough rest = spends_then have want f 0 7 (spends_conjunction c) enough rest

  any_conjunction : (have want : ℕ) (c : Context) → nat_le 0 have ≡ true → nat_le want (have - 0 + 7) ≡ true → Spends have want (conjunction b c)
  any_conjunction have want c enough more = spends_any have want 0 7 (spends_conjunction c) enough more

  pub spends_clause : (c : Context) → Spends 0 7 (clause b c)
  unfolding clause chain_turn clause_operator
  spends_clause c = search (then_conjunction, any_conjunction, spending) depth 40 fits 8000

  then_clause : (have want : ℕ) {B : Type 0} (c : Context) (f : _ → Production B) → nat_le 0 have ≡ true → ((x : _) → Spends (have - 0 + 7) want (f x)) → Spends have want (clause b c >>= f)
  then_clause have want c f enough rest = spends_then have want f 0 7 (spends_clause c) enough rest

  any_clause : (have want : ℕ) (c : Context) → nat_le 0 have ≡ true → nat_le want (have - 0 + 7) ≡ true → Spends have want (clause b c)
  any_clause have want c enough more = spends_any have want 0 7 (spends_clause c) enough more

pub spends_auto_after : (c : Context) (at : Option Place) (is_const : Bool) (k : Option ConstraintTree) → Spends 0 7 (auto_after c at is_const k)
unfolding auto_after
spends_auto_after c at is_const k = search (spending) depth 40 fits 8000

then_auto_after : (have want : ℕ) {B : Type 0} (c : Context) (at : Option Place) (is_const : Bool) (k : Option ConstraintTree) (f : _ → Production B) → nat_le 0 have ≡ true → ((x : _) → Spends (have - 0 + 7) want (f x)) → Spends have want (auto_after c at is_const k >>= f)
then_auto_after have want c at is_const k f enough rest = spends_then have want f 0 7 (spends_auto_after c at is_const k) enough rest

any_auto_after : (have want : ℕ) (c : Context) (at : Option Place) (is_const : Bool) (k : Option ConstraintTree) → nat_le 0 have ≡ true → nat_le want (have - 0 + 7) ≡ true → Spends have want (auto_after c at is_const k)
any_auto_after have want c at is_const k enough more = spends_any have want 0 7 (spends_auto_after c at is_const k) enough more

module _ {b : Below} (l : Spending b) where
  pub spends_value_init : (c : Context) → Spends 0 7 (value_init b c)
  unfolding value_init
  spends_value_init c = search (then_expr, any_expr, spending) depth 40 fits 8000

  then_value_init : (have want : ℕ) {B : Type 0} (c : Context) (f : _ → Production B) → nat_le 0 have ≡ true → ((x : _) → Spends (have - 0 + 7) want (f x)) → Spends have want (value_init b c >>= f)
  then_value_init have want c f enough rest = spends_then have want f 0 7 (spends_value_init c) enough rest

  any_value_init : (have want : ℕ) (c : Context) → nat_le 0 have ≡ true → nat_le want (have - 0 + 7) ≡ true → Spends have want (value_init b c)
  any_value_init have want c enough more = spends_any have want 0 7 (spends_value_init c) enough more

  pub spends_init : (c : Context) → Spends 0 7 (init b c)
  unfolding init list_init value_init
  spends_init c = search (then_exprs, any_exprs, then_expr, any_expr, spending) depth 40 fits 8000

  then_init : (have want : ℕ) {B : Type 0} (c : Context) (f : _ → Production B) → nat_le 0 have ≡ true → ((x : _) → Spends (have - 0 + 7) want (f x)) → Spends have want (init b c >>= f)
  then_init have want c f enough rest = spends_then have want f 0 7 (spends_init c) enough rest

  any_init : (have want : ℕ) (c : Context) → nat_le 0 have ≡ true → nat_le want (have - 0 + 7) ≡ true → Spends have want (init b c)
  any_init have want c enough more = spends_any have want 0 7 (spends_init c) enough more

  pub spends_variable_of : (c : Context) (is_constexpr : Bool) (of : TypeTree) → Spends 0 8 (variable_of b c is_constexpr of)
  unfolding variable_of variable_after
  spends_variable_of c is_constexpr of = search (then_init, any_init, spending) depth 40 fits 8000

  then_variable_of : (have want : ℕ) {B : Type 0} (c : Context) (is_constexpr : Bool) (of : TypeTree) (f : _ → Production B) → nat_le 0 have ≡ true → ((x : _) → Spends (have - 0 + 8) want (f x)) → Spends have want (variable_of b c is_constexpr of >>= f)
  then_variable_of have want c is_constexpr of f enough rest = spends_then have want f 0 8 (spends_variable_of c is_constexpr of) enough rest

  any_variable_of : (have want : ℕ) (c : Context) (is_constexpr : Bool) (of : TypeTree) → nat_le 0 have ≡ true → nat_le want (have - 0 + 8) ≡ true → Spends have want (variable_of b c is_constexpr of)
  any_variable_of have want c is_constexpr of enough more = spends_any have want 0 8 (spends_variable_of c is_constexpr of) enough more

  pub spends_variable_of_auto : (c : Context) (is_constexpr : Bool) (of : AutoTree) → Spends 0 8 (variable_of_auto b c is_constexpr of)
  unfolding variable_of_auto auto_variable_after
  spends_variable_of_auto c is_constexpr of = search (then_value_init, any_value_init, spending) depth 40 fits 8000

  then_variable_of_auto : (have want : ℕ) {B : Type 0} (c : Context) (is_constexpr : Bool) (of : AutoTree) (f : _ → Production B) → nat_le 0 have ≡ true → ((x : _) → Spends (have - 0 + 8) want (f x)) → Spends have want (variable_of_auto b c is_constexpr of >>= f)
  then_variable_of_auto have want c is_constexpr of f enough rest = spends_then have want f 0 8 (spends_variable_of_auto c is_constexpr of) enough rest

  any_variable_of_auto : (have want : ℕ) (c : Context) (is_constexpr : Bool) (of : AutoTree) → nat_le 0 have ≡ true → nat_le want (have - 0 + 8) ≡ true → Spends have want (variable_of_auto b c is_constexpr of)
  any_variable_of_auto have want c is_constexpr of enough more = spends_any have want 0 8 (spends_variable_of_auto c is_constexpr of) enough more

  pub spends_expr_opening : (c : Context) (operand : Operand) → Spends 0 8 (expr_opening b c operand)
  unfolding expr_opening
  spends_expr_opening c operand = search (then_expr_of, any_expr_of, spending) depth 40 fits 8000

  then_expr_opening : (have want : ℕ) {B : Type 0} (c : Context) (operand : Operand) (f : _ → Production B) → nat_le 0 have ≡ true → ((x : _) → Spends (have - 0 + 8) want (f x)) → Spends have want (expr_opening b c operand >>= f)
  then_expr_opening have want c operand f enough rest = spends_then have want f 0 8 (spends_expr_opening c operand) enough rest

  any_expr_opening : (have want : ℕ) (c : Context) (operand : Operand) → nat_le 0 have ≡ true → nat_le want (have - 0 + 8) ≡ true → Spends have want (expr_opening b c operand)
  any_expr_opening have want c operand enough more = spends_any have want 0 8 (spends_expr_opening c operand) enough more

  pub spends_constrained_auto : (c : Context) (at : Option Place) (is_constexpr is_const : Bool) → Spends 0 8 (constrained_auto b c at is_constexpr is_const)
  unfolding constrained_auto
  spends_constrained_auto c at is_constexpr is_const = search (then_constraint, any_constraint, then_auto_after, any_auto_after, then_variable_of_auto, any_variable_of_auto, spending) depth 40 fits 8000

  then_constrained_auto : (have want : ℕ) {B : Type 0} (c : Context) (at : Option Place) (is_constexpr is_const : Bool) (f : _ → Production B) → nat_le 0 have ≡ true → ((x : _) → Spends (have - 0 + 8) want (f x)) → Spends have want (constrained_auto b c at is_constexpr is_const >>= f)
  then_constrained_auto have want c at is_constexpr is_const f enough rest = spends_then have want f 0 8 (spends_constrained_auto c at is_constexpr is_const) enough rest

  any_constrained_auto : (have want : ℕ) (c : Context) (at : Option Place) (is_constexpr is_const : Bool) → nat_le 0 have ≡ true → nat_le want (have - 0 + 8) ≡ true → Spends have want (constrained_auto b c at is_constexpr is_const)
  any_constrained_auto have want c at is_constexpr is_const enough more = spends_any have want 0 8 (spends_constrained_auto c at is_constexpr is_const) enough more

  pub spends_plain_auto : (c : Context) (at : Option Place) (is_constexpr is_const : Bool) → Spends 0 8 (plain_auto b c at is_constexpr is_const)
  unfolding plain_auto
  spends_plain_auto c at is_constexpr is_const = search (then_auto_after, any_auto_after, then_variable_of_auto, any_variable_of_auto, spending) depth 40 fits 8000

  then_plain_auto : (have want : ℕ) {B : Type 0} (c : Context) (at : Option Place) (is_constexpr is_const : Bool) (f : _ → Production B) → nat_le 0 have ≡ true → ((x : _) → Spends (have - 0 + 8) want (f x)) → Spends have want (plain_auto b c at is_constexpr is_const >>= f)
  then_plain_auto have want c at is_constexpr is_const f enough rest = spends_then have want f 0 8 (spends_plain_auto c at is_constexpr is_const) enough rest

  any_plain_auto : (have want : ℕ) (c : Context) (at : Option Place) (is_constexpr is_const : Bool) → nat_le 0 have ≡ true → nat_le want (have - 0 + 8) ≡ true → Spends have want (plain_auto b c at is_constexpr is_const)
  any_plain_auto have want c at is_constexpr is_const enough more = spends_any have want 0 8 (spends_plain_auto c at is_constexpr is_const) enough more

  pub spends_const_variable : (c : Context) (is_constexpr : Bool) → Spends 0 8 (const_variable b c is_constexpr)
  unfolding const_variable constrained_auto plain_auto
  spends_const_variable c is_constexpr = search (then_constrained_auto, any_constrained_auto, then_plain_auto, any_plain_auto, then_core, any_core, then_type_after, any_type_after, then_variable_of, any_variable_of, spending) depth 40 fits 8000

  then_const_variable : (have want : ℕ) {B : Type 0} (c : Context) (is_constexpr : Bool) (f : _ → Production B) → nat_le 0 have ≡ true → ((x : _) → Spends (have - 0 + 8) want (f x)) → Spends have want (const_variable b c is_constexpr >>= f)
  then_const_variable have want c is_constexpr f enough rest = spends_then have want f 0 8 (spends_const_variable c is_constexpr) enough rest

  any_const_variable : (have want : ℕ) (c : Context) (is_constexpr : Bool) → nat_le 0 have ≡ true → nat_le want (have - 0 + 8) ≡ true → Spends have want (const_variable b c is_constexpr)
  any_const_variable have want c is_constexpr enough more = spends_any have want 0 8 (spends_const_variable c is_constexpr) enough more

  pub spends_variable : (c : Context) (is_constexpr : Bool) → Spends 0 8 (variable b c is_constexpr)
  unfolding variable constrained_auto plain_auto typed_variable const_variable
  spends_variable c is_constexpr = search (then_constrained_auto, any_constrained_auto, then_plain_auto, any_plain_auto, then_const_variable, any_const_variable, then_type, any_type, then_variable_of, any_variable_of, spending) depth 40 fits 8000

  then_variable : (have want : ℕ) {B : Type 0} (c : Context) (is_constexpr : Bool) (f : _ → Production B) → nat_le 0 have ≡ true → ((x : _) → Spends (have - 0 + 8) want (f x)) → Spends have want (variable b c is_constexpr >>= f)
  then_variable have want c is_constexpr f enough rest = spends_then have want f 0 8 (spends_variable c is_constexpr) enough rest

  any_variable : (have want : ℕ) (c : Context) (is_constexpr : Bool) → nat_le 0 have ≡ true → nat_le want (have - 0 + 8) ≡ true → Spends have want (variable b c is_constexpr)
  any_variable have want c is_constexpr enough more = spends_any have want 0 8 (spends_variable c is_constexpr) enough more

  pub spends_variable_of_core : (c : Context) (k : Core) → Spends 1 8 (variable_of_core b c k)
  unfolding variable_of_core
  spends_variable_of_core c k = search (then_type_after, any_type_after, then_variable_of, any_variable_of, spending) depth 40 fits 8000

  then_variable_of_core : (have want : ℕ) {B : Type 0} (c : Context) (k : Core) (f : _ → Production B) → nat_le 1 have ≡ true → ((x : _) → Spends (have - 1 + 8) want (f x)) → Spends have want (variable_of_core b c k >>= f)
  then_variable_of_core have want c k f enough rest = spends_then have want f 1 8 (spends_variable_of_core c k) enough rest

  any_variable_of_core : (have want : ℕ) (c : Context) (k : Core) → nat_le 1 have ≡ true → nat_le want (have - 1 + 8) ≡ true → Spends have want (variable_of_core b c k)
  any_variable_of_core have want c k enough more = spends_any have want 1 8 (spends_variable_of_core c k) enough more

  pub spends_core_opening_after : (c : Context) (k : Core) → Spends 1 8 (core_opening_after b c k)
  unfolding core_opening_after
  spends_core_opening_after c k = search (then_list_after, any_list_after, then_expr_opening, any_expr_opening, then_variable_of_core, any_variable_of_core, spending) depth 40 fits 8000

  then_core_opening_after : (have want : ℕ) {B : Type 0} (c : Context) (k : Core) (f : _ → Production B) → nat_le 1 have ≡ true → ((x : _) → Spends (have - 1 + 8) want (f x)) → Spends have want (core_opening_after b c k >>= f)
  then_core_opening_after have want c k f enough rest = spends_then have want f 1 8 (spends_core_opening_after c k) enough rest

  any_core_opening_after : (have want : ℕ) (c : Context) (k : Core) → nat_le 1 have ≡ true → nat_le want (have - 1 + 8) ≡ true → Spends have want (core_opening_after b c k)
  any_core_opening_after have want c k enough more = spends_any have want 1 8 (spends_core_opening_after c k) enough more

  pub spends_head_opening_after : (c : Context) (k : Core) → Spends 1 8 (head_opening_after b c k)
  unfolding head_opening_after
  spends_head_opening_after c k = search (then_after_head, any_after_head, then_expr_opening, any_expr_opening, then_variable_of_core, any_variable_of_core, spending) depth 40 fits 8000

  then_head_opening_after : (have want : ℕ) {B : Type 0} (c : Context) (k : Core) (f : _ → Production B) → nat_le 1 have ≡ true → ((x : _) → Spends (have - 1 + 8) want (f x)) → Spends have want (head_opening_after b c k >>= f)
  then_head_opening_after have want c k f enough rest = spends_then have want f 1 8 (spends_head_opening_after c k) enough rest

  any_head_opening_after : (have want : ℕ) (c : Context) (k : Core) → nat_le 1 have ≡ true → nat_le want (have - 1 + 8) ≡ true → Spends have want (head_opening_after b c k)
  any_head_opening_after have want c k enough more = spends_any have want 1 8 (spends_head_opening_after c k) enough more

  pub spends_scalar_after_word : (c : Context) (t : Piece) → Spends 1 8 (when (punct punctuator.LeftBrace) (list_after b c (scalar_at t (scalar_of_word t)) >>= (λ operand. uncalled_opening b c operand)) (scalar_after (deeper c) t >>= (λ s. variable_of_core b c (scalar_at t s))))
  spends_scalar_after_word c t = search (then_list_after, any_list_after, then_expr_opening, any_expr_opening, then_scalar_after, any_scalar_after, then_variable_of_core, any_variable_of_core, spending) depth 40 fits 8000

  then_scalar_after_word : (have want : ℕ) {B : Type 0} (c : Context) (t : Piece) (f : _ → Production B) → nat_le 1 have ≡ true → ((x : _) → Spends (have - 1 + 8) want (f x)) → Spends have want (when (punct punctuator.LeftBrace) (list_after b c (scalar_at t (scalar_of_word t)) >>= (λ operand. uncalled_opening b c operand)) (scalar_after (deeper c) t >>= (λ s. variable_of_core b c (scalar_at t s))) >>= f)
  then_scalar_after_word have want c t f enough rest = spends_then have want f 1 8 (spends_scalar_after_word c t) enough rest

  any_scalar_after_word : (have want : ℕ) (c : Context) (t : Piece) → nat_le 1 have ≡ true → nat_le want (have - 1 + 8) ≡ true → Spends have want (when (punct punctuator.LeftBrace) (list_after b c (scalar_at t (scalar_of_word t)) >>= (λ operand. uncalled_opening b c operand)) (scalar_after (deeper c) t >>= (λ s. variable_of_core b c (scalar_at t s))))
  any_scalar_after_word have want c t enough more = spends_any have want 1 8 (spends_scalar_after_word c t) enough more

  pub spends_scalar_opening : (c : Context) → Spends 0 8 (scalar_opening b c)
  unfolding scalar_opening
  spends_scalar_opening c = search (then_scalar_after_word, any_scalar_after_word, spending) depth 40 fits 8000

  then_scalar_opening : (have want : ℕ) {B : Type 0} (c : Context) (f : _ → Production B) → nat_le 0 have ≡ true → ((x : _) → Spends (have - 0 + 8) want (f x)) → Spends have want (scalar_opening b c >>= f)
  then_scalar_opening have want c f enough rest = spends_then have want f 0 8 (spends_scalar_opening c) enough rest

  any_scalar_opening : (have want : ℕ) (c : Context) → nat_le 0 have ≡ true → nat_le want (have - 0 + 8) ≡ true → Spends have want (scalar_opening b c)
  any_scalar_opening have want c enough more = spends_any have want 0 8 (spends_scalar_opening c) enough more

  pub spends_concept_after : (c : Context) (k : ConstraintTree) → Spends 0 8 (when (word words.Auto) (auto_after c (Some k.mark.at) false (Some k) >>= (λ a. variable_of_auto b c false a)) (expr_opening b c (record { tree = concept_expr k; calling = calling.May })))
  spends_concept_after c k = search (then_auto_after, any_auto_after, then_variable_of_auto, any_variable_of_auto, then_expr_opening, any_expr_opening, spending) depth 40 fits 8000

  then_concept_after : (have want : ℕ) {B : Type 0} (c : Context) (k : ConstraintTree) (f : _ → Production B) → nat_le 0 have ≡ true → ((x : _) → Spends (have - 0 + 8) want (f x)) → Spends have want (when (word words.Auto) (auto_after c (Some k.mark.at) false (Some k) >>= (λ a. variable_of_auto b c false a)) (expr_opening b c (record { tree = concept_expr k; calling = calling.May })) >>= f)
  then_concept_after have want c k f enough rest = spends_then have want f 0 8 (spends_concept_after c k) enough rest

  any_concept_after : (have want : ℕ) (c : Context) (k : ConstraintTree) → nat_le 0 have ≡ true → nat_le want (have - 0 + 8) ≡ true → Spends have want (when (word words.Auto) (auto_after c (Some k.mark.at) false (Some k) >>= (λ a. variable_of_auto b c false a)) (expr_opening b c (record { tree = concept_expr k; calling = calling.May })))
  any_concept_after have want c k enough more = spends_any have want 0 8 (spends_concept_after c k) enough more

  pub spends_concept_opening : (c : Context) → Spends 0 8 (concept_opening b c)
  unfolding concept_opening
  spends_concept_opening c = search (then_constraint, any_constraint, then_concept_after, any_concept_after, spending) depth 40 fits 8000

  then_concept_opening : (have want : ℕ) {B : Type 0} (c : Context) (f : _ → Production B) → nat_le 0 have ≡ true → ((x : _) → Spends (have - 0 + 8) want (f x)) → Spends have want (concept_opening b c >>= f)
  then_concept_opening have want c f enough rest = spends_then have want f 0 8 (spends_concept_opening c) enough rest

  any_concept_opening : (have want : ℕ) (c : Context) → nat_le 0 have ≡ true → nat_le want (have - 0 + 8) ≡ true → Spends have want (concept_opening b c)
  any_concept_opening have want c enough more = spends_any have want 0 8 (spends_concept_opening c) enough more

  pub spends_constexpr_variable : (c : Context) → Spends 0 8 (constexpr_variable b c)
  unfolding constexpr_variable
  spends_constexpr_variable c = search (then_variable, any_variable, spending) depth 40 fits 8000

  then_constexpr_variable : (have want : ℕ) {B : Type 0} (c : Context) (f : _ → Production B) → nat_le 0 have ≡ true → ((x : _) → Spends (have - 0 + 8) want (f x)) → Spends have want (constexpr_variable b c >>= f)
  then_constexpr_variable have want c f enough rest = spends_then have want f 0 8 (spends_constexpr_variable c) enough rest

  any_constexpr_variable : (have want : ℕ) (c : Context) → nat_le 0 have ≡ true → nat_le want (have - 0 + 8) ≡ true → Spends have want (constexpr_variable b c)
  any_constexpr_variable have want c enough more = spends_any have want 0 8 (spends_constexpr_variable c) enough more

  pub spends_head_opening : (c : Context) → Spends 0 8 (head_opening b c)
  unfolding head_opening
  spends_head_opening c = search (then_head, any_head, then_head_opening_after, any_head_opening_after, spending) depth 40 fits 8000

  then_head_opening : (have want : ℕ) {B : Type 0} (c : Context) (f : _ → Production B) → nat_le 0 have ≡ true → ((x : _) → Spends (have - 0 + 8) want (f x)) → Spends have want (head_opening b c >>= f)
  then_head_opening have want c f enough rest = spends_then have want f 0 8 (spends_head_opening c) enough rest

  any_head_opening : (have want : ℕ) (c : Context) → nat_le 0 have ≡ true → nat_le want (have - 0 + 8) ≡ true → Spends have want (head_opening b c)
  any_head_opening have want c enough more = spends_any have want 0 8 (spends_head_opening c) enough more

  pub spends_core_opening : (c : Context) → Spends 0 8 (core_opening b c)
  unfolding core_opening
  spends_core_opening c = search (then_core, any_core, then_core_opening_after, any_core_opening_after, spending) depth 40 fits 8000

  then_core_opening : (have want : ℕ) {B : Type 0} (c : Context) (f : _ → Production B) → nat_le 0 have ≡ true → ((x : _) → Spends (have - 0 + 8) want (f x)) → Spends have want (core_opening b c >>= f)
  then_core_opening have want c f enough rest = spends_then have want f 0 8 (spends_core_opening c) enough rest

  any_core_opening : (have want : ℕ) (c : Context) → nat_le 0 have ≡ true → nat_le want (have - 0 + 8) ≡ true → Spends have want (core_opening b c)
  any_core_opening have want c enough more = spends_any have want 0 8 (spends_core_opening c) enough more

  pub spends_typed_variable : (c : Context) (is_constexpr : Bool) → Spends 0 8 (typed_variable b c is_constexpr)
  unfolding typed_variable
  spends_typed_variable c is_constexpr = search (then_type, any_type, then_variable_of, any_variable_of, spending) depth 40 fits 8000

  then_typed_variable : (have want : ℕ) {B : Type 0} (c : Context) (is_constexpr : Bool) (f : _ → Production B) → nat_le 0 have ≡ true → ((x : _) → Spends (have - 0 + 8) want (f x)) → Spends have want (typed_variable b c is_constexpr >>= f)
  then_typed_variable have want c is_constexpr f enough rest = spends_then have want f 0 8 (spends_typed_variable c is_constexpr) enough rest

  any_typed_variable : (have want : ℕ) (c : Context) (is_constexpr : Bool) → nat_le 0 have ≡ true → nat_le want (have - 0 + 8) ≡ true → Spends have want (typed_variable b c is_constexpr)
  any_typed_variable have want c is_constexpr enough more = spends_any have want 0 8 (spends_typed_variable c is_constexpr) enough more

  pub spends_whole_expr : (c : Context) → Spends 0 8 (whole_expr b c)
  unfolding whole_expr
  spends_whole_expr c = search (then_expr, any_expr, spending) depth 40 fits 8000

  then_whole_expr : (have want : ℕ) {B : Type 0} (c : Context) (f : _ → Production B) → nat_le 0 have ≡ true → ((x : _) → Spends (have - 0 + 8) want (f x)) → Spends have want (whole_expr b c >>= f)
  then_whole_expr have want c f enough rest = spends_then have want f 0 8 (spends_whole_expr c) enough rest

  any_whole_expr : (have want : ℕ) (c : Context) → nat_le 0 have ≡ true → nat_le want (have - 0 + 8) ≡ true → Spends have want (whole_expr b c)
  any_whole_expr have want c enough more = spends_any have want 0 8 (spends_whole_expr c) enough more

  pub spends_opening : (c : Context) → Spends 0 8 (opening b c)
  unfolding opening
  spends_opening c = search (then_constexpr_variable, any_constexpr_variable, then_const_variable, any_const_variable, then_plain_auto, any_plain_auto, then_concept_opening, any_concept_opening, then_head_opening, any_head_opening, then_core_opening, any_core_opening, then_scalar_opening, any_scalar_opening, then_typed_variable, any_typed_variable, then_whole_expr, any_whole_expr, spending) depth 40 fits 8000

  then_opening : (have want : ℕ) {B : Type 0} (c : Context) (f : _ → Production B) → nat_le 0 have ≡ true → ((x : _) → Spends (have - 0 + 8) want (f x)) → Spends have want (opening b c >>= f)
  then_opening have want c f enough rest = spends_then have want f 0 8 (spends_opening c) enough rest

  any_opening : (have want : ℕ) (c : Context) → nat_le 0 have ≡ true → nat_le want (have - 0 + 8) ≡ true → Spends have want (opening b c)
  any_opening have want c enough more = spends_any have want 0 8 (spends_opening c) enough more

  pub spends_stmt_of : (o : Opening) → Spends 1 0 (stmt_of o)
  unfolding stmt_of
  spends_stmt_of (OfVariable v) = search (spending) depth 40 fits 8000
  spends_stmt_of (OfExpr e) = search (spending) depth 40 fits 8000

  then_stmt_of : (have want : ℕ) {B : Type 0} (o : Opening) (f : _ → Production B) → nat_le 1 have ≡ true → ((x : _) → Spends (have - 1 + 0) want (f x)) → Spends have want (stmt_of o >>= f)
  then_stmt_of have want o f enough rest = spends_then have want f 1 0 (spends_stmt_of o) enough rest

  any_stmt_of : (have want : ℕ) (o : Opening) → nat_le 1 have ≡ true → nat_le want (have - 1 + 0) ≡ true → Spends have want (stmt_of o)
  any_stmt_of have want o enough more = spends_any have want 1 0 (spends_stmt_of o) enough more

  pub spends_assertion : (c : Context) → Spends 0 7 (assertion b c)
  unfolding assertion message
  spends_assertion c = search (then_below_expr, any_below_expr, spending) depth 40 fits 8000

  then_assertion : (have want : ℕ) {B : Type 0} (c : Context) (f : _ → Production B) → nat_le 0 have ≡ true → ((x : _) → Spends (have - 0 + 7) want (f x)) → Spends have want (assertion b c >>= f)
  then_assertion have want c f enough rest = spends_then have want f 0 7 (spends_assertion c) enough rest

  any_assertion : (have want : ℕ) (c : Context) → nat_le 0 have ≡ true → nat_le want (have - 0 + 7) ≡ true → Spends have want (assertion b c)
  any_assertion have want c enough more = spends_any have want 0 7 (spends_assertion c) enough more

  pub spends_condition : (c : Context) → Spends 0 8 (condition b c)
  unfolding condition
  spends_condition c = search (then_below_expr, any_below_expr, spending) depth 40 fits 8000

  then_condition : (have want : ℕ) {B : Type 0} (c : Context) (f : _ → Production B) → nat_le 0 have ≡ true → ((x : _) → Spends (have - 0 + 8) want (f x)) → Spends have want (condition b c >>= f)
  then_condition have want c f enough rest = spends_then have want f 0 8 (spends_condition c) enough rest

  any_condition : (have want : ℕ) (c : Context) → nat_le 0 have ≡ true → nat_le want (have - 0 + 8) ≡ true → Spends have want (condition b c)
  any_condition have want c enough more = spends_any have want 0 8 (spends_condition c) enough more

  pub spends_expr_until : (after : Punctuator) (c : Context) → Spends 0 0 (expr_until after b c)
  unfolding expr_until
  spends_expr_until after c = search (then_expr, any_expr, spending) depth 40 fits 8000

  then_expr_until : (have want : ℕ) {B : Type 0} (after : Punctuator) (c : Context) (f : _ → Production B) → nat_le 0 have ≡ true → ((x : _) → Spends (have - 0 + 0) want (f x)) → Spends have want (expr_until after b c >>= f)
  then_expr_until have want after c f enough rest = spends_then have want f 0 0 (spends_expr_until after c) enough rest

  any_expr_until : (have want : ℕ) (after : Punctuator) (c : Context) → nat_le 0 have ≡ true → nat_le want (have - 0 + 0) ≡ true → Spends have want (expr_until after b c)
  any_expr_until have want after c enough more = spends_any have want 0 0 (spends_expr_until after c) enough more

  pub spends_for_init : (c : Context) → Spends 0 8 (for_init b c)
  unfolding for_init
  spends_for_init c = search (then_opening, any_opening, spending) depth 40 fits 8000

  then_for_init : (have want : ℕ) {B : Type 0} (c : Context) (f : _ → Production B) → nat_le 0 have ≡ true → ((x : _) → Spends (have - 0 + 8) want (f x)) → Spends have want (for_init b c >>= f)
  then_for_init have want c f enough rest = spends_then have want f 0 8 (spends_for_init c) enough rest

  any_for_init : (have want : ℕ) (c : Context) → nat_le 0 have ≡ true → nat_le want (have - 0 + 8) ≡ true → Spends have want (for_init b c)
  any_for_init have want c enough more = spends_any have want 0 8 (spends_for_init c) enough more

  pub spends_for_head : (c : Context) → Spends 0 8 (for_head b c)
  unfolding for_head
  spends_for_head c = search (then_for_init, any_for_init, then_expr_until, any_expr_until, spending) depth 40 fits 8000

  then_for_head : (have want : ℕ) {B : Type 0} (c : Context) (f : _ → Production B) → nat_le 0 have ≡ true → ((x : _) → Spends (have - 0 + 8) want (f x)) → Spends have want (for_head b c >>= f)
  then_for_head have want c f enough rest = spends_then have want f 0 8 (spends_for_head c) enough rest

  any_for_head : (have want : ℕ) (c : Context) → nat_le 0 have ≡ true → nat_le want (have - 0 + 8) ≡ true → Spends have want (for_head b c)
  any_for_head have want c enough more = spends_any have want 0 8 (spends_for_head c) enough more

  pub spends_return_value : (c : Context) (at : Place) → Spends 0 7 (expr_until punctuator.Semicolon b c >>= (λ e. token c (punct punctuator.Semicolon) >>= (λ semicolon. node >>= (λ n. give (Return (mark n at) e)))))
  spends_return_value c at = search (then_expr_until, any_expr_until, spending) depth 40 fits 8000

  then_return_value : (have want : ℕ) {B : Type 0} (c : Context) (at : Place) (f : _ → Production B) → nat_le 0 have ≡ true → ((x : _) → Spends (have - 0 + 7) want (f x)) → Spends have want (expr_until punctuator.Semicolon b c >>= (λ e. token c (punct punctuator.Semicolon) >>= (λ semicolon. node >>= (λ n. give (Return (mark n at) e)))) >>= f)
  then_return_value have want c at f enough rest = spends_then have want f 0 7 (spends_return_value c at) enough rest

  any_return_value : (have want : ℕ) (c : Context) (at : Place) → nat_le 0 have ≡ true → nat_le want (have - 0 + 7) ≡ true → Spends have want (expr_until punctuator.Semicolon b c >>= (λ e. token c (punct punctuator.Semicolon) >>= (λ semicolon. node >>= (λ n. give (Return (mark n at) e)))))
  any_return_value have want c at enough more = spends_any have want 0 7 (spends_return_value c at) enough more

  pub spends_return : (c : Context) → Spends 0 7 (return_stmt b c)
  unfolding return_stmt
  spends_return c = search (then_return_value, any_return_value, spending) depth 40 fits 8000

  then_return : (have want : ℕ) {B : Type 0} (c : Context) (f : _ → Production B) → nat_le 0 have ≡ true → ((x : _) → Spends (have - 0 + 7) want (f x)) → Spends have want (return_stmt b c >>= f)
  then_return have want c f enough rest = spends_then have want f 0 7 (spends_return c) enough rest

  any_return : (have want : ℕ) (c : Context) → nat_le 0 have ≡ true → nat_le want (have - 0 + 7) ≡ true → Spends have want (return_stmt b c)
  any_return have want c enough more = spends_any have want 0 7 (spends_return c) enough more

pub spends_empty : (c : Context) → Spends 0 7 (empty_stmt c)
unfolding empty_stmt
spends_empty c = search (spending) depth 40 fits 8000

then_empty : (have want : ℕ) {B : Type 0} (c : Context) (f : _ → Production B) → nat_le 0 have ≡ true → ((x : _) → Spends (have - 0 + 7) want (f x)) → Spends have want (empty_stmt c >>= f)
then_empty have want c f enough rest = spends_then have want f 0 7 (spends_empty c) enough rest

any_empty : (have want : ℕ) (c : Context) → nat_le 0 have ≡ true → nat_le want (have - 0 + 7) ≡ true → Spends have want (empty_stmt c)
any_empty have want c enough more = spends_any have want 0 7 (spends_empty c) enough more

pub spends_jump : (w : Word) (make : Mark → StmtTree) (c : Context) → Spends 0 7 (jump w make c)
unfolding jump
spends_jump w make c = search (spending) depth 40 fits 8000

then_jump : (have want : ℕ) {B : Type 0} (w : Word) (make : Mark → StmtTree) (c : Context) (f : _ → Production B) → nat_le 0 have ≡ true → ((x : _) → Spends (have - 0 + 7) want (f x)) → Spends have want (jump w make c >>= f)
then_jump have want w make c f enough rest = spends_then have want f 0 7 (spends_jump w make c) enough rest

any_jump : (have want : ℕ) (w : Word) (make : Mark → StmtTree) (c : Context) → nat_le 0 have ≡ true → nat_le want (have - 0 + 7) ≡ true → Spends have want (jump w make c)
any_jump have want w make c enough more = spends_any have want 0 7 (spends_jump w make c) enough more

module _ {b : Within} (l : SpendingWithin b) where
  then_below_stmt : (have want : ℕ) {B : Type 0} (c : Context) (f : _ → Production B) → ((x : _) → Spends (have - 0 + 7) want (f x)) → Spends have want (b.stmt c >>= f)
  then_below_stmt have want c f k = spends_then have want f 0 7 (l.stmt c) (le-leb 0 have (omega arith)) k

  any_below_stmt : (have want : ℕ) (c : Context) → nat_le want (have - 0 + 7) ≡ true → Spends have want (b.stmt c)
  any_below_stmt have want c d = spends_any have want 0 7 (l.stmt c) (le-leb 0 have (omega arith)) d

  pub spends_statements : (c : Context) → Spends 0 0 (statements b c)
  unfolding statements
  spends_statements c = search (then_below_stmt, any_below_stmt, l.base, spending) depth 40 fits 8000

  then_statements : (have want : ℕ) {B : Type 0} (c : Context) (f : _ → Production B) → nat_le 0 have ≡ true → ((x : _) → Spends (have - 0 + 0) want (f x)) → Spends have want (statements b c >>= f)
  then_statements have want c f enough rest = spends_then have want f 0 0 (spends_statements c) enough rest

  any_statements : (have want : ℕ) (c : Context) → nat_le 0 have ≡ true → nat_le want (have - 0 + 0) ≡ true → Spends have want (statements b c)
  any_statements have want c enough more = spends_any have want 0 0 (spends_statements c) enough more

  pub spends_block : (c : Context) → Spends 0 7 (block b c)
  unfolding block
  spends_block c = search (then_statements, any_statements, l.base, spending) depth 40 fits 8000

  then_block : (have want : ℕ) {B : Type 0} (c : Context) (f : _ → Production B) → nat_le 0 have ≡ true → ((x : _) → Spends (have - 0 + 7) want (f x)) → Spends have want (block b c >>= f)
  then_block have want c f enough rest = spends_then have want f 0 7 (spends_block c) enough rest

  any_block : (have want : ℕ) (c : Context) → nat_le 0 have ≡ true → nat_le want (have - 0 + 7) ≡ true → Spends have want (block b c)
  any_block have want c enough more = spends_any have want 0 7 (spends_block c) enough more

  pub spends_substatement : (c : Context) → Spends 0 7 (substatement b c)
  unfolding substatement
  spends_substatement c = search (then_below_stmt, any_below_stmt, l.base, spending) depth 40 fits 8000

  then_substatement : (have want : ℕ) {B : Type 0} (c : Context) (f : _ → Production B) → nat_le 0 have ≡ true → ((x : _) → Spends (have - 0 + 7) want (f x)) → Spends have want (substatement b c >>= f)
  then_substatement have want c f enough rest = spends_then have want f 0 7 (spends_substatement c) enough rest

  any_substatement : (have want : ℕ) (c : Context) → nat_le 0 have ≡ true → nat_le want (have - 0 + 7) ≡ true → Spends have want (substatement b c)
  any_substatement have want c enough more = spends_any have want 0 7 (spends_substatement c) enough more

  pub spends_alternative : (c : Context) (at : Place) (is_constexpr : Bool) (test : ExprTree) (chosen : StmtTree) → Spends 1 0 (alternative b c at is_constexpr test chosen)
  unfolding alternative
  spends_alternative c at is_constexpr test chosen = search (then_substatement, any_substatement, l.base, spending) depth 40 fits 8000

  then_alternative : (have want : ℕ) {B : Type 0} (c : Context) (at : Place) (is_constexpr : Bool) (test : ExprTree) (chosen : StmtTree) (f : _ → Production B) → nat_le 1 have ≡ true → ((x : _) → Spends (have - 1 + 0) want (f x)) → Spends have want (alternative b c at is_constexpr test chosen >>= f)
  then_alternative have want c at is_constexpr test chosen f enough rest = spends_then have want f 1 0 (spends_alternative c at is_constexpr test chosen) enough rest

  any_alternative : (have want : ℕ) (c : Context) (at : Place) (is_constexpr : Bool) (test : ExprTree) (chosen : StmtTree) → nat_le 1 have ≡ true → nat_le want (have - 1 + 0) ≡ true → Spends have want (alternative b c at is_constexpr test chosen)
  any_alternative have want c at is_constexpr test chosen enough more = spends_any have want 1 0 (spends_alternative c at is_constexpr test chosen) enough more

  pub spends_if : (c : Context) → Spends 0 7 (if_stmt b c)
  unfolding if_stmt
  spends_if c = search (then_condition, any_condition, l.base, then_substatement, any_substatement, then_alternative, any_alternative, spending) depth 40 fits 8000

  then_if : (have want : ℕ) {B : Type 0} (c : Context) (f : _ → Production B) → nat_le 0 have ≡ true → ((x : _) → Spends (have - 0 + 7) want (f x)) → Spends have want (if_stmt b c >>= f)
  then_if have want c f enough rest = spends_then have want f 0 7 (spends_if c) enough rest

  any_if : (have want : ℕ) (c : Context) → nat_le 0 have ≡ true → nat_le want (have - 0 + 7) ≡ true → Spends have want (if_stmt b c)
  any_if have want c enough more = spends_any have want 0 7 (spends_if c) enough more

  pub spends_while : (c : Context) → Spends 0 7 (while_stmt b c)
  unfolding while_stmt
  spends_while c = search (then_condition, any_condition, l.base, then_substatement, any_substatement, spending) depth 40 fits 8000

  then_while : (have want : ℕ) {B : Type 0} (c : Context) (f : _ → Production B) → nat_le 0 have ≡ true → ((x : _) → Spends (have - 0 + 7) want (f x)) → Spends have want (while_stmt b c >>= f)
  then_while have want c f enough rest = spends_then have want f 0 7 (spends_while c) enough rest

  any_while : (have want : ℕ) (c : Context) → nat_le 0 have ≡ true → nat_le want (have - 0 + 7) ≡ true → Spends have want (while_stmt b c)
  any_while have want c enough more = spends_any have want 0 7 (spends_while c) enough more

  pub spends_for_scope : (c : Context) (at : Place) → Spends 0 7 (in_scope (for_parts b c at))
  unfolding for_parts
  spends_for_scope c at = search (then_for_head, any_for_head, l.base, then_substatement, any_substatement, spending) depth 40 fits 8000

  then_for_scope : (have want : ℕ) {B : Type 0} (c : Context) (at : Place) (f : _ → Production B) → nat_le 0 have ≡ true → ((x : _) → Spends (have - 0 + 7) want (f x)) → Spends have want (in_scope (for_parts b c at) >>= f)
  then_for_scope have want c at f enough rest = spends_then have want f 0 7 (spends_for_scope c at) enough rest

  any_for_scope : (have want : ℕ) (c : Context) (at : Place) → nat_le 0 have ≡ true → nat_le want (have - 0 + 7) ≡ true → Spends have want (in_scope (for_parts b c at))
  any_for_scope have want c at enough more = spends_any have want 0 7 (spends_for_scope c at) enough more

  pub spends_for : (c : Context) → Spends 0 7 (for_stmt b c)
  unfolding for_stmt
  spends_for c = search (then_for_scope, any_for_scope, l.base, spending) depth 40 fits 8000

  then_for : (have want : ℕ) {B : Type 0} (c : Context) (f : _ → Production B) → nat_le 0 have ≡ true → ((x : _) → Spends (have - 0 + 7) want (f x)) → Spends have want (for_stmt b c >>= f)
  then_for have want c f enough rest = spends_then have want f 0 7 (spends_for c) enough rest

  any_for : (have want : ℕ) (c : Context) → nat_le 0 have ≡ true → nat_le want (have - 0 + 7) ≡ true → Spends have want (for_stmt b c)
  any_for have want c enough more = spends_any have want 0 7 (spends_for c) enough more

  pub spends_assert : (c : Context) → Spends 0 7 (assert_stmt b.base c)
  unfolding assert_stmt
  spends_assert c = search (then_assertion, any_assertion, l.base, spending) depth 40 fits 8000

  then_assert : (have want : ℕ) {B : Type 0} (c : Context) (f : _ → Production B) → nat_le 0 have ≡ true → ((x : _) → Spends (have - 0 + 7) want (f x)) → Spends have want (assert_stmt b.base c >>= f)
  then_assert have want c f enough rest = spends_then have want f 0 7 (spends_assert c) enough rest

  any_assert : (have want : ℕ) (c : Context) → nat_le 0 have ≡ true → nat_le want (have - 0 + 7) ≡ true → Spends have want (assert_stmt b.base c)
  any_assert have want c enough more = spends_any have want 0 7 (spends_assert c) enough more

  pub spends_open_stmt : (c : Context) → Spends 0 7 (open_stmt b.base c)
  unfolding open_stmt
  spends_open_stmt c = search (then_opening, any_opening, then_stmt_of, any_stmt_of, l.base, spending) depth 40 fits 8000

  then_open_stmt : (have want : ℕ) {B : Type 0} (c : Context) (f : _ → Production B) → nat_le 0 have ≡ true → ((x : _) → Spends (have - 0 + 7) want (f x)) → Spends have want (open_stmt b.base c >>= f)
  then_open_stmt have want c f enough rest = spends_then have want f 0 7 (spends_open_stmt c) enough rest

  any_open_stmt : (have want : ℕ) (c : Context) → nat_le 0 have ≡ true → nat_le want (have - 0 + 7) ≡ true → Spends have want (open_stmt b.base c)
  any_open_stmt have want c enough more = spends_any have want 0 7 (spends_open_stmt c) enough more

  pub spends_stmt : (c : Context) → Spends 0 7 (stmt b c)
  unfolding stmt
  spends_stmt c = search (then_empty, any_empty, then_block, any_block, then_assert, any_assert, then_jump, any_jump, then_return, any_return, then_if, any_if, then_while, any_while, then_for, any_for, then_open_stmt, any_open_stmt, l.base, spending) depth 40 fits 8000

  then_stmt : (have want : ℕ) {B : Type 0} (c : Context) (f : _ → Production B) → nat_le 0 have ≡ true → ((x : _) → Spends (have - 0 + 7) want (f x)) → Spends have want (stmt b c >>= f)
  then_stmt have want c f enough rest = spends_then have want f 0 7 (spends_stmt c) enough rest

  any_stmt : (have want : ℕ) (c : Context) → nat_le 0 have ≡ true → nat_le want (have - 0 + 7) ≡ true → Spends have want (stmt b c)
  any_stmt have want c enough more = spends_any have want 0 7 (spends_stmt c) enough more

pub spends_specifiers : (c : Context) (s : Specifiers) → Spends 0 0 (specifiers c s)
unfolding specifiers one_more_specifier
spends_specifiers c s = search (spending) depth 40 fits 8000

then_specifiers : (have want : ℕ) {B : Type 0} (c : Context) (s : Specifiers) (f : _ → Production B) → nat_le 0 have ≡ true → ((x : _) → Spends (have - 0 + 0) want (f x)) → Spends have want (specifiers c s >>= f)
then_specifiers have want c s f enough rest = spends_then have want f 0 0 (spends_specifiers c s) enough rest

any_specifiers : (have want : ℕ) (c : Context) (s : Specifiers) → nat_le 0 have ≡ true → nat_le want (have - 0 + 0) ≡ true → Spends have want (specifiers c s)
any_specifiers have want c s enough more = spends_any have want 0 0 (spends_specifiers c s) enough more

pub spends_maybe_name : (c : Context) → Spends 0 0 (maybe_name c)
unfolding maybe_name
spends_maybe_name c = search (spending) depth 40 fits 8000

then_maybe_name : (have want : ℕ) {B : Type 0} (c : Context) (f : _ → Production B) → nat_le 0 have ≡ true → ((x : _) → Spends (have - 0 + 0) want (f x)) → Spends have want (maybe_name c >>= f)
then_maybe_name have want c f enough rest = spends_then have want f 0 0 (spends_maybe_name c) enough rest

any_maybe_name : (have want : ℕ) (c : Context) → nat_le 0 have ≡ true → nat_le want (have - 0 + 0) ≡ true → Spends have want (maybe_name c)
any_maybe_name have want c enough more = spends_any have want 0 0 (spends_maybe_name c) enough more

pub spends_note_maybe : (kind : NameKind) (name : Option Piece) → Spends 0 0 (note_maybe kind name)
unfolding note_maybe
spends_note_maybe kind None = search (spending) depth 40 fits 8000
spends_note_maybe kind (Some t) = search (spending) depth 40 fits 8000

then_note_maybe : (have want : ℕ) {B : Type 0} (kind : NameKind) (name : Option Piece) (f : _ → Production B) → nat_le 0 have ≡ true → ((x : _) → Spends (have - 0 + 0) want (f x)) → Spends have want (note_maybe kind name >>= f)
then_note_maybe have want kind name f enough rest = spends_then have want f 0 0 (spends_note_maybe kind name) enough rest

any_note_maybe : (have want : ℕ) (kind : NameKind) (name : Option Piece) → nat_le 0 have ≡ true → nat_le want (have - 0 + 0) ≡ true → Spends have want (note_maybe kind name)
any_note_maybe have want kind name enough more = spends_any have want 0 0 (spends_note_maybe kind name) enough more

pub spends_typed_parameter : (c : Context) (of : TypeTree) → Spends 1 0 (typed_parameter c of)
unfolding typed_parameter parameter_after
spends_typed_parameter c of = search (then_maybe_name, any_maybe_name, then_note_maybe, any_note_maybe, spending) depth 40 fits 8000

then_typed_parameter : (have want : ℕ) {B : Type 0} (c : Context) (of : TypeTree) (f : _ → Production B) → nat_le 1 have ≡ true → ((x : _) → Spends (have - 1 + 0) want (f x)) → Spends have want (typed_parameter c of >>= f)
then_typed_parameter have want c of f enough rest = spends_then have want f 1 0 (spends_typed_parameter c of) enough rest

any_typed_parameter : (have want : ℕ) (c : Context) (of : TypeTree) → nat_le 1 have ≡ true → nat_le want (have - 1 + 0) ≡ true → Spends have want (typed_parameter c of)
any_typed_parameter have want c of enough more = spends_any have want 1 0 (spends_typed_parameter c of) enough more

pub spends_auto_parameter : (c : Context) (at : Option Place) (is_const : Bool) (k : Option ConstraintTree) → Spends 0 6 (auto_parameter c at is_const k)
unfolding auto_parameter parameter_after
spends_auto_parameter c at is_const k = search (then_auto_after, any_auto_after, then_maybe_name, any_maybe_name, then_note_maybe, any_note_maybe, spending) depth 40 fits 8000

then_auto_parameter : (have want : ℕ) {B : Type 0} (c : Context) (at : Option Place) (is_const : Bool) (k : Option ConstraintTree) (f : _ → Production B) → nat_le 0 have ≡ true → ((x : _) → Spends (have - 0 + 6) want (f x)) → Spends have want (auto_parameter c at is_const k >>= f)
then_auto_parameter have want c at is_const k f enough rest = spends_then have want f 0 6 (spends_auto_parameter c at is_const k) enough rest

any_auto_parameter : (have want : ℕ) (c : Context) (at : Option Place) (is_const : Bool) (k : Option ConstraintTree) → nat_le 0 have ≡ true → nat_le want (have - 0 + 6) ≡ true → Spends have want (auto_parameter c at is_const k)
any_auto_parameter have want c at is_const k enough more = spends_any have want 0 6 (spends_auto_parameter c at is_const k) enough more

module _ {b : Below} (l : Spending b) where
  pub spends_constrained_parameter : (c : Context) (at : Option Place) (is_const : Bool) → Spends 0 6 (constrained_parameter b c at is_const)
  unfolding constrained_parameter
  spends_constrained_parameter c at is_const = search (then_constraint, any_constraint, then_auto_parameter, any_auto_parameter, spending) depth 40 fits 8000

  then_constrained_parameter : (have want : ℕ) {B : Type 0} (c : Context) (at : Option Place) (is_const : Bool) (f : _ → Production B) → nat_le 0 have ≡ true → ((x : _) → Spends (have - 0 + 6) want (f x)) → Spends have want (constrained_parameter b c at is_const >>= f)
  then_constrained_parameter have want c at is_const f enough rest = spends_then have want f 0 6 (spends_constrained_parameter c at is_const) enough rest

  any_constrained_parameter : (have want : ℕ) (c : Context) (at : Option Place) (is_const : Bool) → nat_le 0 have ≡ true → nat_le want (have - 0 + 6) ≡ true → Spends have want (constrained_parameter b c at is_const)
  any_constrained_parameter have want c at is_const enough more = spends_any have want 0 6 (spends_constrained_parameter c at is_const) enough more

  pub spends_const_parameter : (autos : Bool) (c : Context) → Spends 0 6 (const_parameter autos b c)
  unfolding const_parameter
  spends_const_parameter autos c = search (then_constrained_parameter, any_constrained_parameter, then_auto_parameter, any_auto_parameter, then_typed_parameter, any_typed_parameter, then_core, any_core, then_type_after, any_type_after, spending) depth 40 fits 8000

  then_const_parameter : (have want : ℕ) {B : Type 0} (autos : Bool) (c : Context) (f : _ → Production B) → nat_le 0 have ≡ true → ((x : _) → Spends (have - 0 + 6) want (f x)) → Spends have want (const_parameter autos b c >>= f)
  then_const_parameter have want autos c f enough rest = spends_then have want f 0 6 (spends_const_parameter autos c) enough rest

  any_const_parameter : (have want : ℕ) (autos : Bool) (c : Context) → nat_le 0 have ≡ true → nat_le want (have - 0 + 6) ≡ true → Spends have want (const_parameter autos b c)
  any_const_parameter have want autos c enough more = spends_any have want 0 6 (spends_const_parameter autos c) enough more

  pub spends_parameter : (autos : Bool) (c : Context) → Spends 0 6 (parameter autos b c)
  unfolding parameter plain_parameter
  spends_parameter autos c = search (then_const_parameter, any_const_parameter, then_constrained_parameter, any_constrained_parameter, then_auto_parameter, any_auto_parameter, then_typed_parameter, any_typed_parameter, then_type, any_type, spending) depth 40 fits 8000

  then_parameter : (have want : ℕ) {B : Type 0} (autos : Bool) (c : Context) (f : _ → Production B) → nat_le 0 have ≡ true → ((x : _) → Spends (have - 0 + 6) want (f x)) → Spends have want (parameter autos b c >>= f)
  then_parameter have want autos c f enough rest = spends_then have want f 0 6 (spends_parameter autos c) enough rest

  any_parameter : (have want : ℕ) (autos : Bool) (c : Context) → nat_le 0 have ≡ true → nat_le want (have - 0 + 6) ≡ true → Spends have want (parameter autos b c)
  any_parameter have want autos c enough more = spends_any have want 0 6 (spends_parameter autos c) enough more

  pub spends_function_parameters : (autos : Bool) (c : Context) → Spends 0 0 (parameters autos b c)
  unfolding parameters
  spends_function_parameters autos c = search (then_typed_parameter, any_typed_parameter, then_parameter, any_parameter, then_type_after, any_type_after, spending) depth 40 fits 8000

  then_function_parameters : (have want : ℕ) {B : Type 0} (autos : Bool) (c : Context) (f : _ → Production B) → nat_le 0 have ≡ true → ((x : _) → Spends (have - 0 + 0) want (f x)) → Spends have want (parameters autos b c >>= f)
  then_function_parameters have want autos c f enough rest = spends_then have want f 0 0 (spends_function_parameters autos c) enough rest

  any_function_parameters : (have want : ℕ) (autos : Bool) (c : Context) → nat_le 0 have ≡ true → nat_le want (have - 0 + 0) ≡ true → Spends have want (parameters autos b c)
  any_function_parameters have want autos c enough more = spends_any have want 0 0 (spends_function_parameters autos c) enough more

  pub spends_maybe_clause : (templated : Bool) (c : Context) → Spends 0 0 (maybe_clause templated b c)
  unfolding maybe_clause
  spends_maybe_clause templated c = search (then_clause, any_clause, spending) depth 40 fits 8000

  then_maybe_clause : (have want : ℕ) {B : Type 0} (templated : Bool) (c : Context) (f : _ → Production B) → nat_le 0 have ≡ true → ((x : _) → Spends (have - 0 + 0) want (f x)) → Spends have want (maybe_clause templated b c >>= f)
  then_maybe_clause have want templated c f enough rest = spends_then have want f 0 0 (spends_maybe_clause templated c) enough rest

  any_maybe_clause : (have want : ℕ) (templated : Bool) (c : Context) → nat_le 0 have ≡ true → nat_le want (have - 0 + 0) ≡ true → Spends have want (maybe_clause templated b c)
  any_maybe_clause have want templated c enough more = spends_any have want 0 0 (spends_maybe_clause templated c) enough more

  pub spends_constant_after : (c : Context) (s : Specifiers) (of : TypeTree) (name : Piece) → Spends 0 7 (constant_after b c s of name)
  unfolding constant_after
  spends_constant_after c s of name = search (then_init, any_init, spending) depth 40 fits 8000

  then_constant_after : (have want : ℕ) {B : Type 0} (c : Context) (s : Specifiers) (of : TypeTree) (name : Piece) (f : _ → Production B) → nat_le 0 have ≡ true → ((x : _) → Spends (have - 0 + 7) want (f x)) → Spends have want (constant_after b c s of name >>= f)
  then_constant_after have want c s of name f enough rest = spends_then have want f 0 7 (spends_constant_after c s of name) enough rest

  any_constant_after : (have want : ℕ) (c : Context) (s : Specifiers) (of : TypeTree) (name : Piece) → nat_le 0 have ≡ true → nat_le want (have - 0 + 7) ≡ true → Spends have want (constant_after b c s of name)
  any_constant_after have want c s of name enough more = spends_any have want 0 7 (spends_constant_after c s of name) enough more

  pub spends_alias : (c : Context) → Spends 0 7 (alias b c)
  unfolding alias
  spends_alias c = search (then_type, any_type, spending) depth 40 fits 8000

  then_alias : (have want : ℕ) {B : Type 0} (c : Context) (f : _ → Production B) → nat_le 0 have ≡ true → ((x : _) → Spends (have - 0 + 7) want (f x)) → Spends have want (alias b c >>= f)
  then_alias have want c f enough rest = spends_then have want f 0 7 (spends_alias c) enough rest

  any_alias : (have want : ℕ) (c : Context) → nat_le 0 have ≡ true → nat_le want (have - 0 + 7) ≡ true → Spends have want (alias b c)
  any_alias have want c enough more = spends_any have want 0 7 (spends_alias c) enough more

  pub spends_static_type : (is : Bool) (c : Context) → Spends 0 7 (given is (type_id b c) (token c nothing >>= (λ t. type_id b c)))
  spends_static_type is c = search (then_type, any_type, spending) depth 40 fits 8000

  then_static_type : (have want : ℕ) {B : Type 0} (is : Bool) (c : Context) (f : _ → Production B) → nat_le 0 have ≡ true → ((x : _) → Spends (have - 0 + 7) want (f x)) → Spends have want (given is (type_id b c) (token c nothing >>= (λ t. type_id b c)) >>= f)
  then_static_type have want is c f enough rest = spends_then have want f 0 7 (spends_static_type is c) enough rest

  any_static_type : (have want : ℕ) (is : Bool) (c : Context) → nat_le 0 have ≡ true → nat_le want (have - 0 + 7) ≡ true → Spends have want (given is (type_id b c) (token c nothing >>= (λ t. type_id b c)))
  any_static_type have want is c enough more = spends_any have want 0 7 (spends_static_type is c) enough more

  pub spends_static : (c : Context) → Spends 0 7 (static_member b c)
  unfolding static_member static_type
  spends_static c = search (then_static_type, any_static_type, then_specifiers, any_specifiers, then_constant_after, any_constant_after, spending) depth 40 fits 8000

  then_static : (have want : ℕ) {B : Type 0} (c : Context) (f : _ → Production B) → nat_le 0 have ≡ true → ((x : _) → Spends (have - 0 + 7) want (f x)) → Spends have want (static_member b c >>= f)
  then_static have want c f enough rest = spends_then have want f 0 7 (spends_static c) enough rest

  any_static : (have want : ℕ) (c : Context) → nat_le 0 have ≡ true → nat_le want (have - 0 + 7) ≡ true → Spends have want (static_member b c)
  any_static have want c enough more = spends_any have want 0 7 (spends_static c) enough more

  pub spends_alias_member : (c : Context) → Spends 0 7 (alias_member b c)
  unfolding alias_member
  spends_alias_member c = search (then_alias, any_alias, spending) depth 40 fits 8000

  then_alias_member : (have want : ℕ) {B : Type 0} (c : Context) (f : _ → Production B) → nat_le 0 have ≡ true → ((x : _) → Spends (have - 0 + 7) want (f x)) → Spends have want (alias_member b c >>= f)
  then_alias_member have want c f enough rest = spends_then have want f 0 7 (spends_alias_member c) enough rest

  any_alias_member : (have want : ℕ) (c : Context) → nat_le 0 have ≡ true → nat_le want (have - 0 + 7) ≡ true → Spends have want (alias_member b c)
  any_alias_member have want c enough more = spends_any have want 0 7 (spends_alias_member c) enough more

  pub spends_default_type : (c : Context) → Spends 0 0 (default_type b c)
  unfolding default_type
  spends_default_type c = search (then_type, any_type, spending) depth 40 fits 8000

  then_default_type : (have want : ℕ) {B : Type 0} (c : Context) (f : _ → Production B) → nat_le 0 have ≡ true → ((x : _) → Spends (have - 0 + 0) want (f x)) → Spends have want (default_type b c >>= f)
  then_default_type have want c f enough rest = spends_then have want f 0 0 (spends_default_type c) enough rest

  any_default_type : (have want : ℕ) (c : Context) → nat_le 0 have ≡ true → nat_le want (have - 0 + 0) ≡ true → Spends have want (default_type b c)
  any_default_type have want c enough more = spends_any have want 0 0 (spends_default_type c) enough more

  pub spends_default_value : (c : Context) → Spends 0 0 (default_value b c)
  unfolding default_value
  spends_default_value c = search (then_expr, any_expr, spending) depth 40 fits 8000

  then_default_value : (have want : ℕ) {B : Type 0} (c : Context) (f : _ → Production B) → nat_le 0 have ≡ true → ((x : _) → Spends (have - 0 + 0) want (f x)) → Spends have want (default_value b c >>= f)
  then_default_value have want c f enough rest = spends_then have want f 0 0 (spends_default_value c) enough rest

  any_default_value : (have want : ℕ) (c : Context) → nat_le 0 have ≡ true → nat_le want (have - 0 + 0) ≡ true → Spends have want (default_value b c)
  any_default_value have want c enough more = spends_any have want 0 0 (spends_default_value c) enough more

  pub spends_template_parameter : (c : Context) → Spends 0 6 (template_parameter b c)
  unfolding template_parameter type_parameter constrained_type_parameter value_parameter
  spends_template_parameter c = search (then_default_type, any_default_type, then_default_value, any_default_value, then_maybe_name, any_maybe_name, then_note_maybe, any_note_maybe, then_constraint, any_constraint, then_scalar, any_scalar, spending) depth 40 fits 8000

  then_template_parameter : (have want : ℕ) {B : Type 0} (c : Context) (f : _ → Production B) → nat_le 0 have ≡ true → ((x : _) → Spends (have - 0 + 6) want (f x)) → Spends have want (template_parameter b c >>= f)
  then_template_parameter have want c f enough rest = spends_then have want f 0 6 (spends_template_parameter c) enough rest

  any_template_parameter : (have want : ℕ) (c : Context) → nat_le 0 have ≡ true → nat_le want (have - 0 + 6) ≡ true → Spends have want (template_parameter b c)
  any_template_parameter have want c enough more = spends_any have want 0 6 (spends_template_parameter c) enough more

  pub spends_template_parameters : (c : Context) → Spends 0 0 (template_parameters b c)
  unfolding template_parameters
  spends_template_parameters c = search (then_template_parameter, any_template_parameter, spending) depth 40 fits 8000

  then_template_parameters : (have want : ℕ) {B : Type 0} (c : Context) (f : _ → Production B) → nat_le 0 have ≡ true → ((x : _) → Spends (have - 0 + 0) want (f x)) → Spends have want (template_parameters b c >>= f)
  then_template_parameters have want c f enough rest = spends_then have want f 0 0 (spends_template_parameters c) enough rest

  any_template_parameters : (have want : ℕ) (c : Context) → nat_le 0 have ≡ true → nat_le want (have - 0 + 0) ≡ true → Spends have want (template_parameters b c)
  any_template_parameters have want c enough more = spends_any have want 0 0 (spends_template_parameters c) enough more

  pub spends_concept : (c : Context) → Spends 0 7 (concept b c)
  unfolding concept
  spends_concept c = search (then_expr, any_expr, spending) depth 40 fits 8000

  then_concept : (have want : ℕ) {B : Type 0} (c : Context) (f : _ → Production B) → nat_le 0 have ≡ true → ((x : _) → Spends (have - 0 + 7) want (f x)) → Spends have want (concept b c >>= f)
  then_concept have want c f enough rest = spends_then have want f 0 7 (spends_concept c) enough rest

  any_concept : (have want : ℕ) (c : Context) → nat_le 0 have ≡ true → nat_le want (have - 0 + 7) ≡ true → Spends have want (concept b c)
  any_concept have want c enough more = spends_any have want 0 7 (spends_concept c) enough more

  pub spends_assert_decl : (c : Context) → Spends 0 7 (assert_decl b c)
  unfolding assert_decl
  spends_assert_decl c = search (then_assertion, any_assertion, spending) depth 40 fits 8000

  then_assert_decl : (have want : ℕ) {B : Type 0} (c : Context) (f : _ → Production B) → nat_le 0 have ≡ true → ((x : _) → Spends (have - 0 + 7) want (f x)) → Spends have want (assert_decl b c >>= f)
  then_assert_decl have want c f enough rest = spends_then have want f 0 7 (spends_assert_decl c) enough rest

  any_assert_decl : (have want : ℕ) (c : Context) → nat_le 0 have ≡ true → nat_le want (have - 0 + 7) ≡ true → Spends have want (assert_decl b c)
  any_assert_decl have want c enough more = spends_any have want 0 7 (spends_assert_decl c) enough more

  pub spends_alias_decl : (c : Context) → Spends 0 7 (alias_decl b c)
  unfolding alias_decl
  spends_alias_decl c = search (then_alias, any_alias, spending) depth 40 fits 8000

  then_alias_decl : (have want : ℕ) {B : Type 0} (c : Context) (f : _ → Production B) → nat_le 0 have ≡ true → ((x : _) → Spends (have - 0 + 7) want (f x)) → Spends have want (alias_decl b c >>= f)
  then_alias_decl have want c f enough rest = spends_then have want f 0 7 (spends_alias_decl c) enough rest

  any_alias_decl : (have want : ℕ) (c : Context) → nat_le 0 have ≡ true → nat_le want (have - 0 + 7) ≡ true → Spends have want (alias_decl b c)
  any_alias_decl have want c enough more = spends_any have want 0 7 (spends_alias_decl c) enough more

module _ {b : Within} (l : SpendingWithin b) where
  pub spends_function_body : (c : Context) → Spends 0 7 (function_body b c)
  unfolding function_body
  spends_function_body c = search (then_block, any_block, l.base, spending) depth 40 fits 8000

  then_function_body : (have want : ℕ) {B : Type 0} (c : Context) (f : _ → Production B) → nat_le 0 have ≡ true → ((x : _) → Spends (have - 0 + 7) want (f x)) → Spends have want (function_body b c >>= f)
  then_function_body have want c f enough rest = spends_then have want f 0 7 (spends_function_body c) enough rest

  any_function_body : (have want : ℕ) (c : Context) → nat_le 0 have ≡ true → nat_le want (have - 0 + 7) ≡ true → Spends have want (function_body b c)
  any_function_body have want c enough more = spends_any have want 0 7 (spends_function_body c) enough more

  pub spends_function_after : (s : Surroundings) (c : Context) (k : Specifiers) (of : TypeTree) (name : Piece) → Spends 0 7 (function_after s b c k of name)
  unfolding function_after function_parts function_rest
  spends_function_after s c k of name = search (then_function_parameters, any_function_parameters, then_maybe_clause, any_maybe_clause, then_function_body, any_function_body, l.base, spending) depth 40 fits 8000

  then_function_after : (have want : ℕ) {B : Type 0} (s : Surroundings) (c : Context) (k : Specifiers) (of : TypeTree) (name : Piece) (f : _ → Production B) → nat_le 0 have ≡ true → ((x : _) → Spends (have - 0 + 7) want (f x)) → Spends have want (function_after s b c k of name >>= f)
  then_function_after have want s c k of name f enough rest = spends_then have want f 0 7 (spends_function_after s c k of name) enough rest

  any_function_after : (have want : ℕ) (s : Surroundings) (c : Context) (k : Specifiers) (of : TypeTree) (name : Piece) → nat_le 0 have ≡ true → nat_le want (have - 0 + 7) ≡ true → Spends have want (function_after s b c k of name)
  any_function_after have want s c k of name enough more = spends_any have want 0 7 (spends_function_after s c k of name) enough more

  pub spends_variable_or_function : (c : Context) → Spends 0 7 (variable_or_function b c)
  unfolding variable_or_function constant_or_function_after
  spends_variable_or_function c = search (then_specifiers, any_specifiers, then_type, any_type, then_constant_after, any_constant_after, then_function_after, any_function_after, l.base, spending) depth 40 fits 8000

  then_variable_or_function : (have want : ℕ) {B : Type 0} (c : Context) (f : _ → Production B) → nat_le 0 have ≡ true → ((x : _) → Spends (have - 0 + 7) want (f x)) → Spends have want (variable_or_function b c >>= f)
  then_variable_or_function have want c f enough rest = spends_then have want f 0 7 (spends_variable_or_function c) enough rest

  any_variable_or_function : (have want : ℕ) (c : Context) → nat_le 0 have ≡ true → nat_le want (have - 0 + 7) ≡ true → Spends have want (variable_or_function b c)
  any_variable_or_function have want c enough more = spends_any have want 0 7 (spends_variable_or_function c) enough more

  pub spends_field_or_function : (templated : Bool) (c : Context) → Spends 0 7 (field_or_function templated b c)
  unfolding field_or_function field_or_function_after field_after
  spends_field_or_function templated c = search (then_specifiers, any_specifiers, then_type, any_type, then_function_after, any_function_after, l.base, spending) depth 40 fits 8000

  then_field_or_function : (have want : ℕ) {B : Type 0} (templated : Bool) (c : Context) (f : _ → Production B) → nat_le 0 have ≡ true → ((x : _) → Spends (have - 0 + 7) want (f x)) → Spends have want (field_or_function templated b c >>= f)
  then_field_or_function have want templated c f enough rest = spends_then have want f 0 7 (spends_field_or_function templated c) enough rest

  any_field_or_function : (have want : ℕ) (templated : Bool) (c : Context) → nat_le 0 have ≡ true → nat_le want (have - 0 + 7) ≡ true → Spends have want (field_or_function templated b c)
  any_field_or_function have want templated c enough more = spends_any have want 0 7 (spends_field_or_function templated c) enough more

  pub spends_member : (templated : Bool) (c : Context) → Spends 0 7 (member templated b c)
  unfolding member empty_member
  spends_member templated c = search (then_alias_member, any_alias_member, then_static, any_static, then_field_or_function, any_field_or_function, l.base, spending) depth 40 fits 8000

  then_member : (have want : ℕ) {B : Type 0} (templated : Bool) (c : Context) (f : _ → Production B) → nat_le 0 have ≡ true → ((x : _) → Spends (have - 0 + 7) want (f x)) → Spends have want (member templated b c >>= f)
  then_member have want templated c f enough rest = spends_then have want f 0 7 (spends_member templated c) enough rest

  any_member : (have want : ℕ) (templated : Bool) (c : Context) → nat_le 0 have ≡ true → nat_le want (have - 0 + 7) ≡ true → Spends have want (member templated b c)
  any_member have want templated c enough more = spends_any have want 0 7 (spends_member templated c) enough more

  pub spends_members : (templated : Bool) (c : Context) → Spends 0 0 (members templated b c)
  unfolding members
  spends_members templated c = search (then_member, any_member, l.base, spending) depth 40 fits 8000

  then_members : (have want : ℕ) {B : Type 0} (templated : Bool) (c : Context) (f : _ → Production B) → nat_le 0 have ≡ true → ((x : _) → Spends (have - 0 + 0) want (f x)) → Spends have want (members templated b c >>= f)
  then_members have want templated c f enough rest = spends_then have want f 0 0 (spends_members templated c) enough rest

  any_members : (have want : ℕ) (templated : Bool) (c : Context) → nat_le 0 have ≡ true → nat_le want (have - 0 + 0) ≡ true → Spends have want (members templated b c)
  any_members have want templated c enough more = spends_any have want 0 0 (spends_members templated c) enough more

  pub spends_struct_after : (templated : Bool) (c : Context) (name : Piece) → Spends 0 7 (struct_after templated b c name)
  unfolding struct_after struct_body
  spends_struct_after templated c name = search (then_members, any_members, l.base, spending) depth 40 fits 8000

  then_struct_after : (have want : ℕ) {B : Type 0} (templated : Bool) (c : Context) (name : Piece) (f : _ → Production B) → nat_le 0 have ≡ true → ((x : _) → Spends (have - 0 + 7) want (f x)) → Spends have want (struct_after templated b c name >>= f)
  then_struct_after have want templated c name f enough rest = spends_then have want f 0 7 (spends_struct_after templated c name) enough rest

  any_struct_after : (have want : ℕ) (templated : Bool) (c : Context) (name : Piece) → nat_le 0 have ≡ true → nat_le want (have - 0 + 7) ≡ true → Spends have want (struct_after templated b c name)
  any_struct_after have want templated c name enough more = spends_any have want 0 7 (spends_struct_after templated c name) enough more

  pub spends_struct : (c : Context) → Spends 0 7 (struct_decl b c)
  unfolding struct_decl
  spends_struct c = search (then_struct_after, any_struct_after, l.base, spending) depth 40 fits 8000

  then_struct : (have want : ℕ) {B : Type 0} (c : Context) (f : _ → Production B) → nat_le 0 have ≡ true → ((x : _) → Spends (have - 0 + 7) want (f x)) → Spends have want (struct_decl b c >>= f)
  then_struct have want c f enough rest = spends_then have want f 0 7 (spends_struct c) enough rest

  any_struct : (have want : ℕ) (c : Context) → nat_le 0 have ≡ true → nat_le want (have - 0 + 7) ≡ true → Spends have want (struct_decl b c)
  any_struct have want c enough more = spends_any have want 0 7 (spends_struct c) enough more

  pub spends_specialisation : (full : Bool) (c : Context) (name : Piece) → Spends 0 7 (specialisation full b c name)
  unfolding specialisation
  spends_specialisation full c name = search (then_arguments, any_arguments, then_struct_after, any_struct_after, l.base, spending) depth 40 fits 8000

  then_specialisation : (have want : ℕ) {B : Type 0} (full : Bool) (c : Context) (name : Piece) (f : _ → Production B) → nat_le 0 have ≡ true → ((x : _) → Spends (have - 0 + 7) want (f x)) → Spends have want (specialisation full b c name >>= f)
  then_specialisation have want full c name f enough rest = spends_then have want f 0 7 (spends_specialisation full c name) enough rest

  any_specialisation : (have want : ℕ) (full : Bool) (c : Context) (name : Piece) → nat_le 0 have ≡ true → nat_le want (have - 0 + 7) ≡ true → Spends have want (specialisation full b c name)
  any_specialisation have want full c name enough more = spends_any have want 0 7 (spends_specialisation full c name) enough more

  pub spends_struct_template : (c : Context) (name : Piece) → Spends 0 7 (struct_template b c name)
  unfolding struct_template
  spends_struct_template c name = search (then_struct_after, any_struct_after, l.base, spending) depth 40 fits 8000

  then_struct_template : (have want : ℕ) {B : Type 0} (c : Context) (name : Piece) (f : _ → Production B) → nat_le 0 have ≡ true → ((x : _) → Spends (have - 0 + 7) want (f x)) → Spends have want (struct_template b c name >>= f)
  then_struct_template have want c name f enough rest = spends_then have want f 0 7 (spends_struct_template c name) enough rest

  any_struct_template : (have want : ℕ) (c : Context) (name : Piece) → nat_le 0 have ≡ true → nat_le want (have - 0 + 7) ≡ true → Spends have want (struct_template b c name)
  any_struct_template have want c name enough more = spends_any have want 0 7 (spends_struct_template c name) enough more

  pub spends_templated_struct : (full : Bool) (c : Context) → Spends 0 7 (templated_struct full b c)
  unfolding templated_struct specialised_or_new
  spends_templated_struct full c = search (then_specialisation, any_specialisation, then_struct_template, any_struct_template, l.base, spending) depth 40 fits 8000

  then_templated_struct : (have want : ℕ) {B : Type 0} (full : Bool) (c : Context) (f : _ → Production B) → nat_le 0 have ≡ true → ((x : _) → Spends (have - 0 + 7) want (f x)) → Spends have want (templated_struct full b c >>= f)
  then_templated_struct have want full c f enough rest = spends_then have want f 0 7 (spends_templated_struct full c) enough rest

  any_templated_struct : (have want : ℕ) (full : Bool) (c : Context) → nat_le 0 have ≡ true → nat_le want (have - 0 + 7) ≡ true → Spends have want (templated_struct full b c)
  any_templated_struct have want full c enough more = spends_any have want 0 7 (spends_templated_struct full c) enough more

  pub spends_function_template : (c : Context) → Spends 0 7 (function_template b c)
  unfolding function_template
  spends_function_template c = search (then_specifiers, any_specifiers, then_type, any_type, then_function_after, any_function_after, l.base, spending) depth 40 fits 8000

  then_function_template : (have want : ℕ) {B : Type 0} (c : Context) (f : _ → Production B) → nat_le 0 have ≡ true → ((x : _) → Spends (have - 0 + 7) want (f x)) → Spends have want (function_template b c >>= f)
  then_function_template have want c f enough rest = spends_then have want f 0 7 (spends_function_template c) enough rest

  any_function_template : (have want : ℕ) (c : Context) → nat_le 0 have ≡ true → nat_le want (have - 0 + 7) ≡ true → Spends have want (function_template b c)
  any_function_template have want c enough more = spends_any have want 0 7 (spends_function_template c) enough more

  pub spends_templated : (ps : List TemplateParameterTree) (has_clause : Bool) (c : Context) → Spends 0 7 (templated ps has_clause b c)
  unfolding templated
  spends_templated ps has_clause c = search (then_templated_struct, any_templated_struct, then_concept, any_concept, then_function_template, any_function_template, l.base, spending) depth 40 fits 8000

  then_templated : (have want : ℕ) {B : Type 0} (ps : List TemplateParameterTree) (has_clause : Bool) (c : Context) (f : _ → Production B) → nat_le 0 have ≡ true → ((x : _) → Spends (have - 0 + 7) want (f x)) → Spends have want (templated ps has_clause b c >>= f)
  then_templated have want ps has_clause c f enough rest = spends_then have want f 0 7 (spends_templated ps has_clause c) enough rest

  any_templated : (have want : ℕ) (ps : List TemplateParameterTree) (has_clause : Bool) (c : Context) → nat_le 0 have ≡ true → nat_le want (have - 0 + 7) ≡ true → Spends have want (templated ps has_clause b c)
  any_templated have want ps has_clause c enough more = spends_any have want 0 7 (spends_templated ps has_clause c) enough more

  pub spends_template_parts : (c : Context) → Spends 0 7 (template_parts b c)
  unfolding template_parts
  spends_template_parts c = search (then_template_parameters, any_template_parameters, then_maybe_clause, any_maybe_clause, then_templated, any_templated, l.base, spending) depth 40 fits 8000

  then_template_parts : (have want : ℕ) {B : Type 0} (c : Context) (f : _ → Production B) → nat_le 0 have ≡ true → ((x : _) → Spends (have - 0 + 7) want (f x)) → Spends have want (template_parts b c >>= f)
  then_template_parts have want c f enough rest = spends_then have want f 0 7 (spends_template_parts c) enough rest

  any_template_parts : (have want : ℕ) (c : Context) → nat_le 0 have ≡ true → nat_le want (have - 0 + 7) ≡ true → Spends have want (template_parts b c)
  any_template_parts have want c enough more = spends_any have want 0 7 (spends_template_parts c) enough more

  pub spends_template : (c : Context) → Spends 0 7 (template b c)
  unfolding template
  spends_template c = search (then_template_parts, any_template_parts, l.base, spending) depth 40 fits 8000

  then_template : (have want : ℕ) {B : Type 0} (c : Context) (f : _ → Production B) → nat_le 0 have ≡ true → ((x : _) → Spends (have - 0 + 7) want (f x)) → Spends have want (template b c >>= f)
  then_template have want c f enough rest = spends_then have want f 0 7 (spends_template c) enough rest

  any_template : (have want : ℕ) (c : Context) → nat_le 0 have ≡ true → nat_le want (have - 0 + 7) ≡ true → Spends have want (template b c)
  any_template have want c enough more = spends_any have want 0 7 (spends_template c) enough more

  pub spends_decl : (c : Context) → Spends 0 7 (decl b c)
  unfolding decl empty_decl
  spends_decl c = search (then_assert_decl, any_assert_decl, then_alias_decl, any_alias_decl, then_struct, any_struct, then_template, any_template, then_variable_or_function, any_variable_or_function, l.base, spending) depth 40 fits 8000

  then_decl : (have want : ℕ) {B : Type 0} (c : Context) (f : _ → Production B) → nat_le 0 have ≡ true → ((x : _) → Spends (have - 0 + 7) want (f x)) → Spends have want (decl b c >>= f)
  then_decl have want c f enough rest = spends_then have want f 0 7 (spends_decl c) enough rest

  any_decl : (have want : ℕ) (c : Context) → nat_le 0 have ≡ true → nat_le want (have - 0 + 7) ≡ true → Spends have want (decl b c)
  any_decl have want c enough more = spends_any have want 0 7 (spends_decl c) enough more

  pub spends_unit : (c : Context) → Spends 0 8 (unit b c)
  unfolding unit
  spends_unit c = search (then_decl, any_decl, l.base, spending) depth 40 fits 8000

  then_unit : (have want : ℕ) {B : Type 0} (c : Context) (f : _ → Production B) → nat_le 0 have ≡ true → ((x : _) → Spends (have - 0 + 8) want (f x)) → Spends have want (unit b c >>= f)
  then_unit have want c f enough rest = spends_then have want f 0 8 (spends_unit c) enough rest

  any_unit : (have want : ℕ) (c : Context) → nat_le 0 have ≡ true → nat_le want (have - 0 + 8) ≡ true → Spends have want (unit b c)
  any_unit have want c enough more = spends_any have want 0 8 (spends_unit c) enough more

pub spending_levels : (n : ℕ) → Spending (levels n)
unfolding levels
spending_levels zero = record { expr = λ level c. spends_closed 0 7 ExprTree; argument = λ c. spends_closed 0 7 ArgumentTree }
spending_levels (suc n) = record { expr = spends_expr (spending_levels n); argument = spends_argument (spending_levels n) }

pub within_spending : (n : ℕ) → SpendingWithin (unit_levels n)
unfolding statement_levels
within_spending zero = record { base = spending_levels zero; stmt = λ c. spends_closed 0 7 StmtTree }
within_spending (suc n) = record { base = spending_levels (suc n); stmt = spends_stmt (within_spending n) }
