-- Types, expressions, arguments and clauses read at a higher level what they read at a lower one, or more.
use Rattle.std.proofs.Common.{ℕ, zero, suc, Bool}
use Rattle.cx_base.specs.declared.place.Place.{Place}
use Rattle.cx_tokens.specs.Pieces.{Piece}
use Rattle.cx_syntax.specs.declared.context.Context.{Context}
use Rattle.cx_syntax.specs.Productions.{Class}
use Rattle.cx_productions.specs.Trees.{ExprTree, TypeTree}
use Rattle.cx_productions.specs.Below.{Below}
use Rattle.cx_productions.specs.Levels.{levels}
use Rattle.cx_productions.specs.Scalars.{Core, scalar_after, long_core, scalar_core}
use Rattle.cx_productions.specs.Types.{argument_list, member_names, as_type, class_core, type_name_core, head_core, member_core, decltype_core, void_core, core, type_after, const_type, plain_type, type_id}
use Rattle.cx_productions.specs.Primaries.{Operand, expr_list, int_literal, truth, group, static_cast, is_same, out, list_after, names_after, after_head, head_primary, core_primary, scalar_primary, name_alone, template_name, word_primary, simple_primary, primary}
use Rattle.cx_productions.specs.Requires.{constraint, local_after, local, local_list, maybe_locals, simple_requirement, required_member, required_core, type_requirement, result_constraint, compound_requirement, nested_requirement, requirement, requirement_list, requires_expr}
use Rattle.cx_productions.specs.Expressions.{Postfix, member_access, call, postfix_step, postfix_turn, needed_call, postfix_after, postfix, prefixed, unary, chain_turn, binary_operator, binary_chain, binary_after, conditional, assignment, choice_after, expr_after, expr, expr_of}
use Rattle.cx_productions.specs.Arguments.{value_of_operand, type_of_core, core_argument_after, head_argument_after, head_argument, core_argument, scalar_argument, long_argument, const_argument, value_argument, argument}
use Rattle.cx_productions.specs.Clauses.{uncalled, head_operand, simple_operand, clause_operand, clause_operator, conjunction, clause}
use Rattle.cx_syntax_laws.proofs.Levels.{Grows, grows_itself, grows_closed, grows_bind, grows_give}
use Rattle.cx_syntax_laws.proofs.Rules.{growth}
use Rattle.cx_production_laws.proofs.TypeLaws.{lawful_scalar_after, lawful_scalar, lawful_long, lawful_names, lawful_type_after}
use Rattle.cx_production_laws.proofs.ExpressionLaws.{lower_levels, lawful_expr, lawful_argument, lawful_local_after}

pub record Rising (b d : Below) : Type 0 where
  pub expr : (level : ℕ) (c : Context) → Grows (b.expr level c) (d.expr level c)
  pub argument : (c : Context) → Grows (b.argument c) (d.argument c)

pub grows_scalar_after : (c : Context) (t : Piece) → Grows (scalar_after c t) (scalar_after c t)
grows_scalar_after c t = grows_itself (lawful_scalar_after c t)

grows_long : (c : Context) → Grows (long_core c) (long_core c)
grows_long c = grows_itself (lawful_long c)

pub grows_scalar : (c : Context) → Grows (scalar_core c) (scalar_core c)
grows_scalar c = grows_itself (lawful_scalar c)

grows_names : (c : Context) → Grows (member_names c) (member_names c)
grows_names c = grows_itself (lawful_names c)

pub grows_type_after : (c : Context) (at : Place) (before : Bool) (k : Core) → Grows (type_after c at before k) (type_after c at before k)
grows_type_after c at before k = grows_itself (lawful_type_after c at before k)

grows_local_after : (c : Context) (of : TypeTree) → Grows (local_after c of) (local_after c of)
grows_local_after c of = grows_itself (lawful_local_after c of)

module _ {b d : Below} (l : Rising b d) where
  pub grows_arguments : (c : Context) → Grows (argument_list b c) (argument_list d c)
  unfolding argument_list
  grows_arguments c = search (growth, l.argument) depth 15 fits 3000

  pub grows_head : (c : Context) → Grows (head_core b c) (head_core d c)
  unfolding head_core class_core type_name_core
  grows_head c = search (growth, grows_arguments) depth 15 fits 3000

  pub grows_core : (c : Context) → Grows (core b c) (core d c)
  unfolding core member_core decltype_core void_core as_type
  grows_core c = search (growth, grows_head, grows_names, grows_scalar, l.expr) depth 20 fits 3000

  pub grows_type : (c : Context) → Grows (type_id b c) (type_id d c)
  unfolding type_id const_type plain_type
  grows_type c = search (growth, grows_core, grows_type_after) depth 15 fits 3000

  pub grows_exprs : (close : Class) (c : Context) → Grows (expr_list close b c) (expr_list close d c)
  unfolding expr_list
  grows_exprs close c = search (growth, l.expr) depth 15 fits 3000

  pub grows_list_after : (c : Context) (k : Core) → Grows (list_after b c k) (list_after d c k)
  unfolding list_after as_type
  grows_list_after c k = search (growth, grows_exprs) depth 15 fits 3000

  pub grows_after_head : (c : Context) (k : Core) → Grows (after_head b c k) (after_head d c k)
  unfolding after_head names_after as_type
  grows_after_head c k = search (growth, grows_list_after, grows_names) depth 15 fits 3000

  pub grows_constraint : (c : Context) → Grows (constraint b c) (constraint d c)
  unfolding constraint
  grows_constraint c = search (growth, grows_arguments) depth 15 fits 3000

  grows_requirement : (c : Context) → Grows (requirement b c) (requirement d c)
  unfolding requirement type_requirement nested_requirement compound_requirement simple_requirement result_constraint required_core class_core type_name_core required_member as_type
  grows_requirement c = search (growth, grows_arguments, grows_names, grows_constraint, l.expr) depth 20 fits 5000

  grows_requirements : (c : Context) → Grows (requirement_list b c) (requirement_list d c)
  unfolding requirement_list
  grows_requirements c = search (growth, grows_requirement) depth 15 fits 3000

  grows_local : (c : Context) → Grows (local b c) (local d c)
  unfolding local
  grows_local c = grows_bind (grows_type c) (grows_local_after c)

  grows_locals : (c : Context) → Grows (local_list b c) (local_list d c)
  unfolding local_list
  grows_locals c = search (growth, grows_local, grows_local_after, grows_type_after) depth 20 fits 5000

  grows_maybe_locals : (c : Context) → Grows (maybe_locals b c) (maybe_locals d c)
  unfolding maybe_locals
  grows_maybe_locals c = search (growth, grows_locals) depth 15 fits 3000

  pub grows_requires : (c : Context) → Grows (requires_expr b c) (requires_expr d c)
  unfolding requires_expr
  grows_requires c = search (growth, grows_maybe_locals, grows_requirements) depth 20 fits 3000

  pub grows_simple : (c : Context) → Grows (simple_primary b c) (simple_primary d c)
  unfolding simple_primary int_literal template_name name_alone word_primary truth is_same out group
  grows_simple c = search (growth, grows_requires, grows_arguments, grows_type, l.expr) depth 20 fits 5000

  pub grows_primary : (c : Context) → Grows (primary b c) (primary d c)
  unfolding primary head_primary core_primary scalar_primary static_cast
  grows_primary c = search (growth, grows_simple, grows_after_head, grows_list_after, grows_head, grows_core, grows_type, l.expr) depth 20 fits 5000

  pub grows_call : (x : Postfix) → Grows (call b x) (call d x)
  unfolding call
  grows_call x = search (growth, grows_exprs) depth 15 fits 3000

  pub grows_postfix_turn : (x : Postfix) → Grows (postfix_turn b x) (postfix_turn d x)
  unfolding postfix_turn member_access postfix_step
  grows_postfix_turn x = search (growth, grows_call) depth 15 fits 3000

  pub grows_postfix_after : (c : Context) (operand : Operand) → Grows (postfix_after b c operand) (postfix_after d c operand)
  unfolding postfix_after needed_call
  grows_postfix_after c operand = search (growth, grows_call, grows_postfix_turn) depth 15 fits 3000

  pub grows_unary : (c : Context) → Grows (unary b c) (unary d c)
  unfolding unary prefixed postfix
  grows_unary c = search (growth, grows_primary, grows_postfix_after, l.expr) depth 15 fits 3000

  pub grows_chain : (level : ℕ) (c : Context) (e : ExprTree) → Grows (binary_chain b level c e) (binary_chain d level c e)
  unfolding binary_chain chain_turn binary_operator
  grows_chain level c e = search (growth, l.expr) depth 20 fits 3000

  pub grows_binary_after : (level : ℕ) (c : Context) (e : ExprTree) → Grows (binary_after b level c e) (binary_after d level c e)
  unfolding binary_after
  grows_binary_after zero c e = grows_give e
  grows_binary_after (suc level) c e = grows_bind (grows_binary_after level c e) (grows_chain level c)

  pub grows_choice_after : (c : Context) (e : ExprTree) → Grows (choice_after b c e) (choice_after d c e)
  unfolding choice_after conditional assignment
  grows_choice_after c e = search (growth, l.expr) depth 15 fits 3000

  pub grows_expr_after : (c : Context) (e : ExprTree) → Grows (expr_after b c e) (expr_after d c e)
  unfolding expr_after
  grows_expr_after c e = grows_bind (grows_binary_after 10 c e) (grows_choice_after c)

  pub grows_expr : (level : ℕ) (c : Context) → Grows (expr b level c) (expr d level c)
  unfolding expr
  grows_expr level c = search (growth, grows_unary, grows_expr_after, grows_binary_after) depth 10

  pub grows_expr_of : (c : Context) (operand : Operand) → Grows (expr_of b c operand) (expr_of d c operand)
  unfolding expr_of
  grows_expr_of c operand = search (growth, grows_postfix_after, grows_expr_after)

  pub grows_argument : (c : Context) → Grows (argument b c) (argument d c)
  unfolding argument value_of_operand type_of_core core_argument_after head_argument_after head_argument core_argument scalar_argument long_argument const_argument value_argument const_type
  grows_argument c = search (growth, grows_expr_of, grows_expr, grows_type_after, grows_core, grows_head, grows_list_after, grows_after_head, grows_scalar_after, grows_long) depth 20 fits 6000

  grows_operand : (c : Context) → Grows (clause_operand b c) (clause_operand d c)
  unfolding clause_operand head_operand simple_operand uncalled names_after as_type
  grows_operand c = search (growth, grows_head, grows_names, grows_simple) depth 15 fits 3000

  pub grows_conjunction : (c : Context) → Grows (conjunction b c) (conjunction d c)
  unfolding conjunction chain_turn clause_operator
  grows_conjunction c = search (growth, grows_operand) depth 15 fits 3000

  pub grows_clause : (c : Context) → Grows (clause b c) (clause d c)
  unfolding clause chain_turn clause_operator
  grows_clause c = search (growth, grows_conjunction) depth 15 fits 3000

pub rising_levels : (n : ℕ) → Rising (levels n) (levels (suc n))
unfolding levels
rising_levels zero = record { expr = λ level c. grows_closed (lawful_expr (lower_levels zero) level c); argument = λ c. grows_closed (lawful_argument (lower_levels zero) c) }
rising_levels (suc n) = record { expr = grows_expr (rising_levels n); argument = grows_argument (rising_levels n) }
