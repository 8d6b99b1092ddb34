-- Types, expressions, arguments and clauses keep the names that are known: what a requires-expression declares is
-- forgotten after it.
use Rattle.std.proofs.Common.{ℕ, zero, suc, Bool, true, false}
use Rattle.cx_tokens.specs.Pieces.{Piece}
use Rattle.cx_syntax.specs.declared.context.Context.{Context}
use Rattle.cx_syntax.specs.Productions.{Class}
use Rattle.cx_productions.specs.Trees.{ExprTree, TypeTree, ArgumentTree}
use Rattle.cx_productions.specs.Below.{Below}
use Rattle.cx_productions.specs.Levels.{levels}
use Rattle.cx_productions.specs.Scalars.{Core, maybe_int, long_long, after_sign, scalar_after, word_core, after_long_long, long_core, scalar_core}
use Rattle.cx_productions.specs.Types.{argument_list, member_name, more_names, member_names, as_type, class_core, type_name_core, head_core, member_core, decltype_core, void_core, core, const_after, type_after, const_type, plain_type, type_id}
use Rattle.cx_productions.specs.Primaries.{Operand, expr_list, int_literal, truth, group, static_cast, is_same, out, list_after, names_after, after_head, head_primary, core_primary, scalar_primary, name_alone, template_name, word_primary, simple_primary, primary}
use Rattle.cx_productions.specs.Requires.{constraint, local_after, local, local_list, maybe_locals, simple_requirement, required_member, required_core, type_requirement, result_constraint, compound_requirement, nested_requirement, requirement, requirement_list, requires_expr}
use Rattle.cx_productions.specs.Expressions.{Postfix, member_access, call, postfix_step, postfix_turn, needed_call, postfix_after, postfix, prefixed, unary, chain_turn, binary_operator, binary_chain, binary_after, conditional, assignment, choice_after, expr_after, expr, expr_of}
use Rattle.cx_productions.specs.Arguments.{value_of_operand, type_of_core, core_argument_after, head_argument_after, head_argument, core_argument, scalar_argument, long_argument, const_argument, value_argument, argument}
use Rattle.cx_productions.specs.Clauses.{uncalled, head_operand, simple_operand, clause_operand, clause_operator, conjunction, clause}
use Rattle.cx_syntax_laws.proofs.Naming.{Names, naming, names_closed, names_bind, names_give, names_outer}

pub record Keeping (b : Below) : Type 0 where
  pub expr : (level : ℕ) (c : Context) → Names true (b.expr level c)
  pub argument : (c : Context) → Names true (b.argument c)

pub names_scalar_after : (all : Bool) (c : Context) (t : Piece) → Names all (scalar_after c t)
unfolding scalar_after after_sign long_long maybe_int
names_scalar_after all c t = search naming depth 15 fits 3000

pub names_long : (all : Bool) (c : Context) → Names all (long_core c)
unfolding long_core after_long_long maybe_int
names_long all c = search naming depth 15 fits 3000

pub names_scalar : (all : Bool) (c : Context) → Names all (scalar_core c)
unfolding scalar_core word_core
names_scalar all c = search (naming, names_scalar_after, names_long) depth 15 fits 3000

pub names_names : (c : Context) → Names true (member_names c)
unfolding member_names more_names member_name
names_names c = search naming depth 15 fits 3000

pub names_type_after : (all : Bool) (c : Context) (at : _) (before : Bool) (k : Core) → Names all (type_after c at before k)
unfolding type_after const_after
names_type_after all c at before k = search naming depth 15 fits 3000

module _ {b : Below} (l : Keeping b) where
  pub names_arguments : (c : Context) → Names true (argument_list b c)
  unfolding argument_list
  names_arguments c = search (naming, l.argument) depth 15 fits 3000

  pub names_head : (c : Context) → Names true (head_core b c)
  unfolding head_core class_core type_name_core
  names_head c = search (naming, names_arguments) depth 15 fits 3000

  pub names_core : (c : Context) → Names true (core b c)
  unfolding core member_core decltype_core void_core as_type
  names_core c = search (naming, names_head, names_names, names_scalar, l.expr) depth 20 fits 3000

  pub names_type : (c : Context) → Names true (type_id b c)
  unfolding type_id const_type plain_type
  names_type c = search (naming, names_core, names_type_after) depth 15 fits 3000

  pub names_exprs : (close : Class) (c : Context) → Names true (expr_list close b c)
  unfolding expr_list
  names_exprs close c = search (naming, l.expr) depth 15 fits 3000

  pub names_list_after : (c : Context) (k : Core) → Names true (list_after b c k)
  unfolding list_after as_type
  names_list_after c k = search (naming, names_exprs) depth 15 fits 3000

  pub names_after_head : (c : Context) (k : Core) → Names true (after_head b c k)
  unfolding after_head names_after as_type
  names_after_head c k = search (naming, names_list_after, names_names) depth 15 fits 3000

  pub names_constraint : (c : Context) → Names true (constraint b c)
  unfolding constraint
  names_constraint c = search (naming, names_arguments) depth 15 fits 3000

  names_requirement : (c : Context) → Names true (requirement b c)
  unfolding requirement type_requirement nested_requirement compound_requirement simple_requirement result_constraint required_core class_core type_name_core required_member as_type
  names_requirement c = search (naming, names_arguments, names_names, names_constraint, l.expr) depth 20 fits 5000

  names_requirements : (c : Context) → Names true (requirement_list b c)
  unfolding requirement_list
  names_requirements c = search (naming, names_requirement) depth 15 fits 3000

  names_local_after : (c : Context) (of : TypeTree) → Names false (local_after c of)
  unfolding local_after
  names_local_after c of = search naming depth 15 fits 3000

  names_local : (c : Context) → Names false (local b c)
  unfolding local
  names_local c = names_bind false (names_outer (names_type c)) (names_local_after c)

  names_locals : (c : Context) → Names false (local_list b c)
  unfolding local_list
  names_locals c = search (naming, names_local, names_local_after, names_type_after) depth 20 fits 5000

  names_maybe_locals : (c : Context) → Names false (maybe_locals b c)
  unfolding maybe_locals
  names_maybe_locals c = search (naming, names_locals) depth 15 fits 3000

  outer_requirements : (c : Context) → Names false (requirement_list b c)
  outer_requirements c = names_outer (names_requirements c)

  pub names_requires : (c : Context) → Names true (requires_expr b c)
  unfolding requires_expr
  names_requires c = search (naming, names_maybe_locals, outer_requirements) depth 20 fits 3000

  pub names_simple : (c : Context) → Names true (simple_primary b c)
  unfolding simple_primary int_literal template_name name_alone word_primary truth is_same out group
  names_simple c = search (naming, names_requires, names_arguments, names_type, l.expr) depth 20 fits 5000

  pub names_primary : (c : Context) → Names true (primary b c)
  unfolding primary head_primary core_primary scalar_primary static_cast
  names_primary c = search (naming, names_simple, names_after_head, names_list_after, names_head, names_core, names_type, l.expr) depth 20 fits 5000

  pub names_call : (x : Postfix) → Names true (call b x)
  unfolding call
  names_call x = search (naming, names_exprs) depth 15 fits 3000

  pub names_postfix_turn : (x : Postfix) → Names true (postfix_turn b x)
  unfolding postfix_turn member_access postfix_step
  names_postfix_turn x = search (naming, names_call) depth 15 fits 3000

  pub names_postfix_after : (c : Context) (operand : Operand) → Names true (postfix_after b c operand)
  unfolding postfix_after needed_call
  names_postfix_after c operand = search (naming, names_call, names_postfix_turn) depth 15 fits 3000

  pub names_unary : (c : Context) → Names true (unary b c)
  unfolding unary prefixed postfix
  names_unary c = search (naming, names_primary, names_postfix_after, l.expr) depth 15 fits 3000

  pub names_chain : (level : ℕ) (c : Context) (e : ExprTree) → Names true (binary_chain b level c e)
  unfolding binary_chain chain_turn binary_operator
  names_chain level c e = search (naming, l.expr) depth 20 fits 3000

  pub names_binary_after : (level : ℕ) (c : Context) (e : ExprTree) → Names true (binary_after b level c e)
  unfolding binary_after
  names_binary_after zero c e = names_give true e
  names_binary_after (suc level) c e = names_bind true (names_binary_after level c e) (names_chain level c)

  pub names_choice_after : (c : Context) (e : ExprTree) → Names true (choice_after b c e)
  unfolding choice_after conditional assignment
  names_choice_after c e = search (naming, l.expr) depth 15 fits 3000

  pub names_expr_after : (c : Context) (e : ExprTree) → Names true (expr_after b c e)
  unfolding expr_after
  names_expr_after c e = names_bind true (names_binary_after 10 c e) (names_choice_after c)

  pub names_expr : (level : ℕ) (c : Context) → Names true (expr b level c)
  unfolding expr
  names_expr level c = search (naming, names_unary, names_expr_after, names_binary_after) depth 10

  pub names_expr_of : (c : Context) (operand : Operand) → Names true (expr_of b c operand)
  unfolding expr_of
  names_expr_of c operand = search (naming, names_postfix_after, names_expr_after)

  pub names_argument : (c : Context) → Names true (argument b c)
  unfolding argument value_of_operand type_of_core core_argument_after head_argument_after head_argument core_argument scalar_argument long_argument const_argument value_argument const_type
  names_argument c = search (naming, names_expr_of, names_expr, names_type_after, names_core, names_head, names_list_after, names_after_head, names_scalar_after, names_long) depth 20 fits 6000

  names_operand : (c : Context) → Names true (clause_operand b c)
  unfolding clause_operand head_operand simple_operand uncalled names_after as_type
  names_operand c = search (naming, names_head, names_names, names_simple) depth 15 fits 3000

  pub names_conjunction : (c : Context) → Names true (conjunction b c)
  unfolding conjunction chain_turn clause_operator
  names_conjunction c = search (naming, names_operand) depth 15 fits 3000

  pub names_clause : (c : Context) → Names true (clause b c)
  unfolding clause chain_turn clause_operator
  names_clause c = search (naming, names_conjunction) depth 15 fits 3000

pub keeping_levels : (n : ℕ) → Keeping (levels n)
unfolding levels
keeping_levels zero = record { expr = λ level c. names_closed true ExprTree; argument = λ c. names_closed true ArgumentTree }
keeping_levels (suc n) = record { expr = names_expr (keeping_levels n); argument = names_argument (keeping_levels n) }
