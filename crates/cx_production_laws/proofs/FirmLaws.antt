-- Levels are enough for types, expressions, arguments and clauses where there is one more than room for constructs: what is
-- nested deeper is refused before.
use Rattle.std.proofs.Common.{arith, ℕ, zero, suc, Bool, true, List}
use Rattle.cx_base.specs.declared.place.Place.{Place}
use Rattle.cx_tokens.specs.Pieces.{Piece}
use Rattle.cx_syntax.specs.declared.context.Context.{Context}
use Rattle.cx_syntax.specs.declared.operators.BinaryOperator.{BinaryOperator}
use Rattle.cx_tokens.specs.declared.punctuator.Punctuator.{Punctuator}
use Rattle.cx_syntax.specs.Productions.{Production, Class}
use Rattle.cx_tokens.specs.declared.punctuator.Punctuator.TheVariants as punctuator
use Rattle.cx_syntax.specs.declared.operators.BinaryOperator.TheVariants as binary
use Rattle.cx_syntax.specs.Contexts.{deeper}
use Rattle.cx_syntax.specs.Combinators.{one_more, one_more_item}
use Rattle.cx_syntax.specs.Classes.{punct}
use Rattle.cx_syntax.specs.Precedence.{operator}
use Rattle.cx_syntax_laws.proofs.Lawful.{Lawful, Takes}
use Rattle.cx_productions.specs.Trees.{ExprTree, TypeTree, RequirementTree}
use Rattle.cx_productions.specs.Below.{Below}
use Rattle.cx_productions.specs.Levels.{levels}
use Rattle.cx_productions.specs.Scalars.{Core, maybe_int, long_long, after_sign, scalar_after, word_core, after_long_long, long_core, scalar_core}
use Rattle.cx_productions.specs.Types.{argument_list, member_name, more_names, member_names, as_type, class_core, type_name_core, head_core, member_core, decltype_core, void_core, core, const_after, type_after, const_type, plain_type, type_id}
use Rattle.cx_productions.specs.Primaries.{Operand, expr_list, int_literal, truth, group, static_cast, is_same, out, list_after, names_after, after_head, head_primary, core_primary, scalar_primary, name_alone, template_name, word_primary, simple_primary, primary}
use Rattle.cx_productions.specs.Requires.{constraint, local_after, local, local_list, maybe_locals, simple_requirement, required_member, required_core, type_requirement, result_constraint, compound_requirement, nested_requirement, requirement, requirement_list, requires_expr}
use Rattle.cx_productions.specs.Expressions.{Postfix, Chain, postfix_chain, continues_postfix, chain_from, member_access, call, postfix_step, postfix_turn, needed_call, postfix_after, postfix, prefixed, unary, chain_turn, binary_operator, binary_chain, binary_after, conditional, assignment, choice_after, expr_after, expr, expr_of}
use Rattle.cx_productions.specs.Arguments.{value_of_operand, type_of_core, core_argument_after, head_argument_after, head_argument, core_argument, scalar_argument, long_argument, const_argument, value_argument, argument}
use Rattle.cx_productions.specs.Clauses.{uncalled, head_operand, simple_operand, clause_operand, clause_operator, conjunction, clause}
use Rattle.cx_syntax_laws.proofs.Firm.{Firm, Fits, Costs, Keeps, firm_bind, firm_give, firm_turns, firm_after, firm_step, firm_kept, costs_token, costs_first}
use Rattle.cx_syntax_laws.proofs.Room.{Enough, room, enough_deeper, lower_deeper}
use Rattle.cx_syntax_laws.proofs.Rules.{firmness, keeping}
use Rattle.cx_production_laws.proofs.TypeLaws.{Lower, more_names_turn, more_turn}
use Rattle.cx_production_laws.proofs.ExpressionLaws.{lower_levels, postfix_turns, operator_turns, clause_turns, requirement_item, lawful_operand, lawful_conjunction, lawful_local}

pub record Lasts (n : ℕ) (b d : Below) : Type 0 where
  pub expr : (level : ℕ) (c : Context) → Enough n c → Firm (b.expr level c) (d.expr level c)
  pub argument : (c : Context) → Enough n c → Firm (b.argument c) (d.argument c)

pub firm_scalar_after : (c : Context) (t : Piece) → Firm (scalar_after c t) (scalar_after c t)
unfolding scalar_after after_sign long_long maybe_int
firm_scalar_after c t = search firmness depth 15 fits 3000

firm_long : (c : Context) → Firm (long_core c) (long_core c)
unfolding long_core after_long_long maybe_int
firm_long c = search firmness depth 15 fits 3000

pub firm_scalar : (c : Context) → Firm (scalar_core c) (scalar_core c)
unfolding scalar_core word_core
firm_scalar c = search (firmness, firm_scalar_after, firm_long) depth 15 fits 3000

pub takes_more : {A : Type 0} (c : Context) {item : Production A} → Lawful true item → (so_far : List A) → Takes (one_more c item so_far)
takes_more c hi so_far = (more_turn c hi so_far).takes

takes_names : (c : Context) (so_far : List (List ℕ)) → Takes (more_names c so_far)
takes_names c so_far = (more_names_turn c so_far).takes

firm_names : (c : Context) → Firm (member_names c) (member_names c)
unfolding member_names more_names member_name
firm_names c = search (firmness, takes_names) depth 15 fits 3000

pub firm_type_after : (c : Context) (at : Place) (before : Bool) (k : Core) → Firm (type_after c at before k) (type_after c at before k)
unfolding type_after const_after
firm_type_after c at before k = search firmness depth 15 fits 3000

firm_operator : (level : ℕ) (c : Context) → Firm (binary_operator level c) (binary_operator level c)
unfolding binary_operator
firm_operator level c = search firmness depth 15 fits 3000

costs_operator : (level : ℕ) (c : Context) → Costs c (binary_operator level c)
unfolding binary_operator
costs_operator level c = search (costs_token, costs_first)

firm_sign : (p : Punctuator) (o : BinaryOperator) (c : Context) → Firm (clause_operator p o c) (clause_operator p o c)
unfolding clause_operator
firm_sign p o c = search firmness

costs_sign : (p : Punctuator) (o : BinaryOperator) (c : Context) → Costs c (clause_operator p o c)
unfolding clause_operator
costs_sign p o c = search (costs_token, costs_first)

-- operators and operands, each within one more construct than those before
chain_firm : {n : ℕ} (q : Context → Class) (sign : Context → Production BinaryOperator) (operand operand' : Context → Production ExprTree)
    → ((c : Context) → Firm (sign c) (sign c)) → ((c : Context) → Costs c (sign c)) → ((x : Chain) → Takes (chain_turn sign operand x))
    → ((c : Context) → Enough (suc n) c → Fits c → Firm (operand (deeper c)) (operand' (deeper c)))
    → (c : Context) (first : ExprTree) → Enough (suc n) c → Firm (chain_from q sign operand c first) (chain_from q sign operand' c first)
unfolding chain_turn
chain_firm {n} q sign operand operand' fs cs ts fo c first e =
    firm_bind (firm_turns (λ (x : Chain). q x.within) (λ (x : Chain). Enough (suc n) x.within) ts turn keeps (record { tree = first; within = c }) e) (λ x. firm_give x.tree)
  where
    turn : (x : Chain) → Enough (suc n) x.within → Firm (chain_turn sign operand x) (chain_turn sign operand' x)
    turn x i = firm_after x.within (cs x.within) (fs x.within) (λ f o. firm_bind (fo x.within i f) (λ right. firm_bind (firm_step _) (λ m. firm_give _)))

    keeps : (x : Chain) → Enough (suc n) x.within → Keeps (λ (y : Chain). Enough (suc n) y.within) (chain_turn sign operand x)
    keeps x i = search (keeping, room) depth 15

firm_local_after : (c : Context) (of : TypeTree) → Firm (local_after c of) (local_after c of)
unfolding local_after
firm_local_after c of = search firmness depth 15 fits 3000

module _ {n : ℕ} {b d : Below} (h : Lower b) (l : Lasts n b d) where
  pub firm_arguments : (c : Context) → Enough (suc n) c → Firm (argument_list b c) (argument_list d c)
  unfolding argument_list
  firm_arguments c e = search (firmness, room, l.argument, takes_more, h.argument) depth 15 fits 3000

  pub firm_head : (c : Context) → Enough (suc n) c → Firm (head_core b c) (head_core d c)
  unfolding head_core class_core type_name_core
  firm_head c e = search (firmness, room, firm_arguments) depth 15 fits 3000

  pub firm_core : (c : Context) → Enough (suc n) c → Firm (core b c) (core d c)
  unfolding core member_core decltype_core void_core as_type
  firm_core c e = search (firmness, room, firm_head, firm_names, firm_scalar, l.expr) depth 20 fits 3000

  pub firm_type : (c : Context) → Enough (suc n) c → Firm (type_id b c) (type_id d c)
  unfolding type_id const_type plain_type
  firm_type c e = search (firmness, room, firm_core, firm_type_after) depth 15 fits 3000

  pub firm_exprs : (close : Class) (c : Context) → Enough n c → Firm (expr_list close b c) (expr_list close d c)
  unfolding expr_list
  firm_exprs close c e = search (firmness, room, l.expr, takes_more, h.expr) depth 15 fits 3000

  pub firm_list_after : (c : Context) (k : Core) → Enough (suc n) c → Firm (list_after b c k) (list_after d c k)
  unfolding list_after as_type
  firm_list_after c k e = search (firmness, room, firm_exprs) depth 15 fits 3000

  pub firm_after_head : (c : Context) (k : Core) → Enough (suc n) c → Firm (after_head b c k) (after_head d c k)
  unfolding after_head names_after as_type
  firm_after_head c k e = search (firmness, room, firm_list_after, firm_names) depth 15 fits 3000

  pub firm_constraint : (c : Context) → Enough (suc n) c → Firm (constraint b c) (constraint d c)
  unfolding constraint
  firm_constraint c e = search (firmness, room, firm_arguments) depth 15 fits 3000

  firm_requirement : (c : Context) → Enough n c → Firm (requirement b c) (requirement d c)
  unfolding requirement type_requirement nested_requirement compound_requirement simple_requirement result_constraint required_core class_core type_name_core required_member as_type
  firm_requirement c e = search (firmness, room, firm_arguments, firm_names, firm_constraint, l.expr) depth 20 fits 5000

  takes_requirement : (c : Context) (so_far : List RequirementTree) → Takes (one_more_item (requirement b c) so_far)
  takes_requirement c so_far = (requirement_item h c so_far).takes

  more_local : (c : Context) → Lawful true (local b c)
  more_local c = lawful_local h c

  firm_requirements : (c : Context) → Enough n c → Firm (requirement_list b c) (requirement_list d c)
  unfolding requirement_list
  firm_requirements c e = search (firmness, room, firm_requirement, takes_requirement) depth 15 fits 3000

  firm_local : (c : Context) → Enough (suc n) c → Firm (local b c) (local d c)
  unfolding local
  firm_local c e = firm_bind (firm_type c e) (firm_local_after c)

  firm_locals : (c : Context) → Enough (suc n) c → Firm (local_list b c) (local_list d c)
  unfolding local_list
  firm_locals c e = search (firmness, room, firm_local, firm_local_after, firm_type_after, takes_more, more_local) depth 20 fits 5000

  firm_maybe_locals : (c : Context) → Enough (suc n) c → Firm (maybe_locals b c) (maybe_locals d c)
  unfolding maybe_locals
  firm_maybe_locals c e = search (firmness, room, firm_locals) depth 15 fits 3000

  pub firm_requires : (c : Context) → Enough (suc n) c → Firm (requires_expr b c) (requires_expr d c)
  unfolding requires_expr
  firm_requires c e = search (firmness, room, firm_maybe_locals, firm_requirements) depth 20 fits 3000

  pub firm_simple : (c : Context) → Enough (suc n) c → Firm (simple_primary b c) (simple_primary d c)
  unfolding simple_primary int_literal template_name name_alone word_primary truth is_same out group
  firm_simple c e = search (firmness, room, firm_requires, firm_arguments, firm_type, l.expr) depth 20 fits 5000

  pub firm_primary : (c : Context) → Enough (suc n) c → Firm (primary b c) (primary d c)
  unfolding primary head_primary core_primary scalar_primary static_cast
  firm_primary c e = search (firmness, room, firm_simple, firm_after_head, firm_list_after, firm_head, firm_core, firm_type, l.expr) depth 20 fits 5000

  pub firm_call : (x : Postfix) → Enough (suc n) x.within → Firm (call b x) (call d x)
  unfolding call
  firm_call x e = search (firmness, room, firm_exprs) depth 15 fits 3000

  firm_postfix_turn : (x : Postfix) → Enough (suc n) x.within → Firm (postfix_turn b x) (postfix_turn d x)
  unfolding postfix_turn member_access postfix_step
  firm_postfix_turn x e = search (firmness, room, firm_call) depth 15 fits 3000

  keeps_postfix_turn : (x : Postfix) → Enough (suc n) x.within → Keeps (λ (y : Postfix). Enough (suc n) y.within) (postfix_turn b x)
  unfolding postfix_turn call member_access postfix_step
  keeps_postfix_turn x e = search (keeping, room) depth 15 fits 3000

  firm_postfix_chain : (x : Postfix) → Enough (suc n) x.within → Firm (postfix_chain b x) (postfix_chain d x)
  firm_postfix_chain x e = firm_turns continues_postfix (λ (y : Postfix). Enough (suc n) y.within) (λ y. (postfix_turns h y).takes) firm_postfix_turn keeps_postfix_turn x e

  keeps_needed_call : (x : Postfix) → Enough (suc n) x.within → Keeps (λ (y : Postfix). Enough (suc n) y.within) (needed_call b x)
  unfolding needed_call call
  keeps_needed_call x e = search (keeping, room) depth 15 fits 3000

  firm_needed_call : (x : Postfix) → Enough (suc n) x.within → Firm (needed_call b x) (needed_call d x)
  unfolding needed_call
  firm_needed_call x e = search (firmness, room, firm_call) depth 15 fits 3000

  pub firm_postfix_after : (c : Context) (operand : Operand) → Enough (suc n) c → Firm (postfix_after b c operand) (postfix_after d c operand)
  unfolding postfix_after
  firm_postfix_after c operand e =
      let x : Postfix = record { tree = operand.tree; calling = operand.calling; within = c } in
      firm_kept (λ (y : Postfix). Enough (suc n) y.within) (firm_needed_call x e) (keeps_needed_call x e) (λ y i. firm_bind (firm_postfix_chain y i) (λ z. firm_give z.tree))

  pub firm_unary : (c : Context) → Enough (suc n) c → Firm (unary b c) (unary d c)
  unfolding unary prefixed postfix
  firm_unary c e = search (firmness, room, firm_primary, firm_postfix_after, l.expr) depth 15 fits 3000

  pub firm_chain : (level : ℕ) (c : Context) (left : ExprTree) → Enough (suc n) c → Firm (binary_chain b level c left) (binary_chain d level c left)
  unfolding binary_chain
  firm_chain level c left e =
      chain_firm {n = n} (λ c. operator (suc level) c.lists) (binary_operator (suc level)) (b.expr level) (d.expr level)
      (firm_operator (suc level)) (costs_operator (suc level)) (λ x. (operator_turns h level x).takes) (λ c' i f. l.expr level (deeper c') (lower_deeper i f)) c left e

  pub firm_binary_after : (level : ℕ) (c : Context) (e : ExprTree) → Enough (suc n) c → Firm (binary_after b level c e) (binary_after d level c e)
  unfolding binary_after
  firm_binary_after zero c e i = firm_give e
  firm_binary_after (suc level) c e i = firm_bind (firm_binary_after level c e i) (λ left. firm_chain level c left i)

  pub firm_choice_after : (c : Context) (e : ExprTree) → Enough (suc n) c → Firm (choice_after b c e) (choice_after d c e)
  unfolding choice_after conditional assignment
  firm_choice_after c e i = search (firmness, room, l.expr) depth 15 fits 3000

  pub firm_expr_after : (c : Context) (e : ExprTree) → Enough (suc n) c → Firm (expr_after b c e) (expr_after d c e)
  unfolding expr_after
  firm_expr_after c e i = firm_bind (firm_binary_after 10 c e i) (λ left. firm_choice_after c left i)

  pub firm_expr : (level : ℕ) (c : Context) → Enough (suc n) c → Firm (expr b level c) (expr d level c)
  unfolding expr
  firm_expr level c e = search (firmness, room, firm_unary, firm_expr_after, firm_binary_after) depth 10

  pub firm_expr_of : (c : Context) (operand : Operand) → Enough (suc n) c → Firm (expr_of b c operand) (expr_of d c operand)
  unfolding expr_of
  firm_expr_of c operand e = search (firmness, room, firm_postfix_after, firm_expr_after)

  pub firm_argument : (c : Context) → Enough (suc n) c → Firm (argument b c) (argument d c)
  unfolding argument value_of_operand type_of_core core_argument_after head_argument_after head_argument core_argument scalar_argument long_argument const_argument value_argument const_type
  firm_argument c e = search (firmness, room, firm_expr_of, firm_expr, firm_type_after, firm_core, firm_head, firm_list_after, firm_after_head, firm_scalar_after, firm_long) depth 20 fits 6000

  firm_operand : (c : Context) → Enough (suc n) c → Firm (clause_operand b c) (clause_operand d c)
  unfolding clause_operand head_operand simple_operand uncalled names_after as_type
  firm_operand c e = search (firmness, room, firm_head, firm_names, firm_simple) depth 15 fits 3000

  pub firm_conjunction : (c : Context) → Enough (suc n) c → Firm (conjunction b c) (conjunction d c)
  unfolding conjunction
  firm_conjunction c e =
      firm_bind (firm_operand c e) (λ first.
      chain_firm {n = n} (λ c. punct punctuator.AmpersandAmpersand) (clause_operator punctuator.AmpersandAmpersand binary.And) (clause_operand b) (clause_operand d)
      (firm_sign punctuator.AmpersandAmpersand binary.And) (costs_sign punctuator.AmpersandAmpersand binary.And)
      (λ x. (clause_turns h punctuator.AmpersandAmpersand binary.And (clause_operand b) (lawful_operand h) x).takes) (λ c' i f. firm_operand (deeper c') (enough_deeper i)) c first e)

  pub firm_clause : (c : Context) → Enough (suc n) c → Firm (clause b c) (clause d c)
  unfolding clause
  firm_clause c e =
      firm_bind (firm_conjunction c e) (λ first.
      chain_firm {n = n} (λ c. punct punctuator.BarBar) (clause_operator punctuator.BarBar binary.Or) (conjunction b) (conjunction d)
      (firm_sign punctuator.BarBar binary.Or) (costs_sign punctuator.BarBar binary.Or)
      (λ x. (clause_turns h punctuator.BarBar binary.Or (conjunction b) (lawful_conjunction h) x).takes) (λ c' i f. firm_conjunction (deeper c') (enough_deeper i)) c first e)

pub no_level : {A : Type 0} {c : Context} → Enough zero c → A
no_level e = absurd (omega (arith, e.enough))

pub lasts_levels : (n : ℕ) → Lasts n (levels n) (levels (suc n))
unfolding levels
lasts_levels zero = record { expr = λ level c e. no_level e; argument = λ c e. no_level e }
lasts_levels (suc n) = record { expr = firm_expr (lower_levels n) (lasts_levels n); argument = firm_argument (lower_levels n) (lasts_levels n) }
