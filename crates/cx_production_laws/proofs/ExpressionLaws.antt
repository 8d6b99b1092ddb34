-- Expressions ([expr]), requires-expressions ([expr.prim.req]), template arguments ([temp.arg]) and clauses ([temp.pre])
-- are lawful.
use Rattle.std.proofs.Common.{◌≡◌, Ok, ℕ, zero, suc, true, false, List, [], ◌∷◌}
use Rattle.cx_tokens.specs.declared.word.Word.TheVariants as word'
use Rattle.cx_tokens.specs.declared.punctuator.Punctuator.{Punctuator}
use Rattle.cx_tokens.specs.declared.punctuator.Punctuator.TheVariants as punctuator
use Rattle.cx_tokens.specs.Pieces.{Piece}
use Rattle.cx_names.specs.declared.name_kind.NameKind.{NameKind}
use Rattle.cx_syntax.specs.declared.context.Context.{Context}
use Rattle.cx_syntax.specs.declared.operators.BinaryOperator.{BinaryOperator}
use Rattle.cx_syntax.specs.Contexts.{deeper}
use Rattle.cx_syntax.specs.States.{State}
use Rattle.cx_syntax.specs.Productions.{Production, Class, ◌>>=◌, closed, read_closed}
use Rattle.cx_syntax.specs.Combinators.{one_more_item, separated_after}
use Rattle.cx_syntax.specs.Classes.{punct, word}
use Rattle.cx_syntax.specs.Precedence.{operator}
use Rattle.cx_productions.specs.declared.calling.Calling.{Calling}
use Rattle.cx_productions.specs.Trees.{ExprTree, TypeTree, ArgumentTree, RequirementTree}
use Rattle.cx_productions.specs.Below.{Below}
use Rattle.cx_productions.specs.Levels.{levels}
use Rattle.cx_productions.specs.Scalars.{Core}
use Rattle.cx_productions.specs.Types.{void_at, const_type, as_type, class_core, type_name_core, type_after}
use Rattle.cx_productions.specs.Parameters.{void_parameters, parameter_list}
use Rattle.cx_productions.specs.Primaries.{Operand, expr_list, int_literal, truth, group, static_cast, is_same, out, list_after, names_after, after_head, head_primary, core_primary, scalar_primary, name_alone, template_name, word_primary, simple_primary, primary}
use Rattle.cx_productions.specs.Requires.{constraint, local_after, local, local_list, maybe_locals, simple_requirement, required_member, required_core, type_requirement, result_constraint, compound_requirement, nested_requirement, requirement, requirement_list, requires_expr}
use Rattle.cx_productions.specs.Expressions.{Postfix, Chain, member_access, call, postfix_step, continues_postfix, postfix_turn, needed_call, postfix_after, postfix, prefixed, unary, chain_turn, binary_operator, binary_chain, binary_after, conditional, assignment, choice_after, expr_after, expr, expr_of}
use Rattle.cx_productions.specs.Arguments.{after_head_mark, value_of_operand, type_of_core, core_argument_after, head_argument_after, head_argument, core_argument, scalar_argument, long_argument, const_argument, value_argument, argument}
use Rattle.cx_productions.specs.Clauses.{uncalled, head_operand, simple_operand, clause_operand, clause_operator, conjunction, clause}
use Rattle.cx_syntax_laws.proofs.Lawful.{Lawful, Filled, Takes, Opens}
use Rattle.cx_syntax_laws.proofs.Firsts.{lawful_closed, filled_closed, lawful_weak, filled_first, opens_either}
use Rattle.cx_syntax_laws.proofs.Sequence.{lawful_bind, lawful_give}
use Rattle.cx_syntax_laws.proofs.Tokens.{filled_token}
use Rattle.cx_syntax_laws.proofs.Choices.{lawful_when, lawful_until, filled_when}
use Rattle.cx_syntax_laws.proofs.Counted.{lawful_void_first}
use Rattle.cx_syntax_laws.proofs.Idle.{Idle, idle_node, idle_give, idle_bind, filled_idle, opens_idle}
use Rattle.cx_syntax_laws.proofs.Repeats.{Turn, Item, lawful_repeat}
use Rattle.cx_syntax_laws.proofs.Rules.{laws, lawfulness, filling}
use Rattle.cx_production_laws.proofs.TypeLaws.{Lower, lawful_scalar_after, lawful_long, filled_long, lawful_names, filled_names, opens_names, more_turn, lawful_arguments, opens_arguments, lawful_head, lawful_core, lawful_type_after, lawful_type, filled_core, filled_type, filled_head, takes_head, takes_core}

-- parameters, whatever one is
module _ {A : Type 0} (c : Context) {after_type : TypeTree → Production A} {item : Production A} (ha : (of : TypeTree) → Lawful true (after_type of)) (hi : Lawful true item) (fi : Filled item) where
  lawful_separated_after : (first : A) → Lawful true (separated_after c item first)
  lawful_separated_after first = lawful_repeat (more_turn c hi) (first ∷ [])

  lawful_first_type : (t : Piece) → Lawful true (type_after c t.token.at false (void_at t) >>= (λ of. after_type of >>= (λ first. separated_after c item first)))
  lawful_first_type t = lawful_bind (lawful_type_after c t.token.at false (void_at t)) (λ of. lawful_bind (ha of) lawful_separated_after)

  lawful_void_parameters : Lawful false (void_parameters c after_type item)
  lawful_void_parameters = lawful_void_first c (deeper c) (punct punctuator.RightParenthesis) (λ t. lawful_give false []) (λ t. lawful_weak (lawful_first_type t))

  pub lawful_parameters : Lawful false (parameter_list c after_type item)
  lawful_parameters =
      lawful_until (punct punctuator.RightParenthesis) (lawful_give false [])
      (lawful_when (word word'.Void) lawful_void_parameters (lawful_weak (lawful_bind hi lawful_separated_after)) (filled_first _ (filled_token c (word word'.Void))) (filled_first _ fi))
      (filled_when (word word'.Void) _ (filled_first _ fi))

-- what stands after a core
pub idle_type : (k : Core) → Idle (as_type k)
unfolding as_type
idle_type k = search (idle_bind, idle_node, idle_give)

pub lawful_as_type : (k : Core) → Lawful true (as_type k)
unfolding as_type
lawful_as_type k = search lawfulness

pub filled_names_after : (c : Context) (k : Core) → Filled (names_after c k)
unfolding names_after
filled_names_after c k = search (filled_idle, idle_type, filling, filled_names)

pub filled_list_after : (b : Below) (c : Context) (k : Core) → Filled (list_after b c k)
unfolding list_after
filled_list_after b c k = search (filled_idle, idle_type, filling)

pub lawful_local_after : (c : Context) (of : TypeTree) → Lawful true (local_after c of)
unfolding local_after
lawful_local_after c of = search laws depth 15 fits 3000

module _ {b : Below} (l : Lower b) where
  -- ---- lists of expressions

  pub lawful_exprs : (close : Class) (c : Context) → Lawful false (expr_list close b c)
  unfolding expr_list
  lawful_exprs close c = search (laws, more_turn, lawful_weak, l.expr, l.filled) depth 15 fits 3000

  -- ---- primaries

  pub lawful_list_after : (c : Context) (k : Core) → Lawful true (list_after b c k)
  unfolding list_after as_type
  lawful_list_after c k = search (laws, lawful_exprs) depth 15 fits 3000

  pub lawful_after_head : (c : Context) (k : Core) → Lawful true (after_head b c k)
  unfolding after_head names_after as_type
  lawful_after_head c k = search (laws, lawful_list_after, lawful_names, filled_names_after, filled_list_after) depth 15 fits 3000

  pub opens_list_after : (c : Context) (k : Core) → Opens (punct punctuator.LeftBrace) (list_after b c k)
  unfolding list_after
  opens_list_after c k = search (opens_idle, idle_type, lawful_as_type, laws, lawful_exprs) depth 15 fits 3000

  pub opens_after_head : (c : Context) (k : Core) → Opens after_head_mark (after_head b c k)
  unfolding after_head after_head_mark names_after
  opens_after_head c k = search (opens_either, opens_idle, idle_type, lawful_as_type, opens_list_after, lawful_names, opens_names, laws) depth 15 fits 3000

  pub lawful_template_name : (kind : NameKind) (calls : Calling) (c : Context) → Lawful true (template_name kind calls b c)
  unfolding template_name
  lawful_template_name kind calls c = search (laws, lawful_arguments, opens_arguments) depth 15 fits 3000

  -- ---- requires-expressions

  pub lawful_constraint : (c : Context) → Lawful true (constraint b c)
  unfolding constraint
  lawful_constraint c = search (laws, lawful_arguments, opens_arguments) depth 15 fits 3000

  pub lawful_local : (c : Context) → Lawful true (local b c)
  unfolding local
  lawful_local c = search (laws, lawful_type, lawful_local_after) depth 15 fits 3000

  filled_local : (c : Context) → Filled (local b c)
  unfolding local
  filled_local c = search (filling, filled_type) depth 15 fits 3000

  lawful_locals : (c : Context) → Lawful false (local_list b c)
  unfolding local_list
  lawful_locals c = search (lawful_parameters, lawful_local, lawful_local_after, filled_local)

  lawful_maybe_locals : (c : Context) → Lawful true (maybe_locals b c)
  unfolding maybe_locals
  lawful_maybe_locals c = search (laws, lawful_locals) depth 15 fits 3000

  opens_required_member : (c : Context) (first : Piece) (k : Core) → Opens (punct punctuator.ColonColon) (required_member c first k)
  unfolding required_member
  opens_required_member c first k = search (opens_idle, idle_type, lawful_as_type, laws, lawful_names, opens_names) depth 15 fits 3000

  lawful_required_core : (c : Context) (first : Piece) → Lawful true (required_core b c first)
  unfolding required_core class_core type_name_core required_member as_type
  lawful_required_core c first = search (laws, lawful_arguments, lawful_names, opens_required_member) depth 20 fits 3000

  lawful_requirement : (c : Context) → Lawful true (requirement b c)
  unfolding requirement type_requirement nested_requirement compound_requirement simple_requirement result_constraint
  lawful_requirement c = search (laws, lawful_required_core, lawful_constraint, l.expr, l.filled) depth 20 fits 5000

  filled_requirement : (c : Context) → Filled (requirement b c)
  unfolding requirement type_requirement nested_requirement compound_requirement simple_requirement
  filled_requirement c = search (filling, l.filled) depth 15 fits 3000

  takes_requirement : (c : Context) → Takes (requirement b c)
  unfolding requirement type_requirement nested_requirement compound_requirement simple_requirement result_constraint
  takes_requirement c = search (laws, lawful_required_core, lawful_constraint, l.expr, l.filled, l.takes) depth 20 fits 5000

  pub requirement_item : (c : Context) (so_far : List RequirementTree) → Item (one_more_item (requirement b c) so_far)
  requirement_item c so_far = search (laws, lawful_requirement, filled_requirement, takes_requirement) depth 15 fits 3000

  lawful_requirements : (c : Context) → Lawful false (requirement_list b c)
  unfolding requirement_list
  lawful_requirements c = search (laws, lawful_weak, lawful_requirement, requirement_item) depth 15 fits 3000

  pub lawful_requires : (c : Context) → Lawful true (requires_expr b c)
  unfolding requires_expr
  lawful_requires c = search (laws, lawful_maybe_locals, lawful_requirements) depth 20 fits 5000

  -- ---- primaries

  lawful_word_primary : (c : Context) → Lawful true (word_primary b c)
  unfolding word_primary truth is_same out group requires_expr
  lawful_word_primary c = search (laws, lawful_requires, lawful_type, l.expr) depth 20 fits 5000

  filled_word_primary : (c : Context) → Filled (word_primary b c)
  unfolding word_primary truth is_same out group requires_expr
  filled_word_primary c = search filling depth 15 fits 3000

  pub lawful_simple : (c : Context) → Lawful true (simple_primary b c)
  unfolding simple_primary int_literal template_name name_alone
  lawful_simple c = search (laws, lawful_word_primary, filled_word_primary, lawful_template_name) depth 20 fits 5000

  pub filled_simple : (c : Context) → Filled (simple_primary b c)
  unfolding simple_primary int_literal template_name name_alone
  filled_simple c = search (filling, filled_word_primary) depth 15 fits 3000

  lawful_primary : (c : Context) → Lawful true (primary b c)
  unfolding primary head_primary core_primary scalar_primary static_cast
  lawful_primary c = search (laws, lawful_simple, filled_simple, lawful_after_head, lawful_list_after, lawful_head, lawful_core, filled_head, filled_core, lawful_type, l.expr) depth 20 fits 5000

  filled_primary : (c : Context) → Filled (primary b c)
  unfolding primary head_primary core_primary scalar_primary static_cast
  filled_primary c = search (filling, filled_simple, filled_head, filled_core) depth 15 fits 3000

  takes_simple : (c : Context) → Takes (simple_primary b c)
  unfolding simple_primary int_literal template_name name_alone word_primary truth is_same out group requires_expr
  takes_simple c = search (laws, lawful_type, lawful_arguments, opens_arguments, lawful_maybe_locals, lawful_requirements, l.expr) depth 20 fits 9000

  takes_primary : (c : Context) → Takes (primary b c)
  unfolding primary head_primary core_primary scalar_primary static_cast
  takes_primary c = search (laws, takes_simple, lawful_simple, lawful_after_head, lawful_list_after, takes_head, takes_core, lawful_type, l.expr) depth 20 fits 5000

  -- ---- postfix expressions

  lawful_call : (x : Postfix) → Lawful true (call b x)
  unfolding call
  lawful_call x = search (laws, lawful_exprs) depth 15 fits 3000

  pub postfix_turns : (x : Postfix) → Turn (continues_postfix x) (postfix_turn b x)
  unfolding postfix_turn call member_access postfix_step
  postfix_turns x = search (laws, lawful_call, lawful_exprs) depth 20 fits 5000

  pub lawful_postfix_after : (c : Context) (operand : Operand) → Lawful true (postfix_after b c operand)
  unfolding postfix_after needed_call
  lawful_postfix_after c operand = search (laws, lawful_call, postfix_turns) depth 15 fits 3000

  lawful_unary : (c : Context) → Lawful true (unary b c)
  unfolding unary prefixed postfix
  lawful_unary c = search (laws, lawful_primary, filled_primary, lawful_postfix_after, l.expr) depth 15 fits 3000

  filled_unary : (c : Context) → Filled (unary b c)
  unfolding unary prefixed postfix
  filled_unary c = search (filling, filled_primary) depth 15 fits 3000

  takes_unary : (c : Context) → Takes (unary b c)
  unfolding unary prefixed postfix
  takes_unary c = search (laws, takes_primary, lawful_postfix_after, l.expr) depth 15 fits 3000

  -- ---- binary expressions

  pub lawful_operator : (level : ℕ) (c : Context) → Lawful true (binary_operator level c)
  unfolding binary_operator
  lawful_operator level c = search laws depth 15 fits 3000

  pub operator_turns : (level : ℕ) (x : Chain) → Turn (operator (suc level) x.within.lists) (chain_turn (binary_operator (suc level)) (b.expr level) x)
  unfolding chain_turn binary_operator
  operator_turns level x = search (laws, l.expr) depth 15 fits 3000

  lawful_chain : (level : ℕ) (c : Context) (e : ExprTree) → Lawful true (binary_chain b level c e)
  unfolding binary_chain
  lawful_chain level c e = search (laws, operator_turns) depth 15 fits 3000

  lawful_binary_after : (level : ℕ) (c : Context) (e : ExprTree) → Lawful true (binary_after b level c e)
  unfolding binary_after
  lawful_binary_after zero c e = search laws
  lawful_binary_after (suc level) c e = lawful_bind (lawful_binary_after level c e) (lawful_chain level c)

  -- ---- conditionals, assignments, expressions

  lawful_choice_after : (c : Context) (e : ExprTree) → Lawful true (choice_after b c e)
  unfolding choice_after conditional assignment
  lawful_choice_after c e = search (laws, l.expr) depth 15 fits 3000

  lawful_expr_after : (c : Context) (e : ExprTree) → Lawful true (expr_after b c e)
  unfolding expr_after
  lawful_expr_after c e = lawful_bind (lawful_binary_after 10 c e) (lawful_choice_after c)

  pub lawful_expr : (level : ℕ) (c : Context) → Lawful true (expr b level c)
  unfolding expr
  lawful_expr level c = search (laws, lawful_unary, lawful_expr_after, lawful_binary_after) depth 10

  pub filled_expr : (level : ℕ) (c : Context) → Filled (expr b level c)
  unfolding expr
  filled_expr level c = search (filling, filled_unary)

  pub takes_expr : (level : ℕ) (c : Context) → Takes (expr b level c)
  unfolding expr
  takes_expr level c = search (laws, takes_unary, lawful_expr_after, lawful_binary_after) depth 10

  pub lawful_expr_of : (c : Context) (operand : Operand) → Lawful true (expr_of b c operand)
  unfolding expr_of
  lawful_expr_of c operand = search (laws, lawful_postfix_after, lawful_expr_after)

  -- ---- template arguments

  pub lawful_argument : (c : Context) → Lawful true (argument b c)
  unfolding argument value_of_operand type_of_core core_argument_after head_argument_after head_argument core_argument scalar_argument long_argument const_argument value_argument const_type
  lawful_argument c = search (laws, lawful_expr_of, lawful_expr, filled_expr, lawful_type_after, lawful_core, lawful_head, filled_core, filled_head, lawful_list_after, opens_list_after, lawful_after_head, opens_after_head, lawful_scalar_after, lawful_long, filled_long) depth 20 fits 6000

  -- ---- clauses

  pub lawful_operand : (c : Context) → Lawful true (clause_operand b c)
  unfolding clause_operand head_operand simple_operand uncalled names_after as_type
  lawful_operand c = search (laws, lawful_head, filled_head, lawful_names, lawful_simple, filled_simple) depth 15 fits 3000

  filled_operand : (c : Context) → Filled (clause_operand b c)
  unfolding clause_operand head_operand simple_operand
  filled_operand c = search (filling, filled_head, filled_simple) depth 15 fits 3000

  takes_operand : (c : Context) → Takes (clause_operand b c)
  unfolding clause_operand head_operand simple_operand uncalled names_after as_type
  takes_operand c = search (laws, takes_head, lawful_names, takes_simple) depth 15 fits 3000

  -- operators and operands, of conjunctions and clauses
  pub clause_turns : (p : Punctuator) (o : BinaryOperator) (operand : Context → Production ExprTree) → ((c : Context) → Lawful true (operand c)) → (x : Chain) → Turn (punct p) (chain_turn (clause_operator p o) operand x)
  unfolding chain_turn clause_operator
  clause_turns p o operand h x = search (laws, h) depth 15 fits 3000

  pub lawful_conjunction : (c : Context) → Lawful true (conjunction b c)
  unfolding conjunction
  lawful_conjunction c = search (laws, lawful_operand, clause_turns) depth 15 fits 3000

  pub lawful_clause : (c : Context) → Lawful true (clause b c)
  unfolding clause
  lawful_clause c = search (laws, lawful_conjunction, clause_turns) depth 15 fits 3000

  pub filled_clause : (c : Context) → Filled (clause b c)
  unfolding clause conjunction
  filled_clause c = search (filling, filled_operand) depth 15 fits 3000

  pub takes_clause : (c : Context) → Takes (clause b c)
  unfolding clause conjunction
  takes_clause c = search (laws, lawful_conjunction, lawful_operand, takes_operand, clause_turns) depth 15 fits 3000

-- ---- the knot

pub takes_closed : (A : Type 0) → Takes (closed {A = A})
unfolding read_closed
takes_closed A = record { takes = λ s t x e. absurd (by_left t x s.left e) }
  where
    by_left : (t : State) (x : A) (l : List Piece) → read_closed {A = A} l ≡ Ok (x, t) → ⊥
    by_left t x [] e = cc
    by_left t x (y ∷ ys) e = cc

pub lower_levels : (n : ℕ) → Lower (levels n)
unfolding levels
lower_levels zero = record { expr = λ level c. lawful_closed true ExprTree; argument = λ c. lawful_closed true ArgumentTree; filled = λ level c. filled_closed ExprTree; takes = λ level c. takes_closed ExprTree }
lower_levels (suc n) = record { expr = lawful_expr (lower_levels n); argument = lawful_argument (lower_levels n); filled = filled_expr (lower_levels n); takes = takes_expr (lower_levels n) }
