-- The end of a unit is in no expression.
use Rattle.std.proofs.Common.{ℕ, zero, suc, Bool, List}
use Rattle.cx_base.specs.declared.place.Place.{Place}
use Rattle.cx_tree.specs.Trees.{ExprTree, TypeTree, CoreTree}
use Rattle.cx_grammar.specs.Production.{Production}
use Rattle.cx_grammar.specs.Names.{Context}
use Rattle.cx_grammar.specs.Types.{Numbered, Placed, Calling, NoCall, MayCall, MustCall, Below}
use Rattle.cx_grammar.specs.Expressions.{more_expr, some_exprs, exprs_until, literal, truth, group, static_cast, is_same, out, list, qualified, behind_head, behind_core, headed, cored, word_list, name_alone, named, with_calling, worded, simple_primary, primary, call, called, member, step, tail_behind, tail, postfix, prefixed, unary, operator, binary_chain, binary_rest, rests, operand, conditional, assignment, expr_behind, expr, argument_of, argument_type, core_argument, head_argument, word_argument, core_type_argument, argument, uncalled, clause_primary, and_rest, conjunction, or_rest, clause, levels}
use Rattle.cx_parse_decl.proofs.Endless.{Endless, give-Endless, then-Endless, closed-Endless, repeat-Endless}
use Rattle.cx_parse_decl.proofs.EndlessRequires.{maybe_requires-Endless}
use Rattle.cx_parse_decl.proofs.EndlessTypes.{BelowEndless, endlessness, argument_list-Endless, qualified_names-Endless, type_behind-Endless, scalar_behind-Endless, const_type-Endless, type_id-Endless, core-Endless}

pub literal-Endless : (c : Context) (n : ℕ) → Endless (literal c n)
unfolding literal
literal-Endless c n = search endlessness depth 13

pub truth-Endless : (value : Bool) (text : List ℕ) (c : Context) (n : ℕ) → Endless (truth value text c n)
unfolding truth
truth-Endless value text c n = search endlessness depth 13

pub qualified-Endless : (c : Context) (head : Numbered TypeTree) (at : Place) → Endless (qualified c head at)
unfolding qualified
qualified-Endless c head at = search (endlessness, qualified_names-Endless) depth 13

pub name_alone-Endless : (c : Context) (n : ℕ) → Endless (name_alone c n)
unfolding name_alone
name_alone-Endless c n = search endlessness depth 13

pub with_calling-Endless : (calling : Calling) {p : Production (Numbered ExprTree)} → Endless p → Endless (with_calling calling p)
with_calling-Endless calling h = search endlessness depth 13

pub operator-Endless : (level : ℕ) (c : Context) → Endless (operator level c)
unfolding operator
operator-Endless level c = search endlessness depth 13

pub argument_type-Endless : (c : Context) (k : Numbered (Placed CoreTree)) → Endless (argument_type c k)
unfolding argument_type
argument_type-Endless c k = search (endlessness, type_behind-Endless) depth 13

pub uncalled-Endless : (c : Context) (p : Numbered ExprTree × Calling) → Endless (uncalled c p)
unfolding uncalled
uncalled-Endless c (e, NoCall) = search endlessness depth 13
uncalled-Endless c (e, MayCall) = search endlessness depth 13
uncalled-Endless c (e, MustCall) = search endlessness depth 13

module _ {b : Below} (h : BelowEndless b) where
  pub more_expr-Endless : (c : Context) (so_far : Numbered (List ExprTree)) → Endless (more_expr b c so_far)
  unfolding more_expr
  more_expr-Endless c so_far = search (endlessness, h.expr) depth 13

  some_exprs-Endless : (c : Context) (n : ℕ) → Endless (some_exprs b c n)
  unfolding some_exprs
  some_exprs-Endless c n = search (endlessness, repeat-Endless, more_expr-Endless, h.expr) depth 13

  pub exprs_until-Endless : (closing : List ℕ) (c : Context) (n : ℕ) → Endless (exprs_until closing b c n)
  unfolding exprs_until
  exprs_until-Endless closing c n = search (endlessness, some_exprs-Endless) depth 13

  group-Endless : (c : Context) (n : ℕ) → Endless (group b c n)
  unfolding group
  group-Endless c n = search (endlessness, h.expr) depth 13

  static_cast-Endless : (c : Context) (n : ℕ) → Endless (static_cast b c n)
  unfolding static_cast
  static_cast-Endless c n = search (endlessness, h.expr, h.type) depth 13

  is_same-Endless : (c : Context) (n : ℕ) → Endless (is_same b c n)
  unfolding is_same
  is_same-Endless c n = search (endlessness, h.type) depth 13

  out-Endless : (c : Context) (n : ℕ) → Endless (out b c n)
  unfolding out
  out-Endless c n = search (endlessness, h.expr) depth 13

  list-Endless : (c : Context) (of : Numbered TypeTree) (at : Place) → Endless (list b c of at)
  unfolding list
  list-Endless c of at = search (endlessness, exprs_until-Endless) depth 13

  pub behind_head-Endless : (c : Context) (k : Numbered (Placed CoreTree)) → Endless (behind_head b c k)
  unfolding behind_head
  behind_head-Endless c k = search (endlessness, list-Endless, qualified-Endless) depth 13

  pub behind_core-Endless : (c : Context) (k : Numbered (Placed CoreTree)) → Endless (behind_core b c k)
  unfolding behind_core
  behind_core-Endless c k = search (list-Endless) depth 13

  headed-Endless : (c : Context) (n : ℕ) → Endless (headed b c n)
  unfolding headed
  headed-Endless c n = search (endlessness, h.core, behind_head-Endless) depth 13

  cored-Endless : (c : Context) (n : ℕ) → Endless (cored b c n)
  unfolding cored
  cored-Endless c n = search (endlessness, h.core, behind_core-Endless) depth 13

  word_list-Endless : (c : Context) (n : ℕ) → Endless (word_list b c n)
  unfolding word_list
  word_list-Endless c n = search (endlessness, behind_core-Endless) depth 13

  named-Endless : (calling : Calling) (c : Context) (n : ℕ) → Endless (named calling b c n)
  unfolding named
  named-Endless calling c n = search (endlessness, argument_list-Endless) depth 13

  pub worded-Endless : (c : Context) (n : ℕ) → Endless (worded b c n)
  unfolding worded
  worded-Endless c n = search (endlessness, maybe_requires-Endless h, with_calling-Endless, truth-Endless, is_same-Endless, out-Endless, group-Endless) depth 13

  pub simple_primary-Endless : (c : Context) (n : ℕ) → Endless (simple_primary b c n)
  unfolding simple_primary
  simple_primary-Endless c n = search (endlessness, with_calling-Endless, literal-Endless, named-Endless, name_alone-Endless, worded-Endless) depth 13

  primary-Endless : (c : Context) (n : ℕ) → Endless (primary b c n)
  unfolding primary
  primary-Endless c n = search (endlessness, with_calling-Endless, headed-Endless, cored-Endless, word_list-Endless, static_cast-Endless, simple_primary-Endless) depth 13

  call-Endless : (c : Context) (e : Numbered ExprTree) → Endless (call b c e)
  unfolding call
  call-Endless c e = search (endlessness, h.called) depth 13

  member-Endless : (c : Context) (e : Numbered ExprTree) → Endless (member b c e)
  unfolding member
  member-Endless c e = search (endlessness, h.tail) depth 13

  step-Endless : (c : Context) (e : Numbered ExprTree) → Endless (step b c e)
  unfolding step
  step-Endless c e = search (endlessness, h.tail) depth 13

  tail_behind-Endless : (c : Context) (e : Numbered ExprTree) → Endless (tail_behind b c e)
  unfolding tail_behind
  tail_behind-Endless c e = search (endlessness, member-Endless, step-Endless) depth 13

  pub called-Endless : (c : Context) (e : Numbered ExprTree) → Endless (called b c e)
  unfolding called
  called-Endless c e = search (endlessness, exprs_until-Endless, tail_behind-Endless) depth 13

  pub tail-Endless : (calling : Calling) (c : Context) (e : Numbered ExprTree) → Endless (tail b calling c e)
  unfolding tail
  tail-Endless NoCall c e = tail_behind-Endless c e
  tail-Endless MayCall c e = search (endlessness, call-Endless, tail_behind-Endless) depth 13
  tail-Endless MustCall c e = call-Endless c e

  postfix-Endless : (c : Context) (n : ℕ) → Endless (postfix b c n)
  unfolding postfix
  postfix-Endless c n = search (endlessness, primary-Endless, tail-Endless) depth 13

  prefixed-Endless : (c : Context) (n : ℕ) → Endless (prefixed b c n)
  unfolding prefixed
  prefixed-Endless c n = search (endlessness, h.unary) depth 13

  pub unary-Endless : (c : Context) (n : ℕ) → Endless (unary b c n)
  unfolding unary
  unary-Endless c n = search (endlessness, prefixed-Endless, postfix-Endless) depth 13

  binary_chain-Endless : (level : ℕ) (c : Context) (e : Numbered ExprTree) → Endless (binary_chain b level c e)
  unfolding binary_chain
  binary_chain-Endless level c e = search (endlessness, operator-Endless, h.operand, h.binary_rest) depth 13

  pub binary_rest-Endless : (level : ℕ) (c : Context) (e : Numbered ExprTree) → Endless (binary_rest b level c e)
  unfolding binary_rest
  binary_rest-Endless level c e = search (endlessness, binary_chain-Endless) depth 13

  pub rests-Endless : (level : ℕ) (c : Context) (e : Numbered ExprTree) → Endless (rests b level c e)
  unfolding rests
  rests-Endless zero c e = give-Endless e
  rests-Endless (suc level) c e = then-Endless (rests-Endless level c e) (λ left. binary_rest-Endless level c left)

  pub operand-Endless : (level : ℕ) (c : Context) (n : ℕ) → Endless (operand b level c n)
  unfolding operand
  operand-Endless level c n = search (endlessness, unary-Endless, rests-Endless) depth 13

  conditional-Endless : (c : Context) (e : Numbered ExprTree) → Endless (conditional b c e)
  unfolding conditional
  conditional-Endless c e = search (endlessness, h.expr) depth 13

  assignment-Endless : (c : Context) (e : Numbered ExprTree) → Endless (assignment b c e)
  unfolding assignment
  assignment-Endless c e = search (endlessness, h.expr) depth 13

  pub expr_behind-Endless : (c : Context) (e : Numbered ExprTree) → Endless (expr_behind b c e)
  unfolding expr_behind
  expr_behind-Endless c e = search (endlessness, rests-Endless, conditional-Endless, assignment-Endless) depth 13

  pub expr-Endless : (c : Context) (n : ℕ) → Endless (expr b c n)
  unfolding expr
  expr-Endless c n = search (endlessness, unary-Endless, expr_behind-Endless) depth 13

  argument_of-Endless : (c : Context) (p : Numbered ExprTree) → Endless (argument_of b c p)
  unfolding argument_of
  argument_of-Endless c p = search (endlessness, tail-Endless, expr_behind-Endless) depth 13

  core_argument-Endless : (c : Context) (k : Numbered (Placed CoreTree)) → Endless (core_argument b c k)
  unfolding core_argument
  core_argument-Endless c k = search (endlessness, behind_core-Endless, argument_of-Endless, argument_type-Endless) depth 13

  head_argument-Endless : (c : Context) (k : Numbered (Placed CoreTree)) → Endless (head_argument b c k)
  unfolding head_argument
  head_argument-Endless c k = search (endlessness, behind_head-Endless, argument_of-Endless, argument_type-Endless) depth 13

  word_argument-Endless : (c : Context) (n : ℕ) → Endless (word_argument b c n)
  unfolding word_argument
  word_argument-Endless c n = search (endlessness, behind_core-Endless, argument_of-Endless, scalar_behind-Endless, argument_type-Endless) depth 13

  core_type_argument-Endless : (c : Context) (n : ℕ) → Endless (core_type_argument b c n)
  unfolding core_type_argument
  core_type_argument-Endless c n = search (endlessness, h.core, argument_type-Endless) depth 13

  pub argument-Endless : (c : Context) (n : ℕ) → Endless (argument b c n)
  unfolding argument
  argument-Endless c n = search (endlessness, const_type-Endless, h.core, head_argument-Endless, core_argument-Endless, word_argument-Endless, core_type_argument-Endless, expr-Endless) depth 13

  pub clause_primary-Endless : (c : Context) (n : ℕ) → Endless (clause_primary b c n)
  unfolding clause_primary
  clause_primary-Endless c n = search (endlessness, h.core, qualified-Endless, simple_primary-Endless, uncalled-Endless) depth 13

  pub and_rest-Endless : (c : Context) (e : Numbered ExprTree) → Endless (and_rest b c e)
  unfolding and_rest
  and_rest-Endless c e = search (endlessness, h.clause_primary, h.and_rest) depth 13

  pub conjunction-Endless : (c : Context) (n : ℕ) → Endless (conjunction b c n)
  unfolding conjunction
  conjunction-Endless c n = search (endlessness, clause_primary-Endless, and_rest-Endless) depth 13

  pub or_rest-Endless : (c : Context) (e : Numbered ExprTree) → Endless (or_rest b c e)
  unfolding or_rest
  or_rest-Endless c e = search (endlessness, h.conjunction, h.or_rest) depth 13

  pub clause-Endless : (c : Context) (n : ℕ) → Endless (clause b c n)
  unfolding clause
  clause-Endless c n = search (endlessness, conjunction-Endless, or_rest-Endless) depth 13

pub levels-Endless : (requires : Bool) (n : ℕ) → BelowEndless (levels requires n)
unfolding levels
levels-Endless requires zero = record {
  expr = λ c n. closed-Endless;
  unary = λ c n. closed-Endless;
  binary_rest = λ level c e. closed-Endless;
  operand = λ level c n. closed-Endless;
  tail = λ calling c e. closed-Endless;
  called = λ c e. closed-Endless;
  type = λ c n. closed-Endless;
  core = λ c n. closed-Endless;
  argument = λ c n. closed-Endless;
  clause_primary = λ c n. closed-Endless;
  and_rest = λ c e. closed-Endless;
  conjunction = λ c n. closed-Endless;
  or_rest = λ c e. closed-Endless;
}
levels-Endless requires (suc n) = record {
  expr = expr-Endless (levels-Endless requires n);
  unary = unary-Endless (levels-Endless requires n);
  binary_rest = binary_rest-Endless (levels-Endless requires n);
  operand = operand-Endless (levels-Endless requires n);
  tail = tail-Endless (levels-Endless requires n);
  called = called-Endless (levels-Endless requires n);
  type = type_id-Endless (levels-Endless requires n);
  core = core-Endless (levels-Endless requires n);
  argument = argument-Endless (levels-Endless requires n);
  clause_primary = clause_primary-Endless (levels-Endless requires n);
  and_rest = and_rest-Endless (levels-Endless requires n);
  conjunction = conjunction-Endless (levels-Endless requires n);
  or_rest = or_rest-Endless (levels-Endless requires n);
}
