-- The laws of the productions of expressions, template arguments and clauses.
use Rattle.std.proofs.Common.{ℕ, zero, suc, Bool, List, refl}
use Rattle.cx_base.specs.declared.place.Place.{Place}
use Rattle.cx_tree.specs.Trees.{ExprTree, TypeTree, CoreTree}
use Rattle.cx_grammar.specs.Production.{Production}
use Rattle.cx_grammar.specs.Names.{Context}
use Rattle.cx_grammar.specs.Types.{Numbered, Placed, Calling, NoCall, MayCall, MustCall, Below}
use Rattle.cx_grammar.specs.Expressions.{more_expr, some_exprs, exprs_until, literal, truth, group, static_cast, is_same, out, list, qualified, behind_head, behind_core, headed, cored, word_list, name_alone, named, with_calling, worded, simple_primary, primary, call, called, member, step, tail_behind, tail, postfix, prefixed, unary, operator, binary_chain, binary_rest, rests, operand, conditional, assignment, expr_behind, expr, argument_of, argument_type, core_argument, head_argument, word_argument, core_type_argument, argument, uncalled, clause_primary, and_rest, conjunction, or_rest, clause, above, nothing_below, levels}
use Rattle.cx_grammar.proofs.Lawful.{Grows}
use Rattle.cx_grammar.proofs.Combinators.{Steps, token-Steps, turns-Grows, give-Grows, then-Grows, closed-Lawful, closed-Grows, same-Grows}
use Rattle.cx_grammar.proofs.Requires.{maybe_requires-Grows}
use Rattle.cx_grammar.proofs.Types.{BelowGrows, growing, argument_list-Grows, qualified_names-Grows, type_behind-Grows, scalar_behind-Grows, const_type-Grows, type_id-Grows, core-Grows}

pub literal-Grows : {requires : Bool} (c : Context) (n : ℕ) → Grows requires (literal c n) (literal c n)
unfolding literal
literal-Grows c n = search growing

pub truth-Grows : {requires : Bool} (value : Bool) (text : List ℕ) (c : Context) (n : ℕ) → Grows requires (truth value text c n) (truth value text c n)
unfolding truth
truth-Grows value text c n = search growing

pub qualified-Grows : {requires : Bool} (c : Context) (head : Numbered TypeTree) (at : Place) → Grows requires (qualified c head at) (qualified c head at)
unfolding qualified
qualified-Grows c head at = search (growing, qualified_names-Grows)

pub name_alone-Grows : {requires : Bool} (c : Context) (n : ℕ) → Grows requires (name_alone c n) (name_alone c n)
unfolding name_alone
name_alone-Grows c n = search growing

pub with_calling-Grows : {requires : Bool} (calling : Calling) {p q : Production (Numbered ExprTree)} → Grows requires p q → Grows requires (with_calling calling p) (with_calling calling q)
with_calling-Grows calling h = search growing

pub operator-Grows : {requires : Bool} (level : ℕ) (c : Context) → Grows requires (operator level c) (operator level c)
unfolding operator
operator-Grows level c = search growing

pub argument_type-Grows : {requires : Bool} (c : Context) (k : Numbered (Placed CoreTree)) → Grows requires (argument_type c k) (argument_type c k)
unfolding argument_type
argument_type-Grows c k = search (growing, type_behind-Grows)

pub uncalled-Grows : {requires : Bool} (c : Context) (p : Numbered ExprTree × Calling) → Grows requires (uncalled c p) (uncalled c p)
unfolding uncalled
uncalled-Grows c (e, NoCall) = search growing
uncalled-Grows c (e, MayCall) = search growing
uncalled-Grows c (e, MustCall) = search growing

module _ {requires : Bool} {b d : Below} (h : BelowGrows requires b d) where
  pub more_expr-Steps : (c : Context) (so_far : Numbered (List ExprTree)) → Steps requires (more_expr b c so_far) (more_expr d c so_far)
  unfolding more_expr
  more_expr-Steps c so_far = search (growing, token-Steps, h.expr)

  some_exprs-Grows : (c : Context) (n : ℕ) → Grows requires (some_exprs b c n) (some_exprs d c n)
  unfolding some_exprs
  some_exprs-Grows c n = search (growing, turns-Grows, more_expr-Steps, h.expr)

  pub exprs_until-Grows : (closing : List ℕ) (c : Context) (n : ℕ) → Grows requires (exprs_until closing b c n) (exprs_until closing d c n)
  unfolding exprs_until
  exprs_until-Grows closing c n = search (growing, some_exprs-Grows)

  group-Grows : (c : Context) (n : ℕ) → Grows requires (group b c n) (group d c n)
  unfolding group
  group-Grows c n = search (growing, h.expr)

  static_cast-Grows : (c : Context) (n : ℕ) → Grows requires (static_cast b c n) (static_cast d c n)
  unfolding static_cast
  static_cast-Grows c n = search (growing, h.expr, h.type) depth 9

  is_same-Grows : (c : Context) (n : ℕ) → Grows requires (is_same b c n) (is_same d c n)
  unfolding is_same
  is_same-Grows c n = search (growing, h.type) depth 9

  out-Grows : (c : Context) (n : ℕ) → Grows requires (out b c n) (out d c n)
  unfolding out
  out-Grows c n = search (growing, h.expr)

  list-Grows : (c : Context) (of : Numbered TypeTree) (at : Place) → Grows requires (list b c of at) (list d c of at)
  unfolding list
  list-Grows c of at = search (growing, exprs_until-Grows)

  pub behind_head-Grows : (c : Context) (k : Numbered (Placed CoreTree)) → Grows requires (behind_head b c k) (behind_head d c k)
  unfolding behind_head
  behind_head-Grows c k = search (growing, list-Grows, qualified-Grows)

  pub behind_core-Grows : (c : Context) (k : Numbered (Placed CoreTree)) → Grows requires (behind_core b c k) (behind_core d c k)
  unfolding behind_core
  behind_core-Grows c k = search (list-Grows)

  headed-Grows : (c : Context) (n : ℕ) → Grows requires (headed b c n) (headed d c n)
  unfolding headed
  headed-Grows c n = search (growing, h.core, behind_head-Grows)

  cored-Grows : (c : Context) (n : ℕ) → Grows requires (cored b c n) (cored d c n)
  unfolding cored
  cored-Grows c n = search (growing, h.core, behind_core-Grows)

  word_list-Grows : (c : Context) (n : ℕ) → Grows requires (word_list b c n) (word_list d c n)
  unfolding word_list
  word_list-Grows c n = search (growing, behind_core-Grows)

  named-Grows : (calling : Calling) (c : Context) (n : ℕ) → Grows requires (named calling b c n) (named calling d c n)
  unfolding named
  named-Grows calling c n = search (growing, argument_list-Grows)

  pub worded-Grows : (c : Context) (n : ℕ) → Grows requires (worded b c n) (worded d c n)
  unfolding worded
  worded-Grows c n = search (growing, maybe_requires-Grows, with_calling-Grows, truth-Grows, is_same-Grows, out-Grows, group-Grows) depth 10

  pub simple_primary-Grows : (c : Context) (n : ℕ) → Grows requires (simple_primary b c n) (simple_primary d c n)
  unfolding simple_primary
  simple_primary-Grows c n = search (growing, with_calling-Grows, literal-Grows, named-Grows, name_alone-Grows, worded-Grows) depth 8

  primary-Grows : (c : Context) (n : ℕ) → Grows requires (primary b c n) (primary d c n)
  unfolding primary
  primary-Grows c n = search (growing, with_calling-Grows, headed-Grows, cored-Grows, word_list-Grows, static_cast-Grows, simple_primary-Grows) depth 8

  call-Grows : (c : Context) (e : Numbered ExprTree) → Grows requires (call b c e) (call d c e)
  unfolding call
  call-Grows c e = search (growing, h.called)

  member-Grows : (c : Context) (e : Numbered ExprTree) → Grows requires (member b c e) (member d c e)
  unfolding member
  member-Grows c e = search (growing, h.tail)

  step-Grows : (c : Context) (e : Numbered ExprTree) → Grows requires (step b c e) (step d c e)
  unfolding step
  step-Grows c e = search (growing, h.tail)

  tail_behind-Grows : (c : Context) (e : Numbered ExprTree) → Grows requires (tail_behind b c e) (tail_behind d c e)
  unfolding tail_behind
  tail_behind-Grows c e = search (growing, member-Grows, step-Grows)

  pub called-Grows : (c : Context) (e : Numbered ExprTree) → Grows requires (called b c e) (called d c e)
  unfolding called
  called-Grows c e = search (growing, exprs_until-Grows, tail_behind-Grows)

  pub tail-Grows : (calling : Calling) (c : Context) (e : Numbered ExprTree) → Grows requires (tail b calling c e) (tail d calling c e)
  unfolding tail
  tail-Grows NoCall c e = tail_behind-Grows c e
  tail-Grows MayCall c e = search (growing, call-Grows, tail_behind-Grows)
  tail-Grows MustCall c e = call-Grows c e

  postfix-Grows : (c : Context) (n : ℕ) → Grows requires (postfix b c n) (postfix d c n)
  unfolding postfix
  postfix-Grows c n = search (growing, primary-Grows, tail-Grows)

  prefixed-Grows : (c : Context) (n : ℕ) → Grows requires (prefixed b c n) (prefixed d c n)
  unfolding prefixed
  prefixed-Grows c n = search (growing, h.unary)

  pub unary-Grows : (c : Context) (n : ℕ) → Grows requires (unary b c n) (unary d c n)
  unfolding unary
  unary-Grows c n = search (growing, prefixed-Grows, postfix-Grows)

  binary_chain-Grows : (level : ℕ) (c : Context) (e : Numbered ExprTree) → Grows requires (binary_chain b level c e) (binary_chain d level c e)
  unfolding binary_chain
  binary_chain-Grows level c e = search (growing, operator-Grows, h.operand, h.binary_rest)

  pub binary_rest-Grows : (level : ℕ) (c : Context) (e : Numbered ExprTree) → Grows requires (binary_rest b level c e) (binary_rest d level c e)
  unfolding binary_rest
  binary_rest-Grows level c e = search (growing, binary_chain-Grows)

  pub rests-Grows : (level : ℕ) (c : Context) (e : Numbered ExprTree) → Grows requires (rests b level c e) (rests d level c e)
  unfolding rests
  rests-Grows zero c e = give-Grows e
  rests-Grows (suc level) c e = then-Grows (rests-Grows level c e) (λ left. binary_rest-Grows level c left)

  pub operand-Grows : (level : ℕ) (c : Context) (n : ℕ) → Grows requires (operand b level c n) (operand d level c n)
  unfolding operand
  operand-Grows level c n = search (growing, unary-Grows, rests-Grows)

  conditional-Grows : (c : Context) (e : Numbered ExprTree) → Grows requires (conditional b c e) (conditional d c e)
  unfolding conditional
  conditional-Grows c e = search (growing, h.expr)

  assignment-Grows : (c : Context) (e : Numbered ExprTree) → Grows requires (assignment b c e) (assignment d c e)
  unfolding assignment
  assignment-Grows c e = search (growing, h.expr)

  pub expr_behind-Grows : (c : Context) (e : Numbered ExprTree) → Grows requires (expr_behind b c e) (expr_behind d c e)
  unfolding expr_behind
  expr_behind-Grows c e = search (growing, rests-Grows, conditional-Grows, assignment-Grows)

  pub expr-Grows : (c : Context) (n : ℕ) → Grows requires (expr b c n) (expr d c n)
  unfolding expr
  expr-Grows c n = search (growing, unary-Grows, expr_behind-Grows)

  argument_of-Grows : (c : Context) (p : Numbered ExprTree) → Grows requires (argument_of b c p) (argument_of d c p)
  unfolding argument_of
  argument_of-Grows c p = search (growing, tail-Grows, expr_behind-Grows)

  core_argument-Grows : (c : Context) (k : Numbered (Placed CoreTree)) → Grows requires (core_argument b c k) (core_argument d c k)
  unfolding core_argument
  core_argument-Grows c k = search (growing, behind_core-Grows, argument_of-Grows, argument_type-Grows)

  head_argument-Grows : (c : Context) (k : Numbered (Placed CoreTree)) → Grows requires (head_argument b c k) (head_argument d c k)
  unfolding head_argument
  head_argument-Grows c k = search (growing, behind_head-Grows, argument_of-Grows, argument_type-Grows)

  word_argument-Grows : (c : Context) (n : ℕ) → Grows requires (word_argument b c n) (word_argument d c n)
  unfolding word_argument
  word_argument-Grows c n = search (growing, behind_core-Grows, argument_of-Grows, scalar_behind-Grows, argument_type-Grows)

  core_type_argument-Grows : (c : Context) (n : ℕ) → Grows requires (core_type_argument b c n) (core_type_argument d c n)
  unfolding core_type_argument
  core_type_argument-Grows c n = search (growing, h.core, argument_type-Grows)

  pub argument-Grows : (c : Context) (n : ℕ) → Grows requires (argument b c n) (argument d c n)
  unfolding argument
  argument-Grows c n = search (growing, const_type-Grows, h.core, head_argument-Grows, core_argument-Grows, word_argument-Grows, core_type_argument-Grows, expr-Grows) depth 9

  pub clause_primary-Grows : (c : Context) (n : ℕ) → Grows requires (clause_primary b c n) (clause_primary d c n)
  unfolding clause_primary
  clause_primary-Grows c n = search (growing, h.core, qualified-Grows, simple_primary-Grows, uncalled-Grows)

  pub and_rest-Grows : (c : Context) (e : Numbered ExprTree) → Grows requires (and_rest b c e) (and_rest d c e)
  unfolding and_rest
  and_rest-Grows c e = search (growing, h.clause_primary, h.and_rest)

  pub conjunction-Grows : (c : Context) (n : ℕ) → Grows requires (conjunction b c n) (conjunction d c n)
  unfolding conjunction
  conjunction-Grows c n = search (growing, clause_primary-Grows, and_rest-Grows)

  pub or_rest-Grows : (c : Context) (e : Numbered ExprTree) → Grows requires (or_rest b c e) (or_rest d c e)
  unfolding or_rest
  or_rest-Grows c e = search (growing, h.conjunction, h.or_rest)

  pub clause-Grows : (c : Context) (n : ℕ) → Grows requires (clause b c n) (clause d c n)
  unfolding clause
  clause-Grows c n = search (growing, conjunction-Grows, or_rest-Grows)

  pub above-Grows : BelowGrows requires (above b) (above d)
  above-Grows = record {
    low_reads = h.low_reads;
    high_reads = h.high_reads;
    expr = expr-Grows;
    unary = unary-Grows;
    binary_rest = binary_rest-Grows;
    operand = operand-Grows;
    tail = tail-Grows;
    called = called-Grows;
    type = type_id-Grows h;
    core = core-Grows h;
    argument = argument-Grows;
    clause_primary = clause_primary-Grows;
    and_rest = and_rest-Grows;
    conjunction = conjunction-Grows;
    or_rest = or_rest-Grows;
  }

pub nothing-Grows : {requires : Bool} → BelowGrows requires (nothing_below requires) (nothing_below requires)
nothing-Grows = record {
  low_reads = refl;
  high_reads = refl;
  expr = λ c n. same-Grows closed-Lawful;
  unary = λ c n. same-Grows closed-Lawful;
  binary_rest = λ level c e. same-Grows closed-Lawful;
  operand = λ level c n. same-Grows closed-Lawful;
  tail = λ calling c e. same-Grows closed-Lawful;
  called = λ c e. same-Grows closed-Lawful;
  type = λ c n. same-Grows closed-Lawful;
  core = λ c n. same-Grows closed-Lawful;
  argument = λ c n. same-Grows closed-Lawful;
  clause_primary = λ c n. same-Grows closed-Lawful;
  and_rest = λ c e. same-Grows closed-Lawful;
  conjunction = λ c n. same-Grows closed-Lawful;
  or_rest = λ c e. same-Grows closed-Lawful;
}

closed_below : {requires : Bool} (b d : Below) → BelowGrows requires b d → BelowGrows requires (nothing_below requires) b
closed_below b d h = record {
  low_reads = refl;
  high_reads = h.low_reads;
  expr = λ c n. closed-Grows (h.expr c n).low;
  unary = λ c n. closed-Grows (h.unary c n).low;
  binary_rest = λ level c e. closed-Grows (h.binary_rest level c e).low;
  operand = λ level c n. closed-Grows (h.operand level c n).low;
  tail = λ calling c e. closed-Grows (h.tail calling c e).low;
  called = λ c e. closed-Grows (h.called c e).low;
  type = λ c n. closed-Grows (h.type c n).low;
  core = λ c n. closed-Grows (h.core c n).low;
  argument = λ c n. closed-Grows (h.argument c n).low;
  clause_primary = λ c n. closed-Grows (h.clause_primary c n).low;
  and_rest = λ c e. closed-Grows (h.and_rest c e).low;
  conjunction = λ c n. closed-Grows (h.conjunction c n).low;
  or_rest = λ c e. closed-Grows (h.or_rest c e).low;
}

-- each level grows into the next one
pub levels-Grows : {requires : Bool} (n : ℕ) → BelowGrows requires (levels requires n) (levels requires (suc n))
unfolding levels
levels-Grows {requires} zero = closed_below (above (nothing_below requires)) (above (nothing_below requires)) (above-Grows nothing-Grows)
levels-Grows (suc n) = above-Grows (levels-Grows n)
