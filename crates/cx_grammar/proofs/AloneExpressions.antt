-- Expressions are trees too where nothing stands behind them.
use Rattle.std.proofs.Common.{ℕ, zero, suc, Bool, List, codes, refl}
use Rattle.cx_base.specs.declared.place.Place.{Place}
use Rattle.cx_tree.specs.Trees.{ExprTree, TypeTree, CoreTree}
use Rattle.cx_grammar.specs.Production.{Production}
use Rattle.cx_grammar.specs.Words.{punct}
use Rattle.cx_grammar.specs.Names.{Context}
use Rattle.cx_grammar.specs.Types.{Numbered, Placed, Calling, NoCall, MayCall, MustCall, Below}
use Rattle.cx_grammar.specs.Expressions.{more_expr, some_exprs, exprs_until, literal, truth, group, static_cast, is_same, out, list, qualified, behind_head, behind_core, headed, cored, word_list, name_alone, named, with_calling, worded, simple_primary, primary, call, called, member, step, tail_behind, tail, postfix, prefixed, unary, operator, is_operator, is_assignment, is_step, goes_on, binary_chain, binary_rest, rests, operand, conditional, assignment, expr_behind, expr, argument_of, argument_type, core_argument, head_argument, word_argument, core_type_argument, argument, uncalled, clause_primary, and_rest, conjunction, or_rest, clause, above, nothing_below, levels}
use Rattle.cx_grammar.proofs.Lawful.{Lawful}
use Rattle.cx_grammar.proofs.Combinators.{give-Lawful, when-Lawful}
use Rattle.cx_grammar.proofs.Alone.{Alone, Filled, Opens, Turn, token-Turn, give-Alone, then-Alone, before-Alone, filled-Alone, either-Opens, repeat-Alone, closed-Alone, when-Filled, closed-Filled}
use Rattle.cx_grammar.proofs.AloneRequires.{maybe_requires-Alone, maybe_requires-Filled}
use Rattle.cx_grammar.proofs.AloneTypes.{BelowAlone, aloneness, argument_list-Alone, argument_list-Filled, argument_list-Opens, qualified_names-Alone, qualified_names-Opens, qualified_names-Filled, type_behind-Alone, scalar_behind-Alone, const_type-Alone, const_type-Filled, type_id-Alone, core-Alone, core-Filled}

literal-Alone : {requires : Bool} (c : Context) (n : ℕ) → Alone requires (literal c n)
unfolding literal
literal-Alone c n = search aloneness

pub literal-Filled : (c : Context) (n : ℕ) → Filled (literal c n)
unfolding literal
literal-Filled c n = search aloneness

truth-Alone : {requires : Bool} (value : Bool) (text : List ℕ) (c : Context) (n : ℕ) → Alone requires (truth value text c n)
unfolding truth
truth-Alone value text c n = search aloneness

pub truth-Filled : (value : Bool) (text : List ℕ) (c : Context) (n : ℕ) → Filled (truth value text c n)
unfolding truth
truth-Filled value text c n = search aloneness

name_alone-Alone : {requires : Bool} (c : Context) (n : ℕ) → Alone requires (name_alone c n)
unfolding name_alone
name_alone-Alone c n = search aloneness

pub name_alone-Filled : (c : Context) (n : ℕ) → Filled (name_alone c n)
unfolding name_alone
name_alone-Filled c n = search aloneness

qualified-Alone : {requires : Bool} (c : Context) (head : Numbered TypeTree) (at : Place) → Alone requires (qualified c head at)
unfolding qualified
qualified-Alone c head at = search (aloneness, qualified_names-Alone)

pub qualified-Filled : (c : Context) (head : Numbered TypeTree) (at : Place) → Filled (qualified c head at)
unfolding qualified
qualified-Filled c head at = search (aloneness, qualified_names-Filled)

qualified-Opens : (c : Context) (head : Numbered TypeTree) (at : Place) → Opens (punct (codes "::")) (qualified c head at)
unfolding qualified
qualified-Opens c head at = search (aloneness, qualified_names-Opens)

with_calling-Alone : {requires : Bool} (calling : Calling) {p : Production (Numbered ExprTree)} → Alone requires p → Alone requires (with_calling calling p)
with_calling-Alone calling h = search aloneness

pub with_calling-Filled : (calling : Calling) {p : Production (Numbered ExprTree)} → Filled p → Filled (with_calling calling p)
with_calling-Filled calling h = search aloneness

operator-Alone : {requires : Bool} (level : ℕ) (c : Context) → Alone requires (operator level c)
unfolding operator
operator-Alone level c = search aloneness

pub operator-Filled : (level : ℕ) (c : Context) → Filled (operator level c)
unfolding operator
operator-Filled level c = search aloneness

operator-Opens : (level : ℕ) (c : Context) → Opens (is_operator level c.angle) (operator level c)
unfolding operator
operator-Opens level c = search aloneness

argument_type-Alone : {requires : Bool} (c : Context) (k : Numbered (Placed CoreTree)) → Alone requires (argument_type c k)
unfolding argument_type
argument_type-Alone c k = search (aloneness, type_behind-Alone)

uncalled-Alone : {requires : Bool} (c : Context) (p : Numbered ExprTree × Calling) → Alone requires (uncalled c p)
unfolding uncalled
uncalled-Alone c (e, NoCall) = search aloneness
uncalled-Alone c (e, MayCall) = search aloneness
uncalled-Alone c (e, MustCall) = search aloneness

module _ {requires : Bool} {b : Below} (h : BelowAlone requires b) where
  more_expr-Turn : (c : Context) (so_far : Numbered (List ExprTree)) → Turn requires (punct (codes ",")) (more_expr b c so_far)
  unfolding more_expr
  more_expr-Turn c so_far = search (token-Turn, aloneness, h.expr)

  some_exprs-Alone : (c : Context) (n : ℕ) → Alone requires (some_exprs b c n)
  unfolding some_exprs
  some_exprs-Alone c n = search (aloneness, repeat-Alone, more_expr-Turn, h.expr)

  pub exprs_until-Lawful : (closing : List ℕ) (c : Context) (n : ℕ) → Lawful requires (exprs_until closing b c n)
  unfolding exprs_until
  exprs_until-Lawful closing c n = when-Lawful (punct closing) (give-Lawful _) (some_exprs-Alone c n).lawful

  group-Alone : (c : Context) (n : ℕ) → Alone requires (group b c n)
  unfolding group
  group-Alone c n = search (aloneness, h.expr) depth 10

  pub group-Filled : (c : Context) (n : ℕ) → Filled (group b c n)
  unfolding group
  group-Filled c n = search aloneness

  static_cast-Alone : (c : Context) (n : ℕ) → Alone requires (static_cast b c n)
  unfolding static_cast
  static_cast-Alone c n = search (aloneness, h.expr, h.type) depth 10

  pub static_cast-Filled : (c : Context) (n : ℕ) → Filled (static_cast b c n)
  unfolding static_cast
  static_cast-Filled c n = search aloneness

  is_same-Alone : (c : Context) (n : ℕ) → Alone requires (is_same b c n)
  unfolding is_same
  is_same-Alone c n = search (aloneness, h.type) depth 10

  pub is_same-Filled : (c : Context) (n : ℕ) → Filled (is_same b c n)
  unfolding is_same
  is_same-Filled c n = search aloneness

  out-Alone : (c : Context) (n : ℕ) → Alone requires (out b c n)
  unfolding out
  out-Alone c n = search (aloneness, h.expr) depth 10

  pub out-Filled : (c : Context) (n : ℕ) → Filled (out b c n)
  unfolding out
  out-Filled c n = search aloneness

  list-Alone : (c : Context) (of : Numbered TypeTree) (at : Place) → Alone requires (list b c of at)
  unfolding list
  list-Alone c of at = search (aloneness, before-Alone, exprs_until-Lawful) depth 7

  pub list-Filled : (c : Context) (of : Numbered TypeTree) (at : Place) → Filled (list b c of at)
  unfolding list
  list-Filled c of at = search aloneness

  list-Opens : (c : Context) (of : Numbered TypeTree) (at : Place) → Opens (punct (codes "{")) (list b c of at)
  unfolding list
  list-Opens c of at = search aloneness

  pub behind_head-Alone : (c : Context) (k : Numbered (Placed CoreTree)) → Alone requires (behind_head b c k)
  unfolding behind_head
  behind_head-Alone c k = search (aloneness, list-Alone, list-Filled, qualified-Alone, qualified-Filled)

  pub behind_head-Filled : (c : Context) (k : Numbered (Placed CoreTree)) → Filled (behind_head b c k)
  unfolding behind_head
  behind_head-Filled c k = search (aloneness, list-Filled, qualified-Filled)

  pub behind_core-Alone : (c : Context) (k : Numbered (Placed CoreTree)) → Alone requires (behind_core b c k)
  unfolding behind_core
  behind_core-Alone c k = search (aloneness, list-Alone)

  pub behind_core-Filled : (c : Context) (k : Numbered (Placed CoreTree)) → Filled (behind_core b c k)
  unfolding behind_core
  behind_core-Filled c k = search (aloneness, list-Filled)

  behind_core-Opens : (c : Context) (k : Numbered (Placed CoreTree)) → Opens (punct (codes "{")) (behind_core b c k)
  unfolding behind_core
  behind_core-Opens c k = search (aloneness, list-Opens)

  headed-Alone : (c : Context) (n : ℕ) → Alone requires (headed b c n)
  unfolding headed
  headed-Alone c n = search (aloneness, h.core, behind_head-Alone)

  pub headed-Filled : (c : Context) (n : ℕ) → Filled (headed b c n)
  unfolding headed
  headed-Filled c n = search (aloneness, h.some_core)

  cored-Alone : (c : Context) (n : ℕ) → Alone requires (cored b c n)
  unfolding cored
  cored-Alone c n = search (aloneness, h.core, behind_core-Alone)

  pub cored-Filled : (c : Context) (n : ℕ) → Filled (cored b c n)
  unfolding cored
  cored-Filled c n = search (aloneness, h.some_core)

  word_list-Alone : (c : Context) (n : ℕ) → Alone requires (word_list b c n)
  unfolding word_list
  word_list-Alone c n = search (aloneness, behind_core-Alone)

  pub word_list-Filled : (c : Context) (n : ℕ) → Filled (word_list b c n)
  unfolding word_list
  word_list-Filled c n = search aloneness

  named-Alone : (calling : Calling) (c : Context) (n : ℕ) → Alone requires (named calling b c n)
  unfolding named
  named-Alone calling c n = search (aloneness, argument_list-Alone, argument_list-Filled, argument_list-Opens)

  pub named-Filled : (calling : Calling) (c : Context) (n : ℕ) → Filled (named calling b c n)
  unfolding named
  named-Filled calling c n = search aloneness

  pub worded-Filled : (c : Context) (n : ℕ) → Filled (worded b c n)
  unfolding worded
  worded-Filled c n = search (aloneness, with_calling-Filled, maybe_requires-Filled, truth-Filled, is_same-Filled, out-Filled, group-Filled) depth 10

  worded-Alone : (c : Context) (n : ℕ) → Alone requires (worded b c n)
  unfolding worded
  worded-Alone c n = search (filled-Alone, when-Filled, maybe_requires-Alone, maybe_requires-Filled, with_calling-Alone, with_calling-Filled, truth-Alone, is_same-Alone, out-Alone, group-Alone, truth-Filled, is_same-Filled, out-Filled, group-Filled) depth 10

  pub simple_primary-Filled : (c : Context) (n : ℕ) → Filled (simple_primary b c n)
  unfolding simple_primary
  simple_primary-Filled c n = search (aloneness, with_calling-Filled, literal-Filled, named-Filled, name_alone-Filled, worded-Filled) depth 8

  simple_primary-Alone : (c : Context) (n : ℕ) → Alone requires (simple_primary b c n)
  unfolding simple_primary
  simple_primary-Alone c n = search (filled-Alone, when-Filled, with_calling-Alone, with_calling-Filled, literal-Alone, named-Alone, name_alone-Alone, worded-Alone, literal-Filled, named-Filled, name_alone-Filled, worded-Filled) depth 8

  pub primary-Filled : (c : Context) (n : ℕ) → Filled (primary b c n)
  unfolding primary
  primary-Filled c n = search (aloneness, with_calling-Filled, headed-Filled, cored-Filled, word_list-Filled, static_cast-Filled, simple_primary-Filled) depth 9

  primary-Alone : (c : Context) (n : ℕ) → Alone requires (primary b c n)
  unfolding primary
  primary-Alone c n = search (aloneness, with_calling-Alone, headed-Alone, cored-Alone, word_list-Alone, static_cast-Alone, simple_primary-Alone, headed-Filled, cored-Filled, word_list-Filled, static_cast-Filled, simple_primary-Filled) depth 9

  call-Alone : (c : Context) (e : Numbered ExprTree) → Alone requires (call b c e)
  unfolding call
  call-Alone c e = search (aloneness, h.called)

  call-Filled : (c : Context) (e : Numbered ExprTree) → Filled (call b c e)
  unfolding call
  call-Filled c e = search aloneness

  call-Opens : (c : Context) (e : Numbered ExprTree) → Opens (punct (codes "(")) (call b c e)
  unfolding call
  call-Opens c e = search aloneness

  member-Alone : (c : Context) (e : Numbered ExprTree) → Alone requires (member b c e)
  unfolding member
  member-Alone c e = search (aloneness, h.tail)

  pub member-Filled : (c : Context) (e : Numbered ExprTree) → Filled (member b c e)
  unfolding member
  member-Filled c e = search aloneness

  member-Opens : (c : Context) (e : Numbered ExprTree) → Opens (punct (codes ".")) (member b c e)
  unfolding member
  member-Opens c e = search aloneness

  step-Alone : (c : Context) (e : Numbered ExprTree) → Alone requires (step b c e)
  unfolding step
  step-Alone c e = search (aloneness, h.tail)

  pub step-Filled : (c : Context) (e : Numbered ExprTree) → Filled (step b c e)
  unfolding step
  step-Filled c e = search aloneness

  step-Opens : (c : Context) (e : Numbered ExprTree) → Opens (is_step) (step b c e)
  unfolding step
  step-Opens c e = search aloneness

  tail_behind-Alone : (c : Context) (e : Numbered ExprTree) → Alone requires (tail_behind b c e)
  unfolding tail_behind
  tail_behind-Alone c e = search (aloneness, member-Alone, member-Filled, member-Opens, step-Alone, step-Filled, step-Opens)

  called-Alone : (c : Context) (e : Numbered ExprTree) → Alone requires (called b c e)
  unfolding called
  called-Alone c e = search (aloneness, before-Alone, exprs_until-Lawful, tail_behind-Alone)

  pub tail-Alone : (calling : Calling) (c : Context) (e : Numbered ExprTree) → Alone requires (tail b calling c e)
  unfolding tail
  tail-Alone NoCall c e = tail_behind-Alone c e
  tail-Alone MayCall c e = search (aloneness, call-Alone, call-Filled, call-Opens, tail_behind-Alone)
  tail-Alone MustCall c e = call-Alone c e

  postfix-Alone : (c : Context) (n : ℕ) → Alone requires (postfix b c n)
  unfolding postfix
  postfix-Alone c n = search (aloneness, primary-Alone, tail-Alone)

  pub postfix-Filled : (c : Context) (n : ℕ) → Filled (postfix b c n)
  unfolding postfix
  postfix-Filled c n = search (aloneness, primary-Filled)

  prefixed-Alone : (c : Context) (n : ℕ) → Alone requires (prefixed b c n)
  unfolding prefixed
  prefixed-Alone c n = search (aloneness, h.unary)

  pub prefixed-Filled : (c : Context) (n : ℕ) → Filled (prefixed b c n)
  unfolding prefixed
  prefixed-Filled c n = search aloneness

  pub unary-Alone : (c : Context) (n : ℕ) → Alone requires (unary b c n)
  unfolding unary
  unary-Alone c n = search (aloneness, prefixed-Alone, prefixed-Filled, postfix-Alone, postfix-Filled)

  pub unary-Filled : (c : Context) (n : ℕ) → Filled (unary b c n)
  unfolding unary
  unary-Filled c n = search (aloneness, prefixed-Filled, postfix-Filled)

  binary_chain-Alone : (level : ℕ) (c : Context) (e : Numbered ExprTree) → Alone requires (binary_chain b level c e)
  unfolding binary_chain
  binary_chain-Alone level c e = search (aloneness, operator-Alone, h.operand, h.binary_rest)

  pub binary_chain-Filled : (level : ℕ) (c : Context) (e : Numbered ExprTree) → Filled (binary_chain b level c e)
  unfolding binary_chain
  binary_chain-Filled level c e = search (aloneness, operator-Filled)

  binary_chain-Opens : (level : ℕ) (c : Context) (e : Numbered ExprTree) → Opens (is_operator level c.angle) (binary_chain b level c e)
  unfolding binary_chain
  binary_chain-Opens level c e = search (aloneness, operator-Opens)

  binary_rest-Alone : (level : ℕ) (c : Context) (e : Numbered ExprTree) → Alone requires (binary_rest b level c e)
  unfolding binary_rest
  binary_rest-Alone level c e = search (aloneness, binary_chain-Alone, binary_chain-Filled, binary_chain-Opens)

  pub rests-Alone : (level : ℕ) (c : Context) (e : Numbered ExprTree) → Alone requires (rests b level c e)
  unfolding rests
  rests-Alone zero c e = give-Alone e
  rests-Alone (suc level) c e = then-Alone (rests-Alone level c e) (λ left. binary_rest-Alone level c left)

  operand-Alone : (level : ℕ) (c : Context) (n : ℕ) → Alone requires (operand b level c n)
  unfolding operand
  operand-Alone level c n = search (aloneness, unary-Alone, rests-Alone)

  conditional-Alone : (c : Context) (e : Numbered ExprTree) → Alone requires (conditional b c e)
  unfolding conditional
  conditional-Alone c e = search (aloneness, h.expr) depth 7

  pub conditional-Filled : (c : Context) (e : Numbered ExprTree) → Filled (conditional b c e)
  unfolding conditional
  conditional-Filled c e = search aloneness

  conditional-Opens : (c : Context) (e : Numbered ExprTree) → Opens (punct (codes "?")) (conditional b c e)
  unfolding conditional
  conditional-Opens c e = search aloneness

  assignment-Alone : (c : Context) (e : Numbered ExprTree) → Alone requires (assignment b c e)
  unfolding assignment
  assignment-Alone c e = search (aloneness, h.expr)

  pub assignment-Filled : (c : Context) (e : Numbered ExprTree) → Filled (assignment b c e)
  unfolding assignment
  assignment-Filled c e = search aloneness

  assignment-Opens : (c : Context) (e : Numbered ExprTree) → Opens (is_assignment c.angle) (assignment b c e)
  unfolding assignment
  assignment-Opens c e = search aloneness

  pub expr_behind-Alone : (c : Context) (e : Numbered ExprTree) → Alone requires (expr_behind b c e)
  unfolding expr_behind
  expr_behind-Alone c e = search (aloneness, rests-Alone, conditional-Alone, conditional-Filled, conditional-Opens, assignment-Alone, assignment-Filled, assignment-Opens)

  pub expr-Alone : (c : Context) (n : ℕ) → Alone requires (expr b c n)
  unfolding expr
  expr-Alone c n = search (aloneness, unary-Alone, expr_behind-Alone)

  pub expr-Filled : (c : Context) (n : ℕ) → Filled (expr b c n)
  unfolding expr
  expr-Filled c n = search (aloneness, unary-Filled)

  argument_of-Alone : (c : Context) (p : Numbered ExprTree) → Alone requires (argument_of b c p)
  unfolding argument_of
  argument_of-Alone c p = search (aloneness, tail-Alone, expr_behind-Alone)

  core_argument-Alone : (c : Context) (k : Numbered (Placed CoreTree)) → Alone requires (core_argument b c k)
  unfolding core_argument
  core_argument-Alone c k = search (aloneness, behind_core-Alone, behind_core-Filled, behind_core-Opens, argument_of-Alone, argument_type-Alone)

  goes_on-Opens : (c : Context) (k : Numbered (Placed CoreTree)) → Opens goes_on (behind_head b c k)
  unfolding behind_head
  goes_on-Opens c k = either-Opens (punct (codes "{")) (punct (codes "::")) (list-Opens c _ _) (qualified-Opens c _ _)

  head_argument-Alone : (c : Context) (k : Numbered (Placed CoreTree)) → Alone requires (head_argument b c k)
  unfolding head_argument
  head_argument-Alone c k = search (aloneness, behind_head-Alone, behind_head-Filled, goes_on-Opens, argument_of-Alone, argument_type-Alone)

  word_argument-Alone : (c : Context) (n : ℕ) → Alone requires (word_argument b c n)
  unfolding word_argument
  word_argument-Alone c n = search (aloneness, behind_core-Alone, behind_core-Filled, behind_core-Opens, argument_of-Alone, scalar_behind-Alone, argument_type-Alone) depth 7

  pub word_argument-Filled : (c : Context) (n : ℕ) → Filled (word_argument b c n)
  unfolding word_argument
  word_argument-Filled c n = search aloneness

  core_type_argument-Alone : (c : Context) (n : ℕ) → Alone requires (core_type_argument b c n)
  unfolding core_type_argument
  core_type_argument-Alone c n = search (aloneness, h.core, argument_type-Alone)

  pub core_type_argument-Filled : (c : Context) (n : ℕ) → Filled (core_type_argument b c n)
  unfolding core_type_argument
  core_type_argument-Filled c n = search (aloneness, h.some_core)

  argument-Alone : (c : Context) (n : ℕ) → Alone requires (argument b c n)
  unfolding argument
  argument-Alone c n = search (aloneness, const_type-Alone, const_type-Filled, h.core, h.some_core, head_argument-Alone, core_argument-Alone, word_argument-Alone, word_argument-Filled, core_type_argument-Alone, core_type_argument-Filled, expr-Alone, expr-Filled) depth 10

  clause_primary-Alone : (c : Context) (n : ℕ) → Alone requires (clause_primary b c n)
  unfolding clause_primary
  clause_primary-Alone c n = search (aloneness, h.core, h.some_core, qualified-Alone, simple_primary-Alone, simple_primary-Filled, uncalled-Alone)

  and_rest-Alone : (c : Context) (e : Numbered ExprTree) → Alone requires (and_rest b c e)
  unfolding and_rest
  and_rest-Alone c e = search (aloneness, h.clause_primary, h.and_rest)

  conjunction-Alone : (c : Context) (n : ℕ) → Alone requires (conjunction b c n)
  unfolding conjunction
  conjunction-Alone c n = search (aloneness, clause_primary-Alone, and_rest-Alone)

  or_rest-Alone : (c : Context) (e : Numbered ExprTree) → Alone requires (or_rest b c e)
  unfolding or_rest
  or_rest-Alone c e = search (aloneness, h.conjunction, h.or_rest)

  pub clause-Alone : (c : Context) (n : ℕ) → Alone requires (clause b c n)
  unfolding clause
  clause-Alone c n = search (aloneness, conjunction-Alone, or_rest-Alone)

  above-Alone : BelowAlone requires (above b)
  above-Alone = record {
    reads = h.reads;
    expr = expr-Alone;
    unary = unary-Alone;
    binary_rest = binary_rest-Alone;
    operand = operand-Alone;
    tail = tail-Alone;
    called = called-Alone;
    type = type_id-Alone h;
    core = core-Alone h;
    argument = argument-Alone;
    clause_primary = clause_primary-Alone;
    and_rest = and_rest-Alone;
    conjunction = conjunction-Alone;
    or_rest = or_rest-Alone;
    some_core = core-Filled h;
  }

nothing-Alone : {requires : Bool} → BelowAlone requires (nothing_below requires)
nothing-Alone = record {
  reads = refl;
  expr = λ c n. closed-Alone;
  unary = λ c n. closed-Alone;
  binary_rest = λ level c e. closed-Alone;
  operand = λ level c n. closed-Alone;
  tail = λ calling c e. closed-Alone;
  called = λ c e. closed-Alone;
  type = λ c n. closed-Alone;
  core = λ c n. closed-Alone;
  argument = λ c n. closed-Alone;
  clause_primary = λ c n. closed-Alone;
  and_rest = λ c e. closed-Alone;
  conjunction = λ c n. closed-Alone;
  or_rest = λ c e. closed-Alone;
  some_core = λ c n. closed-Filled;
}

pub levels-Alone : {requires : Bool} (n : ℕ) → BelowAlone requires (levels requires n)
unfolding levels
levels-Alone zero = nothing-Alone
levels-Alone (suc n) = above-Alone (levels-Alone n)
