-- Expressions, template arguments and clauses where requires-expressions are not read are some of the language.
use Rattle.std.proofs.Common.{ℕ, zero, suc, Bool, true, false, List, refl}
use Rattle.cx_base.specs.declared.place.Place.{Place}
use Rattle.cx_tree.specs.Trees.{ExprTree, TypeTree, CoreTree}
use Rattle.cx_grammar.specs.Production.{Production}
use Rattle.cx_grammar.specs.Names.{Context}
use Rattle.cx_grammar.specs.Types.{Numbered, Placed, Calling, NoCall, MayCall, MustCall, Below}
use Rattle.cx_grammar.specs.Expressions.{more_expr, some_exprs, exprs_until, literal, truth, group, static_cast, is_same, out, list, qualified, behind_head, behind_core, headed, cored, word_list, name_alone, named, with_calling, worded, simple_primary, primary, call, called, member, step, tail_behind, tail, postfix, prefixed, unary, operator, binary_chain, binary_rest, rests, operand, conditional, assignment, expr_behind, expr, argument_of, argument_type, core_argument, head_argument, word_argument, core_type_argument, argument, uncalled, clause_primary, and_rest, conjunction, or_rest, clause, above, levels}
use Rattle.cx_grammar_laws.proofs.Included.{Included, Turns, give-Included, token-Included, then-Included, when-Included, given-Included, closed-Included, repeat-Included, token-Turns, filled-Turns}
use Rattle.cx_grammar_laws.proofs.IncludedRequires.{maybe_requires-Included}
use Rattle.cx_grammar_laws.proofs.IncludedTypes.{BelowIncluded, including, argument_list-Included, qualified_names-Included, type_behind-Included, scalar_behind-Included, const_type-Included, type_id-Included, core-Included}

pub literal-Included : (c : Context) (n : ℕ) → Included (literal c n) (literal c n)
unfolding literal
literal-Included c n = search including

pub truth-Included : (value : Bool) (text : List ℕ) (c : Context) (n : ℕ) → Included (truth value text c n) (truth value text c n)
unfolding truth
truth-Included value text c n = search including

pub qualified-Included : (c : Context) (head : Numbered TypeTree) (at : Place) → Included (qualified c head at) (qualified c head at)
unfolding qualified
qualified-Included c head at = search (including, qualified_names-Included)

pub name_alone-Included : (c : Context) (n : ℕ) → Included (name_alone c n) (name_alone c n)
unfolding name_alone
name_alone-Included c n = search including

pub with_calling-Included : (calling : Calling) {p q : Production (Numbered ExprTree)} → Included p q → Included (with_calling calling p) (with_calling calling q)
with_calling-Included calling h = search including

pub operator-Included : (level : ℕ) (c : Context) → Included (operator level c) (operator level c)
unfolding operator
operator-Included level c = search including

pub argument_type-Included : (c : Context) (k : Numbered (Placed CoreTree)) → Included (argument_type c k) (argument_type c k)
unfolding argument_type
argument_type-Included c k = search (including, type_behind-Included)

pub uncalled-Included : (c : Context) (p : Numbered ExprTree × Calling) → Included (uncalled c p) (uncalled c p)
unfolding uncalled
uncalled-Included c (e, NoCall) = search including
uncalled-Included c (e, MayCall) = search including
uncalled-Included c (e, MustCall) = search including

module _ {b d : Below} (h : BelowIncluded b d) where
  pub more_expr-Turns : (c : Context) (so_far : Numbered (List ExprTree)) → Turns (more_expr b c so_far) (more_expr d c so_far)
  unfolding more_expr
  more_expr-Turns c so_far = search (including, token-Turns, h.expr)

  some_exprs-Included : (c : Context) (n : ℕ) → Included (some_exprs b c n) (some_exprs d c n)
  unfolding some_exprs
  some_exprs-Included c n = search (including, repeat-Included, more_expr-Turns, h.expr)

  pub exprs_until-Included : (closing : List ℕ) (c : Context) (n : ℕ) → Included (exprs_until closing b c n) (exprs_until closing d c n)
  unfolding exprs_until
  exprs_until-Included closing c n = search (including, some_exprs-Included)

  group-Included : (c : Context) (n : ℕ) → Included (group b c n) (group d c n)
  unfolding group
  group-Included c n = search (including, h.expr)

  static_cast-Included : (c : Context) (n : ℕ) → Included (static_cast b c n) (static_cast d c n)
  unfolding static_cast
  static_cast-Included c n = search (including, h.expr, h.type) depth 9

  is_same-Included : (c : Context) (n : ℕ) → Included (is_same b c n) (is_same d c n)
  unfolding is_same
  is_same-Included c n = search (including, h.type) depth 9

  out-Included : (c : Context) (n : ℕ) → Included (out b c n) (out d c n)
  unfolding out
  out-Included c n = search (including, h.expr)

  list-Included : (c : Context) (of : Numbered TypeTree) (at : Place) → Included (list b c of at) (list d c of at)
  unfolding list
  list-Included c of at = search (including, exprs_until-Included)

  pub behind_head-Included : (c : Context) (k : Numbered (Placed CoreTree)) → Included (behind_head b c k) (behind_head d c k)
  unfolding behind_head
  behind_head-Included c k = search (including, list-Included, qualified-Included)

  pub behind_core-Included : (c : Context) (k : Numbered (Placed CoreTree)) → Included (behind_core b c k) (behind_core d c k)
  unfolding behind_core
  behind_core-Included c k = search (list-Included)

  headed-Included : (c : Context) (n : ℕ) → Included (headed b c n) (headed d c n)
  unfolding headed
  headed-Included c n = search (including, h.core, behind_head-Included)

  cored-Included : (c : Context) (n : ℕ) → Included (cored b c n) (cored d c n)
  unfolding cored
  cored-Included c n = search (including, h.core, behind_core-Included)

  word_list-Included : (c : Context) (n : ℕ) → Included (word_list b c n) (word_list d c n)
  unfolding word_list
  word_list-Included c n = search (including, behind_core-Included)

  named-Included : (calling : Calling) (c : Context) (n : ℕ) → Included (named calling b c n) (named calling d c n)
  unfolding named
  named-Included calling c n = search (including, argument_list-Included)

  pub worded-Included : (c : Context) (n : ℕ) → Included (worded b c n) (worded d c n)
  unfolding worded
  worded-Included c n = search (including, maybe_requires-Included, with_calling-Included, truth-Included, is_same-Included, out-Included, group-Included) depth 10

  pub simple_primary-Included : (c : Context) (n : ℕ) → Included (simple_primary b c n) (simple_primary d c n)
  unfolding simple_primary
  simple_primary-Included c n = search (including, with_calling-Included, literal-Included, named-Included, name_alone-Included, worded-Included) depth 8

  primary-Included : (c : Context) (n : ℕ) → Included (primary b c n) (primary d c n)
  unfolding primary
  primary-Included c n = search (including, with_calling-Included, headed-Included, cored-Included, word_list-Included, static_cast-Included, simple_primary-Included) depth 8

  call-Included : (c : Context) (e : Numbered ExprTree) → Included (call b c e) (call d c e)
  unfolding call
  call-Included c e = search (including, h.called)

  member-Included : (c : Context) (e : Numbered ExprTree) → Included (member b c e) (member d c e)
  unfolding member
  member-Included c e = search (including, h.tail)

  step-Included : (c : Context) (e : Numbered ExprTree) → Included (step b c e) (step d c e)
  unfolding step
  step-Included c e = search (including, h.tail)

  tail_behind-Included : (c : Context) (e : Numbered ExprTree) → Included (tail_behind b c e) (tail_behind d c e)
  unfolding tail_behind
  tail_behind-Included c e = search (including, member-Included, step-Included)

  pub called-Included : (c : Context) (e : Numbered ExprTree) → Included (called b c e) (called d c e)
  unfolding called
  called-Included c e = search (including, exprs_until-Included, tail_behind-Included)

  pub tail-Included : (calling : Calling) (c : Context) (e : Numbered ExprTree) → Included (tail b calling c e) (tail d calling c e)
  unfolding tail
  tail-Included NoCall c e = tail_behind-Included c e
  tail-Included MayCall c e = search (including, call-Included, tail_behind-Included)
  tail-Included MustCall c e = call-Included c e

  postfix-Included : (c : Context) (n : ℕ) → Included (postfix b c n) (postfix d c n)
  unfolding postfix
  postfix-Included c n = search (including, primary-Included, tail-Included)

  prefixed-Included : (c : Context) (n : ℕ) → Included (prefixed b c n) (prefixed d c n)
  unfolding prefixed
  prefixed-Included c n = search (including, h.unary)

  pub unary-Included : (c : Context) (n : ℕ) → Included (unary b c n) (unary d c n)
  unfolding unary
  unary-Included c n = search (including, prefixed-Included, postfix-Included)

  binary_chain-Included : (level : ℕ) (c : Context) (e : Numbered ExprTree) → Included (binary_chain b level c e) (binary_chain d level c e)
  unfolding binary_chain
  binary_chain-Included level c e = search (including, operator-Included, h.operand, h.binary_rest)

  pub binary_rest-Included : (level : ℕ) (c : Context) (e : Numbered ExprTree) → Included (binary_rest b level c e) (binary_rest d level c e)
  unfolding binary_rest
  binary_rest-Included level c e = search (including, binary_chain-Included)

  pub rests-Included : (level : ℕ) (c : Context) (e : Numbered ExprTree) → Included (rests b level c e) (rests d level c e)
  unfolding rests
  rests-Included zero c e = give-Included e
  rests-Included (suc level) c e = then-Included (rests-Included level c e) (λ left. binary_rest-Included level c left)

  pub operand-Included : (level : ℕ) (c : Context) (n : ℕ) → Included (operand b level c n) (operand d level c n)
  unfolding operand
  operand-Included level c n = search (including, unary-Included, rests-Included)

  conditional-Included : (c : Context) (e : Numbered ExprTree) → Included (conditional b c e) (conditional d c e)
  unfolding conditional
  conditional-Included c e = search (including, h.expr)

  assignment-Included : (c : Context) (e : Numbered ExprTree) → Included (assignment b c e) (assignment d c e)
  unfolding assignment
  assignment-Included c e = search (including, h.expr)

  pub expr_behind-Included : (c : Context) (e : Numbered ExprTree) → Included (expr_behind b c e) (expr_behind d c e)
  unfolding expr_behind
  expr_behind-Included c e = search (including, rests-Included, conditional-Included, assignment-Included)

  pub expr-Included : (c : Context) (n : ℕ) → Included (expr b c n) (expr d c n)
  unfolding expr
  expr-Included c n = search (including, unary-Included, expr_behind-Included)

  argument_of-Included : (c : Context) (p : Numbered ExprTree) → Included (argument_of b c p) (argument_of d c p)
  unfolding argument_of
  argument_of-Included c p = search (including, tail-Included, expr_behind-Included)

  core_argument-Included : (c : Context) (k : Numbered (Placed CoreTree)) → Included (core_argument b c k) (core_argument d c k)
  unfolding core_argument
  core_argument-Included c k = search (including, behind_core-Included, argument_of-Included, argument_type-Included)

  head_argument-Included : (c : Context) (k : Numbered (Placed CoreTree)) → Included (head_argument b c k) (head_argument d c k)
  unfolding head_argument
  head_argument-Included c k = search (including, behind_head-Included, argument_of-Included, argument_type-Included)

  word_argument-Included : (c : Context) (n : ℕ) → Included (word_argument b c n) (word_argument d c n)
  unfolding word_argument
  word_argument-Included c n = search (including, behind_core-Included, argument_of-Included, scalar_behind-Included, argument_type-Included)

  core_type_argument-Included : (c : Context) (n : ℕ) → Included (core_type_argument b c n) (core_type_argument d c n)
  unfolding core_type_argument
  core_type_argument-Included c n = search (including, h.core, argument_type-Included)

  pub argument-Included : (c : Context) (n : ℕ) → Included (argument b c n) (argument d c n)
  unfolding argument
  argument-Included c n = search (including, const_type-Included, h.core, head_argument-Included, core_argument-Included, word_argument-Included, core_type_argument-Included, expr-Included) depth 9

  pub clause_primary-Included : (c : Context) (n : ℕ) → Included (clause_primary b c n) (clause_primary d c n)
  unfolding clause_primary
  clause_primary-Included c n = search (including, h.core, qualified-Included, simple_primary-Included, uncalled-Included)

  pub and_rest-Included : (c : Context) (e : Numbered ExprTree) → Included (and_rest b c e) (and_rest d c e)
  unfolding and_rest
  and_rest-Included c e = search (including, h.clause_primary, h.and_rest)

  pub conjunction-Included : (c : Context) (n : ℕ) → Included (conjunction b c n) (conjunction d c n)
  unfolding conjunction
  conjunction-Included c n = search (including, clause_primary-Included, and_rest-Included)

  pub or_rest-Included : (c : Context) (e : Numbered ExprTree) → Included (or_rest b c e) (or_rest d c e)
  unfolding or_rest
  or_rest-Included c e = search (including, h.conjunction, h.or_rest)

  pub clause-Included : (c : Context) (n : ℕ) → Included (clause b c n) (clause d c n)
  unfolding clause
  clause-Included c n = search (including, conjunction-Included, or_rest-Included)

  pub above-Included : BelowIncluded (above b) (above d)
  above-Included = record {
    none_read = h.none_read;
    all_read = h.all_read;
    expr = expr-Included;
    unary = unary-Included;
    binary_rest = binary_rest-Included;
    operand = operand-Included;
    tail = tail-Included;
    called = called-Included;
    type = type_id-Included h;
    core = core-Included h;
    argument = argument-Included;
    clause_primary = clause_primary-Included;
    and_rest = and_rest-Included;
    conjunction = conjunction-Included;
    or_rest = or_rest-Included;
  }

pub levels-Included : (n : ℕ) → BelowIncluded (levels false n) (levels true n)
unfolding levels
levels-Included zero = record {
  none_read = refl;
  all_read = refl;
  expr = λ c n. closed-Included;
  unary = λ c n. closed-Included;
  binary_rest = λ level c e. closed-Included;
  operand = λ level c n. closed-Included;
  tail = λ calling c e. closed-Included;
  called = λ c e. closed-Included;
  type = λ c n. closed-Included;
  core = λ c n. closed-Included;
  argument = λ c n. closed-Included;
  clause_primary = λ c n. closed-Included;
  and_rest = λ c e. closed-Included;
  conjunction = λ c n. closed-Included;
  or_rest = λ c e. closed-Included;
}
levels-Included (suc n) = above-Included (levels-Included n)
