-- Productions of expressions are not exhausted where the levels are more than what the limit leaves.
use Rattle.std.proofs.Common.{◌≤◌, ℕ, zero, suc, Bool, List, arith}
use Rattle.cx_base.specs.declared.place.Place.{Place}
use Rattle.cx_tree.specs.Trees.{ExprTree, TypeTree, CoreTree}
use Rattle.cx_grammar.specs.Production.{Production}
use Rattle.cx_grammar.specs.Names.{Context, deeper}
use Rattle.cx_grammar.specs.Types.{Numbered, Placed, Calling, NoCall, MayCall, MustCall, Below}
use Rattle.cx_grammar.specs.Expressions.{more_expr, some_exprs, exprs_until, literal, truth, group, static_cast, is_same, out, list, qualified, behind_head, behind_core, headed, cored, word_list, name_alone, named, with_calling, worded, simple_primary, primary, call, called, member, step, tail_behind, tail, postfix, prefixed, unary, operator, is_operator, binary_chain, binary_rest, rests, operand, conditional, assignment, expr_behind, expr, argument_of, argument_type, core_argument, head_argument, word_argument, core_type_argument, argument, uncalled, clause_primary, and_rest, conjunction, or_rest, clause, above, nothing_below, levels}
use Rattle.cx_grammar.proofs.Combinators.{Takes, Firm, Costs, token-Costs, costly-Firm, give-Firm, then-Firm, repeat-Firm}
use Rattle.cx_grammar.proofs.FirmRequires.{maybe_requires-Firm}
use Rattle.cx_grammar.proofs.Types.{BelowGrows}
use Rattle.cx_grammar.proofs.Expressions.{more_expr-Steps, levels-Grows}
use Rattle.cx_grammar.proofs.FirmTypes.{BelowFirm, Reached, Enough, rooms, firmness, enough_next, argument_list-Firm, qualified_names-Firm, type_behind-Firm, scalar_behind-Firm, const_type-Firm, type_id-Firm, core-Firm}

module _ (limit : ℕ) where
  pub literal-Firm : (c : Context) (n : ℕ) → Firm limit (literal c n) (literal c n)
  unfolding literal
  literal-Firm c n = search firmness

  pub truth-Firm : (value : Bool) (text : List ℕ) (c : Context) (n : ℕ) → Firm limit (truth value text c n) (truth value text c n)
  unfolding truth
  truth-Firm value text c n = search firmness

  pub qualified-Firm : (c : Context) (head : Numbered TypeTree) (at : Place) → Firm limit (qualified c head at) (qualified c head at)
  unfolding qualified
  qualified-Firm c head at = search (firmness, qualified_names-Firm)

  pub name_alone-Firm : (c : Context) (n : ℕ) → Firm limit (name_alone c n) (name_alone c n)
  unfolding name_alone
  name_alone-Firm c n = search firmness

  pub with_calling-Firm : (calling : Calling) {p q : Production (Numbered ExprTree)} → Firm limit p q → Firm limit (with_calling calling p) (with_calling calling q)
  with_calling-Firm calling h = search firmness

  pub operator-Firm : (level : ℕ) (c : Context) → Firm limit (operator level c) (operator level c)
  unfolding operator
  operator-Firm level c = search firmness

  operator-Costs : (level : ℕ) (c : Context) → Costs limit c.load (operator level c)
  unfolding operator
  operator-Costs level c = token-Costs limit c.load (is_operator level c.angle) _

  pub argument_type-Firm : (c : Context) (k : Numbered (Placed CoreTree)) → Firm limit (argument_type c k) (argument_type c k)
  unfolding argument_type
  argument_type-Firm c k = search (firmness, type_behind-Firm)

  pub uncalled-Firm : (c : Context) (p : Numbered ExprTree × Calling) → Firm limit (uncalled c p) (uncalled c p)
  unfolding uncalled
  uncalled-Firm c (e, NoCall) = search firmness
  uncalled-Firm c (e, MayCall) = search firmness
  uncalled-Firm c (e, MustCall) = search firmness

module _ {requires : Bool} {limit n : ℕ} {b d : Below} (g : BelowGrows requires b d) (f : BelowFirm limit n b d) where
  more_expr-Takes : (c : Context) (so_far : Numbered (List ExprTree)) → Takes (more_expr b c so_far)
  more_expr-Takes c so_far = (more_expr-Steps g c so_far).low

  more_expr-Firm : (c : Context) (so_far : Numbered (List ExprTree)) → Enough limit n c.load → Firm limit (more_expr b c so_far) (more_expr d c so_far)
  unfolding more_expr
  more_expr-Firm c so_far k = search (firmness, f.expr, rooms)

  some_exprs-Firm : (c : Context) (m : ℕ) → Enough limit n c.load → Firm limit (some_exprs b c m) (some_exprs d c m)
  unfolding some_exprs
  some_exprs-Firm c m k = search (firmness, repeat-Firm, more_expr-Takes, more_expr-Firm, f.expr, rooms)

  pub exprs_until-Firm : (closing : List ℕ) (c : Context) (m : ℕ) → Enough limit n c.load → Firm limit (exprs_until closing b c m) (exprs_until closing d c m)
  unfolding exprs_until
  exprs_until-Firm closing c m k = search (firmness, some_exprs-Firm, rooms)

  group-Firm : (c : Context) (m : ℕ) → Enough limit (suc n) c.load → Firm limit (group b c m) (group d c m)
  unfolding group
  group-Firm c m k = search (firmness, f.expr, rooms)

  static_cast-Firm : (c : Context) (m : ℕ) → Enough limit (suc n) c.load → Firm limit (static_cast b c m) (static_cast d c m)
  unfolding static_cast
  static_cast-Firm c m k = search (firmness, f.expr, f.type, rooms) depth 9

  is_same-Firm : (c : Context) (m : ℕ) → Enough limit (suc n) c.load → Firm limit (is_same b c m) (is_same d c m)
  unfolding is_same
  is_same-Firm c m k = search (firmness, f.type, rooms) depth 9

  out-Firm : (c : Context) (m : ℕ) → Enough limit (suc n) c.load → Firm limit (out b c m) (out d c m)
  unfolding out
  out-Firm c m k = search (firmness, f.expr, rooms)

  list-Firm : (c : Context) (of : Numbered TypeTree) (at : Place) → Enough limit (suc n) c.load → Firm limit (list b c of at) (list d c of at)
  unfolding list
  list-Firm c of at k = search (firmness, exprs_until-Firm, rooms)

  pub behind_head-Firm : (c : Context) (k : Numbered (Placed CoreTree)) → Enough limit (suc n) c.load → Firm limit (behind_head b c k) (behind_head d c k)
  unfolding behind_head
  behind_head-Firm c core' k = search (firmness, list-Firm, qualified-Firm, rooms)

  pub behind_core-Firm : (c : Context) (k : Numbered (Placed CoreTree)) → Enough limit (suc n) c.load → Firm limit (behind_core b c k) (behind_core d c k)
  unfolding behind_core
  behind_core-Firm c core' k = search (list-Firm, rooms)

  headed-Firm : (c : Context) (m : ℕ) → Enough limit (suc n) c.load → Firm limit (headed b c m) (headed d c m)
  unfolding headed
  headed-Firm c m k = search (firmness, f.core, behind_head-Firm, rooms)

  cored-Firm : (c : Context) (m : ℕ) → Enough limit (suc n) c.load → Firm limit (cored b c m) (cored d c m)
  unfolding cored
  cored-Firm c m k = search (firmness, f.core, behind_core-Firm, rooms)

  word_list-Firm : (c : Context) (m : ℕ) → Enough limit (suc n) c.load → Firm limit (word_list b c m) (word_list d c m)
  unfolding word_list
  word_list-Firm c m k = search (firmness, behind_core-Firm, rooms)

  named-Firm : (calling : Calling) (c : Context) (m : ℕ) → Enough limit (suc n) c.load → Firm limit (named calling b c m) (named calling d c m)
  unfolding named
  named-Firm calling c m k = search (firmness, argument_list-Firm, rooms)

  worded-Firm : (c : Context) (m : ℕ) → Enough limit (suc n) c.load → Firm limit (worded b c m) (worded d c m)
  unfolding worded
  worded-Firm c m k = search (firmness, maybe_requires-Firm, with_calling-Firm, truth-Firm, is_same-Firm, out-Firm, group-Firm) depth 10

  simple_primary-Firm : (c : Context) (m : ℕ) → Enough limit (suc n) c.load → Firm limit (simple_primary b c m) (simple_primary d c m)
  unfolding simple_primary
  simple_primary-Firm c m k = search (firmness, with_calling-Firm, literal-Firm, named-Firm, name_alone-Firm, worded-Firm, rooms) depth 8

  primary-Firm : (c : Context) (m : ℕ) → Enough limit (suc n) c.load → Firm limit (primary b c m) (primary d c m)
  unfolding primary
  primary-Firm c m k = search (firmness, with_calling-Firm, headed-Firm, cored-Firm, word_list-Firm, static_cast-Firm, simple_primary-Firm, rooms) depth 8

  call-Firm : (c : Context) (e : Numbered ExprTree) → Enough limit (suc n) c.load → Firm limit (call b c e) (call d c e)
  unfolding call
  call-Firm c e k = search (firmness, f.called, rooms)

  member-Firm : (c : Context) (e : Numbered ExprTree) → Enough limit (suc n) c.load → Firm limit (member b c e) (member d c e)
  unfolding member
  member-Firm c e k = search (firmness, f.tail, rooms)

  step-Firm : (c : Context) (e : Numbered ExprTree) → Enough limit (suc n) c.load → Firm limit (step b c e) (step d c e)
  unfolding step
  step-Firm c e k = search (firmness, f.tail, rooms)

  tail_behind-Firm : (c : Context) (e : Numbered ExprTree) → Enough limit (suc n) c.load → Firm limit (tail_behind b c e) (tail_behind d c e)
  unfolding tail_behind
  tail_behind-Firm c e k = search (firmness, member-Firm, step-Firm, rooms)

  pub called-Firm : (c : Context) (e : Numbered ExprTree) → c.load ≤ limit → Enough limit (suc n) c.load → Firm limit (called b c e) (called d c e)
  unfolding called
  called-Firm c e w k = search (firmness, exprs_until-Firm, tail_behind-Firm, rooms)

  pub tail-Firm : (calling : Calling) (c : Context) (e : Numbered ExprTree) → Enough limit (suc n) c.load → Firm limit (tail b calling c e) (tail d calling c e)
  unfolding tail
  tail-Firm NoCall c e k = tail_behind-Firm c e k
  tail-Firm MayCall c e k = search (firmness, call-Firm, tail_behind-Firm)
  tail-Firm MustCall c e k = call-Firm c e k

  postfix-Firm : (c : Context) (m : ℕ) → Enough limit (suc n) c.load → Firm limit (postfix b c m) (postfix d c m)
  unfolding postfix
  postfix-Firm c m k = search (firmness, primary-Firm, tail-Firm, rooms)

  prefixed-Firm : (c : Context) (m : ℕ) → Enough limit (suc n) c.load → Firm limit (prefixed b c m) (prefixed d c m)
  unfolding prefixed
  prefixed-Firm c m k = search (firmness, f.unary, rooms)

  pub unary-Firm : (c : Context) (m : ℕ) → Enough limit (suc n) c.load → Firm limit (unary b c m) (unary d c m)
  unfolding unary
  unary-Firm c m k = search (firmness, prefixed-Firm, postfix-Firm, rooms)

  binary_chain-Firm : (level : ℕ) (c : Context) (e : Numbered ExprTree) → Enough limit (suc n) c.load → Firm limit (binary_chain b level c e) (binary_chain d level c e)
  unfolding binary_chain
  binary_chain-Firm level c e k =
      costly-Firm (operator-Firm limit level c) (operator-Costs limit level c) (λ here o.
      then-Firm limit (f.operand level (deeper c) e.1 (enough_next limit n c.load here k)) (λ right.
      f.binary_rest level (deeper c) _ (enough_next limit n c.load here k)))

  pub binary_rest-Firm : (level : ℕ) (c : Context) (e : Numbered ExprTree) → Enough limit (suc n) c.load → Firm limit (binary_rest b level c e) (binary_rest d level c e)
  unfolding binary_rest
  binary_rest-Firm level c e k = search (firmness, binary_chain-Firm, rooms)

  pub rests-Firm : (level : ℕ) (c : Context) (e : Numbered ExprTree) → Enough limit (suc n) c.load → Firm limit (rests b level c e) (rests d level c e)
  unfolding rests
  rests-Firm zero c e k = give-Firm limit e
  rests-Firm (suc level) c e k = then-Firm limit (rests-Firm level c e k) (λ left. binary_rest-Firm level c left k)

  pub operand-Firm : (level : ℕ) (c : Context) (m : ℕ) → Enough limit (suc n) c.load → Firm limit (operand b level c m) (operand d level c m)
  unfolding operand
  operand-Firm level c m k = search (firmness, unary-Firm, rests-Firm, rooms)

  conditional-Firm : (c : Context) (e : Numbered ExprTree) → Enough limit (suc n) c.load → Firm limit (conditional b c e) (conditional d c e)
  unfolding conditional
  conditional-Firm c e k = search (firmness, f.expr, rooms) depth 7

  assignment-Firm : (c : Context) (e : Numbered ExprTree) → Enough limit (suc n) c.load → Firm limit (assignment b c e) (assignment d c e)
  unfolding assignment
  assignment-Firm c e k = search (firmness, f.expr, rooms)

  pub expr_behind-Firm : (c : Context) (e : Numbered ExprTree) → Enough limit (suc n) c.load → Firm limit (expr_behind b c e) (expr_behind d c e)
  unfolding expr_behind
  expr_behind-Firm c e k = search (firmness, rests-Firm, conditional-Firm, assignment-Firm, rooms)

  pub expr-Firm : (c : Context) (m : ℕ) → Enough limit (suc n) c.load → Firm limit (expr b c m) (expr d c m)
  unfolding expr
  expr-Firm c m k = search (firmness, unary-Firm, expr_behind-Firm, rooms)

  argument_of-Firm : (c : Context) (p : Numbered ExprTree) → Enough limit (suc n) c.load → Firm limit (argument_of b c p) (argument_of d c p)
  unfolding argument_of
  argument_of-Firm c p k = search (firmness, tail-Firm, expr_behind-Firm, rooms)

  core_argument-Firm : (c : Context) (k : Numbered (Placed CoreTree)) → Enough limit (suc n) c.load → Firm limit (core_argument b c k) (core_argument d c k)
  unfolding core_argument
  core_argument-Firm c core' k = search (firmness, behind_core-Firm, argument_of-Firm, argument_type-Firm, rooms)

  head_argument-Firm : (c : Context) (k : Numbered (Placed CoreTree)) → Enough limit (suc n) c.load → Firm limit (head_argument b c k) (head_argument d c k)
  unfolding head_argument
  head_argument-Firm c core' k = search (firmness, behind_head-Firm, argument_of-Firm, argument_type-Firm, rooms)

  word_argument-Firm : (c : Context) (m : ℕ) → Enough limit (suc n) c.load → Firm limit (word_argument b c m) (word_argument d c m)
  unfolding word_argument
  word_argument-Firm c m k = search (firmness, behind_core-Firm, argument_of-Firm, scalar_behind-Firm, argument_type-Firm, rooms)

  core_type_argument-Firm : (c : Context) (m : ℕ) → Enough limit (suc n) c.load → Firm limit (core_type_argument b c m) (core_type_argument d c m)
  unfolding core_type_argument
  core_type_argument-Firm c m k = search (firmness, f.core, argument_type-Firm, rooms)

  pub argument-Firm : (c : Context) (m : ℕ) → Enough limit (suc n) c.load → Firm limit (argument b c m) (argument d c m)
  unfolding argument
  argument-Firm c m k = search (firmness, const_type-Firm, f.core, head_argument-Firm, core_argument-Firm, word_argument-Firm, core_type_argument-Firm, expr-Firm, rooms) depth 9

  pub clause_primary-Firm : (c : Context) (m : ℕ) → Enough limit (suc n) c.load → Firm limit (clause_primary b c m) (clause_primary d c m)
  unfolding clause_primary
  clause_primary-Firm c m k = search (firmness, f.core, qualified-Firm, simple_primary-Firm, uncalled-Firm, rooms)

  pub and_rest-Firm : (c : Context) (e : Numbered ExprTree) → Enough limit (suc n) c.load → Firm limit (and_rest b c e) (and_rest d c e)
  unfolding and_rest
  and_rest-Firm c e k = search (firmness, f.clause_primary, f.and_rest, rooms)

  pub conjunction-Firm : (c : Context) (m : ℕ) → Enough limit (suc n) c.load → Firm limit (conjunction b c m) (conjunction d c m)
  unfolding conjunction
  conjunction-Firm c m k = search (firmness, clause_primary-Firm, and_rest-Firm, rooms)

  pub or_rest-Firm : (c : Context) (e : Numbered ExprTree) → Enough limit (suc n) c.load → Firm limit (or_rest b c e) (or_rest d c e)
  unfolding or_rest
  or_rest-Firm c e k = search (firmness, f.conjunction, f.or_rest, rooms)

  pub clause-Firm : (c : Context) (m : ℕ) → Enough limit (suc n) c.load → Firm limit (clause b c m) (clause d c m)
  unfolding clause
  clause-Firm c m k = search (firmness, conjunction-Firm, or_rest-Firm, rooms)

  above-Firm : BelowFirm limit (suc n) (above b) (above d)
  above-Firm = record {
    expr = λ c m k. expr-Firm c m k;
    unary = λ c m k. unary-Firm c m k;
    binary_rest = λ level c e k. binary_rest-Firm level c e k;
    operand = λ level c m k. operand-Firm level c m k;
    tail = λ calling c e k. tail-Firm calling c e k;
    called = λ c e w k. called-Firm c e w k;
    type = λ c m k. type_id-Firm g f c m k;
    core = λ c m k. core-Firm g f c m k;
    argument = λ c m k. argument-Firm c m k;
    clause_primary = λ c m k. clause_primary-Firm c m k;
    and_rest = λ c e k. and_rest-Firm c e k;
    conjunction = λ c m k. conjunction-Firm c m k;
    or_rest = λ c e k. or_rest-Firm c e k;
  }

module _ (limit : ℕ) where
  no_room : (load : ℕ) → Enough limit 0 load → ⊥
  no_room load k = omega (arith, k.more)

  no_reach : (load : ℕ) → Reached limit 0 load → ⊥
  no_reach load k = omega (arith, k.more)

  nothing-Firm : (requires : Bool) → BelowFirm limit 0 (nothing_below requires) (above (nothing_below requires))
  nothing-Firm requires = record {
    expr = λ c m k. absurd (no_room c.load k);
    unary = λ c m k. absurd (no_room c.load k);
    binary_rest = λ level c e k. absurd (no_room c.load k);
    operand = λ level c m k. absurd (no_room c.load k);
    tail = λ calling c e k. absurd (no_room c.load k);
    called = λ c e w k. absurd (no_room c.load k);
    type = λ c m k. absurd (no_room c.load k);
    core = λ c m k. absurd (no_reach c.load k);
    argument = λ c m k. absurd (no_room c.load k);
    clause_primary = λ c m k. absurd (no_room c.load k);
    and_rest = λ c e k. absurd (no_room c.load k);
    conjunction = λ c m k. absurd (no_room c.load k);
    or_rest = λ c e k. absurd (no_room c.load k);
  }

  pub levels-Firm : (requires : Bool) (n : ℕ) → BelowFirm limit n (levels requires n) (levels requires (suc n))
  unfolding levels
  levels-Firm requires zero = nothing-Firm requires
  levels-Firm requires (suc n) = above-Firm (levels-Grows n) (levels-Firm requires n)
