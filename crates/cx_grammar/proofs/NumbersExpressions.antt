-- The nodes of expressions, in order.
use Rattle.std.proofs.Common.{length-append, ℕ, zero, suc, ◌+◌, ◌≤◌, ◌<◌, Bool, true, false, List, [], ◌∷◌, ◌++◌, append-nil, arith, codes}
use Rattle.cx_base.specs.declared.place.Place.{Place}
use Rattle.cx_tree.specs.Trees.{Mark, ExprTree, TypeTree, CoreTree}
use Rattle.cx_tree.specs.Nodes.{expr_nodes}
use Rattle.cx_grammar.specs.Production.{Production}
use Rattle.cx_grammar.specs.Names.{Context, deeper, inside, listed}
use Rattle.cx_grammar.specs.Types.{Numbered, Placed, Calling, NoCall, MayCall, MustCall, Below, numbered, as_type, placed_scalar, scalar_of_word, scalar_behind, qualified_names}
use Rattle.cx_grammar.specs.Expressions.{levels, place_of, more_expr, some_exprs, exprs_until, literal, truth, group, static_cast, is_same, out, list, qualified, behind_head, behind_core, headed, cored, word_list, name_alone, named, with_calling, worded, simple_primary, primary, member, step, tail_behind, called, call, tail, postfix, prefixed, unary, operator, binary_chain, binary_rest, rests, operand, conditional, assignment, expr_behind, expr, argument_of, argument_type, core_argument, head_argument, word_argument, core_type_argument, argument, uncalled, clause_primary, and_rest, conjunction, or_rest, clause}
use Rattle.cx_grammar.proofs.Counts.{Yields, give-Yields, then-Yields, take, past, rest_of, when-Yields, given-Yields, closed-Yields, repeat-Yields, Counted, seq, none, leaf, node, node_ahead, later, sooner, as_list, exprs_more}
use Rattle.cx_grammar.proofs.NumbersRequires.{maybe_requires-Yields}
use Rattle.cx_grammar.proofs.NumbersTypes.{OfExpr, OfExprs, OfType, OfArgument, OfCore', BelowCounts, type_behind-Yields, argument_list-Yields, core-Yields, const_type-Yields, type_id-Yields}

-- a primary, whose calls are no part of the tree
abbrev OfCallee : ℕ → ℕ → ℕ → Numbered ExprTree × Calling → Type 0
OfCallee n s k x = OfExpr n s k x.0

qualified_names-Yields : (c : Context) (s : ℕ) → Yields (qualified_names c) s (λ k names. s < k)
unfolding qualified_names
qualified_names-Yields c s = take (λ t. take (λ u. rest_of _ (λ names j up. omega arith)))

qualified-Yields : (c : Context) (head : Numbered TypeTree) (at : Place) {n s k : ℕ} → OfType n s k head → Yields (qualified c head at) k (OfExpr n s)
unfolding qualified
qualified-Yields c head at {n} {s} {k} h = then-Yields (qualified_names-Yields c k) (λ x j up. give-Yields (node at h up))

literal-Yields : (c : Context) (n s : ℕ) → Yields (literal c n) s (OfExpr n s)
unfolding literal
literal-Yields c n s = take (λ t. give-Yields (leaf (omega arith)))

truth-Yields : (value : Bool) (text : List ℕ) (c : Context) (n s : ℕ) → Yields (truth value text c n) s (OfExpr n s)
unfolding truth
truth-Yields value text c n s = take (λ t. give-Yields (leaf (omega arith)))

name_alone-Yields : (c : Context) (n s : ℕ) → Yields (name_alone c n) s (OfExpr n s)
unfolding name_alone
name_alone-Yields c n s = take (λ t. give-Yields (leaf (omega arith)))

with_calling-Yields : (calling : Calling) {p : Production (Numbered ExprTree)} {n s k : ℕ} → Yields p k (OfExpr n s) → Yields (with_calling calling p) k (OfCallee n s)
with_calling-Yields calling h = then-Yields h (λ e j g. give-Yields g)

-- the node of a type, and what stands behind it
module _ {b : Below} (k : BelowCounts b) where
  more_expr-Yields : (c : Context) (n s : ℕ) (x : Numbered (List ExprTree)) (j : ℕ) → OfExprs n s j x → Yields (more_expr b c x) j (OfExprs n s)
  unfolding more_expr
  more_expr-Yields c n s x j h = take (λ t. then-Yields (k.expr c x.1 (j + 1)) (λ e i g. give-Yields (as_list (exprs_more x.0 e.0) (seq h g (omega arith)))))

  some_exprs-Yields : (c : Context) (n s : ℕ) → Yields (some_exprs b c n) s (OfExprs n s)
  unfolding some_exprs
  some_exprs-Yields c n s = then-Yields (k.expr c n s) (λ e i g. repeat-Yields _ (more_expr-Yields c n s) _ i (as_list (append-nil (expr_nodes e.0)) g))

  exprs_until-Yields : (closing : List ℕ) (c : Context) (n s : ℕ) → Yields (exprs_until closing b c n) s (OfExprs n s)
  unfolding exprs_until
  exprs_until-Yields closing c n s = when-Yields _ (give-Yields (none (omega arith))) (some_exprs-Yields c n s)

  group-Yields : (c : Context) (n s : ℕ) → Yields (group b c n) s (OfExpr n s)
  unfolding group
  group-Yields c n s = take (λ t. then-Yields (k.expr (inside c) n (s + 1)) (λ e i g. take (λ u. give-Yields (node_ahead _ (later g (omega arith)) (omega arith)))))

  out-Yields : (c : Context) (n s : ℕ) → Yields (out b c n) s (OfExpr n s)
  unfolding out
  out-Yields c n s = take (λ w. take (λ t. then-Yields (k.expr (inside c) n (s + 1 + 1)) (λ e i g. take (λ u. give-Yields (node_ahead _ (later g (omega arith)) (omega arith))))))

  static_cast-Yields : (c : Context) (n s : ℕ) → Yields (static_cast b c n) s (OfExpr n s)
  unfolding static_cast
  static_cast-Yields c n s = take (λ t. take (λ less. then-Yields (k.type (listed c) n (s + 1 + 1)) (λ to i g. take (λ greater. take (λ o. then-Yields (k.expr (inside c) to.1 (i + 1 + 1)) (λ e j h. take (λ u. give-Yields (
      node _ (seq (sooner g (omega arith)) h (omega arith)) (omega arith)))))))))

  is_same-Yields : (c : Context) (n s : ℕ) → Yields (is_same b c n) s (OfExpr n s)
  unfolding is_same
  is_same-Yields c n s = take (λ t. take (λ o. then-Yields (k.type (inside c) n (s + 1 + 1)) (λ left i g. take (λ comma. then-Yields (k.type (inside c) left.1 (i + 1)) (λ right j h. take (λ u. give-Yields (
      node _ (seq (sooner g (omega arith)) h (omega arith)) (omega arith))))))))

  list-Yields : (c : Context) (of : Numbered TypeTree) (at : Place) {n s j : ℕ} → OfType n s j of → Yields (list b c of at) j (OfExpr n s)
  unfolding list
  list-Yields c of at {n} {s} {j} h = take (λ t. then-Yields (exprs_until-Yields (codes "}") (inside c) of.1 (j + 1)) (λ es i g. take (λ u. give-Yields (node at (seq h g (omega arith)) (omega arith)))))

  behind_head-Yields : (c : Context) (x : Numbered (Placed CoreTree)) {n s j : ℕ} → OfCore' n s j x → Yields (behind_head b c x) j (OfExpr n s)
  unfolding behind_head
  behind_head-Yields c x h = when-Yields _ (list-Yields c (as_type x) x.0.0 (h x.0.0)) (qualified-Yields c (as_type x) x.0.0 (h x.0.0))

  behind_core-Yields : (c : Context) (x : Numbered (Placed CoreTree)) {n s j : ℕ} → OfCore' n s j x → Yields (behind_core b c x) j (OfExpr n s)
  unfolding behind_core
  behind_core-Yields c x h = list-Yields c (as_type x) x.0.0 (h x.0.0)

  headed-Yields : (c : Context) (n s : ℕ) → Yields (headed b c n) s (OfExpr n s)
  unfolding headed
  headed-Yields c n s = then-Yields (k.core (deeper c) n s) (λ x i g. behind_head-Yields c x g)

  cored-Yields : (c : Context) (n s : ℕ) → Yields (cored b c n) s (OfExpr n s)
  unfolding cored
  cored-Yields c n s = then-Yields (k.core (deeper c) n s) (λ x i g. behind_core-Yields c x g)

  word_list-Yields : (c : Context) (n s : ℕ) → Yields (word_list b c n) s (OfExpr n s)
  unfolding word_list
  word_list-Yields c n s = take (λ t. behind_core-Yields c (placed_scalar t (scalar_of_word t), n) (λ at. leaf (omega arith)))

  named-Yields : (calling : Calling) (c : Context) (n s : ℕ) → Yields (named calling b c n) s (OfCallee n s)
  unfolding named
  named-Yields calling c n s = take (λ t. when-Yields _ (then-Yields (argument_list-Yields k c n (s + 1)) (λ x i g. give-Yields (node_ahead _ g.0 (omega arith)))) (give-Yields (leaf (omega arith))))

  worded-Yields : (c : Context) (n s : ℕ) → Yields (worded b c n) s (OfCallee n s)
  unfolding worded
  worded-Yields c n s = when-Yields _ (with_calling-Yields NoCall (truth-Yields true (codes "true") c n s)) (when-Yields _ (with_calling-Yields NoCall (truth-Yields false (codes "false") c n s))
      (when-Yields _ (with_calling-Yields NoCall (is_same-Yields c n s)) (when-Yields _ (with_calling-Yields NoCall (out-Yields c n s)) (when-Yields _ (with_calling-Yields NoCall (maybe_requires-Yields k c n s)) (with_calling-Yields NoCall (group-Yields c n s))))))

  simple_primary-Yields : (c : Context) (n s : ℕ) → Yields (simple_primary b c n) s (OfCallee n s)
  unfolding simple_primary
  simple_primary-Yields c n s = when-Yields _ (with_calling-Yields NoCall (literal-Yields c n s)) (when-Yields _ (named-Yields MustCall c n s) (when-Yields _ (named-Yields MayCall c n s)
      (when-Yields _ (with_calling-Yields MayCall (name_alone-Yields c n s)) (worded-Yields c n s))))

  primary-Yields : (c : Context) (n s : ℕ) → Yields (primary b c n) s (OfCallee n s)
  unfolding primary
  primary-Yields c n s = when-Yields _ (with_calling-Yields NoCall (headed-Yields c n s)) (when-Yields _ (with_calling-Yields NoCall (cored-Yields c n s)) (when-Yields _ (with_calling-Yields NoCall (word_list-Yields c n s))
      (when-Yields _ (with_calling-Yields NoCall (static_cast-Yields c n s)) (simple_primary-Yields c n s))))

  member-Yields : (c : Context) (e : Numbered ExprTree) {n s j : ℕ} → OfExpr n s j e → Yields (member b c e) j (OfExpr n s)
  unfolding member
  member-Yields c e h = take (λ t. take (λ u. k.tail MayCall (deeper c) _ (node (place_of e.0) h (omega arith))))

  step-Yields : (c : Context) (e : Numbered ExprTree) {n s j : ℕ} → OfExpr n s j e → Yields (step b c e) j (OfExpr n s)
  unfolding step
  step-Yields c e h = take (λ t. k.tail NoCall (deeper c) _ (node (place_of e.0) h (omega arith)))

  tail_behind-Yields : (c : Context) (e : Numbered ExprTree) {n s j : ℕ} → OfExpr n s j e → Yields (tail_behind b c e) j (OfExpr n s)
  unfolding tail_behind
  tail_behind-Yields c e h = when-Yields _ (member-Yields c e h) (when-Yields _ (step-Yields c e h) (give-Yields h))

  called-Yields : (c : Context) (e : Numbered ExprTree) {n s j : ℕ} → OfExpr n s j e → Yields (called b c e) j (OfExpr n s)
  unfolding called
  called-Yields c e {n} {s} {j} h = then-Yields (exprs_until-Yields (codes ")") (inside c) e.1 j) (λ es i g. take (λ u. tail_behind-Yields c _ (node (place_of e.0) (seq h g (omega arith)) (omega arith))))

  call-Yields : (c : Context) (e : Numbered ExprTree) {n s j : ℕ} → OfExpr n s j e → Yields (call b c e) j (OfExpr n s)
  unfolding call
  call-Yields c e h = take (λ t. k.called (deeper c) e (later h (omega arith)))

  tail-Yields : (calling : Calling) (c : Context) (e : Numbered ExprTree) {n s j : ℕ} → OfExpr n s j e → Yields (tail b calling c e) j (OfExpr n s)
  unfolding tail
  tail-Yields NoCall c e h = tail_behind-Yields c e h
  tail-Yields MayCall c e h = when-Yields _ (call-Yields c e h) (tail_behind-Yields c e h)
  tail-Yields MustCall c e h = call-Yields c e h

  postfix-Yields : (c : Context) (n s : ℕ) → Yields (postfix b c n) s (OfExpr n s)
  unfolding postfix
  postfix-Yields c n s = then-Yields (primary-Yields c n s) (λ p i g. tail-Yields p.1 c p.0 g)

  prefixed-Yields : (c : Context) (n s : ℕ) → Yields (prefixed b c n) s (OfExpr n s)
  unfolding prefixed
  prefixed-Yields c n s = take (λ t. then-Yields (k.unary (deeper c) n (s + 1)) (λ e i g. give-Yields (node_ahead _ g (omega arith))))

  pub unary-Yields : (c : Context) (n s : ℕ) → Yields (unary b c n) s (OfExpr n s)
  unfolding unary
  unary-Yields c n s = when-Yields _ (prefixed-Yields c n s) (postfix-Yields c n s)

operator-Yields : (level : ℕ) (c : Context) (s : ℕ) → Yields (operator level c) s (λ k o. s < k)
unfolding operator
operator-Yields level c s = take (λ t. given-Yields _ (take (λ u. give-Yields (omega arith))) (give-Yields (omega arith)))

-- an operator, whose pieces pay for its node, and a right operand
two_operands : {n s m i j r k : ℕ} {a d : List Mark} (at : Place) → Counted n s a m i → i < j → Counted m j d r k → Counted n s (a ++ d ++ numbered r at ∷ []) (r + 1) k
two_operands {n} {s} {m} {i} {j} {r} {k} {a} {d} at g up h =
    let whole = node at (seq g h (let e : i ≤ j = omega arith in e)) (let e : k < k + 1 = omega arith in e) in
    let e = length-append (a ++ d) (numbered r at ∷ []) in
    let e' = length-append a d in
    record { numbers = whole.numbers; next = whole.next; few = omega (arith, e, e', g.few, h.few, up) }

module _ {b : Below} (k : BelowCounts b) where
  binary_chain-Yields : (level : ℕ) (c : Context) (left : Numbered ExprTree) {n s j : ℕ} → OfExpr n s j left → Yields (binary_chain b level c left) j (OfExpr n s)
  unfolding binary_chain
  binary_chain-Yields level c left {n} {s} {j} h = then-Yields (operator-Yields level c j) (λ o i up. then-Yields (k.operand level (deeper c) left.1 i) (λ right l g. k.binary_rest level (deeper c) _ (two_operands (place_of left.0) h up g)))

  binary_rest-Yields : (level : ℕ) (c : Context) (left : Numbered ExprTree) {n s j : ℕ} → OfExpr n s j left → Yields (binary_rest b level c left) j (OfExpr n s)
  unfolding binary_rest
  binary_rest-Yields level c left h = when-Yields _ (binary_chain-Yields level c left h) (give-Yields h)

  rests-Yields : (level : ℕ) (c : Context) (e : Numbered ExprTree) {n s j : ℕ} → OfExpr n s j e → Yields (rests b level c e) j (OfExpr n s)
  unfolding rests
  rests-Yields zero c e h = give-Yields h
  rests-Yields (suc level) c e h = then-Yields (rests-Yields level c e h) (λ left i g. binary_rest-Yields level c left g)

  operand-Yields : (level : ℕ) (c : Context) (n s : ℕ) → Yields (operand b level c n) s (OfExpr n s)
  unfolding operand
  operand-Yields level c n s = then-Yields (unary-Yields k c n s) (λ e i g. rests-Yields level c e g)

  conditional-Yields : (c : Context) (e : Numbered ExprTree) {n s j : ℕ} → OfExpr n s j e → Yields (conditional b c e) j (OfExpr n s)
  unfolding conditional
  conditional-Yields c e {n} {s} {j} h = take (λ t. then-Yields (k.expr (deeper c) e.1 (j + 1)) (λ x i g. take (λ u. then-Yields (k.expr (deeper c) x.1 (i + 1)) (λ y l g'. give-Yields (
      two_operands (place_of e.0) (seq h g (omega arith)) (omega arith) g')))))

  assignment-Yields : (c : Context) (e : Numbered ExprTree) {n s j : ℕ} → OfExpr n s j e → Yields (assignment b c e) j (OfExpr n s)
  unfolding assignment
  assignment-Yields c e {n} {s} {j} h = take (λ t. then-Yields (k.expr (deeper c) e.1 (j + 1)) (λ x i g. give-Yields (two_operands (place_of e.0) h (omega arith) g)))

  expr_behind-Yields : (c : Context) (e : Numbered ExprTree) {n s j : ℕ} → OfExpr n s j e → Yields (expr_behind b c e) j (OfExpr n s)
  unfolding expr_behind
  expr_behind-Yields c e h = then-Yields (rests-Yields 10 c e h) (λ left i g. when-Yields _ (conditional-Yields c left g) (when-Yields _ (assignment-Yields c left g) (give-Yields g)))

  pub expr-Yields : (c : Context) (n s : ℕ) → Yields (expr b c n) s (OfExpr n s)
  unfolding expr
  expr-Yields c n s = then-Yields (unary-Yields k c n s) (λ e i g. expr_behind-Yields c e g)

  argument_of-Yields : (c : Context) (p : Numbered ExprTree) {n s j : ℕ} → OfExpr n s j p → Yields (argument_of b c p) j (OfArgument n s)
  unfolding argument_of
  argument_of-Yields c p h = then-Yields (tail-Yields k NoCall c p h) (λ e i g. then-Yields (expr_behind-Yields c e g) (λ x l g'. give-Yields g'))

argument_type-Yields : (c : Context) (x : Numbered (Placed CoreTree)) {n s j : ℕ} → OfCore' n s j x → Yields (argument_type c x) j (OfArgument n s)
unfolding argument_type
argument_type-Yields c x h = then-Yields (type_behind-Yields c x.0.0 false (x.0.1, x.1) h) (λ t i g. give-Yields g)

module _ {b : Below} (k : BelowCounts b) where
  core_argument-Yields : (c : Context) (x : Numbered (Placed CoreTree)) {n s j : ℕ} → OfCore' n s j x → Yields (core_argument b c x) j (OfArgument n s)
  unfolding core_argument
  core_argument-Yields c x h = when-Yields _ (then-Yields (behind_core-Yields k c x h) (λ p i g. argument_of-Yields k c p g)) (argument_type-Yields c x h)

  head_argument-Yields : (c : Context) (x : Numbered (Placed CoreTree)) {n s j : ℕ} → OfCore' n s j x → Yields (head_argument b c x) j (OfArgument n s)
  unfolding head_argument
  head_argument-Yields c x h = when-Yields _ (then-Yields (behind_head-Yields k c x h) (λ p i g. argument_of-Yields k c p g)) (argument_type-Yields c x h)

  word_argument-Yields : (c : Context) (n s : ℕ) → Yields (word_argument b c n) s (OfArgument n s)
  unfolding word_argument
  word_argument-Yields c n s = take (λ t. when-Yields _ (then-Yields (behind_core-Yields k c (placed_scalar t (scalar_of_word t), n) (λ at. leaf (omega arith))) (λ p i g. argument_of-Yields k c p g))
      (past (scalar_behind (deeper c) t) (λ x i up. argument_type-Yields c (placed_scalar t x, n) (λ at. leaf (omega arith)))))

  core_type_argument-Yields : (c : Context) (n s : ℕ) → Yields (core_type_argument b c n) s (OfArgument n s)
  unfolding core_type_argument
  core_type_argument-Yields c n s = then-Yields (k.core (deeper c) n s) (λ x i g. argument_type-Yields c x g)

  argument-Yields : (c : Context) (n s : ℕ) → Yields (argument b c n) s (OfArgument n s)
  unfolding argument
  argument-Yields c n s = when-Yields _ (then-Yields (const_type-Yields k c n s) (λ t i g. give-Yields g))
      (when-Yields _ (then-Yields (k.core (deeper c) n s) (λ x i g. head_argument-Yields c x g))
      (when-Yields _ (then-Yields (k.core (deeper c) n s) (λ x i g. core_argument-Yields c x g))
      (when-Yields _ (word_argument-Yields c n s) (when-Yields _ (core_type_argument-Yields c n s) (then-Yields (expr-Yields k c n s) (λ e i g. give-Yields g))))))

uncalled-Yields : (c : Context) (p : Numbered ExprTree × Calling) {n s j : ℕ} → OfCallee n s j p → Yields (uncalled c p) j (OfExpr n s)
unfolding uncalled
uncalled-Yields c (e, NoCall) h = give-Yields h
uncalled-Yields c (e, MayCall) h = give-Yields h
uncalled-Yields c (e, MustCall) h = take (λ t. give-Yields (later h (omega arith)))

module _ {b : Below} (k : BelowCounts b) where
  clause_primary-Yields : (c : Context) (n s : ℕ) → Yields (clause_primary b c n) s (OfExpr n s)
  unfolding clause_primary
  clause_primary-Yields c n s = when-Yields _ (then-Yields (k.core (deeper c) n s) (λ x i g. qualified-Yields c (as_type x) x.0.0 (g x.0.0))) (then-Yields (simple_primary-Yields k c n s) (λ p i g. uncalled-Yields c p g))

  and_rest-Yields : (c : Context) (left : Numbered ExprTree) {n s j : ℕ} → OfExpr n s j left → Yields (and_rest b c left) j (OfExpr n s)
  unfolding and_rest
  and_rest-Yields c left {n} {s} {j} h = when-Yields _ (take (λ t. then-Yields (k.clause_primary (deeper c) left.1 (j + 1)) (λ x i g. k.and_rest (deeper c) _ (two_operands (place_of left.0) h (omega arith) g)))) (give-Yields h)

  conjunction-Yields : (c : Context) (n s : ℕ) → Yields (conjunction b c n) s (OfExpr n s)
  unfolding conjunction
  conjunction-Yields c n s = then-Yields (clause_primary-Yields c n s) (λ e i g. and_rest-Yields c e g)

  or_rest-Yields : (c : Context) (left : Numbered ExprTree) {n s j : ℕ} → OfExpr n s j left → Yields (or_rest b c left) j (OfExpr n s)
  unfolding or_rest
  or_rest-Yields c left {n} {s} {j} h = when-Yields _ (take (λ t. then-Yields (k.conjunction (deeper c) left.1 (j + 1)) (λ x i g. k.or_rest (deeper c) _ (two_operands (place_of left.0) h (omega arith) g)))) (give-Yields h)

  pub clause-Yields : (c : Context) (n s : ℕ) → Yields (clause b c n) s (OfExpr n s)
  unfolding clause
  clause-Yields c n s = then-Yields (conjunction-Yields c n s) (λ e i g. or_rest-Yields c e g)

pub levels-Counts : (requires : Bool) (n : ℕ) → BelowCounts (levels requires n)
unfolding levels
levels-Counts requires zero = record {
  expr = λ c m s. closed-Yields;
  unary = λ c m s. closed-Yields;
  binary_rest = λ level c e h. closed-Yields;
  operand = λ level c m s. closed-Yields;
  tail = λ calling c e h. closed-Yields;
  called = λ c e h. closed-Yields;
  type = λ c m s. closed-Yields;
  core = λ c m s. closed-Yields;
  argument = λ c m s. closed-Yields;
  clause_primary = λ c m s. closed-Yields;
  and_rest = λ c e h. closed-Yields;
  conjunction = λ c m s. closed-Yields;
  or_rest = λ c e h. closed-Yields;
}
levels-Counts requires (suc n) = record {
  expr = expr-Yields (levels-Counts requires n);
  unary = unary-Yields (levels-Counts requires n);
  binary_rest = binary_rest-Yields (levels-Counts requires n);
  operand = operand-Yields (levels-Counts requires n);
  tail = tail-Yields (levels-Counts requires n);
  called = called-Yields (levels-Counts requires n);
  type = type_id-Yields (levels-Counts requires n);
  core = core-Yields (levels-Counts requires n);
  argument = argument-Yields (levels-Counts requires n);
  clause_primary = clause_primary-Yields (levels-Counts requires n);
  and_rest = and_rest-Yields (levels-Counts requires n);
  conjunction = conjunction-Yields (levels-Counts requires n);
  or_rest = or_rest-Yields (levels-Counts requires n);
}
