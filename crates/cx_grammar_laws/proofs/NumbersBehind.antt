-- The nodes of what stands behind an operand, a core or a type, in order.
use Rattle.std.proofs.Common.{ℕ, zero, suc, ◌+◌, ◌<◌, List, append-nil, arith, codes}
use Rattle.cx_base.specs.declared.place.Place.{Place}
use Rattle.cx_tree.specs.Trees.{ExprTree, TypeTree, CoreTree}
use Rattle.cx_tree.specs.Nodes.{expr_nodes}
use Rattle.cx_grammar.specs.Names.{Context, deeper, inside}
use Rattle.cx_grammar.specs.Types.{Numbered, Placed, Below, as_type, qualified_names}
use Rattle.cx_grammar.specs.Expressions.{above, place_of, more_expr, some_exprs, exprs_until, list, qualified, behind_head, behind_core, rests, conditional, assignment, expr_behind}
use Rattle.cx_grammar.proofs.Counts.{Yields, give-Yields, then-Yields, take, rest_of, when-Yields, repeat-Yields, seq, none, node, as_list, exprs_more}
use Rattle.cx_grammar.proofs.NumbersTypes.{OfExpr, OfExprs, OfType, OfCore', BelowCounts}
use Rattle.cx_grammar.proofs.Spared.{paid, between}

qualified_names-Yields : (c : Context) (s : ℕ) → Yields (qualified_names c) s (λ k names. s < k)
unfolding qualified_names
qualified_names-Yields c s = take (λ t. take (λ u. rest_of _ (λ names j up. omega arith)))

qualified-Yields : (c : Context) (head : Numbered TypeTree) (at : Place) {n s k : ℕ} → OfType n s k head → Yields (qualified c head at) k (OfExpr n s)
unfolding qualified
qualified-Yields c head at {n} {s} {k} h = then-Yields (qualified_names-Yields c k) (λ x j up. give-Yields (node at h up))

module _ {b : Below} (k : BelowCounts b) where
  more_expr-Yields : (c : Context) (n s : ℕ) (x : Numbered (List ExprTree)) (j : ℕ) → OfExprs n s j x → Yields (more_expr b c x) j (OfExprs n s)
  unfolding more_expr
  more_expr-Yields c n s x j h = take (λ t. then-Yields (k.expr c x.1 (j + 1)) (λ e i g. give-Yields (as_list (exprs_more x.0 e.0) (seq h g (omega arith)))))

  some_exprs-Yields : (c : Context) (n s : ℕ) → Yields (some_exprs b c n) s (OfExprs n s)
  unfolding some_exprs
  some_exprs-Yields c n s = then-Yields (k.expr c n s) (λ e i g. repeat-Yields _ (more_expr-Yields c n s) _ i (as_list (append-nil (expr_nodes e.0)) g))

  pub exprs_until-Yields : (closing : List ℕ) (c : Context) (n s : ℕ) → Yields (exprs_until closing b c n) s (OfExprs n s)
  unfolding exprs_until
  exprs_until-Yields closing c n s = when-Yields _ (give-Yields (none (omega arith))) (some_exprs-Yields c n s)

  list-Yields : (c : Context) (of : Numbered TypeTree) (at : Place) {n s j : ℕ} → OfType n s j of → Yields (list b c of at) j (OfExpr n s)
  unfolding list
  list-Yields c of at {n} {s} {j} h = take (λ t. then-Yields (exprs_until-Yields (codes "}") (inside c) of.1 (j + 1)) (λ es i g. take (λ u. give-Yields (node at (seq h g (omega arith)) (omega arith)))))

  pub behind_head-Yields : (c : Context) (x : Numbered (Placed CoreTree)) {n s j : ℕ} → OfCore' n s j x → Yields (behind_head b c x) j (OfExpr n s)
  unfolding behind_head
  behind_head-Yields c x h = when-Yields _ (list-Yields c (as_type x) x.0.0 (h x.0.0)) (qualified-Yields c (as_type x) x.0.0 (h x.0.0))

  pub behind_core-Yields : (c : Context) (x : Numbered (Placed CoreTree)) {n s j : ℕ} → OfCore' n s j x → Yields (behind_core b c x) j (OfExpr n s)
  unfolding behind_core
  behind_core-Yields c x h = list-Yields c (as_type x) x.0.0 (h x.0.0)

  conditional-Yields : (c : Context) (e : Numbered ExprTree) {n s j : ℕ} → OfExpr n s j e → Yields (conditional b c e) j (OfExpr n s)
  unfolding conditional
  conditional-Yields c e {n} {s} {j} h = take (λ t. then-Yields (k.expr (deeper c) e.1 (j + 1)) (λ x i g. take (λ u. then-Yields (k.expr (deeper c) x.1 (i + 1)) (λ y l g'. give-Yields (
      paid (place_of e.0) (between (seq h g (omega arith)) g' (omega arith)))))))

  assignment-Yields : (c : Context) (e : Numbered ExprTree) {n s j : ℕ} → OfExpr n s j e → Yields (assignment b c e) j (OfExpr n s)
  unfolding assignment
  assignment-Yields c e {n} {s} {j} h = take (λ t. then-Yields (k.expr (deeper c) e.1 (j + 1)) (λ x i g. give-Yields (paid (place_of e.0) (between h g (omega arith)))))

-- ... of a level and the one above it
module _ {b : Below} (k : BelowCounts b) (up : BelowCounts (above b)) where
  pub rests-Yields : (level : ℕ) (c : Context) (e : Numbered ExprTree) {n s j : ℕ} → OfExpr n s j e → Yields (rests b level c e) j (OfExpr n s)
  unfolding rests
  rests-Yields zero c e h = give-Yields h
  rests-Yields (suc level) c e h = then-Yields (rests-Yields level c e h) (λ left i g. up.binary_rest level c left g)

  pub expr_behind-Yields : (c : Context) (e : Numbered ExprTree) {n s j : ℕ} → OfExpr n s j e → Yields (expr_behind b c e) j (OfExpr n s)
  unfolding expr_behind
  expr_behind-Yields c e h = then-Yields (rests-Yields 10 c e h) (λ left i g. when-Yields _ (conditional-Yields k c left g) (when-Yields _ (assignment-Yields k c left g) (give-Yields g)))
