-- The nodes of statements, in order.
use Rattle.std.proofs.Common.{◌≡◌, ℕ, ◌+◌, ◌<◌, ◌≤◌, Bool, List, [], ◌∷◌, ◌++◌, Option, Some, None, refl, ap, sym, ◌∙◌, append-nil, append_assoc, arith, codes}
use Rattle.std.specs.List.{flat_map}
use Rattle.cx_base.specs.declared.place.Place.{Place}
use Rattle.cx_tree.specs.Trees.{Mark, ExprTree, TypeTree, CoreTree, ArgumentTrees, no_argument, and_type, and_value, ConstraintTree}
use Rattle.cx_tree.specs.Nodes.{expr_nodes, argument_nodes}
use Rattle.cx_tree.specs.Statements.{AutoTree, ForInit, StmtTree, Break, Continue, stmts}
use Rattle.cx_grammar.specs.Production.{Production}
use Rattle.cx_grammar.specs.Names.{Context, deeper, inside}
use Rattle.cx_grammar.specs.Types.{Numbered, Placed, NoCall, MayCall, Below, placed_scalar, scalar_of_word, scalar_behind, Named}
use Rattle.cx_grammar.specs.Expressions.{above}
use Rattle.cx_grammar.specs.Statements.{Within, with_arguments, concept_expr, condition, value_init, list_init, init, variable_behind, auto_variable_behind, const_behind_auto, reference_behind_auto, auto_behind, variable_of, variable_of_auto, expr_stmt_of, core_stmt, head_stmt, word_stmt, typed_variable, constrained_auto, plain_auto, const_variable, variable, concept_stmt, expr_stmt, open_stmt, assertion, more_stmt, block, substatement, alternative, if_stmt, while_stmt, maybe_expr, as_init, next_behind, for_init, for_head, for_stmt, return_stmt, jump, empty_stmt, closed_stmt, bare_stmt, stmt}
use Rattle.cx_grammar.proofs.Counts.{Yields, give-Yields, then-Yields, take, past, when-Yields, repeat-Yields, Counted, seq, none, leaf, node, node_ahead, later, sooner, as_list}
use Rattle.cx_grammar.proofs.NumbersTypes.{Of, OfNamed, OfExpr, OfType, OfCore', BelowCounts, type_behind-Yields, type_id-Yields}
use Rattle.cx_grammar.proofs.NumbersRequires.{constraint-Yields}
use Rattle.cx_grammar.proofs.NumbersExpressions.{expr-Yields}
use Rattle.cx_tree.specs.UnitNodes.{maybe_expr_nodes, maybe_constraint_nodes, auto_nodes, init_nodes, variable_nodes, for_init_nodes, assert_nodes, stmt_nodes, stmts_nodes, parameter_nodes, member_nodes, template_parameter_nodes, decl_nodes}
use Rattle.cx_grammar.proofs.Spared.{Spared, ahead, behind, between, then_more, paid}
use Rattle.cx_grammar_laws.proofs.NumbersBehind.{exprs_until-Yields, behind_head-Yields, behind_core-Yields, expr_behind-Yields}

-- what trees give: the nodes from a number and a count of pieces on
abbrev pub OfStmts : ℕ → ℕ → ℕ → Named (List StmtTree) → Type 0
OfStmts n s k x = Counted n s (stmts_nodes (stmts x.0)) x.1 k

abbrev pub OfHead : ℕ → ℕ → ℕ → Named (ForInit × Option ExprTree × Option ExprTree) → Type 0
OfHead n s k x = Counted n s (for_init_nodes x.0.0 ++ maybe_expr_nodes x.0.1 ++ maybe_expr_nodes x.0.2) x.1 k

-- a statement, and what it is in the head of a `for`
abbrev pub OfOpen : ℕ → ℕ → ℕ → Named StmtTree → Type 0
OfOpen n s k x = Counted n s (stmt_nodes x.0) x.1 k × Counted n s (for_init_nodes (as_init x.0)) (next_behind x.0 x.1) k

-- the productions of a level; a piece before parameters pays for the first one
pub record WithinCounts (b : Within) : Type 0 where
  pub base : BelowCounts b.base
  pub over : BelowCounts (above b.base)
  pub stmt : (c : Context) (n s : ℕ) → Yields (b.stmt c n) s (OfNamed stmt_nodes n s)
  pub bare : (c : Context) (n s : ℕ) → Yields (b.bare c n) s (OfNamed stmt_nodes n s)
  pub head : (c : Context) (n s : ℕ) → Yields (b.head c n) s (OfHead n s)
  pub parameters : (autos : Bool) (c : Context) (n s j : ℕ) → s < j → Yields (b.parameters autos c n) j (OfNamed (flat_map parameter_nodes) n s)
  pub members : (templated : Bool) (c : Context) (n s : ℕ) → Yields (b.members templated c n) s (Of (flat_map member_nodes) n s)
  pub template_parameters : (c : Context) (n s j : ℕ) → s < j → Yields (b.template_parameters c n) j (OfNamed (flat_map template_parameter_nodes) n s)
  pub decl : (c : Context) (n s : ℕ) → Yields (b.decl c n) s (OfNamed decl_nodes n s)

-- ---- the nodes of lists, and of the expression that a concept's name is

stmts_more : (ss : List StmtTree) (s : StmtTree) → stmts_nodes (stmts (ss ++ s ∷ [])) ≡ stmts_nodes (stmts ss) ++ stmt_nodes s
stmts_more [] s = append-nil (stmt_nodes s)
stmts_more (x ∷ ss) s = ap (λ (z : List Mark). stmt_nodes x ++ z) (stmts_more ss s) ∙ sym (append_assoc (stmt_nodes x) (stmts_nodes (stmts ss)) (stmt_nodes s))

with_arguments-nodes : (m : Mark) (name : List ℕ) (args : ArgumentTrees) → expr_nodes (with_arguments m name args) ≡ argument_nodes args ++ m ∷ []
with_arguments-nodes m name no_argument = refl
with_arguments-nodes m name (and_type t rest) = refl
with_arguments-nodes m name (and_value e rest) = refl

-- ---- initialisers and variables

module _ {b : Below} (k : BelowCounts b) where
  condition-Yields : (c : Context) (n s : ℕ) → Yields (condition b c n) s (OfExpr n s)
  unfolding condition
  condition-Yields c n s = take (λ t. then-Yields (k.expr (inside c) n (s + 1)) (λ e i g. take (λ u. give-Yields (later (sooner g (omega arith)) (omega arith)))))

  value_init-Yields : (c : Context) (n s : ℕ) → Yields (value_init b c n) s (Of init_nodes n s)
  unfolding value_init
  value_init-Yields c n s = take (λ t. then-Yields (expr-Yields k c n (s + 1)) (λ e i g. give-Yields (sooner g (omega arith))))

  list_init-Yields : (c : Context) (n s : ℕ) → Yields (list_init b c n) s (Of init_nodes n s)
  unfolding list_init
  list_init-Yields c n s = take (λ t. then-Yields (exprs_until-Yields k (codes "}") (inside c) n (s + 1)) (λ es i g. take (λ u. give-Yields (node_ahead _ (later g (omega arith)) (omega arith)))))

  pub init-Yields : (c : Context) (n s : ℕ) → Yields (init b c n) s (Of init_nodes n s)
  unfolding init
  init-Yields c n s = when-Yields _ (list_init-Yields c n s) (value_init-Yields c n s)

  variable_behind-Yields : (c : Context) (is_constexpr : Bool) (of : Numbered TypeTree) {n s j : ℕ} → OfType n s j of → Yields (variable_behind b c is_constexpr of) j (OfNamed variable_nodes n s)
  unfolding variable_behind
  variable_behind-Yields c is_constexpr of {n} {s} {j} h = take (λ t. then-Yields (init-Yields c of.1 (j + 1)) (λ i l g. take (λ u. give-Yields (paid _ (between h (later g (omega arith)) (omega arith))))))

  auto_variable_behind-Yields : (c : Context) (is_constexpr : Bool) (of : Numbered AutoTree) {n s j : ℕ} → Of auto_nodes n s j of → Yields (auto_variable_behind b c is_constexpr of) j (OfNamed variable_nodes n s)
  unfolding auto_variable_behind
  auto_variable_behind-Yields c is_constexpr of {n} {s} {j} h = take (λ t. then-Yields (value_init-Yields c of.1 (j + 1)) (λ i l g. take (λ u. give-Yields (paid _ (between h (later g (omega arith)) (omega arith))))))

pub auto_behind-Yields : (c : Context) (at : Option Place) (before : Bool) (constrained : Option ConstraintTree) {n s m j : ℕ} → Counted n s (maybe_constraint_nodes constrained) m j
    → Yields (auto_behind c at before constrained m) j (Of auto_nodes n s)
unfolding auto_behind
auto_behind-Yields c at before constrained h = take (λ t. past (const_behind_auto c before) (λ constant i up. past (reference_behind_auto c) (λ reference l up'. give-Yields (node _ h (omega arith)))))

-- ---- variables and expressions as statements

module _ {b : Below} (k : BelowCounts b) where
  variable_of-Yields : (c : Context) (is_constexpr : Bool) (of : Numbered TypeTree) {n s j : ℕ} → OfType n s j of → Yields (variable_of b c is_constexpr of) j (OfOpen n s)
  unfolding variable_of
  variable_of-Yields c is_constexpr of h = then-Yields (variable_behind-Yields k c is_constexpr of h) (λ v i g. give-Yields (g, g))

  variable_of_auto-Yields : (c : Context) (is_constexpr : Bool) (of : Numbered AutoTree) {n s j : ℕ} → Of auto_nodes n s j of → Yields (variable_of_auto b c is_constexpr of) j (OfOpen n s)
  unfolding variable_of_auto
  variable_of_auto-Yields c is_constexpr of h = then-Yields (auto_variable_behind-Yields k c is_constexpr of h) (λ v i g. give-Yields (g, g))

  typed_variable-Yields : (c : Context) (is_constexpr : Bool) (n s j : ℕ) → s ≤ j → Yields (typed_variable b c is_constexpr n) j (OfOpen n s)
  unfolding typed_variable
  typed_variable-Yields c is_constexpr n s j up = then-Yields (type_id-Yields k c n j) (λ of i g. variable_of-Yields c is_constexpr of (sooner g up))

  constrained_auto-Yields : (c : Context) (at : Option Place) (is_constexpr : Bool) (before : Bool) (n s j : ℕ) → s ≤ j → Yields (constrained_auto b c at is_constexpr before n) j (OfOpen n s)
  unfolding constrained_auto
  constrained_auto-Yields c at is_constexpr before n s j up = then-Yields (constraint-Yields k c n j) (λ x i g. then-Yields (auto_behind-Yields c _ before (Some x.0) (sooner g up)) (λ a l g'. variable_of_auto-Yields c is_constexpr a g'))

  plain_auto-Yields : (c : Context) (at : Option Place) (is_constexpr : Bool) (before : Bool) (n s j : ℕ) → s ≤ j → Yields (plain_auto b c at is_constexpr before n) j (OfOpen n s)
  unfolding plain_auto
  plain_auto-Yields c at is_constexpr before n s j up = then-Yields (auto_behind-Yields c at before None (none up)) (λ a l g. variable_of_auto-Yields c is_constexpr a g)

  const_variable-Yields : (c : Context) (is_constexpr : Bool) (n s j : ℕ) → s ≤ j → Yields (const_variable b c is_constexpr n) j (OfOpen n s)
  unfolding const_variable
  const_variable-Yields c is_constexpr n s j up = take (λ t. when-Yields _ (constrained_auto-Yields c _ is_constexpr _ n s (j + 1) (omega arith)) (when-Yields _ (plain_auto-Yields c _ is_constexpr _ n s (j + 1) (omega arith))
      (then-Yields (k.core (deeper c) n (j + 1)) (λ x i g. then-Yields (type_behind-Yields c t.token.at _ (x.0.1, x.1) (λ at. sooner (g at) (omega arith))) (λ of l g'. variable_of-Yields c is_constexpr of g')))))

  variable-Yields : (c : Context) (is_constexpr : Bool) (n s j : ℕ) → s ≤ j → Yields (variable b c is_constexpr n) j (OfOpen n s)
  unfolding variable
  variable-Yields c is_constexpr n s j up = when-Yields _ (const_variable-Yields c is_constexpr n s j up) (when-Yields _ (constrained_auto-Yields c None is_constexpr _ n s j up)
      (when-Yields _ (plain_auto-Yields c None is_constexpr _ n s j up) (typed_variable-Yields c is_constexpr n s j up)))

  expr_stmt-Yields : (c : Context) (n s : ℕ) → Yields (expr_stmt b c n) s (OfOpen n s)
  unfolding expr_stmt
  expr_stmt-Yields c n s = then-Yields (expr-Yields k c n s) (λ e i g. take (λ t. give-Yields (node _ g (omega arith), later g (omega arith))))

  pub assertion-Yields : (c : Context) (n s : ℕ) → Yields (assertion b c n) s (Of assert_nodes n s)
  unfolding assertion
  assertion-Yields c n s = take (λ t. take (λ o. then-Yields (k.expr (inside c) n (s + 1 + 1)) (λ e i g. past _ (λ message j up. take (λ u. take (λ v. give-Yields (node_ahead _ (later g (omega arith)) (omega arith))))))))

  pub maybe_expr-Yields : (closing : List ℕ) (c : Context) (n s : ℕ) → Yields (maybe_expr closing b c n) s (Of maybe_expr_nodes n s)
  unfolding maybe_expr
  maybe_expr-Yields closing c n s = when-Yields _ (give-Yields (none (omega arith))) (then-Yields (expr-Yields k c n s) (λ e i g. give-Yields g))

  return_stmt-Yields : (c : Context) (n s : ℕ) → Yields (return_stmt b c n) s (Of stmt_nodes n s)
  unfolding return_stmt
  return_stmt-Yields c n s = take (λ t. then-Yields (maybe_expr-Yields (codes ";") c n (s + 1)) (λ e i g. take (λ u. give-Yields (node_ahead _ (later g (omega arith)) (omega arith)))))

module _ {b : Below} (k : BelowCounts b) (up : BelowCounts (above b)) where
  expr_stmt_of-Yields : (c : Context) (first : Numbered ExprTree) {n s j : ℕ} → OfExpr n s j first → Yields (expr_stmt_of b c first) j (OfOpen n s)
  unfolding expr_stmt_of
  expr_stmt_of-Yields c first h = then-Yields (expr_behind-Yields k up c first h) (λ e i g. take (λ t. give-Yields (node _ g (omega arith), later g (omega arith))))

  core_stmt-Yields : (c : Context) (x : Numbered (Placed CoreTree)) {n s j : ℕ} → OfCore' n s j x → Yields (core_stmt b c x) j (OfOpen n s)
  unfolding core_stmt
  core_stmt-Yields c x h = when-Yields _ (then-Yields (behind_core-Yields k c x h) (λ p i g. then-Yields (up.tail NoCall c p g) (λ e l g'. expr_stmt_of-Yields c e g')))
      (then-Yields (type_behind-Yields c x.0.0 _ (x.0.1, x.1) h) (λ of i g. variable_of-Yields k c _ of g))

  head_stmt-Yields : (c : Context) (x : Numbered (Placed CoreTree)) {n s j : ℕ} → OfCore' n s j x → Yields (head_stmt b c x) j (OfOpen n s)
  unfolding head_stmt
  head_stmt-Yields c x h = when-Yields _ (then-Yields (behind_head-Yields k c x h) (λ p i g. then-Yields (up.tail NoCall c p g) (λ e l g'. expr_stmt_of-Yields c e g')))
      (then-Yields (type_behind-Yields c x.0.0 _ (x.0.1, x.1) h) (λ of i g. variable_of-Yields k c _ of g))

  word_stmt-Yields : (c : Context) (n s : ℕ) → Yields (word_stmt b c n) s (OfOpen n s)
  unfolding word_stmt
  word_stmt-Yields c n s = take (λ t. when-Yields _
      (then-Yields (behind_core-Yields k c (placed_scalar t (scalar_of_word t), n) (λ at. leaf (omega arith))) (λ p i g. then-Yields (up.tail NoCall c p g) (λ e l g'. expr_stmt_of-Yields c e g')))
      (past (scalar_behind (deeper c) t) (λ x i more. then-Yields (type_behind-Yields c t.token.at _ ((placed_scalar t x).1, n) (λ at. leaf (omega arith))) (λ of l g. variable_of-Yields k c _ of g))))

  concept_stmt-Yields : (c : Context) (n s : ℕ) → Yields (concept_stmt b c n) s (OfOpen n s)
  unfolding concept_stmt
  concept_stmt-Yields c n s = then-Yields (constraint-Yields k c n s) (λ x i g. when-Yields _
      (then-Yields (auto_behind-Yields c _ _ (Some x.0) g) (λ a l g'. variable_of_auto-Yields k c _ a g'))
      (then-Yields (up.tail MayCall c (concept_expr x.0, x.1) (as_list (with_arguments-nodes x.0.mark x.0.name x.0.args) g)) (λ e l g'. expr_stmt_of-Yields c e g')))

  open_stmt-Yields : (c : Context) (n s : ℕ) → Yields (open_stmt b c n) s (OfOpen n s)
  unfolding open_stmt
  open_stmt-Yields c n s = when-Yields _ (take (λ t. variable-Yields k c _ n s (s + 1) (omega arith)))
      (when-Yields _ (const_variable-Yields k c _ n s s (omega arith))
      (when-Yields _ (plain_auto-Yields k c None _ _ n s s (omega arith))
      (when-Yields _ (concept_stmt-Yields c n s)
      (when-Yields _ (then-Yields (k.core (deeper c) n s) (λ x i g. head_stmt-Yields c x g))
      (when-Yields _ (then-Yields (k.core (deeper c) n s) (λ x i g. core_stmt-Yields c x g))
      (when-Yields _ (word_stmt-Yields c n s)
      (when-Yields _ (typed_variable-Yields k c _ n s s (omega arith)) (expr_stmt-Yields k c n s))))))))

  for_init-Yields : (c : Context) (n s : ℕ) → Yields (for_init b c n) s (OfNamed for_init_nodes n s)
  unfolding for_init
  for_init-Yields c n s = when-Yields _ (take (λ t. give-Yields (none (omega arith)))) (then-Yields (open_stmt-Yields c n s) (λ x i g. give-Yields g.1))

  pub for_head-Yields : (c : Context) (n s : ℕ) → Yields (for_head b c n) s (OfHead n s)
  unfolding for_head
  for_head-Yields c n s = then-Yields (for_init-Yields c n s) (λ x i g. then-Yields (maybe_expr-Yields k (codes ";") _ x.1 i) (λ test j g'. take (λ t. then-Yields (maybe_expr-Yields k (codes ")") _ test.1 (j + 1)) (λ step l g''. give-Yields (
      seq (seq g g' (omega arith)) g'' (omega arith))))))

-- ---- the other statements

only_stmt : {p : Production (Named StmtTree)} {n s : ℕ} → Yields p s (OfOpen n s) → Yields p s (OfNamed stmt_nodes n s)
only_stmt h = record { yields = λ l us rest x w. (h.yields l us rest x w).0 }

jump-Yields : (text : List ℕ) (make : Mark → StmtTree) (c : Context) (n s : ℕ) → ((m : Mark) → stmt_nodes (make m) ≡ m ∷ []) → Yields (jump text make c n) s (Of stmt_nodes n s)
unfolding jump
jump-Yields text make c n s h = take (λ t. take (λ u. give-Yields (as_list (h _) (leaf (omega arith)))))

empty_stmt-Yields : (c : Context) (n s : ℕ) → Yields (empty_stmt c n) s (Of stmt_nodes n s)
unfolding empty_stmt
empty_stmt-Yields c n s = take (λ t. give-Yields (leaf (omega arith)))

closed_stmt-Yields : (c : Context) {p : Production (Numbered StmtTree)} {n s : ℕ} → Yields p s (Of stmt_nodes n s) → Yields (closed_stmt c p) s (OfNamed stmt_nodes n s)
closed_stmt-Yields c h = then-Yields h (λ x i g. give-Yields g)

module _ {b : Within} (k : WithinCounts b) where
  more_stmt-Yields : (c : Context) (n s : ℕ) (x : Named (List StmtTree)) (j : ℕ) → OfStmts n s j x → Yields (more_stmt b c x) j (OfStmts n s)
  more_stmt-Yields c n s x j h = then-Yields (k.stmt _ x.1 j) (λ y i g. give-Yields (as_list (stmts_more x.0 y.0) (seq h g (omega arith))))

  -- a brace is to spare
  pub block-Yields : (c : Context) (n s : ℕ) → Yields (block b c n) s (λ j x. Spared n s (stmt_nodes x.0) x.1 j)
  unfolding block
  block-Yields c n s = take (λ t. then-Yields (repeat-Yields _ (more_stmt-Yields (inside c) n (s + 1)) _ (s + 1) (none (omega arith))) (λ ss i g. take (λ u. give-Yields (behind (node_ahead _ g (omega arith)) (omega arith)))))

  substatement-Yields : (c : Context) (n s : ℕ) → Yields (substatement b c n) s (Of stmt_nodes n s)
  unfolding substatement
  substatement-Yields c n s = then-Yields (k.bare _ n s) (λ x i g. give-Yields g)

  alternative-Yields : (c : Context) (at : Mark) (is_constexpr : Bool) (test : ExprTree) (then' : Numbered StmtTree) {n s j : ℕ} → Spared n s (expr_nodes test ++ stmt_nodes then'.0) then'.1 j
      → Yields (alternative b c at is_constexpr test then') j (Of stmt_nodes n s)
  unfolding alternative
  alternative-Yields c at is_constexpr test then' {n} {s} {j} h = when-Yields _ (take (λ t. then-Yields (substatement-Yields c then'.1 (j + 1)) (λ x i g. give-Yields (paid at.at (then_more h g (omega arith)))))) (give-Yields (paid at.at h))

  if_stmt-Yields : (c : Context) (n s : ℕ) → Yields (if_stmt b c n) s (Of stmt_nodes n s)
  unfolding if_stmt
  if_stmt-Yields c n s = take (λ t. past _ (λ is_constexpr j up. then-Yields (condition-Yields k.base c n j) (λ test i g. then-Yields (substatement-Yields c test.1 i) (λ x l g'. alternative-Yields c _ is_constexpr test.0 x (ahead (seq g g' (omega arith)) (omega arith))))))

  while_stmt-Yields : (c : Context) (n s : ℕ) → Yields (while_stmt b c n) s (Of stmt_nodes n s)
  unfolding while_stmt
  while_stmt-Yields c n s = take (λ t. then-Yields (condition-Yields k.base c n (s + 1)) (λ test i g. then-Yields (substatement-Yields c test.1 i) (λ x l g'. give-Yields (node_ahead _ (seq g g' (omega arith)) (omega arith)))))

  for_stmt-Yields : (c : Context) (n s : ℕ) → Yields (for_stmt b c n) s (Of stmt_nodes n s)
  unfolding for_stmt
  for_stmt-Yields c n s = take (λ t. take (λ o. then-Yields (k.head _ n (s + 1 + 1)) (λ h i g. take (λ u. then-Yields (substatement-Yields _ h.1 (i + 1)) (λ x l g'. give-Yields (node_ahead _ (seq g g' (omega arith)) (omega arith)))))))

  pub bare_stmt-Yields : (c : Context) (n s : ℕ) → Yields (bare_stmt b c n) s (OfNamed stmt_nodes n s)
  unfolding bare_stmt
  bare_stmt-Yields c n s = when-Yields _ (closed_stmt-Yields c (empty_stmt-Yields c n s))
      (when-Yields _ (then-Yields (block-Yields c n s) (λ x i g. give-Yields g.counted))
      (when-Yields _ (then-Yields (assertion-Yields k.base c n s) (λ a i g. give-Yields g))
      (when-Yields _ (closed_stmt-Yields c (jump-Yields (codes "break") Break c n s (λ m. refl)))
      (when-Yields _ (closed_stmt-Yields c (jump-Yields (codes "continue") Continue c n s (λ m. refl)))
      (when-Yields _ (closed_stmt-Yields c (return_stmt-Yields k.base c n s))
      (when-Yields _ (closed_stmt-Yields c (if_stmt-Yields c n s))
      (when-Yields _ (closed_stmt-Yields c (while_stmt-Yields c n s))
      (when-Yields _ (closed_stmt-Yields c (for_stmt-Yields c n s)) (only_stmt (open_stmt-Yields k.base k.over c n s))))))))))

  pub stmt-Yields : (c : Context) (n s : ℕ) → Yields (stmt b c n) s (OfNamed stmt_nodes n s)
  unfolding stmt
  stmt-Yields c n s = k.bare (deeper c) n s
