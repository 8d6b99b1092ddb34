-- The nodes of types, in order.
use Rattle.std.proofs.Common.{◌≡◌, ℕ, ◌+◌, ◌<◌, Bool, true, false, List, [], ◌∷◌, ◌++◌, refl, ap, arith}
use Rattle.cx_base.specs.declared.place.Place.{Place}
use Rattle.cx_tree.specs.Trees.{Mark, ExprTree, TypeTree, CoreTree, ArgumentTree, exprs, arguments}
use Rattle.cx_tree.specs.Nodes.{expr_nodes, exprs_nodes, type_nodes, core_nodes, argument_nodes}
use Rattle.cx_grammar.specs.Names.{Context, deeper, inside, listed}
use Rattle.cx_grammar.specs.Types.{Numbered, Named, Placed, Calling, Below, numbered, scalar_behind, word_core, long_core, scalar_core, more_argument, some_arguments, argument_list, qualified_names, class_core, type_name_core, head_core, member_core, decltype_core, void_core, scalar_only, core, maybe_const, maybe_reference, type_behind, const_type, bare_type, type_id}
use Rattle.cx_grammar.proofs.Counts.{Yields, give-Yields, then-Yields, take, past, when-Yields, repeat-Yields, Counted, seq, leaf, node_ahead, later, sooner, as_list, counts_up, argument_marks, arguments_more, arguments_one}

-- what trees give: the nodes from a number and a count of pieces on
abbrev pub Of : {A : Type 0} → (A → List Mark) → ℕ → ℕ → ℕ → Numbered A → Type 0
Of nodes n s k x = Counted n s (nodes x.0) x.1 k

-- ... with names behind them
abbrev pub OfNamed : {A : Type 0} → (A → List Mark) → ℕ → ℕ → ℕ → Named A → Type 0
OfNamed nodes n s k x = Counted n s (nodes x.0) x.1 k

abbrev pub OfExpr : ℕ → ℕ → ℕ → Numbered ExprTree → Type 0
OfExpr n s k x = Counted n s (expr_nodes x.0) x.1 k

abbrev pub OfExprs : ℕ → ℕ → ℕ → Numbered (List ExprTree) → Type 0
OfExprs n s k x = Counted n s (exprs_nodes (exprs x.0)) x.1 k

abbrev pub OfType : ℕ → ℕ → ℕ → Numbered TypeTree → Type 0
OfType n s k x = Counted n s (type_nodes x.0) x.1 k

abbrev pub OfArgument : ℕ → ℕ → ℕ → Numbered ArgumentTree → Type 0
OfArgument n s k x = Counted n s (argument_marks x.0) x.1 k

abbrev pub OfArguments : ℕ → ℕ → ℕ → Numbered (List ArgumentTree) → Type 0
OfArguments n s k x = Counted n s (argument_nodes (arguments x.0)) x.1 k

-- a core, and the node of a type that it makes
abbrev pub OfCore' : ℕ → ℕ → ℕ → Numbered (Placed CoreTree) → Type 0
OfCore' n s k x = (at : Place) → Counted n s (core_nodes x.0.1 ++ numbered x.1 at ∷ []) (x.1 + 1) k

-- the productions of a level
pub record BelowCounts (b : Below) : Type 0 where
  pub expr : (c : Context) (n s : ℕ) → Yields (b.expr c n) s (OfExpr n s)
  pub unary : (c : Context) (n s : ℕ) → Yields (b.unary c n) s (OfExpr n s)
  pub binary_rest : (level : ℕ) (c : Context) (e : Numbered ExprTree) {n s k : ℕ} → OfExpr n s k e → Yields (b.binary_rest level c e) k (OfExpr n s)
  pub operand : (level : ℕ) (c : Context) (n s : ℕ) → Yields (b.operand level c n) s (OfExpr n s)
  pub tail : (calling : Calling) (c : Context) (e : Numbered ExprTree) {n s k : ℕ} → OfExpr n s k e → Yields (b.tail calling c e) k (OfExpr n s)
  pub called : (c : Context) (e : Numbered ExprTree) {n s k : ℕ} → OfExpr n s k e → Yields (b.called c e) k (OfExpr n s)
  pub type : (c : Context) (n s : ℕ) → Yields (b.type c n) s (OfType n s)
  pub core : (c : Context) (n s : ℕ) → Yields (b.core c n) s (OfCore' n s)
  pub argument : (c : Context) (n s : ℕ) → Yields (b.argument c n) s (OfArgument n s)
  pub clause_primary : (c : Context) (n s : ℕ) → Yields (b.clause_primary c n) s (OfExpr n s)
  pub and_rest : (c : Context) (e : Numbered ExprTree) {n s k : ℕ} → OfExpr n s k e → Yields (b.and_rest c e) k (OfExpr n s)
  pub conjunction : (c : Context) (n s : ℕ) → Yields (b.conjunction c n) s (OfExpr n s)
  pub or_rest : (c : Context) (e : Numbered ExprTree) {n s k : ℕ} → OfExpr n s k e → Yields (b.or_rest c e) k (OfExpr n s)

-- ---- scalars

-- a scalar has no nodes, and some piece
abbrev Bare : ℕ → ℕ → Placed CoreTree → Type 0
Bare s k x = (core_nodes x.1 ≡ []) × (s < k)

word_core-Yields : (c : Context) (s : ℕ) → Yields (word_core c) s (Bare s)
unfolding word_core
word_core-Yields c s = take (λ t. past (scalar_behind c t) (λ x j h. give-Yields (refl, omega arith)))

long_core-Yields : (c : Context) (s : ℕ) → Yields (long_core c) s (Bare s)
unfolding long_core
long_core-Yields c s = take (λ t. take (λ u. past _ (λ x j h. give-Yields (refl, omega arith))))

pub scalar_core-Yields : (c : Context) (s : ℕ) → Yields (scalar_core c) s (Bare s)
unfolding scalar_core
scalar_core-Yields c s = when-Yields _ (word_core-Yields c s) (long_core-Yields c s)

bare : {n s k : ℕ} (x : CoreTree) (at : Place) → core_nodes x ≡ [] → s < k → Counted n s (core_nodes x ++ numbered n at ∷ []) (n + 1) k
bare {n} x at e h = as_list (ap (λ (z : List Mark). z ++ numbered n at ∷ []) e) (leaf h)

scalar_only-Yields : (c : Context) (n s : ℕ) → Yields (scalar_only c n) s (OfCore' n s)
unfolding scalar_only
scalar_only-Yields c n s = then-Yields (scalar_core-Yields c s) (λ x j h. give-Yields (λ at. bare x.1 at h.0 h.1))

void_core-Yields : (c : Context) (n s : ℕ) → Yields (void_core c n) s (OfCore' n s)
unfolding void_core
void_core-Yields c n s = take (λ t. give-Yields (λ at. leaf (omega arith)))

pub type_name_core-Yields : (c : Context) (n s : ℕ) → Yields (type_name_core c n) s (OfCore' n s)
unfolding type_name_core
type_name_core-Yields c n s = take (λ t. give-Yields (λ at. leaf (omega arith)))

-- ---- what stands behind a core

pub type_behind-Yields : (c : Context) (at : Place) (before : Bool) (k : Numbered CoreTree) {n s j : ℕ} → ((at : Place) → Counted n s (core_nodes k.0 ++ numbered k.1 at ∷ []) (k.1 + 1) j)
    → Yields (type_behind c at before k) j (OfType n s)
unfolding type_behind
type_behind-Yields c at before k h = past (maybe_const c before) (λ x i up. past (maybe_reference c) (λ y i' up'. give-Yields (later (h at) (omega arith))))

module _ {b : Below} (k : BelowCounts b) where
  more_argument-Yields : (c : Context) (n s : ℕ) (x : Numbered (List ArgumentTree)) (j : ℕ) → OfArguments n s j x → Yields (more_argument b c x) j (OfArguments n s)
  unfolding more_argument
  more_argument-Yields c n s x j h = take (λ t. then-Yields (k.argument c x.1 (j + 1)) (λ a i g. give-Yields (as_list (arguments_more x.0 a.0) (seq h g (omega arith)))))

  some_arguments-Yields : (c : Context) (n s : ℕ) → Yields (some_arguments b c n) s (OfArguments n s)
  unfolding some_arguments
  some_arguments-Yields c n s = then-Yields (k.argument c n s) (λ a i g. repeat-Yields _ (more_argument-Yields c n s) _ i (as_list (arguments_one a.0) g))

  pub argument_list-Yields : (c : Context) (n s : ℕ) → Yields (argument_list b c n) s (λ j x. OfArguments n s j x × (s < j))
  unfolding argument_list
  argument_list-Yields c n s = take (λ t. then-Yields (some_arguments-Yields (listed c) n (s + 1)) (λ a i g. take (λ u. give-Yields (
      let up = counts_up g in
      (sooner (later g (omega arith)) (omega arith), omega arith)))))

  pub class_core-Yields : (c : Context) (n s : ℕ) → Yields (class_core b c n) s (OfCore' n s)
  unfolding class_core
  class_core-Yields c n s = take (λ t. then-Yields (argument_list-Yields c n (s + 1)) (λ a i g. give-Yields (λ at. node_ahead at g.0 (omega arith))))

  head_core-Yields : (c : Context) (n s : ℕ) → Yields (head_core b c n) s (OfCore' n s)
  unfolding head_core
  head_core-Yields c n s = when-Yields _ (class_core-Yields c n s) (type_name_core-Yields c n s)

  member_core-Yields : (c : Context) (n s : ℕ) → Yields (member_core b c n) s (OfCore' n s)
  unfolding member_core
  member_core-Yields c n s = take (λ t. then-Yields (head_core-Yields c n (s + 1)) (λ h i g. past (qualified_names c) (λ names j up. give-Yields (λ at. node_ahead at (later (g h.0.0) up) (omega arith)))))

  decltype_core-Yields : (c : Context) (n s : ℕ) → Yields (decltype_core b c n) s (OfCore' n s)
  unfolding decltype_core
  decltype_core-Yields c n s = take (λ t. take (λ u. then-Yields (k.expr (inside c) n (s + 1 + 1)) (λ e i g. take (λ v. give-Yields (λ at. node_ahead at (later g (omega arith)) (omega arith))))))

  pub core-Yields : (c : Context) (n s : ℕ) → Yields (core b c n) s (OfCore' n s)
  unfolding core
  core-Yields c n s = when-Yields _ (head_core-Yields c n s) (when-Yields _ (member_core-Yields c n s) (when-Yields _ (decltype_core-Yields c n s) (when-Yields _ (void_core-Yields c n s) (scalar_only-Yields c n s))))

  pub const_type-Yields : (c : Context) (n s : ℕ) → Yields (const_type b c n) s (OfType n s)
  unfolding const_type
  const_type-Yields c n s = take (λ t. then-Yields (k.core (deeper c) n (s + 1)) (λ x i g. type_behind-Yields c t.token.at true (x.0.1, x.1) (λ at. sooner (g at) (omega arith))))

  bare_type-Yields : (c : Context) (n s : ℕ) → Yields (bare_type b c n) s (OfType n s)
  unfolding bare_type
  bare_type-Yields c n s = then-Yields (k.core (deeper c) n s) (λ x i g. type_behind-Yields c x.0.0 false (x.0.1, x.1) g)

  pub type_id-Yields : (c : Context) (n s : ℕ) → Yields (type_id b c n) s (OfType n s)
  unfolding type_id
  type_id-Yields c n s = when-Yields _ (const_type-Yields c n s) (bare_type-Yields c n s)
