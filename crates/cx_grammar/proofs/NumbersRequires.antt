-- The nodes of requires-expressions and constraints, in order.
use Rattle.std.proofs.Common.{◌≡◌, ℕ, ◌+◌, ◌<◌, List, [], ◌∷◌, ◌++◌, Some, None, sym, ap, ◌∙◌, append-nil, append_assoc, arith}
use Rattle.cx_tree.specs.Trees.{Mark, TypeTree, VoidTree, LocalTree, RequirementTree, SimpleRequirement, TypeRequirement, CompoundRequirement, NestedRequirement, RequirementTrees, no_requirement, with_requirement, locals, requirements}
use Rattle.cx_tree.specs.Nodes.{expr_nodes, type_nodes, argument_nodes, locals_nodes, requirements_nodes}
use Rattle.cx_tree.specs.UnitNodes.{constraint_nodes, maybe_constraint_nodes}
use Rattle.cx_grammar.specs.Names.{Context, deeper, inside}
use Rattle.cx_grammar.specs.Types.{Numbered, Named, Below, qualified_names}
use Rattle.cx_grammar.specs.Requires.{constraint, local_behind, local, more_local, locals_behind, void_locals, some_locals, maybe_locals, simple_requirement, maybe_names, required_type, type_requirement, maybe_constraint, compound_requirement, nested_requirement, requirement, more_requirement, some_requirements, requires_expr, maybe_requires}
use Rattle.cx_grammar.proofs.Counts.{Yields, give-Yields, then-Yields, take, past, when-Yields, given-Yields, unread-Yields, repeat-Yields, Counted, seq, none, leaf, node, node_ahead, later, sooner, as_list}
use Rattle.cx_grammar.proofs.Spared.{Spared, ahead, paid}
use Rattle.cx_grammar.proofs.NumbersTypes.{Of, OfNamed, OfExpr, BelowCounts, argument_list-Yields, class_core-Yields, type_name_core-Yields, type_behind-Yields, type_id-Yields}

-- ---- the nodes of lists

abbrev local_marks : LocalTree → List Mark
local_marks p = type_nodes p.type ++ p.mark ∷ []

abbrev pub requirement_marks : RequirementTree → List Mark
requirement_marks (SimpleRequirement m e) = expr_nodes e ++ m ∷ []
requirement_marks (TypeRequirement m head names) = type_nodes head ++ m ∷ []
requirement_marks (CompoundRequirement m e k) = expr_nodes e ++ maybe_constraint_nodes k ++ m ∷ []
requirement_marks (NestedRequirement m e) = expr_nodes e ++ m ∷ []

locals_more : (ps : List LocalTree) (p : LocalTree) → locals_nodes (locals (ps ++ p ∷ [])) ≡ locals_nodes (locals ps) ++ local_marks p
locals_more [] p = sym (append_assoc (type_nodes p.type) (p.mark ∷ []) [])
    ∙ append-nil (local_marks p)
locals_more (x ∷ ps) p =
    ap (λ (z : List Mark). type_nodes x.type ++ x.mark ∷ z) (locals_more ps p) ∙ sym (append_assoc (type_nodes x.type) (x.mark ∷ locals_nodes (locals ps)) (local_marks p))

requirements_first : (r : RequirementTree) (rest : RequirementTrees) → requirements_nodes (with_requirement r rest) ≡ requirement_marks r ++ requirements_nodes rest
requirements_first (SimpleRequirement m e) rest = sym (append_assoc (expr_nodes e) (m ∷ []) (requirements_nodes rest))
requirements_first (TypeRequirement m head names) rest = sym (append_assoc (type_nodes head) (m ∷ []) (requirements_nodes rest))
requirements_first (CompoundRequirement m e None) rest =
    sym (append_assoc (expr_nodes e ++ []) (m ∷ []) (requirements_nodes rest) ∙ ap (λ (z : List Mark). z ++ m ∷ requirements_nodes rest) (append-nil (expr_nodes e)))
requirements_first (CompoundRequirement m e (Some k)) rest =
    let a = argument_nodes k.args in
    let behind = requirements_nodes rest in
    sym (append_assoc (expr_nodes e ++ (a ++ k.mark ∷ [])) (m ∷ []) behind
    ∙ ap (λ (z : List Mark). z ++ m ∷ behind) (sym (append_assoc (expr_nodes e) a (k.mark ∷ [])))
    ∙ append_assoc (expr_nodes e ++ a) (k.mark ∷ []) (m ∷ behind))
requirements_first (NestedRequirement m e) rest = sym (append_assoc (expr_nodes e) (m ∷ []) (requirements_nodes rest))

requirements_more : (rs : List RequirementTree) (r : RequirementTree) → requirements_nodes (requirements (rs ++ r ∷ [])) ≡ requirements_nodes (requirements rs) ++ requirement_marks r
requirements_more [] r = requirements_first r no_requirement ∙ append-nil (requirement_marks r)
requirements_more (x ∷ rs) r =
    requirements_first x (requirements (rs ++ r ∷ []))
    ∙ ap (λ (z : List Mark). requirement_marks x ++ z) (requirements_more rs r)
    ∙ sym (append_assoc (requirement_marks x) (requirements_nodes (requirements rs)) (requirement_marks r))
    ∙ ap (λ (z : List Mark). z ++ requirement_marks r) (sym (requirements_first x (requirements rs)))

-- ---- productions

abbrev OfLocals : ℕ → ℕ → ℕ → Named (List LocalTree) → Type 0
OfLocals n s k x = Counted n s (locals_nodes (locals x.0)) x.1 k

abbrev OfRequirements : ℕ → ℕ → ℕ → Numbered (List RequirementTree) → Type 0
OfRequirements n s k x = Counted n s (requirements_nodes (requirements x.0)) x.1 k

-- a type and the names behind it
abbrev OfRequired : ℕ → ℕ → ℕ → Numbered (TypeTree × List (List ℕ)) → Type 0
OfRequired n s k x = Counted n s (type_nodes x.0.0) x.1 k

local_behind-Yields : (c : Context) (of : Numbered TypeTree) {n s j : ℕ} → Spared n s (type_nodes of.0) of.1 j → Yields (local_behind c of) j (OfNamed local_marks n s)
unfolding local_behind
local_behind-Yields c of h = when-Yields _ (take (λ t. give-Yields (later (paid _ h) (omega arith)))) (give-Yields (paid _ h))

module _ {b : Below} (k : BelowCounts b) where
  pub constraint-Yields : (c : Context) (n s : ℕ) → Yields (constraint b c n) s (Of constraint_nodes n s)
  unfolding constraint
  constraint-Yields c n s = take (λ t. when-Yields _ (then-Yields (argument_list-Yields k c n (s + 1)) (λ a i g. give-Yields (node_ahead _ g.0 (omega arith)))) (give-Yields (leaf (omega arith))))

  local-Yields : (c : Context) (n s j : ℕ) → s < j → Yields (local b c n) j (OfNamed local_marks n s)
  unfolding local
  local-Yields c n s j up = then-Yields (type_id-Yields k c n j) (λ of l g. local_behind-Yields c of (ahead g up))

  more_local-Yields : (c : Context) (n s : ℕ) (x : Named (List LocalTree)) (j : ℕ) → OfLocals n s j x → Yields (more_local b c x) j (OfLocals n s)
  more_local-Yields c n s x j h = take (λ t. then-Yields (local-Yields _ x.1 j (j + 1) (omega arith)) (λ y i g. give-Yields (as_list (locals_more x.0 y.0) (seq h g (omega arith)))))

  locals_behind-Yields : (c : Context) (first : Named LocalTree) {n s j : ℕ} → OfNamed local_marks n s j first → Yields (locals_behind b c first) j (OfLocals n s)
  unfolding locals_behind
  locals_behind-Yields c first {n} {s} {j} h = repeat-Yields _ (more_local-Yields c n s) _ j (as_list (locals_more [] first.0) h)

  void_locals-Yields : (c : Context) (n s j : ℕ) → s < j → Yields (void_locals b c n) j (OfLocals n s)
  unfolding void_locals
  void_locals-Yields c n s j up = take (λ t. when-Yields _ (give-Yields (none (omega arith)))
      (then-Yields (type_behind-Yields c t.token.at _ (VoidTree, n) {s = j} (λ at. leaf (omega arith))) (λ of l g. then-Yields (local_behind-Yields c of (ahead g up)) (λ first i g'. locals_behind-Yields c first g'))))

  some_locals-Yields : (c : Context) (n s j : ℕ) → s < j → Yields (some_locals b c n) j (OfLocals n s)
  unfolding some_locals
  some_locals-Yields c n s j up = when-Yields _ (give-Yields (none (omega arith))) (when-Yields _ (void_locals-Yields c n s j up)
      (then-Yields (local-Yields c n s j up) (λ first i g. locals_behind-Yields c first g)))

  maybe_locals-Yields : (c : Context) (n s : ℕ) → Yields (maybe_locals b c n) s (OfLocals n s)
  unfolding maybe_locals
  maybe_locals-Yields c n s = when-Yields _ (take (λ t. then-Yields (some_locals-Yields _ n s (s + 1) (omega arith)) (λ ps i g. take (λ u. give-Yields (later g (omega arith)))))) (give-Yields (none (omega arith)))

  required_type-Yields : (c : Context) (n s : ℕ) → Yields (required_type b c n) s (OfRequired n s)
  unfolding required_type
  required_type-Yields c n s = when-Yields _ (then-Yields (class_core-Yields k c n s) (λ x i g. past (maybe_names c) (λ names j up. give-Yields (later (g x.0.0) up))))
      (then-Yields (type_name_core-Yields c n s) (λ x i g. past (qualified_names c) (λ names j up. give-Yields (later (g x.0.0) up))))

  type_requirement-Yields : (c : Context) (n s : ℕ) → Yields (type_requirement b c n) s (Of requirement_marks n s)
  unfolding type_requirement
  type_requirement-Yields c n s = take (λ t. then-Yields (required_type-Yields _ n (s + 1)) (λ of i g. take (λ u. give-Yields (node_ahead _ (later g (omega arith)) (omega arith)))))

  simple_requirement-Yields : (c : Context) (n s : ℕ) → Yields (simple_requirement b c n) s (Of requirement_marks n s)
  unfolding simple_requirement
  simple_requirement-Yields c n s = then-Yields (k.expr (deeper c) n s) (λ e i g. take (λ t. give-Yields (node _ g (omega arith))))

  maybe_constraint-Yields : (c : Context) (n s : ℕ) → Yields (maybe_constraint b c n) s (Of maybe_constraint_nodes n s)
  unfolding maybe_constraint
  maybe_constraint-Yields c n s = when-Yields _ (take (λ t. then-Yields (constraint-Yields c n (s + 1)) (λ x i g. give-Yields (sooner g (omega arith))))) (give-Yields (none (omega arith)))

  compound_requirement-Yields : (c : Context) (n s : ℕ) → Yields (compound_requirement b c n) s (Of requirement_marks n s)
  unfolding compound_requirement
  compound_requirement-Yields c n s = take (λ t. then-Yields (k.expr (inside (deeper c)) n (s + 1)) (λ e i g. take (λ u. then-Yields (maybe_constraint-Yields _ e.1 (i + 1)) (λ x j g'. take (λ v. give-Yields (
      node_ahead _ (later (seq g g' (omega arith)) (omega arith)) (omega arith)))))))

  nested_requirement-Yields : (c : Context) (n s : ℕ) → Yields (nested_requirement b c n) s (Of requirement_marks n s)
  unfolding nested_requirement
  nested_requirement-Yields c n s = take (λ t. then-Yields (k.operand 10 (deeper c) n (s + 1)) (λ e i g. take (λ u. give-Yields (node_ahead _ (later g (omega arith)) (omega arith)))))

  pub requirement-Yields : (c : Context) (n s : ℕ) → Yields (requirement b c n) s (Of requirement_marks n s)
  unfolding requirement
  requirement-Yields c n s = when-Yields _ (type_requirement-Yields c n s) (when-Yields _ (nested_requirement-Yields c n s) (when-Yields _ (compound_requirement-Yields c n s) (simple_requirement-Yields c n s)))

  more_requirement-Yields : (c : Context) (n s : ℕ) (x : Numbered (List RequirementTree)) (j : ℕ) → OfRequirements n s j x → Yields (more_requirement b c x) j (OfRequirements n s)
  more_requirement-Yields c n s x j h = then-Yields (requirement-Yields c x.1 j) (λ y i g. give-Yields (as_list (requirements_more x.0 y.0) (seq h g (omega arith))))

  some_requirements-Yields : (c : Context) (n s : ℕ) → Yields (some_requirements b c n) s (OfRequirements n s)
  unfolding some_requirements
  some_requirements-Yields c n s = then-Yields (requirement-Yields c n s) (λ first i g. repeat-Yields _ (more_requirement-Yields c n s) _ i (as_list (requirements_more [] first.0) g))

  pub requires_expr-Yields : (c : Context) (n s : ℕ) → Yields (requires_expr b c n) s (OfExpr n s)
  unfolding requires_expr
  requires_expr-Yields c n s = take (λ t. then-Yields (maybe_locals-Yields _ n (s + 1)) (λ ps i g. take (λ o. then-Yields (some_requirements-Yields _ ps.1 (i + 1)) (λ rs j g'. take (λ u. give-Yields (
      node_ahead _ (later (seq g g' (omega arith)) (omega arith)) (omega arith)))))))

  pub maybe_requires-Yields : (c : Context) (n s : ℕ) → Yields (maybe_requires b c n) s (OfExpr n s)
  unfolding maybe_requires
  maybe_requires-Yields c n s = given-Yields b.requires (requires_expr-Yields c n s) (unread-Yields _)
