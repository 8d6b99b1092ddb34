-- Productions of requires-expressions are not exhausted where the levels are more than what the limit leaves.
use Rattle.std.proofs.Common.{◌≤◌, ℕ, suc, ◌+◌, Bool, true, false, List, sym, subst, arith}
use Rattle.cx_tree.specs.Trees.{TypeTree, LocalTree, RequirementTree}
use Rattle.cx_grammar.specs.Names.{Context}
use Rattle.cx_grammar.specs.Types.{Numbered, Named, Below}
use Rattle.cx_grammar.specs.Requires.{constraint, local_behind, local, more_local, locals_behind, void_locals, some_locals, maybe_locals, simple_requirement, maybe_names, required_type, type_requirement, maybe_constraint, compound_requirement, nested_requirement, requirement, more_requirement, some_requirements, requires_expr, maybe_requires}
use Rattle.cx_grammar.specs.Production.{given, unread}
use Rattle.cx_grammar.proofs.Combinators.{Takes, Firm, repeat-Firm, give-Firm, token-Firm, then-Firm, behind-Firm, when-Firm}
use Rattle.cx_grammar.proofs.Unread.{its_word, first_given, unread-Firm}
use Rattle.cx_grammar.proofs.Types.{BelowGrows}
use Rattle.cx_grammar.proofs.Requires.{more_local-Steps, more_requirement-Steps}
use Rattle.cx_grammar.proofs.FirmTypes.{BelowFirm, Enough, Reached, firmness, rooms, argument_list-Firm, class_core-Firm, type_name_core-Firm, qualified_names-Firm, type_behind-Firm, type_id-Firm}

enough_more : {limit n load : ℕ} → Enough limit n load → Enough limit n (load + 1)
enough_more k = record { left = omega (arith, k.left); more = omega (arith, k.more) }

enough_above : {limit n load : ℕ} → Enough limit n load → Enough limit (suc n) load
enough_above k = record { left = omega (arith, k.left); more = omega (arith, k.more) }

reached_above : {limit n load : ℕ} → Enough limit n load → Reached limit (suc n) load
reached_above k = record { left = omega (arith, k.left); more = omega arith }

module _ (limit : ℕ) where
  maybe_names-Firm : (c : Context) → Firm limit (maybe_names c) (maybe_names c)
  unfolding maybe_names
  maybe_names-Firm c = search (firmness, qualified_names-Firm) depth 6

  local_behind-Firm : (c : Context) (of : Numbered TypeTree) → Firm limit (local_behind c of) (local_behind c of)
  unfolding local_behind
  local_behind-Firm c of = search firmness depth 6

module _ {requires : Bool} {limit n : ℕ} {b d : Below} (g : BelowGrows requires b d) (f : BelowFirm limit n b d) where
  pub constraint-Firm : (c : Context) (m : ℕ) → Enough limit (suc n) c.load → Firm limit (constraint b c m) (constraint d c m)
  unfolding constraint
  constraint-Firm c m k = search (firmness, argument_list-Firm, rooms) depth 8

  local-Firm : (c : Context) (m : ℕ) → Enough limit (suc n) c.load → Firm limit (local b c m) (local d c m)
  unfolding local
  local-Firm c m k = search (firmness, type_id-Firm, local_behind-Firm) depth 8

  more_local-Takes : (c : Context) (so_far : Named (List LocalTree)) → Takes (more_local b c so_far)
  more_local-Takes c so_far = (more_local-Steps g c so_far).low

  more_local-Firm : (c : Context) (so_far : Named (List LocalTree)) → Enough limit (suc n) c.load → Firm limit (more_local b c so_far) (more_local d c so_far)
  more_local-Firm c so_far k = search (firmness, local-Firm) depth 8

  locals_behind-Firm : (c : Context) (first : Named LocalTree) → Enough limit (suc n) c.load → Firm limit (locals_behind b c first) (locals_behind d c first)
  unfolding locals_behind
  locals_behind-Firm c first k = search (firmness, repeat-Firm, more_local-Firm, more_local-Takes) depth 8

  void_locals-Firm : (c : Context) (m : ℕ) → Enough limit (suc n) c.load → Firm limit (void_locals b c m) (void_locals d c m)
  unfolding void_locals
  void_locals-Firm c m k = search (firmness, type_behind-Firm, local_behind-Firm, locals_behind-Firm) depth 9

  some_locals-Firm : (c : Context) (m : ℕ) → Enough limit (suc n) c.load → Firm limit (some_locals b c m) (some_locals d c m)
  unfolding some_locals
  some_locals-Firm c m k = search (firmness, void_locals-Firm, local-Firm, locals_behind-Firm) depth 8

  maybe_locals-Firm : (c : Context) (m : ℕ) → Enough limit (suc n) (c.load + 1) → Firm limit (maybe_locals b c m) (maybe_locals d c m)
  unfolding maybe_locals
  maybe_locals-Firm c m k = search (firmness, some_locals-Firm) depth 8

  required_type-Firm : (c : Context) (m : ℕ) → Reached limit (suc n) c.load → Firm limit (required_type b c m) (required_type d c m)
  unfolding required_type
  required_type-Firm c m k = search (firmness, class_core-Firm, type_name_core-Firm, qualified_names-Firm, maybe_names-Firm) depth 8

  type_requirement-Firm : (c : Context) (m : ℕ) → Reached limit (suc n) (c.load + 1) → Firm limit (type_requirement b c m) (type_requirement d c m)
  unfolding type_requirement
  type_requirement-Firm c m k = search (firmness, required_type-Firm) depth 8

  simple_requirement-Firm : (c : Context) (m : ℕ) → Enough limit n (c.load + 1) → Firm limit (simple_requirement b c m) (simple_requirement d c m)
  unfolding simple_requirement
  simple_requirement-Firm c m k = search (firmness, f.expr) depth 8

  maybe_constraint-Firm : (c : Context) (m : ℕ) → Enough limit (suc n) c.load → Firm limit (maybe_constraint b c m) (maybe_constraint d c m)
  unfolding maybe_constraint
  maybe_constraint-Firm c m k = search (firmness, constraint-Firm) depth 8

  compound_requirement-Firm : (c : Context) (m : ℕ) → Enough limit n (c.load + 1 + 1) → Enough limit (suc n) (c.load + 1) → Firm limit (compound_requirement b c m) (compound_requirement d c m)
  unfolding compound_requirement
  compound_requirement-Firm c m k k' = search (firmness, f.expr, maybe_constraint-Firm) depth 11

  nested_requirement-Firm : (c : Context) (m : ℕ) → Enough limit n (c.load + 1) → Firm limit (nested_requirement b c m) (nested_requirement d c m)
  unfolding nested_requirement
  nested_requirement-Firm c m k = search (firmness, f.operand) depth 8

  pub requirement-Firm : (c : Context) (m : ℕ) → Enough limit n (c.load + 1) → Firm limit (requirement b c m) (requirement d c m)
  unfolding requirement
  requirement-Firm c m k = when-Firm limit _ (type_requirement-Firm c m (reached_above k))
      (when-Firm limit _ (nested_requirement-Firm c m k) (when-Firm limit _ (compound_requirement-Firm c m (enough_more k) (enough_above k)) (simple_requirement-Firm c m k)))

  more_requirement-Takes : (c : Context) (so_far : Numbered (List RequirementTree)) → Takes (more_requirement b c so_far)
  more_requirement-Takes c so_far = (more_requirement-Steps g c so_far).low

  more_requirement-Firm : (c : Context) (so_far : Numbered (List RequirementTree)) → Enough limit n (c.load + 1) → Firm limit (more_requirement b c so_far) (more_requirement d c so_far)
  more_requirement-Firm c so_far k = search (firmness, requirement-Firm) depth 7

  some_requirements-Firm : (c : Context) (m : ℕ) → Enough limit n (c.load + 1) → Firm limit (some_requirements b c m) (some_requirements d c m)
  unfolding some_requirements
  some_requirements-Firm c m k = search (firmness, repeat-Firm, requirement-Firm, more_requirement-Firm, more_requirement-Takes) depth 8

  second : {load : ℕ} → Enough limit (suc n) load → load + 1 ≤ limit → Enough limit n (load + 1 + 1)
  second k up = record { left = omega (arith, k.left); more = omega (arith, k.left) }

  pub requires_expr-Firm : (c : Context) (m : ℕ) → Enough limit (suc n) c.load → Firm limit (requires_expr b c m) (requires_expr d c m)
  unfolding requires_expr
  requires_expr-Firm c m k = behind-Firm limit _ _ (λ up t. then-Firm limit (maybe_locals-Firm _ m (enough_more k)) (λ ps. behind-Firm limit _ _ (λ more o. then-Firm limit (some_requirements-Firm _ ps.1 (second k more)) (λ rs.
      then-Firm limit (token-Firm limit _ _) (λ u. give-Firm limit _)))))

pub maybe_requires-Firm : {requires : Bool} {limit n : ℕ} {b d : Below} → BelowGrows requires b d → BelowFirm limit n b d → (c : Context) (m : ℕ) → Enough limit (suc n) c.load → Firm limit (maybe_requires b c m) (maybe_requires d c m)
unfolding maybe_requires
maybe_requires-Firm {requires = true} {limit} {b} {d} g f c m k =
    subst (λ (z : Bool). Firm limit (given z (requires_expr b c m) (unread its_word)) (maybe_requires d c m)) (sym g.low_reads)
    (first_given (λ p. Firm limit p (maybe_requires d c m)) (unread its_word)
    (subst (λ (z : Bool). Firm limit (requires_expr b c m) (given z (requires_expr d c m) (unread its_word))) (sym g.high_reads)
    (first_given (λ p. Firm limit (requires_expr b c m) p) (unread its_word) (requires_expr-Firm g f c m k))))
maybe_requires-Firm {requires = false} {limit = limit} g f c m k = rw (g.low_reads, g.high_reads) (unread-Firm limit _)
