-- The laws of the productions of requires-expressions and constraints.
use Rattle.std.proofs.Common.{ℕ, Bool, true, false, List, refl, sym, subst}
use Rattle.cx_tree.specs.Trees.{TypeTree, LocalTree, RequirementTree}
use Rattle.cx_grammar.specs.Names.{Context}
use Rattle.cx_grammar.specs.Types.{Numbered, Named, Below}
use Rattle.cx_grammar.specs.Requires.{constraint, local_behind, local, more_local, locals_behind, void_locals, some_locals, maybe_locals, simple_requirement, maybe_names, required_type, type_requirement, maybe_constraint, compound_requirement, nested_requirement, requirement, more_requirement, some_requirements, requires_expr, maybe_requires}
use Rattle.cx_grammar.specs.Production.{given, unread}
use Rattle.cx_grammar.proofs.Lawful.{Grows}
use Rattle.cx_grammar.proofs.Combinators.{Steps, turns-Grows, token-Steps}
use Rattle.cx_grammar.proofs.Alone.{Filled, token-Filled, first-Filled, second-Filled, when-Filled, given-Filled, filled-Steps}
use Rattle.cx_grammar.proofs.Unread.{its_word, first_given, unread-Grows}
use Rattle.cx_grammar.proofs.Types.{BelowGrows, growing, argument_list-Grows, class_core-Grows, type_name_core-Grows, qualified_names-Grows, type_id-Grows, type_behind-Grows}

-- ---- what is not empty

pub ruleset filling = (token-Filled, first-Filled, second-Filled, when-Filled, given-Filled)

module _ (b : Below) where
  pub constraint-Filled : (c : Context) (n : ℕ) → Filled (constraint b c n)
  unfolding constraint
  constraint-Filled c n = search filling depth 6

  pub type_requirement-Filled : (c : Context) (n : ℕ) → Filled (type_requirement b c n)
  unfolding type_requirement
  type_requirement-Filled c n = search filling depth 6

  pub nested_requirement-Filled : (c : Context) (n : ℕ) → Filled (nested_requirement b c n)
  unfolding nested_requirement
  nested_requirement-Filled c n = search filling depth 6

  pub compound_requirement-Filled : (c : Context) (n : ℕ) → Filled (compound_requirement b c n)
  unfolding compound_requirement
  compound_requirement-Filled c n = search filling depth 6

  pub simple_requirement-Filled : (c : Context) (n : ℕ) → Filled (simple_requirement b c n)
  unfolding simple_requirement
  simple_requirement-Filled c n = search filling depth 6

  pub requirement-Filled : (c : Context) (n : ℕ) → Filled (requirement b c n)
  unfolding requirement
  requirement-Filled c n = search (filling, type_requirement-Filled, nested_requirement-Filled, compound_requirement-Filled, simple_requirement-Filled) depth 6

  pub more_requirement-Filled : (c : Context) (so_far : Numbered (List RequirementTree)) → Filled (more_requirement b c so_far)
  more_requirement-Filled c so_far = first-Filled _ (requirement-Filled c so_far.1)

  pub requires_expr-Filled : (c : Context) (n : ℕ) → Filled (requires_expr b c n)
  unfolding requires_expr
  requires_expr-Filled c n = search filling depth 6

-- ---- a lower and a higher level

maybe_names-Grows : {requires : Bool} (c : Context) → Grows requires (maybe_names c) (maybe_names c)
unfolding maybe_names
maybe_names-Grows c = search (growing, qualified_names-Grows) depth 5

local_behind-Grows : {requires : Bool} (c : Context) (of : Numbered TypeTree) → Grows requires (local_behind c of) (local_behind c of)
unfolding local_behind
local_behind-Grows c of = search growing depth 5

module _ {requires : Bool} {b d : Below} (h : BelowGrows requires b d) where
  pub constraint-Grows : (c : Context) (n : ℕ) → Grows requires (constraint b c n) (constraint d c n)
  unfolding constraint
  constraint-Grows c n = search (growing, argument_list-Grows) depth 6

  local-Grows : (c : Context) (n : ℕ) → Grows requires (local b c n) (local d c n)
  unfolding local
  local-Grows c n = search (growing, type_id-Grows, local_behind-Grows) depth 5

  pub more_local-Steps : (c : Context) (so_far : Named (List LocalTree)) → Steps requires (more_local b c so_far) (more_local d c so_far)
  more_local-Steps c so_far = search (growing, token-Steps, local-Grows) depth 6

  locals_behind-Grows : (c : Context) (first : Named LocalTree) → Grows requires (locals_behind b c first) (locals_behind d c first)
  unfolding locals_behind
  locals_behind-Grows c first = search (growing, turns-Grows, more_local-Steps) depth 5

  void_locals-Grows : (c : Context) (n : ℕ) → Grows requires (void_locals b c n) (void_locals d c n)
  unfolding void_locals
  void_locals-Grows c n = search (growing, type_behind-Grows, local_behind-Grows, locals_behind-Grows) depth 8

  some_locals-Grows : (c : Context) (n : ℕ) → Grows requires (some_locals b c n) (some_locals d c n)
  unfolding some_locals
  some_locals-Grows c n = search (growing, void_locals-Grows, local-Grows, locals_behind-Grows) depth 7

  maybe_locals-Grows : (c : Context) (n : ℕ) → Grows requires (maybe_locals b c n) (maybe_locals d c n)
  unfolding maybe_locals
  maybe_locals-Grows c n = search (growing, some_locals-Grows) depth 7

  required_type-Grows : (c : Context) (n : ℕ) → Grows requires (required_type b c n) (required_type d c n)
  unfolding required_type
  required_type-Grows c n = search (growing, class_core-Grows, type_name_core-Grows, qualified_names-Grows, maybe_names-Grows) depth 7

  type_requirement-Grows : (c : Context) (n : ℕ) → Grows requires (type_requirement b c n) (type_requirement d c n)
  unfolding type_requirement
  type_requirement-Grows c n = search (growing, required_type-Grows) depth 7

  simple_requirement-Grows : (c : Context) (n : ℕ) → Grows requires (simple_requirement b c n) (simple_requirement d c n)
  unfolding simple_requirement
  simple_requirement-Grows c n = search (growing, h.expr) depth 7

  maybe_constraint-Grows : (c : Context) (n : ℕ) → Grows requires (maybe_constraint b c n) (maybe_constraint d c n)
  unfolding maybe_constraint
  maybe_constraint-Grows c n = search (growing, constraint-Grows) depth 7

  compound_requirement-Grows : (c : Context) (n : ℕ) → Grows requires (compound_requirement b c n) (compound_requirement d c n)
  unfolding compound_requirement
  compound_requirement-Grows c n = search (growing, h.expr, maybe_constraint-Grows) depth 9

  nested_requirement-Grows : (c : Context) (n : ℕ) → Grows requires (nested_requirement b c n) (nested_requirement d c n)
  unfolding nested_requirement
  nested_requirement-Grows c n = search (growing, h.operand) depth 7

  pub requirement-Grows : (c : Context) (n : ℕ) → Grows requires (requirement b c n) (requirement d c n)
  unfolding requirement
  requirement-Grows c n = search (growing, type_requirement-Grows, nested_requirement-Grows, compound_requirement-Grows, simple_requirement-Grows) depth 7

  more_requirement-Grows : (c : Context) (so_far : Numbered (List RequirementTree)) → Grows requires (more_requirement b c so_far) (more_requirement d c so_far)
  more_requirement-Grows c so_far = search (growing, requirement-Grows) depth 5

  pub more_requirement-Steps : (c : Context) (so_far : Numbered (List RequirementTree)) → Steps requires (more_requirement b c so_far) (more_requirement d c so_far)
  more_requirement-Steps c so_far = filled-Steps (more_requirement-Grows c so_far) (more_requirement-Filled b c so_far) (more_requirement-Filled d c so_far)

  pub some_requirements-Grows : (c : Context) (n : ℕ) → Grows requires (some_requirements b c n) (some_requirements d c n)
  unfolding some_requirements
  some_requirements-Grows c n = search (growing, turns-Grows, requirement-Grows, more_requirement-Steps) depth 6

  pub requires_expr-Grows : (c : Context) (n : ℕ) → Grows requires (requires_expr b c n) (requires_expr d c n)
  unfolding requires_expr
  requires_expr-Grows c n = search (growing, maybe_locals-Grows, some_requirements-Grows) depth 8

pub maybe_requires-Grows : {requires : Bool} {b d : Below} → BelowGrows requires b d → (c : Context) (n : ℕ) → Grows requires (maybe_requires b c n) (maybe_requires d c n)
unfolding maybe_requires
maybe_requires-Grows {requires = true} {b} {d} h c n =
    subst (λ (z : Bool). Grows true (given z (requires_expr b c n) (unread its_word)) (maybe_requires d c n)) (sym h.low_reads)
    (first_given (λ p. Grows true p (maybe_requires d c n)) (unread its_word)
    (subst (λ (z : Bool). Grows true (requires_expr b c n) (given z (requires_expr d c n) (unread its_word))) (sym h.high_reads)
    (first_given (λ p. Grows true (requires_expr b c n) p) (unread its_word) (requires_expr-Grows h c n))))
maybe_requires-Grows {requires = false} h c n = rw (h.low_reads, h.high_reads) (unread-Grows refl)
