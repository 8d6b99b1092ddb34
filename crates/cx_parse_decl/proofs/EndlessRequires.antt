-- The end of a unit is in no requires-expression, and in no constraint.
use Rattle.std.proofs.Common.{ℕ, Bool, List}
use Rattle.cx_tree.specs.Trees.{TypeTree, LocalTree, RequirementTree}
use Rattle.cx_grammar.specs.Names.{Context}
use Rattle.cx_grammar.specs.Types.{Numbered, Named, Below}
use Rattle.cx_grammar.specs.Requires.{constraint, local_behind, local, more_local, locals_behind, void_locals, some_locals, maybe_locals, simple_requirement, maybe_names, required_type, type_requirement, maybe_constraint, compound_requirement, nested_requirement, requirement, more_requirement, some_requirements, requires_expr, maybe_requires}
use Rattle.cx_parse_decl.proofs.Endless.{Endless, repeat-Endless, unread-Endless}
use Rattle.cx_parse_decl.proofs.EndlessTypes.{BelowEndless, endlessness, argument_list-Endless, class_core-Endless, type_name_core-Endless, qualified_names-Endless, type_behind-Endless, type_id-Endless}

maybe_names-Endless : (c : Context) → Endless (maybe_names c)
unfolding maybe_names
maybe_names-Endless c = search (endlessness, qualified_names-Endless) depth 13

local_behind-Endless : (c : Context) (of : Numbered TypeTree) → Endless (local_behind c of)
unfolding local_behind
local_behind-Endless c of = search endlessness depth 13

module _ {b : Below} (h : BelowEndless b) where
  pub constraint-Endless : (c : Context) (n : ℕ) → Endless (constraint b c n)
  unfolding constraint
  constraint-Endless c n = search (endlessness, argument_list-Endless h) depth 13

  local-Endless : (c : Context) (n : ℕ) → Endless (local b c n)
  unfolding local
  local-Endless c n = search (endlessness, type_id-Endless h, local_behind-Endless) depth 13

  more_local-Endless : (c : Context) (so_far : Named (List LocalTree)) → Endless (more_local b c so_far)
  more_local-Endless c so_far = search (endlessness, local-Endless) depth 13

  locals_behind-Endless : (c : Context) (first : Named LocalTree) → Endless (locals_behind b c first)
  unfolding locals_behind
  locals_behind-Endless c first = search (repeat-Endless, more_local-Endless) depth 13

  void_locals-Endless : (c : Context) (n : ℕ) → Endless (void_locals b c n)
  unfolding void_locals
  void_locals-Endless c n = search (endlessness, type_behind-Endless, local_behind-Endless, locals_behind-Endless) depth 13

  some_locals-Endless : (c : Context) (n : ℕ) → Endless (some_locals b c n)
  unfolding some_locals
  some_locals-Endless c n = search (endlessness, void_locals-Endless, local-Endless, locals_behind-Endless) depth 13

  maybe_locals-Endless : (c : Context) (n : ℕ) → Endless (maybe_locals b c n)
  unfolding maybe_locals
  maybe_locals-Endless c n = search (endlessness, some_locals-Endless) depth 13

  required_type-Endless : (c : Context) (n : ℕ) → Endless (required_type b c n)
  unfolding required_type
  required_type-Endless c n = search (endlessness, class_core-Endless h, type_name_core-Endless, qualified_names-Endless, maybe_names-Endless) depth 13

  type_requirement-Endless : (c : Context) (n : ℕ) → Endless (type_requirement b c n)
  unfolding type_requirement
  type_requirement-Endless c n = search (endlessness, required_type-Endless) depth 13

  simple_requirement-Endless : (c : Context) (n : ℕ) → Endless (simple_requirement b c n)
  unfolding simple_requirement
  simple_requirement-Endless c n = search (endlessness, h.expr) depth 13

  maybe_constraint-Endless : (c : Context) (n : ℕ) → Endless (maybe_constraint b c n)
  unfolding maybe_constraint
  maybe_constraint-Endless c n = search (endlessness, constraint-Endless) depth 13

  compound_requirement-Endless : (c : Context) (n : ℕ) → Endless (compound_requirement b c n)
  unfolding compound_requirement
  compound_requirement-Endless c n = search (endlessness, h.expr, maybe_constraint-Endless) depth 13

  nested_requirement-Endless : (c : Context) (n : ℕ) → Endless (nested_requirement b c n)
  unfolding nested_requirement
  nested_requirement-Endless c n = search (endlessness, h.operand) depth 13

  requirement-Endless : (c : Context) (n : ℕ) → Endless (requirement b c n)
  unfolding requirement
  requirement-Endless c n = search (endlessness, type_requirement-Endless, nested_requirement-Endless, compound_requirement-Endless, simple_requirement-Endless) depth 13

  more_requirement-Endless : (c : Context) (so_far : Numbered (List RequirementTree)) → Endless (more_requirement b c so_far)
  more_requirement-Endless c so_far = search (endlessness, requirement-Endless) depth 13

  some_requirements-Endless : (c : Context) (n : ℕ) → Endless (some_requirements b c n)
  unfolding some_requirements
  some_requirements-Endless c n = search (endlessness, repeat-Endless, requirement-Endless, more_requirement-Endless) depth 13

  requires_expr-Endless : (c : Context) (n : ℕ) → Endless (requires_expr b c n)
  unfolding requires_expr
  requires_expr-Endless c n = search (endlessness, maybe_locals-Endless, some_requirements-Endless) depth 13

  pub maybe_requires-Endless : (c : Context) (n : ℕ) → Endless (maybe_requires b c n)
  unfolding maybe_requires
  maybe_requires-Endless c n = search (endlessness, unread-Endless, requires_expr-Endless) depth 13
