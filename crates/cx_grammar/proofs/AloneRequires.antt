-- Requires-expressions and constraints are trees too where nothing stands behind them.
use Rattle.std.proofs.Common.{ℕ, Bool, true, false, List, codes, refl, sym, subst}
use Rattle.cx_tree.specs.Trees.{TypeTree, VoidTree, LocalTree, RequirementTree}
use Rattle.cx_grammar.specs.Names.{Context}
use Rattle.cx_grammar.specs.Words.{punct}
use Rattle.cx_grammar.specs.Types.{Numbered, Named, Below}
use Rattle.cx_grammar.specs.Requires.{constraint, local_behind, local, more_local, locals_behind, void_locals, some_locals, maybe_locals, simple_requirement, maybe_names, required_type, type_requirement, maybe_constraint, compound_requirement, nested_requirement, requirement, more_requirement, some_requirements, requires_expr, maybe_requires}
use Rattle.cx_grammar.specs.Production.{given, unread}
use Rattle.cx_grammar.proofs.Lawful.{Lawful}
use Rattle.cx_grammar.proofs.Combinators.{give-Lawful, token-Lawful, then-Lawful, when-Lawful, repeat-Lawful}
use Rattle.cx_grammar.proofs.Alone.{Alone, Turn, filled_takes, token-Turn, give-Alone, token-Alone, then-Alone, before-Alone, given-Alone, opens-Alone, filled-Alone, repeat-Alone, token-Filled, first-Filled, second-Filled, when-Filled, given-Filled, token-Opens, first-Opens, Filled}
use Rattle.cx_grammar.proofs.Unread.{its_word, first_given, unread-Alone, unread-Filled}
use Rattle.cx_grammar.proofs.Requires.{type_requirement-Filled, nested_requirement-Filled, compound_requirement-Filled, simple_requirement-Filled, more_requirement-Filled, requires_expr-Filled}
use Rattle.cx_grammar.proofs.AloneTypes.{BelowAlone, argument_list-Alone, argument_list-Filled, argument_list-Opens, class_core-Alone, class_core-Filled, type_name_core-Alone, qualified_names-Alone, qualified_names-Filled, qualified_names-Opens, type_id-Alone, type_behind-Alone}

ruleset apart = (give-Alone, token-Alone, then-Alone, given-Alone, filled-Alone, opens-Alone, token-Filled, first-Filled, second-Filled, when-Filled, token-Opens, first-Opens)

maybe_names-Alone : {requires : Bool} (c : Context) → Alone requires (maybe_names c)
unfolding maybe_names
maybe_names-Alone c = search (apart, qualified_names-Alone, qualified_names-Filled, qualified_names-Opens) depth 8

local_behind-Alone : {requires : Bool} (c : Context) (of : Numbered TypeTree) → Alone requires (local_behind c of)
unfolding local_behind
local_behind-Alone c of = search apart depth 7

module _ {requires : Bool} {b : Below} (h : BelowAlone requires b) where
  pub constraint-Alone : (c : Context) (n : ℕ) → Alone requires (constraint b c n)
  unfolding constraint
  constraint-Alone c n = search (apart, argument_list-Alone, argument_list-Filled, argument_list-Opens) depth 9

  local-Alone : (c : Context) (n : ℕ) → Alone requires (local b c n)
  unfolding local
  local-Alone c n = search (apart, type_id-Alone, local_behind-Alone) depth 8

  more_local-Turn : (c : Context) (so_far : Named (List LocalTree)) → Turn requires (punct (codes ",")) (more_local b c so_far)
  more_local-Turn c so_far = search (token-Turn, apart, local-Alone) depth 8

  locals_behind-Alone : (c : Context) (first : Named LocalTree) → Alone requires (locals_behind b c first)
  unfolding locals_behind
  locals_behind-Alone c first = repeat-Alone _ (more_local-Turn c) _

  required_type-Alone : (c : Context) (n : ℕ) → Alone requires (required_type b c n)
  unfolding required_type
  required_type-Alone c n = search (apart, class_core-Alone, class_core-Filled, type_name_core-Alone, qualified_names-Alone, qualified_names-Filled, maybe_names-Alone) depth 9

  type_requirement-Alone : (c : Context) (n : ℕ) → Alone requires (type_requirement b c n)
  unfolding type_requirement
  type_requirement-Alone c n = search (apart, required_type-Alone) depth 8

  simple_requirement-Alone : (c : Context) (n : ℕ) → Alone requires (simple_requirement b c n)
  unfolding simple_requirement
  simple_requirement-Alone c n = search (apart, h.expr) depth 8

  maybe_constraint-Alone : (c : Context) (n : ℕ) → Alone requires (maybe_constraint b c n)
  unfolding maybe_constraint
  maybe_constraint-Alone c n = search (apart, constraint-Alone) depth 9

  compound_requirement-Alone : (c : Context) (n : ℕ) → Alone requires (compound_requirement b c n)
  unfolding compound_requirement
  compound_requirement-Alone c n = search (apart, h.expr, maybe_constraint-Alone) depth 11

  nested_requirement-Alone : (c : Context) (n : ℕ) → Alone requires (nested_requirement b c n)
  unfolding nested_requirement
  nested_requirement-Alone c n = search (apart, h.operand) depth 8

  pub requirement-Alone : (c : Context) (n : ℕ) → Alone requires (requirement b c n)
  unfolding requirement
  requirement-Alone c n = search (apart, type_requirement-Alone, type_requirement-Filled b, nested_requirement-Alone, nested_requirement-Filled b, compound_requirement-Alone, compound_requirement-Filled b, simple_requirement-Alone, simple_requirement-Filled b) depth 8

  -- ---- lists, which are closed by a token behind them

  void_locals-Lawful : (c : Context) (n : ℕ) → Lawful requires (void_locals b c n)
  unfolding void_locals
  void_locals-Lawful c n = then-Lawful (token-Lawful _ _) (λ t. when-Lawful _ (give-Lawful _)
      (then-Lawful (type_behind-Alone c t.token.at false (VoidTree, n)).lawful (λ of. then-Lawful (local_behind-Alone c of).lawful (λ first. (locals_behind-Alone c first).lawful))))

  pub some_locals-Lawful : (c : Context) (n : ℕ) → Lawful requires (some_locals b c n)
  unfolding some_locals
  some_locals-Lawful c n = when-Lawful _ (give-Lawful _) (when-Lawful _ (void_locals-Lawful c n) (then-Lawful (local-Alone c n).lawful (λ first. (locals_behind-Alone c first).lawful)))

  some_requirements-Lawful : (c : Context) (n : ℕ) → Lawful requires (some_requirements b c n)
  unfolding some_requirements
  some_requirements-Lawful c n = then-Lawful (requirement-Alone c n).lawful (λ first. repeat-Lawful _ turn (λ y. filled_takes (turn y) (more_requirement-Filled b c y)) _)
    where
      turn : (y : Numbered (List RequirementTree)) → Lawful requires (more_requirement b c y)
      turn y = then-Lawful (requirement-Alone c y.1).lawful (λ r. give-Lawful _)

  maybe_locals-Alone : (c : Context) (n : ℕ) → Alone requires (maybe_locals b c n)
  unfolding maybe_locals
  maybe_locals-Alone c n = opens-Alone _ (then-Alone (token-Alone _ _) (λ t. before-Alone (some_locals-Lawful _ n) (λ ps. then-Alone (token-Alone _ _) (λ u. give-Alone _)) (λ ps. first-Filled _ (token-Filled _ _))))
      (give-Alone _) (first-Filled _ (token-Filled _ _)) (first-Opens _ (token-Opens _ _))

  pub requires_expr-Alone : (c : Context) (n : ℕ) → Alone requires (requires_expr b c n)
  unfolding requires_expr
  requires_expr-Alone c n = then-Alone (token-Alone _ _) (λ t. then-Alone (maybe_locals-Alone _ n) (λ ps. then-Alone (token-Alone _ _) (λ o. before-Alone (some_requirements-Lawful _ ps.1) (λ rs. then-Alone (token-Alone _ _) (λ u. give-Alone _))
      (λ rs. first-Filled _ (token-Filled _ _)))))

pub maybe_requires-Filled : (b : Below) (c : Context) (n : ℕ) → Filled (maybe_requires b c n)
unfolding maybe_requires
maybe_requires-Filled b c n = given-Filled b.requires (requires_expr-Filled b c n) (unread-Filled _)

pub maybe_requires-Alone : {requires : Bool} {b : Below} → BelowAlone requires b → (c : Context) (n : ℕ) → Alone requires (maybe_requires b c n)
unfolding maybe_requires
maybe_requires-Alone {requires = true} {b} h c n =
    subst (λ (z : Bool). Alone true (given z (requires_expr b c n) (unread its_word))) (sym h.reads) (first_given (λ p. Alone true p) (unread its_word) (requires_expr-Alone h c n))
maybe_requires-Alone {requires = false} h c n = rw h.reads (unread-Alone refl)
