-- Requires-expressions where none stands within them are some of the language.
use Rattle.std.proofs.Common.{◌≡◌, ℕ, ◌+◌, ◌≤◌, Bool, true, false, List, [], ◌∷◌, Err, if◌then◌else◌, codes, refl, sym, ap, subst, inl, inr, arith}
use Rattle.cx_base.specs.declared.kind.Kind.TheVariants as fault
use Rattle.cx_tree.specs.Trees.{TypeTree, LocalTree, RequirementTree}
use Rattle.cx_grammar.specs.Names.{Context}
use Rattle.cx_grammar.specs.Pieces.{Piece}
use Rattle.cx_grammar.specs.Words.{misfit, refused, word}
use Rattle.cx_grammar.specs.Production.{Production, At, ◌>>=◌, token, given, unread, read_token, read_unread}
use Rattle.cx_grammar.specs.Types.{Numbered, Named, Below}
use Rattle.cx_grammar.specs.Requires.{constraint, local_behind, local, more_local, locals_behind, void_locals, some_locals, maybe_locals, simple_requirement, maybe_names, required_type, type_requirement, maybe_constraint, compound_requirement, nested_requirement, requirement, more_requirement, some_requirements, requires_expr, maybe_requires}
use Rattle.cx_grammar.proofs.Unread.{unread-Lawful}
use Rattle.cx_grammar.proofs.Requires.{more_requirement-Filled}
use Rattle.cx_grammar_laws.proofs.Included.{Alike, Included, Turns, give-Included, token-Included, then-Included, when-Included, given-Included, closed-Included, repeat-Included, token-Turns, filled-Turns}
use Rattle.cx_grammar_laws.proofs.IncludedTypes.{BelowIncluded, including, argument_list-Included, class_core-Included, type_name_core-Included, qualified_names-Included, type_id-Included, type_behind-Included}

maybe_names-Included : (c : Context) → Included (maybe_names c) (maybe_names c)
unfolding maybe_names
maybe_names-Included c = search (including, qualified_names-Included) depth 5

local_behind-Included : (c : Context) (of : Numbered TypeTree) → Included (local_behind c of) (local_behind c of)
unfolding local_behind
local_behind-Included c of = search including depth 5

module _ {b d : Below} (h : BelowIncluded b d) where
  pub constraint-Included : (c : Context) (n : ℕ) → Included (constraint b c n) (constraint d c n)
  unfolding constraint
  constraint-Included c n = search (including, argument_list-Included) depth 6

  local-Included : (c : Context) (n : ℕ) → Included (local b c n) (local d c n)
  unfolding local
  local-Included c n = search (including, type_id-Included, local_behind-Included) depth 5

  pub more_local-Turns : (c : Context) (so_far : Named (List LocalTree)) → Turns (more_local b c so_far) (more_local d c so_far)
  more_local-Turns c so_far = search (including, token-Turns, local-Included) depth 6

  locals_behind-Included : (c : Context) (first : Named LocalTree) → Included (locals_behind b c first) (locals_behind d c first)
  unfolding locals_behind
  locals_behind-Included c first = search (including, repeat-Included, more_local-Turns) depth 5

  void_locals-Included : (c : Context) (n : ℕ) → Included (void_locals b c n) (void_locals d c n)
  unfolding void_locals
  void_locals-Included c n = search (including, type_behind-Included, local_behind-Included, locals_behind-Included) depth 8

  some_locals-Included : (c : Context) (n : ℕ) → Included (some_locals b c n) (some_locals d c n)
  unfolding some_locals
  some_locals-Included c n = search (including, void_locals-Included, local-Included, locals_behind-Included) depth 7

  maybe_locals-Included : (c : Context) (n : ℕ) → Included (maybe_locals b c n) (maybe_locals d c n)
  unfolding maybe_locals
  maybe_locals-Included c n = search (including, some_locals-Included) depth 7

  required_type-Included : (c : Context) (n : ℕ) → Included (required_type b c n) (required_type d c n)
  unfolding required_type
  required_type-Included c n = search (including, class_core-Included, type_name_core-Included, qualified_names-Included, maybe_names-Included) depth 7

  type_requirement-Included : (c : Context) (n : ℕ) → Included (type_requirement b c n) (type_requirement d c n)
  unfolding type_requirement
  type_requirement-Included c n = search (including, required_type-Included) depth 7

  simple_requirement-Included : (c : Context) (n : ℕ) → Included (simple_requirement b c n) (simple_requirement d c n)
  unfolding simple_requirement
  simple_requirement-Included c n = search (including, h.expr) depth 7

  maybe_constraint-Included : (c : Context) (n : ℕ) → Included (maybe_constraint b c n) (maybe_constraint d c n)
  unfolding maybe_constraint
  maybe_constraint-Included c n = search (including, constraint-Included) depth 7

  compound_requirement-Included : (c : Context) (n : ℕ) → Included (compound_requirement b c n) (compound_requirement d c n)
  unfolding compound_requirement
  compound_requirement-Included c n = search (including, h.expr, maybe_constraint-Included) depth 9

  nested_requirement-Included : (c : Context) (n : ℕ) → Included (nested_requirement b c n) (nested_requirement d c n)
  unfolding nested_requirement
  nested_requirement-Included c n = search (including, h.operand) depth 7

  pub requirement-Included : (c : Context) (n : ℕ) → Included (requirement b c n) (requirement d c n)
  unfolding requirement
  requirement-Included c n = search (including, type_requirement-Included, nested_requirement-Included, compound_requirement-Included, simple_requirement-Included) depth 7

  more_requirement-Included : (c : Context) (so_far : Numbered (List RequirementTree)) → Included (more_requirement b c so_far) (more_requirement d c so_far)
  more_requirement-Included c so_far = search (including, requirement-Included) depth 5

  pub more_requirement-Turns : (c : Context) (so_far : Numbered (List RequirementTree)) → Turns (more_requirement b c so_far) (more_requirement d c so_far)
  more_requirement-Turns c so_far = filled-Turns (more_requirement-Included c so_far) (more_requirement-Filled b c so_far)

  pub some_requirements-Included : (c : Context) (n : ℕ) → Included (some_requirements b c n) (some_requirements d c n)
  unfolding some_requirements
  some_requirements-Included c n = search (including, repeat-Included, requirement-Included, more_requirement-Turns) depth 6

  pub requires_expr-Included : (c : Context) (n : ℕ) → Included (requires_expr b c n) (requires_expr d c n)
  unfolding requires_expr
  requires_expr-Included c n = search (including, maybe_locals-Included, some_requirements-Included) depth 8

-- where they are not read there are none
abbrev its_word : Piece → Bool
its_word = word (codes "requires")

module _ {A : Type 0} (load : ℕ) (f : Piece → Production A) where
  unread_at : (l : ℕ) (t : Piece) (ts : List Piece) (c : Bool) → its_word t ≡ c → Alike (unread its_word) (token load its_word >>= f) l (t ∷ ts)
  unfolding read_unread read_token
  unread_at l t ts true e = inr record {
    before = [];
    word' = t;
    behind = ts;
    parts = refl;
    its = e;
    stops = ap (λ (c : Bool). Err (At (if c then refused fault.Unsupported t.token.at else misfit t.token))) e;
    greater = l + load;
    above = omega arith;
    goes_on = inl (inr (t, refl, e, omega arith));
  }
  unread_at l t ts false e = inl (rw e refl)

  unread_alike : (l : ℕ) (ts : List Piece) → Alike (unread its_word) (token load its_word >>= f) l ts
  unfolding read_unread read_token
  unread_alike l [] = inl refl
  unread_alike l (t ∷ ts) = unread_at l t ts (its_word t) refl

  unread-Included : Included (unread its_word) (token load its_word >>= f)
  unread-Included = record { lawful = unread-Lawful refl; whole = λ l us rest x w. absurd w; front = λ l us e. inl (inl e); alike = unread_alike }

pub maybe_requires-Included : {b d : Below} → BelowIncluded b d → (c : Context) (n : ℕ) → Included (maybe_requires b c n) (maybe_requires d c n)
unfolding maybe_requires requires_expr
maybe_requires-Included {b} {d} h c n =
    subst (λ (z : Bool). Included (given z (requires_expr b c n) (unread its_word)) (maybe_requires d c n)) (sym h.none_read)
    (subst (λ (z : Bool). Included (unread its_word) (given z (requires_expr d c n) (unread its_word))) (sym h.all_read) (unread-Included _ _))
