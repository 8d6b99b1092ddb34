-- Types where requires-expressions are not read are types of the language.
use Rattle.std.proofs.Common.{◌≡◌, ℕ, Bool, true, false, List}
use Rattle.cx_base.specs.declared.place.Place.{Place}
use Rattle.cx_base.specs.declared.value.Scalar.{Scalar}
use Rattle.cx_tree.specs.Trees.{ExprTree, CoreTree, ArgumentTree}
use Rattle.cx_grammar.specs.Pieces.{Piece}
use Rattle.cx_grammar.specs.Names.{Context}
use Rattle.cx_grammar.specs.Types.{Numbered, Calling, Below, maybe_int, long_long, behind_long_long, behind_sign, scalar_behind, word_core, long_core, scalar_core, argument_list, some_arguments, more_argument, more_name, qualified_names, class_core, type_name_core, head_core, member_core, decltype_core, void_core, scalar_only, core, maybe_const, maybe_reference, type_behind, const_type, bare_type, type_id}
use Rattle.cx_grammar_laws.proofs.Included.{Included, Turns, give-Included, token-Included, then-Included, when-Included, given-Included, closed-Included, repeat-Included, token-Turns, filled-Turns}

-- the productions of a level, where requires-expressions are not read and where they are
pub record BelowIncluded (b d : Below) : Type 0 where
  pub none_read : b.requires ≡ false
  pub all_read : d.requires ≡ true
  pub expr : (c : Context) (n : ℕ) → Included (b.expr c n) (d.expr c n)
  pub unary : (c : Context) (n : ℕ) → Included (b.unary c n) (d.unary c n)
  pub binary_rest : (level : ℕ) (c : Context) (e : Numbered ExprTree) → Included (b.binary_rest level c e) (d.binary_rest level c e)
  pub operand : (level : ℕ) (c : Context) (n : ℕ) → Included (b.operand level c n) (d.operand level c n)
  pub tail : (calling : Calling) (c : Context) (e : Numbered ExprTree) → Included (b.tail calling c e) (d.tail calling c e)
  pub called : (c : Context) (e : Numbered ExprTree) → Included (b.called c e) (d.called c e)
  pub type : (c : Context) (n : ℕ) → Included (b.type c n) (d.type c n)
  pub core : (c : Context) (n : ℕ) → Included (b.core c n) (d.core c n)
  pub argument : (c : Context) (n : ℕ) → Included (b.argument c n) (d.argument c n)
  pub clause_primary : (c : Context) (n : ℕ) → Included (b.clause_primary c n) (d.clause_primary c n)
  pub and_rest : (c : Context) (e : Numbered ExprTree) → Included (b.and_rest c e) (d.and_rest c e)
  pub conjunction : (c : Context) (n : ℕ) → Included (b.conjunction c n) (d.conjunction c n)
  pub or_rest : (c : Context) (e : Numbered ExprTree) → Included (b.or_rest c e) (d.or_rest c e)

pub ruleset including = (give-Included, token-Included, then-Included, when-Included, given-Included)

pub maybe_int-Included : (c : Context) (s : Scalar) → Included (maybe_int c s) (maybe_int c s)
unfolding maybe_int
maybe_int-Included c s = search including

pub long_long-Included : (c : Context) (s : Scalar) → Included (long_long c s) (long_long c s)
unfolding long_long
long_long-Included c s = search (including, maybe_int-Included)

pub behind_long_long-Included : (c : Context) → Included (behind_long_long c) (behind_long_long c)
unfolding behind_long_long
behind_long_long-Included c = search (including, maybe_int-Included)

pub behind_sign-Included : (c : Context) (s l : Scalar) → Included (behind_sign c s l) (behind_sign c s l)
unfolding behind_sign
behind_sign-Included c s l = search (including, maybe_int-Included, long_long-Included)

pub scalar_behind-Included : (c : Context) (t : Piece) → Included (scalar_behind c t) (scalar_behind c t)
unfolding scalar_behind
scalar_behind-Included c t = search (including, behind_sign-Included)

pub word_core-Included : (c : Context) → Included (word_core c) (word_core c)
unfolding word_core
word_core-Included c = search (including, scalar_behind-Included)

pub long_core-Included : (c : Context) → Included (long_core c) (long_core c)
unfolding long_core
long_core-Included c = search (including, behind_long_long-Included)

pub scalar_core-Included : (c : Context) → Included (scalar_core c) (scalar_core c)
unfolding scalar_core
scalar_core-Included c = search (including, word_core-Included, long_core-Included)

pub more_name-Turns : (c : Context) (so_far : List (List ℕ)) → Turns (more_name c so_far) (more_name c so_far)
unfolding more_name
more_name-Turns c so_far = search (including, token-Turns)

pub qualified_names-Included : (c : Context) → Included (qualified_names c) (qualified_names c)
unfolding qualified_names
qualified_names-Included c = search (including, repeat-Included, more_name-Turns)

pub type_name_core-Included : (c : Context) (n : ℕ) → Included (type_name_core c n) (type_name_core c n)
unfolding type_name_core
type_name_core-Included c n = search including

pub void_core-Included : (c : Context) (n : ℕ) → Included (void_core c n) (void_core c n)
unfolding void_core
void_core-Included c n = search including

pub scalar_only-Included : (c : Context) (n : ℕ) → Included (scalar_only c n) (scalar_only c n)
unfolding scalar_only
scalar_only-Included c n = search (including, scalar_core-Included)

pub maybe_const-Included : (c : Context) (before : Bool) → Included (maybe_const c before) (maybe_const c before)
unfolding maybe_const
maybe_const-Included c true = search including
maybe_const-Included c false = search including

pub maybe_reference-Included : (c : Context) → Included (maybe_reference c) (maybe_reference c)
unfolding maybe_reference
maybe_reference-Included c = search including

pub type_behind-Included : (c : Context) (at : Place) (before : Bool) (k : Numbered CoreTree) → Included (type_behind c at before k) (type_behind c at before k)
unfolding type_behind
type_behind-Included c at before k = search (including, maybe_const-Included, maybe_reference-Included)

module _ {b d : Below} (h : BelowIncluded b d) where
  pub more_argument-Turns : (c : Context) (so_far : Numbered (List ArgumentTree)) → Turns (more_argument b c so_far) (more_argument d c so_far)
  unfolding more_argument
  more_argument-Turns c so_far = search (including, token-Turns, h.argument)

  pub some_arguments-Included : (c : Context) (n : ℕ) → Included (some_arguments b c n) (some_arguments d c n)
  unfolding some_arguments
  some_arguments-Included c n = search (including, repeat-Included, more_argument-Turns, h.argument)

  pub argument_list-Included : (c : Context) (n : ℕ) → Included (argument_list b c n) (argument_list d c n)
  unfolding argument_list
  argument_list-Included c n = search (including, some_arguments-Included)

  pub class_core-Included : (c : Context) (n : ℕ) → Included (class_core b c n) (class_core d c n)
  unfolding class_core
  class_core-Included c n = search (including, argument_list-Included)

  pub head_core-Included : (c : Context) (n : ℕ) → Included (head_core b c n) (head_core d c n)
  unfolding head_core
  head_core-Included c n = search (including, class_core-Included, type_name_core-Included)

  pub member_core-Included : (c : Context) (n : ℕ) → Included (member_core b c n) (member_core d c n)
  unfolding member_core
  member_core-Included c n = search (including, head_core-Included, qualified_names-Included)

  pub decltype_core-Included : (c : Context) (n : ℕ) → Included (decltype_core b c n) (decltype_core d c n)
  unfolding decltype_core
  decltype_core-Included c n = search (including, h.expr)

  pub core-Included : (c : Context) (n : ℕ) → Included (core b c n) (core d c n)
  unfolding core
  core-Included c n = search (including, head_core-Included, member_core-Included, decltype_core-Included, void_core-Included, scalar_only-Included)

  pub const_type-Included : (c : Context) (n : ℕ) → Included (const_type b c n) (const_type d c n)
  unfolding const_type
  const_type-Included c n = search (including, h.core, type_behind-Included)

  pub bare_type-Included : (c : Context) (n : ℕ) → Included (bare_type b c n) (bare_type d c n)
  unfolding bare_type
  bare_type-Included c n = search (including, h.core, type_behind-Included)

  pub type_id-Included : (c : Context) (n : ℕ) → Included (type_id b c n) (type_id d c n)
  unfolding type_id
  type_id-Included c n = search (including, const_type-Included, bare_type-Included)
