-- The end of a unit is in no type.
use Rattle.std.proofs.Common.{ℕ, Bool, true, false, List}
use Rattle.cx_base.specs.declared.place.Place.{Place}
use Rattle.cx_base.specs.declared.value.Scalar.{Scalar}
use Rattle.cx_tree.specs.Trees.{ExprTree, CoreTree, ArgumentTree}
use Rattle.cx_grammar.specs.Pieces.{Piece}
use Rattle.cx_grammar.specs.Names.{Context}
use Rattle.cx_grammar.specs.Types.{Numbered, Calling, Below, maybe_int, long_long, behind_long_long, behind_sign, scalar_behind, word_core, long_core, scalar_core, argument_list, some_arguments, more_argument, more_name, qualified_names, class_core, type_name_core, head_core, member_core, decltype_core, void_core, scalar_only, core, maybe_const, maybe_reference, type_behind, const_type, bare_type, type_id}
use Rattle.cx_parse_decl.proofs.Endless.{Endless, give-Endless, token-Endless, then-Endless, when-Endless, given-Endless, repeat-Endless, word-Other, any_name-Other, literal_token-Other, punct-Other, one_word-Other, is_prefix-Other, is_step-Other, closes-Other, kind_name-Other, is_operator-Other, is_assignment-Other, second_half-Other, never-Other}

-- the productions of a level
pub record BelowEndless (b : Below) : Type 0 where
  pub expr : (c : Context) (n : ℕ) → Endless (b.expr c n)
  pub unary : (c : Context) (n : ℕ) → Endless (b.unary c n)
  pub binary_rest : (level : ℕ) (c : Context) (e : Numbered ExprTree) → Endless (b.binary_rest level c e)
  pub operand : (level : ℕ) (c : Context) (n : ℕ) → Endless (b.operand level c n)
  pub tail : (calling : Calling) (c : Context) (e : Numbered ExprTree) → Endless (b.tail calling c e)
  pub called : (c : Context) (e : Numbered ExprTree) → Endless (b.called c e)
  pub type : (c : Context) (n : ℕ) → Endless (b.type c n)
  pub core : (c : Context) (n : ℕ) → Endless (b.core c n)
  pub argument : (c : Context) (n : ℕ) → Endless (b.argument c n)
  pub clause_primary : (c : Context) (n : ℕ) → Endless (b.clause_primary c n)
  pub and_rest : (c : Context) (e : Numbered ExprTree) → Endless (b.and_rest c e)
  pub conjunction : (c : Context) (n : ℕ) → Endless (b.conjunction c n)
  pub or_rest : (c : Context) (e : Numbered ExprTree) → Endless (b.or_rest c e)

pub ruleset endlessness = (give-Endless, token-Endless, then-Endless, when-Endless, given-Endless, word-Other, any_name-Other, literal_token-Other, punct-Other, one_word-Other, is_prefix-Other, is_step-Other, closes-Other, kind_name-Other, is_operator-Other, is_assignment-Other, second_half-Other, never-Other)

pub maybe_int-Endless : (c : Context) (s : Scalar) → Endless (maybe_int c s)
unfolding maybe_int
maybe_int-Endless c s = search endlessness depth 13

pub long_long-Endless : (c : Context) (s : Scalar) → Endless (long_long c s)
unfolding long_long
long_long-Endless c s = search (endlessness, maybe_int-Endless) depth 13

pub behind_long_long-Endless : (c : Context) → Endless (behind_long_long c)
unfolding behind_long_long
behind_long_long-Endless c = search (endlessness, maybe_int-Endless) depth 13

pub behind_sign-Endless : (c : Context) (s l : Scalar) → Endless (behind_sign c s l)
unfolding behind_sign
behind_sign-Endless c s l = search (endlessness, maybe_int-Endless, long_long-Endless) depth 13

pub scalar_behind-Endless : (c : Context) (t : Piece) → Endless (scalar_behind c t)
unfolding scalar_behind
scalar_behind-Endless c t = search (endlessness, behind_sign-Endless) depth 13

pub word_core-Endless : (c : Context) → Endless (word_core c)
unfolding word_core
word_core-Endless c = search (endlessness, scalar_behind-Endless) depth 13

pub long_core-Endless : (c : Context) → Endless (long_core c)
unfolding long_core
long_core-Endless c = search (endlessness, behind_long_long-Endless) depth 13

pub scalar_core-Endless : (c : Context) → Endless (scalar_core c)
unfolding scalar_core
scalar_core-Endless c = search (endlessness, word_core-Endless, long_core-Endless) depth 13

pub more_name-Endless : (c : Context) (so_far : List (List ℕ)) → Endless (more_name c so_far)
unfolding more_name
more_name-Endless c so_far = search (endlessness) depth 13

pub qualified_names-Endless : (c : Context) → Endless (qualified_names c)
unfolding qualified_names
qualified_names-Endless c = search (endlessness, repeat-Endless, more_name-Endless) depth 13

pub type_name_core-Endless : (c : Context) (n : ℕ) → Endless (type_name_core c n)
unfolding type_name_core
type_name_core-Endless c n = search endlessness depth 13

pub void_core-Endless : (c : Context) (n : ℕ) → Endless (void_core c n)
unfolding void_core
void_core-Endless c n = search endlessness depth 13

pub scalar_only-Endless : (c : Context) (n : ℕ) → Endless (scalar_only c n)
unfolding scalar_only
scalar_only-Endless c n = search (endlessness, scalar_core-Endless) depth 13

pub maybe_const-Endless : (c : Context) (before : Bool) → Endless (maybe_const c before)
unfolding maybe_const
maybe_const-Endless c true = search endlessness depth 13
maybe_const-Endless c false = search endlessness depth 13

pub maybe_reference-Endless : (c : Context) → Endless (maybe_reference c)
unfolding maybe_reference
maybe_reference-Endless c = search endlessness depth 13

pub type_behind-Endless : (c : Context) (at : Place) (before : Bool) (k : Numbered CoreTree) → Endless (type_behind c at before k)
unfolding type_behind
type_behind-Endless c at before k = search (endlessness, maybe_const-Endless, maybe_reference-Endless) depth 13

module _ {b : Below} (h : BelowEndless b) where
  pub more_argument-Endless : (c : Context) (so_far : Numbered (List ArgumentTree)) → Endless (more_argument b c so_far)
  unfolding more_argument
  more_argument-Endless c so_far = search (endlessness, h.argument) depth 13

  pub some_arguments-Endless : (c : Context) (n : ℕ) → Endless (some_arguments b c n)
  unfolding some_arguments
  some_arguments-Endless c n = search (endlessness, repeat-Endless, more_argument-Endless, h.argument) depth 13

  pub argument_list-Endless : (c : Context) (n : ℕ) → Endless (argument_list b c n)
  unfolding argument_list
  argument_list-Endless c n = search (endlessness, some_arguments-Endless) depth 13

  pub class_core-Endless : (c : Context) (n : ℕ) → Endless (class_core b c n)
  unfolding class_core
  class_core-Endless c n = search (endlessness, argument_list-Endless) depth 13

  pub head_core-Endless : (c : Context) (n : ℕ) → Endless (head_core b c n)
  unfolding head_core
  head_core-Endless c n = search (endlessness, class_core-Endless, type_name_core-Endless) depth 13

  pub member_core-Endless : (c : Context) (n : ℕ) → Endless (member_core b c n)
  unfolding member_core
  member_core-Endless c n = search (endlessness, head_core-Endless, qualified_names-Endless) depth 13

  pub decltype_core-Endless : (c : Context) (n : ℕ) → Endless (decltype_core b c n)
  unfolding decltype_core
  decltype_core-Endless c n = search (endlessness, h.expr) depth 13

  pub core-Endless : (c : Context) (n : ℕ) → Endless (core b c n)
  unfolding core
  core-Endless c n = search (endlessness, head_core-Endless, member_core-Endless, decltype_core-Endless, void_core-Endless, scalar_only-Endless) depth 13

  pub const_type-Endless : (c : Context) (n : ℕ) → Endless (const_type b c n)
  unfolding const_type
  const_type-Endless c n = search (endlessness, h.core, type_behind-Endless) depth 13

  pub bare_type-Endless : (c : Context) (n : ℕ) → Endless (bare_type b c n)
  unfolding bare_type
  bare_type-Endless c n = search (endlessness, h.core, type_behind-Endless) depth 13

  pub type_id-Endless : (c : Context) (n : ℕ) → Endless (type_id b c n)
  unfolding type_id
  type_id-Endless c n = search (endlessness, const_type-Endless, bare_type-Endless) depth 13
