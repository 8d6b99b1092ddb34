-- The laws of the productions of types.
use Rattle.std.proofs.Common.{◌≡◌, ℕ, Bool, true, false, List}
use Rattle.cx_base.specs.declared.place.Place.{Place}
use Rattle.cx_base.specs.declared.value.Scalar.{Scalar}
use Rattle.cx_tree.specs.Trees.{ExprTree, CoreTree, ArgumentTree}
use Rattle.cx_grammar.specs.Pieces.{Piece}
use Rattle.cx_grammar.specs.Names.{Context}
use Rattle.cx_grammar.specs.Types.{Numbered, Calling, Below, maybe_int, long_long, behind_long_long, behind_sign, scalar_behind, word_core, long_core, scalar_core, argument_list, some_arguments, more_argument, more_name, qualified_names, class_core, type_name_core, head_core, member_core, decltype_core, void_core, scalar_only, core, maybe_const, maybe_reference, type_behind, const_type, bare_type, type_id}
use Rattle.cx_grammar.proofs.Lawful.{Grows}
use Rattle.cx_grammar.proofs.Combinators.{Steps, token-Steps, turns-Grows, give-Grows, token-Grows, then-Grows, when-Grows, given-Grows}

-- all productions at a lower and at a higher level
pub record BelowGrows (requires : Bool) (b d : Below) : Type 0 where
  pub low_reads : b.requires ≡ requires
  pub high_reads : d.requires ≡ requires
  pub expr : (c : Context) (n : ℕ) → Grows requires (b.expr c n) (d.expr c n)
  pub unary : (c : Context) (n : ℕ) → Grows requires (b.unary c n) (d.unary c n)
  pub binary_rest : (level : ℕ) (c : Context) (e : Numbered ExprTree) → Grows requires (b.binary_rest level c e) (d.binary_rest level c e)
  pub operand : (level : ℕ) (c : Context) (n : ℕ) → Grows requires (b.operand level c n) (d.operand level c n)
  pub tail : (calling : Calling) (c : Context) (e : Numbered ExprTree) → Grows requires (b.tail calling c e) (d.tail calling c e)
  pub called : (c : Context) (e : Numbered ExprTree) → Grows requires (b.called c e) (d.called c e)
  pub type : (c : Context) (n : ℕ) → Grows requires (b.type c n) (d.type c n)
  pub core : (c : Context) (n : ℕ) → Grows requires (b.core c n) (d.core c n)
  pub argument : (c : Context) (n : ℕ) → Grows requires (b.argument c n) (d.argument c n)
  pub clause_primary : (c : Context) (n : ℕ) → Grows requires (b.clause_primary c n) (d.clause_primary c n)
  pub and_rest : (c : Context) (e : Numbered ExprTree) → Grows requires (b.and_rest c e) (d.and_rest c e)
  pub conjunction : (c : Context) (n : ℕ) → Grows requires (b.conjunction c n) (d.conjunction c n)
  pub or_rest : (c : Context) (e : Numbered ExprTree) → Grows requires (b.or_rest c e) (d.or_rest c e)

pub ruleset growing = (give-Grows, token-Grows, then-Grows, when-Grows, given-Grows)

pub maybe_int-Grows : {requires : Bool} (c : Context) (s : Scalar) → Grows requires (maybe_int c s) (maybe_int c s)
unfolding maybe_int
maybe_int-Grows c s = search growing

pub long_long-Grows : {requires : Bool} (c : Context) (s : Scalar) → Grows requires (long_long c s) (long_long c s)
unfolding long_long
long_long-Grows c s = search (growing, maybe_int-Grows)

pub behind_long_long-Grows : {requires : Bool} (c : Context) → Grows requires (behind_long_long c) (behind_long_long c)
unfolding behind_long_long
behind_long_long-Grows c = search (growing, maybe_int-Grows)

pub behind_sign-Grows : {requires : Bool} (c : Context) (s l : Scalar) → Grows requires (behind_sign c s l) (behind_sign c s l)
unfolding behind_sign
behind_sign-Grows c s l = search (growing, maybe_int-Grows, long_long-Grows)

pub scalar_behind-Grows : {requires : Bool} (c : Context) (t : Piece) → Grows requires (scalar_behind c t) (scalar_behind c t)
unfolding scalar_behind
scalar_behind-Grows c t = search (growing, behind_sign-Grows)

pub word_core-Grows : {requires : Bool} (c : Context) → Grows requires (word_core c) (word_core c)
unfolding word_core
word_core-Grows c = search (growing, scalar_behind-Grows)

pub long_core-Grows : {requires : Bool} (c : Context) → Grows requires (long_core c) (long_core c)
unfolding long_core
long_core-Grows c = search (growing, behind_long_long-Grows)

pub scalar_core-Grows : {requires : Bool} (c : Context) → Grows requires (scalar_core c) (scalar_core c)
unfolding scalar_core
scalar_core-Grows c = search (growing, word_core-Grows, long_core-Grows)

pub more_name-Steps : {requires : Bool} (c : Context) (so_far : List (List ℕ)) → Steps requires (more_name c so_far) (more_name c so_far)
unfolding more_name
more_name-Steps c so_far = search (growing, token-Steps)

pub qualified_names-Grows : {requires : Bool} (c : Context) → Grows requires (qualified_names c) (qualified_names c)
unfolding qualified_names
qualified_names-Grows c = search (growing, turns-Grows, more_name-Steps)

pub type_name_core-Grows : {requires : Bool} (c : Context) (n : ℕ) → Grows requires (type_name_core c n) (type_name_core c n)
unfolding type_name_core
type_name_core-Grows c n = search growing

pub void_core-Grows : {requires : Bool} (c : Context) (n : ℕ) → Grows requires (void_core c n) (void_core c n)
unfolding void_core
void_core-Grows c n = search growing

pub scalar_only-Grows : {requires : Bool} (c : Context) (n : ℕ) → Grows requires (scalar_only c n) (scalar_only c n)
unfolding scalar_only
scalar_only-Grows c n = search (growing, scalar_core-Grows)

pub maybe_const-Grows : {requires : Bool} (c : Context) (before : Bool) → Grows requires (maybe_const c before) (maybe_const c before)
unfolding maybe_const
maybe_const-Grows c true = search growing
maybe_const-Grows c false = search growing

pub maybe_reference-Grows : {requires : Bool} (c : Context) → Grows requires (maybe_reference c) (maybe_reference c)
unfolding maybe_reference
maybe_reference-Grows c = search growing

pub type_behind-Grows : {requires : Bool} (c : Context) (at : Place) (before : Bool) (k : Numbered CoreTree) → Grows requires (type_behind c at before k) (type_behind c at before k)
unfolding type_behind
type_behind-Grows c at before k = search (growing, maybe_const-Grows, maybe_reference-Grows)

module _ {requires : Bool} {b d : Below} (h : BelowGrows requires b d) where
  pub more_argument-Steps : (c : Context) (so_far : Numbered (List ArgumentTree)) → Steps requires (more_argument b c so_far) (more_argument d c so_far)
  unfolding more_argument
  more_argument-Steps c so_far = search (growing, token-Steps, h.argument)

  pub some_arguments-Grows : (c : Context) (n : ℕ) → Grows requires (some_arguments b c n) (some_arguments d c n)
  unfolding some_arguments
  some_arguments-Grows c n = search (growing, turns-Grows, more_argument-Steps, h.argument)

  pub argument_list-Grows : (c : Context) (n : ℕ) → Grows requires (argument_list b c n) (argument_list d c n)
  unfolding argument_list
  argument_list-Grows c n = search (growing, some_arguments-Grows)

  pub class_core-Grows : (c : Context) (n : ℕ) → Grows requires (class_core b c n) (class_core d c n)
  unfolding class_core
  class_core-Grows c n = search (growing, argument_list-Grows)

  pub head_core-Grows : (c : Context) (n : ℕ) → Grows requires (head_core b c n) (head_core d c n)
  unfolding head_core
  head_core-Grows c n = search (growing, class_core-Grows, type_name_core-Grows)

  pub member_core-Grows : (c : Context) (n : ℕ) → Grows requires (member_core b c n) (member_core d c n)
  unfolding member_core
  member_core-Grows c n = search (growing, head_core-Grows, qualified_names-Grows)

  pub decltype_core-Grows : (c : Context) (n : ℕ) → Grows requires (decltype_core b c n) (decltype_core d c n)
  unfolding decltype_core
  decltype_core-Grows c n = search (growing, h.expr)

  pub core-Grows : (c : Context) (n : ℕ) → Grows requires (core b c n) (core d c n)
  unfolding core
  core-Grows c n = search (growing, head_core-Grows, member_core-Grows, decltype_core-Grows, void_core-Grows, scalar_only-Grows)

  pub const_type-Grows : (c : Context) (n : ℕ) → Grows requires (const_type b c n) (const_type d c n)
  unfolding const_type
  const_type-Grows c n = search (growing, h.core, type_behind-Grows)

  pub bare_type-Grows : (c : Context) (n : ℕ) → Grows requires (bare_type b c n) (bare_type d c n)
  unfolding bare_type
  bare_type-Grows c n = search (growing, h.core, type_behind-Grows)

  pub type_id-Grows : (c : Context) (n : ℕ) → Grows requires (type_id b c n) (type_id d c n)
  unfolding type_id
  type_id-Grows c n = search (growing, const_type-Grows, bare_type-Grows)
