-- Productions of types are not exhausted where the levels are more than what the limit leaves.
use Rattle.std.proofs.Common.{◌≤◌, ℕ, suc, ◌+◌, Bool, true, false, List, arith}
use Rattle.cx_base.specs.declared.place.Place.{Place}
use Rattle.cx_base.specs.declared.value.Scalar.{Scalar}
use Rattle.cx_tree.specs.Trees.{ExprTree, CoreTree, ArgumentTree}
use Rattle.cx_grammar.specs.Pieces.{Piece}
use Rattle.cx_grammar.specs.Names.{Context}
use Rattle.cx_grammar.specs.Types.{Numbered, Calling, Below, maybe_int, long_long, behind_long_long, behind_sign, scalar_behind, word_core, long_core, scalar_core, argument_list, some_arguments, more_argument, more_name, qualified_names, class_core, type_name_core, head_core, member_core, decltype_core, void_core, scalar_only, core, maybe_const, maybe_reference, type_behind, const_type, bare_type, type_id}
use Rattle.cx_grammar.proofs.Combinators.{Takes, Firm, give-Firm, token-Firm, then-Firm, behind-Firm, when-Firm, given-Firm, repeat-Firm}
use Rattle.cx_grammar.proofs.Types.{BelowGrows, more_name-Steps, more_argument-Steps}

-- levels for a load: those that the limit leaves, and two more
pub record Enough (limit n load : ℕ) : Type 0 where
  pub left : limit + 3 ≤ n + load
  pub more : 2 ≤ n

-- ... for a core, which begins with a token
pub record Reached (limit n load : ℕ) : Type 0 where
  pub left : limit + 3 ≤ n + load
  pub more : 1 ≤ n

pub enough_next : (limit n load : ℕ) → load ≤ limit → Enough limit (suc n) load → Enough limit n (load + 1)
enough_next limit n load h k = record { left = omega (arith, k.left); more = omega (arith, k.left) }

pub enough_inner : (limit n load : ℕ) → load + 1 ≤ limit → Enough limit (suc n) load → Enough limit n (load + 1)
enough_inner limit n load h k = record { left = omega (arith, k.left); more = omega (arith, k.left) }

pub enough_second : (limit n load : ℕ) → load + 1 ≤ limit → Enough limit (suc n) load → Enough limit n (load + 1 + 1)
enough_second limit n load h k = record { left = omega (arith, k.left); more = omega (arith, k.left) }

pub reached_next : (limit n load : ℕ) → Enough limit (suc n) load → Reached limit n (load + 1)
reached_next limit n load k = record { left = omega (arith, k.left); more = omega (arith, k.more) }

pub inner_next : (limit n load : ℕ) → load ≤ limit → Reached limit (suc n) load → Enough limit n (load + 1)
inner_next limit n load h k = record { left = omega (arith, k.left); more = omega (arith, k.left) }

pub inner_inner : (limit n load : ℕ) → load + 1 ≤ limit → Reached limit (suc n) load → Enough limit n (load + 1)
inner_inner limit n load h k = record { left = omega (arith, k.left); more = omega (arith, k.left) }

pub reached_enough : (limit n load : ℕ) → Enough limit n load → Reached limit n load
reached_enough limit n load k = record { left = k.left; more = omega (arith, k.more) }

pub ruleset rooms = (enough_next, enough_inner, enough_second, reached_next, inner_next, inner_inner, reached_enough)

-- Productions of level n and of a higher level, within a load. A core may stand one construct deeper, since each begins
-- with a token.
pub record BelowFirm (limit n : ℕ) (b d : Below) : Type 0 where
  pub expr : (c : Context) (k : ℕ) → Enough limit n c.load → Firm limit (b.expr c k) (d.expr c k)
  pub unary : (c : Context) (k : ℕ) → Enough limit n c.load → Firm limit (b.unary c k) (d.unary c k)
  pub binary_rest : (level : ℕ) (c : Context) (e : Numbered ExprTree) → Enough limit n c.load → Firm limit (b.binary_rest level c e) (d.binary_rest level c e)
  pub operand : (level : ℕ) (c : Context) (k : ℕ) → Enough limit n c.load → Firm limit (b.operand level c k) (d.operand level c k)
  pub tail : (calling : Calling) (c : Context) (e : Numbered ExprTree) → Enough limit n c.load → Firm limit (b.tail calling c e) (d.tail calling c e)
  pub called : (c : Context) (e : Numbered ExprTree) → c.load ≤ limit → Enough limit n c.load → Firm limit (b.called c e) (d.called c e)
  pub type : (c : Context) (k : ℕ) → Enough limit n c.load → Firm limit (b.type c k) (d.type c k)
  pub core : (c : Context) (k : ℕ) → Reached limit n c.load → Firm limit (b.core c k) (d.core c k)
  pub argument : (c : Context) (k : ℕ) → Enough limit n c.load → Firm limit (b.argument c k) (d.argument c k)
  pub clause_primary : (c : Context) (k : ℕ) → Enough limit n c.load → Firm limit (b.clause_primary c k) (d.clause_primary c k)
  pub and_rest : (c : Context) (e : Numbered ExprTree) → Enough limit n c.load → Firm limit (b.and_rest c e) (d.and_rest c e)
  pub conjunction : (c : Context) (k : ℕ) → Enough limit n c.load → Firm limit (b.conjunction c k) (d.conjunction c k)
  pub or_rest : (c : Context) (e : Numbered ExprTree) → Enough limit n c.load → Firm limit (b.or_rest c e) (d.or_rest c e)

pub ruleset firmness = (give-Firm, token-Firm, behind-Firm, then-Firm, when-Firm, given-Firm)

module _ (limit : ℕ) where
  maybe_int-Firm : (c : Context) (s : Scalar) → Firm limit (maybe_int c s) (maybe_int c s)
  unfolding maybe_int
  maybe_int-Firm c s = search firmness

  long_long-Firm : (c : Context) (s : Scalar) → Firm limit (long_long c s) (long_long c s)
  unfolding long_long
  long_long-Firm c s = search (firmness, maybe_int-Firm)

  behind_long_long-Firm : (c : Context) → Firm limit (behind_long_long c) (behind_long_long c)
  unfolding behind_long_long
  behind_long_long-Firm c = search (firmness, maybe_int-Firm)

  behind_sign-Firm : (c : Context) (s l : Scalar) → Firm limit (behind_sign c s l) (behind_sign c s l)
  unfolding behind_sign
  behind_sign-Firm c s l = search (firmness, maybe_int-Firm, long_long-Firm)

  pub scalar_behind-Firm : (c : Context) (t : Piece) → Firm limit (scalar_behind c t) (scalar_behind c t)
  unfolding scalar_behind
  scalar_behind-Firm c t = search (firmness, behind_sign-Firm)

  word_core-Firm : (c : Context) → Firm limit (word_core c) (word_core c)
  unfolding word_core
  word_core-Firm c = search (firmness, scalar_behind-Firm)

  long_core-Firm : (c : Context) → Firm limit (long_core c) (long_core c)
  unfolding long_core
  long_core-Firm c = search (firmness, behind_long_long-Firm)

  pub scalar_core-Firm : (c : Context) → Firm limit (scalar_core c) (scalar_core c)
  unfolding scalar_core
  scalar_core-Firm c = search (firmness, word_core-Firm, long_core-Firm)

  more_name-Takes : (c : Context) (so_far : List (List ℕ)) → Takes (more_name c so_far)
  more_name-Takes c so_far = (more_name-Steps {requires = false} c so_far).low

  more_name-Firm : (c : Context) (so_far : List (List ℕ)) → Firm limit (more_name c so_far) (more_name c so_far)
  unfolding more_name
  more_name-Firm c so_far = search firmness

  pub qualified_names-Firm : (c : Context) → Firm limit (qualified_names c) (qualified_names c)
  unfolding qualified_names
  qualified_names-Firm c = search (firmness, repeat-Firm, more_name-Takes, more_name-Firm)

  pub type_name_core-Firm : (c : Context) (n : ℕ) → Firm limit (type_name_core c n) (type_name_core c n)
  unfolding type_name_core
  type_name_core-Firm c n = search firmness

  void_core-Firm : (c : Context) (n : ℕ) → Firm limit (void_core c n) (void_core c n)
  unfolding void_core
  void_core-Firm c n = search firmness

  scalar_only-Firm : (c : Context) (n : ℕ) → Firm limit (scalar_only c n) (scalar_only c n)
  unfolding scalar_only
  scalar_only-Firm c n = search (firmness, scalar_core-Firm)

  maybe_const-Firm : (c : Context) (before : Bool) → Firm limit (maybe_const c before) (maybe_const c before)
  unfolding maybe_const
  maybe_const-Firm c true = search firmness
  maybe_const-Firm c false = search firmness

  maybe_reference-Firm : (c : Context) → Firm limit (maybe_reference c) (maybe_reference c)
  unfolding maybe_reference
  maybe_reference-Firm c = search firmness

  pub type_behind-Firm : (c : Context) (at : Place) (before : Bool) (k : Numbered CoreTree) → Firm limit (type_behind c at before k) (type_behind c at before k)
  unfolding type_behind
  type_behind-Firm c at before k = search (firmness, maybe_const-Firm, maybe_reference-Firm)

module _ {requires : Bool} {limit n : ℕ} {b d : Below} (g : BelowGrows requires b d) (f : BelowFirm limit n b d) where
  more_argument-Takes : (c : Context) (so_far : Numbered (List ArgumentTree)) → Takes (more_argument b c so_far)
  more_argument-Takes c so_far = (more_argument-Steps g c so_far).low

  more_argument-Firm : (c : Context) (so_far : Numbered (List ArgumentTree)) → Enough limit n c.load → Firm limit (more_argument b c so_far) (more_argument d c so_far)
  unfolding more_argument
  more_argument-Firm c so_far k = search (firmness, f.argument, rooms)

  some_arguments-Firm : (c : Context) (m : ℕ) → Enough limit n c.load → Firm limit (some_arguments b c m) (some_arguments d c m)
  unfolding some_arguments
  some_arguments-Firm c m k = search (firmness, repeat-Firm, more_argument-Takes, more_argument-Firm, f.argument)

  pub argument_list-Firm : (c : Context) (m : ℕ) → Reached limit (suc n) c.load → Firm limit (argument_list b c m) (argument_list d c m)
  unfolding argument_list
  argument_list-Firm c m k = search (firmness, some_arguments-Firm, rooms)

  pub class_core-Firm : (c : Context) (m : ℕ) → Reached limit (suc n) c.load → Firm limit (class_core b c m) (class_core d c m)
  unfolding class_core
  class_core-Firm c m k = search (firmness, argument_list-Firm)

  head_core-Firm : (c : Context) (m : ℕ) → Reached limit (suc n) c.load → Firm limit (head_core b c m) (head_core d c m)
  unfolding head_core
  head_core-Firm c m k = search (firmness, class_core-Firm, type_name_core-Firm)

  member_core-Firm : (c : Context) (m : ℕ) → Reached limit (suc n) c.load → Firm limit (member_core b c m) (member_core d c m)
  unfolding member_core
  member_core-Firm c m k = search (firmness, head_core-Firm, qualified_names-Firm)

  decltype_core-Firm : (c : Context) (m : ℕ) → Reached limit (suc n) c.load → Firm limit (decltype_core b c m) (decltype_core d c m)
  unfolding decltype_core
  decltype_core-Firm c m k = search (firmness, f.expr, rooms) depth 7

  pub core-Firm : (c : Context) (m : ℕ) → Reached limit (suc n) c.load → Firm limit (core b c m) (core d c m)
  unfolding core
  core-Firm c m k = search (firmness, head_core-Firm, member_core-Firm, decltype_core-Firm, void_core-Firm, scalar_only-Firm)

  pub const_type-Firm : (c : Context) (m : ℕ) → Enough limit (suc n) c.load → Firm limit (const_type b c m) (const_type d c m)
  unfolding const_type
  const_type-Firm c m k = search (firmness, f.core, type_behind-Firm, rooms)

  bare_type-Firm : (c : Context) (m : ℕ) → Enough limit (suc n) c.load → Firm limit (bare_type b c m) (bare_type d c m)
  unfolding bare_type
  bare_type-Firm c m k = search (firmness, f.core, type_behind-Firm, rooms)

  pub type_id-Firm : (c : Context) (m : ℕ) → Enough limit (suc n) c.load → Firm limit (type_id b c m) (type_id d c m)
  unfolding type_id
  type_id-Firm c m k = search (firmness, const_type-Firm, bare_type-Firm)
