-- Types are trees too where nothing stands behind them.
use Rattle.std.proofs.Common.{◌≡◌, ℕ, Bool, true, false, List, codes}
use Rattle.cx_base.specs.declared.place.Place.{Place}
use Rattle.cx_base.specs.declared.value.Scalar.{Scalar}
use Rattle.cx_tree.specs.Trees.{ExprTree, CoreTree, ArgumentTree}
use Rattle.cx_grammar.specs.Pieces.{Piece}
use Rattle.cx_grammar.specs.Words.{word, punct}
use Rattle.cx_grammar.specs.Names.{Context}
use Rattle.cx_grammar.specs.Types.{Numbered, Calling, Below, maybe_int, long_long, behind_long_long, behind_sign, scalar_behind, word_core, long_core, scalar_core, argument_list, some_arguments, more_argument, more_name, qualified_names, class_core, type_name_core, head_core, member_core, decltype_core, void_core, scalar_only, core, maybe_const, maybe_reference, type_behind, const_type, bare_type, type_id}
use Rattle.cx_grammar.proofs.Alone.{Alone, Filled, Opens, Turn, token-Turn, give-Alone, token-Alone, then-Alone, given-Alone, opens-Alone, filled-Alone, repeat-Alone, token-Filled, first-Filled, when-Filled, token-Opens, first-Opens}

-- the productions of a level
pub record BelowAlone (requires : Bool) (b : Below) : Type 0 where
  pub reads : b.requires ≡ requires
  pub expr : (c : Context) (n : ℕ) → Alone requires (b.expr c n)
  pub unary : (c : Context) (n : ℕ) → Alone requires (b.unary c n)
  pub binary_rest : (level : ℕ) (c : Context) (e : Numbered ExprTree) → Alone requires (b.binary_rest level c e)
  pub operand : (level : ℕ) (c : Context) (n : ℕ) → Alone requires (b.operand level c n)
  pub tail : (calling : Calling) (c : Context) (e : Numbered ExprTree) → Alone requires (b.tail calling c e)
  pub called : (c : Context) (e : Numbered ExprTree) → Alone requires (b.called c e)
  pub type : (c : Context) (n : ℕ) → Alone requires (b.type c n)
  pub core : (c : Context) (n : ℕ) → Alone requires (b.core c n)
  pub argument : (c : Context) (n : ℕ) → Alone requires (b.argument c n)
  pub clause_primary : (c : Context) (n : ℕ) → Alone requires (b.clause_primary c n)
  pub and_rest : (c : Context) (e : Numbered ExprTree) → Alone requires (b.and_rest c e)
  pub conjunction : (c : Context) (n : ℕ) → Alone requires (b.conjunction c n)
  pub or_rest : (c : Context) (e : Numbered ExprTree) → Alone requires (b.or_rest c e)
  pub some_core : (c : Context) (n : ℕ) → Filled (b.core c n)

pub ruleset aloneness = (give-Alone, token-Alone, then-Alone, given-Alone, opens-Alone, filled-Alone, token-Filled, first-Filled, when-Filled, token-Opens, first-Opens)

maybe_int-Alone : {requires : Bool} (c : Context) (s : Scalar) → Alone requires (maybe_int c s)
unfolding maybe_int
maybe_int-Alone c s = search aloneness

long_long-Turn : {requires : Bool} (c : Context) (s : Scalar) → Turn requires (word (codes "long")) (long_long c s)
unfolding long_long
long_long-Turn c s = search (token-Turn, aloneness, maybe_int-Alone)

long_long-Alone : {requires : Bool} (c : Context) (s : Scalar) → Alone requires (long_long c s)
long_long-Alone c s = (long_long-Turn c s).alone

pub long_long-Filled : (c : Context) (s : Scalar) → Filled (long_long c s)
long_long-Filled c s = (long_long-Turn {requires = false} c s).filled

long_long-Opens : (c : Context) (s : Scalar) → Opens (word (codes "long")) (long_long c s)
long_long-Opens c s = (long_long-Turn {requires = false} c s).opens

behind_long_long-Alone : {requires : Bool} (c : Context) → Alone requires (behind_long_long c)
unfolding behind_long_long
behind_long_long-Alone c = search (aloneness, maybe_int-Alone)

behind_sign-Alone : {requires : Bool} (c : Context) (s l : Scalar) → Alone requires (behind_sign c s l)
unfolding behind_sign
behind_sign-Alone c s l = search (aloneness, maybe_int-Alone, long_long-Alone, long_long-Filled, long_long-Opens)

pub scalar_behind-Alone : {requires : Bool} (c : Context) (t : Piece) → Alone requires (scalar_behind c t)
unfolding scalar_behind
scalar_behind-Alone c t = search (aloneness, behind_sign-Alone)

word_core-Alone : {requires : Bool} (c : Context) → Alone requires (word_core c)
unfolding word_core
word_core-Alone c = search (aloneness, scalar_behind-Alone)

pub word_core-Filled : (c : Context) → Filled (word_core c)
unfolding word_core
word_core-Filled c = search aloneness

long_core-Alone : {requires : Bool} (c : Context) → Alone requires (long_core c)
unfolding long_core
long_core-Alone c = search (aloneness, behind_long_long-Alone)

pub long_core-Filled : (c : Context) → Filled (long_core c)
unfolding long_core
long_core-Filled c = search aloneness

scalar_core-Alone : {requires : Bool} (c : Context) → Alone requires (scalar_core c)
unfolding scalar_core
scalar_core-Alone c = search (aloneness, word_core-Alone, long_core-Alone, word_core-Filled, long_core-Filled)

pub scalar_core-Filled : (c : Context) → Filled (scalar_core c)
unfolding scalar_core
scalar_core-Filled c = search (aloneness, word_core-Filled, long_core-Filled)

more_name-Turn : {requires : Bool} (c : Context) (so_far : List (List ℕ)) → Turn requires (punct (codes "::")) (more_name c so_far)
unfolding more_name
more_name-Turn c so_far = search (token-Turn, aloneness)

pub qualified_names-Alone : {requires : Bool} (c : Context) → Alone requires (qualified_names c)
unfolding qualified_names
qualified_names-Alone c = search (aloneness, repeat-Alone, more_name-Turn)

pub qualified_names-Opens : (c : Context) → Opens (punct (codes "::")) (qualified_names c)
unfolding qualified_names
qualified_names-Opens c = search aloneness

pub qualified_names-Filled : (c : Context) → Filled (qualified_names c)
unfolding qualified_names
qualified_names-Filled c = search aloneness

pub type_name_core-Alone : {requires : Bool} (c : Context) (n : ℕ) → Alone requires (type_name_core c n)
unfolding type_name_core
type_name_core-Alone c n = search aloneness

pub type_name_core-Filled : (c : Context) (n : ℕ) → Filled (type_name_core c n)
unfolding type_name_core
type_name_core-Filled c n = search aloneness

void_core-Alone : {requires : Bool} (c : Context) (n : ℕ) → Alone requires (void_core c n)
unfolding void_core
void_core-Alone c n = search aloneness

pub void_core-Filled : (c : Context) (n : ℕ) → Filled (void_core c n)
unfolding void_core
void_core-Filled c n = search aloneness

scalar_only-Alone : {requires : Bool} (c : Context) (n : ℕ) → Alone requires (scalar_only c n)
unfolding scalar_only
scalar_only-Alone c n = search (aloneness, scalar_core-Alone)

pub scalar_only-Filled : (c : Context) (n : ℕ) → Filled (scalar_only c n)
unfolding scalar_only
scalar_only-Filled c n = search (aloneness, scalar_core-Filled)

maybe_const-Alone : {requires : Bool} (c : Context) (before : Bool) → Alone requires (maybe_const c before)
unfolding maybe_const
maybe_const-Alone c true = search aloneness
maybe_const-Alone c false = search aloneness

maybe_reference-Alone : {requires : Bool} (c : Context) → Alone requires (maybe_reference c)
unfolding maybe_reference
maybe_reference-Alone c = search aloneness

pub type_behind-Alone : {requires : Bool} (c : Context) (at : Place) (before : Bool) (k : Numbered CoreTree) → Alone requires (type_behind c at before k)
unfolding type_behind
type_behind-Alone c at before k = search (aloneness, maybe_const-Alone, maybe_reference-Alone)

module _ {requires : Bool} {b : Below} (h : BelowAlone requires b) where
  more_argument-Turn : (c : Context) (so_far : Numbered (List ArgumentTree)) → Turn requires (punct (codes ",")) (more_argument b c so_far)
  unfolding more_argument
  more_argument-Turn c so_far = search (token-Turn, aloneness, h.argument)

  some_arguments-Alone : (c : Context) (n : ℕ) → Alone requires (some_arguments b c n)
  unfolding some_arguments
  some_arguments-Alone c n = search (aloneness, repeat-Alone, more_argument-Turn, h.argument)

  argument_list-Turn : (c : Context) (n : ℕ) → Turn requires (punct (codes "<")) (argument_list b c n)
  unfolding argument_list
  argument_list-Turn c n = search (token-Turn, aloneness, some_arguments-Alone)

  pub argument_list-Alone : (c : Context) (n : ℕ) → Alone requires (argument_list b c n)
  argument_list-Alone c n = (argument_list-Turn c n).alone

  pub argument_list-Filled : (c : Context) (n : ℕ) → Filled (argument_list b c n)
  argument_list-Filled c n = (argument_list-Turn c n).filled

  pub argument_list-Opens : (c : Context) (n : ℕ) → Opens (punct (codes "<")) (argument_list b c n)
  argument_list-Opens c n = (argument_list-Turn c n).opens

  pub class_core-Alone : (c : Context) (n : ℕ) → Alone requires (class_core b c n)
  unfolding class_core
  class_core-Alone c n = search (aloneness, argument_list-Alone)

  pub class_core-Filled : (c : Context) (n : ℕ) → Filled (class_core b c n)
  unfolding class_core
  class_core-Filled c n = search aloneness

  head_core-Alone : (c : Context) (n : ℕ) → Alone requires (head_core b c n)
  unfolding head_core
  head_core-Alone c n = search (aloneness, class_core-Alone, class_core-Filled, type_name_core-Alone, type_name_core-Filled)

  pub head_core-Filled : (c : Context) (n : ℕ) → Filled (head_core b c n)
  unfolding head_core
  head_core-Filled c n = search (aloneness, class_core-Filled, type_name_core-Filled)

  member_core-Alone : (c : Context) (n : ℕ) → Alone requires (member_core b c n)
  unfolding member_core
  member_core-Alone c n = search (aloneness, head_core-Alone, qualified_names-Alone)

  pub member_core-Filled : (c : Context) (n : ℕ) → Filled (member_core b c n)
  unfolding member_core
  member_core-Filled c n = search aloneness

  decltype_core-Alone : (c : Context) (n : ℕ) → Alone requires (decltype_core b c n)
  unfolding decltype_core
  decltype_core-Alone c n = search (aloneness, h.expr) depth 7

  pub decltype_core-Filled : (c : Context) (n : ℕ) → Filled (decltype_core b c n)
  unfolding decltype_core
  decltype_core-Filled c n = search aloneness

  pub core-Alone : (c : Context) (n : ℕ) → Alone requires (core b c n)
  unfolding core
  core-Alone c n = search (aloneness, head_core-Alone, member_core-Alone, decltype_core-Alone, void_core-Alone, scalar_only-Alone, head_core-Filled, member_core-Filled, decltype_core-Filled, void_core-Filled, scalar_only-Filled) depth 7

  pub core-Filled : (c : Context) (n : ℕ) → Filled (core b c n)
  unfolding core
  core-Filled c n = search (aloneness, head_core-Filled, member_core-Filled, decltype_core-Filled, void_core-Filled, scalar_only-Filled) depth 7

  pub const_type-Alone : (c : Context) (n : ℕ) → Alone requires (const_type b c n)
  unfolding const_type
  const_type-Alone c n = search (aloneness, h.core, type_behind-Alone)

  pub const_type-Filled : (c : Context) (n : ℕ) → Filled (const_type b c n)
  unfolding const_type
  const_type-Filled c n = search aloneness

  bare_type-Alone : (c : Context) (n : ℕ) → Alone requires (bare_type b c n)
  unfolding bare_type
  bare_type-Alone c n = search (aloneness, h.core, type_behind-Alone)

  pub bare_type-Filled : (c : Context) (n : ℕ) → Filled (bare_type b c n)
  unfolding bare_type
  bare_type-Filled c n = search (aloneness, h.some_core)

  pub type_id-Alone : (c : Context) (n : ℕ) → Alone requires (type_id b c n)
  unfolding type_id
  type_id-Alone c n = search (aloneness, const_type-Alone, bare_type-Alone, const_type-Filled, bare_type-Filled)

  pub type_id-Filled : (c : Context) (n : ℕ) → Filled (type_id b c n)
  unfolding type_id
  type_id-Filled c n = search (aloneness, const_type-Filled, bare_type-Filled)
