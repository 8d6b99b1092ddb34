-- Types and expressions end with whole tokens.
use Rattle.std.proofs.Common.{◌≡◌, ℕ, zero, suc, Bool, true, false, List}
use Rattle.cx_base.specs.declared.place.Place.{Place}
use Rattle.cx_base.specs.declared.value.Scalar.{Scalar}
use Rattle.cx_scope.specs.declared.name_kind.NameKind.{NameKind}
use Rattle.cx_tree.specs.Trees.{ExprTree, TypeTree, CoreTree}
use Rattle.cx_grammar.specs.Pieces.{Piece}
use Rattle.cx_grammar.specs.Production.{Production}
use Rattle.cx_grammar.specs.Names.{Context, kind_name}
use Rattle.cx_grammar.specs.Types.{Numbered, Placed, Calling, NoCall, MayCall, MustCall, Below, maybe_int, long_long, behind_long_long, behind_sign, scalar_behind, word_core, long_core, scalar_core, argument_list, more_name, qualified_names, class_core, type_name_core, head_core, member_core, decltype_core, void_core, scalar_only, core, maybe_const, maybe_reference, type_behind, const_type, bare_type, type_id}
use Rattle.cx_grammar.specs.Requires.{requires_expr, maybe_requires}
use Rattle.cx_grammar.specs.Expressions.{levels, literal, truth, group, static_cast, is_same, out, list, qualified, behind_head, behind_core, headed, cored, word_list, name_alone, named, with_calling, worded, simple_primary, primary, member, step, tail_behind, called, call, tail, postfix, prefixed, unary, binary_chain, binary_rest, rests, operand, conditional, assignment, expr_behind, expr, argument_of, argument_type, core_argument, head_argument, word_argument, core_type_argument, argument, uncalled, clause_primary, and_rest, conjunction, or_rest, clause}
use Rattle.cx_grammar.proofs.Even.{Even, IsWhole, give-Even, token-Even, then-Even, last-Even, when-Even, given-Even, repeat-Even, closed-Even, word-Whole, any_name-Whole, literal_token-Whole, punct-Whole, or-Whole, and-Whole, never-Whole, one_word-Whole, is_prefix-Whole, closes-Whole, unread-Even, end-Whole}
use Rattle.cx_grammar.proofs.Alone.{Filled, token-Filled, first-Filled, second-Filled, when-Filled, given-Filled, closed-Filled}
use Rattle.cx_grammar.proofs.AloneTypes.{BelowAlone}
use Rattle.cx_grammar.proofs.Requires.{filling}
use Rattle.cx_grammar.proofs.AloneExpressions.{levels-Alone, behind_core-Filled, expr-Filled, simple_primary-Filled, unary-Filled}

-- the productions of a level, in no list of template arguments
pub record BelowEven (b : Below) : Type 0 where
  pub expr : (c : Context) (n : ℕ) → c.angle ≡ 0 → Even (b.expr c n)
  pub unary : (c : Context) (n : ℕ) → c.angle ≡ 0 → Even (b.unary c n)
  pub binary_rest : (level : ℕ) (c : Context) (e : Numbered ExprTree) → c.angle ≡ 0 → Even (b.binary_rest level c e)
  pub operand : (level : ℕ) (c : Context) (n : ℕ) → c.angle ≡ 0 → Even (b.operand level c n)
  pub tail : (calling : Calling) (c : Context) (e : Numbered ExprTree) → c.angle ≡ 0 → Even (b.tail calling c e)
  pub called : (c : Context) (e : Numbered ExprTree) → c.angle ≡ 0 → Even (b.called c e)
  pub type : (c : Context) (n : ℕ) → c.angle ≡ 0 → Even (b.type c n)
  pub core : (c : Context) (n : ℕ) → c.angle ≡ 0 → Even (b.core c n)
  pub argument : (c : Context) (n : ℕ) → c.angle ≡ 0 → Even (b.argument c n)
  pub clause_primary : (c : Context) (n : ℕ) → c.angle ≡ 0 → Even (b.clause_primary c n)
  pub and_rest : (c : Context) (e : Numbered ExprTree) → c.angle ≡ 0 → Even (b.and_rest c e)
  pub conjunction : (c : Context) (n : ℕ) → c.angle ≡ 0 → Even (b.conjunction c n)
  pub or_rest : (c : Context) (e : Numbered ExprTree) → c.angle ≡ 0 → Even (b.or_rest c e)
  pub some_expr : (c : Context) (n : ℕ) → Filled (b.expr c n)
  pub some_unary : (c : Context) (n : ℕ) → Filled (b.unary c n)
  pub some_operand : (level : ℕ) (c : Context) (n : ℕ) → Filled (b.operand level c n)
  pub some_clause_primary : (c : Context) (n : ℕ) → Filled (b.clause_primary c n)
  pub some_conjunction : (c : Context) (n : ℕ) → Filled (b.conjunction c n)

pub kind_name-Whole : (wanted : NameKind) (c : Context) → IsWhole (kind_name wanted c)
unfolding kind_name
kind_name-Whole wanted c = search (and-Whole, any_name-Whole)

pub ruleset evenness = (give-Even, token-Even, then-Even, last-Even, when-Even, given-Even, word-Whole, any_name-Whole, literal_token-Whole, punct-Whole, one_word-Whole, is_prefix-Whole, closes-Whole, or-Whole, and-Whole, never-Whole, kind_name-Whole, unread-Even, end-Whole, token-Filled, first-Filled, second-Filled, when-Filled)

pub maybe_int-Even : (c : Context) (s : Scalar) → Even (maybe_int c s)
unfolding maybe_int
maybe_int-Even c s = search evenness depth 7 fits 4000

pub long_long-Even : (c : Context) (s : Scalar) → Even (long_long c s)
unfolding long_long
long_long-Even c s = search (evenness, maybe_int-Even) depth 7 fits 4000

pub behind_long_long-Even : (c : Context) → Even (behind_long_long c)
unfolding behind_long_long
behind_long_long-Even c = search (evenness, maybe_int-Even) depth 7 fits 4000

pub behind_sign-Even : (c : Context) (short : Scalar) (long : Scalar) → Even (behind_sign c short long)
unfolding behind_sign
behind_sign-Even c short long = search (evenness, maybe_int-Even, long_long-Even) depth 6 fits 4000

pub scalar_behind-Even : (c : Context) (t : Piece) → Even (scalar_behind c t)
unfolding scalar_behind
scalar_behind-Even c t = search (evenness, behind_sign-Even) depth 7 fits 4000

pub word_core-Even : (c : Context) → Even (word_core c)
unfolding word_core
word_core-Even c = search (evenness, scalar_behind-Even) depth 7 fits 4000

pub long_core-Even : (c : Context) → Even (long_core c)
unfolding long_core
long_core-Even c = search (evenness, behind_long_long-Even) depth 8 fits 4000

pub scalar_core-Even : (c : Context) → Even (scalar_core c)
unfolding scalar_core
scalar_core-Even c = search (evenness, word_core-Even, long_core-Even) depth 6 fits 4000

module _ {requires : Bool} {b : Below} (h : BelowAlone requires b) (k : BelowEven b) where
  pub argument_list-Even : (c : Context) (n : ℕ) → c.angle ≡ 0 → Even (argument_list b c n)
  unfolding argument_list
  argument_list-Even c n w = search evenness depth 8 fits 4000

pub more_name-Even : (c : Context) (so_far : List (List ℕ)) → Even (more_name c so_far)
unfolding more_name
more_name-Even c so_far = search evenness depth 7 fits 4000

pub qualified_names-Even : (c : Context) → Even (qualified_names c)
unfolding qualified_names
qualified_names-Even c = search (evenness, repeat-Even, more_name-Even) depth 7 fits 4000

module _ {requires : Bool} {b : Below} (h : BelowAlone requires b) (k : BelowEven b) where
  pub class_core-Even : (c : Context) (n : ℕ) → c.angle ≡ 0 → Even (class_core b c n)
  unfolding class_core
  class_core-Even c n w = search (evenness, argument_list-Even) depth 7 fits 4000

pub type_name_core-Even : (c : Context) (n : ℕ) → Even (type_name_core c n)
unfolding type_name_core
type_name_core-Even c n = search evenness depth 6 fits 4000

module _ {requires : Bool} {b : Below} (h : BelowAlone requires b) (k : BelowEven b) where
  pub head_core-Even : (c : Context) (n : ℕ) → c.angle ≡ 0 → Even (head_core b c n)
  unfolding head_core
  head_core-Even c n w = search (evenness, class_core-Even, type_name_core-Even) depth 6 fits 4000

  pub member_core-Even : (c : Context) (n : ℕ) → c.angle ≡ 0 → Even (member_core b c n)
  unfolding member_core
  member_core-Even c n w = search (evenness, qualified_names-Even, head_core-Even) depth 8 fits 4000

  pub decltype_core-Even : (c : Context) (n : ℕ) → c.angle ≡ 0 → Even (decltype_core b c n)
  unfolding decltype_core
  decltype_core-Even c n w = search (evenness, k.expr) depth 9 fits 4000

pub void_core-Even : (c : Context) (n : ℕ) → Even (void_core c n)
unfolding void_core
void_core-Even c n = search evenness depth 6 fits 4000

pub scalar_only-Even : (c : Context) (n : ℕ) → Even (scalar_only c n)
unfolding scalar_only
scalar_only-Even c n = search (evenness, scalar_core-Even) depth 6 fits 4000

module _ {requires : Bool} {b : Below} (h : BelowAlone requires b) (k : BelowEven b) where
  pub core-Even : (c : Context) (n : ℕ) → c.angle ≡ 0 → Even (core b c n)
  unfolding core
  core-Even c n w = search (evenness, head_core-Even, member_core-Even, decltype_core-Even, void_core-Even, scalar_only-Even) depth 9 fits 4000

pub maybe_const-Even : (c : Context) (before : Bool) → Even (maybe_const c before)
unfolding maybe_const
maybe_const-Even c true = search evenness
maybe_const-Even c false = search evenness

pub maybe_reference-Even : (c : Context) → Even (maybe_reference c)
unfolding maybe_reference
maybe_reference-Even c = search evenness depth 7 fits 4000

pub type_behind-Even : (c : Context) (at : Place) (before : Bool) (core' : Numbered CoreTree) → Even (type_behind c at before core')
unfolding type_behind
type_behind-Even c at before core' = search (evenness, maybe_const-Even, maybe_reference-Even) depth 7 fits 4000

module _ {requires : Bool} {b : Below} (h : BelowAlone requires b) (k : BelowEven b) where
  pub const_type-Even : (c : Context) (n : ℕ) → c.angle ≡ 0 → Even (const_type b c n)
  unfolding const_type
  const_type-Even c n w = search (evenness, type_behind-Even, k.core) depth 7 fits 4000

  pub bare_type-Even : (c : Context) (n : ℕ) → c.angle ≡ 0 → Even (bare_type b c n)
  unfolding bare_type
  bare_type-Even c n w = search (evenness, type_behind-Even, k.core) depth 6 fits 4000

  pub type_id-Even : (c : Context) (n : ℕ) → c.angle ≡ 0 → Even (type_id b c n)
  unfolding type_id
  type_id-Even c n w = search (evenness, const_type-Even, bare_type-Even) depth 6 fits 4000

pub literal-Even : (c : Context) (n : ℕ) → Even (literal c n)
unfolding literal
literal-Even c n = search evenness depth 6 fits 4000

pub truth-Even : (value : Bool) (text : List ℕ) (c : Context) (n : ℕ) → Even (truth value text c n)
unfolding truth
truth-Even value text c n = search evenness depth 6 fits 4000

module _ {requires : Bool} {b : Below} (h : BelowAlone requires b) (k : BelowEven b) where
  pub group-Even : (c : Context) (n : ℕ) → c.angle ≡ 0 → Even (group b c n)
  unfolding group
  group-Even c n w = search (evenness, k.expr) depth 8 fits 4000

  pub static_cast-Even : (c : Context) (n : ℕ) → c.angle ≡ 0 → Even (static_cast b c n)
  unfolding static_cast
  static_cast-Even c n w = search (evenness, k.type, k.expr) depth 12 fits 4000

  pub is_same-Even : (c : Context) (n : ℕ) → c.angle ≡ 0 → Even (is_same b c n)
  unfolding is_same
  is_same-Even c n w = search (evenness, k.type) depth 11 fits 4000

  pub out-Even : (c : Context) (n : ℕ) → c.angle ≡ 0 → Even (out b c n)
  unfolding out
  out-Even c n w = search (evenness, k.expr) depth 9 fits 4000

  pub list-Even : (c : Context) (of : Numbered TypeTree) (at : Place) → c.angle ≡ 0 → Even (list b c of at)
  unfolding list
  list-Even c of at w = search evenness depth 8 fits 4000

pub qualified-Even : (c : Context) (head : Numbered TypeTree) (at : Place) → Even (qualified c head at)
unfolding qualified
qualified-Even c head at = search (evenness, qualified_names-Even) depth 6 fits 4000

module _ {requires : Bool} {b : Below} (h : BelowAlone requires b) (k : BelowEven b) where
  pub behind_head-Even : (c : Context) (k' : Numbered (Placed CoreTree)) → c.angle ≡ 0 → Even (behind_head b c k')
  unfolding behind_head
  behind_head-Even c k' w = search (evenness, list-Even, qualified-Even) depth 6 fits 4000

  pub behind_core-Even : (c : Context) (k' : Numbered (Placed CoreTree)) → c.angle ≡ 0 → Even (behind_core b c k')
  unfolding behind_core
  behind_core-Even c k' w = search (evenness, list-Even) depth 6 fits 4000

  pub headed-Even : (c : Context) (n : ℕ) → c.angle ≡ 0 → Even (headed b c n)
  unfolding headed
  headed-Even c n w = search (evenness, behind_head-Even, k.core) depth 6 fits 4000

  pub cored-Even : (c : Context) (n : ℕ) → c.angle ≡ 0 → Even (cored b c n)
  unfolding cored
  cored-Even c n w = search (evenness, behind_core-Even, k.core) depth 6 fits 4000

  pub word_list-Even : (c : Context) (n : ℕ) → c.angle ≡ 0 → Even (word_list b c n)
  unfolding word_list
  word_list-Even c n w = search (evenness, behind_core-Even, behind_core-Filled) depth 6 fits 4000

pub name_alone-Even : (c : Context) (n : ℕ) → Even (name_alone c n)
unfolding name_alone
name_alone-Even c n = search evenness depth 6 fits 4000

module _ {requires : Bool} {b : Below} (h : BelowAlone requires b) (k : BelowEven b) where
  pub named-Even : (calling : Calling) (c : Context) (n : ℕ) → c.angle ≡ 0 → Even (named calling b c n)
  unfolding named
  named-Even calling c n w = search (evenness, argument_list-Even) depth 8 fits 4000

pub with_calling-Even : (calling : Calling) {p : Production (Numbered ExprTree)} → Even p → Even (with_calling calling p)
with_calling-Even calling h = search evenness

-- a requires-expression ends with a token of its own
pub requires_expr-Even : (b : Below) (c : Context) (n : ℕ) → Even (requires_expr b c n)
unfolding requires_expr
requires_expr-Even b c n = search evenness depth 10 fits 4000

maybe_requires-Even : (b : Below) (c : Context) (n : ℕ) → Even (maybe_requires b c n)
unfolding maybe_requires
maybe_requires-Even b c n = search (evenness, requires_expr-Even)

module _ {requires : Bool} {b : Below} (h : BelowAlone requires b) (k : BelowEven b) where
  pub worded-Even : (c : Context) (n : ℕ) → c.angle ≡ 0 → Even (worded b c n)
  unfolding worded
  worded-Even c n w = search (evenness, truth-Even, group-Even, is_same-Even, out-Even, maybe_requires-Even, with_calling-Even) depth 10 fits 4000

  pub simple_primary-Even : (c : Context) (n : ℕ) → c.angle ≡ 0 → Even (simple_primary b c n)
  unfolding simple_primary
  simple_primary-Even c n w = search (evenness, literal-Even, name_alone-Even, named-Even, with_calling-Even, worded-Even) depth 9 fits 4000

  pub primary-Even : (c : Context) (n : ℕ) → c.angle ≡ 0 → Even (primary b c n)
  unfolding primary
  primary-Even c n w = search (evenness, static_cast-Even, headed-Even, cored-Even, word_list-Even, with_calling-Even, simple_primary-Even) depth 9 fits 4000

  pub member-Even : (c : Context) (e : Numbered ExprTree) → c.angle ≡ 0 → Even (member b c e)
  unfolding member
  member-Even c e w = search (evenness, k.tail) depth 7 fits 4000

  pub step-Even : (c : Context) (e : Numbered ExprTree) → c.angle ≡ 0 → Even (step b c e)
  unfolding step
  step-Even c e w = search (evenness, k.tail) depth 6 fits 4000

  pub tail_behind-Even : (c : Context) (e : Numbered ExprTree) → c.angle ≡ 0 → Even (tail_behind b c e)
  unfolding tail_behind
  tail_behind-Even c e w = search (evenness, member-Even, step-Even) depth 7 fits 4000

  pub called-Even : (c : Context) (e : Numbered ExprTree) → c.angle ≡ 0 → Even (called b c e)
  unfolding called
  called-Even c e w = search (evenness, tail_behind-Even) depth 7 fits 4000

  pub call-Even : (c : Context) (e : Numbered ExprTree) → c.angle ≡ 0 → Even (call b c e)
  unfolding call
  call-Even c e w = search (evenness, k.called) depth 6 fits 4000

  pub tail-Even : (calling : Calling) (c : Context) (e : Numbered ExprTree) → c.angle ≡ 0 → Even (tail b calling c e)
  unfolding tail
  tail-Even NoCall c e w = tail_behind-Even c e w
  tail-Even MayCall c e w = search (evenness, call-Even, tail_behind-Even)
  tail-Even MustCall c e w = call-Even c e w

  pub postfix-Even : (c : Context) (n : ℕ) → c.angle ≡ 0 → Even (postfix b c n)
  unfolding postfix
  postfix-Even c n w = search (evenness, primary-Even, tail-Even) depth 6 fits 4000

  pub prefixed-Even : (c : Context) (n : ℕ) → c.angle ≡ 0 → Even (prefixed b c n)
  unfolding prefixed
  prefixed-Even c n w = search (evenness, k.unary) depth 7 fits 4000

  pub unary-Even : (c : Context) (n : ℕ) → c.angle ≡ 0 → Even (unary b c n)
  unfolding unary
  unary-Even c n w = search (evenness, postfix-Even, prefixed-Even) depth 6 fits 4000

  pub binary_chain-Even : (level : ℕ) (c : Context) (left : Numbered ExprTree) → c.angle ≡ 0 → Even (binary_chain b level c left)
  unfolding binary_chain
  binary_chain-Even level c left w = search (evenness, k.operand, k.some_operand, k.binary_rest) depth 7 fits 4000

  pub binary_rest-Even : (level : ℕ) (c : Context) (left : Numbered ExprTree) → c.angle ≡ 0 → Even (binary_rest b level c left)
  unfolding binary_rest
  binary_rest-Even level c left w = search (evenness, binary_chain-Even) depth 6 fits 4000

  pub rests-Even : (level : ℕ) (c : Context) (e : Numbered ExprTree) → c.angle ≡ 0 → Even (rests b level c e)
  unfolding rests
  rests-Even zero c e w = give-Even e
  rests-Even (suc level) c e w = then-Even (rests-Even level c e w) (λ left. binary_rest-Even level c left w)

  pub operand-Even : (level : ℕ) (c : Context) (n : ℕ) → c.angle ≡ 0 → Even (operand b level c n)
  unfolding operand
  operand-Even level c n w = search (evenness, unary-Even, rests-Even) depth 6 fits 4000

  operand-Filled : (level : ℕ) (c : Context) (n : ℕ) → Filled (operand b level c n)
  unfolding operand
  operand-Filled level c n = search (filling, unary-Filled)

  pub conditional-Even : (c : Context) (condition : Numbered ExprTree) → c.angle ≡ 0 → Even (conditional b c condition)
  unfolding conditional
  conditional-Even c condition w = search (evenness, k.expr) depth 9 fits 4000

  pub assignment-Even : (c : Context) (target : Numbered ExprTree) → c.angle ≡ 0 → Even (assignment b c target)
  unfolding assignment
  assignment-Even c target w = search (evenness, k.expr, k.some_expr) depth 7 fits 4000

  pub expr_behind-Even : (c : Context) (e : Numbered ExprTree) → c.angle ≡ 0 → Even (expr_behind b c e)
  unfolding expr_behind
  expr_behind-Even c e w = search (evenness, rests-Even, conditional-Even, assignment-Even) depth 8 fits 4000

  pub expr-Even : (c : Context) (n : ℕ) → c.angle ≡ 0 → Even (expr b c n)
  unfolding expr
  expr-Even c n w = search (evenness, unary-Even, expr_behind-Even) depth 6 fits 4000

  pub argument_of-Even : (c : Context) (p : Numbered ExprTree) → c.angle ≡ 0 → Even (argument_of b c p)
  unfolding argument_of
  argument_of-Even c p w = search (evenness, tail-Even, expr_behind-Even) depth 7 fits 4000

pub argument_type-Even : (c : Context) (k : Numbered (Placed CoreTree)) → Even (argument_type c k)
unfolding argument_type
argument_type-Even c k = search (evenness, type_behind-Even) depth 6 fits 4000

module _ {requires : Bool} {b : Below} (h : BelowAlone requires b) (k : BelowEven b) where
  pub core_argument-Even : (c : Context) (k' : Numbered (Placed CoreTree)) → c.angle ≡ 0 → Even (core_argument b c k')
  unfolding core_argument
  core_argument-Even c k' w = search (evenness, behind_core-Even, argument_of-Even, argument_type-Even) depth 7 fits 4000

  pub head_argument-Even : (c : Context) (k' : Numbered (Placed CoreTree)) → c.angle ≡ 0 → Even (head_argument b c k')
  unfolding head_argument
  head_argument-Even c k' w = search (evenness, behind_head-Even, argument_of-Even, argument_type-Even) depth 7 fits 4000

  pub word_argument-Even : (c : Context) (n : ℕ) → c.angle ≡ 0 → Even (word_argument b c n)
  unfolding word_argument
  word_argument-Even c n w = search (evenness, scalar_behind-Even, behind_core-Even, argument_of-Even, argument_type-Even) depth 9 fits 4000

  pub core_type_argument-Even : (c : Context) (n : ℕ) → c.angle ≡ 0 → Even (core_type_argument b c n)
  unfolding core_type_argument
  core_type_argument-Even c n w = search (evenness, argument_type-Even, k.core) depth 6 fits 4000

  pub argument-Even : (c : Context) (n : ℕ) → c.angle ≡ 0 → Even (argument b c n)
  unfolding argument
  argument-Even c n w = search (evenness, const_type-Even, expr-Even, core_argument-Even, head_argument-Even, word_argument-Even, core_type_argument-Even, k.core) depth 14 fits 4000

pub uncalled-Even : (c : Context) (p : Numbered ExprTree × Calling) → Even (uncalled c p)
unfolding uncalled
uncalled-Even c (e, NoCall) = search evenness
uncalled-Even c (e, MayCall) = search evenness
uncalled-Even c (e, MustCall) = search evenness

module _ {requires : Bool} {b : Below} (h : BelowAlone requires b) (k : BelowEven b) where
  pub clause_primary-Even : (c : Context) (n : ℕ) → c.angle ≡ 0 → Even (clause_primary b c n)
  unfolding clause_primary
  clause_primary-Even c n w = search (evenness, qualified-Even, simple_primary-Even, uncalled-Even, k.core) depth 8 fits 4000

  clause_primary-Filled : (c : Context) (n : ℕ) → Filled (clause_primary b c n)
  unfolding clause_primary
  clause_primary-Filled c n = search (filling, h.some_core, simple_primary-Filled)

  pub and_rest-Even : (c : Context) (left : Numbered ExprTree) → c.angle ≡ 0 → Even (and_rest b c left)
  unfolding and_rest
  and_rest-Even c left w = search (evenness, k.clause_primary, k.and_rest) depth 8 fits 4000

  pub conjunction-Even : (c : Context) (n : ℕ) → c.angle ≡ 0 → Even (conjunction b c n)
  unfolding conjunction
  conjunction-Even c n w = search (evenness, clause_primary-Even, and_rest-Even) depth 6 fits 4000

  conjunction-Filled : (c : Context) (n : ℕ) → Filled (conjunction b c n)
  unfolding conjunction
  conjunction-Filled c n = search (filling, clause_primary-Filled)

  pub or_rest-Even : (c : Context) (left : Numbered ExprTree) → c.angle ≡ 0 → Even (or_rest b c left)
  unfolding or_rest
  or_rest-Even c left w = search (evenness, k.conjunction, k.or_rest) depth 8 fits 4000

  pub clause-Even : (c : Context) (n : ℕ) → c.angle ≡ 0 → Even (clause b c n)
  unfolding clause
  clause-Even c n w = search (evenness, conjunction-Even, or_rest-Even) depth 6 fits 4000

pub levels-Even : (requires : Bool) (n : ℕ) → BelowEven (levels requires n)
unfolding levels
levels-Even requires zero = record {
  expr = λ c m w. closed-Even;
  unary = λ c m w. closed-Even;
  binary_rest = λ level c e w. closed-Even;
  operand = λ level c m w. closed-Even;
  tail = λ calling c e w. closed-Even;
  called = λ c e w. closed-Even;
  type = λ c m w. closed-Even;
  core = λ c m w. closed-Even;
  argument = λ c m w. closed-Even;
  clause_primary = λ c m w. closed-Even;
  and_rest = λ c e w. closed-Even;
  conjunction = λ c m w. closed-Even;
  or_rest = λ c e w. closed-Even;
  some_expr = λ c m. closed-Filled;
  some_unary = λ c m. closed-Filled;
  some_operand = λ level c m. closed-Filled;
  some_clause_primary = λ c m. closed-Filled;
  some_conjunction = λ c m. closed-Filled;
}
levels-Even requires (suc n) = record {
  expr = expr-Even (levels-Alone n) (levels-Even requires n);
  unary = unary-Even (levels-Alone n) (levels-Even requires n);
  binary_rest = binary_rest-Even (levels-Alone n) (levels-Even requires n);
  operand = operand-Even (levels-Alone n) (levels-Even requires n);
  tail = tail-Even (levels-Alone n) (levels-Even requires n);
  called = called-Even (levels-Alone n) (levels-Even requires n);
  type = type_id-Even (levels-Alone n) (levels-Even requires n);
  core = core-Even (levels-Alone n) (levels-Even requires n);
  argument = argument-Even (levels-Alone n) (levels-Even requires n);
  clause_primary = clause_primary-Even (levels-Alone n) (levels-Even requires n);
  and_rest = and_rest-Even (levels-Alone n) (levels-Even requires n);
  conjunction = conjunction-Even (levels-Alone n) (levels-Even requires n);
  or_rest = or_rest-Even (levels-Alone n) (levels-Even requires n);
  some_expr = expr-Filled (levels-Alone n);
  some_unary = unary-Filled (levels-Alone n);
  some_operand = operand-Filled (levels-Alone n) (levels-Even requires n);
  some_clause_primary = clause_primary-Filled (levels-Alone n) (levels-Even requires n);
  some_conjunction = conjunction-Filled (levels-Alone n) (levels-Even requires n);
}
