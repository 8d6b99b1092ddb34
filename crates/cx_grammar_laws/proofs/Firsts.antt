-- Types and expressions by their first tokens.
use Rattle.std.proofs.Common.{inl, zero, ◌≡◌, ℕ, suc, ◌+◌, Bool, true, false, ◌||◌, List, [], ◌∷◌, codes, refl, true≢false}
use Rattle.cx_base.specs.declared.place.Place.{Place}
use Rattle.cx_base.specs.declared.value.Scalar.{Scalar}
use Rattle.cx_tree.specs.Trees.{ExprTree, TypeTree, CoreTree}
use Rattle.cx_grammar.specs.Pieces.{Piece}
use Rattle.cx_grammar.specs.Production.{Production, give, ◌>>=◌, token, begins}
use Rattle.cx_grammar.specs.Words.{word, punct, any_name, literal_token}
use Rattle.cx_grammar.specs.Names.{Context, deeper, type_name, class_name, kind_name, template_name, concept_name}
use Rattle.cx_grammar.specs.Types.{Numbered, Placed, Calling, NoCall, Below, type_id, bare_type, const_type, type_behind, maybe_const, maybe_reference, core, head_core, class_core, type_name_core, scalar_only, scalar_core, word_core, long_core, scalar_behind, behind_sign, long_long, maybe_int, placed_scalar, scalar_of_word, one_word, as_type, qualified_names}
use Rattle.cx_grammar.specs.Expressions.{levels, goes_on, head_name, core_word, is_prefix, list, qualified, behind_head, behind_core, headed, cored, word_list, group, worded, simple_primary, primary, tail, postfix, prefixed, unary, expr_behind, expr}
use Rattle.cx_grammar.proofs.AloneTypes.{BelowAlone}
use Rattle.cx_grammar.proofs.AloneExpressions.{tail-Alone}
use Rattle.cx_grammar.proofs.Printed.{Starts, token-Starts, first-Starts, neither}
use Rattle.cx_grammar_laws.proofs.Cases.{Where, Any, First, Alike, ◌then◌, first-Alike, second-Alike, regrouped, given-Alike, take-Alike, skip-Alike, Never, never_begins, Avoids, avoiding, give-Avoids, both-Starts, chosen-Starts}
use Rattle.cx_grammar_laws.proofs.Tokens.{nor, word_Never, other_punct, neither_Never, name_Never, head_any, core_word_Never, one_word_Never}

-- ---- kinds of first tokens

core_word_head : (c : Context) → Never core_word (head_name c)
unfolding kind_name any_name
core_word_head c = core_word_Never (head_name c) (λ t. (refl, refl, refl))

one_word_head : (c : Context) → Never one_word (head_name c)
unfolding kind_name any_name
one_word_head c = one_word_Never (head_name c) (λ t. (refl, refl, refl, refl))

one_word_core : Never one_word core_word
unfolding word
one_word_core = one_word_Never core_word (λ t. (refl, refl, refl, refl))

head_prefix : (c : Context) → Never (head_name c) is_prefix
unfolding is_prefix punct
head_prefix c = head_any c is_prefix (name_Never is_prefix (λ t. refl))

core_word_prefix : Never core_word is_prefix
unfolding is_prefix punct
core_word_prefix = core_word_Never is_prefix (λ t. (refl, refl, refl))

one_word_prefix : Never one_word is_prefix
unfolding is_prefix punct
one_word_prefix = one_word_Never is_prefix (λ t. (refl, refl, refl, refl))

one_word_name : Never one_word any_name
unfolding any_name
one_word_name = one_word_Never any_name (λ t. (refl, refl, refl, refl))

pub head_const : (c : Context) → Never (head_name c) (word (codes "const"))
unfolding word
head_const c = head_any c (word (codes "const")) (name_Never (word (codes "const")) (λ t. refl))

pub core_word_const : Never core_word (word (codes "const"))
unfolding word
core_word_const = core_word_Never (word (codes "const")) (λ t. (refl, refl, refl))

pub one_word_const : Never one_word (word (codes "const"))
unfolding word
one_word_const = one_word_Never (word (codes "const")) (λ t. (refl, refl, refl, refl))

pub long_const : Never (word (codes "long")) (word (codes "const"))
unfolding word
long_const = word_Never (codes "long") (word (codes "const")) (λ t. refl)

-- ---- an expression that begins with a type

module _ {requires : Bool} {b : Below} (h : BelowAlone requires b) (c : Context) (n : ℕ) {B : Type 0} (behind : Numbered ExprTree → Production B) where
  -- behind a primary that no call may follow
  abbrev pub behind_primary : Numbered ExprTree → Production B
  behind_primary p = do
    e ← tail b NoCall c p
    (do
      whole' ← expr_behind b c e
      behind whole')

  pub primary_first : {W : Where} {X : Type 0} (x : Production X) (made_of : X → Numbered ExprTree × Calling) → ((ts : List Piece) → W ts → begins is_prefix ts ≡ false) → Alike W (primary b c n) (x >>= (λ v. give (made_of v)))
      → Alike W (expr b c n >>= behind) (x >>= (λ v. tail b (made_of v).1 c (made_of v).0 >>= (λ e. expr_behind b c e >>= behind)))
  unfolding expr unary postfix
  primary_first {W} x made_of no_prefix a =
      regrouped W (unary b c n) (expr_behind b c) behind
      then first-Alike
      (skip-Alike is_prefix (prefixed b c n) (postfix b c n) no_prefix
      then first-Alike a (λ p. tail b p.1 c p.0)
      then regrouped W x (λ v. give (made_of v)) (λ p. tail b p.1 c p.0)
      then second-Alike W x (λ v. given-Alike Any (made_of v) (λ p. tail b p.1 c p.0) (λ l. (tail-Alone h (made_of v).1 c (made_of v).0).lawful.starts l)))
      (λ e. expr_behind b c e >>= behind)
      then regrouped W x (λ v. tail b (made_of v).1 c (made_of v).0) (λ e. expr_behind b c e >>= behind)

  pub head_expr : Alike (First (head_name c)) (expr b c n >>= behind) (b.core (deeper c) n >>= (λ k. behind_head b c k >>= behind_primary))
  unfolding primary headed
  head_expr =
      primary_first (headed b c n) (λ e. (e, NoCall)) (never_begins (head_prefix c)) (take-Alike (head_name c) _ _ (λ ts e. e))
      then regrouped (First (head_name c)) (b.core (deeper c) n) (behind_head b c) behind_primary

  pub core_expr : Alike (First core_word) (expr b c n >>= behind) (b.core (deeper c) n >>= (λ k. behind_core b c k >>= behind_primary))
  unfolding primary cored
  core_expr =
      primary_first (cored b c n) (λ e. (e, NoCall)) (never_begins core_word_prefix) (skip-Alike (head_name c) _ _ (never_begins (core_word_head c)) then take-Alike core_word _ _ (λ ts e. e))
      then regrouped (First core_word) (b.core (deeper c) n) (behind_core b c) behind_primary

  -- a scalar of one word
  abbrev pub scalar_list : Piece → Production B
  scalar_list t = behind_core b c (placed_scalar t (scalar_of_word t), n) >>= behind_primary

  pub word_expr : Alike (First one_word) (expr b c n >>= behind) (token (c.load + 1) one_word >>= scalar_list)
  unfolding primary word_list
  word_expr =
      primary_first (word_list b c n) (λ e. (e, NoCall)) (never_begins one_word_prefix)
      (skip-Alike (head_name c) _ _ (never_begins (one_word_head c)) then skip-Alike core_word _ _ (never_begins one_word_core) then take-Alike one_word _ _ (λ ts e. e))
      then regrouped (First one_word) (token (c.load + 1) one_word) (λ t. behind_core b c (placed_scalar t (scalar_of_word t), n)) behind_primary

-- ---- what begins an expression, and a type

abbrev pub expr_first : Context → Piece → Bool
expr_first c t =
    is_prefix t
    || (head_name c t
    || (core_word t
    || (one_word t
    || (word (codes "static_cast") t
    || (literal_token t
    || (template_name c t
    || (concept_name c t
    || (any_name t
    || (word (codes "true") t
    || (word (codes "false") t || (word (codes "__is_same") t || (word (codes "__out") t || (word (codes "requires") t || punct (codes "(") t)))))))))))))

module _ (b : Below) (c : Context) (n : ℕ) where
  group-Starts : Starts (punct (codes "(")) (group b c n)
  unfolding group
  group-Starts = token-Starts _ _ _

  pub expr-Starts : Starts (expr_first c) (expr b c n)
  unfolding expr unary postfix primary simple_primary worded
  expr-Starts =
      first-Starts (expr_behind b c) (chosen-Starts is_prefix _ (prefixed b c n)
      (first-Starts (λ p. tail b p.1 c p.0)
      (chosen-Starts (head_name c) _ _ (chosen-Starts core_word _ _ (chosen-Starts one_word _ _ (chosen-Starts (word (codes "static_cast")) _ _
      (chosen-Starts literal_token _ _ (chosen-Starts (template_name c) _ _ (chosen-Starts (concept_name c) _ _ (chosen-Starts any_name _ _
      (chosen-Starts (word (codes "true")) _ _ (chosen-Starts (word (codes "false")) _ _ (chosen-Starts (word (codes "__is_same")) _ _ (chosen-Starts (word (codes "__out")) _ _ (chosen-Starts (word (codes "requires")) _ _
      (first-Starts (λ e. give (e, NoCall)) group-Starts))))))))))))))))

pub const_no_expr : (c : Context) → Never (word (codes "const")) (expr_first c)
unfolding word punct is_prefix kind_name any_name literal_token one_word
const_no_expr c = word_Never (codes "const") (expr_first c) (λ t. refl)

pub long_no_expr : (c : Context) → Never (word (codes "long")) (expr_first c)
unfolding word punct is_prefix kind_name any_name literal_token one_word
long_no_expr c = word_Never (codes "long") (expr_first c) (λ t. refl)

abbrev pub core_first : Context → Piece → Bool
core_first c t =
    (class_name c t || type_name c t) || (word (codes "typename") t || (word (codes "decltype") t || (word (codes "void") t || (one_word t || word (codes "long") t))))

long_core-Starts : (c : Context) → Starts (word (codes "long")) (long_core c)
unfolding long_core
long_core-Starts c = token-Starts _ _ _

scalar_only-Starts : (c : Context) (n : ℕ) → Starts (λ t. one_word t || word (codes "long") t) (scalar_only c n)
unfolding scalar_only scalar_core
scalar_only-Starts c n = first-Starts _ (chosen-Starts one_word _ _ (long_core-Starts c))

module _ (b : Below) (c : Context) (n : ℕ) where
  class_core-Starts : Starts (class_name c) (class_core b c n)
  unfolding class_core
  class_core-Starts = token-Starts _ _ _

  type_name_core-Starts : Starts (type_name c) (type_name_core c n)
  unfolding type_name_core
  type_name_core-Starts = token-Starts _ _ _

  head_core-Starts : Starts (λ t. class_name c t || type_name c t) (head_core b c n)
  unfolding head_core
  head_core-Starts = both-Starts (class_name c) (class_name c) (type_name c) class_core-Starts type_name_core-Starts

  pub core-Starts : Starts (core_first c) (core b c n)
  unfolding core
  core-Starts =
      both-Starts any_name (λ t. class_name c t || type_name c t) _ head_core-Starts
      (chosen-Starts (word (codes "typename")) _ _ (chosen-Starts (word (codes "decltype")) _ _ (chosen-Starts (word (codes "void")) _ _ (scalar_only-Starts c n))))

abbrev pub type_first : Context → Piece → Bool
type_first c t = word (codes "const") t || core_first (deeper c) t

pub level_core-Starts : (requires : Bool) (depth : ℕ) (c : Context) (n : ℕ) → Starts (core_first c) ((levels requires depth).core c n)
unfolding levels
level_core-Starts requires zero c n = record { begins_so = λ l ts behind x w. absurd w; begun_so = λ l ts k. inl k }
level_core-Starts requires (suc depth) c n = core-Starts (levels requires depth) c n

pub type-Starts : (requires : Bool) (depth : ℕ) (c : Context) (n : ℕ) → Starts (type_first c) (type_id (levels requires depth) c n)
unfolding type_id bare_type
type-Starts requires depth c n = chosen-Starts (word (codes "const")) _ (const_type (levels requires depth) c n) (first-Starts _ (level_core-Starts requires depth (deeper c) n))

nor_parts : (a b : Bool) → (a || b) ≡ false → (a ≡ false) × (b ≡ false)
nor_parts true b e = absurd (true≢false e)
nor_parts false b e = (refl, e)

-- no type begins with other tokens
pub no_type : (c : Context) (ts : List Piece) → begins (word (codes "const")) ts ≡ false → begins (head_name c) ts ≡ false → begins core_word ts ≡ false → begins one_word ts ≡ false → begins (word (codes "long")) ts ≡ false → begins (type_first c) ts ≡ false
unfolding begins kind_name
no_type c [] const' head core' one' long' = refl
no_type c (t ∷ ts) const' head core' one' long' =
    let heads = nor_parts (type_name c t) (class_name c t) head in
    let cores = nor_parts (word (codes "void") t || word (codes "typename") t) (word (codes "decltype") t) core' in
    let others = nor_parts (word (codes "void") t) (word (codes "typename") t) cores.0 in
    nor _ _ const' (nor _ _ (nor _ _ heads.1 heads.0) (nor _ _ others.1 (nor _ _ cores.1 (nor _ _ others.0 (nor _ _ one' long')))))

-- ---- what stands behind a core

pub const_goes_on : Never (word (codes "const")) goes_on
unfolding punct
const_goes_on = word_Never (codes "const") goes_on (λ t. refl)

pub const_brace : Never (word (codes "const")) (punct (codes "{"))
unfolding punct
const_brace = word_Never (codes "const") (punct (codes "{")) (λ t. refl)

pub int_brace : Never (word (codes "int")) (punct (codes "{"))
unfolding punct
int_brace = word_Never (codes "int") (punct (codes "{")) (λ t. refl)

pub long_brace : Never (word (codes "long")) (punct (codes "{"))
unfolding punct
long_brace = word_Never (codes "long") (punct (codes "{")) (λ t. refl)

pub reference_brace : Never (punct (codes "&")) (punct (codes "{"))
reference_brace = other_punct (codes "&") (codes "{") refl

pub reference_goes_on : Never (punct (codes "&")) goes_on
reference_goes_on = neither_Never {r = punct (codes "&")} {q = punct (codes "{")} {s = punct (codes "::")} reference_brace (other_punct (codes "&") (codes "::") refl)

-- what goes on behind no type goes on behind no core
pub brace_goes_on : (ts : List Piece) → begins goes_on ts ≡ false → begins (punct (codes "{")) ts ≡ false
brace_goes_on ts e = (neither (punct (codes "{")) (punct (codes "::")) ts e).0

module _ (q : Piece → Bool) (no_const : Never (word (codes "const")) q) (no_reference : Never (punct (codes "&")) q) where
  maybe_const-Avoids : (c : Context) (before : Bool) → Avoids q (maybe_const c before)
  unfolding maybe_const
  maybe_const-Avoids c true = give-Avoids q true
  maybe_const-Avoids c false = search (avoiding, no_const)

  maybe_reference-Avoids : (c : Context) → Avoids q (maybe_reference c)
  unfolding maybe_reference
  maybe_reference-Avoids c = search (avoiding, no_reference)

  pub type_behind-Avoids : (c : Context) (at : Place) (before : Bool) (k : Numbered CoreTree) → Avoids q (type_behind c at before k)
  unfolding type_behind
  type_behind-Avoids c at before k = search (avoiding, maybe_const-Avoids, maybe_reference-Avoids)

module _ (q : Piece → Bool) (no_int : Never (word (codes "int")) q) (no_long : Never (word (codes "long")) q) where
  maybe_int-Avoids : (c : Context) (s : Scalar) → Avoids q (maybe_int c s)
  unfolding maybe_int
  maybe_int-Avoids c s = search (avoiding, no_int)

  long_long-Avoids : (c : Context) (s : Scalar) → Avoids q (long_long c s)
  unfolding long_long
  long_long-Avoids c s = search (avoiding, no_long, maybe_int-Avoids)

  behind_sign-Avoids : (c : Context) (s l : Scalar) → Avoids q (behind_sign c s l)
  unfolding behind_sign
  behind_sign-Avoids c s l = search (avoiding, maybe_int-Avoids, long_long-Avoids)

  pub scalar_behind-Avoids : (c : Context) (t : Piece) → Avoids q (scalar_behind c t)
  unfolding scalar_behind
  scalar_behind-Avoids c t = search (avoiding, behind_sign-Avoids)

-- ---- what stands behind a core and makes an expression of it

module _ (b : Below) (c : Context) (of : Numbered TypeTree) (at : Place) where
  list-Starts : Starts (punct (codes "{")) (list b c of at)
  unfolding list
  list-Starts = token-Starts _ _ _

  qualified-Starts : Starts (punct (codes "::")) (qualified c of at)
  unfolding qualified qualified_names
  qualified-Starts = first-Starts _ (token-Starts _ _ _)

pub behind_core-Starts : (b : Below) (c : Context) (k : Numbered (Placed CoreTree)) → Starts (punct (codes "{")) (behind_core b c k)
unfolding behind_core
behind_core-Starts b c k = list-Starts b c (as_type k) k.0.0

pub behind_head-Starts : (b : Below) (c : Context) (k : Numbered (Placed CoreTree)) → Starts goes_on (behind_head b c k)
unfolding behind_head
behind_head-Starts b c k = both-Starts (punct (codes "{")) (punct (codes "{")) (punct (codes "::")) (list-Starts b c (as_type k) k.0.0) (qualified-Starts b c (as_type k) k.0.0)

-- ---- a type without `const` before it

module _ (b : Below) (c : Context) (n : ℕ) {B : Type 0} (behind : Numbered TypeTree → Production B) where
  pub bare : {W : Where} → ((ts : List Piece) → W ts → begins (word (codes "const")) ts ≡ false) → Alike W (type_id b c n >>= behind) (b.core (deeper c) n >>= (λ k. type_behind c k.0.0 false (k.0.1, k.1) >>= behind))
  unfolding type_id bare_type
  bare {W} no_const =
      first-Alike (skip-Alike (word (codes "const")) (const_type b c n) (bare_type b c n) no_const) behind
      then regrouped W (b.core (deeper c) n) (λ k. type_behind c k.0.0 false (k.0.1, k.1)) behind

-- a scalar of one word is a core
module _ (b : Below) (c : Context) (n : ℕ) {B : Type 0} (behind : Numbered (Placed CoreTree) → Production B) (starts : (k : Numbered (Placed CoreTree)) (l : ℕ) → (behind k).front l []) where
  one_word_typename : Never one_word (word (codes "typename"))
  unfolding word
  one_word_typename = one_word_Never (word (codes "typename")) (λ t. (refl, refl, refl, refl))

  one_word_decltype : Never one_word (word (codes "decltype"))
  unfolding word
  one_word_decltype = one_word_Never (word (codes "decltype")) (λ t. (refl, refl, refl, refl))

  one_word_void : Never one_word (word (codes "void"))
  unfolding word
  one_word_void = one_word_Never (word (codes "void")) (λ t. (refl, refl, refl, refl))

  scalar_alike : Alike (First one_word) (core b c n) (word_core c >>= (λ s. give (s, n)))
  unfolding core scalar_only scalar_core
  scalar_alike =
      skip-Alike any_name _ _ (never_begins one_word_name)
      then skip-Alike (word (codes "typename")) _ _ (never_begins one_word_typename)
      then skip-Alike (word (codes "decltype")) _ _ (never_begins one_word_decltype)
      then skip-Alike (word (codes "void")) _ _ (never_begins one_word_void)
      then first-Alike (take-Alike one_word (word_core c) (long_core c) (λ ts e. e)) (λ s. give (s, n))

  abbrev scalar_then : Piece → Production B
  scalar_then t = scalar_behind c t >>= (λ s. behind (placed_scalar t s, n))

  pub word_type : Alike (First one_word) (core b c n >>= behind) (token c.load one_word >>= scalar_then)
  unfolding word_core
  word_type =
      first-Alike scalar_alike behind
      then regrouped (First one_word) (word_core c) (λ s. give (s, n)) behind
      then second-Alike (First one_word) (word_core c) (λ s. given-Alike Any (s, n) behind (λ l. starts (s, n) l))
      then regrouped (First one_word) (token c.load one_word) (λ t. scalar_behind c t >>= (λ s. give (placed_scalar t s))) (λ s. behind (s, n))
      then second-Alike (First one_word) (token c.load one_word) (λ t.
      regrouped Any (scalar_behind c t) (λ s. give (placed_scalar t s)) (λ s. behind (s, n))
      then second-Alike Any (scalar_behind c t) (λ s. given-Alike Any (placed_scalar t s) (λ z. behind (z, n)) (λ l. starts (placed_scalar t s, n) l)))
