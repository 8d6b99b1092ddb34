-- The tokens that expressions and requirements begin with: no brace begins an expression.
use Rattle.std.proofs.Common.{◌≡◌, ◌⊎◌, inl, inr, ℕ, zero, suc, Bool, true, false, ◌&&◌, ◌||◌, not, List, [], ◌∷◌, ◌++◌, codes, refl, sym, ◌∙◌, true≢false}
use Rattle.std.specs.Str.{bytes_eq}
use Rattle.std.proofs.lemmas.Slice.Eq.{bytes_eq-Decides}
use Rattle.cx_lexer.specs.declared.token.TokenKind.{TokenKind}
use Rattle.cx_lexer.specs.declared.token.TokenKind.TheVariants as kind
use Rattle.cx_scope.specs.declared.name_kind.NameKind.{NameKind}
use Rattle.cx_grammar.specs.Pieces.{Piece}
use Rattle.cx_grammar.specs.Words.{is_punct_kind, is_word_kind, is_name_kind, is_int_kind, spelling, word, punct, any_name, literal_token}
use Rattle.cx_grammar.specs.Production.{Production, ◌>>=◌, token, when, given, closed, unread, begins, Chosen}
use Rattle.cx_grammar.specs.Names.{Context, kind_name}
use Rattle.cx_grammar.specs.Types.{Below, one_word, word_core, long_core, scalar_core, class_core, type_name_core, head_core, member_core, decltype_core, void_core, scalar_only, core}
use Rattle.cx_grammar.specs.Requires.{requires_expr, maybe_requires}
use Rattle.cx_grammar.specs.Expressions.{levels, literal, truth, group, static_cast, is_same, out, headed, cored, word_list, name_alone, named, worded, simple_primary, primary, postfix, is_prefix, is_step, prefixed, unary, expr}
use Rattle.cx_grammar.proofs.Printed.{Starts, token-Starts, first-Starts}

-- one kind of token is of another one
pub record Kind (p q : Piece → Bool) : Type 0 where
  pub kind : (t : Piece) → p t ≡ true → q t ≡ true

-- what is no brace
abbrev pub no_brace : Piece → Bool
no_brace p = not (punct (codes "{") p) && not (punct (codes "}") p)

-- ---- kinds of tokens

pub left_true : (a b : Bool) → (a && b) ≡ true → a ≡ true
left_true true b e = refl
left_true false b e = absurd (true≢false (sym e))

pub right_true : (a b : Bool) → (a && b) ≡ true → b ≡ true
right_true true b e = e
right_true false b e = absurd (true≢false (sym e))

no_first : (a b c : Bool) → a ≡ false → (a && b && c) ≡ false
no_first true b c e = absurd (true≢false e)
no_first false b c e = refl

neither_brace : (a b : Bool) → a ≡ false → b ≡ false → (not a && not b) ≡ true
neither_brace true b e d = absurd (true≢false e)
neither_brace false true e d = absurd (true≢false d)
neither_brace false false e d = refl

-- a token that is no punctuator
other_kind : (t : Piece) → is_punct_kind t.token.kind ≡ false → no_brace t ≡ true
unfolding punct
other_kind t e = neither_brace _ _ (no_first _ _ _ e) (no_first _ _ _ e)

word_kind : (k : TokenKind) → is_word_kind k ≡ true → is_punct_kind k ≡ false
word_kind kind.Word e = refl
word_kind other e = absurd (true≢false (sym e))

name_kind : (k : TokenKind) → is_name_kind k ≡ true → is_punct_kind k ≡ false
name_kind kind.Name e = refl
name_kind other e = absurd (true≢false (sym e))

int_kind : (k : TokenKind) → is_int_kind k ≡ true → is_punct_kind k ≡ false
int_kind kind.Int e = refl
int_kind other e = absurd (true≢false (sym e))

pub word_is : (text : List ℕ) (t : Piece) → word text t ≡ true → is_punct_kind t.token.kind ≡ false
unfolding word
word_is text t e = word_kind t.token.kind (left_true _ _ e)

word-Kind : (text : List ℕ) → Kind (word text) no_brace
word-Kind text = record { kind = λ t e. other_kind t (word_is text t e) }

any_name-Kind : Kind any_name no_brace
unfolding any_name
any_name-Kind = record { kind = λ t e. other_kind t (name_kind t.token.kind e) }

kind_name-Kind : (wanted : NameKind) (c : Context) → Kind (kind_name wanted c) no_brace
unfolding kind_name any_name
kind_name-Kind wanted c = record { kind = λ t e. other_kind t (name_kind t.token.kind (left_true _ _ e)) }

literal_token-Kind : Kind literal_token no_brace
unfolding literal_token
literal_token-Kind = record { kind = λ t e. other_kind t (int_kind t.token.kind (left_true _ _ e)) }

or-Kind : (p r : Piece → Bool) {q : Piece → Bool} → Kind p q → Kind r q → Kind (λ t. p t || r t) q
or-Kind p r {q} hp hr = record { kind = λ t e. go t (p t) refl e }
  where
    go : (t : Piece) (b : Bool) → p t ≡ b → (b || r t) ≡ true → q t ≡ true
    go t true e d = hp.kind t e
    go t false e d = hr.kind t d

one_word-Kind : Kind one_word no_brace
unfolding one_word
one_word-Kind = search (or-Kind, word-Kind) depth 6

spelled : (text : List ℕ) (t : Piece) → punct text t ≡ true → spelling t.token.text ≡ text
unfolding punct
spelled text t e = (bytes_eq-Decides (spelling t.token.text) text).0 (right_true _ _ e)

pub other_punct : (a d : List ℕ) → bytes_eq a d ≡ false → (t : Piece) → punct a t ≡ true → punct d t ≡ false
other_punct a d n t e = go (punct d t) refl
  where
    go : (x : Bool) → punct d t ≡ x → x ≡ false
    go false k = refl
    go true k =
        let same : a ≡ d = sym (spelled a t e) ∙ spelled d t k in
        absurd (true≢false (sym ((bytes_eq-Decides a d).1 same) ∙ n))

punct-Kind : (text : List ℕ) → bytes_eq text (codes "{") ≡ false → bytes_eq text (codes "}") ≡ false → Kind (punct text) no_brace
punct-Kind text e d = record { kind = λ t k. neither_brace _ _ (other_punct text (codes "{") e t k) (other_punct text (codes "}") d t k) }

is_step-Kind : Kind is_step no_brace
is_step-Kind = or-Kind _ _ (punct-Kind (codes "++") refl refl) (punct-Kind (codes "--") refl refl)

is_prefix-Kind : Kind is_prefix no_brace
unfolding is_prefix
is_prefix-Kind = or-Kind _ _ (or-Kind _ _ (or-Kind _ _ (or-Kind _ _ (punct-Kind (codes "+") refl refl) (punct-Kind (codes "-") refl refl)) (punct-Kind (codes "!") refl refl)) (punct-Kind (codes "~") refl refl)) is_step-Kind

open_round-Kind : Kind (punct (codes "(")) no_brace
open_round-Kind = punct-Kind (codes "(") refl refl

-- ---- what productions begin with

pub more_Starts : {A : Type 0} {p q : Piece → Bool} {r : Production A} → Kind p q → Starts p r → Starts q r
unfolding begins
more_Starts {A} {p} {q} {r} k h = record { begins_so = λ l ts behind y w. go (ts ++ behind) (h.begins_so l ts behind y w); begun_so = λ l ts w. front ts (h.begun_so l ts w) }
  where
    go : (ts : List Piece) → begins p ts ≡ true → begins q ts ≡ true
    go [] e = absurd (true≢false (sym e))
    go (t ∷ ts) e = k.kind t e

    front : (ts : List Piece) → (ts ≡ []) ⊎ (begins p ts ≡ true) → (ts ≡ []) ⊎ (begins q ts ≡ true)
    front ts (inl e) = inl e
    front ts (inr e) = inr (go ts e)

pub of_token : {B : Type 0} {p q : Piece → Bool} (load : ℕ) (f : Piece → Production B) → Kind p q → Starts q (token load p >>= f)
of_token {B} {p} load f k = more_Starts k (token-Starts load p f)

pub when-Starts : {A : Type 0} (p : Piece → Bool) {q : Piece → Bool} {a b : Production A} → Starts q a → Starts q b → Starts q (when p a b)
when-Starts {A} p {q} {a} {b} ha hb = record { begins_so = λ l ts behind y w. whole (begins p (ts ++ behind)) l ts behind y w; begun_so = λ l ts k. front (begins p ts) l ts k }
  where
    whole : (c : Bool) (l : ℕ) (ts behind : List Piece) (y : A) → Chosen c (a.whole l ts behind y) (b.whole l ts behind y) → begins q (ts ++ behind) ≡ true
    whole true l ts behind y w = ha.begins_so l ts behind y w
    whole false l ts behind y w = hb.begins_so l ts behind y w

    front : (c : Bool) (l : ℕ) (ts : List Piece) → Chosen c (a.front l ts) (b.front l ts) → (ts ≡ []) ⊎ (begins q ts ≡ true)
    front true l ts k = ha.begun_so l ts k
    front false l ts k = hb.begun_so l ts k

closed-Starts : {A : Type 0} {q : Piece → Bool} → Starts q (closed {A = A})
closed-Starts = record { begins_so = λ l ts behind y w. absurd w; begun_so = λ l ts k. inl k }

unread-Starts : {A : Type 0} (p : Piece → Bool) {q : Piece → Bool} → Starts q (unread {A = A} p)
unread-Starts p = record { begins_so = λ l ts behind y w. absurd w; begun_so = λ l ts k. inl k }

given-Starts : {A : Type 0} (is : Bool) {q : Piece → Bool} {a b : Production A} → Starts q a → Starts q b → Starts q (given is a b)
given-Starts true ha hb = ha
given-Starts false ha hb = hb

ruleset beginning = (of_token, first-Starts, when-Starts, given-Starts, unread-Starts, word-Kind, any_name-Kind, kind_name-Kind, literal_token-Kind, one_word-Kind, is_prefix-Kind, open_round-Kind)

module _ (b : Below) (c : Context) (n : ℕ) where
  class_core-Starts : Starts no_brace (class_core b c n)
  unfolding class_core
  class_core-Starts = search beginning depth 5

  type_name_core-Starts : Starts no_brace (type_name_core c n)
  unfolding type_name_core
  type_name_core-Starts = search beginning depth 5

  head_core-Starts : Starts no_brace (head_core b c n)
  unfolding head_core
  head_core-Starts = when-Starts _ class_core-Starts type_name_core-Starts

  member_core-Starts : Starts no_brace (member_core b c n)
  unfolding member_core
  member_core-Starts = search beginning depth 5

  decltype_core-Starts : Starts no_brace (decltype_core b c n)
  unfolding decltype_core
  decltype_core-Starts = search beginning depth 5

  void_core-Starts : Starts no_brace (void_core c n)
  unfolding void_core
  void_core-Starts = search beginning depth 5

  scalar_only-Starts : Starts no_brace (scalar_only c n)
  unfolding scalar_only scalar_core word_core long_core
  scalar_only-Starts = search beginning depth 7

  core-Starts : Starts no_brace (core b c n)
  unfolding core
  core-Starts = when-Starts _ head_core-Starts (when-Starts _ member_core-Starts (when-Starts _ decltype_core-Starts (when-Starts _ void_core-Starts scalar_only-Starts)))

pub level_core-Starts : (requires : Bool) (depth : ℕ) (c : Context) (n : ℕ) → Starts no_brace ((levels requires depth).core c n)
unfolding levels
level_core-Starts requires zero c n = closed-Starts
level_core-Starts requires (suc depth) c n = core-Starts (levels requires depth) c n

module _ (b : Below) (cores : (c : Context) (n : ℕ) → Starts no_brace (b.core c n)) (c : Context) (n : ℕ) where
  headed-Starts : Starts no_brace (headed b c n)
  unfolding headed
  headed-Starts = first-Starts _ (cores _ n)

  cored-Starts : Starts no_brace (cored b c n)
  unfolding cored
  cored-Starts = first-Starts _ (cores _ n)

  word_list-Starts : Starts no_brace (word_list b c n)
  unfolding word_list
  word_list-Starts = search beginning depth 5

  static_cast-Starts : Starts no_brace (static_cast b c n)
  unfolding static_cast
  static_cast-Starts = search beginning depth 5

  -- a requires-expression begins with its word, whether it is read or not
  maybe_requires-Starts : Starts no_brace (maybe_requires b c n)
  unfolding maybe_requires requires_expr
  maybe_requires-Starts = search beginning depth 5

  worded-Starts : Starts no_brace (worded b c n)
  unfolding worded truth is_same out group
  worded-Starts = search (beginning, maybe_requires-Starts) depth 9

  simple_primary-Starts : Starts no_brace (simple_primary b c n)
  unfolding simple_primary literal named name_alone
  simple_primary-Starts = search (beginning, worded-Starts) depth 9

  primary-Starts : Starts no_brace (primary b c n)
  unfolding primary
  primary-Starts = when-Starts _ (first-Starts _ headed-Starts) (when-Starts _ (first-Starts _ cored-Starts) (when-Starts _ (first-Starts _ word_list-Starts) (when-Starts _ (first-Starts _ static_cast-Starts) simple_primary-Starts)))

  expr_of-Starts : Starts no_brace (expr b c n)
  unfolding expr unary prefixed postfix
  expr_of-Starts = first-Starts _ (when-Starts _ (of_token _ _ is_prefix-Kind) (first-Starts _ primary-Starts))

-- An expression begins with no brace.
pub expr-Starts : (requires : Bool) (depth : ℕ) (c : Context) (n : ℕ) → Starts no_brace ((levels requires depth).expr c n)
unfolding levels
expr-Starts requires zero c n = closed-Starts
expr-Starts requires (suc depth) c n = expr_of-Starts (levels requires depth) (level_core-Starts requires depth) c n
