-- The end of a unit is in no tree or beginning of most productions.
use Rattle.std.proofs.Common.{◌≡◌, ℕ, zero, suc, Bool, true, false, ◌&&◌, ◌||◌, not, nat_le, Option, None, is_some, if◌then◌else◌, List, [], ◌∷◌, ◌++◌, codes, refl, sym, ap, ◌∙◌, true≢false, inl, inr}
use Rattle.std.specs.Str.{bytes_eq}
use Rattle.cx_lexer.specs.declared.token.TokenKind.{TokenKind}
use Rattle.cx_lexer.specs.declared.token.TokenKind.TheVariants as kind
use Rattle.cx_scope.specs.declared.name_kind.NameKind.{NameKind}
use Rattle.cx_tree.specs.declared.operators.BinaryOperator.{BinaryOperator}
use Rattle.cx_grammar.specs.Pieces.{Piece, Half, First, Second}
use Rattle.cx_grammar.specs.Words.{is_word_kind, is_punct_kind, is_int_kind, is_name_kind, is_all, is_first, is_second, word, punct, any_name, literal_token, second_half, spelling}
use Rattle.cx_grammar.specs.Names.{Context, kind_name}
use Rattle.cx_grammar.specs.Types.{closes, one_word}
use Rattle.cx_grammar.specs.Statements.{is_string_kind, string_token}
use Rattle.cx_grammar.specs.Expressions.{is_prefix, is_step, is_punct, is_hidden, binary_of, has_level, operator_of, is_operator, assignment_of, is_assignment}
use Rattle.cx_grammar.specs.Declarations.{is_end_kind}
use Rattle.cx_grammar.specs.Production.{Production, give, ◌>>=◌, token, when, given, closed, unread, times, repeat, begins, Chosen}

-- whether a piece is a whole token that is the end
abbrev pub is_last : Piece → Bool
is_last p = is_end_kind p.token.kind && is_all p.half

-- whether some piece is
abbrev pub has_last : List Piece → Bool
has_last [] = false
has_last (p ∷ ps) = is_last p || has_last ps

pub record Endless {A : Type 0} (p : Production A) : Type 0 where
  pub whole : (l : ℕ) (us rest : List Piece) (x : A) → p.whole l us rest x → has_last us ≡ false
  pub front : (l : ℕ) (us : List Piece) → p.front l us → has_last us ≡ false

-- no piece of some kind is the end
pub record IsOther (q : Piece → Bool) : Type 0 where
  pub other : (t : Piece) → q t ≡ true → is_last t ≡ false

-- ---- kinds of pieces

left_true : (a b : Bool) → (a && b) ≡ true → a ≡ true
left_true true b e = refl
left_true false b e = absurd (true≢false (sym e))

right_true : (a b : Bool) → (a && b) ≡ true → b ≡ true
right_true true b e = e
right_true false b e = absurd (true≢false (sym e))

no_end : (k : TokenKind) (b : Bool) → is_end_kind k ≡ false → (is_end_kind k && b) ≡ false
no_end k b e = ap (λ (z : Bool). z && b) e

word_kind : (k : TokenKind) → is_word_kind k ≡ true → is_end_kind k ≡ false
word_kind kind.Word e = refl
word_kind other e = absurd (true≢false (sym e))

name_kind : (k : TokenKind) → is_name_kind k ≡ true → is_end_kind k ≡ false
name_kind kind.Name e = refl
name_kind other e = absurd (true≢false (sym e))

int_kind : (k : TokenKind) → is_int_kind k ≡ true → is_end_kind k ≡ false
int_kind kind.Int e = refl
int_kind other e = absurd (true≢false (sym e))

string_kind : (k : TokenKind) → is_string_kind k ≡ true → is_end_kind k ≡ false
string_kind kind.Str e = refl
string_kind other e = absurd (true≢false (sym e))

punct_kind : (k : TokenKind) → is_punct_kind k ≡ true → is_end_kind k ≡ false
punct_kind kind.Punct e = refl
punct_kind other e = absurd (true≢false (sym e))

punct_kind' : (k : TokenKind) → is_punct k ≡ true → is_end_kind k ≡ false
punct_kind' kind.Punct e = refl
punct_kind' other e = absurd (true≢false (sym e))

-- a half is no whole token
first_other : (k : TokenKind) (h : Half) → is_first h ≡ true → (is_end_kind k && is_all h) ≡ false
first_other kind.End First e = refl
first_other kind.End other e = absurd (true≢false (sym e))
first_other other h e = refl

second_other : (k : TokenKind) (h : Half) → is_second h ≡ true → (is_end_kind k && is_all h) ≡ false
second_other kind.End Second e = refl
second_other kind.End other e = absurd (true≢false (sym e))
second_other other h e = refl

pub word-Other : (text : List ℕ) → IsOther (word text)
unfolding word
word-Other text = record { other = λ t e. no_end t.token.kind (is_all t.half) (word_kind t.token.kind (left_true (is_word_kind t.token.kind) (bytes_eq t.token.text text) e)) }

pub any_name-Other : IsOther any_name
unfolding any_name
any_name-Other = record { other = λ t e. no_end t.token.kind (is_all t.half) (name_kind t.token.kind e) }

pub literal_token-Other : IsOther literal_token
unfolding literal_token
literal_token-Other = record { other = λ t e. no_end t.token.kind (is_all t.half) (int_kind t.token.kind (left_true (is_int_kind t.token.kind) _ e)) }

pub string_token-Other : IsOther string_token
unfolding string_token
string_token-Other = record { other = λ t e. no_end t.token.kind (is_all t.half) (string_kind t.token.kind e) }

pub punct-Other : (text : List ℕ) → IsOther (punct text)
unfolding punct
punct-Other text = record { other = λ t e. no_end t.token.kind (is_all t.half) (punct_kind t.token.kind (left_true (is_punct_kind t.token.kind) (is_all t.half) (left_true (is_punct_kind t.token.kind && is_all t.half) (bytes_eq (spelling t.token.text) text) e))) }

pub second_half-Other : IsOther second_half
unfolding second_half
second_half-Other = record { other = λ t e. second_other t.token.kind t.half e }

pub or-Other : (p q : Piece → Bool) → IsOther p → IsOther q → IsOther (λ t. p t || q t)
or-Other p q hp hq = record { other = λ t e. go t (p t) refl e }
  where
    go : (t : Piece) (b : Bool) → p t ≡ b → (b || q t) ≡ true → is_last t ≡ false
    go t true e d = hp.other t e
    go t false e d = hq.other t d

pub and-Other : (p q : Piece → Bool) → IsOther p → IsOther (λ t. p t && q t)
and-Other p q hp = record { other = λ t e. hp.other t (left_true (p t) (q t) e) }

second-Other : (p q : Piece → Bool) → IsOther q → IsOther (λ t. p t && q t)
second-Other p q hq = record { other = λ t e. hq.other t (right_true (p t) (q t) e) }

pub never-Other : IsOther (λ t. false)
never-Other = record { other = λ t e. absurd (true≢false (sym e)) }

pub one_word-Other : IsOther one_word
unfolding one_word
one_word-Other = search (or-Other, word-Other) depth 6

pub is_step-Other : IsOther is_step
is_step-Other = search (or-Other, punct-Other) depth 6

pub is_prefix-Other : IsOther is_prefix
unfolding is_prefix
is_prefix-Other = search (or-Other, punct-Other) depth 9

pub kind_name-Other : (wanted : NameKind) (c : Context) → IsOther (kind_name wanted c)
unfolding kind_name
kind_name-Other wanted c = search (and-Other, any_name-Other)

is_first-Other : IsOther (λ t. is_first t.half)
is_first-Other = record { other = λ t e. first_other t.token.kind t.half e }

is_second-Other : IsOther (λ t. is_second t.half)
is_second-Other = record { other = λ t e. second_other t.token.kind t.half e }

pub closes-Other : (angle : ℕ) → IsOther (closes angle)
unfolding closes
closes-Other angle = or-Other _ _ (or-Other _ _ (second-Other _ _ (punct-Other (codes ">"))) (and-Other _ _ is_first-Other)) (and-Other _ _ is_second-Other)

punct_or : (k : TokenKind) (h : Half) (hidden : Bool) (level : ℕ) (o : Option BinaryOperator) → has_level level (if not (is_punct k) || is_second h || hidden then None else o) ≡ true → (is_end_kind k && is_all h) ≡ false
punct_or kind.End h hidden level o e = absurd (true≢false (sym e))
punct_or other h hidden level o e = refl

pub is_operator-Other : (level angle : ℕ) → IsOther (is_operator level angle)
unfolding is_operator operator_of
is_operator-Other level angle = record { other = λ t e. punct_or t.token.kind t.half (is_hidden angle t) level (binary_of (spelling t.token.text)) e }

pub is_assignment-Other : (angle : ℕ) → IsOther (is_assignment angle)
unfolding is_assignment
is_assignment-Other angle = record { other = λ t e. no_end t.token.kind (is_all t.half) (punct_kind' t.token.kind (right_true (not (nat_le 1 angle)) (is_punct t.token.kind) (left_true (not (nat_le 1 angle) && is_punct t.token.kind) (is_some (assignment_of (spelling t.token.text))) e))) }

-- ---- what is made of such productions

or_false : (a b : Bool) → a ≡ false → b ≡ false → (a || b) ≡ false
or_false true b e f = e
or_false false b e f = f

pub last_parts : (us vs : List Piece) → has_last us ≡ false → has_last vs ≡ false → has_last (us ++ vs) ≡ false
last_parts [] vs e f = f
last_parts (u ∷ us) vs e f = go (is_last u) (has_last us) (last_parts us vs) e
  where
    go : (a b : Bool) → (b ≡ false → has_last vs ≡ false → has_last (us ++ vs) ≡ false) → (a || b) ≡ false → (a || has_last (us ++ vs)) ≡ false
    go true b k e = e
    go false b k e = k e f

pub give-Endless : {A : Type 0} (x : A) → Endless (give x)
give-Endless x = record {
  whole = λ l us rest y w. ap (λ (s : List Piece). has_last s) w.0;
  front = λ l us w. ap (λ (s : List Piece). has_last s) w;
}

one_piece : (t : Piece) → is_last t ≡ false → has_last (t ∷ []) ≡ false
one_piece t e = or_false (is_last t) false e refl

pub token-Endless : (load : ℕ) (p : Piece → Bool) → IsOther p → Endless (token load p)
token-Endless load p h = record {
  whole = λ l us rest x w. ap (λ (s : List Piece). has_last s) w.0 ∙ one_piece x (h.other x w.1);
  front = λ l us w. begun l us w;
}
  where
    begun : (l : ℕ) (us : List Piece) → (token load p).front l us → has_last us ≡ false
    begun l us (inl e) = ap (λ (s : List Piece). has_last s) e
    begun l us (inr w) = ap (λ (s : List Piece). has_last s) w.1 ∙ one_piece w.0 (h.other w.0 w.2)

pub then-Endless : {A B : Type 0} {p : Production A} {f : A → Production B} → Endless p → ((x : A) → Endless (f x)) → Endless (p >>= f)
then-Endless {p} {f} hp hf = record {
  whole = λ l us rest y w. ap (λ (s : List Piece). has_last s) w.3 ∙ last_parts w.1 w.2 (hp.whole l w.1 (w.2 ++ rest) w.0 w.4) ((hf w.0).whole l w.2 rest y w.5);
  front = λ l us w. begun l us w;
}
  where
    begun : (l : ℕ) (us : List Piece) → (p >>= f).front l us → has_last us ≡ false
    begun l us (inl k) = hp.front l us k
    begun l us (inr w) = ap (λ (s : List Piece). has_last s) w.3 ∙ last_parts w.1 w.2 (hp.whole l w.1 w.2 w.0 w.4) ((hf w.0).front l w.2 w.5)

pub when-Endless : {A : Type 0} (p : Piece → Bool) {a b : Production A} → Endless a → Endless b → Endless (when p a b)
when-Endless {A} p {a} {b} ha hb = record {
  whole = λ l us rest x w. go (begins p (us ++ rest)) l us rest x w;
  front = λ l us w. begun (begins p us) l us w;
}
  where
    go : (c : Bool) (l : ℕ) (us rest : List Piece) (x : A) → Chosen c (a.whole l us rest x) (b.whole l us rest x) → has_last us ≡ false
    go true l us rest x w = ha.whole l us rest x w
    go false l us rest x w = hb.whole l us rest x w

    begun : (c : Bool) (l : ℕ) (us : List Piece) → Chosen c (a.front l us) (b.front l us) → has_last us ≡ false
    begun true l us w = ha.front l us w
    begun false l us w = hb.front l us w

pub given-Endless : {A : Type 0} (c : Bool) {a b : Production A} → Endless a → Endless b → Endless (given c a b)
given-Endless true ha hb = record { whole = ha.whole; front = ha.front }
given-Endless false ha hb = record { whole = hb.whole; front = hb.front }

pub closed-Endless : {A : Type 0} → Endless (closed {A = A})
closed-Endless = record { whole = λ l us rest x w. absurd w; front = λ l us w. ap (λ (s : List Piece). has_last s) w }

pub unread-Endless : {A : Type 0} (p : Piece → Bool) → Endless (unread {A = A} p)
unread-Endless p = record { whole = λ l us rest x w. absurd w; front = λ l us w. ap (λ (s : List Piece). has_last s) w }

times-Endless : {A : Type 0} (p : Piece → Bool) (step : A → Production A) → ((y : A) → Endless (step y)) → (n : ℕ) (x : A) → Endless (times n p step x)
times-Endless p step h zero x = closed-Endless
times-Endless p step h (suc n) x = when-Endless p (then-Endless (h x) (λ y. times-Endless p step h n y)) (give-Endless x)

pub repeat-Endless : {A : Type 0} (p : Piece → Bool) {step : A → Production A} → ((y : A) → Endless (step y)) → (x : A) → Endless (repeat p step x)
repeat-Endless p {step} h x = record {
  whole = λ l us rest y w. (times-Endless p step h w.0 x).whole l us rest y w.1;
  front = λ l us w. (times-Endless p step h w.0 x).front l us w.1;
}
