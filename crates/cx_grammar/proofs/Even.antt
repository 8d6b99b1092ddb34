-- A tree ends with a whole token where it is in no list of template arguments.
use Rattle.std.proofs.Common.{◌≡◌, ℕ, zero, suc, ◌+◌, Bool, true, false, ◌&&◌, ◌||◌, List, [], ◌∷◌, ◌++◌, codes, nat_le, refl, sym, ap, ◌∙◌, subst, true≢false, append-nil}
use Rattle.std.specs.Str.{bytes_eq}
use Rattle.cx_lexer.specs.declared.token.TokenKind.{TokenKind}
use Rattle.cx_lexer.specs.declared.token.TokenKind.TheVariants as kind
use Rattle.cx_grammar.specs.Pieces.{Piece, Half, All, First, Second, is_double}
use Rattle.cx_grammar.specs.Words.{is_word_kind, is_punct_kind, is_int_kind, is_name_kind, is_all, is_first, is_second, word, punct, any_name, literal_token}
use Rattle.cx_grammar.specs.Types.{closes, one_word}
use Rattle.cx_grammar.specs.Expressions.{is_prefix}
use Rattle.cx_grammar.specs.Declarations.{is_end_kind}
use Rattle.cx_grammar.specs.Production.{Production, give, ◌>>=◌, token, when, given, closed, unread, times, repeat, begins, Chosen}
use Rattle.cx_grammar.proofs.Alone.{Filled}

-- whether a piece is the first half of a punctuator
abbrev pub is_split : Piece → Bool
is_split p = is_first p.half && (is_punct_kind p.token.kind && is_double p.token)

-- whether the last piece is
abbrev pub ends_split : List Piece → Bool
ends_split [] = false
ends_split (p ∷ []) = is_split p
ends_split (p ∷ q ∷ ps) = ends_split (q ∷ ps)

pub record Even {A : Type 0} (p : Production A) : Type 0 where
  pub even : (l : ℕ) (us rest : List Piece) (x : A) → p.whole l us rest x → ends_split us ≡ false

-- no piece of some kind is a first half
pub record IsWhole (q : Piece → Bool) : Type 0 where
  pub whole : (t : Piece) → q t ≡ true → is_split t ≡ false

-- ---- kinds of pieces

not_punct : (k : TokenKind) (f d : Bool) → is_punct_kind k ≡ false → (f && (is_punct_kind k && d)) ≡ false
not_punct k true d e = ap (λ (z : Bool). z && d) e
not_punct k false d e = refl

left_true : (a b : Bool) → (a && b) ≡ true → a ≡ true
left_true true b e = refl
left_true false b e = absurd (true≢false (sym e))

word_kind : (k : TokenKind) → is_word_kind k ≡ true → is_punct_kind k ≡ false
word_kind kind.Word e = refl
word_kind other e = absurd (true≢false (sym e))

name_kind : (k : TokenKind) → is_name_kind k ≡ true → is_punct_kind k ≡ false
name_kind kind.Name e = refl
name_kind other e = absurd (true≢false (sym e))

int_kind : (k : TokenKind) → is_int_kind k ≡ true → is_punct_kind k ≡ false
int_kind kind.Int e = refl
int_kind other e = absurd (true≢false (sym e))

end_kind : (k : TokenKind) → is_end_kind k ≡ true → is_punct_kind k ≡ false
end_kind kind.End e = refl
end_kind other e = absurd (true≢false (sym e))

all_half : (h : Half) (a b d : Bool) → (a && is_all h && b) ≡ true → (is_first h && d) ≡ false
all_half All a b d e = refl
all_half Second a b d e = refl
all_half First true b d e = absurd (true≢false (sym e))
all_half First false b d e = absurd (true≢false (sym e))

pub word-Whole : (text : List ℕ) → IsWhole (word text)
unfolding word
word-Whole text = record { whole = λ t e. not_punct t.token.kind (is_first t.half) (is_double t.token) (word_kind t.token.kind (left_true (is_word_kind t.token.kind) (bytes_eq t.token.text text) e)) }

pub any_name-Whole : IsWhole any_name
unfolding any_name
any_name-Whole = record { whole = λ t e. not_punct t.token.kind (is_first t.half) (is_double t.token) (name_kind t.token.kind e) }

pub literal_token-Whole : IsWhole literal_token
unfolding literal_token
literal_token-Whole = record { whole = λ t e. not_punct t.token.kind (is_first t.half) (is_double t.token) (int_kind t.token.kind (left_true (is_int_kind t.token.kind) _ e)) }

pub punct-Whole : (text : List ℕ) → IsWhole (punct text)
unfolding punct
punct-Whole text = record { whole = λ t e. all_half t.half (is_punct_kind t.token.kind) _ (is_punct_kind t.token.kind && is_double t.token) e }

pub or-Whole : (p q : Piece → Bool) → IsWhole p → IsWhole q → IsWhole (λ t. p t || q t)
or-Whole p q hp hq = record { whole = λ t e. go t (p t) refl e }
  where
    go : (t : Piece) (b : Bool) → p t ≡ b → (b || q t) ≡ true → is_split t ≡ false
    go t true e d = hp.whole t e
    go t false e d = hq.whole t d

pub end-Whole : IsWhole (λ t. is_end_kind t.token.kind)
end-Whole = record { whole = λ t e. not_punct t.token.kind (is_first t.half) (is_double t.token) (end_kind t.token.kind e) }

pub and-Whole : (p q : Piece → Bool) → IsWhole p → IsWhole (λ t. p t && q t)
and-Whole p q hp = record { whole = λ t e. hp.whole t (left_true (p t) (q t) e) }

pub never-Whole : IsWhole (λ t. false)
never-Whole = record { whole = λ t e. absurd (true≢false (sym e)) }

pub one_word-Whole : IsWhole one_word
unfolding one_word
one_word-Whole = search (or-Whole, word-Whole) depth 6

pub is_prefix-Whole : IsWhole is_prefix
unfolding is_prefix
is_prefix-Whole = search (or-Whole, punct-Whole) depth 9

-- one list alone is closed by no first half
closes_one : (h : Half) (a d : Bool) → ((is_all h && a) || (is_first h && nat_le 2 1) || (is_second h && nat_le 1 1)) ≡ true → (is_first h && d) ≡ false
closes_one All a d e = refl
closes_one Second a d e = refl
closes_one First a d e = absurd (true≢false (sym e))

pub closes-Whole : (angle : ℕ) → angle ≡ 0 → IsWhole (closes (angle + 1))
unfolding closes
closes-Whole angle e = subst (λ (z : ℕ). IsWhole (closes (z + 1))) (sym e) (record { whole = λ t d. closes_one t.half (punct (codes ">") t) (is_punct_kind t.token.kind && is_double t.token) d })

-- ---- what is made of such productions

split_behind : (us : List Piece) (v : Piece) (vs : List Piece) → ends_split (us ++ v ∷ vs) ≡ ends_split (v ∷ vs)
split_behind [] v vs = refl
split_behind (u ∷ []) v vs = refl
split_behind (u ∷ w ∷ us) v vs = split_behind (w ∷ us) v vs

pub give-Even : {A : Type 0} (x : A) → Even (give x)
give-Even x = record { even = λ l us rest y w. ap (λ (s : List Piece). ends_split s) w.0 }

pub token-Even : (load : ℕ) (p : Piece → Bool) → IsWhole p → Even (token load p)
token-Even load p h = record { even = λ l us rest x w. ap (λ (s : List Piece). ends_split s) w.0 ∙ h.whole x w.1 }

pub closed-Even : {A : Type 0} → Even (closed {A = A})
closed-Even = record { even = λ l us rest x w. absurd w }

pub unread-Even : {A : Type 0} (p : Piece → Bool) → Even (unread {A = A} p)
unread-Even p = record { even = λ l us rest x w. absurd w }

module _ {A B : Type 0} {p : Production A} {f : A → Production B} where
  then_even : Even p → ((x : A) → Even (f x)) → (l : ℕ) (us vs rest : List Piece) (x : A) (y : B) → p.whole l us (vs ++ rest) x → (f x).whole l vs rest y → ends_split (us ++ vs) ≡ false
  then_even hp hf l us [] rest x y w k = ap (λ (s : List Piece). ends_split s) (append-nil us) ∙ hp.even l us ([] ++ rest) x w
  then_even hp hf l us (v ∷ vs) rest x y w k = split_behind us v vs ∙ (hf x).even l (v ∷ vs) rest y k

  pub then-Even : Even p → ((x : A) → Even (f x)) → Even (p >>= f)
  then-Even hp hf = record { even = λ l us rest y w. ap (λ (s : List Piece). ends_split s) w.3 ∙ then_even hp hf l w.1 w.2 rest w.0 y w.4 w.5 }

last_even : {A B : Type 0} {f : A → Production B} → ((x : A) → Even (f x)) → ((x : A) → Filled (f x)) → (l : ℕ) (us vs rest : List Piece) (x : A) (y : B) → (f x).whole l vs rest y → ends_split (us ++ vs) ≡ false
last_even hf k l us [] rest x y w = absurd ((k x).filled l rest y w)
last_even hf k l us (v ∷ vs) rest x y w = split_behind us v vs ∙ (hf x).even l (v ∷ vs) rest y w

pub last-Even : {A B : Type 0} (p : Production A) {f : A → Production B} → ((x : A) → Even (f x)) → ((x : A) → Filled (f x)) → Even (p >>= f)
last-Even p hf k = record { even = λ l us rest y w. ap (λ (s : List Piece). ends_split s) w.3 ∙ last_even hf k l w.1 w.2 rest w.0 y w.5 }

pub when-Even : {A : Type 0} (p : Piece → Bool) {a b : Production A} → Even a → Even b → Even (when p a b)
when-Even {A} p {a} {b} ha hb = record { even = λ l us rest x w. go (begins p (us ++ rest)) l us rest x w }
  where
    go : (c : Bool) (l : ℕ) (us rest : List Piece) (x : A) → Chosen c (a.whole l us rest x) (b.whole l us rest x) → ends_split us ≡ false
    go true l us rest x w = ha.even l us rest x w
    go false l us rest x w = hb.even l us rest x w

pub given-Even : {A : Type 0} (c : Bool) {a b : Production A} → Even a → Even b → Even (given c a b)
given-Even true ha hb = ha
given-Even false ha hb = hb

times-Even : {A : Type 0} (p : Piece → Bool) (step : A → Production A) → ((y : A) → Even (step y)) → (n : ℕ) (x : A) → Even (times n p step x)
times-Even p step h zero x = closed-Even
times-Even p step h (suc n) x = when-Even p (then-Even (h x) (λ y. times-Even p step h n y)) (give-Even x)

pub repeat-Even : {A : Type 0} (p : Piece → Bool) {step : A → Production A} → ((y : A) → Even (step y)) → (x : A) → Even (repeat p step x)
repeat-Even p {step} h x = record { even = λ l us rest y w. (times-Even p step h w.0 x).even l us rest y w.1 }
