-- Pieces of one kind are of no other kind.
use Rattle.std.proofs.Common.{◌≡◌, ℕ, Bool, true, false, ◌||◌, ◌&&◌, List, codes, refl, sym, ap, ◌∙◌, true≢false}
use Rattle.std.specs.Str.{bytes_eq}
use Rattle.std.proofs.lemmas.Slice.Eq.{bytes_eq-Decides}
use Rattle.cx_lexer.specs.declared.token.TokenKind.{TokenKind}
use Rattle.cx_lexer.specs.declared.token.TokenKind.TheVariants as kind
use Rattle.cx_grammar.specs.Pieces.{Piece}
use Rattle.cx_grammar.specs.Words.{is_word_kind, is_punct_kind, is_name_kind, spelling, word, punct, any_name}
use Rattle.cx_grammar.specs.Names.{Context, type_name, class_name, kind_name}
use Rattle.cx_grammar.specs.Types.{one_word}
use Rattle.cx_grammar.specs.Expressions.{head_name, core_word}
use Rattle.cx_grammar_laws.proofs.Cases.{Never}

-- a piece with another token
abbrev pub made : TokenKind → List ℕ → Piece → Piece
made k text t = record { token = record { kind = k; text = text; at = t.token.at }; half = t.half }

pub left_true : (a b : Bool) → (a && b) ≡ true → a ≡ true
left_true true b e = refl
left_true false b e = e

pub right_true : (a b : Bool) → (a && b) ≡ true → b ≡ true
right_true true b e = e
right_true false b e = absurd (true≢false (sym e))

word_kind : (k : TokenKind) → is_word_kind k ≡ true → k ≡ kind.Word
word_kind kind.Word e = refl
word_kind other e = absurd (true≢false (sym e))

name_kind : (k : TokenKind) → is_name_kind k ≡ true → k ≡ kind.Name
name_kind kind.Name e = refl
name_kind other e = absurd (true≢false (sym e))

punct_kind : (k : TokenKind) → is_punct_kind k ≡ true → k ≡ kind.Punct
punct_kind kind.Punct e = refl
punct_kind other e = absurd (true≢false (sym e))

pub word_Never : (text : List ℕ) (q : Piece → Bool) → ((t : Piece) → q (made kind.Word text t) ≡ false) → Never (word text) q
unfolding word
word_Never text q h t e =
    let k = word_kind t.token.kind (left_true _ _ e) in
    let same = (bytes_eq-Decides t.token.text text).0 (right_true _ _ e) in
    ap (λ (z : TokenKind). q (made z t.token.text t)) k ∙ ap (λ (z : List ℕ). q (made kind.Word z t)) same ∙ h t

pub name_Never : (q : Piece → Bool) → ((t : Piece) → q (made kind.Name t.token.text t) ≡ false) → Never any_name q
unfolding any_name
name_Never q h t e = ap (λ (z : TokenKind). q (made z t.token.text t)) (name_kind t.token.kind e) ∙ h t

pub punct_Never : (text : List ℕ) (q : Piece → Bool) → ((t : Piece) → q (made kind.Punct t.token.text t) ≡ false) → Never (punct text) q
unfolding punct
punct_Never text q h t e = ap (λ (z : TokenKind). q (made z t.token.text t)) (punct_kind t.token.kind (left_true _ _ (left_true _ _ e))) ∙ h t

pub spelled : (text : List ℕ) (t : Piece) → punct text t ≡ true → spelling t.token.text ≡ text
unfolding punct
spelled text t e = (bytes_eq-Decides (spelling t.token.text) text).0 (right_true _ _ e)

pub other_punct : (a d : List ℕ) → bytes_eq a d ≡ false → Never (punct a) (punct d)
other_punct a d n t e = go (punct d t) refl
  where
    go : (x : Bool) → punct d t ≡ x → x ≡ false
    go false k = refl
    go true k =
        let same : a ≡ d = sym (spelled a t e) ∙ spelled d t k in
        absurd (true≢false (sym ((bytes_eq-Decides a d).1 same) ∙ n))

pub flipped : {r q : Piece → Bool} → Never r q → Never q r
flipped {r} {q} h t e = go (r t) refl
  where
    go : (z : Bool) → r t ≡ z → r t ≡ false
    go true d = absurd (true≢false (sym e ∙ h t d))
    go false d = d

-- one of two kinds
pub either_Never : {r s q : Piece → Bool} → Never r q → Never s q → Never (λ t. r t || s t) q
either_Never {r} {s} {q} a b t e = go (r t) refl e
  where
    go : (z : Bool) → r t ≡ z → (z || s t) ≡ true → q t ≡ false
    go true d k = a t d
    go false d k = b t k

pub nor : (a b : Bool) → a ≡ false → b ≡ false → (a || b) ≡ false
nor a b e d = ap (λ (z : Bool). z || b) e ∙ d

pub neither_Never : {r q s : Piece → Bool} → Never r q → Never r s → Never r (λ t. q t || s t)
neither_Never {r} {q} {s} a b t e = nor (q t) (s t) (a t e) (b t e)

pub kind_any : (k : Rattle.cx_scope.specs.declared.name_kind.NameKind.NameKind) (c : Context) (t : Piece) → kind_name k c t ≡ true → any_name t ≡ true
unfolding kind_name
kind_any k c t e = left_true _ _ e

pub head_any : (c : Context) (q : Piece → Bool) → Never any_name q → Never (head_name c) q
head_any c q h = either_Never {r = type_name c} {s = class_name c} {q = q} (λ t e. h t (kind_any _ c t e)) (λ t e. h t (kind_any _ c t e))

pub core_word_Never : (q : Piece → Bool) → ((t : Piece) → (q (made kind.Word (codes "void") t) ≡ false) × (q (made kind.Word (codes "typename") t) ≡ false) × (q (made kind.Word (codes "decltype") t) ≡ false)) → Never core_word q
core_word_Never q h =
    either_Never {r = λ t. word (codes "void") t || word (codes "typename") t} {s = word (codes "decltype")} {q = q}
    (either_Never {r = word (codes "void")} {s = word (codes "typename")} {q = q} (word_Never _ q (λ t. (h t).0)) (word_Never _ q (λ t. (h t).1)))
    (word_Never _ q (λ t. (h t).2))

pub one_word_Never : (q : Piece → Bool) → ((t : Piece) → (q (made kind.Word (codes "bool") t) ≡ false) × (q (made kind.Word (codes "int") t) ≡ false) × (q (made kind.Word (codes "signed") t) ≡ false) × (q (made kind.Word (codes "unsigned") t) ≡ false))
    → Never one_word q
unfolding one_word
one_word_Never q h =
    either_Never {r = λ t. word (codes "bool") t || word (codes "int") t || word (codes "signed") t} {s = word (codes "unsigned")} {q = q}
    (either_Never {r = λ t. word (codes "bool") t || word (codes "int") t} {s = word (codes "signed")} {q = q}
    (either_Never {r = word (codes "bool")} {s = word (codes "int")} {q = q} (word_Never _ q (λ t. (h t).0)) (word_Never _ q (λ t. (h t).1)))
    (word_Never _ q (λ t. (h t).2)))
    (word_Never _ q (λ t. (h t).3))
