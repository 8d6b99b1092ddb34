-- Classes of tokens.
use Rattle.std.specs.Prelude.{ℕ, Bool, true, false, ◌||◌, ◌&&◌, if◌then◌else◌, List, [], ◌∷◌, codes, is_some}
use Rattle.std.specs.Str.{bytes_eq}
use Rattle.cx_base.specs.Refusal.{Refusal, Refused}
use Rattle.cx_base.specs.declared.kind.Kind.{Kind}
use Rattle.cx_base.specs.declared.kind.Kind.TheVariants as fault
use Rattle.cx_base.specs.declared.place.Place.{Place}
use Rattle.cx_lexer.specs.declared.token.TokenKind.{TokenKind}
use Rattle.cx_lexer.specs.declared.token.TokenKind.TheVariants as kind
use Rattle.cx_lexer.specs.Literals.{type_of}
use Rattle.cx_lexer.specs.Tokens.{TokenTree}
use Rattle.cx_lexer.specs.Words.{has_word, unused_words}
use Rattle.cx_grammar.specs.Pieces.{Piece, Half, All, First, Second}

abbrev pub is_word_kind : TokenKind → Bool
is_word_kind kind.Word = true
is_word_kind other = false

abbrev pub is_punct_kind : TokenKind → Bool
is_punct_kind kind.Punct = true
is_punct_kind other = false

abbrev pub is_int_kind : TokenKind → Bool
is_int_kind kind.Int = true
is_int_kind other = false

abbrev pub is_name_kind : TokenKind → Bool
is_name_kind kind.Name = true
is_name_kind other = false

-- The punctuators that no production uses.
unfoldable pub unused_punctuators : List (List ℕ)
unused_punctuators = codes "[" ∷ codes "]" ∷ codes "..." ∷ codes ".*" ∷ codes "->*" ∷ codes "<=>" ∷ []

-- Whether the language has no use for a token.
unfoldable pub is_unsupported : TokenTree → Bool
is_unsupported t = (is_word_kind t.kind && has_word unused_words t.text) || (is_punct_kind t.kind && has_word unused_punctuators t.text)

abbrev pub refused : Kind → Place → Refusal
refused k at = Refused (record { kind = k; at = at; also = []; chain = [] })

-- The fault of a token that does not fit.
unfoldable pub misfit : TokenTree → Refusal
misfit t = refused (if is_unsupported t then fault.Unsupported else fault.Syntax) t.at

-- The punctuator that a text spells: an alternative token is a spelling of another one ([lex.digraph]).
unfoldable pub spelling : List ℕ → List ℕ
spelling text =
    if bytes_eq text (codes "and") then codes "&&"
    else if bytes_eq text (codes "bitand") then codes "&"
    else if bytes_eq text (codes "bitor") then codes "|"
    else if bytes_eq text (codes "compl") then codes "~"
    else if bytes_eq text (codes "not") then codes "!"
    else if bytes_eq text (codes "or") then codes "||"
    else if bytes_eq text (codes "xor") then codes "^"
    else if bytes_eq text (codes "and_eq") then codes "&="
    else if bytes_eq text (codes "or_eq") then codes "|="
    else if bytes_eq text (codes "xor_eq") then codes "^="
    else if bytes_eq text (codes "not_eq") then codes "!="
    else text

abbrev pub is_all : Half → Bool
is_all All = true
is_all other = false

abbrev pub is_first : Half → Bool
is_first First = true
is_first other = false

abbrev pub is_second : Half → Bool
is_second Second = true
is_second other = false

-- A reserved word.
unfoldable pub word : List ℕ → Piece → Bool
word text p = is_word_kind p.token.kind && bytes_eq p.token.text text

-- A punctuator.
unfoldable pub punct : List ℕ → Piece → Bool
punct text p = is_punct_kind p.token.kind && is_all p.half && bytes_eq (spelling p.token.text) text

-- Any name.
unfoldable pub any_name : Piece → Bool
any_name p = is_name_kind p.token.kind

-- A literal.
unfoldable pub literal_token : Piece → Bool
literal_token p = is_int_kind p.token.kind && is_some (type_of p.token.text)

-- The second half of `>>`.
unfoldable pub second_half : Piece → Bool
second_half p = is_second p.half
