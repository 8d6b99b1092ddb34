-- Which reserved word ([lex.key]) or punctuator ([lex.operators], [lex.digraph]) a text spells.
use Rattle.std.specs.Prelude.{ℕ, List, codes, if◌then◌else◌}
use Rattle.std.specs.Str.{bytes_eq}
use Rattle.cx_lexer.specs.declared.token.TokenKind.{TokenKind}
use Rattle.cx_lexer.specs.declared.token.TokenKind.TheVariants as read
use Rattle.cx_lexer.specs.Tokens.{TokenTree}
use Rattle.cx_tokens.specs.declared.word.Word.{Word}
use Rattle.cx_tokens.specs.declared.word.Word.TheVariants as word
use Rattle.cx_tokens.specs.declared.punctuator.Punctuator.{Punctuator}
use Rattle.cx_tokens.specs.declared.punctuator.Punctuator.TheVariants as punctuator
use Rattle.cx_tokens.specs.declared.token.TokenKind as symbols
use Rattle.cx_tokens.specs.declared.token.TokenKind.TheVariants as kind
use Rattle.cx_tokens.specs.Tokens as told

-- The reserved word that a text spells; those that the language has no use for are one.
unfoldable pub word_of : List ℕ → Word
word_of text =
    if bytes_eq text (codes "auto") then word.Auto
    else if bytes_eq text (codes "bool") then word.Bool
    else if bytes_eq text (codes "break") then word.Break
    else if bytes_eq text (codes "class") then word.Class
    else if bytes_eq text (codes "concept") then word.Concept
    else if bytes_eq text (codes "const") then word.Const
    else if bytes_eq text (codes "constexpr") then word.Constexpr
    else if bytes_eq text (codes "continue") then word.Continue
    else if bytes_eq text (codes "decltype") then word.Decltype
    else if bytes_eq text (codes "else") then word.Else
    else if bytes_eq text (codes "false") then word.False
    else if bytes_eq text (codes "for") then word.For
    else if bytes_eq text (codes "if") then word.If
    else if bytes_eq text (codes "inline") then word.Inline
    else if bytes_eq text (codes "int") then word.Int
    else if bytes_eq text (codes "long") then word.Long
    else if bytes_eq text (codes "requires") then word.Requires
    else if bytes_eq text (codes "return") then word.Return
    else if bytes_eq text (codes "signed") then word.Signed
    else if bytes_eq text (codes "static") then word.Static
    else if bytes_eq text (codes "static_assert") then word.StaticAssert
    else if bytes_eq text (codes "static_cast") then word.StaticCast
    else if bytes_eq text (codes "struct") then word.Struct
    else if bytes_eq text (codes "template") then word.Template
    else if bytes_eq text (codes "true") then word.True
    else if bytes_eq text (codes "typename") then word.Typename
    else if bytes_eq text (codes "unsigned") then word.Unsigned
    else if bytes_eq text (codes "using") then word.Using
    else if bytes_eq text (codes "void") then word.Void
    else if bytes_eq text (codes "while") then word.While
    else if bytes_eq text (codes "__is_same") then word.IsSame
    else if bytes_eq text (codes "__out") then word.Out
    else word.Unused

-- The punctuator that an alternative token spells.
unfoldable pub spelled_otherwise : List ℕ → Punctuator
spelled_otherwise text =
    if bytes_eq text (codes "and") then punctuator.AmpersandAmpersand
    else if bytes_eq text (codes "bitand") then punctuator.Ampersand
    else if bytes_eq text (codes "bitor") then punctuator.Bar
    else if bytes_eq text (codes "compl") then punctuator.Tilde
    else if bytes_eq text (codes "not") then punctuator.Exclamation
    else if bytes_eq text (codes "or") then punctuator.BarBar
    else if bytes_eq text (codes "xor") then punctuator.Caret
    else if bytes_eq text (codes "and_eq") then punctuator.AmpersandEqual
    else if bytes_eq text (codes "or_eq") then punctuator.BarEqual
    else if bytes_eq text (codes "xor_eq") then punctuator.CaretEqual
    else if bytes_eq text (codes "not_eq") then punctuator.ExclamationEqual
    else punctuator.Unused

-- The punctuator that a text of two or three characters spells, or an alternative token.
unfoldable pub longer_punctuator : List ℕ → Punctuator
longer_punctuator text =
    if bytes_eq text (codes "::") then punctuator.ColonColon
    else if bytes_eq text (codes "->") then punctuator.Arrow
    else if bytes_eq text (codes "+=") then punctuator.PlusEqual
    else if bytes_eq text (codes "-=") then punctuator.MinusEqual
    else if bytes_eq text (codes "*=") then punctuator.StarEqual
    else if bytes_eq text (codes "/=") then punctuator.SlashEqual
    else if bytes_eq text (codes "%=") then punctuator.PercentEqual
    else if bytes_eq text (codes "^=") then punctuator.CaretEqual
    else if bytes_eq text (codes "&=") then punctuator.AmpersandEqual
    else if bytes_eq text (codes "|=") then punctuator.BarEqual
    else if bytes_eq text (codes "==") then punctuator.EqualEqual
    else if bytes_eq text (codes "!=") then punctuator.ExclamationEqual
    else if bytes_eq text (codes "<=") then punctuator.LessEqual
    else if bytes_eq text (codes ">=") then punctuator.GreaterEqual
    else if bytes_eq text (codes "&&") then punctuator.AmpersandAmpersand
    else if bytes_eq text (codes "||") then punctuator.BarBar
    else if bytes_eq text (codes "<<") then punctuator.LessLess
    else if bytes_eq text (codes ">>") then punctuator.GreaterGreater
    else if bytes_eq text (codes "<<=") then punctuator.LessLessEqual
    else if bytes_eq text (codes ">>=") then punctuator.GreaterGreaterEqual
    else if bytes_eq text (codes "++") then punctuator.PlusPlus
    else if bytes_eq text (codes "--") then punctuator.MinusMinus
    else spelled_otherwise text

-- The punctuator that a text spells, as itself or as an alternative token.
unfoldable pub punctuator_of : List ℕ → Punctuator
punctuator_of text =
    if bytes_eq text (codes "{") then punctuator.LeftBrace
    else if bytes_eq text (codes "}") then punctuator.RightBrace
    else if bytes_eq text (codes "(") then punctuator.LeftParenthesis
    else if bytes_eq text (codes ")") then punctuator.RightParenthesis
    else if bytes_eq text (codes ";") then punctuator.Semicolon
    else if bytes_eq text (codes ":") then punctuator.Colon
    else if bytes_eq text (codes ",") then punctuator.Comma
    else if bytes_eq text (codes ".") then punctuator.Dot
    else if bytes_eq text (codes "?") then punctuator.Question
    else if bytes_eq text (codes "~") then punctuator.Tilde
    else if bytes_eq text (codes "!") then punctuator.Exclamation
    else if bytes_eq text (codes "+") then punctuator.Plus
    else if bytes_eq text (codes "-") then punctuator.Minus
    else if bytes_eq text (codes "*") then punctuator.Star
    else if bytes_eq text (codes "/") then punctuator.Slash
    else if bytes_eq text (codes "%") then punctuator.Percent
    else if bytes_eq text (codes "^") then punctuator.Caret
    else if bytes_eq text (codes "&") then punctuator.Ampersand
    else if bytes_eq text (codes "|") then punctuator.Bar
    else if bytes_eq text (codes "=") then punctuator.Equal
    else if bytes_eq text (codes "<") then punctuator.Less
    else if bytes_eq text (codes ">") then punctuator.Greater
    else longer_punctuator text

-- What a token of a kind and a text is.
abbrev pub symbol_of : TokenKind → List ℕ → symbols.TokenKind
symbol_of read.Name text = kind.Name
symbol_of read.Word text = kind.Word (word_of text)
symbol_of read.Int text = kind.Int
symbol_of read.Str text = kind.Str
symbol_of read.Punct text = kind.Punct (punctuator_of text)
symbol_of read.End text = kind.End

abbrev pub with_symbol : TokenTree → told.TokenTree
with_symbol t = record { kind = symbol_of t.kind t.text; text = t.text; at = t.at }
