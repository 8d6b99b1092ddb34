-- The tokens of a text of one line, told apart simply: blanks, names and words, digits, strings, punctuators.
use Rattle.std.specs.Prelude.{ℕ, zero, suc, ◌+◌, ◌==◌, ◌||◌, ◌&&◌, nat_le, Bool, true, false, not, List, [], ◌∷◌, codes, if◌then◌else◌, length, take, drop}
use Rattle.std.specs.List.{prefix_len}
use Rattle.std.specs.Str.{bytes_eq}
use Rattle.cx_tokens.specs.declared.token.TokenKind.{TokenKind}
use Rattle.cx_tokens.specs.declared.token.TokenKind.TheVariants as kind
use Rattle.cx_tokens.specs.declared.word.Word.TheVariants as word
use Rattle.cx_tokens.specs.declared.punctuator.Punctuator.TheVariants as punctuator
use Rattle.cx_tokens.specs.Tokens.{TokenTree}

abbrev pub Text : Type 0
Text = List ℕ

-- what a text spells
pub record Spelling : Type 0 where
  pub text : Text
  pub kind : TokenKind

abbrev pub spells : Text → TokenKind → Spelling
spells text k = record { text = text; kind = k }

abbrev pub words : List Spelling
words =
    spells (codes "auto") (kind.Word word.Auto)
    ∷ spells (codes "bool") (kind.Word word.Bool)
    ∷ spells (codes "break") (kind.Word word.Break)
    ∷ spells (codes "class") (kind.Word word.Class)
    ∷ spells (codes "concept") (kind.Word word.Concept)
    ∷ spells (codes "const") (kind.Word word.Const)
    ∷ spells (codes "constexpr") (kind.Word word.Constexpr)
    ∷ spells (codes "continue") (kind.Word word.Continue)
    ∷ spells (codes "decltype") (kind.Word word.Decltype)
    ∷ spells (codes "else") (kind.Word word.Else)
    ∷ spells (codes "false") (kind.Word word.False)
    ∷ spells (codes "for") (kind.Word word.For)
    ∷ spells (codes "if") (kind.Word word.If)
    ∷ spells (codes "inline") (kind.Word word.Inline)
    ∷ spells (codes "int") (kind.Word word.Int)
    ∷ spells (codes "long") (kind.Word word.Long)
    ∷ spells (codes "requires") (kind.Word word.Requires)
    ∷ spells (codes "return") (kind.Word word.Return)
    ∷ spells (codes "signed") (kind.Word word.Signed)
    ∷ spells (codes "static") (kind.Word word.Static)
    ∷ spells (codes "static_assert") (kind.Word word.StaticAssert)
    ∷ spells (codes "static_cast") (kind.Word word.StaticCast)
    ∷ spells (codes "struct") (kind.Word word.Struct)
    ∷ spells (codes "template") (kind.Word word.Template)
    ∷ spells (codes "true") (kind.Word word.True)
    ∷ spells (codes "typename") (kind.Word word.Typename)
    ∷ spells (codes "unsigned") (kind.Word word.Unsigned)
    ∷ spells (codes "using") (kind.Word word.Using)
    ∷ spells (codes "void") (kind.Word word.Void)
    ∷ spells (codes "while") (kind.Word word.While)
    ∷ spells (codes "__is_same") (kind.Word word.IsSame)
    ∷ spells (codes "__out") (kind.Word word.Out)
    ∷ spells (codes "alignas") (kind.Word word.Unused)
    ∷ spells (codes "alignof") (kind.Word word.Unused)
    ∷ spells (codes "asm") (kind.Word word.Unused)
    ∷ spells (codes "case") (kind.Word word.Unused)
    ∷ spells (codes "catch") (kind.Word word.Unused)
    ∷ spells (codes "char") (kind.Word word.Unused)
    ∷ spells (codes "char8_t") (kind.Word word.Unused)
    ∷ spells (codes "char16_t") (kind.Word word.Unused)
    ∷ spells (codes "char32_t") (kind.Word word.Unused)
    ∷ spells (codes "consteval") (kind.Word word.Unused)
    ∷ spells (codes "constinit") (kind.Word word.Unused)
    ∷ spells (codes "const_cast") (kind.Word word.Unused)
    ∷ spells (codes "co_await") (kind.Word word.Unused)
    ∷ spells (codes "co_return") (kind.Word word.Unused)
    ∷ spells (codes "co_yield") (kind.Word word.Unused)
    ∷ spells (codes "default") (kind.Word word.Unused)
    ∷ spells (codes "delete") (kind.Word word.Unused)
    ∷ spells (codes "do") (kind.Word word.Unused)
    ∷ spells (codes "double") (kind.Word word.Unused)
    ∷ spells (codes "dynamic_cast") (kind.Word word.Unused)
    ∷ spells (codes "enum") (kind.Word word.Unused)
    ∷ spells (codes "explicit") (kind.Word word.Unused)
    ∷ spells (codes "export") (kind.Word word.Unused)
    ∷ spells (codes "extern") (kind.Word word.Unused)
    ∷ spells (codes "float") (kind.Word word.Unused)
    ∷ spells (codes "friend") (kind.Word word.Unused)
    ∷ spells (codes "mutable") (kind.Word word.Unused)
    ∷ spells (codes "noexcept") (kind.Word word.Unused)
    ∷ spells (codes "nullptr") (kind.Word word.Unused)
    ∷ spells (codes "operator") (kind.Word word.Unused)
    ∷ spells (codes "private") (kind.Word word.Unused)
    ∷ spells (codes "protected") (kind.Word word.Unused)
    ∷ spells (codes "public") (kind.Word word.Unused)
    ∷ spells (codes "register") (kind.Word word.Unused)
    ∷ spells (codes "reinterpret_cast") (kind.Word word.Unused)
    ∷ spells (codes "short") (kind.Word word.Unused)
    ∷ spells (codes "switch") (kind.Word word.Unused)
    ∷ spells (codes "this") (kind.Word word.Unused)
    ∷ spells (codes "thread_local") (kind.Word word.Unused)
    ∷ spells (codes "throw") (kind.Word word.Unused)
    ∷ spells (codes "try") (kind.Word word.Unused)
    ∷ spells (codes "typedef") (kind.Word word.Unused)
    ∷ spells (codes "typeid") (kind.Word word.Unused)
    ∷ spells (codes "union") (kind.Word word.Unused)
    ∷ spells (codes "virtual") (kind.Word word.Unused)
    ∷ spells (codes "volatile") (kind.Word word.Unused)
    ∷ spells (codes "wchar_t") (kind.Word word.Unused)
    ∷ spells (codes "new") (kind.Word word.Unused)
    ∷ spells (codes "namespace") (kind.Word word.Unused)
    ∷ spells (codes "goto") (kind.Word word.Unused)
    ∷ spells (codes "sizeof") (kind.Word word.Unused)
    ∷ spells (codes "and") (kind.Punct punctuator.AmpersandAmpersand)
    ∷ spells (codes "bitand") (kind.Punct punctuator.Ampersand)
    ∷ spells (codes "bitor") (kind.Punct punctuator.Bar)
    ∷ spells (codes "compl") (kind.Punct punctuator.Tilde)
    ∷ spells (codes "not") (kind.Punct punctuator.Exclamation)
    ∷ spells (codes "or") (kind.Punct punctuator.BarBar)
    ∷ spells (codes "xor") (kind.Punct punctuator.Caret)
    ∷ spells (codes "and_eq") (kind.Punct punctuator.AmpersandEqual)
    ∷ spells (codes "or_eq") (kind.Punct punctuator.BarEqual)
    ∷ spells (codes "xor_eq") (kind.Punct punctuator.CaretEqual)
    ∷ spells (codes "not_eq") (kind.Punct punctuator.ExclamationEqual)
    ∷ []

-- the longer ones first
abbrev pub punctuators : List Spelling
punctuators =
    spells (codes "<<=") (kind.Punct punctuator.LessLessEqual)
    ∷ spells (codes ">>=") (kind.Punct punctuator.GreaterGreaterEqual)
    ∷ spells (codes "...") (kind.Punct punctuator.Unused)
    ∷ spells (codes "->*") (kind.Punct punctuator.Unused)
    ∷ spells (codes "<=>") (kind.Punct punctuator.Unused)
    ∷ spells (codes "::") (kind.Punct punctuator.ColonColon)
    ∷ spells (codes "->") (kind.Punct punctuator.Arrow)
    ∷ spells (codes "+=") (kind.Punct punctuator.PlusEqual)
    ∷ spells (codes "-=") (kind.Punct punctuator.MinusEqual)
    ∷ spells (codes "*=") (kind.Punct punctuator.StarEqual)
    ∷ spells (codes "/=") (kind.Punct punctuator.SlashEqual)
    ∷ spells (codes "%=") (kind.Punct punctuator.PercentEqual)
    ∷ spells (codes "^=") (kind.Punct punctuator.CaretEqual)
    ∷ spells (codes "&=") (kind.Punct punctuator.AmpersandEqual)
    ∷ spells (codes "|=") (kind.Punct punctuator.BarEqual)
    ∷ spells (codes "==") (kind.Punct punctuator.EqualEqual)
    ∷ spells (codes "!=") (kind.Punct punctuator.ExclamationEqual)
    ∷ spells (codes "<=") (kind.Punct punctuator.LessEqual)
    ∷ spells (codes ">=") (kind.Punct punctuator.GreaterEqual)
    ∷ spells (codes "&&") (kind.Punct punctuator.AmpersandAmpersand)
    ∷ spells (codes "||") (kind.Punct punctuator.BarBar)
    ∷ spells (codes "<<") (kind.Punct punctuator.LessLess)
    ∷ spells (codes ">>") (kind.Punct punctuator.GreaterGreater)
    ∷ spells (codes "++") (kind.Punct punctuator.PlusPlus)
    ∷ spells (codes "--") (kind.Punct punctuator.MinusMinus)
    ∷ spells (codes ".*") (kind.Punct punctuator.Unused)
    ∷ spells (codes "{") (kind.Punct punctuator.LeftBrace)
    ∷ spells (codes "}") (kind.Punct punctuator.RightBrace)
    ∷ spells (codes "(") (kind.Punct punctuator.LeftParenthesis)
    ∷ spells (codes ")") (kind.Punct punctuator.RightParenthesis)
    ∷ spells (codes ";") (kind.Punct punctuator.Semicolon)
    ∷ spells (codes ":") (kind.Punct punctuator.Colon)
    ∷ spells (codes ",") (kind.Punct punctuator.Comma)
    ∷ spells (codes ".") (kind.Punct punctuator.Dot)
    ∷ spells (codes "?") (kind.Punct punctuator.Question)
    ∷ spells (codes "~") (kind.Punct punctuator.Tilde)
    ∷ spells (codes "!") (kind.Punct punctuator.Exclamation)
    ∷ spells (codes "+") (kind.Punct punctuator.Plus)
    ∷ spells (codes "-") (kind.Punct punctuator.Minus)
    ∷ spells (codes "*") (kind.Punct punctuator.Star)
    ∷ spells (codes "/") (kind.Punct punctuator.Slash)
    ∷ spells (codes "%") (kind.Punct punctuator.Percent)
    ∷ spells (codes "^") (kind.Punct punctuator.Caret)
    ∷ spells (codes "&") (kind.Punct punctuator.Ampersand)
    ∷ spells (codes "|") (kind.Punct punctuator.Bar)
    ∷ spells (codes "=") (kind.Punct punctuator.Equal)
    ∷ spells (codes "<") (kind.Punct punctuator.Less)
    ∷ spells (codes ">") (kind.Punct punctuator.Greater)
    ∷ spells (codes "[") (kind.Punct punctuator.Unused)
    ∷ spells (codes "]") (kind.Punct punctuator.Unused)
    ∷ []

abbrev pub kind_of : List Spelling → Text → TokenKind
kind_of [] text = kind.Name
kind_of (x ∷ xs) text = if bytes_eq x.text text then x.kind else kind_of xs text

abbrev pub is_prefix : Text → Text → Bool
is_prefix [] text = true
is_prefix (x ∷ xs) [] = false
is_prefix (x ∷ xs) (y ∷ ys) = x == y && is_prefix xs ys

-- the first spelling that a text begins with
abbrev pub first_spelling : List Spelling → Text → Spelling
first_spelling [] text = spells (codes "?") kind.End
first_spelling (x ∷ xs) text = if is_prefix x.text text then x else first_spelling xs text

abbrev pub is_digit : ℕ → Bool
is_digit b = nat_le 48 b && nat_le b 57

abbrev pub is_letter : ℕ → Bool
is_letter b = (nat_le 65 b && nat_le b 90) || (nat_le 97 b && nat_le b 122) || b == 95

abbrev pub is_word_part : ℕ → Bool
is_word_part b = is_letter b || is_digit b

abbrev pub token_of : Text → Spelling
token_of [] = spells [] kind.End
token_of (b ∷ text) =
    if is_letter b then spells (take (prefix_len is_word_part (b ∷ text)) (b ∷ text)) (kind_of words (take (prefix_len is_word_part (b ∷ text)) (b ∷ text)))
    else if is_digit b then spells (take (prefix_len is_word_part (b ∷ text)) (b ∷ text)) kind.Int
    else if b == 34 then spells (take (prefix_len (λ x. not (x == 34)) text + 2) (b ∷ text)) kind.Str
    else first_spelling punctuators (b ∷ text)

abbrev pub at_column : ℕ → Spelling → TokenTree
at_column column x = record { kind = x.kind; text = x.text; at = record { line = 1; col = column } }

-- at most so many tokens, from a column on
abbrev pub tokens_from : ℕ → ℕ → Text → List TokenTree
tokens_from zero column text = []
tokens_from (suc fuel) column [] = at_column column (spells [] kind.End) ∷ []
tokens_from (suc fuel) column (b ∷ text) =
    if b == 32 then tokens_from fuel (column + 1) text
    else at_column column (token_of (b ∷ text)) ∷ tokens_from fuel (column + length (token_of (b ∷ text)).text) (drop (length (token_of (b ∷ text)).text) (b ∷ text))

abbrev pub tokens : Text → List TokenTree
tokens text = tokens_from (suc (length text)) 1 text
