-- The reserved words ([lex.key]), the punctuators and their alternative tokens ([lex.operators], [lex.digraph]).
-- The code points of an ASCII text are its bytes.
use Rattle.std.specs.Prelude.{ℕ, Bool, List, [], ◌∷◌, ◌++◌, codes}
use Rattle.std.specs.Str.{bytes_eq}
use Rattle.std.specs.List.{list_any}

-- The words that the language's grammar uses.
unfoldable pub used_words : List (List ℕ)
used_words =
    codes "auto" ∷ codes "bool" ∷ codes "break" ∷ codes "class" ∷ codes "concept" ∷ codes "const" ∷ codes "constexpr"
    ∷ codes "continue" ∷ codes "decltype" ∷ codes "else" ∷ codes "false" ∷ codes "for" ∷ codes "if" ∷ codes "inline"
    ∷ codes "int" ∷ codes "long" ∷ codes "requires" ∷ codes "return" ∷ codes "signed" ∷ codes "static"
    ∷ codes "static_assert" ∷ codes "static_cast" ∷ codes "struct" ∷ codes "template" ∷ codes "true" ∷ codes "typename"
    ∷ codes "unsigned" ∷ codes "using" ∷ codes "void" ∷ codes "while" ∷ codes "__is_same" ∷ codes "__out" ∷ []

-- The alternative tokens: other spellings of `&& & | ~ ! || ^ &= |= ^= !=`.
unfoldable pub alternative_tokens : List (List ℕ)
alternative_tokens =
    codes "and" ∷ codes "bitand" ∷ codes "bitor" ∷ codes "compl" ∷ codes "not" ∷ codes "or" ∷ codes "xor"
    ∷ codes "and_eq" ∷ codes "or_eq" ∷ codes "xor_eq" ∷ codes "not_eq" ∷ []

-- The words that it does not use.
unfoldable pub unused_words : List (List ℕ)
unused_words =
    codes "alignas" ∷ codes "alignof" ∷ codes "asm" ∷ codes "case" ∷ codes "catch" ∷ codes "char" ∷ codes "char8_t"
    ∷ codes "char16_t" ∷ codes "char32_t" ∷ codes "consteval" ∷ codes "constinit" ∷ codes "const_cast" ∷ codes "co_await"
    ∷ codes "co_return" ∷ codes "co_yield" ∷ codes "default" ∷ codes "delete" ∷ codes "do" ∷ codes "double"
    ∷ codes "dynamic_cast" ∷ codes "enum" ∷ codes "explicit" ∷ codes "export" ∷ codes "extern" ∷ codes "float"
    ∷ codes "friend" ∷ codes "goto" ∷ codes "mutable" ∷ codes "namespace" ∷ codes "new" ∷ codes "noexcept"
    ∷ codes "nullptr" ∷ codes "operator" ∷ codes "private" ∷ codes "protected" ∷ codes "public" ∷ codes "register"
    ∷ codes "reinterpret_cast" ∷ codes "short" ∷ codes "sizeof" ∷ codes "switch" ∷ codes "this" ∷ codes "thread_local"
    ∷ codes "throw" ∷ codes "try" ∷ codes "typedef" ∷ codes "typeid" ∷ codes "union" ∷ codes "virtual"
    ∷ codes "volatile" ∷ codes "wchar_t" ∷ []

-- whether a text is one of the words
unfoldable pub has_word : List (List ℕ) → List ℕ → Bool
has_word words text = list_any (λ word. bytes_eq text word) words

-- The reserved words: none of them is a name.
unfoldable pub reserved_words : List (List ℕ)
reserved_words = used_words ++ unused_words

-- the punctuators of three characters, of two, and of one
unfoldable pub three_characters : List (List ℕ)
three_characters = codes "..." ∷ codes "->*" ∷ codes "<=>" ∷ codes "<<=" ∷ codes ">>=" ∷ []

unfoldable pub two_characters : List (List ℕ)
two_characters =
    codes "::" ∷ codes ".*" ∷ codes "->" ∷ codes "+=" ∷ codes "-=" ∷ codes "*=" ∷ codes "/=" ∷ codes "%=" ∷ codes "^=" ∷ codes "&=" ∷ codes "|=" ∷ codes "=="
    ∷ codes "!=" ∷ codes "<=" ∷ codes ">=" ∷ codes "&&" ∷ codes "||" ∷ codes "<<" ∷ codes ">>" ∷ codes "++" ∷ codes "--" ∷ []

unfoldable pub one_character : List (List ℕ)
one_character =
    codes "{" ∷ codes "}" ∷ codes "(" ∷ codes ")" ∷ codes "[" ∷ codes "]" ∷ codes ";" ∷ codes ":" ∷ codes "," ∷ codes "." ∷ codes "?" ∷ codes "~"
    ∷ codes "!" ∷ codes "+" ∷ codes "-" ∷ codes "*" ∷ codes "/" ∷ codes "%" ∷ codes "^" ∷ codes "&" ∷ codes "|" ∷ codes "=" ∷ codes "<" ∷ codes ">" ∷ []

-- The punctuators, none behind a shorter one.
unfoldable pub punctuators : List (List ℕ)
punctuators = three_characters ++ (two_characters ++ one_character)

-- The suffixes of a literal: u or U, ll or LL, and both in either order.
unfoldable pub unsigned_suffixes : List (List ℕ)
unsigned_suffixes = codes "u" ∷ codes "U" ∷ []

unfoldable pub long_suffixes : List (List ℕ)
long_suffixes = codes "ll" ∷ codes "LL" ∷ []

unfoldable pub unsigned_long_suffixes : List (List ℕ)
unsigned_long_suffixes = codes "ull" ∷ codes "uLL" ∷ codes "Ull" ∷ codes "ULL" ∷ codes "llu" ∷ codes "LLu" ∷ codes "llU" ∷ codes "LLU" ∷ []
