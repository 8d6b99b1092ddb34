-- Scalars ([dcl.type.simple]).
--
--     scalar = "bool" | "int" | "signed" [ "int" ] | "unsigned" [ "int" ]
--            | [ "signed" ] "long" "long" [ "int" ]
--            | "unsigned" "long" "long" [ "int" ] | "long" "long" "unsigned" [ "int" ]
use Rattle.std.specs.Prelude.{Bool, if◌then◌else◌}
use Rattle.cx_base.specs.declared.place.Place.{Place}
use Rattle.cx_base.specs.declared.value.Scalar.{Scalar}
use Rattle.cx_base.specs.declared.value.Scalar.TheVariants as scalar
use Rattle.cx_tokens.specs.declared.word.Word.TheVariants as word'
use Rattle.cx_tokens.specs.Pieces.{Piece, is_word}
use Rattle.cx_syntax.specs.declared.context.Context.{Context}
use Rattle.cx_syntax.specs.Productions.{Production, Class, give, ◌>>=◌, token, when, given}
use Rattle.cx_syntax.specs.Combinators.{flag}
use Rattle.cx_syntax.specs.Classes.{word, ◌or◌}
use Rattle.cx_productions.specs.Trees.{CoreTree, ScalarTree}

-- A type without `const` and `&`, and its first token's place.
pub record Core : Type 0 where
  pub at : Place
  pub tree : CoreTree

-- The first word of a scalar that may be of one word.
unfoldable pub scalar_word : Class
scalar_word = word word'.Bool or word word'.Int or word word'.Signed or word word'.Unsigned

-- ... and which scalar it is alone.
abbrev pub scalar_of_word : Piece → Scalar
scalar_of_word t =
    if is_word word'.Bool t.token.kind then scalar.Bool
    else if is_word word'.Unsigned t.token.kind then scalar.Unsigned
    else scalar.Int

abbrev pub scalar_at : Piece → Scalar → Core
scalar_at t s = record { at = t.token.at; tree = ScalarTree s }

-- [ "int" ]
unfoldable pub maybe_int : Context → Scalar → Production Scalar
maybe_int c s = do
  passed ← flag c (word word'.Int)
  give s

-- "long" "long" [ "int" ], after a sign
unfoldable pub long_long : Context → Scalar → Production Scalar
long_long c s = do
  first ← token c (word word'.Long)
  second ← token c (word word'.Long)
  maybe_int c s

-- after `signed` or `unsigned`: what it is with no `long`, and with two
unfoldable pub after_sign : Context → Scalar → Scalar → Production Scalar
after_sign c short long = when (word word'.Long) (long_long c long) (maybe_int c short)

-- after the first word of a scalar
unfoldable pub scalar_after : Context → Piece → Production Scalar
scalar_after c t =
    given (is_word word'.Signed t.token.kind) (after_sign c scalar.Int scalar.LongLong)
    (given (is_word word'.Unsigned t.token.kind) (after_sign c scalar.Unsigned scalar.ULongLong) (give (scalar_of_word t)))

unfoldable pub word_core : Context → Production Core
word_core c = do
  t ← token c scalar_word
  s ← scalar_after c t
  give (scalar_at t s)

-- [ "unsigned" ] [ "int" ], after `long long`
unfoldable pub after_long_long : Context → Production Scalar
after_long_long c = when (word word'.Unsigned)
    (do
      sign ← token c (word word'.Unsigned)
      maybe_int c scalar.ULongLong)
    (maybe_int c scalar.LongLong)

unfoldable pub long_core : Context → Production Core
long_core c = do
  first ← token c (word word'.Long)
  second ← token c (word word'.Long)
  s ← after_long_long c
  give (scalar_at first s)

-- A scalar.
unfoldable pub scalar_core : Context → Production Core
scalar_core c = when scalar_word (word_core c) (long_core c)
