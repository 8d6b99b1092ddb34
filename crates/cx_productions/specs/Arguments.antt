-- Template arguments ([temp.arg]).
--
--     argument = type | expr
--
-- An argument that begins with `const` or `long` is a type. One that begins with another core is an expression where `{`
-- comes after that core (after the first word of a scalar), or `::` after a head; else it is a type.
use Rattle.std.specs.Prelude.{false}
use Rattle.cx_tokens.specs.declared.word.Word.TheVariants as word'
use Rattle.cx_tokens.specs.declared.punctuator.Punctuator.TheVariants as punctuator
use Rattle.cx_syntax.specs.declared.context.Context.{Context}
use Rattle.cx_syntax.specs.Contexts.{deeper}
use Rattle.cx_syntax.specs.Productions.{Production, Class, give, ◌>>=◌, token, when}
use Rattle.cx_syntax.specs.Classes.{word, punct, ◌or◌}
use Rattle.cx_syntax.specs.Precedence.{expression_level}
use Rattle.cx_productions.specs.declared.calling.Calling.TheVariants as calling
use Rattle.cx_productions.specs.Trees.{ExprTree, ArgumentTree, TypeArgument, ValueArgument}
use Rattle.cx_productions.specs.Below.{Below}
use Rattle.cx_productions.specs.Scalars.{Core, scalar_word, scalar_of_word, scalar_after, scalar_at, long_core}
use Rattle.cx_productions.specs.Types.{head_core, core, const_type, type_after}
use Rattle.cx_productions.specs.Primaries.{list_after, after_head, head_name, core_word}
use Rattle.cx_productions.specs.Expressions.{expr, expr_of}

-- an expression whose first operand, which is not called, is read
unfoldable pub value_of_operand : Below → Context → ExprTree → Production ArgumentTree
value_of_operand b c operand = do
  e ← expr_of b c (record { tree = operand; calling = calling.Never })
  give (ValueArgument e)

-- a type whose core is read
unfoldable pub type_of_core : Context → Core → Production ArgumentTree
type_of_core c k = do
  t ← type_after c k.at false k
  give (TypeArgument t)

-- after a core: a list in braces makes it an expression
unfoldable pub core_argument_after : Below → Context → Core → Production ArgumentTree
core_argument_after b c k = when (punct punctuator.LeftBrace)
    (do
      operand ← list_after b c k
      value_of_operand b c operand)
    (type_of_core c k)

-- what makes an expression of a head
unfoldable pub after_head_mark : Class
after_head_mark = punct punctuator.LeftBrace or punct punctuator.ColonColon

unfoldable pub head_argument_after : Below → Context → Core → Production ArgumentTree
head_argument_after b c k = when after_head_mark
    (do
      operand ← after_head b c k
      value_of_operand b c operand)
    (type_of_core c k)

unfoldable pub head_argument : Below → Context → Production ArgumentTree
head_argument b c = do
  k ← head_core b (deeper c)
  head_argument_after b c k

unfoldable pub core_argument : Below → Context → Production ArgumentTree
core_argument b c = do
  k ← core b (deeper c)
  core_argument_after b c k

-- a scalar: of one word, it may be a list's type
unfoldable pub scalar_argument : Below → Context → Production ArgumentTree
scalar_argument b c = do
  t ← token (deeper c) scalar_word
  when (punct punctuator.LeftBrace)
      (do
        operand ← list_after b c (scalar_at t (scalar_of_word t))
        value_of_operand b c operand)
      (do
        s ← scalar_after (deeper c) t
        type_of_core c (scalar_at t s))

unfoldable pub long_argument : Context → Production ArgumentTree
long_argument c = do
  k ← long_core (deeper c)
  type_of_core c k

unfoldable pub const_argument : Below → Context → Production ArgumentTree
const_argument b c = do
  t ← const_type b c
  give (TypeArgument t)

unfoldable pub value_argument : Below → Context → Production ArgumentTree
value_argument b c = do
  e ← expr b expression_level c
  give (ValueArgument e)

-- A template argument.
unfoldable pub argument : Below → Context → Production ArgumentTree
argument b c =
    when (word word'.Const) (const_argument b c)
    (when head_name (head_argument b c)
    (when core_word (core_argument b c)
    (when scalar_word (scalar_argument b c)
    (when (word word'.Long) (long_argument c)
    (value_argument b c)))))
