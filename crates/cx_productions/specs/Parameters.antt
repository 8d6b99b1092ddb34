-- Lists of parameters ([dcl.fct], [expr.prim.req]), whatever a parameter is.
--
--     parameters = "void" | parameter { "," parameter }
--
-- The word `void` alone is no parameter. Any other `void` at the front is the first token of a type, and counts so.
use Rattle.std.specs.Prelude.{false, List, []}
use Rattle.cx_tokens.specs.declared.word.Word.TheVariants as word'
use Rattle.cx_tokens.specs.declared.punctuator.Punctuator.TheVariants as punctuator
use Rattle.cx_syntax.specs.declared.context.Context.{Context}
use Rattle.cx_syntax.specs.Contexts.{deeper}
use Rattle.cx_syntax.specs.Productions.{Production, give, ◌>>=◌, token, counted, when}
use Rattle.cx_syntax.specs.Combinators.{separated, separated_after}
use Rattle.cx_syntax.specs.Classes.{word, punct}
use Rattle.cx_productions.specs.Trees.{TypeTree}
use Rattle.cx_productions.specs.Types.{void_at, type_after}

-- a list that begins with `void`; `after_type` is what a parameter has after its type
abbrev pub void_parameters : {A : Type 0} → Context → (after_type : TypeTree → Production A) → (item : Production A) → Production (List A)
void_parameters c after_type item = do
  t ← token c (word word'.Void)
  when (punct punctuator.RightParenthesis)
      (give [])
      (do
        counts ← counted (deeper c) t
        of ← type_after c t.token.at false (void_at t)
        first ← after_type of
        separated_after c item first)

-- [ parameters ], within `(` and `)`
abbrev pub parameter_list : {A : Type 0} → Context → (after_type : TypeTree → Production A) → (item : Production A) → Production (List A)
parameter_list c after_type item =
    when (punct punctuator.RightParenthesis) (give [])
    (when (word word'.Void) (void_parameters c after_type item) (separated c item))
