-- The words that the program is called with.
use Rattle.std.specs.Prelude.{ℕ, List, [], ◌∷◌, codes, Option, Some, None, if◌then◌else◌}
use Rattle.std.specs.Str.{bytes_eq}
use Rattle.conceptc.specs.declared.command.Command.{Command}
use Rattle.conceptc.specs.declared.command.Command.TheVariants.{Translate}

-- `translate` alone is a command. Other words are none.
unfoldable pub command_of : List (List ℕ) → Option Command
command_of [] = None
command_of (word ∷ []) = if bytes_eq word (codes "translate") then Some Translate else None
command_of (word ∷ next ∷ words) = None
