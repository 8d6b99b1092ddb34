use Rattle.std.proofs.Common.{◌≡◌, length}
use Rattle.cx_tokens.specs.declared.punctuator.Punctuator.TheVariants as punctuator
use Rattle.cx_syntax.specs.Classes.{punct}
use Rattle.cx_productions.specs.Types.{more_names}
use Rattle.cx_syntax.specs.Productions.{repeat}
use Rattle.cx_read_expr.specs.Parts.{all_texts}
use Rattle.cx_read_expr.proofs.names.names_after.Given as goal

-- what is left to read is what was to be read
abbrev pub invariant-turns : goal.invariant-turns
invariant-turns l =
    (repeat (λ so_far. punct punctuator.ColonColon) (more_names l.context) (all_texts l.names)).read l.cursor
    ≡ (repeat (λ so_far. punct punctuator.ColonColon) (more_names l.context) (all_texts l.fn.so_far)).read l.fn.cursor

abbrev pub decreases-turns : goal.decreases-turns
decreases-turns l = length l.cursor.left
