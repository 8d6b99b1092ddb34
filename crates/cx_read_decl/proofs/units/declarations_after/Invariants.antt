use Rattle.std.proofs.Common.{◌≡◌, length}
use Rattle.cx_syntax.specs.Classes.{end, any_but}
use Rattle.cx_syntax.specs.Combinators.{one_more_item}
use Rattle.cx_productions.specs.Units.{unit_levels}
use Rattle.cx_productions.specs.Declarations.{decl}
use Rattle.cx_read_decl.specs.Views.{all_declarations}
use Rattle.cx_syntax.specs.Productions.{repeat}
use Rattle.cx_read_decl.proofs.units.declarations_after.Given as goal

-- what is left to read is what was to be read
abbrev pub invariant-turns : goal.invariant-turns
invariant-turns l =
    (repeat (λ so_far. any_but end) (one_more_item (decl (unit_levels l.depth) l.context)) (all_declarations l.declarations)).read l.cursor
    ≡ (repeat (λ so_far. any_but end) (one_more_item (decl (unit_levels l.depth) l.context)) (all_declarations l.fn.so_far)).read l.fn.cursor

abbrev pub decreases-turns : goal.decreases-turns
decreases-turns l = length l.cursor.left
