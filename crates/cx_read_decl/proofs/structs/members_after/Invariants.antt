use Rattle.std.proofs.Common.{◌≡◌, length}
use Rattle.cx_tokens.specs.declared.punctuator.Punctuator.TheVariants as punctuator
use Rattle.cx_syntax.specs.Classes.{punct, any_but}
use Rattle.cx_syntax.specs.Combinators.{one_more_item}
use Rattle.cx_productions.specs.Units.{unit_levels}
use Rattle.cx_productions.specs.Declarations.{member}
use Rattle.cx_read_decl.specs.Views.{all_members}
use Rattle.cx_syntax.specs.Productions.{repeat}
use Rattle.cx_read_decl.proofs.structs.members_after.Given as goal

-- what is left to read is what was to be read
abbrev pub invariant-turns : goal.invariant-turns
invariant-turns l =
    (repeat (λ so_far. any_but (punct punctuator.RightBrace)) (one_more_item (member l.templated (unit_levels l.depth) l.context)) (all_members l.members)).read l.cursor
    ≡ (repeat (λ so_far. any_but (punct punctuator.RightBrace)) (one_more_item (member l.templated (unit_levels l.depth) l.context)) (all_members l.fn.so_far)).read l.fn.cursor

abbrev pub decreases-turns : goal.decreases-turns
decreases-turns l = length l.cursor.left
