use Rattle.std.proofs.Common.{◌≡◌, length}
use Rattle.cx_tokens.specs.declared.punctuator.Punctuator.TheVariants as punctuator
use Rattle.cx_syntax.specs.Classes.{punct}
use Rattle.cx_syntax.specs.Combinators.{one_more}
use Rattle.cx_productions.specs.Levels.{levels}
use Rattle.cx_productions.specs.Declarations.{template_parameter}
use Rattle.cx_read_decl.specs.Views.{all_template_parameters}
use Rattle.cx_syntax.specs.Productions.{repeat}
use Rattle.cx_read_decl.proofs.template_parameters.template_parameters_after.Given as goal

-- what is left to read is what was to be read
abbrev pub invariant-turns : goal.invariant-turns
invariant-turns l =
    (repeat (λ so_far. punct punctuator.Comma) (one_more l.context (template_parameter (levels l.depth) l.context)) (all_template_parameters l.parameters)).read l.cursor
    ≡ (repeat (λ so_far. punct punctuator.Comma) (one_more l.context (template_parameter (levels l.depth) l.context)) (all_template_parameters l.fn.so_far)).read l.fn.cursor

abbrev pub decreases-turns : goal.decreases-turns
decreases-turns l = length l.cursor.left
