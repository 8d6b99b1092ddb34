-- What the classes of the code mean.
use Rattle.cx_syntax.specs.Classes as classes
use Rattle.cx_syntax.specs.Precedence.{operator, prefix_operator, postfix_operator, assignment_operator}
use Rattle.cx_syntax.specs.Productions as productions
use Rattle.cx_productions.specs.Scalars.{scalar_word}
use Rattle.cx_productions.specs.Primaries.{head_name, core_word}
use Rattle.cx_productions.specs.Arguments.{after_head_mark}
use Rattle.cx_productions.specs.Declarations.{type_word, free_specifier}
use Rattle.cx_cursor.specs.declared.class.Class.{Class}
use Rattle.cx_cursor.specs.declared.class.Class.TheVariants as class

abbrev pub meaning : Class → productions.Class
meaning (class.Word w) = classes.word w
meaning (class.Punct p) = classes.punct p
meaning class.Name = classes.any_name
meaning (class.NameOf kind) = classes.name_of kind
meaning class.Literal = classes.literal
meaning class.Text = classes.string
meaning class.End = classes.end
meaning (class.Closing lists) = classes.closing lists
meaning class.SecondHalf = classes.second_half
meaning class.Prefix = prefix_operator
meaning class.Postfix = postfix_operator
meaning (class.Operator level lists) = operator level lists
meaning (class.Assignment lists) = assignment_operator lists
meaning class.HeadName = head_name
meaning class.AfterHead = after_head_mark
meaning class.CoreWord = core_word
meaning class.ScalarWord = scalar_word
meaning class.TypeWord = type_word
meaning (class.FreeSpecifier is_inline is_static is_constexpr) = free_specifier (record { is_inline = is_inline; is_static = is_static; is_constexpr = is_constexpr })
meaning class.Nothing = classes.nothing
