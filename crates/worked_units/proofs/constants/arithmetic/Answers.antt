use Rattle.std.proofs.Common.{refl}
use Rattle.cx_machine.specs.Arithmetic.{exactly, settled, quotient, remainder, shifted_left, shifted_right, bitwise, unary_result, binary_result}
use Rattle.cx_machine.specs.Scalars.{wrapped, converted}
use Rattle.cx_term.specs.Same.{same_code}
use Rattle.cx_term.specs.TermCode.{term_gv, arguments_gv}
use Rattle.cx_term.specs.Size.{nodes, all_nodes, depth, all_depth}
use Rattle.cx_questions.specs.Answers.{and_then, either, must, present, in_case, if_valid, harden, instead, within, each, every, in_turn}
use Rattle.cx_questions.specs.Constants.{with_value}
use Rattle.cx_questions.specs.Knot.{answers}
use Rattle.worked_units.proofs.constants.arithmetic.Goals as goal

pub returns : goal.returns
unfolding exactly settled quotient remainder shifted_left shifted_right bitwise unary_result binary_result wrapped converted same_code term_gv arguments_gv nodes all_nodes depth all_depth and_then either must present in_case if_valid harden instead within each every in_turn with_value answers
returns c = record {
  to_unsigned = refl;
  wraps = refl;
  towards_zero = refl;
  remainder = refl;
  shift_modulo = refl;
  shift_arithmetic = refl;
  complement = refl;
  minus_as_unsigned = refl;
  minus_as_long_long = refl;
  bits = refl;
  overflow = refl;
  by_zero = refl;
  remainder_by_zero = refl;
  count_of_width = refl;
  negative_count = refl;
  quotient_out_of_range = refl;
  remainder_out_of_range = refl;
  shift_of_unsigned = refl;
  long_wraps = refl;
  long_overflow = refl;
}
