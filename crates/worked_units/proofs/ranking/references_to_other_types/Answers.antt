use Rattle.std.proofs.Common.{refl}
use Rattle.cx_machine.specs.Arithmetic.{exactly, settled, quotient, remainder, shifted_left, shifted_right, bitwise, unary_result, binary_result}
use Rattle.cx_machine.specs.Scalars.{wrapped, converted}
use Rattle.cx_term.specs.Same.{same_code}
use Rattle.cx_term.specs.TermCode.{term_gv, arguments_gv}
use Rattle.cx_term.specs.Size.{nodes, all_nodes, depth, all_depth}
use Rattle.cx_questions.specs.Answers.{and_then, either, must, present, in_case, if_valid, harden, instead, within, each, every, in_turn}
use Rattle.cx_questions.specs.Constants.{with_value}
use Rattle.cx_questions.specs.Knot.{answers}
use Rattle.worked_units.proofs.ranking.references_to_other_types.Goals as goal

pub returns : goal.returns
unfolding exactly settled quotient remainder shifted_left shifted_right bitwise unary_result binary_result wrapped converted same_code term_gv arguments_gv nodes all_nodes depth all_depth and_then either must present in_case if_valid harden instead within each every in_turn with_value answers
returns c = record {
  promoted = refl;
  itself = refl;
  two_conversions = refl;
  two_temporaries = refl;
  bool_itself = refl;
}
