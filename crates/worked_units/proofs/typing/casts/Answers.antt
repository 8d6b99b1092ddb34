use Rattle.std.proofs.Common.{refl}
use Rattle.cx_machine.specs.Arithmetic.{exactly, settled, quotient, remainder, shifted_left, shifted_right, bitwise, unary_result, binary_result}
use Rattle.cx_machine.specs.Scalars.{wrapped, converted}
use Rattle.cx_term.specs.Same.{same_code}
use Rattle.cx_term.specs.TermCode.{term_gv, arguments_gv}
use Rattle.cx_term.specs.Size.{nodes, all_nodes, depth, all_depth}
use Rattle.cx_questions.specs.Answers.{and_then, either, must, present, in_case, if_valid, harden, instead, within, each, every, in_turn}
use Rattle.cx_questions.specs.Constants.{with_value}
use Rattle.cx_questions.specs.Knot.{answers}
use Rattle.worked_units.proofs.typing.casts.Goals as goal

pub returns : goal.returns
unfolding exactly settled quotient remainder shifted_left shifted_right bitwise unary_result binary_result wrapped converted same_code term_gv arguments_gv nodes all_nodes depth all_depth and_then either must present in_case if_valid harden instead within each every in_turn with_value answers
returns c = record {
  const_dropped = refl;
  to_void = refl;
  adds_const = refl;
  scalars = refl;
  scalar_of_struct = refl;
  struct_itself = refl;
  other_struct = refl;
  struct_of_scalar = refl;
  struct_to_void = refl;
  reference = refl;
  drops_const = refl;
  reference_to_const = refl;
  other_type = refl;
  temporary = refl;
  prvalue_bound = refl;
  prvalue_not_bound = refl;
  struct_temporary = refl;
  const_struct = refl;
  other_struct_reference = refl;
}
