use Rattle.std.proofs.Common.{refl}
use Rattle.cx_grammar.specs.Production.{read_token, begins, read_unread}
use Rattle.cx_grammar.specs.Words.{word, punct, any_name, literal_token, is_unsupported, misfit, spelling, unused_punctuators}
use Rattle.cx_grammar.specs.Names.{kind_name}
use Rattle.cx_grammar.specs.Types.{one_word, maybe_const, maybe_reference, type_behind, bare_type, type_id, core, head_core, type_name_core, qualified_names, more_name}
use Rattle.cx_grammar.specs.Requires.{requires_expr, maybe_requires, maybe_locals, some_locals, void_locals, local, local_behind, locals_behind, some_requirements, requirement, simple_requirement, nested_requirement, compound_requirement, type_requirement, required_type, maybe_constraint, constraint}
use Rattle.cx_grammar.specs.Expressions.{levels, expr, unary, postfix, primary, simple_primary, worded, group, headed, behind_head, qualified, name_alone, tail, tail_behind, operand, expr_behind, rests, binary_rest, binary_chain, operator, is_prefix, is_operator, operator_of, is_assignment, is_hidden, binary_of, assignment_of}
use Rattle.cx_lexer.specs.Words.{has_word, unused_words}
use Rattle.cx_grammar_laws.proofs.examples.requires_expressions_as_meant.Goals as goal

pub returns : goal.returns
unfolding requires_expr maybe_requires maybe_locals some_locals void_locals local local_behind locals_behind some_requirements requirement simple_requirement nested_requirement compound_requirement type_requirement required_type maybe_constraint constraint levels expr unary postfix primary simple_primary worded group headed behind_head qualified name_alone tail tail_behind operand expr_behind rests binary_rest binary_chain operator is_prefix is_operator operator_of is_assignment is_hidden binary_of assignment_of read_token begins read_unread word punct any_name literal_token is_unsupported misfit spelling unused_punctuators has_word unused_words kind_name one_word maybe_const maybe_reference type_behind bare_type type_id core head_core type_name_core qualified_names more_name
returns c = record {
  kinds = refl;
  locals = refl;
  void = refl;
  hiding = refl;
  nested = refl;
  empty = refl;
  braced = refl;
  bare = refl;
  hidden = refl;
  forgotten = refl;
  fits = refl;
  too_deep = refl;
  brace_too_deep = refl;
  unread = refl;
  unread_operand = refl;
}
