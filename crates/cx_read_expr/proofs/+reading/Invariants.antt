use Rattle.std.proofs.Common.{◌≡◌, length, suc, ◌+◌, ◌*◌}
use Rattle.cx_syntax.specs.Classes.{punct, any_but}
use Rattle.cx_syntax.specs.Combinators.{one_more, one_more_item}
use Rattle.cx_productions.specs.Levels.{levels}
use Rattle.cx_syntax.specs.Productions.{repeat}
use Rattle.cx_read_expr.specs.Parts.{all_arguments, chain_of, all_exprs, all_locals, postfix_of, all_requirements}
use Rattle.cx_syntax.specs.Precedence.{operator}
use Rattle.cx_productions.specs.Expressions.{chain_turn, binary_operator, continues_postfix, postfix_turn}
use Rattle.cx_productions.specs.Requires.{local, requirement}
use Rattle.cx_tokens.specs.declared.punctuator.Punctuator.TheVariants as punctuator
use Rattle.cx_read_expr.proofs.+reading.Given as goal

-- each function is asked at fewer levels, or calls one that stands before it
abbrev pub decreases-below::argument_below : goal.decreases-below::argument_below
decreases-below::argument_below l = l.depth * 512 + 0

abbrev pub decreases-below::expr_below : goal.decreases-below::expr_below
decreases-below::expr_below l = l.depth * 512 + 0

abbrev pub decreases-arguments::more_argument : goal.decreases-arguments::more_argument
decreases-arguments::more_argument l = l.depth * 512 + 16

abbrev pub decreases-binary::binary_turn : goal.decreases-binary::binary_turn
decreases-binary::binary_turn l = l.depth * 512 + 16

abbrev pub decreases-cores::decltype_core : goal.decreases-cores::decltype_core
decreases-cores::decltype_core l = l.depth * 512 + 16

abbrev pub decreases-expressions::assignment : goal.decreases-expressions::assignment
decreases-expressions::assignment l = l.depth * 512 + 16

abbrev pub decreases-expressions::conditional : goal.decreases-expressions::conditional
decreases-expressions::conditional l = l.depth * 512 + 16

abbrev pub decreases-expressions::prefixed : goal.decreases-expressions::prefixed
decreases-expressions::prefixed l = l.depth * 512 + 16

abbrev pub decreases-lists::more_expr : goal.decreases-lists::more_expr
decreases-lists::more_expr l = l.depth * 512 + 16

abbrev pub decreases-primaries::group : goal.decreases-primaries::group
decreases-primaries::group l = l.depth * 512 + 16

abbrev pub decreases-primaries::out : goal.decreases-primaries::out
decreases-primaries::out l = l.depth * 512 + 16

abbrev pub decreases-requirements::nested_requirement : goal.decreases-requirements::nested_requirement
decreases-requirements::nested_requirement l = l.depth * 512 + 16

abbrev pub decreases-requirements::simple_requirement : goal.decreases-requirements::simple_requirement
decreases-requirements::simple_requirement l = l.depth * 512 + 16

abbrev pub decreases-arguments::arguments_after : goal.decreases-arguments::arguments_after
decreases-arguments::arguments_after l = l.depth * 512 + 32

abbrev pub decreases-binary::binary_turns : goal.decreases-binary::binary_turns
decreases-binary::binary_turns l = l.depth * 512 + 32

abbrev pub decreases-expressions::choice_after : goal.decreases-expressions::choice_after
decreases-expressions::choice_after l = l.depth * 512 + 32

abbrev pub decreases-lists::exprs_after : goal.decreases-lists::exprs_after
decreases-lists::exprs_after l = l.depth * 512 + 32

abbrev pub decreases-arguments::arguments : goal.decreases-arguments::arguments
decreases-arguments::arguments l = l.depth * 512 + 48

abbrev pub decreases-binary::binary_chain : goal.decreases-binary::binary_chain
decreases-binary::binary_chain l = l.depth * 512 + 48

abbrev pub decreases-lists::exprs : goal.decreases-lists::exprs
decreases-lists::exprs l = l.depth * 512 + 48

abbrev pub decreases-arguments::argument_list : goal.decreases-arguments::argument_list
decreases-arguments::argument_list l = l.depth * 512 + 64

abbrev pub decreases-binary::binary_after : goal.decreases-binary::binary_after
decreases-binary::binary_after l = l.depth * 512 + 64 + l.level

abbrev pub decreases-lists::expr_list : goal.decreases-lists::expr_list
decreases-lists::expr_list l = l.depth * 512 + 64

abbrev pub decreases-cores::class_core : goal.decreases-cores::class_core
decreases-cores::class_core l = l.depth * 512 + 80

abbrev pub decreases-expressions::expr_after : goal.decreases-expressions::expr_after
decreases-expressions::expr_after l = l.depth * 512 + 80

abbrev pub decreases-postfix::call : goal.decreases-postfix::call
decreases-postfix::call l = l.depth * 512 + 80

abbrev pub decreases-primaries::template_name : goal.decreases-primaries::template_name
decreases-primaries::template_name l = l.depth * 512 + 80

abbrev pub decreases-requirements::maybe_arguments : goal.decreases-requirements::maybe_arguments
decreases-requirements::maybe_arguments l = l.depth * 512 + 80

abbrev pub decreases-typed::list_after : goal.decreases-typed::list_after
decreases-typed::list_after l = l.depth * 512 + 80

abbrev pub decreases-cores::head_core : goal.decreases-cores::head_core
decreases-cores::head_core l = l.depth * 512 + 96

abbrev pub decreases-postfix::needed_call : goal.decreases-postfix::needed_call
decreases-postfix::needed_call l = l.depth * 512 + 96

abbrev pub decreases-postfix::postfix_turn : goal.decreases-postfix::postfix_turn
decreases-postfix::postfix_turn l = l.depth * 512 + 96

abbrev pub decreases-requirements::constraint : goal.decreases-requirements::constraint
decreases-requirements::constraint l = l.depth * 512 + 96

abbrev pub decreases-requirements::required_core : goal.decreases-requirements::required_core
decreases-requirements::required_core l = l.depth * 512 + 96

abbrev pub decreases-typed::after_head : goal.decreases-typed::after_head
decreases-typed::after_head l = l.depth * 512 + 96

abbrev pub decreases-typed::scalar_primary : goal.decreases-typed::scalar_primary
decreases-typed::scalar_primary l = l.depth * 512 + 96

abbrev pub decreases-cores::member_core : goal.decreases-cores::member_core
decreases-cores::member_core l = l.depth * 512 + 112

abbrev pub decreases-postfix::postfix_chain : goal.decreases-postfix::postfix_chain
decreases-postfix::postfix_chain l = l.depth * 512 + 112

abbrev pub decreases-requirements::result_constraint : goal.decreases-requirements::result_constraint
decreases-requirements::result_constraint l = l.depth * 512 + 112

abbrev pub decreases-requirements::type_requirement : goal.decreases-requirements::type_requirement
decreases-requirements::type_requirement l = l.depth * 512 + 112

abbrev pub decreases-typed::head_primary : goal.decreases-typed::head_primary
decreases-typed::head_primary l = l.depth * 512 + 112

abbrev pub decreases-cores::core : goal.decreases-cores::core
decreases-cores::core l = l.depth * 512 + 128

abbrev pub decreases-postfix::postfix_after : goal.decreases-postfix::postfix_after
decreases-postfix::postfix_after l = l.depth * 512 + 128

abbrev pub decreases-requirements::maybe_result : goal.decreases-requirements::maybe_result
decreases-requirements::maybe_result l = l.depth * 512 + 128

abbrev pub decreases-expressions::expr_of : goal.decreases-expressions::expr_of
decreases-expressions::expr_of l = l.depth * 512 + 144

abbrev pub decreases-requirements::compound_requirement : goal.decreases-requirements::compound_requirement
decreases-requirements::compound_requirement l = l.depth * 512 + 144

abbrev pub decreases-typed::core_primary : goal.decreases-typed::core_primary
decreases-typed::core_primary l = l.depth * 512 + 144

abbrev pub decreases-types::const_type : goal.decreases-types::const_type
decreases-types::const_type l = l.depth * 512 + 144

abbrev pub decreases-types::plain_type : goal.decreases-types::plain_type
decreases-types::plain_type l = l.depth * 512 + 144

abbrev pub decreases-arguments::const_argument : goal.decreases-arguments::const_argument
decreases-arguments::const_argument l = l.depth * 512 + 160

abbrev pub decreases-arguments::value_of_operand : goal.decreases-arguments::value_of_operand
decreases-arguments::value_of_operand l = l.depth * 512 + 160

abbrev pub decreases-requirements::requirement : goal.decreases-requirements::requirement
decreases-requirements::requirement l = l.depth * 512 + 160

abbrev pub decreases-types::type_id : goal.decreases-types::type_id
decreases-types::type_id l = l.depth * 512 + 160

abbrev pub decreases-arguments::core_argument_after : goal.decreases-arguments::core_argument_after
decreases-arguments::core_argument_after l = l.depth * 512 + 176

abbrev pub decreases-arguments::head_argument_after : goal.decreases-arguments::head_argument_after
decreases-arguments::head_argument_after l = l.depth * 512 + 176

abbrev pub decreases-arguments::scalar_argument : goal.decreases-arguments::scalar_argument
decreases-arguments::scalar_argument l = l.depth * 512 + 176

abbrev pub decreases-parameters::local : goal.decreases-parameters::local
decreases-parameters::local l = l.depth * 512 + 176

abbrev pub decreases-primaries::is_same : goal.decreases-primaries::is_same
decreases-primaries::is_same l = l.depth * 512 + 176

abbrev pub decreases-primaries::static_cast : goal.decreases-primaries::static_cast
decreases-primaries::static_cast l = l.depth * 512 + 176

abbrev pub decreases-requirements::more_requirement : goal.decreases-requirements::more_requirement
decreases-requirements::more_requirement l = l.depth * 512 + 176

abbrev pub decreases-arguments::core_argument : goal.decreases-arguments::core_argument
decreases-arguments::core_argument l = l.depth * 512 + 192

abbrev pub decreases-arguments::head_argument : goal.decreases-arguments::head_argument
decreases-arguments::head_argument l = l.depth * 512 + 192

abbrev pub decreases-parameters::more_local : goal.decreases-parameters::more_local
decreases-parameters::more_local l = l.depth * 512 + 192

abbrev pub decreases-requirements::requirements_after : goal.decreases-requirements::requirements_after
decreases-requirements::requirements_after l = l.depth * 512 + 192

abbrev pub decreases-parameters::locals_after : goal.decreases-parameters::locals_after
decreases-parameters::locals_after l = l.depth * 512 + 208

abbrev pub decreases-requirements::requirement_list : goal.decreases-requirements::requirement_list
decreases-requirements::requirement_list l = l.depth * 512 + 208

abbrev pub decreases-parameters::locals_from : goal.decreases-parameters::locals_from
decreases-parameters::locals_from l = l.depth * 512 + 224

abbrev pub decreases-parameters::locals : goal.decreases-parameters::locals
decreases-parameters::locals l = l.depth * 512 + 240

abbrev pub decreases-parameters::void_locals : goal.decreases-parameters::void_locals
decreases-parameters::void_locals l = l.depth * 512 + 240

abbrev pub decreases-parameters::local_list : goal.decreases-parameters::local_list
decreases-parameters::local_list l = l.depth * 512 + 256

abbrev pub decreases-parameters::maybe_locals : goal.decreases-parameters::maybe_locals
decreases-parameters::maybe_locals l = l.depth * 512 + 272

abbrev pub decreases-requirements::requires_expr : goal.decreases-requirements::requires_expr
decreases-requirements::requires_expr l = l.depth * 512 + 288

abbrev pub decreases-primaries::word_primary : goal.decreases-primaries::word_primary
decreases-primaries::word_primary l = l.depth * 512 + 304

abbrev pub decreases-primaries::simple_primary : goal.decreases-primaries::simple_primary
decreases-primaries::simple_primary l = l.depth * 512 + 320

abbrev pub decreases-primaries::primary : goal.decreases-primaries::primary
decreases-primaries::primary l = l.depth * 512 + 336

abbrev pub decreases-postfix::postfix_expr : goal.decreases-postfix::postfix_expr
decreases-postfix::postfix_expr l = l.depth * 512 + 352

abbrev pub decreases-expressions::unary : goal.decreases-expressions::unary
decreases-expressions::unary l = l.depth * 512 + 368

abbrev pub decreases-expressions::expr : goal.decreases-expressions::expr
decreases-expressions::expr l = l.depth * 512 + 384

abbrev pub decreases-arguments::value_argument : goal.decreases-arguments::value_argument
decreases-arguments::value_argument l = l.depth * 512 + 400

abbrev pub decreases-arguments::argument : goal.decreases-arguments::argument
decreases-arguments::argument l = l.depth * 512 + 416

-- what is left to read in a loop is what was to be read
abbrev pub invariant-arguments::arguments_after-turns : goal.invariant-arguments::arguments_after-turns
invariant-arguments::arguments_after-turns l =
    (repeat (λ so_far. punct punctuator.Comma) (one_more l.context ((levels l.depth).argument l.context)) (all_arguments l.arguments)).read l.cursor
    ≡ (repeat (λ so_far. punct punctuator.Comma) (one_more l.context ((levels l.depth).argument l.context)) (all_arguments l.fn.so_far)).read l.fn.cursor

abbrev pub decreases-arguments::arguments_after-turns : goal.decreases-arguments::arguments_after-turns
decreases-arguments::arguments_after-turns l = length l.cursor.left

abbrev pub invariant-binary::binary_turns-turns : goal.invariant-binary::binary_turns-turns
invariant-binary::binary_turns-turns l =
    (repeat (λ x. operator (suc l.level) x.within.lists) (chain_turn (binary_operator (suc l.level)) ((levels l.depth).expr l.level)) (chain_of l.chain)).read l.cursor
    ≡ (repeat (λ x. operator (suc l.level) x.within.lists) (chain_turn (binary_operator (suc l.level)) ((levels l.depth).expr l.level)) (chain_of l.fn.so_far)).read l.fn.cursor

abbrev pub decreases-binary::binary_turns-turns : goal.decreases-binary::binary_turns-turns
decreases-binary::binary_turns-turns l = length l.cursor.left

abbrev pub invariant-lists::exprs_after-turns : goal.invariant-lists::exprs_after-turns
invariant-lists::exprs_after-turns l =
    (repeat (λ so_far. punct punctuator.Comma) (one_more l.context ((levels l.depth).expr 11 l.context)) (all_exprs l.exprs)).read l.cursor
    ≡ (repeat (λ so_far. punct punctuator.Comma) (one_more l.context ((levels l.depth).expr 11 l.context)) (all_exprs l.fn.so_far)).read l.fn.cursor

abbrev pub decreases-lists::exprs_after-turns : goal.decreases-lists::exprs_after-turns
decreases-lists::exprs_after-turns l = length l.cursor.left

abbrev pub invariant-parameters::locals_after-turns : goal.invariant-parameters::locals_after-turns
invariant-parameters::locals_after-turns l =
    (repeat (λ so_far. punct punctuator.Comma) (one_more l.context (local (levels l.depth) l.context)) (all_locals l.parameters)).read l.cursor
    ≡ (repeat (λ so_far. punct punctuator.Comma) (one_more l.context (local (levels l.depth) l.context)) (all_locals l.fn.so_far)).read l.fn.cursor

abbrev pub decreases-parameters::locals_after-turns : goal.decreases-parameters::locals_after-turns
decreases-parameters::locals_after-turns l = length l.cursor.left

abbrev pub invariant-postfix::postfix_chain-turns : goal.invariant-postfix::postfix_chain-turns
invariant-postfix::postfix_chain-turns l =
    (repeat (continues_postfix) (postfix_turn (levels l.depth)) (postfix_of l.chain)).read l.cursor
    ≡ (repeat (continues_postfix) (postfix_turn (levels l.depth)) (postfix_of l.fn.so_far)).read l.fn.cursor

abbrev pub decreases-postfix::postfix_chain-turns : goal.decreases-postfix::postfix_chain-turns
decreases-postfix::postfix_chain-turns l = length l.cursor.left

abbrev pub invariant-requirements::requirements_after-turns : goal.invariant-requirements::requirements_after-turns
invariant-requirements::requirements_after-turns l =
    (repeat (λ so_far. any_but (punct punctuator.RightBrace)) (one_more_item (requirement (levels l.depth) l.context)) (all_requirements l.requirements)).read l.cursor
    ≡ (repeat (λ so_far. any_but (punct punctuator.RightBrace)) (one_more_item (requirement (levels l.depth) l.context)) (all_requirements l.fn.so_far)).read l.fn.cursor

abbrev pub decreases-requirements::requirements_after-turns : goal.decreases-requirements::requirements_after-turns
decreases-requirements::requirements_after-turns l = length l.cursor.left
