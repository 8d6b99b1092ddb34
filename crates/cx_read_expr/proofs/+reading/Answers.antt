use Rattle.std.proofs.Common.{sym, ◌∙◌, ◌≡◌, ℕ, true, subst, suc, add-one}
use Rattle.cx_syntax.specs.Classes.{punct, any_but}
use Rattle.cx_syntax.specs.Combinators.{one_more, one_more_item}
use Rattle.cx_productions.specs.Levels.{levels}
use Rattle.cx_production_laws.proofs.Turns.{takes_more_argument, takes_operator_turn, takes_more_expr, takes_more_local, takes_postfix_turn, takes_requirement}
use Rattle.cx_read_expr.specs.Parts.{all_arguments, chain_of, all_exprs, all_locals, postfix_of, all_requirements}
use Rattle.cx_read_expr.proofs.Closed.{closed_expr, closed_argument}
use Rattle.cx_read_expr.proofs.Loops.{turned}
use Rattle.cx_syntax.specs.Productions.{begins}
use Rattle.cx_syntax.specs.Precedence.{operator}
use Rattle.cx_productions.specs.Expressions.{chain_turn, binary_operator, continues_postfix, postfix_turn}
use Rattle.cx_productions.specs.Requires.{local, requirement}
use Rattle.cx_tokens.specs.declared.punctuator.Punctuator.TheVariants as punctuator
use Rattle.cx_read_expr.proofs.+reading.Goals as goal

pub arguments::arguments_after-turns-smaller : goal.arguments::arguments_after-turns-smaller
arguments::arguments_after-turns-smaller t c =
    (turned all_arguments (λ so_far. punct punctuator.Comma) (one_more c.args.context ((levels c.args.depth).argument c.args.context)) (takes_more_argument c.args.depth c.args.context c.args.context) c.turns.arguments c.in_ok-arguments.arguments c.turns.cursor c.more_argument.new.cursor c.more_argument.result c.more_argument.ensures c.in_ok-arguments.was (sym c.begins.ensures ∙ c.turns-test.true)).smaller

pub arguments::arguments_after-turns-preserved : goal.arguments::arguments_after-turns-preserved
arguments::arguments_after-turns-preserved t c =
    (turned all_arguments (λ so_far. punct punctuator.Comma) (one_more c.args.context ((levels c.args.depth).argument c.args.context)) (takes_more_argument c.args.depth c.args.context c.args.context) c.turns.arguments c.in_ok-arguments.arguments c.turns.cursor c.more_argument.new.cursor c.more_argument.result c.more_argument.ensures c.in_ok-arguments.was (sym c.begins.ensures ∙ c.turns-test.true)).goes_on
    ∙ c.turns.invariant

pub binary::binary_turns-turns-smaller : goal.binary::binary_turns-turns-smaller
binary::binary_turns-turns-smaller t c =
    (turned chain_of (λ x. operator (suc c.args.level) x.within.lists) (chain_turn (binary_operator (suc c.args.level)) ((levels c.args.depth).expr c.args.level)) (takes_operator_turn c.args.depth c.args.level) c.turns.chain c.in_ok-chain.chain c.turns.cursor c.binary_turn.new.cursor c.binary_turn.result c.binary_turn.ensures c.in_ok-chain.was (subst (λ (n : ℕ). begins (operator n c.turns.chain.within.lists) c.turns.cursor ≡ true) (add-one c.args.level) (sym c.begins.ensures ∙ c.turns-test.true))).smaller

pub binary::binary_turns-turns-preserved : goal.binary::binary_turns-turns-preserved
binary::binary_turns-turns-preserved t c =
    (turned chain_of (λ x. operator (suc c.args.level) x.within.lists) (chain_turn (binary_operator (suc c.args.level)) ((levels c.args.depth).expr c.args.level)) (takes_operator_turn c.args.depth c.args.level) c.turns.chain c.in_ok-chain.chain c.turns.cursor c.binary_turn.new.cursor c.binary_turn.result c.binary_turn.ensures c.in_ok-chain.was (subst (λ (n : ℕ). begins (operator n c.turns.chain.within.lists) c.turns.cursor ≡ true) (add-one c.args.level) (sym c.begins.ensures ∙ c.turns-test.true))).goes_on
    ∙ c.turns.invariant

pub lists::exprs_after-turns-smaller : goal.lists::exprs_after-turns-smaller
lists::exprs_after-turns-smaller t c =
    (turned all_exprs (λ so_far. punct punctuator.Comma) (one_more c.args.context ((levels c.args.depth).expr 11 c.args.context)) (takes_more_expr c.args.depth 11 c.args.context c.args.context) c.turns.exprs c.in_ok-exprs.exprs c.turns.cursor c.more_expr.new.cursor c.more_expr.result c.more_expr.ensures c.in_ok-exprs.was (sym c.begins.ensures ∙ c.turns-test.true)).smaller

pub lists::exprs_after-turns-preserved : goal.lists::exprs_after-turns-preserved
lists::exprs_after-turns-preserved t c =
    (turned all_exprs (λ so_far. punct punctuator.Comma) (one_more c.args.context ((levels c.args.depth).expr 11 c.args.context)) (takes_more_expr c.args.depth 11 c.args.context c.args.context) c.turns.exprs c.in_ok-exprs.exprs c.turns.cursor c.more_expr.new.cursor c.more_expr.result c.more_expr.ensures c.in_ok-exprs.was (sym c.begins.ensures ∙ c.turns-test.true)).goes_on
    ∙ c.turns.invariant

pub parameters::locals_after-turns-smaller : goal.parameters::locals_after-turns-smaller
parameters::locals_after-turns-smaller t c =
    (turned all_locals (λ so_far. punct punctuator.Comma) (one_more c.args.context (local (levels c.args.depth) c.args.context)) (takes_more_local c.args.depth c.args.context c.args.context) c.turns.parameters c.in_ok-parameters.parameters c.turns.cursor c.more_local.new.cursor c.more_local.result c.more_local.ensures c.in_ok-parameters.was (sym c.begins.ensures ∙ c.turns-test.true)).smaller

pub parameters::locals_after-turns-preserved : goal.parameters::locals_after-turns-preserved
parameters::locals_after-turns-preserved t c =
    (turned all_locals (λ so_far. punct punctuator.Comma) (one_more c.args.context (local (levels c.args.depth) c.args.context)) (takes_more_local c.args.depth c.args.context c.args.context) c.turns.parameters c.in_ok-parameters.parameters c.turns.cursor c.more_local.new.cursor c.more_local.result c.more_local.ensures c.in_ok-parameters.was (sym c.begins.ensures ∙ c.turns-test.true)).goes_on
    ∙ c.turns.invariant

pub postfix::postfix_chain-turns-smaller : goal.postfix::postfix_chain-turns-smaller
postfix::postfix_chain-turns-smaller t c =
    (turned postfix_of (continues_postfix) (postfix_turn (levels c.args.depth)) (takes_postfix_turn c.args.depth) c.turns.chain c.in_ok-chain.chain c.turns.cursor c.postfix_turn.new.cursor c.postfix_turn.result c.postfix_turn.ensures c.in_ok-chain.was (sym c.continues_postfix.ensures ∙ c.turns-test.true)).smaller

pub postfix::postfix_chain-turns-preserved : goal.postfix::postfix_chain-turns-preserved
postfix::postfix_chain-turns-preserved t c =
    (turned postfix_of (continues_postfix) (postfix_turn (levels c.args.depth)) (takes_postfix_turn c.args.depth) c.turns.chain c.in_ok-chain.chain c.turns.cursor c.postfix_turn.new.cursor c.postfix_turn.result c.postfix_turn.ensures c.in_ok-chain.was (sym c.continues_postfix.ensures ∙ c.turns-test.true)).goes_on
    ∙ c.turns.invariant

pub requirements::requirements_after-turns-smaller : goal.requirements::requirements_after-turns-smaller
requirements::requirements_after-turns-smaller t c =
    (turned all_requirements (λ so_far. any_but (punct punctuator.RightBrace)) (one_more_item (requirement (levels c.args.depth) c.args.context)) (takes_requirement c.args.depth c.args.context) c.turns.requirements c.in_ok-requirements.requirements c.turns.cursor c.more_requirement.new.cursor c.more_requirement.result c.more_requirement.ensures c.in_ok-requirements.was (sym c.begins_another.ensures ∙ c.turns-test.true)).smaller

pub requirements::requirements_after-turns-preserved : goal.requirements::requirements_after-turns-preserved
requirements::requirements_after-turns-preserved t c =
    (turned all_requirements (λ so_far. any_but (punct punctuator.RightBrace)) (one_more_item (requirement (levels c.args.depth) c.args.context)) (takes_requirement c.args.depth c.args.context) c.turns.requirements c.in_ok-requirements.requirements c.turns.cursor c.more_requirement.new.cursor c.more_requirement.result c.more_requirement.ensures c.in_ok-requirements.was (sym c.begins_another.ensures ∙ c.turns-test.true)).goes_on
    ∙ c.turns.invariant

pub below::expr_below-returns-then-depth-eq0 : goal.below::expr_below-returns-then-depth-eq0
below::expr_below-returns-then-depth-eq0 t c n =
    closed_expr c.args.depth c.args.level c.args.context c.args.cursor.now c.no_levels.result c.if-depth-eq0.true c.no_levels.ensures

pub below::argument_below-returns-then-depth-eq0 : goal.below::argument_below-returns-then-depth-eq0
below::argument_below-returns-then-depth-eq0 t c n =
    closed_argument c.args.depth c.args.context c.args.cursor.now c.no_levels.result c.if-depth-eq0.true c.no_levels.ensures
