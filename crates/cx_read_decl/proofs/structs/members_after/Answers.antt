use Rattle.std.proofs.Common.{sym, ◌∙◌}
use Rattle.cx_tokens.specs.declared.punctuator.Punctuator.TheVariants as punctuator
use Rattle.cx_syntax.specs.Classes.{punct, any_but}
use Rattle.cx_syntax.specs.Combinators.{one_more_item}
use Rattle.cx_productions.specs.Units.{unit_levels}
use Rattle.cx_productions.specs.Declarations.{member}
use Rattle.cx_read_decl.specs.Views.{all_members}
use Rattle.cx_production_laws.proofs.Turns.{takes_member}
use Rattle.cx_read_expr.proofs.Loops.{turned}
use Rattle.cx_read_decl.proofs.structs.members_after.Goals as goal

pub turns-smaller : goal.turns-smaller
turns-smaller c =
    (turned all_members (λ so_far. any_but (punct punctuator.RightBrace)) (one_more_item (member c.args.templated (unit_levels c.args.depth) c.args.context)) (takes_member c.args.depth c.args.templated c.args.context) c.turns.members c.in_ok-members.members c.turns.cursor c.more_member.new.cursor c.more_member.result c.more_member.ensures c.in_ok-members.was (sym c.begins_another.ensures ∙ c.turns-test.true)).smaller

pub turns-preserved : goal.turns-preserved
turns-preserved c =
    (turned all_members (λ so_far. any_but (punct punctuator.RightBrace)) (one_more_item (member c.args.templated (unit_levels c.args.depth) c.args.context)) (takes_member c.args.depth c.args.templated c.args.context) c.turns.members c.in_ok-members.members c.turns.cursor c.more_member.new.cursor c.more_member.result c.more_member.ensures c.in_ok-members.was (sym c.begins_another.ensures ∙ c.turns-test.true)).goes_on
    ∙ c.turns.invariant
