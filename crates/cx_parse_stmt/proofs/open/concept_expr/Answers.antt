use Rattle.std.proofs.Common.{◌<◌, length, sym, ◌∙◌, arith}
use Rattle.std.proofs.lemmas.Grind.{common_steps}
use Rattle.cx_tree.proofs.Productions.{template_tree}
use Rattle.cx_tree.specs.Trees.{mark}
use Rattle.cx_parse_stmt.proofs.Concepts.{some_arguments}
use Rattle.cx_parse_stmt.proofs.open.concept_expr.Goals as goal

pub returns : goal.returns
returns c =
    let some : 0 < length c.args.concept.arguments.items = grind (arith, common_steps) in
    template_tree c.args.concept.node c.args.concept.at c.args.concept.name c.args.concept.arguments ∙ sym (some_arguments (mark c.args.concept.node c.args.concept.at) c.args.concept.name.now c.args.concept.arguments.items some)
