use Rattle.std.proofs.Common.{◌∙◌}
use Rattle.lk_expr_tree.specs.RawCode.{tree_of}
use Rattle.lk_expr_tree.proofs.MeasureLaws.{measure_of_nodes}
use Rattle.lk_expr_tree.proofs.measure.is_measure.Goals as goal

pub returns : goal.returns
returns c =
    c.are_measure_nodes.ensures
    ∙ measure_of_nodes c.nodes.result.now (tree_of c.args.e.now) c.nodes.ensures.value c.nodes.ensures.whole
