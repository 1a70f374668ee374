use Rattle.std.proofs.Common.{◌∙◌, ap}
use Rattle.lk_resolved.specs.Columns.{operand}
use Rattle.lk_resolved.specs.Explores.{column_of}
use Rattle.lk_resolved.proofs.ColumnLaws.{column_nodes}
use Rattle.lk_resolved.proofs.column.column_of.Goals as goal

pub returns : goal.returns
returns c =
    c.operand.ensures
    ∙ ap (λ columns. operand columns 0) (c.as_slice.ensures ∙ c.in_ok-stack.ensures)
    ∙ column_nodes c.nodes.result.now
    ∙ ap column_of c.nodes.ensures.value
