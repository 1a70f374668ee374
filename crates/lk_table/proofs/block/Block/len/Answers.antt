use Rattle.std.proofs.Common.{◌∙◌, ap, sym, length, map}
use Rattle.lk_table.specs.Contents.{Content}
use Rattle.lk_table.specs.Columns.{values_in}
use Rattle.lk_table.proofs.RowLaws.{length-rows_in}
use Rattle.lk_table.proofs.block.Block.len.Goals as goal

pub returns : goal.returns
returns c =
    let fields = c.self.inside in
    sym (length-rows_in fields.count (map (values_in fields.region) fields.columns.items))
    ∙ ap (λ (content : Content). length content.rows) c.self.view_is
