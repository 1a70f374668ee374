use Rattle.std.proofs.Common.{sym, map}
use Rattle.lk_table.specs.Columns.{values_in}
use Rattle.lk_table.proofs.RowLaws.{length-rows_in}
use Rattle.lk_table.proofs.builder.BlockBuilder.len.Goals as goal

pub returns : goal.returns
returns c = sym (length-rows_in c.args.self.now.count (map (values_in c.args.self.now.region) c.args.self.now.columns.items))
