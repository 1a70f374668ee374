use Rattle.lk_fill.proofs.FillLaws.{rows_read}
use Rattle.lk_fill.proofs.laws.wanted_rows_are_read.Goals as goal

pub returns : goal.returns
returns c = rows_read
