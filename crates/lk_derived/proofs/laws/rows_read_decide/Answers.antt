use Rattle.lk_derived.proofs.ReadRows.{joined_whole}
use Rattle.lk_derived.proofs.laws.rows_read_decide.Goals as goal

pub returns : goal.returns
returns c = joined_whole
