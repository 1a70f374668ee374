use Rattle.lk_derived.proofs.ReadRows.{rows_dated}
use Rattle.lk_derived.proofs.laws.rows_read_are_dated.Goals as goal

pub returns : goal.returns
returns c = λ m s b resolved h. rows_dated m s b h resolved
