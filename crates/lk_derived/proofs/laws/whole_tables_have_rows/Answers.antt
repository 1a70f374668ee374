use Rattle.lk_derived.proofs.ReadRows.{whole_has_rows}
use Rattle.lk_derived.proofs.laws.whole_tables_have_rows.Goals as goal

pub returns : goal.returns
returns c = whole_has_rows
