use Rattle.lk_derived.proofs.DatedModels.{sources-dated}
use Rattle.lk_derived.proofs.laws.derived_rows_are_dated.Goals as goal

pub returns : goal.returns
returns c = λ m t explores tables. sources-dated m explores t.tables tables
