use Rattle.lk_semantics.proofs.DatedLaws.{joined_rows-dated}
use Rattle.lk_semantics.proofs.laws.joined_rows_are_dated.Goals as goal

pub returns : goal.returns
returns c = λ x s joins dated. joined_rows-dated x s dated joins
