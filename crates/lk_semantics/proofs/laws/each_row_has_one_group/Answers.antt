use Rattle.lk_semantics.proofs.GroupLaws.{one_group}
use Rattle.lk_semantics.proofs.laws.each_row_has_one_group.Goals as goal

pub returns : goal.returns
returns c = record { one = one_group }
