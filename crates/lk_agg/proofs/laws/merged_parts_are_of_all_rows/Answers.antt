use Rattle.lk_agg.proofs.MergingLaws.{merged-append}
use Rattle.lk_agg.proofs.laws.merged_parts_are_of_all_rows.Goals as goal

pub returns : goal.returns
returns c = λ op us vs apart. merged-append op us vs apart
