use Rattle.lk_val.proofs.FractionLaws.{cmp-counts}
use Rattle.lk_val.proofs.laws.fractions_of_counts_compare_as_counts.Goals as goal

pub returns : goal.returns
returns c = cmp-counts
