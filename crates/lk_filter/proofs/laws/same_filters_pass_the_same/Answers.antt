use Rattle.lk_filter.proofs.SamenessLaws.{passes-same, passes_frac-same}
use Rattle.lk_filter.proofs.laws.same_filters_pass_the_same.Goals as goal

pub returns : goal.returns
returns c = record { values = passes-same; fractions = passes_frac-same }
