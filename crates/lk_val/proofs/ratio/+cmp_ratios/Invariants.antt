use Rattle.std.proofs.Common.{◌+◌}
use Rattle.lk_val.proofs.ratio.+cmp_ratios.Given as goal

abbrev pub decreases-cmp_ratios : goal.decreases-cmp_ratios
decreases-cmp_ratios l = l.b + l.d
