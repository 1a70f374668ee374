use Rattle.std.proofs.Common.{length}
use Rattle.lk_filter_date.proofs.written.+count_from.Given as goal

abbrev pub decreases-count_from : goal.decreases-count_from
decreases-count_from l = length l.text.now
