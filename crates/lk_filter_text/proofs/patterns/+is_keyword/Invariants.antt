use Rattle.std.proofs.Common.{length}
use Rattle.lk_filter_text.proofs.patterns.+is_keyword.Given as goal

abbrev pub decreases-is_keyword : goal.decreases-is_keyword
decreases-is_keyword l = length l.small.now
