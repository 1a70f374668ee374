use Rattle.std.proofs.Common.{length}
use Rattle.lk_expr_place.proofs.places.Stop.+longest_start.Given as goal

abbrev pub decreases-longest_start : goal.decreases-longest_start
decreases-longest_start l = length l.among.now
