use Rattle.std.proofs.Common.{length}
use Rattle.lk_expr_place.proofs.form_parts.+one_of.Given as goal

abbrev pub decreases-one_of : goal.decreases-one_of
decreases-one_of l = length l.terminals.now
