use Rattle.std.proofs.Common.{◌≡◌, drop}
use Rattle.lk_scope.specs.Pieces.{first_at}
use Rattle.lk_stored.specs.StoredFaults.{measure_line}
use Rattle.lk_stored.proofs.faults.test_measures.Given as goal

abbrev pub invariant-loop-n : goal.invariant-loop-n
invariant-loop-n l = first_at (measure_line l.object l.x l.joins) (drop l.n-index l.measures) ≡ first_at (measure_line l.object l.x l.joins) l.measures
