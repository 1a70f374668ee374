use Rattle.std.proofs.Common.{◌≡◌, drop}
use Rattle.lk_scope.specs.Pieces.{first_at}
use Rattle.lk_stored.specs.StoredFaults.{rollup_line}
use Rattle.lk_stored.proofs.faults.test_rollups.Given as goal

abbrev pub invariant-loop-rollup : goal.invariant-loop-rollup
invariant-loop-rollup l = first_at (rollup_line l.x) (drop l.rollup-index l.rollup-items) ≡ first_at (rollup_line l.x) l.x.rollups
