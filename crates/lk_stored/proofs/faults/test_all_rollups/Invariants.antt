use Rattle.std.proofs.Common.{◌≡◌, drop}
use Rattle.lk_scope.specs.Pieces.{first_at}
use Rattle.lk_stored.specs.StoredFaults.{rollups_line}
use Rattle.lk_stored.proofs.faults.test_all_rollups.Given as goal

abbrev pub invariant-loop-x : goal.invariant-loop-x
invariant-loop-x l = first_at rollups_line (drop l.x-index l.explores) ≡ first_at rollups_line l.explores
