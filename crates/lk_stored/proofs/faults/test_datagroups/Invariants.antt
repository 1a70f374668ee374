use Rattle.std.proofs.Common.{◌≡◌, drop}
use Rattle.lk_scope.specs.Pieces.{first_at}
use Rattle.lk_stored.specs.StoredFaults.{datagroups_line}
use Rattle.lk_stored.proofs.faults.test_datagroups.Given as goal

abbrev pub invariant-loop-x : goal.invariant-loop-x
invariant-loop-x l = first_at (datagroups_line l.m) (drop l.x-index l.x-items) ≡ first_at (datagroups_line l.m) l.m.explores
