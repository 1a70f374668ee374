use Rattle.std.proofs.Common.{◌≡◌, drop}
use Rattle.lk_scope.specs.Pieces.{first_at}
use Rattle.lk_stored.specs.StoredFaults.{derived_line}
use Rattle.lk_stored.proofs.faults.test_derived.Given as goal

abbrev pub invariant-loop-table : goal.invariant-loop-table
invariant-loop-table l = first_at (derived_line l.m) (drop l.table-index l.table-items) ≡ first_at (derived_line l.m) l.m.derived
