use Rattle.std.proofs.Common.{◌≡◌, None}
use Rattle.lk_semantics.specs.Joins.{numbers_below}
use Rattle.lk_scope.specs.Pieces.{first_at}
use Rattle.lk_stored.specs.StoredFaults.{self_read_line}
use Rattle.lk_stored.proofs.faults.test_cycles.Given as goal

abbrev pub invariant-loop-d : goal.invariant-loop-d
invariant-loop-d l = first_at (self_read_line l.m) (numbers_below l.d) ≡ None
