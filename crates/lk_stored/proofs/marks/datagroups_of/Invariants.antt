use Rattle.std.proofs.Common.{◌≡◌}
use Rattle.lk_stored.specs.Reads.{marked_datagroups}
use Rattle.lk_stored.proofs.marks.datagroups_of.Given as goal

abbrev pub invariant-loop-d : goal.invariant-loop-d
invariant-loop-d l = l.datagroups ≡ marked_datagroups l.tables l.marks l.d
