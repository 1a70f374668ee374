use Rattle.std.proofs.Common.{◌≡◌, ◌++◌, length, map}
use Rattle.lk_regroup.specs.ComponentParts.{row_of}
use Rattle.lk_regroup.proofs.grouping.finished.Given as goal

abbrev pub invariant-loop-group : goal.invariant-loop-group
invariant-loop-group l = l.rows ++ map row_of l.groups.entries ≡ map row_of l.fn.groups.entries

abbrev pub decreases-loop-group : goal.decreases-loop-group
decreases-loop-group l = length l.groups.entries
