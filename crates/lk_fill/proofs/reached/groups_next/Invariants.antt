use Rattle.std.proofs.Common.{◌≡◌, ◌++◌, drop, map}
use Rattle.std.specs.List.{enumerate_from}
use Rattle.lk_fill.specs.Reached.{group_next, groups_next}
use Rattle.lk_fill.proofs.reached.groups_next.Given as goal

abbrev pub invariant-loop-place : goal.invariant-loop-place
invariant-loop-place l = l.next ++ map (group_next l.groups l.reads) (enumerate_from l.place (drop l.place l.tables)) ≡ groups_next l.groups l.reads l.tables
