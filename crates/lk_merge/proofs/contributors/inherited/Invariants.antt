use Rattle.std.proofs.Common.{◌≡◌, ◌++◌}
use Rattle.std.specs.List.{flat_map}
use Rattle.lk_merge.specs.Objects.{handed_within}
use Rattle.lk_merge.specs.Walking.{handed_at, handed_back, visits_of}
use Rattle.lk_merge.proofs.contributors.inherited.Given as goal

abbrev pub invariant-loop-left : goal.invariant-loop-left
invariant-loop-left l = flat_map (handed_at l.all.them.now l.kind) l.todo.items ++ handed_back l.found.items ≡ flat_map (handed_within l.all.them.now l.kind l.depth) l.fn.names

abbrev pub decreases-loop-left : goal.decreases-loop-left
decreases-loop-left l = visits_of l.all.them.now l.kind l.todo.items
