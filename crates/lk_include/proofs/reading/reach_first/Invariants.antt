use Rattle.std.proofs.Common.{◌≡◌, ◌++◌, length}
use Rattle.std.specs.Prelude.{map}
use Rattle.lk_include.specs.Gathering.{reach_in}
use Rattle.lk_include.proofs.reading.reach_first.Given as goal

-- the includes that are left, before the tasks so far, are all tasks
abbrev pub invariant-loop-include : goal.invariant-loop-include
invariant-loop-include l =
    map (reach_in l.path) l.includes.items ++ l.tasks.items ≡ map (reach_in l.path) l.fn.includes ++ l.fn.tasks.items

abbrev pub decreases-loop-include : goal.decreases-loop-include
decreases-loop-include l = length l.includes.items
