use Rattle.std.proofs.Common.{◌≡◌, ◌+◌, length}
use Rattle.lk_include.specs.Gathering.{followed}
use Rattle.lk_include.proofs.reading.follow.Given as goal

-- what is pending now is what was pending at first
abbrev pub invariant-loop-task : goal.invariant-loop-task
invariant-loop-task l = record {
  same : followed l.reading.left l.reading.tasks.items ≡ followed l.fn.reading.left l.fn.reading.tasks.items;
  trees : l.reading.trees ≡ l.fn.reading.trees;
}

abbrev pub decreases-loop-task : goal.decreases-loop-task
decreases-loop-task l = length l.reading.left + length l.reading.tasks.items
