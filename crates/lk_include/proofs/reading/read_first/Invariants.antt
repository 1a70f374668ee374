use Rattle.std.proofs.Common.{◌≡◌, ◌++◌, length}
use Rattle.std.specs.Prelude.{map}
use Rattle.lk_include.specs.declared.reading.Task.TheVariants.{Read}
use Rattle.lk_include.proofs.reading.read_first.Given as goal

-- the files that are left, before the tasks so far, are all tasks
abbrev pub invariant-loop-path : goal.invariant-loop-path
invariant-loop-path l = map Read l.paths.items ++ l.tasks.items ≡ map Read l.fn.paths ++ l.fn.tasks.items

abbrev pub decreases-loop-path : goal.decreases-loop-path
decreases-loop-path l = length l.paths.items
