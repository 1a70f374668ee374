use Rattle.std.proofs.Common.{◌≡◌, ◌++◌, drop}
use Rattle.std.specs.Prelude.{map}
use Rattle.lk_overlay.specs.Grouped.{all_of, read}
use Rattle.lk_overlay.proofs.merging.all_of.Given as goal

abbrev pub invariant-loop-entry : goal.invariant-loop-entry
invariant-loop-entry l = l.items ++ all_of (map read (drop l.entry-index l.found)) ≡ all_of (map read l.found)
