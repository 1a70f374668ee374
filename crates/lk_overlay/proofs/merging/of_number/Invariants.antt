use Rattle.std.proofs.Common.{◌≡◌, ◌++◌, drop}
use Rattle.std.specs.Prelude.{map}
use Rattle.lk_overlay.specs.Grouped.{of_number, read}
use Rattle.lk_overlay.proofs.merging.of_number.Given as goal

abbrev pub invariant-loop-entry : goal.invariant-loop-entry
invariant-loop-entry l = l.items ++ of_number l.number (map read (drop l.entry-index l.found)) ≡ of_number l.number (map read l.found)
