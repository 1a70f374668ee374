use Rattle.std.proofs.Common.{◌≡◌, ◌++◌, drop}
use Rattle.std.specs.Prelude.{map}
use Rattle.lk_overlay.specs.Grouped.{read}
use Rattle.lk_overlay.proofs.grouped.same.Given as goal

abbrev pub invariant-loop-entry : goal.invariant-loop-entry
invariant-loop-entry l = map read l.made.items ++ map read (drop l.entry-index l.entries) ≡ map read l.entries
