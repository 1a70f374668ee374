use Rattle.std.proofs.Common.{◌≡◌, drop}
use Rattle.std.specs.Prelude.{map}
use Rattle.std.specs.Option.{option_or}
use Rattle.lk_overlay.specs.Grouped.{last_number, read}
use Rattle.lk_overlay.proofs.merging.last_number.Given as goal

abbrev pub invariant-loop-entry : goal.invariant-loop-entry
invariant-loop-entry l = option_or (last_number (map read (drop l.entry-index l.found))) l.last ≡ last_number (map read l.found)
