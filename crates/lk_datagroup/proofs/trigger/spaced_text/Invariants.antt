use Rattle.std.proofs.Common.{◌≡◌, ◌++◌, drop}
use Rattle.std.specs.List.{flat_map}
use Rattle.lk_datagroup.specs.Triggers.{spaced}
use Rattle.lk_datagroup.proofs.trigger.spaced_text.Given as goal

abbrev pub invariant-loop-byte : goal.invariant-loop-byte
invariant-loop-byte l =
    l.bytes.items ++ flat_map spaced (drop l.byte-index l.text) ≡ flat_map spaced l.text
