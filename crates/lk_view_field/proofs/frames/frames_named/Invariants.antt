use Rattle.std.proofs.Common.{◌≡◌, ◌++◌, drop}
use Rattle.lk_view_field.specs.FieldValues.{frames_named}
use Rattle.lk_view_field.proofs.frames.frames_named.Given as goal

abbrev pub invariant-loop-name : goal.invariant-loop-name
invariant-loop-name l = l.frames ++ frames_named (drop l.name-index l.names) ≡ frames_named l.names
