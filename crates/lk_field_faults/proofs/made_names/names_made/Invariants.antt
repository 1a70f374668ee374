use Rattle.std.proofs.Common.{◌≡◌, ◌++◌, drop}
use Rattle.std.specs.List.{flat_map}
use Rattle.lk_field_faults.specs.MadeNames.{names_made, names_of}
use Rattle.lk_field_faults.proofs.made_names.names_made.Given as goal

abbrev pub invariant-loop-field : goal.invariant-loop-field
invariant-loop-field l = l.names ++ flat_map names_of (drop l.field-index l.fields) ≡ names_made l.fields
