-- The names of the fields so far, and of those to come.
use Rattle.std.proofs.Common.{◌≡◌, ◌++◌, drop, map}
use Rattle.lk_types.specs.declared.explore.Field.{Field}
use Rattle.lk_model.proofs.names.field_names.Given as goal

abbrev pub invariant-loop-field : goal.invariant-loop-field
invariant-loop-field l =
    l.names ++ map (λ (f : Field). f.name) (drop l.field-index l.fields) ≡ map (λ (f : Field). f.name) l.fields
