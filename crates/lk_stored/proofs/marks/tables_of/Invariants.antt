use Rattle.std.proofs.Common.{◌≡◌, ◌++◌, drop}
use Rattle.std.specs.Prelude.{flat_map}
use Rattle.lk_semantics.specs.Reading.{derived_in}
use Rattle.lk_stored.proofs.marks.tables_of.Given as goal

abbrev pub invariant-loop-part : goal.invariant-loop-part
invariant-loop-part l = l.tables ++ flat_map (λ part. derived_in part.origin) (drop l.part-index l.parts) ≡ flat_map (λ part. derived_in part.origin) l.parts
