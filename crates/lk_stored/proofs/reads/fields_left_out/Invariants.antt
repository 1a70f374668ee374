use Rattle.std.proofs.Common.{◌≡◌, ◌++◌, drop}
use Rattle.std.specs.Prelude.{flat_map}
use Rattle.lk_stored.specs.Reads.{left_out}
use Rattle.lk_stored.proofs.reads.fields_left_out.Given as goal

abbrev pub invariant-loop-filter : goal.invariant-loop-filter
invariant-loop-filter l = l.left ++ flat_map (left_out l.fields) (drop l.filter-index l.filters) ≡ flat_map (left_out l.fields) l.filters
