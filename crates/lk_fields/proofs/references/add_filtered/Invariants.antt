use Rattle.std.proofs.Common.{◌≡◌, ◌++◌, map, drop}
use Rattle.lk_fields.specs.Existing.{filtered}
use Rattle.lk_fields.proofs.references.add_filtered.Given as goal

abbrev pub invariant-loop-filter : goal.invariant-loop-filter
invariant-loop-filter l =
    l.found ++ map (filtered l.views l.scope l.part) (drop l.filter-index l.filters)
    ≡ l.fn.found ++ map (filtered l.views l.scope l.part) l.filters
