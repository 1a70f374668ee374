use Rattle.std.proofs.Common.{List, ◌++◌, drop, map}
use Rattle.lk_filter.specs.PlacedModel.{placed_field_filter}
use Rattle.lk_gather.specs.Dims.{AreTests}
use Rattle.lk_gather.specs.declared.dims.FieldTest.{FieldTest}
use Rattle.lk_gather.proofs.dims.tests_of.Given as goal

abbrev pub invariant-loop-filter : goal.invariant-loop-filter
invariant-loop-filter l =
    (more : List FieldTest) → AreTests l.explore (map (placed_field_filter l.now) (drop l.filter-index l.filters)) more
    → AreTests l.explore (map (placed_field_filter l.now) l.filters) (l.tests ++ more)
