use Rattle.std.proofs.Common.{◌≡◌, ◌++◌, map, drop}
use Rattle.lk_objects.specs.declared.view.Entry.TheVariants as entry
use Rattle.lk_explore.proofs.rollup.add_measures.Given as goal

abbrev pub invariant-loop-name : goal.invariant-loop-name
invariant-loop-name l =
    l.entries ++ map entry.Measure (drop l.name-index l.name-items) ≡ l.fn.entries ++ map entry.Measure l.name-items
