use Rattle.std.proofs.Common.{◌≡◌, ◌++◌, drop}
use Rattle.std.specs.List.{flat_map}
use Rattle.lk_read.specs.EntryOutline.{entries_of}
use Rattle.lk_written.specs.Values.{pair_of}
use Rattle.lk_written.proofs.filters.add_pairs.Given as goal

abbrev pub invariant-loop-entry : goal.invariant-loop-entry
invariant-loop-entry l =
    l.filters ++ flat_map pair_of (entries_of (drop l.entry-index l.entries))
    ≡ l.fn.filters ++ flat_map pair_of (entries_of l.entries)
