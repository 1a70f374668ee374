use Rattle.std.proofs.Common.{◌≡◌, ◌++◌, drop}
use Rattle.std.specs.Prelude.{map}
use Rattle.lk_read.specs.EntryOutline.{entries_of}
use Rattle.lk_params.specs.Values.{entry_scalar}
use Rattle.lk_include.specs.Gathering.{included}
use Rattle.lk_include.proofs.includes.add_entries.Given as goal

abbrev pub invariant-loop-entry : goal.invariant-loop-entry
invariant-loop-entry l =
    l.found ++ map (included l.place) (map entry_scalar (entries_of (drop l.entry-index l.entries)))
    ≡ l.fn.found ++ map (included l.place) (map entry_scalar (entries_of l.entries))
