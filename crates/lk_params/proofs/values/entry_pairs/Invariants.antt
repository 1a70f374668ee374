use Rattle.std.proofs.Common.{◌≡◌, drop}
use Rattle.lk_params.specs.Values.{prefixed, entry_pairs}
use Rattle.lk_read.specs.EntryOutline.{entries_of}
use Rattle.lk_params.proofs.values.entry_pairs.Given as goal

-- the pairs so far, before those of what is left, are all pairs
abbrev pub invariant-loop-entry : goal.invariant-loop-entry
invariant-loop-entry l =
    prefixed l.pairs (entry_pairs (entries_of (drop l.entry-index l.entries))) ≡ entry_pairs (entries_of l.entries)
