use Rattle.std.proofs.Common.{◌≡◌, drop}
use Rattle.lk_params.specs.Values.{prefixed, entry_words}
use Rattle.lk_read.specs.EntryOutline.{entries_of}
use Rattle.lk_params.proofs.values.entry_words.Given as goal

-- the texts so far, before those of what is left, are all texts
abbrev pub invariant-loop-entry : goal.invariant-loop-entry
invariant-loop-entry l =
    prefixed l.texts (entry_words (entries_of (drop l.entry-index l.entries))) ≡ entry_words (entries_of l.entries)
