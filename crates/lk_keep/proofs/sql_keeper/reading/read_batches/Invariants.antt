-- Each batch has its number.
use Rattle.std.proofs.Common.{◌≡◌, length}
use Rattle.lk_keep.proofs.sql_keeper.reading.read_batches.Given as goal

abbrev pub invariant-rows : goal.invariant-rows
invariant-rows g l = length l.batches.numbers ≡ length l.batches.chunks
