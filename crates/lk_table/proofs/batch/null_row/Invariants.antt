use Rattle.std.proofs.Common.{◌≡◌, ◌<◌, ℕ, false}
use Rattle.lk_table.specs.Contents.{lacks_key, row_at}
use Rattle.lk_table.proofs.batch.null_row.Given as goal

abbrev pub invariant-loop-row : goal.invariant-loop-row
invariant-loop-row l = (k : ℕ) → k < l.row → lacks_key l.block.key (row_at l.block.rows k) ≡ false
