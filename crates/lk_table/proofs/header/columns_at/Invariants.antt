use Rattle.std.proofs.Common.{◌≡◌, map, take}
use Rattle.lk_table.specs.Batches.{column_at}
use Rattle.lk_table.proofs.header.columns_at.Given as goal

abbrev pub invariant-loop-place : goal.invariant-loop-place
invariant-loop-place l =
    map (λ column. column.now) l.named.items ≡ map (column_at l.columns) (take l.place-index l.places)
