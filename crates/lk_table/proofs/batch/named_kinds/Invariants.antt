use Rattle.std.proofs.Common.{◌≡◌, map, take}
use Rattle.lk_table.specs.Contents.{kind_of}
use Rattle.lk_table.proofs.batch.named_kinds.Given as goal

abbrev pub invariant-loop-column : goal.invariant-loop-column
invariant-loop-column l = l.kinds.items ≡ map kind_of (map (λ column. column.now) (take l.column-index l.named))
