use Rattle.std.proofs.Common.{◌≡◌, ◌++◌, drop}
use Rattle.lk_merge.proofs.rows.copied.Given as goal

abbrev pub invariant-loop-item : goal.invariant-loop-item
invariant-loop-item l = l.copied ++ drop l.item-index l.items ≡ l.items
