use Rattle.std.proofs.Common.{◌≡◌, ◌++◌, drop}
use Rattle.lk_written.specs.Values.{filters_at}
use Rattle.lk_written.proofs.filters.filters_at.Given as goal

abbrev pub invariant-loop-item : goal.invariant-loop-item
invariant-loop-item l = l.filters ++ filters_at (drop l.item-index l.items) ≡ filters_at l.items
