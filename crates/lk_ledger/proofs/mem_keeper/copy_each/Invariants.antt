-- The copies so far are the items so far.
use Rattle.std.proofs.Common.{◌≡◌, take}
use Rattle.lk_ledger.proofs.mem_keeper.copy_each.Given as goal

abbrev pub invariant-loop-item : goal.invariant-loop-item
invariant-loop-item g l = l.copies ≡ take l.item-index l.items
