-- What is copied so far, and what is left, are all the items.
use Rattle.std.proofs.Common.{◌≡◌, ◌++◌, drop}
use Rattle.lk_val.proofs.items.Items.copy.Given as goal

abbrev pub invariant-loop-item : goal.invariant-loop-item
invariant-loop-item g l = l.made ++ drop l.item-index l.self ≡ l.self
