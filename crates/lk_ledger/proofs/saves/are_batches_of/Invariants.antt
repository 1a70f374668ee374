-- The numbers that are left are those of the loads that are left.
use Rattle.std.proofs.Common.{◌≡◌, drop}
use Rattle.lk_ledger.specs.Saved.{are_batches_of}
use Rattle.lk_ledger.proofs.saves.are_batches_of.Given as goal

abbrev pub invariant-loop-id : goal.invariant-loop-id
invariant-loop-id l = are_batches_of (drop l.id-index l.ids) l.left ≡ are_batches_of l.ids l.numbers
