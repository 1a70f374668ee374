-- The loads that are left rise from the one before.
use Rattle.std.proofs.Common.{◌≡◌, drop}
use Rattle.lk_ledger.specs.Saved.{are_rising}
use Rattle.lk_ledger.proofs.saves.are_rising.Given as goal

abbrev pub invariant-loop-id : goal.invariant-loop-id
invariant-loop-id l = are_rising l.before l.last (drop l.id-index l.ids) ≡ are_rising 0 l.last l.ids
