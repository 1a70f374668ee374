use Rattle.std.proofs.Common.{◌≡◌, map, take}
use Rattle.lk_stored.proofs.reads.picks_of.Given as goal

abbrev pub invariant-loop-column : goal.invariant-loop-column
invariant-loop-column l = l.picks ≡ map (λ c. c.1) (take l.column-index l.column-items)
