use Rattle.std.proofs.Common.{◌≡◌, nat_lt, drop}
use Rattle.lk_model.specs.Counts.{rollups_in}
use Rattle.lk_model.proofs.counts.has_more_rollups.Given as goal

abbrev pub invariant-loop-explore : goal.invariant-loop-explore
invariant-loop-explore l = nat_lt l.left (rollups_in (drop l.explore-index l.explores)) ≡ nat_lt l.most (rollups_in l.explores)
