use Rattle.std.proofs.Common.{◌≡◌, drop}
use Rattle.lk_merge.specs.Ranks.{rank_in}
use Rattle.lk_merge.proofs.ranks.rank_in.Given as goal

-- the number of the name among those that are left
abbrev pub invariant-loop-other : goal.invariant-loop-other
invariant-loop-other l = rank_in (drop l.other-index l.names) l.left l.name ≡ rank_in l.names l.ranks l.name
