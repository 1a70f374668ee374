use Rattle.std.proofs.Common.{◌≡◌, drop, map}
use Rattle.lk_agg.specs.Finishing.{twice_after}
use Rattle.lk_agg.proofs.digest.twice_after.Given as goal

abbrev pub invariant-loop-pair : goal.invariant-loop-pair
invariant-loop-pair g l = twice_after (g.T.Paired.pair l.last) (map g.T.Paired.pair (drop l.pair-index l.pairs)) ≡ twice_after (g.T.Paired.pair l.first) (map g.T.Paired.pair l.pairs)
