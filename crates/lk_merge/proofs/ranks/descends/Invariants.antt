use Rattle.std.proofs.Common.{◌≡◌, drop}
use Rattle.lk_merge.specs.Ranks.{descends}
use Rattle.lk_merge.proofs.ranks.descends.Given as goal

abbrev pub invariant-loop-base : goal.invariant-loop-base
invariant-loop-base l =
    descends l.names l.ranks l.name (drop l.base-index l.bases) ≡ descends l.names l.ranks l.name l.bases
