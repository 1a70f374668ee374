use Rattle.std.proofs.Common.{◌≡◌, drop}
use Rattle.lk_merge.specs.Ranks.{keeps_down}
use Rattle.lk_merge.proofs.circles.keeps_down.Given as goal

abbrev pub invariant-loop-base : goal.invariant-loop-base
invariant-loop-base l = keeps_down l.names l.numbers l.name (drop l.base-index l.bases) ≡ keeps_down l.names l.numbers l.name l.bases
