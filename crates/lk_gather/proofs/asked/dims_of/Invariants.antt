use Rattle.std.proofs.Common.{◌≡◌, ◌++◌, drop}
use Rattle.lk_semantics.specs.Answers.{dims_of}
use Rattle.lk_gather.proofs.asked.dims_of.Given as goal

abbrev pub invariant-loop-pick : goal.invariant-loop-pick
invariant-loop-pick l = l.dims ++ dims_of (drop l.pick-index l.picks) ≡ dims_of l.picks
