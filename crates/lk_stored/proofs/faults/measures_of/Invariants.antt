use Rattle.std.proofs.Common.{◌≡◌, ◌++◌, drop}
use Rattle.lk_semantics.specs.Answers.{picked_measures}
use Rattle.lk_stored.proofs.faults.measures_of.Given as goal

abbrev pub invariant-loop-pick : goal.invariant-loop-pick
invariant-loop-pick l = l.measures ++ picked_measures (drop l.pick-index l.picks) ≡ picked_measures l.picks
