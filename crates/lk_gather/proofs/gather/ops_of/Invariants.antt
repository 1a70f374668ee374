use Rattle.std.proofs.Common.{◌≡◌, take}
use Rattle.lk_semantics.specs.Answers.{ops_of}
use Rattle.lk_gather.proofs.gather.ops_of.Given as goal

abbrev pub invariant-loop-number : goal.invariant-loop-number
invariant-loop-number l = l.ops ≡ ops_of l.explore (take l.number-index l.components)
