use Rattle.std.proofs.Common.{◌≡◌, ◌++◌, drop, map}
use Rattle.lk_reply.specs.Answers.{name_of}
use Rattle.lk_reply.proofs.answer.names_of.Given as goal

abbrev pub invariant-loop-pick : goal.invariant-loop-pick
invariant-loop-pick l = l.names ++ map (name_of l.x) (drop l.pick-index l.picks) ≡ map (name_of l.x) l.picks
