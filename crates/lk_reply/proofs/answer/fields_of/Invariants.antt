use Rattle.std.proofs.Common.{◌≡◌, ◌++◌, drop}
use Rattle.lk_reply.specs.Answers.{fields_of}
use Rattle.lk_reply.proofs.answer.fields_of.Given as goal

abbrev pub invariant-loop-pick : goal.invariant-loop-pick
invariant-loop-pick l = l.fields ++ fields_of l.x (drop l.pick-index l.picks) l.rest ≡ fields_of l.x l.picks l.cells
