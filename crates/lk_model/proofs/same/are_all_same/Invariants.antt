use Rattle.std.proofs.Common.{◌≡◌, take}
use Rattle.lk_model.proofs.same.are_all_same.Given as goal

abbrev pub invariant-loop-number : goal.invariant-loop-number
invariant-loop-number l = take l.number l.a ≡ take l.number l.b
