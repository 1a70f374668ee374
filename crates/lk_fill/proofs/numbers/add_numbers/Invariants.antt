use Rattle.std.proofs.Common.{◌≡◌, ◌++◌, drop}
use Rattle.lk_fill.proofs.numbers.add_numbers.Given as goal

abbrev pub invariant-loop-number : goal.invariant-loop-number
invariant-loop-number l = l.numbers ++ drop l.number-index l.more ≡ l.fn.numbers ++ l.more
