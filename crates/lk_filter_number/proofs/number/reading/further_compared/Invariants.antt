use Rattle.std.proofs.Common.{◌≡◌, ◌++◌, length}
use Rattle.lk_filter_number.specs.NumberReading.{further_compared}
use Rattle.lk_filter_number.proofs.number.reading.further_compared.Given as goal

-- the comparisons so far, and those that are left, are those of all tokens
abbrev pub invariant-loop-and : goal.invariant-loop-and
invariant-loop-and l = (l.more ++ (further_compared l.rest).0, (further_compared l.rest).1) ≡ further_compared l.tokens

abbrev pub decreases-loop-and : goal.decreases-loop-and
decreases-loop-and l = length l.rest
