use Rattle.std.proofs.Common.{◌≡◌, length}
use Rattle.lk_filter_text.specs.TextReading.{without_end}
use Rattle.lk_filter_text.proofs.reading.without_end.Given as goal

-- what is left, without the spaces at the end, is all without them
abbrev pub invariant-loop-last : goal.invariant-loop-last
invariant-loop-last l = without_end l.front ≡ without_end l.tokens

abbrev pub decreases-loop-last : goal.decreases-loop-last
decreases-loop-last l = length l.front
