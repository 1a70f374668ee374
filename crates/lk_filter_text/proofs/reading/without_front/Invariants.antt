use Rattle.std.proofs.Common.{◌≡◌, length}
use Rattle.lk_filter_text.specs.TextReading.{without_front}
use Rattle.lk_filter_text.proofs.reading.without_front.Given as goal

-- what is left, without the spaces in front, is all without them
abbrev pub invariant-loop-first : goal.invariant-loop-first
invariant-loop-first l = without_front l.rest ≡ without_front l.tokens

abbrev pub decreases-loop-first : goal.decreases-loop-first
decreases-loop-first l = length l.rest
