use Rattle.std.proofs.Common.{◌≡◌, length}
use Rattle.lk_read.specs.Grammar.{without_end}
use Rattle.lk_read.proofs.trim.without_end.Given as goal

-- what is left, trimmed, is the text, trimmed
abbrev pub invariant-loop-last : goal.invariant-loop-last
invariant-loop-last l = without_end l.front ≡ without_end l.text

abbrev pub decreases-loop-last : goal.decreases-loop-last
decreases-loop-last l = length l.front
