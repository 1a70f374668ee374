use Rattle.std.proofs.Common.{◌≡◌, length}
use Rattle.lk_read.specs.Grammar.{without_front}
use Rattle.lk_read.proofs.trim.without_front.Given as goal

-- what is left, trimmed, is the text, trimmed
abbrev pub invariant-loop-first : goal.invariant-loop-first
invariant-loop-first l = without_front l.rest ≡ without_front l.text

abbrev pub decreases-loop-first : goal.decreases-loop-first
decreases-loop-first l = length l.rest
