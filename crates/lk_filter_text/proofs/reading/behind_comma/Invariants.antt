use Rattle.std.proofs.Common.{◌≡◌, length}
use Rattle.lk_filter_text.specs.TextReading.{behind_comma}
use Rattle.lk_filter_text.proofs.reading.behind_comma.Given as goal

-- what is behind the first comma of what is left is behind the first one
abbrev pub invariant-loop-first : goal.invariant-loop-first
invariant-loop-first l = behind_comma l.rest ≡ behind_comma l.tokens

abbrev pub decreases-loop-first : goal.decreases-loop-first
decreases-loop-first l = length l.rest
