use Rattle.std.proofs.Common.{◌≡◌, length}
use Rattle.lk_types.specs.Expressions.{after_character}
use Rattle.lk_types.proofs.pattern.after_character.Given as goal

-- what is left, without its first character, is the text without it
abbrev pub invariant-loop-first : goal.invariant-loop-first
invariant-loop-first l = after_character l.rest ≡ after_character l.text

abbrev pub decreases-loop-first : goal.decreases-loop-first
decreases-loop-first l = length l.rest
