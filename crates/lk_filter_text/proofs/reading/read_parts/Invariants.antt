use Rattle.std.proofs.Common.{◌≡◌, Some, option_map}
use Rattle.lk_filter_text.specs.Texts.{text_filter}
use Rattle.lk_filter_text.specs.TextReading.{parts_left}
use Rattle.lk_filter_text.proofs.TextPartLaws.{grown_filter, size_left}
use Rattle.lk_filter_text.proofs.reading.read_parts.Given as goal

-- the tests so far, and those of what is left, are those of all
abbrev pub invariant-loop-left : goal.invariant-loop-left
invariant-loop-left l = option_map (grown_filter l.include l.exclude) (parts_left (option_map (λ rest. rest.now) l.left)) ≡ option_map text_filter (parts_left (Some l.tokens))

abbrev pub decreases-loop-left : goal.decreases-loop-left
decreases-loop-left l = size_left (option_map (λ rest. rest.now) l.left)
