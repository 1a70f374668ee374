use Rattle.std.proofs.Common.{◌≡◌, ◌++◌, length, map, option_map}
use Rattle.lk_types.specs.declared.filter.Test.TheVariants.{Truth}
use Rattle.lk_filter_number.specs.TruthReading.{truths_of}
use Rattle.lk_filter_number.proofs.truth.read_tests.Given as goal

-- the tests so far, and those of the words that are left, are those of all words
abbrev pub invariant-loop-word : goal.invariant-loop-word
invariant-loop-word l = option_map (λ more. l.include ++ map Truth more) (truths_of l.rest) ≡ option_map (map Truth) (truths_of l.words)

abbrev pub decreases-loop-word : goal.decreases-loop-word
decreases-loop-word l = length l.rest
