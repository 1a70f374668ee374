-- What a text reads as is its one outcome.
use Rattle.std.proofs.Common.{◌≡◌, ℕ, List}
use Rattle.lk_read.specs.Outcome.{Outcome, IsOutcome}
use Rattle.lk_read.proofs.OneOutcome.{some_outcome, one_outcome}
use Rattle.lk_include.specs.Reading.{reading_of}

pub is_reading : (text : List ℕ) → IsOutcome 32 text (reading_of text)
unfolding reading_of
is_reading text = (some_outcome 32 text).1

pub only_reading : (text : List ℕ) (outcome : Outcome) → IsOutcome 32 text outcome → reading_of text ≡ outcome
only_reading text outcome is = one_outcome 32 text (reading_of text) outcome (is_reading text) is
