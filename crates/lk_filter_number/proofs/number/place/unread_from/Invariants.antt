use Rattle.std.proofs.Common.{◌≡◌, ◌+◌, false, length, option_map}
use Rattle.lk_filter_number.specs.NumberReading.{unread_from}
use Rattle.lk_filter_number.proofs.number.place.unread_from.Given as goal

-- the bytes so far are before each place that is left
abbrev pub invariant-loop-byte : goal.invariant-loop-byte
invariant-loop-byte l = record {
  all : l.place + length l.rest ≡ length l.text;
  same : option_map (λ n. l.place + n) (unread_from l.inside l.rest) ≡ unread_from false l.text;
}

abbrev pub decreases-loop-byte : goal.decreases-loop-byte
decreases-loop-byte l = length l.rest
