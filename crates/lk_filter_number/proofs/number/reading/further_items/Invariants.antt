use Rattle.std.proofs.Common.{◌≡◌, ◌++◌, drop, option_map}
use Rattle.lk_filter_number.specs.NumberReading.{further_from}
use Rattle.lk_filter_number.proofs.number.reading.further_items.Given as goal

-- the items so far, and those of the tokens that are left, are those of all tokens
abbrev pub invariant-loop-used : goal.invariant-loop-used
invariant-loop-used l = option_map (λ more. l.items ++ more) (further_from (drop l._used-index l.fuel) l.rest) ≡ further_from l.fuel l.tokens
