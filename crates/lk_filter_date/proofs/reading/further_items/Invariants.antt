use Rattle.std.proofs.Common.{◌≡◌, ◌∷◌, ◌++◌, drop, option_map}
use Rattle.lk_filter_date.specs.DateReading.{further_from}
use Rattle.lk_filter_date.proofs.reading.further_items.Given as goal

-- the items so far, and those of the tokens that are left, are those of all tokens behind the first item
abbrev pub invariant-loop-used : goal.invariant-loop-used
invariant-loop-used l = option_map (λ more. l.items ++ more) (further_from (drop l._used-index l.fuel) l.rest) ≡ option_map (λ more. l.fn.first ∷ more) (further_from l.fuel l.tokens)
