use Rattle.std.proofs.Common.{◌≡◌, ◌∷◌, ◌++◌, drop, option_map}
use Rattle.lk_filter_number.specs.Numbers.{compares_of}
use Rattle.lk_filter_number.proofs.number.meaning.compare_test.Given as goal

-- the comparisons so far, and those that are left, are those of all
abbrev pub invariant-loop-compared : goal.invariant-loop-compared
invariant-loop-compared l = option_map (λ rest. l.compares ++ rest) (compares_of (drop l.compared-index l.more)) ≡ compares_of (l.first ∷ l.more)
