use Rattle.std.proofs.Common.{◌≡◌, ◌++◌, drop, option_map}
use Rattle.lk_filter_number.specs.Numbers.{further_tests, side_tests}
use Rattle.lk_filter_number.proofs.number.meaning.side_tests.Given as goal

-- the tests so far, and those of the items that are left, are those of all
abbrev pub invariant-loop-further : goal.invariant-loop-further
invariant-loop-further l = option_map (λ rest. l.tests ++ rest) (further_tests l.plain l.side (drop l.further-index l.items.more)) ≡ side_tests l.side l.items
