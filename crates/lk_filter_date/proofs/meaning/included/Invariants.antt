use Rattle.std.proofs.Common.{◌≡◌, ◌++◌, drop, option_map}
use Rattle.lk_filter_date.specs.Dates.{included}
use Rattle.lk_filter_date.proofs.meaning.included.Given as goal

-- the tests so far, and those of the items that are left, are those of all
abbrev pub invariant-loop-item : goal.invariant-loop-item
invariant-loop-item l = option_map (λ rest. l.tests ++ rest) (included (drop l.item-index l.items)) ≡ included l.items
