use Rattle.std.proofs.Common.{◌≡◌, ◌++◌, drop}
use Rattle.lk_filter_date.specs.Dates.{excluded}
use Rattle.lk_filter_date.proofs.meaning.excluded.Given as goal

-- the tests so far, and those of the items that are left, are those of all
abbrev pub invariant-loop-item : goal.invariant-loop-item
invariant-loop-item l = l.tests ++ excluded (drop l.item-index l.items) ≡ excluded l.items
