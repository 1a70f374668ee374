use Rattle.std.proofs.Common.{◌≡◌, take}
use Rattle.lk_regroup.specs.Regroupings.{counted, gathered}
use Rattle.lk_regroup.proofs.grouping.gathered.Given as goal

abbrev pub invariant-loop-row : goal.invariant-loop-row
invariant-loop-row l = l.groups.entries ≡ gathered l.how (counted l.how (take l.row-index l.rows))
