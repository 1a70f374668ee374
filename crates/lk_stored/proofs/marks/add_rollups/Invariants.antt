use Rattle.std.proofs.Common.{◌≡◌, ◌++◌, drop, map}
use Rattle.lk_stored.proofs.marks.add_rollups.Given as goal

abbrev pub invariant-loop-rollup : goal.invariant-loop-rollup
invariant-loop-rollup l = l.datagroups ++ map (λ r. r.datagroup) (drop l.rollup-index l.rollups) ≡ l.fn.datagroups ++ map (λ r. r.datagroup) l.rollups
