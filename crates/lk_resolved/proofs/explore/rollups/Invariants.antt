use Rattle.std.proofs.Common.{◌≡◌, map, take}
use Rattle.lk_resolved.specs.Explores.{datagroup_number, rollup_with}
use Rattle.lk_resolved.proofs.explore.rollups.Given as goal

abbrev pub invariant-loop-rollup : goal.invariant-loop-rollup
invariant-loop-rollup l = l.made ≡ map (rollup_with l.model.fields.now.views.now l.model.fields.now.scope.now (datagroup_number l.datagroups)) (take l.rollup-index l.rollups)
