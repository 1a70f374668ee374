use Rattle.std.proofs.Common.{◌≡◌, map, take}
use Rattle.lk_model.specs.Models.{datagroup_with}
use Rattle.lk_model.proofs.model.datagroups.Given as goal

abbrev pub invariant-loop-datagroup : goal.invariant-loop-datagroup
invariant-loop-datagroup l = l.made ≡ map datagroup_with (take l.datagroup-index l.declared)
