use Rattle.std.proofs.Common.{◌≡◌, map, take}
use Rattle.lk_trigger.specs.Builds.{datagroup_at}
use Rattle.lk_edition.proofs.checking.names_of.Given as goal

abbrev pub invariant-loop-group : goal.invariant-loop-group
invariant-loop-group l = l.names ≡ map (λ g. (datagroup_at l.datagroups g).name) (take l.group-index l.groups)
