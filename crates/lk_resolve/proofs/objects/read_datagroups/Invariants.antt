use Rattle.std.proofs.Common.{◌≡◌, map, take}
use Rattle.lk_resolve.specs.Objects.{datagroup_read}
use Rattle.lk_resolve.proofs.objects.read_datagroups.Given as goal

abbrev pub invariant-loop-object : goal.invariant-loop-object
invariant-loop-object l = l.datagroups ≡ map (datagroup_read l.schema) (take l.object-index l.objects)
