use Rattle.std.proofs.Common.{◌≡◌, drop}
use Rattle.lk_scope.specs.Pieces.{first_at}
use Rattle.lk_model.specs.Faults.{datagroup_line}
use Rattle.lk_model.proofs.faults.test_datagroups.Given as goal

abbrev pub invariant-loop-datagroup : goal.invariant-loop-datagroup
invariant-loop-datagroup l = first_at datagroup_line (drop l.datagroup-index l.datagroups) ≡ first_at datagroup_line l.datagroups
