use Rattle.std.proofs.Common.{◌≡◌, take}
use Rattle.lk_model.specs.Models.{names_of}
use Rattle.lk_model.proofs.model.names_of.Given as goal

abbrev pub invariant-loop-datagroup : goal.invariant-loop-datagroup
invariant-loop-datagroup l = l.names ≡ names_of (take l.datagroup-index l.datagroups)
