use Rattle.std.proofs.Common.{◌≡◌, drop}
use Rattle.lk_params.specs.Picking.{first_in}
use Rattle.lk_merge.specs.MergeFaults.{refines_final}
use Rattle.lk_merge.proofs.faults.find_final.Given as goal

abbrev pub invariant-loop-d : goal.invariant-loop-d
invariant-loop-d l = first_in (refines_final l.all.them.now) (drop l.d-index l.all.them.now) ≡ first_in (refines_final l.all.them.now) l.all.them.now
