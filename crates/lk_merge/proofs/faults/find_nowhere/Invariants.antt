use Rattle.std.proofs.Common.{◌≡◌, drop}
use Rattle.lk_params.specs.Picking.{first_in}
use Rattle.lk_merge.specs.MergeFaults.{refers_nowhere}
use Rattle.lk_merge.proofs.faults.find_nowhere.Given as goal

abbrev pub invariant-loop-d : goal.invariant-loop-d
invariant-loop-d l = first_in (refers_nowhere l.all) (drop l.d-index l.all) ≡ first_in (refers_nowhere l.all) l.all
