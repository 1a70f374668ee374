use Rattle.std.proofs.Common.{◌≡◌, drop}
use Rattle.lk_params.specs.Picking.{first_in}
use Rattle.lk_merge.specs.MergeFaults.{unknown_base}
use Rattle.lk_merge.proofs.faults.unknown_base.Given as goal

abbrev pub invariant-loop-base : goal.invariant-loop-base
invariant-loop-base l = first_in (unknown_base l.all l.d) (drop l.base-index l.bases) ≡ first_in (unknown_base l.all l.d) l.bases
