use Rattle.std.proofs.Common.{◌≡◌, drop}
use Rattle.lk_params.specs.Picking.{first_in}
use Rattle.lk_merge.specs.Strays.{stray_in}
use Rattle.lk_merge.proofs.strays.stray_of.Given as goal

abbrev pub invariant-loop-file : goal.invariant-loop-file
invariant-loop-file l = first_in stray_in (drop l.file-index l.files) ≡ first_in stray_in l.files
