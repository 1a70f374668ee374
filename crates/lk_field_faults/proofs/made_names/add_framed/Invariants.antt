use Rattle.std.proofs.Common.{◌≡◌, ◌++◌, drop}
use Rattle.lk_field_faults.specs.MadeNames.{framed_names}
use Rattle.lk_field_faults.proofs.made_names.add_framed.Given as goal

abbrev pub invariant-loop-frame : goal.invariant-loop-frame
invariant-loop-frame l =
    l.names ++ framed_names l.group (drop l.frame-index l.frames) ≡ l.fn.names ++ framed_names l.group l.frames
