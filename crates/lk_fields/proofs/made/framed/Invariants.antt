use Rattle.std.proofs.Common.{◌≡◌, map, drop, Some}
use Rattle.lk_fields.specs.Scopes.{frame_of, framed_name}
use Rattle.lk_fields.proofs.made.framed.Given as goal

abbrev pub invariant-loop-frame : goal.invariant-loop-frame
invariant-loop-frame l =
    frame_of l.name (map (λ f. (framed_name l.group f, Some f)) (drop l.frame-index l.frames))
    ≡ frame_of l.name (map (λ f. (framed_name l.group f, Some f)) l.frames)
