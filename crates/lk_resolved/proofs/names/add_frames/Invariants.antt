use Rattle.std.proofs.Common.{◌≡◌, ◌++◌, drop, map}
use Rattle.lk_resolved.specs.Names.{frame_dimension}
use Rattle.lk_resolved.proofs.names.add_frames.Given as goal

abbrev pub invariant-loop-frame : goal.invariant-loop-frame
invariant-loop-frame l =
    l.dimensions ++ map (frame_dimension l.part l.place l.group) (drop l.frame-index l.frames) ≡ l.fn.dimensions ++ map (frame_dimension l.part l.place l.group) l.frames
