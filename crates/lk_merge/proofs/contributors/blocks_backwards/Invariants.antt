use Rattle.std.proofs.Common.{◌≡◌, ◌++◌, take}
use Rattle.lk_merge.specs.Walking.{handed_back}
use Rattle.lk_merge.proofs.contributors.blocks_backwards.Given as goal

abbrev pub invariant-loop-place : goal.invariant-loop-place
invariant-loop-place l = l.blocks ++ handed_back (take l.place l.ds) ≡ handed_back l.ds
