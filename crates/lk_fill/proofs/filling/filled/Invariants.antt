use Rattle.std.proofs.Common.{take}
use Rattle.lk_table.specs.Contents.{rows_of_each}
use Rattle.lk_fill.specs.Fills.{IsFilled}
use Rattle.lk_fill.proofs.filling.filled.Given as goal

abbrev pub invariant-loop-place : goal.invariant-loop-place
invariant-loop-place l = IsFilled l.m (rows_of_each l.tables) l.needed (take l.place l.order) l.set
