use Rattle.std.proofs.Common.{List, ◌++◌, drop}
use Rattle.lk_gather.specs.Dims.{AreDims}
use Rattle.lk_gather.specs.declared.dims.Dim.{Dim}
use Rattle.lk_gather.proofs.dims.dims_at.Given as goal

abbrev pub invariant-loop-number : goal.invariant-loop-number
invariant-loop-number l =
    (more : List Dim) → AreDims l.explore (drop l.number-index l.numbers) more → AreDims l.explore l.numbers (l.dims ++ more)
