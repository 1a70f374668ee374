use Rattle.std.proofs.Common.{List, ◌++◌, drop}
use Rattle.lk_filter.specs.PlacedModel.{placed_explore}
use Rattle.lk_gather.specs.Measures.{AreTaken}
use Rattle.lk_gather.specs.declared.measures.Taken.{Taken}
use Rattle.lk_gather.proofs.measures.taken_by.Given as goal

abbrev pub invariant-loop-number : goal.invariant-loop-number
invariant-loop-number l =
    (more : List Taken) → AreTaken (placed_explore l.now l.explore) (drop l.number-index l.numbers) more
    → AreTaken (placed_explore l.now l.explore) l.numbers (l.taken ++ more)
