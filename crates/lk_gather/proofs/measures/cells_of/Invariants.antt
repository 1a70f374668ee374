use Rattle.std.proofs.Common.{◌≡◌, map, take}
use Rattle.lk_gather.specs.Measures.{taken_of}
use Rattle.lk_gather.proofs.measures.cells_of.Given as goal

abbrev pub invariant-loop-one : goal.invariant-loop-one
invariant-loop-one l = l.cells ≡ map (λ t. taken_of t l.row) (take l.one-index l.taken)
