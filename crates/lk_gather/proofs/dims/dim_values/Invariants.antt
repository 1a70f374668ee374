use Rattle.std.proofs.Common.{◌≡◌, map, take}
use Rattle.lk_gather.specs.Dims.{dim_of}
use Rattle.lk_gather.proofs.dims.dim_values.Given as goal

abbrev pub invariant-loop-dim : goal.invariant-loop-dim
invariant-loop-dim g l = l.values ≡ map (λ d. dim_of d (g.R.HasCells.row_of l.row)) (take l.dim-index l.dims)
