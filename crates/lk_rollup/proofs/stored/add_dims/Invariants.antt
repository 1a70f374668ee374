use Rattle.std.proofs.Common.{◌≡◌, ◌++◌, drop, map}
use Rattle.lk_types.specs.declared.model.Pick.TheVariants.{Dim}
use Rattle.lk_rollup.proofs.stored.add_dims.Given as goal

abbrev pub invariant-loop-dim : goal.invariant-loop-dim
invariant-loop-dim l = l.picks ++ map Dim (drop l.dim-index l.dims) ≡ l.fn.picks ++ map Dim l.dims
