use Rattle.std.proofs.Common.{◌≡◌, ◌++◌, map, take}
use Rattle.lk_types.specs.declared.model.Pick.TheVariants.{Dim, Mea}
use Rattle.lk_stored.proofs.faults.rollup_picks.Given as goal

abbrev pub invariant-loop-dim : goal.invariant-loop-dim
invariant-loop-dim l = l.picks ≡ map Dim (take l.dim-index l.dim-items)

abbrev pub invariant-loop-measure : goal.invariant-loop-measure
invariant-loop-measure l = l.picks ≡ map Dim l.rollup.dims ++ map Mea (take l.measure-index l.measure-items)
