use Rattle.std.proofs.Common.{◌≡◌, ◌++◌, drop, map}
use Rattle.lk_types.specs.declared.model.Pick.TheVariants.{Mea}
use Rattle.lk_rollup.proofs.stored.add_measures.Given as goal

abbrev pub invariant-loop-measure : goal.invariant-loop-measure
invariant-loop-measure l = l.picks ++ map Mea (drop l.measure-index l.measures) ≡ l.fn.picks ++ map Mea l.measures
