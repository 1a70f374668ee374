use Rattle.std.proofs.Common.{◌≡◌, ◌++◌, drop, map}
use Rattle.lk_semantics.specs.Answers.{dims_of}
use Rattle.lk_regroup.specs.FieldSources.{source_of}
use Rattle.lk_regroup.proofs.source.picked_sources.Given as goal

abbrev pub invariant-loop-pick : goal.invariant-loop-pick
invariant-loop-pick l = l.sources ++ map (source_of l.x l.dims) (dims_of (drop l.pick-index l.picks)) ≡ map (source_of l.x l.dims) (dims_of l.picks)
