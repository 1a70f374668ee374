use Rattle.std.proofs.Common.{◌≡◌, drop}
use Rattle.lk_regroup.specs.FieldSources.{source_from, source_of}
use Rattle.lk_regroup.proofs.source.source_of.Given as goal

abbrev pub invariant-loop-place : goal.invariant-loop-place
invariant-loop-place l = source_from l.x l.f l.place (drop l.place l.dims) ≡ source_of l.x l.dims l.f
