use Rattle.std.proofs.Common.{◌≡◌, drop}
use Rattle.lk_regroup.specs.ComponentParts.{place_from}
use Rattle.lk_regroup.proofs.component.place_of.Given as goal

abbrev pub invariant-loop-place : goal.invariant-loop-place
invariant-loop-place l = place_from l.m l.place (drop l.place l.measures) ≡ place_from l.m 0 l.measures
