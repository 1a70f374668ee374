use Rattle.std.proofs.Common.{◌≡◌, ◌++◌, drop}
use Rattle.std.specs.List.{flat_map}
use Rattle.lk_resolved.specs.Names.{measures_at}
use Rattle.lk_resolved.proofs.names.measures.Given as goal

abbrev pub invariant-loop-place : goal.invariant-loop-place
invariant-loop-place l =
    l.named ++ flat_map (measures_at l.views l.scope) (drop l.place-index l.places) ≡ flat_map (measures_at l.views l.scope) l.places
