use Rattle.std.proofs.Common.{◌≡◌, ◌++◌, drop}
use Rattle.std.specs.Prelude.{filter}
use Rattle.lk_resolved.specs.Names.{is_group_at}
use Rattle.lk_resolved.proofs.names.groups.Given as goal

abbrev pub invariant-loop-place : goal.invariant-loop-place
invariant-loop-place l =
    l.groups ++ filter (is_group_at l.views l.scope) (drop l.place-index l.places) ≡ filter (is_group_at l.views l.scope) l.places
