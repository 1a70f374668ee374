use Rattle.std.proofs.Common.{◌≡◌, map}
use Rattle.lk_fill.specs.Reached.{group_within}
use Rattle.lk_fill.proofs.reached.groups_reached.Given as goal

abbrev pub invariant-loop-round : goal.invariant-loop-round
invariant-loop-round l = l.groups ≡ map (group_within l.m l._round) l.m.derived
