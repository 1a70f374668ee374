use Rattle.std.proofs.Common.{◌≡◌, ◌++◌, map, drop}
use Rattle.lk_scope.specs.Scopes.{part_of_join}
use Rattle.lk_scope.proofs.scopes.add_joined.Given as goal

abbrev pub invariant-loop-join : goal.invariant-loop-join
invariant-loop-join l =
    l.parts ++ map (part_of_join l.views) (drop l.join-index l.joins) ≡ l.fn.parts ++ map (part_of_join l.views) l.joins
