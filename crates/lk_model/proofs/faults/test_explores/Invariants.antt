use Rattle.std.proofs.Common.{◌≡◌, drop}
use Rattle.lk_scope.specs.Pieces.{first_at}
use Rattle.lk_model.specs.Faults.{explore_line}
use Rattle.lk_model.proofs.faults.test_explores.Given as goal

abbrev pub invariant-loop-explore : goal.invariant-loop-explore
invariant-loop-explore l =
    first_at (explore_line l.schema l.declared l.kinds) (drop l.explore-index l.explore-items) ≡ first_at (explore_line l.schema l.declared l.kinds) l.declared.explores
