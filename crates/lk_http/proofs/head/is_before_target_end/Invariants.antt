use Rattle.std.proofs.Common.{◌≡◌, length, false}
use Rattle.lk_http.specs.Targets.{is_before_target_end}
use Rattle.lk_http.proofs.head.is_before_target_end.Given as goal

abbrev pub invariant-loop-rest : goal.invariant-loop-rest
invariant-loop-rest l = is_before_target_end l.begun l.rest ≡ is_before_target_end false l.line

abbrev pub decreases-loop-rest : goal.decreases-loop-rest
decreases-loop-rest l = length l.rest
