use Rattle.std.proofs.Common.{◌≡◌, length}
use Rattle.lk_http.specs.Targets.{skip_empty}
use Rattle.lk_http.proofs.head.skip_empty.Given as goal

abbrev pub invariant-loop-rest : goal.invariant-loop-rest
invariant-loop-rest l = skip_empty l.rest ≡ skip_empty l.head

abbrev pub decreases-loop-rest : goal.decreases-loop-rest
decreases-loop-rest l = length l.rest
