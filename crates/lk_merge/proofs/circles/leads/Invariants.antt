use Rattle.std.proofs.Common.{◌≡◌, drop}
use Rattle.lk_merge.specs.Ranks.{leads}
use Rattle.lk_merge.proofs.circles.leads.Given as goal

abbrev pub invariant-loop-step : goal.invariant-loop-step
invariant-loop-step l = leads l.all.them.now l.kind (drop l.step-index l.path) l.at l.to ≡ leads l.all.them.now l.kind l.path l.from l.to
