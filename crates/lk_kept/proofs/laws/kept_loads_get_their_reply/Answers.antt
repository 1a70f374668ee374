use Rattle.lk_kept.proofs.PlanLaws.{kept_planned}
use Rattle.lk_kept.proofs.laws.kept_loads_get_their_reply.Goals as goal

pub returns : goal.returns
returns c = kept_planned
