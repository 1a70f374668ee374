use Rattle.lk_some_reply.proofs.Requests.{some_served}
use Rattle.lk_some_reply.proofs.laws.requests_are_served.Goals as goal

pub returns : goal.returns
returns c past s request timed = some_served past c.bodies_bind_or_are_refused.ensures s request timed
