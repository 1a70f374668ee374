use Rattle.lk_complete_laws.proofs.BodyReadings.{body_read}
use Rattle.lk_complete_laws.proofs.laws.bodies_bind_or_are_refused.Goals as goal

pub returns : goal.returns
returns c = body_read c.texts_are_filters_or_refused.ensures
