use Rattle.lk_session.proofs.FailureLaws.{saves_count}
use Rattle.lk_session.proofs.laws.failed_saves_are_counted.Goals as goal

pub returns : goal.returns
returns c = λ s last bytes rest sents how run. saves_count s last bytes rest sents how run
