use Rattle.lk_links.proofs.FailureLaws.{unsaved_count}
use Rattle.lk_links.proofs.laws.unsaved_requests_are_counted.Goals as goal

pub returns : goal.returns
returns c = λ s last bytes rest sents how run. unsaved_count s last bytes rest sents how run
