use Rattle.lk_read.proofs.OneOutcome.{one_outcome, some_outcome}
use Rattle.lk_read.proofs.read_fault.a_text_has_one_outcome.Goals as goal

pub returns : goal.returns
returns c = record { one = one_outcome; some = some_outcome }
