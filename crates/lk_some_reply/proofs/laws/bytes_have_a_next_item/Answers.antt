use Rattle.lk_some_reply.proofs.Items.{some_next}
use Rattle.lk_some_reply.proofs.laws.bytes_have_a_next_item.Goals as goal

pub returns : goal.returns
returns c = some_next
