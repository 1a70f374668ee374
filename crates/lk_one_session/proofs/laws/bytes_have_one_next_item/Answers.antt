use Rattle.lk_one_session.proofs.NextItems.{next_ahead, one_next}
use Rattle.lk_one_session.proofs.laws.bytes_have_one_next_item.Goals as goal

pub returns : goal.returns
returns c = record { one = one_next; ahead = next_ahead }
