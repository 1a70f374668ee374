use Rattle.lk_kept.proofs.StoreLaws.{stores_hold}
use Rattle.lk_kept.proofs.laws.stores_hold_the_last_state.Goals as goal

pub returns : goal.returns
returns c = stores_hold c.batch_texts_read_back.ensures
