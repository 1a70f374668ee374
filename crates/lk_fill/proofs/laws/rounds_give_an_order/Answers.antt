use Rattle.lk_fill.proofs.OrderLaws.{rounds-order}
use Rattle.lk_fill.proofs.laws.rounds_give_an_order.Goals as goal

pub returns : goal.returns
returns c = rounds-order
