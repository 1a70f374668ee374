use Rattle.lk_answer.proofs.RouteLaws.{one_named}
use Rattle.lk_answer.proofs.laws.one_state_is_named.Goals as goal

pub returns : goal.returns
returns c = λ e b stands. one_named e stands b
