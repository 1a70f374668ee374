use Rattle.lk_semantics.proofs.JoinLaws.{needed_joins-kept, needed_joins-least}
use Rattle.lk_semantics.proofs.laws.needed_joins_are_least.Goals as goal

pub returns-clause-closed : goal.returns-clause-closed
returns-clause-closed c = needed_joins-kept

pub returns-clause-least : goal.returns-clause-least
returns-clause-least c = needed_joins-least
