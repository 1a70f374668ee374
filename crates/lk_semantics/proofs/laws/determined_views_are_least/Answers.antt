use Rattle.lk_semantics.proofs.StandingLaws.{standings-kept, standings-least}
use Rattle.lk_semantics.proofs.laws.determined_views_are_least.Goals as goal

pub returns-clause-closed : goal.returns-clause-closed
returns-clause-closed c = standings-kept

pub returns-clause-least : goal.returns-clause-least
returns-clause-least c = standings-least
