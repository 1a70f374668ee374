use Rattle.lk_semantics.proofs.IsolationLaws.{isolation}
use Rattle.lk_semantics.proofs.laws.answers_are_isolated.Goals as goal

pub returns : goal.returns
returns c = record { isolated = isolation }
