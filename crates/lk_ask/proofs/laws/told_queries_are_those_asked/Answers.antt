use Rattle.lk_ask.proofs.ToldLaws.{bound_of_told}
use Rattle.lk_ask.proofs.laws.told_queries_are_those_asked.Goals as goal

pub returns : goal.returns
returns c = bound_of_told
