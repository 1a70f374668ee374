use Rattle.lk_gather.proofs.ResolvedLaws.{all_fine, all_joins, one_more}
use Rattle.lk_gather.proofs.laws.resolved_explores_are_fine.Goals as goal

pub returns-clause-parts : goal.returns-clause-parts
returns-clause-parts c = one_more

pub returns-clause-explore : goal.returns-clause-explore
returns-clause-explore c = all_fine

pub returns-clause-conditions : goal.returns-clause-conditions
returns-clause-conditions c = all_joins
