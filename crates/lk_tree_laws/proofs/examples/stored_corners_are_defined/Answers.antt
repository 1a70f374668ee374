use Rattle.std.proofs.Common.{refl, arith}
use Rattle.lk_tree_laws.proofs.examples.stored_corners_are_defined.Goals as goal

-- the first two fields would be of one group, and their views one
pub returns-clause-groups : goal.returns-clause-groups
returns-clause-groups c = λ h. absurd (omega (arith, (h.0.1.0 refl).0))

pub returns-clause-stored : goal.returns-clause-stored
returns-clause-stored c = refl

pub returns-clause-finer : goal.returns-clause-finer
returns-clause-finer c = refl
