use Rattle.lk_val.proofs.RoundingLaws.{rounded-is, rounded-only}
use Rattle.lk_val.proofs.laws.rounding_is_nearest.Goals as goal

pub returns-clause-nearest : goal.returns-clause-nearest
returns-clause-nearest c = rounded-is

pub returns-clause-only : goal.returns-clause-only
returns-clause-only c = rounded-only
