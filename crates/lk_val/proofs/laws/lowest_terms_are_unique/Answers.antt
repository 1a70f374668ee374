use Rattle.lk_val.proofs.FractionSteps.{reduced-is}
use Rattle.lk_val.proofs.FractionLaws.{reduced-value, reduced-unique}
use Rattle.lk_val.proofs.laws.lowest_terms_are_unique.Goals as goal

pub returns-clause-lowest : goal.returns-clause-lowest
returns-clause-lowest c = reduced-is

pub returns-clause-value : goal.returns-clause-value
returns-clause-value c = λ n d h. reduced-value n d

pub returns-clause-unique : goal.returns-clause-unique
returns-clause-unique c = reduced-unique
