use Rattle.lk_dated.proofs.KindLaws.{as_known}
use Rattle.lk_formulas.proofs.laws.kinds_are_those_of_resolved_expressions.Goals as goal

pub returns : goal.returns
returns c = λ leaves e. as_known leaves e
