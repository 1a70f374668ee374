use Rattle.lk_val.proofs.FractionLaws.{cmp-value, cmp-itself, cmp-equal, cmp-turned, cmp-less}
use Rattle.lk_val.proofs.laws.fractions_are_ordered.Goals as goal

pub returns-clause-value : goal.returns-clause-value
returns-clause-value c = cmp-value

pub returns-clause-itself : goal.returns-clause-itself
returns-clause-itself c = cmp-itself

pub returns-clause-tied : goal.returns-clause-tied
returns-clause-tied c = cmp-equal

pub returns-clause-turned : goal.returns-clause-turned
returns-clause-turned c = cmp-turned

pub returns-clause-less : goal.returns-clause-less
returns-clause-less c = cmp-less
