use Rattle.lk_semantics.proofs.PairLaws.{pairs_of-IsPermutation, pairs_of-again}
use Rattle.lk_semantics.proofs.laws.pairs_are_a_set.Goals as goal

pub returns-clause-order : goal.returns-clause-order
returns-clause-order c = pairs_of-IsPermutation

pub returns-clause-again : goal.returns-clause-again
returns-clause-again c = pairs_of-again
