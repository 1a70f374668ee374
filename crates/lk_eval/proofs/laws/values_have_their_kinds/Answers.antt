use Rattle.lk_types.specs.Expressions.{value_of}
use Rattle.lk_types.specs.Kinds.{kinds_of}
use Rattle.lk_eval.proofs.KindLaws.{value_of-fits, of_single, of_several}
use Rattle.lk_eval.proofs.laws.values_have_their_kinds.Goals as goal

pub returns-clause-known : goal.returns-clause-known
returns-clause-known c = λ leaves e row k h is. of_single (kinds_of leaves e) (value_of e row) k (value_of-fits leaves e row h) is

pub returns-clause-open : goal.returns-clause-open
returns-clause-open c = λ leaves e row h some is. of_several (kinds_of leaves e) (value_of e row) (value_of-fits leaves e row h) some is
