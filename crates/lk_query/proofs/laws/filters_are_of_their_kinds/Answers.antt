use Rattle.lk_query.proofs.KindLaws.{kind_read}
use Rattle.lk_query.proofs.PlacedKindLaws.{kind_placed}
use Rattle.lk_query.proofs.laws.filters_are_of_their_kinds.Goals as goal

pub returns-clause-read : goal.returns-clause-read
returns-clause-read c = λ k f text is. kind_read k f text is

pub returns-clause-placed : goal.returns-clause-placed
returns-clause-placed c = λ k f now years is. kind_placed k f now years is
