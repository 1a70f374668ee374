use Rattle.lk_filter.proofs.SamenessLaws.{filter-itself, filter-turned, filter-trans, test-exact, test-itself}
use Rattle.lk_filter.proofs.laws.sameness_is_an_equivalence.Goals as goal

pub returns : goal.returns
returns c = record { reflexive = filter-itself; symmetric = filter-turned; transitive = filter-trans; equal = test-exact; itself = test-itself }
