use Rattle.lk_filter.proofs.OneFilterLaws.{one_fault_place}
use Rattle.lk_filter.proofs.laws.faults_have_one_place.Goals as goal

pub returns : goal.returns
returns c = one_fault_place
