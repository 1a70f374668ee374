use Rattle.lk_model_laws.proofs.ModelLaws.{are_acyclic, are_derived, have_one_datagroup, may_be_stored}
use Rattle.lk_model_laws.proofs.laws.measures_may_be_stored.Goals as goal

pub returns : goal.returns
returns c = record { rollups = may_be_stored; derived = are_derived; one_datagroup = have_one_datagroup; acyclic = are_acyclic }
