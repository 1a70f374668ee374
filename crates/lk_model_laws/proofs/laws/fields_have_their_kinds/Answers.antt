use Rattle.lk_model_laws.proofs.KindModelLaws.{have_coded_dimensions, have_coded_measures}
use Rattle.lk_model_laws.proofs.laws.fields_have_their_kinds.Goals as goal

pub returns : goal.returns
returns c = record { dimensions = have_coded_dimensions; measures = have_coded_measures }
