use Rattle.lk_model_laws.proofs.KindModelLaws.{have_number_names, have_truths, have_typed_fields, have_typed_keys, have_typed_measures}
use Rattle.lk_model_laws.proofs.laws.expressions_have_their_kinds.Goals as goal

pub returns : goal.returns
returns c = record { keys = have_typed_keys; dimensions = have_typed_fields; measures = have_typed_measures; calculations = have_number_names; conditions = have_truths }
