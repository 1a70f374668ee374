use Rattle.lk_model_laws.proofs.SpelledModelLaws.{have_codes, have_conditions, have_own_names}
use Rattle.lk_model_laws.proofs.laws.spelled_objects_suffice.Goals as goal

pub returns : goal.returns
returns c = record { codes = have_codes; conditions = have_conditions; names = have_own_names }
