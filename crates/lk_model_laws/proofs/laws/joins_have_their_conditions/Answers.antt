use Rattle.lk_model_laws.proofs.JoinModelLaws.{have_typed_joins, have_whole_joins}
use Rattle.lk_model_laws.proofs.laws.joins_have_their_conditions.Goals as goal

pub returns : goal.returns
returns c = record { joins = have_typed_joins; conditions = have_whole_joins }
