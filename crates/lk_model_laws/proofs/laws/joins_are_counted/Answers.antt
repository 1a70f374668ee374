use Rattle.lk_model_laws.proofs.ModelLaws.{have_few_joins, have_part_for_each_join}
use Rattle.lk_model_laws.proofs.laws.joins_are_counted.Goals as goal

pub returns : goal.returns
returns c = record { few = have_few_joins; parts = have_part_for_each_join }
