use Rattle.lk_model_laws.proofs.FixedModelLaws.{are_fixed_tables, have_fixed_rollups}
use Rattle.lk_model_laws.proofs.laws.stored_queries_are_fixed.Goals as goal

pub returns : goal.returns
returns c = record { rollups = have_fixed_rollups; derived = are_fixed_tables }
