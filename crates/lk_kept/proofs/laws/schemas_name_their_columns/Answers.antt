use Rattle.lk_kept.proofs.SchemaLaws.{schema_named}
use Rattle.lk_kept.proofs.laws.schemas_name_their_columns.Goals as goal

pub returns : goal.returns
returns c = schema_named
