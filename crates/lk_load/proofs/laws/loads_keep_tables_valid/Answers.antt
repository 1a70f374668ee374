use Rattle.std.proofs.Common.{refl}
use Rattle.lk_load.proofs.ValidLaws.{load_kept, nothing_valid}
use Rattle.lk_load.proofs.laws.loads_keep_tables_valid.Goals as goal

pub returns-clause-loaded : goal.returns-clause-loaded
returns-clause-loaded c = λ def rows text replace t valid e. load_kept def rows text replace t valid e

pub returns-clause-nothing : goal.returns-clause-nothing
returns-clause-nothing c = λ def. record { valid = nothing_valid def; shaped = refl }
