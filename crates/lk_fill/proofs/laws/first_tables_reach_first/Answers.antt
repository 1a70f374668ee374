use Rattle.lk_fill.proofs.ReachedLaws.{reached_is}
use Rattle.lk_fill.proofs.laws.first_tables_reach_first.Goals as goal

pub returns : goal.returns
returns c m e joins resolved = reached_is m resolved e joins
