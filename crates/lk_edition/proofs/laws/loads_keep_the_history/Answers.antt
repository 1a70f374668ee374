use Rattle.lk_edition.proofs.HistoryLaws.{loaded_stands}
use Rattle.lk_edition.proofs.laws.loads_keep_the_history.Goals as goal

pub returns : goal.returns
returns c = loaded_stands c.loads_keep_tables_valid.ensures.loaded
