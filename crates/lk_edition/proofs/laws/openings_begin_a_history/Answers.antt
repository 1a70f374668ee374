use Rattle.lk_edition.proofs.HistoryLaws.{opened_stands}
use Rattle.lk_edition.proofs.laws.openings_begin_a_history.Goals as goal

pub returns : goal.returns
returns c = opened_stands c.loads_keep_tables_valid.ensures.loaded c.loads_keep_tables_valid.ensures.nothing
