use Rattle.lk_edition.proofs.HistoryLaws.{checked_stands}
use Rattle.lk_edition.proofs.laws.checks_keep_the_history.Goals as goal

pub returns : goal.returns
returns c = checked_stands c.what_is_built_anew_is_kept.ensures
