use Rattle.lk_edition.proofs.VersionLaws.{list_stands}
use Rattle.lk_edition.proofs.laws.editions_in_a_list_stand.Goals as goal

pub returns : goal.returns
returns c = list_stands c.loads_keep_the_history.ensures c.checks_keep_the_history.ensures
