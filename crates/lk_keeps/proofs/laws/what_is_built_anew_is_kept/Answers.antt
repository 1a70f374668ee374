use Rattle.lk_keeps.proofs.AnewLaws.{kept_after}
use Rattle.lk_keeps.proofs.laws.what_is_built_anew_is_kept.Goals as goal

pub returns : goal.returns
returns c = λ m groups stored built. kept_after m groups stored built
