use Rattle.lk_keeps.proofs.AnewLaws.{all_whole}
use Rattle.lk_keeps.proofs.laws.all_built_anew_are_whole.Goals as goal

pub returns : goal.returns
returns c = λ m stored resolved. all_whole m stored resolved
