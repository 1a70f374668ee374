use Rattle.lk_derived.proofs.DatedModels.{resolved-dated}
use Rattle.lk_derived.proofs.laws.resolved_explores_are_dated.Goals as goal

pub returns : goal.returns
returns c = resolved-dated
