use Rattle.lk_semantics.proofs.DepthLaws as depth
use Rattle.lk_semantics.proofs.laws.derived_rows_are_whole.Goals as goal

pub returns : goal.returns
returns c = depth.derived_rows_are_whole
