use Rattle.lk_derived.proofs.FittingModels.{derived-fits}
use Rattle.lk_derived.proofs.laws.derived_rows_have_their_kinds.Goals as goal

pub returns : goal.returns
returns c = derived-fits
