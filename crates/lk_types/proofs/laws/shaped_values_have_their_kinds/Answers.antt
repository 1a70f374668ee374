use Rattle.lk_types.proofs.ShapeLaws.{shaped_kinds}
use Rattle.lk_types.proofs.laws.shaped_values_have_their_kinds.Goals as goal

pub returns : goal.returns
returns c = record { kind = shaped_kinds }
