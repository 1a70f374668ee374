use Rattle.lk_filter.proofs.PlacingLaws.{placed-placed, placed-kept}
use Rattle.lk_filter.proofs.PlacedModelLaws.{model-placed}
use Rattle.lk_filter.proofs.laws.placing_leaves_no_relative_date.Goals as goal

pub returns : goal.returns
returns c = record { placed = placed-placed; kept = placed-kept; models = model-placed }
