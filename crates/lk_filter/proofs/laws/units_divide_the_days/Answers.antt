use Rattle.lk_filter.proofs.UnitLaws.{unit_has, unit_grows}
use Rattle.lk_filter.proofs.laws.units_divide_the_days.Goals as goal

pub returns : goal.returns
returns c = record { lies = unit_has; grow = unit_grows }
