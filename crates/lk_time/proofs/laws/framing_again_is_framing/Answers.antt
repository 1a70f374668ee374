use Rattle.std.proofs.Common.{refl}
use Rattle.lk_types.specs.declared.schema.Frame.TheVariants.{Date, DayOfWeek}
use Rattle.lk_time.proofs.AgainLaws.{coarsened-timeframe_of}
use Rattle.lk_time.proofs.laws.framing_again_is_framing.Goals as goal

pub returns-clause-again : goal.returns-clause-again
returns-clause-again c = coarsened-timeframe_of

pub returns-clause-weekday : goal.returns-clause-weekday
returns-clause-weekday c = λ v is. coarsened-timeframe_of Date DayOfWeek v is refl
