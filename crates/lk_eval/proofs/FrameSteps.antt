-- The weekday of a day or moment is that of its day.
use Rattle.std.proofs.Common.{◌≡◌, refl, ap, ◌∙◌}
use Rattle.lk_val.specs.declared.value.Value.{Value}
use Rattle.lk_types.specs.Timeframes.{timeframe_of}
use Rattle.lk_types.specs.declared.schema.Frame.TheVariants.{Date, DayOfWeek}
use Rattle.lk_time.specs.FrameValues.{IsInYears, frame_value}
use Rattle.lk_time.proofs.AgainLaws.{coarsened-timeframe_of}

pub weekday_again : (v day : Value) → IsInYears v → day ≡ frame_value DayOfWeek v → timeframe_of DayOfWeek day ≡ timeframe_of DayOfWeek v
weekday_again v day is same = ap (timeframe_of DayOfWeek) same ∙ coarsened-timeframe_of Date DayOfWeek v is refl
