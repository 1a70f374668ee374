use Rattle.std.proofs.Common.{◌≡◌, IfOk, subst, ap, ◌∙◌, refl}
use Rattle.lk_val.specs.declared.value.Value.{Value}
use Rattle.lk_types.specs.Timeframes.{timeframe_of}
use Rattle.lk_types.specs.declared.schema.Frame.TheVariants as frame
use Rattle.lk_time.proofs.AgainLaws.{coarsened-timeframe_of}
use Rattle.lk_regroup.proofs.framing.weekday_of.Goals as goal

-- the weekday of a day or moment is that of its day
pub returns-in-Day : goal.returns-in-Day
returns-in-Day c =
    subst (λ (name_of : Value). IfOk c.day_text.result (λ name. name ≡ name_of))
    (ap (timeframe_of frame.DayOfWeek) c.in-Day.ensures.value ∙ coarsened-timeframe_of frame.Date frame.DayOfWeek c.args.v.now c.requires refl)
    c.day_text.ensures
