use Rattle.std.proofs.Common.{◌≡◌, IfOk, subst}
use Rattle.lk_val.specs.declared.value.Value.{Value}
use Rattle.lk_val.specs.declared.value.Value.TheVariants as value
use Rattle.lk_eval.proofs.FrameSteps.{weekday_again}
use Rattle.lk_eval.proofs.framed.weekday_of.Goals as goal

pub returns-in-Day : goal.returns-in-Day
returns-in-Day c =
    subst (λ (name_of : Value). IfOk c.day_text.result (λ name. name ≡ name_of))
    (weekday_again c.args.v.now (value.Day c.in-Day.field-0) c.requires c.in-Day.ensures.value)
    c.day_text.ensures
