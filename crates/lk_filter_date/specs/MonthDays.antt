-- The forms of the days of a month, made once for the months that have as many.
use Rattle.std.specs.Prelude.{◌≡◌}
use Rattle.lk_filter_date.specs.DateTexts.{numerals}
use Rattle.lk_filter_date.specs.declared.forms.MonthDays.{MonthDays}

pub record AreMonthDays (days : MonthDays) : Type 0 where
  pub twenty_eight : days.twenty_eight ≡ numerals 28
  pub thirty : days.thirty ≡ numerals 30
  pub thirty_one : days.thirty_one ≡ numerals 31
