use Rattle.lk_filter_date.proofs.forms.MonthDays.new.Goals as goal

pub returns : goal.returns
returns c = record {
  twenty_eight = c.in_ok-numerals_from.ensures;
  thirty = c.in_ok-numerals_from-2.ensures;
  thirty_one = c.in_ok-numerals_from-3.ensures;
}
