use Rattle.std.proofs.Common.{refl}
use Rattle.std.specs.Fmt.{digits}
use Rattle.lk_types.specs.Calendar.{from_year_one, day_of_moment, second_of_moment, year_of, month_of, day_of_month}
use Rattle.lk_types.specs.Printing.{date_text, time_text}
use Rattle.lk_sql_tree.proofs.examples.selects_have_their_texts.Goals as goal

pub returns-clause-total_and_count : goal.returns-clause-total_and_count
unfolding digits
returns-clause-total_and_count c = refl

pub returns-clause-total_by_month : goal.returns-clause-total_by_month
unfolding digits
returns-clause-total_by_month c = refl

pub returns-clause-quoted_names : goal.returns-clause-quoted_names
unfolding digits
returns-clause-quoted_names c = refl

pub returns-clause-each_form : goal.returns-clause-each_form
unfolding digits
returns-clause-each_form c = refl

pub returns-clause-counts : goal.returns-clause-counts
unfolding digits
returns-clause-counts c = refl

pub returns-clause-day_and_moment : goal.returns-clause-day_and_moment
unfolding digits from_year_one day_of_moment second_of_moment year_of month_of day_of_month date_text time_text
returns-clause-day_and_moment c = refl
