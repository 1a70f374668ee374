use Rattle.std.proofs.Common.{refl}
use Rattle.lk_val.specs.Fractions.{gcd, fits_128, reduced, frac_add, frac_mul, frac_div}
use Rattle.lk_val.specs.Rounding.{rounded, number_of}
use Rattle.lk_types.specs.Calendar.{from_year_one, day_of_moment, second_of_moment, year_of, month_of, day_of_month}
use Rattle.lk_semantics.proofs.examples.conflicts_are_of_visible_rows.Goals as goal

pub returns-clause-two_prices : goal.returns-clause-two_prices
unfolding gcd fits_128 reduced frac_add frac_mul frac_div rounded number_of from_year_one day_of_moment second_of_moment year_of month_of day_of_month
returns-clause-two_prices c = refl

pub returns-clause-filtered_prices : goal.returns-clause-filtered_prices
unfolding gcd fits_128 reduced frac_add frac_mul frac_div rounded number_of from_year_one day_of_moment second_of_moment year_of month_of day_of_month
returns-clause-filtered_prices c = refl

pub returns-clause-seen : goal.returns-clause-seen
unfolding gcd fits_128 reduced frac_add frac_mul frac_div rounded number_of from_year_one day_of_moment second_of_moment year_of month_of day_of_month
returns-clause-seen c = refl

pub returns-clause-hidden : goal.returns-clause-hidden
unfolding gcd fits_128 reduced frac_add frac_mul frac_div rounded number_of from_year_one day_of_moment second_of_moment year_of month_of day_of_month
returns-clause-hidden c = refl
