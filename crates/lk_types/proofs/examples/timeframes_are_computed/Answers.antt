use Rattle.std.proofs.Common.{refl}
use Rattle.lk_val.specs.Fractions.{gcd, fits_128, reduced, frac_add, frac_mul, frac_div}
use Rattle.lk_val.specs.Rounding.{rounded, number_of}
use Rattle.lk_types.specs.Calendar.{from_year_one, day_of_moment, second_of_moment, year_of, month_of, day_of_month}
use Rattle.lk_types.proofs.examples.timeframes_are_computed.Goals as goal

pub returns-clause-week : goal.returns-clause-week
unfolding gcd fits_128 reduced frac_add frac_mul frac_div rounded number_of from_year_one day_of_moment second_of_moment year_of month_of day_of_month
returns-clause-week c = refl

pub returns-clause-quarter : goal.returns-clause-quarter
unfolding gcd fits_128 reduced frac_add frac_mul frac_div rounded number_of from_year_one day_of_moment second_of_moment year_of month_of day_of_month
returns-clause-quarter c = refl

pub returns-clause-hour : goal.returns-clause-hour
unfolding gcd fits_128 reduced frac_add frac_mul frac_div rounded number_of from_year_one day_of_moment second_of_moment year_of month_of day_of_month
returns-clause-hour c = refl

pub returns-clause-weekday : goal.returns-clause-weekday
unfolding gcd fits_128 reduced frac_add frac_mul frac_div rounded number_of from_year_one day_of_moment second_of_moment year_of month_of day_of_month
returns-clause-weekday c = refl

pub returns-clause-day : goal.returns-clause-day
unfolding gcd fits_128 reduced frac_add frac_mul frac_div rounded number_of from_year_one day_of_moment second_of_moment year_of month_of day_of_month
returns-clause-day c = refl

pub returns-clause-leap_day : goal.returns-clause-leap_day
unfolding gcd fits_128 reduced frac_add frac_mul frac_div rounded number_of from_year_one day_of_moment second_of_moment year_of month_of day_of_month
returns-clause-leap_day c = refl

pub returns-clause-last_month : goal.returns-clause-last_month
unfolding gcd fits_128 reduced frac_add frac_mul frac_div rounded number_of from_year_one day_of_moment second_of_moment year_of month_of day_of_month
returns-clause-last_month c = refl

pub returns-clause-first_year : goal.returns-clause-first_year
unfolding gcd fits_128 reduced frac_add frac_mul frac_div rounded number_of from_year_one day_of_moment second_of_moment year_of month_of day_of_month
returns-clause-first_year c = refl

pub returns-clause-before_1970 : goal.returns-clause-before_1970
unfolding gcd fits_128 reduced frac_add frac_mul frac_div rounded number_of from_year_one day_of_moment second_of_moment year_of month_of day_of_month
returns-clause-before_1970 c = refl
