use Rattle.std.proofs.Common.{refl}
use Rattle.lk_val.specs.Fractions.{gcd, fits_128, reduced, frac_add, frac_mul, frac_div}
use Rattle.lk_val.specs.Rounding.{rounded, number_of}
use Rattle.lk_types.specs.Calendar.{from_year_one, day_of_moment, second_of_moment, year_of, month_of, day_of_month}
use Rattle.lk_semantics.proofs.examples.shop_queries_are_answered.Goals as goal

pub returns-clause-totals_once : goal.returns-clause-totals_once
unfolding gcd fits_128 reduced frac_add frac_mul frac_div rounded number_of from_year_one day_of_moment second_of_moment year_of month_of day_of_month
returns-clause-totals_once c = refl

pub returns-clause-exact_average : goal.returns-clause-exact_average
unfolding gcd fits_128 reduced frac_add frac_mul frac_div rounded number_of from_year_one day_of_moment second_of_moment year_of month_of day_of_month
returns-clause-exact_average c = refl

pub returns-clause-by_price : goal.returns-clause-by_price
unfolding gcd fits_128 reduced frac_add frac_mul frac_div rounded number_of from_year_one day_of_moment second_of_moment year_of month_of day_of_month
returns-clause-by_price c = refl

pub returns-clause-count_of_nothing : goal.returns-clause-count_of_nothing
unfolding gcd fits_128 reduced frac_add frac_mul frac_div rounded number_of from_year_one day_of_moment second_of_moment year_of month_of day_of_month
returns-clause-count_of_nothing c = refl

pub returns-clause-groups_of_nothing : goal.returns-clause-groups_of_nothing
unfolding gcd fits_128 reduced frac_add frac_mul frac_div rounded number_of from_year_one day_of_moment second_of_moment year_of month_of day_of_month
returns-clause-groups_of_nothing c = refl

pub returns-clause-by_month : goal.returns-clause-by_month
unfolding gcd fits_128 reduced frac_add frac_mul frac_div rounded number_of from_year_one day_of_moment second_of_moment year_of month_of day_of_month
returns-clause-by_month c = refl

pub returns-clause-by_week : goal.returns-clause-by_week
unfolding gcd fits_128 reduced frac_add frac_mul frac_div rounded number_of from_year_one day_of_moment second_of_moment year_of month_of day_of_month
returns-clause-by_week c = refl

pub returns-clause-for_one_caller : goal.returns-clause-for_one_caller
unfolding gcd fits_128 reduced frac_add frac_mul frac_div rounded number_of from_year_one day_of_moment second_of_moment year_of month_of day_of_month
returns-clause-for_one_caller c = refl

pub returns-clause-past_a_value : goal.returns-clause-past_a_value
unfolding gcd fits_128 reduced frac_add frac_mul frac_div rounded number_of from_year_one day_of_moment second_of_moment year_of month_of day_of_month
returns-clause-past_a_value c = refl
