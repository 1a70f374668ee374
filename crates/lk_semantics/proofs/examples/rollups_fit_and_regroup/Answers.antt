use Rattle.std.proofs.Common.{refl}
use Rattle.lk_val.specs.Fractions.{gcd, fits_128, reduced, frac_add, frac_mul, frac_div}
use Rattle.lk_val.specs.Rounding.{rounded, number_of}
use Rattle.lk_types.specs.Calendar.{from_year_one, day_of_moment, second_of_moment, year_of, month_of, day_of_month}
use Rattle.lk_semantics.proofs.examples.rollups_fit_and_regroup.Goals as goal

pub returns-clause-of_orders : goal.returns-clause-of_orders
unfolding gcd fits_128 reduced frac_add frac_mul frac_div rounded number_of from_year_one day_of_moment second_of_moment year_of month_of day_of_month
returns-clause-of_orders c = refl

pub returns-clause-of_items : goal.returns-clause-of_items
unfolding gcd fits_128 reduced frac_add frac_mul frac_div rounded number_of from_year_one day_of_moment second_of_moment year_of month_of day_of_month
returns-clause-of_items c = refl

pub returns-clause-there_with_items : goal.returns-clause-there_with_items
returns-clause-there_with_items c = refl

pub returns-clause-by_price_total : goal.returns-clause-by_price_total
unfolding gcd fits_128 reduced frac_add frac_mul frac_div rounded number_of from_year_one day_of_moment second_of_moment year_of month_of day_of_month
returns-clause-by_price_total c = refl

pub returns-clause-same_dimensions : goal.returns-clause-same_dimensions
unfolding gcd fits_128 reduced frac_add frac_mul frac_div rounded number_of from_year_one day_of_moment second_of_moment year_of month_of day_of_month
returns-clause-same_dimensions c = refl

pub returns-clause-by_price_count : goal.returns-clause-by_price_count
unfolding gcd fits_128 reduced frac_add frac_mul frac_div rounded number_of from_year_one day_of_moment second_of_moment year_of month_of day_of_month
returns-clause-by_price_count c = refl

pub returns-clause-left_join : goal.returns-clause-left_join
unfolding gcd fits_128 reduced frac_add frac_mul frac_div rounded number_of from_year_one day_of_moment second_of_moment year_of month_of day_of_month
returns-clause-left_join c = refl

pub returns-clause-inner_join : goal.returns-clause-inner_join
unfolding gcd fits_128 reduced frac_add frac_mul frac_div rounded number_of from_year_one day_of_moment second_of_moment year_of month_of day_of_month
returns-clause-inner_join c = refl

pub returns-clause-routed : goal.returns-clause-routed
unfolding gcd fits_128 reduced frac_add frac_mul frac_div rounded number_of from_year_one day_of_moment second_of_moment year_of month_of day_of_month
returns-clause-routed c = refl

pub returns-clause-fresh : goal.returns-clause-fresh
unfolding gcd fits_128 reduced frac_add frac_mul frac_div rounded number_of from_year_one day_of_moment second_of_moment year_of month_of day_of_month
returns-clause-fresh c = refl

pub returns-clause-price_total_routed : goal.returns-clause-price_total_routed
unfolding gcd fits_128 reduced frac_add frac_mul frac_div rounded number_of from_year_one day_of_moment second_of_moment year_of month_of day_of_month
returns-clause-price_total_routed c = refl

pub returns-clause-kept_by_day : goal.returns-clause-kept_by_day
unfolding gcd fits_128 reduced frac_add frac_mul frac_div rounded number_of from_year_one day_of_moment second_of_moment year_of month_of day_of_month
returns-clause-kept_by_day c = refl

pub returns-clause-stored : goal.returns-clause-stored
unfolding gcd fits_128 reduced frac_add frac_mul frac_div rounded number_of from_year_one day_of_moment second_of_moment year_of month_of day_of_month
returns-clause-stored c = refl

pub returns-clause-not_stored : goal.returns-clause-not_stored
unfolding gcd fits_128 reduced frac_add frac_mul frac_div rounded number_of from_year_one day_of_moment second_of_moment year_of month_of day_of_month
returns-clause-not_stored c = refl

pub returns-clause-average : goal.returns-clause-average
unfolding gcd fits_128 reduced frac_add frac_mul frac_div rounded number_of from_year_one day_of_moment second_of_moment year_of month_of day_of_month
returns-clause-average c = refl

pub returns-clause-average_of_averages : goal.returns-clause-average_of_averages
unfolding gcd fits_128 reduced frac_add frac_mul frac_div rounded number_of from_year_one day_of_moment second_of_moment year_of month_of day_of_month
returns-clause-average_of_averages c = refl

pub returns-clause-valid_table : goal.returns-clause-valid_table
unfolding gcd fits_128 reduced frac_add frac_mul frac_div rounded number_of from_year_one day_of_moment second_of_moment year_of month_of day_of_month
returns-clause-valid_table c = refl

pub returns-clause-key_twice : goal.returns-clause-key_twice
unfolding gcd fits_128 reduced frac_add frac_mul frac_div rounded number_of from_year_one day_of_moment second_of_moment year_of month_of day_of_month
returns-clause-key_twice c = refl
