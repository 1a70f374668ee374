use Rattle.std.proofs.Common.{refl}
use Rattle.lk_val.specs.Fractions.{gcd, fits_128, reduced, frac_add, frac_mul, frac_div}
use Rattle.lk_val.specs.Rounding.{rounded, number_of}
use Rattle.lk_types.specs.Calendar.{from_year_one, day_of_moment, second_of_moment, year_of, month_of, day_of_month}
use Rattle.lk_semantics.proofs.examples.shop_filters_and_sorts_apply.Goals as goal

pub returns-clause-per_order : goal.returns-clause-per_order
unfolding gcd fits_128 reduced frac_add frac_mul frac_div rounded number_of from_year_one day_of_moment second_of_moment year_of month_of day_of_month
returns-clause-per_order c = refl

pub returns-clause-per_no_order : goal.returns-clause-per_no_order
unfolding gcd fits_128 reduced frac_add frac_mul frac_div rounded number_of from_year_one day_of_moment second_of_moment year_of month_of day_of_month
returns-clause-per_no_order c = refl

pub returns-clause-greatest : goal.returns-clause-greatest
unfolding gcd fits_128 reduced frac_add frac_mul frac_div rounded number_of from_year_one day_of_moment second_of_moment year_of month_of day_of_month
returns-clause-greatest c = refl

pub returns-clause-large_totals : goal.returns-clause-large_totals
unfolding gcd fits_128 reduced frac_add frac_mul frac_div rounded number_of from_year_one day_of_moment second_of_moment year_of month_of day_of_month
returns-clause-large_totals c = refl

pub returns-clause-first_by_total : goal.returns-clause-first_by_total
unfolding gcd fits_128 reduced frac_add frac_mul frac_div rounded number_of from_year_one day_of_moment second_of_moment year_of month_of day_of_month
returns-clause-first_by_total c = refl

pub returns-clause-complete_orders : goal.returns-clause-complete_orders
unfolding gcd fits_128 reduced frac_add frac_mul frac_div rounded number_of from_year_one day_of_moment second_of_moment year_of month_of day_of_month
returns-clause-complete_orders c = refl

pub returns-clause-unknown_does_not_pass : goal.returns-clause-unknown_does_not_pass
unfolding gcd fits_128 reduced frac_add frac_mul frac_div rounded number_of from_year_one day_of_moment second_of_moment year_of month_of day_of_month
returns-clause-unknown_does_not_pass c = refl
