use Rattle.std.proofs.Common.{refl}
use Rattle.lk_val.specs.Fractions.{gcd, fits_128, reduced, frac_add, frac_mul, frac_div}
use Rattle.lk_val.specs.Rounding.{rounded, number_of}
use Rattle.lk_types.specs.Calendar.{from_year_one, day_of_moment, second_of_moment, year_of, month_of, day_of_month}
use Rattle.lk_semantics.specs.Joins.{is_lone}
use Rattle.lk_semantics.proofs.examples.tables_are_joined.Goals as goal

pub returns-clause-inner : goal.returns-clause-inner
unfolding gcd fits_128 reduced frac_add frac_mul frac_div rounded number_of from_year_one day_of_moment second_of_moment year_of month_of day_of_month is_lone
returns-clause-inner c = refl

pub returns-clause-left : goal.returns-clause-left
unfolding gcd fits_128 reduced frac_add frac_mul frac_div rounded number_of from_year_one day_of_moment second_of_moment year_of month_of day_of_month is_lone
returns-clause-left c = refl

pub returns-clause-full : goal.returns-clause-full
unfolding gcd fits_128 reduced frac_add frac_mul frac_div rounded number_of from_year_one day_of_moment second_of_moment year_of month_of day_of_month is_lone
returns-clause-full c = refl

pub returns-clause-cross : goal.returns-clause-cross
unfolding gcd fits_128 reduced frac_add frac_mul frac_div rounded number_of from_year_one day_of_moment second_of_moment year_of month_of day_of_month is_lone
returns-clause-cross c = refl

pub returns-clause-needed_of_totals : goal.returns-clause-needed_of_totals
unfolding gcd fits_128 reduced frac_add frac_mul frac_div rounded number_of from_year_one day_of_moment second_of_moment year_of month_of day_of_month is_lone
returns-clause-needed_of_totals c = refl

pub returns-clause-needed_of_months : goal.returns-clause-needed_of_months
unfolding gcd fits_128 reduced frac_add frac_mul frac_div rounded number_of from_year_one day_of_moment second_of_moment year_of month_of day_of_month is_lone
returns-clause-needed_of_months c = refl

pub returns-clause-fanned_orders : goal.returns-clause-fanned_orders
unfolding gcd fits_128 reduced frac_add frac_mul frac_div rounded number_of from_year_one day_of_moment second_of_moment year_of month_of day_of_month is_lone
returns-clause-fanned_orders c = refl

pub returns-clause-items_once : goal.returns-clause-items_once
unfolding gcd fits_128 reduced frac_add frac_mul frac_div rounded number_of from_year_one day_of_moment second_of_moment year_of month_of day_of_month is_lone
returns-clause-items_once c = refl
