use Rattle.std.proofs.Common.{refl}
use Rattle.lk_val.specs.Fractions.{gcd, fits_128, reduced, frac_add, frac_mul, frac_div}
use Rattle.lk_val.specs.Rounding.{rounded, number_of}
use Rattle.lk_types.specs.Calendar.{from_year_one, day_of_moment, second_of_moment, year_of, month_of, day_of_month}
use Rattle.lk_semantics.proofs.examples.wrong_definitions_differ.Goals as goal

pub returns-clause-over_rows : goal.returns-clause-over_rows
unfolding gcd fits_128 reduced frac_add frac_mul frac_div rounded number_of from_year_one day_of_moment second_of_moment year_of month_of day_of_month
returns-clause-over_rows c = refl

pub returns-clause-over_keys : goal.returns-clause-over_keys
unfolding gcd fits_128 reduced frac_add frac_mul frac_div rounded number_of from_year_one day_of_moment second_of_moment year_of month_of day_of_month
returns-clause-over_keys c = refl

pub returns-clause-unknown_is_not_false : goal.returns-clause-unknown_is_not_false
unfolding gcd fits_128 reduced frac_add frac_mul frac_div rounded number_of from_year_one day_of_moment second_of_moment year_of month_of day_of_month
returns-clause-unknown_is_not_false c = refl

pub returns-clause-unknown_is_not_true : goal.returns-clause-unknown_is_not_true
unfolding gcd fits_128 reduced frac_add frac_mul frac_div rounded number_of from_year_one day_of_moment second_of_moment year_of month_of day_of_month
returns-clause-unknown_is_not_true c = refl

pub returns-clause-without_null : goal.returns-clause-without_null
unfolding gcd fits_128 reduced frac_add frac_mul frac_div rounded number_of from_year_one day_of_moment second_of_moment year_of month_of day_of_month
returns-clause-without_null c = refl

pub returns-clause-with_null : goal.returns-clause-with_null
unfolding gcd fits_128 reduced frac_add frac_mul frac_div rounded number_of from_year_one day_of_moment second_of_moment year_of month_of day_of_month
returns-clause-with_null c = refl

pub returns-clause-unseen_rows : goal.returns-clause-unseen_rows
unfolding gcd fits_128 reduced frac_add frac_mul frac_div rounded number_of from_year_one day_of_moment second_of_moment year_of month_of day_of_month
returns-clause-unseen_rows c = refl

pub returns-clause-unseen_conflict : goal.returns-clause-unseen_conflict
unfolding gcd fits_128 reduced frac_add frac_mul frac_div rounded number_of from_year_one day_of_moment second_of_moment year_of month_of day_of_month
returns-clause-unseen_conflict c = refl
