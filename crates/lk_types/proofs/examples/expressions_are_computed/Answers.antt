use Rattle.std.proofs.Common.{refl}
use Rattle.lk_val.specs.Fractions.{gcd, fits_128, reduced, frac_add, frac_mul, frac_div}
use Rattle.lk_val.specs.Rounding.{rounded, number_of}
use Rattle.lk_types.specs.Calendar.{from_year_one, day_of_moment, second_of_moment, year_of, month_of, day_of_month}
use Rattle.lk_types.proofs.examples.expressions_are_computed.Goals as goal

pub returns-clause-third : goal.returns-clause-third
unfolding gcd fits_128 reduced frac_add frac_mul frac_div rounded number_of from_year_one day_of_moment second_of_moment year_of month_of day_of_month
returns-clause-third c = λ row. refl

pub returns-clause-minus_sixth : goal.returns-clause-minus_sixth
unfolding gcd fits_128 reduced frac_add frac_mul frac_div rounded number_of from_year_one day_of_moment second_of_moment year_of month_of day_of_month
returns-clause-minus_sixth c = λ row. refl

pub returns-clause-over_zero : goal.returns-clause-over_zero
unfolding gcd fits_128 reduced frac_add frac_mul frac_div rounded number_of from_year_one day_of_moment second_of_moment year_of month_of day_of_month
returns-clause-over_zero c = λ row. refl

pub returns-clause-past_the_range : goal.returns-clause-past_the_range
unfolding gcd fits_128 reduced frac_add frac_mul frac_div rounded number_of from_year_one day_of_moment second_of_moment year_of month_of day_of_month
returns-clause-past_the_range c = λ row. refl

pub returns-clause-unknown_and_false : goal.returns-clause-unknown_and_false
unfolding gcd fits_128 reduced frac_add frac_mul frac_div rounded number_of from_year_one day_of_moment second_of_moment year_of month_of day_of_month
returns-clause-unknown_and_false c = λ row. refl

pub returns-clause-in_with_null : goal.returns-clause-in_with_null
unfolding gcd fits_128 reduced frac_add frac_mul frac_div rounded number_of from_year_one day_of_moment second_of_moment year_of month_of day_of_month
returns-clause-in_with_null c = λ row. refl

pub returns-clause-quoted_percent : goal.returns-clause-quoted_percent
unfolding gcd fits_128 reduced frac_add frac_mul frac_div rounded number_of from_year_one day_of_moment second_of_moment year_of month_of day_of_month
returns-clause-quoted_percent c = λ row. refl

pub returns-clause-one_character : goal.returns-clause-one_character
unfolding gcd fits_128 reduced frac_add frac_mul frac_div rounded number_of from_year_one day_of_moment second_of_moment year_of month_of day_of_month
returns-clause-one_character c = refl

pub returns-clause-at_a_bound : goal.returns-clause-at_a_bound
unfolding gcd fits_128 reduced frac_add frac_mul frac_div rounded number_of from_year_one day_of_moment second_of_moment year_of month_of day_of_month
returns-clause-at_a_bound c = refl

pub returns-clause-below_the_bounds : goal.returns-clause-below_the_bounds
unfolding gcd fits_128 reduced frac_add frac_mul frac_div rounded number_of from_year_one day_of_moment second_of_moment year_of month_of day_of_month
returns-clause-below_the_bounds c = refl
