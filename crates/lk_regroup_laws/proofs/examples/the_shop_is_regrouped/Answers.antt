use Rattle.std.proofs.Common.{refl}
use Rattle.lk_val.specs.Fractions.{gcd, reduced}
use Rattle.lk_types.specs.Calendar.{day_of_moment, from_year_one, month_of, year_of}
use Rattle.lk_regroup_laws.proofs.examples.the_shop_is_regrouped.Goals as goal

pub returns-clause-months : goal.returns-clause-months
unfolding from_year_one day_of_moment year_of month_of
returns-clause-months c = refl

pub returns-clause-average : goal.returns-clause-average
unfolding gcd reduced from_year_one day_of_moment
returns-clause-average c = refl

pub returns-clause-uneven : goal.returns-clause-uneven
unfolding gcd reduced from_year_one day_of_moment year_of month_of
returns-clause-uneven c = refl

pub returns-clause-prices : goal.returns-clause-prices
returns-clause-prices c = refl

pub returns-clause-own_dimensions : goal.returns-clause-own_dimensions
returns-clause-own_dimensions c = refl

pub returns-clause-no_rows : goal.returns-clause-no_rows
returns-clause-no_rows c = refl

pub returns-clause-does_not_fit : goal.returns-clause-does_not_fit
returns-clause-does_not_fit c = refl

pub returns-clause-twice : goal.returns-clause-twice
returns-clause-twice c = refl
