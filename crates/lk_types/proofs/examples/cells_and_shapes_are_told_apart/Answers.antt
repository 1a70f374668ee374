use Rattle.std.proofs.Common.{refl}
use Rattle.lk_types.proofs.examples.cells_and_shapes_are_told_apart.Goals as goal

pub returns-clause-empty_text : goal.returns-clause-empty_text
returns-clause-empty_text c = refl

pub returns-clause-long_text : goal.returns-clause-long_text
returns-clause-long_text c = refl

pub returns-clause-late_day : goal.returns-clause-late_day
returns-clause-late_day c = refl

pub returns-clause-last_day : goal.returns-clause-last_day
returns-clause-last_day c = refl

pub returns-clause-null_in_json : goal.returns-clause-null_in_json
returns-clause-null_in_json c = refl

pub returns-clause-empty_in_json : goal.returns-clause-empty_in_json
returns-clause-empty_in_json c = refl

pub returns-clause-tier_in_json : goal.returns-clause-tier_in_json
returns-clause-tier_in_json c = refl

pub returns-clause-hour : goal.returns-clause-hour
returns-clause-hour c = refl

pub returns-clause-weekday : goal.returns-clause-weekday
returns-clause-weekday c = refl

pub returns-clause-date : goal.returns-clause-date
returns-clause-date c = refl

pub returns-clause-each_side : goal.returns-clause-each_side
returns-clause-each_side c = refl

pub returns-clause-number_on_text : goal.returns-clause-number_on_text
returns-clause-number_on_text c = refl

pub returns-clause-number_on_number : goal.returns-clause-number_on_number
returns-clause-number_on_number c = refl

pub returns-clause-unmarked : goal.returns-clause-unmarked
returns-clause-unmarked c = refl

pub returns-clause-one_item : goal.returns-clause-one_item
returns-clause-one_item c = refl

pub returns-clause-literal_in : goal.returns-clause-literal_in
returns-clause-literal_in c = refl

pub returns-clause-in_literals : goal.returns-clause-in_literals
returns-clause-in_literals c = refl

pub returns-clause-literal_between : goal.returns-clause-literal_between
returns-clause-literal_between c = refl

pub returns-clause-between_literals : goal.returns-clause-between_literals
returns-clause-between_literals c = refl

pub returns-clause-literal_or_null : goal.returns-clause-literal_or_null
returns-clause-literal_or_null c = refl

pub returns-clause-null_if_literal : goal.returns-clause-null_if_literal
returns-clause-null_if_literal c = refl

pub returns-clause-text_is_text : goal.returns-clause-text_is_text
returns-clause-text_is_text c = refl

pub returns-clause-no_pattern : goal.returns-clause-no_pattern
returns-clause-no_pattern c = refl

pub returns-clause-no_comparison : goal.returns-clause-no_comparison
returns-clause-no_comparison c = refl

pub returns-clause-equal_compared : goal.returns-clause-equal_compared
returns-clause-equal_compared c = refl

pub returns-clause-no_end : goal.returns-clause-no_end
returns-clause-no_end c = refl

pub returns-clause-not_null : goal.returns-clause-not_null
returns-clause-not_null c = refl

pub returns-clause-no_days_out : goal.returns-clause-no_days_out
returns-clause-no_days_out c = refl

pub returns-clause-this_day : goal.returns-clause-this_day
returns-clause-this_day c = refl

pub returns-clause-this_week : goal.returns-clause-this_week
returns-clause-this_week c = refl

pub returns-clause-yes : goal.returns-clause-yes
returns-clause-yes c = refl

pub returns-clause-not_yes : goal.returns-clause-not_yes
returns-clause-not_yes c = refl
