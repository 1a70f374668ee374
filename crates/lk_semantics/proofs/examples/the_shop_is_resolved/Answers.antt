use Rattle.std.proofs.Common.{refl}
use Rattle.lk_semantics.proofs.examples.the_shop_is_resolved.Goals as goal
use Rattle.lk_types.specs.Kinds.{do_compare}
use Rattle.lk_semantics.proofs.ShopLaws.{shop_resolved}

pub returns-clause-shop : goal.returns-clause-shop
returns-clause-shop c = shop_resolved

pub returns-clause-count_with_value : goal.returns-clause-count_with_value
unfolding do_compare
returns-clause-count_with_value c = refl

pub returns-clause-cross_with_condition : goal.returns-clause-cross_with_condition
unfolding do_compare
returns-clause-cross_with_condition c = refl

pub returns-clause-open_greatest : goal.returns-clause-open_greatest
unfolding do_compare
returns-clause-open_greatest c = refl

pub returns-clause-open_greatest_day : goal.returns-clause-open_greatest_day
unfolding do_compare
returns-clause-open_greatest_day c = refl

pub returns-clause-null_greatest : goal.returns-clause-null_greatest
unfolding do_compare
returns-clause-null_greatest c = refl

pub returns-clause-open_group : goal.returns-clause-open_group
unfolding do_compare
returns-clause-open_group c = refl

pub returns-clause-open_group_day : goal.returns-clause-open_group_day
unfolding do_compare
returns-clause-open_group_day c = refl

pub returns-clause-plain_moment : goal.returns-clause-plain_moment
unfolding do_compare
returns-clause-plain_moment c = refl

pub returns-clause-tiers_that_fall : goal.returns-clause-tiers_that_fall
unfolding do_compare
returns-clause-tiers_that_fall c = refl

pub returns-clause-late_literal : goal.returns-clause-late_literal
unfolding do_compare
returns-clause-late_literal c = refl

pub returns-clause-number_over_text : goal.returns-clause-number_over_text
unfolding do_compare
returns-clause-number_over_text c = refl

pub returns-clause-number_over_itself : goal.returns-clause-number_over_itself
unfolding do_compare
returns-clause-number_over_itself c = refl

pub returns-clause-number_on_text : goal.returns-clause-number_on_text
unfolding do_compare
returns-clause-number_on_text c = refl

pub returns-clause-unmarked_date : goal.returns-clause-unmarked_date
unfolding do_compare
returns-clause-unmarked_date c = refl

pub returns-clause-relative_rollup : goal.returns-clause-relative_rollup
unfolding do_compare
returns-clause-relative_rollup c = refl

pub returns-clause-missing_key : goal.returns-clause-missing_key
unfolding do_compare
returns-clause-missing_key c = refl

pub returns-clause-missing_view : goal.returns-clause-missing_view
unfolding do_compare
returns-clause-missing_view c = refl

pub returns-clause-missing_field : goal.returns-clause-missing_field
unfolding do_compare
returns-clause-missing_field c = refl

pub returns-clause-itself_read : goal.returns-clause-itself_read
unfolding do_compare
returns-clause-itself_read c = refl

pub returns-clause-two_datagroups : goal.returns-clause-two_datagroups
unfolding do_compare
returns-clause-two_datagroups c = refl

pub returns-clause-beside_rollup : goal.returns-clause-beside_rollup
unfolding do_compare
returns-clause-beside_rollup c = refl

pub returns-clause-list_of_none : goal.returns-clause-list_of_none
returns-clause-list_of_none c = refl

pub returns-clause-list_of_one : goal.returns-clause-list_of_one
returns-clause-list_of_one c = refl

pub returns-clause-no_branch : goal.returns-clause-no_branch
returns-clause-no_branch c = refl

pub returns-clause-no_argument : goal.returns-clause-no_argument
returns-clause-no_argument c = refl

pub returns-clause-no_interval : goal.returns-clause-no_interval
returns-clause-no_interval c = refl

pub returns-clause-derived_query : goal.returns-clause-derived_query
returns-clause-derived_query c = record { explore = refl; picks = refl; joins = refl; fields = refl; measures = refl; kinds = refl; placed = refl; sorts = refl; limit = refl }
