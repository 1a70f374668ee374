use Rattle.lk_types.proofs.UnfoldedLaws.{in_list, between, null_if_case}
use Rattle.lk_types.proofs.laws.comparisons_stand_for_lists_and_ranges.Goals as goal

pub returns-clause-in_list : goal.returns-clause-in_list
returns-clause-in_list c = in_list

pub returns-clause-between : goal.returns-clause-between
returns-clause-between c = between

pub returns-clause-null_if : goal.returns-clause-null_if
returns-clause-null_if c = null_if_case
