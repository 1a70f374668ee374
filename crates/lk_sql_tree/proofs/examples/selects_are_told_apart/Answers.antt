use Rattle.std.proofs.Common.{refl}
use Rattle.std.specs.Str.{is_utf8, chars}
use Rattle.lk_sql_tree.specs.SelectForms.{is_printable}
use Rattle.lk_sql_tree.proofs.examples.selects_are_told_apart.Goals as goal

pub returns-clause-total_and_count : goal.returns-clause-total_and_count
unfolding is_printable is_utf8 chars lib.Utf8.encode
returns-clause-total_and_count c = refl

pub returns-clause-total_by_month : goal.returns-clause-total_by_month
unfolding is_printable is_utf8 chars lib.Utf8.encode
returns-clause-total_by_month c = refl

pub returns-clause-over_rows : goal.returns-clause-over_rows
unfolding is_printable is_utf8 chars lib.Utf8.encode
returns-clause-over_rows c = refl

pub returns-clause-not_over_groups : goal.returns-clause-not_over_groups
unfolding is_printable is_utf8 chars lib.Utf8.encode
returns-clause-not_over_groups c = refl
