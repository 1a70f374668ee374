use Rattle.std.proofs.Common.{◌∙◌, ap, rules, subst, List, ℕ, IsPermutation}
use Rattle.std.specs.List.{range_with_len}
use Rattle.std.specs.Cmp.{IsStrictWeakOrder}
use Rattle.std.specs.Ordering.{is_lt}
use Rattle.std.proofs.lemmas.Fn.{always_returns_same}
use Rattle.std.proofs.lemmas.List.Sorted.{ranks_by}
use Rattle.lk_val.specs.Values.{value_cmp}
use Rattle.lk_val.specs.ValueOrder.{values_ordered}
use Rattle.lk_types.specs.Tables.{Rows}
use Rattle.lk_table.specs.KeySets.{row_key}
use Rattle.lk_table.proofs.keys.rows_by.Goals as goal

by_keys : (column : ℕ) (rows : Rows) → IsStrictWeakOrder (λ (one other : ℕ). is_lt (value_cmp (row_key column rows one) (row_key column rows other)))
by_keys column rows = ranks_by values_ordered.total (row_key column rows)

pub returns : goal.returns
returns c = record {
  whole = subst (λ (all : List ℕ). IsPermutation all c.sort_unstable_by.new.self.items)
      (c.in_ok-order.ensures ∙ ap (range_with_len 0) c.len.ensures) c.sort_unstable_by.ensures.permutation;
  ascends = c.sort_unstable_by.ensures.sorted _ (by_keys c.args.column c.args.block.now.rows) (always_returns_same _ _ _ (λ a r h called. (search rules, search rules)));
}
