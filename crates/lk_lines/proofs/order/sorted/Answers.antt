use Rattle.std.proofs.Common.{◌∙◌, rules, List, subst}
use Rattle.std.specs.Prelude.{IsPermutation}
use Rattle.std.specs.Cmp.{IsStrictWeakOrder}
use Rattle.std.specs.Ordering.{is_lt}
use Rattle.std.proofs.lemmas.List.Sorted.{ranks_by}
use Rattle.lk_types.specs.declared.answer.GroupRow.{GroupRow}
use Rattle.lk_types.specs.declared.bound.Sort.{Sort}
use Rattle.lk_lines.specs.Lines.{line_order}
use Rattle.std.proofs.lemmas.Fn.{always_returns_same}
use Rattle.lk_lines.proofs.OrderLaws.{lines_total, sorted_lines}
use Rattle.lk_lines.proofs.order.sorted.Goals as goal

by_lines : (sorts : List Sort) → IsStrictWeakOrder (λ (x y : GroupRow). is_lt (line_order sorts x y))
by_lines sorts = ranks_by (lines_total sorts) (λ line. line)

pub returns : goal.returns
returns c = λ ascends positive.
    c.from_vec.ensures
    ∙ sorted_lines c.args.sorts.now c.args.lines c.sort_unstable_by.new.self.items ascends positive
    (subst (λ (zs : List GroupRow). IsPermutation zs c.sort_unstable_by.new.self.items) c.into_vec-lines.ensures c.sort_unstable_by.ensures.permutation)
    (c.sort_unstable_by.ensures.sorted _ (by_lines c.args.sorts.now) (always_returns_same _ _ _ (λ a r h called. (search rules, search rules))))
