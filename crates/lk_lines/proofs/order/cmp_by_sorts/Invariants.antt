use Rattle.std.proofs.Common.{◌≡◌, drop}
use Rattle.lk_lines.specs.Lines.{cells_order}
use Rattle.lk_lines.proofs.order.cmp_by_sorts.Given as goal

abbrev pub invariant-loop-sort : goal.invariant-loop-sort
invariant-loop-sort l = cells_order (drop l.sort-index l.sorts) l.a l.b ≡ cells_order l.sorts l.a l.b
