use Rattle.std.proofs.Common.{◌≡◌}
use Rattle.lk_semantics.specs.Joins.{numbers_below}
use Rattle.lk_fill.specs.Orders.{with_ready}
use Rattle.lk_fill.proofs.order.add_ready.Given as goal

abbrev pub invariant-loop-table : goal.invariant-loop-table
invariant-loop-table l = l.order ≡ with_ready l.reads (numbers_below l.table) l.fn.order
