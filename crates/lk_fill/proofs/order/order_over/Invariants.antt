use Rattle.std.proofs.Common.{◌≡◌}
use Rattle.lk_fill.specs.Orders.{after_rounds}
use Rattle.lk_fill.proofs.order.order_over.Given as goal

abbrev pub invariant-loop-round : goal.invariant-loop-round
invariant-loop-round l = l.order ≡ after_rounds l.reads l._round
