use Rattle.std.proofs.Common.{◌∙◌, ap, length}
use Rattle.lk_semantics.specs.Joins.{numbers_below}
use Rattle.lk_fill.specs.Orders.{with_ready}
use Rattle.lk_fill.proofs.OrderLaws.{rounds_next}
use Rattle.lk_fill.proofs.order.order_over.Goals as goal

pub loop-round-preserved : goal.loop-round-preserved
loop-round-preserved c =
    let reads = c.args.reads.now in
    c.in_ok-add_ready.ensures ∙ ap (with_ready reads (numbers_below (length reads))) c.loop-round.invariant ∙ rounds_next reads c.loop-round._round
