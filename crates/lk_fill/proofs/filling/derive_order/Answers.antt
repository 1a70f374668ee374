use Rattle.std.proofs.Common.{◌≡◌, ◌∙◌, length}
use Rattle.std.proofs.lemmas.Result.{IfOk-weaker}
use Rattle.lk_fill.specs.Orders.{IsDeriveOrder, after_rounds}
use Rattle.lk_fill.proofs.OrderLaws.{order_is}
use Rattle.lk_fill.proofs.filling.derive_order.Goals as goal

pub returns : goal.returns
returns c =
    let m = c.args.m.now in
    let reads = c.as_slice.result.now in
    IfOk-weaker c.order_over.result (λ order. order ≡ after_rounds reads (length reads)) (IsDeriveOrder m)
    (λ order is. order_is m c.requires reads order (c.as_slice.ensures ∙ c.in_ok-reads.ensures) is) c.order_over.ensures
