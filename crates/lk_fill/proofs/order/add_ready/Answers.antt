use Rattle.std.proofs.Common.{◌∙◌, [], arith}
use Rattle.std.proofs.lemmas.List.{get_or_read}
use Rattle.lk_fill.proofs.OrderLaws.{next_round}
use Rattle.lk_fill.proofs.order.add_ready.Goals as goal

pub overflow_cast-table : goal.overflow_cast-table
overflow_cast-table c = omega (arith, c.loop-table-test.true, c.requires)

pub loop-table-preserved : goal.loop-table-preserved
loop-table-preserved c =
    let reads = c.args.reads.now in
    let i = c.loop-table.table in
    next_round reads i c.args.order.now c.loop-table.order _ _ c.loop-table.invariant
    (c.as_slice.ensures ∙ get_or_read reads i _ c.loop-table-test.true c.index-reads-table.is []) c.in_ok-add_if_ready.ensures
