use Rattle.std.proofs.Common.{◌≡◌, ◌∙◌, subst, sym, true}
use Rattle.std.proofs.lemmas.Result.{IfOk-weaker}
use Rattle.lk_types.specs.Expressions.{has_number}
use Rattle.lk_table.specs.Contents.{rows_of_each}
use Rattle.lk_fill.specs.Fills.{IsClosed, IsFilled}
use Rattle.lk_fill.specs.Reads.{HasRowsOf}
use Rattle.lk_fill.proofs.FillLaws.{filled_all, needed_closed, wanted_needed}
use Rattle.lk_fill.proofs.filling.fill.Goals as goal

pub filled-requires-clause-closed : goal.filled-requires-clause-closed
filled-requires-clause-closed c =
    let m = c.args.m.now in
    let order = c.args.order.now in
    let at_hand = c.args.at_hand.now in
    subst (λ needed. IsClosed m at_hand order needed) (sym (c.as_slice.ensures ∙ c.in_ok-needed.ensures)) (needed_closed m at_hand c.args.wanted.now order c.requires.order)

pub returns-clause-stored : goal.returns-clause-stored
returns-clause-stored c =
    let stored = rows_of_each c.args.tables.now in
    IfOk-weaker c.filled.result (IsFilled c.args.m.now stored c.as_slice.result.now c.args.order.now) (λ set. set.stored ≡ stored) (λ set is. is.same) c.filled.ensures

pub returns-clause-rows : goal.returns-clause-rows
returns-clause-rows c =
    let m = c.args.m.now in
    let order = c.args.order.now in
    let wanted = c.args.wanted.now in
    let stored = rows_of_each c.args.tables.now in
    let needed = c.as_slice.result.now in
    IfOk-weaker c.filled.result (IsFilled m stored needed order) (λ set. HasRowsOf m set wanted)
    (λ set is. filled_all m stored needed order wanted set c.requires.order is c.requires.tables
    (λ e want. subst (λ all. has_number e all ≡ true) (sym (c.as_slice.ensures ∙ c.in_ok-needed.ensures)) (wanted_needed m c.args.at_hand.now wanted e order want)))
    c.filled.ensures
