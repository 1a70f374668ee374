use Rattle.std.proofs.Common.{◌∙◌, ◌∷◌, ◌++◌, [], ap}
use Rattle.lk_merge.proofs.RowLaws.{row_step}
use Rattle.lk_merge.proofs.rows.rows_of.Goals as goal

pub loop-name-preserved : goal.loop-name-preserved
loop-name-preserved c = λ row has.
    row_step row c.loop-name.blocks _ c.args.names.now c.loop-name.name-index c.name-item.result _ c.in-Some.row.now
    c.loop-name-test.true c.name-item.is (has c.name-item.result) c.in-Some.ensures.value
    (c.in_ok-push-in-Some.ensures.ok ∙ ap (λ z. c.loop-name.blocks ++ z ∷ []) (c.in_ok-copied-in-Some.ensures ∙ c.as_slice.ensures))
    ∙ c.loop-name.invariant row has
