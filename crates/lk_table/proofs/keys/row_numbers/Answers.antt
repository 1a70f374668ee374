use Rattle.std.proofs.Common.{◌∙◌, ◌++◌, ◌∷◌, [], ap, sym, List, ℕ}
use Rattle.lk_table.proofs.KeyOrderLaws.{one_more_row}
use Rattle.lk_table.proofs.keys.row_numbers.Goals as goal

pub loop-row-preserved : goal.loop-row-preserved
loop-row-preserved c =
    c.in_ok-push.ensures.items
    ∙ ap (λ (rows : List ℕ). rows ++ c.loop-row.row ∷ []) c.loop-row.invariant
    ∙ sym (one_more_row c.loop-row.row)
