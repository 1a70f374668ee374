use Rattle.std.proofs.Common.{◌∙◌, ◌++◌, ap₂, arith, List, ℕ}
use Rattle.lk_table.proofs.TextLaws.{no_records, record_more}
use Rattle.lk_table.proofs.text.add_rows.Goals as goal

pub loop-row-init : goal.loop-row-init
loop-row-init c = no_records c.args.text.now

pub loop-row-preserved : goal.loop-row-preserved
loop-row-preserved c =
    c.in_ok-append.ensures.ok
    ∙ ap₂ (λ (text line : List ℕ). text ++ line) c.loop-row.invariant (c.as_slice.ensures ∙ c.in_ok-line.ensures)
    ∙ record_more c.args.text.now c.args.block.now.rows c.loop-row.row (omega arith)
