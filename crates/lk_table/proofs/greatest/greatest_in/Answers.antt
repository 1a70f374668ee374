use Rattle.std.proofs.Common.{◌∙◌, ap, arith, take_all}
use Rattle.lk_types.specs.Tables.{Rows, column_values}
use Rattle.lk_semantics.specs.Measures.{greatest_of}
use Rattle.lk_table.proofs.GreatestLaws.{greatest_more}
use Rattle.lk_table.proofs.greatest.greatest_in.Goals as goal

pub loop-row-preserved : goal.loop-row-preserved
loop-row-preserved c =
    c.greater-most.ensures
    ∙ greatest_more c.args.block.now.rows c.args.column c.loop-row.row _ _ (omega (arith, c.loop-row-test.true, c.len-row-end.ensures)) c.loop-row.invariant c.cell.ensures

pub returns : goal.returns
returns c =
    c.loop-row.invariant
    ∙ ap (λ (rows : Rows). greatest_of (column_values rows c.args.column)) (take_all c.loop-row.row c.args.block.now.rows (omega (arith, c.loop-row-test.false, c.len-row-end.ensures)))
