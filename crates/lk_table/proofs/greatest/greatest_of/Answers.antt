use Rattle.std.proofs.Common.{◌∙◌, List, ap, arith, take_all}
use Rattle.lk_types.specs.Tables.{column_values}
use Rattle.lk_semantics.specs.Measures.{greatest_of}
use Rattle.lk_table.specs.Contents.{Content}
use Rattle.lk_table.specs.Versions.{rows_of}
use Rattle.lk_table.proofs.GreatestLaws.{greatest_of_part}
use Rattle.lk_table.proofs.greatest.greatest_of.Goals as goal

pub loop-part-preserved : goal.loop-part-preserved
loop-part-preserved c =
    c.greater-most.ensures
    ∙ greatest_of_part c.args.parts.now c.part-item.result c.args.column c.loop-part.part-index _ _ c.loop-part-test.true c.part-item.is c.loop-part.invariant
    (c.greatest_in.ensures ∙ ap (λ (part : Content). greatest_of (column_values part.rows c.args.column)) c.block.ensures)

pub returns : goal.returns
returns c =
    c.loop-part.invariant
    ∙ ap (λ (parts : List Content). greatest_of (column_values (rows_of parts) c.args.column)) (take_all c.loop-part.part-index c.args.parts.now (omega (arith, c.loop-part-test.false)))
