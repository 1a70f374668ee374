use Rattle.std.proofs.Common.{ap, ◌∙◌}
use Rattle.std.specs.Prelude.{length, map}
use Rattle.std.specs.List.{All}
use Rattle.std.proofs.lemmas.Result.{on_ok_weaker}
use Rattle.lk_table.specs.Columns.{IsMark, text_value}
use Rattle.lk_table.proofs.ColumnLaws.{either_way, text_pushed, mark_pushed, marks_kept}
use Rattle.lk_table.proofs.cells.push_cell.Goals as goal

pub returns-in_ok-mark_of-in-Text-clause-values : goal.returns-in_ok-mark_of-in-Text-clause-values
returns-in_ok-mark_of-in-Text-clause-values c =
    let marked = rw c.in-Text.is at c.requires.marked in
    let made = c.in_ok-mark_of-in-Text.ensures in
    on_ok_weaker c.push.result (λ grown. ap (map (text_value c.mark_of.new.region)) grown
    ∙ rw c.in-Text.is (text_pushed c.args.region.now c.mark_of.new.region c.mark_of.ensures.kept c.in-Text.cells
    c.in_ok-mark_of-in-Text.field-0 _ marked made.value)) c.push.ensures.ok

pub returns-in_ok-mark_of-in-Text-clause-marked : goal.returns-in_ok-mark_of-in-Text-clause-marked
returns-in_ok-mark_of-in-Text-clause-marked c =
    let marked = rw c.in-Text.is at c.requires.marked in
    let made = c.in_ok-mark_of-in-Text.ensures in
    let kept = c.mark_of.ensures.kept in
    let cell = c.in_ok-mark_of-in-Text.field-0 in
    either_way (λ cells. All (IsMark (length c.mark_of.new.region)) cells) c.push.result c.in-Text.cells c.push.new.self cell
    c.push.ensures.ok c.push.ensures.err
    (marks_kept c.args.region.now c.mark_of.new.region kept c.in-Text.cells marked)
    (mark_pushed c.args.region.now c.mark_of.new.region kept c.in-Text.cells cell marked made.marked)
