use Rattle.std.proofs.Common.{◌≡◌, ◌∙◌, length, sym, ap, true}
use Rattle.lk_fields.specs.Rows.{are_same, marks_after, next_marks}
use Rattle.lk_fields.proofs.MarkLaws.{same_marks, settled}
use Rattle.lk_fields.proofs.marks.last_marks.Goals as goal

pub returns-then-are_same : goal.returns-then-are_same
returns-then-are_same c =
    let r = c.args.rule in
    let rows = c.args.rows.now in
    let marks = c.loop-round.marks in
    let k = c.loop-round._round in
    let made = c.loop-round.invariant.made in
    let told : are_same c.as_slice-in-loop-round.result.now c.as_slice-in-loop-round-2.result.now ≡ true =
    sym c.are_same.ensures ∙ c.if-are_same.true in
    let alike = same_marks c.as_slice-in-loop-round.result.now c.as_slice-in-loop-round-2.result.now told in
    let next_same : next_marks r rows c.as_slice.result.now ≡ marks =
    sym c.in_ok-next.ensures ∙ sym c.as_slice-in-loop-round.ensures ∙ alike ∙ c.as_slice-in-loop-round-2.ensures in
    let still : next_marks r rows (marks_after r k rows) ≡ marks_after r k rows =
    ap (next_marks r rows) (sym made ∙ sym c.as_slice.ensures) ∙ next_same ∙ made in
    made ∙ sym (settled r rows k (length rows) still c.loop-round.invariant.begun)
