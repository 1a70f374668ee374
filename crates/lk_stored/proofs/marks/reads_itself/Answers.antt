use Rattle.std.proofs.Common.{◌≡◌, ◌∙◌, List, ap, map, subst}
use Rattle.std.specs.Prelude.{slice_index_or}
use Rattle.lk_fields.specs.declared.rows.Row.{Row}
use Rattle.lk_fields.specs.Reaching.{IsReached}
use Rattle.lk_fields.specs.Rows.{is_marked}
use Rattle.lk_semantics.specs.Reading.{read_by}
use Rattle.lk_stored.specs.Reads.{row_of}
use Rattle.lk_stored.proofs.ReadLaws.{marks_are, row_at}
use Rattle.lk_stored.proofs.marks.reads_itself.Goals as goal

pub returns : goal.returns
unfolding row_of
returns c =
    let m = c.args.m.now in
    let d = c.args.d in
    let marks = c.in_ok-marks.marks in
    let row : Row = c.index-rows-d.result in
    let found = ap (λ rows. slice_index_or rows d row) c.requires.rows ∙ row_at m m.derived d row c.requires.table in
    let begun = c.as_slice-tables.ensures ∙ ap (λ (r : Row). r.names) found in
    let reach = subst (λ ts. IsReached (map (row_of m) m.derived) ts marks) begun (subst (λ rows. IsReached rows c.as_slice-tables.result.now marks) c.requires.rows c.in_ok-marks.ensures) in
    c.is_marked.ensures ∙ ap (λ ms. is_marked ms d) c.as_slice.ensures ∙ marks_are m (read_by m d) marks reach d c.requires.table
