use Rattle.std.proofs.Common.{◌≡◌, ◌∙◌, ◌<◌, ◌++◌, length, map, sym, ap, subst, arith}
use Rattle.std.specs.Prelude.{IfSome}
use Rattle.lk_merge.specs.Objects.{handed_on}
use Rattle.lk_merge.specs.Rows.{row_at, row_of}
use Rattle.lk_merge.proofs.RowLaws.{put_row}
use Rattle.lk_merge.proofs.SettledLaws.{row_made}
use Rattle.lk_merge.proofs.rows.add_row.Goals as goal

pub returns : goal.returns
returns c = λ q.
    let all = c.args.all.now.them.now in
    let k = c.args.kind in
    let name = c.args.name.now in
    let count = ap length c.as_slice.ensures in
    let within : c.in-Some.rank < length all = omega (arith, count) in
    let made : c.in_ok-row-in-Some-2.row ≡ row_of all k name =
    row_made all k c.args.names.now c.args.ranks.now c.requires.ranked name c.in-Some.rank (sym c.in-Some.ensures) within
    c.in_ok-row-in-Some-2.row c.as_slice-in-Some-2-2.result.now c.in-Some-2.inherited (c.in_ok-handed_on_by_each-in-Some-2).field-0 c.as_slice-2.result.now
    c.in_ok-row-in-Some-2.ensures
    (c.as_slice-in-Some-2-2.ensures ∙ c.in_ok-blocks-in-Some-2.ensures ∙ ap (λ rows. rows ++ (c.in_ok-handed_on_by_each-in-Some-2).field-0) c.inherited.view_is)
    (subst (λ found. IfSome found (λ blocks. blocks ≡ map (row_of all k) c.as_slice-2.result.now)) c.in-Some-2.is
    (c.in_ok-rows_of.ensures (row_of all k) c.requires.rows))
    (c.as_slice-2.ensures ∙ c.in_ok-bases.ensures)
    ((c.in_ok-handed_on_by_each-in-Some-2).ensures
    ∙ ap (map handed_on) (ap (map (λ d. d.now)) c.as_slice-in-Some-2.ensures.value ∙ c.in_ok-own-in-Some-2.ensures)) in
    put_row (row_of all k) (row_at c.args.rows.now) (row_at c.insert.new.self q) c.in_ok-copy-in-Some-2.field-0 q c.in_ok-row-in-Some-2.row
    (c.in_ok-insert-in-Some-2.ensures.updates.0 q) c.requires.rows
    (made ∙ ap (row_of all k) (sym c.in_ok-copy-in-Some-2.ensures))
