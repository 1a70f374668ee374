use Rattle.std.proofs.Common.{◌∙◌, ap}
use Rattle.std.specs.List.{insert, position_or_len}
use Rattle.lk_query.specs.Rows.{stands_first}
use Rattle.lk_query.proofs.RowLaws.{put_at}
use Rattle.lk_query.proofs.rows.put_by_name.Goals as goal

pub returns : goal.returns
returns c =
    let x = c.args.x.now in
    let f = c.args.filter in
    let sorted = c.args.sorted.now.items in
    c.in_ok-insert.ensures.items
    ∙ ap (λ i. insert sorted i f) (c.place_of-place.ensures.first ∙ ap (position_or_len (stands_first x f.0)) c.as_slice.ensures.value)
    ∙ put_at x f sorted
