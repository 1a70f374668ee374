use Rattle.std.proofs.Common.{◌∙◌, map, ap}
use Rattle.std.specs.List.{insert, position_or_len}
use Rattle.lk_view.specs.FieldOrder.{goes_before}
use Rattle.lk_view.proofs.InsertLaws.{map_insert}
use Rattle.lk_view.proofs.field_order.put_in.Goals as goal

pub returns : goal.returns
returns c =
    let fields = c.args.fields.now.items in
    ap (λ xs. map (λ f. f.now) xs) c.in_ok-insert.ensures.items
    ∙ map_insert (λ f. f.now) fields c.place_of-place.result c.args.item
    ∙ ap (λ i. insert (map (λ f. f.now) fields) i c.args.item.now) c.place_of-place.ensures.first
    ∙ ap (λ fs. insert (map (λ f. f.now) fields) (position_or_len (goes_before c.args.item.now) (map (λ f. f.now) fs)) c.args.item.now) c.as_slice.ensures.value
