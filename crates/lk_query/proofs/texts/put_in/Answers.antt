use Rattle.std.proofs.Common.{◌∙◌, map, ap}
use Rattle.std.specs.List.{insert, position_or_len}
use Rattle.lk_query.specs.Names.{goes_before}
use Rattle.lk_query.proofs.InsertLaws.{map_insert}
use Rattle.lk_query.proofs.texts.put_in.Goals as goal

pub returns : goal.returns
returns c =
    let filters = c.args.filters.now.items in
    ap (λ xs. map (λ f. f.now) xs) c.in_ok-insert.ensures.items
    ∙ map_insert (λ f. f.now) filters c.place_of-place.result c.args.filter
    ∙ ap (λ i. insert (map (λ f. f.now) filters) i c.args.filter.now) c.place_of-place.ensures.first
    ∙ ap (λ fs. insert (map (λ f. f.now) filters) (position_or_len (goes_before c.args.filter.now) (map (λ f. f.now) fs)) c.args.filter.now) c.as_slice.ensures.value
