use Rattle.std.proofs.Common.{◌∙◌, ◌+◌, map, drop, ap, sym}
use Rattle.std.specs.List.{fold}
use Rattle.lk_query.specs.Names.{put_in}
use Rattle.lk_query.proofs.FoundLaws.{item_here}
use Rattle.lk_query.proofs.texts.by_name.Goals as goal

pub loop-filter-preserved : goal.loop-filter-preserved
loop-filter-preserved c =
    let fs = c.args.filters.now in
    let l = c.loop-filter in
    ap (λ sorted. fold put_in sorted (drop (l.filter-index + 1) fs)) c.in_ok-put_in.ensures
    ∙ ap (λ gs. fold put_in (map (λ f. f.now) l.sorted.items) gs) (sym (item_here fs l.filter-index c.filter-item.result c.loop-filter-test.true c.filter-item.is))
    ∙ l.invariant
