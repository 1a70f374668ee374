use Rattle.std.proofs.Common.{of_z, to_z, w64}
use Rattle.lk_query.specs.Bindings.{each_placed, on_measures}
use Rattle.lk_query.proofs.FoundLaws.{item_here, next_made}
use Rattle.lk_query.proofs.RowLaws.{on_measures_by_one}
use Rattle.lk_query.proofs.filters.on_measures.Goals as goal

pub loop-filter-preserved : goal.loop-filter-preserved
loop-filter-preserved c =
    let now = to_z w64 (of_z w64 c.args.now) in
    let l = c.loop-filter in
    next_made (λ fs. each_placed now (on_measures fs)) (on_measures_by_one now) _ _ _ l.made c.add_measure.new.made c.filter-item.result
    (item_here c.args.filters.now l.filter-index c.filter-item.result c.loop-filter-test.true c.filter-item.is) c.in_ok-add_measure.ensures l.invariant
