use Rattle.std.proofs.Common.{of_z, to_z, w64}
use Rattle.lk_query.specs.Bindings.{each_placed}
use Rattle.lk_query.specs.Rows.{left_out}
use Rattle.lk_query.proofs.FoundLaws.{item_here, next_made}
use Rattle.lk_query.proofs.RowLaws.{left_out_by_one}
use Rattle.lk_query.proofs.rows.left_out.Goals as goal

pub loop-filter-preserved : goal.loop-filter-preserved
loop-filter-preserved c =
    let filters = c.args.filters.now in
    let items = c.as_slice-filter-items.result.now in
    let now = to_z w64 (of_z w64 c.args.now) in
    let l = c.loop-filter in
    next_made (λ ds. each_placed now (left_out filters ds)) (left_out_by_one now filters) _ _ _ l.defaults c.add_left_out.new.defaults c.filter-item.result
    (item_here items l.filter-index c.filter-item.result c.loop-filter-test.true c.filter-item.is) c.in_ok-add_left_out.ensures l.invariant
