use Rattle.lk_lines.proofs.SourceLaws.{filter_more}
use Rattle.lk_lines.proofs.source.filtered_sources.Goals as goal

pub loop-filter-preserved : goal.loop-filter-preserved
loop-filter-preserved c =
    filter_more c.args.x.now c.args.components.now c.args.filters.now c.loop-filter.filter-index c.filter-item.result c.loop-filter.filtered c.push.new.self c.in_ok-filtered_source.field-0
    c.loop-filter-test.true c.filter-item.is c.in_ok-filtered_source.ensures c.in_ok-push.ensures.ok c.loop-filter.invariant
