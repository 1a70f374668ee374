use Rattle.lk_written.proofs.FilterLaws.{one_more_at}
use Rattle.lk_written.proofs.filter_texts.read_pairs.Goals as goal

pub loop-pair-preserved : goal.loop-pair-preserved
loop-pair-preserved c =
    one_more_at c.args.pairs.now c.loop-pair.pair-index c.loop-pair.filters c.push.new.self c.pair-item.result
    c.in_ok-read_pair.field-0 c.loop-pair-test.true c.pair-item.is c.in_ok-push.ensures.ok c.in_ok-read_pair.ensures c.loop-pair.invariant
