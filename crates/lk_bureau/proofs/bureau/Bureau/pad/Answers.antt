use Rattle.lk_bureau.proofs.PaddingLaws.{once_more}
use Rattle.lk_bureau.proofs.bureau.Bureau.pad.Goals as goal

pub loop-preserved : goal.loop-preserved
loop-preserved g c = once_more _ _ _ c.loop.counter c.loop.invariant c.in_ok-repeat.ensures.ok.1
