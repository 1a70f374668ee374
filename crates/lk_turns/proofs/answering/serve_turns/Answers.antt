use Rattle.std.proofs.Common.{arith}
use Rattle.lk_turns.specs.Doings.{ItemDoes}
use Rattle.lk_turns.proofs.RunLaws.{below_next, told_end, told_next, told_not_begun}
use Rattle.lk_turns.proofs.WayLaws.{still, way_behind}
use Rattle.lk_turns.proofs.answering.serve_turns.Goals as goal

pub returns-in_default-clause-answers : goal.returns-in_default-clause-answers
returns-in_default-clause-answers g c = told_not_begun (ItemDoes g.A.Answerer.serves g.A.Answerer.forgets) _ _ _

pub returns-in_default-clause-keeps : goal.returns-in_default-clause-keeps
returns-in_default-clause-keeps g c = still g.A.Answerer.keeps _

pub returns-in-Some-clause-answers : goal.returns-in-Some-clause-answers
returns-in-Some-clause-answers g c =
    told_end (ItemDoes g.A.Answerer.serves g.A.Answerer.forgets) _ _ _ _ _ _ _ _ _ c.loop-before.before c.in-Some.ended c.loop-before.invariant.told c.in-Some.ensures.step

pub loop-before-preserved : goal.loop-before-preserved
loop-before-preserved g c = record {
  below = below_next c.loop-before.before c.answer_next.result c.loop-before.invariant.below c.answer_next.ensures.ends c.in-None.is;
  told = told_next (ItemDoes g.A.Answerer.serves g.A.Answerer.forgets) _ _ _ _ _ _ _ _ _ c.loop-before.before c.loop-before.invariant.told c.in-None.ensures.step;
  reads = omega (arith, c.loop-before.invariant.reads, c.answer_next.ensures.reads);
  counts = omega (arith, c.loop-before.invariant.counts, c.answer_next.ensures.counts);
  ways = way_behind _ _ _ _ c.loop-before.invariant.ways c.answer_next.ensures.ways;
  keeps = way_behind _ _ _ _ c.loop-before.invariant.keeps c.answer_next.ensures.keeps;
  writes = omega (arith, c.loop-before.invariant.writes, c.answer_next.ensures.writes);
}

pub returns-in-Some-clause-ways : goal.returns-in-Some-clause-ways
returns-in-Some-clause-ways g c = way_behind _ _ _ _ c.loop-before.invariant.ways c.in-Some.ensures.ways

pub returns-in-Some-clause-keeps : goal.returns-in-Some-clause-keeps
returns-in-Some-clause-keeps g c = way_behind _ _ _ _ c.loop-before.invariant.keeps c.in-Some.ensures.keeps
