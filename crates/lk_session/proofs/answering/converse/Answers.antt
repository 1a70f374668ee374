use Rattle.std.proofs.Common.{arith}
use Rattle.lk_turns.proofs.RunLaws.{below_next, told_end, told_next, told_none, told_not_begun}
use Rattle.lk_turns.proofs.WayLaws.{still, way_behind}
use Rattle.lk_session.specs.Servers.{ItemDoes, by_edition}
use Rattle.lk_session.proofs.answering.converse.Goals as goal

pub returns-in_default-clause-run : goal.returns-in_default-clause-run
returns-in_default-clause-run g c = told_not_begun (ItemDoes by_edition) _ _ _

pub returns-in-Some-clause-run : goal.returns-in-Some-clause-run
returns-in-Some-clause-run g c =
    told_end (ItemDoes by_edition) _ _ _ _ _ _ _ _ _ c.loop-before.before c.in-Some.ended c.loop-before.invariant.told c.in-Some.ensures.step

pub loop-before-init : goal.loop-before-init
loop-before-init g c = record {
  below = omega arith;
  told = told_none (ItemDoes by_edition) _ _ _;
  reads = omega arith;
  counts = omega arith;
  ways = still _ _;
  writes = omega arith;
}

pub loop-before-preserved : goal.loop-before-preserved
loop-before-preserved g c = record {
  below = below_next c.loop-before.before c.answer_next.result c.loop-before.invariant.below c.answer_next.ensures.ends c.in-None.is;
  told = told_next (ItemDoes by_edition) _ _ _ _ _ _ _ _ _ c.loop-before.before c.loop-before.invariant.told c.in-None.ensures.step;
  reads = omega (arith, c.loop-before.invariant.reads, c.answer_next.ensures.reads);
  counts = omega (arith, c.loop-before.invariant.counts, c.answer_next.ensures.counts);
  ways = way_behind _ _ _ _ c.loop-before.invariant.ways c.answer_next.ensures.ways;
  writes = omega (arith, c.loop-before.invariant.writes, c.answer_next.ensures.writes);
}

pub returns-in-Some-clause-ways : goal.returns-in-Some-clause-ways
returns-in-Some-clause-ways g c = way_behind _ _ _ _ c.loop-before.invariant.ways c.in-Some.ensures.ways
