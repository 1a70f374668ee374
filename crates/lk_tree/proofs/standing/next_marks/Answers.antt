use Rattle.lk_tree.specs.Standings.{is_determined_next, is_present_next}
use Rattle.lk_tree.proofs.RoundLaws.{made_more}
use Rattle.lk_tree.proofs.standing.next_marks.Goals as goal

pub loop-w-preserved : goal.loop-w-preserved
loop-w-preserved c =
    made_more (is_determined_next c.args.x.now c.args.joins.now c.args.v c.args.marks.now) c.loop-w.determined c.push.new.self c.loop-w.w c.in_ok-is_determined_next.field-0
    c.loop-w.invariant c.in_ok-is_determined_next.ensures c.in_ok-push.ensures.ok

pub loop-w-2-preserved : goal.loop-w-2-preserved
loop-w-2-preserved c =
    made_more (is_present_next c.args.x.now c.args.joins.now c.args.v c.args.marks.now) c.loop-w-2.present c.push-in-loop-w-2.new.self c.loop-w-2.w c.in_ok-is_present_next.field-0
    c.loop-w-2.invariant c.in_ok-is_present_next.ensures c.in_ok-push-2.ensures.ok
