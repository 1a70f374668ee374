use Rattle.std.proofs.Common.{get_or, take, subst, sym}
use Rattle.std.proofs.lemmas.List.{take_more}
use Rattle.lk_fields.specs.Reaching.{IsVisit}
use Rattle.lk_fields.proofs.ReachingLaws.{visit_more}
use Rattle.lk_fields.proofs.reaching.visit_all.Goals as goal

pub loop-number-preserved : goal.loop-number-preserved
loop-number-preserved c =
    let names = c.args.names.now in
    let i = c.loop-number.number-index in
    subst (λ ns. IsVisit ns c.args.marks.now c.args.found.now c.visit.new.marks c.visit.new.found) (sym (take_more names i 0 c.loop-number-test.true))
    (visit_more (take i names) (get_or names i 0) c.args.marks.now c.args.found.now c.loop-number.marks c.loop-number.found c.visit.new.marks c.visit.new.found
    c.loop-number.invariant c.in_ok-visit.ensures)
