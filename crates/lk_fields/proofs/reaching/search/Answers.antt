use Rattle.lk_fields.proofs.ReachingLaws.{search_begins, search_ends, search_goes_on}
use Rattle.lk_fields.proofs.reaching.search.Goals as goal

pub loop-next-init : goal.loop-next-init
loop-next-init c =
    search_begins c.args.rows.now c.args.begun.now c.args.marks.now c.args.found.now c.visit_all.new.marks c.visit_all.new.found c.requires.marks c.requires.found
    c.in_ok-visit_all.ensures

pub loop-next-preserved : goal.loop-next-preserved
loop-next-preserved c =
    search_goes_on c.args.rows.now c.args.begun.now c.loop-next.next c.loop-next.marks c.loop-next.found c.visit_next.new.marks c.visit_next.new.found
    c.loop-next.invariant c.in_ok-visit_next.ensures

pub returns : goal.returns
returns c =
    search_ends c.args.rows.now c.args.begun.now c.loop-next.next c.loop-next.marks c.loop-next.found c.loop-next-test.false c.loop-next.invariant
