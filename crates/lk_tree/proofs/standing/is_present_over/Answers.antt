use Rattle.std.proofs.Common.{false, true}
use Rattle.std.specs.List.{list_any}
use Rattle.lk_tree.specs.Standings.{presents_by}
use Rattle.lk_tree.proofs.RoundLaws.{found_from}
use Rattle.lk_tree.proofs.standing.is_present_over.Goals as goal

pub loop-j-preserved : goal.loop-j-preserved
loop-j-preserved c =
    let joins = c.args.joins.now in
    let test = presents_by c.args.x.now c.args.marks.now c.args.w in
    found_from test joins c.loop-j.j-index 0 c.in_ok-presents_by.field-0 false (list_any test joins) c.loop-j-test.true c.in_ok-presents_by.ensures c.if-branch.false c.loop-j.invariant

pub returns-then-branch : goal.returns-then-branch
returns-then-branch c =
    let joins = c.args.joins.now in
    let test = presents_by c.args.x.now c.args.marks.now c.args.w in
    found_from test joins c.loop-j.j-index 0 c.in_ok-presents_by.field-0 true (list_any test joins) c.loop-j-test.true c.in_ok-presents_by.ensures c.if-branch.true c.loop-j.invariant
