use Rattle.std.proofs.Common.{◌≡◌, ◌+◌, ◌-◌, ◌∙◌, ap, sym, length, arith, true}
use Rattle.lk_tree.specs.Standings.{are_same, marks_times, next_marks}
use Rattle.lk_tree.proofs.StandingLaws.{marks_end, same_standings}
use Rattle.lk_tree.proofs.standing.last_marks.Goals as goal

pub returns-then-are_same : goal.returns-then-are_same
returns-then-are_same c =
    let x = c.args.x.now in
    let joins = c.args.joins.now in
    let v = c.args.v in
    let k = c.loop-round._round in
    let marks = c.loop-round.marks in
    let all = length x.parts + length x.parts in
    let so_far : marks ≡ marks_times x joins v k = c.loop-round.invariant in
    let same : c.in_ok-more.more ≡ marks = same_standings c.in_ok-more.more marks (sym c.are_same.ensures ∙ c.if-are_same.true) in
    let kept : next_marks x joins v (marks_times x joins v k) ≡ marks_times x joins v k = ap (next_marks x joins v) (sym so_far) ∙ sym c.in_ok-more.ensures ∙ same ∙ so_far in
    so_far ∙ sym (marks_end x joins v k kept (all - k) all (omega (arith, c.loop-round-test.true, c.len.ensures, c.len-2.ensures)))
