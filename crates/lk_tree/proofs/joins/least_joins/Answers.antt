use Rattle.std.proofs.Common.{◌≡◌, ◌-◌, ◌∙◌, ap, sym, length, arith}
use Rattle.std.specs.Prelude.{nat_eq}
use Rattle.lk_val.specs.Least.{grown, grown_times}
use Rattle.lk_semantics.specs.Joins.{is_asked, numbers_below}
use Rattle.lk_tree.proofs.RoundLaws.{numbers_count, rounds_end}
use Rattle.lk_tree.proofs.joins.least_joins.Goals as goal

pub returns-then-are_same : goal.returns-then-are_same
returns-then-are_same c = λ parts is.
    let x = c.args.x.now in
    let all = numbers_below (length x.joins) in
    let rule = is_asked x parts in
    let k = c.loop-round._round in
    let so_far : c.loop-round.joins ≡ grown_times nat_eq all rule k = c.loop-round.invariant parts is in
    let more : c.in_ok-more.more ≡ grown nat_eq all rule c.loop-round.joins = c.in_ok-more.ensures parts is ∙ ap (grown nat_eq all rule) c.as_slice.ensures in
    let same : c.in_ok-more.more ≡ c.loop-round.joins = sym c.as_slice-in-loop-round.ensures ∙ c.are_same.ensures c.if-are_same.true ∙ c.as_slice-in-loop-round-2.ensures in
    let kept : grown nat_eq all rule (grown_times nat_eq all rule k) ≡ grown_times nat_eq all rule k = sym (ap (grown nat_eq all rule) so_far) ∙ sym more ∙ same ∙ so_far in
    so_far ∙ sym (rounds_end all rule k kept (length all - k) (length all) (omega (arith, c.loop-round-test.true, c.len-round-end.ensures, numbers_count (length x.joins))))

pub returns : goal.returns
returns c = λ parts is.
    let x = c.args.x.now in
    let all = numbers_below (length x.joins) in
    let rounds : c.loop-round._round ≡ length all = omega (arith, c.loop-round-test.false, c.len-round-end.ensures, numbers_count (length x.joins)) in
    c.loop-round.invariant parts is ∙ ap (grown_times nat_eq all (is_asked x parts)) rounds
