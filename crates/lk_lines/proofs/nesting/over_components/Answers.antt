use Rattle.std.proofs.Common.{◌≡◌, ◌-◌, ◌+◌, ◌∙◌, ap, sym}
use Rattle.lk_types.specs.Calculation.{Calculation}
use Rattle.lk_lines.specs.Nesting.{put_in, put_in_times}
use Rattle.lk_lines.proofs.NestingLaws.{put_in-same, times_same, times_step}
use Rattle.lk_lines.proofs.nesting.over_components.Goals as goal

pub returns-then-not-has_number : goal.returns-then-not-has_number
returns-then-not-has_number c =
    let x = c.args.x.now in
    let same : put_in x c.loop.over ≡ c.loop.over =
    ap (put_in x) (sym c.nodes.ensures.value) ∙ put_in-same x c.nodes.result.now (sym c.has_number.ensures ∙ c.if-not-has_number.true) ∙ c.nodes.ensures.value in
    sym (times_same x (c.args.most - c.loop.counter) c.loop.over same) ∙ c.loop.invariant

pub loop-preserved : goal.loop-preserved
loop-preserved c =
    let x = c.args.x.now in
    ap (λ (e : Calculation). put_in_times x (c.args.most - (c.loop.counter + 1)) e) c.in_ok-over-2.ensures
    ∙ times_step x c.args.most c.loop.counter c.loop.over c.loop-test.true ∙ c.loop.invariant
