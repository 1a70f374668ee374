use Rattle.std.proofs.Common.{◌≡◌, ◌∙◌, ◌+◌, ◌*◌, ◌/◌, ◌%◌, ap, unsigned_abs, int_lt, pos}
use Rattle.std.specs.Int.{w128}
use Rattle.std.proofs.lemmas.Int.{to_z-of_z}
use Rattle.lk_val.specs.Rounding.{number_of, signed}
use Rattle.lk_val.proofs.FractionSteps.{passed}
use Rattle.lk_val.proofs.RoundingSteps.{rounded-over}
use Rattle.lk_val.proofs.rounding.round_over.Goals as goal

pub returns : goal.returns
returns c =
    let n : passed c.args.n ≡ c.args.n = to_z-of_z w128 c.args.n c.ranges.n in
    let size : c.unsigned_abs-size.result ≡ unsigned_abs c.args.n = c.unsigned_abs-size.ensures.value ∙ ap unsigned_abs n in
    let by : c.unsigned_abs-by.result ≡ unsigned_abs c.args.d = c.unsigned_abs-by.ensures.value ∙ ap unsigned_abs (to_z-of_z w128 c.args.d c.ranges.d) in
    c.number.ensures
    ∙ ap (λ up. number_of (signed (int_lt (passed c.args.n) (pos 0)) (c.unsigned_abs-size.result / c.unsigned_abs-by.result + up))) c.half_up.ensures.value
    ∙ (λ i. number_of (signed (int_lt (n i) (pos 0)) (size i / by i + (2 * (size i % by i) + by i) / (2 * by i))))
    ∙ ap number_of (rounded-over c.args.n c.args.d c.requires)
