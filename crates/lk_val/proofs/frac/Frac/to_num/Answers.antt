use Rattle.std.proofs.Common.{◌≡◌, ◌∙◌, ◌+◌, ◌*◌, ◌/◌, ◌%◌, ◌^◌, ◌<◌, ◌≤◌, ◌<ℤ◌, sym, subst, ap, unsigned_abs, int_lt, pos, FitsSigned, rules, arith}
use Rattle.std.specs.Int.{w128}
use Rattle.std.proofs.lemmas.Int.{to_z-of_z}
use Rattle.lk_val.specs.Rounding.{number_of, signed}
use Rattle.lk_val.proofs.FractionSteps.{passed}
use Rattle.lk_val.proofs.RoundingSteps.{rounded-places, rounded-large}
use Rattle.lk_val.proofs.frac.Frac.to_num.Goals as goal

pub returns-then-whole-from : goal.returns-then-whole-from
returns-then-whole-from c =
    let f : FitsSigned w128 c.numerator.result = search rules in
    let g : FitsSigned w128 c.denominator.result = search rules in
    let size : c.unsigned_abs-size.result ≡ unsigned_abs c.args.self.n = c.unsigned_abs-size.ensures.value ∙ ap unsigned_abs (to_z-of_z w128 c.numerator.result f ∙ c.numerator.ensures) in
    let by : c.unsigned_abs-by.result ≡ unsigned_abs c.args.self.d = c.unsigned_abs-by.ensures.value ∙ ap unsigned_abs (to_z-of_z w128 c.denominator.result g ∙ c.denominator.ensures.value) in
    let large : 2 ^ 64 ≤ c.unsigned_abs-size.result / c.unsigned_abs-by.result = omega arith in
    rounded-large c.args.self.n c.args.self.d (subst (λ z. pos 0 <ℤ z) c.denominator.ensures.value c.denominator.ensures.positive) (subst (λ q. 2 ^ 64 ≤ q) (λ i. size i / by i) large)

pub returns : goal.returns
returns c =
    let f : FitsSigned w128 c.numerator.result = search rules in
    let g : FitsSigned w128 c.denominator.result = search rules in
    let h : FitsSigned w128 c.numerator-2.result = search rules in
    let size : c.unsigned_abs-size.result ≡ unsigned_abs c.args.self.n = c.unsigned_abs-size.ensures.value ∙ ap unsigned_abs (to_z-of_z w128 c.numerator.result f ∙ c.numerator.ensures) in
    let by : c.unsigned_abs-by.result ≡ unsigned_abs c.args.self.d = c.unsigned_abs-by.ensures.value ∙ ap unsigned_abs (to_z-of_z w128 c.denominator.result g ∙ c.denominator.ensures.value) in
    let n : passed c.numerator-2.result ≡ c.args.self.n = to_z-of_z w128 c.numerator-2.result h ∙ c.numerator-2.ensures in
    let places = c.times_over-places.result in
    c.number.ensures
    ∙ (λ i. number_of (signed (int_lt (n i) (pos 0)) (size i / by i * 10000 + places.times + c.half_up.ensures.value i)))
    ∙ ap (λ b. number_of (signed (int_lt c.args.self.n (pos 0)) (unsigned_abs c.args.self.n / unsigned_abs c.args.self.d * 10000 + places.times + (2 * places.rest + b) / (2 * b)))) by
    ∙ ap number_of (rounded-places c.args.self.n c.args.self.d places.times places.rest
    (subst (λ z. pos 0 <ℤ z) c.denominator.ensures.value c.denominator.ensures.positive)
    ((λ i. places.times * sym by i + places.rest) ∙ c.times_over-places.ensures.whole ∙ (λ i. 10000 * (size i % by i)))
    (subst (λ b. places.rest < b) by c.times_over-places.ensures.rest))
