use Rattle.std.proofs.Common.{◌≡◌, ◌∙◌, ap, true, int_lt, Some, ℤ, pos, ◌<ℤ◌, FitsSigned, rules, arith}
use Rattle.std.specs.Int.{w128}
use Rattle.std.proofs.lemmas.Int.{ints}
use Rattle.lk_val.specs.Fractions.{frac_div}
use Rattle.lk_val.proofs.FractionSteps.{passed, handed, handed-is, turned-none_above, turned-none_below, turned-done, positive-turned, quotient-done}
use Rattle.lk_val.proofs.frac.Frac.div.Goals as goal

below_zero : (z : ℤ) → int_lt (passed z) (pos 0) ≡ true → FitsSigned w128 z → z <ℤ pos 0
below_zero z e f = omega (arith, ints)

pub returns-in_err-negated : goal.returns-in_err-negated
returns-in_err-negated c =
    let a = c.self.inside in
    let b = c.other.inside in
    let first : handed a.n a.d ≡ c.args.self = handed-is a.n a.d c.args.self (search rules) (search rules) c.self.view_is in
    let second : handed b.n b.d ≡ c.args.other = handed-is b.n b.d c.args.other (search rules) (search rules) c.other.view_is in
    c.from_residual-in_err-negated.ensures
    ∙ turned-none_above (passed a.n) (passed a.d) (passed b.n) (passed b.d) c.in_ok-above.above c.in_ok-below.below c.in_ok-above.ensures c.in_ok-below.ensures (below_zero c.in_ok-below.below c.if-below-lt0.true (search rules)) c.in_err-negated.ensures
    ∙ (λ i. frac_div (first i) (second i))

pub returns-in_err-negated-2 : goal.returns-in_err-negated-2
returns-in_err-negated-2 c =
    let a = c.self.inside in
    let b = c.other.inside in
    let first : handed a.n a.d ≡ c.args.self = handed-is a.n a.d c.args.self (search rules) (search rules) c.self.view_is in
    let second : handed b.n b.d ≡ c.args.other = handed-is b.n b.d c.args.other (search rules) (search rules) c.other.view_is in
    c.from_residual-in_err-negated-2.ensures
    ∙ turned-none_below (passed a.n) (passed a.d) (passed b.n) (passed b.d) c.in_ok-above.above c.in_ok-below.below c.in_ok-above.ensures c.in_ok-below.ensures (below_zero c.in_ok-below.below c.if-below-lt0.true (search rules)) c.in_err-negated-2.ensures
    ∙ (λ i. frac_div (first i) (second i))

pub new-requires : goal.new-requires
new-requires c =
    let a = c.self.inside in
    let b = c.other.inside in
    positive-turned (passed a.n) (passed a.d) (passed b.n) (passed b.d) c.in_ok-below.below c.in_ok-negated-2.field-0 c.in_ok-below.ensures (below_zero c.in_ok-below.below c.if-below-lt0.true (search rules)) c.in_ok-negated-2.ensures

pub returns-then-below-lt0 : goal.returns-then-below-lt0
returns-then-below-lt0 c =
    let a = c.self.inside in
    let b = c.other.inside in
    let first : handed a.n a.d ≡ c.args.self = handed-is a.n a.d c.args.self (search rules) (search rules) c.self.view_is in
    let second : handed b.n b.d ≡ c.args.other = handed-is b.n b.d c.args.other (search rules) (search rules) c.other.view_is in
    ap Some c.new.ensures
    ∙ turned-done (passed a.n) (passed a.d) (passed b.n) (passed b.d) c.in_ok-above.above c.in_ok-below.below c.in_ok-negated.field-0 c.in_ok-negated-2.field-0 c.in_ok-above.ensures c.in_ok-below.ensures (below_zero c.in_ok-below.below c.if-below-lt0.true (search rules)) c.in_ok-negated.ensures c.in_ok-negated-2.ensures
    ∙ (λ i. frac_div (first i) (second i))

pub returns : goal.returns
returns c =
    let a = c.self.inside in
    let b = c.other.inside in
    let first : handed a.n a.d ≡ c.args.self = handed-is a.n a.d c.args.self (search rules) (search rules) c.self.view_is in
    let second : handed b.n b.d ≡ c.args.other = handed-is b.n b.d c.args.other (search rules) (search rules) c.other.view_is in
    let positive : pos 0 <ℤ c.in_ok-below.below = omega (arith, ints) in
    ap Some c.new-2.ensures
    ∙ quotient-done (passed a.n) (passed a.d) (passed b.n) (passed b.d) c.in_ok-above.above c.in_ok-below.below c.in_ok-above.ensures c.in_ok-below.ensures positive
    ∙ (λ i. frac_div (first i) (second i))
