use Rattle.std.proofs.Common.{◌≡◌, ◌∙◌, ap, Some, rules}
use Rattle.lk_val.specs.Fractions.{frac_add}
use Rattle.lk_val.proofs.FractionSteps.{passed, handed, handed-is, positive-passed, sum-done, sum-none, positive-below}
use Rattle.lk_val.proofs.frac.Frac.add.Goals as goal

pub returns-in_err-sum : goal.returns-in_err-sum
returns-in_err-sum c =
    let a = c.self.inside in
    let b = c.other.inside in
    let first : handed a.n a.d ≡ c.args.self = handed-is a.n a.d c.args.self (search rules) (search rules) c.self.view_is in
    let second : handed b.n b.d ≡ c.args.other = handed-is b.n b.d c.args.other (search rules) (search rules) c.other.view_is in
    c.from_residual-in_err-sum.ensures
    ∙ sum-none (passed a.n) (passed a.d) (passed b.n) (passed b.d) c.in_ok-left.left c.in_ok-right.right c.in_ok-left.ensures c.in_ok-right.ensures c.in_err-sum.ensures
    ∙ (λ i. frac_add (first i) (second i))

pub new-requires : goal.new-requires
new-requires c =
    let a = c.self.inside in
    let b = c.other.inside in
    positive-below (passed a.n) (passed a.d) (passed b.n) (passed b.d) c.in_ok-below.below c.in_ok-below.ensures
    (positive-passed a.d (search rules) c.self.invariant.positive) (positive-passed b.d (search rules) c.other.invariant.positive)

pub returns : goal.returns
returns c =
    let a = c.self.inside in
    let b = c.other.inside in
    let first : handed a.n a.d ≡ c.args.self = handed-is a.n a.d c.args.self (search rules) (search rules) c.self.view_is in
    let second : handed b.n b.d ≡ c.args.other = handed-is b.n b.d c.args.other (search rules) (search rules) c.other.view_is in
    ap Some c.new.ensures
    ∙ sum-done (passed a.n) (passed a.d) (passed b.n) (passed b.d) c.in_ok-left.left c.in_ok-right.right c.in_ok-sum.field-0 c.in_ok-below.below
    c.in_ok-left.ensures c.in_ok-right.ensures c.in_ok-below.ensures c.in_ok-sum.ensures
    (positive-passed a.d (search rules) c.self.invariant.positive) (positive-passed b.d (search rules) c.other.invariant.positive)
    ∙ (λ i. frac_add (first i) (second i))
