use Rattle.std.proofs.Common.{◌≡◌, ◌≤◌, sym, subst, ap, ◌∙◌, unsigned_abs}
use Rattle.std.specs.Int.{w128}
use Rattle.std.proofs.lemmas.Int.{to_z-of_z}
use Rattle.lk_val.specs.Fractions.{IsReduced, gcd}
use Rattle.lk_val.proofs.FractionSteps.{reduced-is, reduced-made}
use Rattle.lk_val.proofs.frac.Frac.new.Goals as goal

sizes_first : (c : goal.After-gcd-divisor) → c.unsigned_abs.result ≡ unsigned_abs c.args.n
sizes_first c = c.unsigned_abs.ensures.value ∙ ap unsigned_abs (to_z-of_z w128 c.args.n c.ranges.n)

sizes_second : (c : goal.After-gcd-divisor) → c.unsigned_abs-2.result ≡ unsigned_abs c.args.d
sizes_second c = c.unsigned_abs-2.ensures.value ∙ ap unsigned_abs (to_z-of_z w128 c.args.d c.ranges.d)

divisor : (c : goal.After-gcd-divisor) → c.gcd-divisor.result ≡ gcd (unsigned_abs c.args.n) (unsigned_abs c.args.d)
divisor c = c.gcd-divisor.ensures.value ∙ (λ i. gcd (sizes_first c i) (sizes_second c i))

small : (c : goal.After-gcd-divisor) → c.gcd-divisor.result ≤ unsigned_abs c.args.d
small c = subst (λ b. c.gcd-divisor.result ≤ b) (sizes_second c) c.gcd-divisor.ensures.small

pub invariant_of-result : goal.invariant_of-result
invariant_of-result c =
    let made = reduced-made c.args.n c.args.d c.gcd-divisor.result c.ranges.n c.ranges.d c.requires (divisor c) c.gcd-divisor.ensures.positive (small c) in
    subst IsReduced (sym made) (reduced-is c.args.n c.args.d c.requires)

pub returns : goal.returns
returns c = reduced-made c.args.n c.args.d c.gcd-divisor.result c.ranges.n c.ranges.d c.requires (divisor c) c.gcd-divisor.ensures.positive (small c)
