use Rattle.std.proofs.Common.{◌∙◌, sym, subst, pos, ◌<ℤ◌, ℤ}
use Rattle.lk_lines.proofs.OrderLaws.{fractions-lowest}
use Rattle.lk_lines.proofs.order.by_lowest_terms.Goals as goal

pub returns : goal.returns
returns c =
    c.cmp.ensures
    ∙ sym (fractions-lowest c.args.a c.args.b
    (subst (λ (d : ℤ). pos 0 <ℤ d) c.denominator-first.ensures.value c.denominator-first.ensures.positive)
    (subst (λ (d : ℤ). pos 0 <ℤ d) c.denominator-second.ensures.value c.denominator-second.ensures.positive))
