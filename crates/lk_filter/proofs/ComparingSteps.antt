-- A fraction compares with a number's fraction in lowest terms as with the number's count of 1/10,000.
use Rattle.std.proofs.Common.{◌≡◌, ℤ, pos, ◌<ℤ◌, sym, ap, ◌∙◌, arith}
use Rattle.std.proofs.lemmas.Int.{ints}
use Rattle.std.specs.Ordering.{ordering_reverse}
use Rattle.lk_val.specs.Fractions.{Fraction, reduced, frac_cmp}
use Rattle.lk_val.proofs.FractionSteps.{reduced-is}
use Rattle.lk_val.proofs.FractionLaws.{IsSame, reduced-value, cmp-same, cmp-turned}

pub cmp-reduced : (x : Fraction) (n : ℤ) → frac_cmp x (reduced n (pos 10000)) ≡ frac_cmp x (record { n = n; d = pos 10000 })
cmp-reduced x n =
    let number : Fraction = record { n = n; d = pos 10000 } in
    let above : pos 0 <ℤ pos 10000 = omega (arith, ints) in
    let lowest : IsSame (reduced n (pos 10000)) number = record { cross = reduced-value n (pos 10000) } in
    cmp-turned (reduced n (pos 10000)) x
    ∙ ap ordering_reverse (cmp-same (reduced n (pos 10000)) number x (reduced-is n (pos 10000) above).positive above lowest)
    ∙ sym (cmp-turned number x)
