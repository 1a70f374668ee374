use Rattle.std.proofs.Common.{◌∙◌, ap, pos, ℤ, rules}
use Rattle.lk_val.specs.Fractions.{reduced}
use Rattle.lk_lines.proofs.ValueLaws.{count-made}
use Rattle.lk_lines.proofs.calculating.frac_of_count.Goals as goal

pub returns : goal.returns
returns c = c.whole_frac.ensures ∙ ap (λ (n : ℤ). reduced n (pos 1)) (search rules) ∙ count-made c.args.count
