use Rattle.std.proofs.Common.{◌∙◌, ap}
use Rattle.lk_val.specs.Fractions.{frac_cmp}
use Rattle.lk_filter.proofs.ComparingSteps.{cmp-reduced}
use Rattle.lk_filter.proofs.comparing.FracExact.cmp_num.Goals as goal

pub returns : goal.returns
returns c =
    c.cmp.ensures
    ∙ ap (frac_cmp c.args.self.now) c.fraction_of.ensures
    ∙ cmp-reduced c.args.self.now c.args.num.0
