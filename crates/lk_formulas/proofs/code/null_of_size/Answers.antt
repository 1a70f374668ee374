use Rattle.std.proofs.Common.{◌∙◌, false}
use Rattle.lk_formulas.proofs.ToldLaws.{null_told}
use Rattle.lk_formulas.proofs.code.null_of_size.Goals as goal

pub returns : goal.returns
returns c = λ columns e is.
    let kept = c.in_ok-kept_null.ensures ∙ null_told e c.args.size is in
    λ i. record { size = is i; kinds = c.every.ensures i; is_certain = false; expr = kept i }
