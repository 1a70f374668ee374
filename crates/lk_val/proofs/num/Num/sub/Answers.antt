use Rattle.std.proofs.Common.{◌-ℤ◌, FitsSigned, w64, rules}
use Rattle.std.proofs.lemmas.Int.{to_z-of_z}
use Rattle.lk_val.proofs.RoundingSteps.{number-passed}
use Rattle.lk_val.proofs.num.Num.sub.Goals as goal

pub returns : goal.returns
returns c =
    let a : FitsSigned w64 c.args.self.0 = search rules in
    let b : FitsSigned w64 c.args.other.0 = search rules in
    number-passed (c.args.self.0 -ℤ c.args.other.0) _ c.in_ok-checked_sub.field-0 (λ i. to_z-of_z w64 c.args.self.0 a i -ℤ to_z-of_z w64 c.args.other.0 b i) c.in_ok-checked_sub.ensures
