use Rattle.lk_val.proofs.GcdLaws.{gcd-is}
use Rattle.lk_val.proofs.laws.gcd_is_greatest.Goals as goal

pub returns : goal.returns
returns c = gcd-is
