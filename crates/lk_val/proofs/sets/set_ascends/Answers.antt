use Rattle.lk_val.proofs.SetLaws.{IsStrictlySortedBy-set_of}
use Rattle.lk_val.proofs.sets.set_ascends.Goals as goal

pub returns : goal.returns
returns g c exact xs = IsStrictlySortedBy-set_of (record { total = g.met.T.Ord.total; exact = exact }) xs
