use Rattle.lk_val.proofs.SetLaws.{has-set_of}
use Rattle.lk_val.proofs.sets.set_has_its_list.Goals as goal

pub returns : goal.returns
returns g c exact xs x = has-set_of (record { total = g.met.T.Ord.total; exact = exact }) x xs
