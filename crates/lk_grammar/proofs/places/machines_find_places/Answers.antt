use Rattle.lk_grammar.proofs.PlaceLaws.{place}
use Rattle.lk_grammar.proofs.places.machines_find_places.Goals as goal

pub returns : goal.returns
returns g c state text viable = place g.M.Machine.follows text state viable
