use Rattle.lk_placed_laws.proofs.RollupLaws.{fitting_are}
use Rattle.lk_placed_laws.proofs.laws.fitting_queries_depend_on_no_moment.Goals as goal

pub returns : goal.returns
returns c = λ m now s b n is fit. fitting_are m is now s b n fit
