use Rattle.lk_model_laws.proofs.ModelLaws.{are_numbered}
use Rattle.lk_model_laws.proofs.laws.numbers_are_of_something.Goals as goal

pub returns : goal.returns
returns c = λ text schema merged model read h. are_numbered schema merged model h text read
