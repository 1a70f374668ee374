use Rattle.lk_model_laws.proofs.ResolvedModelLaws.{is_resolved_model}
use Rattle.lk_model_laws.proofs.laws.models_are_resolved.Goals as goal

pub returns : goal.returns
returns c = λ text schema merged model read h spelled. is_resolved_model text schema merged model read h spelled
