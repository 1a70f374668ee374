use Rattle.lk_trigger.proofs.TriggerLaws.{rests}
use Rattle.lk_trigger.proofs.laws.built_datagroups_rest.Goals as goal

pub returns : goal.returns
returns c = rests
