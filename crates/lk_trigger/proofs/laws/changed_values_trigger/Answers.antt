use Rattle.lk_trigger.specs.Builds.{watched}
use Rattle.lk_trigger.proofs.TriggerLaws.{same_exactly}
use Rattle.lk_trigger.proofs.laws.changed_values_trigger.Goals as goal

pub returns : goal.returns
returns c = λ tables now build name trigger. same_exactly build.value (watched tables now trigger)
