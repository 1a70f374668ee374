use Rattle.std.proofs.Common.{List, drop}
use Rattle.std.specs.Prelude.{Result}
use Rattle.lk_body.specs.declared.fault.QueryFault.{QueryFault}
use Rattle.lk_query.specs.Refusals.{in_front}
use Rattle.lk_query.specs.Readings.{AreRead, PickFilter}
use Rattle.lk_query.proofs.readings.read_texts.Given as goal

abbrev pub invariant-loop-text : goal.invariant-loop-text
invariant-loop-text l = (rest : Result (List PickFilter) QueryFault) → AreRead (drop l.text-index l.texts) rest → AreRead l.texts (in_front l.filters rest)
