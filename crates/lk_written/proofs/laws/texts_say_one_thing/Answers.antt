use Rattle.lk_written.proofs.OneCode.{one_code}
use Rattle.lk_written.proofs.OneFilter.{one_list}
use Rattle.lk_written.proofs.laws.texts_say_one_thing.Goals as goal

pub returns-clause-codes : goal.returns-clause-codes
returns-clause-codes c = one_code

pub returns-clause-filters : goal.returns-clause-filters
returns-clause-filters c = one_list
