use Rattle.lk_val.proofs.DecimalLaws.{decimal-reads, other-reads}
use Rattle.lk_val.proofs.laws.numbers_read_as_written.Goals as goal

pub returns-clause-decimal : goal.returns-clause-decimal
returns-clause-decimal c = decimal-reads

pub returns-clause-other : goal.returns-clause-other
returns-clause-other c = other-reads
