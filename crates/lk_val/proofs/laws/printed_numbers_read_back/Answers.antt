use Rattle.lk_val.proofs.PrintLaws.{printed-reads, printed-shortest}
use Rattle.lk_val.proofs.laws.printed_numbers_read_back.Goals as goal

pub returns-clause-same : goal.returns-clause-same
returns-clause-same c = printed-reads

pub returns-clause-shortest : goal.returns-clause-shortest
returns-clause-shortest c = printed-shortest
