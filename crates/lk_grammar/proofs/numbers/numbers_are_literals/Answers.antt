use Rattle.lk_grammar.proofs.NumberLaws.{unsigned_reader, number_reader}
use Rattle.lk_grammar.proofs.numbers.numbers_are_literals.Goals as goal

pub returns-clause-signed : goal.returns-clause-signed
returns-clause-signed c = number_reader

pub returns-clause-unsigned : goal.returns-clause-unsigned
returns-clause-unsigned c = unsigned_reader
